-- The nearest of some levels past a level; what is kept of a list; both headings.
use mathlib.Core.Path.{◌≡◌, refl, ap, sym}
use mathlib.Core.Logic.{◌≢◌}
use mathlib.Core.List.{List, [], ◌∷◌, ◌++◌}
use mathlib.Core.Bool.{Bool, true, false}
use Prim.Native.Nat.{ℕ, suc, ◌+◌, ◌-◌, min, max, ◌≤◌, ◌<◌}
use native.Mathlib.Nat.{le_refl}
use native.Mathlib.Decide.{dec_le, ℕ_discrete}
use native.Mathlib.Omega.{arith}
use lib.ListN.{length}
use borrow.Author.Tests.{lt-ltb, le-ltb}
use Rattle.level.specs.Choice.{pick}
use Rattle.level.specs.Lists.{those}
use Rattle.course.specs.declared.Heading.{Heading}
use Rattle.course.specs.declared.Heading.TheVariants.{Rising, Falling}
use Rattle.course.specs.Course.{toward, gap, nearest}
use Rattle.course.specs.Headings.{Past, Short, past}

pub past_yes : (h : Heading) (v w : ℕ) → Past h v w → past h v w ≡ true
past_yes Rising v w p = lt-ltb v w p
past_yes Falling v w p = lt-ltb w v p

pub past_no : (h : Heading) (v w : ℕ) → Short h v w → past h v w ≡ false
past_no Rising v w p = le-ltb v w p
past_no Falling v w p = le-ltb w v p

pub past_short : (h : Heading) (v w : ℕ) → Past h v w → Short h w v
past_short Rising v w p = omega arith
past_short Falling v w p = omega arith

pub short_refl : (h : Heading) (v : ℕ) → Short h v v
short_refl Rising v = le_refl v
short_refl Falling v = le_refl v

pub short_past : (h : Heading) (t v : ℕ) → Short h t v → v ≢ t → Past h v t
short_past Rising t v p q = elim (dec_le t v) [ yes r ↦ absurd (q (omega arith)) | no r ↦ omega arith ]
short_past Falling t v p q = elim (dec_le v t) [ yes r ↦ absurd (q (omega arith)) | no r ↦ omega arith ]

pub past_on : (h : Heading) (v w t : ℕ) → Past h v w → Short h t w → Past h v t
past_on Rising v w t p q = omega arith
past_on Falling v w t p q = omega arith

-- on the way from v to w
module _ (v w : ℕ) where
  pub gap_some : (h : Heading) → Past h v w → 1 ≤ gap v w
  unfolding gap
  gap_some Rising p = omega arith
  gap_some Falling p = omega arith

  pub gap_to : (h : Heading) → Past h v w → toward h v (gap v w) ≡ w
  unfolding gap toward
  gap_to Rising p = omega arith
  gap_to Falling p = omega arith

  pub gap_left : (h : Heading) (m : ℕ) → Past h v w → m < gap v w →
      Past h (toward h v m) w × Short h (toward h v m) v × (gap (toward h v m) w ≡ gap v w - m)
  unfolding gap toward
  gap_left Rising m p q = omega arith
  gap_left Falling m p q = omega arith

  pub gap_add : (h : Heading) (t : ℕ) → Past h v w → Short h t w → gap v w + gap w t ≡ gap v t
  unfolding gap
  gap_add Rising t p q = omega arith
  gap_add Falling t p q = omega arith

pub toward_add : (h : Heading) (v a b : ℕ) → toward h (toward h v a) b ≡ toward h v (a + b)
unfolding toward
toward_add Rising v a b = omega arith
toward_add Falling v a b = omega arith

pub toward_zero : (h : Heading) (v : ℕ) → toward h v 0 ≡ v
unfolding toward
toward_zero Rising v = omega arith
toward_zero Falling v = omega arith

pub gap_toward : (h : Heading) (v m : ℕ) → gap v (toward h v m) ≤ m
unfolding gap toward
gap_toward Rising v m = omega arith
gap_toward Falling v m = omega arith

-- every level of a list
abbrev pub Every : (ℕ → Type 0) → List ℕ → Type 0
Every P [] = Unit {0}
Every P (v ∷ vs) = P v × Every P vs

pub every_left : (P : ℕ → Type 0) (vs ws : List ℕ) → Every P (vs ++ ws) → Every P vs
every_left P [] ws e = tt
every_left P (v ∷ vs) ws e = (e.0, every_left P vs ws e.1)

pub every_right : (P : ℕ → Type 0) (vs ws : List ℕ) → Every P (vs ++ ws) → Every P ws
every_right P [] ws e = e
every_right P (v ∷ vs) ws e = every_right P vs ws e.1

-- what holds of the kept ones, and of those that are not kept, holds of all
pub every_those : (P : ℕ → Type 0) (f : ℕ → Bool) → ((v : ℕ) → f v ≡ false → P v) → (vs : List ℕ) → Every P (those f vs) → Every P vs
unfolding those
every_those P f out [] e = tt
every_those P f out (v ∷ vs) e = go (f v) refl e (every_those P f out vs)
  where
    go : (b : Bool) → f v ≡ b → Every P (pick b (v ∷ those f vs) (those f vs)) → (Every P (those f vs) → Every P vs) → P v × Every P vs
    go true q e ih = (e.0, ih e.1)
    go false q e ih = (out v q, ih e)

pub those_same : (f g : ℕ → Bool) (vs : List ℕ) → Every (λ v. f v ≡ g v) vs → those f vs ≡ those g vs
unfolding those
those_same f g [] e = refl
those_same f g (v ∷ vs) e = rw (e.0, those_same f g vs e.1)

pub those_length : {A : Type 0} (f : A → Bool) (vs : List A) → length (those f vs) ≤ length vs
unfolding those
those_length f [] = le_refl 0
those_length f (v ∷ vs) = go (f v) (those_length f vs)
  where
    go : (b : Bool) → length (those f vs) ≤ length vs → length (pick b (v ∷ those f vs) (those f vs)) ≤ suc (length vs)
    go true ih = omega arith
    go false ih = omega arith

pub every_map : (P Q : ℕ → Type 0) → ((v : ℕ) → P v → Q v) → (vs : List ℕ) → Every P vs → Every Q vs
every_map P Q f [] e = tt
every_map P Q f (v ∷ vs) e = (f v e.0, every_map P Q f vs e.1)

-- the clauses of nearest
module _ (v t w : ℕ) (ws : List ℕ) where
  pub up_take : v < w → nearest Rising v t (w ∷ ws) ≡ min w (nearest Rising v t ws)
  unfolding nearest
  up_take p = simp (lt-ltb v w p)

  pub up_skip : w ≤ v → nearest Rising v t (w ∷ ws) ≡ nearest Rising v t ws
  unfolding nearest
  up_skip p = simp (le-ltb v w p)

  pub down_take : w < v → nearest Falling v t (w ∷ ws) ≡ max w (nearest Falling v t ws)
  unfolding nearest
  down_take p = simp (lt-ltb w v p)

  pub down_skip : v ≤ w → nearest Falling v t (w ∷ ws) ≡ nearest Falling v t ws
  unfolding nearest
  down_skip p = simp (le-ltb w v p)

-- it lies past v, and not past t
pub near_past : (h : Heading) (v t : ℕ) (ws : List ℕ) → Past h v t → Past h v (nearest h v t ws) × Short h t (nearest h v t ws)
unfolding nearest
near_past Rising v t [] p = (p, le_refl t)
near_past Rising v t (w ∷ ws) p =
    let ih = near_past Rising v t ws p in
    elim (dec_le (suc v) w) [ yes q ↦ omega (arith, up_take v t w ws q) | no q ↦ omega (arith, up_skip v t w ws (omega arith)) ]
near_past Falling v t [] p = (p, le_refl t)
near_past Falling v t (w ∷ ws) p =
    let ih = near_past Falling v t ws p in
    elim (dec_le (suc w) v) [ yes q ↦ omega (arith, down_take v t w ws q) | no q ↦ omega (arith, down_skip v t w ws (omega arith)) ]

-- from anywhere short of it, it is the same
pub near_same : (h : Heading) (v e t : ℕ) (ws : List ℕ) → Short h e v → Past h e (nearest h v t ws) → nearest h e t ws ≡ nearest h v t ws
unfolding nearest
near_same Rising v e t [] p q = refl
near_same Rising v e t (w ∷ ws) p q =
    elim (dec_le (suc v) w) [
      | yes y ↦ let u = up_take v t w ws y in omega (arith, up_take e t w ws (omega arith), near_same Rising v e t ws p (omega arith))
      | no n ↦ let u = up_skip v t w ws (omega arith) in omega (arith, up_skip e t w ws (omega arith), near_same Rising v e t ws p (omega arith))
    ]
near_same Falling v e t [] p q = refl
near_same Falling v e t (w ∷ ws) p q =
    elim (dec_le (suc w) v) [
      | yes y ↦ let u = down_take v t w ws y in omega (arith, down_take e t w ws (omega arith), near_same Falling v e t ws p (omega arith))
      | no n ↦ let u = down_skip v t w ws (omega arith) in omega (arith, down_skip e t w ws (omega arith), near_same Falling v e t ws p (omega arith))
    ]

-- none of the levels lies between
pub near_clear : (h : Heading) (v e t : ℕ) (ws : List ℕ) → Past h e (nearest h v t ws) → Every (λ w. Past h v w → Past h e w) ws
unfolding nearest
near_clear Rising v e t [] q = tt
near_clear Rising v e t (w ∷ ws) q =
    elim (dec_le (suc v) w) [
      | yes y ↦ let u = up_take v t w ws y in (λ p. omega arith, near_clear Rising v e t ws (omega arith))
      | no n ↦ let u = up_skip v t w ws (omega arith) in (λ p. omega arith, near_clear Rising v e t ws (omega arith))
    ]
near_clear Falling v e t [] q = tt
near_clear Falling v e t (w ∷ ws) q =
    elim (dec_le (suc w) v) [
      | yes y ↦ let u = down_take v t w ws y in (λ p. omega arith, near_clear Falling v e t ws (omega arith))
      | no n ↦ let u = down_skip v t w ws (omega arith) in (λ p. omega arith, near_clear Falling v e t ws (omega arith))
    ]

-- the number of levels past v
unfoldable pub ahead : Heading → ℕ → List ℕ → ℕ
ahead h v ws = length (those (past h v) ws)

pub ahead_yes : (h : Heading) (v w : ℕ) (ws : List ℕ) → Past h v w → ahead h v (w ∷ ws) ≡ suc (ahead h v ws)
unfolding ahead those
ahead_yes h v w ws p = rw (past_yes h v w p)

pub ahead_no : (h : Heading) (v w : ℕ) (ws : List ℕ) → Short h v w → ahead h v (w ∷ ws) ≡ ahead h v ws
unfolding ahead those
ahead_no h v w ws p = rw (past_no h v w p)

-- further on there are no more
pub ahead_le : (h : Heading) (v e : ℕ) (ws : List ℕ) → Short h e v → ahead h e ws ≤ ahead h v ws
unfolding ahead those
ahead_le h v e [] p = le_refl 0
ahead_le Rising v e (w ∷ ws) p =
    let ih = ahead_le Rising v e ws p in
    elim (dec_le (suc e) w) [
      | yes q ↦ omega (arith, ahead_yes Rising e w ws q, ahead_yes Rising v w ws (omega arith))
      | no q ↦ elim (dec_le (suc v) w) [
        | yes r ↦ omega (arith, ahead_no Rising e w ws (omega arith), ahead_yes Rising v w ws r)
        | no r ↦ omega (arith, ahead_no Rising e w ws (omega arith), ahead_no Rising v w ws (omega arith))
      ]
    ]
ahead_le Falling v e (w ∷ ws) p =
    let ih = ahead_le Falling v e ws p in
    elim (dec_le (suc w) e) [
      | yes q ↦ omega (arith, ahead_yes Falling e w ws q, ahead_yes Falling v w ws (omega arith))
      | no q ↦ elim (dec_le (suc w) v) [
        | yes r ↦ omega (arith, ahead_no Falling e w ws (omega arith), ahead_yes Falling v w ws r)
        | no r ↦ omega (arith, ahead_no Falling e w ws (omega arith), ahead_no Falling v w ws (omega arith))
      ]
    ]

-- from the nearest on there are fewer, unless it is t
pub near_fewer : (h : Heading) (v t : ℕ) (ws : List ℕ) (m : ℕ) → nearest h v t ws ≡ m → Past h v t → m ≢ t → ahead h m ws < ahead h v ws
unfolding nearest
near_fewer Rising v t [] m e p q = absurd (q (sym e))
near_fewer Rising v t (w ∷ ws) m e p q =
    let go = near_past Rising v t ws p in
    elim (dec_le (suc v) w) [
      | yes y ↦ let u = up_take v t w ws y in
          elim (dec_le w (nearest Rising v t ws)) [
            | yes z ↦ omega (arith, ahead_no Rising m w ws (omega arith), ahead_yes Rising v w ws y, ahead_le Rising v m ws (omega arith))
            | no z ↦ omega (arith, ahead_yes Rising m w ws (omega arith), ahead_yes Rising v w ws y, near_fewer Rising v t ws m (omega arith) p q)
          ]
      | no y ↦ let u = up_skip v t w ws (omega arith) in
          omega (arith, ahead_no Rising m w ws (omega arith), ahead_no Rising v w ws (omega arith), near_fewer Rising v t ws m (omega arith) p q)
    ]
near_fewer Falling v t [] m e p q = absurd (q (sym e))
near_fewer Falling v t (w ∷ ws) m e p q =
    let go = near_past Falling v t ws p in
    elim (dec_le (suc w) v) [
      | yes y ↦ let u = down_take v t w ws y in
          elim (dec_le (nearest Falling v t ws) w) [
            | yes z ↦ omega (arith, ahead_no Falling m w ws (omega arith), ahead_yes Falling v w ws y, ahead_le Falling v m ws (omega arith))
            | no z ↦ omega (arith, ahead_yes Falling m w ws (omega arith), ahead_yes Falling v w ws y, near_fewer Falling v t ws m (omega arith) p q)
          ]
      | no y ↦ let u = down_skip v t w ws (omega arith) in
          omega (arith, ahead_no Falling m w ws (omega arith), ahead_no Falling v w ws (omega arith), near_fewer Falling v t ws m (omega arith) p q)
    ]

pub near_fewer_all : (h : Heading) (v t : ℕ) (ws : List ℕ) (m : ℕ) → nearest h v t (t ∷ ws) ≡ m → Past h v t → ahead h m (t ∷ ws) < ahead h v (t ∷ ws)
near_fewer_all h v t ws m e p =
    elim (ℕ_discrete m t) [
      | yes q ↦ omega (
        arith,
        ap (λ x. ahead h x (t ∷ ws)) q,
        ahead_no h t t ws (short_refl h t),
        ahead_yes h v t ws p,
        ahead_le h v t ws (past_short h v t p),
      )
      | no q ↦ near_fewer h v t (t ∷ ws) m e p q
    ]
