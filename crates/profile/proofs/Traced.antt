-- The pieces of a day follow each other from its start to its end, and the level at each second lies on their straight lines.
use mathlib.Core.Path.{◌≡◌, ap, sym, ◌∙◌}
use mathlib.Core.List.{List, [], ◌∷◌, ◌++◌}
use Prim.Native.Nat.{ℕ, suc, ◌+◌, ◌*◌, ◌-◌, ◌≤◌, ◌<◌}
use native.Mathlib.Nat.{le_refl}
use native.Mathlib.Omega.{arith}
use Rattle.level.specs.Lists.{All}
use Rattle.level.proofs.Lists.{all_append}
use Rattle.course.specs.declared.Piece.{Piece}
use Rattle.course.specs.declared.Heading.{Heading}
use Rattle.course.specs.declared.Heading.TheVariants.{Rising, Falling}
use Rattle.course.specs.Course.{heading, level_at}
use Rattle.course.specs.Pieces.{pieces_in}
use Rattle.course.proofs.Pieces.{Line, Traces, traces_area, pieces_trace}
use Rattle.profile.specs.Profile.{Span, Chain, level_starting, level_ending, day_pieces, Joined, OnLine}
use Rattle.profile.proofs.Areas.{in_here, in_rest}
use Rattle.profile.proofs.Near.{all_map}

-- ---- one after the other

joined_append : (a b n : ℕ) (ps qs : List Piece) → Joined a ps b → Joined b qs n → Joined a (ps ++ qs) n
joined_append a b n [] qs e t = rw e t
joined_append a b n (p ∷ ps) qs e t = (e.0, e.1, joined_append p.to b n ps qs e.2 t)

traces_joined : (h : Heading) (f : ℕ → ℕ) (a n : ℕ) (ps : List Piece) → Traces h f a n ps → Joined a ps n
traces_joined h f a n [] e = e
traces_joined h f a n (p ∷ ps) e = (e.0, e.1, traces_joined h f p.to n ps e.3)

pub day_joined : (from to : ℕ) (ss : List Span) → Chain from ss to → Joined from (day_pieces ss) to
unfolding day_pieces
day_joined from to [] c = c
day_joined from to (s ∷ ss) c =
    let a : ℕ = s.begin in
    let b : ℕ = s.end in
    let ps : List Piece = pieces_in s.trajectory a b in
    let own : Joined a ps b = traces_joined _ _ a b ps (pieces_trace s.trajectory a b (omega (arith, c.0, c.1))) in
    rw (sym c.0) (joined_append a b to ps (day_pieces ss) own (day_joined b to ss c.2))

-- ---- on a straight line: v at i of n seconds from the level e to the level l, j of them left

rising_on : (e l v r i j n : ℕ) → n ≡ i + j → v ≡ e + i * r → l ≡ e + n * r → v * n ≡ e * j + l * i
rising_on e l v r i j n s p q = rw (p, q, s) (omega arith)

falling_on : (e l v r i j n : ℕ) → n ≡ i + j → v + i * r ≡ e → l + n * r ≡ e → v * n ≡ e * j + l * i
falling_on e l v r i j n s p q =
    let w : v ≡ l + j * r = omega (arith, ap (λ x. x * r) s) in
    rw (w, sym q, s) (omega arith)

line_on : (h : Heading) (f : ℕ → ℕ) (p : Piece) → Line h f p → (t : ℕ) → p.from ≤ t → t ≤ p.to → OnLine p t (f t)
line_on Rising f p w t lo hi =
    let i : ℕ = t - p.from in
    let n : ℕ = p.to - p.from in
    rising_on p.enter p.leave (f t) w.rate i (p.to - t) n (omega arith)
    (ap f {x = t} {y = p.from + i} (omega arith) ∙ w.along i (omega arith))
    (w.ends ∙ ap f {x = p.to} {y = p.from + n} (omega arith) ∙ w.along n (le_refl n))
line_on Falling f p w t lo hi =
    let i : ℕ = t - p.from in
    let n : ℕ = p.to - p.from in
    falling_on p.enter p.leave (f t) w.rate i (p.to - t) n (omega arith)
    (ap (λ x. x + i * w.rate) (ap f {x = t} {y = p.from + i} (omega arith)) ∙ w.along i (omega arith))
    (ap (λ x. x + n * w.rate) (w.ends ∙ ap f {x = p.to} {y = p.from + n} (omega arith)) ∙ w.along n (le_refl n))

-- a piece that lies between the seconds a and b, with the levels of f on its line
record On (f : ℕ → ℕ) (a b : ℕ) (p : Piece) : Type 0 where
  after : a ≤ p.from
  before : p.to ≤ b
  level : (t : ℕ) → p.from ≤ t → t ≤ p.to → OnLine p t (f t)

traces_on : (h : Heading) (f : ℕ → ℕ) (a n : ℕ) (ps : List Piece) → Traces h f a n ps → All (On f a n) ps
traces_on h f a n [] e = tt
traces_on h f a n (p ∷ ps) e = (
  record { after = omega (arith, e.0); before = (traces_area h f p.to n ps e.3).0; level = line_on h f p e.2 },
  all_map (On f p.to n) (On f a n) (λ q o. record { after = omega (arith, e.1, o.after); before = o.before; level = o.level }) ps
      (traces_on h f p.to n ps e.3),
)

-- ---- the level of the day on its pieces

-- a piece that begins at the second from or later, with the levels of the day on its line
record Shown (ss : List Span) (from : ℕ) (p : Piece) : Type 0 where
  after : from ≤ p.from
  starting : (t : ℕ) → p.from ≤ t → t < p.to → OnLine p t (level_starting ss t)
  ending : (t : ℕ) → p.from ≤ t → t < p.to → OnLine p (suc t) (level_ending ss t)

module _ (from : ℕ) (s : Span) (ss : List Span) (c : s.begin ≡ from) (e : from ≤ s.end) where
  here : (p : Piece) → On (λ k. level_at s.trajectory (k - s.begin)) s.begin s.end p → Shown (s ∷ ss) from p
  unfolding level_starting level_ending
  here p o = record {
    after = omega (arith, o.after);
    starting = λ t lo hi. rw (in_here s ss level_at t (omega (arith, o.before))) (o.level t lo (omega arith));
    ending = λ t lo hi. rw (in_here s ss (λ c k. level_at c (suc k)) t (omega (arith, o.before)))
        (ap (λ (k : ℕ). level_at s.trajectory k * (p.to - p.from)) {x = suc (t - s.begin)} {y = suc t - s.begin} (omega (arith, o.after))
        ∙ o.level (suc t) (omega arith) hi);
  }

  later : (p : Piece) → Shown ss s.end p → Shown (s ∷ ss) from p
  unfolding level_starting level_ending
  later p o = record {
    after = omega (arith, o.after);
    starting = λ t lo hi. rw (in_rest s ss level_at t (omega (arith, o.after))) (o.starting t lo hi);
    ending = λ t lo hi. rw (in_rest s ss (λ c k. level_at c (suc k)) t (omega (arith, o.after))) (o.ending t lo hi);
  }

day_shown : (from to : ℕ) (ss : List Span) → Chain from ss to → All (Shown ss from) (day_pieces ss)
unfolding day_pieces
day_shown from to [] c = tt
day_shown from to (s ∷ ss) c =
    let a : ℕ = s.begin in
    let b : ℕ = s.end in
    let f : ℕ → ℕ = λ k. level_at s.trajectory (k - a) in
    let ps : List Piece = pieces_in s.trajectory a b in
    all_append (Shown (s ∷ ss) from) ps (day_pieces ss)
    (all_map (On f a b) (Shown (s ∷ ss) from) (here from s ss c.0 c.1) ps
    (traces_on (heading s.trajectory) f a b ps (pieces_trace s.trajectory a b (omega (arith, c.0, c.1)))))
    (all_map (Shown ss b) (Shown (s ∷ ss) from) (later from s ss c.0 c.1) (day_pieces ss) (day_shown b to ss c.2))

pub day_starting : (from to : ℕ) (ss : List Span) → Chain from ss to →
    All (λ (p : Piece). (t : ℕ) → p.from ≤ t → t < p.to → OnLine p t (level_starting ss t)) (day_pieces ss)
day_starting from to ss c =
    all_map (Shown ss from) (λ (p : Piece). (t : ℕ) → p.from ≤ t → t < p.to → OnLine p t (level_starting ss t)) (λ p o. o.starting) (day_pieces ss)
    (day_shown from to ss c)

pub day_ending : (from to : ℕ) (ss : List Span) → Chain from ss to →
    All (λ (p : Piece). (t : ℕ) → p.from ≤ t → t < p.to → OnLine p (suc t) (level_ending ss t)) (day_pieces ss)
day_ending from to ss c =
    all_map (Shown ss from) (λ (p : Piece). (t : ℕ) → p.from ≤ t → t < p.to → OnLine p (suc t) (level_ending ss t)) (λ p o. o.ending) (day_pieces ss)
    (day_shown from to ss c)
