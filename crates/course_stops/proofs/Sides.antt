-- The next stop: which candidates can be the nearest past a level. Those on the level's own side of MSG are enough: the others
-- lie behind the level, or MSG lies before them.
use Prim.Native.Nat.{ℕ, suc, ◌≤◌, ◌<◌}
use mathlib.Core.Path.{◌≡◌, refl, ap, sym, ◌∙◌}
use mathlib.Core.List.{List, [], ◌∷◌, ◌++◌, map, map-append}
use mathlib.Core.Bool.{Bool, true, false, ◌&&◌}
use native.Mathlib.Decide.{dec_le}
use native.Mathlib.Omega.{arith}
use lib.Dec.{leb, ltb}
use borrow.Author.Tests.{ltb-true, ltb-false, leb-true, leb-false}
use Rattle.level.specs.Choice.{pick}
use Rattle.level.specs.Lists.{those}
use Rattle.level.specs.Level.{grains}
use Rattle.records.specs.declared.Trigger.{Trigger}
use Rattle.course.specs.Lists.{in_grains, rates_of}
use Rattle.course.specs.declared.Heading.{Heading}
use Rattle.course.specs.declared.Heading.TheVariants.{Rising, Falling}
use Rattle.course.specs.Course.{counting, triggers, breaks_in_use, nearest, candidates, next_stop}
use Rattle.course.specs.Headings.{Past, Short}
use Rattle.course.proofs.Near.{up_take, up_skip, down_take, down_skip}
use Rattle.course_rates.specs.declared.Route.{Route}
use Rattle.course_rates.specs.Ways.{lists_by, timed_levels}
use Rattle.course_stops.proofs.Nexts.{near_none, near_append, near_swap, up_one, down_one, up_behind, down_behind}

-- ---- the search begins at the target: nothing is further

up_most : (v t : ℕ) (ws : List ℕ) → nearest Rising v t ws ≤ t
up_most v t [] = omega (arith, near_none Rising v t)
up_most v t (w ∷ ws) = elim (dec_le (suc v) w) [
  | yes p ↦ omega (arith, up_take v t w ws p, up_most v t ws)
  | no p ↦ omega (arith, up_skip v t w ws (omega arith), up_most v t ws)
]

down_least : (v t : ℕ) (ws : List ℕ) → t ≤ nearest Falling v t ws
down_least v t [] = omega (arith, near_none Falling v t)
down_least v t (w ∷ ws) = elim (dec_le (suc w) v) [
  | yes p ↦ omega (arith, down_take v t w ws p, down_least v t ws)
  | no p ↦ omega (arith, down_skip v t w ws (omega arith), down_least v t ws)
]

target_last : (h : Heading) (v t : ℕ) (ws : List ℕ) → nearest h v t ws ≡ nearest h v t (t ∷ ws)
target_last Rising v t ws = elim (dec_le (suc v) t) [
  | yes p ↦ omega (arith, up_take v t t ws p, up_most v t ws)
  | no p ↦ omega (arith, up_skip v t t ws (omega arith))
]
target_last Falling v t ws = elim (dec_le (suc t) v) [
  | yes p ↦ omega (arith, down_take v t t ws p, down_least v t ws)
  | no p ↦ omega (arith, down_skip v t t ws (omega arith))
]

-- ---- candidates that need no look

-- a level w that does not lie past v and before n: with it or without it, the nearest is the same
abbrev Idle : Heading → ℕ → ℕ → ℕ → Type 0
Idle h v n w = Past h v w → Short h w n

near_idle : (h : Heading) (v n w : ℕ) (ws : List ℕ) → Idle h v n w → nearest h v n (w ∷ ws) ≡ nearest h v n ws
near_idle Rising v n w ws i = elim (dec_le (suc v) w) [
  | yes p ↦ omega (arith, up_take v n w ws p, up_most v n ws, i p)
  | no p ↦ up_skip v n w ws (omega arith)
]
near_idle Falling v n w ws i = elim (dec_le (suc w) v) [
  | yes p ↦ omega (arith, down_take v n w ws p, down_least v n ws, i p)
  | no p ↦ down_skip v n w ws (omega arith)
]

-- levels that pass a test, where each that passes is idle
near_none_of : (h : Heading) (v n : ℕ) (f : ℕ → Bool) → ((w : ℕ) → f w ≡ true → Idle h v n w) → (ws : List ℕ) → nearest h v n (those f ws) ≡ n
unfolding those
near_none_of h v n f i [] = near_none h v n
near_none_of h v n f i (w ∷ ws) = go (f w) refl (near_none_of h v n f i ws)
  where
    go : (b : Bool) → f w ≡ b → nearest h v n (those f ws) ≡ n → nearest h v n (pick b (w ∷ those f ws) (those f ws)) ≡ n
    go true e ih = near_idle h v n w (those f ws) (i w e) ∙ ih
    go false e ih = ih

-- where each that does not pass is idle, the test may be left out
near_all_of : (h : Heading) (v n : ℕ) (f : ℕ → Bool) → ((w : ℕ) → f w ≡ false → Idle h v n w) → (ws : List ℕ) →
    nearest h v n (those f ws) ≡ nearest h v n ws
unfolding those
near_all_of h v n f i [] = refl
near_all_of h v n f i (w ∷ ws) = go (f w) refl (near_all_of h v n f i ws)
  where
    go : (b : Bool) → f w ≡ b → nearest h v n (those f ws) ≡ nearest h v n ws →
        nearest h v n (pick b (w ∷ those f ws) (those f ws)) ≡ nearest h v n (w ∷ ws)
    go true e ih = near_append h v n (w ∷ []) (those f ws) ∙ ap (λ (k : ℕ). nearest h v k (w ∷ [])) ih ∙ sym (near_append h v n (w ∷ []) ws)
    go false e ih = ih ∙ sym (near_idle h v n w ws (i w e))

-- ---- the own side of MSG

-- the level v, the target t, MSG m; breaks of the ramp (rs) and of the column or deload (ls), levels of dwells (ds) and soaks (ss)
module _ (v t m : ℕ) (rs ls ds ss : List ℕ) where
  -- rising, each list with its test
  abbrev up : ℕ → List ℕ → ℕ
  up n ws = nearest Rising v n ws

  abbrev under : ℕ → Bool
  under w = ltb w m

  abbrev up_all : ℕ
  up_all = up (up (up (up (up t (m ∷ [])) (those (leb m) ds)) (those under ss)) (those (leb m) rs)) (those under ls)

  -- at or above MSG what is below it lies behind
  up_above : m ≤ v → up_all ≡ up (up t ds) rs
  up_above p =
      let behind : (n w : ℕ) → under w ≡ true → Idle Rising v n w = λ n w e q. omega (arith, ltb-true w m e) in
      let out : (n w : ℕ) → leb m w ≡ false → Idle Rising v n w = λ n w e q. omega (arith, leb-false m w e) in
      let d : ℕ = up t ds in
      rw (
        sym (up_behind v t m p),
        near_all_of Rising v t (leb m) (out t) ds,
        near_none_of Rising v d under (behind d) ss,
        near_all_of Rising v d (leb m) (out d) rs,
      ) (near_none_of Rising v (up d rs) under (behind (up d rs)) ls)

  -- below it, MSG comes before what is above
  up_below : v < m → up_all ≡ up (up (up t (m ∷ [])) ss) ls
  up_below p =
      let beyond : (n : ℕ) → n ≤ m → (w : ℕ) → leb m w ≡ true → Idle Rising v n w = λ n le w e q. omega (arith, leb-true m w e) in
      let out : (n : ℕ) → n ≤ m → (w : ℕ) → under w ≡ false → Idle Rising v n w = λ n le w e q. omega (arith, ltb-false w m e) in
      let n : ℕ = up t (m ∷ []) in
      let s : ℕ = up n ss in
      let first : n ≤ m = omega (arith, up_one v t m p) in
      let then : s ≤ m = omega (arith, up_most v n ss) in
      rw (
        near_none_of Rising v n (leb m) (beyond n first) ds,
        near_all_of Rising v n under (out n first) ss,
        near_none_of Rising v s (leb m) (beyond s then) rs,
      ) (near_all_of Rising v s under (out s then) ls)

  -- falling
  abbrev down : ℕ → List ℕ → ℕ
  down n ws = nearest Falling v n ws

  abbrev upto : ℕ → Bool
  upto w = leb w m

  abbrev down_all : ℕ
  down_all = down (down (down (down t (m ∷ [])) (those (leb m) ds)) (those upto ls)) (those (ltb m) rs)

  -- at or below MSG what is above it lies behind
  down_below : v ≤ m → down_all ≡ down t ls
  down_below p = rw (
    sym (down_behind v t m p),
    near_none_of Falling v t (leb m) (λ w e q. omega (arith, leb-true m w e)) ds,
    near_all_of Falling v t upto (λ w e q. omega (arith, leb-false w m e)) ls,
  ) (near_none_of Falling v (down t ls) (ltb m) (λ w e q. omega (arith, ltb-true m w e)) rs)

  -- above it, MSG comes before what is below
  down_above : m < v → down_all ≡ down (down (down t (m ∷ [])) ds) rs
  down_above p =
      let n : ℕ = down t (m ∷ []) in
      let d : ℕ = down n ds in
      let first : m ≤ n = omega (arith, down_one v t m p) in
      let then : m ≤ d = omega (arith, down_least v n ds) in
      rw (
        near_all_of Falling v n (leb m) (λ w e q. omega (arith, leb-false m w e)) ds,
        near_none_of Falling v d upto (λ w e q. omega (arith, leb-true w m e)) ls,
      ) (near_all_of Falling v d (ltb m) (λ w e q. omega (arith, ltb-false m w e)) rs)

-- the triggers that count are those with minutes whose level passes the test
counted : (f : ℕ → Bool) (gs : List Trigger) → map (λ (g : Trigger). g.level) (counting f (map in_grains gs)) ≡ those f (timed_levels gs)
unfolding counting timed_levels those in_grains
counted f [] = refl
counted f (g ∷ gs) = go (ltb 0 g.minutes) (f (grains g.level)) refl (counted f gs)
  where
    go : (a b : Bool) → f (grains g.level) ≡ b → map (λ (g : Trigger). g.level) (counting f (map in_grains gs)) ≡ those f (timed_levels gs) →
        map (λ (g : Trigger). g.level) (pick (a && b) (in_grains g ∷ counting f (map in_grains gs)) (counting f (map in_grains gs)))
        ≡ those f (map (λ (g : Trigger). grains g.level)
        (pick a (g ∷ those (λ (g : Trigger). ltb 0 g.minutes) gs) (those (λ (g : Trigger). ltb 0 g.minutes) gs)))
    go true true e ih = rw e (ap (λ (ws : List ℕ). grains g.level ∷ ws) ih)
    go true false e ih = rw e ih
    go false b e ih = ih

-- all candidates: the target, MSG m, two lists of breaks xs and ys, and the triggers' levels zs
all_of : (h : Heading) (v t m : ℕ) (xs ys zs : List ℕ) →
    nearest h v (nearest h v (nearest h v (nearest h v t (m ∷ [])) zs) ys) xs ≡ nearest h v t (t ∷ m ∷ ((xs ++ ys) ++ zs))
all_of h v t m xs ys zs =
    let n : ℕ = nearest h v t (m ∷ []) in
    sym (near_append h v (nearest h v n zs) xs ys) ∙ sym (near_append h v n (xs ++ ys) zs) ∙ sym (near_swap h v t m ((xs ++ ys) ++ zs))
    ∙ sym (near_append h v t (m ∷ []) ((xs ++ ys) ++ zs)) ∙ target_last h v t (m ∷ ((xs ++ ys) ++ zs))

module _ (r : Route) (t v : ℕ) where
  abbrev msg : ℕ
  msg = grains r.msg

  abbrev ramp : List ℕ
  ramp = map grains r.ramp.breaks

  abbrev column : List ℕ
  column = map grains r.column.breaks

  abbrev deload : List ℕ
  deload = map grains r.deload.breaks

  abbrev dwells : List ℕ
  dwells = timed_levels r.dwells

  abbrev soaks : List ℕ
  soaks = timed_levels r.column.soaks

  next_rising : up_all v t msg ramp column dwells soaks ≡ next_stop Rising (lists_by r) t v
  unfolding next_stop candidates breaks_in_use triggers lists_by rates_of
  next_rising =
      let n : ℕ = nearest Rising v t (msg ∷ []) in
      let below : ℕ → Bool = λ w. ltb w msg in
      let xs : List ℕ = those below column in
      let ys : List ℕ = those (leb msg) ramp in
      let ss : List Trigger = counting below (map in_grains r.column.soaks) in
      let ds : List Trigger = counting (leb msg) (map in_grains r.dwells) in
      rw (sym (counted below r.column.soaks), sym (counted (leb msg) r.dwells)) (ap (λ (k : ℕ). nearest Rising v (nearest Rising v k ys) xs)
      (sym (near_append Rising v n (map (λ (g : Trigger). g.level) ss) (map (λ (g : Trigger). g.level) ds))
      ∙ ap (nearest Rising v n) (sym (map-append (λ (g : Trigger). g.level) ss ds)))
      ∙ all_of Rising v t msg xs ys (map (λ (g : Trigger). g.level) (ss ++ ds)))

  next_falling : down_all v t msg ramp deload dwells soaks ≡ next_stop Falling (lists_by r) t v
  unfolding next_stop candidates breaks_in_use triggers lists_by rates_of
  next_falling = rw (sym (counted (leb msg) r.dwells)) (all_of Falling v t msg (those (ltb msg) ramp) (those (λ w. leb w msg) deload)
      (map (λ (g : Trigger). g.level) (counting (leb msg) (map in_grains r.dwells))))

  pub rising_above : msg ≤ v → nearest Rising v (nearest Rising v t dwells) ramp ≡ next_stop Rising (lists_by r) t v
  rising_above p = sym (up_above v t msg ramp column dwells soaks p) ∙ next_rising

  pub rising_below : v < msg → nearest Rising v (nearest Rising v (nearest Rising v t (msg ∷ [])) soaks) column ≡ next_stop Rising (lists_by r) t v
  rising_below p = sym (up_below v t msg ramp column dwells soaks p) ∙ next_rising

  pub falling_above : msg < v →
      nearest Falling v (nearest Falling v (nearest Falling v t (msg ∷ [])) dwells) ramp ≡ next_stop Falling (lists_by r) t v
  falling_above p = sym (down_above v t msg ramp deload dwells soaks p) ∙ next_falling

  pub falling_below : v ≤ msg → nearest Falling v t deload ≡ next_stop Falling (lists_by r) t v
  falling_below p = sym (down_below v t msg ramp deload dwells soaks p) ∙ next_falling
