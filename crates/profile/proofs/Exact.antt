-- A course between two half-hour boundaries: twice its recorded and twice its exact area differ by at most what is allowed it there.
use mathlib.Core.Path.{◌≡◌, refl, ap, sym, ◌∙◌}
use Prim.Native.Nat.{ℕ, zero, suc, ◌+◌, ◌*◌, ◌-◌, min, max, ◌≤◌}
use native.Mathlib.Nat.{mul-le-mul, mul-le-mul_right, zero-mul, sub_self}
use native.Mathlib.Decide.{dec_le}
use native.Mathlib.Omega.{arith}
use borrow.Author.Tests.{lt-ltb, le-ltb}
use Rattle.level.specs.Lists.{sum}
use Rattle.level.specs.Numbers.{half_hour}
use Rattle.course.specs.Recorded.{area}
use Rattle.course.proofs.Sums.{area_split}
use Rattle.course.specs.Course.{gap, level_at, segments}
use Rattle.course.specs.Exact.{ticks_of, exact_at, cuts, exact_twice}
use Rattle.course.proofs.Whole.{Driven}
use Rattle.course.proofs.Bounds.{ticks_ok, course_bound}
use Rattle.course.proofs.Exact.{exact_window, cuts_none}
use Rattle.profile.specs.Profile.{Span}
use Rattle.profile.specs.Allowance.{has_time, allowed, exact_in, exact_of, Within}

-- how long a span has lasted at the second t of the day
unfoldable pub lasted : Span → ℕ → ℕ
lasted s t = min s.end t - s.begin

-- no time, no area
pub area_none : (f : ℕ → ℕ) (a n : ℕ) → n ≡ 0 → area f a n ≡ 0
unfolding area sum
area_none f a n e = ap (area f a) e

-- a step from x to y
step : (lo hi x y : ℕ) → lo ≡ x → hi ≡ y → x ≤ y → lo + (y - x) ≡ hi
step lo hi x y a b h = omega arith

times_less : (lo hi d p : ℕ) → lo + d ≡ hi → (hi * p - lo * p ≡ d * p) × (lo * p ≤ hi * p)
times_less lo hi d p q = omega (arith, ap (λ (k : ℕ). k * p) q)

-- a window from x to y against a span from b to e: past it, before it, over it
module _ (b e x y : ℕ) (h : x ≤ y) where
  past_cut : e ≤ x → min e y - b ≤ max b x - b
  past_cut g = omega arith

  past_time : e ≤ x → min e y - b - (min e x - b) ≡ 0
  past_time g = let i : min e y ≡ e = omega arith in let j : min e x ≡ e = omega arith in rw (i, j) (omega arith)

  before_cut : y ≤ b → min e y - b ≤ max b x - b
  before_cut g = omega arith

  before_time : y ≤ b → min e y - b - (min e x - b) ≡ 0
  before_time g = let i : min e y - b ≡ 0 = omega arith in rw i (omega arith)

  over_cut : b ≤ e → x ≤ e → max b x - b ≡ min e x - b
  over_cut o g = omega arith

module _ (s : Span) (order : s.begin ≤ s.end) where
  abbrev p : ℕ
  p = ticks_of s.trajectory

  abbrev exact_level : ℕ → ℕ
  exact_level = exact_at p s.trajectory

  -- twice the exact area from the second x to the second y of the day, over the ticks
  abbrev exact_over : ℕ → ℕ → ℕ
  exact_over x y = area exact_level (lasted s x * p) ((lasted s y - lasted s x) * p)

  lasted_up : (x y : ℕ) → x ≤ y → lasted s x ≤ lasted s y
  unfolding lasted
  lasted_up x y h = omega arith

  -- the pieces cut to the seconds x to y
  cut_to : (x y lo hi : ℕ) → x ≤ y → lo ≡ max s.begin x - s.begin → hi ≡ min s.end y - s.begin →
      cuts p exact_level 0 (segments s.trajectory) (lo * p) (hi * p) ≡ exact_over x y
  unfolding lasted
  cut_to x y lo hi h el eh = elim (dec_le s.end x) [
    | yes g ↦ nothing (rw (el, eh) (past_cut s.begin s.end x y h g)) (past_time s.begin s.end x y h g)
    | no g ↦ elim (dec_le y s.begin) [
      | yes k ↦ nothing (rw (el, eh) (before_cut s.begin s.end x y h k)) (before_time s.begin s.end x y h k)
      | no k ↦ some (el ∙ over_cut s.begin s.end x y h order (below g)) eh
    ]
  ]
    where
      below : ¬ (s.end ≤ x) → x ≤ s.end
      below g = omega arith

      nothing : hi ≤ lo → lasted s y - lasted s x ≡ 0 → cuts p exact_level 0 (segments s.trajectory) (lo * p) (hi * p) ≡ exact_over x y
      nothing a e =
          cuts_none p exact_level (lo * p) (hi * p) (mul-le-mul_right p a) (segments s.trajectory) 0
          ∙ sym (area_none exact_level (lasted s x * p) ((lasted s y - lasted s x) * p) (ap (λ (n : ℕ). n * p) e ∙ zero-mul p))

      some : lo ≡ lasted s x → hi ≡ lasted s y → cuts p exact_level 0 (segments s.trajectory) (lo * p) (hi * p) ≡ exact_over x y
      some a b =
          let d : ℕ = lasted s y - lasted s x in
          let e = times_less lo hi d p (step lo hi (lasted s x) (lasted s y) a b (lasted_up x y h)) in
          exact_window s.trajectory p (ticks_ok s.trajectory).1 (lo * p) (hi * p) e.1
          ∙ (ap (area exact_level (lo * p)) e.0 ∙ ap (λ (k : ℕ). area exact_level (k * p) (d * p)) a)

  -- one half-hour after another
  half_hours_lem : (a n : ℕ) → sum (λ i. (exact_in s i).num) a n ≡ exact_over (half_hour * a) (half_hour * (a + n))
  unfolding sum exact_in exact_twice
  half_hours_lem a zero =
      sym (area_none exact_level (lasted s (half_hour * a) * p) ((lasted s (half_hour * (a + 0)) - lasted s (half_hour * a)) * p)
      (let e : lasted s (half_hour * (a + 0)) - lasted s (half_hour * a) ≡ 0 = none in ap (λ (n : ℕ). n * p) e ∙ zero-mul p))
    where
      none : lasted s (half_hour * (a + 0)) - lasted s (half_hour * a) ≡ 0
      none =
          let e : lasted s (half_hour * (a + 0)) ≡ lasted s (half_hour * a) =
          ap (λ (k : ℕ). lasted s (half_hour * k)) {x = a + 0} {y = a} (omega arith) in omega arith
  half_hours_lem a (suc n) =
      let x : ℕ = lasted s (half_hour * a) in
      let y : ℕ = lasted s (half_hour * suc a) in
      let z : ℕ = lasted s (half_hour * (suc a + n)) in
      let one = cut_to (half_hour * a) (half_hour * suc a) _ _ (omega arith) refl refl in
      let more : sum (λ i. (exact_in s i).num) (suc a) n ≡ exact_over (half_hour * suc a) (half_hour * (suc a + n)) = half_hours_lem (suc a) n in
      let xy : x ≤ y = lasted_up (half_hour * a) (half_hour * suc a) (omega arith) in
      let yz : y ≤ z = lasted_up (half_hour * suc a) (half_hour * (suc a + n)) (omega arith) in
      let c : x * p + (y - x) * p ≡ y * p = let q : x + (y - x) ≡ y = omega arith in omega (arith, ap (λ (k : ℕ). k * p) q) in
      let d : (y - x) * p + (z - y) * p ≡ (z - x) * p = let q : (y - x) + (z - y) ≡ z - x = omega arith in omega (arith, ap (λ (k : ℕ). k * p) q) in
      let whole : exact_over (half_hour * a) (half_hour * (a + suc n)) ≡ area exact_level (x * p) ((z - x) * p) =
      ap (λ (k : ℕ). exact_over (half_hour * a) (half_hour * k)) {x = a + suc n} {y = suc a + n} (omega arith) in
      omega (
        arith,
        one,
        more,
        whole,
        area_split exact_level (x * p) ((y - x) * p) ((z - y) * p),
        ap (λ (k : ℕ). area exact_level k ((z - y) * p)) c,
        ap (area exact_level (x * p)) d,
      )

  -- twice the recorded area of the course from the second x to the second y of the day
  abbrev pub recorded_over : ℕ → ℕ → ℕ
  recorded_over x y = area (level_at s.trajectory) (lasted s x) (lasted s y - lasted s x)

  no_time : (a b : ℕ) → a ≤ b → min s.end (half_hour * b) ≤ max s.begin (half_hour * a) → lasted s (half_hour * b) - lasted s (half_hour * a) ≡ 0
  unfolding lasted
  no_time a b up h = elim (dec_le s.end (half_hour * a)) [
    | yes g ↦ past_time s.begin s.end (half_hour * a) (half_hour * b) (omega arith) g
    | no g ↦ elim (dec_le (half_hour * b) s.begin) [
      | yes k ↦ before_time s.begin s.end (half_hour * a) (half_hour * b) (omega arith) k
      | no k ↦ elim (dec_le b a) [
        | yes m ↦ let i : b ≡ a = omega arith in rw i (sub_self (lasted s (half_hour * a)))
        | no m ↦ let j : min s.end (half_hour * b) - s.begin ≡ 0 = omega arith in rw j (omega arith)
      ]
    ]
  ]

  -- between the boundaries a and b
  pub course_near : Driven s.trajectory.lists → (a b : ℕ) → a ≤ b →
      Within (recorded_over (half_hour * a) (half_hour * b)) (exact_of s a b) (allowed s a b)
  unfolding exact_of allowed has_time gap
  course_near d a b up =
      let pos : 1 ≤ p = (ticks_ok s.trajectory).0 in
      let e : sum (λ i. (exact_in s i).num) a (b - a) ≡ exact_over (half_hour * a) (half_hour * b) =
      half_hours_lem a (b - a) ∙ ap (λ (k : ℕ). exact_over (half_hour * a) (half_hour * k)) {x = a + (b - a)} {y = b} (omega arith) in
      rw e (elim (dec_le (min s.end (half_hour * b)) (max s.begin (half_hour * a))) [
        | yes h ↦
            let z = no_time a b up h in
            let r : recorded_over (half_hour * a) (half_hour * b) ≡ 0 = area_none (level_at s.trajectory) _ _ z in
            let x : exact_over (half_hour * a) (half_hour * b) ≡ 0 = area_none exact_level _ _ (ap (λ (n : ℕ). n * p) z ∙ zero-mul p) in
            rw (le-ltb (max s.begin (half_hour * a)) (min s.end (half_hour * b)) h)
            (record { fraction = omega (arith, mul-le-mul pos pos); above = omega (arith, ap (λ (n : ℕ). n * (p * p)) r); below = omega (arith, x) })
        | no h ↦
            let w =
            course_bound s.trajectory d p pos (ticks_ok s.trajectory).1 (lasted s (half_hour * a))
            (lasted s (half_hour * b) - lasted s (half_hour * a)) in
            rw (lt-ltb (max s.begin (half_hour * a)) (min s.end (half_hour * b)) (omega arith))
            (record { fraction = omega (arith, mul-le-mul pos pos); above = omega (arith, w); below = omega (arith, w) })
      ])
