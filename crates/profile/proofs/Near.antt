-- The day: between any two half-hour boundaries, the quantities lie as near to the exact area as demand 3 says; the level at each second.
use mathlib.Core.Path.{◌≡◌, refl, ap, sym, ◌∙◌}
use mathlib.Core.List.{List, [], ◌∷◌}
use Prim.Native.Nat.{ℕ, zero, suc, ◌+◌, ◌*◌, ◌-◌, min, ◌≤◌, ◌<◌}
use native.Mathlib.Nat.{mul-le-mul, mul-le-mul_right}
use native.Mathlib.Decide.{dec_le}
use native.Mathlib.Omega.{arith}
use Rattle.level.specs.Lists.{All, sum}
use Rattle.level.specs.Numbers.{half_hour}
use Rattle.course.specs.Recorded.{area, twice_area}
use Rattle.course.proofs.Sums.{sum_split}
use Rattle.records.specs.declared.UnitData.{UnitData}
use Rattle.course.specs.declared.Course.{Course}
use Rattle.course.specs.Course.{Trajectory, gap, level_at, rate_on, moment_at, after}
use Rattle.course.specs.Pieces.{pieces_in}
use Rattle.course.specs.Exact.{Fraction, plus}
use Rattle.course.proofs.Whole.{Driven, level_moves}
use Rattle.course.proofs.Pieces.{pieces_window}
use Rattle.profile.specs.Profile.{Span, spans_of, in_force, level_starting, level_ending, rate_starting, recorded_twice, recorded_in, rounded, Chain}
use Rattle.profile.specs.Twin.{pieces_to}
use Rattle.profile.specs.Allowance.{allowed, allowance, exact_of, exact_area, Within}
use Rattle.profile.proofs.Rates.{Fit, course_driven}
use Rattle.profile.proofs.Areas.{over, in_here, in_rest}
use Rattle.profile.proofs.Exact.{lasted, recorded_over, course_near}

-- every span is of a unit whose rates are at least 1
abbrev pub Drives : List Span → Type 0
Drives ss = All (λ (s : Span). Driven s.trajectory.lists) ss

pub spans_drive : (u : UnitData) → Fit u → (end : ℕ) (cs : List Course) → Drives (spans_of u end cs)
unfolding spans_of
spans_drive u f end [] = tt
spans_drive u f end (c ∷ cs) = (course_driven u f c, spans_drive u f end cs)

-- ---- differences from fractions
pub within_plus : (x y m n : ℕ) (e g : Fraction) → Within x e m → Within y g n → Within (x + y) (plus e g) (m + n)
unfolding plus
within_plus x y m n e g p q = record {
  fraction = omega (arith, mul-le-mul p.fraction q.fraction);
  above = omega (arith, mul-le-mul_right g.den p.above, mul-le-mul_right e.den q.above);
  below = omega (arith, mul-le-mul_right g.den p.below, mul-le-mul_right e.den q.below);
}

pub within_near : (x y k m : ℕ) (e : Fraction) → x ≤ y + k → y ≤ x + k → Within y e m → Within x e (k + m)
within_near x y k m e p q w = record {
  fraction = w.fraction;
  above = omega (arith, w.above, mul-le-mul_right e.den p);
  below = omega (arith, w.below, mul-le-mul_right e.den q);
}

-- ---- the courses' parts of a window make up the whole
order : (from to : ℕ) (s : Span) (ss : List Span) → Chain from (s ∷ ss) to → s.begin ≤ s.end
order from to s ss c = omega (arith, c.0, c.1)

parts : List Span → ℕ → ℕ → ℕ
parts [] x y = 0
parts (s ∷ ss) x y = area (level_at s.trajectory) (lasted s x) (lasted s y - lasted s x) + parts ss x y

parts_more : (ss : List Span) (x y : ℕ) → x ≤ y → pieces_to ss y ≡ pieces_to ss x + parts ss x y
unfolding pieces_to parts lasted
parts_more [] x y h = omega arith
parts_more (s ∷ ss) x y h =
    let a : ℕ = min s.end x - s.begin in
    let b : ℕ = min s.end y - s.begin in
    let e : twice_area (pieces_in s.trajectory 0 b) ≡ twice_area (pieces_in s.trajectory 0 (a + (b - a))) =
    ap (λ (n : ℕ). twice_area (pieces_in s.trajectory 0 n)) (split s.end s.begin x y h) in
    omega (arith, e, pieces_window s.trajectory a (b - a), parts_more ss x y h)
  where
    split : (e b x y : ℕ) → x ≤ y → min e y - b ≡ (min e x - b) + ((min e y - b) - (min e x - b))
    split e b x y h = let k : min e x - b ≤ min e y - b = omega arith in omega arith

module _ (n : ℕ) (ss : List Span) (c : Chain 0 ss (half_hour * n)) where
  whole : (x y : ℕ) → x ≤ y → y ≤ half_hour * n → recorded_twice ss x (y - x) ≡ parts ss x y
  unfolding recorded_twice
  whole x y h k =
      omega (
        arith,
        over 0 (half_hour * n) ss c x (y - x) (omega arith) (omega arith),
        parts_more ss x y h,
        ap (pieces_to ss) {x = x + (y - x)} {y = y} (omega arith),
      )

all_near : (from to : ℕ) (ss : List Span) → Chain from ss to → Drives ss → (a b : ℕ) → a ≤ b →
    Within (parts ss (half_hour * a) (half_hour * b)) (exact_area ss a b) (allowance ss a b)
unfolding parts exact_area allowance
all_near from to [] c d a b up = record { fraction = omega arith; above = omega arith; below = omega arith }
all_near from to (s ∷ ss) c d a b up =
    within_plus (recorded_over s (order from to s ss c) (half_hour * a) (half_hour * b)) (parts ss (half_hour * a) (half_hour * b)) (allowed s a b)
    (allowance ss a b) (exact_of s a b) (exact_area ss a b)
    (course_near s (order from to s ss c) d.0 a b up) (all_near s.end to ss c.2 d.1 a b up)

-- ---- sums over half-hours, and rounding
sum_more : (f : ℕ → ℕ) (a n : ℕ) → sum f a (suc n) ≡ f a + sum f (suc a) n
unfolding sum
sum_more f a n = refl

sum_none : (f : ℕ → ℕ) (a : ℕ) → sum f a 0 ≡ 0
unfolding sum
sum_none f a = refl

sum_blocks : (f : ℕ → ℕ) (a n : ℕ) → sum (λ i. sum f (half_hour * i) half_hour) a n ≡ sum f (half_hour * a) (half_hour * n)
sum_blocks f a zero = sum_none (λ i. sum f (half_hour * i) half_hour) a ∙ sym (sum_none f (half_hour * a))
sum_blocks f a (suc n) =
    let e : half_hour + half_hour * n ≡ half_hour * suc n = omega arith in
    let g : half_hour * a + half_hour ≡ half_hour * suc a = omega arith in
    omega (
      arith,
      sum_more (λ i. sum f (half_hour * i) half_hour) a n,
      sum_blocks f (suc a) n,
      ap (sum f (half_hour * a)) e,
      sum_split f (half_hour * a) half_hour (half_hour * n),
      ap (λ (k : ℕ). sum f k (half_hour * n)) g,
    )

pub rounded_near : (x : ℕ) → (216000 * rounded x ≤ x + 108000) × (x ≤ 216000 * rounded x + 108000)
unfolding rounded
rounded_near x = omega arith

pub rounded_sum : (f : ℕ → ℕ) (a n : ℕ) →
    (216000 * sum (λ i. rounded (f i)) a n ≤ sum f a n + 108000 * n) × (sum f a n ≤ 216000 * sum (λ i. rounded (f i)) a n + 108000 * n)
unfolding sum
rounded_sum f a zero = omega arith
rounded_sum f a (suc n) = omega (arith, rounded_sum f (suc a) n, rounded_near (f a))

pub sum_agree : (f g : ℕ → ℕ) (a n : ℕ) → ((j : ℕ) → j < a + n → f j ≡ g j) → sum f a n ≡ sum g a n
unfolding sum
sum_agree f g a zero h = refl
sum_agree f g a (suc n) h = omega (arith, h a (omega arith), sum_agree f g (suc a) n (λ j q. h j (omega arith)))

module _ (n : ℕ) (ss : List Span) (c : Chain 0 ss (half_hour * n)) (d : Drives ss) where
  -- the recorded area itself: within the allowance of the courses having time there
  pub recorded_near : (a b : ℕ) → a ≤ b → b ≤ n → Within (sum (recorded_in ss) a (b - a)) (exact_area ss a b) (allowance ss a b)
  unfolding recorded_in recorded_twice
  recorded_near a b up top =
      let e : half_hour * (b - a) ≡ half_hour * b - half_hour * a = omega arith in
      rw (sum_blocks (λ t. level_starting ss t + level_ending ss t) a (b - a) ∙ (ap (sum (λ t. level_starting ss t + level_ending ss t) (half_hour * a)) e
      ∙ whole n ss c (half_hour * a) (half_hour * b) (omega arith) (omega arith)))
      (all_near 0 (half_hour * n) ss c d a b up)

  -- the quantities: with the rounding
  pub quantities_near : (q : ℕ → ℕ) → ((i : ℕ) → i < n → q i ≡ rounded (recorded_in ss i)) → (a b : ℕ) → a ≤ b → b ≤ n →
      Within (216000 * sum q a (b - a)) (exact_area ss a b) (108000 * (b - a) + allowance ss a b)
  quantities_near q e a b up top =
      let r = rounded_sum (recorded_in ss) a (b - a) in
      rw (sum_agree q (λ i. rounded (recorded_in ss i)) a (b - a) (λ j h. e j (omega arith)))
      (within_near (216000 * sum (λ i. rounded (recorded_in ss i)) a (b - a)) (sum (recorded_in ss) a (b - a)) (108000 * (b - a)) (allowance ss a b)
      (exact_area ss a b) r.0 r.1
      (recorded_near a b up top))

-- ---- the level at each second
pub moves : (from to : ℕ) (ss : List Span) → Chain from ss to → (t : ℕ) → from ≤ t → t < to →
    (level_ending ss t ≤ level_starting ss t + rate_starting ss t) × (level_starting ss t ≤ level_ending ss t + rate_starting ss t)
unfolding level_starting level_ending rate_starting gap
moves from to [] c t lo hi = absurd (omega (arith, c))
moves from to (s ∷ ss) c t lo hi = elim (dec_le (suc t) s.end) [
  | yes p ↦ rw (in_here s ss level_at t p, in_here s ss (λ c k. level_at c (suc k)) t p, in_here s ss rate_on t p)
      (omega (arith, level_moves s.trajectory (t - s.begin)))
  | no p ↦ rw (in_rest s ss level_at t (omega arith), in_rest s ss (λ c k. level_at c (suc k)) t (omega arith), in_rest s ss rate_on t (omega arith))
      (moves s.end to ss c.2 t (omega arith) hi)
]

-- each span is in force for as long as it lasts
abbrev Held : List Span → Span → Type 0
Held ss s = (g : Trajectory → ℕ → ℕ) (t : ℕ) → s.begin ≤ t → t < s.end → in_force g ss t ≡ g s.trajectory (t - s.begin)

pub all_map : {A : Type 0} (P Q : A → Type 0) → ((x : A) → P x → Q x) → (xs : List A) → All P xs → All Q xs
all_map P Q f [] a = tt
all_map P Q f (x ∷ xs) a = (f x a.0, all_map P Q f xs a.1)

held : (from to : ℕ) (ss : List Span) → Chain from ss to → All (λ (s : Span). (from ≤ s.begin) × Held ss s) ss
held from to [] c = tt
held from to (s ∷ ss) c = (
  (omega (arith, c.0), λ g t lo hi. in_here s ss g t hi),
  all_map (λ (r : Span). (s.end ≤ r.begin) × Held ss r) (λ (r : Span). (from ≤ r.begin) × Held (s ∷ ss) r)
      (λ r h. (omega (arith, h.0, c.1), λ g t lo hi. in_rest s ss g t (omega (arith, h.0)) ∙ h.1 g t lo hi)) ss (held s.end to ss c.2),
)

-- the exact course starts at the level recorded there
pub starts_recorded : (from to : ℕ) (ss : List Span) → Chain from ss to →
    All (λ (s : Span). s.begin < s.end → s.trajectory.start ≡ level_starting ss s.begin) ss
unfolding level_starting level_at moment_at after
starts_recorded from to ss c =
    all_map (λ (s : Span). (from ≤ s.begin) × Held ss s) (λ (s : Span). s.begin < s.end → s.trajectory.start ≡ level_starting ss s.begin)
    (λ s h lt. sym (h.1 level_at s.begin (omega arith) lt ∙ ap (level_at s.trajectory) {x = s.begin - s.begin} {y = 0} (omega arith))) ss
    (held from to ss c)
