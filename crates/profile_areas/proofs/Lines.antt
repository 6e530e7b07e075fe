-- A straight line, half-hour by half-hour.
use Prim.Native.Nat.{ℕ, ◌+◌, ◌*◌, ◌-◌, ◌/◌, ◌^◌, min, max, ◌≤◌, ◌<◌}
use mathlib.Core.Path.{◌≡◌, refl, ap, sym, ◌∙◌, subst}
use native.Mathlib.Nat.{mul-le-mul_left, mul-le-mul_right, zero-mul, div-eq_of_eq-mul_right}
use native.Mathlib.Omega.{arith}
use Rattle.level.specs.Numbers.{half_hour}
use Rattle.level.specs.Bounds.{level_bound}
use Rattle.course.specs.declared.Heading.{Heading}
use Rattle.course.specs.declared.Heading.TheVariants.{Rising, Falling}
use Rattle.course.specs.Course.{toward, gap}
use Rattle.course.specs.Headings.{Along}
use Rattle.course_walk.specs.declared.Place.{Place}
use Rattle.course_walk.specs.Walk.{Reaches}
use Rattle.profile_areas.specs.declared.Sums.{Sums}
use Rattle.profile_areas.specs.Passing.{Summed, summed, Noted, line_twice, line_from, piece_rate, piece_from, StaysLow, Straight, LineAhead, PieceAhead, twice_bound}
use Rattle.profile_areas.proofs.Adding.{noted_none, InHalf, with_more, noted_on, total_fits}

-- no time, no area
pub line_none : (h : Heading) (v r k : ℕ) → k ≡ 0 → line_twice h v r k ≡ 0
unfolding line_twice
line_none h v r k e = rw e (zero-mul (v + toward h v (0 * r)))

pub line_start : (h : Heading) (v r k : ℕ) → k ≡ 0 → v ≡ toward h v (k * r)
unfolding toward
line_start Rising v r k e = rw e (omega arith)
line_start Falling v r k e = rw e (omega arith)

rise_more : (v r k m : ℕ) → k * (v + (v + k * r)) + m * ((v + k * r) + (v + (k + m) * r)) ≡ (k + m) * (v + (v + (k + m) * r))
rise_more v r k m = omega arith

fall_more : (v a x y r k m : ℕ) → v ≡ a + (k + m) * r → x ≡ a + m * r → y ≡ a → k * (v + x) + m * (x + y) ≡ (k + m) * (v + y)
fall_more v a x y r k m e f g = rw (e, f, g) (omega arith)

-- k seconds on and m more, of d: the level stays low, it can be moved on, and the areas add up
module _ (v r k m d : ℕ) (le : k + m ≤ d) where
  less : (k + m) * r ≤ d * r
  less = mul-le-mul_right r le

  pub line_low : (h : Heading) → StaysLow h v (d * r) → toward h v (k * r) < level_bound
  unfolding toward
  line_low Rising s = omega (arith, less)
  line_low Falling s = omega (arith, less)

  pub line_reaches : (h : Heading) → StaysLow h v (d * r) → Reaches h (toward h v (k * r)) (m * r)
  unfolding toward
  line_reaches Rising s = omega (arith, less)
  line_reaches Falling s = omega (arith, less)

  pub line_way : (h : Heading) → StaysLow h v (d * r) → m * r ≤ level_bound
  line_way Rising s = omega (arith, less)
  line_way Falling s = omega (arith, less)

  pub line_on : (h : Heading) → StaysLow h v (d * r) → toward h (toward h v (k * r)) (m * r) ≡ toward h v ((k + m) * r)
  unfolding toward
  line_on Rising s = omega arith
  line_on Falling s = omega (arith, less)

  pub line_more : (h : Heading) → StaysLow h v (d * r) →
      line_twice h v r k + m * (toward h v (k * r) + toward h v ((k + m) * r)) ≡ line_twice h v r (k + m)
  unfolding line_twice toward
  line_more Rising s = rise_more v r k m
  line_more Falling s = fall_more v (v - (k + m) * r) (v - k * r) (v - (k + m) * r) r k m (omega (arith, less, s.0)) (omega (arith, less, s.0)) refl

-- ---- along a line, half-hour by half-hour

-- the line is added up to `at`, where the half-hour after the boundary b begins, or the line does or ends; v is its level there
pub record AlongLine (h : Heading) (level rate from to : ℕ) (a : Summed) (x : Sums) (b at v : ℕ) : Type 0 where
  pub boundary : from / half_hour ≤ b
  pub here : at ≡ max from (min (half_hour * b) to)
  pub noted : Noted (line_from h level rate from) a (summed at x)
  pub there : v ≡ toward h level ((at - from) * rate)

-- a step of it to n, where the half-hour ends, or the line, and to the level w: it lies in one half-hour, the levels stay low, and its
-- area fits
pub record LineStep (h : Heading) (rate to b at v t n w : ℕ) : Type 0 where
  pub in_half : InHalf b at n
  pub within : n ≤ to
  pub way : (n - at) * rate ≤ level_bound
  pub reaches : Reaches h v ((n - at) * rate)
  pub low : v < level_bound
  pub low_too : w < level_bound
  pub area : (n - at) * (v + w) ≤ (n - at) * twice_bound
  pub fits : t + (n - at) * (v + w) < 2 ^ 64

module _ {h : Heading} {level rate from to : ℕ} where
  pub line_begun : {x : Sums} {half : ℕ} → LineAhead h level rate from to (summed from x) → half ≡ from / half_hour →
      AlongLine h level rate from to (summed from x) x half from level
  line_begun p k = record {
    boundary = omega arith;
    here = omega (arith, p.later);
    noted = noted_none (line_from h level rate from) (λ i j. line_none h level rate (i - from) (omega arith)) p.fits;
    there = line_start h level rate (from - from) (omega arith);
  }

  module _ {a : Summed} {x : Sums} {b at v n w : ℕ} (p : LineAhead h level rate from to a)
      (l : AlongLine h level rate from to a x b at v) (left : half_hour * b < to) (next : n ≡ min to ((b + 1) * half_hour))
      (moved : w ≡ toward h v ((n - at) * rate)) where
    abbrev k : ℕ
    k = at - from

    abbrev m : ℕ
    m = n - at

    abbrev d : ℕ
    d = to - from

    half_step : InHalf b at n
    half_step = omega (arith, p.within, p.later, l.boundary, l.here)

    on_line : k + m ≤ d
    on_line = omega (arith, half_step.on, l.here)

    moves : w ≡ toward h level ((k + m) * rate)
    moves = moved ∙ ap (λ (y : ℕ). toward h y (m * rate)) l.there ∙ line_on level rate k m d on_line h p.low

    pub line_step : LineStep h rate to b at v x.total n w
    line_step =
        let lo : v < level_bound = omega (arith, line_low level rate k m d on_line h p.low, l.there) in
        let hi : w < level_bound = omega (arith, line_low level rate (k + m) 0 d (omega (arith, on_line)) h p.low, moves) in
        let area : m * (v + w) ≤ m * twice_bound = mul-le-mul_left m (omega (arith, lo, hi)) in
        record {
          in_half = half_step;
          within = omega arith;
          way = line_way level rate k m d on_line h p.low;
          reaches = subst (λ (y : ℕ). Reaches h y (m * rate)) (sym l.there) (line_reaches level rate k m d on_line h p.low);
          low = lo;
          low_too = hi;
          area = area;
          fits = total_fits half_step l.noted.fits (m * (v + w)) (omega (arith, p.within)) area;
        }

    adds_up : line_from h level rate from at + m * (v + w) ≡ line_from h level rate from n
    adds_up = ap (λ (y : ℕ). line_twice h level rate k + m * (y + w)) l.there
        ∙ ap (λ (y : ℕ). line_twice h level rate k + m * (toward h level (k * rate) + y)) moves ∙ line_more level rate k m d on_line h p.low
        ∙ ap (line_twice h level rate) {x = k + m} {y = n - from} (omega (arith, half_step.on, l.here))

    pub line_further : AlongLine h level rate from to a (with_more x (b + 1) (m * (v + w))) (b + 1) n w
    line_further = record {
      boundary = omega (arith, l.boundary);
      here = omega (arith, p.later, l.boundary);
      noted = noted_on half_step l.noted.fits (m * (v + w)) (line_from h level rate from) adds_up line_step.area l.noted.adds;
      there = moves ∙ ap (λ (y : ℕ). toward h level (y * rate)) {x = k + m} {y = n - from} (omega (arith, half_step.on, l.here));
    }

-- ---- from one place to another

pub along_toward : (h : Heading) (v m w : ℕ) → Along h v m w → w ≡ toward h v m
unfolding toward
along_toward Rising v m w a = a
along_toward Falling v m w a = omega arith

way_is : (h : Heading) (v m w : ℕ) → Along h v m w → gap v w ≡ m
unfolding gap
way_is Rising v m w a = omega arith
way_is Falling v m w a = omega arith

stays : (h : Heading) (v m w : ℕ) → Along h v m w → v < level_bound → w < level_bound → StaysLow h v m
stays Rising v m w a lv lw = omega arith
stays Falling v m w a lv lw = omega arith

pub straight_rate : {h : Heading} {p q : Place} → p.second < q.second → (s : Straight h p q) → piece_rate p q ≡ s.rate
straight_rate {h} {p} {q} lt s = div-eq_of_eq-mul_right (omega arith) (way_is h p.level ((q.second - p.second) * s.rate) q.level s.along)

module _ {h : Heading} {p q : Place} {x : Sums} (a : PieceAhead h p q (summed p.second x)) (lt : p.second < q.second) where
  abbrev time : ℕ
  time = q.second - p.second

  abbrev rate : ℕ
  rate = piece_rate p q

  along : Along h p.level (time * rate) q.level
  along = subst (λ (r : ℕ). Along h p.level (time * r) q.level) (sym (straight_rate lt (a.straight lt))) (a.straight lt).along

  pub piece_low : StaysLow h p.level (time * rate)
  piece_low = stays h p.level (time * rate) q.level along a.low a.low_too

  -- within one half-hour
  module _ (one : q.second ≤ (p.second / half_hour + 1) * half_hour) where
    abbrev half : ℕ
    half = p.second / half_hour

    abbrev more : ℕ
    more = time * (p.level + q.level)

    one_half : InHalf half p.second q.second
    one_half = omega (arith, a.within)

    more_low : more ≤ time * twice_bound
    more_low = mul-le-mul_left time (omega (arith, a.low, a.low_too))

    pub piece_fits : x.total + more < 2 ^ 64
    piece_fits = total_fits one_half a.fits more a.within more_low

    whole : line_from h p.level rate p.second p.second + more ≡ line_from h p.level rate p.second q.second
    unfolding line_twice
    whole = ap (λ (v : ℕ). v + more) (line_none h p.level rate (p.second - p.second) (omega arith)) ∙ omega arith
        ∙ ap (λ (v : ℕ). time * (p.level + v)) (along_toward h p.level (time * rate) q.level along)

    pub piece_noted : Noted (piece_from h p q) (summed p.second x) (summed q.second (with_more x (half + 1) more))
    piece_noted = noted_on one_half a.fits more (piece_from h p q) whole more_low
        (noted_none (piece_from h p q) (λ i le. line_none h p.level rate (i - p.second) (omega arith)) a.fits).adds
