-- Each straight piece is what the rule of one second does, and its levels lie on a straight line.
use Prim.Native.Nat.{ℕ, ◌+◌, ◌*◌, ◌-◌, ◌/◌, min, max, ◌≤◌, ◌<◌}
use mathlib.Core.Path.{◌≡◌, refl, ap, sym, ◌∙◌}
use native.Mathlib.Nat.{mul-le-mul_right}
use native.Mathlib.Decide.{ℕ_discrete}
use native.Mathlib.Omega.{arith}
use borrow.Author.Tests.{lt-ltb}
use Rattle.course.specs.Lists.{Lists}
use Rattle.course.specs.declared.Heading.{Heading}
use Rattle.course.specs.declared.Heading.TheVariants.{Rising, Falling}
use Rattle.course.specs.Course.{Moment, toward, gap, rate_at, next_stop, hold_at, after}
use Rattle.course.specs.Pieces.{piece}
use Rattle.course.specs.Headings.{Past, Short}
use Rattle.course.proofs.Near.{past_short, past_on, gap_to, gap_left, toward_zero}
use Rattle.course.proofs.Ahead.{next_past}
use Rattle.course.proofs.Rule.{at, after_rest_lem, stuck}
use Rattle.course.proofs.Pieces.{Room, Line, Traces, line, room_less}
use Rattle.course.proofs.Seconds.{holds, runs, stops, after_add}
use Rattle.course_walk.specs.declared.Place.{Place}
use Rattle.course_stops.specs.Ahead.{segment_to, segment_from}
use Rattle.course_walk.specs.Walk.{moment_of, after_hold, after_rest, after_run, after_short, onward, standing}
use Rattle.course_walk.proofs.Onward.{full_way, full_some, onward_cases}

-- from p to q the rule of one second goes along a straight piece
pub record PieceStep (h : Heading) (l : Lists) (t n : ℕ) (p q : Place) : Type 0 where
  pub later : p.second < q.second
  pub within : q.second ≤ n
  pub short : Short h t q.level
  pub low : q.level ≤ max p.level t
  pub moment : after h l t (q.second - p.second) (moment_of p) ≡ moment_of q
  pub straight : Traces h (λ k. (after h l t (k - p.second) (moment_of p)).level) p.second q.second
      (piece p.second q.second p.level q.level)

-- the straight line of such a piece
pub step_line : {h : Heading} {l : Lists} {t n : ℕ} {p q : Place} → PieceStep h l t n p q →
    Line h (λ k. (after h l t (k - p.second) (moment_of p)).level) (record { from = p.second; to = q.second; enter = p.level; leave = q.level })
unfolding piece
step_line {p = p} {q = q} g = (rw (lt-ltb p.second q.second g.later) at g.straight).2

toward_low : (h : Heading) (t v m w : ℕ) → Short h t w → w ≡ toward h v m → w ≤ max v t
unfolding toward
toward_low Rising t v m w sh e = omega arith
toward_low Falling t v m w sh e = omega arith

-- where one level lies past another there is room
room_gap : (h : Heading) (v w : ℕ) → Past h v w → Room h v (gap v w)
unfolding gap
room_gap Rising v w p = tt
room_gap Falling v w p = omega arith

room_none : (h : Heading) (v : ℕ) → Room h v 0
room_none Rising v = tt
room_none Falling v = omega arith

after_zero : (h : Heading) (l : Lists) (t : ℕ) (m : Moment) → after h l t 0 m ≡ m
unfolding after
after_zero h l t m = refl

module _ (h : Heading) (l : Lists) (t n : ℕ) (p : Place) (before : p.second < n) where
  abbrev levels : ℕ → ℕ
  levels k = (after h l t (k - p.second) (moment_of p)).level

  -- what is straight: r a second for f seconds
  module _ (r f : ℕ) (q : Place) where
    straight_step : 1 ≤ f → q.second ≡ p.second + f → q.second ≤ n → Short h t q.level → after h l t f (moment_of p) ≡ moment_of q →
        q.level ≡ toward h p.level (f * r) → Room h p.level
        (f * r) → ((i : ℕ) → i ≤ f → (after h l t i (moment_of p)).level ≡ toward h p.level (i * r)) → PieceStep h l t n p q
    straight_step some to le sh m e room g =
        let x : ℕ = p.second in
        let y : ℕ = q.second in
        let w : y - x ≡ f = omega arith in
        record {
          later = omega arith;
          within = le;
          short = sh;
          low = toward_low h t p.level (f * r) q.level sh e;
          moment = ap (λ (k : ℕ). after h l t k (moment_of p)) w ∙ m;
          straight = line h levels p.level x y 0 (f * r) r p.level q.level (omega arith) (sym (toward_zero h p.level)) e room (λ z. (
            ap (λ (k : ℕ). k * r) (sym w) ∙ omega arith,
            λ i k. ap (λ (j : ℕ). (after h l t j (moment_of p)).level) {x = x + i - x} {y = i} (omega arith) ∙ g i (omega arith)
                ∙ ap (toward h p.level) {x = i * r} {y = 0 + i * r} (omega arith),
          ));
        }

  still : (f i v : ℕ) → v ≡ toward h v (i * 0)
  still f i v = sym (ap (toward h v) {x = i * 0} {y = 0} (omega arith) ∙ toward_zero h v)

  hold_step : 0 < p.left → Short h t p.level → PieceStep h l t n p (after_hold n p)
  unfolding after_hold
  hold_step some sh =
      let f : ℕ = min p.left (n - p.second) in
      straight_step 0 f (after_hold n p) (omega arith) (omega arith) (omega arith) sh
      (holds h l t f p.level p.left (omega arith) ∙ ap (at p.level) (omega arith))
      (still f f p.level) (room_less h p.level (f * 0) 0 (omega arith) (room_none h p.level))
      (λ i k. ap (λ (m : Moment). m.level) (holds h l t i p.level p.left (omega arith)) ∙ still f i p.level)

  -- nothing moves up to n
  rest_step : Short h t p.level → ((k : ℕ) → after h l t k (moment_of p) ≡ at p.level 0) → PieceStep h l t n p (after_rest n p)
  unfolding after_rest
  rest_step sh g =
      let f : ℕ = n - p.second in
      straight_step 0 f (after_rest n p) (omega arith) (omega arith) (omega arith) sh (g f) (still f f p.level)
      (room_less h p.level (f * 0) 0 (omega arith) (room_none h p.level)) (λ i k. ap (λ (m : Moment). m.level) (g i) ∙ still f i p.level)

  left : p.left ≤ 0 → p.left ≡ 0
  left none = omega arith

  -- along the segment to the next stop
  module _ (none_left : p.left ≤ 0) (ahead : Past h p.level t) (some : 1 ≤ rate_at h l p.level) where
    abbrev v : ℕ
    v = p.level

    abbrev rate : ℕ
    rate = rate_at h l v

    abbrev stop : ℕ
    stop = next_stop h l t v

    abbrev way : ℕ
    way = gap v stop

    begins : moment_of p ≡ at v 0
    begins = ap (at v) (omega arith)

    to_stop : toward h v way ≡ stop
    to_stop = gap_to v stop h (next_past h l t v ahead).0

    room : (m : ℕ) → m ≤ way → Room h v m
    room m le = room_less h v m way le (room_gap h v stop (next_past h l t v ahead).0)

    short_of : (m : ℕ) → m ≤ way → Short h t (toward h v m)
    short_of m le = let n = next_past h l t v ahead in elim (ℕ_discrete m way) [
      | yes e ↦ rw (e, to_stop) n.1
      | no e ↦ let on = gap_left v stop h m n.0 (omega arith) in past_short h (toward h v m) t (past_on h (toward h v m) stop t on.0 n.1)
    ]

    short_step : way < rate → PieceStep h l t n p (after_short h p (segment_from h l t v))
    unfolding after_short segment_from segment_to
    short_step lt =
        let e : after h l t 1 (moment_of p) ≡ at (toward h v way) (hold_at h l t stop) =
        ap (after h l t 1) begins ∙ stops h l t v ahead some (omega arith) ∙ ap (λ (w : ℕ). at w (hold_at h l t stop)) (sym to_stop) in
        straight_step way 1 (after_short h p (segment_from h l t v)) (omega arith) refl (omega arith) (short_of way (omega arith)) e
        (ap (toward h v) (omega arith)) (room (1 * way) (omega arith)) (λ i le. elim (ℕ_discrete i 0) [
          | yes z ↦
              ap (λ (k : ℕ). (after h l t k (moment_of p)).level) z ∙ ap (λ (m : Moment). m.level) (after_zero h l t (moment_of p))
              ∙ sym (ap (toward h v) {x = i * way} {y = 0} (omega (arith, ap (λ (k : ℕ). k * way) z)) ∙ toward_zero h v)
          | no z ↦
              let one : i ≡ 1 = omega arith in
              ap (λ (k : ℕ). (after h l t k (moment_of p)).level) one ∙ ap (λ (m : Moment). m.level) e
              ∙ ap (toward h v) {x = way} {y = i * way} (omega (arith, ap (λ (k : ℕ). k * way) one))
        ])

    run_step : rate ≤ way → PieceStep h l t n p (after_run h (min (way / rate) (n - p.second)) p (segment_from h l t v))
    unfolding after_run segment_from segment_to
    run_step le =
        let f : ℕ = min (way / rate) (n - p.second) in
        let fw : f * rate ≤ way = full_way way rate f (omega arith) in
        straight_step rate f (after_run h f p (segment_from h l t v)) (omega (arith, full_some way rate some le)) refl (omega arith)
        (short_of (f * rate) fw) (ap (after h l t f) begins ∙ runs h l t v ahead some f fw) refl (room (f * rate) fw)
        (λ i k. ap (λ (m : Moment). (after h l t i m).level) begins
        ∙ ap (λ (m : Moment). m.level) (runs h l t v ahead some i (omega (arith, fw, mul-le-mul_right rate k))))

  -- whatever comes next
  pub onward_step : Short h t p.level → PieceStep h l t n p (onward h l t n p)
  onward_step sh = onward_cases h l t n p sh (PieceStep h l t n p) (λ some. hold_step some sh)
      (λ none e. rest_step sh (λ k. ap (after h l t k) {x = moment_of p} {y = at t 0} (λ i. at (e i) (left none i)) ∙ after_rest_lem h l t k
      ∙ ap (λ (w : ℕ). at w 0) (sym e)))
      (λ none past z. rest_step sh (λ k. ap (after h l t k) {x = moment_of p} {y = at p.level 0} (ap (at p.level) (left none))
      ∙ stuck h l t k p.level past z))
      (λ none past some lt. short_step none past some lt) (λ none past some le. run_step none past some le)

-- ---- one piece after another, to the second n
pub standing_on : {h : Heading} {l : Lists} {t n : ℕ} {p q : Place} → PieceStep h l t n p q → standing h l t n q ≡ standing h l t n p
unfolding standing
standing_on {h} {l} {t} {n} {p} {q} g =
    let e : after h l t (n - q.second) (moment_of q) ≡ after h l t (n - p.second) (moment_of p) =
    ap (after h l t (n - q.second)) (sym g.moment) ∙ sym (after_add h l t (q.second - p.second) (n - q.second) (moment_of p))
    ∙ ap (λ (k : ℕ). after h l t k (moment_of p)) (omega (arith, g.later, g.within)) in
    ap (λ (m : Moment). record { second = n; level = m.level; left = m.left }) e

pub standing_here : (h : Heading) (l : Lists) (t n : ℕ) (p : Place) → n ≡ p.second → standing h l t n p ≡ p
unfolding standing
standing_here h l t n p e =
    let z : after h l t (n - p.second) (moment_of p) ≡ moment_of p =
    ap (λ (k : ℕ). after h l t k (moment_of p)) {x = n - p.second} {y = 0} (omega arith) ∙ after_zero h l t (moment_of p) in
    λ i. record { second = e i; level = (z i).level; left = (z i).left }
