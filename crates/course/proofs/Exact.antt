-- The exact course: its area by straight pieces is the area over its ticks; the recorded and the exact area between any two seconds.
use mathlib.Core.Path.{◌≡◌, refl, sym, ap, ◌∙◌}
use mathlib.Core.List.{List, [], ◌∷◌}
use Prim.Native.Nat.{ℕ, ◌+◌, ◌*◌, ◌-◌, ◌≤◌, min, max}
use native.Mathlib.Nat.{mul-le-mul_right, zero-mul, zero-add}
use native.Mathlib.Decide.{dec_le}
use native.Mathlib.Omega.{arith}
use Rattle.level.specs.Lists.{sum}
use Rattle.course.specs.declared.Segment.{Segment}
use Rattle.course.specs.Recorded.{SegmentOk, Ok, area}
use Rattle.course.specs.Exact.{ticks, exact, exact_at, cut, cuts}
use Rattle.course.proofs.Sums.{area_split, area_line}
use Rattle.course.proofs.Segments.{ticks_rate, exact_zero}
use Rattle.course.specs.declared.Heading.{Heading}
use Rattle.course.specs.declared.Heading.TheVariants.{Rising, Falling}
use Rattle.course.specs.Course.{heading, Trajectory, toward, segments}
use Rattle.course.proofs.Bounds.{fall, area_down}

-- twice the area from the tick lo to the tick hi
abbrev span : (ℕ → ℕ) → ℕ → ℕ → ℕ
span f lo hi = area f lo (hi - lo)

span_none : (f : ℕ → ℕ) (lo hi : ℕ) → hi ≤ lo → span f lo hi ≡ 0
unfolding area sum
span_none f lo hi h = let e : hi - lo ≡ 0 = omega arith in ap (area f lo) e

span_split : (f : ℕ → ℕ) (lo mid hi : ℕ) → lo ≤ mid → mid ≤ hi → span f lo mid + span f mid hi ≡ span f lo hi
span_split f lo mid hi p q =
    let e : (mid - lo) + (hi - mid) ≡ hi - lo = omega arith in
    let g : lo + (mid - lo) ≡ mid = omega arith in
    omega (arith, ap (area f lo) e, area_split f lo (mid - lo) (hi - mid), ap (λ k. area f k (hi - mid)) g)

-- a straight span: its time by the sum of its ends
span_line : (f : ℕ → ℕ) (u v c r s e : ℕ) → ((i : ℕ) → u + i ≤ v → f (u + i) ≡ c + i * r) → u ≤ s → s ≤ e → e ≤ v → (e - s) * (f s + f e) ≡ span f s e
span_line f u v c r s e h p q t =
    let i : ℕ = s - u in
    let n : ℕ = e - s in
    let es : u + i ≡ s = omega arith in
    let ee : u + (i + n) ≡ e = omega arith in
    let hs : f s ≡ c + i * r = ap f (sym es) ∙ h i (omega arith) in
    let he : f e ≡ c + (i + n) * r = ap f (sym ee) ∙ h (i + n) (omega arith) in
    let step : (k : ℕ) → k ≤ n → f (s + k) ≡ f s + k * r = λ k le.
    let ek : u + (i + k) ≡ s + k = omega arith in ap f (sym ek) ∙ (h (i + k) (omega arith) ∙ omega (arith, hs)) in
    omega (arith, area_line f s (f s) r n step, ap (λ x. n * x) hs, ap (λ x. n * x) he)

module _ (f : ℕ → ℕ) (lo hi : ℕ) (up : lo ≤ hi) where
  cut_span : (u v c r : ℕ) → ((i : ℕ) → u + i ≤ v → f (u + i) ≡ c + i * r) → cut f u v lo hi ≡ span f (max u lo) (min v hi)
  unfolding cut
  cut_span u v c r h =
      elim (dec_le (min v hi) (max u lo)) [
        | yes g ↦ let e : min v hi - max u lo ≡ 0 = omega arith in rw (e, zero-mul)
            (sym (span_none f (max u lo) (min v hi) g) ∙ ap (area f (max u lo)) e)
        | no g ↦ span_line f u v c r (max u lo) (min v hi) h (omega arith) (omega arith) (omega arith)
      ]

  join : (u v : ℕ) → u ≤ v → span f (max u lo) (min v hi) + span f (max v lo) hi ≡ span f (max u lo) hi
  join u v h =
      elim (dec_le v lo) [
        | yes g ↦ let e : max v lo ≡ max u lo = omega arith in omega (arith, span_none f (max u lo) (min v hi) (omega arith), ap (λ k. span f k hi) e)
        | no g ↦ elim (dec_le hi v) [
          | yes k ↦ let e : min v hi ≡ hi = omega arith in omega (arith, span_none f (max v lo) hi (omega arith), ap (span f (max u lo)) e)
          | no k ↦ let e : min v hi ≡ v = omega arith in let e' : max v lo ≡ v = omega arith in
              omega (arith, ap (span f (max u lo)) e, ap (λ m. span f m hi) e', span_split f (max u lo) v hi (omega arith) (omega arith))
        ]
      ]

module _ (p : ℕ) (l : Segment) (ls : List Segment) (ok : SegmentOk p l) where
  on_way : (i : ℕ) → i ≤ ticks p l → exact p (l ∷ ls) i ≡ i * l.rate
  unfolding exact
  on_way i h =
      let e : i - (ticks p l + l.hold * p) ≡ 0 = omega arith in
      omega (arith, mul-le-mul_right l.rate h, ticks_rate p l ok, ap (exact p ls) e, exact_zero p ls)

  in_hold : (i : ℕ) → i ≤ l.hold * p → exact p (l ∷ ls) (ticks p l + i) ≡ l.way * p
  unfolding exact
  in_hold i h =
      let e : ticks p l + i - (ticks p l + l.hold * p) ≡ 0 = omega arith in
      omega (arith, ticks_rate p l ok, ap (exact p ls) e, exact_zero p ls)

  past : (j : ℕ) → exact p (l ∷ ls) (ticks p l + l.hold * p + j) ≡ l.way * p + exact p ls j
  unfolding exact
  past j =
      let e : ticks p l + l.hold * p + j - (ticks p l + l.hold * p) ≡ j = omega arith in
      omega (arith, ticks_rate p l ok, ap (exact p ls) e)

module _ (p : ℕ) (f : ℕ → ℕ) (lo hi : ℕ) (up : lo ≤ hi) where
  cuts_span : (ls : List Segment) → Ok p ls → (u c : ℕ) → ((j : ℕ) → f (u + j) ≡ c + exact p ls j) → cuts p f u ls lo hi ≡ span f (max u lo) hi
  unfolding cuts
  cuts_span [] ok u c h =
      elim (dec_le hi (max u lo)) [
        | yes g ↦ let e : hi - max u lo ≡ 0 = omega arith in rw (e, zero-mul) (sym (span_none f (max u lo) hi g) ∙ ap (area f (max u lo)) e)
        | no g ↦ span_line f u hi c 0 (max u lo) hi (λ i le. h i ∙ unfold exact in omega arith) (omega arith) (omega arith) (omega arith)
      ]
  cuts_span (l ∷ ls) ok u c h =
      let t : ℕ = ticks p l in
      let d : ℕ = l.hold * p in
      let one = cut_span f lo hi up u (u + t) c l.rate (λ i le. h i ∙ ap (λ m. c + m) (on_way p l ls ok.0 i (omega arith))) in
      let two = cut_span f lo hi up (u + t) (u + t + d) (c + l.way * p) 0 (λ i le.
      let e : u + t + i ≡ u + (t + i) = omega arith in ap f e ∙ (h (t + i) ∙ omega (arith, in_hold p l ls ok.0 i (omega arith)))) in
      let rest = cuts_span ls ok.1 (u + t + d) (c + l.way * p) (λ j.
      let e : u + t + d + j ≡ u + (t + d + j) = omega arith in ap f e ∙ (h (t + d + j) ∙ omega (arith, past p l ls ok.0 j))) in
      omega (arith, one, two, rest, join f lo hi up u (u + t) (omega arith), join f lo hi up (u + t) (u + t + d) (omega arith))

  -- levels that fall by what others rise
  module _ (g : ℕ → ℕ) (c : ℕ) (sums : (j : ℕ) → f j + g j ≡ c) where
    cut_both : (u v : ℕ) → cut f u v lo hi + cut g u v lo hi ≡ (min v hi - max u lo) * (2 * c)
    unfolding cut
    cut_both u v =
        let n : ℕ = min v hi - max u lo in
        omega (arith, ap (λ x. n * x) (sums (max u lo)), ap (λ x. n * x) (sums (min v hi)))

    time : (u v : ℕ) → u ≤ v → (min v hi - max u lo) + (hi - max v lo) ≡ hi - max u lo
    time u v h = omega arith

    cuts_both : (ls : List Segment) (u : ℕ) → cuts p f u ls lo hi + cuts p g u ls lo hi ≡ (hi - max u lo) * (2 * c)
    unfolding cuts
    cuts_both [] u =
        let n : ℕ = hi - max u lo in
        omega (arith, ap (λ x. n * x) (sums (max u lo)), ap (λ x. n * x) (sums hi))
    cuts_both (l ∷ ls) u =
        let t : ℕ = u + ticks p l in
        let d : ℕ = u + ticks p l + l.hold * p in
        omega (
          arith,
          cut_both u t,
          cut_both t d,
          cuts_both ls d,
          ap (λ x. x * (2 * c)) (time u t (omega arith)),
          ap (λ x. x * (2 * c)) (time t d (omega arith)),
        )

pub cuts_none : (p : ℕ) (f : ℕ → ℕ) (lo hi : ℕ) → hi ≤ lo → (ls : List Segment) (u : ℕ) → cuts p f u ls lo hi ≡ 0
unfolding cuts cut
cuts_none p f lo hi h [] u = let e : hi - max u lo ≡ 0 = omega arith in rw (e, zero-mul)
cuts_none p f lo hi h (l ∷ ls) u =
    let e : min (u + ticks p l) hi - max u lo ≡ 0 = omega arith in
    let e' : min (u + ticks p l + l.hold * p) hi - max (u + ticks p l) lo ≡ 0 = omega arith in
    rw (e, e', zero-mul, zero-mul) (omega (arith, cuts_none p f lo hi h ls (u + ticks p l + l.hold * p)))

-- the window lo to hi of a course, by its pieces and over its ticks
module _ (c : Trajectory) (p : ℕ) (ok : Ok p (segments c)) (lo hi : ℕ) (le : lo ≤ hi) where
  none : max 0 lo ≡ lo
  none = omega arith

  -- the exact level moves from the start by what the segments say
  window_by : (h : Heading) → heading c ≡ h → cuts p (exact_at p c) 0 (segments c) lo hi ≡ area (exact_at p c) lo (hi - lo)
  unfolding exact_at toward
  window_by Rising e =
      cuts_span p (exact_at p c) lo hi le (segments c) ok 0 (c.start * p)
      (λ j. ap (exact_at p c) (zero-add j) ∙ ap (λ (h : Heading). toward h (c.start * p) (exact p (segments c) j)) e)
      ∙ ap (λ k. span (exact_at p c) k hi) none
  window_by Falling e =
      let g : ℕ → ℕ = exact p (segments c) in
      let s : ℕ = c.start * p in
      let down : (j : ℕ) → exact_at p c j ≡ s - g j = λ j. ap (λ (h : Heading). toward h s (g j)) e in
      let sums : (j : ℕ) → exact_at p c j + g j ≡ s = λ j. omega (arith, down j, fall c e p j) in
      let both = cuts_both p (exact_at p c) lo hi le g s sums (segments c) 0 in
      let rise = cuts_span p g lo hi le (segments c) ok 0 0 (λ j. ap g (zero-add j) ∙ omega arith) in
      let areas = area_down g (exact_at p c) s sums lo (hi - lo) in
      omega (arith, both, rise, areas, ap (λ k. span g k hi) none, ap (λ k. (hi - k) * (2 * s)) none)

  pub exact_window : cuts p (exact_at p c) 0 (segments c) lo hi ≡ area (exact_at p c) lo (hi - lo)
  exact_window = window_by (heading c) refl
