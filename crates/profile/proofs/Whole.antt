-- What close finds by the rule of one second is what it finds by segments.
use mathlib.Core.Path.{◌≡◌, refl, ap, sym, ◌∙◌}
use mathlib.Core.List.{List, ◌∷◌, ◌++◌, map}
use Prim.Native.Nat.{ℕ, zero, suc, ◌+◌, ◌*◌, ◌-◌, ◌<◌}
use native.Mathlib.Omega.{arith}
use Rattle.level.specs.Lists.{list_from}
use Rattle.level.specs.Numbers.{half_hour}
use Rattle.records.specs.declared.UnitData.{UnitData}
use Rattle.course.specs.declared.Course.{Course}
use Rattle.course.specs.Course.{trajectory_of}
use Rattle.validation.specs.declared.Numbered.{Numbered}
use Rattle.validation.specs.Kept.{Validated, acting, numbered, validated, fates_of}
use Rattle.profile.specs.declared.UnderWay.{UnderWay}
use Rattle.profile.specs.declared.State.{State}
use Rattle.profile.specs.State.{by_rule}
use Rattle.profile.specs.Twin.{by_segments, twin_to, twin_in, twin}
use Rattle.profile.specs.declared.Taken.{Taken}
use Rattle.profile.specs.Taken.{entered, unit_or_zeros, start_or_zeros}
use Rattle.profile.specs.Effects.{Followed, start_course, outcome, begun, goes_on, replaces, state_at, follow}
use Rattle.profile.specs.Profile.{Span, spans_of, rounded, recorded_to, recorded_in, course_of, last_of, found_by, found, paper, Chain}
use Rattle.profile.proofs.Following.{follow_on, follow_new, follow_ind}
use Rattle.profile.proofs.Tiles.{day_tiles}
use Rattle.profile.proofs.States.{state_same}
use Rattle.profile.proofs.Areas.{area_to, area_in}

pub list_same : (f g : ℕ → ℕ) (a n : ℕ) → ((i : ℕ) → i < a + n → f i ≡ g i) → list_from f a n ≡ list_from g a n
unfolding list_from
list_same f g a zero h = refl
list_same f g a (suc n) h = λ i. (h a (omega arith)) i ∷ (list_same f g (suc a) n (λ j p. h j (omega arith))) i

module _ (u : UnitData) where
  at_same : (now : UnderWay) (t : ℕ) → state_at by_rule u now t ≡ state_at by_segments u now t
  unfolding state_at
  at_same now t = state_same (trajectory_of u now.course) now.off (t - now.course.begin)

  pub follow_same : (now : UnderWay) (os : List Numbered) → follow by_rule u now os ≡ follow by_segments u now os
  follow_same = follow_ind by_rule u (λ now os f. f ≡ follow by_segments u now os)
      (λ now. unfold follow in refl)
      (λ now o os f e p. ap (goes_on o) p ∙ sym (follow_on by_segments u now o os
      (ap (outcome u now o.instruction) (sym (at_same now (acting o))) ∙ e)))
      (λ now o os g f e p.
      ap (replaces now o) (p ∙ ap (λ (s : State). follow by_segments u (begun u o g s) os) (at_same now (acting o)))
      ∙ sym (follow_new by_segments u now o os g (ap (outcome u now o.instruction) (sym (at_same now (acting o))) ∙ e)))

pub found_same : (n : ℕ) (t : Taken) → found paper n t ≡ found twin n t
unfolding found found_by
found_same n t =
    let u : UnitData = unit_or_zeros t in
    let os : List Numbered = numbered 1 (entered t) in
    let v : Validated = validated (half_hour * n) os in
    let first : UnderWay = start_course u (start_or_zeros t) in
    let g : Followed = follow by_segments u first v.acts in
    let cs : List Course = map course_of g.courses in
    let ss : List Span = spans_of u (half_hour * n) cs in
    let c : Chain 0 ss (half_hour * n) = day_tiles by_segments (half_hour * n) u (start_or_zeros t) os in
    ap (found_by paper n u first os v) (follow_same u first v.acts)
    ∙ (λ i. record {
      fates = fates_of os (g.marks ++ v.marks) os;
      courses = cs;
      sums = (list_same (recorded_to ss) (twin_to ss) 0 (suc n) (λ j p. area_to n ss c j (omega arith))) i;
      quantities =
          (list_same (λ j. rounded (recorded_in ss j)) (λ j. rounded (twin_in ss j)) 0 n (λ j p. ap rounded (area_in n ss c j (omega arith)))) i;
      last = last_of first g.courses;
      end = (at_same u (last_of first g.courses) (half_hour * n)) i;
    })
