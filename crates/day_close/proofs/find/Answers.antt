use Rattle.std.proofs.Common.{rules, ◌≡◌, sym, ◌*◌, ℕ, List, ◌++◌, length, take, drop, ap, ◌∙◌, arith}
use Rattle.level.specs.Numbers.{half_hour, instruction_places}
use Rattle.validation_kept.specs.declared.Validation.{Validation}
use Rattle.validation_kept.specs.Outcome.{validation_of}
use Rattle.profile.specs.Effects.{start_course}
use Rattle.profile.specs.Taken.{unit_or_zeros, start_or_zeros}
use Rattle.profile_follow.specs.Following.{FollowedBy}
use Rattle.day_close.specs.Laying.{over_all, marks_of}
use Rattle.day_close.proofs.Whole.{Words, acts_fit, fates_enough, find_is}
use Rattle.day_close.proofs.find.Goals as goal

pub follow_day-f-requires : goal.follow_day-f-requires
follow_day-f-requires c =
    let t = c.args.t in
    let places : length t.instructions ≡ instruction_places = search rules in
    let words : Words (unit_or_zeros t) (start_or_zeros t) =
    rw (sym c.unit_or_zeros-unit.ensures, sym c.start_or_zeros.ensures) (omega (arith, c.unit_or_zeros-unit.type_inv, c.start_or_zeros.type_inv)) in
    rw (c.start_course-first.ensures, c.unit_or_zeros-unit.ensures, c.start_or_zeros.ensures, c.as_slice-acts.ensures.value, c.validate-v.ensures)
    (acts_fit t c.args.halves places c.requires words)

pub lay_fates-requires : goal.lay_fates-requires
lay_fates-requires c =
    let t = c.args.t in
    let places : length t.instructions ≡ instruction_places = search rules in
    let by =
    rw (c.start_course-first.ensures, c.unit_or_zeros-unit.ensures, c.start_or_zeros.ensures, c.as_slice-acts.ensures.value, c.validate-v.ensures)
    at c.follow_day-f.ensures in
    rw (c.as_slice.ensures.value, c.as_slice-acts.ensures.value, c.validate-v.ensures)
    (fates_enough t c.args.halves places c.follow_day-f.result by)

pub returns : goal.returns
returns c =
    let t = c.args.t in
    let n = c.args.halves in
    let places : length t.instructions ≡ instruction_places = search rules in
    let kept : Validation = validation_of t.instructions t.count (half_hour * n) in
    let r = c.follow_day-f.result in
    -- those kept that act are followed, and their fates laid over
    let by : FollowedBy (unit_or_zeros t) (start_course (unit_or_zeros t) (start_or_zeros t)) kept.acts.these n r =
    rw (c.start_course-first.ensures, c.unit_or_zeros-unit.ensures, c.start_or_zeros.ensures, c.as_slice-acts.ensures.value, c.validate-v.ensures)
    at c.follow_day-f.ensures in
    let acts = c.as_slice-acts.ensures.value ∙ ap (λ (x : Validation). x.acts.these) c.validate-v.ensures in
    let own = c.as_slice.ensures.value in
    let fates = ap (λ (xs : List ℕ). xs ++ drop c.min-given.result c.validate-v.result.fates) c.lay_fates.ensures
    ∙ (λ i. over_all (take (c.min-given.ensures i) (c.validate-v.ensures i).fates) (marks_of (acts i) (own i))
    ++ drop (c.min-given.ensures i) (c.validate-v.ensures i).fates) in
    (λ i. record {
      fates = fates i;
      started = c.len-started.ensures.value i;
      courses = c.into_array-courses.ensures i;
      sums = r.sums;
      last = r.walk.now;
      end = r.end;
    }) ∙ find_is t n places r by
