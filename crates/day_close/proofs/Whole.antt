-- What is followed, with the fates laid over, is what close finds.
use Prim.Native.Nat.{ℕ, suc, ◌+◌, ◌*◌, ◌-◌, ◌^◌, min, ◌≤◌, ◌<◌}
use mathlib.Core.Path.{◌≡◌, refl, ap, sym, ◌∙◌, subst}
use mathlib.Core.List.{List, [], ◌∷◌, ◌++◌, map}
use native.Mathlib.Omega.{arith}
use lib.ListN.{length, take, drop, get_or, length-take}
use lib.Dec.{ltb}
use Rattle.level.specs.Level.{grains}
use Rattle.level.specs.Lists.{All, some, list_from, filled}
use Rattle.level.specs.Numbers.{half_hour, most_half_hours, instruction_places, course_places, boundary_places}
use Rattle.records.specs.declared.UnitData.{UnitData}
use Rattle.course.specs.declared.Course.{Course}
use Rattle.validation.specs.declared.Numbered.{Numbered}
use Rattle.validation.specs.Kept.{Mark, acting, numbered, validated, fates_of}
use Rattle.validation.proofs.Acting.{Rises, acting_rise}
use Rattle.validation.proofs.Few.{numbered_length, fates_length, acts_few}
use Rattle.validation_kept.specs.declared.Validation.{Validation}
use Rattle.validation_kept.specs.Outcome.{outcome_of, validation_of}
use Rattle.level.proofs.Arrays.{filled_at}
use Rattle.level.proofs.FewLists.{few_filled}
use Rattle.profile.specs.declared.UnderWay.{UnderWay}
use Rattle.profile.specs.declared.Start.{Start}
use Rattle.profile.specs.declared.Taken.{Taken}
use Rattle.profile.specs.State.{by_rule}
use Rattle.profile.specs.Taken.{entered, unit_or_zeros, start_or_zeros}
use Rattle.profile.specs.Effects.{Followed, start_course, under_way, course_from, state_at, follow}
use Rattle.profile.specs.Profile.{Span, spans_of, recorded_to, recorded_in, rounded, course_of, paper, found, found_by}
use Rattle.profile.specs.Twin.{twin_to}
use Rattle.profile.specs.Finding.{arrays_of, quantity_at}
use Rattle.course.specs.Course.{no_course}
use Rattle.profile.proofs.Room.{courses_few}
use Rattle.profile.proofs.Areas.{area_to}
use Rattle.profile.proofs.Tiles.{day_tiles}
use Rattle.profile.proofs.Whole.{list_same}
use Rattle.profile.proofs.Near.{all_map}
use Rattle.profile.proofs.Most.{Below, courses_below, start_below}
use Rattle.profile.proofs.Found.{spans, list_length, list_at, sums_step, found_sums, found_quantities}
use Rattle.profile_quantity.specs.Summing.{some_above}
use Rattle.profile_follow.specs.declared.FollowedDay.{FollowedDay}
use Rattle.profile_follow.specs.declared.Walk.{Walk}
use Rattle.profile_follow.specs.Walk.{fate_in, walk_of, walk_all}
use Rattle.profile_follow.specs.Following.{Ordered, LowStart, courses_from, last_in, Followable, FollowedBy}
use Rattle.day_close.specs.Laying.{over_all, marks_of}
use Rattle.day_close.proofs.Laying.{own_many, own_marks, fates_found, front_of, front_laid}

-- ---- those that act stand in order
rising_ordered : (end a : ℕ) (os : List Numbered) → a ≤ end → All (λ (l : Numbered). a ≤ acting l) os → Rises os →
    All (λ (o : Numbered). acting o < end) os → Ordered end a os
rising_ordered end a [] le m r e = le
rising_ordered end a (o ∷ os) le m r e = (m.0, rising_ordered end (acting o) os (omega (arith, e.0)) (all_less (acting o) os r.0) r.1 e.1)
  where
    all_less : (b : ℕ) (ls : List Numbered) → All (λ (l : Numbered). b < acting l) ls → All (λ (l : Numbered). b ≤ acting l) ls
    all_less b [] h = h
    all_less b (l ∷ ls) h = (omega (arith, h.0), all_less b ls h.1)

all_from : (os : List Numbered) → All (λ (l : Numbered). 0 ≤ acting l) os
all_from [] = tt
all_from (o ∷ os) = (omega arith, all_from os)

-- ---- of what was taken, in a day of n half-hours

-- figures of 32 bits
pub record Words (u : UnitData) (s : Start) : Type 0 where
  pub capacity : u.capacity < 2 ^ 32
  pub maximum : u.maximum < 2 ^ 32
  pub level : s.level < 2 ^ 32
  pub target : s.target < 2 ^ 32
  pub ordered : s.ordered < 2 ^ 32

module _ (t : Taken) (n : ℕ) (places : length t.instructions ≡ instruction_places) where
  abbrev end : ℕ
  end = half_hour * n

  abbrev v : Validation
  v = validation_of t.instructions t.count end

  abbrev u : UnitData
  u = unit_or_zeros t

  abbrev acts : List Numbered
  acts = (validated end (numbered 1 (entered t))).acts

  pub as_many : length (entered t) ≡ min t.count instruction_places
  unfolding entered
  as_many = length-take t.count t.instructions ∙ ap (min t.count) places

  few_acts : length acts ≤ instruction_places
  few_acts = omega (arith, acts_few end (numbered 1 (entered t)), numbered_length 1 (entered t), as_many)

  acts_are : v.acts.these ≡ acts
  unfolding validation_of outcome_of entered
  acts_are = refl

  abbrev first : UnderWay
  first = start_course u (start_or_zeros t)

  abbrev f : Followed
  f = follow by_rule u first acts

  abbrev courses : List Course
  courses = map course_of f.courses

  begins : first.course.begin ≡ 0
  unfolding start_course under_way course_from
  begins = refl

  -- those that act stand in order
  in_order : Ordered end first.course.begin acts
  in_order =
      let r = acting_rise end (numbered 1 (entered t)) in
      subst (λ (a : ℕ). Ordered end a acts) (sym begins) (rising_ordered end 0 acts (omega arith) (all_from acts) r.0 r.1)

  starts_low : Words u (start_or_zeros t) → All LowStart (courses_from u first acts)
  unfolding grains courses_from
  starts_low w = all_map (Below (2 ^ 32)) LowStart (λ c b. omega (arith, b.start)) courses
      (courses_below u (2 ^ 32) (omega (arith, w.capacity)) (omega (arith, w.maximum)) first acts
      (start_below u (2 ^ 32) (omega (arith, w.capacity)) (omega (arith, w.maximum)) (start_or_zeros t) (omega (arith, w.level))
      (omega (arith, w.target)) (omega (arith, w.ordered))))

  pub acts_fit : n ≤ most_half_hours → Words u (start_or_zeros t) → Followable u first v.acts.these n
  acts_fit long w = rw acts_are (record { few = few_acts; long = long; ordered = in_order; starts = starts_low w })

  -- a fate for each of them
  pub fates_enough : (r : FollowedDay) → FollowedBy u first v.acts.these n r → length v.acts.these ≡ length r.walk.fates.these
  unfolding walk_all walk_of
  fates_enough r by = omega (arith, ap (λ (x : Walk). length x.fates.these) by.walk, own_many u first v.acts.these)

  -- the fates by number, with more marks or none
  abbrev fates_by : List Mark → List ℕ
  fates_by ms = fates_of (numbered 1 (entered t)) (ms ++ (validated end (numbered 1 (entered t))).marks) (numbered 1 (entered t))

  abbrev given : ℕ
  given = min t.count instruction_places

  fates_many : (ms : List Mark) → length (fates_by ms) ≡ given
  fates_many ms = fates_length (numbered 1 (entered t)) (ms ++ (validated end (numbered 1 (entered t))).marks) (numbered 1 (entered t))
      ∙ numbered_length 1 (entered t) ∙ as_many

  -- those of validation, with these of the ones that act laid over
  abbrev pub laid : List ℕ → List ℕ
  laid own = over_all (take given v.fates) (marks_of v.acts.these own) ++ drop given v.fates

  fates_are : laid (map fate_in f.marks) ≡ (arrays_of (found paper n t)).fates
  unfolding validation_of outcome_of arrays_of found found_by entered
  fates_are =
      let xs : List ℕ = fates_by [] in
      let few : length xs ≤ instruction_places = omega (arith, fates_many []) in
      let own : List Mark = marks_of acts (map fate_in f.marks) in
      ap (λ (k : ℕ). over_all (take k v.fates) own ++ drop k v.fates) (sym (fates_many []))
      ∙ ap (λ (l : List ℕ). over_all l own ++ drop (length xs) v.fates) (front_of instruction_places 0 xs few)
      ∙ ap (λ (ms : List Mark). over_all xs ms ++ drop (length xs) v.fates) (own_marks u first acts)
      ∙ ap (λ (l : List ℕ). l ++ drop (length xs) v.fates) (fates_found u first acts end (entered t))
      ∙ front_laid instruction_places 0 xs few (fates_by f.marks) (fates_many f.marks ∙ sym (fates_many []))

  sums_are : list_from (twin_to (spans_of u end courses)) 0 (suc n) ≡ (found paper n t).sums
  unfolding found found_by
  sums_are =
      let ss : List Span = spans_of u end courses in
      sym (list_same (recorded_to ss) (twin_to ss) 0 (suc n)
      (λ j p. area_to n ss (day_tiles by_rule end u (start_or_zeros t) (numbered 1 (entered t))) j (omega arith)))

  -- what following comes to, with its fates laid over
  pub find_is : (r : FollowedDay) → FollowedBy u first v.acts.these n r → (record {
    fates = laid r.walk.fates.these;
    started = length r.walk.courses.these;
    courses = r.walk.courses.these ++ r.walk.courses.spare;
    sums = r.sums;
    last = r.walk.now;
    end = r.end;
  }) ≡ arrays_of (found paper n t)
  unfolding arrays_of walk_all walk_of courses_from found found_by
  find_is r by =
      let walk : r.walk ≡ walk_all u first acts = by.walk ∙ ap (walk_all u first) acts_are in
      let fates = ap (λ (x : Walk). laid x.fates.these) walk ∙ fates_are in
      let started = ap (λ (x : Walk). length x.courses.these) walk in
      let few : length courses ≤ course_places =
      omega (arith, courses_few n t, as_many) in
      let held = ap (λ (x : Walk). x.courses.these ++ x.courses.spare) walk ∙ few_filled course_places no_course courses few in
      let sums =
      by.sums
      ∙ ap (λ (os : List Numbered). filled boundary_places 0 (list_from (twin_to (spans_of u end (courses_from u first os))) 0 (suc n))) acts_are
      ∙ ap (filled boundary_places 0) sums_are in
      let state = by.end ∙ ap (λ (os : List Numbered). state_at by_rule u (last_in u first os) end) acts_are in
      λ i. record { fates = fates i; started = started i; courses = held i; sums = sums i; last = (walk i).now; end = state i }

-- ---- the sums that are found, in a day of n half-hours

module _ (t : Taken) (n : ℕ) (long : n ≤ most_half_hours) where
  abbrev sums : List ℕ
  sums = (arrays_of (found paper n t)).sums

  abbrev recorded : List Span
  recorded = spans n t

  -- "Each noted sum is proved to be twice the recorded area from 0 to there" (document 02, N4)
  pub noted_sums : (b : ℕ) → b ≤ n → get_or sums b 0 ≡ recorded_to recorded b
  unfolding arrays_of
  noted_sums b h =
      let xs : List ℕ = list_from (recorded_to recorded) 0 (suc n) in
      ap (λ (l : List ℕ). get_or (filled boundary_places 0 l) b 0) (found_sums n t)
      ∙ filled_at 0 boundary_places xs b 0 (omega (arith, list_length (recorded_to recorded) 0 (suc n))) (omega arith)
      ∙ list_at (recorded_to recorded) 0 (suc n) b (omega arith) ∙ ap (recorded_to recorded) {x = 0 + b} {y = b} (omega arith)

  -- "and a half-hour's the difference of two"
  pub noted_between : (i : ℕ) → i < n → get_or sums (suc i) 0 - get_or sums i 0 ≡ recorded_in recorded i
  noted_between i h = rw (noted_sums (suc i) (omega arith), noted_sums i (omega arith)) (sums_step recorded i)

  -- a quantity is rounded from that
  pub noted_quantity : (i : ℕ) → i < n → quantity_at sums i ≡ rounded (recorded_in recorded i)
  unfolding quantity_at
  noted_quantity i h = ap rounded (noted_between i h)

  -- refusal 27: by the sums, and by the quantities
  pub too_high_is : some_above (unit_or_zeros t).maximum sums n ≡ some (λ q. ltb (unit_or_zeros t).maximum q) (found paper n t).quantities
  unfolding some_above
  too_high_is = ap (some (λ q. ltb (unit_or_zeros t).maximum q))
      (list_same (quantity_at sums) (λ i. rounded (recorded_in recorded i)) 0 n (λ i h. noted_quantity i (omega arith)) ∙ sym (found_quantities n t))
