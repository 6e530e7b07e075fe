-- Courses follow each other without gap or overlap, from 0 to the day's end.
use mathlib.Core.Path.{◌≡◌, refl}
use mathlib.Core.List.{List, [], ◌∷◌, map}
use Prim.Native.Nat.{ℕ, ◌≤◌, ◌<◌}
use native.Mathlib.Omega.{arith}
use Rattle.level.specs.Lists.{All}
use Rattle.records.specs.declared.UnitData.{UnitData}
use Rattle.course.specs.declared.Course.{Course}
use Rattle.course.specs.Course.{Trajectory}
use Rattle.validation.specs.declared.Numbered.{Numbered}
use Rattle.validation.specs.Kept.{acting, validated}
use Rattle.validation.proofs.Acting.{Rises, acting_rise}
use Rattle.profile.specs.declared.UnderWay.{UnderWay}
use Rattle.profile.specs.declared.State.{State}
use Rattle.profile.specs.declared.Start.{Start}
use Rattle.profile.specs.Effects.{Followed, goes_on, replaces, under_way, course_from, begun, start_course, follow}
use Rattle.profile.specs.Profile.{begin_of, spans_of, Chain, course_of}
use Rattle.profile.proofs.Following.{new_course, follow_ind}

weak : (t : ℕ) (os : List Numbered) → All (λ l. t < acting l) os → All (λ l. t ≤ acting l) os
weak t [] a = tt
weak t (l ∷ os) a = (omega (arith, a.0), weak t os a.1)

module _ (look : Trajectory → ℕ → ℕ → State) (end : ℕ) (u : UnitData) where
  abbrev courses : UnderWay → List Numbered → List Course
  courses now os = map course_of (follow look u now os).courses

  -- those left act after the course under way began, in order, within the day
  record InDay (now : UnderWay) (os : List Numbered) : Type 0 where
    after : All (λ o. now.course.begin ≤ acting o) os
    rise : Rises os
    soon : All (λ o. acting o < end) os
    begun_soon : now.course.begin ≤ end

  -- the course under way is the first, and each ends where the next begins
  record Tiled (now : UnderWay) (os : List Numbered) (f : Followed) : Type 0 where
    first : begin_of end (map course_of f.courses) ≡ now.course.begin
    chain : InDay now os → Chain now.course.begin (spans_of u end (map course_of f.courses)) end

  tiles : (now : UnderWay) (os : List Numbered) → Tiled now os (follow look u now os)
  tiles = follow_ind look u Tiled
      (λ now. unfold begin_of spans_of in record { first = refl; chain = λ d. (refl, d.begun_soon, refl) })
      (λ now o os f e t. unfold goes_on in record {
        first = t.first;
        chain = λ d. t.chain (record { after = d.after.1; rise = d.rise.1; soon = d.soon.1; begun_soon = d.begun_soon });
      })
      (λ now o os g f e t. unfold replaces begin_of spans_of in record {
        first = refl;
        chain = λ d.
            let there : (new_course look u now o g).course.begin ≡ acting o = unfold begun under_way course_from in refl in
            let later : InDay (new_course look u now o g) os = record {
              after = rw there (weak (acting o) os d.rise.0);
              rise = d.rise.1;
              soon = d.soon.1;
              begun_soon = omega (arith, there, d.soon.0);
            } in
            (refl, rw t.first (omega (arith, there, d.after.0)), rw t.first (t.chain later));
      })

  -- of any instructions, and any start
  pub day_tiles : (s : Start) (os : List Numbered) → Chain 0 (spans_of u end (courses (start_course u s) (validated end os).acts)) end
  unfolding start_course under_way course_from
  day_tiles s os =
      let r = acting_rise end os in
      (tiles (start_course u s) (validated end os).acts).chain
      (record { after = zeros (validated end os).acts; rise = r.0; soon = r.1; begun_soon = omega arith })
    where
      zeros : (os : List Numbered) → All (λ o. 0 ≤ acting o) os
      zeros [] = tt
      zeros (o ∷ os) = (omega arith, zeros os)
