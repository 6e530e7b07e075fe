-- Following the instructions that act one after another gives what `follow` says.
use Prim.Native.Nat.{ℕ}
use mathlib.Core.Path.{◌≡◌, refl, ap, sym, ◌∙◌}
use mathlib.Core.List.{List, [], ◌∷◌, ◌++◌, map, append_assoc, append-nil}
use Rattle.level.specs.Few.{few_of, with_one}
use Rattle.level.specs.Numbers.{instruction_places, course_places}
use Rattle.records.specs.declared.UnitData.{UnitData}
use Rattle.validation.specs.declared.Numbered.{Numbered}
use Rattle.validation.specs.Kept.{Mark, mark}
use Rattle.level.proofs.FewLists.{few_push}
use Rattle.profile.specs.declared.UnderWay.{UnderWay}
use Rattle.profile.specs.declared.Setting.{Setting}
use Rattle.std.specs.Prelude.{Some, None}
use Rattle.profile.specs.State.{by_rule}
use Rattle.profile.specs.Effects.{Followed, goes_on, replaces, follow}
use Rattle.profile.specs.Profile.{course_of, last_of}
use Rattle.course.specs.Course.{no_course}
use Rattle.profile.proofs.Following.{comes_to, new_course, follow_on, follow_new}
use Rattle.profile_follow.specs.declared.Walk.{Walk}
use Rattle.profile_follow.specs.Walk.{fate_in, walk_of, went_on, replaced_by}

-- f of each, and of one more
map_push : {A B : Type 0} (f : A → B) (z : B) (n : ℕ) (xs : List A) (x : A) →
    with_one (few_of n z (map f xs)) (f x) ≡ few_of n z (map f (xs ++ (x ∷ [])))
map_push f z n xs x = few_push n z (map f xs) (f x) ∙ ap (few_of n z) (sym (over xs))
  where
    over : (ys : List _) → map f (ys ++ (x ∷ [])) ≡ map f ys ++ (f x ∷ [])
    over [] = refl
    over (y ∷ ys) = ap (λ (zs : List _). f y ∷ zs) (over ys)

append_one : {A : Type 0} (xs : List A) (x : A) (ys : List A) → (xs ++ (x ∷ [])) ++ ys ≡ xs ++ (x ∷ ys)
append_one xs x ys = append_assoc xs (x ∷ []) ys

last_one : (c d : UnderWay) (us : List UnderWay) → last_of c (us ++ (d ∷ [])) ≡ d
unfolding last_of
last_one c d [] = refl
last_one c d (x ∷ us) = last_one x d us

module _ (u : UnitData) where
  -- the walk holds the beginning of a whole; the rest is what those left give
  pub record WalkProgress (w : Walk) (left : List Numbered) (whole : Followed) : Type 0 where
    pub us : List UnderWay
    pub ms : List Mark
    pub courses : us ++ (follow by_rule u w.now left).courses ≡ whole.courses
    pub marks : ms ++ (follow by_rule u w.now left).marks ≡ whole.marks
    pub holds : w ≡ walk_of w.now (record { marks = ms; courses = us ++ (w.now ∷ []) })

  pub walked_start : (now : UnderWay) (os : List Numbered) →
      WalkProgress (walk_of now (record { marks = []; courses = now ∷ [] })) os (follow by_rule u now os)
  unfolding walk_of
  walked_start now os = record { us = []; ms = []; courses = refl; marks = refl; holds = refl }

  module _ (w : Walk) (o : Numbered) (us : List UnderWay) (ms : List Mark)
      (e : w ≡ walk_of w.now (record { marks = ms; courses = us ++ (w.now ∷ []) })) where
    fated : (fate : ℕ) → with_one w.fates fate ≡ few_of instruction_places 0 (map fate_in (ms ++ (mark fate o ∷ [])))
    unfolding walk_of
    fated fate = ap (λ (x : Walk). with_one x.fates fate) e ∙ map_push fate_in 0 instruction_places ms (mark fate o)

    held_on : went_on w ≡ walk_of w.now (record { marks = ms ++ (mark 7 o ∷ []); courses = us ++ (w.now ∷ []) })
    unfolding walk_of went_on
    held_on = λ i. record { now = w.now; courses = (ap (λ (x : Walk). x.courses) e) i; fates = (fated 7) i }

    changed : (next : UnderWay) →
        replaced_by w next ≡ walk_of next (record { marks = ms ++ (mark 0 o ∷ []); courses = (us ++ (w.now ∷ [])) ++ (next ∷ []) })
    unfolding walk_of replaced_by
    changed next = λ i. record {
      now = next;
      courses = (ap (λ (x : Walk). with_one x.courses next.course) e
          ∙ map_push course_of no_course course_places (us ++ (w.now ∷ [])) next) i;
      fates = (fated 0) i;
    }

  -- one more: ignored, or with effect
  module _ (w : Walk) (o : Numbered) (os : List Numbered) (whole : Followed) (g : WalkProgress w (o ∷ os) whole) where
    pub walked_on : comes_to by_rule u w.now o ≡ None → WalkProgress (went_on w) os whole
    unfolding goes_on went_on
    walked_on e =
        let step = follow_on by_rule u w.now o os e in
        record {
          us = g.us;
          ms = g.ms ++ (mark 7 o ∷ []);
          courses = ap (λ (f : Followed). g.us ++ f.courses) (sym step) ∙ g.courses;
          marks =
              append_one g.ms (mark 7 o) (follow by_rule u w.now os).marks ∙ ap (λ (f : Followed). g.ms ++ f.marks) (sym step) ∙ g.marks;
          holds = held_on w o g.us g.ms g.holds;
        }

    pub walked_new : (set : Setting) → comes_to by_rule u w.now o ≡ Some set →
        WalkProgress (replaced_by w (new_course by_rule u w.now o set)) os whole
    unfolding replaces replaced_by
    walked_new set e =
        let next : UnderWay = new_course by_rule u w.now o set in
        let step = follow_new by_rule u w.now o os set e in
        record {
          us = g.us ++ (w.now ∷ []);
          ms = g.ms ++ (mark 0 o ∷ []);
          courses =
              append_one g.us w.now (follow by_rule u next os).courses ∙ ap (λ (f : Followed). g.us ++ f.courses) (sym step) ∙ g.courses;
          marks = append_one g.ms (mark 0 o) (follow by_rule u next os).marks ∙ ap (λ (f : Followed). g.ms ++ f.marks) (sym step) ∙ g.marks;
          holds = changed w o g.us g.ms g.holds next;
        }

  pub walked_end : (now : UnderWay) (w : Walk) (whole : Followed) → WalkProgress w [] whole → w ≡ walk_of (last_of now whole.courses) whole
  unfolding follow
  walked_end now w whole g =
      let last : w.now ≡ last_of now whole.courses = sym (last_one now w.now g.us) ∙ ap (last_of now) g.courses in
      let marks : g.ms ≡ whole.marks = sym (append-nil g.ms) ∙ g.marks in
      g.holds ∙ (λ i. walk_of (last i) (record { marks = marks i; courses = g.courses i }))
