-- A record by its front: the answer is the definition's, kind by kind.
use mathlib.Core.Path.{◌≡◌, refl, ap, sym, ◌∙◌}
use mathlib.Core.List.{List, [], ◌∷◌, ◌++◌}
use mathlib.Core.Bool.{Bool, not}
use Prim.Native.Nat.{ℕ, ◌<◌}
use lib.Dec.{leb, ltb}
use lib.ListN.{length}
use Rattle.std.specs.Prelude.{Ok, Err}
use Rattle.level.specs.Numbers.{instruction_places}
use Rattle.level.specs.Lists.{All}
use Rattle.records.specs.declared.Refusal.TheVariants.{TooFewBytes, SecondOne, BeforeUnit, OpeningTooHigh, TooManyInstructions, AfterClose}
use Rattle.records.specs.Answers.{Answer, refusing, before, answered, first_refusal}
use Rattle.records.specs.Records.{unit_size, opening_size, instruction_size, size_of, numbers, unit_of, opening_of, instruction_of}
use Rattle.records.specs.Fields.{unit_answer, opening_answer, instruction_answer}
use Rattle.profile.specs.declared.Taken.{Taken}
use Rattle.profile.specs.Taken.{has_unit, has_start, unit_or_zeros}
use Rattle.day.specs.Day.{day_seconds}
use Rattle.day.specs.Step.{too_high}
use Rattle.day.specs.ByKind.{instruction_refusals, kind_refusals}
use Rattle.day.proofs.Answers.{all_accepted}
use Rattle.day.proofs.ByKind.{instruction_passes}
use Rattle.day_enter.specs.Fronts.{early, body, unit_front, opening_front, instruction_front, front_answer}

-- ---- the first refusal of some conditions, then that of others
pub first_append : (xs ys : List Answer) → before (first_refusal xs) (first_refusal ys) ≡ first_refusal (xs ++ ys)
first_append [] ys = refl
first_append (Ok _ ∷ xs) ys = first_append xs ys
first_append (Err r ∷ xs) ys = refl

pub last_is : (a : Answer) → before a (Ok tt) ≡ a
last_is (Ok _) = refl
last_is (Err r) = refl

-- what is read behind an answer: its own answer comes second
module _ {A : Type 0} (x : A) where
  in_two : (a b : Answer) → before a (answered b x) ≡ answered (before a b) x
  in_two (Ok _) b = refl
  in_two (Err r) b = refl

  -- after 2, 24 and the conditions xs, those of the fields, ys
  read_behind : (size : ℕ) (closed : Bool) (s : List ℕ) (xs ys : List Answer) →
      before (early size closed s xs) (answered (first_refusal ys) x) ≡ answered (early size closed s (xs ++ ys)) x
  read_behind size closed s xs ys =
      in_two (early size closed s xs) (first_refusal ys)
      ∙ ap (λ (a : Answer). answered a x) (first_append (refusing (ltb (length s) size) TooFewBytes ∷ refusing closed AfterClose ∷ xs) ys)

-- ---- at the front of s, of what was taken, t
module _ (t : Taken) (closed : Bool) (s : List ℕ) where
  pub unit_front_is : unit_front (has_unit t) closed s ≡ answered (front_answer 1 t closed s) (unit_of (numbers (body unit_size s) 62))
  unfolding unit_front kind_refusals size_of
  unit_front_is =
      let ns : List ℕ = numbers (body unit_size s) 62 in
      let xs : List Answer = refusing (has_unit t) SecondOne ∷ [] in
      ap (λ (a : Answer). before (early unit_size closed s xs) (answered a (unit_of ns))) (sym (last_is (unit_answer ns)))
      ∙ read_behind (unit_of ns) unit_size closed s xs (unit_answer ns ∷ [])

  pub opening_front_is : opening_front t.unit (has_start t) closed s ≡ answered (front_answer 2 t closed s) (opening_of (body opening_size s))
  unfolding opening_front kind_refusals size_of
  opening_front_is =
      let b : List ℕ = body opening_size s in
      let xs : List Answer = refusing (has_start t) SecondOne ∷ refusing (not (has_unit t)) BeforeUnit ∷ [] in
      let high : Answer = refusing (too_high (unit_or_zeros t) (opening_of b)) OpeningTooHigh in
      ap (λ (a : Answer). before (early opening_size closed s xs) (answered (before (opening_answer b) a) (opening_of b))) (sym (last_is high))
      ∙ read_behind (opening_of b) opening_size closed s xs (opening_answer b ∷ high ∷ [])

  pub instruction_front_is : instruction_front (has_unit t) closed t.count s
      ≡ answered (front_answer 3 t closed s) (instruction_of (body instruction_size s))
  unfolding instruction_front kind_refusals size_of
  instruction_front_is =
      let b : List ℕ = body instruction_size s in
      let xs : List Answer = refusing (not (has_unit t)) BeforeUnit ∷ refusing (leb instruction_places t.count) TooManyInstructions ∷ [] in
      let a : Answer = instruction_answer day_seconds b in
      ap (λ (r : Answer). before (early instruction_size closed s xs) (answered r (instruction_of b))) (sym (last_is a))
      ∙ read_behind (instruction_of b) instruction_size closed s xs (a ∷ [])

  -- an instruction that is let in is one of the first forty
  pub instruction_room : front_answer 3 t closed s ≡ Ok tt → t.count < instruction_places
  unfolding kind_refusals size_of
  instruction_room e =
      let b : List ℕ = body instruction_size s in
      let a =
      all_accepted (refusing (ltb (length s) instruction_size) TooFewBytes ∷ refusing closed AfterClose ∷ instruction_refusals t b) e in
      (instruction_passes t b (again (instruction_refusals t b) a.1.1)).room
    where
      again : (xs : List Answer) → All (λ (x : Answer). x ≡ Ok tt) xs → first_refusal xs ≡ Ok tt
      again [] h = refl
      again (x ∷ xs) h = ap (λ (y : Answer). before y (first_refusal xs)) h.0 ∙ again xs h.1
