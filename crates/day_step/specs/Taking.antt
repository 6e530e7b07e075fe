-- Working. A record taken where it is: what is returned, and what is left.
use Rattle.std.specs.Prelude.{ℕ, ◌≡◌, List, [], ◌∷◌, Bool, Result, Ok, Err}
use Rattle.level.specs.Choice.{pick}
use Rattle.records.specs.declared.Refusal.{Refusal}
use Rattle.records.specs.declared.Refusal.TheVariants.{TooFewBytes, AfterClose}
use Rattle.records.specs.declared.Kind.{Kind}
use Rattle.records.specs.Kinds.{kind_by}
use Rattle.records.specs.Answers.{accepted, refusing, answered, first_refusal}
use Rattle.records.specs.Records.{size_of, close_size}
use Rattle.profile.specs.declared.Taken.{Taken}
use Rattle.profile.specs.Taken.{taken_with}
use Rattle.profile.specs.Profile.{Found}
use Rattle.day.specs.declared.Day.{Day}
use Rattle.day.specs.declared.Stepped.{Stepped}
use Rattle.day.specs.Day.{day_with, is_closed}
use Rattle.day.specs.Step.{accept, settle}
use Rattle.day.specs.ByKind.{close_refusals}
use Rattle.day_enter.specs.Fronts.{body, front_answer}

-- the kind of the record at the front of s: 2 if empty, 1
abbrev pub kind_at : List ℕ → Result Kind Refusal
kind_at [] = Err TooFewBytes
kind_at (x ∷ s) = kind_by x

-- the step that the bytes used or the refusal r tell, of a call that leaves the day d
abbrev pub stepped : Result ℕ Refusal → Day → Stepped
stepped (Ok n) d = accept d n
stepped (Err r) d = record { answer = Err r; day = d; used = 0 }

-- of a record of the kind k at the front of s: the result r, and what of t is left, u
pub record TakenBy (k : ℕ) (t : Taken) (closed : Bool) (s : List ℕ) (r : Result ℕ Refusal) (u : Taken) : Type 0 where
  pub used : r ≡ answered (front_answer k t closed s) (size_of k)
  pub taken : u ≡ pick (accepted (front_answer k t closed s)) (taken_with t k (body (size_of k) s)) t

-- a close of the day d, find giving what is found
abbrev pub close_taken : (Taken → Found) → Day → Stepped
close_taken find d =
    settle (first_refusal (refusing (is_closed d) AfterClose ∷ close_refusals d.taken (find d.taken))) d (accept (day_with find d 4 []) close_size)
