-- Believed: document 01, The printed day. The printed day, byte by byte, and what asking for it returns.
use Rattle.std.specs.Prelude.{ℕ, suc, List, [], ◌∷◌, ◌++◌, not, ltb, eqb, length, Result, Ok, Err}
use Rattle.level.specs.Choice.{pick}
use Rattle.records.specs.declared.Refusal.{Refusal}
use Rattle.records.specs.declared.Refusal.TheVariants.{NotReady, SliceTooShort}
use Rattle.records.specs.Answers.{Answer, accepted, refusing, answered, first_refusal}
use Rattle.course.specs.declared.Piece.{Piece}
use Rattle.profile.specs.declared.Closing.{Closing}
use Rattle.profile.specs.Profile.{spans_of, day_pieces}
use Rattle.profile.specs.Taken.{unit_or_zeros}
use Rattle.day.specs.declared.Day.{Day}
use Rattle.day.specs.Day.{day_seconds, fates_in, courses_in, quantities_in, closing_in, is_closed}
use Rattle.lines.specs.Lines.{f_line, s_line, q_line, e_line}
use Rattle.lines.specs.Text.{laid}

-- "F n fate by number", from the number n on
unfoldable pub f_lines : ℕ → List ℕ → List ℕ
f_lines n [] = []
f_lines n (fate ∷ fates) = f_line n fate ++ f_lines (suc n) fates

-- "S from to level level", one for each piece
unfoldable pub s_lines : List Piece → List ℕ
s_lines [] = []
s_lines (p ∷ ps) = s_line p.from p.to p.enter p.leave ++ s_lines ps

-- "Q first last kW, longest runs of equal quantities": of the run of k from the half-hour first to the half-hour last so far, then those of qs
unfoldable pub run_lines : ℕ → ℕ → ℕ → List ℕ → List ℕ
run_lines first last k [] = q_line first last k
run_lines first last k (q ∷ qs) = pick (eqb q k) (run_lines first (suc last) k qs) (q_line first last k ++ run_lines (suc last) (suc last) q qs)

unfoldable pub q_lines : List ℕ → List ℕ
q_lines [] = []
q_lines (q ∷ qs) = run_lines 1 1 q qs

-- "Each line is laid down after the lines already written": F, S, Q, E
unfoldable pub listing : List ℕ → List Piece → List ℕ → Closing → List ℕ
listing fates pieces quantities e =
    f_lines 1 fates ++ (s_lines pieces ++ (q_lines quantities ++ e_line e.level.grains e.target e.heat e.off))

unfoldable pub printed_day : Day → List ℕ
printed_day d = listing (fates_in d) (day_pieces (spans_of (unit_or_zeros d.taken) day_seconds (courses_in d))) (quantities_in d) (closing_in d)

-- "46,080 bytes always suffice"
abbrev pub suffices : ℕ
suffices = 46080

-- asking for it, with a lent slice o: the count of bytes written, or the refusal. "25 .. a listing before close. 26 listing longer than the lent slice"; "for a listing 25, 26"
unfoldable pub list_answer : Day → List ℕ → Answer
list_answer d o = first_refusal (refusing (not (is_closed d)) NotReady ∷ refusing (ltb (length o) (length (printed_day d))) SliceTooShort ∷ [])

unfoldable pub list_of : Day → List ℕ → Result ℕ Refusal
list_of d o = answered (list_answer d o) (length (printed_day d))

-- the bytes written: none at a refusal
abbrev pub count_of : Result ℕ Refusal → ℕ
count_of (Ok n) = n
count_of (Err r) = 0

-- the lent slice after it: "bytes past the listing being unchanged"; a refusal leaves "untouched output"
unfoldable pub lent_after : Day → List ℕ → List ℕ
lent_after d o = pick (accepted (list_answer d o)) (laid (printed_day d) o) o
