-- What the reader finds in a listing: for each half-hour one Q line, with its quantity.
use Prim.Native.Nat.{ℕ, zero, suc, ◌+◌, ◌*◌, ◌-◌, ◌/◌, ◌%◌, ◌<◌, ◌≤◌}
use mathlib.Core.Path.{◌≡◌, refl, sym, ap, ◌∙◌}
use mathlib.Core.List.{List, [], ◌∷◌, ◌++◌, append_assoc, append-nil}
use mathlib.Core.Bool.{true, ◌&&◌}
use native.Mathlib.Omega.{arith}
use lib.Dec.{ltb, leb, eqb}
use lib.ListN.{length, get_or}
use borrow.Author.Tests.{ltb-true, ltb-false, le-leb, lt-leb, eq-eqb, ne_eqb, eqb-true}
use Rattle.level.specs.Choice.{pick}
use Rattle.level.specs.Lists.{All}
use Rattle.level.proofs.Lists.{by_bool, all_append}
use Rattle.course.specs.declared.Piece.{Piece}
use Rattle.profile.specs.declared.Closing.{Closing}
use Rattle.lines.specs.Lines.{f_line, s_line, q_line, e_line}
use Rattle.lines.specs.Text.{digits, decimal, field, fields, line}
use Rattle.lines.proofs.Decimals.{decimal_some, digits_low, digits_high}
use Rattle.listing.specs.Listing.{f_lines, s_lines, run_lines, q_lines, listing}
use Rattle.listing.specs.Reader.{longer, parted, lines_of, words_of, is_byte, all_digits, is_decimal, value_from, value, enclosing, in_lines, printed_at, first_of, printed_kw}

-- ---- parts of bytes
abbrev Without : ℕ → List ℕ → Type 0
Without c bs = All (λ (b : ℕ). b ≡ c → ⊥) bs

parted_end : (c : ℕ) (xs ys : List ℕ) → Without c xs → parted c (xs ++ (c ∷ ys)) ≡ xs ∷ parted c ys
unfolding parted
parted_end c [] ys p = simp (eq-eqb c c refl)
parted_end c (x ∷ xs) ys p = simp (ne_eqb x c p.0) (ap (longer x) (parted_end c xs ys p.1))

-- ---- decimal numbers
abbrev Digit : ℕ → Type 0
Digit b = (48 ≤ b) × (b ≤ 57)

abbrev Digits : List ℕ → Type 0
Digits bs = All Digit bs

digits_are : (f v : ℕ) → Digits (digits f v)
digits_are zero v = unfold digits in tt
digits_are (suc f) v =
    by_bool (ltb v 10)
    (λ e. let h : v < 10 = ltb-true v 10 e in rw (digits_low f v e) ((omega arith, omega arith), tt))
    (λ e. rw (digits_high f v e) (all_append Digit (digits f (v / 10)) ((v % 10 + 48) ∷ []) (digits_are f (v / 10)) ((omega arith, omega arith), tt)))

decimal_digits : (v : ℕ) → Digits (decimal v)
unfolding decimal
decimal_digits v = digits_are (suc v) v

without : (c : ℕ) → c < 48 → (ds : List ℕ) → Digits ds → Without c ds
without c h [] p = tt
without c h (d ∷ ds) p = (λ e. omega arith, without c h ds p.1)

all_digits_lem : (ds : List ℕ) → Digits ds → all_digits ds ≡ true
unfolding all_digits
all_digits_lem [] p = refl
all_digits_lem (d ∷ ds) p = simp (le-leb 48 d p.0.0, le-leb d 57 p.0.1, all_digits_lem ds p.1)

is_decimal_lem : (v : ℕ) → is_decimal (decimal v) ≡ true
unfolding is_decimal
is_decimal_lem v = simp (le-leb 1 (length (decimal v)) (decimal_some v), all_digits_lem (decimal v) (decimal_digits v))

value_append : (v : ℕ) (xs ys : List ℕ) → value_from v (xs ++ ys) ≡ value_from (value_from v xs) ys
unfolding value_from
value_append v [] ys = refl
value_append v (x ∷ xs) ys = value_append (v * 10 + (x - 48)) xs ys

value_digits : (f v : ℕ) → v < f → value_from 0 (digits f v) ≡ v
unfolding value_from
value_digits zero v h = absurd (omega arith)
value_digits (suc f) v h =
    by_bool (ltb v 10)
    (λ e. rw (digits_low f v e) (omega arith))
    (λ e. let g : 10 ≤ v = ltb-false v 10 e in
    rw (digits_high f v e) (value_append 0 (digits f (v / 10)) ((v % 10 + 48) ∷ []) ∙ omega (arith, value_digits f (v / 10) (omega arith))))

value_decimal : (v : ℕ) → value (decimal v) ≡ v
unfolding value decimal
value_decimal v = value_digits (suc v) v (omega arith)

-- ---- lines
abbrev decimals : List ℕ → List (List ℕ)
decimals [] = []
decimals (v ∷ vs) = decimal v ∷ decimals vs

fields_without : (vs : List ℕ) → Without 10 (fields vs)
unfolding fields field
fields_without [] = tt
fields_without (v ∷ vs) =
    (λ e. omega arith, all_append _ (decimal v) (fields vs) (without 10 (omega arith) (decimal v) (decimal_digits v)) (fields_without vs))

words_of_lem : (ds vs : List ℕ) → Without 32 ds → parted 32 (ds ++ (fields vs ++ (32 ∷ []))) ≡ ds ∷ decimals vs
unfolding fields field
words_of_lem ds [] p = parted_end 32 ds [] p ∙ unfold parted in refl
words_of_lem ds (v ∷ vs) p =
    parted_end 32 ds ((decimal v ++ fields vs) ++ (32 ∷ [])) p
    ∙ ap (λ (l : List (List ℕ)). ds ∷ l) (ap (parted 32) (append_assoc (decimal v) (fields vs) (32 ∷ []))
    ∙ words_of_lem (decimal v) vs (without 32 (omega arith) (decimal v) (decimal_digits v)))

-- a line in front: what it says of the half-hour, and then what the rest says
printed_line : (h letter : ℕ) (vs rest : List ℕ) → (letter ≡ 10 → ⊥) → (letter ≡ 32 → ⊥)
    → printed_at (line letter vs ++ rest) h ≡ enclosing h ((letter ∷ []) ∷ decimals vs) ++ printed_at rest h
unfolding printed_at lines_of line
printed_line h letter vs rest p q =
    ap (in_lines h) (ap (parted 10) (ap (λ (l : List ℕ). letter ∷ l) (append_assoc (fields vs) (10 ∷ []) rest))
    ∙ parted_end 10 (letter ∷ fields vs) rest (p, fields_without vs))
    ∙ unfold in_lines words_of in ap (λ (ws : List (List ℕ)). enclosing h ws ++ in_lines h (parted 10 rest)) (words_of_lem (letter ∷ []) vs (q, tt))

q_words : (h first last k : ℕ) → enclosing h ((81 ∷ []) ∷ decimals (first ∷ last ∷ k ∷ [])) ≡ pick (leb first h && leb h last) (k ∷ []) []
unfolding enclosing is_byte
q_words h first last k = simp (is_decimal_lem first, is_decimal_lem last, is_decimal_lem k, value_decimal first, value_decimal last, value_decimal k)

printed_q : (h first last k : ℕ) (rest : List ℕ) →
    printed_at (q_line first last k ++ rest) h ≡ pick (leb first h && leb h last) (k ∷ []) [] ++ printed_at rest h
unfolding q_line
printed_q h first last k rest =
    printed_line h 81 (first ∷ last ∷ k ∷ []) rest (λ e. omega arith) (λ e. omega arith)
    ∙ ap (λ (l : List ℕ). l ++ printed_at rest h) (q_words h first last k)

module _ (h first last k : ℕ) (rest : List ℕ) where
  q_before : h < first → printed_at (q_line first last k ++ rest) h ≡ printed_at rest h
  q_before p = printed_q h first last k rest ∙ simp (lt-leb first h p)

  q_in : first ≤ h → h ≤ last → printed_at (q_line first last k ++ rest) h ≡ k ∷ printed_at rest h
  q_in p q = printed_q h first last k rest ∙ simp (le-leb first h p, le-leb h last q)

  q_after : first ≤ h → last < h → printed_at (q_line first last k ++ rest) h ≡ printed_at rest h
  q_after p q = printed_q h first last k rest ∙ simp (le-leb first h p, lt-leb h last q)

-- ---- runs
module _ (h : ℕ) (rest : List ℕ) where
  runs_before : (first last k : ℕ) (qs : List ℕ) → h < first → first ≤ last → printed_at (run_lines first last k qs ++ rest) h ≡ printed_at rest h
  unfolding run_lines
  runs_before first last k [] p q = q_before h first last k rest p
  runs_before first last k (x ∷ qs) p q =
      by_bool (eqb x k)
      (λ e. simp e (runs_before first (suc last) k qs p (omega arith)))
      (λ e. simp (e, append_assoc) (q_before h first last k (run_lines (suc last) (suc last) x qs ++ rest) p
      ∙ runs_before (suc last) (suc last) x qs (omega arith) (omega arith)))

  runs_in : (first last k : ℕ) (qs : List ℕ) → first ≤ h → h ≤ last → printed_at (run_lines first last k qs ++ rest) h ≡ k ∷ printed_at rest h
  unfolding run_lines
  runs_in first last k [] p q = q_in h first last k rest p q
  runs_in first last k (x ∷ qs) p q =
      by_bool (eqb x k)
      (λ e. simp e (runs_in first (suc last) k qs p (omega arith)))
      (λ e. simp (e, append_assoc) (q_in h first last k (run_lines (suc last) (suc last) x qs ++ rest) p q
      ∙ ap (λ (l : List ℕ). k ∷ l) (runs_before (suc last) (suc last) x qs (omega arith) (omega arith))))

  -- the i-th after the run so far
  runs_after : (first last k : ℕ) (qs : List ℕ) (i : ℕ) → first ≤ last → h ≡ suc last + i → i < length qs →
      printed_at (run_lines first last k qs ++ rest) h ≡ get_or qs i 0 ∷ printed_at rest h
  unfolding run_lines
  runs_after first last k [] i p e l = absurd (omega arith)
  runs_after first last k (x ∷ qs) zero p e l =
      by_bool (eqb x k)
      (λ t. simp t (runs_in first (suc last) k qs (omega arith) (omega arith) ∙ ap (λ (n : ℕ). n ∷ printed_at rest h) (sym (eqb-true x k t))))
      (λ t. simp (t, append_assoc) (q_after h first last k (run_lines (suc last) (suc last) x qs ++ rest) (omega arith) (omega arith)
      ∙ runs_in (suc last) (suc last) x qs (omega arith) (omega arith)))
  runs_after first last k (x ∷ qs) (suc i) p e l =
      by_bool (eqb x k)
      (λ t. simp t (runs_after first (suc last) k qs i (omega arith) (omega arith) (omega arith)))
      (λ t. simp (t, append_assoc) (q_after h first last k (run_lines (suc last) (suc last) x qs ++ rest) (omega arith) (omega arith)
      ∙ runs_after (suc last) (suc last) x qs i (omega arith) (omega arith) (omega arith)))

printed_runs : (qs rest : List ℕ) (i : ℕ) → i < length qs → printed_at (q_lines qs ++ rest) (suc i) ≡ get_or qs i 0 ∷ printed_at rest (suc i)
unfolding q_lines
printed_runs [] rest i l = absurd (omega arith)
printed_runs (q ∷ qs) rest zero l = runs_in 1 rest 1 1 q qs (omega arith) (omega arith)
printed_runs (q ∷ qs) rest (suc i) l = runs_after (suc (suc i)) rest 1 1 q qs i (omega arith) (omega arith) (omega arith)

-- ---- the other lines
printed_f : (h n : ℕ) (fates rest : List ℕ) → printed_at (f_lines n fates ++ rest) h ≡ printed_at rest h
unfolding f_lines f_line enclosing
printed_f h n [] rest = refl
printed_f h n (f ∷ fates) rest =
    simp append_assoc (printed_line h 70 (n ∷ f ∷ []) (f_lines (suc n) fates ++ rest) (λ e. omega arith) (λ e. omega arith)
    ∙ printed_f h (suc n) fates rest)

printed_s : (h : ℕ) (ps : List Piece) (rest : List ℕ) → printed_at (s_lines ps ++ rest) h ≡ printed_at rest h
unfolding s_lines s_line enclosing
printed_s h [] rest = refl
printed_s h (p ∷ ps) rest =
    simp append_assoc (printed_line h 83 (p.from ∷ p.to ∷ p.enter ∷ p.leave ∷ []) (s_lines ps ++ rest) (λ e. omega arith) (λ e. omega arith)
    ∙ printed_s h ps rest)

printed_e : (h level target heat off : ℕ) (rest : List ℕ) → printed_at (e_line level target heat off ++ rest) h ≡ printed_at rest h
unfolding e_line enclosing
printed_e h level target heat off rest = printed_line h 69 (level ∷ target ∷ heat ∷ off ∷ []) rest (λ t. omega arith) (λ t. omega arith)

-- a listing prints for each half-hour its quantity, on one line; lines that follow it are further lines
pub printed_more : (fates : List ℕ) (ps : List Piece) (qs : List ℕ) (e : Closing) (more : List ℕ) (h : ℕ) → 1 ≤ h → h ≤ length qs
    → printed_at (listing fates ps qs e ++ more) h ≡ get_or qs (h - 1) 0 ∷ printed_at more h
unfolding listing
printed_more fates ps qs e more zero p q = absurd (omega arith)
printed_more fates ps qs e more (suc i) p q =
    let last : List ℕ = e_line e.level.grains e.target e.heat e.off in
    simp append_assoc (printed_f (suc i) 1 fates (s_lines ps ++ (q_lines qs ++ (last ++ more)))
    ∙ (printed_s (suc i) ps (q_lines qs ++ (last ++ more))
    ∙ (printed_runs qs (last ++ more) i (omega arith)
    ∙ (ap (λ (l : List ℕ). get_or qs i 0 ∷ l) (printed_e (suc i) e.level.grains e.target e.heat e.off more)
    ∙ ap (λ (n : ℕ). get_or qs n 0 ∷ printed_at more (suc i)) (omega arith)))))

nothing : (h : ℕ) → printed_at [] h ≡ []
unfolding printed_at lines_of parted in_lines
nothing h = refl

pub printed : (fates : List ℕ) (ps : List Piece) (qs : List ℕ) (e : Closing) (h : ℕ) → 1 ≤ h → h ≤ length qs →
    printed_at (listing fates ps qs e) h ≡ get_or qs (h - 1) 0 ∷ []
printed fates ps qs e h p q =
    ap (λ (l : List ℕ). printed_at l h) (sym (append-nil (listing fates ps qs e)))
    ∙ (printed_more fates ps qs e [] h p q ∙ ap (λ (l : List ℕ). get_or qs (h - 1) 0 ∷ l) (nothing h))

pub printed_kw_lem : (fates : List ℕ) (ps : List Piece) (qs : List ℕ) (e : Closing) (i : ℕ) → i < length qs →
    printed_kw (listing fates ps qs e) (suc i) ≡ get_or qs i 0
unfolding printed_kw
printed_kw_lem fates ps qs e i l = ap first_of (printed fates ps qs e (suc i) (omega arith) (omega arith)) ∙ ap (λ (n : ℕ). get_or qs n 0) (omega arith)
