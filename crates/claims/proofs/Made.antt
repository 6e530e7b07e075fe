-- In every day that calls make from the empty one, what is stored is what the definitions give from the records let in.
use mathlib.Core.Path.{◌≡◌, refl, ap, sym, ◌∙◌, subst}
use mathlib.Core.List.{List, [], ◌∷◌, ◌++◌, map, append-nil}
use mathlib.Core.Bool.{Bool, true, false, ◌||◌}
use Prim.Native.Nat.{ℕ, zero, suc, ◌+◌, ◌-◌, ◌≤◌, ◌<◌}
use native.Mathlib.Decide.{ℕ_discrete}
use native.Mathlib.Omega.{arith}
use lib.Dec.{eqb}
use lib.ListN.{length, get_or, take, drop, set, length-append}
use lib.Seq.{get_or-take, take-take, take-nil}
use borrow.Author.Tests.{eq-eqb, ne_eqb, eqb-true}
use Rattle.level.specs.Choice.{pick}
use Rattle.level.specs.Lists.{those, some, filled}
use Rattle.level.specs.Numbers.{instruction_places}
use Rattle.level.proofs.Lists.{by_bool, some_append}
use Rattle.std.specs.Prelude.{Option, None, Some, Ok}
use Rattle.std.specs.Option.{is_some, unwrap_or}
use Rattle.records.specs.Records.{size_of, numbers, unit_of, column_of, trigger_of, opening_of, instruction_of, no_instruction}
use Rattle.records.specs.Fields.{unit_answer}
use Rattle.profile.specs.declared.Taken.{Taken}
use Rattle.profile.specs.Bounds.{Low}
use Rattle.profile.specs.Taken.{start_of, no_taken, taken_with, has_unit, has_start, unit_or_zeros, start_or_zeros}
use Rattle.profile.specs.Profile.{paper}
use Rattle.profile.specs.declared.Finding.{Finding}
use Rattle.profile.specs.Finding.{no_finding, arrays_of}
use Rattle.day.specs.declared.Day.{Day}
use Rattle.day.specs.Day.{found_in, empty, day_with, is_closed, finding_in}
use Rattle.day.specs.Step.{kind_of, body_of}
use Rattle.day.proofs.Answers.{never, some_or, some_if}
use Rattle.day.proofs.ByKind.{RecordPasses, some_size}
use Rattle.claims.specs.LetIn.{of_kind, has_kind, body_of_kind, unit_in, opening_in, instructions_in, taken_in, found_from}
use Rattle.claims.proofs.Low.{start_low}
use Rattle.level.proofs.Arrays.{filled_push}

-- ---- a record at the front of a slice

abbrev pub front : List ℕ → List ℕ
front s = take (size_of (kind_of s)) s

front_kind : (s : List ℕ) → kind_of (front s) ≡ kind_of s
unfolding kind_of
front_kind s = get_or-take (size_of (get_or s 0 0)) s 0 0 (some_size (get_or s 0 0))

drop_front : (n : ℕ) (s : List ℕ) → 1 ≤ n → drop 1 (take n s) ≡ take (n - 1) (drop 1 s)
drop_front zero s h = absurd (omega arith)
drop_front (suc n) [] h = sym (take-nil (suc n - 1))
drop_front (suc n) (x ∷ s) h = ap (λ (k : ℕ). take k s) {x = n} {y = suc n - 1} (omega arith)

front_body : (s : List ℕ) → body_of (front s) ≡ body_of s
unfolding body_of
front_body s =
    ap (λ (k : ℕ). take (size_of k - 1) (drop 1 (front s))) (front_kind s)
    ∙ (ap (take (size_of (kind_of s) - 1)) (drop_front (size_of (kind_of s)) s (some_size (kind_of s)))
    ∙ take-take (size_of (kind_of s) - 1) (size_of (kind_of s) - 1) (drop 1 s) (omega arith))

-- ---- one more record let in
abbrev pub with_one : List (List ℕ) → List ℕ → List (List ℕ)
with_one rs s = rs ++ (front s ∷ [])

those_append : (f : List ℕ → Bool) (xs ys : List (List ℕ)) → those f (xs ++ ys) ≡ those f xs ++ those f ys
unfolding those
those_append f [] ys = refl
those_append f (x ∷ xs) ys =
    by_bool (f x) (λ e. simp e (ap (λ (l : List (List ℕ)). x ∷ l) (those_append f xs ys))) (λ e. simp e (those_append f xs ys))

some_last : (f : List ℕ → Bool) (xs : List (List ℕ)) (y : List ℕ) → some f (xs ++ (y ∷ [])) ≡ (f y || some f xs)
unfolding some
some_last f xs y = some_append f xs (y ∷ []) ∙ go (some f xs) (f y)
  where
    go : (a b : Bool) → (a || (b || false)) ≡ (b || a)
    go true true = refl
    go true false = refl
    go false true = refl
    go false false = refl

none_those : (f : List ℕ → Bool) (xs : List (List ℕ)) → some f xs ≡ false → those f xs ≡ []
unfolding some those
none_those f [] e = refl
none_those f (x ∷ xs) e =
    by_bool (f x) (λ t. never (sym e ∙ ap (λ (b : Bool). b || some f xs) t))
    (λ t. simp t (none_those f xs (sym (ap (λ (b : Bool). b || some f xs) t) ∙ e)))

-- of the kind k
module _ (k : ℕ) (rs : List (List ℕ)) (s : List ℕ) where
  own : eqb (kind_of (front s)) k ≡ eqb (kind_of s) k
  own = ap (λ (n : ℕ). eqb n k) (front_kind s)

  -- there is one: it is of the kind, or there was one
  pub has_with : has_kind k (with_one rs s) ≡ (eqb (kind_of s) k || has_kind k rs)
  unfolding has_kind
  has_with = some_last (λ r. eqb (kind_of r) k) rs (front s) ∙ ap (λ (b : Bool). b || has_kind k rs) own

  -- all of them: one more at the end if it is of the kind
  pub of_with : of_kind k (with_one rs s) ≡ of_kind k rs ++ pick (eqb (kind_of s) k) (front s ∷ []) []
  unfolding of_kind those
  of_with = those_append (λ r. eqb (kind_of r) k) rs (front s ∷ []) ∙ ap (λ (b : Bool). of_kind k rs ++ pick b (front s ∷ []) []) own

  -- the first: it, if it is of the kind and the first; else what it was
  pub body_with : (kind_of s ≡ k → has_kind k rs ≡ false) → body_of_kind k (with_one rs s) ≡ pick (eqb (kind_of s) k) (body_of s) (body_of_kind k rs)
  unfolding body_of_kind has_kind of_kind
  body_with first = ap (λ (l : List (List ℕ)). body_of (get_or l 0 [])) of_with ∙ elim (ℕ_discrete (kind_of s) k) [
    | yes e ↦ rw (eq-eqb (kind_of s) k e) (ap (λ (l : List (List ℕ)). body_of (get_or (l ++ (front s ∷ [])) 0 []))
        (none_those (λ r. eqb (kind_of r) k) rs (first e)) ∙ front_body s)
    | no n ↦ rw (ne_eqb (kind_of s) k n) (ap (λ (l : List (List ℕ)). body_of (get_or l 0 [])) (append-nil (of_kind k rs)))
  ]

-- a fact P of the body of the kind k, where there is one: a record of that kind comes at most once
abbrev pub Once : (List ℕ → Type 0) → ℕ → List (List ℕ) → Type 0
Once P k rs = has_kind k rs ≡ true → P (body_of_kind k rs)

pub once_with : (P : List ℕ → Type 0) (k : ℕ) (rs : List (List ℕ)) (s : List ℕ) → (kind_of s ≡ k → has_kind k rs ≡ false) →
    (kind_of s ≡ k → P (body_of s)) → Once P k rs → Once P k (with_one rs s)
once_with P k rs s first new old h = subst P (sym (body_with k rs s first)) (elim (ℕ_discrete (kind_of s) k) [
  | yes e ↦ rw (eq-eqb (kind_of s) k e) (new e)
  | no n ↦ rw (ne_eqb (kind_of s) k n) (old (sym (has_with k rs s ∙ ap (λ (b : Bool). b || has_kind k rs) (ne_eqb (kind_of s) k n)) ∙ h))
])

-- what is read of all records of the kind k
module _ {A : Type 0} (read : List ℕ → A) (k : ℕ) (rs : List (List ℕ)) (s : List ℕ) where
  abbrev reads : List (List ℕ) → List A
  reads l = map (λ r. read (body_of r)) l

  map_append : (xs ys : List (List ℕ)) → reads (xs ++ ys) ≡ reads xs ++ reads ys
  map_append [] ys = refl
  map_append (x ∷ xs) ys = ap (λ (l : List A). read (body_of x) ∷ l) (map_append xs ys)

  pub many_with : reads (of_kind k (with_one rs s)) ≡ pick (eqb (kind_of s) k) (reads (of_kind k rs) ++ (read (body_of s) ∷ [])) (reads (of_kind k rs))
  many_with = ap reads (of_with k rs s) ∙ (map_append (of_kind k rs) (pick (eqb (kind_of s) k) (front s ∷ []) []) ∙ go (eqb (kind_of s) k))
    where
      go : (b : Bool) →
          reads (of_kind k rs) ++ reads (pick b (front s ∷ []) []) ≡ pick b (reads (of_kind k rs) ++ (read (body_of s) ∷ [])) (reads (of_kind k rs))
      go true = ap (λ (x : List ℕ). reads (of_kind k rs) ++ (read x ∷ [])) (front_body s)
      go false = append-nil (reads (of_kind k rs))

-- ---- what was taken, with one more record that may come
pub record MayCome (rs : List (List ℕ)) (s : List ℕ) : Type 0 where
  pub unit : kind_of s ≡ 1 → has_kind 1 rs ≡ false
  pub opening : kind_of s ≡ 2 → has_kind 2 rs ≡ false
  pub instruction : kind_of s ≡ 3 → length (instructions_in rs) < instruction_places

module _ (rs : List (List ℕ)) (s : List ℕ) (may : MayCome rs s) where
  abbrev k : ℕ
  k = kind_of s

  abbrev b : List ℕ
  b = body_of s

  instructions_with : instructions_in (with_one rs s) ≡ pick (eqb k 3) (instructions_in rs ++ (instruction_of b ∷ [])) (instructions_in rs)
  unfolding instructions_in
  instructions_with = many_with instruction_of 3 rs s

  count_with : length (instructions_in (with_one rs s)) ≡ pick (eqb k 3) (length (instructions_in rs) + 1) (length (instructions_in rs))
  count_with = ap length instructions_with ∙ go (eqb k 3)
    where
      go : (c : Bool) → length (pick c (instructions_in rs ++ (instruction_of b ∷ [])) (instructions_in rs)) ≡ pick c (length (instructions_in rs) + 1)
          (length (instructions_in rs))
      go true = length-append (instructions_in rs) (instruction_of b ∷ [])
      go false = refl

  places_with : filled instruction_places no_instruction (instructions_in (with_one rs s))
      ≡ pick (eqb k 3) (set (filled instruction_places no_instruction (instructions_in rs)) (length (instructions_in rs)) (instruction_of b))
      (filled instruction_places no_instruction (instructions_in rs))
  places_with = ap (filled instruction_places no_instruction) instructions_with ∙ elim (ℕ_discrete k 3) [
    | yes e ↦ rw (eq-eqb k 3 e) (sym (filled_push no_instruction instruction_places (instructions_in rs) (instruction_of b) (may.instruction e)))
    | no n ↦ rw (ne_eqb k 3 n) refl
  ]

  pub taken_with_lem : taken_in (with_one rs s) ≡ taken_with (taken_in rs) k b
  unfolding taken_in taken_with unit_in opening_in
  taken_with_lem = λ i. record {
    unit = came 1 (λ (x : List ℕ). unit_of (numbers x 62)) may.unit i;
    start = came 2 (λ (x : List ℕ). start_of (opening_of x)) may.opening i;
    count = count_with i;
    instructions = places_with i;
  }
    where
      -- what a record of the kind c says, and what those before it said
      choose : {A : Type 0} (read : List ℕ → A) (c h : Bool) (x y : List ℕ) →
          pick (c || h) (Some (read (pick c x y))) None ≡ pick c (Some (read x)) (pick h (Some (read y)) None)
      choose read true h x y = refl
      choose read false h x y = refl

      came : {A : Type 0} (c : ℕ) (read : List ℕ → A) → (k ≡ c → has_kind c rs ≡ false) →
          pick (has_kind c (with_one rs s)) (Some (read (body_of_kind c (with_one rs s)))) None
          ≡ pick (eqb k c) (Some (read b)) (pick (has_kind c rs) (Some (read (body_of_kind c rs))) None)
      came c read may =
          (λ i. pick (has_with c rs s i) (Some (read (body_with c rs s may i))) None) ∙ choose read (eqb k c) (has_kind c rs) b (body_of_kind c rs)

-- ---- what is in what was taken, of the records that came
came_of : {A : Type 0} (k : ℕ) (read : List ℕ → A) (rs : List (List ℕ)) (z : A) → read [] ≡ z →
    unwrap_or (pick (has_kind k rs) (Some (read (body_of_kind k rs))) None) z ≡ read (body_of_kind k rs)
unfolding has_kind body_of_kind of_kind body_of kind_of size_of
came_of k read rs z e = by_bool (has_kind k rs) (λ h. rw h refl)
    (λ h. rw h (sym e ∙ ap (λ (l : List (List ℕ)). read (body_of (get_or l 0 []))) (sym (none_those (λ r. eqb (kind_of r) k) rs h))))

pub taken_unit : (rs : List (List ℕ)) → unit_or_zeros (taken_in rs) ≡ unit_in rs
unfolding taken_in unit_in numbers unit_of column_of trigger_of
taken_unit rs = came_of 1 (λ (b : List ℕ). unit_of (numbers b 62)) rs (unit_of []) refl

pub taken_start : (rs : List (List ℕ)) → start_or_zeros (taken_in rs) ≡ start_of (opening_in rs)
unfolding taken_in opening_in
taken_start rs = came_of 2 (λ (b : List ℕ). start_of (opening_of b)) rs (start_of (opening_of [])) refl

pub had_unit : (rs : List (List ℕ)) → has_unit (taken_in rs) ≡ has_kind 1 rs
unfolding taken_in
had_unit rs = some_if (has_kind 1 rs) (unit_in rs)

pub had_start : (rs : List (List ℕ)) → has_start (taken_in rs) ≡ has_kind 2 rs
unfolding taken_in
had_start rs = some_if (has_kind 2 rs) (start_of (opening_in rs))

-- ---- what the refusals see to
abbrev UnitFits : List ℕ → Type 0
UnitFits b = unit_answer (numbers b 62) ≡ Ok tt

-- what the day starts from keeps to its unit, which came before
abbrev LowStart : Taken → Type 0
LowStart t = has_start t ≡ true → (has_unit t ≡ true) × Low (unit_or_zeros t) (start_or_zeros t)

low_with : (t : Taken) (k : ℕ) (b : List ℕ) → (k ≡ 1 → has_unit t ≡ false) → (k ≡ 2 → (has_unit t ≡ true) × Low (unit_or_zeros t) (start_of (opening_of b))) →
    LowStart t → LowStart (taken_with t k b)
unfolding taken_with
low_with t k b first new old = elim (ℕ_discrete k 1) [
  | yes e ↦ rw e (λ h. never (sym (first e) ∙ (old h).0))
  | no n1 ↦ elim (ℕ_discrete k 2) [
    | yes e ↦ rw e (λ h. new e)
    | no n2 ↦ simp (ne_eqb k 1 n1, ne_eqb k 2 n2) old
  ]
]

pub record LetInBounds (rs : List (List ℕ)) : Type 0 where
  pub unit : Once UnitFits 1 rs
  pub low : LowStart (taken_in rs)
  pub few : length (instructions_in rs) ≤ instruction_places

-- of a day with an opening
pub keeps : (rs : List (List ℕ)) → LetInBounds rs → has_kind 2 rs ≡ true → (has_kind 1 rs ≡ true) × Low (unit_or_zeros (taken_in rs)) (start_or_zeros (taken_in rs))
keeps rs b h = let k = b.low (had_start rs ∙ h) in (sym (had_unit rs) ∙ k.0, k.1)

-- ---- the day d is what the records rs, let in, make of an empty one
pub record Made (d : Day) (rs : List (List ℕ)) : Type 0 where
  pub taken : d.taken ≡ taken_in rs
  pub fits : LetInBounds rs
  pub closed : is_closed d ≡ has_kind 4 rs
  pub started : is_closed d ≡ true → has_kind 2 rs ≡ true
  pub stored : is_closed d ≡ true → finding_in d ≡ arrays_of (found_from rs)

pub made_empty : Made empty []
unfolding empty no_taken taken_in has_kind some unit_in opening_in instructions_in body_of_kind of_kind those filled body_of kind_of size_of numbers unit_of
    column_of trigger_of opening_of start_of
made_empty = record {
  taken = refl;
  fits = record { unit = λ e. never e; low = λ e. never e; few = omega arith };
  closed = refl;
  started = λ e. never e;
  stored = λ e. never e;
}

-- ---- a record let in
module _ (d : Day) (rs : List (List ℕ)) (s : List ℕ) (m : Made d rs) (p : RecordPasses (found_in paper) d s) where
  taken_came : has_unit d.taken ≡ has_unit (taken_in rs)
  taken_came = ap (λ (t : Taken). has_unit t) m.taken

  unit_came : has_unit d.taken ≡ has_kind 1 rs
  unit_came = taken_came ∙ had_unit rs

  start_came : has_start d.taken ≡ has_kind 2 rs
  start_came = ap (λ (t : Taken). has_start t) m.taken ∙ had_start rs

  has_count : d.taken.count ≡ length (instructions_in rs)
  unfolding taken_in
  has_count = ap (λ (t : Taken). t.count) m.taken

  may : MayCome rs s
  may = record {
    unit = λ e. sym unit_came ∙ (p.unit e).first;
    opening = λ e. sym start_came ∙ (p.opening e).first;
    instruction = λ e. omega (arith, has_count, (p.instruction e).room);
  }

  abbrev kind : ℕ
  kind = kind_of s

  fits_with : LetInBounds (with_one rs s)
  unfolding taken_in
  fits_with = record {
    unit = once_with UnitFits 1 rs s may.unit (λ e. (p.unit e).fields) m.fits.unit;
    low = subst LowStart (sym (taken_with_lem rs s may))
        (low_with (taken_in rs) kind (body_of s) (λ e. sym taken_came ∙ (p.unit e).first)
        (λ e. (
          sym taken_came ∙ (p.opening e).unit,
          subst (λ (t : Taken). Low (unit_or_zeros t) (start_of (opening_of (body_of s)))) m.taken
              (start_low (unit_or_zeros d.taken) (body_of s) (p.opening e).fields (p.opening e).low),
        ))
        m.fits.low);
    few = go;
  }
    where
      go : length (instructions_in (with_one rs s)) ≤ instruction_places
      go = elim (ℕ_discrete kind 3) [
        | yes e ↦ omega (
          arith,
          count_with rs s may ∙ ap (λ (c : Bool). pick c (length (instructions_in rs) + 1) (length (instructions_in rs)))
              (eq-eqb kind 3 e),
          may.instruction e,
        )
        | no n ↦ omega (
          arith,
          count_with rs s may ∙ ap (λ (c : Bool). pick c (length (instructions_in rs) + 1) (length (instructions_in rs)))
              (ne_eqb kind 3 n),
          m.fits.few,
        )
      ]

  -- only a close closes, and it takes nothing in
  abbrev found_with : Bool → Option Finding
  found_with b = pick b (Some (arrays_of (found_in paper d.taken))) d.found

  closes : is_some (found_with (eqb kind 4)) ≡ true → kind ≡ 4
  closes h = by_bool (eqb kind 4) (λ e. eqb-true kind 4 e)
      (λ e. never (sym p.not_closed ∙ (sym (ap (λ (b : Bool). is_some (found_with b)) e) ∙ h)))

  same_taken : kind ≡ 4 → taken_in (with_one rs s) ≡ d.taken
  unfolding taken_with
  same_taken e = taken_with_lem rs s may ∙ (ap (λ (k : ℕ). taken_with (taken_in rs) k (body_of s)) e ∙ sym m.taken)

  pub made_with : Made (day_with (found_in paper) d kind (body_of s)) (with_one rs s)
  unfolding day_with found_from
  made_with = record {
    taken = ap (λ (t : Taken). taken_with t kind (body_of s)) m.taken ∙ sym (taken_with_lem rs s may);
    fits = fits_with;
    closed =
        some_or (eqb kind 4) (arrays_of (found_in paper d.taken)) d.found ∙ (ap (λ (b : Bool). eqb kind 4 || b) m.closed ∙ sym (has_with 4 rs s));
    started = λ h. has_with 2 rs s ∙ (ap (λ (b : Bool). eqb kind 2 || b) (sym start_came ∙ (p.close (closes h)).started) ∙ go (eqb kind 2));
    stored =
        λ h. ap (λ (k : ℕ). unwrap_or (found_with (eqb k 4)) no_finding) (closes h)
        ∙ ap (λ (t : Taken). arrays_of (found_in paper t)) (sym (same_taken (closes h)));
  }
    where
      go : (b : Bool) → (b || true) ≡ true
      go true = refl
      go false = refl
