-- Every rate of a let-in unit that a course can use is at least 1.
use mathlib.Core.Path.{◌≡◌, refl, ap, sym}
use mathlib.Core.List.{List, [], ◌∷◌}
use mathlib.Core.Bool.{Bool, true, false, not, true≢false}
use Prim.Native.Nat.{ℕ, zero, suc, ◌+◌, ◌≤◌, ◌<◌}
use native.Mathlib.Decide.{ℕ_discrete}
use native.Mathlib.Omega.{arith}
use lib.Dec.{leb, eqb, leb→le}
use lib.ListN.{length, get_or, length-map}
use borrow.Author.Tests.{eq-eqb, ne_eqb}
use Rattle.level.specs.Choice.{pick}
use Rattle.level.proofs.Lists.{and_true}
use Rattle.level.specs.Level.{grains}
use Rattle.records.specs.declared.Column.{Column}
use Rattle.records.specs.declared.UnitData.{UnitData}
use Rattle.std.specs.Prelude.{Ok}
use Rattle.records.specs.declared.Refusal.TheVariants.{UnitField, UnitDisagrees}
use Rattle.records.specs.Answers.{refusing, first_refusal, accepted}
use Rattle.records.specs.Records.{unit_of, column_of}
use Rattle.records.specs.Fields.{Range, in_range, fit_from, unit_ranges, column_ranges, ramp_ranges, a_level, a_maximum, a_rate, a_hold, a_boundary, disagrees, unit_answer}
use Rattle.course.specs.declared.Course.{Course}
use Rattle.course.specs.Lists.{rates_of, place_of, column_for, no_column, replaced, lists_of}
use Rattle.course.specs.Course.{trajectory_of}
use Rattle.course.proofs.Whole.{Runs, Driven}

-- the rates rs of a list with n breaks are there, and each is at least 1
abbrev pub Some : List ℕ → ℕ → Type 0
Some rs n = (i : ℕ) → i ≤ n → 1 ≤ get_or rs i 0

-- what refusal 3 leaves of a unit's rates
pub record Fit (u : UnitData) : Type 0 where
  pub column : (heat : ℕ) → Some (column_for u heat).rates (length (column_for u heat).breaks)
  pub up : Some u.up.rates (length u.up.breaks)
  pub down : Some u.down.rates (length u.down.breaks)
  pub deload : Some u.deload.rates (length u.deload.breaks)
  pub up_breaks : length u.up.breaks ≤ 4
  pub down_breaks : length u.down.breaks ≤ 4

runs_of : (rs bs : List ℕ) → Some rs (length bs) → Runs (rates_of rs bs)
unfolding rates_of
runs_of rs bs h n p = h n (omega (arith, length-map bs grains))

five : (r n : ℕ) → 1 ≤ r → n ≤ 4 → 1 ≤ get_or (r ∷ r ∷ r ∷ r ∷ r ∷ []) n 0
five r zero h p = h
five r (suc zero) h p = h
five r (suc (suc zero)) h p = h
five r (suc (suc (suc zero))) h p = h
five r (suc (suc (suc (suc zero)))) h p = h
five r (suc (suc (suc (suc (suc n))))) h p = absurd (omega arith)

some_replaced : (r : ℕ) (rs : List ℕ) (n : ℕ) → Some rs n → n ≤ 4 → Some (replaced r rs) n
unfolding replaced
some_replaced r rs n h q = elim (ℕ_discrete r 0) [
  | yes e ↦ rw (eq-eqb r 0 e) h
  | no e ↦ rw (ne_eqb r 0 e) (λ i p. five r i (omega arith) (omega arith))
]

pub lists_driven : (u : UnitData) → Fit u → (heat up down : ℕ) → Driven (lists_of u heat up down)
unfolding lists_of
lists_driven u f heat up down = record {
  column = runs_of (column_for u heat).rates (column_for u heat).breaks (f.column heat);
  up = runs_of (replaced up u.up.rates) u.up.breaks (some_replaced up u.up.rates _ f.up f.up_breaks);
  down = runs_of (replaced down u.down.rates) u.down.breaks (some_replaced down u.down.rates _ f.down f.down_breaks);
  deload = runs_of u.deload.rates u.deload.breaks f.deload;
}

-- ---- from the record let in

abbrev no_range : Range
no_range = record { low = 0; high = 0 }

-- the number at the place i + j lies in the j-th range
pub fit_at : (rs : List Range) (ns : List ℕ) (i j : ℕ) → fit_from rs ns i ≡ true → j < length rs →
    ((get_or rs j no_range).low ≤ get_or ns (i + j) 0) × (get_or ns (i + j) 0 ≤ (get_or rs j no_range).high)
unfolding fit_from in_range
fit_at [] ns i j e p = absurd (omega arith)
fit_at (r ∷ rs) ns i zero e p =
    let a = (and_true (in_range r (get_or ns i 0)) (fit_from rs ns (suc i)) e).0 in
    let b = and_true (leb r.low (get_or ns i 0)) (leb (get_or ns i 0) r.high) a in
    let z : get_or ns (i + 0) 0 ≡ get_or ns i 0 = ap (λ (k : ℕ). get_or ns k 0) {x = i + 0} {y = i} (omega arith) in
    rw z (leb→le r.low (get_or ns i 0) (rw b.0 tt), leb→le (get_or ns i 0) r.high (rw b.1 tt))
fit_at (r ∷ rs) ns i (suc j) e p =
    let a = (and_true (in_range r (get_or ns i 0)) (fit_from rs ns (suc i)) e).1 in
    let z : get_or ns (i + suc j) 0 ≡ get_or ns (suc i + j) 0 = ap (λ (k : ℕ). get_or ns k 0) {x = i + suc j} {y = suc i + j} (omega arith) in
    rw z (fit_at rs ns (suc i) j a (omega arith))

module _ (ns : List ℕ) where
  pub fits : unit_answer ns ≡ Ok tt → fit_from unit_ranges ns 0 ≡ true
  unfolding unit_answer
  fits = go (fit_from unit_ranges ns 0) (disagrees (unit_of ns))
    where
      go : (a b : Bool) → first_refusal (refusing (not a) UnitField ∷ refusing b UnitDisagrees ∷ []) ≡ Ok tt → a ≡ true
      go true b e = refl
      go false b e = absurd (true≢false (sym (ap accepted e)))

  module _ (e : fit_from unit_ranges ns 0 ≡ true) where
    -- a rate at a place
    rate : (j : ℕ) → j < 62 → (get_or unit_ranges j no_range).low ≡ 1 → 1 ≤ get_or ns j 0
    unfolding unit_ranges column_ranges ramp_ranges
    rate j p q =
        let z : get_or ns (0 + j) 0 ≡ get_or ns j 0 = ap (λ (k : ℕ). get_or ns k 0) {x = 0 + j} {y = j} (omega arith) in
        omega (arith, (fit_at unit_ranges ns 0 j e p).0, z)

    -- n + 1 rates from a place on, as the unit has them
    column_some : (at : ℕ) → 1 ≤ get_or ns (at + 1) 0 → 1 ≤ get_or ns (at + 2) 0 → 1 ≤ get_or ns (at + 3) 0 →
        Some (column_of ns at).rates (length (column_of ns at).breaks)
    unfolding column_of
    column_some at a b c zero p = a
    column_some at a b c (suc zero) p = b
    column_some at a b c (suc (suc zero)) p = c
    column_some at a b c (suc (suc (suc n))) p = absurd (omega arith)

    five_some : (a b c d f : ℕ) → 1 ≤ a → 1 ≤ b → 1 ≤ c → 1 ≤ d → 1 ≤ f → Some (a ∷ b ∷ c ∷ d ∷ f ∷ []) 4
    five_some a b c d f pa pb pc pd pf zero p = pa
    five_some a b c d f pa pb pc pd pf (suc zero) p = pb
    five_some a b c d f pa pb pc pd pf (suc (suc zero)) p = pc
    five_some a b c d f pa pb pc pd pf (suc (suc (suc zero))) p = pd
    five_some a b c d f pa pb pc pd pf (suc (suc (suc (suc zero)))) p = pf
    five_some a b c d f pa pb pc pd pf (suc (suc (suc (suc (suc n))))) p = absurd (omega arith)

    two_some : (a b : ℕ) → 1 ≤ a → 1 ≤ b → Some (a ∷ b ∷ []) 1
    two_some a b pa pb zero p = pa
    two_some a b pa pb (suc zero) p = pb
    two_some a b pa pb (suc (suc n)) p = absurd (omega arith)

    pub fit_of_numbers : Fit (unit_of ns)
    unfolding unit_of column_for place_of unit_ranges column_ranges ramp_ranges a_level a_maximum a_rate a_hold a_boundary
    fit_of_numbers =
        record {
          column = λ heat. columns (eqb heat 1) (eqb heat 2);
          up =
              five_some _ _ _ _ _ (rate 35 (omega arith) refl) (rate 36 (omega arith) refl) (rate 37 (omega arith) refl) (rate 38 (omega arith) refl)
              (rate 39 (omega arith) refl);
          down =
              five_some _ _ _ _ _ (rate 50 (omega arith) refl) (rate 51 (omega arith) refl) (rate 52 (omega arith) refl) (rate 53 (omega arith) refl)
              (rate 54 (omega arith) refl);
          deload = two_some _ _ (rate 59 (omega arith) refl) (rate 60 (omega arith) refl);
          up_breaks = omega arith;
          down_breaks = omega arith;
        }
      where
        columns : (a b : Bool) →
            let c : Column =
            get_or (column_of ns 5 ∷ column_of ns 15 ∷ column_of ns 25 ∷ []) (pick a 0 (pick b 1 2)) no_column in Some c.rates (length c.breaks)
        columns true b = column_some 5 (rate 6 (omega arith) refl) (rate 7 (omega arith) refl) (rate 8 (omega arith) refl)
        columns false true = column_some 15 (rate 16 (omega arith) refl) (rate 17 (omega arith) refl) (rate 18 (omega arith) refl)
        columns false false = column_some 25 (rate 26 (omega arith) refl) (rate 27 (omega arith) refl) (rate 28 (omega arith) refl)

  -- a unit that meets neither 3 nor 4 is fit
  pub fit_of : unit_answer ns ≡ Ok tt → Fit (unit_of ns)
  fit_of e = fit_of_numbers (fits e)

-- ---- every course of the day

pub course_driven : (u : UnitData) → Fit u → (c : Course) → Driven (trajectory_of u c).lists
unfolding trajectory_of
course_driven u f c = lists_driven u f c.heat c.up c.down
