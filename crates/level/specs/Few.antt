-- Working. At most so many of a kind, in order: what a contract sees of `Few`.
use Rattle.std.specs.Prelude.{ℕ, ◌-◌, List, [], ◌∷◌, ◌++◌, length, take, drop, replicate, refl}
use Rattle.std.specs.Coded.{Coded, code_by, coded×, coded_list}

-- those that there are, and what the other places hold
pub record Few (T : Type 0) : Type 0 where
  pub these : List T
  pub spare : List T

-- it is stored as the pair of its lists
abbrev pub few_code : {T : Type 0} → Coded T → Coded (Few T)
few_code {T} code =
    code_by (List T × List T) (coded× (coded_list code) (coded_list code)) (λ v. (v.these, v.spare))
    (λ p. record { these = p.0; spare = p.1 }) (λ _. refl)

module _ {T : Type 0} where
  -- these, in n places; the others hold one value
  abbrev pub few_of : ℕ → T → List T → Few T
  few_of n z xs = record { these = xs; spare = replicate (n - length xs) z }

  -- with one more
  abbrev pub with_one : Few T → T → Few T
  with_one v x = record { these = v.these ++ x ∷ []; spare = drop 1 v.spare }

  -- the first n
  abbrev pub first_few : Few T → ℕ → Few T
  first_few v n = record { these = take n v.these; spare = drop n v.these ++ v.spare }
