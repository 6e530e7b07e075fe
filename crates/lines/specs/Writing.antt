-- Working. What a writer leaves of the slice that it is lent, what counting tells, and what a place for bytes keeps to.
use Rattle.std.specs.Prelude.{ℕ, ◌+◌, ◌≤◌, ◌≡◌, List, [], ◌++◌, length, take, drop}
use Rattle.lines.specs.Text.{laid}

-- so many bytes, xs, at the front of a slice
pub record Written (xs : List ℕ) (count : ℕ) (before after : List ℕ) : Type 0 where
  pub count_is : count ≡ length xs
  pub bytes : after ≡ laid xs before

-- so many bytes has xs, and never more than `most`
pub record Measured (xs : List ℕ) (most count : ℕ) : Type 0 where
  pub count_is : count ≡ length xs
  pub few : count ≤ most

-- the bytes xs stand from the byte `at` on, up to the byte `to`, and every other byte is as it was
pub record Filled (xs : List ℕ) (at to : ℕ) (before after : List ℕ) : Type 0 where
  pub room : at + length xs ≤ length before
  pub to_is : to ≡ at + length xs
  pub bytes : after ≡ take at before ++ (xs ++ drop (at + length xs) before)

-- the bytes xs are counted, which are at most `most`
pub record Counted (xs : List ℕ) (most before after : ℕ) : Type 0 where
  pub count_is : after ≡ before + length xs
  pub few : after ≤ before + most

-- what holds of any place S for bytes, where `has_room s xs most`: s has room for the bytes xs, at most `most` of them, and
-- `takes s xs most t`: s has taken them, and is t now
pub record SinkLaws {S : Type 0} (has_room : S → List ℕ → ℕ → Type 0) (takes : S → List ℕ → ℕ → S → Type 0) : Type 0 where
  pub none : (s : S) (k : ℕ) → has_room s [] k → takes s [] k s
  pub more : (s t u : S) (xs ys : List ℕ) (j k l : ℕ) → j + k ≤ l → takes s xs j t → takes t ys k u → takes s (xs ++ ys) l u
  pub first : (s : S) (xs ys : List ℕ) (j l : ℕ) → j ≤ l → has_room s (xs ++ ys) l → has_room s xs j
  pub rest : (s t : S) (xs ys : List ℕ) (j k l : ℕ) → j + k ≤ l → has_room s (xs ++ ys) l → takes s xs j t → has_room t ys k
