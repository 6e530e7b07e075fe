-- Working. What is printed, at the front of a slice.
use Rattle.std.specs.Prelude.{ℕ, ◌≤◌, ◌≡◌, List, length, take}
use Rattle.listing.specs.Program.{program}

-- the first so many bytes of out are what the program prints for the input s
pub record Shown (s : List ℕ) (count : ℕ) (out : List ℕ) : Type 0 where
  pub few : count ≤ length out
  pub bytes : take count out ≡ program s
