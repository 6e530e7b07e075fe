-- Working. The place of a number among so many: the numbers begin at 1.
use Rattle.std.specs.Prelude.{ℕ, ◌+◌, ◌<◌, ◌≡◌}

-- it has none; it has this one
abbrev pub NoPlace : ℕ → ℕ → Type 0
NoPlace number places = 0 < number → places < number

pub record PlaceOf (number places at : ℕ) : Type 0 where
  pub is : number ≡ at + 1
  pub here : at < places
