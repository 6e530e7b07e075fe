use Rattle.std.proofs.Common.{◌≡◌, ℕ, ◌-◌, ◌≤◌, List, length, take}
use Rattle.listing.specs.Listing.{suffices}
use Rattle.listing_program.specs.Shown.{Shown}
use Rattle.profiler.proofs.print_input.Given as goal

-- so many bytes are read, and what is printed for them stands in the slice, which has room for any listing
pub record Progress (buf₀ out₀ buf out : List ℕ) (at count : ℕ) : Type 0 where
  pub same : (length buf ≡ length buf₀) × (length out ≡ length out₀)
  pub within : at ≤ length buf
  pub room : suffices ≤ length out
  pub shows : Shown (take at buf) count out

abbrev pub invariant-loop-printed : goal.invariant-loop-printed
invariant-loop-printed g l = Progress l.fn.buf l.fn.out l.buf l.out l.at l.printed.count

abbrev pub decreases-loop-printed : goal.decreases-loop-printed
decreases-loop-printed g l = length l.buf - l.at
