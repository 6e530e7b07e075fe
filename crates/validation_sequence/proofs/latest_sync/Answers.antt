use Rattle.validation_sequence.proofs.Places.{places_last}
use Rattle.validation_sequence.proofs.latest_sync.Goals as goal

pub returns : goal.returns
returns c = rw (c.copied.ensures, c.last.ensures.value, c.requires) (places_last c.args._kept.now)
