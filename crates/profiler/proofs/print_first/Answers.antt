use Rattle.listing_program.proofs.Laws.{shown}
use Rattle.profiler.proofs.print_first.Goals as goal

pub returns : goal.returns
returns c = shown c.args.read.now c.args.out.now c.print.result c.print.new.out c.requires c.print.ensures
