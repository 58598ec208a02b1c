-- `minimum::choose` meets its contract: after k turns the first k sets are gone through.
use Rattle.listings.specs.Listed.{set_of}
use Rattle.grids.specs.Steps.{Chose}
use Rattle.grids.proofs.minimum.choose.Given as goal

abbrev pub invariant-loop-k : goal.invariant-loop-k
invariant-loop-k l = Chose l.least (set_of l.sets) l.k l.initial.numbers l.numbers l.grids
