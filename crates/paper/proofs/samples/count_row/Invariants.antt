-- `paper::samples::count_row` meets its contract: after each turn the pixels before the next are counted.
use lib.ListN.{take}
use Rattle.paper.specs.Steps.{Counted}
use Rattle.paper.proofs.samples.count_row.Given as goal

abbrev pub invariant-loop-p : goal.invariant-loop-p
invariant-loop-p l = Counted (take l.p-index l.row) l.initial.counts l.counts
