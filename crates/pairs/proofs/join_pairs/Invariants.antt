-- `pairs::join_pairs` meets its contract: each turn joins one pair more, and all pairs are the whole rule.
use Rattle.sets.specs.Closed.{Below}
use Rattle.sets.specs.Steps.{Joins}
use Rattle.pairs.specs.Pairs.{Paired}
use Rattle.pairs.proofs.join_pairs.Given as goal

abbrev pub invariant-loop-k : goal.invariant-loop-k
invariant-loop-k l = Joins l.n (Below l.n) (Paired l.pairs l.k) l.parents
