-- `put::put_all` meets its contract. The invariant: the first k findings stand at their ranks, each as `finding` gives it.
use Rattle.finding_lists.specs.Columns.{columns_of}
use Rattle.finding_lists.specs.Steps.{SameFindings}
use Rattle.finding_lists.proofs.Writing.{Putting}
use Rattle.finding_lists.proofs.put.put_all.Given as goal

abbrev pub invariant-loop-k : goal.invariant-loop-k
invariant-loop-k g l =
    Putting (goal.F-post g l.finding) l.ranks l.at l.n (columns_of l.initial.lists) l.k (columns_of l.lists) l.all × SameFindings l.initial.lists l.lists
