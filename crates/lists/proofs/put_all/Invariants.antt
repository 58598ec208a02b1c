-- `lists::put_all` meets its contract. The invariant: the first k values are stored, each as `value` gives it.
use Rattle.lists.proofs.Putting.{Putting}
use Rattle.lists.proofs.put_all.Given as goal

abbrev pub invariant-loop-k : goal.invariant-loop-k
invariant-loop-k g l = Putting (goal.F-post g l.value) l.at l.initial.list l.k l.list
