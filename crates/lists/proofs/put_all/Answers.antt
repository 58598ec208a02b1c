-- `lists::put_all` meets its contract. The invariant: the first k values are stored, each as `value` gives it.
use native.Mathlib.Omega.{arith}
use Rattle.lists.proofs.Putting.{putting_none, putting_more, putting_all}
use Rattle.lists.proofs.put_all.Goals as goal

pub loop-k-init : goal.loop-k-init
loop-k-init g c = putting_none (goal.F-post g c.args.value) c.args.at c.args.list.now

pub loop-k-preserved : goal.loop-k-preserved
loop-k-preserved g c = putting_more (goal.F-post g c.args.value) c.args.at c.args.list.now c.loop-k.invariant (omega arith) c.value.ensures

pub returns : goal.returns
returns g c =
    let W = c.loop-k.invariant in
    record {
      made = λ k l. W.made k (omega arith);
      all = putting_all (goal.F-post g c.args.value) c.args.at c.args.list.now W (omega arith) c.requires.room;
    }
