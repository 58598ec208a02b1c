-- `sorted::arrange` meets its contract: the part of the keys that counts is sorted.
use Rattle.sorted.proofs.Arranged.{arranged}
use Rattle.sorted.proofs.arrange.Goals as goal

pub returns : goal.returns
returns c =
    arranged c.args.n c.args.keys.now c.args.order.now _ c.requires.keys c.sort.ensures c.requires.small c.requires.order c.sort.auto.out
