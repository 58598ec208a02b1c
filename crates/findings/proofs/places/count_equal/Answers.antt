-- `places::count_equal` meets its contract: the chain goes through the places whose entry is the number.
use Prim.Native.Nat.{ℕ, ◌<◌}
use borrow.Author.Rules.{rules}
use borrow.Author.Tests.{tests}
use lib.Dec.{eqb}
use lib.ListN.{length, get_or}
use Rattle.std.proofs.lemmas.List.{get_or_default}
use Rattle.std.proofs.lemmas.Iterator.{YieldsList-from_slice}
use Rattle.std.proofs.lemmas.Iterator.Adapters.{serves_from_places}
use Rattle.std.proofs.lemmas.Iterator.Consumers.{YieldsList-at, YieldsList-from_filter, count_from_yields_List}
use Rattle.findings.proofs.places.count_equal.Goals as goal

pub count-requires-clause-can : goal.count-requires-clause-can
count-requires-clause-can c =
    let places = c.args.places.now in (
      tt,
      tt,
      serves_from_places (YieldsList-from_slice places cc) (λ x q r. search rules)
          (λ x k l e.
          let inside : x.now < length c.filter.result.p.0.now = rw (c.filter.ensures.closure, e, get_or_default places k x.now 0 l) (c.requires.number k l) in
          λ y i. let here : y.now.now < length c.filter.result.p.0.now = rw i inside in (search rules, search rules)),
    )

pub returns : goal.returns
returns c =
    let a = c.args in
    count_from_yields_List c.filter.result c.count.result c.count.ensures.ran
    (YieldsList-from_filter _ (λ (k : ℕ). eqb (get_or a.numbers.now k 0) a.number) (YieldsList-at c.filter.ensures.source (YieldsList-from_slice a.places.now cc)) c.filter.ensures.closure
    (λ x b q k. (search rules, search (rules, tests))))
