-- `layout::page::greatest` meets its contract: it is what its three choices are.
use Rattle.std.specs.Int.{int_max}
use Rattle.layout.specs.ToPage.{greater}
use Rattle.layout.proofs.Signed.{choice_of_four, greater_is}
use Rattle.layout.proofs.page.greatest.Goals as goal

pub returns : goal.returns
returns c =
    let a = c.args in
    let f = c.ranges in
    choice_of_four int_max greater greater_is a.a a.b a.c a.d c.max.result c.max-2.result c.max-3.result f.a f.b f.c f.d c.max.type_inv c.max-2.type_inv c.max-3.type_inv c.max.ensures.value c.max-2.ensures.value c.max-3.ensures.value
