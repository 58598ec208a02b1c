-- `layout::page::least` meets its contract: it is what its three choices are.
use Rattle.std.specs.Int.{int_min}
use Rattle.layout.specs.ToPage.{lesser}
use Rattle.layout.proofs.Signed.{choice_of_four, lesser_is}
use Rattle.layout.proofs.page.least.Goals as goal

pub returns : goal.returns
returns c =
    let a = c.args in
    let f = c.ranges in
    choice_of_four int_min lesser lesser_is a.a a.b a.c a.d c.min.result c.min-2.result c.min-3.result f.a f.b f.c f.d c.min.type_inv c.min-2.type_inv c.min-3.type_inv c.min.ensures.value c.min-2.ensures.value c.min-3.ensures.value
