-- `rounding::rounded_product` meets its contract: it is the cast of the rounded product, step by step.
use Rattle.std.proofs.Common.{ap, ◌∙◌, w64}
use mir.ValLaws.{to_z-of_z}
use lib.Ieee.{to_signed}
use Rattle.rounding.proofs.rounded_product.Goals as goal

pub returns : goal.returns
returns c = to_z-of_z w64 c.to_i64.result (record { sfits = c.to_i64.type_inv }) ∙ c.to_i64.ensures ∙ ap (to_signed 63) c.round.ensures
