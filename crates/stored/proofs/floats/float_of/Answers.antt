-- A pattern is a NaN's exactly where it is above an infinity's, its sign aside.
use Rattle.std.proofs.Common.{sym, ◌∙◌, subst, Bool, not}
use lib.Dec.{T}
use lib.Ieee.{binary64}
use lib.Ieee.Bits.{nan_bits_above}
use borrow.Author.Tests.{le-ltb}
use Rattle.stored.proofs.floats.float_of.Goals as goal

pub float_from_bits-result : goal.float_from_bits-result
float_from_bits-result c = subst (λ (b : Bool). T (not b)) (sym (nan_bits_above binary64 c.args.bits ∙ le-ltb _ _ c.if-bits-gt9218868437227405312.false)) tt
