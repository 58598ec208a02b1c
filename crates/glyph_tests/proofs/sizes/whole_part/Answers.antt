-- `sizes::whole_part` meets its contract: nothing is below 0, and what is below the whole part of x is below x.
use Rattle.std.proofs.Common.{arith}
use lib.Ieee.{of_bits, neg}
use Rattle.math.proofs.Tests.{of_true}
use Rattle.glyph_tests.proofs.Narrow.{below_whole_part}
use Rattle.glyph_tests.proofs.sizes.whole_part.Goals as goal

pub truncating_f64_to_u64-requires : goal.truncating_f64_to_u64-requires
unfolding of_bits neg
truncating_f64_to_u64-requires c = record { lower_bound = of_true c.if-x.true; upper_bound = of_true c.if-x-2.true }

pub returns-then-x-2 : goal.returns-then-x-2
returns-then-x-2 c n small h = below_whole_part c.args.x n small (omega (arith, h, c.truncating_f64_to_u64.ensures))
