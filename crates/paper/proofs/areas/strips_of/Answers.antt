-- `paper::areas::strips_of` meets its contract: the two runs of the law `beside_runs`.
use native.Mathlib.Omega.{arith}
use Rattle.paper.proofs.Places.{beside_runs}
use Rattle.paper.proofs.areas.strips_of.Goals as goal

pub returns : goal.returns
returns c =
    let start = c.args in
    let a = c.requires.0 in
    let b = c.requires.1 in
    record {
      places = rw (c.saturating_sub-first.ensures, c.saturating_sub.ensures, c.min-second.ensures, c.min.ensures) (beside_runs start.a start.b a start.size b);
      first_inside = omega arith;
      second_inside = omega arith;
      few = omega arith;
    }
