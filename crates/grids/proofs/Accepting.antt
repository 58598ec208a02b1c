-- The call as a whole: an accepted page has what the core leaves.
use Rattle.std.specs.Prelude.{◌≡◌, ℕ, ◌^◌, ◌<◌}
use mathlib.Core.Path.{refl}
use native.Mathlib.Omega.{arith}
use lib.Ieee.{Float}
use Rattle.questions.specs.Questions.{first_missed}
use Rattle.params.specs.declared.settings.RulingsParams.{RulingsParams}
use Rattle.params.specs.Limits.{align_limit}
use Rattle.params.specs.Steps.{SettingsPassed}
use Rattle.params.proofs.Limits.{limits}
use Rattle.grids.specs.Lent.{Lent}
use Rattle.grids.specs.Call.{Given, questions, Grids}
use Rattle.grids.specs.Steps.{Filled}
use Rattle.grids.proofs.Demand.{demand3}
use Rattle.grids.proofs.Passing.{passed}

-- passed questions bound the limit
pub limit_small : (p : RulingsParams) (xheight : Float) {limit : ℕ} → SettingsPassed p xheight → limit ≡ align_limit p xheight → limit < 2 ^ 40
limit_small p xheight S e = omega (arith, (limits p xheight S).align.at_most)

module _ (g : Given) (l : Lent) (none : 0 ≡ first_missed (questions g l)) where
  pub accepted : (l' : Lent) {limit ss gs : ℕ} → limit ≡ align_limit g.settings g.xheight → Filled g.rects limit g.settings.grid_min_boxes l l' ss gs
      → Grids g l l' (record { number = 0; sets = ss; grids = gs })
  accepted l' el F₀ =
      let F = rw el at F₀ in
      record {
        number = none;
        counts = λ i. record { number = 0; sets = F.set_count i; grids = F.grid_count i };
        refused = λ n. absurd (n refl);
        answers = λ _. record { members = F.members; ends = F.ends; reading = F.reading; numbers = F.numbers };
        limits = λ _. record { align = (limits g.settings g.xheight (passed g l none).settled).align.is };
        demand3 = λ _. (demand3 g.rects (align_limit g.settings g.xheight) g.settings.grid_min_boxes, F.read, F.read_order);
      }
