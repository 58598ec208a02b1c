-- The call as a whole: an accepted page has what `find` leaves of all its rulings.
use Rattle.std.specs.Prelude.{◌≡◌, ℕ, ◌^◌, ◌<◌, List, length, take, drop}
use mathlib.Core.Path.{refl, ap, ◌∙◌}
use native.Mathlib.Omega.{arith}
use lib.Ieee.{Float}
use lib.Seq.{take_at}
use Rattle.lists.specs.Lists.{below, written}
use Rattle.lists.proofs.Keep.{length_below}
use Rattle.questions.specs.Questions.{first_missed}
use Rattle.params.specs.declared.settings.RulingsParams.{RulingsParams}
use Rattle.params.proofs.Limits.{limits}
use Rattle.params.specs.Steps.{SettingsPassed}
use Rattle.shapes.specs.declared.limits.Limits.{Limits}
use Rattle.shapes.specs.Limits.{table_limits_of}
use Rattle.meeting.specs.Steps as Meeting
use Rattle.table_questions.specs.Lent.{Lists}
use Rattle.tables.specs.Call.{Given, questions, places, table_limits, Tables}
use Rattle.tables.specs.Steps.{with_chosen, Filled, Roomy}
use Rattle.tables.proofs.Demand.{demand3}
use Rattle.tables.proofs.Passing.{passed}

-- passed questions bound the limits
pub join_small : (p : RulingsParams) (xheight : Float) → SettingsPassed p xheight → (table_limits_of p xheight).join < 2 ^ 32
join_small p xheight S = omega (arith, (limits p xheight S).join.at_most)

pub join_of : (p : RulingsParams) (xheight : Float) {lim : Limits} → lim ≡ table_limits_of p xheight → SettingsPassed p xheight → lim.join < 2 ^ 32
join_of p xheight e S = rw e (join_small p xheight S)

-- all rulings are chosen
pub all_chosen : (n : ℕ) (c : List ℕ) {c' : List ℕ} → c' ≡ written (below n) c → take n c' ≡ below n
all_chosen n c e = ap (take n) e ∙ take_at (below n) (drop (length (below n)) c) n (length_below n)

pub given_all : {rects directions : List ℕ} (n : ℕ) (c : List ℕ) {c' : List ℕ} → c' ≡ written (below n) c → Meeting.Given rects directions (below n) → Meeting.Given rects directions (take n c')
given_all n c e G = rw (all_chosen n c e) G

-- room for all the chosen ones
pub roomy_all : {n : ℕ} (l : Lists) {c : List ℕ} → Roomy n l → c ≡ below n → Roomy (length c) l
roomy_all {n} l R e = rw (ap length e ∙ length_below n) R

module _ (g : Given) (l : Lists) (chosen : List ℕ) (none : 0 ≡ first_missed (questions g (with_chosen l chosen))) where
  pub found : (l' : Lists) (chosen' : List ℕ) {c : List ℕ} {lim : Limits} {ss ts fs : ℕ} → c ≡ places g → lim ≡ table_limits g
      → Filled g.rects g.directions c lim l l' ss ts fs
      → Tables g (with_chosen l chosen) (with_chosen l' chosen') (record { number = 0; sets = ss; tables = ts; free = fs })
  found l' chosen' ec el F₀ =
      let F = rw (ec, el) at F₀ in
      let L = limits g.settings g.xheight (passed g l chosen none).settled in
      record {
        number = none;
        counts = λ i. record { number = 0; sets = F.set_count i; tables = F.table_count i; free = F.free_count i };
        refused = λ f. absurd (f refl);
        answers = λ t. record {
          printed_members = F.members;
          printed_ends = F.ends;
          numbers = F.numbers;
          bounds = F.bounds;
          rows = F.rows;
          columns = F.columns;
          rulings = F.rulings;
          shares = F.shares;
          free = F.free;
        };
        limits = λ t. record { join = L.join.is; line = L.line.is };
        demand3 = λ t. (demand3 g.rects g.directions (places g) (table_limits g), F.read);
      }
