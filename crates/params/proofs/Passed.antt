-- What the settings are once their questions were answered yes, setting by setting.
use mathlib.Core.Path.{◌≡◌}
use Prim.Native.Nat.{◌≤◌}
use mathlib.Core.Bool.{true, false}
use mathlib.Core.List.{List, [], ◌∷◌, ◌++◌}
use lib.Dec.{leb}
use lib.Ieee.{lt, le}
use Rattle.std.proofs.Common.{rules, tests}
use borrow.Author.Tests.{leb-true}
use Rattle.math.specs.Constants.{zero}
use Rattle.math.proofs.Bound.{AtMost}
use Rattle.questions.specs.Questions.{Question, first_missed}
use Rattle.questions.proofs.FirstMissed.{AllYes, all_yes}
use Rattle.params.specs.declared.settings.RulingsParams.{RulingsParams}
use Rattle.params.specs.declared.settings.FusionParams.{FusionParams}
use Rattle.params.specs.Settings.{all_of, from_zero_to_one, float_settings, length_settings, share_settings}
use Rattle.params.specs.Settings.{floats_bounded, lengths_not_negative, box_sizes_ordered, shares_in_range, minima_in_range, caps_in_range, free_rules_counted}
use Rattle.params.specs.Settings.{validate_questions, fusion_questions, free_rules_questions, settings_questions}
use Rattle.params.proofs.Every.{each, both_true}
use Rattle.params.proofs.Bounds.{From0To, bounded_says, not_negative_says, from_zero_to_one_says, from_zero_to_million_says}

-- question 7
pub record FloatsBounded (p : RulingsParams) : Type 0 where
  pub merge_across_xh : AtMost 1_000_000 p.merge_across_xh
  pub merge_gap_xh : AtMost 1_000_000 p.merge_gap_xh
  pub rule_min_contrast : AtMost 1_000_000 p.rule_min_contrast
  pub fold_min_length_in : AtMost 1_000_000 p.fold_min_length_in
  pub join_tol_xh : AtMost 1_000_000 p.join_tol_xh
  pub line_cluster_xh : AtMost 1_000_000 p.line_cluster_xh
  pub table_prior : AtMost 1_000_000 p.table_prior
  pub table_cells_coef : AtMost 1_000_000 p.table_cells_coef
  pub table_cells_cap : AtMost 1_000_000 p.table_cells_cap
  pub table_junction_coef : AtMost 1_000_000 p.table_junction_coef
  pub free_rules_prior : AtMost 1_000_000 p.free_rules_prior
  pub free_rules_coef : AtMost 1_000_000 p.free_rules_coef
  pub free_rules_cap : AtMost 1_000_000 p.free_rules_cap
  pub box_min_xh : AtMost 1_000_000 p.box_min_xh
  pub box_min_in : AtMost 1_000_000 p.box_min_in
  pub box_max_xh : AtMost 1_000_000 p.box_max_xh
  pub box_overshoot_fraction : AtMost 1_000_000 p.box_overshoot_fraction
  pub box_aspect_tol : AtMost 1_000_000 p.box_aspect_tol
  pub box_edge_coverage : AtMost 1_000_000 p.box_edge_coverage
  pub box_max_inner_ink : AtMost 1_000_000 p.box_max_inner_ink
  pub box_checked_ink : AtMost 1_000_000 p.box_checked_ink
  pub grid_align_xh : AtMost 1_000_000 p.grid_align_xh
  pub grid_prior : AtMost 1_000_000 p.grid_prior
  pub grid_coef : AtMost 1_000_000 p.grid_coef
  pub grid_cap : AtMost 1_000_000 p.grid_cap

pub floats_say : (p : RulingsParams) → floats_bounded p ≡ true → FloatsBounded p
unfolding floats_bounded
floats_say p h =
    let e = each bounded_says (float_settings p) h in search rules

-- question 8
pub record LengthsNotNegative (p : RulingsParams) : Type 0 where
  pub merge_across_xh : lt p.merge_across_xh zero ≡ false
  pub merge_gap_xh : lt p.merge_gap_xh zero ≡ false
  pub join_tol_xh : lt p.join_tol_xh zero ≡ false
  pub line_cluster_xh : lt p.line_cluster_xh zero ≡ false
  pub box_min_xh : lt p.box_min_xh zero ≡ false
  pub box_min_in : lt p.box_min_in zero ≡ false
  pub grid_align_xh : lt p.grid_align_xh zero ≡ false
  pub fold_min_length_in : lt p.fold_min_length_in zero ≡ false

pub lengths_say : (p : RulingsParams) → lengths_not_negative p ≡ true → LengthsNotNegative p
unfolding lengths_not_negative
lengths_say p h =
    let e = each not_negative_says (length_settings p) h in search rules

-- question 10
pub record SharesInRange (p : RulingsParams) : Type 0 where
  pub box_edge_coverage : From0To 1 p.box_edge_coverage
  pub box_max_inner_ink : From0To 1 p.box_max_inner_ink
  pub box_checked_ink : From0To 1 p.box_checked_ink
  pub box_aspect_tol : From0To 1 p.box_aspect_tol
  pub box_overshoot_fraction : From0To 1 p.box_overshoot_fraction
  pub box_tolerance_px : p.box_tolerance_px ≤ 3

pub shares_say : (p : RulingsParams) → shares_in_range p ≡ true → SharesInRange p
unfolding shares_in_range
shares_say p h =
    let b = both_true (all_of from_zero_to_one (share_settings p)) (leb p.box_tolerance_px 3) h in
    let e = each from_zero_to_one_says (share_settings p) b.0 in
    search (rules, tests)

-- question 11
pub record MinimaInRange (p : RulingsParams) : Type 0 where
  pub table_min_horizontal : 1 ≤ p.table_min_horizontal
  pub table_min_vertical : 1 ≤ p.table_min_vertical
  pub grid_min_boxes : 2 ≤ p.grid_min_boxes

pub minima_say : (p : RulingsParams) → minima_in_range p ≡ true → MinimaInRange p
unfolding minima_in_range
minima_say p h = search (rules, tests)

-- question 12
pub record CapsInRange (f : FusionParams) : Type 0 where
  pub llr_clip : From0To 1_000_000 f.llr_clip
  pub group_cap : From0To 1_000_000 f.group_cap

pub caps_say : (f : FusionParams) → caps_in_range f ≡ true → CapsInRange f
unfolding caps_in_range
caps_say f h =
    let e = each from_zero_to_million_says (f.llr_clip ∷ f.group_cap ∷ []) h in
    record { llr_clip = e.0; group_cap = e.1.0 }

-- question 13
pub free_rules_say : (p : RulingsParams) → free_rules_counted p ≡ true → 1 ≤ p.min_free_rules
unfolding free_rules_counted
free_rules_say p h = leb-true 1 p.min_free_rules h

-- questions 7 to 11
pub record Validated (p : RulingsParams) : Type 0 where
  pub floats : FloatsBounded p
  pub lengths : LengthsNotNegative p
  pub sizes : le p.box_min_xh p.box_max_xh ≡ true
  pub shares : SharesInRange p
  pub minima : MinimaInRange p

-- whatever is asked after them
pub validate_says : (p : RulingsParams) (later : List Question) → AllYes (validate_questions p ++ later) → Validated p
unfolding box_sizes_ordered
validate_says p later answers = record {
  floats = floats_say p answers.0;
  lengths = lengths_say p answers.1.0;
  sizes = answers.1.1.0;
  shares = shares_say p answers.1.1.1.0;
  minima = minima_say p answers.1.1.1.1.0;
}

-- ---- after a guard that gave 0

pub validate_passed : (p : RulingsParams) → first_missed (validate_questions p) ≡ 0 → Validated p
validate_passed p h = validate_says p [] (all_yes (validate_questions p) tt h)

pub fusion_passed : (f : FusionParams) → first_missed (fusion_questions f) ≡ 0 → CapsInRange f
fusion_passed f h = caps_say f (all_yes (fusion_questions f) tt h).0

pub free_rules_passed : (p : RulingsParams) → first_missed (free_rules_questions p) ≡ 0 → 1 ≤ p.min_free_rules
free_rules_passed p h = free_rules_say p (all_yes (free_rules_questions p) tt h).0

pub settings_passed : (p : RulingsParams) → first_missed (settings_questions p) ≡ 0 → Validated p × (1 ≤ p.min_free_rules)
settings_passed p h =
    let answers = all_yes (settings_questions p) tt h in
    (validate_says p (free_rules_questions p) answers, free_rules_say p answers.1.1.1.1.1.0)
