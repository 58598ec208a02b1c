-- Questions 7 to 13 of document 01, about the settings.
use Rattle.std.specs.Prelude.{Bool, true, not, ◌&&◌, List, [], ◌∷◌, ◌++◌, leb, Float}
use Rattle.std.specs.Float.Ieee.{lt, le}
use Rattle.std.specs.Float.Ieee.Scale.{finite}
use Rattle.math.specs.Constants.{zero, million}
use Rattle.math.specs.Select.{absolute}
use Rattle.questions.specs.Questions.{Question}
use Rattle.params.specs.Constants.{float_one}
use Rattle.params.specs.declared.settings.RulingsParams.{RulingsParams}
use Rattle.params.specs.declared.settings.FusionParams.{FusionParams}

-- Every float of a list passes a test.
abbrev pub all_of : (Float → Bool) → List Float → Bool
all_of test [] = true
all_of test (x ∷ xs) = test x && all_of test xs

-- Finite, size at most 1,000,000.
abbrev pub bounded : Float → Bool
bounded x = finite x && le (absolute x) million

-- Not below 0; minus zero is not.
abbrev pub not_negative : Float → Bool
not_negative x = not (lt x zero)

-- From 0 to 1.
abbrev pub from_zero_to_one : Float → Bool
from_zero_to_one x = le zero x && le x float_one

-- Finite, 0 to 1,000,000.
abbrev pub from_zero_to_million : Float → Bool
from_zero_to_million x = finite x && le zero x && le x million

-- The 25 float settings.
abbrev pub float_settings : RulingsParams → List Float
float_settings p =
    p.merge_across_xh ∷ p.merge_gap_xh ∷ p.rule_min_contrast ∷ p.fold_min_length_in ∷ p.join_tol_xh ∷ p.line_cluster_xh
    ∷ p.table_prior ∷ p.table_cells_coef ∷ p.table_cells_cap ∷ p.table_junction_coef
    ∷ p.free_rules_prior ∷ p.free_rules_coef ∷ p.free_rules_cap
    ∷ p.box_min_xh ∷ p.box_min_in ∷ p.box_max_xh ∷ p.box_overshoot_fraction ∷ p.box_aspect_tol
    ∷ p.box_edge_coverage ∷ p.box_max_inner_ink ∷ p.box_checked_ink
    ∷ p.grid_align_xh ∷ p.grid_prior ∷ p.grid_coef ∷ p.grid_cap ∷ []

-- The eight settings that are lengths, which question 8 is about.
abbrev pub length_settings : RulingsParams → List Float
length_settings p =
    p.merge_across_xh ∷ p.merge_gap_xh ∷ p.join_tol_xh ∷ p.line_cluster_xh
    ∷ p.box_min_xh ∷ p.box_min_in ∷ p.grid_align_xh ∷ p.fold_min_length_in ∷ []

-- The five settings that are shares, which question 10 is about.
abbrev pub share_settings : RulingsParams → List Float
share_settings p =
    p.box_edge_coverage ∷ p.box_max_inner_ink ∷ p.box_checked_ink ∷ p.box_aspect_tol ∷ p.box_overshoot_fraction ∷ []

-- Question 7: all 25 float settings finite, size at most 1,000,000.
unfoldable pub floats_bounded : RulingsParams → Bool
floats_bounded p = all_of bounded (float_settings p)

-- Question 8: the lengths not below 0.
unfoldable pub lengths_not_negative : RulingsParams → Bool
lengths_not_negative p = all_of not_negative (length_settings p)

-- Question 9: box_max_xh at least box_min_xh.
unfoldable pub box_sizes_ordered : RulingsParams → Bool
box_sizes_ordered p = le p.box_min_xh p.box_max_xh

-- Question 10: the shares from 0 to 1, box_tolerance_px at most 3.
unfoldable pub shares_in_range : RulingsParams → Bool
shares_in_range p = all_of from_zero_to_one (share_settings p) && leb p.box_tolerance_px 3

-- Question 11: table_min_horizontal and table_min_vertical at least 1, grid_min_boxes at least 2.
unfoldable pub minima_in_range : RulingsParams → Bool
minima_in_range p = leb 1 p.table_min_horizontal && leb 1 p.table_min_vertical && leb 2 p.grid_min_boxes

-- Question 12: llr_clip and group_cap finite, 0 to 1,000,000.
unfoldable pub caps_in_range : FusionParams → Bool
caps_in_range f = all_of from_zero_to_million (f.llr_clip ∷ f.group_cap ∷ [])

-- Question 13: min_free_rules at least 1.
unfoldable pub free_rules_counted : RulingsParams → Bool
free_rules_counted p = leb 1 p.min_free_rules

-- `RulingsParams::validate`: questions 7 to 11.
abbrev pub validate_questions : RulingsParams → List Question
validate_questions p =
    (7, floats_bounded p)
    ∷ (8, lengths_not_negative p)
    ∷ (9, box_sizes_ordered p)
    ∷ (10, shares_in_range p)
    ∷ (11, minima_in_range p)
    ∷ []

-- Question 12, where llr_clip and group_cap are given.
abbrev pub fusion_questions : FusionParams → List Question
fusion_questions f = (12, caps_in_range f) ∷ []

-- Question 13 alone.
abbrev pub free_rules_questions : RulingsParams → List Question
free_rules_questions p = (13, free_rules_counted p) ∷ []

-- What a call asks that is given the settings without llr_clip and group_cap: 7 to 11 and 13.
abbrev pub settings_questions : RulingsParams → List Question
settings_questions p = validate_questions p ++ free_rules_questions p
