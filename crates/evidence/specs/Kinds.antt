-- The finding of each kind with the facts and evidence of `detect_with`: each number is the Rust's step, products and sums in its order.
use Rattle.std.specs.Prelude.{Bool, not, [], ◌∷◌, ℕ, ◌*◌, Float}
use Rattle.std.specs.Float.{binary64}
use Rattle.std.specs.Float.Ieee.{sub, mul, div, lt}
use Rattle.math.specs.Constants.{zero, half, ten}
use Rattle.math.specs.Rounding.{round_output}
use Rattle.math.specs.Select.{minimum_number}
use Rattle.math.specs.Sum.{whole}
use Rattle.layout.specs.declared.rect.PageRect.{PageRect}
use Rattle.params.specs.declared.settings.RulingsParams.{RulingsParams}
use Rattle.params.specs.declared.settings.FusionParams.{FusionParams}
use Rattle.evidence.specs.declared.finding.Evidence.{Evidence}
use Rattle.evidence.specs.declared.finding.Kind.{Kind}
use Rattle.evidence.specs.declared.finding.Kind.TheVariants.{Table, FreeRules, Grid, Fold}
use Rattle.evidence.specs.declared.finding.Finding.{Finding}
use Rattle.evidence.specs.Score.{evidence_of, log_odds}

-- A count against its threshold: coefficient × the lesser of the count and its cap.
abbrev pub count_evidence : Float → Float → Float → Float → Float → Evidence
count_evidence clip count threshold coef cap = evidence_of clip count threshold (mul binary64 coef (minimum_number count cap))

-- The cells of a table, rows × columns, against 0.
abbrev pub cells_evidence : RulingsParams → FusionParams → ℕ → ℕ → Evidence
cells_evidence p f rows columns = count_evidence f.llr_clip (whole (rows * columns)) zero p.table_cells_coef p.table_cells_cap

-- Its joined share against 0.5: coefficient × (share − 0.5).
abbrev pub share_evidence : RulingsParams → FusionParams → Float → Evidence
share_evidence p f share = evidence_of f.llr_clip share half (mul binary64 p.table_junction_coef (sub binary64 share half))

-- A mean against its threshold, which says nothing for or against: its llr is 0.
abbrev pub mean_evidence : FusionParams → Float → Float → Evidence
mean_evidence f mean threshold = evidence_of f.llr_clip mean threshold zero

-- The contrast of a fold against rule_min_contrast: (rule_min_contrast − contrast) / 10.
abbrev pub contrast_evidence : RulingsParams → FusionParams → Float → Evidence
contrast_evidence p f contrast =
    evidence_of f.llr_clip contrast p.rule_min_contrast (div binary64 (sub binary64 p.rule_min_contrast contrast) ten)

-- A finding with two evidences; the second one's llr is given, since its kind holds the rest.
abbrev pub with_two : Float → Float → PageRect → Evidence → Float → Kind → Finding
with_two prior cap bbox first second kind =
    record { log_odds = log_odds prior cap (first.llr ∷ second ∷ []); bbox = bbox; first = first; kind = kind }

-- The finding of a table.
unfoldable pub table_finding : RulingsParams → FusionParams → PageRect → ℕ → ℕ → ℕ → Float → Finding
table_finding p f bbox rows columns rulings share =
    let second = share_evidence p f share in
    with_two p.table_prior f.group_cap bbox (cells_evidence p f rows columns) second.llr (Table rows columns rulings second)

-- The finding of the free rules: how many there are against 0, and the mean of their contrasts against rule_min_contrast.
unfoldable pub free_finding : RulingsParams → FusionParams → PageRect → ℕ → ℕ → ℕ → ℕ → Float → Finding
free_finding p f bbox count horizontal vertical longest mean =
    let second = mean_evidence f mean p.rule_min_contrast in
    with_two p.free_rules_prior f.group_cap bbox (count_evidence f.llr_clip (whole count) zero p.free_rules_coef p.free_rules_cap)
    second.llr (FreeRules horizontal vertical longest second)

-- The finding of a grid: its boxes against grid_min_boxes, and the mean of their edge coverages against box_edge_coverage.
unfoldable pub grid_finding : RulingsParams → FusionParams → PageRect → ℕ → ℕ → Float → Finding
grid_finding p f bbox boxes ticked mean =
    let second = mean_evidence f mean p.box_edge_coverage in
    with_two p.grid_prior f.group_cap bbox
    (count_evidence f.llr_clip (whole boxes) (whole p.grid_min_boxes) p.grid_coef p.grid_cap)
    second.llr (Grid boxes ticked second)

-- A length in inches, one division.
abbrev pub inches_of : ℕ → ℕ → Float
inches_of length dpi = div binary64 (whole length) (whole dpi)

-- A faint ruling is a fold when it has at least fold_min_length_in inches.
abbrev pub is_fold : RulingsParams → Float → Bool
is_fold p inches = not (lt inches p.fold_min_length_in)

-- The finding of a fold: prior 0.0, one evidence, and its length rounded by `round_output`.
unfoldable pub fold_finding : RulingsParams → FusionParams → PageRect → Bool → Float → Float → Finding
fold_finding p f bbox vertical inches contrast =
    let first = contrast_evidence p f contrast in
    record { log_odds = log_odds zero f.group_cap (first.llr ∷ []); bbox = bbox; first = first; kind = Fold vertical (round_output inches) }
