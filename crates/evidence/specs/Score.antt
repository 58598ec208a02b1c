-- Evidence and log odds, as document 01 and the Rust's `Evidence::new` and `confidence_capped` have them.
use Rattle.std.specs.Prelude.{List, Float}
use Rattle.std.specs.Float.{binary64}
use Rattle.std.specs.Float.Ieee.{add}
use Rattle.math.specs.Constants.{zero}
use Rattle.math.specs.Select.{clamp_to}
use Rattle.math.specs.Sum.{pairwise_sum}
use Rattle.evidence.specs.declared.finding.Evidence.{Evidence}

-- Each llr is clamped to ±llr_clip.
abbrev pub evidence_of : Float → Float → Float → Float → Evidence
evidence_of clip value threshold llr = record { value = value; threshold = threshold; llr = clamp_to clip llr }

-- Log odds = prior + (0.0 + (pairwise sum of the llrs clamped to ±group_cap)).
unfoldable pub log_odds : Float → Float → List Float → Float
log_odds prior cap llrs = add binary64 prior (add binary64 zero (clamp_to cap (pairwise_sum llrs)))
