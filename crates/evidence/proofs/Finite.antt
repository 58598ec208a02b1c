-- Every evidence number is finite where the settings passed their questions and what was measured is bounded: each step stays below 2^53.
use mathlib.Core.Path.{◌≡◌, refl, ap₂}
use mathlib.Core.Bool.{Bool, true, false, ◌&&◌}
use Prim.Native.Nat.{ℕ, ◌+◌, ◌*◌, ◌^◌, ◌≤◌, ◌<◌}
use native.Mathlib.Omega.{arith}
use lib.Dec.{T}
use lib.Ieee.{Float, binary64, of_bits, sub, mul}
use lib.Ieee.Scale.{finite}
use Rattle.math.specs.Constants.{zero, half, ten}
use Rattle.math.specs.Select.{minimum_number, clamp_to}
use Rattle.math.specs.Sum.{whole}
use Rattle.math.proofs.Bound.{AtMost, AtLeast, value_at_most, weaken, mul_at_most, div_at_most, sub_at_most, min_at_most, clamp_at_most}
use Rattle.math.proofs.Sums.{whole_value}
use Rattle.layout.specs.declared.rect.PageRect.{PageRect}
use Rattle.params.specs.declared.settings.RulingsParams.{RulingsParams}
use Rattle.params.specs.declared.settings.FusionParams.{FusionParams}
use Rattle.params.proofs.Passed.{FloatsBounded, CapsInRange}
use Rattle.evidence.specs.Finding.{finite_evidence, finite_finding}
use Rattle.evidence.specs.Score.{evidence_of}
use Rattle.evidence.specs.Kinds.{table_finding, free_finding, grid_finding, fold_finding}

-- a finite float passes the test
is_finite : (x : Float) → T (finite x) → finite x ≡ true
is_finite x h = go (finite x) h
  where
    go : (b : Bool) → T b → b ≡ true
    go true t = refl
    go false t = elim t [ ]

-- the constants
zero_small : AtMost 1 zero
unfolding of_bits
zero_small = record { finite = tt; size = omega arith }

half_small : AtMost 1 half
unfolding of_bits
half_small = record { finite = tt; size = omega arith }

ten_large : AtLeast 1 ten
unfolding of_bits
ten_large = record { finite = tt; size = omega arith }

whole_small : (n m : ℕ) → n ≤ m → m ≤ 2 ^ 53 → AtMost m (whole n)
whole_small n m h k = value_at_most m (whole n) false n 1 (omega arith) (omega arith) (whole_value n (omega arith))

-- an evidence whose value, threshold and unclamped llr are bounded
evidence_finite : {a b c d : ℕ} {clip value threshold llr : Float} → AtMost a value → AtMost b threshold → AtMost c llr → AtMost d clip → d ≤ c
    → finite_evidence (evidence_of clip value threshold llr) ≡ true
evidence_finite {c} {d} {clip} {value} {threshold} {llr} v t l k h =
    ap₂ ◌&&◌ (ap₂ ◌&&◌ (is_finite value v.finite) (is_finite threshold t.finite)) (is_finite (clamp_to clip llr) (clamp_at_most {limit = clip} {x = llr} (weaken d c clip h k) l).finite)

-- a count against its cap, times the coefficient: both stay below 2^24
count_small : {n : ℕ} {coef cap : Float} → n ≤ 2 ^ 24 → AtMost 1_000_000 coef → AtMost 1_000_000 cap
    → AtMost (1_000_000 * 2 ^ 24) (mul binary64 coef (minimum_number (whole n) cap))
count_small {n} {coef} {cap} h a b =
    mul_at_most binary64 1_000_000 (2 ^ 24) coef (minimum_number (whole n) cap) a (min_at_most (whole_small n (2 ^ 24) h (omega arith)) (weaken 1_000_000 (2 ^ 24) cap (omega arith) b)) (omega arith)

module _ (p : RulingsParams) (f : FusionParams) (bbox : PageRect) (P : FloatsBounded p) (C : CapsInRange f) where
  clip : AtMost 1_000_000 f.llr_clip
  clip = C.llr_clip.at_most

  pub table_finite : (rows columns rulings : ℕ) (share : Float) → rows * columns ≤ 2 ^ 24 → AtMost 8192 share
      → finite_finding (table_finding p f bbox rows columns rulings share) ≡ true
  unfolding finite_finding table_finding
  table_finite rows columns rulings share h s =
      ap₂ ◌&&◌ (evidence_finite (whole_small (rows * columns) (2 ^ 24) h (omega arith)) zero_small (count_small h P.table_cells_coef P.table_cells_cap) clip (omega arith))
      (ap₂ ◌&&◌
      (evidence_finite s half_small (mul_at_most binary64 1_000_000 8193 p.table_junction_coef (sub binary64 share half) P.table_junction_coef (sub_at_most binary64 8192 1 share half s half_small (omega arith)) (omega arith)) clip (omega arith))
      refl)

  pub free_finite : (count horizontal vertical longest : ℕ) (mean : Float) → count ≤ 2 ^ 24 → AtMost (2 ^ 40) mean
      → finite_finding (free_finding p f bbox count horizontal vertical longest mean) ≡ true
  unfolding finite_finding free_finding
  free_finite count horizontal vertical longest mean h m =
      ap₂ ◌&&◌ (evidence_finite (whole_small count (2 ^ 24) h (omega arith)) zero_small (count_small h P.free_rules_coef P.free_rules_cap) clip (omega arith))
      (ap₂ ◌&&◌ (evidence_finite m P.rule_min_contrast (weaken 1 1_000_000 zero (omega arith) zero_small) clip (omega arith)) refl)

  pub grid_finite : (boxes ticked : ℕ) (mean : Float) → boxes ≤ 2 ^ 24 → p.grid_min_boxes < 2 ^ 32 → AtMost (2 ^ 40) mean
      → finite_finding (grid_finding p f bbox boxes ticked mean) ≡ true
  unfolding finite_finding grid_finding
  grid_finite boxes ticked mean h k m =
      ap₂ ◌&&◌
      (evidence_finite (whole_small boxes (2 ^ 24) h (omega arith)) (whole_small p.grid_min_boxes (2 ^ 32) (omega arith) (omega arith)) (count_small h P.grid_coef P.grid_cap) clip (omega arith))
      (ap₂ ◌&&◌ (evidence_finite m P.box_edge_coverage (weaken 1 1_000_000 zero (omega arith) zero_small) clip (omega arith)) refl)

  pub fold_finite : (vertical : Bool) (inches contrast : Float) → AtMost (2 ^ 22) contrast → finite_finding (fold_finding p f bbox vertical inches contrast) ≡ true
  unfolding finite_finding fold_finding
  fold_finite vertical inches contrast s =
      ap₂ ◌&&◌
      (evidence_finite s P.rule_min_contrast
      (div_at_most binary64 (1_000_000 + 2 ^ 22) 1 (sub binary64 p.rule_min_contrast contrast) ten (sub_at_most binary64 1_000_000 (2 ^ 22) p.rule_min_contrast contrast P.rule_min_contrast s (omega arith)) ten_large (omega arith))
      clip (omega arith))
      refl
