-- What question 2 says of a scan, and with questions 7 and 8 of each rounded limit: a whole number that is small enough for 64 bits with room to spare.
use mathlib.Core.Path.{◌≡◌, refl, sym, ◌∙◌}
use Prim.Native.Nat.{ℕ, ◌*◌, ◌≤◌}
use native.Mathlib.Nat.{le_trans, le_of_eq, mul-one, one-mul, mul-le-mul_right}
use native.Mathlib.Omega.{arith}
use mathlib.Core.Bool.{true, false}
use lib.Dec.{eqb, lit<, lit≤}
use lib.IntN.{ℤ}
use lib.Ieee.{Float, binary64, mul, lt, of_bits}
use lib.Ieee.Positive.{num, den, value→cross}
use borrow.Author.Tests.{not-true, eqb-false}
use Rattle.math.specs.Constants.{zero, two}
use Rattle.math.specs.Rounding.{rounded_product}
use Rattle.math.specs.Steps.{UpTo}
use Rattle.math.proofs.Bound.{AtMost, AtLeast, value_at_most, mul_at_most}
use Rattle.math.proofs.Limit.{up_to_more, rounded_product_up_to, mul_not_below}
use Rattle.math.proofs.Sums.{whole, whole_value}
use Rattle.questions.specs.Questions.{first_missed}
use Rattle.questions.proofs.FirstMissed.{all_yes}
use Rattle.params.specs.declared.settings.RulingsParams.{RulingsParams}
use Rattle.params.specs.Scan.{dpi_given, xheight_in_range, scan_questions, xheight_questions}
use Rattle.params.proofs.Every.{both_true}
use Rattle.params.proofs.Bounds.{XHeight, xheight_says}
use Rattle.params.specs.Limits.{align_setting}
use Rattle.params.specs.Steps.{SettingsPassed}
use Rattle.params.proofs.Passed.{settings_passed}

-- ---- the scan

pub dpi_says : (dpi : ℕ) → dpi_given dpi ≡ true → 1 ≤ dpi
dpi_says dpi h = positive (eqb-false dpi 0 (not-true (eqb dpi 0) h))
  where
    positive : (dpi ≡ 0 → ⊥) → 1 ≤ dpi
    positive n = omega arith

pub xheight_passed : (x : Float) → first_missed (xheight_questions x) ≡ 0 → XHeight x
xheight_passed x h = xheight_says x (all_yes (xheight_questions x) tt h).0

pub scan_passed : (dpi : ℕ) (x : Float) → first_missed (scan_questions dpi x) ≡ 0 → (1 ≤ dpi) × XHeight x
scan_passed dpi x h =
    let b = both_true (dpi_given dpi) (xheight_in_range x) (all_yes (scan_questions dpi x) tt h).0 in
    (dpi_says dpi b.0, xheight_says x b.1)

-- the dpi, 16 bits wide, as a float
pub record Dpi (dpi : ℕ) : Type 0 where
  pub at_least : AtLeast 1 (whole dpi)
  pub at_most : AtMost 65_535 (whole dpi)

pub dpi_as_float : (dpi : ℕ) → 1 ≤ dpi → dpi ≤ 65_535 → Dpi dpi
dpi_as_float dpi h k =
    let v = whole_value dpi (le_trans k (lit≤ tt)) in
    let most = value_at_most 65_535 (whole dpi) false dpi 1 (lit< tt) (le_trans k (le_of_eq (sym (mul-one 65_535)))) v in
    record {
      at_least = record {
        finite = most.finite;
        size = size_of (whole dpi) (value→cross (whole dpi) dpi 1 v);
      };
      at_most = most;
    }
  where
    size_of : (x : Float) → num x * 1 ≡ dpi * den x → den x ≤ 1 * num x
    size_of x e = le_trans (le_of_eq (sym (one-mul (den x)))) (le_trans (mul-le-mul_right (den x) h) (le_of_eq (sym e ∙ mul-one (num x) ∙ sym (one-mul (num x)))))

-- ---- the rounded limits

pub limit_up_to : (x y : Float) → AtMost 1_000_000 x → lt x zero ≡ false → XHeight y → UpTo (1_000_000 * 4096) (rounded_product x y)
limit_up_to x y h p k = rounded_product_up_to 1_000_000 4096 x y h k.at_most (lit< tt) p k.not_below

two_at_most : AtMost 2 two
unfolding of_bits
two_at_most = record { finite = tt; size = lit≤ tt }

two_not_below : lt two zero ≡ false
unfolding lt of_bits
two_not_below = refl

pub doubled_limit_up_to : (x y : Float) → AtMost 1_000_000 x → lt x zero ≡ false → XHeight y → UpTo (2 * 1_000_000 * 4096) (rounded_product (mul binary64 two x) y)
doubled_limit_up_to x y h p k =
    rounded_product_up_to (2 * 1_000_000) 4096 (mul binary64 two x) y (mul_at_most binary64 2 1_000_000 two x two_at_most h (lit< tt)) k.at_most (lit< tt)
    (mul_not_below binary64 2 1_000_000 two x two_at_most h (lit< tt) two_not_below p) k.not_below

-- the limits of settings and an x-height that passed their questions: each is the rounded product, and small
pub record Limits (p : RulingsParams) (xheight : Float) : Type 0 where
  pub across : UpTo (1_000_000 * 4096) (rounded_product p.merge_across_xh xheight)
  pub gap : UpTo (1_000_000 * 4096) (rounded_product p.merge_gap_xh xheight)
  pub join : UpTo (1_000_000 * 4096) (rounded_product p.join_tol_xh xheight)
  pub line : UpTo (1_000_000 * 4096) (rounded_product p.line_cluster_xh xheight)
  pub align : UpTo (2 * 1_000_000 * 4096) (rounded_product (align_setting p) xheight)

pub limits : (p : RulingsParams) (xheight : Float) → SettingsPassed p xheight → Limits p xheight
limits p xheight S =
    let v = (settings_passed p S.settings).0 in
    let x = xheight_passed xheight S.xheight_passed in
    record {
      across = limit_up_to p.merge_across_xh xheight v.floats.merge_across_xh v.lengths.merge_across_xh x;
      gap = limit_up_to p.merge_gap_xh xheight v.floats.merge_gap_xh v.lengths.merge_gap_xh x;
      join = limit_up_to p.join_tol_xh xheight v.floats.join_tol_xh v.lengths.join_tol_xh x;
      line = limit_up_to p.line_cluster_xh xheight v.floats.line_cluster_xh v.lengths.line_cluster_xh x;
      align = doubled_limit_up_to p.grid_align_xh xheight v.floats.grid_align_xh v.lengths.grid_align_xh x;
    }

-- small enough for what `limit` asks
pub limit_fits : {z : ℤ} → UpTo (1_000_000 * 4096) z → UpTo (2 * 1_000_000 * 4096) z
limit_fits U = up_to_more (lit≤ tt) U
