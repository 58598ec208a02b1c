-- Every ruling is printed or faint.
use mathlib.Core.Path.{◌≡◌, refl, sym, ap, ◌∙◌}
use mathlib.Core.Bool.{Bool, true, false, not}
use mathlib.Core.List.{List}
use Prim.Native.Nat.{ℕ, ◌+◌}
use lib.Ieee.{Float, nan}
use lib.ListN.{length, get_or}
use Rattle.lists.specs.Lists.{one, below}
use Rattle.lists.proofs.Keep.{length_below}
use Rattle.lists.proofs.Sizes.{keep_size_split, keep_all}
use Rattle.params.specs.declared.settings.RulingsParams.{RulingsParams}
use Rattle.printed_rulings.specs.Printed.{printed, printed_places, faint_places}

pub printed_and_faint : (p : RulingsParams) (contrasts : List Float) → length (printed_places p contrasts) + length (faint_places p contrasts) ≡ length contrasts
printed_and_faint p contrasts =
    let n = length contrasts in
    let q : ℕ → Bool = λ k. printed p (get_or contrasts k nan) in
    sym (keep_size_split (λ k. true) q (λ k. not (q k)) (λ k. either (q k)) (below n)) ∙ ap length (keep_all (λ k. true) n (λ m l. refl)) ∙ length_below n
  where
    either : (b : Bool) → one true ≡ one b + one (not b)
    either true = refl
    either false = refl
