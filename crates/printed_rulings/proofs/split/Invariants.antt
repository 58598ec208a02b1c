-- `printed_rulings::split` meets its contract: after k turns the printed and the faint ones of the first k rulings are listed.
use mathlib.Core.Path.{◌≡◌, sym, ap, subst, ◌∙◌}
use mathlib.Core.Bool.{Bool, true, false, not}
use mathlib.Core.List.{List}
use Prim.Native.Nat.{ℕ, ◌+◌, ◌≤◌, ◌<◌}
use native.Mathlib.Omega.{arith}
use lib.Ieee.{Float, nan}
use lib.ListN.{length, get_or, set}
use Rattle.lists.proofs.Gathered.{Gathered, gathered_none, gathered_low, gathered_one, gathered_past}
use Rattle.params.specs.declared.settings.RulingsParams.{RulingsParams}
use Rattle.printed_rulings.specs.Printed.{printed}
use Rattle.printed_rulings.specs.Steps.{SplitByContrast}
use Rattle.printed_rulings.proofs.split.Given as goal

module _ (p : RulingsParams) (cs : List Float) where
  abbrev pub is_dark : ℕ → Bool
  is_dark k = printed p (get_or cs k nan)

  abbrev pub is_pale : ℕ → Bool
  is_pale k = not (printed p (get_or cs k nan))

  pub record Progress (ps fs ps' fs' : List ℕ) (a b k : ℕ) : Type 0 where
    pub dark : Gathered is_dark k ps ps' a
    pub pale : Gathered is_pale k fs fs' b

  pub begin : (ps fs : List ℕ) → Progress ps fs ps fs 0 0 0
  begin ps fs = record { dark = gathered_none is_dark ps; pale = gathered_none is_pale fs }

  module _ {ps fs ps' fs' : List ℕ} {a b k : ℕ} (P : Progress ps fs ps' fs' a b k) where
    pub low_dark : a ≤ k
    low_dark = gathered_low is_dark P.dark

    pub low_pale : b ≤ k
    low_pale = gathered_low is_pale P.pale

    pub on_dark : {t : Bool} → k < length cs → length cs ≤ length ps → t ≡ is_dark k → t ≡ true → Progress ps fs (set ps' a k) fs' (a + 1) b (k + 1)
    on_dark l room e h =
        let d : is_dark k ≡ true = sym e ∙ h in
        record { dark = gathered_one is_dark P.dark d (omega arith); pale = gathered_past is_pale P.pale (ap not d) }

    pub on_pale : {t : Bool} → k < length cs → length cs ≤ length fs → t ≡ is_dark k → t ≡ false → Progress ps fs ps' (set fs' b k) a (b + 1) (k + 1)
    on_pale l room e h =
        let d : is_dark k ≡ false = sym e ∙ h in
        record { dark = gathered_past is_dark P.dark d; pale = gathered_one is_pale P.pale (ap not d) (omega arith) }

    pub done : k ≡ length cs → SplitByContrast p cs ps fs ps' fs' a b
    done end =
        let D = subst (λ (m : ℕ). Gathered is_dark m ps ps' a) end P.dark in
        let F = subst (λ (m : ℕ). Gathered is_pale m fs fs' b) end P.pale in
        record { printed_count = D.count; faint_count = F.count; printed_list = D.content; faint_list = F.content }

abbrev pub invariant-loop-k : goal.invariant-loop-k
invariant-loop-k l = Progress l.p l.contrasts l.initial.printed l.initial.faint l.printed l.faint l.dark l.pale l.k
