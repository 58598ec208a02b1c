-- `free_findings::finding` meets its contract: those that are not horizontal are vertical, and no count passes 16,384.
use mathlib.Core.Path.{◌≡◌, refl}
use mathlib.Core.Bool.{Bool, not}
use mathlib.Core.List.{List}
use Prim.Native.Nat.{ℕ, ◌-◌, ◌≤◌, ◌<◌, ◌^◌}
use native.Mathlib.Omega.{arith}
use lib.Dec.{eqb}
use lib.ListN.{length, get_or}
use Rattle.lists.specs.Lists.{keep}
use Rattle.findings.proofs.OnPage.{placed_most}
use Rattle.findings.proofs.Given.{rects_given}
use Rattle.free_findings.proofs.Free.{both_counted, from_facts}
use Rattle.free_findings.proofs.finding.Goals as goal

few_of : (q : ℕ → Bool) (xs : List ℕ) → length xs ≤ 16384 → length (keep q xs) < 2 ^ 32
few_of q xs h = let e = both_counted q xs in omega arith

-- what is left of all
rest : (q : ℕ → Bool) (xs : List ℕ) {n : ℕ} → n ≡ length (keep q xs) → length xs - n ≡ length (keep (λ k. not (q k)) xs)
rest q xs e = let b = both_counted q xs in omega arith

pub around-bbox-requires : goal.around-bbox-requires
around-bbox-requires c =
    let G = rw (← c.rulings.view_is) at c.requires in rects_given G.0 G.1

pub overflow_sub-vertical : goal.overflow_sub-vertical
overflow_sub-vertical c = rw c.count_equal-horizontal.ensures (let e = both_counted (λ k. eqb (get_or c.rulings.inside.directions.now k 0) 0) c.args.places.now in omega arith)

pub longest-longest-requires : goal.longest-longest-requires
longest-longest-requires c =
    let G = rw (← c.rulings.view_is, ← c.scan.view_is) at c.requires in placed_most c.scan.invariant.sheared G.1.given

pub overflow_cast-horizontal : goal.overflow_cast-horizontal
overflow_cast-horizontal c = record { fits = rw c.count_equal-horizontal.ensures (few_of (λ k. eqb (get_or c.rulings.inside.directions.now k 0) 0) c.args.places.now c.requires.1.given.entries.few) }

pub returns : goal.returns
returns c =
    rw (← c.scan.view_is, ← c.rulings.view_is)
    (from_facts _ _ c.args.places.now c.free_finding.ensures (rw (← c.scan.view_is) at c.around-bbox.ensures.place) refl
    c.count_equal-horizontal.ensures (rest (λ k. eqb (get_or c.rulings.inside.directions.now k 0) 0) c.args.places.now c.count_equal-horizontal.ensures) c.longest-longest.ensures c.mean-mean.ensures)
