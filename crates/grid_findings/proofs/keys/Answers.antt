-- `grid_findings::keys` meets its contract: key k is that of grid k.
use mathlib.Core.Path.{ap, ◌∙◌}
use Prim.Native.Nat.{ℕ}
use mathlib.Core.List.{map}
use lib.ListN.{length, get_or}
use Rattle.lists.specs.Lists.{below}
use lib.Seq.{sets}
use Rattle.std.proofs.Common.{rules}
use Rattle.findings.specs.Steps.{grid_key}
use Rattle.lists.proofs.Keep.{at_entries}
use Rattle.grid_findings.specs.Boxes.{Boxes, sets_of}
use Rattle.grid_findings.proofs.keys.Goals as goal

pub returns : goal.returns
returns c =
    let a = c.args in
    let key : ℕ → ℕ = λ n. grid_key a.scan.now.sides a.scan.now.shear a.scan.now.shear_x a.boxes.now.rects (sets_of a.boxes.now n) in
    let e = c.put_all.ensures.all (λ k. key (get_or a.boxes.now.grids k 0)) (λ k x h p. search rules) in
    e ∙ ap (λ (n : ℕ). sets a.keys.now a.at (map (λ k. key (get_or a.boxes.now.grids k 0)) (below n))) (ap (λ (b : Boxes). length b.grids) c.boxes.view_is) ∙ ap (sets a.keys.now a.at) (at_entries key a.boxes.now.grids)
