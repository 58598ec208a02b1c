-- `table_findings::finding` meets its contract: a table of at most 4,096 rows and columns has at most 2^24 cells.
use mathlib.Core.Path.{refl}
use Prim.Native.Nat.{ℕ, ◌*◌, ◌^◌, ◌≤◌}
use native.Mathlib.Nat.{mul-le-mul}
use native.Mathlib.Omega.{arith}
use Rattle.findings.specs.Made.{table_at}
use Rattle.table_findings.proofs.finding.Goals as goal

cells_few : {m n : ℕ} → m ≤ 4096 → n ≤ 4096 → m * n ≤ 2 ^ 53
cells_few {m} {n} h k = let p : m * n ≤ 4096 * 4096 = mul-le-mul h k in omega arith

pub on_page-bbox-requires : goal.on_page-bbox-requires
on_page-bbox-requires c = let R = rw (← c.tables.view_is) at c.requires in rw c.rect_at.ensures (R.0.inside c.args.k R.1)

pub table_finding-requires : goal.table_finding-requires
table_finding-requires c =
    let R = rw (← c.tables.view_is) at c.requires in cells_few (R.0.rows_few c.args.k R.1) (R.0.columns_few c.args.k R.1)

pub returns : goal.returns
unfolding table_at
returns c = rw (c.table_finding.ensures, c.on_page-bbox.ensures.place, c.rect_at.ensures, ← c.scan.view_is, ← c.tables.view_is) refl
