-- `fold_findings::finding` meets its contract: it makes the finding from the rectangle on the page, the length in inches and the contrast.
use mathlib.Core.Path.{refl}
use Rattle.findings.specs.Made.{fold_at}
use Rattle.fold_findings.proofs.finding.Goals as goal

pub returns : goal.returns
unfolding fold_at
returns c = rw (c.fold_finding.ensures, c.on_page-bbox.ensures.place, c.inches.ensures, c.rect_at.ensures, ← c.scan.view_is, ← c.rulings.view_is) refl
