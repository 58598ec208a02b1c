-- `finding_at` meets its contract: each case has its values.
use mathlib.Core.Path.{sym, ap, ◌∙◌}
use Rattle.answers.specs.FindingAt.{of_row, answer_of}
use Rattle.answers.proofs.finding_at.finding_at.Goals as goal

pub returns-in-Some : goal.returns-in-Some
returns-in-Some c = c.from-in-Some.ensures ∙ ap (of_row 1) c.from.ensures ∙ ap answer_of (sym c.in-Some.is ∙ c.finding_at-answer.ensures)
