-- `finding_at` meets its contract: the tests are those of the definition, and where they pass every list has the entry.
use mathlib.Core.Path.{◌≡◌, sym, ap, ap₂, ◌∙◌}
use mathlib.Core.Bool.{Bool, ◌&&◌, cond}
use lib.Dec.{ltb}
use Rattle.rects.specs.Rects.{count}
use Rattle.lists.proofs.Every.{and_second}
use Rattle.std.specs.Prelude.{None}
use Rattle.read_findings.specs.Read.{columns, stands, finding_of, row_at}
use Rattle.read_findings.proofs.Reading.{halves, tests, standing_of}
use Rattle.read_findings.proofs.finding_at.Goals.{After-four_long-3}
use Rattle.read_findings.proofs.finding_at.Goals as goal

-- the tests of a place
tested : (c : After-four_long-3) → let l = c.lists.inside in
    ltb c.args.i c.args.count && (ltb c.args.i (count l.rects.now) && c.four_long.result) && (c.four_long-2.result && c.four_long-3.result)
    ≡ ltb c.args.i c.args.count && stands c.args.lists.now c.args.i
tested c =
    let l = c.lists.inside in
    let i = c.args.i in
    rw (← c.lists.view_is)
    (tests (columns l.rects.now l.kinds.now l.a.now l.b.now l.c.now l.log_odds.now l.first_values.now l.first_thresholds.now l.first_llrs.now l.second_values.now l.second_thresholds.now l.second_llrs.now l.lengths.now)
    c.args.count i c.four_long.ensures
    (ap₂ ◌&&◌ c.four_long-2.ensures c.four_long-3.ensures ∙ halves i l.log_odds.now l.first_values.now l.first_thresholds.now l.first_llrs.now l.second_values.now l.second_thresholds.now l.second_llrs.now l.lengths.now))

pub row_at-row-requires : goal.row_at-row-requires
row_at-row-requires c =
    standing_of c.args.lists.now c.args.i (and_second (ltb c.args.i c.args.count) _ (sym (tested (goal.at.row_at-row-requires c).After-four_long-3) ∙ c.if-i-count.true))

pub returns-then-i-count : goal.returns-then-i-count
returns-then-i-count c =
    c.finding_of.ensures ∙ ap finding_of c.row_at-row.ensures
    ∙ ap (λ (t : Bool). cond t (finding_of (row_at c.args.lists.now c.args.i)) None) (sym c.if-i-count.true ∙ tested (goal.at.returns-then-i-count c).After-four_long-3)

pub returns : goal.returns
returns c =
    ap (λ (t : Bool). cond t (finding_of (row_at c.args.lists.now c.args.i)) None) (sym c.if-i-count.false ∙ tested (goal.at.returns c).After-four_long-3)
