-- `lines::number` meets its contract: after i turns the first i places have their line numbers.
use mathlib.Core.Path.{◌≡◌, refl, sym, ap, ◌∙◌}
use mathlib.Core.Bool.{cond}
use mathlib.Core.List.{List, [], ◌∷◌, ◌++◌, map}
use Prim.Native.Nat.{ℕ, zero, suc, ◌+◌, ◌≤◌, ◌<◌, ◌^◌}
use native.Mathlib.Omega.{arith}
use native.Mathlib.Numerals.{add-one}
use lib.ListN.{length, get_or, set}
use Rattle.lists.specs.Lists.{below, written}
use Rattle.lists.proofs.Written.{written_more}
use Rattle.lists.proofs.Keep.{length_values, values_more}
use Rattle.lines.specs.Lines.{sorted_positions, exceeds, line_at, lines_to}
use Rattle.lines.specs.Steps.{Lined}
use Rattle.lines.proofs.Sorted.{prior, line_next, line_low, lines_count}
use Rattle.lines.proofs.number.Invariants.{Walk}
use Rattle.lines.proofs.number.Goals as goal

module _ (positions : List ℕ) (limit : ℕ) (l : List ℕ) where
  none : length positions ≡ 0 → Lined positions limit l l 0
  unfolding lines_to
  none h = record { numbers = rw h refl; count = rw h refl }

  begun : {last : ℕ} → last ≡ get_or (sorted_positions positions) 0 0 → Walk positions limit l l last 0 0
  unfolding line_at
  begun e = record { content = refl; last_is = e; line_is = refl }

  turn : {l' : List ℕ} {last line i position last' line' : ℕ} → Walk positions limit l l' last line i → i < length l
      → position ≡ get_or (sorted_positions positions) i 0 → line' ≡ cond (exceeds limit last position) (suc line) line → last' ≡ position
      → Walk positions limit l (set l' i line') last' line' (i + 1)
  turn {l' = l'} {i = i} {line' = line'} W room p e q =
      let f = line_at limit (sorted_positions positions) in
      let same : line' ≡ f i = line_next limit (sorted_positions positions) i W.last_is W.line_is p refl e in
      let past : prior (i + 1) ≡ i = ap prior (add-one i) in
      record {
        content =
            written_more (map f (below i)) l line' W.content (length_values f i) room
            (values_more f i ∙ ap (λ (v : ℕ). map f (below i) ++ (v ∷ [])) (sym same));
        last_is = q ∙ p ∙ ap (λ (k : ℕ). get_or (sorted_positions positions) k 0) (sym past);
        line_is = same ∙ ap f (sym past);
      }

  line_fits : {l' : List ℕ} {last line i : ℕ} → Walk positions limit l l' last line i → line ≤ prior i
  line_fits {i = i} W = rw W.line_is (line_low limit (sorted_positions positions) (prior i))

  done : {l' : List ℕ} {last line i : ℕ} → Walk positions limit l l' last line i → i ≡ length positions → (i ≡ 0 → ⊥)
      → Lined positions limit l l' (line + 1)
  done {i = i} W end some =
      record {
        numbers = W.content ∙ ap (λ (m : ℕ). written (map (line_at limit (sorted_positions positions)) (below m)) l) end;
        count = add-one _ ∙ lines_count limit (sorted_positions positions) i (omega arith) W.line_is ∙ ap (lines_to limit (sorted_positions positions)) end;
      }

small : {line n : ℕ} (i : ℕ) → line ≤ prior i → i < n → n < 2 ^ 32 → line + 1 < 2 ^ 32
small zero l h k = omega arith
small (suc i) l h k = omega arith

pub returns-then-n-eq0 : goal.returns-then-n-eq0
returns-then-n-eq0 c =
    none c.args.positions.now c.args.limit c.args.numbers.now c.if-n-eq0.true

pub loop-i-init : goal.loop-i-init
loop-i-init c =
    begun c.args.positions.now c.args.limit c.args.numbers.now c.sorted_at.ensures

pub next_line-line-requires : goal.next_line-line-requires
next_line-line-requires c =
    let low = line_fits c.args.positions.now c.args.limit c.args.numbers.now c.loop-i.invariant in
    small c.loop-i.i low c.loop-i-test.true c.requires.0.small

pub loop-i-preserved : goal.loop-i-preserved
loop-i-preserved c =
    turn c.args.positions.now c.args.limit c.args.numbers.now c.loop-i.invariant (omega (arith, c.requires.0.numbers)) c.sorted_at-in-loop-i.ensures c.next_line-line.ensures.0 c.next_line-line.ensures.1

pub returns : goal.returns
returns c =
    done c.args.positions.now c.args.limit c.args.numbers.now c.loop-i.invariant (omega arith) (omega arith)
