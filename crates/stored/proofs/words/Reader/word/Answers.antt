-- `Reader::word` meets its contract: each turn passes a byte, and what is read and what is left make the word.
use Rattle.std.proofs.Common.{sym, ap, ◌∙◌}
use native.Mathlib.Omega.{arith}
use Rattle.stored.specs.Texts.{behind}
use Rattle.stored.proofs.Reading.{number_from, one_digit, past_digit}
use Rattle.stored.proofs.words.Reader.word.Goals as goal

pub loop-b-preserved : goal.loop-b-preserved
loop-b-preserved c =
    let split = c.in-Some.ensures.cases in
    let left = c.in-Some.rest.now in
    let b = c.in-Some.b.now in
    let d = c.in-Some-digit.d in
    let is = sym c.digit.ensures.value ∙ c.in-Some-digit.is in
    record {
      shorter = omega (arith, split.1, c.loop-b.invariant.shorter);
      word = one_digit c.loop-b.value d b left is ∙ ap (number_from c.loop-b.value) (sym split.0) ∙ c.loop-b.invariant.word;
      left = past_digit d b left is ∙ ap behind (sym split.0) ∙ c.loop-b.invariant.left;
    }
