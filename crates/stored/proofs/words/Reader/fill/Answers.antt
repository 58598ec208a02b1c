-- `Reader::fill` meets its contract: the entries so far, and those of the words to come, are those of all words.
use Rattle.std.proofs.Common.{length}
use native.Mathlib.Omega.{arith}
use lib.ListN.{length-set}
use Rattle.stored.proofs.Reading.{one_word, one_less}
use Rattle.stored.proofs.words.Reader.fill.Goals as goal

pub loop-x-preserved : goal.loop-x-preserved
loop-x-preserved g c =
    let n = length c.args.out.now in
    let i = c.loop-x.x-index in
    let text = c.loop-x.self in
    record {
      long = simp length-set c.loop-x.invariant.long;
      entries = λ v each.
          rw c.word.ensures.left
          (one_word v n i c.loop-x.out c.of.result c.word.result text (omega (arith, c.loop-x-test.true, c.loop-x.invariant.long)) c.loop-x.invariant.long
          (each c.word.result c.of.result c.of.ensures) c.word.ensures.word
          (c.loop-x.invariant.entries v each));
      left = rw c.word.ensures.left (one_less n i text (omega (arith, c.loop-x-test.true, c.loop-x.invariant.long)) c.loop-x.invariant.left);
    }
