-- `Reader::word` meets its contract: each turn passes a byte, and what is read and what is left make the word.
use mathlib.Core.Path.{◌≡◌}
use Prim.Native.Nat.{◌≤◌}
use lib.ListN.{length}
use Rattle.stored.specs.Texts.{word_of, behind}
use Rattle.stored.proofs.Reading.{number_from}
use Rattle.stored.proofs.words.Reader.word.Given as goal

abbrev pub invariant-loop-b : goal.invariant-loop-b
invariant-loop-b l =
    let text = l.initial.self-inside.rest.now in
    let left = l.self-inside.rest.now in
    record {
      shorter : length left ≤ length text;
      word : number_from l.value left ≡ word_of text;
      left : behind left ≡ behind text;
    }

abbrev pub decreases-loop-b : goal.decreases-loop-b
decreases-loop-b l = length l.self-inside.rest.now
