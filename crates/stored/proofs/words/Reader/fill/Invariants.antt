-- `Reader::fill` meets its contract: the entries so far, and those of the words to come, are those of all words.
use Rattle.std.proofs.Common.{◌≡◌, ◌++◌, ℕ, ◌-◌, length, map, take}
use Rattle.stored.specs.Texts.{words, rest}
use Rattle.stored.proofs.words.Reader.fill.Given as goal

abbrev pub invariant-loop-x : goal.invariant-loop-x
invariant-loop-x g l =
    let n = length l.initial.out in
    record {
      long : length l.out ≡ n;
      entries : (v : ℕ → _) → ((x : ℕ) (r : _) → goal.F-post g l.of x r → r ≡ v x)
          → take l.x-index l.out ++ map v (words (n - l.x-index) l.self) ≡ map v (words n l.initial.self);
      left : rest (n - l.x-index) l.self ≡ rest n l.initial.self;
    }
