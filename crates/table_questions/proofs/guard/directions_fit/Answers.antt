-- `guard::directions_fit` meets its contract: that each direction is at most 1, as a test over the indexes.
use mathlib.Core.Path.{◌≡◌, refl, sym}
use mathlib.Core.Bool.{Bool, true, false, false≢true}
use mathlib.Core.List.{List}
use Prim.Native.Nat.{ℕ, ◌≤◌}
use borrow.Author.Rules.{rules}
use borrow.Author.Tests.{eq-eqb, le-leb, leb-true}
use lib.Dec.{leb}
use lib.ListN.{length, get_or}
use Rattle.std.specs.Prelude.{◌↔◌, IsTrue, EachIndex}
use Rattle.lists.specs.Lists.{every_below}
use Rattle.lists.proofs.Every.{every_at, every_of}
use Rattle.rects.specs.Rects.{count}
use Rattle.table_questions.proofs.guard.directions_fit.Goals as goal

module _ (directions : List ℕ) where
  abbrev small : ℕ → Bool
  small k = leb (get_or directions k 0) 1

  tested : (b : Bool) → (IsTrue b ↔ EachIndex directions (λ k. get_or directions k 0 ≤ 1)) → b ≡ every_below (length directions) small
  tested true e = sym (every_of (length directions) small (λ k l. le-leb (get_or directions k 0) 1 (e.0 refl k l)))
  tested false e = go (every_below (length directions) small) refl
    where
      go : (t : Bool) → every_below (length directions) small ≡ t → false ≡ every_below (length directions) small
      go true h = absurd (false≢true (e.1 (λ k l. leb-true (get_or directions k 0) 1 (every_at (length directions) small h k l))))
      go false h = sym h

pub returns-then-directions-rects : goal.returns-then-directions-rects
returns-then-directions-rects c =
    let ds = c.args.directions.now in
    let all : IsTrue c.all.result ↔ EachIndex ds (λ k. get_or ds k 0 ≤ 1) = search rules in
    rw (eq-eqb (length ds) (count c.args.rects.now) c.if-directions-rects.true) (tested ds c.all.result all)
