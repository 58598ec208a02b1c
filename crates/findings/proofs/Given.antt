-- What is given of some places is given of the smallest rectangle around them: it lies in the picture that all of theirs lie in.
use mathlib.Core.Path.{subst}
use mathlib.Core.List.{List}
use Prim.Native.Nat.{ℕ, ◌+◌, ◌*◌, ◌≤◌, ◌<◌}
use lib.Ieee.{Float}
use lib.ListN.{length}
use Rattle.lists.specs.Lists.{In}
use Rattle.lists.proofs.Keep.{in_at}
use Rattle.rects.specs.Rects.{rect_at}
use Rattle.rects.specs.Steps.{Inside, Places}
use Rattle.rects.specs.Around.{around}
use Rattle.rects.proofs.Around.{around_inside}
use Rattle.findings.specs.Steps.{AllGiven, SetGiven}

module _ {w h : ℕ} (rects places : List ℕ) (G : SetGiven w h rects places) where
  pub places_given : Places rects places
  places_given i m = let a = in_at places i m in subst (λ (j : ℕ). 4 * j + 4 ≤ length rects) a.2 (G.rect a.0 a.1)

  member_inside : (i : ℕ) → In places i → Inside w h (rect_at rects i)
  member_inside i m = let a = in_at places i m in subst (λ (j : ℕ). Inside w h (rect_at rects j)) a.2 (G.inside a.0 a.1)

  pub set_inside : Inside w h (around rects places)
  set_inside = around_inside rects places G.some member_inside

pub rects_given : {w h : ℕ} {rects marks : List ℕ} {coverages : List Float} {places : List ℕ} → 0 < length places → AllGiven w h rects marks coverages places → SetGiven w h rects places
rects_given some A = record { some = some; rect = A.given.rect; inside = A.given.inside }
