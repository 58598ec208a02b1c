-- `places::longest` meets its contract. The invariant: the longest of the first i.
use mathlib.Core.Path.{◌≡◌, refl, sym, ap, ◌∙◌}
use mathlib.Core.List.{List, map}
use Prim.Native.Nat.{ℕ, ◌+◌, ◌<◌, max}
use native.Mathlib.Omega.{arith}
use lib.ListN.{length, get_or}
use lib.Seq.{take_all}
use borrow.Author.Rules.{scaled_Fits}
use Rattle.std.specs.Ordering.{ord_max}
use Rattle.std.proofs.Common.{nat_cmp}
use Rattle.std.proofs.lemmas.Grind.{common_steps}
use Rattle.rects.specs.declared.Rect.{Rect}
use Rattle.rects.specs.Rects.{rect_at}
use Rattle.findings.specs.Made.{lying, length_of, length_at, greatest_of}
use Rattle.findings.proofs.Fronts.{greatest_more}
use Rattle.findings.proofs.places.longest.Invariants.{Progress}
use Rattle.findings.proofs.places.longest.Goals as goal

begin : (rects directions places : List ℕ) → Progress rects directions places 0 0
unfolding greatest_of
begin rects directions places = record { greatest = refl }

turn : (rects directions places : List ℕ) {longest i n r : ℕ} {q : Rect} → Progress rects directions places longest i → i < length places → q ≡ rect_at rects (get_or places i 0)
    → n ≡ length_of q (lying directions (get_or places i 0)) → r ≡ max longest n → Progress rects directions places r (i + 1)
turn rects directions places {longest} {i} {n} P l e f g =
    let h : n ≡ length_at rects directions (get_or places i 0) = f ∙ ap (λ (x : Rect). length_of x (lying directions (get_or places i 0))) e in
    record {
      greatest = g ∙ ap (λ (m : ℕ). max longest m) h ∙ ap (λ (m : ℕ). max m (length_at rects directions (get_or places i 0))) P.greatest ∙ sym (greatest_more (length_at rects directions) places i l);
    }

as_max : (a b : ℕ) → ord_max nat_cmp a b ≡ max a b
as_max a b = grind (arith, common_steps)

pub loop-place-init : goal.loop-place-init
loop-place-init c = begin c.args.rects.now c.args.directions.now c.args.places.now

pub rect_at-requires : goal.rect_at-requires
rect_at-requires c = c.requires.rect c.loop-place.place-index c.loop-place-test.true

pub offset_bounds-directions-place : goal.offset_bounds-directions-place
offset_bounds-directions-place c = scaled_Fits (get_or c.args.places.now c.loop-place.place-index 0) (length c.args.directions.now) 4 (c.requires.entries.number c.loop-place.place-index c.loop-place-test.true) c.well_formed.1.0.1

pub bounds-directions-place : goal.bounds-directions-place
bounds-directions-place c = c.requires.entries.number c.loop-place.place-index c.loop-place-test.true

pub length_of-length-requires : goal.length_of-length-requires
length_of-length-requires c = rw c.rect_at.ensures (c.requires.inside c.loop-place.place-index c.loop-place-test.true)

pub loop-place-preserved : goal.loop-place-preserved
loop-place-preserved c = let a = c.args in turn a.rects.now a.directions.now a.places.now c.loop-place.invariant c.loop-place-test.true c.rect_at.ensures c.length_of-length.ensures (c.max-longest.ensures ∙ as_max c.loop-place.longest c.length_of-length.result)

pub returns : goal.returns
returns c =
    let a = c.args in
    let P = c.loop-place.invariant in
    P.greatest ∙ ap (λ (t : List ℕ). greatest_of (map (length_at a.rects.now a.directions.now) t)) (take_all c.loop-place.place-index a.places.now c.loop-place-test.false)
