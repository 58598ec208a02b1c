-- `find` meets its contract: the boxes of the glyph boxes before place k are written.
use mathlib.Core.Path.{ap, ◌∙◌}
use mathlib.Core.List.{List}
use Prim.Native.Nat.{ℕ}
use native.Mathlib.Omega.{arith}
use Rattle.std.proofs.Common.{rules}
use Rattle.rects.specs.Rects.{rect_at, width_of}
use Rattle.ink.specs.Ink.{Region, inked, ink_at}
use Rattle.glyph_tests.specs.declared.limits.Limits.{Limits}
use Rattle.glyph_tests.specs.Steps.{found_of}
use Rattle.box_lists.specs.Lent.{Lent}
use Rattle.box_lists.specs.Steps.{lists_of, Widths, NextWide, Ready}
use Rattle.glyph_tests.proofs.Narrow.{narrow_passed}
use Rattle.box_lists.proofs.Listing.{Finding, begun, room, turn, skip, done}
use Rattle.box_lists.proofs.find.Invariants.{Below}
use Rattle.box_lists.proofs.find.Goals as goal

widths : {mask : List ℕ} {w : ℕ} {glyphs : List ℕ} {l : Limits} {lent : Lent} → Ready mask w glyphs l lent → Widths glyphs
widths R k h = let r = R.readable k h in (r.wide, omega (arith, r.right, r.narrow))

-- the narrow glyph boxes up to the next wide one are passed over
onward : (mask : List ℕ) (w : ℕ) (glyphs : List ℕ) (l : Limits) {lent now : Lent} {n k r least : ℕ} → Ready mask w glyphs l lent → Below least l.min_size
    → Finding mask w glyphs l lent now n k → NextWide glyphs least k r → Finding mask w glyphs l lent now n r
onward mask w glyphs l {r = r} R e F N =
    skip mask w glyphs l R F r N.later N.up_to (λ j a b.
    let s = widths R j (omega (arith, b, N.up_to)) in
    narrow_passed (ink_at w mask) l (rect_at glyphs j) (e (width_of (rect_at glyphs j)) (omega (arith, s.0, s.1)) (N.narrow j a b)))

pub loop-k-init : goal.loop-k-init
loop-k-init c =
    let a = c.args in
    let m = a.mask.now in
    let least = c.whole_part-least.ensures in
    (least, onward m.bytes m.w a.glyphs.now a.l c.requires least (begun m.bytes m.w a.glyphs.now a.l (lists_of a.lists.now)) c.next_wide-k.ensures, search rules)

pub store-n-requires : goal.store-n-requires
store-n-requires c =
    let a = c.args in
    room a.mask.now.bytes a.mask.now.w a.glyphs.now a.l c.requires c.loop-k.invariant.1 c.loop-k-test.true

pub loop-k-preserved : goal.loop-k-preserved
loop-k-preserved c =
    let a = c.args in
    let m = a.mask.now in
    let inv = c.loop-k.invariant in
    let one = turn m.bytes m.w a.glyphs.now a.l c.requires inv.1 c.loop-k-test.true c.rect_at.ensures (c.test_glyph-found.ensures ∙ ap (λ (g : Region). found_of (inked g.mask) a.l g.rect) c.new-glyph.ensures) c.store-n.ensures.stored in
    (inv.0, onward m.bytes m.w a.glyphs.now a.l c.requires inv.0 one c.next_wide-k-in-loop-k.ensures, search rules)

pub returns-clause-made : goal.returns-clause-made
returns-clause-made c =
    let a = c.args in
    done a.mask.now.bytes a.mask.now.w a.glyphs.now a.l c.requires c.loop-k.invariant.1 c.loop-k-test.false
