-- `bands::four_columns` meets its contract: after j turns each number is the ink of the first j places of its column.
use mathlib.Core.Path.{◌≡◌, refl, ◌∙◌}
use Prim.Native.Nat.{ℕ, ◌+◌, ◌*◌, ◌<◌}
use native.Mathlib.Omega.{arith}
use lib.ListN.{length}
use Rattle.rects.specs.Rects.{width_of, height_of}
use Rattle.rects.specs.declared.Rect.{Rect}
use Rattle.ink.specs.Ink.{Mask, Ink, inked, column_ink}
use Rattle.ink.specs.Steps.{Readable}
use Rattle.ink.proofs.Counts.{many_le, many_next, row_in_mask}
use Rattle.ink_bands.proofs.four_columns.Invariants.{Tally}
use Rattle.ink_bands.proofs.four_columns.Goals.{In-loop-j}
use Rattle.ink_bands.proofs.four_columns.Goals as goal

-- place j of column i stands in the mask, and its count fits
fits : (m : Mask) (r : Rect) (i : ℕ) {j n x : ℕ} → Readable m r → i < width_of r → j < height_of r → x ≡ r.x0 + i → Tally (inked m) x r.y0 j n
    → ((r.y0 + j) * m.w + x < length m.bytes) × (n < 8192)
fits m r i {j} {n} {x} R li lj e t =
    (omega (arith, row_in_mask m r R j lj, R.wide), omega (arith, t, many_le (λ k. inked m x (r.y0 + k)) j, R.low, R.high))

-- a whole column
whole : (ink : Ink) (r : Rect) (i : ℕ) {j n x : ℕ} → j ≡ height_of r → x ≡ r.x0 + i → Tally ink x r.y0 j n → n ≡ column_ink ink r i
unfolding column_ink
whole ink r i e f t = rw (f, e) at t

-- column i + d at the head of a turn
here : (c : In-loop-j) (d : ℕ) {n x : ℕ} → d < 4
    → let s = c.r.inside in
    x ≡ s.rect.x0 + (c.args.i + d) → Tally (inked s.mask.now) x s.rect.y0 c.loop-j.j n
    → ((s.rect.y0 + c.loop-j.j) * s.mask.now.w + x < length s.mask.now.bytes) × (n < 8192)
here c d h e t =
    let s = c.r.inside in
    let p = rw (← c.r.view_is) at c.requires in
    fits s.mask.now s.rect (c.args.i + d) c.r.invariant (omega (arith, p)) (omega (arith, c.height-rows.ensures)) e t

pub counted-a-requires : goal.counted-a-requires
counted-a-requires c = here c 0 (omega arith) (omega arith) c.loop-j.invariant.0

pub counted-b-requires : goal.counted-b-requires
counted-b-requires c = here (goal.at.counted-b-requires c).In-loop-j 1 (omega arith) (omega arith) c.loop-j.invariant.1

pub counted-c-requires : goal.counted-c-requires
counted-c-requires c = here (goal.at.counted-c-requires c).In-loop-j 2 (omega arith) (omega arith) c.loop-j.invariant.2

pub counted-d-requires : goal.counted-d-requires
counted-d-requires c = here (goal.at.counted-d-requires c).In-loop-j 3 (omega arith) (omega arith) c.loop-j.invariant.3

pub loop-j-preserved : goal.loop-j-preserved
loop-j-preserved c =
    let s = c.r.inside in
    let ink = inked s.mask.now in
    let x = s.rect.x0 + c.args.i in (
      c.counted-a.ensures ∙ many_next (λ k. ink x (s.rect.y0 + k)) c.loop-j.j c.loop-j.invariant.0 refl,
      c.counted-b.ensures ∙ many_next (λ k. ink (x + 1) (s.rect.y0 + k)) c.loop-j.j c.loop-j.invariant.1 refl,
      c.counted-c.ensures ∙ many_next (λ k. ink (x + 2) (s.rect.y0 + k)) c.loop-j.j c.loop-j.invariant.2 refl,
      c.counted-d.ensures ∙ many_next (λ k. ink (x + 3) (s.rect.y0 + k)) c.loop-j.j c.loop-j.invariant.3 refl,
    )

pub returns : goal.returns
returns c =
    let s = c.r.inside in
    let i = c.args.i in
    let v = c.loop-j.invariant in
    let end : c.loop-j.j ≡ height_of s.rect = omega (arith, c.height-rows.ensures) in
    let ink = inked s.mask.now in
    let first = whole ink s.rect i end refl v.0 in
    let second = whole ink s.rect (i + 1) end (omega arith) v.1 in
    let third = whole ink s.rect (i + 2) end (omega arith) v.2 in
    let fourth = whole ink s.rect (i + 3) end (omega arith) v.3 in
    rw (← c.r.view_is) cc
