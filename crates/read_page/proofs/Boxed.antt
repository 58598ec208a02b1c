-- Boxes and grids: what each stage asks, and what it leaves of the page.
use mathlib.Core.Path.{◌≡◌, sym, ap, subst, ◌∙◌}
use mathlib.Core.List.{List}
use Prim.Native.Nat.{ℕ, ◌*◌, ◌/◌, ◌≤◌}
use native.Mathlib.Omega.{arith}
use lib.ListN.{length, take, length-take}
use Rattle.rects.specs.Rects.{count}
use Rattle.rects.specs.Steps.{AllInside}
use Rattle.params.specs.Limits.{align_limit}
use Rattle.params.specs.Steps.{SettingsPassed}
use Rattle.glyph_tests.specs.Limits.{box_limits_of}
use Rattle.box_lists.specs.Lent as Lists
use Rattle.box_lists.specs.Steps as Boxes
use Rattle.boxes.proofs.Accepted.{ready}
use Rattle.box_widths.specs.Steps.{PassedBoxes}
use Rattle.grids.specs.Lent.{Lent}
use Rattle.grids.specs.Steps as Grids
use Rattle.page.specs.Page as Page
use Rattle.page.specs.Page.{Page}
use Rattle.page.specs.Lent.{MarkLists}
use Rattle.page.specs.Steps.{MarkRoom}
use Rattle.boxed_laws.proofs.Boxed as Boxed
use Rattle.read_page.proofs.Known.{Known}
use Rattle.read_page.proofs.Ruled.{front, still}

-- room for n boxes is room for the first n
pub grids_room : (n : ℕ) (rects : List ℕ) {l : Lent} → 4 * n ≤ length rects → Grids.Roomy n l → Grids.Roomy (count (take (4 * n) rects)) l
grids_room n rects {l} h R =
    let e = length-take (4 * n) rects in
    let f : n ≡ length (take (4 * n) rects) / 4 = omega arith in
    subst (λ (k : ℕ). Grids.Roomy k l) f R

module _ (g : Page) (K : Known g) (l : MarkLists) (Q : MarkRoom (count g.glyphs) l) where
  pub boxes_ready : Boxes.Ready g.ink g.sides.w g.glyphs (box_limits_of g.dpi g.xheight g.settings) (record { rects = l.boxes; marks = l.marks; coverages = l.coverages })
  boxes_ready = ready g.sides.w g.sides.h g.dpi g.xheight g.ink g.glyphs g.settings K.sides.w_most K.sides.h_most K.ink K.glyphs K.settled Q.boxes Q.marks Q.coverages

  module _ {boxes' : Lists.Lent} {n : ℕ} (M : Boxes.Made g.ink g.sides.w g.glyphs (box_limits_of g.dpi g.xheight g.settings)
      (record { rects = l.boxes; marks = l.marks; coverages = l.coverages }) boxes' n) where
    pub few : length (Page.boxes g) ≤ count g.glyphs
    few = omega (arith, M.few, M.count)

    pub picture : AllInside g.sides.w g.sides.h (Page.box_rects g)
    picture = M.in_picture g.sides.h K.glyphs

    rects_long : length (Page.box_rects g) ≡ 4 * length (Page.boxes g)
    rects_long = Boxed.rects_long g K.few_glyphs few picture M.below_8192

    pub boxes_front : take (4 * n) boxes'.rects ≡ Page.box_rects g
    boxes_front = front (Page.box_rects g) l.boxes M.rects (ap (λ (k : ℕ). 4 * k) M.count ∙ sym rects_long)

    pub boxes_still : length boxes'.rects ≡ length l.boxes
    boxes_still = still (Page.box_rects g) l.boxes M.rects (omega (arith, rects_long, few, Q.boxes))

    pub grids_ready : SettingsPassed g.settings g.xheight × (4 * n ≤ length boxes'.rects) × PassedBoxes (take (4 * n) boxes'.rects)
        × Grids.Roomy n (record { members = l.members; ends = l.ends; reading = l.reading; numbers = l.numbers; parents = l.parents; work = l.order; keys = l.keys })
    grids_ready = (
      K.settled,
      omega (arith, M.few, boxes_still, Q.boxes),
      subst PassedBoxes (sym boxes_front) (Boxed.boxes_given g K.few_glyphs few picture M.below_8192),
      record {
        members = omega (arith, M.few, Q.members);
        ends = omega (arith, M.few, Q.ends);
        reading = omega (arith, M.few, Q.reading);
        numbers = omega (arith, M.few, Q.numbers);
        parents = omega (arith, M.few, Q.parents);
        work = omega (arith, M.few, Q.order);
        keys = omega (arith, M.few, Q.keys);
      },
    )

    pub gridded : {l₁ l₂ : Lent} {ss gs : ℕ} → Grids.Filled (take (4 * n) boxes'.rects) (align_limit g.settings g.xheight) g.settings.grid_min_boxes l₁ l₂ ss gs
        → Grids.Filled (Page.box_rects g) (align_limit g.settings g.xheight) g.settings.grid_min_boxes l₁ l₂ ss gs
    gridded {l₁} {l₂} {ss} {gs} F = subst (λ (x : List ℕ). Grids.Filled x (align_limit g.settings g.xheight) g.settings.grid_min_boxes l₁ l₂ ss gs) boxes_front F
