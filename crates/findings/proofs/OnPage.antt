-- A picture has at most 8,192 columns and rows. A page rectangle is clamped into the page, so its coordinates are below 8,192.
use Prim.Native.Nat.{ℕ, ◌≤◌, ◌<◌}
use native.Mathlib.Omega.{arith}
use mathlib.Core.List.{List}
use lib.IntN.{ℤ, pos, negsuc}
use Rattle.rects.specs.declared.Rect.{Rect}
use Rattle.rects.specs.Steps.{Inside}
use Rattle.layout.specs.declared.sides.Sides.{Sides}
use Rattle.layout.specs.Steps.{Sheared}
use Rattle.layout.specs.ToPage.{nearest, least, to_page, rect_to_page}
use Rattle.findings.specs.Steps.{PlacesGiven}

nearest_small : (side : ℕ) (z : ℤ) → side ≤ 8192 → nearest side z < 8192
nearest_small side (pos n) h = omega arith
nearest_small side (negsuc n) h = omega arith

pub corner_small : (sides : Sides) (shear shear_x : List ℤ) (r : Rect) → Sheared sides shear shear_x
    → ((rect_to_page sides shear shear_x r).x0 < 8192) × ((rect_to_page sides shear shear_x r).y0 < 8192)
corner_small sides shear shear_x r S =
    let a = to_page sides shear shear_x (record { 0 = r.x0; 1 = r.y0 }) in
    let b = to_page sides shear shear_x (record { 0 = r.x1; 1 = r.y0 }) in
    let c = to_page sides shear shear_x (record { 0 = r.x0; 1 = r.y1 }) in
    let d = to_page sides shear shear_x (record { 0 = r.x1; 1 = r.y1 }) in (
      nearest_small sides.pw (least a.0 b.0 c.0 d.0) (omega (arith, S.page_wide, S.wide)),
      nearest_small sides.ph (least a.1 b.1 c.1 d.1) (omega (arith, S.page_high, S.high)),
    )

pub inside_most : {sides : Sides} {shear shear_x : List ℤ} {r : Rect} → Sheared sides shear shear_x → Inside sides.w sides.h r → Inside 8192 8192 r
inside_most S I = record { wide = I.wide; high = I.high; right = omega (arith, I.right, S.wide); bottom = omega (arith, I.bottom, S.high) }

-- so are those at some places
pub placed_most : {sides : Sides} {shear shear_x : List ℤ} {rects numbers places : List ℕ} → Sheared sides shear shear_x → PlacesGiven sides.w sides.h rects numbers places
    → PlacesGiven 8192 8192 rects numbers places
placed_most S G = record { entries = G.entries; rect = G.rect; inside = λ k l. inside_most S (G.inside k l) }
