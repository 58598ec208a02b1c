-- The way back to the page: its answers put together from their parts.
use mathlib.Core.Path.{◌≡◌, ap₂}
use mathlib.Core.List.{List}
use Prim.Native.Nat.{ℕ}
use lib.IntN.{ℤ}
use Rattle.layout.specs.declared.sides.Sides.{Sides}
use Rattle.rects.specs.declared.Rect.{Rect}
use Rattle.layout.specs.declared.rect.PageRect.{PageRect}
use Rattle.layout.specs.declared.page.Levelled.{Levelled}
use Rattle.layout.specs.declared.page.PagePlace.{PagePlace}
use Rattle.layout.specs.ToPage.{nearest, to_page, least, greatest, rect_to_page}

module _ (sides : Sides) (shear shear_x : List ℤ) where
  pub place_is : (p : Levelled) (column row : ℤ) → column ≡ (to_page sides shear shear_x p).0 → row ≡ (to_page sides shear shear_x p).1 → ◌≡◌ {A = PagePlace} (record { 0 = column; 1 = row }) (to_page sides shear shear_x p)
  place_is p column row e f = ap₂ (λ (x y : ℤ). at x y) e f
    where
      at : ℤ → ℤ → PagePlace
      at x y = record { 0 = x; 1 = y }

  -- the rectangle around four mapped corners
  pub rect_is : (r : Rect) (a b c d : PagePlace) (x0 y0 x1 y1 : ℕ)
      → a ≡ to_page sides shear shear_x (record { 0 = r.x0; 1 = r.y0 })
      → b ≡ to_page sides shear shear_x (record { 0 = r.x1; 1 = r.y0 })
      → c ≡ to_page sides shear shear_x (record { 0 = r.x0; 1 = r.y1 })
      → d ≡ to_page sides shear shear_x (record { 0 = r.x1; 1 = r.y1 })
      → x0 ≡ nearest sides.pw (least a.0 b.0 c.0 d.0)
      → y0 ≡ nearest sides.ph (least a.1 b.1 c.1 d.1)
      → x1 ≡ nearest sides.pw (greatest a.0 b.0 c.0 d.0)
      → y1 ≡ nearest sides.ph (greatest a.1 b.1 c.1 d.1)
      → ◌≡◌ {A = PageRect} (record { x0 = x0; y0 = y0; x1 = x1; y1 = y1 }) (rect_to_page sides shear shear_x r)
  rect_is r a b c d x0 y0 x1 y1 ea eb ec ed e0 e1 e2 e3 = rw (e0, e1, e2, e3, ea, eb, ec, ed)
