-- Document 01, "Levelling": the way back from the levelled picture to the page.
use Rattle.std.specs.Prelude.{ℕ, ◌-◌, min, cond, List, ℤ, pos, negsuc}
use Rattle.std.proofs.Math.IntN.{sub_ℕ}
use Rattle.std.specs.Int.Signed.{le_z}
use Rattle.layout.specs.declared.sides.Sides.{Sides}
use Rattle.rects.specs.declared.Rect.{Rect}
use Rattle.layout.specs.declared.rect.PageRect.{PageRect}
use Rattle.layout.specs.declared.page.Levelled.{Levelled}
use Rattle.layout.specs.declared.page.PagePlace.{PagePlace}
use Rattle.layout.specs.Tables.{entry}

-- The nearest of the numbers 0 to side − 1: the nearest page column, and "clamped into the page".
abbrev pub nearest : ℕ → ℤ → ℕ
nearest side (pos n) = min n (side - 1)
nearest side (negsuc n) = 0

-- `to_page`: the column less its row's `shear_x`, the row less `shear` at that page column, or at the nearest one.
abbrev pub to_page : Sides → List ℤ → List ℤ → Levelled → PagePlace
to_page sides shear shear_x p =
    let X = sub_ℕ p.0 (entry shear_x p.1) in
    record { 0 = X; 1 = sub_ℕ p.1 (entry shear (nearest sides.pw X)) }

-- The smaller of two.
abbrev pub lesser : ℤ → ℤ → ℤ
lesser a b = cond (le_z a b) a b

-- The larger of two.
abbrev pub greater : ℤ → ℤ → ℤ
greater a b = cond (le_z a b) b a

-- The least of four.
abbrev pub least : ℤ → ℤ → ℤ → ℤ → ℤ
least a b c d = lesser (lesser a b) (lesser c d)

-- The greatest of four.
abbrev pub greatest : ℤ → ℤ → ℤ → ℤ → ℤ
greatest a b c d = greater (greater a b) (greater c d)

-- `rect_to_page`: four corners mapped, least and greatest taken, clamped into the page.
abbrev pub rect_to_page : Sides → List ℤ → List ℤ → Rect → PageRect
rect_to_page sides shear shear_x r =
    let a = to_page sides shear shear_x (record { 0 = r.x0; 1 = r.y0 }) in
    let b = to_page sides shear shear_x (record { 0 = r.x1; 1 = r.y0 }) in
    let c = to_page sides shear shear_x (record { 0 = r.x0; 1 = r.y1 }) in
    let d = to_page sides shear shear_x (record { 0 = r.x1; 1 = r.y1 }) in
    record {
      x0 = nearest sides.pw (least a.0 b.0 c.0 d.0);
      y0 = nearest sides.ph (least a.1 b.1 c.1 d.1);
      x1 = nearest sides.pw (greatest a.0 b.0 c.0 d.0);
      y1 = nearest sides.ph (greatest a.1 b.1 c.1 d.1);
    }
