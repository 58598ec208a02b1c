-- Rectangles, x0, y0, x1, y1, both ends inside, and lists of them: four numbers each.
use Rattle.std.specs.Prelude.{ℕ, ◌+◌, ◌-◌, ◌*◌, ◌/◌, ◌%◌, min, max, Bool, ◌&&◌, List, [], ◌∷◌, leb, ltb, eqb, length, get_or}
use Rattle.lists.specs.Lists.{every_below}
use Rattle.rects.specs.declared.Rect.{Rect}

abbrev pub width_of : Rect → ℕ
width_of r = r.x1 - r.x0 + 1

abbrev pub height_of : Rect → ℕ
height_of r = r.y1 - r.y0 + 1

-- How far two numbers are apart.
abbrev pub distance : ℕ → ℕ → ℕ
distance a b = max a b - min a b

-- How many rectangles a number list has.
abbrev pub count : List ℕ → ℕ
count rects = length rects / 4

-- Rectangle k of a number list.
abbrev pub rect_at : List ℕ → ℕ → Rect
rect_at rects k = record { x0 = get_or rects (4 * k) 0; y0 = get_or rects (4 * k + 1) 0; x1 = get_or rects (4 * k + 2) 0; y1 = get_or rects (4 * k + 3) 0 }

-- A rectangle as four numbers.
abbrev pub numbers_of : Rect → List ℕ
numbers_of r = r.x0 ∷ r.y0 ∷ r.x1 ∷ r.y1 ∷ []

-- Ordered, and inside a picture of w columns and h rows.
abbrev pub inside : ℕ → ℕ → Rect → Bool
inside w h r = leb r.x0 r.x1 && leb r.y0 r.y1 && ltb r.x1 w && ltb r.y1 h

-- Question 5: at most so many rectangles, and a whole number of them.
abbrev pub count_fits : ℕ → List ℕ → Bool
count_fits most rects = eqb (length rects % 4) 0 && leb (count rects) most

-- Question 6: every rectangle ordered and inside a picture of w columns and h rows.
abbrev pub all_inside : ℕ → ℕ → List ℕ → Bool
all_inside w h rects = every_below (count rects) (λ k. inside w h (rect_at rects k))
