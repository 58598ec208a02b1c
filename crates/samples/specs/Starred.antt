-- Document 01, "Sample forms", those with a star: a table of what the definitions compute and what the document says, and its theorem.
use Rattle.std.specs.Prelude.{ℕ, ◌≡◌, refl, Bool, true, false, cond, List, [], ◌∷◌, ◌++◌, map, ℤ, pos}
use Rattle.std.specs.Float.Ieee as Ieee
use Rattle.std.specs.Float.Ieee.{eq}
use Rattle.math.specs.Constants.{fraction}
use Rattle.sets.specs.Listing as Listing
use Rattle.order.specs.Order as Order
use Rattle.rects.specs.declared.Rect.{Rect}
use Rattle.layout.specs.declared.sides.Sides.{Sides}
use Rattle.layout.specs.declared.rect.PageRect.{PageRect}
use Rattle.layout.specs.Raster.{raster_row, raster}
use Rattle.layout.specs.Level.{column_shows, place_shows, levelled}
use Rattle.layout.specs.ToPage.{rect_to_page}
use Rattle.lines.specs.Lines as Lines
use Rattle.lines.specs.Lines.{line_count}
use Rattle.pieces.specs.Pieces.{horizontal, centre2, start, end, touching}
use Rattle.meeting.specs.declared.segment.Segment.{Segment}
use Rattle.shapes.specs.declared.limits.Limits.{Limits}
use Rattle.meeting.specs.Segments.{segment_of, touches, joins_end}
use Rattle.shapes.specs.Shapes.{lines_of, is_table}
use Rattle.meeting.specs.Meeting.{joined_ends, share_of}
use Rattle.table_lists.specs.Answers.{table_numbers, free_numbers}
use Rattle.tables.specs.Call as Tables
use Rattle.box_widths.specs.Widths as Widths
use Rattle.box_sets.specs.Boxes as Boxes
use Rattle.grids.specs.Grids as Grids

-- What the definition computes, and what document 01 says; both as numbers.
pub record Row : Type 0 where
  pub computed : List ℕ
  pub said : List ℕ

-- 1 for yes, 0 for no.
abbrev pub answer : Bool → ℕ
answer b = cond b 1 0

abbrev pub rect : ℕ → ℕ → ℕ → ℕ → Rect
rect a b c d = record { x0 = a; y0 = b; x1 = c; y1 = d }

-- "Gap limit 10: spans 0..9 and 20..29 touch; 0..9 and 21..30 don't."
abbrev pub gaps : Row
gaps =
    record {
      computed = answer (touching 0 10 (rect 0 5 9 5) (rect 20 5 29 5)) ∷ answer (touching 0 10 (rect 0 5 9 5) (rect 21 5 30 5)) ∷ [];
      said = 1 ∷ 0 ∷ [];
    }

-- "Across limit 2: single rows 5 and 7 touch; 5 and 8 don't; row 5 and rows 7..8 don't."
abbrev pub across : Row
across =
    record {
      computed =
          answer (touching 2 0 (rect 0 5 9 5) (rect 0 7 9 7)) ∷ answer (touching 2 0 (rect 0 5 9 5) (rect 0 8 9 8)) ∷ answer (touching 2 0 (rect 0 5 9 5) (rect 0 7 9 8)) ∷ [];
      said = 1 ∷ 0 ∷ 0 ∷ [];
    }

-- "A 4 by 4 piece is horizontal."
abbrev pub square : Row
square = record { computed = answer (horizontal (rect 3 3 6 6)) ∷ []; said = 1 ∷ [] }

-- "Line limit 3: 0, 3, 6 are one line; 0, 4 two; none 0."
abbrev pub lines : Row
lines = record { computed = line_count 3 (0 ∷ 3 ∷ 6 ∷ []) ∷ line_count 3 (0 ∷ 4 ∷ []) ∷ line_count 3 [] ∷ []; said = 1 ∷ 2 ∷ 0 ∷ [] }

-- "J = 1, end 10: doubled centre 24 joins, 25 doesn't."
abbrev pub lying : Segment
lying = record { horizontal = true; start = 0; end = 10; centre2 = 8 }

abbrev pub standing : ℕ → Segment
standing c = record { horizontal = false; start = 0; end = 9; centre2 = c }

abbrev pub joined_end : Row
joined_end = record { computed = answer (joins_end 1 10 lying (standing 24)) ∷ answer (joins_end 1 10 lying (standing 25)) ∷ []; said = 1 ∷ 0 ∷ [] }

-- "J and line limit 0: horizontals y 0 and 20 over x 0..20, verticals x 0 and 20 over y 0..20, minima 2"
abbrev pub four : List ℕ
four = 0 ∷ 1 ∷ 2 ∷ 3 ∷ []

abbrev pub frame : List ℕ
frame = 0 ∷ 0 ∷ 20 ∷ 0 ∷ 0 ∷ 20 ∷ 20 ∷ 20 ∷ 0 ∷ 0 ∷ 0 ∷ 20 ∷ 20 ∷ 0 ∷ 20 ∷ 20 ∷ []

abbrev pub frame_ways : List ℕ
frame_ways = 0 ∷ 0 ∷ 1 ∷ 1 ∷ []

abbrev pub nought : Limits
nought = record { join = 0; cluster = 0; min_horizontal = 2; min_vertical = 2 }

-- ".. 1 row, 1 column, 4 rulings, share 1."
abbrev pub one_by_one : Row
one_by_one =
    record {
      computed =
          Tables.rows frame frame_ways four nought
          ++ Tables.columns frame frame_ways four nought
          ++ Tables.rulings frame frame_ways four nought
          ++ map (λ share. answer (eq share (fraction 1 1))) (Tables.shares frame frame_ways four nought);
      said = 1 ∷ 1 ∷ 4 ∷ 1 ∷ [];
    }

-- "Rulings 0 and 3 touch, 1 and 2 stand alone: free list 0, 3, 1, 2."
abbrev pub loose : List ℕ
loose = 0 ∷ 0 ∷ 10 ∷ 0 ∷ 0 ∷ 50 ∷ 10 ∷ 50 ∷ 0 ∷ 70 ∷ 10 ∷ 70 ∷ 5 ∷ 0 ∷ 5 ∷ 10 ∷ []

abbrev pub loose_ways : List ℕ
loose_ways = 0 ∷ 0 ∷ 0 ∷ 1 ∷ []

abbrev pub free_list : Row
free_list = record { computed = Tables.free loose loose_ways four nought; said = 0 ∷ 3 ∷ 1 ∷ 2 ∷ [] }

-- "shear 0, 1, shear_x 0, 0, grey a, b (page 2 by 1, levelled 2 by 2)"
abbrev pub two_by_one : Sides
two_by_one = record { pw = 2; ph = 1; w = 2; h = 2 }

abbrev pub shear : List ℤ
shear = pos 0 ∷ pos 1 ∷ []

abbrev pub shear_x : List ℤ
shear_x = pos 0 ∷ pos 0 ∷ []

-- "rows a, 255 and 255, b"
abbrev pub levelling : ℕ → ℕ → Row
levelling a b = record { computed = levelled two_by_one (a ∷ b ∷ []) shear shear_x; said = a ∷ 255 ∷ 255 ∷ b ∷ [] }

-- A page rectangle as its four numbers.
abbrev pub numbers : PageRect → List ℕ
numbers r = r.x0 ∷ r.y0 ∷ r.x1 ∷ r.y1 ∷ []

-- "the whole rectangle maps to 0, 0, 1, 0"
abbrev pub whole : Row
whole = record { computed = numbers (rect_to_page two_by_one shear shear_x (rect 0 0 1 1)); said = 0 ∷ 0 ∷ 1 ∷ 0 ∷ [] }

-- "Widths 7 and 10 are similar; 6 and 10 aren't."
abbrev pub similar_widths : Row
similar_widths = record { computed = answer (Widths.similar 7 10) ∷ answer (Widths.similar 6 10) ∷ []; said = 1 ∷ 0 ∷ [] }

-- "No boxes, no grids.", whatever the limit and the grid minimum.
abbrev pub no_boxes : ℕ → ℕ → Row
no_boxes limit least = record { computed = Grids.grids least (Boxes.box_sets [] limit); said = [] }

-- The table, for every two grey values a and b, every limit and every grid minimum.
abbrev pub starred : ℕ → ℕ → ℕ → ℕ → List Row
starred a b limit least =
    gaps ∷ across ∷ square ∷ lines ∷ joined_end ∷ similar_widths ∷ one_by_one ∷ free_list ∷ levelling a b ∷ whole ∷ no_boxes limit least ∷ []

-- In every row the definition computes what document 01 says.
pub starred_hold : (a b limit least : ℕ) → map (λ row. row.computed) (starred a b limit least) ≡ map (λ row. row.said) (starred a b limit least)
unfolding raster_row raster column_shows place_shows touching horizontal centre2 start end joins_end Order.sorted_by Order.place Lines.line_at Lines.lines_to
    Listing.grown Listing.closed_set Listing.closed_sets segment_of touches lines_of is_table table_numbers free_numbers joined_ends share_of Widths.similar Grids.grid_numbers
    Ieee.of_int Ieee.div Ieee.sub Ieee.mul Ieee.round Ieee.of_bits Ieee.is_nan Ieee.lt Ieee.le Ieee.eq
starred_hold a b limit least = refl
