-- Document 01's rulings: one for each closed set of pieces, with the smallest rectangle around it, its pieces' direction and its contrast.
use Rattle.std.specs.Prelude.{ℕ, ◌+◌, ◌*◌, ◌<◌, ◌≡◌, Bool, cond, ◌⊎◌, List, [], map, Float, get_or}
use Rattle.lists.specs.Lists.{concat}
use Rattle.sets.specs.Listing.{closed_sets}
use Rattle.order.specs.Order.{sorted_indexes}
use Rattle.rects.specs.declared.Rect.{Rect}
use Rattle.rects.specs.Rects.{count, rect_at, numbers_of}
use Rattle.rects.specs.Around.{around}
use Rattle.contrast.specs.Contrast.{contrast_of, NearContrast}
use Rattle.ruling_lists.specs.declared.ruling.Ruling.{Ruling}
use Rattle.pieces.specs.Pieces.{horizontal, touch}

-- The closed sets of pieces, by smallest index.
abbrev pub piece_sets : List ℕ → ℕ → ℕ → List (List ℕ)
piece_sets pieces across gap = closed_sets (count pieces) (touch pieces across gap)

-- y0, x0, y1, x1 as one number. Of coordinates below 8,192 it orders as the four do one after the other (`key_orders`).
abbrev pub ruling_key : Rect → ℕ
ruling_key r = ((r.y0 * 8192 + r.x0) * 8192 + r.y1) * 8192 + r.x1

-- The keys of the smallest rectangles around some sets.
abbrev pub ruling_keys : List ℕ → List (List ℕ) → List ℕ
ruling_keys pieces ss = map (λ s. ruling_key (around pieces s)) ss

-- The sets of pieces in the order of their rulings: by key, and equal keys by smallest piece index, since so `piece_sets` has them.
unfoldable pub ordered_sets : List ℕ → ℕ → ℕ → List (List ℕ)
ordered_sets pieces across gap =
    let ss = piece_sets pieces across gap in map (λ k. get_or ss k []) (sorted_indexes (ruling_keys pieces ss))

-- The direction of a set of pieces: that of its first one, and so of each (`Demand3`'s field `direction`).
abbrev pub direction_of : List ℕ → List ℕ → Bool
direction_of pieces s = horizontal (rect_at pieces (get_or s 0 0))

-- The ruling that a set of pieces makes.
abbrev pub ruling_of : List ℕ → ℕ → ℕ → List ℕ → List ℕ → Ruling
ruling_of raster w h pieces s =
    record {
      rect = around pieces s;
      horizontal = direction_of pieces s;
      contrast = contrast_of raster w h (around pieces s) (direction_of pieces s);
    }

-- x is within 2^-45 of the exact contrast of the ruling that a set of pieces makes.
abbrev pub Near : List ℕ → ℕ → ℕ → List ℕ → List ℕ → Float → Type 0
Near raster w h pieces s x = NearContrast raster w h (around pieces s) (direction_of pieces s) x

-- A direction as a number: 0 for horizontal and 1 for vertical.
abbrev pub direction_number : Bool → ℕ
direction_number h = cond h 0 1

-- What is listed of the rulings of some sets: rectangles, directions, contrasts.
abbrev pub ruling_rects : List ℕ → List (List ℕ) → List ℕ
ruling_rects pieces ss = concat (map (λ s. numbers_of (around pieces s)) ss)

abbrev pub directions_of : List ℕ → List (List ℕ) → List ℕ
directions_of pieces ss = map (λ s. direction_number (direction_of pieces s)) ss

abbrev pub contrasts_of : List ℕ → ℕ → ℕ → List ℕ → List (List ℕ) → List Float
contrasts_of raster w h pieces ss = map (λ s. (ruling_of raster w h pieces s).contrast) ss

-- One rectangle stands before another by y0, x0, y1, x1.
abbrev pub Earlier : Rect → Rect → Type 0
Earlier a b =
    (a.y0 < b.y0)
    ⊎ ((a.y0 ≡ b.y0) × ((a.x0 < b.x0) ⊎ ((a.x0 ≡ b.x0) × ((a.y1 < b.y1) ⊎ ((a.y1 ≡ b.y1) × (a.x1 < b.x1))))))

-- One set stands before another: by its rectangle, and where the rectangles are equal by its smallest piece index, which is its first.
abbrev pub StandsBefore : List ℕ → List ℕ → List ℕ → Type 0
StandsBefore pieces s t = Earlier (around pieces s) (around pieces t) ⊎ ((around pieces s ≡ around pieces t) × (get_or s 0 0 < get_or t 0 0))
