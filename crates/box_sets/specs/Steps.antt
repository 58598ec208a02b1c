-- What the functions of `box_sets` say to each other and to those above.
use Rattle.std.specs.Prelude.{◌≡◌, true, ◌⊎◌, List, ℕ, ◌+◌, ◌^◌, ◌≤◌, ◌<◌, leb, length, get_or}
use Rattle.lists.specs.Lists.{concat, written}
use Rattle.sets.specs.Closed.{Below}
use Rattle.sets.specs.Listing.{ends_from}
use Rattle.sets.specs.Steps.{root, Between}
use Rattle.sorted.specs.Steps.{InOrder}
use Rattle.rects.specs.declared.Rect.{Rect}
use Rattle.rects.specs.Rects.{count, width_of, rect_at, distance}
use Rattle.box_widths.specs.Widths.{similar}
use Rattle.box_sets.specs.declared.sweep.Axis.{Axis}
use Rattle.box_sets.specs.declared.sweep.Axis.TheVariants.{X, Y}
use Rattle.box_sets.specs.Boxes.{centre_x, centre_y, aligned, Touch, box_sets}

-- The closed sets were listed; they have no more members than there are boxes, and are no more.
pub record Connected (rects : List ℕ) (limit : ℕ) (m e m' e' : List ℕ) (r : ℕ) : Type 0 where
  pub sets : r ≡ length (box_sets rects limit)
  pub members : m' ≡ written (concat (box_sets rects limit)) m
  pub ends : e' ≡ written (ends_from 0 (box_sets rects limit)) e
  pub total : length (concat (box_sets rects limit)) ≤ count rects

-- ---- a sweep along one doubled centre

-- The doubled centre along an axis: the boxes of a column have that along X in common, those of a row that along Y.
abbrev pub centre_in : Axis → Rect → ℕ
centre_in X r = centre_x r
centre_in Y r = centre_y r

-- Each box has its doubled centre in a list.
abbrev pub Centred : List ℕ → Axis → List ℕ → Type 0
Centred rects axis keys = (i : ℕ) → i < count rects → get_or keys i 0 ≡ centre_in axis (rect_at rects i)

-- Two boxes have similar widths, and their keys are near.
pub record Near (rects : List ℕ) (limit : ℕ) (key : ℕ → ℕ) (i j : ℕ) : Type 0 where
  pub alike : similar (width_of (rect_at rects i)) (width_of (rect_at rects j)) ≡ true
  pub close : leb (distance (key i) (key j)) limit ≡ true

-- A list begins with the indexes of all boxes, in the order of their keys; boxes with near keys are aligned.
pub record Sweep (rects : List ℕ) (limit : ℕ) (order keys : List ℕ) : Type 0 where
  pub sorted : InOrder (count rects) keys order
  pub small : (i : ℕ) → i < count rects → get_or keys i 0 < 2 ^ 14
  pub aligns : (i j : ℕ) → i < count rects → j < count rects → leb (distance (get_or keys i 0) (get_or keys j 0)) limit ≡ true
      → aligned limit (rect_at rects i) (rect_at rects j) ≡ true

-- Pairs of S are joined, and what is joined hangs together by touching.
abbrev pub JoinedSo : List ℕ → ℕ → (ℕ → ℕ → Type 0) → List ℕ → Type 0
JoinedSo rects limit S p = Between (count rects) (Below (count rects)) S (Touch rects limit) p

-- The width of the box at a place of an order.
abbrev pub width_at : List ℕ → List ℕ → ℕ → ℕ
width_at rects order a = width_of (rect_at rects (get_or order a 0))

-- The boxes at places a < b of an order are near, and none between them has the width of the first: a row reaches to the first that has.
pub record NextNear (rects : List ℕ) (limit : ℕ) (order keys : List ℕ) (a b : ℕ) : Type 0 where
  pub behind : a < b
  pub inside : b < count rects
  pub near : Near rects limit (λ i. get_or keys i 0) (get_or order a 0) (get_or order b 0)
  pub first : (c : ℕ) → a < c → c < b → width_at rects order c ≡ width_at rects order a → ⊥

-- The pairs of the order before the places k, l were tried: near ones are joined, up to the first of the same width, as is all that was
-- joined in p₀.
pub record SweptTo (rects : List ℕ) (limit : ℕ) (order keys p₀ : List ℕ) (k l : ℕ) (p : List ℕ) : Type 0 where
  pub before : JoinedSo rects limit (λ i j. root p₀ i ≡ root p₀ j) p
  pub pairs : (a b : ℕ) → NextNear rects limit order keys a b → (a < k) ⊎ ((a ≡ k) × (b < l)) → root p (get_or order a 0) ≡ root p (get_or order b 0)

-- From place k of an order to before place e all are in one set.
pub record OneSet (order : List ℕ) (k e : ℕ) (p : List ℕ) : Type 0 where
  pub same : (b : ℕ) → k ≤ b → b < e → root p (get_or order b 0) ≡ root p (get_or order k 0)

-- The row of place k was tried, and from the next place to before place r all are in one set.
pub record RowDone (rects : List ℕ) (limit : ℕ) (order keys p : List ℕ) (k : ℕ) (q : List ℕ) (r : ℕ) : Type 0 where
  pub swept : SweptTo rects limit order keys p (k + 1) (k + 2) q
  pub up_to : r ≤ count rects
  pub one : OneSet order (k + 1) r q

-- All that was joined in p is joined, and all pairs that are near by one doubled centre.
pub record JoinedNear (rects : List ℕ) (limit : ℕ) (axis : Axis) (p q : List ℕ) : Type 0 where
  pub pairs : JoinedSo rects limit (λ i j. (root p i ≡ root p j) ⊎ Near rects limit (λ i. centre_in axis (rect_at rects i)) i j) q
