-- The rulings at some places, handed to `tables` as lists of their own, give the tables that are found among those places.
use mathlib.Core.Path.{◌≡◌, refl, ap, ap₂, ◌∙◌}
use mathlib.Core.Bool.{true, false, not}
use mathlib.Core.List.Memᴰ
use mathlib.Core.List.{List, [], ◌∷◌, map}
use Prim.Native.Nat.{ℕ, ◌-◌, ◌<◌}
use native.Mathlib.Omega.{arith}
use lib.ListN.{length, get_or}
use Rattle.lists.specs.Lists.{In, below, concat}
use Rattle.lists.proofs.Keep.{length_below, get_d_below, below_in, kept_in, keep_below_same, get_d_map, map_same}
use Rattle.sets.specs.Listing.{closed_sets}
use Rattle.rects.specs.declared.Rect.{Rect}
use Rattle.rects.specs.Rects.{count, rect_at, numbers_of}
use Rattle.rects.specs.Around.{union_of, unioned, around}
use Rattle.meeting.specs.declared.segment.Segment.{Segment}
use Rattle.meeting.specs.Segments.{segment_of, ruling_at, touches}
use Rattle.meeting.specs.Meeting.{touch, share_of}
use Rattle.shapes.specs.declared.limits.Limits.{Limits}
use Rattle.shapes.specs.Shapes.{is_table, rows_of, columns_of}
use Rattle.table_lists.specs.Answers.{table_numbers, free_numbers, places_of, bounds_of}
use Rattle.tables.specs.Call as Tables
use Rattle.rects.proofs.Strung.{strung_rects, strung_long, strung_at}
use Rattle.page_laws.proofs.Local.{sets_same, members_low, lines_same, table_same, share_same}

module _ (rects directions places : List ℕ) (lim : Limits) where
  abbrev own_rects : List ℕ
  own_rects = strung_rects (rect_at rects) places

  abbrev own_directions : List ℕ
  own_directions = map (λ k. get_or directions k 0) places

  abbrev n : ℕ
  n = length places

  -- the ruling at an index, by its own list and by its place
  abbrev own : ℕ → Segment
  own = ruling_at own_rects own_directions (below n)

  abbrev placed : ℕ → Segment
  placed = ruling_at rects directions places

  rect_same : (i : ℕ) → i < n → rect_at own_rects (get_or (below n) i 0) ≡ rect_at rects (get_or places i 0)
  rect_same i l = ap (rect_at own_rects) (get_d_below n i l) ∙ strung_at (rect_at rects) places i 0 l

  direction_same : (i : ℕ) → i < n → get_or own_directions (get_or (below n) i 0) 0 ≡ get_or directions (get_or places i 0) 0
  direction_same i l = ap (λ (k : ℕ). get_or own_directions k 0) (get_d_below n i l) ∙ get_d_map (λ k. get_or directions k 0) places i 0 l

  ruling_same : (i : ℕ) → i < n → own i ≡ placed i
  ruling_same i l = ap₂ segment_of (rect_same i l) (direction_same i l)

  sets_agree : Tables.all_sets own_rects own_directions (below n) lim ≡ Tables.all_sets rects directions places lim
  sets_agree =
      ap (λ (m : ℕ). closed_sets m (touch lim.join own)) (length_below n)
      ∙ sets_same n (touch lim.join own) (touch lim.join placed) (λ i j k l. ap₂ (touches lim.join) (ruling_same i k) (ruling_same j l))

  abbrev all : List (List ℕ)
  all = Tables.all_sets rects directions places lim

  abbrev set : ℕ → List ℕ
  set k = get_or all k []

  low : (k : ℕ) → k < length all → (i : ℕ) → In (set k) i → i < n
  low = members_low n (touch lim.join placed) (touch lim.join placed) (λ i j k l. refl)

  set_same : (k : ℕ) → k < length all → (i : ℕ) → In (set k) i → own i ≡ placed i
  set_same k l i m = ruling_same i (low k l i m)

  numbers_agree : Tables.tables own_rects own_directions (below n) lim ≡ Tables.tables rects directions places lim
  unfolding table_numbers
  numbers_agree =
      ap (λ (ss : List (List ℕ)). table_numbers lim own (λ k. get_or ss k []) (length ss)) sets_agree
      ∙ keep_below_same (λ k. is_table lim own (set k)) (λ k. is_table lim placed (set k)) (length all) (λ k l. table_same own placed (set k) (set_same k l) lim)

  free_numbers_agree : free_numbers lim own set (length all) ≡ free_numbers lim placed set (length all)
  unfolding free_numbers
  free_numbers_agree = keep_below_same (λ k. not (is_table lim own (set k))) (λ k. not (is_table lim placed (set k))) (length all) (λ k l. ap not (table_same own placed (set k) (set_same k l) lim))

  free_agree : Tables.free own_rects own_directions (below n) lim ≡ Tables.free rects directions places lim
  free_agree =
      ap (λ (ss : List (List ℕ)). concat (map (λ k. get_or ss k []) (free_numbers lim own (λ k. get_or ss k []) (length ss)))) sets_agree ∙ ap (λ (ks : List ℕ). concat (map set ks)) free_numbers_agree

  -- a fact of each table
  each : {A : Type 0} (f g : List ℕ → A) → ((k : ℕ) → k < length all → f (set k) ≡ g (set k))
      → map (λ k. f (Tables.set_at own_rects own_directions (below n) lim k)) (Tables.tables own_rects own_directions (below n) lim) ≡ map (λ k. g (set k)) (Tables.tables rects directions places lim)
  unfolding table_numbers
  each f g same =
      ap₂ (λ (ss : List (List ℕ)) (ks : List ℕ). map (λ k. f (get_or ss k [])) ks) sets_agree numbers_agree
      ∙ map_same (λ k. f (set k)) (λ k. g (set k)) (Tables.tables rects directions places lim)
      (λ k m. same k (below_in (length all) k (kept_in (λ k. is_table lim placed (set k)) (below (length all)) k m).0))

  unioned_same : (r : Rect) (s : List ℕ) → ((i : ℕ) → In s i → i < n) → unioned own_rects r (places_of (below n) s) ≡ unioned rects r (places_of places s)
  unfolding unioned
  unioned_same r [] h = refl
  unioned_same r (x ∷ xs) h =
      ap (λ (q : Rect). unioned own_rects (union_of r q) (places_of (below n) xs)) (rect_same x (h x (Memᴰ.head refl)))
      ∙ unioned_same (union_of r (rect_at rects (get_or places x 0))) xs (λ i m. h i (Memᴰ.tail m))

  around_same : (s : List ℕ) → ((i : ℕ) → In s i → i < n) → around own_rects (places_of (below n) s) ≡ around rects (places_of places s)
  unfolding around
  around_same [] h = refl
  around_same (x ∷ xs) h =
      ap (λ (q : Rect). unioned own_rects q (places_of (below n) xs)) (rect_same x (h x (Memᴰ.head refl)))
      ∙ unioned_same (rect_at rects (get_or places x 0)) xs (λ i m. h i (Memᴰ.tail m))

  counted : count own_rects ≡ n
  counted = let e = strung_long (rect_at rects) places in omega arith

  -- every list of tables is the same
  pub own_sets : Tables.all_sets own_rects own_directions (below (count own_rects)) lim ≡ all
  own_sets = ap (λ (c : ℕ). Tables.all_sets own_rects own_directions (below c) lim) counted ∙ sets_agree

  pub own_numbers : Tables.tables own_rects own_directions (below (count own_rects)) lim ≡ Tables.tables rects directions places lim
  own_numbers = ap (λ (c : ℕ). Tables.tables own_rects own_directions (below c) lim) counted ∙ numbers_agree

  pub own_free : Tables.free own_rects own_directions (below (count own_rects)) lim ≡ Tables.free rects directions places lim
  own_free = ap (λ (c : ℕ). Tables.free own_rects own_directions (below c) lim) counted ∙ free_agree

  pub own_bounds : Tables.bounds own_rects own_directions (below (count own_rects)) lim ≡ Tables.bounds rects directions places lim
  own_bounds =
      ap (λ (c : ℕ). Tables.bounds own_rects own_directions (below c) lim) counted
      ∙ ap concat (each (bounds_of own_rects (below n)) (bounds_of rects places) (λ k l. ap numbers_of (around_same (set k) (low k l))))

  pub own_rows : Tables.rows own_rects own_directions (below (count own_rects)) lim ≡ Tables.rows rects directions places lim
  own_rows =
      ap (λ (c : ℕ). Tables.rows own_rects own_directions (below c) lim) counted
      ∙ each (rows_of lim own) (rows_of lim placed) (λ k l. ap (λ (m : ℕ). m - 1) (lines_same own placed (set k) (set_same k l) lim.cluster true))

  pub own_columns : Tables.columns own_rects own_directions (below (count own_rects)) lim ≡ Tables.columns rects directions places lim
  own_columns =
      ap (λ (c : ℕ). Tables.columns own_rects own_directions (below c) lim) counted
      ∙ each (columns_of lim own) (columns_of lim placed) (λ k l. ap (λ (m : ℕ). m - 1) (lines_same own placed (set k) (set_same k l) lim.cluster false))

  pub own_rulings : Tables.rulings own_rects own_directions (below (count own_rects)) lim ≡ Tables.rulings rects directions places lim
  own_rulings = ap (λ (c : ℕ). Tables.rulings own_rects own_directions (below c) lim) counted ∙ each length length (λ k l. refl)

  pub own_shares : Tables.shares own_rects own_directions (below (count own_rects)) lim ≡ Tables.shares rects directions places lim
  own_shares =
      ap (λ (c : ℕ). Tables.shares own_rects own_directions (below c) lim) counted
      ∙ each (share_of lim.join own) (share_of lim.join placed) (λ k l. share_same own placed (set k) (set_same k l) lim.join)
