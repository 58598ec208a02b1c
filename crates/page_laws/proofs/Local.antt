-- What `tables` finds hangs on the rulings at the indexes of its sets alone: two lists of rulings that agree there give the same tables.
use mathlib.Core.Path.{◌≡◌, refl, ap, ap₂, ◌∙◌}
use mathlib.Core.Bool.{Bool, true, false, cond, ◌&&◌, ◌||◌}
use mathlib.Core.List.Memᴰ
use mathlib.Core.List.{List, [], ◌∷◌, map}
use Prim.Native.Nat.{ℕ, zero, suc, ◌+◌, ◌*◌, ◌/◌, ◌<◌}
use native.Mathlib.Omega.{arith}
use lib.Dec.{eqb, leb}
use lib.IntN.{pos}
use lib.Ieee.{binary64, div, of_int}
use lib.ListN.{length, get_or, length-map}
use Rattle.lists.specs.Lists.{In, below, keep, any}
use Rattle.lists.proofs.Keep.{below_in, kept_in, keep_below_same, at_in, get_d_map, map_same}
use Rattle.sets.specs.Listing.{grow, grown, closed_set, closed_sets}
use Rattle.lines.specs.Lines.{line_count}
use Rattle.meeting.specs.declared.segment.Segment.{Segment}
use Rattle.meeting.specs.Segments.{joins_end}
use Rattle.meeting.specs.Meeting.{end_joined, joined_ends, share_of}
use Rattle.shapes.specs.declared.limits.Limits.{Limits}
use Rattle.shapes.specs.Shapes.{in_direction, members, positions, lines_of, is_table}

-- ---- tests that agree on a list's entries

keep_same : (q r : ℕ → Bool) (s : List ℕ) → ((i : ℕ) → In s i → q i ≡ r i) → keep q s ≡ keep r s
keep_same q r [] h = refl
keep_same q r (x ∷ xs) h = λ i. cond (h x (Memᴰ.head refl) i) (x ∷ keep_same q r xs (λ j m. h j (Memᴰ.tail m)) i) (keep_same q r xs (λ j m. h j (Memᴰ.tail m)) i)

any_same : (q r : ℕ → Bool) (s : List ℕ) → ((i : ℕ) → In s i → q i ≡ r i) → any q s ≡ any r s
any_same q r [] h = refl
any_same q r (x ∷ xs) h = ap₂ ◌||◌ (h x (Memᴰ.head refl)) (any_same q r xs (λ j m. h j (Memᴰ.tail m)))

-- ---- closed sets

module _ (n : ℕ) (f g : ℕ → ℕ → Bool) (same : (i j : ℕ) → i < n → j < n → f i j ≡ g i j) where
  grow_same : (s : List ℕ) → ((i : ℕ) → In s i → i < n) → grow n f s ≡ grow n g s
  grow_same s low =
      keep_below_same (λ j. any (λ i. eqb i j || (f i j || f j i)) s) (λ j. any (λ i. eqb i j || (g i j || g j i)) s) n
      (λ j l. any_same (λ i. eqb i j || (f i j || f j i)) (λ i. eqb i j || (g i j || g j i)) s (λ i m. ap₂ (λ (x y : Bool). eqb i j || (x || y)) (same i j (low i m) l) (same j i l (low i m))))

  -- what an index below n grows to lies below n
  grown_low : (k i : ℕ) → i < n → (j : ℕ) → In (grown n f k (i ∷ [])) j → j < n
  unfolding grown
  grown_low zero i l j m = let e : j ≡ i = Memᴰ.eq_of_singleton m in omega arith
  grown_low (suc k) i l j m = below_in n j (kept_in (λ j. any (λ i. eqb i j || (f i j || f j i)) (grown n f k (i ∷ []))) (below n) j m).0

  grown_same : (k i : ℕ) → i < n → grown n f k (i ∷ []) ≡ grown n g k (i ∷ [])
  unfolding grown
  grown_same zero i l = refl
  grown_same (suc k) i l = grow_same (grown n f k (i ∷ [])) (grown_low k i l) ∙ ap (grow n g) (grown_same k i l)

  set_same : (i : ℕ) → i < n → closed_set n f i ≡ closed_set n g i
  unfolding closed_set
  set_same i l = grown_same n i l

  pub sets_same : closed_sets n f ≡ closed_sets n g
  unfolding closed_sets
  sets_same =
      let q : ℕ → Bool = λ i. eqb (get_or (closed_set n f i) 0 0) i in
      let r : ℕ → Bool = λ i. eqb (get_or (closed_set n g i) 0 0) i in
      map_same (closed_set n f) (closed_set n g) (keep q (below n)) (λ i m. set_same i (below_in n i (kept_in q (below n) i m).0))
      ∙ ap (map (closed_set n g)) (keep_below_same q r n (λ i l. ap (λ (s : List ℕ). eqb (get_or s 0 0) i) (set_same i l)))

  -- the members of each set lie below n
  pub members_low : (k : ℕ) → k < length (closed_sets n f) → (i : ℕ) → In (get_or (closed_sets n f) k []) i → i < n
  unfolding closed_sets closed_set
  members_low k l i m =
      let q : ℕ → Bool = λ i. eqb (get_or (closed_set n f i) 0 0) i in
      let first : k < length (keep q (below n)) = rw (length-map (keep q (below n)) (closed_set n f)) at l in
      let here = (kept_in q (below n) (get_or (keep q (below n)) k 0) (at_in (keep q (below n)) k first)).0 in
      grown_low n (get_or (keep q (below n)) k 0) (below_in n (get_or (keep q (below n)) k 0) here) i (rw (get_d_map (closed_set n f) (keep q (below n)) k [] first) at m)

-- ---- rulings that agree on a set's members

module _ (s t : ℕ → Segment) (set : List ℕ) (same : (i : ℕ) → In set i → s i ≡ t i) where
  members_same : (horizontal : Bool) → members horizontal s set ≡ members horizontal t set
  members_same horizontal = keep_same (λ i. in_direction horizontal (s i)) (λ i. in_direction horizontal (t i)) set (λ i m. ap (in_direction horizontal) (same i m))

  positions_same : (horizontal : Bool) → positions horizontal s set ≡ positions horizontal t set
  positions_same horizontal =
      map_same (λ i. (s i).centre2 / 2) (λ i. (t i).centre2 / 2) (members horizontal s set) (λ i m. ap (λ (a : Segment). a.centre2 / 2) (same i (kept_in (λ i. in_direction horizontal (s i)) set i m).0))
      ∙ ap (map (λ i. (t i).centre2 / 2)) (members_same horizontal)

  pub lines_same : (cluster : ℕ) (horizontal : Bool) → lines_of cluster horizontal s set ≡ lines_of cluster horizontal t set
  unfolding lines_of
  lines_same cluster horizontal = ap (line_count cluster) (positions_same horizontal)

  pub table_same : (lim : Limits) → is_table lim s set ≡ is_table lim t set
  unfolding is_table
  table_same lim =
      ap₂ ◌&&◌
      (ap₂ ◌&&◌ (ap (λ (x : List ℕ). leb lim.min_horizontal (length x)) (members_same true)) (ap (λ (x : List ℕ). leb lim.min_vertical (length x)) (members_same false)))
      (ap₂ ◌&&◌ (ap (leb 2) (lines_same lim.cluster true)) (ap (leb 2) (lines_same lim.cluster false)))

  joined_same : (join : ℕ) (e : Segment → ℕ) (i : ℕ) → In set i → end_joined join s set (e (s i)) i ≡ end_joined join t set (e (t i)) i
  joined_same join e i m =
      any_same (λ j. joins_end join (e (s i)) (s i) (s j)) (λ j. joins_end join (e (t i)) (t i) (t j)) set (λ j l. ap₂ (λ (a b : Segment). joins_end join (e a) a b) (same i m) (same j l))

  ends_same : (join : ℕ) → joined_ends join s set ≡ joined_ends join t set
  unfolding joined_ends
  ends_same join =
      ap₂ (λ (x y : List ℕ). length x + length y)
      (keep_same (λ i. end_joined join s set (s i).start i) (λ i. end_joined join t set (t i).start i) set (joined_same join (λ a. a.start)))
      (keep_same (λ i. end_joined join s set (s i).end i) (λ i. end_joined join t set (t i).end i) set (joined_same join (λ a. a.end)))

  pub share_same : (join : ℕ) → share_of join s set ≡ share_of join t set
  unfolding share_of
  share_same join = ap (λ (k : ℕ). div binary64 (of_int binary64 (pos k)) (of_int binary64 (pos (2 * length set)))) (ends_same join)
