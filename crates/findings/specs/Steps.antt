-- What the functions of `findings` and of the four kinds ask and leave; none of it is needed to read what a page's findings are.
use Rattle.std.specs.Prelude.{◌≡◌, Bool, List, ◌++◌, map, ℕ, ◌+◌, ◌*◌, ◌<◌, ◌^◌, ◌≤◌, ℤ, length, get_or, Float}
use Rattle.lists.specs.Lists.{below, written}
use Rattle.rects.specs.Rects.{rect_at, count}
use Rattle.rects.specs.Around.{around}
use Rattle.layout.specs.declared.sides.Sides.{Sides}
use Rattle.layout.specs.ToPage.{rect_to_page}
use Rattle.params.specs.declared.settings.RulingsParams.{RulingsParams}
use Rattle.evidence.specs.declared.finding.Finding.{Finding}
use Rattle.evidence.specs.Finding.{row_of}
use Rattle.findings.specs.Made.{free_count_of, Scan, RulingLists, TableLists, BoxLists, free_places, folds, made, every_finite}
use Rattle.findings.specs.Keys.{page_key, in_order}
use Rattle.std.proofs.lemmas.List.Edits.{sets}
use Rattle.math.specs.Steps.{PlacesIn}
use Rattle.ranks.specs.Ranks.{Ranked}
use Rattle.rects.specs.declared.Rect.{Rect}
use Rattle.rects.specs.Steps.{Inside, AllInside}
use Rattle.layout.specs.Steps.{Sheared}
use Rattle.finding_lists.specs.Columns.{Columns, AllWritten}
use Rattle.finding_lists.specs.Steps.{Roomy}
use Rattle.findings.specs.Pairing.{FindingsPaired}

-- The key of the finding of table k, by its rectangle.
abbrev pub table_key : Sides → List ℤ → List ℤ → List ℕ → ℕ → ℕ
table_key sides shear shear_x bounds k = page_key (rect_to_page sides shear shear_x (rect_at bounds k)) 16

-- The key of the finding of the free rulings at some places.
abbrev pub free_key : Sides → List ℤ → List ℤ → List ℕ → List ℕ → ℕ
free_key sides shear shear_x rects places = page_key (rect_to_page sides shear shear_x (around rects places)) 17

-- The key of their finding, if there is one.
abbrev pub free_keys : Sides → List ℤ → List ℤ → RulingsParams → List ℕ → List ℕ → List ℕ
free_keys sides shear shear_x p rects places = map (λ k. free_key sides shear shear_x rects places) (below (free_count_of p places))

-- The key of the finding of the fold that is the ruling at a place.
abbrev pub fold_key : Sides → List ℤ → List ℤ → List ℕ → ℕ → ℕ
fold_key sides shear shear_x rects place = page_key (rect_to_page sides shear shear_x (rect_at rects place)) 19

-- The key of the finding of the grid that is a set of boxes.
abbrev pub grid_key : Sides → List ℤ → List ℤ → List ℕ → List ℕ → ℕ
grid_key sides shear shear_x rects set = page_key (rect_to_page sides shear shear_x (around rects set)) 18

-- The keys of the first run: tables, free rules, folds.
abbrev pub first_keys : Sides → List ℤ → List ℤ → RulingsParams → List ℕ → List ℕ → List ℕ → List ℕ → List ℕ
first_keys sides shear shear_x p bounds rects places folds =
    map (table_key sides shear shear_x bounds) (below (count bounds)) ++ free_keys sides shear shear_x p rects places ++ map (fold_key sides shear shear_x rects) folds

-- The keys of the grids' findings.
abbrev pub grid_keys_of : Sides → List ℤ → List ℤ → List ℕ → (ℕ → List ℕ) → List ℕ → List ℕ
grid_keys_of sides shear shear_x rects set numbers = map (λ n. grid_key sides shear shear_x rects (set n)) numbers

-- The way back to the page is known: the tables pass their questions, and a picture that has a rectangle has a page.
pub record Mapping (sides : Sides) (shear shear_x : List ℤ) : Type 0 where
  pub sheared : Sheared sides shear shear_x
  pub paged : (r : Rect) → Inside sides.w sides.h r → (1 ≤ sides.pw) × (1 ≤ sides.ph)

-- Each of some places has an entry in a list of numbers.
pub record NumbersGiven (numbers places : List ℕ) : Type 0 where
  pub few : length places ≤ 16384
  pub number : (k : ℕ) → k < length places → get_or places k 0 < length numbers

-- Each of some places has a rectangle inside the picture, and an entry in a list of numbers.
pub record PlacesGiven (w h : ℕ) (rects numbers places : List ℕ) : Type 0 where
  pub entries : NumbersGiven numbers places
  pub rect : (k : ℕ) → k < length places → 4 * get_or places k 0 + 4 ≤ length rects
  pub inside : (k : ℕ) → k < length places → Inside w h (rect_at rects (get_or places k 0))

-- Each of some places has a value beside.
pub record AllGiven (w h : ℕ) (rects numbers : List ℕ) (values : List Float) (places : List ℕ) : Type 0 where
  pub given : PlacesGiven w h rects numbers places
  pub value : PlacesIn values places

-- Some numbers were listed from the front of a list, and how many there are.
pub record Front (xs lent lent' : List ℕ) (n : ℕ) : Type 0 where
  pub count : n ≡ length xs
  pub list : lent' ≡ written xs lent

-- Keys were stored from a place of a list on, and how many there are.
pub record KeysStored (ks : List ℕ) (at : ℕ) (lent lent' : List ℕ) (n : ℕ) : Type 0 where
  pub count : n ≡ length ks
  pub list : lent' ≡ sets lent at ks

-- Every table has its rectangle inside the picture and an entry in each list, with at most 4,096 rows and as many columns.
pub record TablesGiven (w h : ℕ) (bounds rows columns rulings : List ℕ) (shares : List Float) : Type 0 where
  pub inside : AllInside w h bounds
  pub few : count bounds ≤ 4096
  pub rows_long : count bounds ≤ length rows
  pub columns_long : count bounds ≤ length columns
  pub rulings_long : count bounds ≤ length rulings
  pub shares_long : count bounds ≤ length shares
  pub rows_few : (k : ℕ) → k < count bounds → get_or rows k 0 ≤ 4096
  pub columns_few : (k : ℕ) → k < count bounds → get_or columns k 0 ≤ 4096

-- There is one of some places at least, and each has a rectangle inside the picture.
pub record SetGiven (w h : ℕ) (rects places : List ℕ) : Type 0 where
  pub some : 0 < length places
  pub rect : (k : ℕ) → k < length places → 4 * get_or places k 0 + 4 ≤ length rects
  pub inside : (k : ℕ) → k < length places → Inside w h (rect_at rects (get_or places k 0))

-- Each grid, by its set's number, has a member, and each of its members a rectangle inside the picture.
pub record GridRectsGiven (w h : ℕ) (rects : List ℕ) (set : ℕ → List ℕ) (numbers : List ℕ) : Type 0 where
  pub each : (k : ℕ) → k < length numbers → SetGiven w h rects (set (get_or numbers k 0))

-- Each of its members has a mark and a coverage too.
pub record GridsGiven (w h : ℕ) (rects marks : List ℕ) (coverages : List Float) (set : ℕ → List ℕ) (numbers : List ℕ) : Type 0 where
  pub some : (k : ℕ) → k < length numbers → 0 < length (set (get_or numbers k 0))
  pub boxes : (k : ℕ) → k < length numbers → AllGiven w h rects marks coverages (set (get_or numbers k 0))

-- Each of some places has a rectangle inside the picture.
pub record RectsGiven (w h : ℕ) (rects places : List ℕ) : Type 0 where
  pub rect : (k : ℕ) → k < length places → 4 * get_or places k 0 + 4 ≤ length rects
  pub inside : (k : ℕ) → k < length places → Inside w h (rect_at rects (get_or places k 0))

-- What listing the keys of the first run leaves, and how many findings the free rules make.
pub record FirstKeyed (sides : Sides) (shear shear_x : List ℤ) (p : RulingsParams) (bounds rects places folds keys keys' : List ℕ) (r : ℕ) : Type 0 where
  pub rules : r ≡ free_count_of p places
  pub list : keys' ≡ written (first_keys sides shear shear_x p bounds rects places folds) keys

-- Keys, orders and ranks have room for the first run and for the grids.
pub record RankRoom (p : RulingsParams) (bounds places folds numbers keys grid_keys order grid_order ranks grid_ranks : List ℕ) : Type 0 where
  pub few : count bounds + free_count_of p places + length folds + length numbers < 2 ^ 32
  pub keys_long : count bounds + free_count_of p places + length folds ≤ length keys
  pub order_long : count bounds + free_count_of p places + length folds ≤ length order
  pub ranks_long : count bounds + free_count_of p places + length folds ≤ length ranks
  pub grid_keys_long : length numbers ≤ length grid_keys
  pub grid_order_long : length numbers ≤ length grid_order
  pub grid_ranks_long : length numbers ≤ length grid_ranks

-- The ranks of all findings, and how many findings the free rules make.
pub record AllRanked (sides : Sides) (shear shear_x : List ℤ) (p : RulingsParams) (bounds rects places folds boxes : List ℕ) (set : ℕ → List ℕ) (numbers ranks grid_ranks : List ℕ) (r : ℕ) : Type 0 where
  pub rules : r ≡ free_count_of p places
  pub ranked : Ranked (first_keys sides shear shear_x p bounds rects places folds) (grid_keys_of sides shear shear_x boxes set numbers) ranks grid_ranks

-- The ranks of both runs are given, and the lists have room for all findings.
pub record WriteRoom (p : RulingsParams) (folds numbers ka kb ranks grid_ranks : List ℕ) (tables rules : ℕ) (l : Columns) : Type 0 where
  pub ranked : Ranked ka kb ranks grid_ranks
  pub first_long : length ka ≡ tables + rules + length folds
  pub second_long : length kb ≡ length numbers
  pub ranks_long : length ka ≤ length ranks
  pub grid_ranks_long : length kb ≤ length grid_ranks
  pub room : Roomy (length ka + length kb) l

-- What writing all findings leaves: the lists hold them in order, and whether each is finite.
pub record AllFound (fs : List Finding) (l l' : Columns) (finite : Bool) : Type 0 where
  pub lists : AllWritten (map row_of (in_order fs)) l l'
  pub all_finite : finite ≡ every_finite fs

-- The work lists have room for both runs, and the findings' lists for all findings.
pub record ArrangeRoom (p : RulingsParams) (bounds places fs numbers keys grid_keys order grid_order ranks grid_ranks : List ℕ) (l : Columns) : Type 0 where
  pub ranking : RankRoom p bounds places fs numbers keys grid_keys order grid_order ranks grid_ranks
  pub room : Roomy (count bounds + free_count_of p places + length fs + length numbers) l

-- Every list of the core has room: one entry a free ruling and a faint one, and what both runs need.
pub record FindRoom (p : RulingsParams) (dpi : ℕ) (rects directions printed faint bounds free numbers places fs keys grid_keys order grid_order ranks grid_ranks : List ℕ) (l : Columns) : Type 0 where
  pub places_long : length free ≤ length places
  pub folds_long : length faint ≤ length fs
  pub both : ArrangeRoom p bounds (free_places printed free) (folds p dpi rects directions faint) numbers keys grid_keys order grid_order ranks grid_ranks l

-- What the core leaves of a page: its findings in order, how many there are, and whether each is finite; each is paired with what it is made from.
pub record PageFound (s : Scan) (dpi : ℕ) (r : RulingLists) (printed faint : List ℕ) (t : TableLists) (free : List ℕ) (b : BoxLists) (l l' : Columns) (n : ℕ) (finite : Bool) : Type 0 where
  pub found : AllFound (made s dpi r printed faint t free b) l l' finite
  pub number : n ≡ length (made s dpi r printed faint t free b)
  pub paired : FindingsPaired s dpi r printed faint t free b
