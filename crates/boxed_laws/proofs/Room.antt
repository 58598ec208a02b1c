-- What question 14 says once it is answered yes: each lent list has its room.
use mathlib.Core.Path.{◌≡◌}
use mathlib.Core.Bool.{Bool, true, ◌&&◌}
use mathlib.Core.List.{List, [], ◌∷◌}
use Prim.Native.Nat.{ℕ, zero, suc, ◌+◌, ◌*◌, ◌^◌, ◌≤◌, ◌<◌}
use native.Mathlib.Nat.{not-suc-le-zero, le_of_suc-le-suc}
use lib.Dec.{leb, lit<}
use lib.ListN.{length, get_or}
use borrow.Author.Tests.{leb-true, eqb-true}
use Rattle.lists.specs.Lists.{every_below}
use Rattle.lists.proofs.Every.{and_first, and_second, every_at}
use Rattle.layout.specs.Sides.{raster_fits}
use Rattle.finding_lists.specs.Columns.{Columns}
use Rattle.finding_lists.specs.Steps.{Roomy}
use Rattle.page.specs.Steps.{Room}
use Rattle.page.specs.Lent.{Lent, rulings_fit, tables_fit, boxes_fit, findings_fit, work_fits, has_room}

-- ---- one test, and then one for each of some lengths

-- A test passes, and n is at most each of some lengths.
abbrev chain : ℕ → Bool → List ℕ → Bool
chain n b [] = b
chain n b (x ∷ xs) = chain n (b && leb n x) xs

-- The test passes.
chain_first : (n : ℕ) (b : Bool) (xs : List ℕ) → chain n b xs ≡ true → b ≡ true
chain_first n b [] t = t
chain_first n b (x ∷ xs) t = and_first b (leb n x) (chain_first n (b && leb n x) xs t)

-- Each length is at least n.
chain_at : (n : ℕ) (b : Bool) (xs : List ℕ) → chain n b xs ≡ true → (k : ℕ) → k < length xs → n ≤ get_or xs k 0
chain_at n b [] t k h = absurd (not-suc-le-zero h)
chain_at n b (x ∷ xs) t zero h = leb-true n x (and_second b (leb n x) (chain_first n (b && leb n x) xs t))
chain_at n b (x ∷ xs) t (suc k) h = chain_at n (b && leb n x) xs t k (le_of_suc-le-suc h)

-- The findings' lists have room for n findings.
findings_room : (n : ℕ) (l : Columns) → n < 2 ^ 32 → findings_fit n l ≡ true → Roomy n l
findings_room n l few t =
    let r = leb (4 * n) (length l.rects) in
    let f : ℕ → Bool = λ k. leb n (length (get_or l.facts k [])) in
    let s : ℕ → Bool = λ k. leb n (length (get_or l.scores k [])) in
    let front = and_first (r && every_below 4 f) (every_below 8 s) t in
    record {
      few = few;
      rects = leb-true _ _ (and_first r (every_below 4 f) front);
      facts = record { long = λ k h. leb-true _ _ (every_at 4 f (and_second r (every_below 4 f) front) k h) };
      scores = record { long = λ k h. leb-true _ _ (every_at 8 s (and_second (r && every_below 4 f) (every_below 8 s) t) k h) };
    }

-- Question 14, answered yes, gives each lent list its room.
pub room_says : (w h n m : ℕ) (l : Lent) → n + m < 2 ^ 32 → has_room w h n m l ≡ true → Room w h n m l
unfolding raster_fits
room_says w h n m l few t =
    let a = raster_fits w h (length l.rules.levelled) in
    let b = rulings_fit n l.rules in
    let c = tables_fit n l.rules in
    let d = boxes_fit m l.marks in
    let e = findings_fit (n + m) l.found in
    let f = work_fits n m l.rules l.marks in
    let t₄ = and_first (a && b && c && d && e) f t in
    let t₃ = and_first (a && b && c && d) e t₄ in
    let t₂ = and_first (a && b && c) d t₃ in
    let t₁ = and_first (a && b) c t₂ in
    let first-rect = leb (4 * n) (length l.rules.rects) in
    let ruling-lists = length l.rules.directions ∷ length l.rules.contrasts ∷ length l.rules.printed ∷ length l.rules.faint ∷ length l.rules.piece_members ∷ length l.rules.piece_ends ∷ [] in
    let first-bound = leb (4 * n) (length l.rules.bounds) in
    let table-lists = length l.rules.rows ∷ length l.rules.columns ∷ length l.rules.rulings ∷ length l.rules.shares ∷ length l.rules.free ∷ length l.rules.printed_members ∷ length l.rules.printed_ends ∷ length l.rules.numbers ∷ [] in
    let first-box = leb (4 * m) (length l.marks.boxes) in
    let box-lists = length l.marks.marks ∷ length l.marks.coverages ∷ length l.marks.reading ∷ length l.marks.members ∷ length l.marks.ends ∷ length l.marks.numbers ∷ [] in
    let work-lists = length l.rules.listed ∷ length l.rules.listed_ends ∷ length l.rules.order ∷ length l.rules.keys ∷ [] in
    let box-work = length l.marks.parents ∷ length l.marks.order ∷ length l.marks.keys ∷ [] in
    let first-work = leb n (length l.rules.parents) in
    let of-rulings = and_second a b t₁ in
    let of-tables = and_second (a && b) c t₂ in
    let of-boxes = and_second (a && b && c) d t₃ in
    let of-work = and_second (a && b && c && d && e) f t in
    let of-pieces = chain_first m (chain n first-work work-lists) box-work of-work in
    let ruling = chain_at n first-rect ruling-lists of-rulings in
    let table = chain_at n first-bound table-lists of-tables in
    let box = chain_at m first-box box-lists of-boxes in
    let piece-work = chain_at n first-work work-lists of-pieces in
    let glyph-work = chain_at m (chain n first-work work-lists) box-work of-work in
    record {
      rules = record {
        levelled = eqb-true _ _ (and_first a b t₁);
        rects = leb-true _ _ (chain_first n first-rect ruling-lists of-rulings);
        directions = ruling 0 (lit< tt);
        contrasts = ruling 1 (lit< tt);
        printed = ruling 2 (lit< tt);
        faint = ruling 3 (lit< tt);
        piece_members = ruling 4 (lit< tt);
        piece_ends = ruling 5 (lit< tt);
        bounds = leb-true _ _ (chain_first n first-bound table-lists of-tables);
        rows = table 0 (lit< tt);
        columns = table 1 (lit< tt);
        rulings = table 2 (lit< tt);
        shares = table 3 (lit< tt);
        free = table 4 (lit< tt);
        printed_members = table 5 (lit< tt);
        printed_ends = table 6 (lit< tt);
        numbers = table 7 (lit< tt);
        parents = leb-true _ _ (chain_first n first-work work-lists of-pieces);
        listed = piece-work 0 (lit< tt);
        listed_ends = piece-work 1 (lit< tt);
        order = piece-work 2 (lit< tt);
        keys = piece-work 3 (lit< tt);
      };
      marks = record {
        boxes = leb-true _ _ (chain_first m first-box box-lists of-boxes);
        marks = box 0 (lit< tt);
        coverages = box 1 (lit< tt);
        reading = box 2 (lit< tt);
        members = box 3 (lit< tt);
        ends = box 4 (lit< tt);
        numbers = box 5 (lit< tt);
        parents = glyph-work 0 (lit< tt);
        order = glyph-work 1 (lit< tt);
        keys = glyph-work 2 (lit< tt);
      };
      found = findings_room (n + m) l.found few (and_second (a && b && c && d) e t₄);
    }
