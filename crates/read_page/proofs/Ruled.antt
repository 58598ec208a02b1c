-- Levelling, rulings, printed and faint, tables: what each stage asks, and what it leaves of the page.
use mathlib.Core.Path.{◌≡◌, sym, ap, ap₂, subst, transport, ◌∙◌}
use mathlib.Core.List.{List, []}
use Prim.Native.Nat.{ℕ, ◌+◌, ◌*◌, ◌≤◌, ◌<◌}
use native.Mathlib.Omega.{arith}
use lib.Ieee.{Float}
use lib.ListN.{length, take, drop, get_or}
use lib.Seq.{take-append_seam}
use Rattle.lists.specs.Lists.{concat, written}
use Rattle.lists.proofs.Written.{written_length}
use Rattle.sets.specs.Listing.{ends_from, ReadAs}
use Rattle.rects.specs.Rects.{count}
use Rattle.levelling.specs.Steps as Levelling
use Rattle.layout.proofs.Levelling.{levelled_is}
use Rattle.params.specs.Steps.{SettingsPassed}
use Rattle.ruling_questions.specs.Lent.{Lent}
use Rattle.ruling_lists.specs.Steps.{NearOwn}
use Rattle.segments.specs.Steps as Segments
use Rattle.printed_rulings.specs.Steps.{SplitByContrast, RoomForPlaces}
use Rattle.meeting.specs.Steps as Meeting
use Rattle.table_questions.specs.Lent.{Lists}
use Rattle.tables.specs.Steps as Tables
use Rattle.read_page.specs.Steps.{PartsLong}
use Rattle.page.specs.Page as Page
use Rattle.page.specs.Page.{Page}
use Rattle.page.specs.Lent.{RuleLists}
use Rattle.page.specs.Steps.{RuleRoom}
use Rattle.ruled_laws.proofs.Ruled as Ruled
use Rattle.read_page.proofs.Known.{Known}

-- the part of a list that was written from the front
pub front : {A : Type 0} (xs l : List A) {n : ℕ} {l' : List A} → l' ≡ written xs l → n ≡ length xs → take n l' ≡ xs
front xs l e f = ap₂ take f e ∙ take-append_seam xs (drop (length xs) l)

-- a list that was written from the front is as long as it was
pub still : {A : Type 0} (xs l : List A) {l' : List A} → l' ≡ written xs l → length xs ≤ length l → length l' ≡ length l
still xs l e h = ap length e ∙ written_length xs l h

module _ (g : Page) (K : Known g) (l : RuleLists) (Q : RuleRoom g.sides.w g.sides.h (count g.pieces) l) where
  abbrev w : ℕ
  w = g.sides.w

  abbrev h : ℕ
  h = g.sides.h

  -- what the rulings' stage is lent
  abbrev lent : Lent
  lent =
      record {
        rects = l.rects;
        directions = l.directions;
        contrasts = l.contrasts;
        piece_members = l.piece_members;
        piece_ends = l.piece_ends;
        parents = l.parents;
        listed = l.listed;
        listed_ends = l.listed_ends;
        work = l.order;
        keys = l.keys;
      }

  pub level_ready : Levelling.Ready (record { sides = g.sides; shear = g.shear; shear_x = g.shear_x }) g.gray l.levelled
  level_ready = record { sheared = K.sheared; grey_long = K.grey; out_long = Q.levelled }

  raster_long : length (Page.raster g) ≡ w * h
  raster_long = (levelled_is g.sides g.shear g.shear_x K.sheared g.gray).long

  pub rulings_ready : {lev : List ℕ} → lev ≡ Page.raster g
      → SettingsPassed g.settings g.xheight
      × Segments.Ready (record { pixels = lev; w = w; h = h }) g.pieces lent
  rulings_ready e = (
    K.settled,
    record {
      picture = record { full = ap length e ∙ raster_long; narrow = K.sides.w_most; low = K.sides.h_most; inside = K.pieces };
      few = K.few_pieces;
      roomy =
          record {
            rulings = record { rects = Q.rects; directions = Q.directions; contrasts = Q.contrasts };
            members = Q.piece_members;
            ends = Q.piece_ends;
            parents = Q.parents;
            listed = Q.listed;
            listed_ends = Q.listed_ends;
            work = Q.order;
            keys = Q.keys;
          };
    },
  )

  -- the laws of the page's rulings
  few : length (Page.piece_sets g) ≤ count g.pieces
  few = Ruled.sets_few g K.few_pieces K.sides.w_most K.sides.h_most K.pieces

  -- what the rulings' stage leaves, of the page alone
  pub record Ruling (r d : List ℕ) (c : List Float) (pm pe : List ℕ) (n : ℕ) : Type 0 where
    pub count : n ≡ length (Page.piece_sets g)
    pub rects : r ≡ written (Page.rects g) l.rects
    pub directions : d ≡ written (Page.directions g) l.directions
    pub contrasts : c ≡ written (Page.contrasts g) l.contrasts
    pub members : pm ≡ written (concat (Page.piece_sets g)) l.piece_members
    pub ends : pe ≡ written (ends_from 0 (Page.piece_sets g)) l.piece_ends
    pub near : (k : ℕ) → k < length (Page.piece_sets g) → NearOwn (record { pixels = Page.raster g; w = w; h = h }) g.pieces (get_or (Page.piece_sets g) k [])
    pub read : ReadAs (Page.piece_sets g) pm pe n

  pub ruling : {lev : List ℕ} {l' : Lent} {n : ℕ} → lev ≡ Page.raster g
      → Segments.Made (record { pixels = lev; w = w; h = h }) g.pieces (Page.piece_sets g) lent l' n
      → Ruling l'.rects l'.directions l'.contrasts l'.piece_members l'.piece_ends n
  ruling {l' = l'} {n} e M₀ =
      let M = subst (λ (lev : List ℕ). Segments.Made (record { pixels = lev; w = w; h = h }) g.pieces (Page.piece_sets g) lent l' n) e M₀ in
      record {
        count = M.count;
        rects = M.described.rects;
        directions = M.described.directions;
        contrasts = M.described.contrasts;
        members = M.strung.members;
        ends = M.strung.ends;
        near = M.described.near;
        read = M.read;
      }

  module _ {r d : List ℕ} {c : List Float} {pm pe : List ℕ} {n : ℕ} (R : Ruling r d c pm pe n) where
    n_few : n ≤ count g.pieces
    n_few = omega (arith, R.count, few)

    contrasts_front : take n c ≡ Page.contrasts g
    contrasts_front = front (Page.contrasts g) l.contrasts R.contrasts (R.count ∙ sym (Ruled.contrasts_long g K.few_pieces K.sides.w_most K.sides.h_most K.pieces))

    pub rects_front : take (4 * n) r ≡ Page.rects g
    rects_front = front (Page.rects g) l.rects R.rects (ap (λ (k : ℕ). 4 * k) R.count ∙ sym (Ruled.rects_long g K.few_pieces K.sides.w_most K.sides.h_most K.pieces))

    pub directions_front : take n d ≡ Page.directions g
    directions_front = front (Page.directions g) l.directions R.directions (R.count ∙ sym (Ruled.directions_long g K.few_pieces K.sides.w_most K.sides.h_most K.pieces))

    contrasts_still : length c ≡ length l.contrasts
    contrasts_still = still (Page.contrasts g) l.contrasts R.contrasts (let e = Ruled.contrasts_long g K.few_pieces K.sides.w_most K.sides.h_most K.pieces in omega (arith, few, Q.contrasts))

    pub rects_still : length r ≡ length l.rects
    rects_still = still (Page.rects g) l.rects R.rects (let e = Ruled.rects_long g K.few_pieces K.sides.w_most K.sides.h_most K.pieces in omega (arith, few, Q.rects))

    pub directions_still : length d ≡ length l.directions
    directions_still = still (Page.directions g) l.directions R.directions (let e = Ruled.directions_long g K.few_pieces K.sides.w_most K.sides.h_most K.pieces in omega (arith, few, Q.directions))

    pub split_ready : (n ≤ length c) × RoomForPlaces (take n c) l.printed l.faint
    split_ready = (
      omega (arith, n_few, contrasts_still, Q.contrasts),
      (let e : length (take n c) ≡ n = ap length contrasts_front ∙ Ruled.contrasts_long g K.few_pieces K.sides.w_most K.sides.h_most K.pieces ∙ sym R.count in
          record { few = omega (arith, n_few, K.few_pieces); printed = omega (arith, n_few, Q.printed); faint = omega (arith, n_few, Q.faint) }),
    )

    -- what the split leaves, of the page alone
    pub record Split (p f : List ℕ) (a b : ℕ) : Type 0 where
      pub printed_count : a ≡ length (Page.printed g)
      pub faint_count : b ≡ length (Page.faint g)
      pub printed : p ≡ written (Page.printed g) l.printed
      pub faint : f ≡ written (Page.faint g) l.faint

    pub split : {p f : List ℕ} {a b : ℕ} → SplitByContrast g.settings (take n c) l.printed l.faint p f a b → Split p f a b
    split {p} {f} {a} {b} S₀ =
        let S = subst (λ (x : List Float). SplitByContrast g.settings x l.printed l.faint p f a b) contrasts_front S₀ in
        record { printed_count = S.printed_count; faint_count = S.faint_count; printed = S.printed_list; faint = S.faint_list }

    module _ {p f : List ℕ} {a b : ℕ} (S : Split p f a b) where
      both : length (Page.printed g) + length (Page.faint g) ≡ length (Page.piece_sets g)
      both = Ruled.printed_few g K.few_pieces K.sides.w_most K.sides.h_most K.pieces

      a_few : a ≤ count g.pieces
      a_few = omega (arith, S.printed_count, both, few)

      pub printed_front : take a p ≡ Page.printed g
      printed_front = front (Page.printed g) l.printed S.printed S.printed_count

      pub printed_still : length p ≡ length l.printed
      printed_still = still (Page.printed g) l.printed S.printed (omega (arith, both, few, Q.printed))

      pub tables_ready : {pa wo ke : List ℕ} → length pa ≡ length l.parents → length wo ≡ length l.order → length ke ≡ length l.keys
          → SettingsPassed g.settings g.xheight × PartsLong n a r d p × Meeting.Given (take (4 * n) r) (take n d) (take a p)
          × Tables.Roomy a
          (record { members = l.printed_members; ends = l.printed_ends; numbers = l.numbers; bounds = l.bounds; rows = l.rows; columns = l.columns; rulings = l.rulings; shares = l.shares; free = l.free; parents = pa; work = wo; keys = ke })
      tables_ready lp lw lk = (
        K.settled,
        record { rects_long = omega (arith, n_few, rects_still, Q.rects); directions_long = omega (arith, n_few, directions_still, Q.directions); places_long = omega (arith, a_few, printed_still, Q.printed) },
        (let x = sym rects_front in let y = sym directions_front in let z = sym printed_front in transport (λ i. Meeting.Given (x i) (y i) (z i))) (Ruled.chosen_given g K.few_pieces K.sides.w_most K.sides.h_most K.pieces),
        record {
          members = omega (arith, a_few, Q.printed_members);
          ends = omega (arith, a_few, Q.printed_ends);
          numbers = omega (arith, a_few, Q.numbers);
          bounds = omega (arith, a_few, Q.bounds);
          rows = omega (arith, a_few, Q.rows);
          columns = omega (arith, a_few, Q.columns);
          rulings = omega (arith, a_few, Q.rulings);
          shares = omega (arith, a_few, Q.shares);
          free = omega (arith, a_few, Q.free);
          parents = omega (arith, a_few, lp, Q.parents);
          work = omega (arith, a_few, lw, Q.order);
          keys = omega (arith, a_few, lk, Q.keys);
        },
      )

      pub tabled : {l₁ l₂ : Lists} {ss ts fs : ℕ} → Tables.Filled (take (4 * n) r) (take n d) (take a p) (Page.table_limits g) l₁ l₂ ss ts fs
          → Tables.Filled (Page.rects g) (Page.directions g) (Page.printed g) (Page.table_limits g) l₁ l₂ ss ts fs
      tabled {l₁} {l₂} {ss} {ts} {fs} F = transport (λ i. Tables.Filled (rects_front i) (directions_front i) (printed_front i) (Page.table_limits g) l₁ l₂ ss ts fs) F
