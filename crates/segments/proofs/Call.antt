-- What the call promises of an accepted page, from what its core leaves.
use mathlib.Core.Path.{◌≡◌, refl, ap₂, subst}
use mathlib.Core.List.{List, []}
use Prim.Native.Nat.{ℕ}
use lib.Ieee.{Float, nan}
use lib.ListN.{length-map}
use Rattle.lists.proofs.Keep.{get_d_of}
use Rattle.lists.proofs.Written.{written_at}
use Rattle.params.specs.Limits.{across_limit, gap_limit}
use Rattle.params.proofs.Limits.{limits}
use Rattle.questions.specs.Questions.{first_missed}
use Rattle.ruling_lists.specs.Rulings.{ordered_sets, ruling_of, contrasts_of}
use Rattle.ruling_questions.specs.Lent.{Lent}
use Rattle.segments.specs.Call.{Given, questions, all_sets, Segments}
use Rattle.segments.specs.Steps.{Made}
use Rattle.segments.proofs.Accepted.{settled, ready}
use Rattle.segments.proofs.Demand.{demand, in_order}
use Rattle.ruling_lists.proofs.Rectangles.{all_wider}

module _ (g : Given) (l : Lent) where
  pub passed : 0 ≡ first_missed (questions g l) → (l' : Lent) {across gap r : ℕ}
      → across ≡ across_limit g.settings g.xheight → gap ≡ gap_limit g.settings g.xheight
      → Made (record { pixels = g.raster; w = g.w; h = g.h }) g.pieces (ordered_sets g.pieces across gap) l l' r
      → Segments g l l' (record { number = 0; count = r })
  passed none l' {r = r} a b made =
      let M = subst (λ (ss : List (List ℕ)). Made (record { pixels = g.raster; w = g.w; h = g.h }) g.pieces ss l l' r) (ap₂ (ordered_sets g.pieces) a b) made in
      let P = (ready g l none).picture in
      let L = limits g.settings g.xheight (settled g l none) in
      let contrast : List ℕ → Float = λ s. (ruling_of g.raster g.w g.h g.pieces s).contrast in
      let across = across_limit g.settings g.xheight in
      let gap = gap_limit g.settings g.xheight in
      record {
        number = none;
        counts = λ i. record { number = 0; count = M.count i };
        refused = λ f. absurd (f refl);
        answers = λ _. record {
          rects = M.described.rects;
          directions = M.described.directions;
          contrasts = M.described.contrasts;
          piece_members = M.strung.members;
          piece_ends = M.strung.ends;
        };
        limits = λ _. record { across = L.across.is; gap = L.gap.is };
        order = λ _. in_order g.pieces across gap (all_wider g.pieces P.narrow P.low P.inside);
        near = λ _ k h. rw (
          M.described.contrasts,
          written_at (contrasts_of g.raster g.w g.h g.pieces (all_sets g)) l.contrasts k nan (rw (length-map (all_sets g) contrast) h),
          get_d_of contrast (all_sets g) k nan [] h,
        ) (M.described.near k h);
        demand3 = λ _. (demand g.pieces across gap, M.read);
      }
