-- `write::write_rulings` meets its contract: one ruling more a turn.
use mathlib.Core.Path.{◌≡◌, refl, sym, ap, subst, ◌∙◌}
use mathlib.Core.List.{List, [], map}
use Prim.Native.Nat.{ℕ, ◌+◌, ◌*◌, ◌<◌}
use native.Mathlib.Nat.{not-suc-le-zero}
use native.Mathlib.Omega.{arith}
use borrow.Author.Count.{below_more}
use lib.Ieee.{Float}
use lib.ListN.{set}
use lib.Seq.{sets}
use Rattle.lists.specs.Lists.{below, concat, written}
use Rattle.lists.proofs.Keep.{map_map, length_values, get_d_values}
use Rattle.lists.proofs.Runs.{value_written, run_written}
use Rattle.rects.specs.Rects.{numbers_of}
use Rattle.rects.specs.Around.{around}
use Rattle.listings.specs.Listed.{set_of}
use Rattle.paper.specs.Pixels.{Raster}
use Rattle.ruling_lists.specs.declared.ruling.Ruling.{Ruling}
use Rattle.ruling_lists.specs.Rulings.{direction_of, direction_number, ruling_of}
use Rattle.ruling_lists.specs.Steps.{parts_of, NearOwn, RulingMade, Described, RoomForRulings}
use Rattle.ruling_lists.proofs.Runs.{total_four}
use Rattle.ruling_lists.proofs.write.write_rulings.Given as goal

module _ (raster : Raster) (pieces : List ℕ) (part : ℕ → List ℕ) (n : ℕ) where
  abbrev pub numbers : ℕ → List ℕ
  numbers k = numbers_of (around pieces (part k))

  abbrev pub direction : ℕ → ℕ
  direction k = direction_number (direction_of pieces (part k))

  abbrev pub contrast : ℕ → Float
  contrast k = (ruling_of raster.pixels raster.w raster.h pieces (part k)).contrast

  pub record Describing (rs₀ ds₀ : List ℕ) (cs₀ : List Float) (rs ds : List ℕ) (cs : List Float) (k : ℕ) : Type 0 where
    pub rects : rs ≡ written (concat (map numbers (below k))) rs₀
    pub directions : ds ≡ written (map direction (below k)) ds₀
    pub contrasts : cs ≡ written (map contrast (below k)) cs₀
    pub near : (j : ℕ) → j < k → NearOwn raster pieces (part j)

  pub begun : (rs ds : List ℕ) (cs : List Float) → Describing rs ds cs rs ds cs 0
  begun rs ds cs = record { rects = refl; directions = refl; contrasts = refl; near = λ j l. absurd (not-suc-le-zero l) }

  module _ (rs₀ ds₀ : List ℕ) (cs₀ : List Float) (R : RoomForRulings n rs₀ ds₀ cs₀) where
    pub turn : {rs ds rs' : List ℕ} {cs : List Float} {k : ℕ} {s : List ℕ} {r : Ruling} {d : ℕ} → Describing rs₀ ds₀ cs₀ rs ds cs k → k < n
        → s ≡ part k → RulingMade raster pieces s r → rs' ≡ sets rs (4 * k) (numbers_of r.rect) → d ≡ direction_number r.horizontal
        → Describing rs₀ ds₀ cs₀ rs' (set ds k d) (set cs k r.contrast) (k + 1)
    turn {rs} {ds} {rs'} {cs} {k} {s} {r} {d} W l p q e f =
        let g : r ≡ ruling_of raster.pixels raster.w raster.h pieces (part k) = q.value ∙ ap (ruling_of raster.pixels raster.w raster.h pieces) p in
        record {
          rects = e ∙ run_written numbers rs₀ W.rects (sym (total_four numbers (λ j. refl) k)) (ap (λ (z : Ruling). numbers_of z.rect) g) (omega (arith, R.rects));
          directions = value_written direction ds₀ W.directions (omega (arith, R.directions)) (f ∙ ap (λ (z : Ruling). direction_number z.horizontal) g);
          contrasts = value_written contrast cs₀ W.contrasts (omega (arith, R.contrasts)) (ap (λ (z : Ruling). z.contrast) g);
          near = below_more (λ j. NearOwn raster pieces (part j)) k W.near (subst (NearOwn raster pieces) p q.near);
        }

  pub done : {rs₀ ds₀ rs ds : List ℕ} {cs₀ cs : List Float} {k : ℕ} → Describing rs₀ ds₀ cs₀ rs ds cs k → k ≡ n → Described raster pieces (parts_of part n) rs₀ ds₀ cs₀ rs ds cs
  done {rs₀} {ds₀} {cs₀ = cs₀} {k = k} W end =
      record {
        rects = W.rects ∙ ap (λ (j : ℕ). written (concat (map numbers (below j))) rs₀) end ∙ ap (λ (t : List (List ℕ)). written (concat t) rs₀) (sym (map_map (λ s. numbers_of (around pieces s)) part (below n)));
        directions = W.directions ∙ ap (λ (j : ℕ). written (map direction (below j)) ds₀) end ∙ ap (λ (t : List ℕ). written t ds₀) (sym (map_map (λ s. direction_number (direction_of pieces s)) part (below n)));
        contrasts = W.contrasts ∙ ap (λ (j : ℕ). written (map contrast (below j)) cs₀) end ∙ ap (λ (t : List Float). written t cs₀) (sym (map_map (λ s. (ruling_of raster.pixels raster.w raster.h pieces s).contrast) part (below n)));
        near = λ j z.
            let u : j < n = rw (length_values part n) at z in
            subst (NearOwn raster pieces) (sym (get_d_values part n j [] u)) (W.near j (omega arith));
      }

abbrev pub invariant-loop-k : goal.invariant-loop-k
invariant-loop-k l =
    Describing l.raster l.pieces (set_of l.sets) l.sets.count l.initial.rects l.initial.directions l.initial.contrasts l.rects l.directions l.contrasts l.k
