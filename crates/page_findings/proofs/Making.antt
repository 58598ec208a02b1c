-- Making the findings: what each step is given, and that the last one leaves the page's findings.
use mathlib.Core.Path.{◌≡◌, sym, ap, subst, ◌∙◌}
use mathlib.Core.Bool.{Bool}
use mathlib.Core.List.{List, map}
use Prim.Native.Nat.{ℕ, ◌+◌, ◌≤◌}
use lib.ListN.{length, get_or, take, length-map}
use lib.Seq.{sets}
use Rattle.lists.specs.Lists.{written}
use Rattle.rects.specs.Rects.{count}
use Rattle.rects.specs.Steps.{AllInside}
use Rattle.ranks.specs.Ranks.{Ranked}
use Rattle.evidence.specs.Kinds.{is_fold}
use Rattle.finding_lists.specs.Columns.{Columns}
use Rattle.findings.specs.Steps.{grid_key, AllGiven, Front, RectsGiven, FirstKeyed, AllRanked}
use Rattle.findings.specs.Made.{free_count_of, fold_inches}
use Rattle.findings.proofs.Demand.{findings_paired}
use Rattle.findings.proofs.Runs as Runs
use Rattle.findings.proofs.Whole.{rects_of, free_given, kept_given, write_room, number_is}
use Rattle.grid_findings.specs.Boxes.{sets_of}
use Rattle.page_findings.specs.Sources.{Sources, boxes_of, freed, folded}
use Rattle.page_findings.specs.Steps.{Work, Ready, ReadyToWrite, WroteAll, Left}

module _ (s : Sources) {w : Work} {l : Columns} (R : Ready s w l) where
  pub freed_given : AllGiven s.scan.sides.w s.scan.sides.h s.ruled.rects s.ruled.directions s.ruled.contrasts (freed s)
  freed_given = free_given s.printed s.free R.free_given R.printed_given

  pub folded_given : AllGiven s.scan.sides.w s.scan.sides.h s.ruled.rects s.ruled.directions s.ruled.contrasts (folded s)
  folded_given = kept_given (λ k. is_fold s.scan.settings (fold_inches s.dpi s.ruled.rects s.ruled.directions k)) s.faint R.faint_given

  module _ {pl fo : List ℕ} {m : ℕ} (P : pl ≡ written (freed s) w.places) (F : Front (folded s) w.folds fo m) where
    -- the parts that hold the places
    placed : take (length s.free) pl ≡ freed s
    placed = Runs.front_part (freed s) w.places P (sym (length-map s.free (λ i. get_or s.printed i 0)))

    folds_placed : take m fo ≡ folded s
    folds_placed = Runs.front_part (folded s) w.folds F.list F.count

    pub first_given : (1 ≤ s.scan.settings.min_free_rules) × AllInside s.scan.sides.w s.scan.sides.h s.tabled.bounds
        × RectsGiven s.scan.sides.w s.scan.sides.h s.ruled.rects (take (length s.free) pl) × RectsGiven s.scan.sides.w s.scan.sides.h s.ruled.rects (take m fo)
        × (count s.tabled.bounds + free_count_of s.scan.settings (take (length s.free) pl) + length (take m fo) ≤ length w.keys)
    first_given = rw (placed, folds_placed) (R.rules, R.tables_given.inside, rects_of freed_given, rects_of folded_given, R.room.both.ranking.keys_long)

    module _ {ks gs ra rb : List ℕ} {r : ℕ}
        (K : FirstKeyed s.scan.sides s.scan.shear s.scan.shear_x s.scan.settings s.tabled.bounds s.ruled.rects (take (length s.free) pl) (take m fo) w.keys ks r)
        (G : gs ≡ sets w.grid_keys 0 (map (λ n. grid_key s.scan.sides s.scan.shear s.scan.shear_x s.boxed.rects (sets_of s.boxed n)) s.boxed.grids))
        (Q : Ranked (take (count s.tabled.bounds + r + m) ks) (take (length s.boxed.grids) gs) ra rb) (la : length ra ≡ length w.ranks) (lb : length rb ≡ length w.grid_ranks) where
      K' : FirstKeyed s.scan.sides s.scan.shear s.scan.shear_x s.scan.settings s.tabled.bounds s.ruled.rects (freed s) (folded s) w.keys ks r
      K' = rw (placed, folds_placed) at K

      -- the ranks are those of all findings
      ranked : AllRanked s.scan.sides s.scan.shear s.scan.shear_x s.scan.settings s.tabled.bounds s.ruled.rects (freed s) (folded s) s.boxed.rects (sets_of s.boxed) s.boxed.grids ra rb r
      ranked =
          Runs.all_ranked s.scan.sides s.scan.shear s.scan.shear_x s.scan.settings s.tabled.bounds s.ruled.rects (freed s) (folded s) s.boxed.rects (sets_of s.boxed) s.boxed.grids R.room.both.ranking K' G
          (subst (λ (n : ℕ). Ranked (take (count s.tabled.bounds + r + n) ks) (take (length s.boxed.grids) gs) ra rb) F.count Q)

      pub writing_given : ReadyToWrite s (take (length s.free) pl) (take m fo) r ra rb l
      writing_given =
          rw (placed, folds_placed)
          (record {
            some_rules = R.rules;
            rules_given = ranked.rules;
            tables_given = R.tables_given;
            places_given = freed_given;
            folds_given = folded_given;
            grids_given = R.grids_given;
            room = write_room s.scan.sides s.scan.shear s.scan.shear_x s.scan.settings s.tabled.bounds s.ruled.rects (freed s) (folded s) s.boxed.rects (sets_of s.boxed) s.boxed.grids R.room.both ranked la lb;
          })

      pub page_found : {l' : Columns} {b : Bool} → WroteAll s (take (length s.free) pl) (take m fo) l l' b → Left s l l' (count s.tabled.bounds + r + m + length s.boxed.grids) b
      page_found {l'} {b} W =
          record {
            found = rw (placed, folds_placed) at W;
            number = ap (λ (n : ℕ). count s.tabled.bounds + r + n + length s.boxed.grids) F.count ∙ number_is s.scan s.dpi s.tabled s.ruled (freed s) (folded s) (boxes_of s.boxed) ranked.rules;
            paired = findings_paired s.scan s.dpi s.ruled s.printed s.faint s.tabled s.free (boxes_of s.boxed) R.mapping.sheared;
          }
