-- One finding stored in all its lists, and one more row after others.
use mathlib.Core.Path.{◌≡◌, refl, sym, ap, subst, ◌∙◌}
use mathlib.Core.List.{List, [], ◌∷◌, ◌++◌, map}
use Prim.Native.Nat.{ℕ, ◌*◌, ◌^◌, ◌≤◌, ◌<◌}
use native.Mathlib.Omega.{arith}
use lib.ListN.{length, get_or, length-map}
use Rattle.lists.specs.Lists.{In, concat, written}
use Rattle.lists.proofs.Keep.{map_append, map_same, map_map, get_d_of, in_at}
use Rattle.math.specs.Constants.{zero}
use Rattle.evidence.specs.declared.finding.Row.{Row}
use Rattle.finding_lists.specs.Columns.{Columns, rect_of, fact, score, AllWritten}
use Rattle.finding_lists.specs.Steps.{placed, single, Stored, Roomy}
use Rattle.finding_lists.proofs.Placed.{placed_append, placed_long, Inverse, placed_in_order}

-- some rows, and then others
pub stored_then : (rows rows' : List Row) (ps ps' : List ℕ) {l l' l'' : Columns} → length rows ≡ length ps → Stored rows ps l l' → Stored rows' ps' l' l''
    → Stored (rows ++ rows') (ps ++ ps') l l''
stored_then rows rows' ps ps' {l} {l'} e S T =
    record {
      rects = T.rects ∙ ap (placed 4 (map rect_of rows') ps') S.rects ∙ joined 4 rect_of l.rects;
      facts = λ k h. T.facts k h ∙ ap (placed 1 (map (λ r. single (fact k r)) rows') ps') (S.facts k h) ∙ joined 1 (λ r. single (fact k r)) (get_or l.facts k []);
      scores = λ k h. T.scores k h ∙ ap (placed 1 (map (λ r. single (score k r)) rows') ps') (S.scores k h) ∙ joined 1 (λ r. single (score k r)) (get_or l.scores k []);
    }
  where
    joined : {A : Type 0} (w : ℕ) (f : Row → List A) (c : List A) → placed w (map f rows') ps' (placed w (map f rows) ps c) ≡ placed w (map f (rows ++ rows')) (ps ++ ps') c
    joined w f c =
        sym (placed_append w (map f rows) (map f rows') ps ps' c (length-map rows f ∙ e)) ∙ ap (λ (t : List (List _)). placed w t (ps ++ ps') c) (sym (map_append f rows rows'))

-- nothing yet
pub stored_none : {l : Columns} (ps : List ℕ) → Stored [] ps l l
stored_none ps = record { rects = refl; facts = λ k h. refl; scores = λ k h. refl }

-- the lists keep their room
pub still_roomy : (rows : List Row) (ps : List ℕ) {n : ℕ} {l l' : Columns} → Roomy n l → Stored rows ps l l' → Roomy n l'
still_roomy rows ps {n} {l} {l'} R S =
    record {
      few = R.few;
      rects = rw (ap length S.rects ∙ placed_long 4 (map rect_of rows) ps l.rects) R.rects;
      facts = record {
        long = λ k h. rw (ap length (S.facts k h) ∙ placed_long 1 (map (λ r. single (fact k r)) rows) ps (get_or l.facts k [])) (R.facts.long k h);
      };
      scores = record {
        long = λ k h. rw (ap length (S.scores k h) ∙ placed_long 1 (map (λ r. single (score k r)) rows) ps (get_or l.scores k [])) (R.scores.long k h);
      };
    }

-- what has room for n has room for fewer
pub room_for_fewer : {m n : ℕ} {l : Columns} → m ≤ n → Roomy n l → Roomy m l
room_for_fewer {m} {n} {l} h R =
    record {
      few = let x : n < 2 ^ 32 = R.few in omega arith;
      rects = let x : 4 * n ≤ length l.rects = R.rects in omega arith;
      facts = record { long = λ k q. let x : n ≤ length (get_or l.facts k []) = R.facts.long k q in omega arith };
      scores = record { long = λ k q. let x : n ≤ length (get_or l.scores k []) = R.scores.long k q in omega arith };
    }

-- ---- rows stored at their ranks

module _ (rows : List Row) (none : Row) (ps order : List ℕ) (e : length rows ≡ length ps) (I : Inverse ps order) where
  -- the rows in order
  abbrev pub ordered : List Row
  ordered = map (λ k. get_or rows k none) order

  in_order : {A : Type 0} (d : A) (w : ℕ) (f : Row → List A) (l : List A) → ((r : Row) → length (f r) ≡ w) → w * length ps ≤ length l
      → placed w (map f rows) ps l ≡ written (concat (map f ordered)) l
  in_order {A} d w f l wide room =
      placed_in_order d w (map f rows) ps order l (λ k h. ap length (row_at_lem k (rw (length-map rows f) at h)) ∙ wide (get_or rows k none)) (length-map rows f ∙ e) I room
      ∙ ap (λ (t : List (List A)). written (concat t) l) (map_same (λ k. get_or (map f rows) k []) (λ k. f (get_or rows k none)) order (λ k m. row_at_lem k (number k m)) ∙ sym (map_map f (λ k. get_or rows k none) order))
    where
      row_at_lem : (k : ℕ) → k < length rows → get_or (map f rows) k [] ≡ f (get_or rows k none)
      row_at_lem k h = get_d_of f rows k [] none h

      number : (k : ℕ) → In order k → k < length rows
      number k m =
          let s = in_at order k m in
          let x : get_or order s.0 0 < length ps = I.within s.0 (omega (arith, s.1, I.long)) in
          subst (λ (n : ℕ). n < length rows) s.2 (omega arith)

  -- one entry a row
  singles : {A : Type 0} (f : Row → A) (xs : List Row) → concat (map (λ r. single (f r)) xs) ≡ map f xs
  singles f [] = refl
  singles {A} f (x ∷ xs) = ap (λ (t : List A). f x ∷ t) (singles f xs)

  column : {A : Type 0} (d : A) (f : Row → A) (l : List A) → length ps ≤ length l → placed 1 (map (λ r. single (f r)) rows) ps l ≡ written (map f ordered) l
  column {A} d f l room = in_order d 1 (λ r. single (f r)) l (λ r. refl) (omega arith) ∙ ap (λ (t : List A). written t l) (singles f ordered)

  pub all_written : {l l' : Columns} → Roomy (length ps) l → Stored rows ps l l' → AllWritten ordered l l'
  all_written {l} R S =
      record {
        rects = S.rects ∙ in_order 0 4 rect_of l.rects (λ r. refl) R.rects;
        facts = λ k h. S.facts k h ∙ column 0 (fact k) (get_or l.facts k []) (R.facts.long k h);
        scores = λ k h. S.scores k h ∙ column zero (score k) (get_or l.scores k []) (R.scores.long k h);
      }
