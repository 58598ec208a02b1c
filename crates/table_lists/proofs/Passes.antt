-- Why the passes over the sets are right: what one set more adds to each list.
use mathlib.Core.Path.{◌≡◌, refl, sym, ap, ap₂, ◌∙◌}
use mathlib.Core.Bool.{true, false, not}
use mathlib.Core.List.{List, [], ◌∷◌, ◌++◌, map}
use Prim.Native.Nat.{ℕ, suc, ◌+◌, ◌-◌, ◌≤◌, ◌<◌}
use native.Mathlib.Numerals.{add-one}
use native.Mathlib.Omega.{arith}
use lib.ListN.{length, get_or, set, take, length-map, length-append}
use lib.Seq.{sets, take-suc, length-take-le}
use Rattle.lists.specs.Lists.{below, keep, written}
use Rattle.lists.proofs.Keep.{length_below, map_append}
use Rattle.lists.proofs.Sizes.{keep_size_le, keep_one, keep_past}
use Rattle.lists.proofs.Written.{written_more, written_run}
use Rattle.lists.proofs.Runs.{strung, strung_one, strung_fits}
use Rattle.meeting.specs.declared.segment.Segment.{Segment}
use Rattle.shapes.specs.declared.limits.Limits.{Limits}
use Rattle.shapes.specs.Shapes.{is_table, lines_of, rows_of, columns_of}
use Rattle.table_lists.specs.Answers.{table_numbers, free_numbers, free_list}
use Rattle.meeting.specs.Steps.{IndexesBelow}
use Rattle.table_lists.specs.Steps.{SetsIn, Chose}

-- a set below the count, as it was read
pub set_read : {n : ℕ} {f : ℕ → List ℕ} {count k : ℕ} {xs : List ℕ} → SetsIn n f count → k < count → xs ≡ f k → IndexesBelow n xs × (0 < length xs)
set_read S h e = rw e (S.inside _ h, S.some _ h)

module _ (lim : Limits) (s : ℕ → Segment) (f : ℕ → List ℕ) where
  pub tables_few : (k : ℕ) → length (table_numbers lim s f k) ≤ k
  unfolding table_numbers
  tables_few k = omega (arith, keep_size_le (λ j. is_table lim s (f j)) (below k), length_below k)

  module _ (k : ℕ) where
    pub tables_one : is_table lim s (f k) ≡ true → table_numbers lim s f (k + 1) ≡ table_numbers lim s f k ++ (k ∷ [])
    unfolding table_numbers
    tables_one e = ap (λ (m : ℕ). keep (λ j. is_table lim s (f j)) (below m)) (add-one k) ∙ keep_one (λ j. is_table lim s (f j)) k e

    pub tables_past : is_table lim s (f k) ≡ false → table_numbers lim s f (k + 1) ≡ table_numbers lim s f k
    unfolding table_numbers
    tables_past e = ap (λ (m : ℕ). keep (λ j. is_table lim s (f j)) (below m)) (add-one k) ∙ keep_past (λ j. is_table lim s (f j)) k e

    free_one : is_table lim s (f k) ≡ false → free_numbers lim s f (k + 1) ≡ free_numbers lim s f k ++ (k ∷ [])
    unfolding free_numbers
    free_one e =
        ap (λ (m : ℕ). keep (λ j. not (is_table lim s (f j))) (below m)) (add-one k) ∙ keep_one (λ j. not (is_table lim s (f j))) k (ap not e)

    free_past : is_table lim s (f k) ≡ true → free_numbers lim s f (k + 1) ≡ free_numbers lim s f k
    unfolding free_numbers
    free_past e =
        ap (λ (m : ℕ). keep (λ j. not (is_table lim s (f j))) (below m)) (add-one k) ∙ keep_past (λ j. not (is_table lim s (f j))) k (ap not e)

    pub free_fits : {n count : ℕ} → SetsIn n f count → k < count → length (free_list lim s f k) + length (f k) ≤ n
    unfolding free_numbers
    free_fits {n} {count} S h = omega (arith, strung_fits f (λ j. not (is_table lim s (f j))) k count h, S.total)

    -- a table: its number and its facts go behind those that are there
    pub chose_table : {nu ro co fr nu' ro' co' fr' : List ℕ} {t a h v : ℕ} → Chose lim s f k nu ro co fr nu' ro' co' fr' t a → is_table lim s (f k) ≡ true
        → h ≡ lines_of lim.cluster true s (f k) → v ≡ lines_of lim.cluster false s (f k) → t < length nu → t < length ro → t < length co
        → Chose lim s f (k + 1) nu ro co fr (set nu' t k) (set ro' t (h - 1)) (set co' t (v - 1)) fr' (t + 1) a
    chose_table {nu} {ro} {co} {fr} {t = t} {h = h} {v} C e eh ev rn rr rc =
        let one = tables_one e in
        let past : free_list lim s f (k + 1) ≡ free_list lim s f k = ap (strung f) (free_past e) in
        record {
          tables = add-one t ∙ ap suc C.tables ∙ sym (ap length one ∙ length-append (table_numbers lim s f k) (k ∷ []) ∙ add-one _);
          free = C.free ∙ sym (ap length past);
          numbers = written_more (table_numbers lim s f k) nu k C.numbers (sym C.tables) rn one;
          rows = fact (λ j. rows_of lim s (f j)) ro C.rows rr (ap (λ (x : ℕ). x - 1) eh) one;
          columns = fact (λ j. columns_of lim s (f j)) co C.columns rc (ap (λ (x : ℕ). x - 1) ev) one;
          free_list = C.free_list ∙ ap (λ (xs : List ℕ). written xs fr) (sym past);
        }
      where
        fact : (g : ℕ → ℕ) (lent : List ℕ) {now : List ℕ} {x : ℕ} → now ≡ written (map g (table_numbers lim s f k)) lent → t < length lent → x ≡ g k
            → table_numbers lim s f (k + 1) ≡ table_numbers lim s f k ++ (k ∷ []) → set now t x ≡ written (map g (table_numbers lim s f (k + 1))) lent
        fact g lent {x = x} e room ex one =
            written_more (map g (table_numbers lim s f k)) lent x e (length-map (table_numbers lim s f k) g ∙ sym C.tables) room
            (ap (map g) one ∙ map_append g (table_numbers lim s f k) (k ∷ []) ∙ ap (λ (w : ℕ). map g (table_numbers lim s f k) ++ (w ∷ [])) (sym ex))

    -- any other set goes behind the free list
    pub chose_free : {n count : ℕ} {nu ro co fr nu' ro' co' fr' fr'' xs : List ℕ} {t a b : ℕ} → Chose lim s f k nu ro co fr nu' ro' co' fr' t a
        → is_table lim s (f k) ≡ false → SetsIn n f count → k < count → n ≤ length fr → xs ≡ f k → fr'' ≡ sets fr' a xs → b ≡ a + length xs
        → Chose lim s f (k + 1) nu ro co fr nu' ro' co' fr'' t b
    chose_free {nu = nu} {ro} {co} {fr} {fr' = fr'} {fr''} {xs} {a = a} {b} C e S h room ex ef eb =
        let past = tables_past e in
        let one : free_list lim s f (k + 1) ≡ free_list lim s f k ++ f k = ap (strung f) (free_one e) ∙ strung_one f (free_numbers lim s f k) k in
        let fits = free_fits S h in
        record {
          tables = C.tables ∙ sym (ap length past);
          free = eb ∙ ap₂ (λ (x y : ℕ). x + y) C.free (ap length ex) ∙ sym (ap length one ∙ length-append (free_list lim s f k) (f k));
          numbers = C.numbers ∙ ap (λ (l : List ℕ). written l nu) (sym past);
          rows = C.rows ∙ ap (λ (l : List ℕ). written (map (λ j. rows_of lim s (f j)) l) ro) (sym past);
          columns = C.columns ∙ ap (λ (l : List ℕ). written (map (λ j. columns_of lim s (f j)) l) co) (sym past);
          free_list =
              ef ∙ ap (λ (l : List ℕ). sets l a xs) C.free_list ∙ ap₂ (λ (i : ℕ) (l : List ℕ). sets (written (free_list lim s f k) fr) i l) C.free ex
              ∙ written_run (f k) (free_list lim s f k) fr (omega arith) ∙ ap (λ (l : List ℕ). written l fr) (sym one);
        }

  pub chose_none : (nu ro co fr : List ℕ) → Chose lim s f 0 nu ro co fr nu ro co fr 0 0
  unfolding table_numbers free_numbers
  chose_none nu ro co fr = record { tables = refl; free = refl; numbers = refl; rows = refl; columns = refl; free_list = refl }
