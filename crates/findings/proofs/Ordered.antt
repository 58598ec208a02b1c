-- The findings in order are document 01's order: the key orders as page y0, x0 and kind number do, and ties stand as they were made.
use mathlib.Core.Path.{◌≡◌, refl, sym, ap, subst, ◌∙◌}
use mathlib.Core.Logic.{◌⊎◌, inl, inr, ⊎_elim}
use mathlib.Core.List.{List, [], ◌∷◌, map}
use Prim.Native.Nat.{ℕ, zero, suc, ◌+◌, ◌-◌, ◌*◌, ◌≤◌, ◌<◌}
use native.Mathlib.Nat.{not-suc-le-zero, le_of_suc-le-suc}
use native.Mathlib.Decide.{dec_lt}
use native.Mathlib.Omega.{arith}
use lib.ListN.{length, get_or, length-map}
use Rattle.lists.proofs.Keep.{get_d_of}
use Rattle.order.specs.Order.{key_at, Sorted, sorted_indexes}
use Rattle.order.proofs.Computed.{sorted_by_lem, sorted_length}
use Rattle.evidence.specs.declared.finding.Finding.{Finding}
use Rattle.evidence.specs.declared.finding.Kind.{Kind}
use Rattle.evidence.specs.declared.finding.Kind.TheVariants.{Table, FreeRules, Grid, Fold}
use Rattle.evidence.specs.Finding.{kind_number}
use Rattle.findings.specs.Keys.{Sooner, Level, key_of, no_finding, in_order, Stands, Ordered}

-- a kind's number is one of four
kind_range : (k : Kind) → (16 ≤ kind_number k) × (kind_number k < 20)
kind_range (Table rows columns rulings second) = (omega arith, omega arith)
kind_range (FreeRules horizontal vertical longest second) = (omega arith, omega arith)
kind_range (Grid boxes ticked second) = (omega arith, omega arith)
kind_range (Fold vertical length) = (omega arith, omega arith)

-- three numbers as one, the last two bounded
tells : (y x k y' x' k' : ℕ) → x < 8192 → x' < 8192 → (16 ≤ k) × (k < 20) → (16 ≤ k') × (k' < 20) → (y * 8192 + x) * 4 + (k - 16) < (y' * 8192 + x') * 4 + (k' - 16)
    → (y < y') ⊎ ((y ≡ y') × ((x < x') ⊎ ((x ≡ x') × (k < k'))))
tells y x k y' x' k' a b p q h = rows (dec_lt y y')
  where
    kinds : y ≡ y' → Dec (x < x') → (x < x') ⊎ ((x ≡ x') × (k < k'))
    kinds e (yes l) = inl l
    kinds e (no l) = inr (omega (arith, p.0, p.1, q.0, q.1), omega (arith, p.0, p.1, q.0, q.1))

    rows : Dec (y < y') → (y < y') ⊎ ((y ≡ y') × ((x < x') ⊎ ((x ≡ x') × (k < k'))))
    rows (yes l) = inl l
    rows (no l) = let e : y ≡ y' = omega (arith, p.0, p.1, q.0, q.1) in inr (e, kinds e (dec_lt x x'))

equal : (y x k y' x' k' : ℕ) → x < 8192 → x' < 8192 → (16 ≤ k) × (k < 20) → (16 ≤ k') × (k' < 20) → (y * 8192 + x) * 4 + (k - 16) ≡ (y' * 8192 + x') * 4 + (k' - 16)
    → (y ≡ y') × (x ≡ x') × (k ≡ k')
equal y x k y' x' k' a b p q h = let e = rows (dec_lt y y') (dec_lt y' y) in let f = columns e (dec_lt x x') (dec_lt x' x) in (e, f, omega (arith, e, f, p.0, q.0))
  where
    rows : Dec (y < y') → Dec (y' < y) → y ≡ y'
    rows (yes l) m = absurd (omega (arith, p.1))
    rows (no l) (yes m) = absurd (omega (arith, q.1))
    rows (no l) (no m) = omega arith

    columns : y ≡ y' → Dec (x < x') → Dec (x' < x) → x ≡ x'
    columns e (yes l) m = absurd (omega (arith, p.1))
    columns e (no l) (yes m) = absurd (omega (arith, q.1))
    columns e (no l) (no m) = omega arith

module _ (f g : Finding) (a : f.bbox.x0 < 8192) (b : g.bbox.x0 < 8192) where
  pub key_sooner : key_of f < key_of g → Sooner f g
  key_sooner h = tells f.bbox.y0 f.bbox.x0 (kind_number f.kind) g.bbox.y0 g.bbox.x0 (kind_number g.kind) a b (kind_range f.kind) (kind_range g.kind) h

  pub key_level : key_of f ≡ key_of g → Level f g
  key_level h = equal f.bbox.y0 f.bbox.x0 (kind_number f.kind) g.bbox.y0 g.bbox.x0 (kind_number g.kind) a b (kind_range f.kind) (kind_range g.kind) h

-- what stands at a place does so whatever lies past the end
stands_any : (fs : List Finding) (i : ℕ) (g d : Finding) → Stands fs i g → get_or fs i d ≡ g
stands_any [] i g d (l, e) = absurd (not-suc-le-zero l)
stands_any (f ∷ fs) zero g d (l, e) = e
stands_any (f ∷ fs) (suc i) g d (l, e) = stands_any fs i g d (le_of_suc-le-suc l, e)

any_stands : (fs : List Finding) (i : ℕ) (g d : Finding) → i < length fs → get_or fs i d ≡ g → Stands fs i g
any_stands [] i g d l e = absurd (not-suc-le-zero l)
any_stands (f ∷ fs) zero g d l e = (l, e)
any_stands (f ∷ fs) (suc i) g d l e = (l, (any_stands fs i g d (le_of_suc-le-suc l) e).1)

module _ (made : List Finding) where
  abbrev keys : List ℕ
  keys = map key_of made

  -- the number in the list of finding i
  abbrev pub origin : ℕ → ℕ
  origin i = get_or (sorted_indexes keys) i 0

  keys_long : length keys ≡ length made
  keys_long = length-map made key_of

  order : Sorted (key_at keys) (length keys) (sorted_indexes keys)
  order = sorted_by_lem (key_at keys) (length keys)

  long : length (in_order made) ≡ length made
  unfolding in_order
  long = length-map (sorted_indexes keys) (λ k. get_or made k no_finding) ∙ sorted_length (key_at keys) (length keys) ∙ keys_long

  in_keys : {i : ℕ} → i < length (in_order made) → i < length keys
  in_keys {i} h = subst (λ (n : ℕ). i < n) (long ∙ sym keys_long) h

  entry : (i : ℕ) → i < length (in_order made) → get_or (in_order made) i no_finding ≡ get_or made (origin i) no_finding
  unfolding in_order
  entry i h = get_d_of (λ k. get_or made k no_finding) (sorted_indexes keys) i no_finding 0 (subst (λ (n : ℕ). i < n) (sym (sorted_length (key_at keys) (length keys))) (in_keys h))

  origin_in : (i : ℕ) → i < length (in_order made) → origin i < length made
  origin_in i h = subst (λ (n : ℕ). origin i < n) keys_long (order.within i (in_keys h))

  stood : (i : ℕ) (g : Finding) → Stands (in_order made) i g → Stands made (origin i) g
  stood i g s = any_stands made (origin i) g no_finding (origin_in i s.0) (sym (entry i s.0) ∙ stands_any (in_order made) i g no_finding s)

  key_at_lem : (i : ℕ) (g : Finding) → Stands (in_order made) i g → key_at keys (origin i) ≡ key_of g
  key_at_lem i g s = get_d_of key_of made (origin i) 0 no_finding (origin_in i s.0) ∙ ap key_of (stands_any made (origin i) g no_finding (stood i g s))

  pub ordered : ((m : ℕ) (g : Finding) → Stands made m g → g.bbox.x0 < 8192) → Ordered made (in_order made) origin
  ordered small =
      record {
        as_many = long;
        is = stood;
        each = λ m h.
            let o = order.once m (subst (λ (n : ℕ). m < n) (sym keys_long) h) in
            (o.0, subst (λ (n : ℕ). o.0 < n) (keys_long ∙ sym long) o.1, o.2);
        apart = λ i j x y e. let o = order.once (origin j) (order.within j (in_keys y)) in o.3 i (in_keys x) e ∙ sym (o.3 j (in_keys y) refl);
        sorted = sorted;
      }
    where
      sorted : (i j : ℕ) (f g : Finding) → i < j → Stands (in_order made) i f → Stands (in_order made) j g → Sooner f g ⊎ (Level f g × (origin i < origin j))
      sorted i j f g l s t =
          let a = small (origin i) f (stood i f s) in
          let b = small (origin j) g (stood j g t) in
          ⊎_elim (λ (h : key_at keys (origin i) < key_at keys (origin j)). inl (key_sooner f g a b (rw (key_at_lem i f s) at (rw (key_at_lem j g t) at h))))
          (λ (h : (key_at keys (origin i) ≡ key_at keys (origin j)) × (origin i < origin j)). inr (key_level f g a b (sym (key_at_lem i f s) ∙ h.0 ∙ key_at_lem j g t), h.1))
          (order.ascends i j l (in_keys t.0))
