-- Blocks of one width stored at places of a list. Where the places are the ranks of the blocks in an order, the list then holds the blocks in that
-- order from its front: each place holds what was stored there last, and no two blocks have one place.
use mathlib.Core.Path.{◌≡◌, refl, sym, ap, subst, ◌∙◌}
use mathlib.Core.Logic.{◌⊎◌, inl, inr}
use mathlib.Core.List.{List, [], ◌∷◌, ◌++◌, map}
use Prim.Native.Nat.{ℕ, zero, suc, ◌+◌, ◌-◌, ◌*◌, ◌≤◌, ◌<◌}
use native.Mathlib.Nat.{not-suc-le-zero, mul-le-mul_left, mul-suc}
use native.Mathlib.Omega.{arith}
use lib.ListN.{length, get_or, set, length-set, length-map, length-append, get_or-append}
use lib.Seq.{sets, length-sets, get_or-set_same, get_or-set_other, get_or-append-add, ext_get_or}
use Rattle.std.proofs.lemmas.Bool.{cases_lt}
use Rattle.lists.specs.Lists.{concat, written}
use Rattle.lists.proofs.Stores.{sets_at, sets_other}
use Rattle.lists.proofs.Written.{written_length, written_at, written_past}
use Rattle.lists.proofs.Keep.{get_d_of}
use Rattle.finding_lists.specs.Steps.{placed}

pub placed_append : {A : Type 0} (w : ℕ) (bs cs : List (List A)) (ps qs : List ℕ) (l : List A) → length bs ≡ length ps
    → placed w (bs ++ cs) (ps ++ qs) l ≡ placed w cs qs (placed w bs ps l)
placed_append w [] cs [] qs l e = refl
placed_append w [] cs (p ∷ ps) qs l e = absurd (never e)
  where
    never : {n : ℕ} → 0 ≡ suc n → ⊥
    never e = omega arith
placed_append w (b ∷ bs) cs [] qs l e = absurd (never e)
  where
    never : {n : ℕ} → suc n ≡ 0 → ⊥
    never e = omega arith
placed_append w (b ∷ bs) cs (p ∷ ps) qs l e = placed_append w bs cs ps qs (sets l (w * p) b) (less e)
  where
    less : {m n : ℕ} → suc m ≡ suc n → m ≡ n
    less e = omega arith

pub placed_long : {A : Type 0} (w : ℕ) (bs : List (List A)) (ps : List ℕ) (l : List A) → length (placed w bs ps l) ≡ length l
placed_long w [] ps l = refl
placed_long w (b ∷ bs) [] l = refl
placed_long w (b ∷ bs) (p ∷ ps) l = placed_long w bs ps (sets l (w * p) b) ∙ length-sets l (w * p) b

-- a block behind another ends past it
block_past : (w p q : ℕ) → p < q → w * p + w ≤ w * q
block_past w p q h = let m : w * suc p ≤ w * q = mul-le-mul_left w h in let e = mul-suc w p in omega arith

blocks_apart : (w p q r : ℕ) → r < w → (p ≡ q → ⊥) → (w * p + r < w * q) ⊎ (w * q + w ≤ w * p + r)
blocks_apart w p q r h n = go (cases_lt p q)
  where
    below : q ≤ p → q < p
    below l = omega (arith, n)

    go : (p < q) ⊎ (q ≤ p) → (w * p + r < w * q) ⊎ (w * q + w ≤ w * p + r)
    go (inl l) = let b = block_past w p q l in inl (omega arith)
    go (inr l) = let b = block_past w q p (below l) in inr (omega arith)

-- a place among n blocks: in which block it is, and where
place_in : (w n i : ℕ) → i < w * n → (j r : ℕ) × (i ≡ w * j + r) × (r < w) × (j < n)
place_in w zero i h = absurd (not-suc-le-zero (none h))
  where
    none : i < w * 0 → i < 0
    none l = omega arith
place_in w (suc n) i h = go (λ l. place_in w n i l) (cases_lt i (w * n))
  where
    go : (i < w * n → (j r : ℕ) × (i ≡ w * j + r) × (r < w) × (j < n)) → (i < w * n) ⊎ (w * n ≤ i) → (j r : ℕ) × (i ≡ w * j + r) × (r < w) × (j < suc n)
    go before (inl l) = let s = before l in (s.0, s.1, s.2, s.3, omega (arith, s.4))
    go before (inr l) = let e = mul-suc w n in (n, i - w * n, omega arith, omega arith, omega arith)

module _ {A : Type 0} (d : A) where
  -- every block has w entries
  abbrev pub Wide : ℕ → List (List A) → Type 0
  Wide w bs = (k : ℕ) → k < length bs → length (get_or bs k []) ≡ w

  placed_other : (w : ℕ) (bs : List (List A)) (ps : List ℕ) (l : List A) (i : ℕ) → Wide w bs
      → ((k : ℕ) → k < length ps → (i < w * get_or ps k 0) ⊎ (w * get_or ps k 0 + w ≤ i)) → get_or (placed w bs ps l) i d ≡ get_or l i d
  placed_other w [] ps l i W o = refl
  placed_other w (b ∷ bs) [] l i W o = refl
  placed_other w (b ∷ bs) (p ∷ ps) l i W o =
      placed_other w bs ps (sets l (w * p) b) i (λ k h. W (suc k) (omega arith)) (λ k h. o (suc k) (omega arith))
      ∙ sets_other d b l (w * p) i (subst (λ (n : ℕ). (i < w * p) ⊎ (w * p + n ≤ i)) (sym (W 0 (omega arith))) (o 0 (omega arith)))

  placed_at : (w : ℕ) (bs : List (List A)) (ps : List ℕ) (l : List A) (k r : ℕ) → Wide w bs → length bs ≡ length ps
      → ((i j : ℕ) → i < length ps → j < length ps → get_or ps i 0 ≡ get_or ps j 0 → i ≡ j) → ((j : ℕ) → j < length ps → w * get_or ps j 0 + w ≤ length l)
      → k < length ps → r < w → get_or (placed w bs ps l) (w * get_or ps k 0 + r) d ≡ get_or (get_or bs k []) r d
  placed_at w [] [] l k r W e D L h q = absurd (not-suc-le-zero h)
  placed_at w [] (p ∷ ps) l k r W e D L h q = absurd (never e)
    where
      never : {n : ℕ} → 0 ≡ suc n → ⊥
      never e = omega arith
  placed_at w (b ∷ bs) [] l k r W e D L h q = absurd (not-suc-le-zero h)
  placed_at w (b ∷ bs) (p ∷ ps) l zero r W e D L h q =
      placed_other w bs ps (sets l (w * p) b) (w * p + r) (λ k h. W (suc k) (omega arith))
      (λ k h. blocks_apart w p (get_or ps k 0) r q (λ s. never (D 0 (suc k) (omega arith) (omega arith) s)))
      ∙ sets_at d b l (w * p) r (let s : length b ≡ w = W 0 (omega arith) in omega arith) (let s : length b ≡ w = W 0 (omega arith) in let t : w * p + w ≤ length l = L 0 (omega arith) in omega arith)
    where
      never : {n : ℕ} → 0 ≡ suc n → ⊥
      never e = omega arith
  placed_at w (b ∷ bs) (p ∷ ps) l (suc k) r W e D L h q =
      placed_at w bs ps (sets l (w * p) b) k r (λ k h. W (suc k) (omega arith)) (less e) (λ i j x y s. less (D (suc i) (suc j) (omega arith) (omega arith) s))
      (λ j x. let t : w * get_or ps j 0 + w ≤ length l = L (suc j) (omega arith) in let s = length-sets l (w * p) b in omega arith) (omega arith) q
    where
      less : {m n : ℕ} → suc m ≡ suc n → m ≡ n
      less e = omega arith

  pub concat_long : (w : ℕ) (cs : List (List A)) → Wide w cs → length (concat cs) ≡ w * length cs
  concat_long w [] W = omega arith
  concat_long w (c ∷ cs) W =
      let a = length-append c (concat cs) in
      let b : length c ≡ w = W 0 (omega arith) in
      let e = concat_long w cs (λ k h. W (suc k) (omega arith)) in
      let m = mul-suc w (length cs) in
      omega arith

  pub concat_at : (w : ℕ) (cs : List (List A)) (j r : ℕ) → Wide w cs → j < length cs → r < w → get_or (concat cs) (w * j + r) d ≡ get_or (get_or cs j []) r d
  concat_at w [] j r W h q = absurd (not-suc-le-zero h)
  concat_at w (c ∷ cs) zero r W h q =
      let e : w * 0 + r ≡ r = omega arith in
      rw e (get_or-append c (concat cs) d r (let s : length c ≡ w = W 0 (omega arith) in omega arith))
  concat_at w (c ∷ cs) (suc j) r W h q =
      let e : w * suc j + r ≡ length c + (w * j + r) = let m = mul-suc w j in let s : length c ≡ w = W 0 (omega arith) in omega arith in
      rw e (get_or-append-add c (concat cs) (w * j + r) d ∙ concat_at w cs j r (λ k h. W (suc k) (omega arith)) (omega arith) q)

-- The order holds each block's number at its rank: the ranks ps and the order are inverse to each other.
pub record Inverse (ps order : List ℕ) : Type 0 where
  pub long : length order ≡ length ps
  pub rank : (k : ℕ) → k < length ps → get_or ps k 0 < length ps
  pub holds : (k : ℕ) → k < length ps → get_or order (get_or ps k 0) 0 ≡ k
  pub within : (j : ℕ) → j < length ps → get_or order j 0 < length ps
  pub back : (j : ℕ) → j < length ps → get_or ps (get_or order j 0) 0 ≡ j

pub placed_in_order : {A : Type 0} (d : A) (w : ℕ) (bs : List (List A)) (ps order : List ℕ) (l : List A) → Wide d w bs → length bs ≡ length ps → Inverse ps order
    → w * length ps ≤ length l → placed w bs ps l ≡ written (concat (map (λ k. get_or bs k []) order)) l
placed_in_order {A} d w bs ps order l W e I room =
    ext_get_or d (placed w bs ps l) (written blocks l) (placed_long w bs ps l ∙ sym (written_length blocks l (omega (arith, long)))) (λ i h. at i (cases_lt i (w * length ps)))
  where
    cs : List (List A)
    cs = map (λ k. get_or bs k []) order

    blocks : List A
    blocks = concat cs

    block : (j : ℕ) → j < length order → get_or cs j [] ≡ get_or bs (get_or order j 0) []
    block j h = get_d_of (λ k. get_or bs k []) order j [] 0 h

    wide : Wide d w cs
    wide j h =
        let n = length-map order (λ k. get_or bs k []) in
        let x : j < length order = omega (arith, n) in
        let y : get_or order j 0 < length ps = I.within j (omega (arith, I.long)) in
        ap length (block j x) ∙ W (get_or order j 0) (omega arith)

    long : length blocks ≡ w * length ps
    long = concat_long d w cs wide ∙ ap (λ (n : ℕ). w * n) (length-map order (λ k. get_or bs k []) ∙ I.long)

    fits : (k : ℕ) → k < length ps → w * get_or ps k 0 + w ≤ length l
    fits k h = let b = block_past w (get_or ps k 0) (length ps) (I.rank k h) in omega arith

    apart : (i j : ℕ) → i < length ps → j < length ps → get_or ps i 0 ≡ get_or ps j 0 → i ≡ j
    apart i j x y s = sym (I.holds i x) ∙ ap (λ (p : ℕ). get_or order p 0) s ∙ I.holds j y

    stands : (j r : ℕ) → j < length ps → r < w → get_or (placed w bs ps l) (w * j + r) d ≡ get_or (written blocks l) (w * j + r) d
    stands j r h q =
        let k = get_or order j 0 in
        let x : j < length order = omega (arith, I.long) in
        let n = length-map order (λ k. get_or bs k []) in
        let past = block_past w j (length ps) h in
        ap (λ (p : ℕ). get_or (placed w bs ps l) (w * p + r) d) (sym (I.back j h)) ∙ placed_at d w bs ps l k r W e apart fits (I.within j h) q
        ∙ ap (λ (b : List A). get_or b r d) (sym (block j x)) ∙ sym (concat_at d w cs j r wide (omega arith) q)
        ∙ sym (written_at blocks l (w * j + r) d (omega (arith, long)))

    at : (i : ℕ) → (i < w * length ps) ⊎ (w * length ps ≤ i) → get_or (placed w bs ps l) i d ≡ get_or (written blocks l) i d
    at i (inl h) =
        let s = place_in w (length ps) i h in
        subst (λ (i : ℕ). get_or (placed w bs ps l) i d ≡ get_or (written blocks l) i d) (sym s.2) (stands s.0 s.1 s.4 s.3)
    at i (inr h) =
        placed_other d w bs ps l i W (λ k x. let b = block_past w (get_or ps k 0) (length ps) (I.rank k x) in inr (omega arith))
        ∙ sym (written_past blocks l i d (omega (arith, long)))
