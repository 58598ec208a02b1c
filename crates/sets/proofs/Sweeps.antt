-- Pairs tried in any order, and not all of them: what is joined hangs together by the rule, and what the rule holds of is joined in the end.
use mathlib.Core.Path.{◌≡◌, refl, sym, ap, ◌∙◌}
use mathlib.Core.Bool.{Bool, true}
use mathlib.Core.Logic.{◌⊎◌, inl, inr, ⊎_elim}
use mathlib.Core.List.{List}
use Prim.Native.Nat.{ℕ, ◌+◌, ◌≤◌, ◌<◌}
use native.Mathlib.Decide.{dec_lt, ℕ_discrete}
use native.Mathlib.Omega.{arith}
use lib.ListN.{get_or}
use Rattle.lists.specs.Lists.{below, written}
use Rattle.sets.specs.Closed.{Touching, Chain}
use Rattle.sets.specs.Steps.{Joins, Room, Parents, root, Joined, Between, Swept, known, tried}
use Rattle.sets.proofs.Chains.{chain_step, chain_map}
use Rattle.sets.proofs.Joins.{joins_none, joins_more}
use Rattle.sets.proofs.Roots.{root_le, root_root, root_parent}

-- a rule of no pairs
abbrev pub None : ℕ → ℕ → Type 0
None i j = ⊥

-- two are joined
abbrev pub Same : List ℕ → ℕ → ℕ → Type 0
Same p i j = root p i ≡ root p j

-- equal parent entries have equal roots
pub same_root : {n : ℕ} {p : List ℕ} {i j : ℕ} → Parents n p → i < n → j < n → get_or p i 0 ≡ get_or p j 0 → root p i ≡ root p j
same_root {p = p} {i} {j} P li lj e = sym (root_parent P i li) ∙ ap (root p) e ∙ root_parent P j lj

pub between_begin : {n : ℕ} {p : List ℕ} (D : ℕ → Type 0) (R : ℕ → ℕ → Type 0) → Room n p → ((i : ℕ) → D i → i < n) → Between n D None R (written (below n) p)
between_begin D R room inside =
    let J = joins_none room D inside None (λ i j di dj r. r) in
    record {
      parents = J.parents;
      inside = inside;
      stays = J.roots.stays;
      sound = λ i j di dj e. chain_map (λ k d. d) (λ a b da db r. absurd r) (J.roots.sound i j di dj e);
      done = λ i j di dj r. absurd r;
    }

module _ {n : ℕ} {D : ℕ → Type 0} {S R : ℕ → ℕ → Type 0} {p : List ℕ} (B : Between n D S R p) where
  -- other pairs that are joined already
  pub between_known : {S' : ℕ → ℕ → Type 0} → ((i j : ℕ) → D i → D j → S' i j → S i j ⊎ Same p i j) → Between n D S' R p
  between_known only =
      record {
        parents = B.parents;
        inside = B.inside;
        stays = B.stays;
        sound = B.sound;
        done = λ i j di dj s. ⊎_elim (λ h. B.done i j di dj h) (λ h. h) (only i j di dj s);
      }

  -- the rule is joined once its pairs are done, either way round
  pub between_all : ((i j : ℕ) → D i → D j → R i j → (i ≡ j) ⊎ (S i j ⊎ S j i)) → Joins n D R p
  between_all whole =
      record {
        parents = B.parents;
        inside = B.inside;
        roots =
            record {
              stays = B.stays;
              low = λ i d. root_le B.parents i (B.inside i d);
              fixed = λ i d. root_root B.parents i (B.inside i d);
              sound = B.sound;
              complete = λ i j di dj r. ⊎_elim (ap (root p)) (⊎_elim (B.done i j di dj) (λ s. sym (B.done j i dj di s))) (whole i j di dj r);
            };
      }

  -- what is joined, as a rule of its own
  same_joins : Joins n D (Same p) p
  same_joins =
      record {
        parents = B.parents;
        inside = B.inside;
        roots =
            record {
              stays = B.stays;
              low = λ i d. root_le B.parents i (B.inside i d);
              fixed = λ i d. root_root B.parents i (B.inside i d);
              sound = λ i j di dj e. chain_step di dj (inl e);
              complete = λ i j di dj e. e;
            };
      }

  -- one more pair, joined if it touches: what else is done now was joined before
  pub between_more : {S' : ℕ → ℕ → Type 0} {q : List ℕ} {a b : ℕ} → D a → D b → (touch : Bool) → Joined n p a b touch q → (touch ≡ true → Touching R a b)
      → ((i j : ℕ) → D i → D j → S' i j → (S i j ⊎ Same p i j) ⊎ ((i ≡ a) × (j ≡ b) × (touch ≡ true))) → Between n D S' R q
  between_more {S'} {q} {a} {b} da db touch Q rule only =
      record {
        parents = Q.parents;
        inside = B.inside;
        stays = J.roots.stays;
        sound = λ i j di dj e. chain_map (λ k d. d) each (J.roots.sound i j di dj e);
        done = λ i j di dj s. J.roots.complete i j di dj (⊎_elim (λ h. inl (⊎_elim (B.done i j di dj) (λ e. e) h)) inr (only i j di dj s));
      }
    where
      Now : ℕ → ℕ → Type 0
      Now i j = Same p i j ⊎ ((i ≡ a) × (j ≡ b) × (touch ≡ true))

      J : Joins n D Now q
      J = joins_more same_joins (λ i j di dj e. inl e) da db touch Q (λ i j di dj r. r) (λ e. inl (inr (refl, refl, e)))

      each : (i j : ℕ) → D i → D j → Now i j → Chain D R i j
      each i j di dj (inl e) = B.sound i j di dj e
      each i j di dj (inr h) = chain_step di dj (rw (h.0, h.1) (rule h.2))

-- ---- pairs tried in an order: row k, and in it place l

module _ {n : ℕ} {D : ℕ → Type 0} {S T R : ℕ → ℕ → Type 0} {order p : List ℕ} where
  pub sweep_begin : Between n D S R p → Between n D (Swept S T order 0 1) R p
  sweep_begin B = between_known B (λ i j di dj s. first i j s)
    where
      first : (i j : ℕ) → Swept S T order 0 1 i j → S i j ⊎ Same p i j
      first i j (known s) = inl s
      first i j (tried {a = a} {b = b} t ea eb o (inl h)) = absurd (omega arith)
      first i j (tried {a = a} {b = b} t ea eb o (inr h)) = absurd (let x = h.0 in let y = h.1 in omega arith)

  -- a pair is tried: it is joined if it touches and was not joined
  pub sweep_pair : {q : List ℕ} {k l : ℕ} → Between n D (Swept S T order k l) R p → D (get_or order k 0) → D (get_or order l 0) → (touch : Bool)
      → Joined n p (get_or order k 0) (get_or order l 0) touch q → (touch ≡ true → Touching R (get_or order k 0) (get_or order l 0))
      → (Touching T (get_or order k 0) (get_or order l 0) → (touch ≡ true) ⊎ Same p (get_or order k 0) (get_or order l 0)) → Between n D (Swept S T order k (l + 1)) R q
  sweep_pair {q} {k} {l} B dk dl touch Q rule whole = between_more B dk dl touch Q rule (λ i j di dj s. split i j s)
    where
      Split : ℕ → ℕ → Type 0
      Split i j = (Swept S T order k l i j ⊎ Same p i j) ⊎ ((i ≡ get_or order k 0) × (j ≡ get_or order l 0) × (touch ≡ true))

      here_now : (i j : ℕ) → Touching T i j → get_or order k 0 ≡ i → get_or order l 0 ≡ j → Split i j
      here_now i j t ei ej =
          ⊎_elim (λ (e : touch ≡ true). inr (sym ei, sym ej, e)) (λ (e : Same p (get_or order k 0) (get_or order l 0)). inl (inr (rw (ei, ej) at e)))
          (whole (rw (sym ei, sym ej) at t))

      split : (i j : ℕ) → Swept S T order k (l + 1) i j → Split i j
      split i j (known s) = inl (inl (known s))
      split i j (tried t ea eb o (inl h)) = inl (inl (tried t ea eb o (inl h)))
      split i j (tried {a = a} {b = b} t ea eb o (inr h)) =
          elim (ℕ_discrete b l) [
            | yes e ↦ here_now i j t (rw h.0 at ea) (rw e at eb)
            | no e ↦ inl (inl (tried t ea eb o (inr (h.0, let w = h.1 in omega arith))))
          ]

-- each index of the domain stands in an order
abbrev pub Stands : ℕ → (ℕ → Type 0) → List ℕ → Type 0
Stands n D order = (i : ℕ) → D i → (a : ℕ) × (a < n) × (get_or order a 0 ≡ i)

-- all rows are done: what S and T hold of is joined
pub sweep_end : {n : ℕ} {D : ℕ → Type 0} {S T R : ℕ → ℕ → Type 0} {order p : List ℕ} {k l : ℕ} → Between n D (Swept S T order k l) R p → n ≤ k → Stands n D order
    → Between n D (λ i j. S i j ⊎ T i j) R p
sweep_end {n} {D} {S} {T} {order = order} {p} {k} {l} B h stands = between_known B (λ i j di dj s. inr (⊎_elim (λ (w : S i j). B.done i j di dj (known w)) (pair i j di dj) s))
  where
    pair : (i j : ℕ) → D i → D j → T i j → Same p i j
    pair i j di dj t =
        let x = stands i di in
        let y = stands j dj in
        let a = x.0 in
        let b = y.0 in
        let la : a < n = x.1 in
        let lb : b < n = y.1 in
        elim (dec_lt a b) [
          | yes o ↦ B.done i j di dj (tried (inl t) x.2 y.2 o (inl (omega arith)))
          | no o ↦
              elim (dec_lt b a) [
                | yes f ↦ sym (B.done j i dj di (tried (inr t) y.2 x.2 f (inl (omega arith))))
                | no f ↦ ap (root p) (sym x.2 ∙ ap (λ (z : ℕ). get_or order z 0) (same a b o f) ∙ y.2)
              ]
        ]
      where
        same : (a b : ℕ) → (a < b → ⊥) → (b < a → ⊥) → a ≡ b
        same a b o f = omega arith

-- the rest of a row does not touch: the next begins. Each index stands among the first n places, so what is past those says nothing
pub sweep_row_in : {n : ℕ} {D : ℕ → Type 0} {S T R : ℕ → ℕ → Type 0} {order p : List ℕ} {k l : ℕ} → Between n D (Swept S T order k l) R p → Stands n D order
    → ((b : ℕ) → k < b → l ≤ b → b < n → Touching T (get_or order k 0) (get_or order b 0) → ⊥) → Between n D (Swept S T order (k + 1) (k + 2)) R p
sweep_row_in {n} {D} {S} {T} {order = order} {p} {k} {l} B stands rest = between_known B (λ i j di dj s. back i j di dj s)
  where
    Split : ℕ → ℕ → Type 0
    Split i j = Swept S T order k l i j ⊎ Same p i j

    turned : {i j : ℕ} → Touching T i j → Touching T j i
    turned (inl t) = inr t
    turned (inr t) = inl t

    -- the second stands before the first, is the first, or stands behind it
    in_row : (i j : ℕ) → D i → D j → Touching T i j → get_or order k 0 ≡ i → (b : ℕ) → b < n → get_or order b 0 ≡ j → Split i j
    in_row i j di dj t ei b lb ej =
        elim (dec_lt k b) [
          | yes o ↦
              elim (dec_lt b l) [
                | yes h ↦ inl (tried t ei ej o (inr (refl, h)))
                | no h ↦ absurd (rest b o (omega arith) lb (rw (sym ei, sym ej) at t))
              ]
          | no o ↦
              elim (dec_lt b k) [
                | yes h ↦ inr (sym (B.done j i dj di (tried (turned t) ej ei h (inl h))))
                | no h ↦ inr (ap (root p) (sym ei ∙ ap (λ (x : ℕ). get_or order x 0) (same o h) ∙ ej))
              ]
        ]
      where
        same : (k < b → ⊥) → (b < k → ⊥) → k ≡ b
        same o h = omega arith

    back : (i j : ℕ) → D i → D j → Swept S T order (k + 1) (k + 2) i j → Split i j
    back i j di dj (known s) = inl (known s)
    back i j di dj (tried {a = a} {b = b} t ea eb o (inl h)) =
        let y = stands j dj in
        elim (ℕ_discrete a k) [
          | yes e ↦ in_row i j di dj t (rw e at ea) y.0 y.1 y.2
          | no e ↦ inl (tried t ea eb o (inl (omega arith)))
        ]
    back i j di dj (tried {a = a} {b = b} t ea eb o (inr h)) = absurd (let x = h.0 in let y = h.1 in omega arith)
