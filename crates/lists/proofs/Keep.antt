-- Laws of the numbers below n, and of the entries that pass a test.
use mathlib.Core.Path.{◌≡◌, refl, sym, ap, ap₂, ◌∙◌}
use mathlib.Core.Bool.{Bool, true, false, cond, ◌||◌, false≢true}
use mathlib.Core.Logic.{◌⊎◌, inl, inr, ⊎_elim}
use mathlib.Core.List.Memᴰ
use mathlib.Core.List.{List, [], ◌∷◌, ◌++◌, map, append_assoc}
use Prim.Native.Nat.{ℕ, zero, suc, ◌+◌, ◌<◌, zero-le, suc-le-suc}
use native.Mathlib.Nat.{not-suc-le-zero, le_of_suc-le-suc, eq-or-lt_of_le, le_step, lt-suc_self}
use native.Mathlib.Numerals.{add-one}
use native.Mathlib.Omega.{arith}
use lib.ListN.{length, get_or, length-append, length-map, get_or-append}
use lib.Seq.{get_or_at, ext_get_or}
use Rattle.lists.specs.Lists.{below, keep, any, concat, In}

pub length_below : (n : ℕ) → length (below n) ≡ n
length_below zero = refl
length_below (suc n) = length-append (below n) (n ∷ []) ∙ ap (λ (k : ℕ). k + 1) (length_below n) ∙ omega arith

pub get_d_below : (n i : ℕ) → i < n → get_or (below n) i 0 ≡ i
get_d_below zero i h = absurd (not-suc-le-zero h)
get_d_below (suc n) i h =
    ⊎_elim (λ (e : i ≡ n). get_or_at (below n) n [] 0 i (length_below n ∙ sym e) ∙ sym e)
    (λ (l : i < n). get_or-append (below n) (n ∷ []) 0 i (rw (length_below n) l) ∙ get_d_below n i l) (eq-or-lt_of_le (le_of_suc-le-suc h))

pub in_below : (n i : ℕ) → i < n → In (below n) i
in_below zero i h = absurd (not-suc-le-zero h)
in_below (suc n) i h =
    ⊎_elim (λ (e : i ≡ n). Memᴰ.append_right (below n) (Memᴰ.head e)) (λ (l : i < n). Memᴰ.append_left (n ∷ []) (in_below n i l))
    (eq-or-lt_of_le (le_of_suc-le-suc h))

pub below_in : (n i : ℕ) → In (below n) i → i < n
below_in zero i m = elim m [ ]
below_in (suc n) i m =
    ⊎_elim (λ (l : In (below n) i). le_step (below_in n i l)) (λ (l : In (n ∷ []) i). let e : i ≡ n = Memᴰ.eq_of_singleton l in omega arith)
    (Memᴰ.append_cases (below n) m)

module _ {A : Type 0} where
  pub map_append : {B : Type 0} (f : A → B) (xs ys : List A) → map f (xs ++ ys) ≡ map f xs ++ map f ys
  map_append f [] ys = refl
  map_append f (x ∷ xs) ys = ap (λ t. f x ∷ t) (map_append f xs ys)

  pub keep_append : (q : A → Bool) (xs ys : List A) → keep q (xs ++ ys) ≡ keep q xs ++ keep q ys
  keep_append q [] ys = refl
  keep_append q (x ∷ xs) ys = go (keep_append q xs ys) (q x)
    where
      go : keep q (xs ++ ys) ≡ keep q xs ++ keep q ys → (b : Bool)
          → cond b (x ∷ keep q (xs ++ ys)) (keep q (xs ++ ys)) ≡ cond b (x ∷ keep q xs) (keep q xs) ++ keep q ys
      go e true = ap (λ t. x ∷ t) e
      go e false = e

  pub concat_append : (ss tt : List (List A)) → concat (ss ++ tt) ≡ concat ss ++ concat tt
  concat_append [] tt = refl
  concat_append (s ∷ ss) tt = ap (λ t. s ++ t) (concat_append ss tt) ∙ sym (append_assoc s (concat ss) (concat tt))

keep_cases : (q : ℕ → Bool) (x : ℕ) (xs : List ℕ) (b : Bool) → q x ≡ b → (i : ℕ) → In (cond b (x ∷ keep q xs) (keep q xs)) i
    → ((i ≡ x) × (q x ≡ true)) ⊎ In (keep q xs) i
keep_cases q x xs true e i m = ⊎_elim (λ h. inl (h, e)) inr (Memᴰ.cases_cons m)
keep_cases q x xs false e i m = inr m

-- the entries that are kept are those that pass
pub kept_in : (q : ℕ → Bool) (s : List ℕ) (i : ℕ) → In (keep q s) i → In s i × (q i ≡ true)
kept_in q [] i m = elim m [ ]
kept_in q (x ∷ xs) i m =
    ⊎_elim (λ (h : (i ≡ x) × (q x ≡ true)). (Memᴰ.head h.0, ap q h.0 ∙ h.1))
    (λ (h : In (keep q xs) i). let r = kept_in q xs i h in (Memᴰ.tail r.0, r.1)) (keep_cases q x xs (q x) refl i m)

kept_of : (q : ℕ → Bool) (i : ℕ) (s : List ℕ) → In s i → q i ≡ true → In (keep q s) i
kept_of q i s (Memᴰ.head {x} {xs} e) t =
    let f : q x ≡ true = ap q (sym e) ∙ t in rw f (Memᴰ.head e)
kept_of q i s (Memᴰ.tail {x} {xs} m) t = go (kept_of q i xs m t) (q x)
  where
    go : In (keep q xs) i → (b : Bool) → In (cond b (x ∷ keep q xs) (keep q xs)) i
    go h true = Memᴰ.tail h
    go h false = h

pub in_kept : (q : ℕ → Bool) (s : List ℕ) (i : ℕ) → In s i → q i ≡ true → In (keep q s) i
in_kept q s i m t = kept_of q i s m t

-- what two tests agree on below n
pub keep_below_same : (q r : ℕ → Bool) (n : ℕ) → ((i : ℕ) → i < n → q i ≡ r i) → keep q (below n) ≡ keep r (below n)
keep_below_same q r zero h = refl
keep_below_same q r (suc n) h =
    keep_append q (below n) (n ∷ [])
    ∙ ap₂ ◌++◌ (keep_below_same q r n (λ i l. h i (le_step l))) (ap (λ (b : Bool). cond b (n ∷ []) []) (h n (lt-suc_self n)))
    ∙ sym (keep_append r (below n) (n ∷ []))

pub any_true : (q : ℕ → Bool) (s : List ℕ) → any q s ≡ true → (i : ℕ) × In s i × (q i ≡ true)
any_true q [] e = absurd (false≢true e)
any_true q (x ∷ xs) e = go (any_true q xs) (q x) refl e
  where
    go : (any q xs ≡ true → (i : ℕ) × In xs i × (q i ≡ true)) → (b : Bool) → q x ≡ b → b || any q xs ≡ true → (i : ℕ) × In (x ∷ xs) i × (q i ≡ true)
    go rest true f e = (x, Memᴰ.head refl, f)
    go rest false f e = let r = rest e in (r.0, Memᴰ.tail r.1, r.2)

any_of : (q : ℕ → Bool) (i : ℕ) (s : List ℕ) → In s i → q i ≡ true → any q s ≡ true
any_of q i s (Memᴰ.head {x} {xs} e) t = rw (ap q (sym e) ∙ t)
any_of q i s (Memᴰ.tail {x} {xs} m) t = go (any_of q i xs m t) (q x)
  where
    go : any q xs ≡ true → (b : Bool) → b || any q xs ≡ true
    go h true = refl
    go h false = h

pub true_any : (q : ℕ → Bool) (s : List ℕ) (i : ℕ) → In s i → q i ≡ true → any q s ≡ true
true_any q s i m t = any_of q i s m t

-- an entry stands at a place, and a place below the length has an entry
place_in : (i : ℕ) (s : List ℕ) → In s i → (k : ℕ) × (k < length s) × (get_or s k 0 ≡ i)
place_in i s (Memᴰ.head {x} {xs} e) = (0, suc-le-suc zero-le, sym e)
place_in i s (Memᴰ.tail {x} {xs} m) = let r = place_in i xs m in (suc r.0, suc-le-suc r.1, r.2)

pub in_at : (s : List ℕ) (i : ℕ) → In s i → (k : ℕ) × (k < length s) × (get_or s k 0 ≡ i)
in_at s i m = place_in i s m

pub at_in : (s : List ℕ) (k : ℕ) → k < length s → In s (get_or s k 0)
at_in [] k h = absurd (not-suc-le-zero h)
at_in (x ∷ xs) zero h = Memᴰ.head refl
at_in (x ∷ xs) (suc k) h = Memᴰ.tail (at_in xs k (le_of_suc-le-suc h))

pub get_d_of : {A B : Type 0} (f : A → B) (s : List A) (k : ℕ) (d : B) (e : A) → k < length s → get_or (map f s) k d ≡ f (get_or s k e)
get_d_of f [] k d e h = absurd (not-suc-le-zero h)
get_d_of f (x ∷ xs) zero d e h = refl
get_d_of f (x ∷ xs) (suc k) d e h = get_d_of f xs k d e (le_of_suc-le-suc h)

pub get_d_map : {A : Type 0} (f : ℕ → A) (s : List ℕ) (k : ℕ) (d : A) → k < length s → get_or (map f s) k d ≡ f (get_or s k 0)
get_d_map f s k d h = get_d_of f s k d 0 h

pub map_same : {A : Type 0} (f g : ℕ → A) (s : List ℕ) → ((i : ℕ) → In s i → f i ≡ g i) → map f s ≡ map g s
map_same f g [] h = refl
map_same f g (x ∷ xs) h = ap₂ ◌∷◌ (h x (Memᴰ.head refl)) (map_same f g xs (λ i m. h i (Memᴰ.tail m)))

pub map_map : {A B : Type 0} (f : A → B) (g : ℕ → A) (xs : List ℕ) → map f (map g xs) ≡ map (λ k. f (g k)) xs
map_map f g [] = refl
map_map f g (x ∷ xs) = ap (λ t. f (g x) ∷ t) (map_map f g xs)

-- the values of f at the numbers below n
module _ {A : Type 0} (f : ℕ → A) where
  pub length_values : (n : ℕ) → length (map f (below n)) ≡ n
  length_values n = length-map (below n) f ∙ length_below n

  pub get_d_values : (n i : ℕ) (d : A) → i < n → get_or (map f (below n)) i d ≡ f i
  get_d_values n i d l = get_d_map f (below n) i d (rw (length_below n) l) ∙ ap f (get_d_below n i l)

  pub values_more : (n : ℕ) → map f (below (n + 1)) ≡ map f (below n) ++ (f n ∷ [])
  values_more n = rw (add-one n) (map_append f (below n) (n ∷ []))

-- a list is what stands at each of its places
pub by_place : {A : Type 0} (xs : List A) (d : A) → map (λ k. get_or xs k d) (below (length xs)) ≡ xs
by_place xs d =
    ext_get_or d (map (λ k. get_or xs k d) (below (length xs))) xs (length_values (λ k. get_or xs k d) (length xs))
    (λ i h. get_d_values (λ k. get_or xs k d) (length xs) i d (rw (length_values (λ k. get_or xs k d) (length xs)) at h))

-- what stands at each entry of a list
pub at_entries : {A : Type 0} (f : ℕ → A) (xs : List ℕ) → map (λ k. f (get_or xs k 0)) (below (length xs)) ≡ map f xs
at_entries f xs = sym (map_map f (λ k. get_or xs k 0) (below (length xs))) ∙ ap (map f) (by_place xs 0)
