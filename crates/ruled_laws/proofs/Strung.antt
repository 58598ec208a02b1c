-- Lists that are strung together.
use mathlib.Core.Path.{refl}
use mathlib.Core.Logic.{⊎_elim}
use mathlib.Core.List.Memᴰ
use mathlib.Core.List.{List, [], ◌∷◌, map}
use Prim.Native.Nat.{ℕ}
use Rattle.lists.specs.Lists.{In, concat}

-- What holds of every member of some lists holds of every entry of the lists strung together.
pub strung_all : (P : ℕ → Type 0) (f : ℕ → List ℕ) (ks : List ℕ) → ((k : ℕ) → In ks k → (i : ℕ) → In (f k) i → P i) → (i : ℕ) → In (concat (map f ks)) i → P i
strung_all P f [] each i m = elim m [ ]
strung_all P f (k ∷ ks) each i m =
    ⊎_elim (λ (l : In (f k) i). each k (Memᴰ.head refl) i l)
    (λ (l : In (concat (map f ks)) i). strung_all P f ks (λ j n. each j (Memᴰ.tail n)) i l) (Memᴰ.append_cases (f k) m)
