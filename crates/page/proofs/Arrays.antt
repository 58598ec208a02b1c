-- An array of lent lists: the type and the value of a lent list, and that what the elements own is what the array of them owns. No call has such an
-- array any more: lent lists are the fields of structs.
use mathlib.Core.Path.{refl}
use mathlib.Core.List.{[], ◌∷◌, List}
use lib.ListN.{length}
use seplogic.Ra.Ura.{Ura}
use mir.Syntax.{Ty, named, erased, mut, ty_ref}
use mir.Val.{Val}
use base.Logic.{ent}
use base.Fml.{fsep}
use types.Logic.{Logic, sem}
use types.Kit.{‵, ◌$◌, ◌∵◌, !, qed, fjoin, fpack, done}
use denote.RattleType.{RattleType}
use denote.Shadow.{pure_i}
use denote.Ref.{MutBor}
use denote.Array.{Array, array_val, shape, each}
use denote.Slice.{slice_ty, slice_val}
use denote.Signature.{Slot, plain, mut_slice_of}

-- a lent list of elements of the machine type τ, as a parameter and as a local
abbrev pub list : Ty → Ty
list τ = slice_ty (ty_ref (named 0) mut τ)

abbrev pub moved : Ty → Ty
moved τ = slice_ty (ty_ref erased mut τ)

-- its place in a signature, and its machine value
abbrev pub slot : RattleType → Slot 1
slot E = mut_slice_of (0 ∷ []) tt (plain (λ _. E))

abbrev pub val_of : {X : Type 0} → MutBor (List X) → Val
val_of x = slice_val x.ref_ptr (length x.now)

pub array_owned : {M : Type 1} {𝓤 : Ura M} (𝓛 : Logic 𝓤) (R : RattleType) (xs : List R.Denot) (us : List Val)
    → ent 𝓤 (sem 𝓛 (each R.Denot R.own_val xs us)) (sem 𝓛 ((Array R (length xs)).own_val xs (array_val us ∷ [])))
array_owned 𝓛 R xs us =
    qed 𝓛 (‵ (each R.Denot R.own_val xs us) ∷ []) ∵ pure_i ! (shape (length xs) xs (array_val us ∷ []) us) (tt, tt) (refl, refl) $ fjoin ! $
    fpack ! (List Val) (λ ws. fsep (shape (length xs) xs (array_val us ∷ []) ws) (each R.Denot R.own_val xs ws)) us $ done !
