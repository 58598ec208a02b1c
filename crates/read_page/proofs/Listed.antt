-- A listing that is read from lists equal to those it was made in, and the contrasts as they are listed.
use mathlib.Core.Path.{◌≡◌, sym, subst, transport}
use mathlib.Core.List.{List, []}
use Prim.Native.Nat.{ℕ}
use lib.Ieee.{Float, nan}
use lib.ListN.{length, length-map}
use Rattle.lists.specs.Lists.{written}
use Rattle.lists.proofs.Keep.{get_d_of}
use Rattle.lists.proofs.Written.{written_at}
use Rattle.sets.specs.Listing.{ReadAs}
use Rattle.segments.specs.Call.{AllNear}
use Rattle.ruling_lists.specs.Rulings.{ruling_of}
use Rattle.page.specs.Page as Page
use Rattle.page.specs.Page.{Page}
use Rattle.page.specs.Lent.{RuleLists}
use Rattle.page.specs.Steps.{RuleRoom}
use Rattle.rects.specs.Rects.{count}
use Rattle.read_page.proofs.Known.{Known}
use Rattle.read_page.proofs.Ruled.{Ruling}

pub read_still : {ss : List (List ℕ)} {m m' e e' : List ℕ} {n : ℕ} → m' ≡ m → e' ≡ e → n ≡ length ss → ReadAs ss m e n → ReadAs ss m' e' (length ss)
read_still {ss} em ee en R = let x = sym em in let y = sym ee in transport (λ i. ReadAs ss (x i) (y i) (en i)) R

pub reading_still : {ss : List (List ℕ)} {m e : List ℕ} {n k : ℕ} → n ≡ k → ReadAs ss m e n → ReadAs ss m e k
reading_still {ss} {m} {e} en R = subst (ReadAs ss m e) en R

pub near : (g : Page) (K : Known g) (l : RuleLists) (Q : RuleRoom g.sides.w g.sides.h (count g.pieces) l) {r d : List ℕ} {c c' : List Float} {pm pe : List ℕ} {n : ℕ} → Ruling g K l Q r d c pm pe n
    → c' ≡ written (Page.contrasts g) l.contrasts → AllNear (Page.raster g) g.sides.w g.sides.h g.pieces (Page.piece_sets g) c'
near g K l Q R e k h =
    rw (e, written_at (Page.contrasts g) l.contrasts k nan (rw (length-map (Page.piece_sets g) (λ s. (ruling_of (Page.raster g) g.sides.w g.sides.h g.pieces s).contrast)) h), get_d_of (λ s. (ruling_of (Page.raster g) g.sides.w g.sides.h g.pieces s).contrast) (Page.piece_sets g) k nan [] h) (R.near k h)
