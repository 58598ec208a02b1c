-- `listings::gather` meets its contract: what is written, with the rest of the trail from i on, is the whole trail.
use mathlib.Core.Path.{◌≡◌, refl, sym, ap, ◌∙◌}
use mathlib.Core.Logic.{⊎_elim}
use mathlib.Core.List.{List, [], ◌∷◌}
use Prim.Native.Nat.{ℕ, suc, ◌+◌, ◌≤◌, ◌<◌}
use native.Mathlib.Numerals.{add-one}
use native.Mathlib.Omega.{arith}
use lib.ListN.{length, set, length-set}
use lib.Seq.{sets}
use Rattle.sets.specs.Steps.{last, more}
use Rattle.sets.specs.Steps.{entry, Rising, Trail, Fitting, Appended}
use Rattle.listings.proofs.gather.Invariants.{Walking}
use Rattle.listings.proofs.gather.Goals as goal

-- what a trail is, by what its index points at
record Rest (next : List ℕ) (i : ℕ) (t : List ℕ) : Type 0 where
  after : List ℕ
  trail : Trail next (entry next i) after
  is : t ≡ i ∷ after

to_last : {next : List ℕ} {i : ℕ} {t : List ℕ} → Trail next i t → entry next i ≡ 0 → t ≡ i ∷ []
to_last (last e) z = refl
to_last (more h T) z = absurd (h z)

to_more : {next : List ℕ} {i : ℕ} {t : List ℕ} → Trail next i t → (entry next i ≡ 0 → ⊥) → Rest next i t
to_more (last e) h = absurd (h e)
to_more (more {i} {t} g T) h = record { after = t; trail = T; is = refl }

trail_unique : {next : List ℕ} {i : ℕ} {t u : List ℕ} → Trail next i t → Trail next i u → t ≡ u
trail_unique (last e) U = sym (to_last U e)
trail_unique (more {i} h T) U = let r = to_more U h in ap (λ (w : List ℕ). i ∷ w) (trail_unique T r.trail) ∙ sym r.is

start : {next : List ℕ} {n : ℕ} {members : List ℕ} {root at : ℕ} → root < n → Fitting next root members at → Walking next n members root at members root at
start {next} {n} {members} {root} {at} l F =
    record {
      inside = l;
      rest = F.met;
      trail = F.trail;
      fits = F.fits;
      long = refl;
      whole = λ t T. let e = trail_unique F.trail T in (ap (sets members at) e, ap (λ (w : List ℕ). at + length w) e);
    }

module _ {next : List ℕ} {n : ℕ} {members₀ : List ℕ} {root at : ℕ} {members : List ℕ} {i end : ℕ} (W : Walking next n members₀ root at members i end) where
  -- there is room for one more
  room : end < length members
  room = go W.trail W.fits
    where
      go : {t : List ℕ} → Trail next i t → end + length t ≤ length members → end < length members
      go (last e) h = omega arith
      go (more g T) h = omega arith

  turn : Rising n next → (entry next i ≡ 0 → ⊥) → Walking next n members₀ root at (set members end i) (entry next i) (end + 1)
  turn N h =
      let r = to_more W.trail h in
      let e : length W.rest ≡ suc (length r.after) = ap length r.is in
      let f = W.fits in
      record {
        inside = ⊎_elim (λ z. absurd (h z)) (λ w. w.1) (N.rises i W.inside);
        rest = r.after;
        trail = r.trail;
        fits = simp length-set (omega arith);
        long = length-set members end i ∙ W.long;
        whole = λ t T.
            let w = W.whole t T in
            let g = w.1 in (
              ap (λ (k : ℕ). sets (set members end i) k r.after) (add-one end) ∙ sym (ap (sets members end) r.is) ∙ w.0,
              omega arith,
            );
      }

  done : entry next i ≡ 0 → (t : List ℕ) → Trail next root t → Appended members₀ at t (set members end i) (end + 1)
  done z t T =
      let e = to_last W.trail z in
      let f : length W.rest ≡ 1 = ap length e in
      let w = W.whole t T in
      let g = w.1 in
      record { content = sym (ap (sets members end) e) ∙ w.0; end = omega arith }

pub loop-i-init : goal.loop-i-init
loop-i-init c = start c.requires.1 c.requires.2

pub loop-i-preserved : goal.loop-i-preserved
loop-i-preserved c = turn c.loop-i.invariant c.requires.0 c.if-i-eq0.false
