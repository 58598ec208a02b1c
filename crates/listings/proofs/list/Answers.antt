-- `listings::list` meets its contract: flattened parents have the same classes, and threads list them.
use mathlib.Core.Path.{◌≡◌, ap, ◌∙◌}
use mathlib.Core.List.{List, map}
use Prim.Native.Nat.{ℕ, ◌≤◌}
use lib.ListN.{length, replicate, length-replicate, get_or-replicate}
use Rattle.lists.specs.Lists.{below, written, concat}
use Rattle.lists.proofs.Written.{written_length, written_at}
use Rattle.sets.specs.Listing.{ends_from}
use Rattle.sets.specs.Steps.{classes, Listing, Parents, root, entry, Unthreaded, Gathered}
use Rattle.sets.proofs.Classes.{classes_same}
use Rattle.sets.proofs.Labels.{label, flattened}
use Rattle.listings.proofs.list.Goals as goal

cleared : {n : ℕ} (w : List ℕ) {v : List ℕ} → n ≤ length w → v ≡ written (replicate n 0) w → Unthreaded n v
cleared {n} w {v} h e =
    record {
      room = rw e (rw (written_length (replicate n 0) w (rw (length-replicate {A = ℕ} n 0) h)) h);
      clear = λ i l. rw e (written_at (replicate n 0) w i 0 (rw (length-replicate {A = ℕ} n 0) l) ∙ get_or-replicate n i 0 0 l);
    }

listing : {n : ℕ} {p q m e m' e' : List ℕ} {r : ℕ} → Parents n p → q ≡ written (map (root p) (below n)) p → Gathered n q m e m' e' r → Listing n p m e q m' e' r
listing {n} {p} {q} {m} {e} P f G =
    let same : classes n (entry q) ≡ classes n (root p) = classes_same n (entry q) (root p) (label P f) in
    record {
      count = G.count ∙ ap length same;
      members = G.members ∙ ap (λ ss. written (concat ss) m) same;
      ends = G.ends ∙ ap (λ ss. written (ends_from 0 ss) e) same;
      labels = f;
    }

pub thread-requires : goal.thread-requires
thread-requires c =
    (flattened c.requires.0 c.flatten.ensures, cleared c.args.work.now c.requires.3 c.fill.ensures)

pub gather_all-requires : goal.gather_all-requires
gather_all-requires c =
    (flattened c.requires.0 c.flatten.ensures, c.thread.ensures, c.requires.1, c.requires.2)

pub returns : goal.returns
returns c =
    listing c.requires.0 c.flatten.ensures c.gather_all.ensures
