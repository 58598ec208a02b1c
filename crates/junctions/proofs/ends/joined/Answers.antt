-- `ends::joined` meets its contract: who stands before the first key or past the last can't join the end, and the others are asked.
use mathlib.Core.Path.{◌≡◌, sym, ◌∙◌}
use mathlib.Core.List.{List}
use Prim.Native.Nat.{ℕ, ◌<◌}
use native.Mathlib.Omega.{arith}
use lib.ListN.{get_or}
use Rattle.sorted.specs.Steps.{FirstAtLeast}
use Rattle.meeting.specs.Segments.{ruling}
use Rattle.meeting.proofs.Rulings.{member_within}
use Rattle.junctions.proofs.Searching.{search_begin, search_stop, search_end, search_found}
use Rattle.junctions.proofs.ends.joined.Goals as goal

-- the bound as it was worked out
from_first : {n b b' r : ℕ} {keys order : List ℕ} → b ≡ b' → FirstAtLeast n keys order b r → FirstAtLeast n keys order b' r
from_first e F = rw (sym e) F

past_last : {b b' k : ℕ} → b ≡ b' → b < k → b' < k
past_last e h = omega arith

pub loop-k-init : goal.loop-k-init
loop-k-init c =
    search_begin c.args.join (ruling c.args.rulings.now) c.args.set.now c.args.a c.args.end c.requires.1 (from_first c.first_key.ensures c.first_at_least-first.ensures)

pub returns-then-last-keys : goal.returns-then-last-keys
returns-then-last-keys c =
    search_stop c.args.join (ruling c.args.rulings.now) c.args.set.now c.args.a c.args.end c.requires.1 c.loop-k.invariant c.loop-k-test.true (past_last c.last_key-last.ensures c.if-last-keys.true)

pub joined_by-requires : goal.joined_by-requires
joined_by-requires c =
    member_within c.args.set.now c.requires.0 (get_or c.args.order.now c.loop-k.k 0) (c.requires.1.ordered.known c.loop-k.k c.loop-k-test.true)

pub returns-then-joined_by : goal.returns-then-joined_by
returns-then-joined_by c =
    search_found c.args.join (ruling c.args.rulings.now) c.args.set.now c.args.a c.args.end c.requires.1 c.loop-k-test.true (sym c.joined_by.ensures ∙ c.if-joined_by.true)

pub returns : goal.returns
returns c =
    search_end c.args.join (ruling c.args.rulings.now) c.args.set.now c.args.a c.args.end c.requires.1 c.loop-k.invariant c.loop-k-test.false
