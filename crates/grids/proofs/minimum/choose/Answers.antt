-- `minimum::choose` meets its contract: after k turns the first k sets are gone through.
use Rattle.std.specs.Prelude.{◌≡◌, ℕ, ◌≤◌, List}
use native.Mathlib.Omega.{arith}
use Rattle.listings.specs.Listed.{set_of}
use Rattle.grids.specs.Steps.{Chose}
use Rattle.grids.proofs.Choosing.{grids_few, chose_none, chose_one, chose_past}
use Rattle.grids.proofs.minimum.choose.Goals.{then-least-set, else-least-set}
use Rattle.grids.proofs.minimum.choose.Goals as goal

-- there are no more grids than sets
low : (least : ℕ) (f : ℕ → List ℕ) {nu nu' : List ℕ} {g k : ℕ} → Chose least f k nu nu' g → g ≤ k
low least f {k = k} C = omega (arith, C.grids, grids_few least f k)

-- where the two ways meet, the list and the count are what the way left
moved : {least : ℕ} {f : ℕ → List ℕ} {nu nu' nu'' : List ℕ} {g g' k : ℕ} → Chose least f k nu nu' g → nu'' ≡ nu' → g' ≡ g → Chose least f k nu nu'' g'
moved C x y = rw (x, y) C

pub loop-k-init : goal.loop-k-init
loop-k-init c = chose_none c.args.least (set_of c.args.sets.now) c.args.numbers.now

pub bounds-numbers-grids : goal.bounds-numbers-grids
bounds-numbers-grids c =
    omega (arith, low c.args.least (set_of c.args.sets.now) c.loop-k.invariant, c.requires.1)

pub loop-k-preserved : goal.loop-k-preserved
loop-k-preserved c =
    let least = c.args.least in
    let f = set_of c.args.sets.now in
    elim c.if-least-set.branch [
      | then-least-set w ↦
          moved (chose_one least f c.loop-k.invariant c.at-set.ensures w.if-least-set.true (omega (arith, low least f c.loop-k.invariant, c.requires.1))) w.numbers-is w.grids-is
      | else-least-set w ↦ moved (chose_past least f c.loop-k.invariant c.at-set.ensures w.if-least-set.false) w.numbers-is w.grids-is
    ]
