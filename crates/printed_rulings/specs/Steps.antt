-- What `split` asks and leaves; none of it is needed to read the contracts of the calls.
use Rattle.std.specs.Prelude.{◌≡◌, List, ℕ, ◌≤◌, Float, length}
use Rattle.lists.specs.Lists.{written}
use Rattle.params.specs.declared.settings.RulingsParams.{RulingsParams}
use Rattle.printed_rulings.specs.Printed.{printed_places, faint_places}

-- What `split` leaves: both lists of places from the front, and their counts.
pub record SplitByContrast (p : RulingsParams) (contrasts : List Float) (ps fs ps' fs' : List ℕ) (a b : ℕ) : Type 0 where
  pub printed_count : a ≡ length (printed_places p contrasts)
  pub faint_count : b ≡ length (faint_places p contrasts)
  pub printed_list : ps' ≡ written (printed_places p contrasts) ps
  pub faint_list : fs' ≡ written (faint_places p contrasts) fs

-- There are at most 4,096 rulings, and two lists have room for a place of each.
pub record RoomForPlaces (contrasts : List Float) (ps fs : List ℕ) : Type 0 where
  pub few : length contrasts ≤ 4096
  pub printed : length contrasts ≤ length ps
  pub faint : length contrasts ≤ length fs
