-- Places that are picked from a list of rulings: each has a rectangle inside the picture, a direction and a contrast.
use mathlib.Core.Path.{◌≡◌}
use mathlib.Core.Bool.{Bool}
use mathlib.Core.List.{List}
use Prim.Native.Nat.{ℕ, ◌*◌, ◌≤◌, ◌<◌}
use native.Mathlib.Omega.{arith}
use lib.Ieee.{Float}
use lib.ListN.{length, get_or}
use Rattle.lists.specs.Lists.{below, keep}
use Rattle.lists.proofs.Keep.{length_below, below_in, kept_in, at_in}
use Rattle.lists.proofs.Sizes.{keep_size_le}
use Rattle.rects.specs.Steps.{AllInside}
use Rattle.ruling_lists.proofs.Rectangles.{all_wider}
use Rattle.meeting.specs.Steps as Meeting
use Rattle.findings.specs.Steps.{AllGiven}

module _ {w h n : ℕ} (rects directions : List ℕ) (contrasts : List Float) (q : ℕ → Bool) (rects_long : length rects ≡ 4 * n) (directions_long : length directions ≡ n)
    (contrasts_long : length contrasts ≡ n) (few : n ≤ 4096) (inside : AllInside w h rects) where
  -- The places that pass a test.
  abbrev places : List ℕ
  places = keep q (below (length contrasts))

  -- There are no more of them than rulings.
  places_few : length places ≤ n
  places_few = omega (arith, keep_size_le q (below (length contrasts)), length_below (length contrasts))

  -- Each is below the number of rulings.
  place_low : (k : ℕ) → k < length places → get_or places k 0 < n
  place_low k l =
      let m = below_in (length contrasts) (get_or places k 0) (kept_in q (below (length contrasts)) (get_or places k 0) (at_in places k l)).0 in
      omega arith

  -- So each has what the findings ask of it.
  pub picked_given : AllGiven w h rects directions contrasts places
  picked_given =
      record {
        given =
            record {
              entries = record { few = omega (arith, places_few); number = λ k l. omega (arith, place_low k l) };
              rect = λ k l. omega (arith, place_low k l);
              inside = λ k l. inside (get_or places k 0) (omega (arith, place_low k l));
            };
        value = λ k l. omega (arith, place_low k l);
      }

  -- Each has what the tables ask of it.
  pub picked_chosen : w ≤ 8192 → h ≤ 8192 → Meeting.Given rects directions places
  picked_chosen narrow low =
      record {
        inside = λ k l. all_wider rects narrow low inside (get_or places k 0) (omega (arith, place_low k l));
        rect = λ k l. omega (arith, place_low k l);
        direction = λ k l. omega (arith, place_low k l);
        few = omega (arith, places_few);
      }
