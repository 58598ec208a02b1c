-- What a test of all floats of a list says of each.
use mathlib.Core.Path.{◌≡◌, refl, sym}
use mathlib.Core.Bool.{Bool, true, false, ◌&&◌, true≢false}
use mathlib.Core.List.{List, [], ◌∷◌}
use lib.Ieee.{Float}
use Rattle.params.specs.Settings.{all_of}

pub both_true : (a b : Bool) → a && b ≡ true → (a ≡ true) × (b ≡ true)
both_true true b h = (refl, h)
both_true false b h = absurd (true≢false (sym h))

-- what all_of float of a list has, read off by place
abbrev pub Each : (Float → Type 0) → List Float → Type 0
Each Has [] = Unit
Each Has (x ∷ xs) = Has x × Each Has xs

pub each : {test : Float → Bool} {Has : Float → Type 0} → ((x : Float) → test x ≡ true → Has x) → (xs : List Float) → all_of test xs ≡ true → Each Has xs
each give [] h = tt
each {test} give (x ∷ xs) h = (give x (both_true (test x) (all_of test xs) h).0, each give xs (both_true (test x) (all_of test xs) h).1)
