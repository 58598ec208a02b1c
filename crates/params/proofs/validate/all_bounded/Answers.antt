-- `params::validate::all_bounded` meets its contract: the library's test of each element is the definition's.
use Rattle.std.proofs.Common.{◌≡◌, rules, tests, Bool, List, [], ◌∷◌, ◌&&◌, Float, refl, ap, ◌∙◌}
use Rattle.std.specs.List.{list_all}
use Rattle.std.proofs.lemmas.Iterator.{YieldsList-from_slice}
use Rattle.std.proofs.lemmas.Iterator.Search.{all_from_yields_List}
use Rattle.params.specs.Settings.{all_of, bounded}
use Rattle.params.proofs.validate.all_bounded.Goals as goal

each : (test : Float → Bool) (xs : List Float) → list_all test xs ≡ all_of test xs
each test [] = refl
each test (x ∷ xs) = ap (λ (b : Bool). test x && b) (each test xs)

pub returns : goal.returns
returns c =
    let values = c.args.values.now in
    all_from_yields_List bounded _ _ _ c.all.ensures.ran (YieldsList-from_slice values cc) (λ x b q k. search (rules, tests)) ∙ each bounded values
