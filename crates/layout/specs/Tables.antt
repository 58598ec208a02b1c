-- The shear tables: document 01, question 4 and what question 3 asks of them.
use Rattle.std.specs.Prelude.{ℕ, ◌-◌, Bool, ◌&&◌, List, leb, eqb, ℤ, pos, nat_abs, length, get_or}
use Rattle.std.specs.Int.Signed.{non_neg}
use Rattle.layout.specs.declared.sides.Sides.{Sides}
use Rattle.layout.specs.Sides.{sides_fit}
use Rattle.lists.specs.Lists.{every_below}

-- The entry of a shear table at an index; one that passes question 4 is not below 0.
abbrev pub entry : List ℤ → ℕ → ℕ
entry table i = nat_abs (get_or table i (pos 0))

-- An entry is from 0 to limit.
abbrev pub entry_fits : ℕ → List ℤ → ℕ → Bool
entry_fits limit table i = non_neg (get_or table i (pos 0)) && leb (entry table i) limit

-- Every entry is from 0 to limit.
unfoldable pub entries_fit : ℕ → List ℤ → Bool
entries_fit limit table = every_below (length table) (entry_fits limit table)

-- Question 3 of the tables: `shear` one entry per page column, `shear_x` one per levelled row.
abbrev pub shears_long : Sides → List ℤ → List ℤ → Bool
shears_long sides shear shear_x = eqb (length shear) sides.pw && eqb (length shear_x) sides.h

-- Question 4: every `shear` entry from 0 to height − page height, every `shear_x` entry from 0 to width − page width.
abbrev pub shears_fit : Sides → List ℤ → List ℤ → Bool
shears_fit sides shear shear_x = entries_fit (sides.h - sides.ph) shear && entries_fit (sides.w - sides.pw) shear_x

-- Sides and tables that pass questions 1, 3 and 4.
abbrev pub tables_pass : Sides → List ℤ → List ℤ → Bool
tables_pass sides shear shear_x = sides_fit sides && shears_long sides shear shear_x && shears_fit sides shear shear_x
