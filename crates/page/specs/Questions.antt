-- The questions that `detect` puts to a page, in document 01's order.
use Rattle.std.specs.Prelude.{Bool, ◌&&◌, List, [], ◌∷◌, ◌++◌, length}
use Rattle.questions.specs.Questions.{Question}
use Rattle.rects.specs.Rects.{count, count_fits, all_inside}
use Rattle.layout.specs.Sides.{sides_fit, raster_fits}
use Rattle.layout.specs.Tables.{shears_long, shears_fit}
use Rattle.params.specs.declared.settings.RulingsParams.{RulingsParams}
use Rattle.params.specs.declared.settings.FusionParams.{FusionParams}
use Rattle.params.specs.Scan.{scan_questions}
use Rattle.params.specs.Settings.{validate_questions, fusion_questions, free_rules_questions}
use Rattle.findings.specs.Made.{every_finite}
use Rattle.page.specs.Page.{Page, made}
use Rattle.page.specs.Lent.{Lent, has_room}

-- Question 3 of the rasters: grey page width × page height bytes, ink levelled width × height bytes.
abbrev pub rasters_long : Page → Bool
rasters_long g = raster_fits g.sides.pw g.sides.ph (length g.gray) && raster_fits g.sides.w g.sides.h (length g.ink)

-- Questions 1 and 2, of sides and scan.
abbrev pub given_of_scan : Page → List Question
given_of_scan g = (1, sides_fit g.sides) ∷ scan_questions g.dpi g.xheight

-- Questions 3 to 6, of the lists.
abbrev pub given_of_lists : Page → List Question
given_of_lists g =
    (3, rasters_long g && shears_long g.sides g.shear g.shear_x)
    ∷ (4, shears_fit g.sides g.shear g.shear_x)
    ∷ (5, count_fits 4096 g.pieces && count_fits 16384 g.glyphs)
    ∷ (6, all_inside g.sides.w g.sides.h g.pieces && all_inside g.sides.w g.sides.h g.glyphs)
    ∷ []

-- Questions 7 to 13, of the settings.
abbrev pub given_of_settings : RulingsParams → FusionParams → List Question
given_of_settings p f = validate_questions p ++ fusion_questions f ++ free_rules_questions p

-- Questions 1 to 13, about the page alone.
abbrev pub given_questions : Page → List Question
given_questions g = given_of_scan g ++ given_of_lists g ++ given_of_settings g.settings g.caps

-- Question 14: every lent list has its room.
abbrev pub roomy : Page → Lent → Bool
roomy g l = has_room g.sides.w g.sides.h (count g.pieces) (count g.glyphs) l

-- Questions 1 to 14, before anything is written.
abbrev pub first_questions : Page → Lent → List Question
first_questions g l = given_questions g ++ (14, roomy g l) ∷ []

-- All questions; 15 asks whether every evidence number is finite.
abbrev pub all_questions : Page → Lent → List Question
all_questions g l = first_questions g l ++ (15, every_finite (made g)) ∷ []
