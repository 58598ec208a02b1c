-- `guard::missed_by_lists` meets its contract: the lengths that it hands on are those of the lists.
use Rattle.std.specs.Prelude.{◌≡◌, ℕ, Bool, true, false, ◌&&◌, length}
use mathlib.Core.Path.{refl}
use Rattle.rects.specs.Rects.{count}
use Rattle.layout.specs.Sides.{raster_fits}
use Rattle.ruling_questions.specs.Lent.{Lent, lists_of, room_for}
use Rattle.ruling_questions.specs.Steps.{answers_fit, work_fits}
use Rattle.ruling_questions.proofs.guard.missed_by_lists.Goals as goal

grouped : (a b c : Bool) → (a && b) && c ≡ a && (b && c)
grouped true b c = refl
grouped false b c = refl

room_is : (w h n raster : ℕ) (l : Lent)
    → answers_fit w h n raster (length l.rects) (length l.directions) (length l.contrasts) (length l.piece_members) (length l.piece_ends)
    && work_fits n (length l.parents) (length l.listed) (length l.listed_ends) (length l.work) (length l.keys)
    ≡ raster_fits w h raster && room_for n l
unfolding raster_fits
room_is w h n raster l = simp grouped

pub returns : goal.returns
returns c =
    let a = c.args in
    rw (← room_is a.w a.h (count a.pieces.now) (length a.raster.now) (lists_of a.lists.now)) c.missed.ensures
