-- Demand 3: the closed sets are listed, those that are tables and those that are not are listed in turn, each once.
use Rattle.std.specs.Prelude.{ℕ, not, List, length, get_or}
use lib.ListN.{length-map}
use Rattle.sets.proofs.Grown.{closed_sets_listed}
use Rattle.sets.proofs.Where.{listed_where}
use Rattle.rects.proofs.Around.{around_smallest}
use Rattle.shapes.specs.declared.limits.Limits.{Limits}
use Rattle.meeting.specs.Segments.{ruling_at}
use Rattle.meeting.specs.Meeting.{touch}
use Rattle.shapes.specs.Shapes.{is_table}
use Rattle.table_lists.specs.Answers.{table_numbers, free_numbers, places_of}
use Rattle.tables.specs.Call.{Demand3, set_at}

module _ (rects directions chosen : List ℕ) (lim : Limits) where
  pub demand3 : Demand3 rects directions chosen lim
  unfolding table_numbers free_numbers
  demand3 =
      let L = closed_sets_listed (length chosen) (touch lim.join (ruling_at rects directions chosen)) in
      record {
        listed = L;
        each_table = listed_where L (is_table lim (ruling_at rects directions chosen));
        each_free = listed_where L (λ s. not (is_table lim (ruling_at rects directions chosen) s));
        smallest = λ k h.
            around_smallest rects (places_of chosen (set_at rects directions chosen lim k))
            (rw (length-map (set_at rects directions chosen lim k) (λ i. get_or chosen i 0)) (L.closed k h).nonempty);
      }
