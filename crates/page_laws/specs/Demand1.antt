-- Demand 1 of two calls: the same page, the same content in the lists that are answered in, the same room in the work lists: the same answer.
use Rattle.std.specs.Prelude.{◌≡◌, List, [], ◌∷◌, ℕ, ◌<◌, length, get_or}
use Rattle.page.specs.declared.answer.Answer.{Answer}
use Rattle.page.specs.Page.{Page}
use Rattle.page.specs.Lent.{RuleLists, MarkLists, Lent}
use Rattle.page.specs.Call.{Detect}

-- The lists with the work lists left out.
abbrev pub rules_answered : RuleLists → RuleLists
rules_answered l =
    record {
      levelled = l.levelled;
      rects = l.rects;
      directions = l.directions;
      contrasts = l.contrasts;
      printed = l.printed;
      faint = l.faint;
      piece_members = l.piece_members;
      piece_ends = l.piece_ends;
      bounds = l.bounds;
      rows = l.rows;
      columns = l.columns;
      rulings = l.rulings;
      shares = l.shares;
      free = l.free;
      printed_members = l.printed_members;
      printed_ends = l.printed_ends;
      numbers = l.numbers;
      parents = [];
      listed = [];
      listed_ends = [];
      order = [];
      keys = [];
    }

abbrev pub marks_answered : MarkLists → MarkLists
marks_answered l =
    record {
      boxes = l.boxes;
      marks = l.marks;
      coverages = l.coverages;
      reading = l.reading;
      members = l.members;
      ends = l.ends;
      numbers = l.numbers;
      parents = [];
      order = [];
      keys = [];
    }

-- The lists that are answered in have the same content.
pub record SameAnswers (l m : Lent) : Type 0 where
  pub rules : rules_answered l.rules ≡ rules_answered m.rules
  pub marks : marks_answered l.marks ≡ marks_answered m.marks
  pub rects : l.found.rects ≡ m.found.rects
  pub facts : (k : ℕ) → k < 4 → get_or l.found.facts k [] ≡ get_or m.found.facts k []
  pub scores : (k : ℕ) → k < 8 → get_or l.found.scores k [] ≡ get_or m.found.scores k []

-- How many entries each work list has.
abbrev pub work_room : Lent → List ℕ
work_room l =
    length l.rules.parents
    ∷ length l.rules.listed
    ∷ length l.rules.listed_ends
    ∷ length l.rules.order
    ∷ length l.rules.keys
    ∷ length l.marks.parents
    ∷ length l.marks.order
    ∷ length l.marks.keys
    ∷ []

-- The same number and counts, and the same content in every list that is answered in; where 15 is missed, in the levelled raster.
pub record Same (l m : Lent) (a b : Answer) : Type 0 where
  pub answer : a ≡ b
  pub lists : (a.number ≡ 15 → ⊥) → SameAnswers l m
  pub raster : a.number ≡ 15 → l.rules.levelled ≡ m.rules.levelled

-- Whatever the work lists held, two calls on one page leave the same.
abbrev pub Demand1 : Type 0
Demand1 =
    (g : Page) (l l' m m' : Lent) (a b : Answer)
    → SameAnswers l m → work_room l ≡ work_room m → Detect g l l' a → Detect g m m' b → Same l' m' a b
