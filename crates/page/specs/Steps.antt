-- What question 14 shows of the lent lists, as plain facts, and that a struct of them is what it was; none of it is needed to read the call's contract.
use Rattle.std.specs.Prelude.{◌≡◌, ℕ, ◌+◌, ◌*◌, ◌≤◌, length}
use Rattle.finding_lists.specs.Steps.{Roomy}
use Rattle.page.specs.declared.lent.LentRules.{LentRules}
use Rattle.page.specs.declared.lent.LentMarks.{LentMarks}
use Rattle.page.specs.Lent.{RuleLists, MarkLists, Lent}

-- The lists have room for n rulings and as many tables.
pub record RuleRoom (w h n : ℕ) (l : RuleLists) : Type 0 where
  pub levelled : length l.levelled ≡ w * h
  pub rects : 4 * n ≤ length l.rects
  pub directions : n ≤ length l.directions
  pub contrasts : n ≤ length l.contrasts
  pub printed : n ≤ length l.printed
  pub faint : n ≤ length l.faint
  pub piece_members : n ≤ length l.piece_members
  pub piece_ends : n ≤ length l.piece_ends
  pub bounds : 4 * n ≤ length l.bounds
  pub rows : n ≤ length l.rows
  pub columns : n ≤ length l.columns
  pub rulings : n ≤ length l.rulings
  pub shares : n ≤ length l.shares
  pub free : n ≤ length l.free
  pub printed_members : n ≤ length l.printed_members
  pub printed_ends : n ≤ length l.printed_ends
  pub numbers : n ≤ length l.numbers
  pub parents : n ≤ length l.parents
  pub listed : n ≤ length l.listed
  pub listed_ends : n ≤ length l.listed_ends
  pub order : n ≤ length l.order
  pub keys : n ≤ length l.keys

-- The lists have room for m boxes.
pub record MarkRoom (m : ℕ) (l : MarkLists) : Type 0 where
  pub boxes : 4 * m ≤ length l.boxes
  pub marks : m ≤ length l.marks
  pub coverages : m ≤ length l.coverages
  pub reading : m ≤ length l.reading
  pub members : m ≤ length l.members
  pub ends : m ≤ length l.ends
  pub numbers : m ≤ length l.numbers
  pub parents : m ≤ length l.parents
  pub order : m ≤ length l.order
  pub keys : m ≤ length l.keys

-- All lists have their room.
pub record Room (w h n m : ℕ) (l : Lent) : Type 0 where
  pub rules : RuleRoom w h n l.rules
  pub marks : MarkRoom m l.marks
  pub found : Roomy (n + m) l.found

-- Each field is the list that it was.
pub record SameRules (l l' : LentRules) : Type 0 where
  pub levelled : l'.levelled.ghost_name ≡ l.levelled.ghost_name
  pub rects : l'.rects.ghost_name ≡ l.rects.ghost_name
  pub directions : l'.directions.ghost_name ≡ l.directions.ghost_name
  pub contrasts : l'.contrasts.ghost_name ≡ l.contrasts.ghost_name
  pub printed : l'.printed.ghost_name ≡ l.printed.ghost_name
  pub faint : l'.faint.ghost_name ≡ l.faint.ghost_name
  pub piece_members : l'.piece_members.ghost_name ≡ l.piece_members.ghost_name
  pub piece_ends : l'.piece_ends.ghost_name ≡ l.piece_ends.ghost_name
  pub bounds : l'.bounds.ghost_name ≡ l.bounds.ghost_name
  pub rows : l'.rows.ghost_name ≡ l.rows.ghost_name
  pub columns : l'.columns.ghost_name ≡ l.columns.ghost_name
  pub rulings : l'.rulings.ghost_name ≡ l.rulings.ghost_name
  pub shares : l'.shares.ghost_name ≡ l.shares.ghost_name
  pub free : l'.free.ghost_name ≡ l.free.ghost_name
  pub printed_members : l'.printed_members.ghost_name ≡ l.printed_members.ghost_name
  pub printed_ends : l'.printed_ends.ghost_name ≡ l.printed_ends.ghost_name
  pub numbers : l'.numbers.ghost_name ≡ l.numbers.ghost_name
  pub parents : l'.parents.ghost_name ≡ l.parents.ghost_name
  pub listed : l'.listed.ghost_name ≡ l.listed.ghost_name
  pub listed_ends : l'.listed_ends.ghost_name ≡ l.listed_ends.ghost_name
  pub order : l'.order.ghost_name ≡ l.order.ghost_name
  pub keys : l'.keys.ghost_name ≡ l.keys.ghost_name

pub record SameMarks (l l' : LentMarks) : Type 0 where
  pub boxes : l'.boxes.ghost_name ≡ l.boxes.ghost_name
  pub marks : l'.marks.ghost_name ≡ l.marks.ghost_name
  pub coverages : l'.coverages.ghost_name ≡ l.coverages.ghost_name
  pub reading : l'.reading.ghost_name ≡ l.reading.ghost_name
  pub members : l'.members.ghost_name ≡ l.members.ghost_name
  pub ends : l'.ends.ghost_name ≡ l.ends.ghost_name
  pub numbers : l'.numbers.ghost_name ≡ l.numbers.ghost_name
  pub parents : l'.parents.ghost_name ≡ l.parents.ghost_name
  pub order : l'.order.ghost_name ≡ l.order.ghost_name
  pub keys : l'.keys.ghost_name ≡ l.keys.ghost_name
