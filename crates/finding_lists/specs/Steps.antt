-- Rows stored at places of the lists, one after the other; none of it is needed to read what the lists hold in the end.
use Rattle.std.specs.Prelude.{◌≡◌, Bool, List, [], ◌∷◌, map, ℕ, ◌+◌, ◌*◌, ◌≤◌, ◌<◌, ◌^◌, length, get_or, take, drop}
use Rattle.std.proofs.lemmas.List.Edits.{sets}
use Rattle.lists.specs.Lists.{below, every_below}
use Rattle.evidence.specs.declared.finding.Row.{Row}
use Rattle.evidence.specs.declared.finding.Finding.{Finding}
use Rattle.evidence.specs.Finding.{row_of, finite_finding}
use Rattle.finding_lists.specs.declared.lent.LentFindings.{LentFindings}
use Rattle.finding_lists.specs.Columns.{Columns, rect_of, fact, score}

-- Blocks of w entries each, stored at places of a list one after the other.
abbrev pub placed : {A : Type 0} → ℕ → List (List A) → List ℕ → List A → List A
placed w [] ps l = l
placed w (b ∷ bs) [] l = l
placed w (b ∷ bs) (p ∷ ps) l = placed w bs ps (sets l (w * p) b)

-- One value each.
abbrev pub single : {A : Type 0} → A → List A
single x = x ∷ []

-- Rows were stored at places of the lists.
pub record Stored (rows : List Row) (ps : List ℕ) (l l' : Columns) : Type 0 where
  pub rects : l'.rects ≡ placed 4 (map rect_of rows) ps l.rects
  pub facts : (k : ℕ) → k < 4 → get_or l'.facts k [] ≡ placed 1 (map (λ r. single (fact k r)) rows) ps (get_or l.facts k [])
  pub scores : (k : ℕ) → k < 8 → get_or l'.scores k [] ≡ placed 1 (map (λ r. single (score k r)) rows) ps (get_or l.scores k [])

-- Each field is the list that it was.
pub record SameFindings (l l' : LentFindings) : Type 0 where
  pub rects : l'.rects.ghost_name ≡ l.rects.ghost_name
  pub kinds : l'.kinds.ghost_name ≡ l.kinds.ghost_name
  pub a : l'.a.ghost_name ≡ l.a.ghost_name
  pub b : l'.b.ghost_name ≡ l.b.ghost_name
  pub c : l'.c.ghost_name ≡ l.c.ghost_name
  pub log_odds : l'.log_odds.ghost_name ≡ l.log_odds.ghost_name
  pub first_values : l'.first_values.ghost_name ≡ l.first_values.ghost_name
  pub first_thresholds : l'.first_thresholds.ghost_name ≡ l.first_thresholds.ghost_name
  pub first_llrs : l'.first_llrs.ghost_name ≡ l.first_llrs.ghost_name
  pub second_values : l'.second_values.ghost_name ≡ l.second_values.ghost_name
  pub second_thresholds : l'.second_thresholds.ghost_name ≡ l.second_thresholds.ghost_name
  pub second_llrs : l'.second_llrs.ghost_name ≡ l.second_llrs.ghost_name
  pub lengths : l'.lengths.ghost_name ≡ l.lengths.ghost_name

-- Each of m lists has room for n entries.
pub record EachLong {A : Type 0} (m n : ℕ) (b : List (List A)) : Type 0 where
  pub long : (k : ℕ) → k < m → n ≤ length (get_or b k [])

-- The lists have room for n findings.
pub record Roomy (n : ℕ) (l : Columns) : Type 0 where
  pub few : n < 2 ^ 32
  pub rects : 4 * n ≤ length l.rects
  pub facts : EachLong 4 n l.facts
  pub scores : EachLong 8 n l.scores

-- A finding was stored at a place, and whether it is finite.
pub record WroteOne (f : Finding) (place : ℕ) (l l' : Columns) (one : Bool) : Type 0 where
  pub stored : Stored (row_of f ∷ []) (place ∷ []) l l'
  pub finite : one ≡ finite_finding f

-- n findings were stored at their ranks, which stand from place `at` on; `all` tells whether each is finite.
pub record Wrote (f : ℕ → Finding) (n : ℕ) (ranks : List ℕ) (at : ℕ) (l l' : Columns) (all : Bool) : Type 0 where
  pub stored : Stored (map (λ k. row_of (f k)) (below n)) (take n (drop at ranks)) l l'
  pub finite : all ≡ every_below n (λ k. finite_finding (f k))

-- The ranks of n findings stand from place `at` on, and the lists have room for each.
pub record RanksGiven (ranks : List ℕ) (at n : ℕ) (l : Columns) : Type 0 where
  pub long : at + n ≤ length ranks
  pub room : (k : ℕ) → k < n → Roomy (get_or ranks (at + k) 0 + 1) l
