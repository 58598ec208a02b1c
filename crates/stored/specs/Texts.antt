-- The words of a text: hex digits, ended by one byte that is none or by the end of the text.
use Rattle.std.specs.Prelude.{Option, Some, None, cond, ◌&&◌, List, [], ◌∷◌, ℕ, zero, suc, ◌+◌, ◌*◌, ◌-◌, ◌%◌, ◌^◌, nat_le, is_some, unwrap_or, fold, take, drop}
use Rattle.std.specs.List.{prefix_len}

-- The value of a hex digit, with small letters; another byte has none.
unfoldable pub digit_of : ℕ → Option ℕ
digit_of b = cond (nat_le 48 b && nat_le b 57) (Some (b - 48)) (cond (nat_le 97 b && nat_le b 102) (Some (b - 97 + 10)) None)

-- A number with one more digit behind it.
abbrev pub digit_behind : ℕ → ℕ → ℕ
digit_behind n b = n * 16 + unwrap_or (digit_of b) 0

-- How many digits stand at the front of a text.
abbrev pub digits : List ℕ → ℕ
digits text = prefix_len (λ b. is_some (digit_of b)) text

-- The number of the first word: its digits one behind the other, of which the last 16 count.
abbrev pub word_of : List ℕ → ℕ
word_of text = fold digit_behind 0 (take (digits text) text) % 2 ^ 64

-- What is left behind the first word and the byte that ends it.
abbrev pub behind : List ℕ → List ℕ
behind text = drop (digits text + 1) text

-- The first n words of a text; a word is 0 at the end of the text.
abbrev pub words : ℕ → List ℕ → List ℕ
words zero text = []
words (suc n) text = word_of text ∷ words n (behind text)

-- What is left behind the first n words.
abbrev pub rest : ℕ → List ℕ → List ℕ
rest zero text = text
rest (suc n) text = rest n (behind text)
