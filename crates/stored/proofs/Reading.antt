-- A word read digit by digit: what is read so far and what is left make the word.
use Rattle.std.proofs.Common.{◌≡◌, refl, sym, ap, ◌∙◌, Option, Some, None, List, [], ◌∷◌, ◌++◌, ℕ, suc, ◌+◌, ◌-◌, ◌*◌, ◌%◌, ◌^◌, ◌<◌, fold, map, take, set, length, append_assoc}
use Rattle.std.proofs.lemmas.List.{take_more_set}
use Rattle.std.specs.Prelude.{unwrap_or}
use native.Mathlib.Numerals.{add-one}
use native.Mathlib.Omega.{arith}
use native.Mathlib.Nat.{mod-eq_of_lt}
use Rattle.stored.specs.Texts.{digit_of, digit_behind, digits, word_of, behind, words, rest}

-- the number of a word whose front made n
abbrev pub number_from : ℕ → List ℕ → ℕ
number_from n text = fold digit_behind n (take (digits text) text) % 2 ^ 64

-- only the last 64 bits count
same_low : (xs : List ℕ) (m n : ℕ) → m % 2 ^ 64 ≡ n % 2 ^ 64
    → fold digit_behind m xs % 2 ^ 64 ≡ fold digit_behind n xs % 2 ^ 64
same_low [] m n e = e
same_low (x ∷ xs) m n e = same_low xs (digit_behind m x) (digit_behind n x) (omega (arith, e))

one_more : (n : ℕ) → 1 + n ≡ suc n
one_more n = omega arith

-- a digit more
pub one_digit : (n d b : ℕ) (text : List ℕ) → digit_of b ≡ Some d → number_from (n % 0x1000_0000_0000_0000 * 16 + d) text ≡ number_from n (b ∷ text)
one_digit n d b text e =
    let xs = take (digits text) text in
    rw (e, one_more (digits text))
    (same_low xs (n % 0x1000_0000_0000_0000 * 16 + d) (n * 16 + d) (omega arith)
    ∙ ap (λ (o : Option ℕ). fold digit_behind (n * 16 + unwrap_or o 0) xs % 2 ^ 64) (sym e))

pub past_digit : (d b : ℕ) (text : List ℕ) → digit_of b ≡ Some d → behind text ≡ behind (b ∷ text)
past_digit d b text e = rw (e, one_more (digits text), add-one (suc (digits text)), add-one (digits text)) refl

-- the byte that ends the word
pub ended : (n b : ℕ) (text : List ℕ) → n < 2 ^ 64 → digit_of b ≡ None → n ≡ number_from n (b ∷ text)
ended n b text fits e = rw e (sym (mod-eq_of_lt fits))

pub past_end : (b : ℕ) (text : List ℕ) → digit_of b ≡ None → text ≡ behind (b ∷ text)
past_end b text e = rw e refl

-- a word more, and the entry that is made of it
pub one_word : {T : Type 0} {all : List T} (v : ℕ → T) (n i : ℕ) (out : List T) (x : T) (w : ℕ) (text : List ℕ) → i < n → length out ≡ n → x ≡ v w → w ≡ word_of text
    → take i out ++ map v (words (n - i) text) ≡ all → take (i + 1) (set out i x) ++ map v (words (n - (i + 1)) (behind text)) ≡ all
one_word v n i out x w text l e f g so_far =
    let m : n - i ≡ suc (n - (i + 1)) = omega arith in
    rw (take_more_set out i x (omega arith), f, g) (append_assoc (take i out) (v (word_of text) ∷ []) (map v (words (n - (i + 1)) (behind text)))) ∙ rw m at so_far

pub one_less : {left : List ℕ} (n i : ℕ) (text : List ℕ) → i < n → rest (n - i) text ≡ left → rest (n - (i + 1)) (behind text) ≡ left
one_less n i text l so_far = let m : n - i ≡ suc (n - (i + 1)) = omega arith in rw m at so_far
