-- Numbers behind spaces are told apart in one way.
use Rattle.std.proofs.Common.{◌≡◌, ℕ, zero, suc, ◌<◌, ◌^◌, true, false, ◌==◌, List, [], ◌∷◌, ◌++◌, length, get_or, take, drop, Option, Some, None, refl, sym, ap, subst, ◌∙◌, append_assoc, append-nil, arith, inl, inr}
use Rattle.std.specs.Prelude.{IsTrue, MatchOption}
use Rattle.std.specs.List.{AllByRecursion}
use Rattle.std.proofs.lemmas.Bool.{cases_Bool, eqb-true}
use Rattle.std.proofs.lemmas.List.{take_all}
use Rattle.std.proofs.lemmas.List.Elements.{recursion_from_All}
use Rattle.memchr.specs.Find.{IsFirstByte, is_byte}
use Rattle.ltx_text.specs.Words.{is_visible}
use Rattle.ltx_text.specs.Decimals.{decimal_of}
use Rattle.ltx_text.proofs.DecimalLemmas.{decimal_is_visible, decimal_spelling_injective}
use Rattle.ltx_model.specs.Limits.{IsTx}
use Rattle.ltx_check.specs.Texts.{spaced_number, numbers_text, AreTxs}
use Rattle.ltx_check.specs.Words.{HasNoSpace, EndsWord, EndsAt, NoNumber}

-- ---- the first space

apart_before : (text : List ℕ) (n : ℕ) → ((k : ℕ) → k < n → k < length text → (get_or text k 0 == 32) ≡ true → ⊥) → HasNoSpace (take n text)
apart_before [] zero none = tt
apart_before [] (suc n) none = tt
apart_before (b ∷ text) zero none = tt
apart_before (b ∷ text) (suc n) none =
    let first : (b == 32) ≡ false = elim (cases_Bool (b == 32)) [ inl p ↦ absurd (none 0 (omega arith) (omega arith) p) | inr p ↦ p ] in
    (first, apart_before text n (λ k low within here. none (suc k) (omega (arith, low)) (omega (arith, within)) here))

ends_there : (text : List ℕ) (at : ℕ) → at < length text → get_or text at 0 ≡ 32 → EndsWord (drop at text)
ends_there [] at low is = absurd (omega (arith, low))
ends_there (b ∷ text) zero low is = is
ends_there (b ∷ text) (suc at) low is = ends_there text at (omega (arith, low)) is

pub first_space : (text : List ℕ) (r : Option ℕ) → IsFirstByte (is_byte 32) text r → MatchOption r (HasNoSpace text) (EndsAt text)
first_space text None none =
    subst HasNoSpace (take_all (length text) text (omega arith)) (apart_before text (length text) (λ k low within here. none k (omega arith) within here))
first_space text (Some at) found = record {
  within = found.0.high;
  apart = apart_before text at (λ k low within here. found.0.before k (omega arith) low here);
  ends = ends_there text at found.0.high (eqb-true _ _ found.1);
}

-- ---- words

is_not : (b : ℕ) → (b == 32) ≡ false → b ≡ 32 → ⊥
is_not b other is = let e : (32 == 32) ≡ false = subst (λ k. (k == 32) ≡ false) is other in cc

-- a word ends at its first space
pub one_word : (a b s t : List ℕ) → HasNoSpace a → HasNoSpace b → EndsWord s → EndsWord t → a ++ s ≡ b ++ t → (a ≡ b) × (s ≡ t)
one_word [] [] s t na nb es et is = (refl, is)
one_word [] (y ∷ b) [] t na nb es et is = cc
one_word [] (y ∷ b) (x ∷ s) t na nb es et is =
    let heads : x ≡ y = cc in absurd (is_not y nb.0 (sym heads ∙ es))
one_word (x ∷ a) [] s [] na nb es et is = cc
one_word (x ∷ a) [] s (y ∷ t) na nb es et is =
    let heads : x ≡ y = cc in absurd (is_not x na.0 (heads ∙ et))
one_word (x ∷ a) (y ∷ b) s t na nb es et is =
    let heads : x ≡ y = cc in
    let tails : a ++ s ≡ b ++ t = cc in
    let both = one_word a b s t na.1 nb.1 es et tails in
    ((λ i. heads i ∷ both.0 i), both.1)

no_space : (b : ℕ) → IsTrue (is_visible b) → (b == 32) ≡ false
no_space b visible = grind arith

no_spaces : (word : List ℕ) → AllByRecursion (λ b. IsTrue (is_visible b)) word → HasNoSpace word
no_spaces [] visible = tt
no_spaces (b ∷ word) visible = (no_space b visible.0, no_spaces word visible.1)

pub decimal_apart : (n : ℕ) → n < 2 ^ 64 → HasNoSpace (decimal_of n)
decimal_apart n low = no_spaces (decimal_of n) (recursion_from_All (λ b. IsTrue (is_visible b)) (decimal_of n) (decimal_is_visible n low))

pub numbers_end : (numbers : List ℕ) → EndsWord (numbers_text numbers)
numbers_end [] = tt
numbers_end (n ∷ numbers) = refl

-- the number at the front is one, and so is what follows
pub one_number : (m n : ℕ) (s t : List ℕ) → IsTx m → IsTx n → EndsWord s → EndsWord t → spaced_number m ++ s ≡ spaced_number n ++ t → (decimal_of m ≡ decimal_of n) × (s ≡ t)
one_number m n s t first second es et is =
    let tails : decimal_of m ++ s ≡ decimal_of n ++ t = cc in
    one_word (decimal_of m) (decimal_of n) s t (decimal_apart m (omega (arith, first.1))) (decimal_apart n (omega (arith, second.1))) es et tails

-- a word that is no number's
pub no_number : (text spaced word rest : List ℕ) → text ≡ 32 ∷ spaced → spaced ≡ word ++ rest → HasNoSpace word → EndsWord rest
    → ((n : ℕ) → IsTx n → word ≡ decimal_of n → ⊥) → NoNumber text
no_number text spaced word rest first parts apart ends none n more tx ends' is =
    let tails : spaced ≡ decimal_of n ++ more = cc in
    none n tx (one_word word (decimal_of n) rest more apart (decimal_apart n (omega (arith, tx.1))) ends ends' (sym parts ∙ tails)).0

-- ---- lists of numbers

-- the text is some numbers
pub record AreNumbers (whole : List ℕ) : Type 0 where
  pub numbers : List ℕ
  pub txs : AreTxs numbers
  pub text : numbers_text numbers ≡ whole

text_more : (numbers : List ℕ) (n : ℕ) → numbers_text (numbers ++ n ∷ []) ≡ numbers_text numbers ++ spaced_number n
text_more [] n = append-nil (spaced_number n)
text_more (m ∷ numbers) n = ap (λ l. spaced_number m ++ l) (text_more numbers n) ∙ sym (append_assoc (spaced_number m) (numbers_text numbers) (spaced_number n))

txs_more : (numbers : List ℕ) (n : ℕ) → AreTxs numbers → IsTx n → AreTxs (numbers ++ n ∷ [])
txs_more [] n all one = (one, tt)
txs_more (m ∷ numbers) n all one = (all.0, txs_more numbers n all.1 one)

-- These numbers were read, and this rest was not: where the whole is numbers, the rest is.
pub record Numbering (whole rest : List ℕ) (numbers : List ℕ) : Type 0 where
  pub txs : AreTxs numbers
  pub told : numbers_text numbers ++ rest ≡ whole
  pub all : AreNumbers whole → AreNumbers rest

pub none_read : (whole : List ℕ) → Numbering whole whole []
none_read whole = record { txs = tt; told = refl; all = λ w. w }

rest_more : (rest more : List ℕ) (n : ℕ) (numbers : List ℕ) → IsTx n → EndsWord more → rest ≡ spaced_number n ++ more → AreTxs numbers → numbers_text numbers ≡ rest → AreNumbers more
rest_more rest more n [] tx ends is txs text = let e : [] ≡ spaced_number n ++ more = text ∙ is in cc
rest_more rest more n (m ∷ numbers) tx ends is txs text =
    record { numbers = numbers; txs = txs.1; text = (one_number m n (numbers_text numbers) more txs.0 tx (numbers_end numbers) ends (text ∙ is)).1 }

pub one_read : (whole rest more : List ℕ) (numbers : List ℕ) (n : ℕ) → Numbering whole rest numbers → IsTx n → rest ≡ spaced_number n ++ more → EndsWord more → Numbering whole more (numbers ++ n ∷ [])
one_read whole rest more numbers n read tx is ends = record {
  txs = txs_more numbers n read.txs tx;
  told = ap (λ l. l ++ more) (text_more numbers n) ∙ append_assoc (numbers_text numbers) (spaced_number n) more ∙ ap (λ l. numbers_text numbers ++ l) (sym is) ∙ read.told;
  all = λ w. let r = read.all w in rest_more rest more n r.numbers tx ends is r.txs r.text;
}

pub one_pushed : (whole rest more : List ℕ) (numbers after : List ℕ) (n : ℕ) → after ≡ numbers ++ n ∷ [] → Numbering whole rest numbers → IsTx n → rest ≡ spaced_number n ++ more → EndsWord more → Numbering whole more after
one_pushed whole rest more numbers after n pushed read tx is ends = subst (Numbering whole more) (sym pushed) (one_read whole rest more numbers n read tx is ends)

rest_none : (rest : List ℕ) (numbers : List ℕ) → 0 < length rest → NoNumber rest → AreTxs numbers → numbers_text numbers ≡ rest → ⊥
rest_none rest [] some none txs is = omega (arith, some, ap length is)
rest_none rest (n ∷ numbers) some none txs is = none n (numbers_text numbers) txs.0 (numbers_end numbers) (sym is)

pub no_numbers : (whole rest : List ℕ) (read : List ℕ) → Numbering whole rest read → 0 < length rest → NoNumber rest → (numbers : List ℕ) → AreTxs numbers → numbers_text numbers ≡ whole → ⊥
no_numbers whole rest read kept some none numbers txs is =
    let r = kept.all (record { numbers = numbers; txs = txs; text = is }) in rest_none rest r.numbers some none r.txs r.text

pub all_read : (whole rest : List ℕ) (numbers : List ℕ) → Numbering whole rest numbers → length rest ≡ 0 → AreTxs numbers × (numbers_text numbers ≡ whole)
all_read whole [] numbers kept none = (kept.txs, sym (append-nil (numbers_text numbers)) ∙ kept.told)
all_read whole (b ∷ rest) numbers kept none = absurd (omega (arith, none))

-- numbers have a text of their own
pub numbers_one : (xs ys : List ℕ) → AreTxs xs → AreTxs ys → numbers_text xs ≡ numbers_text ys → xs ≡ ys
numbers_one [] [] txs txs' is = refl
numbers_one [] (y ∷ ys) txs txs' is = cc
numbers_one (x ∷ xs) [] txs txs' is = cc
numbers_one (x ∷ xs) (y ∷ ys) txs txs' is =
    let both = one_number x y (numbers_text xs) (numbers_text ys) txs.0 txs'.0 (numbers_end xs) (numbers_end ys) is in
    let first : x ≡ y = decimal_spelling_injective x y (omega (arith, txs.0.1)) (omega (arith, txs'.0.1)) both.0 in
    let rest : xs ≡ ys = numbers_one xs ys txs.1 txs'.1 both.1 in
    λ i. first i ∷ rest i
