-- No spelling of a byte begins another, so a text is the spellings of one byte string at most.
use Rattle.std.proofs.Common.{◌≡◌, ◌≢◌, ℕ, ◌+◌, ◌-◌, Bool, ◌&&◌, get_or, ◌/◌, ◌%◌, ◌<◌, ◌≤◌, true, false, List, [], ◌∷◌, ◌++◌, length, take, drop, refl, sym, ap, ap₂, subst, ◌∙◌, append_assoc, arith, inl, inr}
use Rattle.std.specs.Prelude.{IsTrue}
use Rattle.std.specs.List.{AllByRecursion, AllPass, list_all}
use Rattle.std.proofs.lemmas.List.Sums.{AllPass-from_list_all}
use Rattle.std.proofs.lemmas.List.Elements.{All-drop, All-from_recursion, All-head, recursion_from_All}
use Rattle.std.proofs.lemmas.List.Folds.{list_all-append}
use Rattle.std.proofs.lemmas.List.{drop_all, drop_at, drop_more, length-append, length-drop, length-take, take-append-drop, take-append-le}
use Rattle.std.proofs.Math.Seq.{take-add, take-append_seam}
use Rattle.std.proofs.lemmas.Bool.{both_ways, cases_Bool}
use lib.Pointwise.{pointwise}
use lib.Dec.{eqb}
use Rattle.ltx_text.specs.Words.{AreVisible, byte_spelling, hex_digit, is_plain, is_visible, spellings, word_of}
use Rattle.ltx_model.specs.Limits.{AreBytes}

pub plain_spelling : (b : ℕ) → is_plain b ≡ true → byte_spelling b ≡ b ∷ []
unfolding byte_spelling
plain_spelling b plain = rw plain refl

pub escaped_spelling : (b : ℕ) → is_plain b ≡ false → byte_spelling b ≡ 37 ∷ hex_digit (b / 16) ∷ hex_digit (b % 16) ∷ []
unfolding byte_spelling
escaped_spelling b escaped = rw escaped refl

pub hex_digit_one : (d e : ℕ) → hex_digit d ≡ hex_digit e → d ≡ e
hex_digit_one d e same = grind arith

-- two texts that begin with a byte's spelling begin with the same byte
pub one_front : (b c : ℕ) (s t : List ℕ) → byte_spelling b ++ s ≡ byte_spelling c ++ t → (b ≡ c) × (s ≡ t)
one_front b c s t same =
    elim (cases_Bool (is_plain b)) [
      | inl p ↦ elim (cases_Bool (is_plain c)) [
        | inl q ↦ let e : b ∷ s ≡ c ∷ t = (rw (plain_spelling b p, plain_spelling c q) at same) in (cc, cc)
        | inr q ↦ let e : b ∷ s ≡ 37 ∷ hex_digit (c / 16) ∷ hex_digit (c % 16) ∷ t = (rw (plain_spelling b p, escaped_spelling c q) at same) in
            let h : b ≡ 37 = cc in absurd (grind (arith, p, h))
      ]
      | inr p ↦ elim (cases_Bool (is_plain c)) [
        | inl q ↦ let e : 37 ∷ hex_digit (b / 16) ∷ hex_digit (b % 16) ∷ s ≡ c ∷ t = (rw (escaped_spelling b p, plain_spelling c q) at same) in
            let h : c ≡ 37 = cc in absurd (grind (arith, q, h))
        | inr q ↦ let e : 37 ∷ hex_digit (b / 16) ∷ hex_digit (b % 16) ∷ s ≡ 37 ∷ hex_digit (c / 16) ∷ hex_digit (c % 16) ∷ t = (rw (escaped_spelling b p, escaped_spelling c q) at same) in
            let upper : hex_digit (b / 16) ≡ hex_digit (c / 16) = cc in
            let lower : hex_digit (b % 16) ≡ hex_digit (c % 16) = cc in
            let h = hex_digit_one (b / 16) (c / 16) upper in
            let l = hex_digit_one (b % 16) (c % 16) lower in
            (omega (arith, h, l), cc)
      ]
    ]

-- ---- spellings one after the other

pub spelling_lengthens : (b : ℕ) (s : List ℕ) → length s < length (byte_spelling b ++ s)
spelling_lengthens b s =
    elim (cases_Bool (is_plain b)) [
      | inl p ↦ rw (plain_spelling b p) (omega arith)
      | inr p ↦ rw (escaped_spelling b p) (omega arith)
    ]

spelling_is_some : (b : ℕ) (s : List ℕ) → byte_spelling b ++ s ≢ []
spelling_is_some b s none =
    elim (cases_Bool (is_plain b)) [
      | inl p ↦ let e : b ∷ s ≡ [] = (rw (plain_spelling b p) at none) in absurd cc
      | inr p ↦ let e : 37 ∷ hex_digit (b / 16) ∷ hex_digit (b % 16) ∷ s ≡ [] = (rw (escaped_spelling b p) at none) in absurd cc
    ]

same_cells : (x y : ℕ) (xs ys : List ℕ) → x ≡ y → xs ≡ ys → x ∷ xs ≡ y ∷ ys
same_cells x y xs ys head tail = cc

-- what comes after some spellings in a text of spellings is spellings itself
pub record ReadsOn (front rest bytes : List ℕ) : Type 0 where
  pub more : List ℕ
  pub joined : bytes ≡ front ++ more
  pub spelt : rest ≡ spellings more

pub after_spellings : (front rest bytes : List ℕ) → spellings front ++ rest ≡ spellings bytes → ReadsOn front rest bytes
after_spellings [] rest bytes same = record { more = bytes; joined = refl; spelt = same }
after_spellings (b ∷ front) rest [] same =
    absurd (spelling_is_some b (spellings front ++ rest) (sym (append_assoc (byte_spelling b) (spellings front) rest) ∙ same))
after_spellings (b ∷ front) rest (c ∷ bytes) same =
    let parts = one_front b c (spellings front ++ rest) (spellings bytes) (sym (append_assoc (byte_spelling b) (spellings front) rest) ∙ same) in
    let r = after_spellings front rest bytes parts.1 in
    record { more = r.more; joined = same_cells c b bytes (front ++ r.more) (sym parts.0) r.joined; spelt = r.spelt }

-- a text is the spellings of one byte string at most
pub spellings_one : (xs ys : List ℕ) → spellings xs ≡ spellings ys → xs ≡ ys
spellings_one [] [] same = refl
spellings_one [] (y ∷ ys) same = absurd (spelling_is_some y (spellings ys) (sym same))
spellings_one (x ∷ xs) [] same = absurd (spelling_is_some x (spellings xs) same)
spellings_one (x ∷ xs) (y ∷ ys) same =
    let parts = one_front x y (spellings xs) (spellings ys) same in
    same_cells x y xs ys parts.0 (spellings_one xs ys parts.1)

-- a text that goes on after some spellings with no byte's spelling is no byte string's spellings
pub broken_text : (front rest text bytes : List ℕ) → text ≡ spellings front ++ rest → 0 < length rest
    → ((b : ℕ) (s : List ℕ) → b < 256 → rest ≢ byte_spelling b ++ s) → AreBytes bytes → text ≢ spellings bytes
broken_text front rest text bytes split some none low same =
    let r = after_spellings front rest bytes (sym split ∙ same) in
    none_left rest r.more some none (All-drop (λ c. c < 256) (length front) bytes low) r.spelt (ap (drop (length front)) r.joined ∙ drop_at front r.more (length front) refl)
  where
    none_left : (rest more : List ℕ) → 0 < length rest → ((b : ℕ) (s : List ℕ) → b < 256 → rest ≢ byte_spelling b ++ s)
        → AreBytes (drop (length front) bytes) → rest ≡ spellings more → drop (length front) bytes ≡ more → ⊥
    none_left rest [] some none low spelt is = omega (arith, some, ap length spelt)
    none_left rest (b ∷ more) some none low spelt is =
        none b (spellings more) (All-head (λ c. c < 256) b more (subst AreBytes is low)) spelt

percent_is_no_byte : (b : ℕ) (s : List ℕ) → 37 ∷ [] ≢ byte_spelling b ++ s
percent_is_no_byte b s same =
    elim (cases_Bool (is_plain b)) [
      | inl p ↦ let e : 37 ∷ [] ≡ b ∷ s = (rw (plain_spelling b p) at same) in
          let h : b ≡ 37 = cc in absurd (grind (arith, p, h))
      | inr p ↦ let e : 37 ∷ [] ≡ 37 ∷ hex_digit (b / 16) ∷ hex_digit (b % 16) ∷ s = (rw (escaped_spelling b p) at same) in absurd cc
    ]

-- each byte string has one word, and no two have the same
pub word_spelling_injective : (xs ys : List ℕ) → word_of xs ≡ word_of ys → xs ≡ ys
word_spelling_injective [] [] same = refl
word_spelling_injective [] (y ∷ ys) same = absurd (percent_is_no_byte y (spellings ys) same)
word_spelling_injective (x ∷ xs) [] same = absurd (percent_is_no_byte x (spellings xs) (sym same))
word_spelling_injective (x ∷ xs) (y ∷ ys) same = spellings_one (x ∷ xs) (y ∷ ys) same

-- ---- a word is not empty, and its bytes are visible

pub word_is_some : (bytes : List ℕ) → 0 < length (word_of bytes)
word_is_some [] = omega arith
word_is_some (b ∷ bytes) = omega (arith, spelling_lengthens b (spellings bytes))

each-append : (P : ℕ → Type 0) (xs ys : List ℕ) → AllByRecursion P xs → AllByRecursion P ys → AllByRecursion P (xs ++ ys)
each-append P [] ys p q = q
each-append P (x ∷ xs) ys p q = (p.0, each-append P xs ys p.1 q)

hex_digit_is_visible : (d : ℕ) → d < 16 → IsTrue (is_visible (hex_digit d))
hex_digit_is_visible d low = grind arith

plain_is_visible : (b : ℕ) → is_plain b ≡ true → IsTrue (is_visible b)
plain_is_visible b plain = grind arith

spelling_is_visible : (b : ℕ) → b < 256 → AllByRecursion (λ c. IsTrue (is_visible c)) (byte_spelling b)
spelling_is_visible b low =
    elim (cases_Bool (is_plain b)) [
      | inl p ↦ rw (plain_spelling b p) (plain_is_visible b p, tt)
      | inr p ↦ rw (escaped_spelling b p) (refl, (hex_digit_is_visible (b / 16) (omega arith), (hex_digit_is_visible (b % 16) (omega arith), tt)))
    ]

spellings_are_visible : (bytes : List ℕ) → AllByRecursion (λ b. b < 256) bytes → AllByRecursion (λ c. IsTrue (is_visible c)) (spellings bytes)
spellings_are_visible [] low = tt
spellings_are_visible (b ∷ bytes) low = each-append (λ c. IsTrue (is_visible c)) (byte_spelling b) (spellings bytes) (spelling_is_visible b low.0) (spellings_are_visible bytes low.1)

pub word_is_visible : (bytes : List ℕ) → AreBytes bytes → AreVisible (word_of bytes)
word_is_visible [] low = All-from_recursion (λ c. IsTrue (is_visible c)) (37 ∷ []) (refl, tt)
word_is_visible (b ∷ bytes) low = All-from_recursion (λ c. IsTrue (is_visible c)) (spellings (b ∷ bytes)) (spellings_are_visible (b ∷ bytes) (recursion_from_All (λ c. c < 256) (b ∷ bytes) low))

-- ---- bytes that stand for themselves

plain_by_recursion : (xs : List ℕ) → AllByRecursion (λ b. is_plain b ≡ true) xs → spellings xs ≡ xs
plain_by_recursion [] plain = refl
plain_by_recursion (x ∷ xs) plain = rw (plain_spelling x plain.0, plain_by_recursion xs plain.1) refl

plain_spellings : (xs : List ℕ) → AllPass is_plain xs → spellings xs ≡ xs
plain_spellings xs plain = plain_by_recursion xs (recursion_from_All (λ b. is_plain b ≡ true) xs plain)

-- they are their own word
pub plain_word : (bytes : List ℕ) → 0 < length bytes → list_all is_plain bytes ≡ true → word_of bytes ≡ bytes
plain_word [] some plain = absurd (omega (arith, some))
plain_word (b ∷ bytes) some plain = plain_spellings (b ∷ bytes) (AllPass-from_list_all is_plain (b ∷ bytes) plain)

pub plain_begins : (b : ℕ) (rest text : List ℕ) → is_plain b ≡ true → text ≡ b ∷ rest → text ≡ byte_spelling b ++ rest
plain_begins b rest text plain is = rw (plain_spelling b plain) is

-- ---- bytes that are tested at both ends at once

joined_tests : (a b c : Bool) → ((a && b) && (b && c)) ≡ (a && (b && c))
joined_tests false b c = refl
joined_tests true false c = refl
joined_tests true true c = refl

-- a front and an end that overlap tell of all
all_overlapping : (p : ℕ → Bool) (m k : ℕ) (xs : List ℕ) → list_all p (take (m + k) xs ++ drop m xs) ≡ list_all p xs
all_overlapping p m k xs =
    let whole = list_all-append p (take (m + k) xs) (drop m xs) in
    let first = ap (list_all p) (take-add m k xs) ∙ list_all-append p (take m xs) (take k (drop m xs)) in
    let last = ap (list_all p) (sym (take-append-drop k (drop m xs))) ∙ list_all-append p (take k (drop m xs)) (drop k (drop m xs)) in
    let all = ap (list_all p) (sym (take-append-drop m xs)) ∙ list_all-append p (take m xs) (drop m xs) in
    let same = joined_tests (list_all p (take m xs)) (list_all p (take k (drop m xs))) (list_all p (drop k (drop m xs))) in
    cc

four_cells : (xs : List ℕ) → length xs ≡ 4 → get_or xs 0 0 ∷ get_or xs 1 0 ∷ get_or xs 2 0 ∷ get_or xs 3 0 ∷ [] ≡ xs
four_cells xs four =
    let one = drop_more xs 0 0 (omega (arith, four)) in
    let two = drop_more xs 1 0 (omega (arith, four)) in
    let three = drop_more xs 2 0 (omega (arith, four)) in
    let last = drop_more xs 3 0 (omega (arith, four)) in
    let end = drop_all 4 xs (omega (arith, four)) in
    cc

-- the first four and the last four tell of fewer than eight
pub ends_tell : (p : ℕ → Bool) (x y bytes : List ℕ) → x ≡ take 4 bytes → y ≡ drop (length bytes - 4) bytes → 4 ≤ length bytes → length bytes < 8
    → list_all p (get_or x 0 0 ∷ get_or x 1 0 ∷ get_or x 2 0 ∷ get_or x 3 0 ∷ get_or y 0 0 ∷ get_or y 1 0 ∷ get_or y 2 0 ∷ get_or y 3 0 ∷ []) ≡ list_all p bytes
ends_tell p x y bytes first last some few =
    let four : length x ≡ 4 = omega (arith, ap length first, length-take 4 bytes, some) in
    let others : length y ≡ 4 = omega (arith, ap length last, length-drop (length bytes - 4) bytes, some) in
    let count : 4 ≡ length bytes - 4 + (8 - length bytes) = omega (arith, some, few) in
    ap (list_all p) (ap₂ (λ (s t : List ℕ). s ++ t) (four_cells x four) (four_cells y others)
    ∙ ap₂ (λ (s t : List ℕ). s ++ t) (first ∙ ap (λ (n : ℕ). take n bytes) count) last)
    ∙ all_overlapping p (length bytes - 4) (8 - length bytes) bytes

-- ---- the parts of an escape

pub escape_begins : (b high low first : ℕ) (after second rest text : List ℕ) → text ≡ first ∷ after → after ≡ high ∷ second → second ≡ low ∷ rest → first ≡ 37
    → is_plain b ≡ false → hex_digit (b / 16) ≡ high → hex_digit (b % 16) ≡ low → text ≡ byte_spelling b ++ rest
escape_begins b high low first after second rest text one two three percent escaped h l = rw (escaped_spelling b escaped, h, l) cc

pub record IsEscape (first : ℕ) (after : List ℕ) (b : ℕ) (rest : List ℕ) : Type 0 where
  pub escaped : is_plain b ≡ false
  pub percent : first ≡ 37
  pub digits : after ≡ hex_digit (b / 16) ∷ hex_digit (b % 16) ∷ rest

-- what begins with a byte that does not stand for itself, and is a spelling, is an escape
pub is_escape : (b first : ℕ) (after rest text : List ℕ) → text ≡ first ∷ after → is_plain first ≡ false → text ≡ byte_spelling b ++ rest → IsEscape first after b rest
is_escape b first after rest text begins escaped same =
    let back : first ∷ after ≡ text = sym begins in
    elim (cases_Bool (is_plain b)) [
      | inl p ↦ let e : first ∷ after ≡ b ∷ rest = back ∙ (rw (plain_spelling b p) at same) in
          let h : first ≡ b = cc in absurd (both_ways (is_plain first) escaped (rw h p))
      | inr p ↦ let e : first ∷ after ≡ 37 ∷ hex_digit (b / 16) ∷ hex_digit (b % 16) ∷ rest = back ∙ (rw (escaped_spelling b p) at same) in
          record { escaped = p; percent = cc; digits = cc }
    ]

-- ---- what stands in front stays there

pub front_kept : (old more mid new : List ℕ) → mid ≡ old ++ more → take (length mid) new ≡ mid → take (length old) new ≡ old
front_kept old more mid new is kept =
    let longer : length old ≤ length mid = omega (arith, ap length is, length-append old more) in
    let split : new ≡ mid ++ drop (length mid) new = sym (take-append-drop (length mid) new) ∙ ap (λ (t : List ℕ). t ++ drop (length mid) new) kept in
    ap (take (length old)) split ∙ take-append-le (length old) mid (drop (length mid) new) longer ∙ ap (take (length old)) is ∙ take-append_seam old more

-- the words other than `%` are spellings
pub word_of_others : (word bytes : List ℕ) → word ≢ 37 ∷ [] → word ≡ word_of bytes → word ≡ spellings bytes
word_of_others word [] other same = absurd (other same)
word_of_others word (b ∷ bytes) other same = same

pub is_other : (word percent : List ℕ) → percent ≡ 37 ∷ [] → false ≡ pointwise eqb word percent → word ≢ 37 ∷ []
is_other word percent is differs same =
    let computed : pointwise eqb word percent ≡ true = rw (same, is) refl in
    both_ways (pointwise eqb word percent) (sym differs) computed
