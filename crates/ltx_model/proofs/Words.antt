-- Byte strings of one length stand in the order of the numbers that they spell, the highest byte first.
use Rattle.std.proofs.Common.{◌≡◌, ℕ, ◌+◌, ◌*◌, ◌<◌, List, [], ◌∷◌, length, get_or, drop, min, suc, zero, refl, sym, ap, ◌∙◌, arith, w32, w64, nat_cmp, Ordering, Less, Equal, Greater}
use Rattle.std.specs.Ordering.{ordering_then, MatchOrdering}
use Rattle.std.specs.Cmp.{nat_cmp_is, ranks}
use Rattle.std.specs.Cmp.Lexicographic.{slice_cmp}
use Rattle.std.specs.Int.{from_be_bytes}
use Rattle.ltx_model.proofs.Orderings.{then_none, then_assoc}

-- the number that the bytes spell after those that spell n
abbrev number : ℕ → List ℕ → ℕ
number n [] = n
number n (x ∷ xs) = number (n * 256 + x) xs

abbrev AreBytes : List ℕ → Type 0
AreBytes xs = (i : ℕ) → get_or xs i 0 < 256

high_first : (a b u v : ℕ) → u < 256 → v < 256 → (r s : Ordering) → MatchOrdering r (a < b) (a ≡ b) (b < a) → MatchOrdering s (u < v) (u ≡ v) (v < u)
    → MatchOrdering (ordering_then r s) (a * 256 + u < b * 256 + v) (a * 256 + u ≡ b * 256 + v) (b * 256 + v < a * 256 + u)
high_first a b u v low_u low_v Less s p q = let less : a < b = p in omega arith
high_first a b u v low_u low_v Equal Less p q = let same : a ≡ b = p in let less : u < v = q in omega arith
high_first a b u v low_u low_v Equal Equal p q = let same : a ≡ b = p in let level : u ≡ v = q in omega arith
high_first a b u v low_u low_v Equal Greater p q = let same : a ≡ b = p in let greater : v < u = q in omega arith
high_first a b u v low_u low_v Greater s p q = let greater : b < a = p in omega arith

-- one byte more
digit : (a b u v : ℕ) → u < 256 → v < 256 → nat_cmp (a * 256 + u) (b * 256 + v) ≡ ordering_then (nat_cmp a b) (nat_cmp u v)
digit a b u v low_u low_v = sym (nat_cmp_is _ _ _ (high_first a b u v low_u low_v (nat_cmp a b) (nat_cmp u v) (ranks a b) (ranks u v)))

-- more bytes after numbers that are at hand
numbers : (a b : ℕ) (xs ys : List ℕ) → length xs ≡ length ys → AreBytes xs → AreBytes ys → nat_cmp (number a xs) (number b ys) ≡ ordering_then (nat_cmp a b) (slice_cmp nat_cmp xs ys)
numbers a b [] [] same low_x low_y = sym (then_none (nat_cmp a b))
numbers a b [] (y ∷ ys) same low_x low_y = absurd (omega arith)
numbers a b (x ∷ xs) [] same low_x low_y = absurd (omega arith)
numbers a b (x ∷ xs) (y ∷ ys) same low_x low_y =
    numbers (a * 256 + x) (b * 256 + y) xs ys (omega arith) (λ i. low_x (suc i)) (λ i. low_y (suc i))
    ∙ ap (λ r. ordering_then r (slice_cmp nat_cmp xs ys)) (digit a b x y (low_x 0) (low_y 0))
    ∙ then_assoc (nat_cmp a b) (nat_cmp x y) (slice_cmp nat_cmp xs ys)

-- eight bytes are read as the number that they spell, and so are four
spelt_8 : (xs : List ℕ) → length xs ≡ 8 → from_be_bytes w64 xs ≡ number 0 xs
spelt_8 [] eight = absurd (omega arith)
spelt_8 (a ∷ []) eight = absurd (omega arith)
spelt_8 (a ∷ b ∷ []) eight = absurd (omega arith)
spelt_8 (a ∷ b ∷ c ∷ []) eight = absurd (omega arith)
spelt_8 (a ∷ b ∷ c ∷ d ∷ []) eight = absurd (omega arith)
spelt_8 (a ∷ b ∷ c ∷ d ∷ e ∷ []) eight = absurd (omega arith)
spelt_8 (a ∷ b ∷ c ∷ d ∷ e ∷ f ∷ []) eight = absurd (omega arith)
spelt_8 (a ∷ b ∷ c ∷ d ∷ e ∷ f ∷ g ∷ []) eight = absurd (omega arith)
spelt_8 (a ∷ b ∷ c ∷ d ∷ e ∷ f ∷ g ∷ h ∷ []) eight = omega arith
spelt_8 (a ∷ b ∷ c ∷ d ∷ e ∷ f ∷ g ∷ h ∷ x ∷ xs) eight = absurd (omega arith)

spelt_4 : (xs : List ℕ) → length xs ≡ 4 → from_be_bytes w32 xs ≡ number 0 xs
spelt_4 [] four = absurd (omega arith)
spelt_4 (a ∷ []) four = absurd (omega arith)
spelt_4 (a ∷ b ∷ []) four = absurd (omega arith)
spelt_4 (a ∷ b ∷ c ∷ []) four = absurd (omega arith)
spelt_4 (a ∷ b ∷ c ∷ d ∷ []) four = omega arith
spelt_4 (a ∷ b ∷ c ∷ d ∷ x ∷ xs) four = absurd (omega arith)

-- four bytes and four others
pub fours : (xs ys : List ℕ) → length xs ≡ 4 → length ys ≡ 4 → AreBytes xs → AreBytes ys → nat_cmp (from_be_bytes w32 xs) (from_be_bytes w32 ys) ≡ slice_cmp nat_cmp xs ys
fours xs ys four_x four_y low_x low_y =
    (λ i. nat_cmp (spelt_4 xs four_x i) (spelt_4 ys four_y i))
    ∙ numbers 0 0 xs ys (omega arith) low_x low_y

-- eight bytes and eight others
pub eights : (xs ys : List ℕ) → length xs ≡ 8 → length ys ≡ 8 → AreBytes xs → AreBytes ys → nat_cmp (from_be_bytes w64 xs) (from_be_bytes w64 ys) ≡ slice_cmp nat_cmp xs ys
eights xs ys eight_x eight_y low_x low_y =
    (λ i. nat_cmp (spelt_8 xs eight_x i) (spelt_8 ys eight_y i))
    ∙ numbers 0 0 xs ys (omega arith) low_x low_y

fewer : (m n : ℕ) (r : Ordering) → MatchOrdering r (m < n) (m ≡ n) (n < m) → MatchOrdering r (suc m < suc n) (suc m ≡ suc n) (suc n < suc m)
fewer m n Less p = let less : m < n = p in omega arith
fewer m n Equal p = let same : m ≡ n = p in omega arith
fewer m n Greater p = let greater : n < m = p in omega arith

-- where one has ended, the lengths decide
pub ended : (n : ℕ) (xs ys : List ℕ) → n ≡ min (length xs) (length ys) → nat_cmp (length xs) (length ys) ≡ slice_cmp nat_cmp (drop n xs) (drop n ys)
ended zero [] [] least = refl
ended zero [] (y ∷ ys) least = sym (nat_cmp_is 0 (suc (length ys)) Less (omega arith))
ended zero (x ∷ xs) [] least = sym (nat_cmp_is (suc (length xs)) 0 Greater (omega arith))
ended zero (x ∷ xs) (y ∷ ys) least = absurd (omega arith)
ended (suc n) [] ys least = absurd (omega arith)
ended (suc n) (x ∷ xs) [] least = absurd (omega arith)
ended (suc n) (x ∷ xs) (y ∷ ys) least =
    sym (nat_cmp_is (suc (length xs)) (suc (length ys)) _ (fewer (length xs) (length ys) (nat_cmp (length xs) (length ys)) (ranks (length xs) (length ys))))
    ∙ ended n xs ys (omega arith)
