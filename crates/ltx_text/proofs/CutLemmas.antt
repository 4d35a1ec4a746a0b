-- Where a text is cut.
use Rattle.std.proofs.Common.{◌≡◌, ℕ, ◌<◌, ◌≤◌, ◌+◌, true, false, ◌==◌, cond, List, [], ◌∷◌, length, get_or, take, drop, Some, None, sym, ap, ◌∙◌, arith, inl, inr}
use Rattle.std.specs.Prelude.{nat_lt}
use Rattle.std.specs.List.{slice_split, position, position_or_len}
use Rattle.std.proofs.lemmas.Bool.{cases_Bool, ltb-true}
use Rattle.std.proofs.lemmas.Bool.Decides.{nat_tests}
use Rattle.std.proofs.lemmas.List.{drop-drop}
use Rattle.std.proofs.lemmas.List.Elements.{All-from_get_or}
use Rattle.std.proofs.lemmas.List.Sums.{fails_before_first}
use Rattle.std.proofs.lemmas.List.Splits.{slice_split_none, slice_split_first}
use Rattle.ltx_text.specs.Cuts.{cut_at}

-- what is said of the first place, where there is none, and where there is one
first_none : (first most : ℕ) → cond (nat_lt first most) (Some first) None ≡ None → most ≤ first
first_none first most e = grind (arith, nat_tests)

first_some : (first most i : ℕ) → cond (nat_lt first most) (Some first) None ≡ Some i → (first < most) × (first ≡ i)
first_some first most i e = elim (cases_Bool (nat_lt first most)) [
  | inl e1 ↦ let found : Some first ≡ Some i = (rw e1 at e) in (ltb-true first most e1, cc)
  | inr e0 ↦ let none : None ≡ Some i = (rw e0 at e) in absurd cc
]

-- a text is one part where the byte is not in it
pub cut_whole : (byte : ℕ) (text : List ℕ) → position (λ b. b == byte) text ≡ None → cut_at byte text ≡ text ∷ []
unfolding cut_at
cut_whole byte text none =
    let high = first_none (position_or_len (λ b. b == byte) text) (length text) none in
    slice_split_none (λ b. b == byte) text (All-from_get_or (λ b. (b == byte) ≡ false) text 0 (λ i low. fails_before_first (λ b. b == byte) text i 0 (omega (arith, low, high))))

-- and its first part ends where the byte first stands
pub cut_there : (byte : ℕ) (text : List ℕ) (i : ℕ) → position (λ b. b == byte) text ≡ Some i → cut_at byte text ≡ take i text ∷ cut_at byte (drop 1 (drop i text))
unfolding cut_at
cut_there byte text i found =
    let first = first_some (position_or_len (λ b. b == byte) text) (length text) i found in
    slice_split_first (λ b. b == byte) text 0 first.0
    ∙ ap (λ n. take n text ∷ slice_split (λ b. b == byte) (drop (n + 1) text)) first.1
    ∙ ap (λ (t : List ℕ). take i text ∷ slice_split (λ b. b == byte) t) (sym (drop-drop 1 i text))
