-- The one word of a list of one.
use Rattle.std.proofs.Common.{◌≡◌, ℕ, ◌<◌, ◌≤◌, ◌↔◌, Bool, IsTrue, List, [], ◌∷◌, map, length, get_or, bytes_eq, sym, ap, ◌∙◌, arith}
use Rattle.std.proofs.lemmas.Slice.Eq.{bytes_eq-Decides}

pub one_word : {A B : Type 0} (f : A → B) (xs : List A) (x : A) → 1 ≤ length xs → length xs < 2 → x ≡ get_or xs 0 x → map f xs ≡ f x ∷ []
one_word f [] x some few is = absurd (omega (arith, some))
one_word f (y ∷ []) x some few is = ap (λ z. f z ∷ []) (sym is)
one_word f (y ∷ z ∷ zs) x some few is = absurd (omega (arith, few))

pub spells : (command : List ℕ) (said : Bool) (text word : List ℕ) (words : List (List ℕ)) → said ≡ bytes_eq text command → text ≡ word → words ≡ word ∷ [] → IsTrue said ↔ (words ≡ command ∷ [])
spells command said text word words told same one =
    let both = bytes_eq-Decides text command in
    ((λ yes. one ∙ ap (λ w. w ∷ []) (sym same ∙ both.0 (sym told ∙ yes))), λ is. told ∙ both.1 (let heads : word ≡ command = head_of word command (sym one ∙ is) in same ∙ heads)) where
      head_of : (a b : List ℕ) → a ∷ [] ≡ b ∷ [] → a ≡ b
      head_of a b e = cc
