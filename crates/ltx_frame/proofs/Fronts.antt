-- Bytes that keep a longer front keep a shorter one.
use Rattle.std.proofs.Common.{◌≡◌, ◌++◌, ℕ, List, [], ◌∷◌, length, take, refl, subst}

pub front_of : (a b x : List ℕ) → take (length (a ++ b)) x ≡ a ++ b → take (length a) x ≡ a
front_of [] b x e = refl
front_of (y ∷ a) b [] e = cc
front_of (y ∷ a) b (z ∷ x) e =
    let heads : z ≡ y = cc in
    let tails : take (length (a ++ b)) x ≡ a ++ b = cc in
    λ i. heads i ∷ front_of a b x tails i

pub kept_front : (old mid new more : List ℕ) → mid ≡ old ++ more → take (length mid) new ≡ mid → take (length old) new ≡ old
kept_front old mid new more is kept = front_of old more new (subst (λ l. take (length l) new ≡ l) is kept)
