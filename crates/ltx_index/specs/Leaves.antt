-- A map's pairs kept in leaves, each a run of neighbours.
use Rattle.std.specs.Prelude.{◌≡◌, ℕ, suc, ◌<◌, Bool, true, List, [], ◌∷◌, length, take, drop}
use Rattle.std.specs.List.{flat_map, AllByRecursion}
use Rattle.std.specs.Map.{keys_of}
use Rattle.ltx_index.specs.Pairs.{IsInOrder}
use Rattle.ltx_model.specs.NextKeys.{reaches}
use Rattle.ltx_index.specs.Places.{AreBelow}

-- the pairs of all leaves, one leaf after the other
abbrev pub pairs_of : {V : Type 0} → List (List (List ℕ × V)) → List (List ℕ × V)
pairs_of leaves = flat_map (λ leaf. leaf) leaves

-- no leaf is empty, and the pairs of all stand in order
pub record AreLeaves {V : Type 0} (leaves : List (List (List ℕ × V))) : Type 0 where
  pub filled : AllByRecursion (λ leaf. 0 < length leaf) leaves
  pub in_order : IsInOrder (pairs_of leaves)

-- the key of a leaf's first pair
abbrev pub first_key : {V : Type 0} → List (List ℕ × V) → List ℕ
first_key [] = []
first_key (pair ∷ rest) = pair.0

-- what lies round the bound is in this leaf or begins the next one: earlier leaves are below it, and later ones reach it
pub record IsHome {V : Type 0} (leaves : List (List (List ℕ × V))) (from : List ℕ) (strict : Bool) (place : ℕ) : Type 0 where
  pub before : AllByRecursion (λ leaf. AreBelow from (keys_of leaf)) (take place leaves)
  pub after : AllByRecursion (λ leaf. AllByRecursion (λ k. reaches from strict k ≡ true) (keys_of leaf)) (drop (suc place) leaves)
