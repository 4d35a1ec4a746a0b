-- What holds of each pair of a list holds of the pairs of its parts.
use Rattle.std.specs.Prelude.{List, [], ◌∷◌, ◌++◌}
use Rattle.std.specs.List.{AllByRecursion}
use Rattle.ltx_model.specs.Lists.{IsPairwise}

module _ {A : Type 0} where
  -- the items behind one in the middle
  pub pairs_behind : (R : A → A → Type 0) (front : List A) (o : A) (back : List A) → IsPairwise R (front ++ o ∷ back) → AllByRecursion (R o) back
  pairs_behind R [] o back pairs = pairs.0
  pairs_behind R (x ∷ front) o back pairs = pairs_behind R front o back pairs.1
