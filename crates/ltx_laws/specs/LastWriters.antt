-- The last writer of a key among transactions, as a relation.
use Rattle.std.specs.Prelude.{◌≡◌, ℕ, true, false, List, ◌∷◌, ◌++◌}
use Rattle.std.specs.List.{AllByRecursion}
use Rattle.ltx_model.specs.Keys.{Cell}
use Rattle.ltx_model.specs.Operations.{Transaction, operations, writes_key}

-- n is the number of one of these transactions that writes the key, and none behind it does.
pub record IsLastWriter (ts : List Transaction) (key : Cell) (n : ℕ) : Type 0 where
  pub front : List Transaction
  pub tx : Transaction
  pub back : List Transaction
  pub parts : ts ≡ front ++ tx ∷ back
  pub number : tx.number ≡ n
  pub writes : writes_key (operations tx) key ≡ true
  pub silent : AllByRecursion (λ t. writes_key (operations t) key ≡ false) back
