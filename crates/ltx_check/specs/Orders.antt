-- Whether an order has the committed transactions of a history.
use Rattle.std.specs.Prelude.{ℕ, List, map}
use Rattle.std.specs.List.Sorted.{IsPermutation}
use Rattle.ltx_model.specs.declared.replies.Entry.{Entry}
use Rattle.ltx_model.specs.Explained.{committed_in}

-- the numbers of the transactions that a history commits, in time
abbrev pub committed_numbers : List Entry → List ℕ
committed_numbers history = map (λ t. t.number) (committed_in history)

-- The order has the committed transactions and no others, each once. (No number is begun twice, so none is committed twice.)
abbrev pub HasCommitted : List Entry → List ℕ → Type 0
HasCommitted history order = IsPermutation (committed_numbers history) order
