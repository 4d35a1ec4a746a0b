-- The serial order of a history, entry by entry.
use Rattle.std.specs.Prelude.{◌≡◌, ℕ, List, ◌++◌}
use Rattle.ltx_model.specs.declared.replies.Entry.{Entry}
use Rattle.ltx_model.specs.States.{Base, order}
use Rattle.ltx_model.specs.Histories.{state}
use Rattle.ltx_model.specs.Explained.{IsExplained}
use Rattle.ltx_laws.specs.Orders.{StandsBefore}

-- After each entry of a history, the order of that moment has exactly what is committed by then, and explains each reply so far; and of two
-- of its members the one before the other stays before it.
pub record KeepsSerialOrder (base : Base) (history : List Entry) : Type 0 where
  pub explained : (before later : List Entry) → history ≡ before ++ later → IsExplained base before (order (state base before))
  pub stable : (before more later : List Entry) → history ≡ before ++ more ++ later
      → (a b : ℕ) → StandsBefore (order (state base before)) a b → StandsBefore (order (state base (before ++ more))) a b
