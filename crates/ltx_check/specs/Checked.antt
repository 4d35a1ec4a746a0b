-- When a text is checked: what it says is explained by its order.
use Rattle.std.specs.Prelude.{ℕ, List}
use Rattle.ltx_model.specs.declared.replies.Entry.{Entry}
use Rattle.ltx_model.specs.Recovery.{blank_base}
use Rattle.ltx_model.specs.Explained.{IsExplained}
use Rattle.ltx_check.specs.Lines.{Says}
use Rattle.ltx_check.specs.Opens.{IsWellPlaced}
use Rattle.ltx_check.specs.Marks.{KeepsPlaces}

-- A text says a history, each entry of which may stand where it does, and an order that explains it from the empty map. In this order
-- a short stands after everything that was committed before it, and of two batches against their numbers the one with the greater
-- number is printed as forwarded. A malformed line is taken to have the cause that its reply names. Nothing is said of epochs, of
-- refusals, or of what is durable; and a line answered `later` has no effect.
pub record IsChecked (text : List ℕ) : Type 0 where
  pub history : List Entry
  pub order : List ℕ
  pub durable : ℕ
  pub says : Says text history order durable
  pub placed : IsWellPlaced history
  pub explained : IsExplained blank_base history order
  pub places : KeepsPlaces history order
