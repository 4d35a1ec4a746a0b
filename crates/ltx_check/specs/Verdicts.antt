-- What a verdict says of a text.
use Rattle.std.specs.Prelude.{◌≡◌, ℕ, ◌+◌, List, length}
use Rattle.ltx_model.specs.declared.replies.Entry.{Entry}
use Rattle.ltx_model.specs.Recovery.{blank_base}
use Rattle.ltx_model.specs.Explained.{IsExplained}
use Rattle.ltx_check.specs.declared.verdict.Fault.{Fault}
use Rattle.ltx_check.specs.declared.verdict.Fault.TheVariants as faults
use Rattle.ltx_check.specs.declared.verdict.Verdict.{Verdict}
use Rattle.ltx_check.specs.declared.verdict.Verdict.TheVariants as verdicts
use Rattle.ltx_check.specs.Lines.{Says, IsTextFault}
use Rattle.ltx_check.specs.Opens.{IsWellPlaced, IsOpenFault}
use Rattle.ltx_check.specs.Orders.{HasCommitted}
use Rattle.ltx_check.specs.Replays.{IsReplayFault}
use Rattle.ltx_check.specs.Marks.{IsMarksFault}
use Rattle.ltx_check.specs.Checked.{IsChecked}

-- A text says a history, and the entry in this line is the first that may not stand where it does.
pub record IsMisplacedAt (text : List ℕ) (number : ℕ) : Type 0 where
  pub history : List Entry
  pub order : List ℕ
  pub durable : ℕ
  pub says : Says text history order durable
  pub fault : IsOpenFault history number

-- A text says a history whose entries may stand where they do, and its order, which stands in this line, has not the committed transactions.
pub record IsMisordered (text : List ℕ) (number : ℕ) : Type 0 where
  pub history : List Entry
  pub order : List ℕ
  pub durable : ℕ
  pub says : Says text history order durable
  pub placed : IsWellPlaced history
  pub others : HasCommitted history order → ⊥
  pub counted : number ≡ length history + 1

-- A text says a history whose entries may stand where they do, and an order of the committed transactions. The entry in this
-- line is the first of a committed transaction that gets another reply when they run in that order from the empty map.
pub record IsRepliedOtherwise (text : List ℕ) (number : ℕ) : Type 0 where
  pub history : List Entry
  pub order : List ℕ
  pub durable : ℕ
  pub says : Says text history order durable
  pub placed : IsWellPlaced history
  pub members : HasCommitted history order
  pub fault : IsReplayFault history order number

-- A text says a history whose entries may stand where they do, and an order that explains it. The entry in this line is the first
-- whose commit stands in that order before one that it may not stand before.
pub record IsMisplacedCommit (text : List ℕ) (number : ℕ) : Type 0 where
  pub history : List Entry
  pub order : List ℕ
  pub durable : ℕ
  pub says : Says text history order durable
  pub placed : IsWellPlaced history
  pub explained : IsExplained blank_base history order
  pub fault : IsMarksFault history order number

-- the fault of this kind in this line
abbrev pub IsFaultAt : List ℕ → ℕ → Fault → Type 0
IsFaultAt text number faults.Text = IsTextFault text number
IsFaultAt text number faults.Open = IsMisplacedAt text number
IsFaultAt text number faults.Order = IsMisordered text number
IsFaultAt text number faults.Replay = IsRepliedOtherwise text number
IsFaultAt text number faults.Marks = IsMisplacedCommit text number

-- the verdict on a text
abbrev pub IsVerdict : List ℕ → Verdict → Type 0
IsVerdict text verdicts.Yes = IsChecked text
IsVerdict text (verdicts.No number fault) = IsFaultAt text number fault
