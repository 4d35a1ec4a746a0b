-- What stands behind the answers preserved, changed, late, contradicts and waiting.
use Rattle.std.specs.Prelude.{◌≡◌, ◌⊎◌, ℕ, ◌<◌, true, List, Some, Contains}
use Rattle.ltx_model.specs.declared.commands.Op.{Op}
use Rattle.ltx_model.specs.declared.commands.Verb.TheVariants as verbs
use Rattle.ltx_model.specs.declared.commands.Command.TheVariants as commands
use Rattle.ltx_model.specs.declared.commands.Line.TheVariants as lines
use Rattle.ltx_model.specs.declared.replies.Entry.{Entry}
use Rattle.ltx_model.specs.Operations.{Transaction, operations, table_of, touches}
use Rattle.ltx_model.specs.States.{Declaration, IsShort, IsLive, Active, transaction_of, State, LiveBatch, live_batches, active_of, latest}
use Rattle.ltx_model.specs.Shorts.{IsHeld, IsLeastHeld, Change, IsFirstChange}
use Rattle.ltx_model.specs.Batches.{Witness, IsTarget, IsOvertakenLive, IsLate, IsFirstLate, IsFirstContradicted, Waits}
use Rattle.ltx_laws.specs.Priority.{AsksCommit, batch_of}

-- Preserved, at an operation: an open short asks it in the table, and n is the table's least holder.
pub record IsPreservedOperation (s : State) (entry : Entry) (table n : ℕ) : Type 0 where
  pub session : ℕ
  pub op : Op
  pub active : Active
  pub line : entry.line ≡ lines.Good (commands.Ask session (verbs.Do op))
  pub opened : active_of s session ≡ Some active
  pub kind : active.kind ≡ IsShort
  pub place : table_of op ≡ table
  pub held : IsHeld s table n

-- The entry asks to commit an open short.
pub record AsksShortCommit (s : State) (entry : Entry) : Type 0 where
  pub active : Active
  pub asks : AsksCommit s entry active
  pub kind : active.kind ≡ IsShort

-- Preserved, at a commit: it is the least table that the short touched and a live batch holds, and n is its least holder.
pub record IsPreservedCommit (s : State) (entry : Entry) (table n : ℕ) : Type 0 where
  pub short : AsksShortCommit s entry
  pub held : IsLeastHeld s (operations (transaction_of short.active)) table n

abbrev pub IsPreservedAnswer : State → Entry → ℕ → ℕ → Type 0
IsPreservedAnswer s entry table n = IsPreservedOperation s entry table n ⊎ IsPreservedCommit s entry table n

-- Changed: c is the first look-up of the short that would now be answered otherwise, and no table that it touched is held.
pub record IsChangedAnswer (s : State) (entry : Entry) (c : Change) : Type 0 where
  pub short : AsksShortCommit s entry
  pub change : IsFirstChange (latest s) short.active.steps c
  pub unheld : (table n : ℕ) → touches (operations (transaction_of short.active)) table ≡ true → IsHeld s table n → ⊥

-- The entry asks to commit a live batch.
pub record AsksBatchCommit (s : State) (entry : Entry) : Type 0 where
  pub active : Active
  pub declared : Declaration
  pub snapshot : List Transaction
  pub asks : AsksCommit s entry active
  pub kind : active.kind ≡ IsLive declared snapshot

-- Late: p is the batch's target, w is the first late witness there, and no live batch is overtaken.
pub record IsLateAnswer (s : State) (entry : Entry) (p : ℕ) (w : Witness) : Type 0 where
  pub batch : AsksBatchCommit s entry
  pub target : IsTarget s (batch_of batch.active batch.declared batch.snapshot) p
  pub witness : IsFirstLate s (batch_of batch.active batch.declared batch.snapshot) p w
  pub alone : (j : ℕ) → IsOvertakenLive s (batch_of batch.active batch.declared batch.snapshot) j → ⊥

-- Contradicts: p is the batch's target, no witness there is late, w is the first contradicted one, and no live batch is overtaken.
pub record IsContradictsAnswer (s : State) (entry : Entry) (p : ℕ) (w : Witness) : Type 0 where
  pub batch : AsksBatchCommit s entry
  pub target : IsTarget s (batch_of batch.active batch.declared batch.snapshot) p
  pub punctual : (v : Witness) → IsLate s (batch_of batch.active batch.declared batch.snapshot) p v → ⊥
  pub witness : IsFirstContradicted s (batch_of batch.active batch.declared batch.snapshot) p w
  pub alone : (j : ℕ) → IsOvertakenLive s (batch_of batch.active batch.declared batch.snapshot) j → ⊥

-- Waiting: k is a live batch with a smaller number, the one for which the batch waits.
pub record IsWaitingAnswer (s : State) (entry : Entry) (k : ℕ) : Type 0 where
  pub batch : AsksBatchCommit s entry
  pub waits : Waits s (batch_of batch.active batch.declared batch.snapshot) k
  pub elder : LiveBatch
  pub live : Contains (live_batches s) elder
  pub number : elder.tx.number ≡ k
  pub smaller : k < batch.active.number
