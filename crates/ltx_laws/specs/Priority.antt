-- When the commit of a batch is asked, who was the least live batch, and what it is answered.
use Rattle.std.specs.Prelude.{◌≡◌, ◌⊎◌, ℕ, ◌≤◌, Bool, false, List, [], ◌∷◌, ◌++◌, Some, Contains}
use Rattle.ltx_model.specs.declared.commands.Verb.TheVariants as verbs
use Rattle.ltx_model.specs.declared.commands.Command.TheVariants as commands
use Rattle.ltx_model.specs.declared.commands.Line.{Line}
use Rattle.ltx_model.specs.declared.commands.Line.TheVariants as lines
use Rattle.ltx_model.specs.declared.replies.Entry.{Entry}
use Rattle.ltx_model.specs.declared.replies.Reply.TheVariants as replies
use Rattle.ltx_model.specs.Operations.{Transaction}
use Rattle.ltx_model.specs.States.{Declaration, IsPending, Active, transaction_of, Base, State, LiveBatch, live_batches, active_of}
use Rattle.ltx_model.specs.Histories.{state}

-- an open live batch as the batch that the answers speak of
abbrev pub batch_of : Active → Declaration → List Transaction → LiveBatch
batch_of o d snapshot = record { tx = transaction_of o; declared = d; snapshot = snapshot }

-- The entry's line asks to commit the open transaction o of its session.
pub record AsksCommit (s : State) (entry : Entry) (o : Active) : Type 0 where
  pub session : ℕ
  pub line : entry.line ≡ lines.Good (commands.Ask session verbs.Commit)
  pub opened : active_of s session ≡ Some o

-- Committed at its slot: not refused, not waiting and not forwarded. (Only a line that is not built yet is answered `later`.)
abbrev pub IsCommittedAtHome : (State → Line → Bool) → State → Entry → Type 0
IsCommittedAtHome built s entry = (entry.reply ≡ replies.Committed s.epoch) ⊎ ((built s entry.line ≡ false) × (entry.reply ≡ replies.Later))

-- The batch n was the least live one when it became live, batches of the same advance counted: it was pending before an entry of
-- the history, live after it, and no batch that was live after it has a smaller number.
pub record WasLeast (base : Base) (history : List Entry) (n : ℕ) : Type 0 where
  pub before : List Entry
  pub entry : Entry
  pub later : List Entry
  pub parts : history ≡ before ++ entry ∷ later
  pub pending : Active
  pub declared : Declaration
  pub waited : Contains (state base before).active pending
  pub kind : pending.kind ≡ IsPending declared
  pub number : pending.number ≡ n
  pub batch : LiveBatch
  pub live : Contains (live_batches (state base (before ++ entry ∷ []))) batch
  pub same : batch.tx.number ≡ n
  pub least : (b : LiveBatch) → Contains (live_batches (state base (before ++ entry ∷ []))) b → n ≤ b.tx.number
