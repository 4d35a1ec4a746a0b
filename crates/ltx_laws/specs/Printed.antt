-- What the entries of a history print: who began as a short and who as a batch, and what was committed.
use Rattle.std.specs.Prelude.{◌≡◌, ℕ, List, [], ◌∷◌, ◌++◌, Some, Contains}
use Rattle.ltx_model.specs.declared.replies.Entry.{Entry}
use Rattle.ltx_model.specs.declared.replies.Reply.TheVariants as replies
use Rattle.ltx_model.specs.Operations.{Transaction}
use Rattle.ltx_model.specs.Explained.{committed_by, opens_from}
use Rattle.ltx_laws.specs.Commits.{IsCommitReply}

-- an entry prints the begin of the short n
pub record IsPrintedShort (history : List Entry) (n : ℕ) : Type 0 where
  pub entry : Entry
  pub here : Contains history entry
  pub printed : entry.reply ≡ replies.Begun n

-- an entry prints the begin of the batch n, which becomes live in an epoch
pub record IsPrintedBatchAt (history : List Entry) (n epoch : ℕ) : Type 0 where
  pub entry : Entry
  pub here : Contains history entry
  pub printed : entry.reply ≡ replies.BegunAt n epoch

-- an entry prints the begin of the batch n
abbrev pub IsPrintedBatch : List Entry → ℕ → Type 0
IsPrintedBatch history n = (epoch : ℕ) × IsPrintedBatchAt history n epoch

-- One of the entries commits the transaction, by what the entries before it tell.
pub record IsPrintedCommit (history : List Entry) (t : Transaction) : Type 0 where
  pub before : List Entry
  pub entry : Entry
  pub later : List Entry
  pub parts : history ≡ before ++ entry ∷ later
  pub commits : committed_by (opens_from [] before) entry ≡ Some t

-- One of the entries commits the transaction, with a reply that prints an epoch.
pub record IsPrintedCommitIn (history : List Entry) (t : Transaction) (epoch : ℕ) : Type 0 where
  pub before : List Entry
  pub entry : Entry
  pub later : List Entry
  pub parts : history ≡ before ++ entry ∷ later
  pub commits : committed_by (opens_from [] before) entry ≡ Some t
  pub printed : IsCommitReply entry.reply epoch

-- One of the entries commits a transaction with the number n, and its reply names a target.
pub record IsPrintedBefore (history : List Entry) (n : ℕ) : Type 0 where
  pub before : List Entry
  pub entry : Entry
  pub later : List Entry
  pub parts : history ≡ before ++ entry ∷ later
  pub tx : Transaction
  pub number : tx.number ≡ n
  pub commits : committed_by (opens_from [] before) entry ≡ Some tx
  pub epoch : ℕ
  pub target : ℕ
  pub printed : entry.reply ≡ replies.CommittedBefore epoch target
