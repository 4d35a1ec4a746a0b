-- Commits in a history, and how a reply was printed.
use Rattle.std.specs.Prelude.{◌≡◌, ◌⊎◌, ℕ, List, ◌∷◌, ◌++◌, Some}
use Rattle.ltx_model.specs.declared.replies.Entry.{Entry}
use Rattle.ltx_model.specs.declared.replies.Reply.{Reply}
use Rattle.ltx_model.specs.declared.replies.Reply.TheVariants as replies
use Rattle.ltx_model.specs.Agenda.{Member, number_of}
use Rattle.ltx_model.specs.States.{Active, Base, State, active_of}
use Rattle.ltx_model.specs.Histories.{session_of, state}
use Rattle.ltx_model.specs.Explained.{effect_of, Commits}

-- The entry, in this state, commits the open transaction o of its session.
pub record IsCommitOf (s : State) (entry : Entry) (o : Active) : Type 0 where
  pub session : ℕ
  pub asked : session_of entry.line ≡ Some session
  pub opened : active_of s session ≡ Some o
  pub printed : effect_of entry.reply ≡ Commits

-- the reply of a commit at home, of a batch at its slot and of a short at the end
abbrev pub IsHomeReply : Reply → Type 0
IsHomeReply reply = (epoch : ℕ) × (reply ≡ replies.Committed epoch)

-- the reply of a commit before a target
abbrev pub IsForwardedReply : Reply → ℕ → Type 0
IsForwardedReply reply target = (epoch : ℕ) × (reply ≡ replies.CommittedBefore epoch target)

-- the reply of a commit in an epoch, at home or before a target
abbrev pub IsCommitReply : Reply → ℕ → Type 0
IsCommitReply reply epoch = (reply ≡ replies.Committed epoch) ⊎ ((target : ℕ) × (reply ≡ replies.CommittedBefore epoch target))

-- The history prints the transaction n as forwarded: one of its entries commits it, with a reply that names a target.
pub record IsPrintedForwarded (base : Base) (history : List Entry) (n : ℕ) : Type 0 where
  pub before : List Entry
  pub entry : Entry
  pub later : List Entry
  pub parts : history ≡ before ++ entry ∷ later
  pub active : Active
  pub number : active.number ≡ n
  pub commit : IsCommitOf (state base before) entry active
  pub target : ℕ
  pub printed : IsForwardedReply entry.reply target

-- The member x stands immediately before one with the number p.
pub record StandsJustBefore (ms : List Member) (x : Member) (p : ℕ) : Type 0 where
  pub front : List Member
  pub second : Member
  pub back : List Member
  pub parts : ms ≡ front ++ x ∷ second ∷ back
  pub target : number_of second ≡ p
