-- What a commit in a legal history was: a short at the end, a batch at home, or a batch before its target.
use Rattle.std.proofs.Common.{◌≡◌, ◌⊎◌, inl, inr, ℕ, List, Option, Some, None, refl, sym, ap, ◌∙◌, subst₂, Bool}
use Rattle.ltx_model.specs.declared.commands.Line.{Line}
use Rattle.ltx_model.specs.declared.replies.Entry.{Entry}
use Rattle.ltx_model.specs.declared.replies.Reply.{Reply}
use Rattle.ltx_model.specs.declared.replies.Reply.TheVariants as replies
use Rattle.ltx_model.specs.Operations.{Transaction, operations}
use Rattle.ltx_model.specs.Agenda.{CommitShort, CommitHome, CommitBefore}
use Rattle.ltx_model.specs.States.{Declaration, IsShort, IsLive, Active, transaction_of, State, active_of, latest}
use Rattle.ltx_model.specs.Histories.{session_of, closed, moved, after}
use Rattle.ltx_model.specs.Shorts.{held_table, first_change}
use Rattle.ltx_model.specs.Batches.{target, first_witness, elder_reader}
use Rattle.ltx_model.specs.Answers.{staged}
use Rattle.ltx_model.specs.Explained.{effect_of, Commits}
use Rattle.ltx_lemmas.proofs.Lists.{some_same}
use Rattle.ltx_laws.specs.Commits.{IsCommitOf}
use Rattle.ltx_laws.proofs.Transitions.{Cases, live_of, entry_case}

pub record IsShortCommit (s : State) (session : ℕ) (o : Active) (reply : Reply) (after : State) : Type 0 where
  pub kind : o.kind ≡ IsShort
  pub unheld : held_table s (operations (transaction_of o)) ≡ None
  pub unchanged : first_change (latest s) o.steps ≡ None
  pub reply_is : reply ≡ replies.Committed s.epoch
  pub after_is : after ≡ moved (closed s session) s.epoch (CommitShort (transaction_of o))

pub record IsHomeCommit (s : State) (session : ℕ) (o : Active) (reply : Reply) (after : State) : Type 0 where
  pub declared : Declaration
  pub snapshot : List Transaction
  pub kind : o.kind ≡ IsLive declared snapshot
  pub nobody : target s (live_of o declared snapshot) ≡ None
  pub reply_is : reply ≡ replies.Committed s.epoch
  pub after_is : after ≡ moved (closed s session) s.epoch (CommitHome (transaction_of o))

pub record IsBeforeCommit (s : State) (session : ℕ) (o : Active) (reply : Reply) (after : State) : Type 0 where
  pub declared : Declaration
  pub snapshot : List Transaction
  pub place : ℕ
  pub kind : o.kind ≡ IsLive declared snapshot
  pub goal : target s (live_of o declared snapshot) ≡ Some place
  pub unwitnessed : first_witness s (live_of o declared snapshot) place ≡ None
  pub nobody : elder_reader s (live_of o declared snapshot) place ≡ None
  pub reply_is : reply ≡ replies.CommittedBefore s.epoch place
  pub after_is : after ≡ moved (closed s session) s.epoch (CommitBefore (transaction_of o) place)

abbrev pub IsOneCommit : State → ℕ → Active → Reply → State → Type 0
IsOneCommit s session o reply after = IsShortCommit s session o reply after ⊎ (IsHomeCommit s session o reply after ⊎ IsBeforeCommit s session o reply after)

abbrev pub TellsCommit : State → Line → Reply → State → Type 0
TellsCommit s line reply after = (session : ℕ) (o : Active) → session_of line ≡ Some session → active_of s session ≡ Some o → effect_of reply ≡ Commits → IsOneCommit s session o reply after

-- the session of a line, and its open transaction, are one
same_open : (s : State) (session other : ℕ) (o u : Active) → ◌≡◌ {A = Option ℕ} (Some session) (Some other) → active_of s session ≡ Some o → active_of s other ≡ Some u → o ≡ u
same_open s session other o u e is at = some_same (sym is ∙ ap (active_of s) (some_same e) ∙ at)

pub commit_cases : (s : State) → Cases s (TellsCommit s)
commit_cases s = record {
  nothing = λ line reply leaves session o asked at commits. absurd (let none : ⊥ = cc in none);
  begins_short = λ session' none session o asked at commits. absurd (let none : ⊥ = cc in none);
  begins_long = λ session' writes reads none session o asked at commits. absurd (let none : ⊥ = cc in none);
  answers_short = λ session' op u reply is kind held sees answers session o asked at commits. absurd (let none : ⊥ = cc in none);
  answers_batch = λ session' op u d snapshot reply is kind inside sees answers session o asked at commits. absurd (let none : ⊥ = cc in none);
  commits_short = λ session' u is kind held unchanged session o asked at commits. one session' session u o asked is at (λ n x. IsOneCommit s n x (replies.Committed s.epoch) (moved (closed s session') s.epoch (CommitShort (transaction_of u))))
      (inl (record { kind = kind; unheld = held; unchanged = unchanged; reply_is = refl; after_is = refl }));
  commits_home = λ session' u d snapshot is kind none session o asked at commits. one session' session u o asked is at (λ n x. IsOneCommit s n x (replies.Committed s.epoch) (moved (closed s session') s.epoch (CommitHome (transaction_of u))))
      (inr (inl (record { declared = d; snapshot = snapshot; kind = kind; nobody = none; reply_is = refl; after_is = refl })));
  commits_before = λ session' u d snapshot p is kind t witness reader session o asked at commits. one session' session u o asked is at (λ n x. IsOneCommit s n x (replies.CommittedBefore s.epoch p) (moved (closed s session') s.epoch (CommitBefore (transaction_of u) p)))
      (inr (inr (record { declared = d; snapshot = snapshot; place = p; kind = kind; goal = t; unwitnessed = witness; nobody = reader; reply_is = refl; after_is = refl })));
  ends = λ session' verb reply u is e session o asked at commits. absurd (let none : ⊥ = cc in none);
  advances = λ session o asked at commits. absurd (let none : ⊥ = cc in none);
  flushes = λ epoch which session o asked at commits. absurd (let none : ⊥ = cc in none);
} where
  one : (session' session : ℕ) (u o : Active) → ◌≡◌ {A = Option ℕ} (Some session') (Some session) → active_of s session' ≡ Some u → active_of s session ≡ Some o → (P : ℕ → Active → Type 0) → P session' u → P session o
  one session' session u o asked is at P p = subst₂ P (some_same asked) (same_open s session' session u o asked is at) p

-- a commit of a legal history
pub commit_of_entry : (built : State → Line → Bool) (s : State) (entry : Entry) (o : Active) → entry.reply ≡ staged built s entry.line → (c : IsCommitOf s entry o) → IsOneCommit s c.session o entry.reply (after s entry)
commit_of_entry built s entry o is c = entry_case s (TellsCommit s) (commit_cases s) built entry is c.session o c.asked c.opened c.printed
