-- The laws on what is preserved.
use Rattle.std.proofs.Common.{◌≡◌, inl, inr, ℕ, ◌<◌, Bool, true, false, List, [], ◌∷◌, ◌++◌, sym, ap, ◌∙◌, subst, ◌==◌, ◌≢◌, Contains}
use Rattle.std.specs.List.{AllByRecursion}
use Rattle.ltx_model.specs.declared.commands.Line.{Line}
use Rattle.ltx_model.specs.declared.replies.Entry.{Entry}
use Rattle.ltx_model.specs.Tables.{has_table}
use Rattle.ltx_model.specs.Operations.{Transaction, operations, table_of, touches}
use Rattle.ltx_model.specs.Agenda.{Member, LiveSlot, Committed, serial, part_before, part_from, has_slot}
use Rattle.ltx_model.specs.States.{IsShort, Active, transaction_of, Base, IsSound, State, LiveBatch, live_batches}
use Rattle.ltx_model.specs.Histories.{after, state}
use Rattle.ltx_model.specs.Answers.{IsLegalWith}
use Rattle.ltx_model.specs.Lists.{IsPairwise}
use Rattle.ltx_laws.specs.Structure.{IsKnown}
use Rattle.ltx_laws.specs.Guards.{LooksIntoNone, WritesNone, IsGuarded, GuardsAs}
use Rattle.ltx_laws.specs.Commits.{IsCommitOf}
use Rattle.ltx_lemmas.proofs.Lists.{any_item, all_map, all_contains}
use Rattle.ltx_laws.proofs.Pairs.{same_number}
use Rattle.ltx_laws.proofs.Spared.{none_held, not_holding}
use Rattle.ltx_laws.proofs.CommitCases.{IsOneCommit, commit_of_entry}
use Rattle.ltx_laws.proofs.GuardedStates.{IsGuardedState, guarded_of}
use Rattle.ltx_laws.proofs.LiveStates.{IsOpenBatch, open_batch, batch_stands}
use Rattle.ltx_laws.proofs.Unread.{IsNotOwn, unread_after, unwritten_before}
use Rattle.ltx_laws.proofs.PlacesByCommit.{entry_is}

pub short_touches_none : (built : State → Line → Bool) (base : Base) (history : List Entry) (entry : Entry) → IsSound base → IsLegalWith built base (history ++ entry ∷ []) → (o : Active) → IsCommitOf (state base history) entry o → o.kind ≡ IsShort
    → (table : ℕ) → touches (operations (transaction_of o)) table ≡ true → (b : LiveBatch) → Contains (live_batches (state base history)) b → has_table b.declared.writes table ≡ false
short_touches_none built base history entry sound legal o c kind table touched b live = by_case (commit_of_entry built (state base history) entry o (entry_is built base history [] entry sound legal) c) where
  by_case : IsOneCommit (state base history) c.session o entry.reply (after (state base history) entry) → has_table b.declared.writes table ≡ false
  by_case (inl h) =
      let found = any_item (λ op. table_of op == table) (operations (transaction_of o)) touched in
      subst (λ k. has_table b.declared.writes k ≡ false) (same_number (table_of found.0) table found.2)
      (not_holding (state base history) (table_of found.0) b (none_held (state base history) (operations (transaction_of o)) h.unheld found.0 found.1) live)
  by_case (inr (inl h)) = absurd (let none : ⊥ = cc (sym kind ∙ h.kind) in none)
  by_case (inr (inr h)) = absurd (let none : ⊥ = cc (sym kind ∙ h.kind) in none)

-- a live batch in a guarded state
module _ (base : Base) (s : State) (h : IsGuardedState base s) (b : LiveBatch) (live : Contains (live_batches s) b) where
  open_as : IsOpenBatch s b
  open_as = open_batch s b live

  not_own : (m : Member) → IsKnown s.active s.moves m → IsNotOwn s.moves b.tx.number b.declared m
  not_own (LiveSlot k) known = tt
  not_own (Committed t) known = λ e. all_contains (λ (u : Active). u.number ≢ t.number) s.active open_as.active known open_as.here (ap (λ (x : Transaction). x.number) open_as.tx ∙ sym e)

  own : AllByRecursion (IsNotOwn s.moves b.tx.number b.declared) s.agenda
  own = all_map (IsKnown s.active s.moves) (IsNotOwn s.moves b.tx.number b.declared) not_own s.agenda h.structure.members.known

  pairs : IsPairwise (IsGuarded s.moves b.tx.number b.declared) s.agenda
  pairs =
      let mine : GuardsAs s.agenda s.moves open_as.active.kind open_as.active.number = all_contains (λ u. GuardsAs s.agenda s.moves u.kind u.number) s.active open_as.active h.guards open_as.here in
      let as_batch : IsPairwise (IsGuarded s.moves open_as.active.number b.declared) s.agenda = subst (λ k. GuardsAs s.agenda s.moves k open_as.active.number) open_as.kind mine in
      subst (λ (x : Transaction). IsPairwise (IsGuarded s.moves x.number b.declared) s.agenda) open_as.tx as_batch

  pub batch_unread : (t : Transaction) → Contains (serial (part_from b.tx.number s.agenda)) t → LooksIntoNone b.declared.writes t
  batch_unread t here = unread_after s.moves b.tx.number b.declared s.agenda own pairs t here

  pub batch_unwritten : (t : Transaction) → Contains (serial (part_before b.tx.number s.agenda)) t → has_slot s.moves t.number ≡ true → b.tx.number < t.number → WritesNone b.declared.reads t
  batch_unwritten t here slotted less = unwritten_before s.moves b.tx.number b.declared s.agenda own (batch_stands base s h.structure b open_as).member pairs t here slotted less

pub nobody_behind : (built : State → Line → Bool) (base : Base) (history : List Entry) → IsSound base → IsLegalWith built base history → (b : LiveBatch) → Contains (live_batches (state base history)) b
    → (t : Transaction) → Contains (serial (part_from b.tx.number (state base history).agenda)) t → LooksIntoNone b.declared.writes t
nobody_behind built base history sound legal b live t here = batch_unread base (state base history) (guarded_of built base history legal) b live t here

pub no_younger_before : (built : State → Line → Bool) (base : Base) (history : List Entry) → IsSound base → IsLegalWith built base history → (b : LiveBatch) → Contains (live_batches (state base history)) b
    → (t : Transaction) → Contains (serial (part_before b.tx.number (state base history).agenda)) t → has_slot (state base history).moves t.number ≡ true → b.tx.number < t.number → WritesNone b.declared.reads t
no_younger_before built base history sound legal b live t here slotted less = batch_unwritten base (state base history) (guarded_of built base history legal) b live t here slotted less
