-- What the entries print of commits is what they are in the state: a short's or a batch's, by the begin that was printed.
use Rattle.std.proofs.Common.{◌≡◌, ◌⊎◌, inl, inr, ℕ, Bool, true, false, List, [], ◌∷◌, ◌++◌, Option, Some, None, option_map, refl, sym, ap, ◌∙◌, subst, Contains}
use Rattle.std.proofs.lemmas.Bool.{eqb-true, false_from_ne_true}
use Rattle.std.specs.List.{cons_option}
use Rattle.ltx_model.specs.declared.commands.Line.{Line}
use Rattle.ltx_model.specs.declared.replies.Entry.{Entry}
use Rattle.ltx_model.specs.Operations.{Transaction}
use Rattle.ltx_model.specs.Agenda.{Move, Slot, CommitShort, CommitHome, CommitBefore, Leave, Timed, is_slot}
use Rattle.ltx_model.specs.States.{Declaration, Kind, IsShort, IsPending, IsLive, Active, transaction_of, Base, IsSound, State, first_state, is_of, active_of}
use Rattle.ltx_model.specs.Histories.{session_of, state}
use Rattle.ltx_model.specs.Answers.{IsLegalWith}
use Rattle.ltx_model.specs.Explained.{Open, Effect, Begins, Answers, Commits, Ends, Leaves, effect_of, opens_after, commit_by, commit_in_session, committed_by, opens_from, committed_from, committed_in}
use Rattle.ltx_model.proofs.OneMore.{legal-parts}
use Rattle.ltx_lemmas.proofs.Lists.{some_same, none_some, all_contains, any_item, find_contains, contains_none, contains_cases, contains_front}
use Rattle.ltx_model.specs.Agenda.{has_slot}
use Rattle.ltx_laws.specs.Told.{open_of, opens_of}
use Rattle.ltx_laws.specs.Commits.{IsCommitOf}
use Rattle.ltx_laws.specs.Printed.{IsPrintedShort, IsPrintedBatchAt, IsPrintedBatch, IsPrintedCommit}
use Rattle.ltx_laws.proofs.Told.{opens_find, opens_told}
use Rattle.ltx_laws.proofs.Begins.{IsBegunAs, IsToldMove, AreBegun, begun_of}
use Rattle.ltx_laws.proofs.SlotsKept.{batch_slotted, pending_waits}

-- who commits, by the open transactions of the state
pub record IsCommitter (s : State) (entry : Entry) (t : Transaction) : Type 0 where
  pub active : Active
  pub commit : IsCommitOf s entry active
  pub same : transaction_of active ≡ t

module _ (s : State) (entry : Entry) (t : Transaction) where
  by_find : (session : ℕ) → session_of entry.line ≡ Some session → effect_of entry.reply ≡ Commits → (f : Option Active) → active_of s session ≡ f → option_map (λ (o : Open). o.tx) (option_map open_of f) ≡ Some t → IsCommitter s entry t
  by_find session asked printed None opened e = absurd (none_some e)
  by_find session asked printed (Some o) opened e = record { active = o; commit = record { session = session; asked = asked; opened = opened; printed = printed }; same = some_same e }

  by_effect : (session : ℕ) → session_of entry.line ≡ Some session → (f : Effect) → effect_of entry.reply ≡ f → commit_by f session (opens_of s.active) ≡ Some t → IsCommitter s entry t
  by_effect session asked (Begins n) is e = absurd (none_some e)
  by_effect session asked Answers is e = absurd (none_some e)
  by_effect session asked Commits is e = by_find session asked is (active_of s session) refl (ap (option_map (λ (o : Open). o.tx)) (sym (opens_find session s.active)) ∙ e)
  by_effect session asked Ends is e = absurd (none_some e)
  by_effect session asked Leaves is e = absurd (none_some e)

  by_session : (f : Option ℕ) → session_of entry.line ≡ f → commit_in_session f entry.reply (opens_of s.active) ≡ Some t → IsCommitter s entry t
  by_session None asked e = absurd (none_some e)
  by_session (Some session) asked e = by_effect session asked (effect_of entry.reply) refl e

  pub committer : committed_by (opens_of s.active) entry ≡ Some t → IsCommitter s entry t
  committer e = by_session (session_of entry.line) refl e

-- the other way round
pub committer_told : (s : State) (entry : Entry) (o : Active) → IsCommitOf s entry o → committed_by (opens_of s.active) entry ≡ Some (transaction_of o)
committer_told s entry o c =
    ap (λ f. commit_in_session f entry.reply (opens_of s.active)) c.asked
    ∙ ap (λ f. commit_by f c.session (opens_of s.active)) c.printed
    ∙ ap (option_map (λ (u : Open). u.tx)) (opens_find c.session s.active)
    ∙ ap (λ f. option_map (λ (u : Open). u.tx) (option_map open_of f)) c.opened

-- what is committed is committed by one of the entries
record IsCommitFrom (opens : List Open) (history : List Entry) (t : Transaction) : Type 0 where
  before : List Entry
  entry : Entry
  later : List Entry
  parts : history ≡ before ++ entry ∷ later
  commits : committed_by (opens_from opens before) entry ≡ Some t

commit_from : (opens : List Open) (history : List Entry) (t : Transaction) → Contains (committed_from opens history) t → IsCommitFrom opens history t
unfolding committed_from opens_from
commit_from opens [] t c = absurd (contains_none t c)
commit_from opens (entry ∷ entries) t c = by_commit (committed_by opens entry) refl c (commit_from (opens_after opens entry) entries t) where
  later : IsCommitFrom (opens_after opens entry) entries t → IsCommitFrom opens (entry ∷ entries) t
  later h = record { before = entry ∷ h.before; entry = h.entry; later = h.later; parts = ap (λ l. entry ∷ l) h.parts; commits = h.commits }

  by_commit : (f : Option Transaction) → committed_by opens entry ≡ f → Contains (cons_option f (committed_from (opens_after opens entry) entries)) t
      → (Contains (committed_from (opens_after opens entry) entries) t → IsCommitFrom (opens_after opens entry) entries t) → IsCommitFrom opens (entry ∷ entries) t
  by_commit None is c rest = later (rest c)
  by_commit (Some u) is c rest = by_case (contains_cases u (committed_from (opens_after opens entry) entries) t c) where
    by_case : (u ≡ t) ⊎ Contains (committed_from (opens_after opens entry) entries) t → IsCommitFrom opens (entry ∷ entries) t
    by_case (inl same) = record { before = []; entry = entry; later = entries; parts = refl; commits = is ∙ ap Some same }
    by_case (inr d) = later (rest d)

pub commit_printed : (built : State → Line → Bool) (base : Base) (history : List Entry) → IsSound base → IsLegalWith built base history → (t : Transaction) → Contains (committed_in history) t → IsPrintedCommit history t
commit_printed built base history sound legal t c = let h = commit_from [] history t c in record { before = h.before; entry = h.entry; later = h.later; parts = h.parts; commits = h.commits }

-- over histories
module _ (built : State → Line → Bool) (base : Base) (history : List Entry) (sound : IsSound base) (legal : IsLegalWith built base history) where
  abbrev s : State
  s = state base history

  begun : AreBegun history s
  begun = begun_of built base history legal

  pub slot_printed : (n epoch : ℕ) → Contains s.moves (record { epoch = epoch; move = Slot n }) → IsPrintedBatchAt history n epoch
  slot_printed n epoch here = all_contains (λ (m : Timed). IsToldMove history m.epoch m.move) s.moves (record { epoch = epoch; move = Slot n }) begun.moves here

  pub slotted_printed : (n : ℕ) → has_slot s.moves n ≡ true → IsPrintedBatch history n
  slotted_printed n e =
      let found = any_item (λ (m : Timed). is_slot n m.move) s.moves e in
      by_move found.0.move found.0.epoch (all_contains (λ (m : Timed). IsToldMove history m.epoch m.move) s.moves found.0 begun.moves found.1) found.2 where
        by_move : (m : Move) (epoch : ℕ) → IsToldMove history epoch m → is_slot n m ≡ true → IsPrintedBatch history n
        by_move (Slot k) epoch told is = (epoch, subst (λ i. IsPrintedBatchAt history i epoch) (eqb-true k n is) told)
        by_move (CommitShort t) epoch told is = cc
        by_move (CommitHome t) epoch told is = cc
        by_move (CommitBefore t target) epoch told is = cc
        by_move (Leave k) epoch told is = cc

  pub begun_once : (n : ℕ) → IsPrintedShort history n → IsPrintedBatch history n → ⊥
  begun_once n short batch =
      let b = batch.1 in
      let same : short.entry.reply ≡ b.entry.reply = begun.one short.entry b.entry n short.here b.here (ap effect_of short.printed) (ap effect_of b.printed) in
      let none : ⊥ = cc (sym short.printed ∙ same ∙ b.printed) in none

  pub short_has_none : (n : ℕ) → IsPrintedShort history n → has_slot s.moves n ≡ false
  short_has_none n short = false_from_ne_true (has_slot s.moves n) (λ is. begun_once n short (slotted_printed n is))

-- a commit among the entries
module _ (built : State → Line → Bool) (base : Base) (before later : List Entry) (entry : Entry) (sound : IsSound base) (legal : IsLegalWith built base (before ++ entry ∷ later)) where
  abbrev then : State
  then = state base before

  before_is : IsLegalWith built base before
  before_is = (legal-parts built (first_state base) before (entry ∷ later) legal).0

  pub committer_is : (t : Transaction) → committed_by (opens_from [] before) entry ≡ Some t → IsCommitter then entry t
  committer_is t e = committer then entry t (ap (λ os. committed_by os entry) (opens_told built base before before_is) ∙ e)

  pub committer_prints : (o : Active) → IsCommitOf then entry o → committed_by (opens_from [] before) entry ≡ Some (transaction_of o)
  committer_prints o c = ap (λ os. committed_by os entry) (sym (opens_told built base before before_is)) ∙ committer_told then entry o c

  -- an open transaction began as its kind
  as_begun : (o : Active) → IsCommitOf then entry o → (k : Kind) → o.kind ≡ k → IsBegunAs before then.epoch k o.number
  as_begun o c k kind =
      subst (λ x. IsBegunAs before then.epoch x o.number) kind
      (all_contains (λ (u : Active). IsBegunAs before then.epoch u.kind u.number) then.active o (begun_of built base before before_is).opens (find_contains (is_of c.session) then.active o c.opened))

  wider_short : (n : ℕ) → IsPrintedShort before n → IsPrintedShort (before ++ entry ∷ later) n
  wider_short n h = record { entry = h.entry; here = contains_front before (entry ∷ later) h.entry h.here; printed = h.printed }

  wider_batch : (n epoch : ℕ) → IsPrintedBatchAt before n epoch → IsPrintedBatch (before ++ entry ∷ later) n
  wider_batch n epoch h = (epoch, record { entry = h.entry; here = contains_front before (entry ∷ later) h.entry h.here; printed = h.printed })

  pub commit_as : (o : Active) → IsCommitOf then entry o
      → ((o.kind ≡ IsShort) × IsPrintedShort (before ++ entry ∷ later) o.number)
      ⊎ ((d : Declaration) × (snapshot : List Transaction) × (o.kind ≡ IsLive d snapshot) × IsPrintedBatchAt before o.number d.from × IsPrintedBatch (before ++ entry ∷ later) o.number)
  commit_as o c = by_kind o.kind refl where
    by_kind : (k : Kind) → o.kind ≡ k
        → ((k ≡ IsShort) × IsPrintedShort (before ++ entry ∷ later) o.number)
        ⊎ ((d : Declaration) × (snapshot : List Transaction) × (k ≡ IsLive d snapshot) × IsPrintedBatchAt before o.number d.from × IsPrintedBatch (before ++ entry ∷ later) o.number)
    by_kind IsShort kind = inl (refl, wider_short o.number (as_begun o c IsShort kind))
    by_kind (IsPending d) kind = absurd (pending_waits built base before later entry sound legal o c d kind)
    by_kind (IsLive d snapshot) kind = let b : IsPrintedBatchAt before o.number d.from = as_begun o c (IsLive d snapshot) kind in inr (d, snapshot, refl, b, wider_batch o.number d.from b)

  pub begun_short_is : (o : Active) → IsCommitOf then entry o → IsPrintedShort (before ++ entry ∷ later) o.number → o.kind ≡ IsShort
  begun_short_is o c short = by_case (commit_as o c) where
    by_case : ((o.kind ≡ IsShort) × IsPrintedShort (before ++ entry ∷ later) o.number)
        ⊎ ((d : Declaration) × (snapshot : List Transaction) × (o.kind ≡ IsLive d snapshot) × IsPrintedBatchAt before o.number d.from × IsPrintedBatch (before ++ entry ∷ later) o.number) → o.kind ≡ IsShort
    by_case (inl h) = h.0
    by_case (inr h) = absurd (begun_once built base (before ++ entry ∷ later) sound legal o.number short h.4)

  pub begun_batch_is : (o : Active) → IsCommitOf then entry o → IsPrintedBatch (before ++ entry ∷ later) o.number
      → (d : Declaration) × (snapshot : List Transaction) × (o.kind ≡ IsLive d snapshot) × IsPrintedBatchAt before o.number d.from
  begun_batch_is o c batch = by_case (commit_as o c) where
    by_case : ((o.kind ≡ IsShort) × IsPrintedShort (before ++ entry ∷ later) o.number)
        ⊎ ((d : Declaration) × (snapshot : List Transaction) × (o.kind ≡ IsLive d snapshot) × IsPrintedBatchAt before o.number d.from × IsPrintedBatch (before ++ entry ∷ later) o.number)
        → (d : Declaration) × (snapshot : List Transaction) × (o.kind ≡ IsLive d snapshot) × IsPrintedBatchAt before o.number d.from
    by_case (inl h) = absurd (begun_once built base (before ++ entry ∷ later) sound legal o.number h.1 batch)
    by_case (inr h) = (h.0, h.1, h.2, h.3)

-- what is committed
module _ (built : State → Line → Bool) (base : Base) (history : List Entry) (sound : IsSound base) (legal : IsLegalWith built base history) (t : Transaction) (done : Contains (committed_in history) t) where
  at : IsPrintedCommit history t
  at = commit_printed built base history sound legal t done

  legal_there : IsLegalWith built base (at.before ++ at.entry ∷ at.later)
  legal_there = subst (IsLegalWith built base) at.parts legal

  who : IsCommitter (state base at.before) at.entry t
  who = committer_is built base at.before at.later at.entry sound legal_there t at.commits

  number : who.active.number ≡ t.number
  number = ap (λ (u : Transaction). u.number) who.same

  pub committed_began : IsPrintedShort history t.number ⊎ IsPrintedBatch history t.number
  committed_began = by_case (commit_as built base at.before at.later at.entry sound legal_there who.active who.commit) where
    by_case : ((who.active.kind ≡ IsShort) × IsPrintedShort (at.before ++ at.entry ∷ at.later) who.active.number)
        ⊎ ((d : Declaration) × (snapshot : List Transaction) × (who.active.kind ≡ IsLive d snapshot) × IsPrintedBatchAt at.before who.active.number d.from × IsPrintedBatch (at.before ++ at.entry ∷ at.later) who.active.number)
        → IsPrintedShort history t.number ⊎ IsPrintedBatch history t.number
    by_case (inl h) = inl (subst (λ l. IsPrintedShort l t.number) (sym at.parts) (subst (IsPrintedShort (at.before ++ at.entry ∷ at.later)) number h.1))
    by_case (inr h) = inr (subst (λ l. IsPrintedBatch l t.number) (sym at.parts) (subst (IsPrintedBatch (at.before ++ at.entry ∷ at.later)) number h.4))

  pub committed_batch_slotted : IsPrintedBatch history t.number → has_slot (state base history).moves t.number ≡ true
  committed_batch_slotted batch =
      let there : IsPrintedBatch (at.before ++ at.entry ∷ at.later) who.active.number = subst (IsPrintedBatch (at.before ++ at.entry ∷ at.later)) (sym number) (subst (λ l. IsPrintedBatch l t.number) at.parts batch) in
      let live = begun_batch_is built base at.before at.later at.entry sound legal_there who.active who.commit there in
      subst (λ l. has_slot (state base l).moves t.number ≡ true) (sym at.parts)
      (subst (λ n. has_slot (state base (at.before ++ at.entry ∷ at.later)).moves n ≡ true) number (batch_slotted built base at.before at.later at.entry sound legal_there who.active who.commit live.0 live.1 live.2))
