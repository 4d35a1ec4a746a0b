-- A committed transaction keeps what its slot tells: a batch had one and a short had none, in every longer history.
use Rattle.std.proofs.Common.{◌≡◌, ◌≢◌, inl, inr, ℕ, ◌+◌, Bool, true, false, ◌||◌, nat_lt, List, [], ◌∷◌, ◌++◌, Some, refl, sym, ap, ◌∙◌, subst, Contains, ne_eqb}
use Rattle.std.specs.List.{cons_option, AllByRecursion}
use Rattle.std.proofs.lemmas.List.Sorted.{Contains-permutation}
use Rattle.ltx_model.specs.declared.commands.Line.{Line}
use Rattle.ltx_model.specs.declared.replies.Entry.{Entry}
use Rattle.ltx_model.specs.Operations.{Transaction}
use Rattle.ltx_model.specs.Agenda.{Committed, Move, CommitShort, CommitHome, CommitBefore, Leave, Timed, is_slot, commit_of, commits_of, serial, has_slot}
use Rattle.ltx_model.specs.States.{Declaration, Kind, IsShort, IsPending, IsLive, Active, transaction_of, Base, IsSound, State, first_state}
use Rattle.ltx_model.specs.Histories.{closed, moved, left, ended, in_epoch, advanced, durable_if, made_durable, after, state, state_from}
use Rattle.ltx_model.specs.Answers.{IsLegalFrom, IsLegalWith}
use Rattle.ltx_model.proofs.OneMore.{state-append, legal-parts, legal-first}
use Rattle.ltx_laws.specs.Structure.{IsKnown, IsOpenShort, Structure}
use Rattle.ltx_laws.specs.Commits.{IsCommitOf}
use Rattle.ltx_lemmas.proofs.Lists.{any_append, all_contains, contains_here, contains_front, contains_back, given_here}
use Rattle.ltx_laws.proofs.Agendas.{or_false, any_push_not}
use Rattle.ltx_laws.proofs.Transitions.{Cases, entry_case}
use Rattle.ltx_laws.proofs.Structures.{structure_after, structure_of, stands_of, live_stands}
use Rattle.ltx_laws.proofs.FloorCounts.{slot_if, slots_of, advanced_moves}
use Rattle.ltx_laws.proofs.Unread.{serial_member}
use Rattle.ltx_laws.proofs.DropsFrames.{Grows, grows_cases}
use Rattle.ltx_laws.proofs.CommitCases.{IsOneCommit, commit_of_entry}
use Rattle.ltx_laws.proofs.PlacesByCommit.{entry_is}

-- an entry gives no slot to a number that no open transaction has
abbrev TellsKept : ℕ → State → State → Type 0
TellsKept n s after = AllByRecursion (λ u. u.number ≢ n) s.active → has_slot after.moves n ≡ has_slot s.moves n

slots_none : (n epoch : ℕ) (os : List Active) → AllByRecursion (λ u. u.number ≢ n) os → has_slot (slots_of epoch os) n ≡ false
slots_none n epoch [] apart = refl
slots_none n epoch (o ∷ os) apart = by_kind o.kind (slots_none n epoch os apart.1) where
  by_kind : (k : Kind) → has_slot (slots_of epoch os) n ≡ false → has_slot (cons_option (slot_if epoch k o.number) (slots_of epoch os)) n ≡ false
  by_kind IsShort rest = rest
  by_kind (IsPending d) rest = ap (λ b. b || has_slot (slots_of epoch os) n) (ne_eqb o.number n apart.0) ∙ rest
  by_kind (IsLive d snapshot) rest = rest

module _ (n : ℕ) (s : State) where
  push_kept : (m : Timed) → is_slot n m.move ≡ false → has_slot (s.moves ++ m ∷ []) n ≡ has_slot s.moves n
  push_kept m plain = any_push_not (λ y. is_slot n y.move) s.moves m plain

  ended_kept : (session : ℕ) (o : Active) → has_slot (ended s o session).moves n ≡ has_slot s.moves n
  ended_kept session o = by_kind o.kind where
    by_kind : (k : Kind) → has_slot (left (closed s session) k o.number).moves n ≡ has_slot s.moves n
    by_kind IsShort = refl
    by_kind (IsPending d) = refl
    by_kind (IsLive d snapshot) = push_kept (record { epoch = s.epoch; move = Leave o.number }) refl

  durable_kept : (epoch : ℕ) → has_slot (made_durable s epoch).moves n ≡ has_slot s.moves n
  durable_kept epoch = by_test (nat_lt s.durable epoch) where
    by_test : (b : Bool) → has_slot (durable_if b s epoch).moves n ≡ has_slot s.moves n
    by_test true = refl
    by_test false = refl

  advanced_kept : (epoch : ℕ) → AllByRecursion (λ u. u.number ≢ n) s.active → has_slot (advanced s epoch).moves n ≡ has_slot s.moves n
  advanced_kept epoch apart =
      ap (λ l. has_slot l n) (advanced_moves epoch (in_epoch s epoch) s.active) ∙ any_append (λ (y : Timed). is_slot n y.move) s.moves (slots_of epoch s.active)
      ∙ ap (λ b. has_slot s.moves n || b) (slots_none n epoch s.active apart) ∙ or_false (has_slot s.moves n)

  kept_cases : Cases s (λ line reply after. TellsKept n s after)
  kept_cases = record {
    nothing = λ line reply leaves apart. refl;
    begins_short = λ session none apart. refl;
    begins_long = λ session writes reads none apart. refl;
    answers_short = λ session op o reply is kind held sees answers apart. refl;
    answers_batch = λ session op o d snapshot reply is kind inside sees answers apart. refl;
    commits_short = λ session o is kind held unchanged apart. push_kept (record { epoch = s.epoch; move = CommitShort (transaction_of o) }) refl;
    commits_home = λ session o d snapshot is kind none apart. push_kept (record { epoch = s.epoch; move = CommitHome (transaction_of o) }) refl;
    commits_before = λ session o d snapshot p is kind t witness reader apart. push_kept (record { epoch = s.epoch; move = CommitBefore (transaction_of o) p }) refl;
    ends = λ session verb reply o is ends apart. ended_kept session o;
    advances = advanced_kept (s.epoch + 1);
    flushes = λ epoch which apart. durable_kept epoch;
  }

-- no open transaction has the number of a committed one
pub none_open : (base : Base) (s : State) → Structure base s → (t : Transaction) (m : Timed) → commit_of m.move ≡ Some t → Contains s.moves m → AllByRecursion (λ u. u.number ≢ t.number) s.active
none_open base s inv t m is here =
    let done : Contains (serial s.agenda) t = Contains-permutation (commits_of s.moves) (serial s.agenda) t inv.committed (given_here (λ (x : Timed). commit_of x.move) s.moves m t here is) in
    all_contains (IsKnown s.active s.moves) s.agenda (Committed t) inv.members.known (serial_member s.agenda t done)

-- along a legal history
kept_from : (built : State → Line → Bool) (base : Base) (s : State) (history : List Entry) (t : Transaction) (m : Timed) → commit_of m.move ≡ Some t → Structure base s → Contains s.moves m → IsLegalFrom built s history
    → has_slot (state_from s history).moves t.number ≡ has_slot s.moves t.number
unfolding IsLegalFrom state_from
kept_from built base s [] t m is inv here legal = refl
kept_from built base s (entry ∷ entries) t m is inv here legal =
    let g : Grows s (after s entry) = entry_case s (λ line reply s'. Grows s s') (grows_cases s) built entry legal.0 in
    kept_from built base (after s entry) entries t m is (structure_after built base s entry inv legal.0) (subst (λ l. Contains l m) (sym g.moves) (contains_front s.moves g.rest m here)) legal.1
    ∙ entry_case s (λ line reply s'. TellsKept t.number s s') (kept_cases t.number s) built entry legal.0 (none_open base s inv t m is here)

pub state_more : (base : Base) (history more : List Entry) (entry : Entry) → state base (history ++ entry ∷ more) ≡ state_from (after (state base history) entry) more
unfolding state_from
state_more base history more entry = state-append (first_state base) history (entry ∷ more)

-- a commit of a legal history
module _ (built : State → Line → Bool) (base : Base) (history more : List Entry) (entry : Entry) (sound : IsSound base) (legal : IsLegalWith built base (history ++ entry ∷ more)) (o : Active) (c : IsCommitOf (state base history) entry o) where
  abbrev s : State
  s = state base history

  inv : Structure base s
  inv = structure_of built base history (legal-parts built (first_state base) history (entry ∷ more) legal).0

  one : IsOneCommit s c.session o entry.reply (after s entry)
  one = commit_of_entry built s entry o (entry_is built base history more entry sound legal) c

  by_move : (move : Move) → commit_of move ≡ Some (transaction_of o) → is_slot o.number move ≡ false → after s entry ≡ moved (closed s c.session) s.epoch move
      → has_slot (state base (history ++ entry ∷ more)).moves o.number ≡ has_slot s.moves o.number
  by_move move is plain e =
      let m : Timed = record { epoch = s.epoch; move = move } in
      let first = legal-first built s entry more (legal-parts built (first_state base) history (entry ∷ more) legal).1 in
      ap (λ (x : State). has_slot x.moves o.number) (state_more base history more entry)
      ∙ kept_from built base (after s entry) more (transaction_of o) m is (structure_after built base s entry inv first.0) (subst (λ (x : State). Contains x.moves m) (sym e) (contains_back s.moves (m ∷ []) m (contains_here m []))) first.1
      ∙ ap (λ (x : State). has_slot x.moves o.number) e
      ∙ push_kept o.number s m plain

  slot_kept : has_slot (state base (history ++ entry ∷ more)).moves o.number ≡ has_slot s.moves o.number
  slot_kept = by_case one where
    by_case : IsOneCommit s c.session o entry.reply (after s entry) → has_slot (state base (history ++ entry ∷ more)).moves o.number ≡ has_slot s.moves o.number
    by_case (inl h) = by_move (CommitShort (transaction_of o)) refl refl h.after_is
    by_case (inr (inl h)) = by_move (CommitHome (transaction_of o)) refl refl h.after_is
    by_case (inr (inr h)) = by_move (CommitBefore (transaction_of o) h.place) refl refl h.after_is

  pub batch_slotted : (d : Declaration) (snapshot : List Transaction) → o.kind ≡ IsLive d snapshot → has_slot (state base (history ++ entry ∷ more)).moves o.number ≡ true
  batch_slotted d snapshot kind = slot_kept ∙ (live_stands base s inv c.session o c.opened d snapshot kind).slotted

  pub short_unslotted : o.kind ≡ IsShort → has_slot (state base (history ++ entry ∷ more)).moves o.number ≡ false
  short_unslotted kind = let h : IsOpenShort s.agenda s.moves o.number = stands_of base s inv c.session o c.opened IsShort kind in slot_kept ∙ h.unslotted

  pub pending_waits : (d : Declaration) → o.kind ≡ IsPending d → ⊥
  pending_waits d kind = by_case one where
    by_case : IsOneCommit s c.session o entry.reply (after s entry) → ⊥
    by_case (inl h) = let none : ⊥ = cc (sym kind ∙ h.kind) in none
    by_case (inr (inl h)) = let none : ⊥ = cc (sym kind ∙ h.kind) in none
    by_case (inr (inr h)) = let none : ⊥ = cc (sym kind ∙ h.kind) in none
