-- A batch becomes live in the epoch that its begin printed.
use Rattle.std.proofs.Common.{◌≡◌, ℕ, ◌+◌, Bool, true, false, nat_lt, List, [], ◌∷◌, ◌++◌, map, refl, sym, ap, subst, Contains}
use Rattle.std.specs.List.{AllByRecursion}
use Rattle.ltx_model.specs.declared.commands.Line.{Line}
use Rattle.ltx_model.specs.declared.replies.Entry.{Entry}
use Rattle.ltx_model.specs.declared.replies.Reply.{Reply}
use Rattle.ltx_model.specs.declared.commands.Op.{Op}
use Rattle.ltx_model.specs.Lists.{without_first}
use Rattle.ltx_model.specs.Operations.{Transaction}
use Rattle.ltx_model.specs.Agenda.{serial, Move, Slot, CommitShort, CommitHome, CommitBefore, Leave, Timed}
use Rattle.ltx_model.specs.States.{Declaration, Kind, IsShort, IsPending, IsLive, Active, transaction_of, Base, IsSound, State, first_state, is_of, latest, LiveBatch, live_batches}
use Rattle.ltx_model.specs.Histories.{with_step, answered, closed, moved, left, made_live, with_kind, in_epoch, advanced, durable_if, state}
use Rattle.ltx_model.specs.Answers.{IsLegalWith}
use Rattle.ltx_lemmas.proofs.Lists.{all_map, all_push, all_without, all_change, all_contains, all_from, all_mapped, contains_front, contains_back, given_here}
use Rattle.ltx_laws.proofs.Transitions.{Cases, along}
use Rattle.ltx_laws.proofs.StructureSlots.{slots_active}
use Rattle.ltx_laws.proofs.FloorCounts.{slot_if, slots_of, advanced_moves}
use Rattle.ltx_laws.proofs.DropsFrames.{slots_keep}
use Rattle.ltx_laws.proofs.LiveStates.{open_batch}

abbrev IsOfEpoch : ℕ → List Timed → Kind → ℕ → Type 0
IsOfEpoch epoch moves IsShort n = Unit {0}
IsOfEpoch epoch moves (IsPending d) n = d.from ≡ epoch + 1
IsOfEpoch epoch moves (IsLive d snapshot) n = Contains moves (record { epoch = d.from; move = Slot n })

abbrev AreOfEpoch : State → Type 0
AreOfEpoch s = AllByRecursion (λ o. IsOfEpoch s.epoch s.moves o.kind o.number) s.active

module _ (s : State) (h : AreOfEpoch s) where
  abbrev Here : Active → Type 0
  Here o = IsOfEpoch s.epoch s.moves o.kind o.number

  rest : (session : ℕ) → AllByRecursion Here (without_first (is_of session) s.active)
  rest session = all_without Here (is_of session) s.active h

  more : (m : Timed) (k : Kind) (n : ℕ) → IsOfEpoch s.epoch s.moves k n → IsOfEpoch s.epoch (s.moves ++ m ∷ []) k n
  more m IsShort n e = tt
  more m (IsPending d) n e = e
  more m (IsLive d snapshot) n e = contains_front s.moves (m ∷ []) (record { epoch = d.from; move = Slot n }) e

  after_move : (session : ℕ) (move : Move) → AreOfEpoch (moved (closed s session) s.epoch move)
  after_move session move =
      let m : Timed = record { epoch = s.epoch; move = move } in
      all_map Here (λ o. IsOfEpoch s.epoch (s.moves ++ m ∷ []) o.kind o.number) (λ o. more m o.kind o.number) (without_first (is_of session) s.active) (rest session)

  after_answer : (session : ℕ) (op : Op) (reply : Reply) → AreOfEpoch (answered s op reply session)
  after_answer session op reply = all_change Here Here (is_of session) (with_step (record { op = op; reply = reply; order = serial s.agenda; latest = latest s })) s.active (λ o e. e) (λ o is e. e) h

  after_end : (session : ℕ) (o : Active) (k : Kind) → AreOfEpoch (left (closed s session) k o.number)
  after_end session o IsShort = rest session
  after_end session o (IsPending d) = rest session
  after_end session o (IsLive d snapshot) = after_move session (Leave o.number)

  after_begin : (session : ℕ) (o : Active) → Here o → AllByRecursion Here (without_first (is_of session) s.active ++ o ∷ [])
  after_begin session o e = all_push Here (without_first (is_of session) s.active) o (rest session) e

  -- a pending batch has its slot among those of the advance
  slot_made : (o : Active) (k : Kind) → Contains s.active o → o.kind ≡ k → IsOfEpoch s.epoch s.moves k o.number
      → IsOfEpoch (s.epoch + 1) (s.moves ++ slots_of (s.epoch + 1) s.active) (made_live (serial s.agenda) k) o.number
  slot_made o IsShort here kind e = tt
  slot_made o (IsPending d) here kind e =
      let new : Timed = record { epoch = s.epoch + 1; move = Slot o.number } in
      let made : Contains (slots_of (s.epoch + 1) s.active) new = given_here (λ (u : Active). slot_if (s.epoch + 1) u.kind u.number) s.active o new here (ap (λ k. slot_if (s.epoch + 1) k o.number) kind) in
      subst (λ n. Contains (s.moves ++ slots_of (s.epoch + 1) s.active) (record { epoch = n; move = Slot o.number })) (sym e) (contains_back s.moves (slots_of (s.epoch + 1) s.active) new made)
  slot_made o (IsLive d snapshot) here kind e = contains_front s.moves (slots_of (s.epoch + 1) s.active) (record { epoch = d.from; move = Slot o.number }) e

  after_advance : AreOfEpoch (advanced s (s.epoch + 1))
  after_advance =
      let next = s.epoch + 1 in
      let made : AllByRecursion (λ o. IsOfEpoch next (s.moves ++ slots_of next s.active) (made_live (serial s.agenda) o.kind) o.number) s.active
      = all_from (λ o. IsOfEpoch next (s.moves ++ slots_of next s.active) (made_live (serial s.agenda) o.kind) o.number) s.active (λ o here. slot_made o o.kind here refl (all_contains Here s.active o h here)) in
      let there : AllByRecursion (λ o. IsOfEpoch next (s.moves ++ slots_of next s.active) o.kind o.number) (map (λ o. with_kind (made_live (serial s.agenda) o.kind) o) s.active)
      = all_mapped (λ (o : Active). IsOfEpoch next (s.moves ++ slots_of next s.active) o.kind o.number) (λ o. with_kind (made_live (serial s.agenda) o.kind) o) s.active made in
      subst (λ e. AllByRecursion (λ o. IsOfEpoch e (advanced s next).moves o.kind o.number) (advanced s next).active) (sym (slots_keep s next (in_epoch s next) s.active).0)
      (subst (λ l. AllByRecursion (λ o. IsOfEpoch next l o.kind o.number) (advanced s next).active) (sym (advanced_moves next (in_epoch s next) s.active))
      (subst (AllByRecursion (λ o. IsOfEpoch next (s.moves ++ slots_of next s.active) o.kind o.number)) (sym (slots_active next (in_epoch s next) s.active)) there))

  after_flush : (epoch : ℕ) (b : Bool) → AreOfEpoch (durable_if b s epoch)
  after_flush epoch true = h
  after_flush epoch false = h

  epoch_cases : Cases s (λ line reply after. AreOfEpoch after)
  epoch_cases = record {
    nothing = λ line reply leaves. h;
    begins_short = λ session none. after_begin session (record { session = session; kind = IsShort; number = s.last + 1; steps = [] }) tt;
    begins_long = λ session writes reads none. after_begin session (record { session = session; kind = IsPending (record { writes = writes; reads = reads; from = s.epoch + 1 }); number = s.last + 1; steps = [] }) refl;
    answers_short = λ session op o reply is kind free sees answers. after_answer session op reply;
    answers_batch = λ session op o d snapshot reply is kind free sees answers. after_answer session op reply;
    commits_short = λ session o is kind free unchanged. after_move session (CommitShort (transaction_of o));
    commits_home = λ session o d snapshot is kind none. after_move session (CommitHome (transaction_of o));
    commits_before = λ session o d snapshot p is kind aim free elder. after_move session (CommitBefore (transaction_of o) p);
    ends = λ session verb reply o is ends. after_end session o o.kind;
    advances = after_advance;
    flushes = λ epoch which. after_flush epoch (nat_lt s.durable epoch);
  }

epochs_of : (built : State → Line → Bool) (base : Base) (history : List Entry) → IsLegalWith built base history → AreOfEpoch (state base history)
epochs_of built base history legal = along built AreOfEpoch epoch_cases (first_state base) history tt legal

pub pending_next : (built : State → Line → Bool) (base : Base) (history : List Entry) → IsSound base → IsLegalWith built base history
    → (o : Active) (d : Declaration) → Contains (state base history).active o → o.kind ≡ IsPending d → d.from ≡ (state base history).epoch + 1
pending_next built base history sound legal o d here kind =
    let s : State = state base history in
    subst (λ k. IsOfEpoch s.epoch s.moves k o.number) kind (all_contains (λ (u : Active). IsOfEpoch s.epoch s.moves u.kind u.number) s.active o (epochs_of built base history legal) here)

pub live_slotted : (built : State → Line → Bool) (base : Base) (history : List Entry) → IsSound base → IsLegalWith built base history
    → (b : LiveBatch) → Contains (live_batches (state base history)) b → Contains (state base history).moves (record { epoch = b.declared.from; move = Slot b.tx.number })
live_slotted built base history sound legal b live =
    let s : State = state base history in
    let at = open_batch s b live in
    let own : IsOfEpoch s.epoch s.moves (IsLive b.declared b.snapshot) at.active.number
    = subst (λ k. IsOfEpoch s.epoch s.moves k at.active.number) at.kind (all_contains (λ (u : Active). IsOfEpoch s.epoch s.moves u.kind u.number) s.active at.active (epochs_of built base history legal) at.here) in
    subst (λ (t : Transaction). Contains s.moves (record { epoch = b.declared.from; move = Slot t.number })) at.tx own
