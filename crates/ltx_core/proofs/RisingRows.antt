-- The rows of the base stay as they are, so the latest rows stand in order where those do.
use Rattle.std.specs.Prelude.{nat_lt}
use Rattle.std.proofs.Common.{◌≡◌, ℕ, Bool, true, false, List, [], ◌∷◌, Option, Some, None, refl, sym, ap, ◌∙◌, subst}
use Rattle.ltx_model.specs.declared.commands.Op.{Op}
use Rattle.ltx_model.specs.declared.commands.Line.{Line}
use Rattle.ltx_model.specs.declared.replies.Entry.{Entry}
use Rattle.ltx_model.specs.declared.replies.Reply.{Reply}
use Rattle.ltx_model.specs.declared.replies.Reply.TheVariants as replies
use Rattle.ltx_model.specs.Keys.{IsRising}
use Rattle.ltx_model.specs.StoredRows.{cell_of}
use Rattle.ltx_model.specs.Agenda.{serial}
use Rattle.ltx_model.specs.States.{Declaration, Kind, IsShort, IsPending, IsLive, Active, Base, State, IsSound, first_state, active_of, latest}
use Rattle.ltx_model.specs.Histories.{session_of, operation_of, declared_by, begun, begun_if, answered_if, committed, committed_before, closed, left, ended, slot_after, slots_after, in_epoch, durable_if, in_session, to_active, in_transaction, reply_changes, after, state_from, state}
use Rattle.ltx_model.proofs.OneMore.{state-none, state-one, after-is}
use Rattle.ltx_lemmas.proofs.Rising.{rising_run}

-- a state over the same rows of the base
abbrev Over : State → State → Type 0
Over s t = t.base ≡ s.base

in_session_over : (s : State) (o : Option ℕ) (change : ℕ → State) → ((n : ℕ) → Over s (change n)) → Over s (in_session s o change)
in_session_over s None change each = refl
in_session_over s (Some n) change each = each n

to_active_over : (s : State) (o : Option Active) (change : Active → State) → ((u : Active) → Over s (change u)) → Over s (to_active s o change)
to_active_over s None change each = refl
to_active_over s (Some u) change each = each u

in_transaction_over : (s : State) (line : Line) (change : Active → ℕ → State) → ((u : Active) (n : ℕ) → Over s (change u n)) → Over s (in_transaction s line change)
in_transaction_over s line change each =
    in_session_over s (session_of line) (λ n. to_active s (active_of s n) (λ u. change u n)) (λ n. to_active_over s (active_of s n) (λ u. change u n) (λ u. each u n))

begun_if_over : (s : State) (d : Option Declaration) (n session : ℕ) → Over s (begun_if s d n session)
begun_if_over s None n session = refl
begun_if_over s (Some d) n session = refl

answered_if_over : (s : State) (o : Option Op) (reply : Reply) (session : ℕ) → Over s (answered_if s o reply session)
answered_if_over s None reply session = refl
answered_if_over s (Some op) reply session = refl

before_over : (s : State) (target : ℕ) (kind : Kind) (o : Active) (session : ℕ) → Over s (committed_before s target kind o session)
before_over s target IsShort o session = refl
before_over s target (IsPending d) o session = refl
before_over s target (IsLive d snapshot) o session = refl

left_over : (s : State) (kind : Kind) (n : ℕ) → Over s (left s kind n)
left_over s IsShort n = refl
left_over s (IsPending d) n = refl
left_over s (IsLive d snapshot) n = refl

slot_over : (epoch : ℕ) (s : State) (kind : Kind) (n : ℕ) → Over s (slot_after epoch s kind n)
slot_over epoch s IsShort n = refl
slot_over epoch s (IsPending d) n = refl
slot_over epoch s (IsLive d snapshot) n = refl

slots_over : (epoch : ℕ) (s : State) (os : List Active) → Over s (slots_after epoch s os)
slots_over epoch s [] = refl
slots_over epoch s (o ∷ os) = slots_over epoch (slot_after epoch s o.kind o.number) os ∙ slot_over epoch s o.kind o.number

durable_over : (s : State) (b : Bool) (epoch : ℕ) → Over s (durable_if b s epoch)
durable_over s false epoch = refl
durable_over s true epoch = refl

ended_over : (s : State) (line : Line) → Over s (in_transaction s line (ended s))
ended_over s line = in_transaction_over s line (ended s) (λ o n. left_over (closed s n) o.kind o.number)

answered_over : (s : State) (line : Line) (reply : Reply) → Over s (in_session s (session_of line) (answered_if s (operation_of line) reply))
answered_over s line reply = in_session_over s (session_of line) (answered_if s (operation_of line) reply) (answered_if_over s (operation_of line) reply)

changes_over : (s : State) (line : Line) (reply : Reply) → Over s (reply_changes s line reply)
changes_over s line (replies.Begun n) = in_session_over s (session_of line) (begun s IsShort n) (λ m. refl)
changes_over s line (replies.BegunAt n epoch) = in_session_over s (session_of line) (begun_if s (declared_by epoch line) n) (begun_if_over s (declared_by epoch line) n)
changes_over s line (replies.Found value) = answered_over s line (replies.Found value)
changes_over s line replies.Absent = answered_over s line replies.Absent
changes_over s line (replies.Rows rows) = answered_over s line (replies.Rows rows)
changes_over s line replies.Done = answered_over s line replies.Done
changes_over s line (replies.Committed epoch) = in_transaction_over s line (committed s) (λ o n. refl)
changes_over s line (replies.CommittedBefore epoch target) = in_transaction_over s line (λ o. committed_before s target o.kind o) (λ o n. before_over s target o.kind o n)
changes_over s line replies.Aborted = ended_over s line
changes_over s line (replies.Preserved table holder) = ended_over s line
changes_over s line (replies.Changed op table key found current) = ended_over s line
changes_over s line (replies.Late target op table key writer) = ended_over s line
changes_over s line (replies.Contradicts target op table key reader) = ended_over s line
changes_over s line (replies.Waiting tx) = refl
changes_over s line (replies.NotYet epoch) = refl
changes_over s line (replies.Outside table) = refl
changes_over s line (replies.NotPreserved table) = refl
changes_over s line replies.NoTx = refl
changes_over s line replies.HasTx = refl
changes_over s line replies.LimitEpoch = refl
changes_over s line replies.LimitOps = refl
changes_over s line replies.LimitTx = refl
changes_over s line replies.LimitLog = refl
changes_over s line (replies.Advanced epoch) = slots_over epoch (in_epoch s epoch) s.active
changes_over s line (replies.Durable epoch) = durable_over s (nat_lt s.durable epoch) epoch
changes_over s line replies.Pruned = refl
changes_over s line (replies.Bad cause) = refl
changes_over s line replies.Later = refl

states_over : (s : State) (entries : List Entry) → Over s (state_from s entries)
states_over s [] = ap (λ (t : State). t.base) (state-none s)
states_over s (e ∷ es) = ap (λ (t : State). t.base) (state-one s e es) ∙ states_over (after s e) es ∙ ap (λ (t : State). t.base) (after-is s e.line e.reply) ∙ changes_over s e.line e.reply

-- the latest rows stand in order
pub latest_rising : (base : Base) (history : List Entry) → IsSound base → IsRising cell_of (latest (state base history))
latest_rising base history sound =
    rising_run (state base history).base (serial (state base history).agenda) (subst (IsRising cell_of) (sym (states_over (first_state base) history)) sound.rising)
