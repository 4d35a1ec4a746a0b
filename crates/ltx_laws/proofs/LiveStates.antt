-- The laws on states, from the structure.
use Rattle.std.proofs.Common.{◌≡◌, Bool, List, [], Some, refl, sym, ap, subst, Contains}
use Rattle.ltx_model.specs.declared.commands.Line.{Line}
use Rattle.ltx_model.specs.declared.replies.Entry.{Entry}
use Rattle.ltx_model.specs.Operations.{Transaction}
use Rattle.ltx_model.specs.Agenda.{agenda_from, moves_until, serial, commits_of}
use Rattle.ltx_model.specs.States.{Kind, IsShort, IsPending, IsLive, Active, transaction_of, Base, IsSound, State, LiveBatch, as_live, live_batches}
use Rattle.ltx_model.specs.Histories.{state}
use Rattle.ltx_model.specs.Answers.{IsLegalWith}
use Rattle.ltx_model.specs.Explained.{committed_in, opens_from}
use Rattle.ltx_laws.specs.Structure.{AreOpen, IsLiveBatch, StandsAs, Stands, Structure}
use Rattle.ltx_laws.specs.Told.{opens_of}
use Rattle.ltx_lemmas.proofs.Lists.{all_contains, given_item, some_same, none_some}
use Rattle.ltx_laws.proofs.Transitions.{live_of}
use Rattle.ltx_laws.proofs.Told.{commits_told, opens_told}
use Rattle.ltx_laws.proofs.Structures.{structure_of}

-- A live batch is an open transaction of that kind.
pub record IsOpenBatch (s : State) (b : LiveBatch) : Type 0 where
  pub active : Active
  pub here : Contains s.active active
  pub kind : active.kind ≡ IsLive b.declared b.snapshot
  pub tx : transaction_of active ≡ b.tx

pub open_batch : (s : State) (b : LiveBatch) → Contains (live_batches s) b → IsOpenBatch s b
open_batch s b here = let found = given_item (λ u. as_live u.kind (transaction_of u)) s.active b here in by_kind found.0 found.1 found.0.kind refl found.2 where
  by_kind : (o : Active) → Contains s.active o → (k : Kind) → o.kind ≡ k → as_live k (transaction_of o) ≡ Some b → IsOpenBatch s b
  by_kind o at IsShort kind e = absurd (none_some e)
  by_kind o at (IsPending d) kind e = absurd (none_some e)
  by_kind o at (IsLive d snapshot) kind e =
      let same : live_of o d snapshot ≡ b = some_same e in
      record { active = o; here = at; kind = subst (λ (c : LiveBatch). o.kind ≡ IsLive c.declared c.snapshot) same kind; tx = ap (λ (c : LiveBatch). c.tx) same }

pub open_in_order : (built : State → Line → Bool) (base : Base) (history : List Entry) → IsSound base → IsLegalWith built base history → AreOpen base (state base history).last (state base history).active
open_in_order built base history sound legal = (structure_of built base history legal).opens

pub agenda_given : (built : State → Line → Bool) (base : Base) (history : List Entry) → IsSound base → IsLegalWith built base history → (state base history).agenda ≡ agenda_from [] (state base history).moves
agenda_given built base history sound legal = (structure_of built base history legal).moves

-- of an open live batch, where it stands
pub batch_stands : (base : Base) (s : State) → Structure base s → (b : LiveBatch) (h : IsOpenBatch s b) → IsLiveBatch s.agenda s.moves b.tx.number b.declared b.snapshot h.active.steps
batch_stands base s inv b h =
    let stands : StandsAs s.agenda s.moves (IsLive b.declared b.snapshot) h.active.number h.active.steps
    = subst (λ k. StandsAs s.agenda s.moves k h.active.number h.active.steps) h.kind (all_contains (Stands s.agenda s.moves) s.active h.active inv.stands h.here) in
    subst (λ (t : Transaction). IsLiveBatch s.agenda s.moves t.number b.declared b.snapshot h.active.steps) h.tx stands

pub snapshot_given : (built : State → Line → Bool) (base : Base) (history : List Entry) → IsSound base → IsLegalWith built base history → (b : LiveBatch) → Contains (live_batches (state base history)) b
    → b.snapshot ≡ serial (agenda_from [] (moves_until b.tx.number (state base history).moves))
snapshot_given built base history sound legal b here = let s : State = state base history in (batch_stands base s (structure_of built base history legal) b (open_batch s b here)).taken

pub committed_told : (built : State → Line → Bool) (base : Base) (history : List Entry) → IsSound base → IsLegalWith built base history → committed_in history ≡ commits_of (state base history).moves
committed_told built base history sound legal = sym (commits_told built base history legal)

pub open_told : (built : State → Line → Bool) (base : Base) (history : List Entry) → IsSound base → IsLegalWith built base history → opens_of (state base history).active ≡ opens_from [] history
open_told built base history sound legal = opens_told built base history legal

pub structured : (built : State → Line → Bool) (base : Base) (history : List Entry) → IsSound base → IsLegalWith built base history → Structure base (state base history)
structured built base history sound legal = structure_of built base history legal
