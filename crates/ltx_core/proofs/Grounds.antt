-- What is kept of an open transaction holds on later ground: where the store keeps what is seen at earlier marks, and the slot of a live batch stays what it was.
use Rattle.std.proofs.Common.{◌≡◌, ℕ, ◌≤◌, List, refl, sym, ap, ◌∙◌, subst, arith}
use Rattle.ltx_model.specs.Lists.{numbered}
use Rattle.ltx_model.specs.Keys.{Cell}
use Rattle.ltx_model.specs.LastWrites.{last_write}
use Rattle.ltx_model.specs.Rows.{run}
use Rattle.ltx_model.specs.Notes.{AreNotesBy}
use Rattle.ltx_model.specs.Decisions.{IsAskedLook}
use Rattle.ltx_model.specs.Operations.{Transaction}
use Rattle.ltx_model.specs.States.{Declaration, Kind, IsShort, IsPending, IsLive, Step, Active}
use Rattle.std.specs.List.{AllByRecursion}
use Rattle.ltx_chain.specs.Versions.{visible}
use Rattle.ltx_store.specs.Kept.{Kept, versions_at, rows_at}
use Rattle.ltx_open.specs.declared.stage.Stage.{Stage}
use Rattle.ltx_open.specs.declared.stage.Stage.TheVariants as stages
use Rattle.ltx_open.specs.Views.{OpenView}
use Rattle.ltx_core.specs.Stands.{Ground, everybody, write_seen, IsSlotAt, IsOfKind, IsOpen}
use Rattle.ltx_core.proofs.MarkedNotes.{marks_stay}

-- Later ground: the same base, no fewer commits, and at each mark up to the number of commits before the same rows and versions.
pub record IsLater (g new : Ground) : Type 0 where
  pub base : new.base ≡ g.base
  pub more : g.commits ≤ new.commits
  pub rows : (m : ℕ) → m ≤ g.commits → rows_at m new.store ≡ rows_at m g.store
  pub seen : (m : ℕ) → m ≤ g.commits → (cell : Cell) → visible m (versions_at new.store cell) ≡ visible m (versions_at g.store cell)

-- the slot of a live batch on it
abbrev pub KeepsSlot : Ground → Ground → ℕ → Kind → Type 0
KeepsSlot g new n kind = (d : Declaration) (snapshot : List Transaction) (mark : ℕ) → kind ≡ IsLive d snapshot → IsSlotAt g n d.writes mark → IsSlotAt new n d.writes mark

module _ (g new : Ground) (later : IsLater g new) where
  kind_later : (n : ℕ) (steps : List Step) (a : OpenView) (kind : Kind) (stage : Stage) → KeepsSlot g new n kind → IsOfKind g n steps a kind stage → IsOfKind new n steps a kind stage
  kind_later n steps a IsShort stages.Short slot is = record {
    notes = subst (λ rows. AreNotesBy (λ step. IsAskedLook everybody (last_write rows step.order)) (numbered steps) a.notes.notes) (sym later.base) is.notes;
    marks = marks_stay g.store new.store g.commits new.commits steps a.notes.marks later.more later.rows is.marks;
    moments = subst (λ rows. AllByRecursion (λ b. b.latest ≡ run rows b.order) steps) (sym later.base) is.moments;
    rising = is.rising;
  }
  kind_later n steps a (IsPending d) (stages.Pending e) slot is = is
  kind_later n steps a (IsLive d snapshot) (stages.Live e mark) slot is =
      let at : IsSlotAt g n d.writes mark = is.1.slot_at in
      let within : mark ≤ g.commits = at.within in (
        is.0,
        record {
          slot_at = slot d snapshot mark refl at;
          rows = later.rows mark within ∙ is.1.rows ∙ ap (λ rows. run rows snapshot) (sym later.base);
          writes = λ cell. ap write_seen (later.seen mark within cell) ∙ is.1.writes cell ∙ ap (λ rows. last_write rows snapshot cell) (sym later.base);
          notes = subst (λ rows. AreNotesBy (λ step. IsAskedLook everybody (last_write rows snapshot)) (numbered steps) a.notes.notes) (sym later.base) is.1.notes;
        },
      )
  kind_later n steps a IsShort (stages.Pending e) slot is = absurd is
  kind_later n steps a IsShort (stages.Live e mark) slot is = absurd is
  kind_later n steps a (IsPending d) stages.Short slot is = absurd is
  kind_later n steps a (IsPending d) (stages.Live e mark) slot is = absurd is
  kind_later n steps a (IsLive d snapshot) stages.Short slot is = absurd is
  kind_later n steps a (IsLive d snapshot) (stages.Pending e) slot is = absurd is

  pub open_later : (o : Active) (a : OpenView) → KeepsSlot g new o.number o.kind → IsOpen g o a → IsOpen new o a
  open_later o a slot is = record { number = is.number; own = is.own; kind = kind_later o.number o.steps a o.kind a.stage slot is.kind }

-- ground with another store that keeps the same versions, and nothing else changed
abbrev pub with_store : Ground → List Kept → Ground
with_store g store = record { store = store; commits = g.commits; batch = g.batch; base = g.base; agenda = g.agenda; moves = g.moves }

slot_there : (g : Ground) (store : List Kept) (n tables mark : ℕ) → IsSlotAt g n tables mark → IsSlotAt (with_store g store) n tables mark
slot_there g store n tables mark at = record { within = at.within; slot = at.slot; since = at.since; unwritten = at.unwritten }

pub open_restored : (g : Ground) (store : List Kept) → ((m : ℕ) → rows_at m store ≡ rows_at m g.store) → ((cell : Cell) → versions_at store cell ≡ versions_at g.store cell) → (o : Active) (a : OpenView) → IsOpen g o a
    → IsOpen (with_store g store) o a
open_restored g store rows versions o a is =
    open_later g (with_store g store) (record { base = refl; more = omega arith; rows = λ m within. rows m; seen = λ m within cell. ap (visible m) (versions cell) }) o a
    (λ d snapshot mark kind at. slot_there g store o.number d.writes mark at) is
