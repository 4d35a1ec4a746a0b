-- What is recorded of a commit, and which areas are left.
use Rattle.std.proofs.Common.{◌≡◌, ℕ, ◌<◌, Bool, true, false, [], Some, refl, sym, ap, ◌∙◌, subst}
use Rattle.ltx_model.specs.Lists.{without_first}
use Rattle.ltx_model.specs.Limits.{last_number}
use Rattle.ltx_model.specs.LastWrites.{last_write}
use Rattle.ltx_model.specs.Decisions.{IsAskedLook}
use Rattle.ltx_model.specs.Agenda.{CommitHome, CommitBefore}
use Rattle.ltx_model.specs.Batches.{target}
use Rattle.ltx_model.specs.Records.{Records, is_kept, AreRecordsOf}
use Rattle.ltx_model.specs.States.{transaction_of, Base, State, live_batches, is_of}
use Rattle.ltx_model.specs.Histories.{closed, moved, state}
use Rattle.ltx_lemmas.proofs.Lists.{find_contains}
use Rattle.ltx_laws.specs.Structure.{Structure}
use Rattle.ltx_laws.proofs.Structures.{structure_of}
use Rattle.ltx_reads.specs.Noted.{HasNoted}
use Rattle.ltx_open.specs.declared.stage.Declared.{Declared}
use Rattle.ltx_core.specs.Built.{built}
use Rattle.ltx_open.specs.Views.{OpenView, declaration}
use Rattle.ltx_core.specs.Views.{CoreView}
use Rattle.ltx_open.specs.Slots.{opened}
use Rattle.ltx_core.specs.Recorded.{are_several_live, HasRecordedBatch, areas_without}
use Rattle.ltx_core.specs.Stands.{ground, everybody, area_of, areas_of, StandsAt, IsStanding}
use Rattle.ltx_core.proofs.LiveAreas.{live_number, areas_batch, lives_none}
use Rattle.ltx_core.proofs.LiveFound.{IsLiveAt}
use Rattle.ltx_core.proofs.OpensKept.{FoundOpen, opens_some}
use Rattle.ltx_core.proofs.RecordsKept.{IsNoted, noted_as, open_not_kept, records_below, home_recorded, home_cleared, before_recorded, before_cleared}

module _ (old : CoreView) (session : ℕ) (a : OpenView) (e : Declared) (mark : ℕ) (base : Base) (s : State) (structure : Structure base s) (stands : StandsAt old s) (x : IsLiveAt old session a e mark s) where
  -- it is noted
  noted : (new : Records) → HasNoted old.records a.number true a.notes.notes a.own.writes new → IsNoted old.records new (transaction_of x.open_tx) true
  noted new has =
      noted_as old.records new x.open_tx true (λ step. IsAskedLook everybody (last_write s.base x.snapshot)) a.notes.notes a.own.writes x.notes x.own has.entry has.kept has.commits (has.number ∙ x.number) has.kind has.mark has.looks has.written

  -- or none stays live
  alone : are_several_live old.preserve ≡ false → live_batches (closed s session) ≡ []
  alone none = lives_none session s.active x.open_tx x.found (ap (λ k. live_number k x.open_tx.number) x.kind) (ap are_several_live (sym stands.holders) ∙ none)

  -- at home
  pub records_home : (new : Records) → HasRecordedBatch (are_several_live old.preserve) old.records a new → AreRecordsOf (moved (closed s session) s.epoch (CommitHome (transaction_of x.open_tx))) new
  records_home new has = by_several (are_several_live old.preserve) refl has where
    by_several : (b : Bool) → are_several_live old.preserve ≡ b → HasRecordedBatch b old.records a new → AreRecordsOf (moved (closed s session) s.epoch (CommitHome (transaction_of x.open_tx))) new
    by_several true some is = home_recorded base s structure session x.open_tx x.found (declaration e) x.snapshot x.kind old.records new stands.records (noted new is)
    by_several false none is =
        subst (AreRecordsOf (moved (closed s session) s.epoch (CommitHome (transaction_of x.open_tx)))) (sym is)
        (home_cleared base s structure session x.open_tx x.found (declaration e) x.snapshot x.kind old.records (alone none) stands.records)

  -- or before its target
  pub records_before : (p : ℕ) → target s (record { tx = transaction_of x.open_tx; declared = declaration e; snapshot = x.snapshot }) ≡ Some p → (new : Records) → HasRecordedBatch (are_several_live old.preserve) old.records a new
      → AreRecordsOf (moved (closed s session) s.epoch (CommitBefore (transaction_of x.open_tx) p)) new
  records_before p aim new has = by_several (are_several_live old.preserve) refl has where
    by_several : (b : Bool) → are_several_live old.preserve ≡ b → HasRecordedBatch b old.records a new → AreRecordsOf (moved (closed s session) s.epoch (CommitBefore (transaction_of x.open_tx) p)) new
    by_several true some is = before_recorded base s structure session x.open_tx x.found (declaration e) x.snapshot x.kind p aim old.records new stands.records (noted new is)
    by_several false none is =
        subst (AreRecordsOf (moved (closed s session) s.epoch (CommitBefore (transaction_of x.open_tx) p))) (sym is)
        (before_cleared base s structure session x.open_tx x.found (declaration e) x.snapshot x.kind p aim old.records (alone none) stands.records)

  -- its area is not kept any more
  pub areas_left : areas_without a.number old.areas ≡ areas_of (without_first (is_of session) s.active)
  areas_left =
      ap (λ n. areas_without n old.areas) x.number ∙ ap (areas_without x.open_tx.number) stands.areas
      ∙ sym (areas_batch session s.active x.open_tx _ structure.opens.rising x.found (ap (λ k. area_of k x.open_tx.number) x.kind))

-- who is open is not kept, and there is a number for one commit more
module _ (core : CoreView) (standing : IsStanding core) (session : ℕ) (a : OpenView) (here : opened core.opens session ≡ Some a) where
  abbrev now : State
  now = state standing.base standing.history

  found : FoundOpen (ground core now) core.opens now.active standing.stands.opens session a
  found = opens_some (ground core now) core.opens now.active standing.stands.opens session a here

  pub open_stranger : is_kept core.records a.number ≡ false
  open_stranger =
      ap (is_kept core.records) found.is_open.number
      ∙ open_not_kept standing.base now (structure_of built standing.base standing.history standing.legal) core.records standing.stands.records found.open_tx (find_contains (is_of session) now.active found.open_tx found.found)

  pub open_limit : core.records.commits < last_number
  open_limit = records_below built standing.base standing.history standing.sound standing.legal core.records standing.stands.records found.open_tx (find_contains (is_of session) now.active found.open_tx found.found)
