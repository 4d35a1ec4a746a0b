-- What the commit of a session's open transaction leaves.
use Rattle.std.specs.Prelude.{◌≡◌, ℕ, ◌+◌, List, [], ◌∷◌, ◌++◌, Option, None}
use Rattle.ltx_model.specs.Frames.{ShortEvent, BatchEvent}
use Rattle.ltx_model.specs.Holders.{removed}
use Rattle.ltx_model.specs.Notes.{AreNotes}
use Rattle.ltx_model.specs.States.{Step}
use Rattle.ltx_model.specs.Verdicts.{Passes, IsVerdict}
use Rattle.ltx_store.specs.Kept.{rows_at, latest_rows}
use Rattle.ltx_validate.specs.Verdicts.{AreMarkedAt, AreHolders}
use Rattle.ltx_open.specs.declared.stage.Stage.TheVariants as stages
use Rattle.ltx_open.specs.Views.{OpenView}
use Rattle.ltx_core.specs.Views.{CoreView}
use Rattle.ltx_open.specs.Slots.{HasAt}
use Rattle.ltx_core.specs.Logged.{HasLogged}
use Rattle.ltx_core.specs.Installed.{HasInstalled}
use Rattle.ltx_core.specs.Recorded.{is_any_live, are_several_live, HasRecordedShort, HasRecordedBatch, areas_without}

-- The session's short is committed: its writes are installed, with the next number of commits as mark, it stands last in the agenda, and
-- its commit is kept for the log.
pub record HasCommitted (old : CoreView) (session : ℕ) (a : OpenView) (new : CoreView) : Type 0 where
  pub counters : new.counters ≡ old.counters
  pub list : new.list ≡ old.list ++ a.number ∷ []
  pub commits : new.commits ≡ old.commits + 1
  pub batch : new.batch ≡ old.batch
  pub installed : HasInstalled old.store new.store a.number (old.commits + 1) a.own.writes
  pub preserve : new.preserve ≡ old.preserve
  pub opens : HasAt old.opens session None new.opens
  pub records : HasRecordedShort (is_any_live old.preserve) old.records a new.records
  pub areas : new.areas ≡ old.areas
  pub log : HasLogged old.log new.log (ShortEvent a.number old.counters.epoch a.own.writes)

-- The session's live batch is committed where its slot stands: its writes are installed, with the next number of commits as mark, which
-- is that of the last commit of a batch, it holds no table any more, and its commit is kept for the log.
pub record HasCommittedHome (old : CoreView) (session : ℕ) (a : OpenView) (new : CoreView) : Type 0 where
  pub counters : new.counters ≡ old.counters
  pub list : new.list ≡ old.list
  pub commits : new.commits ≡ old.commits + 1
  pub batch : new.batch ≡ old.commits + 1
  pub installed : HasInstalled old.store new.store a.number (old.commits + 1) a.own.writes
  pub preserve : new.preserve ≡ removed a.number old.preserve
  pub opens : HasAt old.opens session None new.opens
  pub records : HasRecordedBatch (are_several_live old.preserve) old.records a new.records
  pub areas : new.areas ≡ areas_without a.number old.areas
  pub log : HasLogged old.log new.log (BatchEvent a.number old.counters.epoch None a.own.writes)

-- A short may commit: whatever steps its notes are of, with its marks, and whoever the holders are, the verdict is that it passes.
pub record MayCommit (core : CoreView) (a : OpenView) : Type 0 where
  pub short : a.stage ≡ stages.Short
  pub passes : (steps : List Step) → AreNotes steps a.notes.notes → AreMarkedAt (λ mark. rows_at mark core.store) steps a.notes.marks → (holder : ℕ → Option ℕ) → AreHolders core.preserve holder
      → IsVerdict holder (latest_rows core.store) steps Passes
