-- What a decision is asked with, and what it gives.
use Rattle.std.specs.Prelude.{◌≡◌, ℕ, List, map, Option, Some, None}
use Rattle.ltx_model.specs.declared.writes.Write.{Write}
use Rattle.ltx_model.specs.States.{State, LiveBatch}
use Rattle.ltx_model.specs.Batches.{IsTarget, ByLate, ByContradicts, HasWitness, Waits}
use Rattle.ltx_model.specs.Records.{Records}
use Rattle.ltx_model.specs.Decisions as decisions
use Rattle.ltx_model.specs.Decisions.{CommitAt, WaitFor, RefuseAt, IsFirstRefusal, IsDecidable}
use Rattle.ltx_agenda.specs.Placed.{Listed}
use Rattle.ltx_long.specs.Longs.{Long}
use Rattle.ltx_forward.specs.declared.decide.Live.{Live}
use Rattle.ltx_forward.specs.declared.decide.Decision.{Decision}
use Rattle.ltx_forward.specs.declared.decide.Decision.TheVariants as given

-- a live batch, as the definitions see it
abbrev pub told : Live → decisions.Live
told live = record { number = live.tx; writes = live.writes; reads = live.reads }

-- a decision, as the definitions have it
abbrev pub decision_of : Decision → decisions.Decision
decision_of (given.Commit target) = CommitAt target
decision_of (given.Waiting batch) = WaitFor batch
decision_of (given.Late target op table key writer) = RefuseAt target (ByLate (record { op = op; cell = record { table = table; key = key }; other = writer }))
decision_of (given.Contradicts target op table key reader) = RefuseAt target (ByContradicts (record { op = op; cell = record { table = table; key = key }; other = reader }))

-- The batch, its writes, the live batches, the records and the agenda are what a decision about the live batch i of the state asks for.
pub record IsAsked (s : State) (i : LiveBatch) (tx : Long) (writes : List Write) (lives : List Live) (records : Records) (agenda : Listed) : Type 0 where
  pub number : tx.tx ≡ i.tx.number
  pub mark : ℕ
  pub live : tx.live ≡ Some mark
  pub decidable : IsDecidable s i tx.list.notes mark writes (map told lives) records agenda.list

-- they are so for some live batch of some state
pub record IsAskable (tx : Long) (writes : List Write) (lives : List Live) (records : Records) (agenda : Listed) : Type 0 where
  pub state : State
  pub batch : LiveBatch
  pub asked : IsAsked state batch tx writes lives records agenda

-- The first witness at the batch's place, as a refusal: there is none where the batch overtakes nobody, or no witness stands there.
abbrev pub IsWitnessed : State → LiveBatch → Option Decision → Type 0
IsWitnessed s i None = (p : ℕ) → IsTarget s i p → HasWitness s i p → ⊥
IsWitnessed s i (Some (given.Commit target)) = ⊥
IsWitnessed s i (Some (given.Waiting batch)) = ⊥
IsWitnessed s i (Some (given.Late target op table key writer)) = IsTarget s i target × IsFirstRefusal s i target (ByLate (record { op = op; cell = record { table = table; key = key }; other = writer }))
IsWitnessed s i (Some (given.Contradicts target op table key reader)) = IsTarget s i target × IsFirstRefusal s i target (ByContradicts (record { op = op; cell = record { table = table; key = key }; other = reader }))

-- whom the batch waits for, if anybody
abbrev pub IsWaitedFor : State → LiveBatch → Option ℕ → Type 0
IsWaitedFor s i None = (k : ℕ) → Waits s i k → ⊥
IsWaitedFor s i (Some k) = Waits s i k
