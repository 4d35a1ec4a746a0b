-- What the decision about the commit of a live batch is asked with, by what is kept of its open transaction.
use Rattle.std.specs.Prelude.{◌≡◌, ℕ, List, map}
use Rattle.ltx_model.specs.declared.writes.Write.{Write}
use Rattle.ltx_model.specs.Decisions.{IsDecidable}
use Rattle.ltx_model.specs.NoteLists.{NoteList}
use Rattle.ltx_model.specs.Records.{Records}
use Rattle.ltx_model.specs.States.{State, LiveBatch}
use Rattle.ltx_agenda.specs.Placed.{Listed}
use Rattle.ltx_forward.specs.declared.decide.Live.{Live}
use Rattle.ltx_forward.specs.Asked.{told}
use Rattle.ltx_open.specs.declared.stage.Declared.{Declared}
use Rattle.ltx_open.specs.declared.stage.Stage.{Stage}
use Rattle.ltx_open.specs.declared.stage.Stage.TheVariants as stages

-- The open transaction is a live batch, and with its notes and writes, the live batches, the records and the agenda it is what a
-- decision about the live batch i of the state asks for.
pub record IsAskedWith (s : State) (i : LiveBatch) (number : ℕ) (stage : Stage) (notes : NoteList) (writes : List Write) (lives : List Live) (records : Records) (agenda : Listed) : Type 0 where
  pub number_is : number ≡ i.tx.number
  pub declared : Declared
  pub mark : ℕ
  pub stage_is : stage ≡ stages.Live declared mark
  pub decidable : IsDecidable s i notes.notes mark writes (map told lives) records agenda.list

-- it is so for some live batch of some state
pub record IsAskableWith (number : ℕ) (stage : Stage) (notes : NoteList) (writes : List Write) (lives : List Live) (records : Records) (agenda : Listed) : Type 0 where
  pub state : State
  pub batch : LiveBatch
  pub asked : IsAskedWith state batch number stage notes writes lives records agenda
