-- What is decided of the commit of a session's live batch, and what a commit at a place leaves.
use Rattle.std.specs.Prelude.{◌≡◌, ◌≢◌, ℕ, ◌+◌, nat_lt, true, false, List, Some, None, option_map}
use Rattle.std.specs.List.{list_any}
use Rattle.ltx_model.specs.declared.replies.Entry.{Entry}
use Rattle.ltx_model.specs.declared.replies.Reply.{Reply}
use Rattle.ltx_model.specs.declared.replies.Reply.TheVariants as replies
use Rattle.ltx_model.specs.declared.writes.Target.{Target}
use Rattle.ltx_model.specs.declared.writes.Target.TheVariants as targets
use Rattle.ltx_model.specs.Operations.{Transaction}
use Rattle.ltx_model.specs.Answers.{refused_at, IsLegalWith}
use Rattle.ltx_model.specs.Batches.{Refusal}
use Rattle.ltx_model.specs.Decisions.{Decision, RefuseAt, IsDecision}
use Rattle.ltx_model.specs.Frames.{BatchEvent}
use Rattle.ltx_model.specs.Histories.{state}
use Rattle.ltx_model.specs.Holders.{removed}
use Rattle.ltx_model.specs.Listings.{is_member, insert_before, without}
use Rattle.ltx_model.specs.States.{Declaration, IsLive, Active, transaction_of, Base, IsSound, active_of}
use Rattle.ltx_agenda.specs.Placed.{Listed, HasRoomBefore}
use Rattle.ltx_frame.specs.Events.{target_of}
use Rattle.ltx_preserve.specs.Kept.{is_live_below}
use Rattle.ltx_open.specs.declared.stage.Declared.{Declared}
use Rattle.ltx_open.specs.declared.stage.Stage.TheVariants as stages
use Rattle.ltx_core.specs.Built.{built}
use Rattle.ltx_core.specs.Installed.{HasInstalledUnless}
use Rattle.ltx_core.specs.Logged.{HasLogged}
use Rattle.ltx_core.specs.Recorded.{are_several_live, HasRecordedBatch, areas_without}
use Rattle.ltx_open.specs.Slots.{opened, HasAt}
use Rattle.ltx_open.specs.Views.{OpenView}
use Rattle.ltx_core.specs.Views.{CoreView}
use Rattle.ltx_core.specs.Stands.{StandsAt}

-- Wherever the core stands, this is what is decided of the commit of the session's live batch.
abbrev pub IsDecided : CoreView → ℕ → Decision → Type 0
IsDecided core session decision = (base : Base) (history : List Entry) → IsSound base → IsLegalWith built base history → StandsAt core (state base history)
    → (o : Active) (declared : Declaration) (snapshot : List Transaction) → active_of (state base history) session ≡ Some o → o.kind ≡ IsLive declared snapshot
    → IsDecision (state base history) (record { tx = transaction_of o; declared = declared; snapshot = snapshot }) decision

-- The session's open transaction is a live batch.
pub record HasLive (core : CoreView) (session : ℕ) : Type 0 where
  pub declared : Declared
  pub mark : ℕ
  pub live : option_map (λ a. a.stage) (opened core.opens session) ≡ Some (stages.Live declared mark)

-- The session's live batch overtakes nobody: no batch committed since its slot, and no live one has a smaller number.
pub record IsAhead (core : CoreView) (session : ℕ) : Type 0 where
  pub batch : HasLive core session
  pub unpassed : nat_lt batch.mark core.batch ≡ false
  pub least : (a : OpenView) → opened core.opens session ≡ Some a → list_any (is_live_below a.number) core.preserve ≡ false

-- The reply is that of a refusal which is decided.
pub record IsRefused (core : CoreView) (session : ℕ) (reply : Reply) : Type 0 where
  pub place : ℕ
  pub refusal : Refusal
  pub decided : IsDecided core session (RefuseAt place refusal)
  pub reply_is : reply ≡ refused_at place refusal

-- The batch n may be moved before p without taking memory.
pub record CanMove (agenda : Listed) (n p : ℕ) : Type 0 where
  pub member : is_member agenda.list n ≡ true
  pub target : is_member agenda.list p ≡ true
  pub differ : n ≢ p
  pub room : HasRoomBefore agenda.runs p

-- the reply to a commit at a place, in this epoch
abbrev pub reply_at : ℕ → Target → Reply
reply_at epoch targets.Home = replies.Committed epoch
reply_at epoch (targets.Before p) = replies.CommittedBefore epoch p

-- the agenda after a batch commits at a place: home its slot stays where it is
abbrev pub list_at : Target → ℕ → List ℕ → List ℕ
list_at targets.Home n list = list
list_at (targets.Before p) n list = insert_before n p (without list n)

-- The session's live batch is committed at a place: of its writes those are installed whose key has no last version by a later member,
-- with the next number of commits as mark, which is that of the last commit of a batch, it holds no table any more, and its commit is kept for the log.
pub record HasCommittedAt (place : Target) (old : CoreView) (session : ℕ) (a : OpenView) (new : CoreView) : Type 0 where
  pub counters : new.counters ≡ old.counters
  pub list : new.list ≡ list_at place a.number old.list
  pub commits : new.commits ≡ old.commits + 1
  pub batch : new.batch ≡ old.commits + 1
  pub installed : HasInstalledUnless new.list old.store new.store a.number (old.commits + 1) a.own.writes
  pub preserve : new.preserve ≡ removed a.number old.preserve
  pub opens : HasAt old.opens session None new.opens
  pub records : HasRecordedBatch (are_several_live old.preserve) old.records a new.records
  pub areas : new.areas ≡ areas_without a.number old.areas
  pub log : HasLogged old.log new.log (BatchEvent a.number old.counters.epoch (target_of place) a.own.writes)
