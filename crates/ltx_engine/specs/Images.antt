-- What the images of a disk recover, which a crash may leave.
use Rattle.std.specs.Prelude.{ℕ, ◌-◌, ◌<◌, ◌≤◌, ◌⊎◌, List}
use Rattle.ltx_model.specs.declared.replies.Entry.{Entry}
use Rattle.ltx_model.specs.States.{Base, State, rows_through}
use Rattle.ltx_model.specs.Histories.{state}
use Rattle.ltx_model.specs.Recovery.{IsRecovered}
use Rattle.ltx_laws.specs.Acknowledged.{AreAcknowledgedUpTo}

-- The bytes recover the rows through an epoch, and that epoch.
pub record RecoversThrough (s : State) (epoch : ℕ) (bytes : List ℕ) : Type 0 where
  pub last : ℕ
  pub gate : ℕ
  pub recovered : IsRecovered bytes (record { rows = rows_through s epoch; durable = epoch; last = last; gate = gate })

-- they recover the rows through the durable epoch, or through the last closed one
abbrev pub RecoversEither : State → List ℕ → Type 0
RecoversEither s bytes = RecoversThrough s s.durable bytes ⊎ RecoversThrough s (s.epoch - 1) bytes

-- whatever the bytes recovered, these recover too
abbrev pub RecoversAlike : List ℕ → List ℕ → Type 0
RecoversAlike old new = (base : Base) → IsRecovered old base → IsRecovered new base

-- The bytes recover the rows through one closed epoch of the history, which is at least the base's durable one.
pub record IsThrough (base : Base) (history : List Entry) (bytes : List ℕ) : Type 0 where
  pub epoch : ℕ
  pub least : base.durable ≤ epoch
  pub closed : epoch < (state base history).epoch
  pub recovers : RecoversThrough (state base history) epoch bytes

-- And it is at least each epoch that the history acknowledges.
pub record HoldsAcknowledged (base : Base) (history : List Entry) (bytes : List ℕ) : Type 0 where
  pub through : IsThrough base history bytes
  pub acknowledged : AreAcknowledgedUpTo through.epoch history
