-- An open transaction that keeps the same; there may be other room.
use Rattle.std.specs.Prelude.{◌≡◌, ℕ, List, Option, Some, None}
use Rattle.ltx_open.specs.Views.{OpenView}
use Rattle.ltx_open.specs.Slots.{opened}

-- an open transaction with the same notes, marks and writes
pub record IsSameOpen (old new : OpenView) : Type 0 where
  pub number : new.number ≡ old.number
  pub stage : new.stage ≡ old.stage
  pub notes : new.notes.notes ≡ old.notes.notes
  pub marks : new.notes.marks ≡ old.notes.marks
  pub own : new.own.writes ≡ old.own.writes

abbrev pub IsSameAt : Option OpenView → Option OpenView → Type 0
IsSameAt None None = Unit {0}
IsSameAt (Some a) (Some b) = IsSameOpen a b
IsSameAt a b = ⊥

-- each session has the same
abbrev pub AreSameOpens : List (Option OpenView) → List (Option OpenView) → Type 0
AreSameOpens old new = (session : ℕ) → IsSameAt (opened old session) (opened new session)
