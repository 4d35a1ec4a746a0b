-- The verdict on a short that commits: it passes, or is refused by a held table or by a look-up that has changed.
use Rattle.std.specs.Prelude.{◌≡◌, ℕ, ◌≤◌, true, List, map, Option, Some, None}
use Rattle.ltx_model.specs.declared.commands.Op.{Op}
use Rattle.ltx_model.specs.declared.replies.Reply.{Reply}
use Rattle.ltx_model.specs.declared.replies.Reply.TheVariants as replies
use Rattle.ltx_model.specs.declared.rows.StoredRow.{StoredRow}
use Rattle.ltx_model.specs.Operations.{touches}
use Rattle.ltx_model.specs.States.{Step, State}
use Rattle.ltx_model.specs.Shorts.{Held, held_among, Change, Changes, IsFirstChange, first_change}

-- a verdict: a held table goes before a change
pub data Verdict : Type 0 where
  Passes : Verdict
  RefusedAsHeld : Held → Verdict
  RefusedAsChanged : Change → Verdict

-- the operations of steps
abbrev pub ops_of : List Step → List Op
ops_of steps = map (λ b. b.op) steps

-- the verdict where no touched table is held
abbrev pub by_change : Option Change → Verdict
by_change None = Passes
by_change (Some c) = RefusedAsChanged c

-- the verdict by the least held table that was touched
abbrev pub by_held : Option Held → Option Change → Verdict
by_held None change = by_change change
by_held (Some h) change = RefusedAsHeld h

-- the verdict on these steps, by the holder of each table and the rows of now
abbrev pub verdict : (ℕ → Option ℕ) → List StoredRow → List Step → Verdict
verdict holder now steps = by_held (held_among holder (ops_of steps)) (first_change now steps)

-- no table that the steps touch is held
abbrev pub AreUnheld : (ℕ → Option ℕ) → List Step → Type 0
AreUnheld holder steps = (table n : ℕ) → touches (ops_of steps) table ≡ true → holder table ≡ Some n → ⊥

-- A table that the steps touch is held, n is its holder, and no lesser table that they touch is held.
pub record IsLeastHeldOf (holder : ℕ → Option ℕ) (steps : List Step) (h : Held) : Type 0 where
  pub touched : touches (ops_of steps) h.table ≡ true
  pub held : holder h.table ≡ Some h.holder
  pub least : (table n : ℕ) → touches (ops_of steps) table ≡ true → holder table ≡ Some n → h.table ≤ table

-- the verdict as a relation
abbrev pub IsVerdict : (ℕ → Option ℕ) → List StoredRow → List Step → Verdict → Type 0
IsVerdict holder now steps Passes = AreUnheld holder steps × ((c : Change) → Changes now steps c → ⊥)
IsVerdict holder now steps (RefusedAsHeld h) = IsLeastHeldOf holder steps h
IsVerdict holder now steps (RefusedAsChanged c) = AreUnheld holder steps × IsFirstChange now steps c

-- the reply that a verdict is
abbrev pub reply_by : State → Verdict → Reply
reply_by s Passes = replies.Committed s.epoch
reply_by s (RefusedAsHeld h) = replies.Preserved h.table h.holder
reply_by s (RefusedAsChanged c) = replies.Changed c.op c.cell.table c.cell.key c.found c.current
