-- What the priority of batches rests on: who may not stand after a live batch, and who may not stand before it.
use Rattle.std.specs.Prelude.{◌≡◌, ℕ, ◌<◌, true, false, List}
use Rattle.std.specs.List.{AllByRecursion}
use Rattle.ltx_model.specs.Tables.{has_table}
use Rattle.ltx_model.specs.Keys.{Cell}
use Rattle.ltx_model.specs.Operations.{Transaction, operations, looks_into_table, writes_key}
use Rattle.ltx_model.specs.Agenda.{Member, LiveSlot, Committed, Timed, has_slot}
use Rattle.ltx_model.specs.States.{Declaration, Kind, IsShort, IsPending, IsLive, State}
use Rattle.ltx_model.specs.Lists.{IsPairwise}

-- the transaction looks into no table of a set
abbrev pub LooksIntoNone : ℕ → Transaction → Type 0
LooksIntoNone tables t = (table : ℕ) → has_table tables table ≡ true → looks_into_table (operations t) table ≡ false

-- the transaction writes no table of a set
abbrev pub WritesNone : ℕ → Transaction → Type 0
WritesNone tables t = (key : Cell) → writes_key (operations t) key ≡ true → has_table tables key.table ≡ false

-- Of two members of the agenda, the first one before the second, where one is the live batch n that declared d:
-- a committed one after it looks into no table that it preserves, and a batch with a greater number before it writes no table of its area.
abbrev pub IsGuarded : List Timed → ℕ → Declaration → Member → Member → Type 0
IsGuarded moves n d (LiveSlot k) (LiveSlot j) = Unit {0}
IsGuarded moves n d (LiveSlot k) (Committed t) = k ≡ n → LooksIntoNone d.writes t
IsGuarded moves n d (Committed g) (LiveSlot k) = k ≡ n → has_slot moves g.number ≡ true → n < g.number → WritesNone d.reads g
IsGuarded moves n d (Committed g) (Committed t) = Unit {0}

abbrev pub GuardsAs : List Member → List Timed → Kind → ℕ → Type 0
GuardsAs agenda moves IsShort n = Unit {0}
GuardsAs agenda moves (IsPending d) n = Unit {0}
GuardsAs agenda moves (IsLive d snapshot) n = IsPairwise (IsGuarded moves n d) agenda

-- every live batch is guarded so
abbrev pub AreGuarded : State → Type 0
AreGuarded s = AllByRecursion (λ o. GuardsAs s.agenda s.moves o.kind o.number) s.active
