-- Inside what a batch declared.
use Rattle.std.specs.Prelude.{◌≡◌, true}
use Rattle.ltx_model.specs.declared.commands.Op.{Op}
use Rattle.ltx_model.specs.declared.commands.Op.TheVariants.{Get, Scan, Put, Del}
use Rattle.ltx_model.specs.Tables.{has_table}
use Rattle.ltx_model.specs.States.{Declaration}

-- a read is in a table of the read area, and a write in a table that was declared for writing
abbrev pub IsInside : Declaration → Op → Type 0
IsInside d (Get table key) = has_table d.reads table ≡ true
IsInside d (Scan table low high) = has_table d.reads table ≡ true
IsInside d (Put table key value) = has_table d.writes table ≡ true
IsInside d (Del table key) = has_table d.writes table ≡ true
