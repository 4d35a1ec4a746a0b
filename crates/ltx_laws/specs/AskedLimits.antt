-- Lines that ask within the limits. Tables, keys and values are plain numbers and bytes in the definitions; what reads lines keeps this.
use Rattle.std.specs.Prelude.{List, Option, Some, None}
use Rattle.std.specs.List.{AllByRecursion}
use Rattle.ltx_model.specs.declared.commands.Op.{Op}
use Rattle.ltx_model.specs.declared.commands.Op.TheVariants.{Get, Scan, Put, Del}
use Rattle.ltx_model.specs.declared.replies.Entry.{Entry}
use Rattle.ltx_model.specs.Limits.{IsTable, IsKey, IsValue}
use Rattle.ltx_model.specs.Histories.{operation_of}

-- what an operation writes is within the limits
abbrev pub WritesWithin : Op → Type 0
WritesWithin (Get table key) = Unit {0}
WritesWithin (Scan table low high) = Unit {0}
WritesWithin (Put table key value) = IsTable table × IsKey key × IsValue value
WritesWithin (Del table key) = IsTable table × IsKey key

-- what a line's operation writes is, where it asks one
abbrev pub AsksWithin : Option Op → Type 0
AsksWithin None = Unit {0}
AsksWithin (Some op) = WritesWithin op

abbrev pub AreLinesWithin : List Entry → Type 0
AreLinesWithin history = AllByRecursion (λ e. AsksWithin (operation_of e.line)) history
