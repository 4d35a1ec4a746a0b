-- The first fault of a kind, where there is one.
use Rattle.std.specs.Prelude.{ℕ, List, Option, Some, None}
use Rattle.ltx_model.specs.declared.replies.Entry.{Entry}
use Rattle.ltx_check.specs.Opens.{IsWellPlaced, IsOpenFault}

-- the entry that may not stand where it does, or none where each may
abbrev pub FindsOpenFault : List Entry → Option ℕ → Type 0
FindsOpenFault history None = IsWellPlaced history
FindsOpenFault history (Some number) = IsOpenFault history number
