use Rattle.std.proofs.Common.{◌≡◌, drop, List}
use Rattle.std.specs.List.{find}
use Rattle.ltx_model.specs.declared.looked.Noted.{Noted}
use Rattle.ltx_forward.specs.Waits.{AreTablesInto, is_overtaken}
use Rattle.ltx_forward.proofs.wait.first_overtaken.Given as goal

-- the live batches so far are not overtaken
abbrev pub invariant-loop-live : goal.invariant-loop-live
invariant-loop-live l = (notes : List Noted) → AreTablesInto notes l.looked_into → find (is_overtaken l.number notes) l.lives ≡ find (is_overtaken l.number notes) (drop l.live-index l.lives)
