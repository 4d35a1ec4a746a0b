use Rattle.std.proofs.Common.{◌≡◌, take, false}
use Rattle.std.specs.List.{list_any}
use Rattle.ltx_model.specs.Holders.{is_holder}
use Rattle.ltx_preserve.proofs.preserve.place_of.Given as goal

abbrev pub invariant-loop-place : goal.invariant-loop-place
invariant-loop-place l = list_any (is_holder l.tx) (take l.place l.entered) ≡ false
