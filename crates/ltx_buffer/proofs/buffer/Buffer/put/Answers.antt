use Rattle.std.proofs.Common.{sym, subst, ◌∙◌}
use Rattle.ltx_model.specs.Keys.{IsRising}
use Rattle.ltx_model.specs.Operations.{cell_of_write}
use Rattle.ltx_model.proofs.Rising.{rising_put}
use Rattle.ltx_buffer.proofs.Search.{put_found, put_gap}
use Rattle.ltx_buffer.proofs.buffer.Buffer.put.Goals as goal

pub invariant_of-self : goal.invariant_of-self
invariant_of-self c =
    let found = rw c.deref.ensures.value at c.in-Ok.ensures.found in
    subst (IsRising cell_of_write) (put_found c.args.write c.self.inside.writes.items c.in-Ok.place found) (rising_put cell_of_write c.args.write c.self.inside.writes.items c.self.invariant)

pub invariant_of-self-in-Ok-2 : goal.invariant_of-self-in-Ok-2
invariant_of-self-in-Ok-2 c =
    let found = rw c.deref.ensures.value at c.in-Ok.ensures.found in
    subst (IsRising cell_of_write) (put_found c.args.write c.self.inside.writes.items c.in-Ok.place found) (rising_put cell_of_write c.args.write c.self.inside.writes.items c.self.invariant)

pub invariant_of-self-in-Ok-3 : goal.invariant_of-self-in-Ok-3
invariant_of-self-in-Ok-3 c =
    let found = rw c.deref.ensures.value at c.in-Ok.ensures.found in
    subst (IsRising cell_of_write) (put_found c.args.write c.self.inside.writes.items c.in-Ok.place found) (rising_put cell_of_write c.args.write c.self.inside.writes.items c.self.invariant)

pub invariant_of-self-in-Err : goal.invariant_of-self-in-Err
invariant_of-self-in-Err c =
    let gap = rw c.deref.ensures.value at c.in-Err.ensures.absent in
    subst (IsRising cell_of_write) (put_gap c.args.write c.self.inside.writes.items c.in-Err.place gap ∙ sym c.insert_at.ensures) (rising_put cell_of_write c.args.write c.self.inside.writes.items c.self.invariant)
