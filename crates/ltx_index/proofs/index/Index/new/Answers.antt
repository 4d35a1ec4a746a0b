use Rattle.ltx_index.proofs.Leaves.{no_leaves}
use Rattle.ltx_index.proofs.index.Index.new.Goals as goal

pub invariant_of-result : goal.invariant_of-result
invariant_of-result g c = rw c.new.ensures.items no_leaves
