use Rattle.ltx_model.specs.Played.{is_played}
use Rattle.ltx_recover.proofs.Numbers.{target_differs, target_stands}
use Rattle.ltx_recover.proofs.order.Order.commit.Goals as goal

pub commit_before-requires-clause-target : goal.commit_before-requires-clause-target
commit_before-requires-clause-target c = target_stands (is_played c.in-Before.target) (is_played c.args.tx) _ (rw c.in-Before.is at c.requires.target)

pub commit_before-requires-clause-differ : goal.commit_before-requires-clause-differ
commit_before-requires-clause-differ c = target_differs _ c.args.tx c.in-Before.target (rw c.in-Before.is at c.requires.target)
