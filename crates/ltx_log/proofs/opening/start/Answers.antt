use Rattle.std.proofs.Common.{◌∙◌}
use Rattle.ltx_log.proofs.Starts.{then_opens}
use Rattle.ltx_log.proofs.opening.start.Goals as goal

pub returns-in-Ok-front_of-clause-since : goal.returns-in-Ok-front_of-clause-since
returns-in-Ok-front_of-clause-since g c = λ still.
    then_opens _ _ _ _ _ _ (c.front_of.ensures.kept ∙ c.len.ensures.kept ∙ c.sync_all.ensures.kept) (c.front_of.ensures.images ∙ c.len.ensures.images) (c.sync_all.ensures.since still) c.begin.ensures.since
