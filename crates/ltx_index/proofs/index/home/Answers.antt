use Rattle.std.proofs.Common.{rules, not}
use Rattle.std.proofs.lemmas.Fn.{always_returns_same}
use Rattle.ltx_model.specs.NextKeys.{reaches}
use Rattle.ltx_index.specs.Leaves.{first_key}
use Rattle.ltx_index.proofs.Leaves.{begin_short_before, home_found}
use Rattle.ltx_index.proofs.index.home.Goals as goal

-- the closure tells of each leaf whether it begins short of the bound
pub returns : goal.returns
returns g c =
    let facts = c.partition_point.ensures in
    let parted = facts.partitioned (λ leaf. not (reaches c.args.from.now c.args.strict (first_key leaf))) (always_returns_same _ _ _ (λ a r after called. search rules)) (begin_short_before c.args.from.now c.args.strict c.args.leaves.now c.requires) in
    rw c.saturating_sub.ensures (home_found c.args.from.now c.args.strict c.args.leaves.now c.requires c.partition_point.result facts.bound parted)
