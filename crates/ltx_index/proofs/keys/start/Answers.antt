use Rattle.std.proofs.Common.{rules, not}
use Rattle.std.proofs.lemmas.Fn.{always_returns_same}
use Rattle.ltx_model.specs.NextKeys.{reaches}
use Rattle.ltx_index.proofs.Places.{started, falls_short_before}
use Rattle.ltx_index.proofs.keys.start.Goals as goal

-- the closure tells of each key whether it falls short
pub returns : goal.returns
returns c =
    let facts = c.partition_point.ensures in
    let parted = facts.partitioned (λ k. not (reaches c.args.from.now c.args.strict k)) (always_returns_same _ _ _ (λ a r after called. search rules)) (falls_short_before c.args.keys.now c.requires c.args.from.now c.args.strict) in
    started c.args.keys.now c.requires c.args.from.now c.args.strict c.partition_point.result facts.bound parted
