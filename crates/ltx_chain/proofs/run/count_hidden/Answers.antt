use Rattle.std.proofs.Common.{◌∙◌, sym, ap, ◌-◌}
use Rattle.ltx_chain.proofs.Runs.{older_rising, left_newest, left_older}
use Rattle.ltx_chain.proofs.run.count_hidden.Goals as goal

pub count_seen-requires : goal.count_seen-requires
count_seen-requires c = older_rising c.args.older.now c.args.newest.now c.requires

pub returns-then-is_seen-clause-kept : goal.returns-then-is_seen-clause-kept
returns-then-is_seen-clause-kept c = left_newest c.args.mark c.args.older.now c.args.newest.now (sym c.is_seen.ensures ∙ c.if-is_seen.true)

pub returns-else-is_seen-clause-kept : goal.returns-else-is_seen-clause-kept
returns-else-is_seen-clause-kept c = left_older c.args.mark c.saturating_sub.result c.args.older.now c.args.newest.now c.requires (sym c.is_seen.ensures ∙ c.if-is_seen.false) (c.saturating_sub.ensures ∙ ap (λ n. n - 1) c.count_seen.ensures.count)
