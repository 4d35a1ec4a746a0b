use Rattle.std.proofs.Common.{filter}
use Rattle.ltx_chain.specs.Versions.{is_at_most}
use Rattle.ltx_chain.proofs.Seen.{latest_at}
use Rattle.ltx_chain.proofs.run.seen.Goals as goal

pub returns : goal.returns
returns c =
    let at = latest_at (filter (is_at_most c.args.mark) c.args.versions.now) in
    cc (c.last.ensures.value)
