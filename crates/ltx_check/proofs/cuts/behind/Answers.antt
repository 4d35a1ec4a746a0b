use Rattle.std.proofs.Common.{◌≡◌, false, rules, take, length}
use Rattle.std.specs.Prelude.{bytes_eq}
use Rattle.ltx_check.proofs.Feeds.{not_behind}
use Rattle.ltx_check.proofs.cuts.behind.Goals as goal

pub returns-else-is-clause-none : goal.returns-else-is-clause-none
returns-else-is-clause-none c =
    let front : c.split_at.result.0.now ≡ take (length c.args.front.now) c.args.text.now = search rules in
    let other : bytes_eq c.split_at.result.0.now c.args.front.now ≡ false = search rules in
    λ rest is. not_behind c.args.text.now c.args.front.now c.split_at.result.0.now rest front other is
