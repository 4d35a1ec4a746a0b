use Rattle.std.proofs.Common.{◌≡◌, rules, take, drop}
use Rattle.ltx_text.specs.Lines.{feeds, IsFirstFeed}
use Rattle.ltx_check.proofs.Feeds.{none_ended, cut_parts}
use Rattle.ltx_check.proofs.cuts.cut_line.Goals as goal

pub returns-in_default-clause-none : goal.returns-in_default-clause-none
returns-in_default-clause-none c =
    let none : feeds c.args.text.now ≡ 0 = search rules in
    λ line more is. none_ended c.args.text.now line more none is

pub returns-clause-some : goal.returns-clause-some
returns-clause-some c =
    let at = c.in-Some.at in
    let text = c.args.text.now in
    let first : IsFirstFeed text at = search rules in
    let front : c.split_at.result.0.now ≡ take at text = search rules in
    let back : c.split_at-2.result.1.now ≡ drop 1 (drop at text) = search rules in
    cut_parts text c.split_at.result.0.now c.split_at-2.result.1.now at first front back
