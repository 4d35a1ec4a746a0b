use Rattle.std.proofs.Common.{rules, ◌≡◌, ◌≤◌, length, take, sym, ap, ◌∙◌, arith, w64}
use Rattle.std.specs.Int.{from_be_bytes}
use Rattle.ltx_index.specs.Heads.{padded, head_of}
use Rattle.ltx_index.proofs.Heads.{padded_long}
use Rattle.ltx_index.proofs.head.head.Goals as goal

pub returns-in-Some-clause-value : goal.returns-in-Some-clause-value
unfolding head_of
returns-in-Some-clause-value c =
    let first : c.in-Some.first.now ≡ take 8 c.args.bytes.now = search rules in
    let long : 8 ≤ length c.args.bytes.now = search rules in
    c.from_be_bytes.ensures ∙ ap (from_be_bytes w64) (first ∙ sym (padded_long 8 c.args.bytes.now long))
