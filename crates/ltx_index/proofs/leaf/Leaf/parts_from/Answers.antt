use Rattle.std.proofs.Common.{◌≡◌, drop, rules}
use Rattle.ltx_index.proofs.Places.{pairs_from-start}
use Rattle.ltx_index.proofs.leaf.Leaf.parts_from.Goals as goal

pub returns : goal.returns
returns g c =
    let keys = c.self.inside.keys in
    let values = c.self.inside.values.items in
    let starts = c.start-at.ensures in
    let rest_keys : c.split_at.result.1.now ≡ drop c.start-at.result keys = search rules in
    let rest_values : c.split_at-2.result.1.now ≡ drop c.start-at.result values = search rules in
    rw (← c.self.view_is, rest_keys, rest_values) record {
      parts = pairs_from-start c.args.from.now c.args.strict keys values c.start-at.result c.self.invariant.as_many c.self.invariant.in_order starts;
    }
