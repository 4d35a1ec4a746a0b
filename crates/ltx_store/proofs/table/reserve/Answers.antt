use Rattle.ltx_store.proofs.Pairs.{made_in_place, kept_in_place, in_order_with_value}
use Rattle.ltx_store.proofs.table.reserve.Goals as goal

pub returns-in-Some : goal.returns-in-Some
returns-in-Some c = record {
  made =
      made_in_place c.args.table.now c.args.key.now c.in-Some.chain.now c.reserve_one.new.self _ c.get_mut.ensures.in_order c.in-Some.ensures.value c.reserve_one.ensures.items c.reserve_one.ensures.kept c.reserve_one.ensures.made;
  kept = kept_in_place c.args.table.now c.args.key.now c.in-Some.chain.now c.reserve_one.new.self _ c.in-Some.ensures.value c.reserve_one.ensures.err;
  in_order = in_order_with_value c.args.table.now c.args.key.now c.reserve_one.new.self c.get_mut.ensures.in_order;
}
