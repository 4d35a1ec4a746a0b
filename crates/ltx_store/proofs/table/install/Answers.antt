use Rattle.ltx_store.proofs.Pairs.{installed_in_place, in_order_with_value}
use Rattle.ltx_store.proofs.table.install.Goals as goal

pub returns-in-Some : goal.returns-in-Some
returns-in-Some c = record {
  installed =
      installed_in_place c.args.table.now c.args.key.now c.in-Some.chain.now c.install.new.self c.args.version c.get_mut.ensures.in_order c.in-Some.ensures.value c.install.ensures.items c.install.ensures.room;
  in_order = in_order_with_value c.args.table.now c.args.key.now c.install.new.self c.get_mut.ensures.in_order;
}
