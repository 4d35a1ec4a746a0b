use Rattle.std.proofs.Common.{[]}
use Rattle.ltx_index.proofs.Places.{read_some}
use Rattle.ltx_index.proofs.Leaves.{put_into, put_past}
use Rattle.ltx_index.proofs.index.Index.put.Goals as goal

pub invariant_of-self : goal.invariant_of-self
invariant_of-self g c =
    let leaves = c.self.inside.leaves.items in
    let home = rw (c.deref.ensures.value, c.bytes.ensures.value) at c.home-at.ensures in
    let leaf = read_some (λ x. x.now) leaves c.home-at.result [] c.get_mut.result c.in-Some.leaf c.get_mut.ensures.item c.in-Some.is in
    let done = c.insert.ensures in
    (put_into leaves c.self.invariant c.args.key c.home-at.result home c.insert.result c.args.value c.in-Some.leaf.now c.insert.new.self (c.in-Some.ensures.item.3.0) leaf done.old done.put done.kept done.overwrites).are

pub returns-in-Some : goal.returns-in-Some
returns-in-Some g c =
    let leaves = c.self.inside.leaves.items in
    let home = rw (c.deref.ensures.value, c.bytes.ensures.value) at c.home-at.ensures in
    let leaf = read_some (λ x. x.now) leaves c.home-at.result [] c.get_mut.result c.in-Some.leaf c.get_mut.ensures.item c.in-Some.is in
    let done = c.insert.ensures in
    let puts = put_into leaves c.self.invariant c.args.key c.home-at.result home c.insert.result c.args.value c.in-Some.leaf.now c.insert.new.self (c.in-Some.ensures.item.3.0) leaf done.old done.put done.kept done.overwrites in
    rw (← c.self.view_is) record {
      old = puts.old;
      put = puts.put;
      back = done.back;
      kept = puts.kept;
      overwrites = puts.overwrites;
      in_order = puts.are.in_order;
    }

pub invariant_of-self-in-None : goal.invariant_of-self-in-None
invariant_of-self-in-None g c =
    let leaves = c.self.inside.leaves.items in
    let home = rw (c.deref.ensures.value, c.bytes.ensures.value) at c.home-at.ensures in
    let done = c.push_leaf.ensures in
    (put_past leaves c.self.invariant c.args.key c.home-at.result home c.push_leaf.result c.args.value c.push_leaf.new.leaves.items (c.in-None.ensures.item.3) done.pushed done.kept).are

pub returns-in-None : goal.returns-in-None
returns-in-None g c =
    let leaves = c.self.inside.leaves.items in
    let home = rw (c.deref.ensures.value, c.bytes.ensures.value) at c.home-at.ensures in
    let done = c.push_leaf.ensures in
    let puts = put_past leaves c.self.invariant c.args.key c.home-at.result home c.push_leaf.result c.args.value c.push_leaf.new.leaves.items (c.in-None.ensures.item.3) done.pushed done.kept in
    rw (← c.self.view_is) record {
      old = puts.old;
      put = puts.put;
      back = done.back;
      kept = puts.kept;
      overwrites = puts.overwrites;
      in_order = puts.are.in_order;
    }
