use Rattle.std.proofs.Common.{◌≡◌, ap, ◌∙◌, rules}
use Rattle.ltx_recover.specs.Members.{member_of}
use Rattle.ltx_recover.specs.Orders.{played_of}
use Rattle.ltx_recover.specs.Stamps.{stamped_in}
use Rattle.ltx_recover.proofs.Collected.{members_more}
use Rattle.ltx_recover.proofs.order.Order.stamps.Goals as goal

pub loop-tx-preserved : goal.loop-tx-preserved
loop-tx-preserved c =
    let of = member_of c.self.inside.members in
    let items : c.deref-tx-items.result.now ≡ c.self.inside.agenda.list = search rules in
    members_more of c.deref-tx-items.result.now c.args.self.now c.loop-tx.tx-index c.tx-item.result (stamped_in c.loop-tx.stamps.items) _ _
    (ap (played_of of) items ∙ c.self.view_is) c.loop-tx-test.true c.tx-item.is c.in_ok-put_member.ensures c.loop-tx.invariant
