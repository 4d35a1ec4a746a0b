use Rattle.std.proofs.Common.{◌∷◌, [], ◌++◌, false, Some, ap, sym, subst, ◌∙◌}
use Rattle.ltx_model.specs.Listings.{is_member}
use Rattle.ltx_recover.specs.declared.member.Member.TheVariants as members
use Rattle.ltx_recover.specs.Members.{member_of}
use Rattle.ltx_recover.specs.Orders.{played_of, IsOrder, shown}
use Rattle.ltx_recover.proofs.Numbers.{standing, order_push, played_push}
use Rattle.ltx_recover.proofs.order.Order.append_slot.Goals as goal

pub append_slot-requires-clause-absent : goal.append_slot-requires-clause-absent
append_slot-requires-clause-absent c = ap (λ l. is_member l c.args.tx) c.reserve.ensures.list ∙ standing _ _ _ c.args.tx false c.self.view_is c.requires

pub invariant_of-self-2 : goal.invariant_of-self-2
invariant_of-self-2 c =
    let list = c.append_slot.ensures.list ∙ ap (λ l. l ++ c.args.tx ∷ []) c.reserve.ensures.list in
    subst (IsOrder (member_of c.put.new.self)) (sym list) (order_push (member_of c.self.inside.members) _ _ c.args.tx _ c.self.invariant c.in_ok-put.ensures.here c.in_ok-put.ensures.others)

pub returns-clause-ok : goal.returns-clause-ok
returns-clause-ok c =
    let list = c.append_slot.ensures.list ∙ ap (λ l. l ++ c.args.tx ∷ []) c.reserve.ensures.list in
    ap (played_of (member_of c.put.new.self)) list
    ∙ played_push (member_of c.self.inside.members) _ _ c.args.tx _ (standing _ _ _ c.args.tx false c.self.view_is c.requires) c.in_ok-put.ensures.here c.in_ok-put.ensures.others
    ∙ ap (λ ps. ps ++ shown c.args.tx (Some members.Slot) ∷ []) c.self.view_is
