use Rattle.std.proofs.Common.{true, ap, sym, subst, ◌∙◌, refl}
use Rattle.ltx_model.specs.Listings.{is_member, without, insert_before}
use Rattle.ltx_model.specs.Played.{PlayedCommit, put_before, without_played}
use Rattle.ltx_recover.specs.Members.{member_of}
use Rattle.ltx_recover.specs.Orders.{played_of, IsOrder}
use Rattle.ltx_recover.proofs.Numbers.{standing, order_move, played_move}
use Rattle.ltx_recover.proofs.order.Order.commit_before.Goals as goal

pub reserve_before-requires : goal.reserve_before-requires
reserve_before-requires c = record { member = standing _ _ _ c.args.target true c.self.view_is c.requires.target }

pub move_before-requires-clause-member : goal.move_before-requires-clause-member
move_before-requires-clause-member c = ap (λ l. is_member l c.args.tx) c.reserve_before.ensures.list ∙ standing _ _ _ c.args.tx true c.self.view_is c.requires.member

pub move_before-requires-clause-target : goal.move_before-requires-clause-target
move_before-requires-clause-target c = ap (λ l. is_member l c.args.target) c.reserve_before.ensures.list ∙ standing _ _ _ c.args.target true c.self.view_is c.requires.target

pub invariant_of-self-2 : goal.invariant_of-self-2
invariant_of-self-2 c =
    let list = c.move_before.ensures.list ∙ ap (λ l. insert_before c.args.tx c.args.target (without l c.args.tx)) c.reserve_before.ensures.list in
    subst (IsOrder (member_of c.put.new.self)) (sym list)
    (order_move (member_of c.self.inside.members) _ _ c.args.tx c.args.target _ c.self.invariant (standing _ _ _ c.args.target true c.self.view_is c.requires.target) c.requires.differ c.in_ok-put.ensures.here c.in_ok-put.ensures.others)

pub returns-clause-ok : goal.returns-clause-ok
returns-clause-ok c =
    let list = c.move_before.ensures.list ∙ ap (λ l. insert_before c.args.tx c.args.target (without l c.args.tx)) c.reserve_before.ensures.list in
    ap (played_of (member_of c.put.new.self)) list
    ∙ played_move (member_of c.self.inside.members) _ _ c.args.tx c.args.target _ c.args.writes.now refl c.in_ok-put.ensures.here c.in_ok-put.ensures.others
    ∙ ap (λ ps. put_before (PlayedCommit c.args.tx c.args.writes.now) c.args.target (without_played c.args.tx ps)) c.self.view_is
