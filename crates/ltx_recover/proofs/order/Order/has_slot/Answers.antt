use Rattle.std.proofs.Common.{◌≡◌, Some, None, rules}
use Rattle.ltx_recover.specs.declared.member.Member.TheVariants as members
use Rattle.ltx_recover.specs.Members.{member_of}
use Rattle.ltx_recover.proofs.Numbers.{slot_is}
use Rattle.ltx_recover.proofs.order.Order.has_slot.Goals as goal

pub returns-in-Some-Slot : goal.returns-in-Some-Slot
returns-in-Some-Slot c =
    let is : Some members.Slot ≡ member_of c.self.inside.members c.args.tx = search rules in
    slot_is (member_of c.self.inside.members) _ _ c.args.tx (Some members.Slot) c.self.invariant c.self.view_is is

pub returns-in-Some-Committed : goal.returns-in-Some-Committed
returns-in-Some-Committed c =
    let is : Some (members.Committed c.in-Some-Committed.field-0-0) ≡ member_of c.self.inside.members c.args.tx = search rules in
    slot_is (member_of c.self.inside.members) _ _ c.args.tx (Some (members.Committed c.in-Some-Committed.field-0-0)) c.self.invariant c.self.view_is is

pub returns-in-None : goal.returns-in-None
returns-in-None c =
    let is : None ≡ member_of c.self.inside.members c.args.tx = search rules in
    slot_is (member_of c.self.inside.members) _ _ c.args.tx None c.self.invariant c.self.view_is is
