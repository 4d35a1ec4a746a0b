use Rattle.std.proofs.Common.{◌≡◌, true, false, ap, sym, ◌∙◌, rules}
use Rattle.std.specs.List.{list_any}
use Rattle.ltx_model.specs.Played.{is_played}
use Rattle.ltx_model.specs.Recovery.{is_target_played}
use Rattle.ltx_frame.specs.Events.{target_of}
use Rattle.ltx_recover.specs.Members.{member_of}
use Rattle.ltx_recover.proofs.Numbers.{standing, target_is, target_gone}
use Rattle.ltx_recover.proofs.order.Order.has_target.Goals as goal

pub before-requires-clause-first : goal.before-requires-clause-first
before-requires-clause-first c =
    let stands : list_any (is_played c.in-Before.target) c.args.self.now ≡ true = search rules in
    standing _ _ _ c.in-Before.target true c.self.view_is stands

pub before-requires-clause-second : goal.before-requires-clause-second
before-requires-clause-second c = standing _ _ _ c.args.tx true c.self.view_is c.requires

pub returns-then-has : goal.returns-then-has
returns-then-has c =
    target_is (member_of c.self.inside.members) _ c.args.self.now c.in-Before.target c.args.tx _ c.self.view_is c.before-then-has.ensures
    ∙ sym (ap (λ t. is_target_played c.args.self.now c.args.tx (target_of t)) c.in-Before.is)

pub returns-else-has : goal.returns-else-has
returns-else-has c =
    let no : c.has.result ≡ false = search rules in
    let gone : list_any (is_played c.in-Before.target) c.args.self.now ≡ false = search rules in
    no ∙ sym (target_gone (is_played c.in-Before.target) (is_played c.args.tx) c.args.self.now gone)
    ∙ sym (ap (λ t. is_target_played c.args.self.now c.args.tx (target_of t)) c.in-Before.is)
