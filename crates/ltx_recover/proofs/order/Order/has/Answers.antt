use Rattle.std.proofs.Common.{◌≡◌, ap, sym, ◌∙◌, rules}
use Rattle.std.specs.List.{list_any}
use Rattle.std.specs.Option.{is_some}
use Rattle.ltx_model.specs.Played.{is_played}
use Rattle.ltx_recover.specs.Members.{member_of}
use Rattle.ltx_recover.proofs.Numbers.{any_played}
use Rattle.ltx_recover.proofs.order.Order.has.Goals as goal

pub returns : goal.returns
returns c =
    let some : c.is_some.result ≡ is_some (member_of c.self.inside.members c.args.tx) = search rules in
    some ∙ c.self.invariant.known c.args.tx ∙ sym (any_played (member_of c.self.inside.members) _ c.args.tx) ∙ ap (list_any (is_played c.args.tx)) c.self.view_is
