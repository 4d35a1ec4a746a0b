use Rattle.std.proofs.Common.{◌≡◌, ◌++◌, sym, ap, ◌∙◌, subst, length, take, rules}
use Rattle.ltx_frame.specs.Events.{events_of}
use Rattle.ltx_events.specs.Kept.{Unsealed}
use Rattle.ltx_events.proofs.Parts.{parts, all_closed}
use Rattle.ltx_events.proofs.events.Events.close.Goals as goal

pub returns-clause-closed : goal.returns-clause-closed
returns-clause-closed c =
    let many : c.len-self-inside.result ≡ length c.self.inside.events.items = search rules in
    subst (λ n. events_of (take n c.self.inside.events.items) ≡ c.args.self.now.closed ++ c.args.self.now.present) (sym many)
    (all_closed c.self.inside.events.items ∙ sym (parts c.self.inside.events.items c.self.inside.closed) ∙ ap (λ (v : Unsealed). v.closed ++ v.present) c.self.view_is)
