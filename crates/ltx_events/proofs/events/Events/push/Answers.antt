use Rattle.std.proofs.Common.{◌≡◌, ◌+◌, ◌-◌, ◌<◌, ◌≤◌, sym, subst, arith}
use Rattle.ltx_frame.specs.Events.{event_of}
use Rattle.ltx_frame.specs.Orders.{epoch_past}
use Rattle.ltx_events.specs.Kept.{Unsealed}
use Rattle.ltx_events.proofs.Parts.{kept_more}
use Rattle.ltx_events.proofs.events.Events.push.Goals as goal

pub invariant_of-self : goal.invariant_of-self
invariant_of-self c =
    let room : 0 < c.self.inside.room = subst (λ (v : Unsealed). 0 < v.room) (sym c.self.view_is) c.requires.room in
    let one : (c.self.inside.room - 1) + 1 ≡ c.self.inside.room = omega (arith, room) in
    let climbs : c.self.inside.last ≤ c.args.last = subst (λ (v : Unsealed). v.last ≤ c.args.last) (sym c.self.view_is) c.requires.climbs in
    let past : c.args.last ≡ epoch_past c.self.inside.last (event_of c.args.event) = subst (λ (v : Unsealed). c.args.last ≡ epoch_past v.last (event_of c.args.event)) (sym c.self.view_is) c.requires.past in
    rw (c.push_reserved.ensures.items, c.push_reserved.ensures.capacity)
    (kept_more c.self.inside.events.items c.args.event _ c.self.inside.closed c.self.inside.room (c.self.inside.room - 1) c.self.inside.last c.args.last c.self.invariant one c.requires.kept climbs past)
