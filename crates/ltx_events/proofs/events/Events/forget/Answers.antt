use Rattle.ltx_events.proofs.Parts.{kept_behind}
use Rattle.ltx_events.proofs.events.Events.forget.Goals as goal

pub invariant_of-self : goal.invariant_of-self
invariant_of-self c =
    rw (c.drop_front.ensures.items, c.drop_front.ensures.capacity) (kept_behind c.self.inside.events.items _ c.self.inside.closed c.self.inside.room c.self.inside.last c.self.invariant)
