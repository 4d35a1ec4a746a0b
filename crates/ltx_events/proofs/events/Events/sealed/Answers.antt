use Rattle.std.proofs.Common.{◌≡◌, sym, subst, take, rules}
use Rattle.std.specs.List.{AllByRecursion}
use Rattle.ltx_model.specs.Played.{IsCommitUpTo}
use Rattle.ltx_frame.specs.Events.{events_of}
use Rattle.ltx_events.specs.Kept.{Unsealed, AreInTime}
use Rattle.ltx_events.proofs.Parts.{closed_in_time}
use Rattle.ltx_events.proofs.events.Events.sealed.Goals as goal

pub framed-requires-clause-time : goal.framed-requires-clause-time
framed-requires-clause-time c =
    let copied : c.in_ok-copies_of.field-0.items ≡ take c.self.inside.closed c.self.inside.events.items = search rules in
    let up : AllByRecursion (IsCommitUpTo c.args.epoch) (events_of (take c.self.inside.closed c.self.inside.events.items)) =
    subst (λ (v : Unsealed). AllByRecursion (IsCommitUpTo c.args.epoch) v.closed) (sym c.self.view_is) c.requires.closed in
    subst (λ es. AreInTime c.args.epoch (events_of es)) (sym copied)
    (closed_in_time c.self.inside.events.items _ c.self.inside.closed c.self.inside.room c.self.inside.last c.args.epoch c.self.invariant up)
