use Rattle.std.proofs.Common.{◌≡◌, ◌+◌, length}
use Rattle.ltx_model.specs.Played.{after_events}
use Rattle.ltx_model.specs.Recovery.{unlawful_in}
use Rattle.ltx_frame.specs.Events.{events_of}
use Rattle.ltx_recover.proofs.order.Order.play_all.Given as goal

-- what is left of the events gives what all of them gave
abbrev pub invariant-loop-event : goal.invariant-loop-event
invariant-loop-event l = record {
  found : unlawful_in l.closed l.fn.self 0 (events_of l.fn.events) ≡ unlawful_in l.closed l.self l.number (events_of l.rest);
  played : after_events l.fn.self (events_of l.fn.events) ≡ after_events l.self (events_of l.rest);
  counted : l.number + length l.rest ≡ length l.fn.events;
}

abbrev pub decreases-loop-event : goal.decreases-loop-event
decreases-loop-event l = length l.rest
