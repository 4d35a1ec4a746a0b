use Rattle.std.proofs.Common.{◌<◌, ◌^◌, length, refl, rules, subst}
use Rattle.ltx_model.specs.Spellings.{IsLogEpoch}
use Rattle.ltx_frame.specs.Events.{events_of, frame_of}
use Rattle.ltx_frame.specs.Orders.{AreInOrder}
use Rattle.ltx_frame.proofs.OrderLemmas.{frame_from, order_from}
use Rattle.ltx_frame.proofs.EventLemmas.{counted}
use Rattle.ltx_frame.proofs.frame.Frame.new.Goals as goal

pub returns-then-not-are_in_order-clause-within : goal.returns-then-not-are_in_order-clause-within
returns-then-not-are_in_order-clause-within c =
    let no : AreInOrder 0 c.args.epoch (events_of c.args.events.items) → ⊥ = search rules in
    (λ e. absurd cc, λ is. absurd (no (order_from (frame_of c.args.epoch c.args.events.items) is)))

pub invariant_of-result : goal.invariant_of-result
invariant_of-result c =
    let epoch : IsLogEpoch c.args.epoch = search rules in
    let fit : length c.args.events.items < 2 ^ 64 = search rules in
    let order : AreInOrder 0 c.args.epoch (events_of c.args.events.items) = search rules in
    let count : length (events_of c.args.events.items) < 2 ^ 64 = subst (λ n. n < 2 ^ 64) (counted c.args.events.items (events_of c.args.events.items) refl) fit in
    frame_from (frame_of c.args.epoch c.args.events.items) epoch count order

pub returns-clause-within : goal.returns-clause-within
returns-clause-within c =
    let epoch : IsLogEpoch c.args.epoch = search rules in
    let fit : length c.args.events.items < 2 ^ 64 = search rules in
    let order : AreInOrder 0 c.args.epoch (events_of c.args.events.items) = search rules in
    let count : length (events_of c.args.events.items) < 2 ^ 64 = subst (λ n. n < 2 ^ 64) (counted c.args.events.items (events_of c.args.events.items) refl) fit in
    (λ e. frame_from (frame_of c.args.epoch c.args.events.items) epoch count order, λ is. refl)
