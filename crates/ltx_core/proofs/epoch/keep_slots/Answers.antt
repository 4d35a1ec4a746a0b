use Rattle.std.proofs.Common.{◌≤◌, ◌<◌, ◌+◌, length, sym, ◌∙◌, subst}
use Rattle.ltx_core.proofs.PendingSlots.{IsKeeping, keep_begin, keep_room, keep_more, keep_none, keep_all}
use Rattle.ltx_core.proofs.epoch.keep_slots.Goals as goal
use Rattle.ltx_core.proofs.epoch.keep_slots.Goals.{in-Some, in_default}

pub loop-place-init : goal.loop-place-init
loop-place-init c = keep_begin c.args.events.now c.args.preserve.now

pub slot-requires : goal.slot-requires
slot-requires c = record { room = keep_room _ _ _ _ c.loop-place.invariant c.in-Some.tx (sym c.pending_at.ensures ∙ c.in-Some.is) c.requires.room }

pub loop-place-preserved : goal.loop-place-preserved
loop-place-preserved c =
    let within : c.loop-place.place < length c.args.preserve.now = subst (λ n. c.loop-place.place < n) c.len-place-end.ensures c.loop-place-test.true in
    elim c.match-pending_at.branch [
      | in-Some w ↦ subst (λ e. IsKeeping c.args.events.now e c.args.preserve.now (c.loop-place.place + 1)) (sym w.events-is)
          (keep_more _ _ _ _ c.loop-place.invariant w.in-Some.tx (sym c.pending_at.ensures ∙ w.in-Some.is) w.slot.new.self w.slot.ensures.closed w.slot.ensures.present w.slot.ensures.room w.slot.ensures.last)
      | in_default w ↦ subst (λ e. IsKeeping c.args.events.now e c.args.preserve.now (c.loop-place.place + 1)) (sym w.events-is)
          (keep_none _ _ _ _ c.loop-place.invariant within (sym c.pending_at.ensures ∙ w.in_default.is))
    ]

pub returns : goal.returns
returns c =
    let past : length c.args.preserve.now ≤ c.loop-place.place = subst (λ n. n ≤ c.loop-place.place) c.len-place-end.ensures c.loop-place-test.false in
    let all = keep_all _ _ _ _ c.loop-place.invariant past in
    record { closed = c.loop-place.invariant.closed; present = all.0; room = all.1; last = c.loop-place.invariant.last }
