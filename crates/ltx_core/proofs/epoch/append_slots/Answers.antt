use Rattle.std.proofs.Common.{◌≤◌, ◌<◌, ◌+◌, length, sym, ◌∙◌, subst}
use Rattle.ltx_core.proofs.PendingSlots.{IsAppending, slots_begin, slot_room, slot_fresh, slot_appended, slot_none, slots_all}
use Rattle.ltx_core.proofs.epoch.append_slots.Goals as goal
use Rattle.ltx_core.proofs.epoch.append_slots.Goals.{in-Some, in_default}

pub loop-place-init : goal.loop-place-init
loop-place-init c = slots_begin c.args.agenda.now.list c.args.agenda.now.room c.args.preserve.now

pub append_slot-requires-clause-room : goal.append_slot-requires-clause-room
append_slot-requires-clause-room c = slot_room _ _ _ _ _ _ c.in-Some.tx c.loop-place.invariant (sym c.pending_at.ensures ∙ c.in-Some.is) c.requires.room

pub append_slot-requires-clause-absent : goal.append_slot-requires-clause-absent
append_slot-requires-clause-absent c = slot_fresh _ _ _ _ _ _ c.in-Some.tx c.loop-place.invariant (sym c.pending_at.ensures ∙ c.in-Some.is) c.requires.fresh

pub loop-place-preserved : goal.loop-place-preserved
loop-place-preserved c =
    let within : c.loop-place.place < length c.args.preserve.now = subst (λ n. c.loop-place.place < n) c.len-place-end.ensures c.loop-place-test.true in
    elim c.match-pending_at.branch [
      | in-Some w ↦ subst (λ a. IsAppending c.args.agenda.now.list c.args.agenda.now.room a.list a.room c.args.preserve.now (c.loop-place.place + 1)) (sym w.agenda-is)
          (slot_appended _ _ _ _ _ _ w.in-Some.tx c.loop-place.invariant (sym c.pending_at.ensures ∙ w.in-Some.is) w.append_slot.new.self.list w.append_slot.new.self.room w.append_slot.ensures.list w.append_slot.ensures.room)
      | in_default w ↦ subst (λ a. IsAppending c.args.agenda.now.list c.args.agenda.now.room a.list a.room c.args.preserve.now (c.loop-place.place + 1)) (sym w.agenda-is)
          (slot_none _ _ _ _ _ _ c.loop-place.invariant within (sym c.pending_at.ensures ∙ w.in_default.is))
    ]

pub returns-clause-list : goal.returns-clause-list
returns-clause-list c =
    let past : length c.args.preserve.now ≤ c.loop-place.place = subst (λ n. n ≤ c.loop-place.place) c.len-place-end.ensures c.loop-place-test.false in
    (slots_all _ _ _ _ _ _ c.loop-place.invariant past).0

pub returns-clause-room : goal.returns-clause-room
returns-clause-room c =
    let past : length c.args.preserve.now ≤ c.loop-place.place = subst (λ n. n ≤ c.loop-place.place) c.len-place-end.ensures c.loop-place-test.false in
    (slots_all _ _ _ _ _ _ c.loop-place.invariant past).1
