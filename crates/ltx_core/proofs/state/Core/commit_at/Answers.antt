use Rattle.std.proofs.Common.{◌≡◌, ◌<◌, ◌≤◌, ◌+◌, length, refl, sym, ap, ◌∙◌, subst, arith}
use Rattle.std.specs.List.{AllByRecursion}
use Rattle.ltx_model.specs.Frames.{BatchEvent}
use Rattle.ltx_model.specs.Limits.{last_number, most_operations}
use Rattle.ltx_frame.specs.Events.{target_of}
use Rattle.ltx_model.specs.Holders.{is_entered, removed}
use Rattle.ltx_model.specs.Listings.{is_member}
use Rattle.ltx_model.specs.Operations.{cell_of_write}
use Rattle.ltx_store.specs.Kept.{room_at, versions_at}
use Rattle.ltx_core.specs.Decided.{list_at, HasCommittedAt}
use Rattle.ltx_core.specs.Installed.{HasInstalledUnless, AreByMembers}
use Rattle.ltx_core.specs.Recorded.{areas_without}
use Rattle.ltx_core.specs.Views.{CoreView}
use Rattle.ltx_core.proofs.CommitFields.{core_placed}
use Rattle.ltx_core.proofs.HomeFields.{core_roomed, taken_writes, home_batch, home_entered, home_listed, home_commits}
use Rattle.ltx_core.proofs.PlacedCommits.{place_target, place_member, place_writers, placed_steps, placed_core}
use Rattle.ltx_core.proofs.PlacedFields.{placed_installed, placed_within}
use Rattle.ltx_core.proofs.Recording.{open_stranger, open_limit}
use Rattle.ltx_core.proofs.Begun.{standing_few}
use Rattle.ltx_core.proofs.LogWithin.{roomed_itself, roomed_event}
use Rattle.ltx_core.proofs.OwnWrites.{own_few}
use Rattle.ltx_core.proofs.state.Core.commit_at.Goals as goal

pub invariant_of-self : goal.invariant_of-self
invariant_of-self c = core_roomed _ c.reserve.new.self c.self.inside.records c.reserve.ensures.same refl c.self.invariant

pub reserve_place-requires : goal.reserve_place-requires
reserve_place-requires c = record { member = λ p is. (place_target _ _ c.self.view_is c.args.session c.requires.live c.in-Some.open.now c.in-Some.ensures c.args.place c.requires.decided c.self.invariant.standing p is).0 }

pub invariant_of-self-in_err-reserve_place : goal.invariant_of-self-in_err-reserve_place
invariant_of-self-in_err-reserve_place c =
    core_placed _ c.reserve.new.self c.reserve_place.new.agenda.list c.reserve_place.new.agenda.room c.self.inside.events c.self.inside.records c.reserve.ensures.same c.reserve_place.ensures.list c.reserve_place.ensures.room refl (roomed_itself _) c.self.invariant

pub invariant_of-self-in_err-reserve-2 : goal.invariant_of-self-in_err-reserve-2
invariant_of-self-in_err-reserve-2 c =
    core_placed _ c.reserve.new.self c.reserve_place.new.agenda.list c.reserve_place.new.agenda.room c.reserve-2.new.self c.self.inside.records c.reserve.ensures.same c.reserve_place.ensures.list c.reserve_place.ensures.room refl
    (record { closed = c.reserve-2.ensures.closed; present = c.reserve-2.ensures.present; last = c.reserve-2.ensures.last; room = c.reserve-2.ensures.kept }) c.self.invariant

pub overflow_add-slots : goal.overflow_add-slots
overflow_add-slots c =
    let few : length c.self.inside.preserve ≤ c.self.inside.last = standing_few _ c.self.invariant.standing in
    let most : c.self.inside.last ≤ last_number = c.self.invariant.within.last_bound in
    let same : c.len-slots.result ≡ length c.self.inside.preserve = c.len-slots.ensures in
    omega arith

pub record_batch-requires-clause-batch : goal.record_batch-requires-clause-batch
record_batch-requires-clause-batch c = home_batch _ _ c.self.view_is c.args.session c.requires.live.declared c.requires.live.mark c.requires.live.live c.in-Some.open.now c.in-Some.ensures

pub record_batch-requires-clause-stranger : goal.record_batch-requires-clause-stranger
record_batch-requires-clause-stranger c = open_stranger _ c.self.invariant.standing c.args.session c.in-Some.open.now (sym c.in-Some.ensures)

pub record_batch-requires-clause-limit : goal.record_batch-requires-clause-limit
record_batch-requires-clause-limit c = open_limit _ c.self.invariant.standing c.args.session c.in-Some.open.now (sym c.in-Some.ensures)

pub invariant_of-self-in_err-record_batch : goal.invariant_of-self-in_err-record_batch
invariant_of-self-in_err-record_batch c =
    core_placed _ c.reserve.new.self c.reserve_place.new.agenda.list c.reserve_place.new.agenda.room c.reserve-2.new.self c.record_batch.new.records c.reserve.ensures.same c.reserve_place.ensures.list c.reserve_place.ensures.room
    c.in_err-record_batch.ensures.err (record { closed = c.reserve-2.ensures.closed; present = c.reserve-2.ensures.present; last = c.reserve-2.ensures.last; room = c.reserve-2.ensures.kept }) c.self.invariant

pub overflow_add-self : goal.overflow_add-self
overflow_add-self c =
    let fewer : c.self.inside.commits < length c.self.inside.agenda.list = home_commits _ _ c.self.view_is c.args.session c.requires.live.declared c.requires.live.mark c.requires.live.live c.in-Some.open.now c.in-Some.ensures c.self.invariant.standing in
    let listed = c.self.invariant.within.listed in
    omega arith

pub remove-requires : goal.remove-requires
remove-requires c = record { entered = ap (λ n. is_entered c.self.inside.preserve n) c.number-tx.ensures ∙ home_entered _ _ c.self.view_is c.args.session c.requires.live.declared c.requires.live.mark c.requires.live.live c.in-Some.open.now c.in-Some.ensures c.self.invariant.standing }

pub move_to-requires : goal.move_to-requires
move_to-requires c = record {
  moves = λ p is.
      let there = place_target _ _ c.self.view_is c.args.session c.requires.live c.in-Some.open.now c.in-Some.ensures c.args.place c.requires.decided c.self.invariant.standing p is in
      record {
        member = ap (λ l. is_member l c.number-tx.result) c.reserve_place.ensures.list ∙ ap (is_member c.self.inside.agenda.list) c.number-tx.ensures ∙ home_listed _ _ c.self.view_is c.args.session c.requires.live.declared c.requires.live.mark c.requires.live.live c.in-Some.open.now c.in-Some.ensures c.self.invariant.standing;
        target = ap (λ l. is_member l p) c.reserve_place.ensures.list ∙ there.0;
        differ = λ same. there.1 (sym c.number-tx.ensures ∙ same);
        room = c.in_ok-reserve_place.ensures.made p is;
      };
}

pub install_unless_later-requires-clause-room : goal.install_unless_later-requires-clause-room
install_unless_later-requires-clause-room c =
    subst (AllByRecursion (λ w. 0 < room_at c.reserve.new.self (cell_of_write w))) (c.writes-2.ensures.value ∙ sym (c.in_ok-writes.ensures.equal ∙ c.writes.ensures.value)) c.in_ok-reserve.ensures.made

pub install_unless_later-requires-clause-above : goal.install_unless_later-requires-clause-above
install_unless_later-requires-clause-above c =
    let less : c.self.inside.commits < c.self.inside.commits + 1 = omega arith in
    (c.self.inside.commits, less, c.reserve.ensures.same.marks _ c.self.invariant.within.marks)

pub install_unless_later-requires-clause-member : goal.install_unless_later-requires-clause-member
install_unless_later-requires-clause-member c =
    ap (λ l. is_member l c.number-tx.result) (c.move_to.ensures.list ∙ (λ i. list_at c.args.place (c.number-tx.ensures i) (c.reserve_place.ensures.list i)))
    ∙ ap (is_member (list_at c.args.place c.in-Some.open.now.number c.self.inside.agenda.list)) c.number-tx.ensures ∙ place_member _ _ c.self.view_is c.args.session c.requires.live c.in-Some.open.now c.in-Some.ensures c.args.place c.requires.decided c.self.invariant.standing

pub install_unless_later-requires-clause-members : goal.install_unless_later-requires-clause-members
install_unless_later-requires-clause-members c cell =
    subst (λ l. AreByMembers l (versions_at c.reserve.new.self cell)) (sym (c.move_to.ensures.list ∙ (λ i. list_at c.args.place (c.number-tx.ensures i) (c.reserve_place.ensures.list i))))
    (place_writers _ _ c.self.view_is c.args.session c.requires.live c.in-Some.open.now c.in-Some.ensures c.args.place c.requires.decided c.self.invariant.standing c.reserve.new.self c.reserve.ensures.same cell)

pub batch-requires-clause-count : goal.batch-requires-clause-count
batch-requires-clause-count c =
    subst (λ ws. length ws ≤ most_operations)
    (sym (c.from_vec-own.ensures.value ∙ taken_writes c.self.inside.opens c.args.session c.in-Some.open.now c.in-Some-take.open c.into_writes.result.items c.in-Some.ensures c.in-Some-take.ensures.taken c.into_writes.ensures.value))
    (own_few _ c.self.invariant.standing c.args.session c.in-Some.open.now (sym c.in-Some.ensures))

abbrev old : (c : goal.After-reply_at) → CoreView
old c = record {
  counters = record { epoch = c.self.inside.epoch; last = c.self.inside.last };
  list = c.self.inside.agenda.list;
  room = c.self.inside.agenda.room;
  commits = c.self.inside.commits;
  batch = c.self.inside.batch;
  store = c.self.inside.store;
  preserve = c.self.inside.preserve;
  opens = c.self.inside.opens;
  records = c.self.inside.records;
  areas = c.self.inside.areas.items;
  log = record { durable = c.self.inside.durable; events = c.self.inside.events };
}

abbrev new : (c : goal.After-reply_at) → CoreView
new c = record {
  counters = record { epoch = c.self.inside.epoch; last = c.self.inside.last };
  list = c.settle_at_rest.new.agenda.list;
  room = c.settle_at_rest.new.agenda.room;
  commits = c.self.inside.commits + 1;
  batch = c.self.inside.commits + 1;
  store = c.install_unless_later.new.store;
  preserve = c.remove.new.self;
  opens = c.take.new.self;
  records = c.record_batch.new.records;
  areas = c.drop_area.new.areas.items;
  log = record { durable = c.self.inside.durable; events = c.batch.new.self };
}

own : (c : goal.After-reply_at) → c.from_vec-own.result ≡ c.in-Some.open.now.own.writes
own c =
    c.from_vec-own.ensures.value
    ∙ taken_writes c.self.inside.opens c.args.session c.in-Some.open.now c.in-Some-take.open c.into_writes.result.items c.in-Some.ensures c.in-Some-take.ensures.taken c.into_writes.ensures.value

-- what the commit leaves
done : (c : goal.After-reply_at) → HasCommittedAt c.args.place (old c) c.args.session c.in-Some.open.now (new c)
done c = record {
  counters = refl;
  list = c.settle_at_rest.ensures.list ∙ c.move_to.ensures.list ∙ (λ i. list_at c.args.place (c.number-tx.ensures i) (c.reserve_place.ensures.list i));
  commits = refl;
  batch = refl;
  installed = placed_installed c.settle_at_rest.new.agenda.list c.self.inside.store c.reserve.new.self c.install_unless_later.new.store c.number-tx.result (c.self.inside.commits + 1) c.in-Some.open.now c.in_ok-writes.writes.items
      c.number-tx.ensures
      (c.in_ok-writes.ensures.equal ∙ c.writes.ensures.value)
      c.reserve.ensures.same
      (subst (λ l. HasInstalledUnless l c.reserve.new.self c.install_unless_later.new.store c.number-tx.result (c.self.inside.commits + 1) c.in_ok-writes.writes.items) (sym c.settle_at_rest.ensures.list) c.install_unless_later.ensures.installed);
  preserve = c.remove.ensures ∙ ap (λ n. removed n c.self.inside.preserve) c.number-tx.ensures;
  opens = c.take.ensures.left;
  records = c.in_ok-record_batch.ensures.ok;
  areas = c.drop_area.ensures ∙ ap (λ n. areas_without n c.self.inside.areas.items) c.number-tx.ensures;
  log = roomed_event c.self.inside.durable c.self.inside.events c.reserve-2.new.self c.batch.new.self (BatchEvent c.number-tx.result c.self.inside.epoch (target_of c.args.place) c.from_vec-own.result)
      (BatchEvent c.in-Some.open.now.number c.self.inside.epoch (target_of c.args.place) c.in-Some.open.now.own.writes)
      (record { closed = c.reserve-2.ensures.closed; present = c.reserve-2.ensures.present; last = c.reserve-2.ensures.last; room = c.reserve-2.ensures.kept })
      (λ i. BatchEvent (c.number-tx.ensures i) c.self.inside.epoch (target_of c.args.place) (own c i)) c.batch.ensures.closed c.batch.ensures.present;
}

pub invariant_of-self-2 : goal.invariant_of-self-2
invariant_of-self-2 c =
    let slots : length c.self.inside.preserve + 1 ≤ c.reserve-2.new.self.room = subst (λ n. n + 1 ≤ c.reserve-2.new.self.room) c.len-slots.ensures c.in_ok-reserve-2.ensures.made in
    let used : c.batch.new.self.room + 1 ≡ c.reserve-2.new.self.room = c.batch.ensures.room in
    placed_core (old c) c.args.self.now c.self.view_is c.args.session c.requires.live c.in-Some.open.now c.in-Some.ensures c.args.place c.requires.decided (new c) (done c) c.self.invariant.standing
    (placed_within c.args.place (old c) (new c) c.args.session c.in-Some.open.now (done c) (home_listed _ _ c.self.view_is c.args.session c.requires.live.declared c.requires.live.mark c.requires.live.live c.in-Some.open.now c.in-Some.ensures c.self.invariant.standing)
    (c.settle_at_rest.ensures.room ∙ c.move_to.ensures.room ∙ c.reserve_place.ensures.room) c.install_unless_later.ensures.marks
    (let h : length c.self.inside.preserve ≤ c.batch.new.self.room = omega arith in h) c.batch.ensures.last c.self.invariant.within)

pub returns-clause-ok : goal.returns-clause-ok
returns-clause-ok c =
    placed_steps (old c) c.args.self.now c.self.view_is c.args.session c.requires.live c.in-Some.open.now c.in-Some.ensures c.args.place c.requires.decided (new c) (done c) _ c.reply_at.ensures
