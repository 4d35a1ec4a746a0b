use Rattle.std.proofs.Common.{◌≡◌, ◌<◌, ◌≤◌, ◌+◌, length, None, refl, sym, ap, ◌∙◌, subst, arith, false, nat_lt}
use Rattle.std.specs.List.{list_any, AllByRecursion}
use Rattle.ltx_model.specs.Frames.{BatchEvent}
use Rattle.ltx_model.specs.Limits.{last_number, most_operations}
use Rattle.ltx_model.specs.Holders.{is_entered, removed}
use Rattle.ltx_model.specs.Operations.{cell_of_write}
use Rattle.ltx_preserve.specs.Kept.{is_live_below}
use Rattle.ltx_store.specs.Kept.{room_at}
use Rattle.ltx_core.specs.Views.{CoreView}
use Rattle.ltx_core.specs.Commits.{HasCommittedHome}
use Rattle.ltx_core.specs.Recorded.{areas_without}
use Rattle.ltx_core.proofs.Recording.{open_stranger, open_limit}
use Rattle.ltx_core.proofs.Begun.{standing_few}
use Rattle.ltx_core.proofs.CommitFields.{core_placed}
use Rattle.ltx_core.proofs.LogWithin.{roomed_event}
use Rattle.ltx_core.proofs.OwnWrites.{own_few}
use Rattle.ltx_core.proofs.HomeFields.{home_within, core_roomed, taken_writes, home_installed, ahead_since, ahead_least, home_batch, home_steps, home_core, home_entered, home_commits}
use Rattle.ltx_core.proofs.state.Core.commit_home.Goals as goal

pub invariant_of-self : goal.invariant_of-self
invariant_of-self c = core_roomed _ c.reserve.new.self c.self.inside.records c.reserve.ensures.same refl c.self.invariant

pub record_batch-requires-clause-batch : goal.record_batch-requires-clause-batch
record_batch-requires-clause-batch c = home_batch _ _ c.self.view_is c.args.session c.requires.ahead.batch.declared c.requires.ahead.batch.mark c.requires.ahead.batch.live c.in-Some.open.now c.in-Some.ensures

pub record_batch-requires-clause-stranger : goal.record_batch-requires-clause-stranger
record_batch-requires-clause-stranger c = open_stranger _ c.self.invariant.standing c.args.session c.in-Some.open.now (sym c.in-Some.ensures)

pub record_batch-requires-clause-limit : goal.record_batch-requires-clause-limit
record_batch-requires-clause-limit c = open_limit _ c.self.invariant.standing c.args.session c.in-Some.open.now (sym c.in-Some.ensures)

pub invariant_of-self-in_err-record_batch : goal.invariant_of-self-in_err-record_batch
invariant_of-self-in_err-record_batch c =
    core_placed _ c.reserve.new.self c.self.inside.agenda.list c.self.inside.agenda.room c.reserve-2.new.self c.record_batch.new.records c.reserve.ensures.same refl refl c.in_err-record_batch.ensures.err
    (record { closed = c.reserve-2.ensures.closed; present = c.reserve-2.ensures.present; last = c.reserve-2.ensures.last; room = c.reserve-2.ensures.kept }) c.self.invariant

pub invariant_of-self-in_err-reserve-2 : goal.invariant_of-self-in_err-reserve-2
invariant_of-self-in_err-reserve-2 c =
    core_placed _ c.reserve.new.self c.self.inside.agenda.list c.self.inside.agenda.room c.reserve-2.new.self c.self.inside.records c.reserve.ensures.same refl refl refl
    (record { closed = c.reserve-2.ensures.closed; present = c.reserve-2.ensures.present; last = c.reserve-2.ensures.last; room = c.reserve-2.ensures.kept }) c.self.invariant

pub overflow_add-slots : goal.overflow_add-slots
overflow_add-slots c =
    let few : length c.self.inside.preserve ≤ c.self.inside.last = standing_few _ c.self.invariant.standing in
    let most : c.self.inside.last ≤ last_number = c.self.invariant.within.last_bound in
    let same : c.len-slots.result ≡ length c.self.inside.preserve = c.len-slots.ensures in
    omega arith

pub overflow_add-self : goal.overflow_add-self
overflow_add-self c =
    let fewer : c.self.inside.commits < length c.self.inside.agenda.list = home_commits _ _ c.self.view_is c.args.session c.requires.ahead.batch.declared c.requires.ahead.batch.mark c.requires.ahead.batch.live c.in-Some.open.now c.in-Some.ensures c.self.invariant.standing in
    let listed = c.self.invariant.within.listed in
    omega arith

pub remove-requires : goal.remove-requires
remove-requires c = record {
  entered = ap (λ n. is_entered c.self.inside.preserve n) c.number-tx.ensures
      ∙ home_entered _ _ c.self.view_is c.args.session c.requires.ahead.batch.declared c.requires.ahead.batch.mark c.requires.ahead.batch.live c.in-Some.open.now c.in-Some.ensures c.self.invariant.standing;
}

pub install-requires-clause-room : goal.install-requires-clause-room
install-requires-clause-room c =
    subst (AllByRecursion (λ w. 0 < room_at c.reserve.new.self (cell_of_write w))) (c.writes-2.ensures.value ∙ sym (c.in_ok-writes.ensures.equal ∙ c.writes.ensures.value)) c.in_ok-reserve.ensures.made

pub install-requires-clause-above : goal.install-requires-clause-above
install-requires-clause-above c =
    let less : c.self.inside.commits < c.self.inside.commits + 1 = omega arith in
    (c.self.inside.commits, less, c.reserve.ensures.same.marks _ c.self.invariant.within.marks)

pub batch-requires-clause-count : goal.batch-requires-clause-count
batch-requires-clause-count c =
    subst (λ ws. length ws ≤ most_operations)
    (sym (c.from_vec-own.ensures.value ∙ taken_writes c.self.inside.opens c.args.session c.in-Some.open.now c.in-Some-take.open c.into_writes.result.items c.in-Some.ensures c.in-Some-take.ensures.taken c.into_writes.ensures.value))
    (own_few _ c.self.invariant.standing c.args.session c.in-Some.open.now (sym c.in-Some.ensures))

-- no batch committed since the slot, no elder is live, and what the commit leaves
unpassed : (c : goal.After-batch) → nat_lt c.requires.ahead.batch.mark c.self.inside.batch ≡ false
unpassed c = ahead_since _ _ c.self.view_is c.args.session c.requires.ahead.batch.declared c.requires.ahead.batch.mark c.requires.ahead.batch.live c.in-Some.open.now c.in-Some.ensures c.requires.ahead.unpassed

least : (c : goal.After-batch) → list_any (is_live_below c.in-Some.open.now.number) c.self.inside.preserve ≡ false
least c = ahead_least _ _ c.self.view_is c.args.session c.requires.ahead.batch.declared c.requires.ahead.batch.mark c.requires.ahead.batch.live c.in-Some.open.now c.in-Some.ensures c.requires.ahead.least

abbrev old : (c : goal.After-batch) → CoreView
old c = record {
  counters = record { epoch = c.self.inside.epoch; last = c.self.inside.last };
  list = c.self.inside.agenda.list;
  room = c.self.inside.agenda.room;
  commits = c.self.inside.commits;
  batch = c.self.inside.batch;
  store = c.self.inside.store;
  preserve = c.self.inside.preserve;
  opens = c.self.inside.opens;
  records = c.self.inside.records;
  areas = c.self.inside.areas.items;
  log = record { durable = c.self.inside.durable; events = c.self.inside.events };
}

abbrev new : (c : goal.After-batch) → CoreView
new c = record {
  counters = record { epoch = c.self.inside.epoch; last = c.self.inside.last };
  list = c.settle_at_rest.new.agenda.list;
  room = c.settle_at_rest.new.agenda.room;
  commits = c.self.inside.commits + 1;
  batch = c.self.inside.commits + 1;
  store = c.install.new.store;
  preserve = c.remove.new.self;
  opens = c.take.new.self;
  records = c.record_batch.new.records;
  areas = c.drop_area.new.areas.items;
  log = record { durable = c.self.inside.durable; events = c.batch.new.self };
}

own : (c : goal.After-batch) → c.from_vec-own.result ≡ c.in-Some.open.now.own.writes
own c =
    c.from_vec-own.ensures.value
    ∙ taken_writes c.self.inside.opens c.args.session c.in-Some.open.now c.in-Some-take.open c.into_writes.result.items c.in-Some.ensures c.in-Some-take.ensures.taken c.into_writes.ensures.value

done : (c : goal.After-batch) → HasCommittedHome (old c) c.args.session c.in-Some.open.now (new c)
done c = record {
  counters = refl;
  list = c.settle_at_rest.ensures.list;
  commits = refl;
  batch = refl;
  installed = home_installed c.self.inside.store c.reserve.new.self c.install.new.store c.number-tx.result (c.self.inside.commits + 1) c.in-Some.open.now c.in_ok-writes.writes.items c.number-tx.ensures
      (c.in_ok-writes.ensures.equal ∙ c.writes.ensures.value)
      c.reserve.ensures.same c.install.ensures.installed;
  preserve = c.remove.ensures ∙ ap (λ n. removed n c.self.inside.preserve) c.number-tx.ensures;
  opens = c.take.ensures.left;
  records = c.in_ok-record_batch.ensures.ok;
  areas = c.drop_area.ensures ∙ ap (λ n. areas_without n c.self.inside.areas.items) c.number-tx.ensures;
  log = roomed_event c.self.inside.durable c.self.inside.events c.reserve-2.new.self c.batch.new.self (BatchEvent c.number-tx.result c.self.inside.epoch None c.from_vec-own.result) (BatchEvent c.in-Some.open.now.number c.self.inside.epoch None c.in-Some.open.now.own.writes)
      (record { closed = c.reserve-2.ensures.closed; present = c.reserve-2.ensures.present; last = c.reserve-2.ensures.last; room = c.reserve-2.ensures.kept })
      (λ i. BatchEvent (c.number-tx.ensures i) c.self.inside.epoch None (own c i)) c.batch.ensures.closed c.batch.ensures.present;
}

pub invariant_of-self-2 : goal.invariant_of-self-2
invariant_of-self-2 c =
    let slots : length c.self.inside.preserve + 1 ≤ c.reserve-2.new.self.room = subst (λ n. n + 1 ≤ c.reserve-2.new.self.room) c.len-slots.ensures c.in_ok-reserve-2.ensures.made in
    let used : c.batch.new.self.room + 1 ≡ c.reserve-2.new.self.room = c.batch.ensures.room in
    home_core (old c) c.args.self.now c.self.view_is c.args.session c.requires.ahead.batch.declared c.requires.ahead.batch.mark c.requires.ahead.batch.live c.in-Some.open.now c.in-Some.ensures c.self.invariant.standing (new c) (unpassed c) (least c) (done c)
    (home_within (old c) (new c) c.args.session c.in-Some.open.now (done c) c.settle_at_rest.ensures.room c.install.ensures.marks (let h : length c.self.inside.preserve ≤ c.batch.new.self.room = omega arith in h) c.batch.ensures.last c.self.invariant.within)

pub returns-clause-ok : goal.returns-clause-ok
returns-clause-ok c =
    home_steps (old c) c.args.self.now c.self.view_is c.args.session c.requires.ahead.batch.declared c.requires.ahead.batch.mark c.requires.ahead.batch.live c.in-Some.open.now c.in-Some.ensures _ (new c) (unpassed c) (least c) refl (done c)
