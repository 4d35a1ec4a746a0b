use Rattle.std.proofs.Common.{rules, None, option_copied, ◌^◌, ◌≡◌, ◌≤◌, ◌<◌, ◌+◌, ◌++◌, ◌∷◌, [], ◌∙◌, length, refl, sym, ap, subst, arith}
use Rattle.std.specs.List.{AllByRecursion}
use Rattle.ltx_model.specs.Frames.{ShortEvent}
use Rattle.ltx_model.specs.Limits.{last_number, most_operations}
use Rattle.ltx_model.specs.Listings.{is_member}
use Rattle.ltx_model.specs.Operations.{cell_of_write}
use Rattle.ltx_store.specs.Kept.{room_at}
use Rattle.ltx_core.specs.Views.{CoreView}
use Rattle.ltx_core.specs.Commits.{HasCommitted}
use Rattle.ltx_core.proofs.Begun.{standing_few}
use Rattle.ltx_core.proofs.CommitFields.{core_ready, commits_listed, committed_within, accepted_steps, accepted_core, accepted_short, accepted_absent, taken_number}
use Rattle.ltx_core.proofs.CommitKinds.{commit_none_from}
use Rattle.ltx_core.proofs.HomeFields.{core_roomed, taken_writes, home_installed}
use Rattle.ltx_core.proofs.Recording.{open_stranger, open_limit}
use Rattle.ltx_core.proofs.LogWithin.{roomed_itself, roomed_event}
use Rattle.ltx_core.proofs.OwnWrites.{own_few}
use Rattle.ltx_core.proofs.state.Core.accept.Goals as goal

pub returns-in_default-clause-ok : goal.returns-in_default-clause-ok
returns-in_default-clause-ok c =
    let none : option_copied c.get.result ≡ None = search rules in
    commit_none_from _ _ c.self.view_is c.args.session (sym c.get.ensures ∙ none)

pub invariant_of-self : goal.invariant_of-self
invariant_of-self c = core_roomed _ c.reserve.new.self c.self.inside.records c.reserve.ensures.same refl c.self.invariant

pub overflow_add-slots : goal.overflow_add-slots
overflow_add-slots c =
    let few : length c.self.inside.preserve ≤ c.self.inside.last = standing_few _ c.self.invariant.standing in
    let most : c.self.inside.last ≤ last_number = c.self.invariant.within.last_bound in
    let same : c.len-slots.result ≡ length c.self.inside.preserve = c.len-slots.ensures in
    omega arith

pub invariant_of-self-in_err-reserve-2 : goal.invariant_of-self-in_err-reserve-2
invariant_of-self-in_err-reserve-2 c =
    core_ready _ c.reserve.new.self c.reserve-2.new.self.list c.reserve-2.new.self.room c.self.inside.events c.self.inside.records c.reserve.ensures.same c.reserve-2.ensures.list refl c.reserve-2.ensures.kept c.reserve-2.ensures.fits (roomed_itself _) c.self.invariant

pub invariant_of-self-in_err-reserve-3 : goal.invariant_of-self-in_err-reserve-3
invariant_of-self-in_err-reserve-3 c =
    core_ready _ c.reserve.new.self c.reserve-2.new.self.list c.reserve-2.new.self.room c.reserve-3.new.self c.self.inside.records c.reserve.ensures.same c.reserve-2.ensures.list refl c.reserve-2.ensures.kept c.reserve-2.ensures.fits
    (record { closed = c.reserve-3.ensures.closed; present = c.reserve-3.ensures.present; last = c.reserve-3.ensures.last; room = c.reserve-3.ensures.kept }) c.self.invariant

pub record_short-requires-clause-short : goal.record_short-requires-clause-short
record_short-requires-clause-short c = accepted_short _ _ c.self.view_is c.args.session c.requires.passes c.in-Some.open.now c.in-Some.ensures

pub record_short-requires-clause-stranger : goal.record_short-requires-clause-stranger
record_short-requires-clause-stranger c = open_stranger _ c.self.invariant.standing c.args.session c.in-Some.open.now (sym c.in-Some.ensures)

pub record_short-requires-clause-limit : goal.record_short-requires-clause-limit
record_short-requires-clause-limit c = open_limit _ c.self.invariant.standing c.args.session c.in-Some.open.now (sym c.in-Some.ensures)

pub invariant_of-self-in_err-record_short : goal.invariant_of-self-in_err-record_short
invariant_of-self-in_err-record_short c =
    core_ready _ c.reserve.new.self c.reserve-2.new.self.list c.reserve-2.new.self.room c.reserve-3.new.self c.record_short.new.records c.reserve.ensures.same c.reserve-2.ensures.list c.in_err-record_short.ensures.err c.reserve-2.ensures.kept c.reserve-2.ensures.fits
    (record { closed = c.reserve-3.ensures.closed; present = c.reserve-3.ensures.present; last = c.reserve-3.ensures.last; room = c.reserve-3.ensures.kept }) c.self.invariant

pub append-requires-clause-absent : goal.append-requires-clause-absent
append-requires-clause-absent c =
    ap (λ ns. is_member ns c.number-tx.result) c.reserve-2.ensures.list
    ∙ ap (is_member c.self.inside.agenda.list) (c.number-tx.ensures ∙ taken_number c.self.inside.opens c.args.session c.in-Some.open.now c.in-Some-take.open c.in-Some.ensures c.in-Some-take.ensures.taken)
    ∙ accepted_absent _ _ c.self.view_is c.args.session c.requires.passes c.in-Some.open.now c.in-Some.ensures c.self.invariant.standing

pub overflow_add-self : goal.overflow_add-self
overflow_add-self c =
    let few : c.self.inside.commits ≤ length c.self.inside.agenda.list = commits_listed _ c.self.invariant.standing in
    let same : length c.reserve-2.new.self.list ≡ length c.self.inside.agenda.list = ap length c.reserve-2.ensures.list in
    let fits = c.reserve-2.ensures.fits in
    omega arith

pub install-requires-clause-room : goal.install-requires-clause-room
install-requires-clause-room c =
    subst (AllByRecursion (λ w. 0 < room_at c.reserve.new.self (cell_of_write w))) (c.writes-2.ensures.value ∙ sym (c.in_ok-writes.ensures.equal ∙ c.writes.ensures.value)) c.in_ok-reserve.ensures.made

pub install-requires-clause-above : goal.install-requires-clause-above
install-requires-clause-above c =
    let less : c.self.inside.commits < c.self.inside.commits + 1 = omega arith in
    (c.self.inside.commits, less, c.reserve.ensures.same.marks _ c.self.invariant.within.marks)

pub short-requires-clause-count : goal.short-requires-clause-count
short-requires-clause-count c =
    subst (λ ws. length ws ≤ most_operations)
    (sym (c.from_vec-own.ensures.value ∙ taken_writes c.self.inside.opens c.args.session c.in-Some.open.now c.in-Some-take.open c.into_writes.result.items c.in-Some.ensures c.in-Some-take.ensures.taken c.into_writes.ensures.value))
    (own_few _ c.self.invariant.standing c.args.session c.in-Some.open.now (sym c.in-Some.ensures))

abbrev old : (c : goal.After-short) → CoreView
old c = record {
  counters = record { epoch = c.self.inside.epoch; last = c.self.inside.last };
  list = c.self.inside.agenda.list;
  room = c.self.inside.agenda.room;
  commits = c.self.inside.commits;
  batch = c.self.inside.batch;
  store = c.self.inside.store;
  preserve = c.self.inside.preserve;
  opens = c.self.inside.opens;
  records = c.self.inside.records;
  areas = c.self.inside.areas.items;
  log = record { durable = c.self.inside.durable; events = c.self.inside.events };
}

abbrev new : (c : goal.After-short) → CoreView
new c = record {
  counters = record { epoch = c.self.inside.epoch; last = c.self.inside.last };
  list = c.append.new.self.list;
  room = c.append.new.self.room;
  commits = c.self.inside.commits + 1;
  batch = c.self.inside.batch;
  store = c.install.new.store;
  preserve = c.self.inside.preserve;
  opens = c.take.new.self;
  records = c.record_short.new.records;
  areas = c.self.inside.areas.items;
  log = record { durable = c.self.inside.durable; events = c.short.new.self };
}

number : (c : goal.After-short) → c.number-tx.result ≡ c.in-Some.open.now.number
number c = c.number-tx.ensures ∙ taken_number c.self.inside.opens c.args.session c.in-Some.open.now c.in-Some-take.open c.in-Some.ensures c.in-Some-take.ensures.taken

own : (c : goal.After-short) → c.from_vec-own.result ≡ c.in-Some.open.now.own.writes
own c =
    c.from_vec-own.ensures.value
    ∙ taken_writes c.self.inside.opens c.args.session c.in-Some.open.now c.in-Some-take.open c.into_writes.result.items c.in-Some.ensures c.in-Some-take.ensures.taken c.into_writes.ensures.value

-- what the commit leaves
done : (c : goal.After-short) → HasCommitted (old c) c.args.session c.in-Some.open.now (new c)
done c = record {
  counters = refl;
  list = c.append.ensures.list ∙ ap (λ l. l ++ c.number-tx.result ∷ []) c.reserve-2.ensures.list ∙ ap (λ n. c.self.inside.agenda.list ++ n ∷ []) (number c);
  commits = refl;
  batch = refl;
  installed = home_installed c.self.inside.store c.reserve.new.self c.install.new.store c.number-tx.result (c.self.inside.commits + 1) c.in-Some.open.now c.in_ok-writes.writes.items (number c)
      (c.in_ok-writes.ensures.equal ∙ c.writes.ensures.value)
      c.reserve.ensures.same c.install.ensures.installed;
  preserve = refl;
  opens = c.take.ensures.left;
  records = c.in_ok-record_short.ensures.ok;
  areas = refl;
  log = roomed_event c.self.inside.durable c.self.inside.events c.reserve-3.new.self c.short.new.self (ShortEvent c.number-tx.result c.self.inside.epoch c.from_vec-own.result) (ShortEvent c.in-Some.open.now.number c.self.inside.epoch c.in-Some.open.now.own.writes)
      (record { closed = c.reserve-3.ensures.closed; present = c.reserve-3.ensures.present; last = c.reserve-3.ensures.last; room = c.reserve-3.ensures.kept })
      (λ i. ShortEvent (number c i) c.self.inside.epoch (own c i)) c.short.ensures.closed c.short.ensures.present;
}

pub invariant_of-self-2 : goal.invariant_of-self-2
invariant_of-self-2 c =
    let made : length c.self.inside.preserve + 1 ≤ c.reserve-2.new.self.room = subst (λ n. n + 1 ≤ c.reserve-2.new.self.room) c.len-slots.ensures c.in_ok-reserve-2.ensures.made in
    let slots : length c.self.inside.preserve + 1 ≤ c.reserve-3.new.self.room = subst (λ n. n + 1 ≤ c.reserve-3.new.self.room) c.len-slots.ensures c.in_ok-reserve-3.ensures.made in
    let used : c.short.new.self.room + 1 ≡ c.reserve-3.new.self.room = c.short.ensures.room in
    let fits = subst (λ l. length l + c.reserve-2.new.self.room < 2 ^ 64) c.reserve-2.ensures.list c.reserve-2.ensures.fits in
    accepted_core (old c) c.args.self.now c.self.view_is c.args.session c.requires.passes c.in-Some.open.now c.in-Some.ensures (new c) (done c) c.self.invariant.standing
    (committed_within (old c) (new c) c.args.session c.in-Some.open.now (done c) c.reserve-2.new.self.room made c.append.ensures.room fits c.install.ensures.marks (let h : length c.self.inside.preserve ≤ c.short.new.self.room = omega arith in h) c.short.ensures.last c.self.invariant.within)

pub returns-clause-ok : goal.returns-clause-ok
returns-clause-ok c = accepted_steps (old c) c.args.self.now c.self.view_is c.args.session c.requires.passes c.in-Some.open.now c.in-Some.ensures _ (new c) refl (done c)
