-- A new core stands for its base, and what a core tells of its sessions and of the order.
use Rattle.std.proofs.Common.{◌≡◌, inl, ℕ, ◌+◌, ◌-◌, ◌≤◌, ◌<◌, Bool, not, List, [], ◌∷◌, map, filter, length, Option, Some, None, option_map, is_some, refl, sym, ap, ◌∙◌, subst, arith}
use Rattle.std.specs.List.{AllByRecursion}
use Rattle.ltx_model.specs.declared.replies.Entry.{Entry}
use Rattle.ltx_model.specs.Keys.{Cell}
use Rattle.ltx_model.specs.LastWrites.{made_before}
use Rattle.ltx_model.specs.Restored.{Restored, IsRestored}
use Rattle.ltx_model.specs.Agenda.{Member, LiveSlot, Committed, number_of, serial}
use Rattle.ltx_model.specs.Holders.{Holder, is_entered}
use Rattle.ltx_model.specs.States.{Base, State, base_of, first_state, active_of, order}
use Rattle.ltx_model.specs.Histories.{state}
use Rattle.ltx_model.proofs.OneMore.{run-none, state-none, legal-none}
use Rattle.ltx_model.specs.StoredRows.{row_at}
use Rattle.ltx_model.specs.Lists.{IsPairwise}
use Rattle.ltx_model.specs.Played.{IsCommitUpTo}
use Rattle.ltx_model.specs.Records.{Records, IsRecordOf, AreRecordsOf}
use Rattle.ltx_lemmas.proofs.Lists.{all_map, contains_none}
use Rattle.ltx_laws.proofs.DropsFrames.{sealed_events}
use Rattle.ltx_chain.specs.Versions as versions
use Rattle.ltx_store.specs.Kept.{versions_at, latest_rows, AreUpTo}
use Rattle.ltx_core.specs.Built.{built}
use Rattle.ltx_model.specs.Limits.{last_durable, last_number}
use Rattle.ltx_core.specs.Logged.{IsLogged}
use Rattle.ltx_open.specs.Views.{OpenView}
use Rattle.ltx_core.specs.Views.{LogView, CoreView, pending, IsWithin}
use Rattle.ltx_open.specs.Slots.{opened}
use Rattle.ltx_core.specs.Stands.{IsOfBase, HasMark, IsSlotOf, write_seen, ground, StandsAt}
use Rattle.ltx_core.specs.Steps.{IsCore}
use Rattle.ltx_core.proofs.LastSeen.{last_none}
use Rattle.ltx_core.proofs.OpensKept.{opens_none, opens_some}

-- the records of nothing
records_new : (base : Base) (r : Records) → r.kept ≡ [] → r.commits ≡ 0 → AreRecordsOf (first_state base) r
records_new base r kept commits = record {
  commits = commits;
  told = subst (AllByRecursion (IsRecordOf (first_state base))) (sym kept) tt;
  rising = subst (IsPairwise (λ a b. a.mark < b.mark)) (sym kept) tt;
  whole = λ t there. absurd (contains_none t there);
}

-- a new core
pub new_core : (r : Restored) (core : CoreView) → IsRestored r → latest_rows core.store ≡ r.rows → ((cell : Cell) → AllByRecursion (IsOfBase r.rows cell) (versions_at core.store cell))
    → ((cell : Cell) → write_seen (versions.latest (versions_at core.store cell)) ≡ option_map made_before (row_at r.rows cell))
    → core.list ≡ [] → core.commits ≡ 0 → core.batch ≡ 0 → core.preserve ≡ [] → core.opens ≡ [] → core.records.kept ≡ [] → core.records.commits ≡ 0 → core.areas ≡ [] → core.counters.epoch ≡ r.epoch + 1 → core.counters.last ≡ r.last
    → (gate : ℕ) → StandsAt core (state (base_of r gate) [])
new_core r core restored rows firsts written list commits batch preserve opens kept noted areas epoch last gate =
    let base : Base = base_of r gate in
    let first : StandsAt core (first_state base) = record {
      counters = λ i. record { epoch = epoch i; last = last i };
      agenda = record {
        list_is = list;
        count_is = commits;
        batch_within = subst (λ n. n ≤ core.commits) (sym batch) (omega arith);
        slots = tt;
      };
      holders = preserve;
      store = record {
        rows = rows ∙ sym (run-none r.rows);
        written = λ cell. written cell ∙ sym (last_none r.rows cell);
        marks = λ cell. all_map (IsOfBase r.rows cell) (HasMark r.rows [] cell) (λ v first. inl first) (versions_at core.store cell) (firsts cell);
      };
      opens = record { found = tt; others = λ session none. ap (λ slots. opened slots session) opens; apart = tt };
      records = records_new base core.records kept noted;
      areas = areas;
    } in
    subst (StandsAt core) (sym (state-none (first_state base))) first

-- and nothing is kept for the log
pub new_logged : (r : Restored) (log : LogView) → log.durable ≡ r.epoch → log.events.closed ≡ [] → log.events.present ≡ [] → (gate : ℕ) → IsLogged log (state (base_of r gate) [])
new_logged r log durable closed present gate =
    let base : Base = base_of r gate in
    subst (IsLogged log) (sym (state-none (first_state base))) (record { durable = durable; closed = closed ∙ sym (sealed_events (first_state base)); present = present })

-- its numbers
pub new_within : (r : Restored) (core : CoreView) → IsRestored r → AreUpTo core.commits core.store → core.list ≡ [] → core.room ≡ 0 → core.preserve ≡ [] → core.counters.epoch ≡ r.epoch + 1 → core.counters.last ≡ r.last
    → core.log.events.closed ≡ [] → core.log.events.present ≡ [] → core.log.events.last ≡ 0 → IsWithin core
new_within r core restored marks list room preserve epoch last closed present committed =
    let none : pending core.preserve ≡ 0 = ap pending preserve in
    let empty : length core.list ≡ 0 = ap length list in
    let durable : r.epoch ≤ last_durable = restored.epoch in
    let bound : r.last ≤ last_number = restored.last in
    record {
      marks = marks;
      room = omega arith;
      listed = omega arith;
      epoch_bound = omega arith;
      epoch_positive = omega arith;
      last_bound = omega arith;
      log = record {
        room = omega arith;
        closed = subst (AllByRecursion (IsCommitUpTo (core.counters.epoch - 1))) (sym closed) tt;
        present = subst (AllByRecursion (IsCommitUpTo core.counters.epoch)) (sym present) tt;
        last = omega (arith, committed);
      };
    }

pub new_is_core : (r : Restored) (core : CoreView) → IsRestored r → ((gate : ℕ) → StandsAt core (state (base_of r gate) [])) → IsWithin core → IsCore core
new_is_core r core restored stands within = record {
  within = within;
  standing = record {
    base = base_of r 0;
    history = [];
    sound = record { rising = restored.rising; writers = restored.writers; durable = restored.epoch; last = restored.last };
    legal = legal-none built (first_state (base_of r 0));
    stands = stands 0;
  };
}

-- whether a session has an open transaction
tells : (core : CoreView) (session : ℕ) (o : Option OpenView) → o ≡ opened core.opens session → (s : State) → StandsAt core s → is_some o ≡ is_some (active_of s session)
tells core session None is s stands = ap is_some (sym (opens_none (ground core s) core.opens s.active stands.opens session (sym is)))
tells core session (Some a) is s stands = ap is_some (sym (opens_some (ground core s) core.opens s.active stands.opens session a (sym is)).found)

pub has_tells : (v core : CoreView) → v ≡ core → (session : ℕ) (b : Bool) → b ≡ is_some (opened v.opens session) → (base : Base) (history : List Entry) → StandsAt core (state base history)
    → b ≡ is_some (active_of (state base history) session)
has_tells v core same session b is base history stands =
    is ∙ ap (λ (u : CoreView). is_some (opened u.opens session)) same ∙ tells core session (opened core.opens session) refl (state base history) stands

-- the numbers without those of slots are the order
without_slots : (holders : List Holder) (ms : List Member) → AllByRecursion (IsSlotOf holders) ms → filter (λ n. not (is_entered holders n)) (map number_of ms) ≡ map (λ t. t.number) (serial ms)
without_slots holders [] all = refl
without_slots holders (LiveSlot n ∷ ms) all = rw all.0 (without_slots holders ms all.1)
without_slots holders (Committed t ∷ ms) all = rw all.0 (ap (λ ns. t.number ∷ ns) (without_slots holders ms all.1))

pub order_tells : (v core : CoreView) → v ≡ core → (numbers : List ℕ) → numbers ≡ filter (λ n. not (is_entered v.preserve n)) v.list → (base : Base) (history : List Entry) → StandsAt core (state base history)
    → numbers ≡ order (state base history)
order_tells v core same numbers is base history stands =
    is ∙ ap (λ (u : CoreView). filter (λ n. not (is_entered u.preserve n)) u.list) same
    ∙ ap (filter (λ n. not (is_entered core.preserve n))) stands.agenda.list_is ∙ without_slots core.preserve (state base history).agenda stands.agenda.slots
