-- The commit of a live batch at a place, by the fields of a core.
use Rattle.std.proofs.Common.{◌≡◌, ◌≢◌, ℕ, ◌<◌, ◌≤◌, ◌+◌, Bool, true, false, ◌==◌, cond, List, [], ◌∷◌, length, option_map, Some, refl, sym, ap, subst, le_refl, arith}
use Rattle.ltx_model.specs.declared.writes.Target.{Target}
use Rattle.ltx_model.specs.declared.writes.Target.TheVariants as targets
use Rattle.ltx_model.specs.declared.writes.Write.{Write}
use Rattle.ltx_model.specs.Decisions.{CommitAt, is_installed, IsDecision}
use Rattle.ltx_model.specs.Holders.{removed}
use Rattle.ltx_model.specs.Keys.{Cell}
use Rattle.ltx_model.specs.Limits.{last_epoch, last_number}
use Rattle.ltx_model.specs.Listings.{is_member, without, insert_before}
use Rattle.ltx_model.specs.Operations.{cell_of_write}
use Rattle.ltx_model.specs.States.{State, LiveBatch, transaction_of}
use Rattle.ltx_model.specs.Histories.{state}
use Rattle.ltx_lemmas.proofs.Lists.{all_from, filter_same}
use Rattle.ltx_laws.specs.Structure.{Structure}
use Rattle.ltx_laws.proofs.Structures.{structure_of}
use Rattle.ltx_agenda.proofs.Joined.{length-without_member}
use Rattle.ltx_chain.specs.declared.chain.Version.{Version}
use Rattle.ltx_chain.specs.Versions.{latest}
use Rattle.ltx_store.specs.Kept.{Kept, versions_at, HasSameVersions, AreUpTo}
use Rattle.ltx_open.specs.declared.stage.Declared.{Declared}
use Rattle.ltx_open.specs.declared.stage.Stage.TheVariants as stages
use Rattle.ltx_core.specs.Built.{built}
use Rattle.ltx_open.specs.Views.{OpenView, declaration}
use Rattle.ltx_core.specs.Views.{CoreView, AreEventsWithin, IsWithin, pending}
use Rattle.ltx_open.specs.Slots.{opened}
use Rattle.ltx_core.specs.Installed.{last_writer, installed_writes, HasInstalled, HasInstalledUnless, AreByMembers}
use Rattle.ltx_core.specs.Decided.{IsDecided, list_at, HasCommittedAt}
use Rattle.ltx_core.specs.Stands.{IsStanding}
use Rattle.ltx_core.proofs.CommittedHome.{installed_in_room}
use Rattle.ltx_core.proofs.Ended.{pending_removed}
use Rattle.ltx_core.proofs.LiveFound.{IsLiveAt, live_at}
use Rattle.ltx_core.proofs.LogWithin.{events_more, pending_few}
use Rattle.ltx_core.proofs.PlacesDecided.{decided_place, target_listed, batch_listed, writers_listed}

-- the same writes are installed where there is other room
chosen_in_room : (list : List ℕ) (old room : List Kept) (writer : ℕ) (writes : List Write) → HasSameVersions old room → installed_writes list room writer writes ≡ installed_writes list old writer writes
chosen_in_room list old room writer writes same =
    filter_same (λ w. is_installed list (last_writer room (cell_of_write w)) writer) (λ w. is_installed list (last_writer old (cell_of_write w)) writer) writes
    (all_from (λ w. is_installed list (last_writer room (cell_of_write w)) writer ≡ is_installed list (last_writer old (cell_of_write w)) writer) writes
    (λ w here. ap (λ vs. is_installed list (option_map (λ (v : Version). v.writer) (latest vs)) writer) (same.versions (cell_of_write w))))

-- they are installed in the room that was made for them
pub placed_installed : (list : List ℕ) (old room new : List Kept) (tx mark : ℕ) (a : OpenView) (items : List Write) → tx ≡ a.number → items ≡ a.own.writes → HasSameVersions old room → HasInstalledUnless list room new tx mark items
    → HasInstalledUnless list old new a.number mark a.own.writes
placed_installed list old room new tx mark a items number writes same done =
    installed_in_room old room new a.number mark (installed_writes list old a.number a.own.writes) same
    (subst (HasInstalled room new a.number mark) (chosen_in_room list old room a.number a.own.writes same)
    (subst (λ n. HasInstalledUnless list room new n mark a.own.writes) number (subst (HasInstalledUnless list room new tx mark) writes done)))

-- the list is no longer with the batch at its place
insert_most : (x p : ℕ) (ns : List ℕ) → length (insert_before x p ns) ≤ length ns + 1
insert_most x p [] = omega arith
insert_most x p (n ∷ ns) = by_test (n == p) (insert_most x p ns) where
  by_test : (b : Bool) → length (insert_before x p ns) ≤ length ns + 1 → length (cond b (x ∷ n ∷ ns) (n ∷ insert_before x p ns)) ≤ length (n ∷ ns) + 1
  by_test true most = omega arith
  by_test false most = omega (arith, most)

listed_most : (place : Target) (n : ℕ) (list : List ℕ) → is_member list n ≡ true → length (list_at place n list) ≤ length list
listed_most targets.Home n list here = omega arith
listed_most (targets.Before p) n list here =
    let most = insert_most n p (without list n) in
    let less = length-without_member list n here in
    omega (arith, most, less)

-- the numbers are within their bounds after it
pub placed_within : (place : Target) (fields new : CoreView) (session : ℕ) (a : OpenView) → HasCommittedAt place fields session a new → is_member fields.list a.number ≡ true → new.room ≡ fields.room → AreUpTo new.commits new.store
    → length fields.preserve ≤ new.log.events.room → new.log.events.last ≡ fields.counters.epoch → IsWithin fields → IsWithin new
placed_within place fields new session a done member room marks spare last within =
    let few : pending fields.preserve ≤ length fields.preserve = pending_few fields.preserve in
    let preserved : pending new.preserve ≡ pending (removed a.number fields.preserve) = ap pending done.preserve in
    let less : pending (removed a.number fields.preserve) ≤ pending fields.preserve = pending_removed a.number fields.preserve in
    let before : pending fields.preserve ≤ fields.room = within.room in
    let same : length new.list ≡ length (list_at place a.number fields.list) = ap length done.list in
    let most : length (list_at place a.number fields.list) ≤ length fields.list = listed_most place a.number fields.list member in
    let listed : length fields.list + fields.room < 18446744073709551616 = within.listed in
    record {
      marks = marks;
      room = omega arith;
      listed = omega arith;
      epoch_bound = subst (λ c. c.epoch ≤ last_epoch) (sym done.counters) within.epoch_bound;
      epoch_positive = subst (λ c. 0 < c.epoch) (sym done.counters) within.epoch_positive;
      last_bound = subst (λ c. c.last ≤ last_number) (sym done.counters) within.last_bound;
      log = subst (λ c. AreEventsWithin c.epoch (pending new.preserve) new.log.events) (sym done.counters)
          (events_more fields.counters.epoch (pending fields.preserve) (pending new.preserve) fields.log.events new.log.events _ within.log done.log.closed done.log.present (le_refl fields.counters.epoch) last (let h : pending new.preserve ≤ new.log.events.room = omega arith in h));
    }

-- what a core that stands knows of a batch whose commit is decided
module _ (fields : CoreView) (standing : IsStanding fields) (session : ℕ) (a : OpenView) (e : Declared) (mark : ℕ) (here : opened fields.opens session ≡ Some a) (stage : a.stage ≡ stages.Live e mark) where
  abbrev s : State
  s = state standing.base standing.history

  structure : Structure standing.base s
  structure = structure_of built standing.base standing.history standing.legal

  at : IsLiveAt fields session a e mark s
  at = live_at fields session a e mark s here stage standing.stands

  abbrev batch : LiveBatch
  batch = record { tx = transaction_of at.open_tx; declared = declaration e; snapshot = at.snapshot }

  module _ (place : Target) (decided : IsDecided fields session (CommitAt place)) where
    is_decided : IsDecision s batch (CommitAt place)
    is_decided = decided standing.base standing.history standing.sound standing.legal standing.stands at.open_tx (declaration e) at.snapshot at.found at.kind

    -- at its place it is a member
    pub batch_there : is_member (list_at place a.number fields.list) a.number ≡ true
    batch_there =
        batch_listed fields session a e mark standing.base s standing.sound structure standing.stands at place
        (decided_place fields session a e mark standing.base s standing.sound structure standing.stands at batch refl place is_decided)

    -- and so is whoever wrote a version that is no row of the base
    pub writers_there : (store : List Kept) → HasSameVersions fields.store store → (cell : Cell) → AreByMembers (list_at place a.number fields.list) (versions_at store cell)
    writers_there store same cell =
        subst (AreByMembers (list_at place a.number fields.list)) (sym (same.versions cell))
        (writers_listed fields session a e mark standing.base s standing.sound structure standing.stands at place
        (decided_place fields session a e mark standing.base s standing.sound structure standing.stands at batch refl place is_decided) cell)

  -- its target is another member
  pub target_there : (p : ℕ) → IsDecided fields session (CommitAt (targets.Before p)) → (is_member fields.list p ≡ true) × (a.number ≢ p)
  target_there p decided = target_listed fields session a e mark standing.base s standing.sound structure standing.stands at batch refl p (is_decided (targets.Before p) decided)
