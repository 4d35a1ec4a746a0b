-- The next epoch: the pending batches become live.
use Rattle.std.proofs.Common.{◌≡◌, ◌≢◌, ℕ, ◌+◌, ◌<◌, ◌≤◌, Bool, true, false, not, ◌==◌, List, [], ◌∷◌, ◌++◌, map, filter, length, Option, None, option_map, Contains, refl, sym, ap, ◌∙◌, subst, le_refl, arith}
use Rattle.std.specs.List.{find, AllByRecursion}
use Rattle.std.proofs.lemmas.Bool.{eq-eqb, ne_eqb, le-ltb}
use Rattle.std.proofs.lemmas.List.{map-append, length-append, length-map}
use Rattle.ltx_model.specs.declared.commands.Command.TheVariants as commands
use Rattle.ltx_model.specs.declared.commands.Line.TheVariants as lines
use Rattle.ltx_model.specs.declared.replies.Reply.TheVariants as replies
use Rattle.ltx_model.specs.Lists.{numbered, IsPairwise}
use Rattle.ltx_model.specs.Keys.{Cell}
use Rattle.ltx_model.specs.LastWrites.{last_write}
use Rattle.ltx_model.specs.Rows.{run}
use Rattle.ltx_model.specs.Notes.{AreNotesBy}
use Rattle.ltx_model.specs.Decisions.{IsAskedLook}
use Rattle.ltx_model.specs.Records.{AreRecordsOf}
use Rattle.ltx_model.specs.Operations.{Transaction}
use Rattle.ltx_model.specs.Agenda.{number_of, Timed, serial, commits_of, has_slot}
use Rattle.ltx_model.specs.Frames.{SlotEvent}
use Rattle.ltx_model.specs.States.{Declaration, Kind, IsShort, IsPending, IsLive, Step, Active, Base, State, is_of}
use Rattle.ltx_model.specs.Histories.{made_live, state}
use Rattle.ltx_model.specs.Holders.{Holder, live_from_now}
use Rattle.ltx_model.specs.Answers.{advance}
use Rattle.ltx_model.specs.Limits.{last_epoch, last_number}
use Rattle.ltx_laws.specs.Structure.{IsPendingBatch, IsLiveBatch, Stands, StandsAs, Structure}
use Rattle.ltx_laws.proofs.Structures.{structure_of}
use Rattle.ltx_laws.proofs.DropsFrames.{sealed_events}
use Rattle.ltx_laws.proofs.DropsHistories.{AreTimely, slots_epoch, timely_of}
use Rattle.ltx_laws.proofs.DurableReplies.{durable_closed}
use Rattle.ltx_laws.proofs.FloorCounts.{slots_of}
use Rattle.ltx_laws.proofs.StructureSlots.{live_in}
use Rattle.ltx_lemmas.proofs.Lists.{all_map, all_append, all_contains, all_from, all_mapped, all_of_map, contains_none, find_none, find_none_from}
use Rattle.ltx_chain.specs.Versions.{visible}
use Rattle.ltx_chain.proofs.Seen.{visible_latest}
use Rattle.ltx_store.specs.Kept.{AreUpTo, versions_at, rows_at}
use Rattle.ltx_store.proofs.Changes.{latest_at, up_to_items}
use Rattle.ltx_core.specs.Built.{built}
use Rattle.ltx_core.specs.Since.{has_batch_since}
use Rattle.ltx_open.specs.declared.stage.Stage.{Stage}
use Rattle.ltx_open.specs.declared.stage.Stage.TheVariants as stages
use Rattle.ltx_open.specs.Views.{OpenView, gone_live, live_at}
use Rattle.ltx_core.specs.Views.{Counters, CoreView, pending, AreEventsWithin}
use Rattle.ltx_open.specs.Slots.{opened}
use Rattle.ltx_core.specs.Epochs.{pending_numbers, AreNew}
use Rattle.ltx_core.specs.Stands.{Ground, ground, everybody, write_seen, IsLiveOpen, IsOfKind, IsOpen, IsFound, AreApart, IsSlotOf, HasStore, HasOpens, batches_of, IsStanding, StandsAt}
use Rattle.ltx_core.specs.Logged.{events_at, IsLogged}
use Rattle.ltx_core.specs.Steps.{Steps, Logs, IsAnswered, IsCore}
use Rattle.ltx_core.proofs.LiveAreas.{areas_live}
use Rattle.ltx_core.proofs.LogMoves.{between_advanced, at_advanced, slot_events}
use Rattle.ltx_core.proofs.LogSteps.{logged_after}
use Rattle.ltx_core.proofs.LogWithin.{events_advanced}
use Rattle.ltx_core.proofs.RecordsKept.{records_grown}
use Rattle.ltx_core.proofs.StandsStill.{staged_is, leads, stays, same_core}
use Rattle.ltx_core.proofs.CoreSteps.{core_step}
use Rattle.ltx_core.proofs.EpochSlots.{grown, members_of, advanced_is, members_numbers, batches_live, commits_same, serial_same, slot_live, slots_within, new_mark, new_since, new_behind, old_mark, old_since, old_behind, strangers, distinct}

-- What a core keeps in the next epoch.
pub record HasAdvanced (old new : CoreView) : Type 0 where
  pub counters : new.counters ≡ record { epoch = old.counters.epoch + 1; last = old.counters.last }
  pub list : new.list ≡ old.list ++ pending_numbers old.preserve
  pub room : new.room + pending old.preserve ≡ old.room
  pub commits : new.commits ≡ old.commits
  pub batch : new.batch ≡ old.batch
  pub store : new.store ≡ old.store
  pub preserve : new.preserve ≡ map live_from_now old.preserve
  pub opens : (session : ℕ) → opened new.opens session ≡ option_map (gone_live old.commits) (opened old.opens session)
  pub records : new.records ≡ old.records
  pub areas : new.areas ≡ old.areas
  pub durable : new.log.durable ≡ old.log.durable
  pub closed : new.log.events.closed ≡ old.log.events.closed ++ old.log.events.present
  pub present : new.log.events.present ≡ map SlotEvent (pending_numbers old.preserve)
  pub spare : new.log.events.room + pending old.preserve ≡ old.log.events.room
  pub last : new.log.events.last ≡ old.log.events.last

-- the ground of a core at a state, after the slots of an epoch
abbrev more_ground : Ground → ℕ → List Active → Ground
more_ground g epoch os = record { store = g.store; commits = g.commits; batch = g.batch; base = g.base; agenda = g.agenda ++ members_of os; moves = g.moves ++ slots_of epoch os }

-- each open transaction on it
module _ (g : Ground) (epoch : ℕ) (active : List Active) (marks : AreUpTo g.commits g.store) (count : g.commits ≡ length (commits_of g.moves)) (batch : g.batch ≤ g.commits)
    (rows : rows_at g.commits g.store ≡ run g.base (serial g.agenda)) (writes : (cell : Cell) → write_seen (visible g.commits (versions_at g.store cell)) ≡ last_write g.base (serial g.agenda) cell) where
  abbrev then : Ground
  then = more_ground g epoch active

  -- a pending batch is live
  made : (o : Active) (d : Declaration) (a : OpenView) → Contains active o → o.kind ≡ IsPending d → IsPendingBatch g.agenda g.moves o.number o.steps → a.notes.notes ≡ []
      → IsLiveOpen then o.number d.writes (serial g.agenda) o.steps g.commits (gone_live g.commits a)
  made o d a here kind stands notes =
      let unslotted : has_slot g.moves o.number ≡ false = by_test (has_slot g.moves o.number) refl in
      let since : has_batch_since then.moves o.number ≡ false = new_since g.moves epoch active o d here kind unslotted in
      record {
        slot_at = record {
          within = le_refl g.commits;
          slot = new_mark g.moves epoch active o d here kind unslotted g.commits count;
          since = since ∙ sym (le-ltb g.commits g.batch batch);
          unwritten = λ none t behind. absurd (contains_none t (subst (λ ts. Contains ts t) (new_behind g.agenda active o.number stands.fresh) behind));
        };
        rows = rows;
        writes = writes;
        notes = subst (λ steps. AreNotesBy (λ step. IsAskedLook everybody (last_write g.base (serial g.agenda))) (numbered steps) a.notes.notes) (sym stands.idle)
            (subst (AreNotesBy (λ step. IsAskedLook everybody (last_write g.base (serial g.agenda))) (numbered [])) (sym notes) tt);
      } where
        by_test : (b : Bool) → has_slot g.moves o.number ≡ b → has_slot g.moves o.number ≡ false
        by_test true is = let less : o.number < o.number = stands.later o.number is in let none : ⊥ = omega arith in absurd none
        by_test false is = is

  -- a live one stays so
  kept : (n : ℕ) (d : Declaration) (snapshot : List Transaction) (steps : List Step) (mark : ℕ) (a : OpenView) → IsLiveBatch g.agenda g.moves n d snapshot steps → IsLiveOpen g n d.writes snapshot steps mark a
      → IsLiveOpen then n d.writes snapshot steps mark (gone_live g.commits a)
  kept n d snapshot steps mark a stands is =
      let since : has_batch_since then.moves n ≡ has_batch_since g.moves n = old_since g.moves epoch active n stands.slotted in
      record {
        slot_at = record {
          within = is.slot_at.within;
          slot = old_mark g.moves epoch active n mark is.slot_at.slot;
          since = since ∙ is.slot_at.since;
          unwritten = λ none t behind. is.slot_at.unwritten (sym since ∙ none) t (subst (λ ts. Contains ts t) (old_behind g.agenda active n stands.member) behind);
        };
        rows = is.rows;
        writes = is.writes;
        notes = is.notes;
      }

  kind_then : (o : Active) (a : OpenView) (kind : Kind) (stage : Stage) → Contains active o → o.kind ≡ kind → StandsAs g.agenda g.moves kind o.number o.steps → IsOfKind g o.number o.steps a kind stage
      → IsOfKind then o.number o.steps (gone_live g.commits a) (made_live (serial g.agenda) kind) (live_at g.commits stage)
  kind_then o a IsShort stages.Short here kind stands is = record { notes = is.notes; marks = is.marks; moments = is.moments; rising = is.rising }
  kind_then o a (IsPending d) (stages.Pending e) here kind stands is = (is.0, made o d a here kind stands is.1.notes)
  kind_then o a (IsLive d snapshot) (stages.Live e mark) here kind stands is = (is.0, kept o.number d snapshot o.steps mark a stands is.1)
  kind_then o a IsShort (stages.Pending e) here kind stands is = absurd is
  kind_then o a IsShort (stages.Live e mark) here kind stands is = absurd is
  kind_then o a (IsPending d) stages.Short here kind stands is = absurd is
  kind_then o a (IsPending d) (stages.Live e mark) here kind stands is = absurd is
  kind_then o a (IsLive d snapshot) stages.Short here kind stands is = absurd is
  kind_then o a (IsLive d snapshot) (stages.Pending e) here kind stands is = absurd is

  open_then : (o : Active) (a : OpenView) → Contains active o → Stands g.agenda g.moves o → IsOpen g o a → IsOpen then (live_in (serial g.agenda) o) (gone_live g.commits a)
  open_then o a here stands is = record { number = is.number; own = is.own; kind = kind_then o a o.kind a.stage here refl stands is.kind }

  -- all of them
  pairs_live : (os : List Active) → IsPairwise AreApart os → IsPairwise AreApart (map (live_in (serial g.agenda)) os)
  pairs_live [] pairs = tt
  pairs_live (o ∷ os) pairs = (all_mapped (AreApart (live_in (serial g.agenda) o)) (live_in (serial g.agenda)) os pairs.0, pairs_live os pairs.1)

  opens_then : (opens new : List (Option OpenView)) → AllByRecursion (Stands g.agenda g.moves) active → HasOpens g opens active → ((session : ℕ) → opened new session ≡ option_map (gone_live g.commits) (opened opens session))
      → HasOpens then new (map (live_in (serial g.agenda)) active)
  opens_then opens new stands has live = record {
    found = all_mapped (IsFound then new) (live_in (serial g.agenda)) active (all_from (λ o. IsFound then new (live_in (serial g.agenda) o)) active found);
    others = λ session none. live session ∙ ap (option_map (gone_live g.commits)) (has.others session (nobody session none));
    apart = pairs_live active has.apart;
  } where
    found : (o : Active) → Contains active o → IsFound then new (live_in (serial g.agenda) o)
    found o here =
        let f : IsFound g opens o = all_contains (IsFound g opens) active o has.found here in
        record {
          open_tx = gone_live g.commits f.open_tx;
          here = live o.session ∙ ap (option_map (gone_live g.commits)) f.here;
          is_open = open_then o f.open_tx here (all_contains (Stands g.agenda g.moves) active o stands here) f.is_open;
        }

    nobody : (session : ℕ) → find (is_of session) (map (live_in (serial g.agenda)) active) ≡ None → find (is_of session) active ≡ None
    nobody session none =
        find_none_from (is_of session) active
        (all_of_map (λ (u : Active). is_of session u ≡ false) (live_in (serial g.agenda)) active (find_none (is_of session) (map (live_in (serial g.agenda)) active) none))

-- a core at the state of the new epoch
advanced_at : (base : Base) (old new : CoreView) (s : State) → Structure base s → AreUpTo old.commits old.store → StandsAt old s → HasAdvanced old new → StandsAt new (grown s (s.epoch + 1))
advanced_at base old new s structure marks at has = record {
  counters = has.counters ∙ counted;
  agenda = record {
    list_is = has.list ∙ ap (λ ns. ns ++ pending_numbers old.preserve) at.agenda.list_is ∙ ap (λ hs. map number_of s.agenda ++ pending_numbers hs) at.holders ∙ ap (λ ns. map number_of s.agenda ++ ns) (sym (members_numbers s.active))
        ∙ sym (map-append number_of s.agenda (members_of s.active));
    count_is = has.commits ∙ at.agenda.count_is ∙ ap length (sym (commits_same s.moves (s.epoch + 1) s.active));
    batch_within = subst (λ b. b ≤ new.commits) (sym has.batch) (subst (λ c. old.batch ≤ c) (sym has.commits) at.agenda.batch_within);
    slots = subst (λ hs. AllByRecursion (IsSlotOf hs) (s.agenda ++ members_of s.active)) (sym has.preserve)
        (all_append (IsSlotOf (map live_from_now old.preserve)) s.agenda (members_of s.active)
        (all_map (IsSlotOf old.preserve) (IsSlotOf (map live_from_now old.preserve)) (slot_live old.preserve) s.agenda at.agenda.slots)
        (all_map (IsSlotOf old.preserve) (IsSlotOf (map live_from_now old.preserve)) (slot_live old.preserve) (members_of s.active)
        (subst (λ hs. AllByRecursion (IsSlotOf hs) (members_of s.active)) (sym at.holders) (slots_within (batches_of s.active) s.active (λ n is. is)))));
  };
  holders = has.preserve ∙ ap (map live_from_now) at.holders ∙ batches_live (serial s.agenda) s.active;
  store = subst (λ store. HasStore store s.base (run s.base (serial (s.agenda ++ members_of s.active))) (serial (s.agenda ++ members_of s.active)) (commits_of (s.moves ++ slots_of (s.epoch + 1) s.active))) (sym has.store)
      (subst (λ ts. HasStore old.store s.base (run s.base ts) ts (commits_of (s.moves ++ slots_of (s.epoch + 1) s.active))) (sym (serial_same s.agenda s.active))
      (subst (HasStore old.store s.base (run s.base (serial s.agenda)) (serial s.agenda)) (sym (commits_same s.moves (s.epoch + 1) s.active)) at.store));
  opens = subst (λ g. HasOpens g new.opens (map (live_in (serial s.agenda)) s.active)) grounds
      (opens_then (ground old s) (s.epoch + 1) s.active marks at.agenda.count_is at.agenda.batch_within (latest_at old.commits old.store marks ∙ at.store.rows)
      (λ cell. ap write_seen (visible_latest old.commits (versions_at old.store cell) (up_to_items old.commits old.store cell marks)) ∙ at.store.written cell)
      old.opens new.opens structure.stands at.opens has.opens);
  records = subst (AreRecordsOf (grown s (s.epoch + 1))) (sym has.records) (records_grown base s structure old.records at.records);
  areas = has.areas ∙ at.areas ∙ sym (areas_live (serial s.agenda) s.active);
} where
  counted : ◌≡◌ {A = Counters} (record { epoch = old.counters.epoch + 1; last = old.counters.last }) (record { epoch = s.epoch + 1; last = s.last })
  counted i = record { epoch = (at.counters i).epoch + 1; last = (at.counters i).last }

  grounds : more_ground (ground old s) (s.epoch + 1) s.active ≡ ground new (grown s (s.epoch + 1))
  grounds i = record { store = sym has.store i; commits = sym has.commits i; batch = sym has.batch i; base = s.base; agenda = s.agenda ++ members_of s.active; moves = s.moves ++ slots_of (s.epoch + 1) s.active }

-- no epoch is left
pub advance_full : (v : CoreView) → v.counters.epoch ≡ last_epoch → Steps v commands.Epoch replies.LimitEpoch v
advance_full v full base history sound legal stands =
    let s : State = state base history in
    let is : s.epoch ≡ last_epoch = ap (λ (c : Counters). c.epoch) (sym stands.counters) ∙ full in
    stays v v commands.Epoch replies.LimitEpoch base history (same_core v v refl) stands replies.LimitEpoch (ap (advance s) (sym (eq-eqb s.epoch last_epoch is)) ∙ staged_is s commands.Epoch) refl refl

-- there is one
advance_done : (v new : CoreView) → AreUpTo v.commits v.store → v.counters.epoch ≢ last_epoch → HasAdvanced v new → Steps v commands.Epoch (replies.Advanced (v.counters.epoch + 1)) new
advance_done v new marks apart has base history sound legal stands =
    let s : State = state base history in
    let epoch : v.counters.epoch ≡ s.epoch = ap (λ (c : Counters). c.epoch) stands.counters in
    let not_last : (s.epoch == last_epoch) ≡ false = ne_eqb s.epoch last_epoch (λ e. apart (epoch ∙ e)) in
    let structure : Structure base s = structure_of built base history legal in
    leads base history (lines.Good commands.Epoch) (replies.Advanced (s.epoch + 1)) (replies.Advanced (v.counters.epoch + 1)) new
    (ap (advance s) (sym not_last) ∙ staged_is s commands.Epoch)
    (ap (λ n. replies.Advanced (n + 1)) epoch)
    (subst (StandsAt new) (sym (advanced_is s (s.epoch + 1))) (advanced_at base v new s structure marks stands has))

-- what is kept for the log: the events of the epoch that ended are closed
advance_logs : (v new : CoreView) → v.counters.epoch ≢ last_epoch → HasAdvanced v new → Logs v commands.Epoch (replies.Advanced (v.counters.epoch + 1)) new
advance_logs v new apart has base history sound legal stands =
    let s : State = state base history in
    let epoch : v.counters.epoch ≡ s.epoch = ap (λ (c : Counters). c.epoch) stands.at.counters in
    let timely : AreTimely s = timely_of built base history legal in
    let ahead : s.durable < s.epoch = durable_closed built base history sound legal in
    let slots : List Timed = slots_of (s.epoch + 1) s.active in
    let next : AllByRecursion (λ m. m.epoch ≡ s.epoch + 1) slots = slots_epoch (s.epoch + 1) s.active in
    let is : IsLogged v.log s = stands.logged in
    let then : State = grown s (s.epoch + 1) in
    let logged : IsLogged new.log then = record {
      durable = has.durable ∙ is.durable;
      closed = has.closed ∙ (λ i. is.closed i ++ is.present i) ∙ ap (λ es. es ++ events_at s.epoch s.moves) (sealed_events s) ∙ sym (between_advanced s.durable s.epoch s.moves slots ahead timely.bound timely.rising next) ∙ sym (sealed_events then);
      present = has.present ∙ ap (λ hs. map SlotEvent (pending_numbers hs)) stands.at.holders ∙ sym (slot_events (s.epoch + 1) s.active) ∙ sym (at_advanced s.epoch s.moves slots timely.bound next);
    } in
    logged_after new.log base history (lines.Good commands.Epoch) (replies.Advanced (s.epoch + 1)) (replies.Advanced (v.counters.epoch + 1)) (ap (λ n. replies.Advanced (n + 1)) epoch) (subst (IsLogged new.log) (sym (advanced_is s (s.epoch + 1))) logged)

pub advance_answered : (v new : CoreView) → AreUpTo v.commits v.store → v.counters.epoch ≢ last_epoch → HasAdvanced v new → IsAnswered v commands.Epoch (replies.Advanced (v.counters.epoch + 1)) new
advance_answered v new marks apart has = record { steps = advance_done v new marks apart has; logs = advance_logs v new apart has }

-- the numbers of the slots are new
pub standing_slots : (v : CoreView) → IsStanding v → AreNew v.list (pending_numbers v.preserve)
standing_slots v standing =
    let s : State = state standing.base standing.history in
    let structure : Structure standing.base s = structure_of built standing.base standing.history standing.legal in
    let new : AreNew (map number_of s.agenda) (pending_numbers (batches_of s.active)) = record { strangers = strangers s.agenda s.moves s.active structure.stands; distinct = distinct s.active structure.opens.rising } in
    subst (λ list. AreNew list (pending_numbers v.preserve)) (sym standing.stands.agenda.list_is) (subst (λ hs. AreNew (map number_of s.agenda) (pending_numbers hs)) (sym standing.stands.holders) new)

-- none is pending any more
none_pending : (hs : List Holder) → pending (map live_from_now hs) ≡ 0
none_pending [] = refl
none_pending (h ∷ hs) = none_pending hs

pub advanced_core : (v new : CoreView) → IsCore v → v.counters.epoch ≢ last_epoch → HasAdvanced v new → IsCore new
advanced_core v new core apart has =
    let none : pending new.preserve ≡ 0 = ap pending has.preserve ∙ none_pending v.preserve in
    let room : pending new.preserve ≤ new.room = omega arith in
    let slots : length (pending_numbers v.preserve) ≡ pending v.preserve = length-map (filter (λ (h : Holder). not h.live) v.preserve) (λ h. h.number) in
    let longer : length new.list ≡ length v.list + length (pending_numbers v.preserve) = ap length has.list ∙ length-append v.list (pending_numbers v.preserve) in
    let less : new.room + pending v.preserve ≡ v.room = has.room in
    let was : length v.list + v.room < 18446744073709551616 = core.within.listed in
    let listed : length new.list + new.room < 18446744073709551616 = omega arith in
    let within : v.counters.epoch ≤ last_epoch = core.within.epoch_bound in
    let bound : v.counters.epoch + 1 ≤ last_epoch = omega arith in
    core_step v commands.Epoch (replies.Advanced (v.counters.epoch + 1)) new (advance_done v new core.within.marks apart has) core.standing (record {
      marks = subst (λ n. AreUpTo n new.store) (sym has.commits) (subst (AreUpTo v.commits) (sym has.store) core.within.marks);
      room = room;
      listed = listed;
      epoch_bound = subst (λ (c : Counters). c.epoch ≤ last_epoch) (sym has.counters) bound;
      epoch_positive = subst (λ (c : Counters). 0 < c.epoch) (sym has.counters) (let h : 0 < v.counters.epoch + 1 = omega arith in h);
      last_bound = subst (λ (c : Counters). c.last ≤ last_number) (sym has.counters) core.within.last_bound;
      log = subst (λ (c : Counters). AreEventsWithin c.epoch (pending new.preserve) new.log.events) (sym has.counters)
          (events_advanced v.counters.epoch (pending v.preserve) (pending new.preserve) v.log.events new.log.events (pending_numbers v.preserve) core.within.log has.closed has.present has.last (let h : pending new.preserve ≤ new.log.events.room = omega arith in h));
    })
