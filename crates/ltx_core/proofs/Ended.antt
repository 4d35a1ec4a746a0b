-- The end of a session's open transaction without a commit.
use Rattle.std.proofs.Common.{◌≡◌, ◌≢◌, ℕ, ◌<◌, ◌≤◌, ◌+◌, Bool, true, false, cond, not, ◌==◌, filter, List, [], ◌∷◌, ◌++◌, length, Option, Some, None, Contains, refl, sym, ap, ◌∙◌, subst, arith}
use Rattle.std.proofs.lemmas.Bool.{eq-eqb, eqb-true}
use Rattle.std.specs.List.{AllByRecursion}
use Rattle.ltx_model.specs.declared.commands.Command.{Command}
use Rattle.ltx_model.specs.declared.commands.Command.TheVariants as commands
use Rattle.ltx_model.specs.declared.commands.Line.TheVariants as lines
use Rattle.ltx_model.specs.declared.commands.Verb.TheVariants as verbs
use Rattle.ltx_model.specs.declared.replies.Entry.{Entry}
use Rattle.ltx_model.specs.declared.replies.Reply.TheVariants as replies
use Rattle.ltx_model.specs.Lists.{without_first}
use Rattle.ltx_model.specs.Operations.{Transaction}
use Rattle.ltx_model.specs.Rows.{run}
use Rattle.ltx_model.specs.Agenda.{Member, LiveSlot, Leave, Timed, number_of, serial, is_member, without_member, commits_of}
use Rattle.ltx_model.specs.Listings.{without}
use Rattle.ltx_model.specs.Holders.{Holder, is_holder, is_entered, removed, holder_of}
use Rattle.ltx_model.specs.Listings as listed
use Rattle.ltx_model.specs.Records.{Records, AreRecordsOf}
use Rattle.ltx_model.specs.States.{Declaration, IsShort, IsPending, IsLive, Active, Base, IsSound, State, active_of, is_of, latest}
use Rattle.ltx_model.specs.Histories.{to_active, closed, moved, ended, left, state}
use Rattle.ltx_model.specs.Answers.{IsLegalWith}
use Rattle.ltx_model.specs.Answers.{abort as state_abort}
use Rattle.ltx_lemmas.proofs.Lists.{find_contains, all_contains, any_contains, any_map, given_here}
use Rattle.ltx_lemmas.proofs.Serials.{slot_without, serial_without, serial_from_without}
use Rattle.ltx_lemmas.specs.Places.{AreApart}
use Rattle.ltx_laws.specs.Structure.{Structure, StandsAs, Stands, IsPendingBatch, IsLiveBatch}
use Rattle.ltx_laws.proofs.NumberLists.{numbers_after}
use Rattle.ltx_laws.proofs.ReadsKept.{agenda_apart, live_batch, live_slot}
use Rattle.ltx_laws.proofs.Standing.{commits_none}
use Rattle.ltx_laws.proofs.Structures.{structure_of}
use Rattle.ltx_core.specs.Built.{built}
use Rattle.ltx_core.specs.Since.{has_batch_since}
use Rattle.ltx_forward.specs.declared.decide.Live.{Live}
use Rattle.ltx_open.specs.declared.stage.Declared.{Declared}
use Rattle.ltx_open.specs.declared.stage.Stage.{Stage}
use Rattle.ltx_open.specs.declared.stage.Stage.TheVariants as stages
use Rattle.ltx_core.specs.Ends.{left_batches, left_list, left_areas, left_records, IsKnownAs}
use Rattle.ltx_open.specs.Views.{OpenView, declaration}
use Rattle.ltx_core.specs.Views.{CoreView, pending, IsWithin}
use Rattle.ltx_open.specs.Slots.{opened, HasAt}
use Rattle.ltx_core.specs.Recorded.{is_any_live, cleared_unless, areas_without}
use Rattle.ltx_store.proofs.Changes.{same_itself}
use Rattle.ltx_open.specs.Same.{AreSameOpens}
use Rattle.ltx_core.specs.Same.{IsSame}
use Rattle.ltx_core.specs.Stands.{Ground, ground, IsSlotOf, HasStore, HasOpens, StandsAt, IsStanding, batches_of, area_of}
use Rattle.ltx_core.specs.Steps.{Steps}
use Rattle.ltx_core.proofs.LiveAreas.{areas_short, areas_batch}
use Rattle.ltx_core.proofs.LogWithin.{events_fewer}
use Rattle.ltx_core.proofs.RecordsKept.{no_holders, records_short_left, records_pending_left, records_left, records_left_alone}
use Rattle.ltx_core.proofs.Batches.{without_short, without_batch, slots_without, entered_number, others_numbers}
use Rattle.ltx_core.proofs.Grounds.{KeepsSlot, open_later}
use Rattle.ltx_core.proofs.OpensKept.{as_short, as_pending, as_live_open, opens_on, opens_none, FoundOpen, opens_some, opens_ended}
use Rattle.ltx_core.proofs.SlotsLater.{or_false, slot_later, since_later}
use Rattle.ltx_open.proofs.SameOpens.{same_opens}
use Rattle.ltx_core.proofs.StandsStill.{staged_is, leads, stays}

-- the open transaction of a session of a core at a state
module _ (old : CoreView) (session : ℕ) (s : State) (stands : StandsAt old s) where
  pub none_open : opened old.opens session ≡ None → active_of s session ≡ None
  none_open none = opens_none (ground old s) old.opens s.active stands.opens session none

  pub some_open : (a : OpenView) → opened old.opens session ≡ Some a → FoundOpen (ground old s) old.opens s.active stands.opens session a
  some_open a some = opens_some (ground old s) old.opens s.active stands.opens session a some

-- a core after the end of a transaction of this stage and number, with this room and these open transactions
abbrev pub left_core : CoreView → ℕ → Stage → ℕ → List (Option OpenView) → CoreView
left_core c room stage n opens = record {
  counters = c.counters;
  list = left_list stage n c.list;
  room = room;
  commits = c.commits;
  batch = c.batch;
  store = c.store;
  preserve = left_batches stage n c.preserve;
  opens = opens;
  records = left_records stage n c.preserve c.records;
  areas = left_areas stage n c.areas;
  log = c.log;
}

-- no member has another number
not_member : (n : ℕ) (hs : List Holder) (ms : List Member) → is_member ms n ≡ false → AllByRecursion (IsSlotOf hs) ms → AllByRecursion (IsSlotOf (removed n hs)) ms
not_member n hs ms none all = subst (AllByRecursion (IsSlotOf (removed n hs))) (slot_without n ms none) (slots_without n hs ms all)

module _ (old : CoreView) (session : ℕ) (base : Base) (history : List Entry) (sound : IsSound base) (legal : IsLegalWith built base history) (stands : StandsAt old (state base history)) where
  abbrev s : State
  s = state base history

  shape : Structure base s
  shape = structure_of built base history legal

  apart : AreApart s.agenda
  apart = agenda_apart s.moves s.agenda shape.order

  module _ (room : ℕ) (o : Active) (there : active_of s session ≡ Some o) (opens : List (Option OpenView)) (at : HasAt old.opens session None opens) where
    here : Contains s.active o
    here = find_contains (is_of session) s.active o there

    how : Stands s.agenda s.moves o
    how = all_contains (Stands s.agenda s.moves) s.active o shape.stands here

    opens_left : HasOpens (ground old s) opens (without_first (is_of session) s.active)
    opens_left = opens_ended (ground old s) old.opens s.active stands.opens session o opens there at

    -- a short
    short_left : o.kind ≡ IsShort → StandsAt (left_core old room stages.Short o.number opens) (closed s session)
    short_left short = record {
      counters = stands.counters;
      agenda = stands.agenda;
      holders = stands.holders ∙ sym (without_short session s.active o there short);
      store = stands.store;
      opens = opens_left;
      records = records_short_left base s shape session o there short old.records stands.records;
      areas = stands.areas ∙ sym (areas_short session s.active o there short);
    }

    -- a pending batch
    pending_left : (e : Declared) (d : Declaration) → o.kind ≡ IsPending d → StandsAt (left_core old room (stages.Pending e) o.number opens) (closed s session)
    pending_left e d pending =
        let stands_as : IsPendingBatch s.agenda s.moves o.number o.steps = subst (λ k. StandsAs s.agenda s.moves k o.number o.steps) pending how in
        record {
          counters = stands.counters;
          agenda = record {
            list_is = stands.agenda.list_is;
            count_is = stands.agenda.count_is;
            batch_within = stands.agenda.batch_within;
            slots = not_member o.number old.preserve s.agenda stands_as.fresh stands.agenda.slots;
          };
          holders = ap (removed o.number) stands.holders ∙ sym (without_batch session s.active o _ shape.opens.rising there (ap (λ k. holder_of k o.number) pending));
          store = stands.store;
          opens = opens_left;
          records = records_pending_left base s shape session o there d pending old.records stands.records;
          areas = ap (areas_without o.number) stands.areas ∙ sym (areas_batch session s.active o _ shape.opens.rising there (ap (λ k. area_of k o.number) pending));
        }

    -- a live batch
    module _ (d : Declaration) (snapshot : List Transaction) (live : o.kind ≡ IsLive d snapshot) where
      stands_live : IsLiveBatch s.agenda s.moves o.number d snapshot o.steps
      stands_live = subst (λ k. StandsAs s.agenda s.moves k o.number o.steps) live how

      slot : Contains s.agenda (LiveSlot o.number)
      slot = live_slot base s shape session o d snapshot there live

      abbrev move : Timed
      move = record { epoch = s.epoch; move = Leave o.number }

      abbrev later : Ground
      later = record { store = old.store; commits = old.commits; batch = old.batch; base = s.base; agenda = without_member s.agenda o.number; moves = s.moves ++ move ∷ [] }

      serial_stays : serial (without_member s.agenda o.number) ≡ serial s.agenda
      serial_stays = serial_without o.number s.agenda apart slot

      commits_stay : commits_of (s.moves ++ move ∷ []) ≡ commits_of s.moves
      commits_stay = commits_none s.moves move refl

      -- the slots of others
      keeps : (u : Active) → Contains (without_first (is_of session) s.active) u → KeepsSlot (ground old s) later u.number u.kind
      keeps u among e shot mark kind at =
          let other : u.number ≢ o.number = others_numbers session s.active o u shape.opens.rising there among in
          record {
            within = at.within;
            slot = slot_later s.moves (move ∷ []) u.number mark at.slot;
            since = since_later s.moves (move ∷ []) u.number mark at.slot ∙ or_false (has_batch_since s.moves u.number) ∙ at.since;
            unwritten = λ none t behind.
                at.unwritten (sym (or_false (has_batch_since s.moves u.number)) ∙ sym (since_later s.moves (move ∷ []) u.number mark at.slot) ∙ none) t
                (subst (λ ts. Contains ts t) (serial_from_without u.number o.number s.agenda apart slot other) behind);
          }

      holders_left : removed o.number old.preserve ≡ batches_of (without_first (is_of session) s.active)
      holders_left = ap (removed o.number) stands.holders ∙ sym (without_batch session s.active o _ shape.opens.rising there (ap (λ k. holder_of k o.number) live))

      records_now : (b : Bool) → is_any_live (removed o.number old.preserve) ≡ b → AreRecordsOf (moved (closed s session) s.epoch (Leave o.number)) (cleared_unless b old.records)
      records_now true some = records_left base s shape session o there d snapshot live old.records stands.records
      records_now false none = records_left_alone base s shape session o there d snapshot live old.records (no_holders (without_first (is_of session) s.active) (ap is_any_live (sym holders_left) ∙ none)) stands.records

      live_left : (e : Declared) (mark : ℕ) → StandsAt (left_core old room (stages.Live e mark) o.number opens) (moved (closed s session) s.epoch (Leave o.number))
      live_left e mark = record {
        counters = stands.counters;
        agenda = record {
          list_is = ap (λ l. without l o.number) stands.agenda.list_is ∙ sym (numbers_after s.agenda (Leave o.number));
          count_is = stands.agenda.count_is ∙ sym (ap length commits_stay);
          batch_within = stands.agenda.batch_within;
          slots = slots_without o.number old.preserve s.agenda stands.agenda.slots;
        };
        holders = holders_left;
        store = subst (λ ts. HasStore old.store s.base (run s.base ts) ts (commits_of (s.moves ++ move ∷ []))) (sym serial_stays) (subst (HasStore old.store s.base (latest s) (serial s.agenda)) (sym commits_stay) stands.store);
        opens = opens_on (ground old s) opens (without_first (is_of session) s.active) opens_left later (λ u a among is. open_later (ground old s) later (record { base = refl; more = omega arith; rows = λ m within. refl; seen = λ m within cell. refl }) u a (keeps u among) is);
        records = records_now (is_any_live (removed o.number old.preserve)) refl;
        areas = ap (areas_without o.number) stands.areas ∙ sym (areas_batch session s.active o _ shape.opens.rising there (ap (λ k. area_of k o.number) live));
      }

  -- it ended
  pub ended_stands : (room : ℕ) (a : OpenView) (opens : List (Option OpenView)) → opened old.opens session ≡ Some a → HasAt old.opens session None opens
      → StandsAt (left_core old room a.stage a.number opens) (to_active s (active_of s session) (λ u. ended s u session))
  ended_stands room a opens here at = subst (λ f. StandsAt (left_core old room a.stage a.number opens) (to_active s f (λ u. ended s u session))) (sym found.found) (by_stage a.stage refl) where
    found : FoundOpen (ground old s) old.opens s.active stands.opens session a
    found = some_open old session s stands a here

    by_stage : (stage : Stage) → a.stage ≡ stage → StandsAt (left_core old room a.stage a.number opens) (ended s found.open_tx session)
    by_stage stages.Short is =
        let short : found.open_tx.kind ≡ IsShort = (as_short (ground old s) _ _ a found.open_tx.kind a.stage is found.is_open.kind).0 in
        subst (λ g. StandsAt (left_core old room g a.number opens) (ended s found.open_tx session)) (sym is)
        (subst (λ k. StandsAt (left_core old room stages.Short a.number opens) (left (closed s session) k found.open_tx.number)) (sym short) (short_left room found.open_tx found.found opens at short))
    by_stage (stages.Pending e) is =
        let pending : found.open_tx.kind ≡ IsPending (declaration e) = (as_pending (ground old s) _ _ a found.open_tx.kind a.stage e is found.is_open.kind).0 in
        subst (λ g. StandsAt (left_core old room g a.number opens) (ended s found.open_tx session)) (sym is)
        (subst (λ n. StandsAt (left_core old room (stages.Pending e) n opens) (ended s found.open_tx session)) (sym found.is_open.number)
        (subst (λ k. StandsAt (left_core old room (stages.Pending e) found.open_tx.number opens) (left (closed s session) k found.open_tx.number)) (sym pending) (pending_left room found.open_tx found.found opens at e (declaration e) pending)))
    by_stage (stages.Live e mark) is =
        let live = as_live_open (ground old s) _ _ a found.open_tx.kind a.stage e mark is found.is_open.kind in
        subst (λ g. StandsAt (left_core old room g a.number opens) (ended s found.open_tx session)) (sym is)
        (subst (λ n. StandsAt (left_core old room (stages.Live e mark) n opens) (ended s found.open_tx session)) (sym found.is_open.number)
        (subst (λ k. StandsAt (left_core old room (stages.Live e mark) found.open_tx.number opens) (left (closed s session) k found.open_tx.number)) (sym live.kind_is)
        (live_left room found.open_tx found.found opens at (declaration e) live.snapshot live.kind_is e mark)))

-- who is open is known as what it is
pub known_as : (core : CoreView) → IsStanding core → (session : ℕ) (a : OpenView) → opened core.opens session ≡ Some a → IsKnownAs a.stage a.number core.preserve core.list
known_as core standing session a here = by_stage a.stage refl where
  s : State
  s = state standing.base standing.history

  found : FoundOpen (ground core s) core.opens s.active standing.stands.opens session a
  found = some_open core session s standing.stands a here

  entered_now : (h : Holder) → holder_of found.open_tx.kind found.open_tx.number ≡ Some h → a.number ≡ found.open_tx.number → is_entered core.preserve a.number ≡ true
  entered_now h is number =
      ap (λ hs. is_entered hs a.number) standing.stands.holders
      ∙ any_contains (is_holder a.number) (batches_of s.active) h (given_here (λ o. holder_of o.kind o.number) s.active found.open_tx h (find_contains (is_of session) s.active found.open_tx found.found) is)
      (eq-eqb h.number a.number (entered_number found.open_tx.kind found.open_tx.number h is ∙ sym number))

  by_stage : (stage : Stage) → a.stage ≡ stage → IsKnownAs stage a.number core.preserve core.list
  by_stage stages.Short is = tt
  by_stage (stages.Pending e) is =
      let pending : found.open_tx.kind ≡ IsPending (declaration e) = (as_pending (ground core s) _ _ a found.open_tx.kind a.stage e is found.is_open.kind).0 in
      entered_now _ (ap (λ k. holder_of k found.open_tx.number) pending) found.is_open.number
  by_stage (stages.Live e mark) is =
      let live = as_live_open (ground core s) _ _ a found.open_tx.kind a.stage e mark is found.is_open.kind in
      let batch = live_batch standing.base s (structure_of built standing.base standing.history standing.legal) session found.open_tx (declaration e) live.snapshot found.found live.kind_is in (
        entered_now _ (ap (λ k. holder_of k found.open_tx.number) live.kind_is) found.is_open.number,
        ap (λ l. listed.is_member l a.number) standing.stands.agenda.list_is ∙ any_map (λ m. m == a.number) number_of s.agenda ∙ ap (is_member s.agenda) found.is_open.number ∙ batch.member,
      )

-- an abort
abbrev aborting : ℕ → Command
aborting session = commands.Ask session verbs.Abort

pub aborted_some : (old : CoreView) (session room : ℕ) (a : OpenView) (opens : List (Option OpenView)) → opened old.opens session ≡ Some a → HasAt old.opens session None opens
    → Steps old (aborting session) replies.Aborted (left_core old room a.stage a.number opens)
aborted_some old session room a opens here at base history sound legal stands =
    let s : State = state base history in
    let f = some_open old session s stands a here in
    leads base history (lines.Good (aborting session)) replies.Aborted replies.Aborted _
    (ap state_abort (sym f.found) ∙ staged_is s (aborting session)) refl (ended_stands old session base history sound legal stands room a opens here at)

-- a slot that was empty is empty
pub same_taken : (opens new : List (Option OpenView)) (session : ℕ) → opened opens session ≡ None → HasAt opens session None new → (n : ℕ) → opened new n ≡ opened opens n
same_taken opens new session none at n = by_test (n == session) refl where
  by_test : (b : Bool) → (n == session) ≡ b → opened new n ≡ opened opens n
  by_test true is = let same : n ≡ session = eqb-true n session is in ap (opened new) same ∙ at.here ∙ sym none ∙ ap (opened opens) (sym same)
  by_test false apart = at.others n apart

-- a core with these open transactions
abbrev pub with_opens : CoreView → List (Option OpenView) → CoreView
with_opens c opens = record { counters = c.counters; list = c.list; room = c.room; commits = c.commits; batch = c.batch; store = c.store; preserve = c.preserve; opens = opens; records = c.records; areas = c.areas; log = c.log }

pub same_but_opens : (v : CoreView) (opens : List (Option OpenView)) → AreSameOpens v.opens opens → IsSame v (with_opens v opens)
same_but_opens v opens same = record { counters = refl; list = refl; commits = refl; batch = refl; store = same_itself v.store; preserve = refl; opens = same; records = refl; areas = refl; log = record { durable = refl; closed = refl; present = refl } }

pub aborted_none : (old : CoreView) (session : ℕ) (opens : List (Option OpenView)) → opened old.opens session ≡ None → HasAt old.opens session None opens → Steps old (aborting session) replies.NoTx (with_opens old opens)
aborted_none old session opens none at base history sound legal stands =
    let s : State = state base history in
    stays old (with_opens old opens) (aborting session) replies.NoTx base history (same_but_opens old opens (same_opens old.opens opens (same_taken old.opens opens session none at))) stands replies.NoTx
    (ap state_abort (sym (none_open old session s stands none)) ∙ staged_is s (aborting session)) refl refl

-- a core with what is left
abbrev pub left_with : CoreView → ℕ → List ℕ → List Holder → List (Option OpenView) → List Live → Records → CoreView
left_with c room list preserve opens areas records = record { counters = c.counters; list = list; room = room; commits = c.commits; batch = c.batch; store = c.store; preserve = preserve; opens = opens; records = records; areas = areas; log = c.log }

-- by the fields of a core
module _ (v w : CoreView) (same : v ≡ w) (session : ℕ) where
  pub aborted_none_from : (opens : List (Option OpenView)) → opened v.opens session ≡ None → HasAt v.opens session None opens → Steps w (aborting session) replies.NoTx (with_opens v opens)
  aborted_none_from opens none at = subst (λ u. Steps u (aborting session) replies.NoTx (with_opens v opens)) same (aborted_none v session opens none at)

  pub aborted_some_from : (room : ℕ) (a : OpenView) (list : List ℕ) (preserve : List Holder) (opens : List (Option OpenView)) (areas : List Live) (records : Records) → Some a ≡ opened v.opens session → HasAt v.opens session None opens
      → list ≡ left_list a.stage a.number v.list → preserve ≡ left_batches a.stage a.number v.preserve → areas ≡ left_areas a.stage a.number v.areas → records ≡ left_records a.stage a.number v.preserve v.records
      → Steps w (aborting session) replies.Aborted (left_with v room list preserve opens areas records)
  aborted_some_from room a list preserve opens areas records here at listed held area recorded =
      subst (Steps w (aborting session) replies.Aborted) made (subst (λ u. Steps u (aborting session) replies.Aborted (left_core v room a.stage a.number opens)) same (aborted_some v session room a opens (sym here) at)) where
        made : left_core v room a.stage a.number opens ≡ left_with v room list preserve opens areas records
        made i = left_with v room (sym listed i) (sym held i) opens (sym area i) (sym recorded i)

-- no more batches are pending, and the list is no longer
pub pending_removed : (n : ℕ) (hs : List Holder) → pending (removed n hs) ≤ pending hs
pending_removed n [] = omega arith
pending_removed n (h ∷ hs) = by_test (is_holder n h) (not h.live) (pending_removed n hs) where
  by_test : (b d : Bool) → pending (removed n hs) ≤ pending hs → length (filter (λ x. not x.live) (cond b hs (h ∷ removed n hs))) ≤ length (cond (not h.live) (h ∷ filter (λ x. not x.live) hs) (filter (λ x. not x.live) hs))
  by_test true d later = by_live (not h.live) where
    by_live : (d : Bool) → pending hs ≤ length (cond d (h ∷ filter (λ x. not x.live) hs) (filter (λ x. not x.live) hs))
    by_live true = omega arith
    by_live false = omega arith
  by_test false d later = by_live (not h.live) where
    by_live : (d : Bool) → length (cond d (h ∷ filter (λ x. not x.live) (removed n hs)) (filter (λ x. not x.live) (removed n hs))) ≤ length (cond d (h ∷ filter (λ x. not x.live) hs) (filter (λ x. not x.live) hs))
    by_live true = omega (arith, later)
    by_live false = later

shorter : (n : ℕ) (ns : List ℕ) → length (without ns n) ≤ length ns
shorter n [] = omega arith
shorter n (m ∷ ms) = by_test (m == n) (shorter n ms) where
  by_test : (b : Bool) → length (without ms n) ≤ length ms → length (cond (not b) (m ∷ without ms n) (without ms n)) ≤ length (m ∷ ms)
  by_test true later = omega (arith, later)
  by_test false later = omega (arith, later)

pub left_within : (v : CoreView) (stage : Stage) (n : ℕ) (list : List ℕ) (room : ℕ) (preserve : List Holder) (opens : List (Option OpenView)) (areas : List Live) (records : Records) → IsWithin v → list ≡ left_list stage n v.list
    → preserve ≡ left_batches stage n v.preserve → room ≡ v.room → IsWithin (left_with v room list preserve opens areas records)
left_within v stage n list room preserve opens areas records within listed held kept =
    let fewer : pending preserve ≤ pending v.preserve = subst (λ hs. pending hs ≤ pending v.preserve) (sym held) (by_stage stage) in
    let short : length list ≤ length v.list = subst (λ l. length l ≤ length v.list) (sym listed) (by_stage_list stage) in
    let before : pending v.preserve ≤ v.room = within.room in
    let fits : length v.list + v.room < 18446744073709551616 = within.listed in
    record { marks = within.marks; room = omega (arith, kept); listed = omega (arith, kept); epoch_bound = within.epoch_bound; epoch_positive = within.epoch_positive; last_bound = within.last_bound; log = events_fewer v.counters.epoch (pending v.preserve) (pending preserve) v.log.events within.log fewer } where
      by_stage : (g : Stage) → pending (left_batches g n v.preserve) ≤ pending v.preserve
      by_stage stages.Short = omega arith
      by_stage (stages.Pending d) = pending_removed n v.preserve
      by_stage (stages.Live d mark) = pending_removed n v.preserve

      by_stage_list : (g : Stage) → length (left_list g n v.list) ≤ length v.list
      by_stage_list stages.Short = omega arith
      by_stage_list (stages.Pending d) = omega arith
      by_stage_list (stages.Live d mark) = shorter n v.list
