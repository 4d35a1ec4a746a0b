-- The commit of a live batch that is decided, by the fields of a core.
use Rattle.std.proofs.Common.{◌≡◌, ◌≢◌, ℕ, true, false, List, [], map, length, Option, Some, None, option_map, refl, sym, ap, ◌∙◌, subst, nat_lt, inr}
use Rattle.std.specs.List.{list_any}
use Rattle.ltx_model.specs.declared.commands.Line.TheVariants.{Good}
use Rattle.ltx_model.specs.declared.replies.Entry.{Entry}
use Rattle.ltx_model.specs.declared.replies.Reply.{Reply}
use Rattle.ltx_model.specs.declared.replies.Reply.TheVariants as replies
use Rattle.ltx_model.specs.declared.writes.Target.{Target}
use Rattle.ltx_model.specs.declared.writes.Target.TheVariants as targets
use Rattle.ltx_model.specs.Lists.{without_first}
use Rattle.ltx_model.specs.Answers.{refused_at, IsLegalWith}
use Rattle.ltx_model.specs.Batches.{Refusal, ByLate, ByContradicts}
use Rattle.ltx_model.specs.Decisions.{CommitAt, WaitFor, RefuseAt, lives_of, IsDecision}
use Rattle.ltx_model.specs.Decisions as decisions
use Rattle.ltx_model.specs.Holders.{Holder}
use Rattle.ltx_model.specs.Keys.{Cell}
use Rattle.ltx_model.specs.Listings.{is_member}
use Rattle.ltx_model.specs.Operations.{Transaction}
use Rattle.ltx_model.specs.Records.{Records, AreRecordsOf}
use Rattle.ltx_model.specs.States.{Declaration, Kind, IsShort, IsPending, IsLive, Active, transaction_of, Base, IsSound, State, LiveBatch, is_of, active_of}
use Rattle.ltx_model.specs.Histories.{to_active, closed, moved, ended, state}
use Rattle.ltx_lemmas.proofs.Lists.{some_same, none_some}
use Rattle.ltx_laws.specs.Structure.{Structure}
use Rattle.ltx_laws.proofs.WitnessBatches.{target_found_is}
use Rattle.ltx_agenda.specs.Placed.{Listed}
use Rattle.ltx_forward.specs.declared.decide.Live.{Live}
use Rattle.ltx_forward.specs.declared.decide.Decision.{Decision}
use Rattle.ltx_forward.specs.Asked.{told, decision_of}
use Rattle.ltx_preserve.specs.Kept.{is_live_below}
use Rattle.ltx_store.specs.Kept.{Kept, versions_at, HasSameVersions}
use Rattle.ltx_open.specs.declared.stage.Declared.{Declared}
use Rattle.ltx_open.specs.declared.stage.Stage.TheVariants as stages
use Rattle.ltx_core.specs.Asking.{IsAskedWith, IsAskableWith}
use Rattle.ltx_core.specs.Built.{built}
use Rattle.ltx_core.specs.Decided.{IsDecided, HasLive, IsAhead, IsRefused, reply_at, list_at, HasCommittedAt}
use Rattle.ltx_core.specs.Ends.{left_batches, left_list, left_areas, left_records}
use Rattle.ltx_core.specs.Installed.{AreByMembers}
use Rattle.ltx_core.specs.Recorded.{areas_of_live}
use Rattle.ltx_open.specs.Slots.{opened, HasAt}
use Rattle.ltx_core.specs.Stands.{areas_of, batches_of, StandsAt, IsStanding}
use Rattle.ltx_core.specs.Steps.{Steps, IsAnswered, IsCore}
use Rattle.ltx_open.specs.Views.{OpenView, declaration}
use Rattle.ltx_core.specs.Views.{CoreView, IsWithin}
use Rattle.ltx_core.proofs.CommittedBefore.{move_at}
use Rattle.ltx_core.proofs.CoreSteps.{core_step}
use Rattle.ltx_core.proofs.Decidable.{asking_decidable}
use Rattle.ltx_core.proofs.DecidedSteps.{commit_waiting, commit_late, commit_contradicts, commit_placed, placed_logs}
use Rattle.ltx_core.proofs.Ended.{left_core, left_with, ended_stands}
use Rattle.ltx_core.proofs.HomeAnswers.{commits_at}
use Rattle.ltx_core.proofs.LiveAreas.{lives_are, areas_length}
use Rattle.ltx_core.proofs.LiveFound.{IsLiveAt, live_at, stage_some}
use Rattle.ltx_core.proofs.LogSteps.{log_kept, IsQuiet, calm_answered, calm_from}
use Rattle.ltx_core.proofs.PlacedFields.{batch_there, writers_there, target_there}
use Rattle.ltx_core.proofs.Recording.{records_home, records_before, areas_left}

-- every commit is answered
commits_answered : (s : State) (session : ℕ) → built s (Good (commits_at session)) ≡ true
commits_answered s session = refl

-- who overtakes nobody
pub is_ahead : (fields now : CoreView) → fields ≡ now → (session : ℕ) (e : Declared) (mark : ℕ) → option_map (λ (x : OpenView). x.stage) (opened now.opens session) ≡ Some (stages.Live e mark) → (a : OpenView) → Some a ≡ opened fields.opens session
    → (tx : ℕ) → tx ≡ a.number → nat_lt mark fields.batch ≡ false → list_any (is_live_below tx) fields.preserve ≡ false → IsAhead now session
is_ahead fields now is session e mark live a here tx number unpassed least = record {
  batch = record { declared = e; mark = mark; live = live };
  unpassed = ap (λ (core : CoreView). nat_lt mark core.batch) (sym is) ∙ unpassed;
  least = λ b there.
      let same : a ≡ b = some_same (here ∙ ap (λ (core : CoreView). opened core.opens session) is ∙ there) in
      ap (λ n. list_any (is_live_below n) now.preserve) (ap (λ (x : OpenView). x.number) (sym same) ∙ sym number) ∙ ap (λ (core : CoreView). list_any (is_live_below tx) core.preserve) (sym is) ∙ least;
}

-- as many areas as batches that have begun
pub areas_all : (core : CoreView) → IsStanding core → length core.areas ≡ length core.preserve
areas_all core standing =
    let s : State = state standing.base standing.history in
    ap length standing.stands.areas ∙ areas_length s.active ∙ sym (ap length standing.stands.holders)

-- the open transaction of a session that has a live batch
record LiveOpen (core : CoreView) (session : ℕ) : Type 0 where
  open_tx : OpenView
  declared : Declared
  mark : ℕ
  here : opened core.opens session ≡ Some open_tx
  stage : open_tx.stage ≡ stages.Live declared mark

live_open : (core : CoreView) (session : ℕ) → HasLive core session → LiveOpen core session
live_open core session live = by_slot (opened core.opens session) refl live.live where
  by_slot : (o : Option OpenView) → opened core.opens session ≡ o → option_map (λ (x : OpenView). x.stage) o ≡ Some (stages.Live live.declared live.mark) → LiveOpen core session
  by_slot None is none = absurd (none_some none)
  by_slot (Some a) is some = record { open_tx = a; declared = live.declared; mark = live.mark; here = is; stage = some_same some }

-- it waits
pub waiting_steps : (core : CoreView) (session : ℕ) → HasLive core session → (k : ℕ) → IsDecided core session (WaitFor k) → IsAnswered core (commits_at session) (replies.Waiting k) core
waiting_steps core session live k decided =
    let o = live_open core session live in
    calm_answered core (commits_at session) (replies.Waiting k) core (commit_waiting commits_answered core session o.open_tx o.declared o.mark o.here o.stage k decided) (log_kept core.log) (inr tt)

-- the same declaration and snapshot
abbrev declared_in : Kind → Declaration → Declaration
declared_in IsShort d = d
declared_in (IsPending e) d = e
declared_in (IsLive e snapshot) d = e

abbrev snapshot_in : Kind → List Transaction
snapshot_in IsShort = []
snapshot_in (IsPending e) = []
snapshot_in (IsLive e snapshot) = snapshot

-- what is asked is what the core keeps
module _ (core : CoreView) (session : ℕ) (a : OpenView) (e : Declared) (mark : ℕ) (here : opened core.opens session ≡ Some a) (stage : a.stage ≡ stages.Live e mark) (lives : List Live) (are : lives ≡ areas_of_live core.preserve core.areas)
    (agenda : Listed) (listed : agenda.list ≡ core.list) where
  module _ (base : Base) (history : List Entry) (sound : IsSound base) (legal : IsLegalWith built base history) (stands : StandsAt core (state base history)) where
    abbrev s : State
    s = state base history

    at : IsLiveAt core session a e mark s
    at = live_at core session a e mark s here stage stands

    lives_now : map told lives ≡ lives_of s
    lives_now = ap (map told) (are ∙ ap (λ hs. areas_of_live hs core.areas) stands.holders ∙ ap (areas_of_live (batches_of s.active)) stands.areas) ∙ lives_are s.active

    asked_now : IsAskedWith s (record { tx = transaction_of at.open_tx; declared = declaration e; snapshot = at.snapshot }) a.number a.stage a.notes a.own.writes lives core.records agenda
    asked_now = record {
      number_is = at.number;
      declared = e;
      mark = mark;
      stage_is = stage;
      decidable = subst (λ l. decisions.IsDecidable s (record { tx = transaction_of at.open_tx; declared = declaration e; snapshot = at.snapshot }) a.notes.notes mark a.own.writes (map told lives) core.records l) (sym listed)
          (asking_decidable base history sound legal core stands session a e mark here stage at core.records stands.records (map told lives) lives_now);
    }

    decided_now : (decision : decisions.Decision) → IsDecision s (record { tx = transaction_of at.open_tx; declared = declaration e; snapshot = at.snapshot }) decision
        → (o : Active) (declared : Declaration) (snapshot : List Transaction) → active_of s session ≡ Some o → o.kind ≡ IsLive declared snapshot → IsDecision s (record { tx = transaction_of o; declared = declared; snapshot = snapshot }) decision
    decided_now decision decided o declared snapshot is kind =
        let same : at.open_tx ≡ o = some_same (sym at.found ∙ is) in
        let kinds : IsLive (declaration e) at.snapshot ≡ IsLive declared snapshot = sym at.kind ∙ ap (λ (u : Active). u.kind) same ∙ kind in
        let first : declaration e ≡ declared = ap (λ k. declared_in k declared) kinds in
        let second : at.snapshot ≡ snapshot = ap snapshot_in kinds in
        subst (λ i. IsDecision s i decision) (λ j. record { tx = transaction_of (same j); declared = first j; snapshot = second j }) decided

  askable_now : IsStanding core → IsAskableWith a.number a.stage a.notes a.own.writes lives core.records agenda
  askable_now standing = record {
    state = state standing.base standing.history;
    batch = _;
    asked = asked_now standing.base standing.history standing.sound standing.legal standing.stands;
  }

  decided_here : (decision : decisions.Decision) → ((s : State) (i : LiveBatch) → IsAskedWith s i a.number a.stage a.notes a.own.writes lives core.records agenda → IsDecision s i decision) → IsDecided core session decision
  decided_here decision answers base history sound legal stands = decided_now base history sound legal stands decision (answers (state base history) _ (asked_now base history sound legal stands))

-- a refusal leaves no event
quiet_refusal : (p : ℕ) (r : Refusal) → IsQuiet (refused_at p r)
quiet_refusal p (ByLate w) = tt
quiet_refusal p (ByContradicts w) = tt

module _ (fields now : CoreView) (is_now : fields ≡ now) (session : ℕ) (live : HasLive now session) (a : OpenView) (here : Some a ≡ opened fields.opens session) where
  pub placed_stage : a.stage ≡ stages.Live live.declared live.mark
  placed_stage = stage_some (opened fields.opens session) a (stages.Live live.declared live.mark) (ap (λ (core : CoreView). option_map (λ (x : OpenView). x.stage) (opened core.opens session)) is_now ∙ live.live) (sym here)

  module _ (lives : List Live) (are : lives ≡ areas_of_live fields.preserve fields.areas) (agenda : Listed) (listed : agenda.list ≡ fields.list) where
    pub askable : IsStanding fields → IsAskableWith a.number a.stage a.notes a.own.writes lives fields.records agenda
    askable standing = askable_now fields session a live.declared live.mark (sym here) placed_stage lives are agenda listed standing

    pub decided_so : (decision : Decision) → ((s : State) (i : LiveBatch) → IsAskedWith s i a.number a.stage a.notes a.own.writes lives fields.records agenda → IsDecision s i (decision_of decision)) → IsDecided now session (decision_of decision)
    decided_so decision answers =
        subst (λ core. IsDecided core session (decision_of decision)) is_now (decided_here fields session a live.declared live.mark (sym here) placed_stage lives are agenda listed (decision_of decision) answers)

  -- it is refused
  module _ (reply : Reply) (refused : IsRefused now session reply) (opens : List (Option OpenView)) (at : HasAt fields.opens session None opens) where
    ends : (room : ℕ) (base : Base) (history : List Entry) → IsSound base → IsLegalWith built base history → StandsAt fields (state base history) → StandsAt (left_core fields room a.stage a.number opens) (to_active (state base history) (active_of (state base history) session) (λ u. ended (state base history) u session))
    ends room base history sound legal stands = ended_stands fields session base history sound legal stands room a opens (sym here) at

    left_steps : (room : ℕ) → Steps fields (commits_at session) reply (left_core fields room a.stage a.number opens)
    left_steps room = by_refusal refused.refusal (subst (λ core. IsDecided core session (RefuseAt refused.place refused.refusal)) (sym is_now) refused.decided) refused.reply_is where
      by_refusal : (r : Refusal) → IsDecided fields session (RefuseAt refused.place r) → reply ≡ refused_at refused.place r → Steps fields (commits_at session) reply (left_core fields room a.stage a.number opens)
      by_refusal (ByLate w) decided says =
          subst (λ x. Steps fields (commits_at session) x (left_core fields room a.stage a.number opens)) (sym says)
          (commit_late commits_answered fields session a live.declared live.mark (sym here) placed_stage (left_core fields room a.stage a.number opens) (ends room) refused.place w decided)
      by_refusal (ByContradicts w) decided says =
          subst (λ x. Steps fields (commits_at session) x (left_core fields room a.stage a.number opens)) (sym says)
          (commit_contradicts commits_answered fields session a live.declared live.mark (sym here) placed_stage (left_core fields room a.stage a.number opens) (ends room) refused.place w decided)

    steps_refused : (room : ℕ) (list : List ℕ) (preserve : List Holder) (areas : List Live) (records : Records) → list ≡ left_list a.stage a.number fields.list → preserve ≡ left_batches a.stage a.number fields.preserve
        → areas ≡ left_areas a.stage a.number fields.areas → records ≡ left_records a.stage a.number fields.preserve fields.records → Steps now (commits_at session) reply (left_with fields room list preserve opens areas records)
    steps_refused room list preserve areas records listed held area recorded = subst (Steps now (commits_at session) reply) made (subst (λ core. Steps core (commits_at session) reply (left_core fields room a.stage a.number opens)) is_now (left_steps room)) where
      made : left_core fields room a.stage a.number opens ≡ left_with fields room list preserve opens areas records
      made i = left_with fields room (sym listed i) (sym held i) opens (sym area i) (sym recorded i)

    pub refused_steps : (room : ℕ) (list : List ℕ) (preserve : List Holder) (areas : List Live) (records : Records) → list ≡ left_list a.stage a.number fields.list → preserve ≡ left_batches a.stage a.number fields.preserve
        → areas ≡ left_areas a.stage a.number fields.areas → records ≡ left_records a.stage a.number fields.preserve fields.records → IsAnswered now (commits_at session) reply (left_with fields room list preserve opens areas records)
    refused_steps room list preserve areas records listed held area recorded =
        calm_from fields now is_now (commits_at session) reply (left_with fields room list preserve opens areas records) (steps_refused room list preserve areas records listed held area recorded) (log_kept fields.log)
        (inr (subst IsQuiet (sym refused.reply_is) (quiet_refusal refused.place refused.refusal)))

  -- it commits at a place
  module _ (place : Target) (decided : IsDecided now session (CommitAt place)) where
    pub decided_fields : IsDecided fields session (CommitAt place)
    decided_fields = subst (λ core. IsDecided core session (CommitAt place)) (sym is_now) decided

    -- its target is another member
    pub place_target : IsStanding fields → (p : ℕ) → place ≡ targets.Before p → (is_member fields.list p ≡ true) × (a.number ≢ p)
    place_target standing p is = target_there fields standing session a live.declared live.mark (sym here) placed_stage p (subst (λ x. IsDecided fields session (CommitAt x)) is decided_fields)

    -- and at its place it is a member, and so is whoever wrote a version that is no row of the base
    pub place_member : IsStanding fields → is_member (list_at place a.number fields.list) a.number ≡ true
    place_member standing = batch_there fields standing session a live.declared live.mark (sym here) placed_stage place decided_fields

    pub place_writers : IsStanding fields → (store : List Kept) → HasSameVersions fields.store store → (cell : Cell) → AreByMembers (list_at place a.number fields.list) (versions_at store cell)
    place_writers standing store same cell = writers_there fields standing session a live.declared live.mark (sym here) placed_stage place decided_fields store same cell

    module _ (new : CoreView) (done : HasCommittedAt place fields session a new) where
      kept : (base : Base) (s : State) → Structure base s → StandsAt fields s → (x : IsLiveAt fields session a live.declared live.mark s)
          → IsDecision s (record { tx = transaction_of x.open_tx; declared = declaration live.declared; snapshot = x.snapshot }) (CommitAt place)
          → AreRecordsOf (moved (closed s session) s.epoch (move_at place (transaction_of x.open_tx))) new.records × (new.areas ≡ areas_of (without_first (is_of session) s.active))
      kept base s structure stands x d = (by_place place d, done.areas ∙ areas_left fields session a live.declared live.mark base s structure stands x) where
        by_place : (p : Target) → IsDecision s (record { tx = transaction_of x.open_tx; declared = declaration live.declared; snapshot = x.snapshot }) (CommitAt p) → AreRecordsOf (moved (closed s session) s.epoch (move_at p (transaction_of x.open_tx))) new.records
        by_place targets.Home d = records_home fields session a live.declared live.mark base s structure stands x new.records done.records
        by_place (targets.Before p) d =
            records_before fields session a live.declared live.mark base s structure stands x p
            (target_found_is base s structure (record { tx = transaction_of x.open_tx; declared = declaration live.declared; snapshot = x.snapshot }) p d.target) new.records done.records

      steps_there : (reply : Reply) → reply ≡ reply_at fields.counters.epoch place → Steps fields (commits_at session) reply new
      steps_there reply says = commit_placed commits_answered fields session a live.declared live.mark (sym here) placed_stage place new decided_fields done kept reply says

      pub placed_steps : (reply : Reply) → reply ≡ reply_at fields.counters.epoch place → IsAnswered now (commits_at session) reply new
      placed_steps reply says = subst (λ core. IsAnswered core (commits_at session) reply new) is_now (record {
        steps = steps_there reply says;
        logs = placed_logs commits_answered fields session a live.declared live.mark (sym here) placed_stage place new decided_fields done kept reply says;
      })

      pub placed_core : IsStanding fields → IsWithin new → IsCore new
      placed_core standing within = core_step fields (commits_at session) (reply_at fields.counters.epoch place) new (steps_there (reply_at fields.counters.epoch place) refl) standing within
