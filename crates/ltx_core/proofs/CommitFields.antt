-- The commit of a short by the fields of a core.
use Rattle.std.proofs.Common.{◌≡◌, ℕ, ◌+◌, ◌<◌, ◌≤◌, ◌^◌, false, ◌==◌, List, [], ◌∷◌, length, Option, Some, None, option_map, refl, sym, ap, ◌∙◌, subst, le_refl, inr, arith}
use Rattle.std.proofs.lemmas.List.{length-append, length-map}
use Rattle.std.proofs.lemmas.List.Sorted.{length_permutation}
use Rattle.ltx_model.specs.declared.replies.Reply.{Reply}
use Rattle.ltx_model.specs.declared.replies.Reply.TheVariants as replies
use Rattle.ltx_model.specs.Agenda.{number_of, committed_of, commits_of, serial, is_member}
use Rattle.ltx_model.specs.Listings as listed
use Rattle.ltx_model.specs.Limits.{last_epoch, last_number}
use Rattle.ltx_model.specs.Records.{Records}
use Rattle.ltx_model.specs.States.{State, is_of}
use Rattle.ltx_model.specs.Histories.{state}
use Rattle.ltx_model.specs.Shorts.{Held, Change}
use Rattle.ltx_model.specs.Verdicts.{Verdict, Passes, RefusedAsHeld, RefusedAsChanged}
use Rattle.ltx_lemmas.proofs.Lists.{some_same, any_map, all_find}
use Rattle.ltx_laws.specs.Structure.{Structure, StandsAs, Stands, IsOpenShort}
use Rattle.ltx_laws.proofs.Structures.{structure_of}
use Rattle.ltx_events.specs.Kept.{Unsealed}
use Rattle.ltx_store.specs.Kept.{Kept, HasSameVersions, AreUpTo}
use Rattle.ltx_open.specs.declared.stage.Stage.TheVariants as stages
use Rattle.ltx_core.specs.Built.{built}
use Rattle.ltx_open.specs.Views.{OpenView, is_batch}
use Rattle.ltx_core.specs.Views.{CoreView, pending, AreEventsWithin, IsWithin}
use Rattle.ltx_open.specs.Slots.{opened, HasAt}
use Rattle.ltx_core.specs.Commits.{HasCommitted, MayCommit}
use Rattle.ltx_core.specs.Stands.{ground, IsStanding}
use Rattle.ltx_core.specs.Steps.{Steps, IsAnswered, IsCore}
use Rattle.ltx_core.proofs.Committed.{JudgedBy, commit_held, commit_changed, commit_passed, passed_logs}
use Rattle.ltx_core.proofs.CoreSteps.{core_step, core_same}
use Rattle.ltx_core.proofs.Ended.{some_open, with_opens, left_within}
use Rattle.ltx_core.proofs.HomeAnswers.{commits_at}
use Rattle.ltx_core.proofs.LiveFound.{stage_some, given_length}
use Rattle.ltx_core.proofs.LogSteps.{log_kept, calm_from}
use Rattle.ltx_core.proofs.LogWithin.{IsRoomed, roomed_log, events_roomed, events_more, pending_few}
use Rattle.ltx_core.proofs.OpensKept.{as_short}
use Rattle.ltx_open.proofs.SameOpens.{same_at_itself}

-- what was taken out of the slot is what stood there
pub taken_number : (opens : List (Option OpenView)) (session : ℕ) (a b : OpenView) → Some a ≡ opened opens session → Some b ≡ opened opens session → b.number ≡ a.number
taken_number opens session a b first second = ap (λ (o : OpenView). o.number) (some_same (second ∙ sym first))

-- a core whose store, agenda and events have other room
pub core_ready : (fields : CoreView) (store : List Kept) (list : List ℕ) (room : ℕ) (events : Unsealed) (records : Records) → HasSameVersions fields.store store → list ≡ fields.list → records ≡ fields.records → fields.room ≤ room → length list + room < 2 ^ 64 → IsRoomed fields.log.events events → IsCore fields
    → IsCore (record { counters = fields.counters; list = list; room = room; commits = fields.commits; batch = fields.batch; store = store; preserve = fields.preserve; opens = fields.opens; records = records; areas = fields.areas; log = record { durable = fields.log.durable; events = events } })
core_ready fields store list room events records same listed recorded more fits roomed core =
    let before : pending fields.preserve ≤ fields.room = core.within.room in
    core_same fields (record { counters = fields.counters; list = list; room = room; commits = fields.commits; batch = fields.batch; store = store; preserve = fields.preserve; opens = fields.opens; records = records; areas = fields.areas; log = record { durable = fields.log.durable; events = events } })
    (record { counters = refl; list = listed; commits = refl; batch = refl; store = same; preserve = refl; opens = λ n. same_at_itself (opened fields.opens n); records = recorded; areas = refl; log = roomed_log fields.log.durable fields.log.events events roomed })
    core.standing
    (record { marks = same.marks fields.commits core.within.marks; room = omega arith; listed = omega arith; epoch_bound = core.within.epoch_bound; epoch_positive = core.within.epoch_positive; last_bound = core.within.last_bound; log = events_roomed fields.counters.epoch (pending fields.preserve) fields.log.events events core.within.log roomed })

-- a core whose store and events have other room, with the same agenda
pub core_placed : (fields : CoreView) (store : List Kept) (list : List ℕ) (room : ℕ) (events : Unsealed) (records : Records) → HasSameVersions fields.store store → list ≡ fields.list → room ≡ fields.room → records ≡ fields.records → IsRoomed fields.log.events events → IsCore fields
    → IsCore (record { counters = fields.counters; list = list; room = room; commits = fields.commits; batch = fields.batch; store = store; preserve = fields.preserve; opens = fields.opens; records = records; areas = fields.areas; log = record { durable = fields.log.durable; events = events } })
core_placed fields store list room events records same listed kept recorded roomed core =
    let some : length list ≡ length fields.list = ap length listed in
    let was : length fields.list + fields.room < 18446744073709551616 = core.within.listed in
    core_ready fields store list room events records same listed recorded (omega (arith, kept)) (omega (arith, kept)) roomed core

-- there are no more commits than members
pub commits_listed : (core : CoreView) → IsStanding core → core.commits ≤ length core.list
commits_listed core standing =
    let s : State = state standing.base standing.history in
    let structure : Structure standing.base s = structure_of built standing.base standing.history standing.legal in
    let commits : core.commits ≡ length (commits_of s.moves) = standing.stands.agenda.count_is in
    let same : length (serial s.agenda) ≡ length (commits_of s.moves) = length_permutation (commits_of s.moves) (serial s.agenda) structure.committed in
    let most : length (serial s.agenda) ≤ length s.agenda = given_length committed_of s.agenda in
    let members : length core.list ≡ length s.agenda = ap length standing.stands.agenda.list_is ∙ length-map s.agenda number_of in
    omega arith

-- an open short is no member
pub short_absent : (core : CoreView) → IsStanding core → (session : ℕ) (a : OpenView) → opened core.opens session ≡ Some a → a.stage ≡ stages.Short → listed.is_member core.list a.number ≡ false
short_absent core standing session a here short =
    let s : State = state standing.base standing.history in
    let structure : Structure standing.base s = structure_of built standing.base standing.history standing.legal in
    let found = some_open core session s standing.stands a here in
    let kind = (as_short (ground core s) found.open_tx.number found.open_tx.steps a found.open_tx.kind a.stage short found.is_open.kind).0 in
    let open_short : IsOpenShort s.agenda s.moves found.open_tx.number = subst (λ k. StandsAs s.agenda s.moves k found.open_tx.number found.open_tx.steps) kind
    (all_find (Stands s.agenda s.moves) (is_of session) s.active found.open_tx structure.stands found.found) in
    ap (λ l. listed.is_member l a.number) standing.stands.agenda.list_is ∙ any_map (λ m. m == a.number) number_of s.agenda ∙ ap (is_member s.agenda) found.is_open.number ∙ open_short.fresh

-- the numbers are within their bounds after a commit
pub committed_within : (fields new : CoreView) (session : ℕ) (a : OpenView) → HasCommitted fields session a new → (room : ℕ) → length fields.preserve + 1 ≤ room → new.room + 1 ≡ room → length fields.list + room < 2 ^ 64
    → AreUpTo new.commits new.store → length fields.preserve ≤ new.log.events.room → new.log.events.last ≡ fields.counters.epoch → IsWithin fields → IsWithin new
committed_within fields new session a done room made used fits marks spare last within =
    let few : pending new.preserve ≤ length fields.preserve = subst (λ hs. pending hs ≤ length fields.preserve) (sym done.preserve) (pending_few fields.preserve) in
    let listed : length new.list ≡ length fields.list + 1 = ap length done.list ∙ length-append fields.list (a.number ∷ []) in
    record {
      marks = marks;
      room = omega arith;
      listed = omega arith;
      epoch_bound = subst (λ c. c.epoch ≤ last_epoch) (sym done.counters) within.epoch_bound;
      epoch_positive = subst (λ c. 0 < c.epoch) (sym done.counters) within.epoch_positive;
      last_bound = subst (λ c. c.last ≤ last_number) (sym done.counters) within.last_bound;
      log = subst (λ c. AreEventsWithin c.epoch (pending new.preserve) new.log.events) (sym done.counters)
          (events_more fields.counters.epoch (pending fields.preserve) (pending new.preserve) fields.log.events new.log.events _ within.log done.log.closed done.log.present (le_refl fields.counters.epoch) last (let h : pending new.preserve ≤ new.log.events.room = omega arith in h));
    }

module _ (fields now : CoreView) (is_now : fields ≡ now) (session : ℕ) where
  -- the session's transaction may commit: it does
  module _ (passes : (a : OpenView) → opened now.opens session ≡ Some a → MayCommit now a) (a : OpenView) (here : Some a ≡ opened fields.opens session) where
    may : MayCommit fields a
    may = subst (λ core. MayCommit core a) (sym is_now) (passes a (ap (λ (core : CoreView). opened core.opens session) (sym is_now) ∙ sym here))

    pub accepted_steps : (reply : Reply) (new : CoreView) → reply ≡ replies.Committed fields.counters.epoch → HasCommitted fields session a new → IsAnswered now (commits_at session) reply new
    accepted_steps reply new says done = subst (λ core. IsAnswered core (commits_at session) reply new) is_now (record {
      steps = commit_passed fields session a reply new (sym here) may.short may.passes says done;
      logs = passed_logs fields session a reply new (sym here) may.short may.passes says done;
    })

    pub accepted_core : (new : CoreView) → HasCommitted fields session a new → IsStanding fields → IsWithin new → IsCore new
    accepted_core new done standing within =
        core_step fields (commits_at session) (replies.Committed fields.counters.epoch) new
        (commit_passed fields session a (replies.Committed fields.counters.epoch) new (sym here) may.short may.passes refl done) standing within

    pub accepted_short : is_batch a.stage ≡ false
    accepted_short = ap is_batch may.short

    pub accepted_absent : IsStanding fields → listed.is_member fields.list a.number ≡ false
    accepted_absent standing = short_absent fields standing session a (sym here) may.short

  -- it is refused
  module _ (short : option_map (λ (x : OpenView). x.stage) (opened now.opens session) ≡ Some stages.Short) (a : OpenView) (here : Some a ≡ opened fields.opens session) where
    stage : a.stage ≡ stages.Short
    stage = stage_some (opened fields.opens session) a stages.Short (ap (λ (core : CoreView). option_map (λ (x : OpenView). x.stage) (opened core.opens session)) is_now ∙ short) (sym here)

    -- what the verdict says, which is this one
    judged_as : (v verdict : Verdict) → (a.stage ≡ stages.Short → JudgedBy fields a v) → v ≡ verdict → JudgedBy fields a verdict
    judged_as v verdict judged is = subst (JudgedBy fields a) is (judged stage)

    abbrev left_of : List (Option OpenView) → CoreView
    left_of opens = with_opens fields opens

    left_bounds : (opens : List (Option OpenView)) → IsWithin fields → IsWithin (left_of opens)
    left_bounds opens within = left_within fields stages.Short a.number fields.list fields.room fields.preserve opens fields.areas fields.records within refl refl refl

    module _ (v : Verdict) (judged : a.stage ≡ stages.Short → JudgedBy fields a v) (opens : List (Option OpenView)) (at : HasAt fields.opens session None opens) where
      held_there : (h : Held) → v ≡ RefusedAsHeld h → Steps fields (commits_at session) (replies.Preserved h.table h.holder) (left_of opens)
      held_there h is = commit_held fields session fields.room a h opens (sym here) stage (judged_as v (RefusedAsHeld h) judged is) at

      changed_there : (c : Change) → v ≡ RefusedAsChanged c → Steps fields (commits_at session) (replies.Changed c.op c.cell.table c.cell.key c.found c.current) (left_of opens)
      changed_there c is = commit_changed fields session fields.room a c opens (sym here) stage (judged_as v (RefusedAsChanged c) judged is) at

      pub held_steps : (h : Held) → v ≡ RefusedAsHeld h → IsAnswered now (commits_at session) (replies.Preserved h.table h.holder) (left_of opens)
      held_steps h is =
          calm_from fields now is_now (commits_at session) (replies.Preserved h.table h.holder) (left_of opens) (subst (λ core. Steps core (commits_at session) (replies.Preserved h.table h.holder) (left_of opens)) is_now (held_there h is)) (log_kept fields.log) (inr tt)

      pub held_core : (h : Held) → v ≡ RefusedAsHeld h → IsCore fields → IsCore (left_of opens)
      held_core h is core = core_step fields (commits_at session) (replies.Preserved h.table h.holder) (left_of opens) (held_there h is) core.standing (left_bounds opens core.within)

      pub changed_steps : (c : Change) → v ≡ RefusedAsChanged c → IsAnswered now (commits_at session) (replies.Changed c.op c.cell.table c.cell.key c.found c.current) (left_of opens)
      changed_steps c is =
          calm_from fields now is_now (commits_at session) (replies.Changed c.op c.cell.table c.cell.key c.found c.current) (left_of opens)
          (subst (λ core. Steps core (commits_at session) (replies.Changed c.op c.cell.table c.cell.key c.found c.current) (left_of opens)) is_now (changed_there c is)) (log_kept fields.log) (inr tt)

      pub changed_core : (c : Change) → v ≡ RefusedAsChanged c → IsCore fields → IsCore (left_of opens)
      changed_core c is core =
          core_step fields (commits_at session) (replies.Changed c.op c.cell.table c.cell.key c.found c.current) (left_of opens) (changed_there c is) core.standing (left_bounds opens core.within)

    pub may_commit : (v : Verdict) → (a.stage ≡ stages.Short → JudgedBy fields a v) → v ≡ Passes → (b : OpenView) → opened now.opens session ≡ Some b → MayCommit now b
    may_commit v judged passes b there =
        let same : a ≡ b = some_same (here ∙ ap (λ (core : CoreView). opened core.opens session) is_now ∙ there) in
        subst (MayCommit now) same (subst (λ core. MayCommit core a) is_now (record { short = stage; passes = judged_as v Passes judged passes }))
