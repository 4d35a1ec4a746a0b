-- The commit of a live batch, by the fields of the core.
use Rattle.std.proofs.Common.{◌≡◌, ℕ, ◌<◌, ◌≤◌, ◌+◌, true, false, List, length, Option, Some, option_map, refl, sym, ap, ◌∙◌, subst, le_refl, nat_lt, arith}
use Rattle.std.specs.List.{list_any}
use Rattle.ltx_model.specs.declared.replies.Reply.{Reply}
use Rattle.ltx_model.specs.declared.replies.Reply.TheVariants as replies
use Rattle.ltx_model.specs.declared.writes.Write.{Write}
use Rattle.ltx_model.specs.Limits.{last_epoch, last_number}
use Rattle.ltx_model.specs.Records.{Records}
use Rattle.ltx_model.specs.States.{State}
use Rattle.ltx_model.specs.Histories.{state}
use Rattle.ltx_model.specs.Holders.{is_entered, removed}
use Rattle.ltx_model.specs.Listings.{is_member}
use Rattle.ltx_laws.specs.Structure.{Structure}
use Rattle.ltx_laws.proofs.Structures.{structure_of}
use Rattle.ltx_lemmas.proofs.Lists.{some_same}
use Rattle.ltx_store.specs.Kept.{Kept, HasSameVersions, AreUpTo}
use Rattle.ltx_preserve.specs.Kept.{is_live_below}
use Rattle.ltx_open.specs.declared.stage.Declared.{Declared}
use Rattle.ltx_open.specs.declared.stage.Stage.TheVariants as stages
use Rattle.ltx_core.specs.Built.{built}
use Rattle.ltx_open.specs.Views.{OpenView, is_batch}
use Rattle.ltx_core.specs.Views.{CoreView, AreEventsWithin, IsWithin, pending}
use Rattle.ltx_open.specs.Slots.{opened}
use Rattle.ltx_core.specs.Commits.{HasCommittedHome}
use Rattle.ltx_core.specs.Ends.{IsKnownAs}
use Rattle.ltx_core.specs.Installed.{HasInstalled}
use Rattle.ltx_core.specs.Stands.{IsStanding}
use Rattle.ltx_core.specs.Steps.{IsAnswered, IsCore}
use Rattle.ltx_core.proofs.HomeAnswers.{commits_at}
use Rattle.ltx_core.proofs.LiveFound.{IsLiveAt, live_at, stage_some, commits_below}
use Rattle.ltx_core.proofs.CommittedHome.{installed_in_room, commit_home, home_logs}
use Rattle.ltx_core.proofs.CoreSteps.{core_step, core_same}
use Rattle.ltx_core.proofs.LogSteps.{log_kept}
use Rattle.ltx_core.proofs.LogWithin.{events_more, pending_few}
use Rattle.ltx_open.proofs.SameOpens.{same_at_itself}
use Rattle.ltx_core.proofs.Ended.{pending_removed, known_as}

-- the numbers are within their bounds after it
pub home_within : (fields new : CoreView) (session : ℕ) (a : OpenView) → HasCommittedHome fields session a new → new.room ≡ fields.room → AreUpTo new.commits new.store → length fields.preserve ≤ new.log.events.room → new.log.events.last ≡ fields.counters.epoch
    → IsWithin fields → IsWithin new
home_within fields new session a done room marks spare last within =
    let few : pending fields.preserve ≤ length fields.preserve = pending_few fields.preserve in
    let preserved : pending new.preserve ≡ pending (removed a.number fields.preserve) = ap pending done.preserve in
    let less : pending (removed a.number fields.preserve) ≤ pending fields.preserve = pending_removed a.number fields.preserve in
    let before : pending fields.preserve ≤ fields.room = within.room in
    let many : length new.list ≡ length fields.list = ap length done.list in
    let listed : length fields.list + fields.room < 18446744073709551616 = within.listed in
    record {
      marks = marks;
      room = omega arith;
      listed = omega arith;
      epoch_bound = subst (λ c. c.epoch ≤ last_epoch) (sym done.counters) within.epoch_bound;
      epoch_positive = subst (λ c. 0 < c.epoch) (sym done.counters) within.epoch_positive;
      last_bound = subst (λ c. c.last ≤ last_number) (sym done.counters) within.last_bound;
      log = subst (λ c. AreEventsWithin c.epoch (pending new.preserve) new.log.events) (sym done.counters)
          (events_more fields.counters.epoch (pending fields.preserve) (pending new.preserve) fields.log.events new.log.events _ within.log done.log.closed done.log.present (le_refl fields.counters.epoch) last (let h : pending new.preserve ≤ new.log.events.room = omega arith in h));
    }

-- a core whose store has other room
pub core_roomed : (fields : CoreView) (store : List Kept) (records : Records) → HasSameVersions fields.store store → records ≡ fields.records → IsCore fields
    → IsCore (record { counters = fields.counters; list = fields.list; room = fields.room; commits = fields.commits; batch = fields.batch; store = store; preserve = fields.preserve; opens = fields.opens; records = records; areas = fields.areas; log = fields.log })
core_roomed fields store records same recorded core =
    core_same fields (record { counters = fields.counters; list = fields.list; room = fields.room; commits = fields.commits; batch = fields.batch; store = store; preserve = fields.preserve; opens = fields.opens; records = records; areas = fields.areas; log = fields.log })
    (record { counters = refl; list = refl; commits = refl; batch = refl; store = same; preserve = refl; opens = λ n. same_at_itself (opened fields.opens n); records = recorded; areas = refl; log = log_kept fields.log })
    core.standing
    (record { marks = same.marks fields.commits core.within.marks; room = core.within.room; listed = core.within.listed; epoch_bound = core.within.epoch_bound; epoch_positive = core.within.epoch_positive; last_bound = core.within.last_bound; log = core.within.log })

-- what was taken out of the slot is what stood there, with its writes
pub taken_writes : (opens : List (Option OpenView)) (session : ℕ) (a b : OpenView) (items : List Write) → Some a ≡ opened opens session → Some b ≡ opened opens session → items ≡ b.own.writes → items ≡ a.own.writes
taken_writes opens session a b items first second is = is ∙ ap (λ (o : OpenView). o.own.writes) (some_same (second ∙ sym first))

-- the writes are installed in the room that was made for them
pub home_installed : (old room new : List Kept) (tx mark : ℕ) (a : OpenView) (items : List Write) → tx ≡ a.number → items ≡ a.own.writes → HasSameVersions old room → HasInstalled room new tx mark items
    → HasInstalled old new a.number mark a.own.writes
home_installed old room new tx mark a items number writes same done =
    installed_in_room old room new a.number mark a.own.writes same
    (subst (λ n. HasInstalled room new n mark a.own.writes) number (subst (HasInstalled room new tx mark) writes done))

module _ (fields now : CoreView) (is : fields ≡ now) (session : ℕ) (e : Declared) (mark : ℕ) (live : option_map (λ (x : OpenView). x.stage) (opened now.opens session) ≡ Some (stages.Live e mark)) where
  live_in : option_map (λ (x : OpenView). x.stage) (opened fields.opens session) ≡ Some (stages.Live e mark)
  live_in = ap (λ (core : CoreView). option_map (λ (x : OpenView). x.stage) (opened core.opens session)) is ∙ live

  module _ (a : OpenView) (here : Some a ≡ opened fields.opens session) where
    stage : a.stage ≡ stages.Live e mark
    stage = stage_some (opened fields.opens session) a (stages.Live e mark) live_in (sym here)

    -- it is no short
    pub home_batch : is_batch a.stage ≡ true
    home_batch = ap is_batch stage

    -- nobody is overtaken
    pub ahead_since : nat_lt mark now.batch ≡ false → nat_lt mark fields.batch ≡ false
    ahead_since unpassed = ap (λ (core : CoreView). nat_lt mark core.batch) is ∙ unpassed

    pub ahead_least : ((b : OpenView) → opened now.opens session ≡ Some b → list_any (is_live_below b.number) now.preserve ≡ false) → list_any (is_live_below a.number) fields.preserve ≡ false
    ahead_least least = ap (λ (core : CoreView). list_any (is_live_below a.number) core.preserve) is ∙ least a (ap (λ (core : CoreView). opened core.opens session) (sym is) ∙ sym here)

    pub home_steps : (reply : Reply) (new : CoreView) → nat_lt mark fields.batch ≡ false → list_any (is_live_below a.number) fields.preserve ≡ false → reply ≡ replies.Committed fields.counters.epoch
        → HasCommittedHome fields session a new → IsAnswered now (commits_at session) reply new
    home_steps reply new unpassed least says done = subst (λ core. IsAnswered core (commits_at session) reply new) is (record {
      steps = commit_home fields session a e mark reply new (sym here) stage unpassed least says done;
      logs = home_logs fields session a e mark reply new (sym here) stage says done;
    })

    module _ (standing : IsStanding fields) where
      abbrev s : State
      s = state standing.base standing.history

      structure : Structure standing.base s
      structure = structure_of built standing.base standing.history standing.legal

      at : IsLiveAt fields session a e mark s
      at = live_at fields session a e mark s (sym here) stage standing.stands

      -- the core after it
      pub home_core : (new : CoreView) → nat_lt mark fields.batch ≡ false → list_any (is_live_below a.number) fields.preserve ≡ false → HasCommittedHome fields session a new → IsWithin new → IsCore new
      home_core new unpassed least done within =
          core_step fields (commits_at session) (replies.Committed fields.counters.epoch) new
          (commit_home fields session a e mark (replies.Committed fields.counters.epoch) new (sym here) stage unpassed least refl done) standing within

      -- it is entered
      pub home_entered : is_entered fields.preserve a.number ≡ true
      home_entered = (subst (λ g. IsKnownAs g a.number fields.preserve fields.list) stage (known_as fields standing session a (sym here))).0

      -- and a member
      pub home_listed : is_member fields.list a.number ≡ true
      home_listed = (subst (λ g. IsKnownAs g a.number fields.preserve fields.list) stage (known_as fields standing session a (sym here))).1

      -- there are fewer commits than members
      pub home_commits : fields.commits < length fields.list
      home_commits = commits_below fields session a e mark standing.base s structure standing.stands at
