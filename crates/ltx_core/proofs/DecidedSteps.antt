-- The commit of a live batch as it is decided: committed at a place, waiting, or refused.
use Rattle.std.proofs.Common.{◌≡◌, ℕ, true, List, Some, refl, sym, ap, ◌∙◌, subst}
use Rattle.std.specs.Prelude.{if◌then◌else◌}
use Rattle.ltx_model.specs.declared.commands.Line.TheVariants.{Good}
use Rattle.ltx_model.specs.declared.replies.Entry.{Entry}
use Rattle.ltx_model.specs.declared.replies.Reply.{Reply}
use Rattle.ltx_model.specs.declared.replies.Reply.TheVariants as replies
use Rattle.ltx_model.specs.declared.writes.Target.{Target}
use Rattle.ltx_model.specs.declared.writes.Target.TheVariants as targets
use Rattle.ltx_model.specs.Lists.{without_first}
use Rattle.ltx_model.specs.Answers.{commit, commit_in, commit_live, staged, IsLegalWith}
use Rattle.ltx_model.specs.Batches.{target, Refusal, ByLate, ByContradicts, Witness}
use Rattle.ltx_model.specs.Decisions.{Decision, CommitAt, WaitFor, RefuseAt, reply_to, IsDecision}
use Rattle.ltx_model.specs.Frames.{BatchEvent, event_of, writes_in}
use Rattle.ltx_model.specs.Histories.{closed, moved, committed, commit_move, committed_before, ended, to_active, reply_changes, state}
use Rattle.ltx_model.specs.Operations.{Transaction}
use Rattle.ltx_model.specs.Records.{AreRecordsOf}
use Rattle.ltx_model.specs.States.{Declaration, IsLive, Active, transaction_of, Base, IsSound, State, LiveBatch, is_of, active_of}
use Rattle.ltx_frame.specs.Events.{target_of}
use Rattle.ltx_laws.specs.Structure.{Structure}
use Rattle.ltx_laws.proofs.Structures.{structure_of}
use Rattle.ltx_open.specs.declared.stage.Declared.{Declared}
use Rattle.ltx_open.specs.declared.stage.Stage.TheVariants as stages
use Rattle.ltx_core.specs.Built.{built}
use Rattle.ltx_open.specs.Views.{OpenView, declaration}
use Rattle.ltx_core.specs.Views.{CoreView}
use Rattle.ltx_open.specs.Slots.{opened}
use Rattle.ltx_core.specs.Decided.{IsDecided, reply_at, HasCommittedAt}
use Rattle.ltx_core.specs.Stands.{areas_of, StandsAt}
use Rattle.ltx_core.specs.Logged.{IsLogged}
use Rattle.ltx_core.specs.Steps.{IsStep, Steps, Logs}
use Rattle.ltx_core.proofs.HomeAnswers.{commits_at}
use Rattle.ltx_core.proofs.LiveFound.{IsLiveAt, live_at}
use Rattle.ltx_core.proofs.LogSteps.{logged_after, logged_event}
use Rattle.ltx_core.proofs.StandsStill.{staged_is, leads}
use Rattle.ltx_core.proofs.CommittedBefore.{move_at, placed_stands}
use Rattle.ltx_core.proofs.DecidedReplies.{decided_reply}
use Rattle.ltx_core.proofs.PlacesDecided.{decided_place}

-- commits of live batches are answered
module _ (answered : (s : State) (session : ℕ) → built s (Good (commits_at session)) ≡ true) where
  -- the answer is the reply that the decision is
  decided_answer : (base : Base) (s : State) → Structure base s → (session : ℕ) (o : Active) (d : Declaration) (snapshot : List Transaction) → active_of s session ≡ Some o → o.kind ≡ IsLive d snapshot
      → (decision : Decision) → IsDecision s (record { tx = transaction_of o; declared = d; snapshot = snapshot }) decision → reply_to s decision ≡ staged built s (Good (commits_at session))
  decided_answer base s structure session o d snapshot is kind decision decided =
      let i : LiveBatch = record { tx = transaction_of o; declared = d; snapshot = snapshot } in
      let answer : commit s (active_of s session) ≡ commit_live s i (target s i) = ap (commit s) is ∙ ap (λ k. commit_in s k o) kind in
      sym (sym (staged_is s (commits_at session)) ∙ ap (λ b. if b then commit s (active_of s session) else replies.Later) (answered s session) ∙ answer ∙ decided_reply base s structure i decision decided)

  module _ (old : CoreView) (session : ℕ) (a : OpenView) (e : Declared) (mark : ℕ) (here : opened old.opens session ≡ Some a) (stage : a.stage ≡ stages.Live e mark) where
    -- it waits, and nothing changes
    pub commit_waiting : (k : ℕ) → IsDecided old session (WaitFor k) → Steps old (commits_at session) (replies.Waiting k) old
    commit_waiting k decided base history sound legal stands =
        let s : State = state base history in
        let x : IsLiveAt old session a e mark s = live_at old session a e mark s here stage stands in
        leads base history (Good (commits_at session)) (replies.Waiting k) (replies.Waiting k) old
        (decided_answer base s (structure_of built base history legal) session x.open_tx (declaration e) x.snapshot x.found x.kind (WaitFor k)
        (decided base history sound legal stands x.open_tx (declaration e) x.snapshot x.found x.kind)) refl stands

    -- it is refused, and ends
    module _ (new : CoreView) (ends : (base : Base) (history : List Entry) → IsSound base → IsLegalWith built base history → StandsAt old (state base history)
        → StandsAt new (to_active (state base history) (active_of (state base history) session) (λ u. ended (state base history) u session))) where
      refused_step : (p : ℕ) (refusal : Refusal) → IsDecided old session (RefuseAt p refusal) → (base : Base) (history : List Entry) → IsSound base → IsLegalWith built base history → StandsAt old (state base history)
          → (changes : reply_changes (state base history) (Good (commits_at session)) (reply_to (state base history) (RefuseAt p refusal)) ≡ to_active (state base history) (active_of (state base history) session) (λ u. ended (state base history) u session))
          → IsStep new base history (Good (commits_at session)) (reply_to (state base history) (RefuseAt p refusal))
      refused_step p refusal decided base history sound legal stands changes =
          let s : State = state base history in
          let x : IsLiveAt old session a e mark s = live_at old session a e mark s here stage stands in
          leads base history (Good (commits_at session)) (reply_to s (RefuseAt p refusal)) (reply_to s (RefuseAt p refusal)) new
          (decided_answer base s (structure_of built base history legal) session x.open_tx (declaration e) x.snapshot x.found x.kind (RefuseAt p refusal)
          (decided base history sound legal stands x.open_tx (declaration e) x.snapshot x.found x.kind)) refl
          (subst (StandsAt new) (sym changes) (ends base history sound legal stands))

      pub commit_late : (p : ℕ) (w : Witness) → IsDecided old session (RefuseAt p (ByLate w)) → Steps old (commits_at session) (replies.Late p w.op w.cell.table w.cell.key w.other) new
      commit_late p w decided base history sound legal stands = refused_step p (ByLate w) decided base history sound legal stands refl

      pub commit_contradicts : (p : ℕ) (w : Witness) → IsDecided old session (RefuseAt p (ByContradicts w)) → Steps old (commits_at session) (replies.Contradicts p w.op w.cell.table w.cell.key w.other) new
      commit_contradicts p w decided base history sound legal stands = refused_step p (ByContradicts w) decided base history sound legal stands refl

    -- it is committed at a place
    module _ (place : Target) (new : CoreView) (decided : IsDecided old session (CommitAt place)) (done : HasCommittedAt place old session a new)
        (kept : (base : Base) (s : State) → Structure base s → StandsAt old s → (x : IsLiveAt old session a e mark s)
        → IsDecision s (record { tx = transaction_of x.open_tx; declared = declaration e; snapshot = x.snapshot }) (CommitAt place)
        → AreRecordsOf (moved (closed s session) s.epoch (move_at place (transaction_of x.open_tx))) new.records × (new.areas ≡ areas_of (without_first (is_of session) s.active))) where
      reply_is : (s : State) (p : Target) → reply_at s.epoch p ≡ reply_to s (CommitAt p)
      reply_is s targets.Home = refl
      reply_is s (targets.Before p) = refl

      -- what the reply changes
      changed : (s : State) (o : Active) (d : Declaration) (snapshot : List Transaction) → active_of s session ≡ Some o → o.kind ≡ IsLive d snapshot → (p : Target)
          → moved (closed s session) s.epoch (move_at p (transaction_of o)) ≡ reply_changes s (Good (commits_at session)) (reply_to s (CommitAt p))
      changed s o d snapshot is kind targets.Home =
          sym (ap (λ f. to_active s f (λ u. committed s u session)) is ∙ ap (λ k. moved (closed s session) s.epoch (commit_move k (transaction_of o))) kind)
      changed s o d snapshot is kind (targets.Before p) =
          sym (ap (λ f. to_active s f (λ u. committed_before s p u.kind u session)) is ∙ ap (λ k. committed_before s p k o session) kind)

      pub commit_placed : (reply : Reply) → reply ≡ reply_at old.counters.epoch place → Steps old (commits_at session) reply new
      commit_placed reply says base history sound legal stands =
          let s : State = state base history in
          let structure : Structure base s = structure_of built base history legal in
          let x : IsLiveAt old session a e mark s = live_at old session a e mark s here stage stands in
          let d : IsDecision s (record { tx = transaction_of x.open_tx; declared = declaration e; snapshot = x.snapshot }) (CommitAt place) = decided base history sound legal stands x.open_tx (declaration e) x.snapshot x.found x.kind in
          let parts = kept base s structure stands x d in
          leads base history (Good (commits_at session)) (reply_to s (CommitAt place)) reply new
          (decided_answer base s structure session x.open_tx (declaration e) x.snapshot x.found x.kind (CommitAt place) d)
          (says ∙ ap (λ c. reply_at c.epoch place) stands.counters ∙ reply_is s place)
          (subst (StandsAt new) (changed s x.open_tx (declaration e) x.snapshot x.found x.kind place)
          (placed_stands old session a e mark base s sound structure stands x place
          (decided_place old session a e mark base s sound structure stands x (record { tx = transaction_of x.open_tx; declared = declaration e; snapshot = x.snapshot }) refl place d) new done parts.0 parts.1))

      -- its event is kept for the log
      event_is : (epoch : ℕ) (p : Target) (t : Transaction) → event_of epoch (move_at p t) ≡ Some (BatchEvent t.number epoch (target_of p) (writes_in t))
      event_is epoch targets.Home t = refl
      event_is epoch (targets.Before p) t = refl

      pub placed_logs : (reply : Reply) → reply ≡ reply_at old.counters.epoch place → Logs old (commits_at session) reply new
      placed_logs reply says base history sound legal stands =
          let s : State = state base history in
          let x : IsLiveAt old session a e mark s = live_at old session a e mark s here stage stands.at in
          let t : Transaction = transaction_of x.open_tx in
          let event : BatchEvent a.number old.counters.epoch (target_of place) a.own.writes ≡ BatchEvent t.number s.epoch (target_of place) (writes_in t) = λ i. BatchEvent (x.number i) (stands.at.counters i).epoch (target_of place) (x.own i) in
          logged_after new.log base history (Good (commits_at session)) (reply_to s (CommitAt place)) reply (says ∙ ap (λ c. reply_at c.epoch place) stands.at.counters ∙ reply_is s place)
          (subst (IsLogged new.log) (changed s x.open_tx (declaration e) x.snapshot x.found x.kind place)
          (logged_event old.log new.log s session (move_at place t) (BatchEvent a.number old.counters.epoch (target_of place) a.own.writes) (BatchEvent t.number s.epoch (target_of place) (writes_in t)) done.log event (event_is s.epoch place t) stands.logged))
