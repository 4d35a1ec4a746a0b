-- The commit of a session without an open transaction, and of one whose batch is pending: nothing changes.
use Rattle.std.proofs.Common.{◌≡◌, ℕ, Option, Some, None, option_map, refl, sym, ap, ◌∙◌, subst, inr}
use Rattle.ltx_model.specs.declared.replies.Reply.TheVariants as replies
use Rattle.ltx_model.specs.States.{IsPending, State, active_of}
use Rattle.ltx_model.specs.Histories.{state}
use Rattle.ltx_model.specs.Answers.{commit, commit_in}
use Rattle.ltx_lemmas.proofs.Lists.{some_same}
use Rattle.ltx_open.specs.declared.stage.Declared.{Declared}
use Rattle.ltx_open.specs.declared.stage.Stage.{Stage}
use Rattle.ltx_open.specs.declared.stage.Stage.TheVariants as stages
use Rattle.ltx_open.specs.Views.{OpenView, declaration}
use Rattle.ltx_core.specs.Views.{CoreView}
use Rattle.ltx_open.specs.Slots.{opened}
use Rattle.ltx_core.specs.Stands.{ground}
use Rattle.ltx_core.specs.Steps.{Steps, IsAnswered}
use Rattle.ltx_core.proofs.Ended.{none_open, some_open}
use Rattle.ltx_core.proofs.HomeAnswers.{commits_at}
use Rattle.ltx_core.proofs.LogSteps.{log_kept, calm_answered}
use Rattle.ltx_core.proofs.OpensKept.{as_pending}
use Rattle.ltx_core.proofs.StandsStill.{staged_is, stays, same_core}

commit_none : (old : CoreView) (session : ℕ) → opened old.opens session ≡ None → Steps old (commits_at session) replies.NoTx old
commit_none old session none base history sound legal stands =
    let s : State = state base history in
    let here : active_of s session ≡ None = none_open old session s stands none in
    stays old old (commits_at session) replies.NoTx base history (same_core old old refl) stands replies.NoTx
    (ap (commit s) (sym here) ∙ staged_is s (commits_at session)) refl refl

pub commit_none_from : (v w : CoreView) → v ≡ w → (session : ℕ) → opened v.opens session ≡ None → IsAnswered w (commits_at session) replies.NoTx w
commit_none_from v w same session none = subst (λ u. IsAnswered u (commits_at session) replies.NoTx u) same (calm_answered v (commits_at session) replies.NoTx v (commit_none v session none) (log_kept v.log) (inr tt))

-- the stages of a slot
slot_some : (o : Option OpenView) (stage : Stage) → option_map (λ (x : OpenView). x.stage) o ≡ Some stage → (a : OpenView) × (o ≡ Some a) × (a.stage ≡ stage)
slot_some None stage is = cc
slot_some (Some a) stage is = (a, refl, some_same is)

slot_none : (o : Option OpenView) → option_map (λ (x : OpenView). x.stage) o ≡ None → o ≡ None
slot_none None is = refl
slot_none (Some a) is = cc

pub stage_none_from : (v w : CoreView) → v ≡ w → (session : ℕ) → option_map (λ (x : OpenView). x.stage) (opened v.opens session) ≡ None → IsAnswered w (commits_at session) replies.NoTx w
stage_none_from v w same session none = commit_none_from v w same session (slot_none (opened v.opens session) none)

commit_pending : (old : CoreView) (session : ℕ) (a : OpenView) (e : Declared) → opened old.opens session ≡ Some a → a.stage ≡ stages.Pending e → Steps old (commits_at session) (replies.NotYet e.from) old
commit_pending old session a e here pending base history sound legal stands =
    let s : State = state base history in
    let found = some_open old session s stands a here in
    let kind : found.open_tx.kind ≡ IsPending (declaration e) = (as_pending (ground old s) found.open_tx.number found.open_tx.steps a found.open_tx.kind a.stage e pending found.is_open.kind).0 in
    let answer : commit s (active_of s session) ≡ replies.NotYet e.from = ap (commit s) found.found ∙ ap (λ k. commit_in s k found.open_tx) kind in
    stays old old (commits_at session) (replies.NotYet e.from) base history (same_core old old refl) stands (replies.NotYet e.from)
    (sym answer ∙ staged_is s (commits_at session)) refl refl

pub pending_from : (v w : CoreView) → v ≡ w → (session : ℕ) (e : Declared) → option_map (λ (x : OpenView). x.stage) (opened v.opens session) ≡ Some (stages.Pending e) → IsAnswered w (commits_at session) (replies.NotYet e.from) w
pending_from v w same session e is =
    let slot = slot_some (opened v.opens session) (stages.Pending e) is in
    subst (λ u. IsAnswered u (commits_at session) (replies.NotYet e.from) u) same (calm_answered v (commits_at session) (replies.NotYet e.from) v (commit_pending v session slot.0 e slot.1 slot.2) (log_kept v.log) (inr tt))
