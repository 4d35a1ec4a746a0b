-- A live batch has read in its area and written what it declared.
use Rattle.std.proofs.Common.{◌≡◌, Bool, true, false, None, refl, sym, subst, List, Contains}
use Rattle.std.specs.List.{AllByRecursion}
use Rattle.ltx_model.specs.declared.commands.Line.{Line}
use Rattle.ltx_model.specs.declared.commands.Op.{Op}
use Rattle.ltx_model.specs.declared.commands.Op.TheVariants.{Get, Scan, Put, Del}
use Rattle.ltx_model.specs.declared.replies.Entry.{Entry}
use Rattle.ltx_model.specs.declared.replies.Reply.{Reply}
use Rattle.ltx_model.specs.declared.replies.Reply.TheVariants as replies
use Rattle.ltx_model.specs.Tables.{has_table}
use Rattle.ltx_model.specs.Operations.{Answered, Transaction}
use Rattle.ltx_model.specs.States.{Declaration, Step, answered_of, Base, IsSound, State, LiveBatch, live_batches}
use Rattle.ltx_model.specs.Histories.{state}
use Rattle.ltx_model.specs.Answers.{unless_in, refusal, IsLegalWith}
use Rattle.ltx_lemmas.proofs.Lists.{all_map, all_mapped, none_some}
use Rattle.ltx_laws.specs.Areas.{IsInside}
use Rattle.ltx_laws.proofs.LiveStates.{structured, open_batch, batch_stands}

free : (b : Bool) (reply : Reply) → unless_in b reply ≡ None → b ≡ true
free true reply e = refl
free false reply e = absurd (none_some (sym e))

inside : (d : Declaration) (op : Op) → refusal d op ≡ None → IsInside d op
inside d (Get table key) e = free (has_table d.reads table) (replies.Outside table) e
inside d (Scan table low high) e = free (has_table d.reads table) (replies.Outside table) e
inside d (Put table key value) e = free (has_table d.writes table) (replies.NotPreserved table) e
inside d (Del table key) e = free (has_table d.writes table) (replies.NotPreserved table) e

pub live_inside : (built : State → Line → Bool) (base : Base) (history : List Entry) → IsSound base → IsLegalWith built base history
    → (b : LiveBatch) → Contains (live_batches (state base history)) b → AllByRecursion (λ a. IsInside b.declared a.op) b.tx.answered
live_inside built base history sound legal b live =
    let s : State = state base history in
    let at = open_batch s b live in
    let steps : AllByRecursion (λ (step : Step). IsInside b.declared step.op) at.active.steps
    = all_map (λ (step : Step). refusal b.declared step.op ≡ None) (λ (step : Step). IsInside b.declared step.op) (λ step. inside b.declared step.op) at.active.steps (batch_stands base s (structured built base history sound legal) b at).inside in
    subst (λ (t : Transaction). AllByRecursion (λ (a : Answered). IsInside b.declared a.op) t.answered) at.tx (all_mapped (λ (a : Answered). IsInside b.declared a.op) answered_of at.active.steps steps)
