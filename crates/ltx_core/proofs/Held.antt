-- Who holds a table in a state, by the batches that a core has entered; and the answer to the commit of a short, by its verdict.
use Rattle.std.proofs.Common.{◌≡◌, ℕ, Bool, true, false, List, Option, Some, None, Contains, refl, sym, ap, ◌∙◌, subst}
use Rattle.std.specs.List.{AllByRecursion}
use Rattle.ltx_model.specs.Keys.{IsRising}
use Rattle.ltx_model.specs.StoredRows.{cell_of}
use Rattle.ltx_model.specs.Holders.{Holder, holds_table, IsHeldBy, holders_of}
use Rattle.ltx_model.specs.States.{Step, Active, Base, State, latest}
use Rattle.ltx_model.specs.Shorts.{Held, Change, Changes, holder, held_table, first_change}
use Rattle.ltx_model.specs.Verdicts.{Verdict, Passes, RefusedAsHeld, RefusedAsChanged, ops_of, AreUnheld, IsVerdict, by_held, by_change, verdict, reply_by}
use Rattle.ltx_model.specs.Answers.{commit_short}
use Rattle.ltx_model.proofs.Decided.{commit_is_verdict}
use Rattle.ltx_lemmas.proofs.FirstChanges.{first_change_is, first_change_found}
use Rattle.ltx_lemmas.proofs.Lists.{true_false}
use Rattle.ltx_laws.proofs.HolderStates.{batch_of, held_is_least}
use Rattle.ltx_laws.proofs.WitnessHolders.{live_rising, holder_held, holder_none, held_holder, least_held, held_least}
use Rattle.ltx_laws.specs.Structure.{Structure}
use Rattle.ltx_validate.specs.Verdicts.{AreHolders}

module _ (base : Base) (s : State) (structure : Structure base s) where
  -- the least holder of a table is the state's
  pub holder_of_table : (table : ℕ) → IsHeldBy (holders_of s) table (holder s table)
  holder_of_table table = by_holder (holder s table) refl where
    by_holder : (o : Option ℕ) → holder s table ≡ o → IsHeldBy (holders_of s) table o
    by_holder (Some n) is = held_is_least s table n (holder_held s (live_rising s structure.opens.rising) table n is)
    by_holder None is = λ h here. by_test h here (holds_table table h) refl where
      by_test : (h : Holder) → Contains (holders_of s) h → (b : Bool) → holds_table table h ≡ b → b ≡ false
      by_test h here false e = refl
      by_test h here true e = let b = batch_of s table h here e in absurd (true_false (sym b.declared ∙ holder_none s table is b.batch b.live))

  pub are_holders : (holders : List Holder) → holders ≡ holders_of s → AreHolders holders (holder s)
  are_holders holders is table below = subst (λ hs. IsHeldBy hs table (holder s table)) (sym is) (holder_of_table table)

  no_held : (steps : List Step) → AreUnheld (holder s) steps → held_table s (ops_of steps) ≡ None
  no_held steps free = by_found (held_table s (ops_of steps)) refl where
    by_found : (o : Option Held) → held_table s (ops_of steps) ≡ o → o ≡ None
    by_found None e = refl
    by_found (Some h) e = let l = held_least s (live_rising s structure.opens.rising) (ops_of steps) h e in absurd (free h.table h.holder l.touched (held_holder s (live_rising s structure.opens.rising) h.table h.holder l.held))

  no_change : (steps : List Step) → AllByRecursion (λ (b : Step). IsRising cell_of b.latest) steps → ((c : Change) → Changes (latest s) steps c → ⊥) → first_change (latest s) steps ≡ None
  no_change steps rising none = by_found (first_change (latest s) steps) refl where
    by_found : (o : Option Change) → first_change (latest s) steps ≡ o → o ≡ None
    by_found None e = refl
    by_found (Some c) e = absurd (none c (first_change_is (latest s) steps rising c e).changes)

  -- a verdict is that of the definitions
  pub verdict_is : (steps : List Step) → AllByRecursion (λ (b : Step). IsRising cell_of b.latest) steps → (v : Verdict) → IsVerdict (holder s) (latest s) steps v → verdict (holder s) (latest s) steps ≡ v
  verdict_is steps rising Passes is = ap (λ h. by_held h (first_change (latest s) steps)) (no_held steps is.0) ∙ ap by_change (no_change steps rising is.1)
  verdict_is steps rising (RefusedAsHeld h) is =
      ap (λ o. by_held o (first_change (latest s) steps)) (least_held s (live_rising s structure.opens.rising) (ops_of steps) h.table h.holder (record {
        touched = is.touched;
        held = holder_held s (live_rising s structure.opens.rising) h.table h.holder is.held;
        least = λ other m touched held. is.least other m touched (held_holder s (live_rising s structure.opens.rising) other m held);
      }))
  verdict_is steps rising (RefusedAsChanged c) is =
      ap (λ h. by_held h (first_change (latest s) steps)) (no_held steps is.0) ∙ ap by_change (first_change_found (latest s) steps rising c is.1)

  -- and the answer to a short's commit is its reply
  pub replied_by : (o : Active) → AllByRecursion (λ (b : Step). IsRising cell_of b.latest) o.steps → (v : Verdict) → IsVerdict (holder s) (latest s) o.steps v → commit_short s (held_table s (ops_of o.steps)) o ≡ reply_by s v
  replied_by o rising v is = commit_is_verdict s o ∙ ap (reply_by s) (verdict_is o.steps rising v is)
