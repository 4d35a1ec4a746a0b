-- The witnesses of shorts in the states of legal histories.
use Rattle.std.proofs.Common.{◌≡◌, ℕ, Bool, true, false, List, Some, None, subst, Contains}
use Rattle.std.specs.List.{AllByRecursion}
use Rattle.ltx_model.specs.declared.commands.Line.{Line}
use Rattle.ltx_model.specs.declared.commands.Op.{Op}
use Rattle.ltx_model.specs.declared.replies.Entry.{Entry}
use Rattle.ltx_model.specs.Keys.{IsRising}
use Rattle.ltx_model.specs.StoredRows.{cell_of}
use Rattle.ltx_model.specs.Agenda.{serial}
use Rattle.ltx_model.specs.Operations.{touches}
use Rattle.ltx_model.specs.States.{Kind, IsShort, Step, Active, Base, IsSound, State, latest, LiveBatch, live_batches}
use Rattle.ltx_model.specs.Histories.{state}
use Rattle.ltx_model.specs.Answers.{IsLegalWith}
use Rattle.ltx_model.specs.Shorts.{holds, holder, IsHeld, Held, held_table, IsLeastHeld, Change, Changes, IsFirstChange, first_change}
use Rattle.ltx_lemmas.proofs.Lists.{all_contains}
use Rattle.ltx_laws.proofs.LiveStates.{open_in_order}
use Rattle.ltx_laws.proofs.ReadsKept.{IsReadAs, IsRead}
use Rattle.ltx_laws.proofs.ExplainedHistories.{reads_of}
use Rattle.ltx_laws.proofs.WitnessHolders.{AreRising, live_rising, holder_held, held_holder, holder_none, held_least, least_held, held_nowhere}
use Rattle.ltx_lemmas.proofs.FirstChanges.{first_change_is, first_change_found, no_change}

pub rising_in : (built : State → Line → Bool) (base : Base) (history : List Entry) → IsSound base → IsLegalWith built base history → AreRising (live_batches (state base history))
rising_in built base history sound legal = live_rising (state base history) (open_in_order built base history sound legal).rising

short_rising : (base : List Rattle.ltx_model.specs.declared.rows.StoredRow.StoredRow) (ts : List Rattle.ltx_model.specs.Operations.Transaction) (kind : Kind) (n : ℕ) (steps : List Step) → kind ≡ IsShort → IsReadAs base ts kind n steps → AllByRecursion (λ (b : Step). IsRising cell_of b.latest) steps
short_rising base ts kind n steps is read = (subst (λ k. IsReadAs base ts k n steps) is read).rising

pub steps_rising : (built : State → Line → Bool) (base : Base) (history : List Entry) → IsSound base → IsLegalWith built base history → (o : Active) → Contains (state base history).active o → o.kind ≡ IsShort
    → AllByRecursion (λ (b : Step). IsRising cell_of b.latest) o.steps
steps_rising built base history sound legal o here is =
    short_rising base.rows (serial (state base history).agenda) o.kind o.number o.steps is
    (all_contains (IsRead base.rows (serial (state base history).agenda)) (state base history).active o (reads_of built base history sound legal).read here)

pub holder_given : (built : State → Line → Bool) (base : Base) (history : List Entry) → IsSound base → IsLegalWith built base history → (table n : ℕ) → holder (state base history) table ≡ Some n → IsHeld (state base history) table n
holder_given built base history sound legal = holder_held (state base history) (rising_in built base history sound legal)

pub holder_found : (built : State → Line → Bool) (base : Base) (history : List Entry) → IsSound base → IsLegalWith built base history → (table n : ℕ) → IsHeld (state base history) table n → holder (state base history) table ≡ Some n
holder_found built base history sound legal = held_holder (state base history) (rising_in built base history sound legal)

pub holder_nowhere : (built : State → Line → Bool) (base : Base) (history : List Entry) → IsSound base → IsLegalWith built base history → (table : ℕ) → holder (state base history) table ≡ None
    → (b : LiveBatch) → Contains (live_batches (state base history)) b → holds table b ≡ false
holder_nowhere built base history sound legal = holder_none (state base history)

pub least_given : (built : State → Line → Bool) (base : Base) (history : List Entry) → IsSound base → IsLegalWith built base history → (ops : List Op) (h : Held) → held_table (state base history) ops ≡ Some h → IsLeastHeld (state base history) ops h.table h.holder
least_given built base history sound legal = held_least (state base history) (rising_in built base history sound legal)

pub least_found : (built : State → Line → Bool) (base : Base) (history : List Entry) → IsSound base → IsLegalWith built base history → (ops : List Op) (table n : ℕ) → IsLeastHeld (state base history) ops table n
    → held_table (state base history) ops ≡ Some (record { table = table; holder = n })
least_found built base history sound legal = least_held (state base history) (rising_in built base history sound legal)

pub least_nowhere : (built : State → Line → Bool) (base : Base) (history : List Entry) → IsSound base → IsLegalWith built base history → (ops : List Op) → held_table (state base history) ops ≡ None
    → (table n : ℕ) → touches ops table ≡ true → IsHeld (state base history) table n → ⊥
least_nowhere built base history sound legal = held_nowhere (state base history)

pub change_given : (built : State → Line → Bool) (base : Base) (history : List Entry) → IsSound base → IsLegalWith built base history → (o : Active) → Contains (state base history).active o → o.kind ≡ IsShort
    → (c : Change) → first_change (latest (state base history)) o.steps ≡ Some c → IsFirstChange (latest (state base history)) o.steps c
change_given built base history sound legal o here is = first_change_is (latest (state base history)) o.steps (steps_rising built base history sound legal o here is)

pub change_found : (built : State → Line → Bool) (base : Base) (history : List Entry) → IsSound base → IsLegalWith built base history → (o : Active) → Contains (state base history).active o → o.kind ≡ IsShort
    → (c : Change) → IsFirstChange (latest (state base history)) o.steps c → first_change (latest (state base history)) o.steps ≡ Some c
change_found built base history sound legal o here is = first_change_found (latest (state base history)) o.steps (steps_rising built base history sound legal o here is)

pub change_nowhere : (built : State → Line → Bool) (base : Base) (history : List Entry) → IsSound base → IsLegalWith built base history → (o : Active) → Contains (state base history).active o → o.kind ≡ IsShort
    → first_change (latest (state base history)) o.steps ≡ None → (c : Change) → Changes (latest (state base history)) o.steps c → ⊥
change_nowhere built base history sound legal o here is = no_change (latest (state base history)) o.steps
