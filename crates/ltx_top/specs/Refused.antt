-- The witnesses that refusals and waits print.
use Rattle.std.specs.Prelude.{◌≡◌, ℕ, Option, List, ◌∷◌, ◌++◌}
use Rattle.ltx_model.specs.declared.replies.Entry.{Entry}
use Rattle.ltx_model.specs.declared.replies.Reply.TheVariants as replies
use Rattle.ltx_model.specs.States.{Base}
use Rattle.ltx_model.specs.Histories.{state}
use Rattle.ltx_laws.specs.Refusals.{IsChangedAnswer, IsContradictsAnswer, IsLateAnswer, IsPreservedAnswer, IsWaitingAnswer}

-- Each refusal among the entries of a history prints a true witness, by the state before it: `preserved` a table that the short touches and
-- its least holder; `changed` the first look-up of the short that would be answered otherwise now; `late` and `contradicts` the batch's
-- target and the first witness there, and only where no batch that is overtaken is live. And each `waiting` names the live batch with a
-- smaller number for which the batch waits.
pub record HasTrueWitnesses (base : Base) (history : List Entry) : Type 0 where
  pub preserved : (before later : List Entry) (entry : Entry) → history ≡ before ++ entry ∷ later
      → (table n : ℕ) → entry.reply ≡ replies.Preserved table n
      → IsPreservedAnswer (state base before) entry table n
  pub changed : (before later : List Entry) (entry : Entry) → history ≡ before ++ entry ∷ later
      → (op table : ℕ) (key : List ℕ) (found current : Option ℕ) → entry.reply ≡ replies.Changed op table key found current
      → IsChangedAnswer (state base before) entry (record { op = op; cell = record { table = table; key = key }; found = found; current = current })
  pub late : (before later : List Entry) (entry : Entry) → history ≡ before ++ entry ∷ later
      → (target op table : ℕ) (key : List ℕ) (writer : ℕ) → entry.reply ≡ replies.Late target op table key writer
      → IsLateAnswer (state base before) entry target (record { op = op; cell = record { table = table; key = key }; other = writer })
  pub contradicts : (before later : List Entry) (entry : Entry) → history ≡ before ++ entry ∷ later
      → (target op table : ℕ) (key : List ℕ) (reader : ℕ) → entry.reply ≡ replies.Contradicts target op table key reader
      → IsContradictsAnswer (state base before) entry target (record { op = op; cell = record { table = table; key = key }; other = reader })
  pub waiting : (before later : List Entry) (entry : Entry) → history ≡ before ++ entry ∷ later
      → (k : ℕ) → entry.reply ≡ replies.Waiting k
      → IsWaitingAnswer (state base before) entry k
