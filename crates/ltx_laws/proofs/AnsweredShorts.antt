-- What an open short is answered, by the relations.
use Rattle.std.proofs.Common.{◌≡◌, inl, inr, ℕ, Bool, true, false, List, [], ◌∷◌, ◌++◌, Option, Some, None, refl, ap, ◌∙◌, if◌then◌else◌, Contains}
use Rattle.ltx_model.specs.declared.commands.Op.{Op}
use Rattle.ltx_model.specs.declared.commands.Verb.TheVariants as verbs
use Rattle.ltx_model.specs.declared.commands.Line.{Line}
use Rattle.ltx_model.specs.declared.replies.Entry.{Entry}
use Rattle.ltx_model.specs.declared.replies.Reply.{Reply}
use Rattle.ltx_model.specs.declared.replies.Reply.TheVariants as replies
use Rattle.ltx_model.specs.Operations.{operations, table_of, touches}
use Rattle.ltx_model.specs.States.{IsShort, Active, transaction_of, Base, IsSound, State, is_of, active_of, latest}
use Rattle.ltx_model.specs.Histories.{state}
use Rattle.ltx_model.specs.Shorts.{IsHeld, Held, held_table, IsLeastHeld, holder, Change, Changes, IsFirstChange, first_change}
use Rattle.ltx_model.specs.Answers.{answer, staged, operation_of_short, commit_short, checked, IsLegalWith}
use Rattle.ltx_lemmas.proofs.Lists.{find_contains}
use Rattle.ltx_laws.specs.Priority.{AsksCommit}
use Rattle.ltx_laws.specs.Answered.{AsksOperation, IsAnswered}
use Rattle.ltx_laws.proofs.Transitions.{asks}
use Rattle.ltx_laws.proofs.WitnessStates.{holder_found, least_given, least_found, change_given, change_found}
use Rattle.ltx_laws.proofs.PlacesByCommit.{before_legal, entry_is}

answer_operation : (s : State) (session : ℕ) (o : Active) (op : Op) → active_of s session ≡ Some o → o.kind ≡ IsShort → answer s (asks session (verbs.Do op)) ≡ operation_of_short s (holder s (table_of op)) (transaction_of o) op
unfolding answer
answer_operation s session o op is kind = rw is (rw kind refl)

answer_short : (s : State) (session : ℕ) (o : Active) → active_of s session ≡ Some o → o.kind ≡ IsShort → answer s (asks session verbs.Commit) ≡ commit_short s (held_table s (operations (transaction_of o))) o
unfolding answer
answer_short s session o is kind = rw is (rw kind refl)

-- the reply of a legal entry whose line has this answer
pub answered_by : (built : State → Line → Bool) (s : State) (entry : Entry) (line : Line) (reply : Reply) → entry.reply ≡ staged built s entry.line → entry.line ≡ line → answer s line ≡ reply → IsAnswered built s entry reply
answered_by built s entry line reply is asked e = by_built (built s entry.line) refl is where
  by_built : (b : Bool) → built s entry.line ≡ b → entry.reply ≡ (if b then answer s entry.line else replies.Later) → IsAnswered built s entry reply
  by_built true f h = inl (h ∙ ap (answer s) asked ∙ e)
  by_built false f h = inr (f, h)

module _ (built : State → Line → Bool) (base : Base) (history : List Entry) (entry : Entry) (sound : IsSound base) (legal : IsLegalWith built base (history ++ entry ∷ [])) (o : Active) where
  abbrev s : State
  s = state base history

  before : IsLegalWith built base history
  before = before_legal built base history [] entry sound legal

  pub operation_answered : (op : Op) → AsksOperation s entry o op → o.kind ≡ IsShort → (n : ℕ) → IsHeld s (table_of op) n → IsAnswered built s entry (replies.Preserved (table_of op) n)
  operation_answered op a kind n held =
      answered_by built s entry (asks a.session (verbs.Do op)) (replies.Preserved (table_of op) n) (entry_is built base history [] entry sound legal) a.line
      (answer_operation s a.session o op a.opened kind ∙ ap (λ h. operation_of_short s h (transaction_of o) op) (holder_found built base history sound before (table_of op) n held))

  module _ (a : AsksCommit s entry o) (kind : o.kind ≡ IsShort) where
    here : Contains s.active o
    here = find_contains (is_of a.session) s.active o a.opened

    by_answer : (reply : Reply) → commit_short s (held_table s (operations (transaction_of o))) o ≡ reply → IsAnswered built s entry reply
    by_answer reply e = answered_by built s entry (asks a.session verbs.Commit) reply (entry_is built base history [] entry sound legal) a.line (answer_short s a.session o a.opened kind ∙ e)

    pub held_answered : (table n : ℕ) → IsLeastHeld s (operations (transaction_of o)) table n → IsAnswered built s entry (replies.Preserved table n)
    held_answered table n held = by_answer (replies.Preserved table n) (ap (λ h. commit_short s h o) (least_found built base history sound before (operations (transaction_of o)) table n held))

    module _ (free : (table n : ℕ) → touches (operations (transaction_of o)) table ≡ true → IsHeld s table n → ⊥) where
      unheld : held_table s (operations (transaction_of o)) ≡ None
      unheld = by_held (held_table s (operations (transaction_of o))) refl where
        by_held : (h : Option Held) → held_table s (operations (transaction_of o)) ≡ h → h ≡ None
        by_held None e = refl
        by_held (Some h) e = let g = least_given built base history sound before (operations (transaction_of o)) h e in absurd (free h.table h.holder g.touched g.held)

      by_change : (reply : Reply) (c : Option Change) → first_change (latest s) o.steps ≡ c → checked s c ≡ reply → IsAnswered built s entry reply
      by_change reply c e is = by_answer reply (ap (λ h. commit_short s h o) unheld ∙ ap (checked s) e ∙ is)

      pub changed_answered : (c : Change) → IsFirstChange (latest s) o.steps c → IsAnswered built s entry (replies.Changed c.op c.cell.table c.cell.key c.found c.current)
      changed_answered c first = by_change (replies.Changed c.op c.cell.table c.cell.key c.found c.current) (Some c) (change_found built base history sound before o here kind c first) refl

      pub committed_answered : ((c : Change) → Changes (latest s) o.steps c → ⊥) → IsAnswered built s entry (replies.Committed s.epoch)
      committed_answered none = by_first (first_change (latest s) o.steps) refl where
        by_first : (c : Option Change) → first_change (latest s) o.steps ≡ c → IsAnswered built s entry (replies.Committed s.epoch)
        by_first None e = by_change (replies.Committed s.epoch) None e refl
        by_first (Some c) e = absurd (none c (change_given built base history sound before o here kind c e).changes)
