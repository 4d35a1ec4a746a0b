-- The agenda's moves on its numbers alone.
use Rattle.std.proofs.Common.{◌≡◌, ℕ, Bool, true, false, cond, not, List, [], ◌∷◌, ◌++◌, map, refl, sym, ap, ◌∙◌, subst}
use Rattle.ltx_model.specs.declared.commands.Line.{Line}
use Rattle.ltx_model.specs.declared.replies.Entry.{Entry}
use Rattle.ltx_model.specs.Listings.{without, numbers_of, list_after, list_from}
use Rattle.ltx_model.specs.Listings as numbers
use Rattle.ltx_model.specs.Agenda.{Member, LiveSlot, Committed, number_of, has_number, without_member, insert_before, Move, Slot, CommitShort, CommitHome, CommitBefore, Leave, Timed, agenda_after, agenda_from}
use Rattle.ltx_model.specs.States.{Base, IsSound, State}
use Rattle.ltx_model.specs.Histories.{state}
use Rattle.ltx_model.specs.Answers.{IsLegalWith}
use Rattle.ltx_model.specs.Explained.{IsDistinct}
use Rattle.ltx_lemmas.specs.Places.{AreApart}
use Rattle.ltx_lemmas.proofs.Members.{home_numbers}
use Rattle.ltx_laws.proofs.Structures.{structure_of}
use Rattle.ltx_laws.proofs.DropsHistories.{timely_of}
use Rattle.ltx_laws.proofs.DropsLists.{logged_all}

numbers_push : (ms : List Member) (x : Member) → map number_of (ms ++ x ∷ []) ≡ map number_of ms ++ number_of x ∷ []
numbers_push [] x = refl
numbers_push (m ∷ ms) x = ap (λ l. number_of m ∷ l) (numbers_push ms x)

numbers_without : (ms : List Member) (n : ℕ) → map number_of (without_member ms n) ≡ without (map number_of ms) n
numbers_without [] n = refl
numbers_without (m ∷ ms) n = by_test (has_number n m) (numbers_without ms n) where
  by_test : (b : Bool) → map number_of (without_member ms n) ≡ without (map number_of ms) n
      → map number_of (cond (not b) (m ∷ without_member ms n) (without_member ms n)) ≡ cond (not b) (number_of m ∷ without (map number_of ms) n) (without (map number_of ms) n)
  by_test true e = e
  by_test false e = ap (λ l. number_of m ∷ l) e

numbers_insert : (x : Member) (p : ℕ) (ms : List Member) → map number_of (insert_before x p ms) ≡ numbers.insert_before (number_of x) p (map number_of ms)
numbers_insert x p [] = refl
numbers_insert x p (m ∷ ms) = by_test (has_number p m) (numbers_insert x p ms) where
  by_test : (b : Bool) → map number_of (insert_before x p ms) ≡ numbers.insert_before (number_of x) p (map number_of ms)
      → map number_of (cond b (x ∷ m ∷ ms) (m ∷ insert_before x p ms)) ≡ cond b (number_of x ∷ number_of m ∷ map number_of ms) (number_of m ∷ numbers.insert_before (number_of x) p (map number_of ms))
  by_test true e = refl
  by_test false e = ap (λ l. number_of m ∷ l) e

pub numbers_after : (ms : List Member) (m : Move) → map number_of (agenda_after ms m) ≡ list_after (map number_of ms) m
numbers_after ms (Slot n) = numbers_push ms (LiveSlot n)
numbers_after ms (CommitShort t) = numbers_push ms (Committed t)
numbers_after ms (CommitHome t) = home_numbers t ms
numbers_after ms (CommitBefore t p) = numbers_insert (Committed t) p (without_member ms t.number) ∙ ap (numbers.insert_before t.number p) (numbers_without ms t.number)
numbers_after ms (Leave n) = numbers_without ms n

numbers_from : (ms : List Member) (moves : List Timed) → map number_of (agenda_from ms moves) ≡ list_from (map number_of ms) moves
numbers_from ms [] = refl
numbers_from ms (m ∷ moves) = numbers_from (agenda_after ms m.move) moves ∙ ap (λ l. list_from l moves) (numbers_after ms m.move)

pub numbers_given : (built : State → Line → Bool) (base : Base) (history : List Entry) → IsSound base → IsLegalWith built base history → numbers_of (state base history) ≡ list_from [] (state base history).moves
numbers_given built base history sound legal = ap (map number_of) (structure_of built base history legal).moves ∙ numbers_from [] (state base history).moves

pub numbers_apart : (built : State → Line → Bool) (base : Base) (history : List Entry) → IsSound base → IsLegalWith built base history → IsDistinct (numbers_of (state base history))
numbers_apart built base history sound legal =
    subst AreApart (sym (structure_of built base history legal).moves) (logged_all (state base history).moves (timely_of built base history legal).lawful).apart
