-- Held tables that a short touched, by its notes.
use Rattle.std.proofs.Common.{◌≡◌, ℕ, ◌+◌, ◌<◌, ◌≤◌, Bool, true, false, nat_le, ◌||◌, ◌==◌, List, [], ◌∷◌, ◌++◌, Option, Some, None, refl, sym, ap, ◌∙◌, subst, arith}
use Rattle.std.specs.List.{list_any, AllByRecursion}
use Rattle.std.proofs.lemmas.Bool.{eqb-true, leb-true, leb-false, both_ways}
use Rattle.ltx_model.specs.declared.looked.Noted.{Noted}
use Rattle.ltx_model.specs.declared.rows.StoredRow.{StoredRow}
use Rattle.ltx_model.specs.Holders.{Holder, IsHeldBy, holds_table}
use Rattle.ltx_model.specs.Lists.{numbered_from}
use Rattle.ltx_model.specs.NoteLists.{is_of_table}
use Rattle.ltx_model.specs.Notes.{AreNotesOf, AreNotes}
use Rattle.ltx_model.specs.Operations.{touches}
use Rattle.ltx_model.specs.States.{Step}
use Rattle.ltx_model.specs.Tables.{has_table}
use Rattle.ltx_model.specs.Verdicts.{Verdict, Passes, RefusedAsHeld, RefusedAsChanged, ops_of, AreUnheld, IsLeastHeldOf, IsVerdict}
use Rattle.ltx_preserve.specs.Kept.{IsLeastHeldIn}
use Rattle.ltx_validate.specs.Verdicts.{AreHolders, nobody}

-- steps touch the tables of their notes
touched_from : (n : ℕ) (earlier steps : List Step) (notes : List Noted) (t : ℕ) → AreNotesOf (numbered_from n earlier steps) notes → touches (ops_of steps) t ≡ list_any (is_of_table t) notes
touched_from n earlier [] [] t are = refl
touched_from n earlier [] (note ∷ notes) t are = absurd are
touched_from n earlier (s ∷ steps) [] t are = absurd are
touched_from n earlier (s ∷ steps) (note ∷ notes) t are =
    (λ i. (sym are.0.table i == t) || touched_from (n + 1) (earlier ++ s ∷ []) steps notes t are.1 i)

-- a touched table is one of those that there are
within_all : (notes : List Noted) (t : ℕ) → AllByRecursion (λ note. note.table < 64) notes → list_any (is_of_table t) notes ≡ true → t < 64
within_all [] t all is = cc
within_all (note ∷ notes) t all is = by_test (note.table == t) refl is (within_all notes t all.1) where
  by_test : (b : Bool) → (note.table == t) ≡ b → (b || list_any (is_of_table t) notes) ≡ true → (list_any (is_of_table t) notes ≡ true → t < 64) → t < 64
  by_test true here e rest = subst (λ m. m < 64) (eqb-true note.table t here) all.0
  by_test false apart e rest = rest e

-- a table has one least holder, or none
not_both : (hs : List Holder) (t n : ℕ) → IsHeldBy hs t (Some n) → IsHeldBy hs t None → ⊥
not_both hs t n held none = both_ways (holds_table t held.holder) (none held.holder held.here) held.holds

one_least : (hs : List Holder) (t n m : ℕ) → IsHeldBy hs t (Some n) → IsHeldBy hs t (Some m) → m ≡ n
one_least hs t n m a b =
    let below : n ≤ m = subst (λ k. n ≤ k) b.number (a.least b.holder b.here b.holds) in
    let above : m ≤ n = subst (λ k. m ≤ k) a.number (b.least a.holder a.here a.holds) in
    omega (arith, below, above)

module _ (hs : List Holder) (notes : List Noted) (tables : ℕ) (members : (t : ℕ) → t < 64 → has_table tables t ≡ list_any (is_of_table t) notes) (within : AllByRecursion (λ note. note.table < 64) notes)
    (steps : List Step) (are : AreNotes steps notes) (holder : ℕ → Option ℕ) (holders : AreHolders hs holder) where
  touches_is : (t : ℕ) → touches (ops_of steps) t ≡ list_any (is_of_table t) notes
  touches_is t = touched_from 1 [] steps notes t are

  touched_within : (t : ℕ) → touches (ops_of steps) t ≡ true → t < 64
  touched_within t is = within_all notes t within (sym (touches_is t) ∙ is)

  in_set : (t : ℕ) → touches (ops_of steps) t ≡ true → has_table tables t ≡ true
  in_set t is = members t (touched_within t is) ∙ sym (touches_is t) ∙ is

  holder_is : (t n : ℕ) → IsHeldBy hs t (Some n) → (o : Option ℕ) → IsHeldBy hs t o → o ≡ Some n
  holder_is t n held None none = absurd (not_both hs t n held none)
  holder_is t n held (Some m) other = ap Some (one_least hs t n m held other)

  unheld_at : (t : ℕ) → touches (ops_of steps) t ≡ true → IsHeldBy hs t None → (n : ℕ) → holder t ≡ Some n → ⊥
  unheld_at t is none n e = not_both hs t n (subst (IsHeldBy hs t) e (holders t (touched_within t is))) none

  pub unheld : ((t : ℕ) → t < 64 → has_table tables t ≡ true → IsHeldBy hs t None) → AreUnheld holder steps
  unheld none t n is e = unheld_at t is (none t (touched_within t is) (in_set t is)) n e

  pub least_held : (table n : ℕ) → IsLeastHeldIn hs tables table n → IsLeastHeldOf holder steps (record { table = table; holder = n })
  least_held table n l = record {
    touched = touches_is table ∙ sym (members table l.within) ∙ l.has;
    held = holder_is table n l.held (holder table) (holders table l.within);
    least = λ t m is e. by_order t m is e (nat_le table t) refl;
  } where
    by_order : (t m : ℕ) → touches (ops_of steps) t ≡ true → holder t ≡ Some m → (b : Bool) → nat_le table t ≡ b → table ≤ t
    by_order t m is e true le = leb-true table t le
    by_order t m is e false above = absurd (unheld_at t is (l.least t (leb-false table t above) (in_set t is)) m e)

-- where no touched table is held, the verdict is that of nobody holding one
pub judged : (holder : ℕ → Option ℕ) (now : List StoredRow) (steps : List Step) (v : Verdict) → AreUnheld holder steps → IsVerdict nobody now steps v → IsVerdict holder now steps v
judged holder now steps Passes free is = (free, is.1)
judged holder now steps (RefusedAsHeld h) free is = cc
judged holder now steps (RefusedAsChanged c) free is = (free, is.1)
