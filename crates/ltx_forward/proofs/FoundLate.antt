-- The notes of a batch tell the first late witness.
use Rattle.std.proofs.Common.{◌≡◌, ℕ, ◌+◌, true, List, length, Some, sym, ◌∙◌, subst, slice_get, false}
use Rattle.ltx_model.specs.declared.writes.Look.{Look}
use Rattle.ltx_model.specs.declared.writes.Write.{Write}
use Rattle.ltx_model.specs.declared.looked.Noted.{Noted}
use Rattle.std.specs.List.{AllByRecursion}
use Rattle.ltx_model.specs.Agenda.{is_member}
use Rattle.ltx_model.specs.Listings as listings
use Rattle.ltx_model.specs.States.{State, LiveBatch}
use Rattle.ltx_model.specs.Records.{Records}
use Rattle.ltx_model.specs.Batches.{is_from, IsTarget, Witness, IsLate, IsFirstLate}
use Rattle.ltx_agenda.specs.Placed.{Listed}
use Rattle.ltx_long.specs.Longs.{Long}
use Rattle.ltx_forward.specs.Asked.{IsAsked}
use Rattle.ltx_forward.specs.Earliest.{HasOrderedOwn}
use Rattle.ltx_forward.specs.Lates.{stands_from, late_look}
use Rattle.ltx_forward.specs.declared.decide.Live.{Live}
use Rattle.ltx_lemmas.proofs.Lists.{all_map}
use Rattle.ltx_forward.proofs.FromFloor.{from_target}
use Rattle.ltx_forward.proofs.LateNotes.{at, ArePassed}
use Rattle.ltx_forward.proofs.LateSteps.{none_late, first_late_is}
use Rattle.ltx_forward.proofs.Places.{listed_member}
use Rattle.ltx_forward.proofs.StandsFrom.{from_stands}

module _ (tx : Long) (agenda : Listed) (p : ℕ) (here : listings.is_member agenda.list p ≡ true) (s : State) (i : LiveBatch) (writes : List Write) (lives : List Live) (records : Records) (a : IsAsked s i tx writes lives records agenda) (t : IsTarget s i p) where
  -- no writer of a base's row is a member
  strangers : AllByRecursion (λ row. is_member s.agenda row.writer ≡ false) s.base
  strangers = all_map (λ row. listings.is_member agenda.list row.writer ≡ false) (λ row. is_member s.agenda row.writer ≡ false) (λ row e. sym (listed_member s.agenda agenda.list a.decidable.listed row.writer) ∙ e) s.base a.decidable.strangers

  within : (n : ℕ) → is_from s p n ≡ true → Rattle.ltx_model.specs.Batches.is_from_floor s n ≡ true
  within n e = from_target s i tx writes lives records agenda a p n t e

  passed_too : (k : ℕ) → ArePassed (stands_from agenda.list p) k tx.list.notes → ArePassed (is_from s p) k tx.list.notes
  passed_too k = subst (λ late. ArePassed late k tx.list.notes) (from_stands s i tx writes lives records agenda a p here)

  -- where no note has a late look, no key is late
  pub late_none : ArePassed (stands_from agenda.list p) (length tx.list.notes) tx.list.notes → (w : Witness) → IsLate s i p w → ⊥
  late_none passed = none_late s i p a.decidable.active a.decidable.tx strangers within tx.list.notes a.decidable.noted (passed_too (length tx.list.notes) passed)

  -- the first note that has one tells the first late witness
  pub late_first : (k : ℕ) (note : Noted) (look : Look) → ArePassed (stands_from agenda.list p) k tx.list.notes → slice_get tx.list.notes k ≡ Some note
      → (HasOrderedOwn note.reach → late_look (stands_from agenda.list p) note.reach ≡ Some look) → IsFirstLate s i p (record { op = k + 1; cell = at note.table look.key; other = look.writer })
  late_first k note look passed is found =
      first_late_is s i p a.decidable.active a.decidable.tx strangers within tx.list.notes a.decidable.noted k note look (passed_too k passed) is
      (subst (λ late. HasOrderedOwn note.reach → late_look late note.reach ≡ Some look) (from_stands s i tx writes lives records agenda a p here) found)
