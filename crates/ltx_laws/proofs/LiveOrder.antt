-- Live batches stand in the agenda in the order of their numbers.
use Rattle.std.proofs.Common.{◌≡◌, ◌≢◌, ◌<◌, Bool, true, false, List, sym, ap, ◌∙◌, subst, arith, Contains}
use Rattle.ltx_model.specs.declared.commands.Line.{Line}
use Rattle.ltx_model.specs.declared.replies.Entry.{Entry}
use Rattle.ltx_model.specs.Operations.{Transaction}
use Rattle.ltx_model.specs.Agenda.{Member, LiveSlot, Committed, number_of, has_number, is_member, part_before}
use Rattle.ltx_model.specs.States.{Active, Base, IsSound, State, LiveBatch, live_batches}
use Rattle.ltx_model.specs.Histories.{state}
use Rattle.ltx_model.specs.Answers.{IsLegalWith}
use Rattle.ltx_lemmas.proofs.Lists.{true_false, any_item, all_contains}
use Rattle.ltx_laws.specs.Structure.{is_forwarded, IsKnown, IsBefore, Structure}
use Rattle.ltx_laws.proofs.Pairs.{same_number}
use Rattle.ltx_laws.proofs.Places.{stands_first}
use Rattle.ltx_laws.proofs.LiveStates.{structured, open_batch, batch_stands}

module _ (base : Base) (s : State) (inv : Structure base s) where
  unforwarded : (b : LiveBatch) → Contains (live_batches s) b → is_forwarded s.moves b.tx.number ≡ false
  unforwarded b live =
      let at = any_item (has_number b.tx.number) s.agenda (batch_stands base s inv b (open_batch s b live)).member in
      by_member at.0 (all_contains (IsKnown s.active s.moves) s.agenda at.0 inv.members.known at.1) (same_number (number_of at.0) b.tx.number at.2) where
        by_member : (m : Member) → IsKnown s.active s.moves m → number_of m ≡ b.tx.number → is_forwarded s.moves b.tx.number ≡ false
        by_member (LiveSlot n) known same = subst (λ k. is_forwarded s.moves k ≡ false) same known.unforwarded
        by_member (Committed t) known same =
            let h = open_batch s b live in
            absurd (all_contains (λ (u : Active). u.number ≢ t.number) s.active h.active known h.here (ap (λ (x : Transaction). x.number) h.tx ∙ sym same))

  in_order : (a b : LiveBatch) → Contains (live_batches s) a → Contains (live_batches s) b → a.tx.number < b.tx.number → is_member (part_before b.tx.number s.agenda) a.tx.number ≡ true
  in_order a b here there less =
      let one = batch_stands base s inv a (open_batch s a here) in
      let two = batch_stands base s inv b (open_batch s b there) in
      stands_first (IsBefore s.moves) a.tx.number b.tx.number s.agenda inv.order one.member two.member
      (λ h. true_false (sym (h.elder two.slotted one.slotted less) ∙ unforwarded b there)) (λ same. let no : ⊥ = omega arith in no)

pub live_in_order : (built : State → Line → Bool) (base : Base) (history : List Entry) → IsSound base → IsLegalWith built base history
    → (a b : LiveBatch) → Contains (live_batches (state base history)) a → Contains (live_batches (state base history)) b → a.tx.number < b.tx.number
    → is_member (part_before b.tx.number (state base history).agenda) a.tx.number ≡ true
live_in_order built base history sound legal = in_order base (state base history) (structured built base history sound legal)
