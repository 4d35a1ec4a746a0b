-- The slot of a live batch after one move more.
use Rattle.std.proofs.Common.{◌≡◌, ℕ, Bool, true, false, ◌||◌, List, ◌∷◌, ◌++◌, append_assoc, refl, ap, ◌∙◌}
use Rattle.std.specs.List.{list_any}
use Rattle.ltx_model.specs.Agenda.{Timed, is_slot, has_slot, moves_since}
use Rattle.ltx_model.specs.Marks.{IsMarkOfSlot}
use Rattle.ltx_lemmas.proofs.Lists.{any_append, any_contains, contains_here, contains_back}
use Rattle.ltx_laws.proofs.Agendas.{since_more}
use Rattle.ltx_core.specs.Since.{is_batch_commit, has_batch_since}

-- or nothing
pub or_false : (b : Bool) → (b || false) ≡ b
or_false true = refl
or_false false = refl

-- its mark stays
pub slot_later : (moves more : List Timed) (n mark : ℕ) → IsMarkOfSlot moves n mark → IsMarkOfSlot (moves ++ more) n mark
slot_later moves more n mark at = record {
  front = at.front;
  slot = at.slot;
  back = at.back ++ more;
  parts = ap (λ l. l ++ more) at.parts ∙ append_assoc at.front (at.slot ∷ at.back) more;
  is = at.is;
  first = at.first;
  mark_is = at.mark_is;
}

pub has_slot_by_mark : (moves : List Timed) (n mark : ℕ) → IsMarkOfSlot moves n mark → has_slot moves n ≡ true
has_slot_by_mark moves n mark at =
    ap (λ l. has_slot l n) at.parts ∙ any_contains (λ m. is_slot n m.move) (at.front ++ at.slot ∷ at.back) at.slot (contains_back at.front (at.slot ∷ at.back) at.slot (contains_here at.slot at.back)) at.is

-- whether a batch committed since
pub since_later : (moves more : List Timed) (n mark : ℕ) → IsMarkOfSlot moves n mark → has_batch_since (moves ++ more) n ≡ (has_batch_since moves n || list_any (λ m. is_batch_commit m.move) more)
since_later moves more n mark at =
    ap (list_any (λ m. is_batch_commit m.move)) (since_more n moves more (has_slot_by_mark moves n mark at)) ∙ any_append (λ m. is_batch_commit m.move) (moves_since n moves) more
