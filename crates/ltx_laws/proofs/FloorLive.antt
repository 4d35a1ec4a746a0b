-- There is a floor exactly while a batch is live.
use Rattle.std.proofs.Common.{◌≡◌, ◌≢◌, ℕ, Bool, true, ◌==◌, List, [], Option, Some, None, option_map, refl, sym, ap, ◌∙◌, subst, Contains}
use Rattle.std.specs.List.{find, list_any}
use Rattle.ltx_model.specs.declared.commands.Line.{Line}
use Rattle.ltx_model.specs.declared.replies.Entry.{Entry}
use Rattle.ltx_model.specs.Operations.{Transaction}
use Rattle.ltx_model.specs.Agenda.{Member, LiveSlot, Committed, number_of, has_number, commits_after}
use Rattle.ltx_model.specs.States.{Kind, IsShort, IsPending, IsLive, Active, Base, IsSound, State, LiveBatch, live_batches}
use Rattle.ltx_model.specs.Histories.{state}
use Rattle.ltx_model.specs.Batches.{counts_for_floor, floor}
use Rattle.ltx_model.specs.Answers.{IsLegalWith}
use Rattle.ltx_laws.specs.Structure.{if_live, is_live_as, IsKnown, Structure}
use Rattle.ltx_lemmas.proofs.Lists.{true_false, none_some, any_item, all_contains, contains_none, find_contains, find_passes, find_not}
use Rattle.ltx_laws.proofs.Pairs.{same_number}
use Rattle.ltx_laws.proofs.Spared.{live_here}
use Rattle.ltx_laws.proofs.Transitions.{live_of}
use Rattle.ltx_laws.proofs.LiveStates.{structured, open_batch, batch_stands}

module _ (base : Base) (s : State) (inv : Structure base s) where
  -- an open transaction that is live is a live batch
  none_lives : live_batches s ≡ [] → (o : Active) → Contains s.active o → (k : Kind) → o.kind ≡ k → (b : Bool) → if_live k b ≡ true → ⊥
  none_lives none o here IsShort kind b e = true_false (sym e)
  none_lives none o here (IsPending d) kind b e = true_false (sym e)
  none_lives none o here (IsLive d snapshot) kind b e = contains_none (live_of o d snapshot) (subst (λ l. Contains l (live_of o d snapshot)) none (live_here s o d snapshot here kind))

  -- the member at the floor
  at_floor : live_batches s ≡ [] → (m : Member) → IsKnown s.active s.moves m → counts_for_floor s m ≡ true → ⊥
  at_floor none (LiveSlot n) known e = let found = any_item (is_live_as n) s.active known.live in none_lives none found.0 found.1 found.0.kind refl (found.0.number == n) found.2
  at_floor none (Committed t) known e = true_false (sym e ∙ ap (list_any (λ (b : LiveBatch). commits_after s.moves b.tx.number t.number)) none)

  floor_lives : (f : ℕ) → floor s ≡ Some f → live_batches s ≡ [] → ⊥
  floor_lives f is none = by_find (find (counts_for_floor s) s.agenda) refl is where
    by_find : (o : Option Member) → find (counts_for_floor s) s.agenda ≡ o → option_map number_of o ≡ Some f → ⊥
    by_find None e h = none_some h
    by_find (Some m) e h = at_floor none m (all_contains (IsKnown s.active s.moves) s.agenda m inv.members.known (find_contains (counts_for_floor s) s.agenda m e)) (find_passes (counts_for_floor s) s.agenda m e)

  -- the slot of a live batch counts
  live_counts : (b : LiveBatch) → Contains (live_batches s) b → (m : Member) → IsKnown s.active s.moves m → number_of m ≡ b.tx.number → counts_for_floor s m ≡ true
  live_counts b live (LiveSlot n) known same = refl
  live_counts b live (Committed t) known same =
      let h = open_batch s b live in
      absurd (all_contains (λ (u : Active). u.number ≢ t.number) s.active h.active known h.here (ap (λ (x : Transaction). x.number) h.tx ∙ sym same))

  pub lives_floor : floor s ≡ None → (b : LiveBatch) → Contains (live_batches s) b → ⊥
  lives_floor is b live = by_find (find (counts_for_floor s) s.agenda) refl is where
    slot : (m : Member) × Contains s.agenda m × (has_number b.tx.number m ≡ true)
    slot = any_item (has_number b.tx.number) s.agenda (batch_stands base s inv b (open_batch s b live)).member

    by_find : (o : Option Member) → find (counts_for_floor s) s.agenda ≡ o → option_map number_of o ≡ None → ⊥
    by_find (Some m) e h = none_some (sym h)
    by_find None e h =
        let counts : counts_for_floor s slot.0 ≡ true = live_counts b live slot.0 (all_contains (IsKnown s.active s.moves) s.agenda slot.0 inv.members.known slot.1) (same_number (number_of slot.0) b.tx.number slot.2) in
        true_false (sym counts ∙ find_not (counts_for_floor s) s.agenda slot.0 e slot.1)

module _ (built : State → Line → Bool) (base : Base) (history : List Entry) (sound : IsSound base) (legal : IsLegalWith built base history) where
  pub floor_given : (f : ℕ) → floor (state base history) ≡ Some f → live_batches (state base history) ≡ [] → ⊥
  floor_given = floor_lives base (state base history) (structured built base history sound legal)

  pub floor_nowhere : floor (state base history) ≡ None → (b : LiveBatch) → Contains (live_batches (state base history)) b → ⊥
  floor_nowhere = lives_floor base (state base history) (structured built base history sound legal)
