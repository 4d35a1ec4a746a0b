-- The target of a live batch stands before it in the agenda.
use Rattle.std.proofs.Common.{◌≡◌, ◌≢◌, ℕ, ◌<◌, true, false, ◌&&◌, ◌==◌, Option, Some, None, option_map, refl, sym, ◌∙◌, subst, eq-eqb, ltb-true, nat_lt, arith, Contains}
use Rattle.std.specs.List.{find, list_any}
use Rattle.ltx_model.specs.Tables.{has_table}
use Rattle.ltx_model.specs.Operations.{table_of, looks_into_table}
use Rattle.ltx_model.specs.Agenda.{Member, LiveSlot, Committed, number_of, has_number, is_member, part_before, commits_after, has_slot}
use Rattle.ltx_model.specs.States.{Base, State, LiveBatch, live_batches}
use Rattle.ltx_model.specs.Batches.{batch_operations, committed_ahead, writes_what_looks, preserves_what_looks, overtakes, target}
use Rattle.ltx_laws.specs.Structure.{is_forwarded, IsKnown, IsBefore, Structure}
use Rattle.ltx_lemmas.proofs.Lists.{any_contains, any_item, all_find, find_contains, find_passes, some_same, none_some, true_false}
use Rattle.ltx_laws.proofs.Pairs.{same_number}
use Rattle.ltx_laws.proofs.Places.{and_left, and_right, stands_first}

-- the member that a target is
pub target_found : (s : State) (i : LiveBatch) (p : ℕ) → target s i ≡ Some p → (m : Member) × (find (overtakes s i) s.agenda ≡ Some m) × (number_of m ≡ p)
unfolding target
target_found s i p e = by_find (find (overtakes s i) s.agenda) refl e where
  by_find : (f : Option Member) → find (overtakes s i) s.agenda ≡ f → option_map number_of f ≡ Some p → (m : Member) × (find (overtakes s i) s.agenda ≡ Some m) × (number_of m ≡ p)
  by_find None is e = absurd (none_some e)
  by_find (Some m) is e = (m, is, some_same e)

pub target_none : (s : State) (i : LiveBatch) → target s i ≡ None → find (overtakes s i) s.agenda ≡ None
unfolding target
target_none s i e = by_find (find (overtakes s i) s.agenda) refl e where
  by_find : (f : Option Member) → find (overtakes s i) s.agenda ≡ f → option_map number_of f ≡ None → find (overtakes s i) s.agenda ≡ None
  by_find None is e = is
  by_find (Some m) is e = absurd (none_some (sym e))

-- a live batch that i overtakes has a smaller number
pub overtaken_smaller : (s : State) (i : LiveBatch) (j : ℕ) → overtakes s i (LiveSlot j) ≡ true → j < i.tx.number
overtaken_smaller s i j e =
    let found = any_item (λ b. (b.tx.number == j) && preserves_what_looks i b) (live_batches s) e in
    let b : LiveBatch = found.0 in
    let same : b.tx.number ≡ j = same_number b.tx.number j (and_left (b.tx.number == j) (preserves_what_looks i b) found.2) in
    let looks : preserves_what_looks i b ≡ true = and_right (b.tx.number == j) (preserves_what_looks i b) found.2 in
    let less : b.tx.number < i.tx.number = ltb-true b.tx.number i.tx.number
    (and_left (nat_lt b.tx.number i.tx.number) (list_any (λ op. has_table b.declared.writes (table_of op) && looks_into_table (batch_operations i) (table_of op)) (batch_operations i)) looks) in
    omega arith

module _ (base : Base) (s : State) (inv : Structure base s) (i : LiveBatch) (slotted : has_slot s.moves i.tx.number ≡ true) (member : is_member s.agenda i.tx.number ≡ true) (unforwarded : is_forwarded s.moves i.tx.number ≡ false) where
  -- whoever it overtakes stands before it
  pub overtaken_ahead : (m : Member) → Contains s.agenda m → IsKnown s.active s.moves m → overtakes s i m ≡ true → is_member (part_before i.tx.number s.agenda) (number_of m) ≡ true
  overtaken_ahead (Committed t) here known e = and_right (commits_after s.moves i.tx.number t.number) (is_member (part_before i.tx.number s.agenda) t.number) (and_left (committed_ahead s i t) (writes_what_looks i t) e)
  overtaken_ahead (LiveSlot j) here known e =
      let less : j < i.tx.number = overtaken_smaller s i j e in
      let there : is_member s.agenda j ≡ true = any_contains (has_number j) s.agenda (LiveSlot j) here (eq-eqb j j refl) in
      let apart : j ≢ i.tx.number = λ same. let none : ⊥ = omega arith in none in
      stands_first (IsBefore s.moves) j i.tx.number s.agenda inv.order there member (λ h. true_false (sym (h.elder slotted known.slotted less) ∙ unforwarded)) apart

  pub target_ahead : (p : ℕ) → target s i ≡ Some p → is_member (part_before i.tx.number s.agenda) p ≡ true
  target_ahead p e =
      let found = target_found s i p e in
      subst (λ n. is_member (part_before i.tx.number s.agenda) n ≡ true) found.2
      (overtaken_ahead found.0 (find_contains (overtakes s i) s.agenda found.0 found.1) (all_find (IsKnown s.active s.moves) (overtakes s i) s.agenda found.0 inv.members.known found.1) (find_passes (overtakes s i) s.agenda found.0 found.1))
