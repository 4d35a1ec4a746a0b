-- The target of a batch, its witnesses and whom it waits for: what the relations say is found.
use Rattle.std.proofs.Common.{◌≡◌, ◌⊎◌, inl, inr, ℕ, ◌≤◌, Bool, true, false, cond, ◌||◌, ◌==◌, List, [], ◌∷◌, Option, Some, None, option_map, refl, sym, ap, ◌∙◌, subst, arith, Contains}
use Rattle.std.specs.List.{find}
use Rattle.ltx_model.specs.Operations.{first_write, cell_of_write, WritesFirst}
use Rattle.ltx_model.specs.Agenda.{Member, Committed, number_of, has_number, is_member, part_before, part_from}
use Rattle.ltx_model.specs.States.{Base, State, LiveBatch, live_batches}
use Rattle.ltx_model.specs.Batches.{batch_operations, overtakes, target, Overtakes, IsTarget, overtaken_live, elder_reader, MayRead, HasWitness, Waits, Refusal, ByLate, ByContradicts, late_or, first_witness, first_late, first_contradicted, waits, Witness, last_writer, IsLate, IsFirstLate, IsContradicted, IsFirstContradicted, may_still_read}
use Rattle.ltx_laws.specs.Structure.{Structure}
use Rattle.ltx_lemmas.proofs.Lists.{some_same, none_some, true_false, any_item, any_contains, find_not, from_contains}
use Rattle.ltx_lemmas.proofs.Members.{same_number}
use Rattle.ltx_laws.proofs.Targets.{target_none}
use Rattle.ltx_laws.proofs.LiveStates.{open_batch, batch_stands}
use Rattle.ltx_laws.proofs.Unread.{serial_member}
use Rattle.ltx_laws.proofs.FirstLate.{first_late_is, none_late}
use Rattle.ltx_laws.proofs.FirstContradicted.{first_contradicted_is, none_contradicted}
use Rattle.ltx_laws.proofs.WaitsFor.{apart, overtakes_from, target_is, overtaken_live_is, none_overtaken_live, elder_reader_is, may_read_test, witness_stands, no_witness_stands}
use Rattle.ltx_lemmas.proofs.FirstSearches.{numbered_once}
use Rattle.ltx_lemmas.proofs.FirstChanges.{not_after_once}

-- of two members neither of which stands before the other
pub one_place : (ms : List Member) (p q : ℕ) → is_member ms p ≡ true → is_member ms q ≡ true → is_member (part_before p ms) q ≡ false → is_member (part_before q ms) p ≡ false → p ≡ q
one_place [] p q hp hq np nq = absurd (true_false (sym hp))
one_place (m ∷ ms) p q hp hq np nq = by_tests (number_of m == p) (number_of m == q) refl refl hp hq np nq (one_place ms p q) where
  by_tests : (a b : Bool) → (number_of m == p) ≡ a → (number_of m == q) ≡ b → (a || is_member ms p) ≡ true → (b || is_member ms q) ≡ true → is_member (cond a [] (m ∷ part_before p ms)) q ≡ false → is_member (cond b [] (m ∷ part_before q ms)) p ≡ false
      → (is_member ms p ≡ true → is_member ms q ≡ true → is_member (part_before p ms) q ≡ false → is_member (part_before q ms) p ≡ false → p ≡ q) → p ≡ q
  by_tests true true ep eq hp hq np nq rec = sym (Rattle.std.proofs.lemmas.Bool.eqb-true (number_of m) p ep) ∙ Rattle.std.proofs.lemmas.Bool.eqb-true (number_of m) q eq
  by_tests true false ep eq hp hq np nq rec = absurd (true_false (sym (ap (λ b. b || is_member (part_before q ms) p) ep) ∙ nq))
  by_tests false true ep eq hp hq np nq rec = absurd (true_false (sym (ap (λ b. b || is_member (part_before p ms) q) eq) ∙ np))
  by_tests false false ep eq hp hq np nq rec = rec hp hq (sym (ap (λ b. b || is_member (part_before p ms) q) eq) ∙ np) (sym (ap (λ b. b || is_member (part_before q ms) p) ep) ∙ nq)

module _ (base : Base) (s : State) (inv : Structure base s) (i : LiveBatch) where
  -- with no target nobody that is a member is overtaken
  pub no_target : target s i ≡ None → (p : ℕ) → Overtakes s i p → is_member s.agenda p ≡ true → ⊥
  no_target none p over member =
      let at = any_item (has_number p) s.agenda member in
      true_false (sym (overtakes_from base s inv i p over at.0 at.1 (Rattle.std.proofs.lemmas.Bool.eqb-true (number_of at.0) p at.2))
      ∙ find_not (overtakes s i) s.agenda at.0 (target_none s i none) at.1)

  -- whoever is overtaken is a member: a commit by its record, and a live batch at its slot
  overtaken_member : (p : ℕ) → Overtakes s i p → is_member s.agenda p ≡ true
  overtaken_member p (inl h) = any_contains (has_number p) s.agenda (Committed h.tx) (serial_member s.agenda h.tx h.member) (subst (λ n. (n == p) ≡ true) (sym h.number) (same_number p))
  overtaken_member p (inr h) = subst (λ n. is_member s.agenda n ≡ true) h.number (batch_stands base s inv h.batch (open_batch s h.batch h.live)).member

  -- with no target nobody is overtaken
  pub none_overtaken : target s i ≡ None → (p : ℕ) → Overtakes s i p → ⊥
  none_overtaken none p over = no_target none p over (overtaken_member p over)

  pub target_once : (p q : ℕ) → IsTarget s i p → IsTarget s i q → p ≡ q
  target_once p q h g = one_place s.agenda p q h.member g.member (h.first q g.overtaken) (g.first p h.overtaken)

  pub target_found_is : (p : ℕ) → IsTarget s i p → target s i ≡ Some p
  target_found_is p h = by_target (target s i) refl where
    by_target : (o : Option ℕ) → target s i ≡ o → target s i ≡ Some p
    by_target None e = absurd (no_target e p h.overtaken h.member)
    by_target (Some q) e = e ∙ ap Some (target_once q p (target_is base s inv i q e) h)

  module _ (p : ℕ) where
    late_once : (v w : Witness) → IsLate s i p v → IsLate s i p w → v.op ≡ w.op → v.cell ≡ w.cell → v ≡ w
    late_once v w h g ops cells =
        let others : v.other ≡ w.other = some_same (sym h.last ∙ ap (last_writer i) cells ∙ g.last) in
        λ k. record { op = ops k; cell = cells k; other = others k }

    pub first_late_found : (w : Witness) → IsFirstLate s i p w → first_late s i p ≡ Some w
    first_late_found w h = by_late (first_late s i p) refl where
      by_late : (o : Option Witness) → first_late s i p ≡ o → first_late s i p ≡ Some w
      by_late None e = absurd (none_late s i p e w h.late)
      by_late (Some v) e =
          let g = first_late_is s i p v e in
          let same = not_after_once v.op w.op v.cell w.cell (g.first w h.late) (h.first v g.late) in
          e ∙ ap Some (late_once v w g.late h.late same.0 same.1)

    first_cell : (v w : Witness) → WritesFirst (batch_operations i) v.op v.cell → WritesFirst (batch_operations i) w.op w.cell → v.op ≡ w.op → v.cell ≡ w.cell
    first_cell v w h g ops =
        let at : h.at ≡ g.at = numbered_once (batch_operations i) h.at g.at h.here g.here (h.same ∙ ops ∙ sym g.same) in
        let write : h.write ≡ g.write = some_same (sym h.writes ∙ (λ k. first_write (at k).earlier (at k).item) ∙ g.writes) in
        sym h.key ∙ ap cell_of_write write ∙ g.key

    reader_member : (w : Witness) → IsContradicted s i p w → is_member s.agenda w.other ≡ true
    reader_member w h =
        let here : Contains s.agenda (Committed h.reader) = from_contains (has_number p) s.agenda (Committed h.reader) (serial_member (part_from p s.agenda) h.reader h.after) in
        any_contains (has_number w.other) s.agenda (Committed h.reader) here (subst (λ n. (n == w.other) ≡ true) (sym h.number) (same_number w.other))

    pub first_contradicted_found : (w : Witness) → IsFirstContradicted s i p w → first_contradicted s i p ≡ Some w
    first_contradicted_found w h = by_contradicted (first_contradicted s i p) refl where
      by_contradicted : (o : Option Witness) → first_contradicted s i p ≡ o → first_contradicted s i p ≡ Some w
      by_contradicted None e = absurd (none_contradicted s i p (apart base s inv i) e w h.contradicted)
      by_contradicted (Some v) e =
          let g = first_contradicted_is s i p (apart base s inv i) v e in
          let one : v.op ≤ w.op = g.first w h.contradicted in
          let two : w.op ≤ v.op = h.first v g.contradicted in
          let ops : v.op ≡ w.op = omega arith in
          let cells : v.cell ≡ w.cell = first_cell v w g.contradicted.writes h.contradicted.writes ops in
          let others : v.other ≡ w.other = one_place s.agenda v.other w.other (reader_member v g.contradicted) (reader_member w h.contradicted) (g.earliest w h.contradicted ops) (h.earliest v g.contradicted (sym ops)) in
          e ∙ (λ k. Some (record { op = ops k; cell = cells k; other = others k }))

    -- the first witness by the relations: a late one before a contradicted one
    pub first_witness_is : (r : Refusal) → first_witness s i p ≡ Some r → ((w : Witness) × (r ≡ ByLate w) × IsFirstLate s i p w) ⊎ ((w : Witness) × (r ≡ ByContradicts w) × IsFirstContradicted s i p w × ((v : Witness) → IsLate s i p v → ⊥))
    first_witness_is r e = by_firsts (first_late s i p) (first_contradicted s i p) refl refl e where
      by_firsts : (a b : Option Witness) → first_late s i p ≡ a → first_contradicted s i p ≡ b → late_or a b ≡ Some r
          → ((w : Witness) × (r ≡ ByLate w) × IsFirstLate s i p w) ⊎ ((w : Witness) × (r ≡ ByContradicts w) × IsFirstContradicted s i p w × ((v : Witness) → IsLate s i p v → ⊥))
      by_firsts (Some w) b ea eb h = inl (w, sym (some_same h), first_late_is s i p w ea)
      by_firsts None (Some w) ea eb h = inr (w, sym (some_same h), first_contradicted_is s i p (apart base s inv i) w eb, none_late s i p ea)
      by_firsts None None ea eb h = absurd (none_some h)

    pub elder_nowhere : elder_reader s i p ≡ None → (b : LiveBatch) → Contains (live_batches s) b → MayRead s i p b → ⊥
    elder_nowhere none b live reads = by_find (find (may_still_read s i p) (live_batches s)) refl none where
      by_find : (o : Option LiveBatch) → find (may_still_read s i p) (live_batches s) ≡ o → option_map (λ (c : LiveBatch). c.tx.number) o ≡ None → ⊥
      by_find (Some c) e h = none_some (sym h)
      by_find None e h = true_false (sym (may_read_test base s inv i p b reads) ∙ find_not (may_still_read s i p) (live_batches s) b e live)

  -- whom a batch waits for by the relation is whom it is answered to wait for
  pub waits_found : (p k : ℕ) → target s i ≡ Some p → Waits s i k → waits s i p (first_witness s i p) ≡ Some k
  waits_found p k goal (inl h) =
      let same : h.place ≡ p = target_once h.place p h.target (target_is base s inv i p goal) in
      by_witness (first_witness s i p) refl (subst (λ n. HasWitness s i n) same h.witness) where
        live : (o : Option ℕ) → overtaken_live s i ≡ o → overtaken_live s i ≡ Some k
        live None e = absurd (none_overtaken_live base s inv i e k h.overtaken)
        live (Some j) e =
            let g = overtaken_live_is base s inv i j e in
            let one : j ≤ k = g.1 k h.overtaken in
            let two : k ≤ j = h.least j g.0 in
            e ∙ ap Some (let eq : j ≡ k = omega arith in eq)

        by_witness : (r : Option Refusal) → first_witness s i p ≡ r → HasWitness s i p → waits s i p r ≡ Some k
        by_witness None e w = absurd (no_witness_stands base s inv i p e w)
        by_witness (Some r) e w = live (overtaken_live s i) refl
  waits_found p k goal (inr h) =
      let same : h.place ≡ p = target_once h.place p h.target (target_is base s inv i p goal) in
      by_witness (first_witness s i p) refl (subst (λ n. HasWitness s i n → ⊥) same h.unwitnessed) (subst (λ n. MayRead s i n h.batch) same h.reads) (subst (λ n. (other : LiveBatch) → Contains (live_batches s) other → MayRead s i n other → k ≤ other.tx.number) same h.least) where
        elder : MayRead s i p h.batch → ((other : LiveBatch) → Contains (live_batches s) other → MayRead s i p other → k ≤ other.tx.number) → (o : Option ℕ) → elder_reader s i p ≡ o → elder_reader s i p ≡ Some k
        elder reads least None e = absurd (elder_nowhere p e h.batch h.live reads)
        elder reads least (Some j) e =
            let g = elder_reader_is base s inv i p j e in
            let one : k ≤ j = subst (λ n. k ≤ n) g.2 (least g.0 g.1 g.3) in
            let two : j ≤ k = subst (λ n. j ≤ n) h.number (g.4 h.batch h.live reads) in
            e ∙ ap Some (let eq : j ≡ k = omega arith in eq)

        by_witness : (r : Option Refusal) → first_witness s i p ≡ r → (HasWitness s i p → ⊥) → MayRead s i p h.batch → ((other : LiveBatch) → Contains (live_batches s) other → MayRead s i p other → k ≤ other.tx.number) → waits s i p r ≡ Some k
        by_witness (Some r) e none reads least = absurd (none (witness_stands base s inv i p r e))
        by_witness None e none reads least = elder reads least (elder_reader s i p) refl
