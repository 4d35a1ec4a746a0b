-- The target, the overtaken live batch and the elder reader that the functions give are those of the relations.
use Rattle.std.proofs.Common.{◌≡◌, ◌≢◌, inl, inr, ℕ, ◌<◌, ◌≤◌, Bool, true, false, ◌&&◌, ◌==◌, nat_lt, List, [], ◌∷◌, Option, Some, None, option_map, filter_map, refl, sym, ap, ◌∙◌, subst, subst₂, eq-eqb, lt-ltb, ltb-true, Contains}
use Rattle.std.specs.List.{find, list_any, cons_option, AllByRecursion}
use Rattle.ltx_model.specs.declared.commands.Op.{Op}
use Rattle.ltx_model.specs.declared.writes.Write.{Write}
use Rattle.ltx_model.specs.Tables.{has_table}
use Rattle.ltx_model.specs.Keys.{Cell, same_cell}
use Rattle.ltx_model.specs.Operations.{Transaction, operations, table_of, cell_of_write, looks_up_key, looks_into_table, writes_of}
use Rattle.ltx_model.specs.Agenda.{Member, LiveSlot, Committed, number_of, has_number, is_member, part_before, commits_after}
use Rattle.ltx_model.specs.States.{Kind, IsShort, IsPending, IsLive, Active, transaction_of, Base, State, LiveBatch, as_live, live_batches}
use Rattle.ltx_model.specs.Batches.{batch_operations, committed_ahead, writes_what_looks, preserves_what_looks, overtakes, target, Overtakes, IsOvertakenLive, IsTarget, overtaken_live, is_from, may_still_read, elder_reader, MayRead, HasWitness, Waits, Refusal, late_or, first_witness, first_late, first_contradicted, waits, Witness}
use Rattle.ltx_model.specs.Lists.{IsPairwise}
use Rattle.ltx_laws.specs.Structure.{IsKnown, IsBefore, Structure}
use Rattle.ltx_lemmas.proofs.Lists.{any_contains, any_item, all_contains, find_contains, find_passes, find_none, before_contains, some_same, none_some, true_false}
use Rattle.ltx_lemmas.proofs.Searches.{write_at, is_written_of}
use Rattle.ltx_model.proofs.CellOrder.{same_cell_refl}
use Rattle.ltx_laws.proofs.Pairs.{same_number, pairs_all}
use Rattle.ltx_laws.proofs.Places.{and_left, and_right, both, found_first}
use Rattle.ltx_laws.proofs.Targets.{target_found}
use Rattle.ltx_laws.proofs.Spared.{false_from, looked_into}
use Rattle.ltx_laws.proofs.Unread.{serial_member}
use Rattle.ltx_laws.proofs.LiveStates.{IsOpenBatch, open_batch}
use Rattle.ltx_laws.proofs.Firsts.{find_least}
use Rattle.ltx_laws.proofs.FirstLate.{first_late_is, none_late}
use Rattle.ltx_laws.proofs.FirstContradicted.{one_member, first_contradicted_is, none_contradicted}
use Rattle.ltx_laws.proofs.Priorities.{overtakes_is}

-- pairs of what a function gives of the items
pairs_given : {A B : Type 0} (R : A → A → Type 0) (Q : B → B → Type 0) (f : A → Option B) → ((x y : A) (a b : B) → R x y → f x ≡ Some a → f y ≡ Some b → Q a b) → (xs : List A) → IsPairwise R xs → IsPairwise Q (filter_map f xs)
pairs_given R Q f keep [] pairs = tt
pairs_given {A = A} {B = B} R Q f keep (x ∷ xs) pairs = by_given (f x) refl (pairs_given R Q f keep xs pairs.1) where
  all : (a : B) → f x ≡ Some a → (ys : List A) → AllByRecursion (R x) ys → AllByRecursion (Q a) (filter_map f ys)
  all a is [] rs = tt
  all a is (y ∷ ys) rs = by_one (f y) refl (all a is ys rs.1) where
    by_one : (o : Option B) → f y ≡ o → AllByRecursion (Q a) (filter_map f ys) → AllByRecursion (Q a) (cons_option o (filter_map f ys))
    by_one None at rest = rest
    by_one (Some b) at rest = (keep x y a b rs.0 is at, rest)

  by_given : (o : Option B) → f x ≡ o → IsPairwise Q (filter_map f xs) → IsPairwise Q (cons_option o (filter_map f xs))
  by_given None is rest = rest
  by_given (Some a) is rest = (all a is xs pairs.0, rest)

live_number : (o : Active) (b : LiveBatch) → as_live o.kind (transaction_of o) ≡ Some b → o.number ≡ b.tx.number
live_number o b e = by_kind o.kind e where
  by_kind : (k : Kind) → as_live k (transaction_of o) ≡ Some b → o.number ≡ b.tx.number
  by_kind IsShort e = absurd (none_some e)
  by_kind (IsPending d) e = absurd (none_some e)
  by_kind (IsLive d snapshot) e = ap (λ (c : LiveBatch). c.tx.number) (some_same e)

-- no two members have one number
pub agenda_apart_of : (base : Base) (s : State) → Structure base s → IsPairwise (λ x y. number_of x ≢ number_of y) s.agenda
agenda_apart_of base s inv = pairs_all (λ x y. IsBefore s.moves (number_of x) (number_of y)) (λ x y. number_of x ≢ number_of y) (λ x y h. h.apart) s.agenda inv.order

module _ (base : Base) (s : State) (inv : Structure base s) (i : LiveBatch) where
  -- live batches stand in the order of their numbers
  pub live_rising : IsPairwise (λ a b. a.tx.number < b.tx.number) (live_batches s)
  live_rising = pairs_given (λ a b. a.number < b.number) (λ a b. a.tx.number < b.tx.number) (λ o. as_live o.kind (transaction_of o))
      (λ x y a b less ea eb. subst₂ (λ m n. m < n) (live_number x a ea) (live_number y b eb) less) s.active inv.opens.rising

  pub apart : IsPairwise (λ x y. number_of x ≢ number_of y) s.agenda
  apart = agenda_apart_of base s inv

  -- a live batch that is overtaken by the relation is so by the test
  live_overtaken : (j : ℕ) → IsOvertakenLive s i j → overtakes s i (LiveSlot j) ≡ true
  live_overtaken j h =
      let b : LiveBatch = h.batch in
      let found = looked_into (batch_operations i) h.table h.looks in
      let op : Op = found.0 in
      let test : Op → Bool = λ op. has_table b.declared.writes (table_of op) && looks_into_table (batch_operations i) (table_of op) in
      let passes : test op ≡ true = both (has_table b.declared.writes (table_of op)) (looks_into_table (batch_operations i) (table_of op)) (ap (has_table b.declared.writes) found.2 ∙ h.preserves) (ap (looks_into_table (batch_operations i)) found.2 ∙ h.looks) in
      let smaller : nat_lt b.tx.number i.tx.number ≡ true = lt-ltb b.tx.number i.tx.number (subst (λ n. n < i.tx.number) (sym h.number) h.smaller) in
      let whole : preserves_what_looks i b ≡ true = both (nat_lt b.tx.number i.tx.number) (list_any test (batch_operations i)) smaller (any_contains test (batch_operations i) op found.1 passes) in
      any_contains (λ (c : LiveBatch). (c.tx.number == j) && preserves_what_looks i c) (live_batches s) b h.live (both (b.tx.number == j) (preserves_what_looks i b) (eq-eqb b.tx.number j h.number) whole)

  -- whoever is overtaken by the relation is so by the test
  pub overtakes_from : (j : ℕ) → Overtakes s i j → (y : Member) → Contains s.agenda y → number_of y ≡ j → overtakes s i y ≡ true
  overtakes_from j (inl c) y here number =
      let same : Committed c.tx ≡ y = one_member s.agenda apart (Committed c.tx) y (serial_member s.agenda c.tx c.member) here (c.number ∙ sym number) in
      let w = write_at c.key (operations c.tx) c.writes in
      let looks : writes_what_looks i c.tx ≡ true = any_contains (λ (v : Write). looks_up_key (batch_operations i) (cell_of_write v)) (writes_of (operations c.tx)) w.0 w.1 (ap (looks_up_key (batch_operations i)) w.2 ∙ c.looks) in
      let ahead : committed_ahead s i c.tx ≡ true = both (commits_after s.moves i.tx.number c.tx.number) (is_member (part_before i.tx.number s.agenda) c.tx.number)
      (ap (commits_after s.moves i.tx.number) c.number ∙ c.later) (ap (is_member (part_before i.tx.number s.agenda)) c.number ∙ c.before) in
      subst (λ m. overtakes s i m ≡ true) same (both (committed_ahead s i c.tx) (writes_what_looks i c.tx) ahead looks)
  overtakes_from j (inr l) (LiveSlot k) here number = subst (λ n. overtakes s i (LiveSlot n) ≡ true) (sym number) (live_overtaken j l)
  overtakes_from j (inr l) (Committed t) here number =
      let active : IsOpenBatch s l.batch = open_batch s l.batch l.live in
      absurd (all_contains (λ (u : Active). u.number ≢ t.number) s.active active.active (all_contains (IsKnown s.active s.moves) s.agenda (Committed t) inv.members.known here) active.here
      (ap (λ (x : Transaction). x.number) active.tx ∙ l.number ∙ sym number))

  pub target_is : (p : ℕ) → target s i ≡ Some p → IsTarget s i p
  target_is p e =
      let found = target_found s i p e in
      let m : Member = found.0 in
      let here : Contains s.agenda m = find_contains (overtakes s i) s.agenda m found.1 in
      record {
        overtaken = subst (Overtakes s i) found.2 (overtakes_is s i m here (find_passes (overtakes s i) s.agenda m found.1));
        member = any_contains (has_number p) s.agenda m here (eq-eqb (number_of m) p found.2);
        first = λ j over. false_from (is_member (part_before p s.agenda) j) (λ ahead.
            let at = any_item (has_number j) (part_before p s.agenda) ahead in
            true_false (sym (overtakes_from j over at.0 (before_contains (has_number p) s.agenda at.0 at.1) (same_number (number_of at.0) j at.2))
            ∙ all_contains (λ x. overtakes s i x ≡ false) (part_before p s.agenda) at.0 (found_first (overtakes s i) p s.agenda m found.1 found.2) at.1));
      }

  abbrev live_test : LiveBatch → Bool
  live_test b = overtakes s i (LiveSlot b.tx.number)

  -- the number of what a search gives
  mapped : (f : Option LiveBatch) (k : ℕ) → option_map (λ (b : LiveBatch). b.tx.number) f ≡ Some k → (b : LiveBatch) × (f ≡ Some b) × (b.tx.number ≡ k)
  mapped None k e = absurd (none_some e)
  mapped (Some b) k e = (b, refl, some_same e)

  unmapped : (f : Option LiveBatch) → option_map (λ (b : LiveBatch). b.tx.number) f ≡ None → f ≡ None
  unmapped None e = refl
  unmapped (Some b) e = absurd (none_some (sym e))

  pub overtaken_live_is : (k : ℕ) → overtaken_live s i ≡ Some k → IsOvertakenLive s i k × ((j : ℕ) → IsOvertakenLive s i j → k ≤ j)
  overtaken_live_is k e =
      let found = mapped (find live_test (live_batches s)) k e in
      let b : LiveBatch = found.0 in
      let passes : overtakes s i (LiveSlot b.tx.number) ≡ true = find_passes live_test (live_batches s) b found.1 in (
        subst (IsOvertakenLive s i) found.2 (live_is b.tx.number passes),
        λ j h. subst₂ (λ m n. m ≤ n) found.2 h.number (find_least (λ (c : LiveBatch). c.tx.number) live_test b h.batch (live_batches s) live_rising found.1 h.live (ap (λ n. overtakes s i (LiveSlot n)) h.number ∙ live_overtaken j h)),
      ) where
        live_is : (n : ℕ) → overtakes s i (LiveSlot n) ≡ true → IsOvertakenLive s i n
        live_is n e =
            let found = any_item (λ (b : LiveBatch). (b.tx.number == n) && preserves_what_looks i b) (live_batches s) e in
            let b : LiveBatch = found.0 in
            let same : b.tx.number ≡ n = same_number b.tx.number n (and_left (b.tx.number == n) (preserves_what_looks i b) found.2) in
            let looks : preserves_what_looks i b ≡ true = and_right (b.tx.number == n) (preserves_what_looks i b) found.2 in
            let test : Op → Bool = λ op. has_table b.declared.writes (table_of op) && looks_into_table (batch_operations i) (table_of op) in
            let less : b.tx.number < i.tx.number = ltb-true b.tx.number i.tx.number (and_left (nat_lt b.tx.number i.tx.number) (list_any test (batch_operations i)) looks) in
            let one = any_item test (batch_operations i) (and_right (nat_lt b.tx.number i.tx.number) (list_any test (batch_operations i)) looks) in
            record {
              batch = b;
              live = found.1;
              number = same;
              smaller = subst (λ k. k < i.tx.number) same less;
              table = table_of one.0;
              preserves = and_left (has_table b.declared.writes (table_of one.0)) (looks_into_table (batch_operations i) (table_of one.0)) one.2;
              looks = and_right (has_table b.declared.writes (table_of one.0)) (looks_into_table (batch_operations i) (table_of one.0)) one.2;
            }

  pub none_overtaken_live : overtaken_live s i ≡ None → (j : ℕ) → IsOvertakenLive s i j → ⊥
  none_overtaken_live e j h = true_false (sym (ap (λ n. overtakes s i (LiveSlot n)) h.number ∙ live_overtaken j h)
      ∙ all_contains (λ b. live_test b ≡ false) (live_batches s) h.batch (find_none live_test (live_batches s) (unmapped (find live_test (live_batches s)) e)) h.live)

  module _ (p : ℕ) where
    abbrev area_test : LiveBatch → Write → Bool
    area_test b w = has_table b.declared.reads w.table

    may_read_is : (b : LiveBatch) → may_still_read s i p b ≡ true → MayRead s i p b
    may_read_is b e =
        let parts = three (nat_lt b.tx.number i.tx.number) (is_from s p b.tx.number) (list_any (area_test b) (writes_of (batch_operations i))) e in
        let found = any_item (area_test b) (writes_of (batch_operations i)) parts.2 in
        let w : Write = found.0 in
        record {
          smaller = ltb-true b.tx.number i.tx.number parts.0;
          after = parts.1;
          key = cell_of_write w;
          area = found.2;
          writes = sym (is_written_of (cell_of_write w) (batch_operations i)) ∙ any_contains (λ (v : Write). same_cell (cell_of_write v) (cell_of_write w)) (writes_of (batch_operations i)) w found.1 (same_cell_refl (cell_of_write w));
        } where
          three : (a b c : Bool) → (a && b && c) ≡ true → (a ≡ true) × (b ≡ true) × (c ≡ true)
          three true true true e = (refl, refl, refl)
          three true true false e = absurd (true_false (sym e))
          three true false c e = absurd (true_false (sym e))
          three false b c e = absurd (true_false (sym e))

    pub may_read_test : (b : LiveBatch) → MayRead s i p b → may_still_read s i p b ≡ true
    may_read_test b h =
        let w = write_at h.key (batch_operations i) h.writes in
        let area : area_test b w.0 ≡ true = ap (λ (c : Cell). has_table b.declared.reads c.table) w.2 ∙ h.area in
        let some : list_any (area_test b) (writes_of (batch_operations i)) ≡ true = any_contains (area_test b) (writes_of (batch_operations i)) w.0 w.1 area in
        let smaller : nat_lt b.tx.number i.tx.number ≡ true = lt-ltb b.tx.number i.tx.number h.smaller in
        rw (smaller, h.after, some) refl

    pub elder_reader_is : (k : ℕ) → elder_reader s i p ≡ Some k → (b : LiveBatch) × Contains (live_batches s) b × (b.tx.number ≡ k) × MayRead s i p b × ((other : LiveBatch) → Contains (live_batches s) other → MayRead s i p other → k ≤ other.tx.number)
    elder_reader_is k e =
        let found = mapped (find (may_still_read s i p) (live_batches s)) k e in
        let b : LiveBatch = found.0 in (
          b,
          find_contains (may_still_read s i p) (live_batches s) b found.1,
          found.2,
          may_read_is b (find_passes (may_still_read s i p) (live_batches s) b found.1),
          λ other live reads. subst (λ m. m ≤ other.tx.number) found.2 (find_least (λ (c : LiveBatch). c.tx.number) (may_still_read s i p) b other (live_batches s) live_rising found.1 live (may_read_test other reads)),
        )

    -- some witness stands there, or none does
    pub witness_stands : (r : Refusal) → first_witness s i p ≡ Some r → HasWitness s i p
    witness_stands r e = by_firsts (first_late s i p) (first_contradicted s i p) refl refl e where
      by_firsts : (a b : Option Witness) → first_late s i p ≡ a → first_contradicted s i p ≡ b → late_or a b ≡ Some r → HasWitness s i p
      by_firsts (Some w) b ea eb e = inl (w, (first_late_is s i p w ea).late)
      by_firsts None (Some w) ea eb e = inr (w, (first_contradicted_is s i p apart w eb).contradicted)
      by_firsts None None ea eb e = absurd (none_some e)

    pub no_witness_stands : first_witness s i p ≡ None → HasWitness s i p → ⊥
    no_witness_stands e = by_firsts (first_late s i p) (first_contradicted s i p) refl refl e where
      by_firsts : (a b : Option Witness) → first_late s i p ≡ a → first_contradicted s i p ≡ b → late_or a b ≡ None → HasWitness s i p → ⊥
      by_firsts (Some w) b ea eb e h = absurd (none_some (sym e))
      by_firsts None (Some w) ea eb e h = absurd (none_some (sym e))
      by_firsts None None ea eb e (inl h) = none_late s i p ea h.0 h.1
      by_firsts None None ea eb e (inr h) = none_contradicted s i p apart eb h.0 h.1

    pub waits_is : target s i ≡ Some p → (k : ℕ) → waits s i p (first_witness s i p) ≡ Some k → Waits s i k
    waits_is goal k e = by_witness (first_witness s i p) refl e where
      by_witness : (r : Option Refusal) → first_witness s i p ≡ r → waits s i p r ≡ Some k → Waits s i k
      by_witness (Some r) is e = let live = overtaken_live_is k e in inl (record { place = p; target = target_is p goal; witness = witness_stands r is; overtaken = live.0; least = live.1 })
      by_witness None is e = let elder = elder_reader_is k e in
          inr (record { place = p; target = target_is p goal; unwitnessed = no_witness_stands is; batch = elder.0; live = elder.1; number = elder.2; reads = elder.3; least = elder.4 })
