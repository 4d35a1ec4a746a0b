-- The first contradicted witness: what the function gives is contradicted, of the least operation and with the earliest reader, and
-- where it gives none, none is contradicted.
use Rattle.std.proofs.Common.{◌≡◌, ◌≢◌, ◌⊎◌, inl, inr, ℕ, ◌<◌, ◌≤◌, Bool, true, false, cond, ◌==◌, List, [], ◌∷◌, Option, Some, None, option_map, option_and_then, refl, sym, ap, ◌∙◌, subst, subst₂, eq-eqb, ne_eqb, arith, Contains}
use Rattle.std.specs.List.{find, list_any}
use Rattle.ltx_model.specs.declared.commands.Op.{Op}
use Rattle.ltx_model.specs.declared.writes.Write.{Write}
use Rattle.ltx_model.specs.Lists.{Numbered, numbered, before_first, from_first, IsPairwise}
use Rattle.ltx_model.specs.Keys.{Cell}
use Rattle.ltx_model.specs.Operations.{Transaction, operations, cell_of_write, looks_up_key, writes_key, first_write}
use Rattle.ltx_model.specs.Agenda.{Member, LiveSlot, Committed, number_of, committed_of, has_number, is_member, serial, part_before, part_from}
use Rattle.ltx_model.specs.States.{State, LiveBatch}
use Rattle.ltx_model.specs.Batches.{batch_operations, Witness, IsContradicted, IsFirstContradicted, unless_any, contradicted, contradicted_write, contradicts_of, first_contradicted}
use Rattle.ltx_lemmas.proofs.Lists.{all_contains, any_none, any_contains, any_item, any_not, contains_back, contains_here, contains_later, contains_cases, contains_none, find_passes, find_contains, find_any, before_fails, before_contains, from_contains, given_here, some_same, none_some, true_false}
use Rattle.ltx_lemmas.proofs.Searches.{first_none, FirstGiven, first_given}
use Rattle.ltx_laws.proofs.Pairs.{same_number}
use Rattle.ltx_laws.proofs.Firsts.{numbered_rising, numbered_one, in_parts, behind_greater}
use Rattle.ltx_laws.proofs.Spared.{false_from}
use Rattle.ltx_laws.proofs.Unread.{serial_member}

-- those before the first that passes, and those before its number: among the committed members
module _ (test : Transaction → Bool) where
  -- who stands before the number of the first that passes is among those before it
  pub before_number : (ms : List Member) (r t : Transaction) → find test (serial ms) ≡ Some r → Contains (serial (part_before r.number ms)) t → Contains (before_first test (serial ms)) t
  before_number [] r t e here = absurd (contains_none t here)
  before_number (LiveSlot k ∷ ms) r t e here = by_test (k == r.number) here (before_number ms r t e) where
    by_test : (b : Bool) → Contains (serial (cond b [] (LiveSlot k ∷ part_before r.number ms))) t → (Contains (serial (part_before r.number ms)) t → Contains (before_first test (serial ms)) t) → Contains (before_first test (serial ms)) t
    by_test true here later = absurd (contains_none t here)
    by_test false here later = later here
  before_number (Committed u ∷ ms) r t e here = by_tests (test u) (u.number == r.number) refl refl e here (λ e' here'. before_number ms r t e' here') where
    by_tests : (a b : Bool) → test u ≡ a → (u.number == r.number) ≡ b → cond a (Some u) (find test (serial ms)) ≡ Some r → Contains (serial (cond b [] (Committed u ∷ part_before r.number ms))) t
        → (find test (serial ms) ≡ Some r → Contains (serial (part_before r.number ms)) t → Contains (before_first test (serial ms)) t) → Contains (cond a [] (u ∷ before_first test (serial ms))) t
    by_tests a true pass at e here later = absurd (contains_none t here)
    by_tests true false pass at e here later = absurd (true_false (sym (eq-eqb u.number r.number (ap (λ (x : Transaction). x.number) (some_same e))) ∙ at))
    by_tests false false pass at e here later = by_cases (contains_cases u (serial (part_before r.number ms)) t here) where
      by_cases : (u ≡ t) ⊎ Contains (serial (part_before r.number ms)) t → Contains (u ∷ before_first test (serial ms)) t
      by_cases (inl same) = subst (Contains (u ∷ before_first test (serial ms))) same (contains_here u (before_first test (serial ms)))
      by_cases (inr there) = contains_later u (before_first test (serial ms)) t (later e there)

  -- who stands before the first that passes stands before the number of each that passes
  pub number_before : (ms : List Member) (r t : Transaction) → IsPairwise (λ x y. number_of x ≢ number_of y) ms → Contains (serial ms) r → test r ≡ true → Contains (before_first test (serial ms)) t → Contains (serial (part_before r.number ms)) t
  number_before [] r t apart here pass before = absurd (contains_none r here)
  number_before (LiveSlot k ∷ ms) r t apart here pass before =
      let other : k ≢ r.number = all_contains (λ y. k ≢ number_of y) ms (Committed r) apart.0 (serial_member ms r here) in
      rw (ne_eqb k r.number other) (number_before ms r t apart.1 here pass before)
  number_before (Committed u ∷ ms) r t apart here pass before = by_test (test u) refl before (contains_cases u (serial ms) r here) (number_before ms r t apart.1) where
    by_test : (a : Bool) → test u ≡ a → Contains (cond a [] (u ∷ before_first test (serial ms))) t → (u ≡ r) ⊎ Contains (serial ms) r → (Contains (serial ms) r → test r ≡ true → Contains (before_first test (serial ms)) t → Contains (serial (part_before r.number ms)) t)
        → Contains (serial (cond (u.number == r.number) [] (Committed u ∷ part_before r.number ms))) t
    by_test true is before cases later = absurd (contains_none t before)
    by_test false is before (inl same) later = absurd (true_false (sym pass ∙ ap test (sym same) ∙ is))
    by_test false is before (inr there) later =
        let other : u.number ≢ r.number = all_contains (λ y. u.number ≢ number_of y) ms (Committed r) apart.0 (serial_member ms r there) in
        rw (ne_eqb u.number r.number other) (by_cases (contains_cases u (before_first test (serial ms)) t before)) where
          by_cases : (u ≡ t) ⊎ Contains (before_first test (serial ms)) t → Contains (u ∷ serial (part_before r.number ms)) t
          by_cases (inl same) = subst (Contains (u ∷ serial (part_before r.number ms))) same (contains_here u (serial (part_before r.number ms)))
          by_cases (inr at) = contains_later u (serial (part_before r.number ms)) t (later there pass at)

-- the contradicted reader of a key
contradicted_is : (q : Cell) (ts : List Transaction) (n : ℕ) → contradicted q ts ≡ Some n → (r : Transaction) × (find (λ (t : Transaction). looks_up_key (operations t) q) ts ≡ Some r) × (r.number ≡ n)
    × (list_any (λ (t : Transaction). writes_key (operations t) q) (before_first (λ (t : Transaction). looks_up_key (operations t) q) ts) ≡ false)
contradicted_is q ts n e = by_find (find (λ (t : Transaction). looks_up_key (operations t) q) ts) refl e where
  by_any : (b : Bool) (r : Transaction) → find (λ (t : Transaction). looks_up_key (operations t) q) ts ≡ Some r → list_any (λ (t : Transaction). writes_key (operations t) q) (before_first (λ (t : Transaction). looks_up_key (operations t) q) ts) ≡ b → unless_any b r ≡ Some n
      → (r : Transaction) × (find (λ (t : Transaction). looks_up_key (operations t) q) ts ≡ Some r) × (r.number ≡ n) × (list_any (λ (t : Transaction). writes_key (operations t) q) (before_first (λ (t : Transaction). looks_up_key (operations t) q) ts) ≡ false)
  by_any true r f is h = absurd (none_some h)
  by_any false r f is h = (r, f, some_same h, is)

  by_find : (o : Option Transaction) → find (λ (t : Transaction). looks_up_key (operations t) q) ts ≡ o → option_and_then (unless_any (list_any (λ (t : Transaction). writes_key (operations t) q) (before_first (λ (t : Transaction). looks_up_key (operations t) q) ts))) o ≡ Some n
      → (r : Transaction) × (find (λ (t : Transaction). looks_up_key (operations t) q) ts ≡ Some r) × (r.number ≡ n) × (list_any (λ (t : Transaction). writes_key (operations t) q) (before_first (λ (t : Transaction). looks_up_key (operations t) q) ts) ≡ false)
  by_find None f h = absurd (none_some h)
  by_find (Some r) f h = by_any (list_any (λ (t : Transaction). writes_key (operations t) q) (before_first (λ (t : Transaction). looks_up_key (operations t) q) ts)) r f refl h

-- what holds of each pair holds from a place on
pairs_from_place : {A : Type 0} (R : A → A → Type 0) (test : A → Bool) (xs : List A) → IsPairwise R xs → IsPairwise R (from_first test xs)
pairs_from_place R test [] pairs = tt
pairs_from_place R test (x ∷ xs) pairs = by_test (test x) (pairs_from_place R test xs pairs.1) where
  by_test : (b : Bool) → IsPairwise R (from_first test xs) → IsPairwise R (cond b (x ∷ xs) (from_first test xs))
  by_test true rest = pairs
  by_test false rest = rest

-- of two committed members from a place on, who stands before the other stands before it from that place on
from_before : (p : ℕ) (r t : Transaction) (ms : List Member) → IsPairwise (λ x y. number_of x ≢ number_of y) ms → Contains (serial (part_from p ms)) r → Contains (serial (part_from p ms)) t → Contains (serial (part_before r.number ms)) t
    → Contains (serial (part_before r.number (part_from p ms))) t
from_before p r t [] apart hr ht before = before
from_before p r t (m ∷ ms) apart hr ht before = by_test (has_number p m) refl hr ht (from_before p r t ms apart.1) where
  in_rest : (u : Transaction) → Contains (serial (part_from p ms)) u → number_of m ≢ u.number
  in_rest u here = all_contains (λ y. number_of m ≢ number_of y) ms (Committed u) apart.0 (from_contains (has_number p) ms (Committed u) (serial_member (part_from p ms) u here))

  drop_head : (x : Member) → number_of x ≢ t.number → (xs : List Member) → Contains (serial (x ∷ xs)) t → Contains (serial xs) t
  drop_head (LiveSlot k) ne xs here = here
  drop_head (Committed u) ne xs here = by_cases (contains_cases u (serial xs) t here) where
    by_cases : (u ≡ t) ⊎ Contains (serial xs) t → Contains (serial xs) t
    by_cases (inl same) = absurd (ne (ap (λ (v : Transaction). v.number) same))
    by_cases (inr there) = there

  by_test : (b : Bool) → has_number p m ≡ b → Contains (serial (cond b (m ∷ ms) (part_from p ms))) r → Contains (serial (cond b (m ∷ ms) (part_from p ms))) t
      → (Contains (serial (part_from p ms)) r → Contains (serial (part_from p ms)) t → Contains (serial (part_before r.number ms)) t → Contains (serial (part_before r.number (part_from p ms))) t)
      → Contains (serial (part_before r.number (cond b (m ∷ ms) (part_from p ms)))) t
  by_test true is hr ht later = before
  by_test false is hr ht later = later hr ht (drop_head m (in_rest t ht) (part_before r.number ms)
      (subst (λ b. Contains (serial (cond b [] (m ∷ part_before r.number ms))) t) (ne_eqb (number_of m) r.number (in_rest r hr)) before))

-- two members with one number are one
pub one_member : (ms : List Member) → IsPairwise (λ x y. number_of x ≢ number_of y) ms → (a b : Member) → Contains ms a → Contains ms b → number_of a ≡ number_of b → a ≡ b
one_member [] apart a b ha hb e = absurd (contains_none a ha)
one_member (m ∷ ms) apart a b ha hb e = by_cases (contains_cases m ms a ha) (contains_cases m ms b hb) (one_member ms apart.1 a b) where
  by_cases : (m ≡ a) ⊎ Contains ms a → (m ≡ b) ⊎ Contains ms b → (Contains ms a → Contains ms b → number_of a ≡ number_of b → a ≡ b) → a ≡ b
  by_cases (inl sa) (inl sb) later = sym sa ∙ sb
  by_cases (inl sa) (inr there) later = absurd (all_contains (λ y. number_of m ≢ number_of y) ms b apart.0 there (ap number_of sa ∙ e))
  by_cases (inr there) (inl sb) later = absurd (all_contains (λ y. number_of m ≢ number_of y) ms a apart.0 there (ap number_of sb ∙ sym e))
  by_cases (inr ta) (inr tb) later = later ta tb e

module _ (s : State) (i : LiveBatch) (p : ℕ) (apart : IsPairwise (λ x y. number_of x ≢ number_of y) s.agenda) where
  abbrev later : List Transaction
  later = serial (part_from p s.agenda)

  abbrev ops : List (Numbered Op)
  ops = numbered (batch_operations i)

  abbrev looks : Cell → Transaction → Bool
  looks q t = looks_up_key (operations t) q

  abbrev writes : Cell → Transaction → Bool
  writes q t = writes_key (operations t) q

  apart_later : IsPairwise (λ x y. number_of x ≢ number_of y) (part_from p s.agenda)
  apart_later = pairs_from_place (λ x y. number_of x ≢ number_of y) (has_number p) s.agenda apart

  -- where a reader is contradicted, the function finds one
  reader_found : (v : Witness) (h : IsContradicted s i p v) → (r : Transaction) × (contradicted v.cell later ≡ Some r.number)
  reader_found v h =
      let found = find_any (looks v.cell) later (any_contains (looks v.cell) later h.reader h.after h.looks) in
      let none : list_any (writes v.cell) (before_first (looks v.cell) later) ≡ false = any_none (writes v.cell) (before_first (looks v.cell) later)
      (λ t before. h.unwritten t (subst (λ n. Contains (serial (part_before n (part_from p s.agenda))) t) h.number (number_before (looks v.cell) (part_from p s.agenda) h.reader t apart_later h.after h.looks before))) in
      (found.0, ap (option_and_then (unless_any (list_any (writes v.cell) (before_first (looks v.cell) later)))) found.1 ∙ ap (λ b. unless_any b found.0) none)

  witness_found : (v : Witness) (h : IsContradicted s i p v) → contradicts_of later h.writes.at ≡ None → ⊥
  witness_found v h none =
      let reader = reader_found v h in
      let at_cell : contradicted (cell_of_write h.writes.write) later ≡ Some reader.0.number = ap (λ c. contradicted c later) h.writes.key ∙ reader.1 in
      let gives : contradicts_of later h.writes.at ≡ Some (record { op = h.writes.at.number; cell = cell_of_write h.writes.write; other = reader.0.number })
      = ap (option_and_then (contradicted_write later h.writes.at.number)) h.writes.writes
      ∙ ap (option_map (λ (r : ℕ). let x : Witness = record { op = h.writes.at.number; cell = cell_of_write h.writes.write; other = r } in x)) at_cell in
      none_some (sym none ∙ gives)

  pub none_contradicted : first_contradicted s i p ≡ None → (v : Witness) → IsContradicted s i p v → ⊥
  unfolding first_contradicted
  none_contradicted none v h = witness_found v h (all_contains (λ o. contradicts_of later o ≡ None) ops h.writes.at (first_none (contradicts_of later) ops none) h.writes.here)

  -- what an operation gives
  given : (o : Numbered Op) (w : Witness) → contradicts_of later o ≡ Some w → (write : Write) × (first_write o.earlier o.item ≡ Some write) × (o.number ≡ w.op) × (cell_of_write write ≡ w.cell) × (contradicted w.cell later ≡ Some w.other)
  given o w e = by_write (first_write o.earlier o.item) refl e where
    by_reader : (write : Write) (f : Option ℕ) → first_write o.earlier o.item ≡ Some write → contradicted (cell_of_write write) later ≡ f → option_map (λ (r : ℕ). let x : Witness = record { op = o.number; cell = cell_of_write write; other = r } in x) f ≡ Some w
        → (write : Write) × (first_write o.earlier o.item ≡ Some write) × (o.number ≡ w.op) × (cell_of_write write ≡ w.cell) × (contradicted w.cell later ≡ Some w.other)
    by_reader write None first is h = absurd (none_some h)
    by_reader write (Some r) first is h =
        let x : Witness = record { op = o.number; cell = cell_of_write write; other = r } in
        let same : x ≡ w = some_same h in
        (write, first, ap (λ (v : Witness). v.op) same, ap (λ (v : Witness). v.cell) same, ap (λ (v : Witness). contradicted v.cell later) (sym same) ∙ is ∙ ap (λ (v : Witness). Some v.other) same)

    by_write : (f : Option Write) → first_write o.earlier o.item ≡ f → option_and_then (contradicted_write later o.number) f ≡ Some w
        → (write : Write) × (first_write o.earlier o.item ≡ Some write) × (o.number ≡ w.op) × (cell_of_write write ≡ w.cell) × (contradicted w.cell later ≡ Some w.other)
    by_write None is h = absurd (none_some h)
    by_write (Some write) is h = by_reader write (contradicted (cell_of_write write) later) is refl h

  -- the first reader of a key stands before each other one
  no_reader_before : (q : Cell) (r u : Transaction) → find (looks q) later ≡ Some r → Contains later u → looks q u ≡ true → is_member (part_before r.number s.agenda) u.number ≡ false
  no_reader_before q r u first here reads = false_from (is_member (part_before r.number s.agenda) u.number) before where
    before : is_member (part_before r.number s.agenda) u.number ≡ true → ⊥
    before e =
        let found = any_item (has_number u.number) (part_before r.number s.agenda) e in
        let whole : Contains s.agenda (Committed u) = from_contains (has_number p) s.agenda (Committed u) (serial_member (part_from p s.agenda) u here) in
        let same : found.0 ≡ Committed u = one_member s.agenda apart found.0 (Committed u) (before_contains (has_number r.number) s.agenda found.0 found.1) whole (same_number (number_of found.0) u.number found.2) in
        let there : Contains (serial (part_before r.number s.agenda)) u = given_here committed_of (part_before r.number s.agenda) (Committed u) u (subst (Contains (part_before r.number s.agenda)) same found.1) refl in
        let from : Contains (serial (part_before r.number (part_from p s.agenda))) u = from_before p r u s.agenda apart (find_contains (looks q) later r first) here there in
        let fails : looks q u ≡ false = all_contains (λ t. looks q t ≡ false) (before_first (looks q) later) u (before_fails (looks q) later) (before_number (looks q) (part_from p s.agenda) r u first from) in
        true_false (sym reads ∙ fails)

  pub first_contradicted_is : (w : Witness) → first_contradicted s i p ≡ Some w → IsFirstContradicted s i p w
  unfolding first_contradicted
  first_contradicted_is w e = made (first_given (contradicts_of later) ops w e) where
    by_place : (g : FirstGiven (contradicts_of later) ops w) → g.item.number ≡ w.op → (v : Witness) (h : IsContradicted s i p v) → Contains g.front h.writes.at ⊎ ((g.item ≡ h.writes.at) ⊎ Contains g.back h.writes.at) → w.op ≤ v.op
    by_place g op v h (inl front) = absurd (witness_found v h (all_contains (λ o. contradicts_of later o ≡ None) g.front h.writes.at g.none front))
    by_place g op v h (inr (inl same)) = let is : w.op ≡ v.op = sym op ∙ ap (λ (o : Numbered Op). o.number) same ∙ h.writes.same in let le : w.op ≤ v.op = omega arith in le
    by_place g op v h (inr (inr back)) =
        let less : g.item.number < h.writes.at.number = behind_greater ops (numbered_rising (batch_operations i)) g.front g.item g.back g.parts h.writes.at back in
        let from : g.item.number ≡ w.op = op in
        let upto : h.writes.at.number ≡ v.op = h.writes.same in
        let le : w.op ≤ v.op = omega arith in le

    earliest : (g : FirstGiven (contradicts_of later) ops w) (write : Write) → Contains ops g.item → first_write g.item.earlier g.item.item ≡ Some write → g.item.number ≡ w.op → cell_of_write write ≡ w.cell → (r : Transaction) → find (looks w.cell) later ≡ Some r → r.number ≡ w.other
        → (v : Witness) → IsContradicted s i p v → w.op ≡ v.op → is_member (part_before w.other s.agenda) v.other ≡ false
    earliest g write here first op cell r found number v h same =
        let one : h.writes.at ≡ g.item = numbered_one ops (numbered_rising (batch_operations i)) h.writes.at g.item h.writes.here here (h.writes.same ∙ sym same ∙ sym op) in
        let writes_same : h.writes.write ≡ write = some_same (sym h.writes.writes ∙ ap (λ (o : Numbered Op). first_write o.earlier o.item) one ∙ first) in
        let cells : v.cell ≡ w.cell = sym h.writes.key ∙ ap cell_of_write writes_same ∙ cell in
        subst₂ (λ a b. is_member (part_before a s.agenda) b ≡ false) number h.number (no_reader_before w.cell r h.reader found h.after (subst (λ q. looks q h.reader ≡ true) cells h.looks))

    made : FirstGiven (contradicts_of later) ops w → IsFirstContradicted s i p w
    made g =
        let its = given g.item w g.gives in
        let here : Contains ops g.item = subst (λ l. Contains l g.item) (sym g.parts) (contains_back g.front (g.item ∷ g.back) g.item (contains_here g.item g.back)) in
        let reader = contradicted_is w.cell later w.other its.4 in
        record {
          contradicted = record {
            writes = record { at = g.item; write = its.0; here = here; same = its.2; writes = its.1; key = its.3 };
            reader = reader.0;
            number = reader.2;
            after = find_contains (looks w.cell) later reader.0 reader.1;
            looks = find_passes (looks w.cell) later reader.0 reader.1;
            unwritten = λ t before. any_not (writes w.cell) (before_first (looks w.cell) later) t reader.3
                (before_number (looks w.cell) (part_from p s.agenda) reader.0 t reader.1 (subst (λ n. Contains (serial (part_before n (part_from p s.agenda))) t) (sym reader.2) before));
          };
          first = λ v h. by_place g its.2 v h (in_parts g.front g.item g.back h.writes.at (subst (λ l. Contains l h.writes.at) g.parts h.writes.here));
          earliest = earliest g its.0 here its.1 its.2 its.3 reader.0 reader.1 reader.2;
        }
