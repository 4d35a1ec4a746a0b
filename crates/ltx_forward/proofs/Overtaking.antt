-- Whom a live batch overtakes: what the tests find is what the relations say.
use Rattle.std.proofs.Common.{◌≡◌, ◌≢◌, ◌⊎◌, inl, inr, ℕ, ◌<◌, ◌≤◌, nat_lt, Bool, true, false, cond, ◌&&◌, ◌==◌, List, [], ◌∷◌, Option, Some, None, option_map, refl, sym, ap, ◌∙◌, subst, arith, Contains}
use Rattle.std.specs.List.{find, list_any}
use Rattle.std.proofs.lemmas.Bool.{and_parts, both_ways, eqb-true, lt-ltb, ltb-true}
use Rattle.ltx_model.specs.declared.commands.Op.{Op}
use Rattle.ltx_model.specs.declared.writes.Write.{Write}
use Rattle.ltx_model.specs.Lists.{Numbered, numbered, IsPairwise}
use Rattle.ltx_model.specs.Tables.{has_table}
use Rattle.ltx_model.specs.Keys.{Cell, same_cell}
use Rattle.ltx_model.specs.Operations.{table_of, cell_of_write, looks_into, looks_into_table, writes_of}
use Rattle.ltx_model.specs.Agenda.{LiveSlot, is_member, part_before}
use Rattle.ltx_model.specs.States.{State, LiveBatch, live_batches}
use Rattle.ltx_model.specs.Records.{Records}
use Rattle.ltx_model.specs.Batches.{batch_operations, preserves_what_looks, overtakes, IsOvertakenLive, IsTarget, overtaken_live, is_from, may_still_read, elder_reader, MayRead}
use Rattle.ltx_agenda.specs.Placed.{Listed}
use Rattle.ltx_long.specs.Longs.{Long}
use Rattle.ltx_forward.specs.declared.decide.Live.{Live}
use Rattle.ltx_forward.specs.Asked.{IsAsked}
use Rattle.ltx_forward.specs.Waits.{write_some}
use Rattle.ltx_model.proofs.CellOrder.{same_cell_refl}
use Rattle.ltx_lemmas.proofs.Lists.{some_same, none_some, any_item, any_contains, find_passes, find_contains, find_not, all_contains, contains_cases}
use Rattle.ltx_lemmas.proofs.Members.{is_one, before_total, same_number}
use Rattle.ltx_lemmas.proofs.Searches.{numbered_item, write_at, is_written_of}
use Rattle.ltx_forward.proofs.Waiting.{into_table, live_rising}

-- the first of a rising list that passes a test has the least number of those that do
first_number : {A : Type 0} (f : A → ℕ) (test : A → Bool) (xs : List A) (x y : A) → IsPairwise (λ a b. f a < f b) xs → find test xs ≡ Some x → Contains xs y → test y ≡ true → f x ≤ f y
first_number f test [] x y rising is here passes = absurd (none_some is)
first_number {A} f test (z ∷ zs) x y rising is here passes = by_test (test z) refl is (contains_cases z zs y here) (λ h c. first_number f test zs x y rising.1 h c passes) where
  by_test : (b : Bool) → test z ≡ b → cond b (Some z) (find test zs) ≡ Some x → (z ≡ y) ⊎ Contains zs y → (find test zs ≡ Some x → Contains zs y → f x ≤ f y) → f x ≤ f y
  by_test true e h (inl same) later = let one : f x ≡ f y = ap f (sym (some_same h) ∙ same) in omega (arith, one)
  by_test true e h (inr there) later = let less : f z < f y = all_contains (λ (a : A). f z < f a) zs y rising.0 there in let one : f z ≡ f x = ap f (some_same h) in omega (arith, less, one)
  by_test false e h (inl same) later = absurd (both_ways (test y) (sym (ap test same) ∙ e) passes)
  by_test false e h (inr there) later = later h there

-- what is found, and its number
number_found : {A : Type 0} (f : A → ℕ) (o : Option A) (n : ℕ) → option_map f o ≡ Some n → (x : A) × (o ≡ Some x) × (f x ≡ n)
number_found f None n e = absurd (none_some e)
number_found f (Some x) n e = (x, refl, some_same e)

nothing_found : {A : Type 0} (f : A → ℕ) (o : Option A) → option_map f o ≡ None → o ≡ None
nothing_found f None e = refl
nothing_found f (Some x) e = absurd (none_some (sym e))

module _ (s : State) (i : LiveBatch) (tx : Long) (writes : List Write) (lives : List Live) (records : Records) (agenda : Listed) (a : IsAsked s i tx writes lives records agenda) where
  abbrev ops : List Op
  ops = batch_operations i

  abbrev bs : List LiveBatch
  bs = live_batches s

  abbrev preserved_test : LiveBatch → Op → Bool
  preserved_test b op = has_table b.declared.writes (table_of op) && looks_into_table ops (table_of op)

  -- a live batch: what the test says, both ways
  live_told : (b : LiveBatch) → Contains bs b → preserves_what_looks i b ≡ true → IsOvertakenLive s i b.tx.number
  live_told b here e =
      let parts = and_parts (nat_lt b.tx.number i.tx.number) (list_any (preserved_test b) ops) e in
      let found = any_item (preserved_test b) ops parts.1 in
      let both = and_parts (has_table b.declared.writes (table_of found.0)) (looks_into_table ops (table_of found.0)) found.2 in
      record { batch = b; live = here; number = refl; smaller = ltb-true b.tx.number i.tx.number parts.0; table = table_of found.0; preserves = both.0; looks = both.1 }

  live_preserves : (j : ℕ) (o : IsOvertakenLive s i j) → preserves_what_looks i o.batch ≡ true
  live_preserves j o =
      let at = any_item (λ (x : Numbered Op). looks_into o.table x.earlier x.item) (numbered ops) o.looks in
      let same : table_of at.0.item ≡ o.table = into_table o.table at.0.earlier at.0.item at.2 in
      let passes : preserved_test o.batch at.0.item ≡ true = subst (λ t. (has_table o.batch.declared.writes t && looks_into_table ops t) ≡ true) (sym same) (rw (o.preserves, o.looks) refl) in
      let smaller : nat_lt o.batch.tx.number i.tx.number ≡ true = lt-ltb o.batch.tx.number i.tx.number (subst (λ n. n < i.tx.number) (sym o.number) o.smaller) in
      rw (smaller, any_contains (preserved_test o.batch) ops at.0.item (numbered_item ops at.0 at.1) passes) refl

  slot_told : (n : ℕ) → overtakes s i (LiveSlot n) ≡ true → IsOvertakenLive s i n
  slot_told n e =
      let found = any_item (λ (b : LiveBatch). (b.tx.number == n) && preserves_what_looks i b) bs e in
      let parts = and_parts (found.0.tx.number == n) (preserves_what_looks i found.0) found.2 in
      subst (IsOvertakenLive s i) (eqb-true found.0.tx.number n parts.0) (live_told found.0 found.1 parts.1)

  slot_passes : (j : ℕ) (o : IsOvertakenLive s i j) → overtakes s i (LiveSlot o.batch.tx.number) ≡ true
  slot_passes j o = any_contains (λ (b : LiveBatch). (b.tx.number == o.batch.tx.number) && preserves_what_looks i b) bs o.batch o.live (rw (same_number o.batch.tx.number, live_preserves j o) refl)

  -- there is one target alone
  pub one_target : (p q : ℕ) → IsTarget s i p → IsTarget s i q → p ≡ q
  one_target p q t u = by_one (is_one p q) where
    by_one : (p ≡ q) ⊎ (p ≢ q) → p ≡ q
    by_one (inl same) = same
    by_one (inr other) = absurd (let ahead = before_total s.agenda p q t.member other (u.first p t.overtaken) in let no : ⊥ = both_ways (is_member (part_before p s.agenda) q) (t.first q u.overtaken) ahead in no)

  rising : IsPairwise (λ (b c : LiveBatch). b.tx.number < c.tx.number) bs
  rising = live_rising s i tx writes lives records agenda a

  -- The overtaken live batch that the function gives is the least one, and where it gives none there is none.
  pub overtaken_least : (k : ℕ) → overtaken_live s i ≡ Some k → IsOvertakenLive s i k × ((j : ℕ) → IsOvertakenLive s i j → k ≤ j)
  overtaken_least k e =
      let test : LiveBatch → Bool = λ b. overtakes s i (LiveSlot b.tx.number) in
      let (b, found, number) = number_found (λ (b : LiveBatch). b.tx.number) (find test bs) k e in (
        subst (IsOvertakenLive s i) number (slot_told b.tx.number (find_passes test bs b found)),
        (λ j o. let le = first_number (λ (x : LiveBatch). x.tx.number) test bs b o.batch rising found o.live (slot_passes j o) in let other = o.number in omega (arith, le, number, other)),
      )

  pub none_overtaken : overtaken_live s i ≡ None → (j : ℕ) → IsOvertakenLive s i j → ⊥
  none_overtaken e j o =
      let test : LiveBatch → Bool = λ b. overtakes s i (LiveSlot b.tx.number) in
      both_ways (test o.batch) (find_not test bs o.batch (nothing_found (λ (b : LiveBatch). b.tx.number) (find test bs) e) o.live) (slot_passes j o)

  -- a live batch may still read: the test and the relation
  reader_told : (p : ℕ) (k : LiveBatch) → may_still_read s i p k ≡ true → MayRead s i p k
  reader_told p k e =
      let parts = and_parts (nat_lt k.tx.number i.tx.number && is_from s p k.tx.number) (write_some (writes_of ops) k.declared.reads) e in
      let first = and_parts (nat_lt k.tx.number i.tx.number) (is_from s p k.tx.number) parts.0 in
      let found = any_item (λ (w : Write). has_table k.declared.reads w.table) (writes_of ops) parts.1 in
      record {
        smaller = ltb-true k.tx.number i.tx.number first.0;
        after = first.1;
        key = cell_of_write found.0;
        area = found.2;
        writes = sym (is_written_of (cell_of_write found.0) ops) ∙ any_contains (λ (w : Write). same_cell (cell_of_write w) (cell_of_write found.0)) (writes_of ops) found.0 found.1 (same_cell_refl (cell_of_write found.0));
      }

  reader_passes : (p : ℕ) (k : LiveBatch) → MayRead s i p k → may_still_read s i p k ≡ true
  reader_passes p k m =
      let (w, here, cell) = write_at m.key ops m.writes in
      let area : has_table k.declared.reads w.table ≡ true = ap (λ (c : Cell). has_table k.declared.reads c.table) cell ∙ m.area in
      let reads : write_some (writes_of ops) k.declared.reads ≡ true = any_contains (λ (v : Write). has_table k.declared.reads v.table) (writes_of ops) w here area in
      let smaller : nat_lt k.tx.number i.tx.number ≡ true = lt-ltb k.tx.number i.tx.number m.smaller in
      rw (smaller, m.after, reads) refl

  -- The least elder that may still read.
  pub record IsLeastReader (p k : ℕ) : Type 0 where
    pub batch : LiveBatch
    pub live : Contains (live_batches s) batch
    pub number : batch.tx.number ≡ k
    pub reads : MayRead s i p batch
    pub least : (other : LiveBatch) → Contains (live_batches s) other → MayRead s i p other → k ≤ other.tx.number

  pub reader_least : (p k : ℕ) → elder_reader s i p ≡ Some k → IsLeastReader p k
  reader_least p k e =
      let (b, found, same) = number_found (λ (b : LiveBatch). b.tx.number) (find (may_still_read s i p) bs) k e in
      record {
        batch = b;
        live = find_contains (may_still_read s i p) bs b found;
        number = same;
        reads = reader_told p b (find_passes (may_still_read s i p) bs b found);
        least = λ other here m. let le = first_number (λ (x : LiveBatch). x.tx.number) (may_still_read s i p) bs b other rising found here (reader_passes p other m) in omega (arith, le, same);
      }

  pub no_reader : (p : ℕ) → elder_reader s i p ≡ None → (k : LiveBatch) → Contains bs k → MayRead s i p k → ⊥
  no_reader p e k here m = both_ways (may_still_read s i p k) (find_not (may_still_read s i p) bs k (nothing_found (λ (b : LiveBatch). b.tx.number) (find (may_still_read s i p) bs) e) here) (reader_passes p k m)
