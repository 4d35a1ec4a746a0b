-- Whom a batch waits for, by the live batches that a decision is asked with.
use Rattle.std.proofs.Common.{◌≡◌, ◌⊎◌, inl, inr, ℕ, ◌<◌, nat_lt, Bool, true, false, cond, ◌&&◌, ◌==◌, List, [], ◌∷◌, map, Option, Some, None, option_map, refl, sym, ap, ◌∙◌, subst, arith, Contains}
use Rattle.std.specs.List.{find, list_any, AllByRecursion}
use Rattle.std.proofs.lemmas.Bool.{and_parts, both_ways, eqb-true, eq-eqb}
use Rattle.ltx_model.specs.declared.commands.Op.{Op}
use Rattle.ltx_model.specs.declared.commands.Op.TheVariants.{Get, Scan, Put, Del}
use Rattle.ltx_model.specs.declared.looked.Noted.{Noted}
use Rattle.ltx_model.specs.declared.writes.Write.{Write}
use Rattle.ltx_model.specs.Lists.{Numbered, numbered, IsPairwise}
use Rattle.ltx_model.specs.NoteLists as note_lists
use Rattle.ltx_model.specs.NoteLists.{looks_inside}
use Rattle.ltx_model.specs.Tables.{has_table}
use Rattle.ltx_model.specs.Operations.{table_of, writes_of, looks_up, looks_into, looks_into_table}
use Rattle.ltx_model.specs.Listings as listings
use Rattle.ltx_model.specs.Agenda.{LiveSlot}
use Rattle.ltx_model.specs.States.{State, LiveBatch, live_batches}
use Rattle.ltx_model.specs.Records.{Records}
use Rattle.ltx_model.specs.Batches.{batch_operations, preserves_what_looks, overtakes, overtaken_live, is_from, may_still_read, elder_reader}
use Rattle.ltx_model.specs.Decisions as decisions
use Rattle.ltx_model.specs.Decisions.{live_of}
use Rattle.ltx_agenda.specs.Placed.{Listed}
use Rattle.ltx_long.specs.Longs.{Long}
use Rattle.ltx_forward.specs.declared.decide.Live.{Live}
use Rattle.ltx_forward.specs.Asked.{IsAsked, told}
use Rattle.ltx_forward.specs.Lates.{stands_from}
use Rattle.ltx_forward.specs.Waits.{look_into_some, write_some, is_overtaken, may_read_from}
use Rattle.ltx_lemmas.proofs.Lists.{true_false, any_item, any_contains, any_none, all_from, all_contains, all_of_map, contains_cases, contains_none}
use Rattle.ltx_lemmas.proofs.Searches.{numbered_item}
use Rattle.ltx_forward.proofs.NotesTell.{notes_tell_tables}
use Rattle.ltx_forward.proofs.StandsFrom.{from_stands}
use Rattle.ltx_forward.proofs.TableSets.{same_tests}

-- a search through a map
find_map : {A B : Type 0} (f : A → B) (test : B → Bool) (xs : List A) → option_map f (find (λ x. test (f x)) xs) ≡ find test (map f xs)
find_map f test [] = refl
find_map {A} {B} f test (x ∷ xs) = by_test (test (f x)) (find_map f test xs) where
  by_test : (b : Bool) → option_map f (find (λ x. test (f x)) xs) ≡ find test (map f xs) → option_map f (cond b (Some x) (find (λ x. test (f x)) xs)) ≡ cond b (Some (f x)) (find test (map f xs))
  by_test true e = refl
  by_test false e = e

find_agree : {A : Type 0} (p q : A → Bool) (xs : List A) → AllByRecursion (λ x. p x ≡ q x) xs → find p xs ≡ find q xs
find_agree p q [] all = refl
find_agree {A} p q (x ∷ xs) all = ap (λ b. cond b (Some x) (find p xs)) all.0 ∙ ap (λ (o : Option A). cond (q x) (Some x) o) (find_agree p q xs all.1)

map_twice : {A B C : Type 0} (f : A → B) (g : B → C) (o : Option A) → option_map g (option_map f o) ≡ option_map (λ x. g (f x)) o
map_twice f g None = refl
map_twice f g (Some x) = refl

-- the pairs of a mapped list
pairs_of_map : {A B : Type 0} (R : B → B → Type 0) (f : A → B) (xs : List A) → IsPairwise R (map f xs) → IsPairwise (λ a b. R (f a) (f b)) xs
pairs_of_map R f [] pairs = tt
pairs_of_map R f (x ∷ xs) pairs = (all_of_map (R (f x)) f xs pairs.0, pairs_of_map R f xs pairs.1)

-- an item of a rising list is told by its number
one_rising : {A : Type 0} (f : A → ℕ) (xs : List A) → IsPairwise (λ a b. f a < f b) xs → (a b : A) → Contains xs a → Contains xs b → f a ≡ f b → a ≡ b
one_rising f [] rising a b here there same = absurd (contains_none a here)
one_rising {A} f (x ∷ xs) rising a b here there same = by_place (contains_cases x xs a here) (contains_cases x xs b there) (λ h t. one_rising f xs rising.1 a b h t same) where
  less : (y : A) → Contains xs y → f x < f y
  less y c = all_contains (λ (z : A). f x < f z) xs y rising.0 c

  by_place : (x ≡ a) ⊎ Contains xs a → (x ≡ b) ⊎ Contains xs b → (Contains xs a → Contains xs b → a ≡ b) → a ≡ b
  by_place (inl p) (inl q) later = sym p ∙ q
  by_place (inl p) (inr t) later = absurd (let l = less b t in let e : f x ≡ f b = ap f p ∙ same in let no : ⊥ = omega (arith, l, e) in no)
  by_place (inr h) (inl q) later = absurd (let l = less a h in let e : f x ≡ f a = ap f q ∙ sym same in let no : ⊥ = omega (arith, l, e) in no)
  by_place (inr h) (inr t) later = later h t

any_one : (f : LiveBatch → Bool) (bs : List LiveBatch) (b : LiveBatch) → IsPairwise (λ (a c : LiveBatch). a.tx.number < c.tx.number) bs → Contains bs b → list_any (λ c. (c.tx.number == b.tx.number) && f c) bs ≡ f b
any_one f bs b rising here = by_test (f b) refl where
  test : LiveBatch → Bool
  test c = (c.tx.number == b.tx.number) && f c

  own : (b.tx.number == b.tx.number) ≡ true
  own = eq-eqb b.tx.number b.tx.number refl

  by_test : (r : Bool) → f b ≡ r → list_any test bs ≡ r
  by_test true is = any_contains test bs b here (rw (own, is) refl)
  by_test false is = any_none test bs (λ c there. others c there (test c) refl) where
    others : (c : LiveBatch) → Contains bs c → (r : Bool) → test c ≡ r → test c ≡ false
    others c there false e = e
    others c there true e =
        let parts = and_parts (c.tx.number == b.tx.number) (f c) e in
        let same : c ≡ b = one_rising (λ (x : LiveBatch). x.tx.number) bs rising c b there here (eqb-true c.tx.number b.tx.number parts.0) in
        absurd (both_ways (f b) is (sym (ap f same) ∙ parts.1))

-- an operation that looks into a table is one of that table
pub into_table : (t : ℕ) (earlier : List Op) (op : Op) → looks_into t earlier op ≡ true → table_of op ≡ t
into_table t earlier (Get table key) e = eqb-true table t (and_parts (table == t) (looks_up (record { table = table; key = key }) earlier (Get table key)) e).0
into_table t earlier (Scan table low high) e = eqb-true table t e
into_table t earlier (Put table key value) e = absurd (true_false (sym e))
into_table t earlier (Del table key) e = absurd (true_false (sym e))

module _ (s : State) (i : LiveBatch) (tx : Long) (writes : List Write) (lives : List Live) (records : Records) (agenda : Listed) (a : IsAsked s i tx writes lives records agenda) where
  abbrev ops : List Op
  ops = batch_operations i

  abbrev bs : List LiveBatch
  bs = live_batches s

  pub live_rising : IsPairwise (λ (b c : LiveBatch). b.tx.number < c.tx.number) bs
  live_rising = pairs_of_map (λ (b c : decisions.Live). b.number < c.number) live_of bs (subst (IsPairwise (λ (b c : decisions.Live). b.number < c.number)) a.decidable.live a.decidable.rising)

  tables_told : (t : ℕ) → list_any (note_lists.looks_into_table t) tx.list.notes ≡ looks_into_table ops t
  tables_told t = notes_tell_tables _ i a.decidable.active a.decidable.tx tx.list.notes a.decidable.noted t

  -- into a table of a set, by the notes and by the operations
  some_told : (set : ℕ) → look_into_some tx.list.notes set ≡ list_any (λ op. has_table set (table_of op) && looks_into_table ops (table_of op)) ops
  some_told set = same_tests (look_into_some tx.list.notes set) (list_any test ops) there back where
    test : Op → Bool
    test op = has_table set (table_of op) && looks_into_table ops (table_of op)

    there : look_into_some tx.list.notes set ≡ true → list_any test ops ≡ true
    there e =
        let found = any_item (λ (note : Noted). looks_inside note.reach && has_table set note.table) tx.list.notes e in
        let note : Noted = found.0 in
        let parts = and_parts (looks_inside note.reach) (has_table set note.table) found.2 in
        let own : (note.table == note.table) ≡ true = eq-eqb note.table note.table refl in
        let into : looks_into_table ops note.table ≡ true = sym (tables_told note.table) ∙ any_contains (note_lists.looks_into_table note.table) tx.list.notes note found.1 (rw (own, parts.0) refl) in
        let at = any_item (λ (o : Numbered Op). looks_into note.table o.earlier o.item) (numbered ops) into in
        let same : table_of at.0.item ≡ note.table = into_table note.table at.0.earlier at.0.item at.2 in
        any_contains test ops at.0.item (numbered_item ops at.0 at.1) (subst (λ t. (has_table set t && looks_into_table ops t) ≡ true) (sym same) (rw (parts.1, into) refl))

    back : list_any test ops ≡ true → look_into_some tx.list.notes set ≡ true
    back e =
        let found = any_item test ops e in
        let t : ℕ = table_of found.0 in
        let parts = and_parts (has_table set (table_of found.0)) (looks_into_table ops (table_of found.0)) found.2 in
        let at = any_item (note_lists.looks_into_table (table_of found.0)) tx.list.notes (tables_told (table_of found.0) ∙ parts.1) in
        let both = and_parts (at.0.table == table_of found.0) (looks_inside at.0.reach) at.2 in
        let has : has_table set at.0.table ≡ true = ap (has_table set) (eqb-true at.0.table (table_of found.0) both.0) ∙ parts.0 in
        any_contains (λ (note : Noted). looks_inside note.reach && has_table set note.table) tx.list.notes at.0 at.1 (rw (both.1, has) refl)

  -- the test of a live batch, as the definitions see it
  abbrev overtaken_test : decisions.Live → Bool
  overtaken_test l = nat_lt l.number tx.tx && look_into_some tx.list.notes l.writes

  abbrev reader_test : ℕ → decisions.Live → Bool
  reader_test p l = (nat_lt l.number tx.tx && write_some writes l.reads) && stands_from agenda.list p l.number

  overtaken_same : (b : LiveBatch) → Contains bs b → overtaken_test (live_of b) ≡ overtakes s i (LiveSlot b.tx.number)
  overtaken_same b here =
      ap (λ n. nat_lt b.tx.number n && look_into_some tx.list.notes b.declared.writes) a.number
      ∙ ap (λ r. nat_lt b.tx.number i.tx.number && r) (some_told b.declared.writes)
      ∙ sym (any_one (preserves_what_looks i) bs b live_rising here)

  and_turned : (x y z : Bool) → ((x && y) && z) ≡ (x && z && y)
  and_turned true true true = refl
  and_turned true true false = refl
  and_turned true false true = refl
  and_turned true false false = refl
  and_turned false y z = refl

  reader_same : (p : ℕ) → listings.is_member agenda.list p ≡ true → (b : LiveBatch) → reader_test p (live_of b) ≡ may_still_read s i p b
  reader_same p here b =
      and_turned (nat_lt b.tx.number tx.tx) (write_some writes b.declared.reads) (stands_from agenda.list p b.tx.number)
      ∙ ap (λ (f : ℕ → Bool). nat_lt b.tx.number tx.tx && f b.tx.number && write_some writes b.declared.reads) (from_stands s i tx writes lives records agenda a p here)
      ∙ ap (λ (ws : List Write). nat_lt b.tx.number tx.tx && is_from s p b.tx.number && write_some ws b.declared.reads) a.decidable.written
      ∙ ap (λ n. nat_lt b.tx.number n && is_from s p b.tx.number && write_some (writes_of ops) b.declared.reads) a.number

  -- a search among those that were told is one among the live batches
  searched : (test : decisions.Live → Bool) (q : LiveBatch → Bool) → ((b : LiveBatch) → Contains bs b → test (live_of b) ≡ q b) → option_map (λ (l : Live). l.tx) (find (λ (l : Live). test (told l)) lives) ≡ option_map (λ (b : LiveBatch). b.tx.number) (find q bs)
  searched test q same =
      sym (map_twice told (λ (l : decisions.Live). l.number) (find (λ (l : Live). test (told l)) lives))
      ∙ ap (option_map (λ (l : decisions.Live). l.number)) (find_map told test lives ∙ ap (find test) a.decidable.live ∙ sym (find_map live_of test bs))
      ∙ map_twice live_of (λ (l : decisions.Live). l.number) (find (λ (b : LiveBatch). test (live_of b)) bs)
      ∙ ap (option_map (λ (b : LiveBatch). b.tx.number)) (find_agree (λ (b : LiveBatch). test (live_of b)) q bs (all_from (λ (b : LiveBatch). test (live_of b) ≡ q b) bs same))

  -- The first of the live batches that is overtaken is the least one.
  pub first_overtaken_is : option_map (λ (l : Live). l.tx) (find (is_overtaken tx.tx tx.list.notes) lives) ≡ overtaken_live s i
  first_overtaken_is = searched overtaken_test (λ (b : LiveBatch). overtakes s i (LiveSlot b.tx.number)) overtaken_same

  -- The first of the live batches that may still read is the least elder that may.
  pub first_reader_is : (p : ℕ) → listings.is_member agenda.list p ≡ true → option_map (λ (l : Live). l.tx) (find (may_read_from agenda.list p tx.tx writes) lives) ≡ elder_reader s i p
  first_reader_is p here = searched (reader_test p) (may_still_read s i p) (λ b c. reader_same p here b)
