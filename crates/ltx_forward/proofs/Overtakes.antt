-- Whom a live batch overtakes by what is recorded is whom it overtakes in the state, and the earliest of them is its target.
use Rattle.std.proofs.Common.{◌≡◌, ◌⊎◌, inl, inr, ℕ, ◌<◌, ◌≤◌, nat_lt, lt-ltb, ltb-true, Bool, true, false, cond, ◌&&◌, ◌==◌, List, [], ◌∷◌, map, Option, Some, None, option_map, refl, sym, ap, ◌∙◌, subst, arith, Contains, eq-eqb, filter}
use Rattle.std.proofs.lemmas.Bool.{and_parts, both_ways, eqb-true}
use Rattle.std.specs.List.{list_any}
use Rattle.ltx_model.specs.declared.commands.Op.{Op}
use Rattle.ltx_model.specs.declared.commands.Op.TheVariants.{Get, Scan, Put, Del}
use Rattle.ltx_model.specs.declared.writes.Write.{Write}
use Rattle.ltx_model.specs.Lists.{Numbered, numbered, from_first}
use Rattle.ltx_model.specs.Tables.{has_table}
use Rattle.ltx_model.specs.Keys.{Cell, same_cell}
use Rattle.ltx_model.specs.Operations.{Transaction, operations, table_of, cell_of_write, looks_up, looks_up_key, looks_into, looks_into_table, writes_of}
use Rattle.ltx_model.specs.Agenda.{Member, LiveSlot, Committed, number_of, has_number, is_member, part_before, commits_after, has_slot}
use Rattle.ltx_model.specs.States.{State, Step, LiveBatch, live_batches}
use Rattle.ltx_model.specs.declared.writes.Look.{Look}
use Rattle.ltx_model.specs.Notes.{notes_look_up}
use Rattle.ltx_model.specs.NoteLists as note_lists
use Rattle.ltx_model.specs.Marks.{IsNumberOfCommit}
use Rattle.ltx_model.specs.Batches.{batch_operations, committed_ahead, writes_what_looks, preserves_what_looks, overtakes, target, Overtakes, IsOvertakenCommit, IsOvertakenLive, IsTarget, counts_for_floor, from_floor, is_from_floor}
use Rattle.ltx_model.specs.Records.{Recorded, Records, IsRecordOf, IsKeptWhole}
use Rattle.ltx_model.specs.Decisions as decisions
use Rattle.ltx_model.specs.Decisions.{IsAskedLook, IsPlace, place_by, live_of, overtaken}
use Rattle.ltx_model.specs.LastWrites.{last_write}
use Rattle.ltx_model.specs.Listings.{place_of}
use Rattle.ltx_model.specs.Explained.{IsDistinct}
use Rattle.ltx_model.proofs.CellOrder.{same_cell_refl}
use Rattle.ltx_lemmas.specs.Places.{AreApart}
use Rattle.ltx_lemmas.proofs.Lists.{true_false, some_same, none_some, any_contains, any_item, all_contains, map_item, map_here, filter_here, filter_item, find_none_from, all_from, contains_none, contains_cases}
use Rattle.ltx_lemmas.proofs.Members.{apart_one}
use Rattle.ltx_lemmas.proofs.Serials.{serial_here, serial_member}
use Rattle.ltx_lemmas.proofs.Searches.{write_at, is_written_of, numbered_item}
use Rattle.ltx_agenda.specs.Placed.{Listed}
use Rattle.ltx_long.specs.Longs.{Long}
use Rattle.ltx_forward.specs.declared.decide.Live.{Live}
use Rattle.ltx_forward.specs.Asked.{IsAsked, told}
use Rattle.ltx_forward.specs.Earliest.{Improves, IsAfter, IsWriterBy, IsElder, IsOvertaken}
use Rattle.ltx_forward.proofs.Places.{listed_member, ahead_before, before_ahead, earliest_found, own_live, asked_own}
use Rattle.ltx_forward.proofs.InOrder.{AreFound, found_all}
use Rattle.ltx_forward.proofs.Placeable.{placeable_of, overtaken_member}
use Rattle.ltx_forward.proofs.NotesTell.{notes_tell, notes_tell_tables}

-- ---- the tests and the relations

both : (a b : Bool) → a ≡ true → b ≡ true → (a && b) ≡ true
both a b x y = rw (x, y) refl

-- an operation that looks into a table is one of the table
into_table : (table : ℕ) (earlier : List Op) (op : Op) → looks_into table earlier op ≡ true → table_of op ≡ table
into_table table earlier (Get t key) e = eqb-true t table (and_parts (t == table) (looks_up (record { table = t; key = key }) earlier (Get t key)) e).0
into_table table earlier (Scan t low high) e = eqb-true t table e
into_table table earlier (Put t key value) e = absurd (true_false (sym e))
into_table table earlier (Del t key) e = absurd (true_false (sym e))

looked_into : (ops : List Op) (table : ℕ) → looks_into_table ops table ≡ true → (op : Op) × Contains ops op × (table_of op ≡ table)
looked_into ops table e =
    let found = any_item (λ (o : Numbered Op). looks_into table o.earlier o.item) (numbered ops) e in
    (found.0.item, numbered_item ops found.0 found.1, into_table table found.0.earlier found.0.item found.2)

-- whoever the test finds overtaken is overtaken
overtakes_is : (s : State) (i : LiveBatch) (m : Member) → Contains s.agenda m → overtakes s i m ≡ true → Overtakes s i (number_of m)
overtakes_is s i (Committed t) here e =
    let parts = and_parts (committed_ahead s i t) (writes_what_looks i t) e in
    let ahead = and_parts (commits_after s.moves i.tx.number t.number) (is_member (part_before i.tx.number s.agenda) t.number) parts.0 in
    let found = any_item (λ (w : Write). looks_up_key (batch_operations i) (cell_of_write w)) (writes_of (operations t)) parts.1 in
    let w : Write = found.0 in
    inl (record {
      tx = t;
      member = serial_here s.agenda t here;
      number = refl;
      later = ahead.0;
      before = ahead.1;
      key = cell_of_write w;
      writes = sym (is_written_of (cell_of_write w) (operations t)) ∙ any_contains (λ (v : Write). same_cell (cell_of_write v) (cell_of_write w)) (writes_of (operations t)) w found.1 (same_cell_refl (cell_of_write w));
      looks = found.2;
    })
overtakes_is s i (LiveSlot n) here e =
    let found = any_item (λ (b : LiveBatch). (b.tx.number == n) && preserves_what_looks i b) (live_batches s) e in
    let b : LiveBatch = found.0 in
    let parts = and_parts (b.tx.number == n) (preserves_what_looks i b) found.2 in
    let same : b.tx.number ≡ n = eqb-true b.tx.number n parts.0 in
    let test : Op → Bool = λ op. has_table b.declared.writes (table_of op) && looks_into_table (batch_operations i) (table_of op) in
    let looks = and_parts (nat_lt b.tx.number i.tx.number) (list_any test (batch_operations i)) parts.1 in
    let one = any_item test (batch_operations i) looks.1 in
    let of_one = and_parts (has_table b.declared.writes (table_of one.0)) (looks_into_table (batch_operations i) (table_of one.0)) one.2 in
    inr (record {
      batch = b;
      live = found.1;
      number = same;
      smaller = subst (λ k. k < i.tx.number) same (ltb-true b.tx.number i.tx.number looks.0);
      table = table_of one.0;
      preserves = of_one.0;
      looks = of_one.1;
    })

live_overtaken : (s : State) (i : LiveBatch) (j : ℕ) → IsOvertakenLive s i j → overtakes s i (LiveSlot j) ≡ true
live_overtaken s i j h =
    let b : LiveBatch = h.batch in
    let found = looked_into (batch_operations i) h.table h.looks in
    let op : Op = found.0 in
    let test : Op → Bool = λ op. has_table b.declared.writes (table_of op) && looks_into_table (batch_operations i) (table_of op) in
    let passes : test op ≡ true = both (has_table b.declared.writes (table_of op)) (looks_into_table (batch_operations i) (table_of op)) (ap (has_table b.declared.writes) found.2 ∙ h.preserves) (ap (looks_into_table (batch_operations i)) found.2 ∙ h.looks) in
    let smaller : nat_lt b.tx.number i.tx.number ≡ true = lt-ltb b.tx.number i.tx.number (subst (λ n. n < i.tx.number) (sym h.number) h.smaller) in
    let whole : preserves_what_looks i b ≡ true = both (nat_lt b.tx.number i.tx.number) (list_any test (batch_operations i)) smaller (any_contains test (batch_operations i) op found.1 passes) in
    any_contains (λ (c : LiveBatch). (c.tx.number == j) && preserves_what_looks i c) (live_batches s) b h.live (both (b.tx.number == j) (preserves_what_looks i b) (eq-eqb b.tx.number j h.number) whole)

-- a slot is no committed member
slot_or_commit : (n : ℕ) (t : Transaction) → LiveSlot n ≡ Committed t → ⊥
slot_or_commit n t e = cc

-- whoever is overtaken is so by the test
overtakes_from : (s : State) (i : LiveBatch) → AreApart s.agenda → ((b : LiveBatch) → Contains (live_batches s) b → Contains s.agenda (LiveSlot b.tx.number))
    → (j : ℕ) → Overtakes s i j → (y : Member) → Contains s.agenda y → number_of y ≡ j → overtakes s i y ≡ true
overtakes_from s i apart slots j (inl c) y here number =
    let same : Committed c.tx ≡ y = apart_one s.agenda (Committed c.tx) y apart (serial_member s.agenda c.tx c.member) here (c.number ∙ sym number) in
    let w = write_at c.key (operations c.tx) c.writes in
    let looks : writes_what_looks i c.tx ≡ true = any_contains (λ (v : Write). looks_up_key (batch_operations i) (cell_of_write v)) (writes_of (operations c.tx)) w.0 w.1 (ap (looks_up_key (batch_operations i)) w.2 ∙ c.looks) in
    let ahead : committed_ahead s i c.tx ≡ true = both (commits_after s.moves i.tx.number c.tx.number) (is_member (part_before i.tx.number s.agenda) c.tx.number)
    (ap (commits_after s.moves i.tx.number) c.number ∙ c.later) (ap (is_member (part_before i.tx.number s.agenda)) c.number ∙ c.before) in
    subst (λ m. overtakes s i m ≡ true) same (both (committed_ahead s i c.tx) (writes_what_looks i c.tx) ahead looks)
overtakes_from s i apart slots j (inr l) y here number =
    let same : LiveSlot l.batch.tx.number ≡ y = apart_one s.agenda (LiveSlot l.batch.tx.number) y apart (slots l.batch l.live) here (l.number ∙ sym number) in
    subst (λ m. overtakes s i m ≡ true) same (subst (λ n. overtakes s i (LiveSlot n) ≡ true) (sym l.number) (live_overtaken s i j l))

-- ---- a member that passes a test is from the first one on that does

first_from : {A : Type 0} (test : A → Bool) (xs : List A) (x : A) → Contains xs x → test x ≡ true → Contains (from_first test xs) x
first_from test [] x here is = absurd (contains_none x here)
first_from test (y ∷ ys) x here is = by_test (test y) refl (contains_cases y ys x here) (first_from test ys x) where
  by_test : (b : Bool) → test y ≡ b → (y ≡ x) ⊎ Contains ys x → (Contains ys x → test x ≡ true → Contains (from_first test ys) x) → Contains (cond b (y ∷ ys) (from_first test ys)) x
  by_test true e place later = here
  by_test false e (inl same) later = absurd (both_ways (test y) e (ap test same ∙ is))
  by_test false e (inr c) later = later c is

-- ---- what is recorded and the state

module _ (s : State) (i : LiveBatch) (tx : Long) (writes : List Write) (lives : List Live) (records : Records) (agenda : Listed) (asked : IsAsked s i tx writes lives records agenda) where
  abbrev tells : Step → Cell → Option Look → Type 0
  tells step = IsAskedLook (is_from_floor s) (last_write s.base i.snapshot)

  looks_same : (cell : Cell) → notes_look_up tx.list.notes cell ≡ looks_up_key (batch_operations i) cell
  looks_same cell = let d = asked.decidable in notes_tell tells i d.active d.tx tx.list.notes d.noted cell

  tables_same : (table : ℕ) → list_any (note_lists.looks_into_table table) tx.list.notes ≡ looks_into_table (batch_operations i) table
  tables_same table = let d = asked.decidable in notes_tell_tables tells i d.active d.tx tx.list.notes d.noted table

  own_here : Contains (live_batches s) i
  own_here = let d = asked.decidable in own_live s i d.active d.open_in d.kind d.tx

  pub apart : AreApart s.agenda
  apart = let d = asked.decidable in subst IsDistinct d.listed d.distinct

  -- by what is recorded: in the state
  elder_is : (n : ℕ) → IsElder tx lives n → IsOvertakenLive s i n
  elder_is n e =
      let d = asked.decidable in
      let here : Contains (map live_of (live_batches s)) (told e.live) = subst (λ ls. Contains ls (told e.live)) d.live (map_here told lives e.live e.here) in
      let found = map_item live_of (live_batches s) (told e.live) here in
      record {
        batch = found.0;
        live = found.1;
        number = ap (λ (l : decisions.Live). l.number) found.2 ∙ e.number;
        smaller = subst (λ k. k < i.tx.number) e.number (subst (λ k. e.live.tx < k) asked.number e.smaller);
        table = e.table;
        preserves = ap (λ (l : decisions.Live). has_table l.writes e.table) found.2 ∙ e.preserves;
        looks = sym (tables_same e.table) ∙ e.looks;
      }

  writer_is : (n mark : ℕ) → tx.live ≡ Some mark → IsWriterBy records agenda.list tx.tx mark tx.list.notes n → IsOvertakenCommit s i n
  writer_is n mark live w =
      let d = asked.decidable in
      let r : Recorded = w.writer.entry in
      let is = all_contains (IsRecordOf s) records.kept r d.recorded.told w.writer.kept in
      let same : mark ≡ asked.mark = some_same (sym live ∙ asked.live) in
      let numbered_as : IsNumberOfCommit s.moves n r.mark = subst (λ k. IsNumberOfCommit s.moves k r.mark) w.writer.number is.mark in
      let slotted : has_slot s.moves n ≡ true = ap (has_slot s.moves) (sym w.writer.number) ∙ is.batch ∙ w.writer.batch in
      let later : nat_lt asked.mark r.mark ≡ true = lt-ltb asked.mark r.mark (subst (λ k. k < r.mark) same w.writer.later) in
      record {
        tx = is.tx;
        member = is.member;
        number = is.number ∙ w.writer.number;
        later = d.alike n r.mark numbered_as ∙ both (has_slot s.moves n) (nat_lt asked.mark r.mark) slotted later;
        before = subst (λ k. is_member (part_before k s.agenda) n ≡ true) asked.number (ahead_before s.agenda agenda.list d.listed n tx.tx (asked_own s i tx writes lives records agenda asked) w.writer.ahead);
        key = w.cell;
        writes = is.writes w.cell w.writer.written;
        looks = sym (looks_same w.cell) ∙ w.looks;
      }

  pub overtaken_is : (n : ℕ) → IsOvertaken tx lives records agenda.list n → Overtakes s i n
  overtaken_is n o = by_way o.by where
    by_way : IsElder tx lives n ⊎ IsWriterBy records agenda.list tx.tx o.mark tx.list.notes n → Overtakes s i n
    by_way (inl e) = inr (elder_is n e)
    by_way (inr w) = inl (writer_is n o.mark o.live w)

  -- in the state: by what is recorded
  elder_from : (n : ℕ) → IsOvertakenLive s i n → IsElder tx lives n
  elder_from n l =
      let d = asked.decidable in
      let here : Contains (map told lives) (live_of l.batch) = subst (λ ls. Contains ls (live_of l.batch)) (sym d.live) (map_here live_of (live_batches s) l.batch l.live) in
      let found = map_item told lives (live_of l.batch) here in
      let same : found.0.tx ≡ n = ap (λ (x : decisions.Live). x.number) found.2 ∙ l.number in
      record {
        live = found.0;
        here = found.1;
        number = same;
        smaller = subst (λ k. k < tx.tx) (sym same) (subst (λ k. n < k) (sym asked.number) l.smaller);
        table = l.table;
        preserves = ap (λ (x : decisions.Live). has_table x.writes l.table) found.2 ∙ l.preserves;
        looks = tables_same l.table ∙ l.looks;
      }

  kept_whole : (n : ℕ) (c : IsOvertakenCommit s i n) → IsKeptWhole records c.tx
  kept_whole n c =
      let d = asked.decidable in
      let counts : counts_for_floor s (Committed c.tx) ≡ true = any_contains (λ (b : LiveBatch). commits_after s.moves b.tx.number c.tx.number) (live_batches s) i own_here (ap (commits_after s.moves i.tx.number) c.number ∙ c.later) in
      d.recorded.whole c.tx (serial_here (from_floor s) c.tx (first_from (counts_for_floor s) s.agenda (Committed c.tx) (serial_member s.agenda c.tx c.member) counts))

  writer_from : (n : ℕ) → IsOvertakenCommit s i n → IsWriterBy records agenda.list tx.tx asked.mark tx.list.notes n
  writer_from n c =
      let d = asked.decidable in
      let whole = kept_whole n c in
      let r : Recorded = whole.entry in
      let is = all_contains (IsRecordOf s) records.kept r d.recorded.told whole.kept in
      let same : r.number ≡ n = whole.number ∙ c.number in
      let numbered_as : IsNumberOfCommit s.moves n r.mark = subst (λ k. IsNumberOfCommit s.moves k r.mark) same is.mark in
      let parts = and_parts (has_slot s.moves n) (nat_lt asked.mark r.mark) (sym (d.alike n r.mark numbered_as) ∙ c.later) in
      record {
        cell = c.key;
        looks = looks_same c.key ∙ c.looks;
        writer = record {
          entry = r;
          kept = whole.kept;
          number = same;
          batch = sym is.batch ∙ ap (has_slot s.moves) same ∙ parts.0;
          later = ltb-true asked.mark r.mark parts.1;
          written = whole.writes c.key c.writes;
          ahead = before_ahead s.agenda agenda.list d.listed n tx.tx (subst (λ k. is_member (part_before k s.agenda) n ≡ true) (sym asked.number) c.before);
        };
      }

  pub overtaken_from : (n : ℕ) → Overtakes s i n → IsOvertaken tx lives records agenda.list n
  overtaken_from n (inl c) = record { mark = asked.mark; live = asked.live; by = inr (writer_from n c) }
  overtaken_from n (inr l) = record { mark = asked.mark; live = asked.live; by = inl (elder_from n l) }

  -- a member's test
  pub test_from : (n : ℕ) → Overtakes s i n → (y : Member) → Contains s.agenda y → number_of y ≡ n → overtakes s i y ≡ true
  test_from n over y here number = let d = asked.decidable in overtakes_from s i apart d.slots n over y here number

  pub test_is : (y : Member) → Contains s.agenda y → overtakes s i y ≡ true → Overtakes s i (number_of y)
  test_is y here e = overtakes_is s i y here e

  -- ---- the target

  false_unless : (b : Bool) → (b ≡ true → ⊥) → b ≡ false
  false_unless true never = absurd (never refl)
  false_unless false never = refl

  place_none : Improves agenda.list (λ n. IsOvertaken tx lives records agenda.list n × IsAfter agenda.list None n) None None → (j : ℕ) → Overtakes s i j → ⊥
  place_none one j over = one.bound j (overtaken_from j over, tt)

  place_some : (p : ℕ) → Improves agenda.list (λ n. IsOvertaken tx lives records agenda.list n × IsAfter agenda.list None n) None (Some p) → IsTarget s i p
  place_some p one =
      let d = asked.decidable in
      record {
        overtaken = by_origin (one.origin p refl);
        member = sym (listed_member s.agenda agenda.list d.listed p) ∙ one.member tt;
        first = λ j over. false_unless (is_member (part_before p s.agenda) j) (λ e.
            let less = before_ahead s.agenda agenda.list d.listed j p e in
            let least : place_of agenda.list p ≤ place_of agenda.list j = one.bound j (overtaken_from j over, tt) in
            omega (arith, less, least));
      }
    where
      by_origin : (None ≡ Some p) ⊎ (IsOvertaken tx lives records agenda.list p × IsAfter agenda.list None p) → Overtakes s i p
      by_origin (inl e) = absurd (none_some e)
      by_origin (inr h) = overtaken_is p h.0

  -- the place as a relation
  pub is_place : (t : Option ℕ) → Improves agenda.list (λ n. IsOvertaken tx lives records agenda.list n × IsAfter agenda.list None n) None t → IsPlace s i (place_by t)
  is_place None one = place_none one
  is_place (Some p) one = place_some p one

  -- and as a function
  pub target_by : (t : Option ℕ) → IsPlace s i (place_by t) → t ≡ target s i
  unfolding target
  target_by None nobody = sym (ap (option_map number_of) (find_none_from (overtakes s i) s.agenda (all_from (λ m. overtakes s i m ≡ false) s.agenda (λ m here. false_unless (overtakes s i m) (λ e. nobody (number_of m) (test_is m here e))))))
  target_by (Some p) is =
      let found = any_item (has_number p) s.agenda is.member in
      let number : number_of found.0 ≡ p = eqb-true (number_of found.0) p found.2 in
      let at = earliest_found (overtakes s i) s.agenda apart found.0 found.1 (test_from p is.overtaken found.0 found.1 number)
      (λ x here e. ap (λ k. is_member (part_before k s.agenda) (number_of x)) number ∙ is.first (number_of x) (test_is x here e)) in
      sym (ap (option_map number_of) at ∙ ap Some number)

  -- ---- all whom it overtakes

  listed_there : (n : ℕ) → IsOvertaken tx lives records agenda.list n → Contains (map number_of (filter (overtakes s i) s.agenda)) n
  listed_there n o =
      let d = asked.decidable in
      let member : is_member s.agenda n ≡ true = sym (listed_member s.agenda agenda.list d.listed n) ∙ overtaken_member tx lives records agenda.list (placeable_of s i tx writes lives records agenda asked) n o in
      let found = any_item (has_number n) s.agenda member in
      let number : number_of found.0 ≡ n = eqb-true (number_of found.0) n found.2 in
      let passes : overtakes s i found.0 ≡ true = test_from n (overtaken_is n o) found.0 found.1 number in
      subst (λ k. Contains (map number_of (filter (overtakes s i) s.agenda)) k) number (map_here number_of (filter (overtakes s i) s.agenda) found.0 (filter_here (overtakes s i) s.agenda found.0 found.1 passes))

  listed_back : (n : ℕ) → Contains (map number_of (filter (overtakes s i) s.agenda)) n → IsOvertaken tx lives records agenda.list n
  listed_back n c =
      let found = map_item number_of (filter (overtakes s i) s.agenda) n c in
      let kept = filter_item (overtakes s i) s.agenda found.0 found.1 in
      subst (IsOvertaken tx lives records agenda.list) found.2 (overtaken_from (number_of found.0) (test_is found.0 kept.0 kept.1))

  pub overtaken_by : (found : List ℕ) → AreFound agenda.list (IsOvertaken tx lives records agenda.list) found None → found ≡ overtaken s i
  overtaken_by found are =
      let d = asked.decidable in
      found_all agenda.list (IsOvertaken tx lives records agenda.list) (overtaken_member tx lives records agenda.list (placeable_of s i tx writes lives records agenda asked)) number_of (overtakes s i) s.agenda d.listed d.distinct listed_there listed_back found are
