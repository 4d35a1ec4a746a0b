-- Who is contradicted at a target by the records and the list of the agenda is so in the state, and the other way round.
use Rattle.std.proofs.Common.{◌≡◌, ℕ, ◌<◌, ◌≤◌, Bool, true, false, cond, ◌||◌, ltb, List, [], ◌∷◌, map, refl, sym, ap, ◌∙◌, subst, arith, Contains}
use Rattle.std.proofs.lemmas.Bool.{eqb-true, eq-eqb, both_ways, false_from_ne_true, ltb-true, lt-ltb, ltb-false}
use Rattle.std.specs.List.{filter}
use Rattle.ltx_model.specs.declared.writes.Write.{Write}
use Rattle.ltx_model.specs.Keys.{Cell}
use Rattle.ltx_model.specs.Operations.{Transaction, operations, looks_up_key, writes_key}
use Rattle.ltx_model.specs.Agenda.{Member, Committed, number_of, has_number, is_member, serial, part_before, part_from}
use Rattle.ltx_model.specs.Listings as listings
use Rattle.ltx_model.specs.Listings.{place_of}
use Rattle.ltx_model.specs.States.{State, LiveBatch}
use Rattle.ltx_model.specs.Batches.{IsTarget, counts_for_floor, from_floor}
use Rattle.ltx_model.specs.Records.{Recorded, Records, looked_up, has_written, covering, writers, IsRecordOf, IsKeptWhole, AreRecordsOf}
use Rattle.ltx_agenda.specs.Placed.{Listed}
use Rattle.ltx_long.specs.Longs.{Long}
use Rattle.ltx_lemmas.specs.Places.{is_before, is_at_or_after, AreApart}
use Rattle.ltx_lemmas.proofs.Lists.{any_contains, any_item, before_contains, from_contains, all_contains, filter_here, filter_item, map_item, map_here}
use Rattle.ltx_lemmas.proofs.Members.{apart_tail, apart_one, from_when_not_before, from_not_before}
use Rattle.ltx_lemmas.proofs.Serials.{serial_here, serial_member, serial_is_member}
use Rattle.ltx_forward.specs.declared.decide.Live.{Live}
use Rattle.ltx_forward.specs.Asked.{IsAsked}
use Rattle.ltx_forward.specs.Contradicted.{IsContradictedReader}
use Rattle.ltx_forward.proofs.Places.{listed_member, before_told}
use Rattle.ltx_forward.proofs.FromFloor.{asked_apart, from_target}

-- A committed reader of the key from p on, while no committed writer of the key from p on stands before it.
pub record IsContradictedAt (s : State) (p : ℕ) (cell : Cell) (n : ℕ) : Type 0 where
  pub reader : Transaction
  pub number : reader.number ≡ n
  pub after : Contains (serial (part_from p s.agenda)) reader
  pub looks : looks_up_key (operations reader) cell ≡ true
  pub unwritten : (t : Transaction) → Contains (serial (part_before n (part_from p s.agenda))) t → writes_key (operations t) cell ≡ false

-- of two members from a place on, one stands before the other there as in the whole list
before_in_part : (ms : List Member) (p a b : ℕ) → AreApart ms → is_at_or_after ms a p ≡ true → is_at_or_after ms b p ≡ true → is_before (part_from p ms) a b ≡ is_before ms a b
before_in_part [] p a b apart ha hb = refl
before_in_part (m ∷ ms) p a b apart ha hb = by_test (has_number p m) ha hb (before_in_part ms p a b) where
  behind : (n : ℕ) → is_member (part_from p ms) n ≡ true → has_number n m ≡ false
  behind n e = false_from_ne_true (has_number n m) (λ is.
      let found = any_item (has_number n) (part_from p ms) e in
      let one : number_of found.0 ≡ number_of m = eqb-true (number_of found.0) n found.2 ∙ sym (eqb-true (number_of m) n is) in
      both_ways (is_member ms (number_of m)) (apart_tail m ms apart).0 (any_contains (has_number (number_of m)) ms found.0 (from_contains (has_number p) ms found.0 found.1) (eq-eqb (number_of found.0) (number_of m) one)))

  by_test : (r : Bool) → is_member (cond r (m ∷ ms) (part_from p ms)) a ≡ true → is_member (cond r (m ∷ ms) (part_from p ms)) b ≡ true
      → (AreApart ms → is_at_or_after ms a p ≡ true → is_at_or_after ms b p ≡ true → is_before (part_from p ms) a b ≡ is_before ms a b)
      → is_before (cond r (m ∷ ms) (part_from p ms)) a b ≡ is_before (m ∷ ms) a b
  by_test true ha hb later = refl
  by_test false ha hb later =
      later (apart_tail m ms apart).1 ha hb
      ∙ sym (ap (λ r. is_member (cond r [] (m ∷ part_before b ms)) a) (behind b hb) ∙ ap (λ r. r || is_before ms a b) (behind a ha))

-- a committed member whose number is in a part of the list is committed there
committed_in : (ms part : List Member) (t : Transaction) → AreApart ms → ((x : Member) → Contains part x → Contains ms x) → Contains (serial ms) t → is_member part t.number ≡ true → Contains (serial part) t
committed_in ms part t apart within here e =
    let found = any_item (has_number t.number) part e in
    let one : found.0 ≡ Committed t = apart_one ms found.0 (Committed t) apart (within found.0 found.1) (serial_member ms t here) (eqb-true (number_of found.0) t.number found.2) in
    serial_here part t (subst (Contains part) one found.1)

module _ (records : Records) (test : Recorded → Bool) where
  -- whoever is among those that pass is kept and passes
  kept_item : (n : ℕ) → Contains (map (λ r. r.number) (filter test records.kept)) n → (r : Recorded) × Contains records.kept r × (test r ≡ true) × (r.number ≡ n)
  kept_item n c =
      let found = map_item (λ (r : Recorded). r.number) (filter test records.kept) n c in
      let passes = filter_item test records.kept found.0 found.1 in
      (found.0, passes.0, passes.1, found.2)

  kept_here : (r : Recorded) → Contains records.kept r → test r ≡ true → Contains (map (λ r. r.number) (filter test records.kept)) r.number
  kept_here r c is = map_here (λ (r : Recorded). r.number) (filter test records.kept) r (filter_here test records.kept r c is)

module _ (s : State) (i : LiveBatch) (tx : Long) (writes : List Write) (lives : List Live) (records : Records) (agenda : Listed) (asked : IsAsked s i tx writes lives records agenda) where
  apart : AreApart s.agenda
  apart = asked_apart s i tx writes lives records agenda asked

  recorded : AreRecordsOf s records
  recorded = asked.decidable.recorded

  -- a number of the list is a member's
  pub listed_here : (n : ℕ) → is_member s.agenda n ≡ true → listings.is_member agenda.list n ≡ true
  listed_here n e = listed_member s.agenda agenda.list asked.decidable.listed n ∙ e

  -- one stands before another where it has the lesser place
  placed : (n m : ℕ) → is_member s.agenda m ≡ true → ltb (place_of agenda.list n) (place_of agenda.list m) ≡ is_before s.agenda n m
  placed n m here = before_told s.agenda agenda.list asked.decidable.listed n m (listed_here m here) (ltb (place_of agenda.list n) (place_of agenda.list m)) (ltb-true (place_of agenda.list n) (place_of agenda.list m), lt-ltb (place_of agenda.list n) (place_of agenda.list m))

  pub lesser_place : (n m : ℕ) → is_member s.agenda m ≡ true → is_before s.agenda n m ≡ true → place_of agenda.list n < place_of agenda.list m
  lesser_place n m here e = ltb-true (place_of agenda.list n) (place_of agenda.list m) (placed n m here ∙ e)

  pub before_place : (n m : ℕ) → is_member s.agenda m ≡ true → place_of agenda.list n < place_of agenda.list m → is_before s.agenda n m ≡ true
  before_place n m here less = sym (placed n m here) ∙ lt-ltb (place_of agenda.list n) (place_of agenda.list m) less

  pub not_before : (n m : ℕ) → is_member s.agenda m ≡ true → place_of agenda.list m ≤ place_of agenda.list n → is_before s.agenda n m ≡ false
  not_before n m here least = false_from_ne_true (is_before s.agenda n m) (λ e. let less = lesser_place n m here e in let no : ⊥ = omega (arith, less, least) in no)

  -- and from it on where it has no lesser place
  from_place : (n p : ℕ) → is_member s.agenda n ≡ true → is_member s.agenda p ≡ true → place_of agenda.list p ≤ place_of agenda.list n → is_at_or_after s.agenda n p ≡ true
  from_place n p here place least = from_when_not_before s.agenda n p here (not_before n p place least)

  place_from : (n p : ℕ) → is_member s.agenda p ≡ true → is_at_or_after s.agenda n p ≡ true → place_of agenda.list p ≤ place_of agenda.list n
  place_from n p place e = ltb-false (place_of agenda.list n) (place_of agenda.list p) (placed n p place ∙ from_not_before s.agenda n p apart e)

  -- what is told of a kept transaction
  record_of : (r : Recorded) → Contains records.kept r → IsRecordOf s r
  record_of r here = all_contains (IsRecordOf s) records.kept r recorded.told here

  module _ (p : ℕ) (target : IsTarget s i p) where
    -- a committed member from p on is kept whole
    kept_whole : (t : Transaction) → Contains (serial (part_from p s.agenda)) t → IsKeptWhole records t
    kept_whole t here =
        let member : Contains (serial s.agenda) t = serial_here s.agenda t (from_contains (has_number p) s.agenda (Committed t) (serial_member (part_from p s.agenda) t here)) in
        recorded.whole t (committed_in s.agenda (from_floor s) t apart (from_contains (counts_for_floor s) s.agenda) member
        (from_target s i tx writes lives records agenda asked p t.number target (serial_is_member (part_from p s.agenda) t here)))

    -- a committed member with no lesser place is one from p on
    committed_from : (t : Transaction) → Contains (serial s.agenda) t → place_of agenda.list p ≤ place_of agenda.list t.number → Contains (serial (part_from p s.agenda)) t
    committed_from t here least = committed_in s.agenda (part_from p s.agenda) t apart (from_contains (has_number p) s.agenda) here (from_place t.number p (serial_is_member s.agenda t here) target.member least)

    place_least : (t : Transaction) → Contains (serial (part_from p s.agenda)) t → place_of agenda.list p ≤ place_of agenda.list t.number
    place_least t here = place_from t.number p target.member (serial_is_member (part_from p s.agenda) t here)

    whole_list : (t : Transaction) → Contains (serial (part_from p s.agenda)) t → Contains (serial s.agenda) t
    whole_list t here = serial_here s.agenda t (from_contains (has_number p) s.agenda (Committed t) (serial_member (part_from p s.agenda) t here))

    -- those from p on that stand before a member
    ahead_in_part : (t : Transaction) (n : ℕ) → Contains (serial (part_from p s.agenda)) t → is_at_or_after s.agenda n p ≡ true → is_before s.agenda t.number n ≡ true → Contains (serial (part_before n (part_from p s.agenda))) t
    ahead_in_part t n here from e =
        committed_in s.agenda (part_before n (part_from p s.agenda)) t apart (λ x c. from_contains (has_number p) s.agenda x (before_contains (has_number n) (part_from p s.agenda) x c)) (whole_list t here)
        (before_in_part s.agenda p t.number n apart (serial_is_member (part_from p s.agenda) t here) from ∙ e)

    part_of_ahead : (t : Transaction) (n : ℕ) → Contains (serial (part_before n (part_from p s.agenda))) t → Contains (serial (part_from p s.agenda)) t
    part_of_ahead t n c = serial_here (part_from p s.agenda) t (before_contains (has_number n) (part_from p s.agenda) (Committed t) (serial_member (part_before n (part_from p s.agenda)) t c))

    ahead_of_part : (t : Transaction) (n : ℕ) → is_at_or_after s.agenda n p ≡ true → Contains (serial (part_before n (part_from p s.agenda))) t → is_before s.agenda t.number n ≡ true
    ahead_of_part t n from c =
        sym (before_in_part s.agenda p t.number n apart (serial_is_member (part_from p s.agenda) t (part_of_ahead t n c)) from)
        ∙ serial_is_member (part_before n (part_from p s.agenda)) t c

    -- by the records, and so in the state
    pub told_reader : (cell : Cell) (n : ℕ) → IsContradictedReader records agenda.list p cell n → IsContradictedAt s p cell n
    told_reader cell n c = by_entry (kept_item records (looked_up cell) n c.reads) where
      by_entry : (r : Recorded) × Contains records.kept r × (looked_up cell r ≡ true) × (r.number ≡ n) → IsContradictedAt s p cell n
      by_entry (r, here, looked, is) = record {
        reader = told.tx;
        number = number;
        after = after;
        looks = told.looks cell looked;
        unwritten = λ t before. false_from_ne_true (writes_key (operations t) cell) (unwritten t before);
      } where
        told : IsRecordOf s r
        told = record_of r here

        number : told.tx.number ≡ n
        number = told.number ∙ is

        after : Contains (serial (part_from p s.agenda)) told.tx
        after = committed_from told.tx told.member (subst (λ k. place_of agenda.list p ≤ place_of agenda.list k) (sym number) c.after)

        from : is_at_or_after s.agenda n p ≡ true
        from = subst (λ k. is_at_or_after s.agenda k p ≡ true) number (serial_is_member (part_from p s.agenda) told.tx after)

        member : is_member s.agenda n ≡ true
        member = subst (λ k. is_member s.agenda k ≡ true) number (serial_is_member s.agenda told.tx told.member)

        unwritten : (t : Transaction) → Contains (serial (part_before n (part_from p s.agenda))) t → writes_key (operations t) cell ≡ true → ⊥
        unwritten t before wrote =
            let here : Contains (serial (part_from p s.agenda)) t = part_of_ahead t n before in
            let kept : IsKeptWhole records t = kept_whole t here in
            let writer : Contains (writers records cell) t.number = subst (Contains (writers records cell)) kept.number (kept_here records (has_written cell) kept.entry kept.kept (kept.writes cell wrote)) in
            let behind = c.unwritten t.number writer (place_least t here) in
            let ahead = lesser_place t.number n member (ahead_of_part t n from before) in
            omega (arith, behind, ahead)

    -- in the state, and so by the records
    pub reader_told : (cell : Cell) (n : ℕ) → IsContradictedAt s p cell n → IsContradictedReader records agenda.list p cell n
    reader_told cell n c = record {
      reads = subst (Contains (covering records cell)) (kept.number ∙ c.number) (kept_here records (looked_up cell) kept.entry kept.kept (kept.looks cell c.looks));
      after = subst (λ k. place_of agenda.list p ≤ place_of agenda.list k) c.number (place_least c.reader c.after);
      unwritten = λ w writer least. by_order w writer least (ltb (place_of agenda.list w) (place_of agenda.list n)) refl;
    } where
      kept : IsKeptWhole records c.reader
      kept = kept_whole c.reader c.after

      from : is_at_or_after s.agenda n p ≡ true
      from = subst (λ k. is_at_or_after s.agenda k p ≡ true) c.number (serial_is_member (part_from p s.agenda) c.reader c.after)

      member : is_member s.agenda n ≡ true
      member = subst (λ k. is_member s.agenda k ≡ true) c.number (serial_is_member s.agenda c.reader (whole_list c.reader c.after))

      between : (w : ℕ) → place_of agenda.list p ≤ place_of agenda.list w → place_of agenda.list w < place_of agenda.list n → (r : Recorded) × Contains records.kept r × (has_written cell r ≡ true) × (r.number ≡ w) → ⊥
      between w least less (r, here, wrote, is) =
          let told : IsRecordOf s r = record_of r here in
          let number : told.tx.number ≡ w = told.number ∙ is in
          let at : Contains (serial (part_from p s.agenda)) told.tx = committed_from told.tx told.member (subst (λ k. place_of agenda.list p ≤ place_of agenda.list k) (sym number) least) in
          let ahead : is_before s.agenda told.tx.number n ≡ true = subst (λ k. is_before s.agenda k n ≡ true) (sym number) (before_place w n member less) in
          both_ways (writes_key (operations told.tx) cell) (c.unwritten told.tx (ahead_in_part told.tx n at from ahead)) (told.writes cell wrote)

      by_order : (w : ℕ) → Contains (writers records cell) w → place_of agenda.list p ≤ place_of agenda.list w → (b : Bool) → ltb (place_of agenda.list w) (place_of agenda.list n) ≡ b → place_of agenda.list n ≤ place_of agenda.list w
      by_order w writer least false e = ltb-false (place_of agenda.list w) (place_of agenda.list n) e
      by_order w writer least true e = absurd (between w least (ltb-true (place_of agenda.list w) (place_of agenda.list n) e) (kept_item records (has_written cell) w writer))
