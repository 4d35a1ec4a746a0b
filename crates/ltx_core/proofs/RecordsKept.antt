-- The records of commits go on to be those of the state, from event to event.
use Rattle.std.proofs.Common.{◌≡◌, ◌≢◌, ◌⊎◌, inl, inr, ℕ, suc, ◌+◌, ◌<◌, ◌≤◌, Bool, true, false, not, ◌&&◌, ◌||◌, cond, ◌==◌, List, [], ◌∷◌, ◌++◌, map, length, Option, Some, None, Contains, refl, sym, ap, ◌∙◌, subst, append_assoc, append-nil, arith, nat_lt}
use Rattle.std.specs.List.{list_any, find, filter_map, cons_option, AllByRecursion}
use Rattle.std.specs.declared.cmp.Ordering.{Ordering}
use Rattle.std.specs.declared.cmp.Ordering.TheVariants.{Less, Equal, Greater}
use Rattle.std.specs.Ordering.{nat_cmp, is_eq, ordering_then}
use Rattle.std.specs.Cmp.{unsigned_tied}
use Rattle.ltx_model.specs.declared.commands.Op.TheVariants.{Get, Scan, Put, Del}
use Rattle.ltx_model.specs.declared.looked.Reach.TheVariants.{Nothing, Point, Range}
use Rattle.ltx_model.specs.declared.commands.Verb.TheVariants as verbs
use Rattle.ltx_model.specs.declared.replies.Reply.TheVariants as replies
use Rattle.ltx_model.specs.Decisions as decisions
use Rattle.std.proofs.lemmas.Bool.{eq-eqb, eqb-true, ne_eqb}
use Rattle.std.proofs.lemmas.List.{length-append, length-map}
use Rattle.std.proofs.lemmas.List.Sorted.{Contains-permutation}
use Rattle.ltx_model.specs.Agenda.{CommitBefore, CommitHome, CommitShort, Committed, Leave, LiveSlot, Member, Move, Timed, commit_of, commits_after, commits_of, has_number, has_slot, is_member, is_slot, number_of, part_before, part_from, serial, without_member}
use Rattle.ltx_model.specs.Answers.{IsLegalWith}
use Rattle.ltx_model.specs.Batches.{before_floor, counts_for_floor, from_floor, target}
use Rattle.ltx_model.specs.Decisions.{lives_of}
use Rattle.ltx_model.specs.Histories.{advanced, answered, begun, closed, durable_if, ended, left, made_durable, moved, state, with_step}
use Rattle.ltx_model.specs.Holders.{Holder, holder_of}
use Rattle.ltx_model.specs.Keys.{Cell, in_range, key_cmp, same_cell}
use Rattle.ltx_model.specs.Limits.{last_number}
use Rattle.ltx_model.specs.Lists.{IsPairwise, Numbered, change_first, from_first, numbered, without_first}
use Rattle.ltx_model.specs.Notes.{AreNotesBy, IsNoteBy, IsPointBy, IsRangeBy, IsReachBy, asks, is_one_of, note_looks_up, notes_look_up}
use Rattle.ltx_model.specs.Operations.{Transaction, cell_of_write, looks_up, looks_up_key, operations, table_of, writes_at, writes_key, writes_of}
use Rattle.ltx_model.specs.Records.{AreRecordsOf, IsKeptWhole, IsRecordOf, Recorded, Records, has_written, is_kept, is_recorded, looked_up}
use Rattle.ltx_model.specs.States.{Active, Base, Declaration, IsLive, IsPending, IsShort, IsSound, Kind, LiveBatch, State, Step, active_of, as_live, first_state, is_of, latest, live_batches, transaction_of}
use Rattle.ltx_model.specs.declared.commands.Line.{Line}
use Rattle.ltx_model.specs.declared.commands.Op.{Op}
use Rattle.ltx_model.specs.declared.looked.Noted.{Noted}
use Rattle.ltx_model.specs.declared.looked.Reach.{Reach}
use Rattle.ltx_model.specs.declared.replies.Entry.{Entry}
use Rattle.ltx_model.specs.declared.replies.Reply.{Reply}
use Rattle.ltx_model.specs.declared.writes.Look.{Look}
use Rattle.ltx_model.specs.declared.writes.Write.{Write}
use Rattle.ltx_lemmas.specs.Places.{AreApart}
use Rattle.ltx_laws.specs.Orders.{IsPrefix}
use Rattle.ltx_laws.specs.Structure.{IsKnown, IsLiveBatch, IsOpenShort, Structure, if_live, is_live_as}
use Rattle.ltx_core.specs.Stands.{batches_of}
use Rattle.ltx_model.proofs.CellOrder.{same_cell_same}
use Rattle.ltx_lemmas.proofs.Lists.{all_contains, all_from, all_map, all_push, any_append, any_item, any_map, any_none, any_not, contains_back, contains_cases, contains_front, contains_here, contains_none, contains_parts, find_contains, from_contains, none_some, parts_join, true_false}
use Rattle.ltx_lemmas.proofs.Members.{apart_home, apart_insert, apart_push, apart_tail, apart_without, member_without_same}
use Rattle.ltx_lemmas.proofs.Searches.{is_written_of, numbered_map}
use Rattle.ltx_lemmas.proofs.Serials.{serial_append, serial_before, serial_here, serial_home, serial_member, serial_parts, serial_push, serial_without}
use Rattle.ltx_laws.proofs.Agendas.{any_push_not, or_false}
use Rattle.ltx_laws.proofs.FloorCounts.{slot_if, slots_of}
use Rattle.ltx_laws.proofs.FloorSteps.{before_prefix, floor_cases, home_floor, short_floor}
use Rattle.ltx_laws.proofs.Pairs.{pairs_push}
use Rattle.ltx_laws.proofs.Places.{any_before, before_apart}
use Rattle.ltx_laws.proofs.ReadsKept.{apart_members, live_slot, steps_ops}
use Rattle.ltx_laws.proofs.Spared.{live_here}
use Rattle.ltx_laws.proofs.Standing.{commits_none, commits_push}
use Rattle.ltx_laws.proofs.StructureMoves.{before_structure, home_structure, leave_structure, short_structure}
use Rattle.ltx_laws.proofs.StructureSlots.{advanced_structure, live_in}
use Rattle.ltx_laws.proofs.Structures.{ended_structure, live_target_ahead, stands_of}
use Rattle.ltx_laws.proofs.Transitions.{Cases, along, live_of}
use Rattle.ltx_laws.proofs.WithinBounds.{last_bounded}
use Rattle.ltx_core.proofs.EpochSlots.{advanced_is, commits_same, grown, serial_same}
use Rattle.ltx_core.proofs.Sessions.{apart_back}

-- the numbers of live batches
abbrev pub live_numbers : State → List ℕ
live_numbers s = map (λ b. b.tx.number) (live_batches s)

-- a member counts alike by the same moves and the same live batches
counts_alike : (s after : State) → after.moves ≡ s.moves → live_numbers after ≡ live_numbers s → (m : Member) → counts_for_floor after m ≡ counts_for_floor s m
counts_alike s after moves lives (LiveSlot n) = refl
counts_alike s after moves lives (Committed t) =
    sym (any_map (λ n. commits_after after.moves n t.number) (λ (b : LiveBatch). b.tx.number) (live_batches after))
    ∙ ap (list_any (λ n. commits_after after.moves n t.number)) lives
    ∙ ap (λ l. list_any (λ n. commits_after l n t.number) (live_numbers s)) moves
    ∙ any_map (λ n. commits_after s.moves n t.number) (λ (b : LiveBatch). b.tx.number) (live_batches s)

from_alike : {A : Type 0} (p q : A → Bool) → ((x : A) → p x ≡ q x) → (xs : List A) → from_first p xs ≡ from_first q xs
from_alike p q same [] = refl
from_alike p q same (x ∷ xs) = ap (λ b. cond b (x ∷ xs) (from_first p xs)) (same x) ∙ ap (λ l. cond (q x) (x ∷ xs) l) (from_alike p q same xs)

-- what is told of a commit stays so: its member and its slot stay, and later commits come behind
record_later : (s after : State) (more : List Transaction) → commits_of after.moves ≡ commits_of s.moves ++ more → ((t : Transaction) → Contains (serial s.agenda) t → Contains (serial after.agenda) t)
    → ((t : Transaction) → Contains (serial s.agenda) t → has_slot after.moves t.number ≡ has_slot s.moves t.number) → (e : Recorded) → IsRecordOf s e → IsRecordOf after e
record_later s after more commits members slots e is = record {
  tx = is.tx;
  member = members is.tx is.member;
  number = is.number;
  batch = ap (has_slot after.moves) (sym is.number) ∙ slots is.tx is.member ∙ ap (has_slot s.moves) is.number ∙ is.batch;
  mark = record {
    front = is.mark.front;
    tx = is.mark.tx;
    back = is.mark.back ++ more;
    parts = commits ∙ ap (λ l. l ++ more) is.mark.parts ∙ append_assoc is.mark.front (is.mark.tx ∷ is.mark.back) more;
    same = is.mark.same;
    first = is.mark.first;
    number_is = is.mark.number_is;
  };
  looks = is.looks;
  writes = is.writes;
}

-- a member of one part of an agenda is none of the other
in_one_part : (xs ys : List Member) (m : Member) → AreApart (xs ++ ys) → Contains xs m → Contains ys m → ⊥
in_one_part [] ys m apart c d = contains_none m c
in_one_part (x ∷ xs) ys m apart c d = by_place (contains_cases x xs m c) (in_one_part xs ys m (apart_tail x (xs ++ ys) apart).1) where
  by_place : (x ≡ m) ⊎ Contains xs m → (Contains xs m → Contains ys m → ⊥) → ⊥
  by_place (inl same) later =
      true_false (sym (eq-eqb (number_of m) (number_of x) (ap number_of (sym same))) ∙ any_not (has_number (number_of x)) (xs ++ ys) m (apart_tail x (xs ++ ys) apart).0 (contains_back xs ys m d))
  by_place (inr behind) later = later behind d

-- who stands from the floor on is committed
from_serial : (s : State) (t : Transaction) → Contains (serial (from_floor s)) t → Contains (serial s.agenda) t
from_serial s t there = serial_here s.agenda t (from_contains (counts_for_floor s) s.agenda (Committed t) (serial_member (from_floor s) t there))

-- who stands from the floor on, and was committed before, stood from the floor on before
stood_before : (s after : State) → AreApart after.agenda → IsPrefix (before_floor s) (before_floor after) → (t : Transaction) → Contains (serial (from_floor after)) t → Contains (serial s.agenda) t → Contains (serial (from_floor s)) t
stood_before s after apart first t there here = by_part (contains_parts (serial (before_floor s)) (serial (from_floor s)) t (subst (λ ts. Contains ts t) parts here)) where
  parts : serial s.agenda ≡ serial (before_floor s) ++ serial (from_floor s)
  parts = ap serial (sym (parts_join (counts_for_floor s) s.agenda)) ∙ serial_append (before_floor s) (from_floor s)

  by_part : Contains (serial (before_floor s)) t ⊎ Contains (serial (from_floor s)) t → Contains (serial (from_floor s)) t
  by_part (inr behind) = behind
  by_part (inl front) =
      let early : Contains (before_floor after) (Committed t) = subst (λ ms. Contains ms (Committed t)) (sym first.parts) (contains_front (before_floor s) first.rest (Committed t) (serial_member (before_floor s) t front)) in
      let late : Contains (from_floor after) (Committed t) = serial_member (from_floor after) t there in
      absurd (in_one_part (before_floor after) (from_floor after) (Committed t) (subst AreApart (sym (parts_join (counts_for_floor after) after.agenda)) apart) early late)

-- An event without a move: the moves, the agenda and the numbers of live batches are the same.
pub records_still : (s after : State) (r : Records) → after.moves ≡ s.moves → after.agenda ≡ s.agenda → live_numbers after ≡ live_numbers s → AreRecordsOf s r → AreRecordsOf after r
records_still s after r moves agenda lives at = record {
  commits = at.commits ∙ ap (λ l. length (commits_of l)) (sym moves);
  told = all_map (IsRecordOf s) (IsRecordOf after)
      (record_later s after [] (ap commits_of moves ∙ sym (append-nil (commits_of s.moves))) (λ t c. subst (λ ms. Contains (serial ms) t) (sym agenda) c) (λ t c. ap (λ l. has_slot l t.number) moves)) r.kept at.told;
  rising = at.rising;
  whole = λ t there. at.whole t (subst (λ ms. Contains (serial ms) t) same there);
} where
  same : from_floor after ≡ from_floor s
  same = ap (from_first (counts_for_floor after)) agenda ∙ from_alike (counts_for_floor after) (counts_for_floor s) (counts_alike s after moves lives) s.agenda

-- An event that commits nothing, whoever got a slot or left: the serial order is the same, and who was committed has a slot as before.
pub records_go_on : (s after : State) (r : Records) → AreApart after.agenda → IsPrefix (before_floor s) (before_floor after) → commits_of after.moves ≡ commits_of s.moves → serial after.agenda ≡ serial s.agenda
    → ((t : Transaction) → Contains (serial s.agenda) t → has_slot after.moves t.number ≡ has_slot s.moves t.number) → AreRecordsOf s r → AreRecordsOf after r
records_go_on s after r apart first commits order slots at = record {
  commits = at.commits ∙ ap length (sym commits);
  told = all_map (IsRecordOf s) (IsRecordOf after) (record_later s after [] (commits ∙ sym (append-nil (commits_of s.moves))) (λ t c. subst (λ ts. Contains ts t) (sym order) c) slots) r.kept at.told;
  rising = at.rising;
  whole = λ t there. at.whole t (stood_before s after apart first t there (subst (λ ts. Contains ts t) order (from_serial after t there)));
}

-- What is noted of the commit of a transaction: one entry more, with its number, what it is, the number of its commit, and of each key
-- whether it looked it up and whether it wrote it.
pub record IsNoted (old new : Records) (t : Transaction) (batch : Bool) : Type 0 where
  pub entry : Recorded
  pub kept : new.kept ≡ old.kept ++ entry ∷ []
  pub commits : new.commits ≡ old.commits + 1
  pub number : entry.number ≡ t.number
  pub kind : entry.batch ≡ batch
  pub mark : entry.mark ≡ new.commits
  pub looks : (cell : Cell) → looked_up cell entry ≡ looks_up_key (operations t) cell
  pub written : (cell : Cell) → has_written cell entry ≡ writes_key (operations t) cell

-- One transaction more has committed, at a place in the serial order; whoever was committed has a slot as before, and this one where it
-- is a batch.
pub record IsOneMore (s after : State) (t : Transaction) (batch : Bool) : Type 0 where
  pub apart : AreApart after.agenda
  pub floors : IsPrefix (before_floor s) (before_floor after)
  pub commits : commits_of after.moves ≡ commits_of s.moves ++ t ∷ []
  pub front : List Transaction
  pub back : List Transaction
  pub parts : front ++ back ≡ serial s.agenda
  pub order : serial after.agenda ≡ front ++ t ∷ back
  pub slots : (u : Transaction) → Contains (serial s.agenda) u → has_slot after.moves u.number ≡ has_slot s.moves u.number
  pub kind : has_slot after.moves t.number ≡ batch
  pub new : AllByRecursion (λ u. (u.number == t.number) ≡ false) (commits_of s.moves)

module _ (s after : State) (t : Transaction) (batch : Bool) (one : IsOneMore s after t batch) where
  -- who was committed still is
  stays : (u : Transaction) → Contains (serial s.agenda) u → Contains (serial after.agenda) u
  stays u here = subst (λ ts. Contains ts u) (sym one.order) (by_part (contains_parts one.front one.back u (subst (λ ts. Contains ts u) (sym one.parts) here))) where
    by_part : Contains one.front u ⊎ Contains one.back u → Contains (one.front ++ t ∷ one.back) u
    by_part (inl c) = contains_front one.front (t ∷ one.back) u c
    by_part (inr c) = contains_back one.front (t ∷ one.back) u (contains_back (t ∷ []) one.back u c)

  -- and so is this one, and nobody else
  committed_now : Contains (serial after.agenda) t
  committed_now = subst (λ ts. Contains ts t) (sym one.order) (contains_back one.front (t ∷ one.back) t (contains_here t one.back))

  others_were : (u : Transaction) → Contains (serial after.agenda) u → (t ≡ u) ⊎ Contains (serial s.agenda) u
  others_were u there = by_part (contains_parts one.front (t ∷ one.back) u (subst (λ ts. Contains ts u) one.order there)) where
    by_back : (t ≡ u) ⊎ Contains one.back u → (t ≡ u) ⊎ Contains (serial s.agenda) u
    by_back (inl same) = inl same
    by_back (inr c) = inr (subst (λ ts. Contains ts u) one.parts (contains_back one.front one.back u c))

    by_part : Contains one.front u ⊎ Contains (t ∷ one.back) u → (t ≡ u) ⊎ Contains (serial s.agenda) u
    by_part (inl c) = inr (subst (λ ts. Contains ts u) one.parts (contains_front one.front one.back u c))
    by_part (inr c) = by_back (contains_cases t one.back u c)

  told_before : (r : Records) → AreRecordsOf s r → AllByRecursion (IsRecordOf after) r.kept
  told_before r at = all_map (IsRecordOf s) (IsRecordOf after) (record_later s after (t ∷ []) one.commits stays one.slots) r.kept at.told

  count_now : (r : Records) → AreRecordsOf s r → r.commits + 1 ≡ length (commits_of after.moves)
  count_now r at = ap (λ n. n + 1) at.commits ∙ sym (ap length one.commits ∙ length-append (commits_of s.moves) (t ∷ []))

  -- a commit was counted before
  counted : (e : Recorded) → IsRecordOf s e → e.mark ≤ length (commits_of s.moves)
  counted e is =
      let all : length (commits_of s.moves) ≡ length is.mark.front + suc (length is.mark.back) = ap length is.mark.parts ∙ length-append is.mark.front (is.mark.tx ∷ is.mark.back) in
      let number : length is.mark.front + 1 ≡ e.mark = is.mark.number_is in
      omega arith

  -- It is noted.
  pub records_noted : (r new : Records) → AreRecordsOf s r → IsNoted r new t batch → AreRecordsOf after new
  records_noted r new at noted = record {
    commits = noted.commits ∙ count_now r at;
    told = subst (AllByRecursion (IsRecordOf after)) (sym noted.kept) (all_push (IsRecordOf after) r.kept noted.entry (told_before r at) this);
    rising = subst (IsPairwise (λ a b. a.mark < b.mark)) (sym noted.kept) (pairs_push (λ a b. a.mark < b.mark) r.kept noted.entry (all_map (IsRecordOf s) (λ e. e.mark < noted.entry.mark) below r.kept at.told) at.rising);
    whole = λ u there. by_which u (others_were u (from_serial after u there)) there;
  } where
    this : IsRecordOf after noted.entry
    this = record {
      tx = t;
      member = committed_now;
      number = sym noted.number;
      batch = ap (has_slot after.moves) noted.number ∙ one.kind ∙ sym noted.kind;
      mark = record {
        front = commits_of s.moves;
        tx = t;
        back = [];
        parts = one.commits;
        same = sym noted.number;
        first = subst (λ n. AllByRecursion (λ u. (u.number == n) ≡ false) (commits_of s.moves)) (sym noted.number) one.new;
        number_is = ap (λ n. n + 1) (sym at.commits) ∙ sym noted.commits ∙ sym noted.mark;
      };
      looks = λ cell is. sym (noted.looks cell) ∙ is;
      writes = λ cell is. sym (noted.written cell) ∙ is;
    }

    below : (e : Recorded) → IsRecordOf s e → e.mark < noted.entry.mark
    below e is =
        let within : e.mark ≤ length (commits_of s.moves) = counted e is in
        let mark : noted.entry.mark ≡ length (commits_of s.moves) + 1 = noted.mark ∙ noted.commits ∙ ap (λ n. n + 1) at.commits in
        omega arith

    by_which : (u : Transaction) → (t ≡ u) ⊎ Contains (serial s.agenda) u → Contains (serial (from_floor after)) u → IsKeptWhole new u
    by_which u (inl same) there = record {
      entry = noted.entry;
      kept = subst (λ es. Contains es noted.entry) (sym noted.kept) (contains_back r.kept (noted.entry ∷ []) noted.entry (contains_here noted.entry []));
      number = noted.number ∙ ap (λ (x : Transaction). x.number) same;
      looks = λ cell is. noted.looks cell ∙ ap (λ (x : Transaction). looks_up_key (operations x) cell) same ∙ is;
      writes = λ cell is. noted.written cell ∙ ap (λ (x : Transaction). writes_key (operations x) cell) same ∙ is;
    }
    by_which u (inr here) there =
        let old : IsKeptWhole r u = at.whole u (stood_before s after one.apart one.floors u there here) in
        record {
          entry = old.entry;
          kept = subst (λ es. Contains es old.entry) (sym noted.kept) (contains_front r.kept (noted.entry ∷ []) old.entry old.kept);
          number = old.number;
          looks = old.looks;
          writes = old.writes;
        }

  -- Or it is only counted, where nobody stands from the floor on.
  pub records_counted : (r : Records) → from_floor after ≡ [] → AreRecordsOf s r → AreRecordsOf after (record { kept = r.kept; commits = r.commits + 1 })
  records_counted r none at = record {
    commits = count_now r at;
    told = told_before r at;
    rising = at.rising;
    whole = λ u there. absurd (contains_none u (subst (λ ms. Contains (serial ms) u) none there));
  }

-- Where nobody stands from the floor on nothing need be kept.
pub records_cleared : (s : State) (r : Records) → from_floor s ≡ [] → AreRecordsOf s r → AreRecordsOf s (record { kept = []; commits = r.commits })
records_cleared s r none at = record {
  commits = at.commits;
  told = tt;
  rising = tt;
  whole = λ u there. absurd (contains_none u (subst (λ ms. Contains (serial ms) u) none there));
}

-- no batch is live
pub no_lives : (s : State) → lives_of s ≡ [] → live_batches s ≡ []
no_lives s none = by_list (live_batches s) none where
  by_list : (bs : List LiveBatch) → map decisions.live_of bs ≡ [] → bs ≡ []
  by_list [] e = refl
  by_list (b ∷ bs) e = cc

pub no_holders : (os : List Active) → list_any (λ (h : Holder). h.live) (batches_of os) ≡ false → filter_map (λ (o : Active). as_live o.kind (transaction_of o)) os ≡ []
no_holders [] none = refl
no_holders (o ∷ os) none = by_kind o.kind none (no_holders os) where
  by_kind : (k : Kind) → list_any (λ (h : Holder). h.live) (cons_option (holder_of k o.number) (batches_of os)) ≡ false
      → (list_any (λ (h : Holder). h.live) (batches_of os) ≡ false → filter_map (λ (u : Active). as_live u.kind (transaction_of u)) os ≡ [])
      → cons_option (as_live k (transaction_of o)) (filter_map (λ (u : Active). as_live u.kind (transaction_of u)) os) ≡ []
  by_kind IsShort none later = later none
  by_kind (IsPending d) none later = later none
  by_kind (IsLive d snapshot) none later = absurd (true_false none)

from_none : {A : Type 0} (test : A → Bool) (xs : List A) → AllByRecursion (λ x. test x ≡ false) xs → from_first test xs ≡ []
from_none test [] all = refl
from_none test (x ∷ xs) all = ap (λ b. cond b (x ∷ xs) (from_first test xs)) all.0 ∙ from_none test xs all.1

-- the numbers of live batches stay where a step is added
abbrev numbers_in : List Active → List ℕ
numbers_in os = map (λ (b : LiveBatch). b.tx.number) (filter_map (λ (o : Active). as_live o.kind (transaction_of o)) os)

numbers_stepped : (test : Active → Bool) (step : Step) (os : List Active) → numbers_in (change_first test (with_step step) os) ≡ numbers_in os
numbers_stepped test step [] = refl
numbers_stepped test step (o ∷ os) = by_test (test o) (numbers_stepped test step os) where
  stepped : (k : Kind) → map (λ (b : LiveBatch). b.tx.number) (cons_option (as_live k (transaction_of (with_step step o))) (filter_map (λ (u : Active). as_live u.kind (transaction_of u)) os))
      ≡ map (λ (b : LiveBatch). b.tx.number) (cons_option (as_live k (transaction_of o)) (filter_map (λ (u : Active). as_live u.kind (transaction_of u)) os))
  stepped IsShort = refl
  stepped (IsPending d) = refl
  stepped (IsLive d snapshot) = refl

  behind : (k : Kind) → numbers_in (change_first test (with_step step) os) ≡ numbers_in os
      → map (λ (b : LiveBatch). b.tx.number) (cons_option (as_live k (transaction_of o)) (filter_map (λ (u : Active). as_live u.kind (transaction_of u)) (change_first test (with_step step) os)))
      ≡ map (λ (b : LiveBatch). b.tx.number) (cons_option (as_live k (transaction_of o)) (filter_map (λ (u : Active). as_live u.kind (transaction_of u)) os))
  behind IsShort rest = rest
  behind (IsPending d) rest = rest
  behind (IsLive d snapshot) rest = ap (λ ns. o.number ∷ ns) rest

  by_test : (b : Bool) → numbers_in (change_first test (with_step step) os) ≡ numbers_in os → numbers_in (cond b (with_step step o ∷ os) (o ∷ change_first test (with_step step) os)) ≡ numbers_in (o ∷ os)
  by_test true rest = stepped o.kind
  by_test false rest = behind o.kind rest

-- An operation is answered.
pub records_answered : (s : State) (op : Op) (reply : Reply) (session : ℕ) (r : Records) → AreRecordsOf s r → AreRecordsOf (answered s op reply session) r
records_answered s op reply session r at =
    records_still s (answered s op reply session) r refl refl (numbers_stepped (is_of session) (record { op = op; reply = reply; order = serial s.agenda; latest = latest s }) s.active) at

-- An epoch is made durable.
pub records_durable : (s : State) (epoch : ℕ) (r : Records) → AreRecordsOf s r → AreRecordsOf (made_durable s epoch) r
records_durable s epoch r at = by_test (nat_lt s.durable epoch) where
  by_test : (b : Bool) → AreRecordsOf (durable_if b s epoch) r
  by_test true = records_still s (durable_if true s epoch) r refl refl refl at
  by_test false = at

-- slots are given to no other than open transactions
slots_elsewhere : (n epoch : ℕ) (os : List Active) → AllByRecursion (λ u. u.number ≢ n) os → has_slot (slots_of epoch os) n ≡ false
slots_elsewhere n epoch [] apart = refl
slots_elsewhere n epoch (o ∷ os) apart = by_kind o.kind (slots_elsewhere n epoch os apart.1) where
  by_kind : (k : Kind) → has_slot (slots_of epoch os) n ≡ false → has_slot (cons_option (slot_if epoch k o.number) (slots_of epoch os)) n ≡ false
  by_kind IsShort rest = rest
  by_kind (IsPending d) rest = ap (λ b. b || has_slot (slots_of epoch os) n) (ne_eqb o.number n apart.0) ∙ rest
  by_kind (IsLive d snapshot) rest = rest

-- Where no batch is live nobody stands from the floor on.
pub nobody_from : (base : Base) (s : State) → Structure base s → live_batches s ≡ [] → from_floor s ≡ []
nobody_from base s structure none = from_none (counts_for_floor s) s.agenda (all_map (IsKnown s.active s.moves) (λ m. counts_for_floor s m ≡ false) fails s.agenda structure.members.known) where
  none_live : (o : Active) → Contains s.active o → (k : Kind) → o.kind ≡ k → (b : Bool) → if_live k b ≡ true → ⊥
  none_live o here IsShort kind b e = true_false (sym e)
  none_live o here (IsPending d) kind b e = true_false (sym e)
  none_live o here (IsLive d snapshot) kind b e = contains_none (live_of o d snapshot) (subst (λ l. Contains l (live_of o d snapshot)) none (live_here s o d snapshot here kind))

  fails : (m : Member) → IsKnown s.active s.moves m → counts_for_floor s m ≡ false
  fails (LiveSlot n) known = let found = any_item (is_live_as n) s.active known.live in absurd (none_live found.0 found.1 found.0.kind refl (found.0.number == n) found.2)
  fails (Committed t) known = ap (list_any (λ (b : LiveBatch). commits_after s.moves b.tx.number t.number)) none

module _ (base : Base) (s : State) (structure : Structure base s) where
  -- no open transaction has the number of a committed one
  open_apart : (t : Transaction) → Contains (serial s.agenda) t → AllByRecursion (λ u. u.number ≢ t.number) s.active
  open_apart t here = all_contains (IsKnown s.active s.moves) s.agenda (Committed t) structure.members.known (serial_member s.agenda t here)

  never_committed : (o : Active) → Contains s.active o → AllByRecursion (λ u. (u.number == o.number) ≡ false) (commits_of s.moves)
  never_committed o here = all_from (λ u. (u.number == o.number) ≡ false) (commits_of s.moves) (λ u c.
      ne_eqb u.number o.number (λ same.
      all_contains (λ v. v.number ≢ u.number) s.active o (open_apart u (Contains-permutation (commits_of s.moves) (serial s.agenda) u structure.committed c)) here (sym same)))

  -- An open transaction is not kept.
  pub open_not_kept : (r : Records) → AreRecordsOf s r → (o : Active) → Contains s.active o → is_kept r o.number ≡ false
  open_not_kept r at o here = any_none (is_recorded o.number) r.kept (λ e c.
      let is : IsRecordOf s e = all_contains (IsRecordOf s) r.kept e at.told c in
      ne_eqb e.number o.number (λ same. all_contains (λ v. v.number ≢ is.tx.number) s.active o (open_apart is.tx is.member) here (sym (is.number ∙ same))))

  -- A transaction begins.
  pub records_begun_short : (session : ℕ) (r : Records) → active_of s session ≡ None → AreRecordsOf s r → AreRecordsOf (begun s IsShort (s.last + 1) session) r
  records_begun_short session r none at =
      records_go_on s (begun s IsShort (s.last + 1) session) r (apart_members base s structure) ((floor_cases base s structure).begins_short session none) refl refl (λ t c. refl) at

  pub records_begun_long : (session writes reads : ℕ) (r : Records) → active_of s session ≡ None → AreRecordsOf s r
      → AreRecordsOf (begun s (IsPending (record { writes = writes; reads = reads; from = s.epoch + 1 })) (s.last + 1) session) r
  records_begun_long session writes reads r none at =
      records_go_on s (begun s (IsPending (record { writes = writes; reads = reads; from = s.epoch + 1 })) (s.last + 1) session) r (apart_members base s structure) ((floor_cases base s structure).begins_long session writes reads none) refl refl (λ t c. refl) at

  -- An epoch closes, and pending batches get their slots.
  pub records_grown : (r : Records) → AreRecordsOf s r → AreRecordsOf (grown s (s.epoch + 1)) r
  records_grown r at =
      records_go_on s (grown s (s.epoch + 1)) r
      (subst (λ (x : State). AreApart x.agenda) (advanced_is s (s.epoch + 1)) (apart_members base (advanced s (s.epoch + 1)) (advanced_structure base s (s.epoch + 1) structure)))
      (subst (λ (x : State). IsPrefix (before_floor s) (before_floor x)) (advanced_is s (s.epoch + 1)) (floor_cases base s structure).advances)
      (commits_same s.moves (s.epoch + 1) s.active) (serial_same s.agenda s.active)
      (λ t c. any_append (λ (m : Timed). is_slot t.number m.move) s.moves (slots_of (s.epoch + 1) s.active)
      ∙ ap (λ b. has_slot s.moves t.number || b) (slots_elsewhere t.number (s.epoch + 1) s.active (open_apart t c)) ∙ or_false (has_slot s.moves t.number)) at

  pub records_advanced : (r : Records) → AreRecordsOf s r → AreRecordsOf (advanced s (s.epoch + 1)) r
  records_advanced r at = subst (λ (x : State). AreRecordsOf x r) (sym (advanced_is s (s.epoch + 1))) (records_grown r at)

  module _ (session : ℕ) (o : Active) (is : active_of s session ≡ Some o) where
    abbrev tx : Transaction
    tx = transaction_of o

    abbrev moving : Move → State
    moving move = moved (closed s session) s.epoch move

    there : Contains s.active o
    there = find_contains (is_of session) s.active o is

    -- a move that is no slot gives none
    no_slot : (move : Move) (n : ℕ) → is_slot n move ≡ false → has_slot (moving move).moves n ≡ has_slot s.moves n
    no_slot move n plain = any_push_not (λ (y : Timed). is_slot n y.move) s.moves (record { epoch = s.epoch; move = move }) plain

    -- It ends without a commit.
    pub records_ended : (r : Records) → AreRecordsOf s r → AreRecordsOf (ended s o session) r
    records_ended r at =
        records_go_on s (ended s o session) r (apart_members base (ended s o session) (ended_structure base s structure session o is))
        ((floor_cases base s structure).ends session verbs.Abort replies.Aborted o is refl) (commits_stay o.kind) (order_stays o.kind refl) (λ t c. slots_stay t.number o.kind) at where
          commits_stay : (k : Kind) → commits_of (left (closed s session) k o.number).moves ≡ commits_of s.moves
          commits_stay IsShort = refl
          commits_stay (IsPending d) = refl
          commits_stay (IsLive d snapshot) = commits_none s.moves (record { epoch = s.epoch; move = Leave o.number }) refl

          order_stays : (k : Kind) → o.kind ≡ k → serial (left (closed s session) k o.number).agenda ≡ serial s.agenda
          order_stays IsShort kind = refl
          order_stays (IsPending d) kind = refl
          order_stays (IsLive d snapshot) kind = serial_without o.number s.agenda (apart_members base s structure) (live_slot base s structure session o d snapshot is kind)

          slots_stay : (n : ℕ) (k : Kind) → has_slot (left (closed s session) k o.number).moves n ≡ has_slot s.moves n
          slots_stay n IsShort = refl
          slots_stay n (IsPending d) = refl
          slots_stay n (IsLive d snapshot) = no_slot (Leave o.number) n refl

    pub records_short_left : o.kind ≡ IsShort → (r : Records) → AreRecordsOf s r → AreRecordsOf (closed s session) r
    records_short_left kind r at = subst (λ k. AreRecordsOf (left (closed s session) k o.number) r) kind (records_ended r at)

    pub records_pending_left : (d : Declaration) → o.kind ≡ IsPending d → (r : Records) → AreRecordsOf s r → AreRecordsOf (closed s session) r
    records_pending_left d kind r at = subst (λ k. AreRecordsOf (left (closed s session) k o.number) r) kind (records_ended r at)

    -- a short commits
    module _ (kind : o.kind ≡ IsShort) where
      open_short : IsOpenShort s.agenda s.moves o.number
      open_short = stands_of base s structure session o is IsShort kind

      short_after : Structure base (moving (CommitShort tx))
      short_after = short_structure base s session o structure is open_short.fresh open_short.unslotted

      one_short : IsOneMore s (moving (CommitShort tx)) tx false
      one_short = record {
        apart = apart_push s.agenda (Committed tx) (apart_members base s structure) open_short.fresh;
        floors = short_floor base s structure session o is;
        commits = commits_push s.moves (record { epoch = s.epoch; move = CommitShort tx }) tx refl;
        front = serial s.agenda;
        back = [];
        parts = append-nil (serial s.agenda);
        order = serial_push s.agenda tx;
        slots = λ u c. no_slot (CommitShort tx) u.number refl;
        kind = no_slot (CommitShort tx) o.number refl ∙ open_short.unslotted;
        new = never_committed o there;
      }

      -- It is noted.
      pub short_recorded : (r new : Records) → AreRecordsOf s r → IsNoted r new tx false → AreRecordsOf (moving (CommitShort tx)) new
      short_recorded r new at noted = records_noted s (moving (CommitShort tx)) tx false one_short r new at noted

      -- While no batch is live it is only counted.
      pub short_counted : (r : Records) → live_batches (moving (CommitShort tx)) ≡ [] → AreRecordsOf s r → AreRecordsOf (moving (CommitShort tx)) (record { kept = r.kept; commits = r.commits + 1 })
      short_counted r none at = records_counted s (moving (CommitShort tx)) tx false one_short r (nobody_from base (moving (CommitShort tx)) short_after none) at

    -- a live batch
    module _ (d : Declaration) (snapshot : List Transaction) (kind : o.kind ≡ IsLive d snapshot) where
      stands : IsLiveBatch s.agenda s.moves o.number d snapshot o.steps
      stands = stands_of base s structure session o is (IsLive d snapshot) kind

      slot : Contains s.agenda (LiveSlot o.number)
      slot = live_slot base s structure session o d snapshot is kind

      -- It leaves.
      pub records_left : (r : Records) → AreRecordsOf s r → AreRecordsOf (moving (Leave o.number)) r
      records_left r at = subst (λ k. AreRecordsOf (left (closed s session) k o.number) r) kind (records_ended r at)

      -- It was the last one.
      pub records_left_alone : (r : Records) → live_batches (moving (Leave o.number)) ≡ [] → AreRecordsOf s r → AreRecordsOf (moving (Leave o.number)) (record { kept = []; commits = r.commits })
      records_left_alone r none at =
          records_cleared (moving (Leave o.number)) r (nobody_from base (moving (Leave o.number)) (leave_structure base s session o structure is stands.member stands.slotted) none) (records_left r at)

      -- it commits at home
      one_home : IsOneMore s (moving (CommitHome tx)) tx true
      one_home = record {
        apart = apart_home tx s.agenda (apart_members base s structure);
        floors = home_floor base s structure session o is d snapshot kind;
        commits = commits_push s.moves (record { epoch = s.epoch; move = CommitHome tx }) tx refl;
        front = serial (part_before o.number s.agenda);
        back = serial (part_from o.number s.agenda);
        parts = serial_parts o.number s.agenda;
        order = serial_home tx s.agenda (apart_members base s structure) slot;
        slots = λ u c. no_slot (CommitHome tx) u.number refl;
        kind = no_slot (CommitHome tx) o.number refl ∙ stands.slotted;
        new = never_committed o there;
      }

      pub home_recorded : (r new : Records) → AreRecordsOf s r → IsNoted r new tx true → AreRecordsOf (moving (CommitHome tx)) new
      home_recorded r new at noted = records_noted s (moving (CommitHome tx)) tx true one_home r new at noted

      pub home_cleared : (r : Records) → live_batches (moving (CommitHome tx)) ≡ [] → AreRecordsOf s r → AreRecordsOf (moving (CommitHome tx)) (record { kept = []; commits = r.commits + 1 })
      home_cleared r none at =
          let nobody : from_floor (moving (CommitHome tx)) ≡ [] = nobody_from base (moving (CommitHome tx)) (home_structure base s session o structure is stands.member stands.slotted) none in
          records_cleared (moving (CommitHome tx)) (record { kept = r.kept; commits = r.commits + 1 }) nobody (records_counted s (moving (CommitHome tx)) tx true one_home r nobody at)

      -- it commits before its target
      module _ (p : ℕ) (aim : target s (live_of o d snapshot) ≡ Some p) where
        ahead : is_member (part_before o.number s.agenda) p ≡ true
        ahead = live_target_ahead base s structure session o is d snapshot kind p aim

        other : p ≢ o.number
        other = before_apart o.number p s.agenda ahead

        member : is_member s.agenda p ≡ true
        member = any_before (has_number p) (has_number o.number) s.agenda ahead

        one_before : IsOneMore s (moving (CommitBefore tx p)) tx true
        one_before = record {
          apart = apart_insert (Committed tx) p (without_member s.agenda o.number) (apart_without s.agenda o.number (apart_members base s structure)) (member_without_same s.agenda o.number);
          floors = before_prefix base s structure session o is d snapshot kind p aim;
          commits = commits_push s.moves (record { epoch = s.epoch; move = CommitBefore tx p }) tx refl;
          front = serial (part_before p s.agenda);
          back = serial (part_from p s.agenda);
          parts = serial_parts p s.agenda;
          order = serial_before tx p s.agenda (apart_members base s structure) slot other member;
          slots = λ u c. no_slot (CommitBefore tx p) u.number refl;
          kind = no_slot (CommitBefore tx p) o.number refl ∙ stands.slotted;
          new = never_committed o there;
        }

        pub before_recorded : (r new : Records) → AreRecordsOf s r → IsNoted r new tx true → AreRecordsOf (moving (CommitBefore tx p)) new
        before_recorded r new at noted = records_noted s (moving (CommitBefore tx p)) tx true one_before r new at noted

        pub before_cleared : (r : Records) → live_batches (moving (CommitBefore tx p)) ≡ [] → AreRecordsOf s r → AreRecordsOf (moving (CommitBefore tx p)) (record { kept = []; commits = r.commits + 1 })
        before_cleared r none at =
            let nobody : from_floor (moving (CommitBefore tx p)) ≡ [] = nobody_from base (moving (CommitBefore tx p)) (before_structure base s session o structure is stands.member stands.slotted p ahead) none in
            records_cleared (moving (CommitBefore tx p)) (record { kept = r.kept; commits = r.commits + 1 }) nobody (records_counted s (moving (CommitBefore tx p)) tx true one_before r nobody at)

-- one cell, by its table and its key
and_order : (o p : Ordering) → (is_eq o && is_eq p) ≡ is_eq (ordering_then o p)
and_order Less p = refl
and_order Equal p = refl
and_order Greater p = refl

one_cell : (table : ℕ) (key : List ℕ) (cell : Cell) → ((table == cell.table) && is_eq (key_cmp key cell.key)) ≡ same_cell (record { table = table; key = key }) cell
one_cell table key cell = ap (λ b. b && is_eq (key_cmp key cell.key)) (sym (unsigned_tied table cell.table)) ∙ and_order (nat_cmp table cell.table) (key_cmp key cell.key)

one_turned : (a b : ℕ) → (a == b) ≡ (b == a)
one_turned a b = by_test (a == b) refl where
  by_test : (r : Bool) → (a == b) ≡ r → r ≡ (b == a)
  by_test true e = sym (eq-eqb b a (sym (eqb-true a b e)))
  by_test false e = sym (apart_back a b e)

and_swap : (a b c : Bool) → (a && (b && c)) ≡ ((a && c) && b)
and_swap false b c = refl
and_swap true true true = refl
and_swap true true false = refl
and_swap true false true = refl
and_swap true false false = refl

and_join : (a b c : Bool) → (a && (b && c)) ≡ ((a && b) && c)
and_join true b c = refl
and_join false b c = refl

and_false : (a : Bool) → (a && false) ≡ false
and_false true = refl
and_false false = refl

-- a note tells whether its operation looked a key up
module _ (tells : Cell → Option Look → Type 0) (earlier : List Op) (cell : Cell) where
  abbrev own_before : Bool
  own_before = list_any (writes_at cell) earlier

  got : (table : ℕ) (key : List ℕ) (look : Option Look) (own : Bool) → IsPointBy tells earlier (record { table = table; key = key }) look own
      → ((table == cell.table) && (not own && is_eq (key_cmp key cell.key))) ≡ looks_up cell earlier (Get table key)
  got table key look own point =
      and_swap (table == cell.table) (not own) (is_eq (key_cmp key cell.key)) ∙ ap (λ b. b && not own) (one_cell table key cell) ∙ by_same (same_cell (record { table = table; key = key }) cell) refl where
        by_same : (b : Bool) → same_cell (record { table = table; key = key }) cell ≡ b → (b && not own) ≡ (b && not own_before)
        by_same true same = ap not (point.own_key ∙ ap (λ c. list_any (writes_at c) earlier) (same_cell_same (record { table = table; key = key }) cell same))
        by_same false apart = refl

  scanned : (table : ℕ) (low high : List ℕ) (looks : List Look) (own : List (List ℕ)) → IsRangeBy tells earlier table low high looks own
      → ((table == cell.table) && (in_range low high cell.key && not (is_one_of own cell.key))) ≡ looks_up cell earlier (Scan table low high)
  scanned table low high looks own range =
      and_join (table == cell.table) (in_range low high cell.key) (not (is_one_of own cell.key)) ∙ ap (λ b. (b && in_range low high cell.key) && not (is_one_of own cell.key)) (one_turned table cell.table)
      ∙ by_table (cell.table == table) refl (in_range low high cell.key) refl where
        own_is : cell.table ≡ table → in_range low high cell.key ≡ true → is_one_of own cell.key ≡ own_before
        own_is same within = range.own_keys cell.key within ∙ ap (λ n. list_any (writes_at (record { table = n; key = cell.key })) earlier) (sym same)

        by_table : (b : Bool) → (cell.table == table) ≡ b → (c : Bool) → in_range low high cell.key ≡ c → ((b && c) && not (is_one_of own cell.key)) ≡ ((b && c) && not own_before)
        by_table true same true within = ap not (own_is (eqb-true cell.table table same) within)
        by_table true same false within = refl
        by_table false same c within = refl

  note_looks : (op : Op) (note : Noted) → IsNoteBy tells earlier op note → note_looks_up cell note ≡ looks_up cell earlier op
  note_looks op note is = ap (λ n. (n == cell.table) && asks note.reach cell.key) is.table ∙ by_op op note.reach is.reach where
    by_op : (op : Op) (reach : Reach) → IsReachBy tells earlier op reach → ((table_of op == cell.table) && asks reach cell.key) ≡ looks_up cell earlier op
    by_op (Get table key) (Point k look own) (same, point) = ap (λ l. (table == cell.table) && (not own && is_eq (key_cmp l cell.key))) same ∙ got table key look own point
    by_op (Scan table low high) (Range l h looks own) (lows, highs, range) =
        ap (λ x. (table == cell.table) && (in_range x h cell.key && not (is_one_of own cell.key))) lows
        ∙ ap (λ x. (table == cell.table) && (in_range low x cell.key && not (is_one_of own cell.key))) highs ∙ scanned table low high looks own range
    by_op (Put table key value) Nothing none = and_false (table == cell.table)
    by_op (Del table key) Nothing none = and_false (table == cell.table)
    by_op (Get table key) Nothing wrong = absurd wrong
    by_op (Get table key) (Range l h looks own) wrong = absurd wrong
    by_op (Scan table low high) Nothing wrong = absurd wrong
    by_op (Scan table low high) (Point k look own) wrong = absurd wrong
    by_op (Put table key value) (Point k look own) wrong = absurd wrong
    by_op (Put table key value) (Range l h looks own) wrong = absurd wrong
    by_op (Del table key) (Point k look own) wrong = absurd wrong
    by_op (Del table key) (Range l h looks own) wrong = absurd wrong

-- the operation of a numbered step
abbrev op_numbered : Numbered Step → Numbered Op
op_numbered o = record { number = o.number; earlier = map (λ (b : Step). b.op) o.earlier; item = o.item.op }

notes_numbered : (tells : Step → Cell → Option Look → Type 0) (cell : Cell) (os : List (Numbered Step)) (notes : List Noted) → AreNotesBy tells os notes
    → list_any (note_looks_up cell) notes ≡ list_any (λ (o : Numbered Op). looks_up cell o.earlier o.item) (map op_numbered os)
notes_numbered tells cell [] [] are = refl
notes_numbered tells cell [] (note ∷ notes) are = absurd are
notes_numbered tells cell (o ∷ os) [] are = absurd are
notes_numbered tells cell (o ∷ os) (note ∷ notes) are =
    ap (λ b. b || list_any (note_looks_up cell) notes) (note_looks (tells o.item) (map (λ (b : Step). b.op) o.earlier) cell o.item.op note are.0)
    ∙ ap (λ b. looks_up cell (map (λ (x : Step). x.op) o.earlier) o.item.op || b) (notes_numbered tells cell os notes are.1)

-- The notes of a transaction's steps tell what it looked up.
pub notes_tell : (tells : Step → Cell → Option Look → Type 0) (o : Active) (notes : List Noted) → AreNotesBy tells (numbered o.steps) notes → (cell : Cell) → notes_look_up notes cell ≡ looks_up_key (operations (transaction_of o)) cell
notes_tell tells o notes are cell =
    notes_numbered tells cell (numbered o.steps) notes are
    ∙ ap (list_any (λ (x : Numbered Op). looks_up cell x.earlier x.item)) (sym (numbered_map (λ (b : Step). b.op) o.steps))
    ∙ ap (λ ops. looks_up_key ops cell) (sym (steps_ops o.steps))

-- What is noted with the notes and the writes of a transaction is noted of it.
pub noted_as : (old new : Records) (o : Active) (batch : Bool) (tells : Step → Cell → Option Look → Type 0) (notes : List Noted) (writes : List Write) → AreNotesBy tells (numbered o.steps) notes → writes ≡ writes_of (operations (transaction_of o))
    → (entry : Recorded) → new.kept ≡ old.kept ++ entry ∷ [] → new.commits ≡ old.commits + 1 → entry.number ≡ o.number → entry.batch ≡ batch → entry.mark ≡ new.commits
    → ((cell : Cell) → looked_up cell entry ≡ notes_look_up notes cell) → ((cell : Cell) → has_written cell entry ≡ list_any (λ w. same_cell (cell_of_write w) cell) writes) → IsNoted old new (transaction_of o) batch
noted_as old new o batch tells notes writes are written entry kept commits number kind mark looks puts = record {
  entry = entry;
  kept = kept;
  commits = commits;
  number = number;
  kind = kind;
  mark = mark;
  looks = λ cell. looks cell ∙ notes_tell tells o notes are cell;
  written = λ cell. puts cell ∙ ap (list_any (λ w. same_cell (cell_of_write w) cell)) written ∙ is_written_of cell (operations (transaction_of o));
}

-- each number that was given is that of one commit, of an open transaction, or of neither
less_without : (test : Active → Bool) (os : List Active) → length (without_first test os) ≤ length os
less_without test [] = omega arith
less_without test (o ∷ os) = by_test (test o) (less_without test os) where
  by_test : (b : Bool) → length (without_first test os) ≤ length os → length (cond b os (o ∷ without_first test os)) ≤ suc (length os)
  by_test true less = omega arith
  by_test false less = omega arith

one_less : (test : Active → Bool) (os : List Active) (o : Active) → find test os ≡ Some o → length (without_first test os) + 1 ≡ length os
one_less test [] o e = absurd (none_some e)
one_less test (x ∷ xs) o e = by_test (test x) e (one_less test xs o) where
  by_test : (b : Bool) → cond b (Some x) (find test xs) ≡ Some o → (find test xs ≡ Some o → length (without_first test xs) + 1 ≡ length xs) → length (cond b xs (x ∷ without_first test xs)) + 1 ≡ suc (length xs)
  by_test true e later = omega arith
  by_test false e later = let rest : length (without_first test xs) + 1 ≡ length xs = later e in omega arith

as_many : (test : Active → Bool) (step : Step) (os : List Active) → length (change_first test (with_step step) os) ≡ length os
as_many test step [] = refl
as_many test step (o ∷ os) = by_test (test o) (as_many test step os) where
  by_test : (b : Bool) → length (change_first test (with_step step) os) ≡ length os → length (cond b (with_step step o ∷ os) (o ∷ change_first test (with_step step) os)) ≡ suc (length os)
  by_test true rest = refl
  by_test false rest = ap suc rest

abbrev AreFewer : State → Type 0
AreFewer s = length (commits_of s.moves) + length s.active ≤ s.last

module _ (s : State) (few : AreFewer s) where
  fewer_begun : (session : ℕ) (o : Active) → length (commits_of s.moves) + length (without_first (is_of session) s.active ++ o ∷ []) ≤ s.last + 1
  fewer_begun session o =
      let less : length (without_first (is_of session) s.active) ≤ length s.active = less_without (is_of session) s.active in
      let more : length (without_first (is_of session) s.active ++ o ∷ []) ≡ length (without_first (is_of session) s.active) + 1 = length-append (without_first (is_of session) s.active) (o ∷ []) in
      let all : length (commits_of s.moves) + length s.active ≤ s.last = few in
      omega arith

  fewer_committed : (session : ℕ) (o : Active) (m : Timed) → active_of s session ≡ Some o → commit_of m.move ≡ Some (transaction_of o) → length (commits_of (s.moves ++ m ∷ [])) + length (without_first (is_of session) s.active) ≤ s.last
  fewer_committed session o m is commits =
      let less : length (without_first (is_of session) s.active) + 1 ≡ length s.active = one_less (is_of session) s.active o is in
      let more : length (commits_of (s.moves ++ m ∷ [])) ≡ length (commits_of s.moves) + 1 = ap length (commits_push s.moves m (transaction_of o) commits) ∙ length-append (commits_of s.moves) (transaction_of o ∷ []) in
      let all : length (commits_of s.moves) + length s.active ≤ s.last = few in
      omega arith

  fewer_closed : (session : ℕ) (moves : List Timed) → commits_of moves ≡ commits_of s.moves → length (commits_of moves) + length (without_first (is_of session) s.active) ≤ s.last
  fewer_closed session moves same =
      let less : length (without_first (is_of session) s.active) ≤ length s.active = less_without (is_of session) s.active in
      let as_before : length (commits_of moves) ≡ length (commits_of s.moves) = ap length same in
      let all : length (commits_of s.moves) + length s.active ≤ s.last = few in
      omega arith

  fewer_ended : (session : ℕ) (o : Active) (k : Kind) → AreFewer (left (closed s session) k o.number)
  fewer_ended session o IsShort = fewer_closed session s.moves refl
  fewer_ended session o (IsPending d) = fewer_closed session s.moves refl
  fewer_ended session o (IsLive d snapshot) =
      fewer_closed session (s.moves ++ record { epoch = s.epoch; move = Leave o.number } ∷ []) (commits_none s.moves (record { epoch = s.epoch; move = Leave o.number }) refl)

  fewer_answered : (session : ℕ) (op : Op) (reply : Reply) → AreFewer (answered s op reply session)
  fewer_answered session op reply =
      subst (λ n. length (commits_of s.moves) + n ≤ s.last) (sym (as_many (is_of session) (record { op = op; reply = reply; order = serial s.agenda; latest = latest s }) s.active)) few

  fewer_grown : (epoch : ℕ) → AreFewer (grown s epoch)
  fewer_grown epoch =
      let commits : length (commits_of (s.moves ++ slots_of epoch s.active)) ≡ length (commits_of s.moves) = ap length (commits_same s.moves epoch s.active) in
      let opens : length (map (live_in (serial s.agenda)) s.active) ≡ length s.active = length-map s.active (live_in (serial s.agenda)) in
      let all : length (commits_of s.moves) + length s.active ≤ s.last = few in
      omega arith

  fewer_durable : (epoch : ℕ) (b : Bool) → AreFewer (durable_if b s epoch)
  fewer_durable epoch true = few
  fewer_durable epoch false = few

  fewer_cases : Cases s (λ line reply next. AreFewer next)
  fewer_cases = record {
    nothing = λ line reply leaves. few;
    begins_short = λ session none. fewer_begun session (record { session = session; kind = IsShort; number = s.last + 1; steps = [] });
    begins_long = λ session writes reads none.
        fewer_begun session (record { session = session; kind = IsPending (record { writes = writes; reads = reads; from = s.epoch + 1 }); number = s.last + 1; steps = [] });
    answers_short = λ session op o reply is kind free sees answers. fewer_answered session op reply;
    answers_batch = λ session op o d snapshot reply is kind inside sees answers. fewer_answered session op reply;
    commits_short = λ session o is kind free unchanged. fewer_committed session o (record { epoch = s.epoch; move = CommitShort (transaction_of o) }) is refl;
    commits_home = λ session o d snapshot is kind none. fewer_committed session o (record { epoch = s.epoch; move = CommitHome (transaction_of o) }) is refl;
    commits_before = λ session o d snapshot p is kind aim free elder. fewer_committed session o (record { epoch = s.epoch; move = CommitBefore (transaction_of o) p }) is refl;
    ends = λ session verb reply o is ends. fewer_ended session o o.kind;
    advances = subst AreFewer (sym (advanced_is s (s.epoch + 1))) (fewer_grown (s.epoch + 1));
    flushes = λ epoch which. fewer_durable epoch (nat_lt s.durable epoch);
  }

-- There are no more commits and open transactions than numbers that were given.
pub commits_fewer : (built : State → Line → Bool) (base : Base) (history : List Entry) → IsLegalWith built base history → length (commits_of (state base history).moves) + length (state base history).active ≤ (state base history).last
commits_fewer built base history legal = along built AreFewer fewer_cases (first_state base) history (let none : 0 + 0 ≤ base.last = omega arith in none) legal

some_length : {A : Type 0} (xs : List A) (x : A) → Contains xs x → 0 < length xs
some_length [] x c = absurd (contains_none x c)
some_length (y ∷ ys) x c = omega arith

-- While a transaction is open there are fewer commits than the last number that was given.
pub records_fewer : (built : State → Line → Bool) (base : Base) (history : List Entry) → IsLegalWith built base history → (r : Records) → AreRecordsOf (state base history) r → (o : Active) → Contains (state base history).active o → r.commits < (state base history).last
records_fewer built base history legal r at o here =
    let all : length (commits_of (state base history).moves) + length (state base history).active ≤ (state base history).last = commits_fewer built base history legal in
    let some : 0 < length (state base history).active = some_length (state base history).active o here in
    let count : r.commits ≡ length (commits_of (state base history).moves) = at.commits in
    omega arith

-- So there are fewer than the greatest number.
pub records_below : (built : State → Line → Bool) (base : Base) (history : List Entry) → IsSound base → IsLegalWith built base history → (r : Records) → AreRecordsOf (state base history) r
    → (o : Active) → Contains (state base history).active o → r.commits < last_number
records_below built base history sound legal r at o here =
    let fewer : r.commits < (state base history).last = records_fewer built base history legal r at o here in
    let bound : (state base history).last ≤ last_number = last_bounded built base history sound legal in
    omega arith
