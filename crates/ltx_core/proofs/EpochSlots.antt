-- The slots of an epoch in the state: what the moves, the agenda and the batches are after them.
use Rattle.std.proofs.Common.{◌≡◌, ℕ, ◌<◌, Bool, true, false, cond, ◌||◌, ◌==◌, List, [], ◌∷◌, ◌++◌, map, length, Option, Some, None, Contains, refl, sym, ap, ◌∙◌, append_assoc, append-nil, arith}
use Rattle.std.specs.List.{list_any, filter_map, cons_option, AllByRecursion}
use Rattle.std.proofs.lemmas.Bool.{ne_eqb}
use Rattle.ltx_model.specs.Lists.{IsPairwise}
use Rattle.ltx_model.specs.Operations.{Transaction}
use Rattle.ltx_model.specs.Agenda.{Member, LiveSlot, Committed, number_of, committed_of, has_number, Slot, Timed, serial, is_slot, commit_of, commits_of, moves_since, moves_until, part_from, has_slot}
use Rattle.ltx_model.specs.Agenda as agendas
use Rattle.ltx_model.specs.Listings.{is_member}
use Rattle.ltx_model.specs.Explained.{IsDistinct}
use Rattle.ltx_model.specs.Marks.{IsMarkOfSlot}
use Rattle.ltx_model.specs.States.{Declaration, Kind, IsShort, IsPending, IsLive, Active, State}
use Rattle.ltx_model.specs.Histories.{made_live, slot_after, slots_after, in_epoch, advanced}
use Rattle.ltx_model.specs.Holders.{Holder, is_holder, is_entered, holder_of, live_from_now}
use Rattle.ltx_laws.specs.Structure.{Stands, StandsAs}
use Rattle.ltx_laws.proofs.FloorCounts.{slot_if, slots_of}
use Rattle.ltx_laws.proofs.StructureSlots.{live_in}
use Rattle.ltx_laws.proofs.Agendas.{since_more, or_false}
use Rattle.ltx_lemmas.proofs.Lists.{all_contains, all_from, any_append, any_contains, any_none_all, any_not_all, any_map, find_any, find_passes, find_splits, before_fails, before_past, before_contains, from_past, from_within, from_contains, given_append, given_none, given_here}
use Rattle.ltx_lemmas.proofs.Members.{same_number}
use Rattle.ltx_lemmas.proofs.Serials.{serial_append}
use Rattle.ltx_core.specs.Since.{is_batch_commit, has_batch_since}
use Rattle.ltx_core.specs.Epochs.{pending_numbers}
use Rattle.ltx_core.specs.Stands.{IsSlotOf, batches_of}

-- the slots that pending batches get as members of the agenda
abbrev pub member_if : Kind → ℕ → Option Member
member_if IsShort n = None
member_if (IsPending d) n = Some (LiveSlot n)
member_if (IsLive d snapshot) n = None

abbrev pub members_of : List Active → List Member
members_of os = filter_map (λ o. member_if o.kind o.number) os

-- the state of a new epoch
abbrev pub grown : State → ℕ → State
grown s epoch = record {
  base = s.base;
  epoch = epoch;
  durable = s.durable;
  last = s.last;
  gate = s.gate;
  active = map (live_in (serial s.agenda)) s.active;
  agenda = s.agenda ++ members_of s.active;
  moves = s.moves ++ slots_of epoch s.active;
}

abbrev with_slots : State → List Member → List Timed → State
with_slots r agenda moves = record { base = r.base; epoch = r.epoch; durable = r.durable; last = r.last; gate = r.gate; active = r.active; agenda = agenda; moves = moves }

slots_are : (epoch : ℕ) (r : State) (os : List Active) → slots_after epoch r os ≡ with_slots r (r.agenda ++ members_of os) (r.moves ++ slots_of epoch os)
slots_are epoch r [] = λ i. with_slots r (sym (append-nil r.agenda) i) (sym (append-nil r.moves) i)
slots_are epoch r (o ∷ os) = slots_are epoch (slot_after epoch r o.kind o.number) os ∙ by_kind o.kind where
  by_kind : (k : Kind) → with_slots (slot_after epoch r k o.number) ((slot_after epoch r k o.number).agenda ++ members_of os) ((slot_after epoch r k o.number).moves ++ slots_of epoch os)
      ≡ with_slots r (r.agenda ++ cons_option (member_if k o.number) (members_of os)) (r.moves ++ cons_option (slot_if epoch k o.number) (slots_of epoch os))
  by_kind IsShort = refl
  by_kind (IsPending d) = λ i. with_slots r (append_assoc r.agenda (LiveSlot o.number ∷ []) (members_of os) i) (append_assoc r.moves (record { epoch = epoch; move = Slot o.number } ∷ []) (slots_of epoch os) i)
  by_kind (IsLive d snapshot) = refl

pub advanced_is : (s : State) (epoch : ℕ) → advanced s epoch ≡ grown s epoch
advanced_is s epoch = slots_are epoch (in_epoch s epoch) s.active

-- of each pending batch its number, its slot as a member, and as a move
pub members_numbers : (os : List Active) → map number_of (members_of os) ≡ pending_numbers (batches_of os)
members_numbers [] = refl
members_numbers (o ∷ os) = by_kind o.kind (members_numbers os) where
  by_kind : (k : Kind) → map number_of (members_of os) ≡ pending_numbers (batches_of os) → map number_of (cons_option (member_if k o.number) (members_of os)) ≡ pending_numbers (cons_option (holder_of k o.number) (batches_of os))
  by_kind IsShort rest = rest
  by_kind (IsPending d) rest = ap (λ ns. o.number ∷ ns) rest
  by_kind (IsLive d snapshot) rest = rest

-- the batches afterwards
pub batches_live : (snapshot : List Transaction) (os : List Active) → map live_from_now (batches_of os) ≡ batches_of (map (live_in snapshot) os)
batches_live snapshot [] = refl
batches_live snapshot (o ∷ os) = by_kind o.kind (batches_live snapshot os) where
  by_kind : (k : Kind) → map live_from_now (batches_of os) ≡ batches_of (map (live_in snapshot) os)
      → map live_from_now (cons_option (holder_of k o.number) (batches_of os)) ≡ cons_option (holder_of (made_live snapshot k) o.number) (batches_of (map (live_in snapshot) os))
  by_kind IsShort rest = rest
  by_kind (IsPending d) rest = ap (λ hs. record { number = o.number; tables = d.writes; live = true } ∷ hs) rest
  by_kind (IsLive d old) rest = ap (λ hs. record { number = o.number; tables = d.writes; live = true } ∷ hs) rest

-- its slots are not commits
slots_commit_none : (epoch : ℕ) (os : List Active) → AllByRecursion (λ m. commit_of m.move ≡ None) (slots_of epoch os)
slots_commit_none epoch [] = tt
slots_commit_none epoch (o ∷ os) = by_kind o.kind (slots_commit_none epoch os) where
  by_kind : (k : Kind) → AllByRecursion (λ m. commit_of m.move ≡ None) (slots_of epoch os) → AllByRecursion (λ m. commit_of m.move ≡ None) (cons_option (slot_if epoch k o.number) (slots_of epoch os))
  by_kind IsShort rest = rest
  by_kind (IsPending d) rest = (refl, rest)
  by_kind (IsLive d snapshot) rest = rest

slots_no_batch : (epoch : ℕ) (os : List Active) → AllByRecursion (λ m. is_batch_commit m.move ≡ false) (slots_of epoch os)
slots_no_batch epoch [] = tt
slots_no_batch epoch (o ∷ os) = by_kind o.kind (slots_no_batch epoch os) where
  by_kind : (k : Kind) → AllByRecursion (λ m. is_batch_commit m.move ≡ false) (slots_of epoch os) → AllByRecursion (λ m. is_batch_commit m.move ≡ false) (cons_option (slot_if epoch k o.number) (slots_of epoch os))
  by_kind IsShort rest = rest
  by_kind (IsPending d) rest = (refl, rest)
  by_kind (IsLive d snapshot) rest = rest

members_commit_none : (os : List Active) → AllByRecursion (λ m. committed_of m ≡ None) (members_of os)
members_commit_none [] = tt
members_commit_none (o ∷ os) = by_kind o.kind (members_commit_none os) where
  by_kind : (k : Kind) → AllByRecursion (λ m. committed_of m ≡ None) (members_of os) → AllByRecursion (λ m. committed_of m ≡ None) (cons_option (member_if k o.number) (members_of os))
  by_kind IsShort rest = rest
  by_kind (IsPending d) rest = (refl, rest)
  by_kind (IsLive d snapshot) rest = rest

pub commits_same : (moves : List Timed) (epoch : ℕ) (os : List Active) → commits_of (moves ++ slots_of epoch os) ≡ commits_of moves
commits_same moves epoch os =
    given_append (λ (m : Timed). commit_of m.move) moves (slots_of epoch os) ∙ ap (λ ts. commits_of moves ++ ts) (given_none (λ (m : Timed). commit_of m.move) (slots_of epoch os) (slots_commit_none epoch os)) ∙ append-nil (commits_of moves)

serial_none : (os : List Active) → serial (members_of os) ≡ []
serial_none os = given_none committed_of (members_of os) (members_commit_none os)

pub serial_same : (ms : List Member) (os : List Active) → serial (ms ++ members_of os) ≡ serial ms
serial_same ms os = serial_append ms (members_of os) ∙ ap (λ ts. serial ms ++ ts) (serial_none os) ∙ append-nil (serial ms)

-- the slots are those of batches that have begun
pub slot_live : (hs : List Holder) (m : Member) → IsSlotOf hs m → IsSlotOf (map live_from_now hs) m
slot_live hs (LiveSlot n) slot = any_map (is_holder n) live_from_now hs ∙ slot
slot_live hs (Committed t) slot = any_map (is_holder t.number) live_from_now hs ∙ slot

or_right : (a b : Bool) → b ≡ true → (a || b) ≡ true
or_right true b is = refl
or_right false b is = is

pub slots_within : (hs : List Holder) (os : List Active) → ((n : ℕ) → is_entered (batches_of os) n ≡ true → is_entered hs n ≡ true) → AllByRecursion (IsSlotOf hs) (members_of os)
slots_within hs [] within = tt
slots_within hs (o ∷ os) within = by_kind o.kind within (slots_within hs os) where
  by_kind : (k : Kind) → ((n : ℕ) → is_entered (cons_option (holder_of k o.number) (batches_of os)) n ≡ true → is_entered hs n ≡ true)
      → (((n : ℕ) → is_entered (batches_of os) n ≡ true → is_entered hs n ≡ true) → AllByRecursion (IsSlotOf hs) (members_of os)) → AllByRecursion (IsSlotOf hs) (cons_option (member_if k o.number) (members_of os))
  by_kind IsShort all later = later all
  by_kind (IsPending d) all later = (all o.number (rw (same_number o.number) refl), later (λ n is. all n (or_right (o.number == n) (is_entered (batches_of os) n) is)))
  by_kind (IsLive d snapshot) all later = later (λ n is. all n (or_right (o.number == n) (is_entered (batches_of os) n) is))

-- the moves after the first slot of a batch, where it stands among the later ones
since_past : (n : ℕ) (xs ys : List Timed) → AllByRecursion (λ m. is_slot n m.move ≡ false) xs → moves_since n (xs ++ ys) ≡ moves_since n ys
since_past n [] ys none = refl
since_past n (x ∷ xs) ys none = rw none.0 (since_past n xs ys none.1)

since_all : (P : Timed → Type 0) (n : ℕ) (xs : List Timed) → AllByRecursion P xs → AllByRecursion P (moves_since n xs)
since_all P n [] all = tt
since_all P n (x ∷ xs) all = by_test (is_slot n x.move) (since_all P n xs all.1) where
  by_test : (b : Bool) → AllByRecursion P (moves_since n xs) → AllByRecursion P (cond b xs (moves_since n xs))
  by_test true rest = all.1
  by_test false rest = rest

-- a pending batch: its slot is the first one, and its mark is the number of commits
module _ (moves : List Timed) (epoch : ℕ) (os : List Active) (o : Active) (d : Declaration) (here : Contains os o) (kind : o.kind ≡ IsPending d) (new : has_slot moves o.number ≡ false) where
  abbrev later : List Timed
  later = moves ++ slots_of epoch os

  none_before : AllByRecursion (λ m. is_slot o.number m.move ≡ false) moves
  none_before = any_not_all (λ (m : Timed). is_slot o.number m.move) moves new

  slotted : has_slot (slots_of epoch os) o.number ≡ true
  slotted =
      any_contains (λ (m : Timed). is_slot o.number m.move) (slots_of epoch os) (record { epoch = epoch; move = Slot o.number })
      (given_here (λ (u : Active). slot_if epoch u.kind u.number) os o (record { epoch = epoch; move = Slot o.number }) here (ap (λ k. slot_if epoch k o.number) kind)) (same_number o.number)

  slotted_later : has_slot later o.number ≡ true
  slotted_later = any_append (λ (m : Timed). is_slot o.number m.move) moves (slots_of epoch os) ∙ ap (λ b. b || has_slot (slots_of epoch os) o.number) new ∙ slotted

  until_is : moves_until o.number later ≡ moves ++ moves_until o.number (slots_of epoch os)
  until_is = before_past (λ (m : Timed). is_slot o.number m.move) moves (slots_of epoch os) none_before

  none_committed : commits_of (moves_until o.number (slots_of epoch os)) ≡ []
  none_committed =
      given_none (λ (m : Timed). commit_of m.move) (moves_until o.number (slots_of epoch os))
      (all_from (λ m. commit_of m.move ≡ None) (moves_until o.number (slots_of epoch os))
      (λ m among. all_contains (λ m. commit_of m.move ≡ None) (slots_of epoch os) m (slots_commit_none epoch os) (before_contains (λ (m : Timed). is_slot o.number m.move) (slots_of epoch os) m among)))

  pub new_mark : (mark : ℕ) → mark ≡ length (commits_of moves) → IsMarkOfSlot later o.number mark
  new_mark mark count =
      let found = find_any (λ (m : Timed). is_slot o.number m.move) later slotted_later in
      let parts = find_splits (λ (m : Timed). is_slot o.number m.move) later found.0 found.1 in
      record {
        front = moves_until o.number later;
        slot = found.0;
        back = parts.0;
        parts = parts.1;
        is = find_passes (λ (m : Timed). is_slot o.number m.move) later found.0 found.1;
        first = before_fails (λ (m : Timed). is_slot o.number m.move) later;
        mark_is = ap length (ap commits_of until_is ∙ given_append (λ (m : Timed). commit_of m.move) moves (moves_until o.number (slots_of epoch os)) ∙ ap (λ ts. commits_of moves ++ ts) none_committed ∙ append-nil (commits_of moves)) ∙ sym count;
      }

  pub new_since : has_batch_since later o.number ≡ false
  new_since =
      ap (list_any (λ (m : Timed). is_batch_commit m.move)) (since_past o.number moves (slots_of epoch os) none_before)
      ∙ any_none_all (λ (m : Timed). is_batch_commit m.move) (moves_since o.number (slots_of epoch os)) (since_all (λ m. is_batch_commit m.move ≡ false) o.number (slots_of epoch os) (slots_no_batch epoch os))

-- nothing committed stands behind it
pub new_behind : (ms : List Member) (os : List Active) (n : ℕ) → agendas.is_member ms n ≡ false → serial (part_from n (ms ++ members_of os)) ≡ []
new_behind ms os n fresh =
    ap serial (from_past (has_number n) ms (members_of os) (any_not_all (has_number n) ms fresh))
    ∙ given_none committed_of (part_from n (members_of os))
    (all_from (λ m. committed_of m ≡ None) (part_from n (members_of os))
    (λ m among. all_contains (λ m. committed_of m ≡ None) (members_of os) m (members_commit_none os) (from_contains (has_number n) (members_of os) m among)))

-- a live batch: its slot stays the first one, and as many stand behind it
pub old_mark : (moves : List Timed) (epoch : ℕ) (os : List Active) (n mark : ℕ) → IsMarkOfSlot moves n mark → IsMarkOfSlot (moves ++ slots_of epoch os) n mark
old_mark moves epoch os n mark at = record {
  front = at.front;
  slot = at.slot;
  back = at.back ++ slots_of epoch os;
  parts = ap (λ ms. ms ++ slots_of epoch os) at.parts ∙ append_assoc at.front (at.slot ∷ at.back) (slots_of epoch os);
  is = at.is;
  first = at.first;
  mark_is = at.mark_is;
}

pub old_since : (moves : List Timed) (epoch : ℕ) (os : List Active) (n : ℕ) → has_slot moves n ≡ true → has_batch_since (moves ++ slots_of epoch os) n ≡ has_batch_since moves n
old_since moves epoch os n slot =
    ap (list_any (λ (m : Timed). is_batch_commit m.move)) (since_more n moves (slots_of epoch os) slot)
    ∙ any_append (λ (m : Timed). is_batch_commit m.move) (moves_since n moves) (slots_of epoch os)
    ∙ ap (λ b. has_batch_since moves n || b) (any_none_all (λ (m : Timed). is_batch_commit m.move) (slots_of epoch os) (slots_no_batch epoch os)) ∙ or_false (has_batch_since moves n)

pub old_behind : (ms : List Member) (os : List Active) (n : ℕ) → agendas.is_member ms n ≡ true → serial (part_from n (ms ++ members_of os)) ≡ serial (part_from n ms)
old_behind ms os n member = ap serial (from_within (has_number n) ms (members_of os) member) ∙ serial_same (part_from n ms) os

-- the numbers of pending batches are no members, and distinct
pub strangers : (ms : List Member) (moves : List Timed) (os : List Active) → AllByRecursion (Stands ms moves) os → AllByRecursion (λ n. is_member (map number_of ms) n ≡ false) (pending_numbers (batches_of os))
strangers ms moves [] all = tt
strangers ms moves (o ∷ os) all = by_kind o.kind all.0 (strangers ms moves os all.1) where
  by_kind : (k : Kind) → StandsAs ms moves k o.number o.steps → AllByRecursion (λ n. is_member (map number_of ms) n ≡ false) (pending_numbers (batches_of os))
      → AllByRecursion (λ n. is_member (map number_of ms) n ≡ false) (pending_numbers (cons_option (holder_of k o.number) (batches_of os)))
  by_kind IsShort stands rest = rest
  by_kind (IsPending d) stands rest = (any_map (λ m. m == o.number) number_of ms ∙ stands.fresh, rest)
  by_kind (IsLive d snapshot) stands rest = rest

above_none : (n : ℕ) (os : List Active) → AllByRecursion (λ o. n < o.number) os → list_any (λ y. y == n) (pending_numbers (batches_of os)) ≡ false
above_none n [] all = refl
above_none n (o ∷ os) all = by_kind o.kind (above_none n os all.1) where
  other : (o.number == n) ≡ false
  other = ne_eqb o.number n (λ e. let above : n < o.number = all.0 in let none : ⊥ = omega arith in none)

  by_kind : (k : Kind) → list_any (λ y. y == n) (pending_numbers (batches_of os)) ≡ false → list_any (λ y. y == n) (pending_numbers (cons_option (holder_of k o.number) (batches_of os))) ≡ false
  by_kind IsShort rest = rest
  by_kind (IsPending d) rest = rw (other, rest) refl
  by_kind (IsLive d snapshot) rest = rest

pub distinct : (os : List Active) → IsPairwise (λ a b. a.number < b.number) os → IsDistinct (pending_numbers (batches_of os))
distinct [] rising = tt
distinct (o ∷ os) rising = by_kind o.kind (distinct os rising.1) where
  by_kind : (k : Kind) → IsDistinct (pending_numbers (batches_of os)) → IsDistinct (pending_numbers (cons_option (holder_of k o.number) (batches_of os)))
  by_kind IsShort rest = rest
  by_kind (IsPending d) rest = (above_none o.number os rising.0, rest)
  by_kind (IsLive d snapshot) rest = rest
