-- Where a live batch is committed: in its slot, or before a target. What the agenda and the order are then.
use Rattle.std.proofs.Common.{◌≡◌, ◌≢◌, ◌⊎◌, inl, inr, ℕ, Bool, true, false, ◌&&◌, ◌||◌, cond, ◌==◌, List, [], ◌∷◌, ◌++◌, map, Some, refl, sym, ap, ◌∙◌, Contains}
use Rattle.std.proofs.lemmas.Bool.{eq-eqb, ne_eqb, or_right}
use Rattle.std.specs.List.{AllByRecursion}
use Rattle.ltx_model.specs.declared.rows.StoredRow.{StoredRow}
use Rattle.ltx_model.specs.Lists.{before_first}
use Rattle.ltx_model.specs.Operations.{Transaction}
use Rattle.ltx_model.specs.Agenda.{Member, LiveSlot, Committed, number_of, has_number, is_member, without_member, insert_before, commit_at_slot, Move, CommitHome, CommitBefore, commit_of, agenda_after, serial, part_before, part_from}
use Rattle.ltx_model.specs.Listings as listed
use Rattle.ltx_model.specs.Decisions.{stands_before}
use Rattle.ltx_model.specs.Holders.{Holder, is_entered, removed}
use Rattle.ltx_lemmas.specs.Places.{is_before, is_at_or_after, AreApart}
use Rattle.ltx_lemmas.proofs.Lists.{true_false, all_from, all_map, any_map, any_contains, from_contains, before_contains}
use Rattle.ltx_lemmas.proofs.Members.{member_without_same, member_without_other, before_without, member_insert_other, before_insert_left, member_home, before_home, before_self, before_asym, from_cases}
use Rattle.ltx_lemmas.proofs.Serials.{serial_member, serial_parts, slot_not_committed, serial_before, serial_home}
use Rattle.ltx_core.specs.Since.{is_batch_commit}
use Rattle.ltx_core.specs.Stands.{IsSlotOf}
use Rattle.ltx_core.proofs.Batches.{entered_removed, slots_without}
use Rattle.ltx_core.proofs.InstalledUnless.{IsBetween}

-- A move commits the transaction between two parts of the order, and the slots that stand are those of the batches that are entered.
pub record HasPlace (base : List StoredRow) (ms : List Member) (t : Transaction) (move : Move) : Type 0 where
  pub front : List Transaction
  pub back : List Transaction
  pub now : serial (agenda_after ms move) ≡ front ++ t ∷ back
  pub before : front ++ back ≡ serial ms
  pub between : IsBetween (map number_of (agenda_after ms move)) base front t.number back
  pub commits : commit_of move ≡ Some t
  pub batch : is_batch_commit move ≡ true
  pub slots : (holders : List Holder) → is_entered (removed t.number holders) t.number ≡ false → AllByRecursion (IsSlotOf holders) ms
      → AllByRecursion (IsSlotOf (removed t.number holders)) (agenda_after ms move)

-- who stands before whom in the list of the members' numbers
before_numbers : (ms : List Member) (v : ℕ) → before_first (λ m. m == v) (map number_of ms) ≡ map number_of (part_before v ms)
before_numbers [] v = refl
before_numbers (m ∷ ms) v = by_test (has_number v m) (before_numbers ms v) where
  by_test : (b : Bool) → before_first (λ x. x == v) (map number_of ms) ≡ map number_of (part_before v ms)
      → cond b [] (number_of m ∷ before_first (λ x. x == v) (map number_of ms)) ≡ map number_of (cond b [] (m ∷ part_before v ms))
  by_test true e = refl
  by_test false e = ap (λ l. number_of m ∷ l) e

pub stands_numbers : (ms : List Member) (n v : ℕ) → stands_before (map number_of ms) n v ≡ (is_member ms v && is_before ms n v)
stands_numbers ms n v =
    ap (λ b. b && listed.is_member (before_first (λ m. m == v) (map number_of ms)) n) (any_map (λ m. m == v) number_of ms)
    ∙ ap (λ l. is_member ms v && listed.is_member l n) (before_numbers ms v)
    ∙ ap (λ b. is_member ms v && b) (any_map (λ m. m == n) number_of (part_before v ms))

and_false : (b : Bool) → (b && false) ≡ false
and_false true = refl
and_false false = refl

-- it stands before another number, or does not
stands_not : (ms : List Member) (n v : ℕ) → is_before ms n v ≡ false → stands_before (map number_of ms) n v ≡ false
stands_not ms n v not_before = stands_numbers ms n v ∙ ap (λ b. is_member ms v && b) not_before ∙ and_false (is_member ms v)

stands_there : (ms : List Member) (n v : ℕ) → is_member ms v ≡ true → is_before ms n v ≡ true → stands_before (map number_of ms) n v ≡ true
stands_there ms n v member before = stands_numbers ms n v ∙ ap (λ b. b && is_before ms n v) member ∙ before

-- the slots that stand, with a member more
slots_insert : (hs : List Holder) (x : Member) (p : ℕ) (ms : List Member) → IsSlotOf hs x → AllByRecursion (IsSlotOf hs) ms → AllByRecursion (IsSlotOf hs) (insert_before x p ms)
slots_insert hs x p [] own all = tt
slots_insert hs x p (m ∷ ms) own all = by_test (has_number p m) (slots_insert hs x p ms own all.1) where
  by_test : (b : Bool) → AllByRecursion (IsSlotOf hs) (insert_before x p ms) → AllByRecursion (IsSlotOf hs) (cond b (x ∷ m ∷ ms) (m ∷ insert_before x p ms))
  by_test true rest = (own, all)
  by_test false rest = (all.0, rest)

-- and with one committed where its slot stood
slots_home : (t : Transaction) (holders : List Holder) (ms : List Member) → is_entered (removed t.number holders) t.number ≡ false → AllByRecursion (IsSlotOf holders) ms
    → AllByRecursion (IsSlotOf (removed t.number holders)) (map (commit_at_slot t) ms)
slots_home t holders [] gone all = tt
slots_home t holders (m ∷ ms) gone all = (by_test (has_number t.number m) refl, slots_home t holders ms gone all.1) where
  other : (k : ℕ) → (k == t.number) ≡ false → k ≢ t.number
  other k apart same = true_false (sym (eq-eqb k t.number same) ∙ apart)

  by_member : (x : Member) → has_number t.number x ≡ false → IsSlotOf holders x → IsSlotOf (removed t.number holders) x
  by_member (LiveSlot n) apart slot = entered_removed t.number n holders (other n apart) ∙ slot
  by_member (Committed u) apart slot = entered_removed t.number u.number holders (other u.number apart) ∙ slot

  by_test : (b : Bool) → has_number t.number m ≡ b → IsSlotOf (removed t.number holders) (cond b (Committed t) m)
  by_test true here = gone
  by_test false apart = by_member m apart all.0

module _ (base : List StoredRow) (ms : List Member) (t : Transaction) (apart : AreApart ms) (slot : Contains ms (LiveSlot t.number)) (strangers : AllByRecursion (λ (row : StoredRow). is_member ms row.writer ≡ false) base) where
  abbrev n : ℕ
  n = t.number

  member : is_member ms n ≡ true
  member = any_contains (has_number n) ms (LiveSlot n) slot (eq-eqb n n refl)

  -- the numbers of the two parts of the order
  of_front : (p : ℕ) (u : Transaction) → Contains (serial (part_before p ms)) u → is_before ms u.number p ≡ true
  of_front p u here = any_contains (has_number u.number) (part_before p ms) (Committed u) (serial_member (part_before p ms) u here) (eq-eqb u.number u.number refl)

  of_back : (p : ℕ) (u : Transaction) → Contains (serial (part_from p ms)) u → is_at_or_after ms u.number p ≡ true
  of_back p u here = any_contains (has_number u.number) (part_from p ms) (Committed u) (serial_member (part_from p ms) u here) (eq-eqb u.number u.number refl)

  back_member : (p : ℕ) (u : Transaction) → Contains (serial (part_from p ms)) u → Contains ms (Committed u)
  back_member p u here = from_contains (has_number p) ms (Committed u) (serial_member (part_from p ms) u here)

  front_member : (p : ℕ) (u : Transaction) → Contains (serial (part_before p ms)) u → Contains ms (Committed u)
  front_member p u here = before_contains (has_number p) ms (Committed u) (serial_member (part_before p ms) u here)

  is_there : (u : Transaction) → Contains ms (Committed u) → is_member ms u.number ≡ true
  is_there u here = any_contains (has_number u.number) ms (Committed u) here (eq-eqb u.number u.number refl)

  differs : (u : Transaction) → Contains ms (Committed u) → u.number ≢ n
  differs u here = slot_not_committed n ms apart slot u here

  -- whoever is no member has another number
  strange : (k : ℕ) → is_member ms k ≡ false → k ≢ n
  strange k none same = true_false (sym member ∙ ap (is_member ms) (sym same) ∙ none)

  -- home
  home_between : IsBetween (map number_of (map (commit_at_slot t) ms)) base (serial (part_before n ms)) n (serial (part_from n ms))
  home_between = record {
    ahead = all_from (λ u. stands_before (map number_of (map (commit_at_slot t) ms)) n u.number ≡ false) (serial (part_before n ms))
        (λ u here. stands_not (map (commit_at_slot t) ms) n u.number (before_home t ms n u.number ∙ before_asym ms u.number n (of_front n u here)));
    behind = all_from (λ u. stands_before (map number_of (map (commit_at_slot t) ms)) n u.number ≡ true) (serial (part_from n ms))
        (λ u here. stands_there (map (commit_at_slot t) ms) n u.number (member_home t ms u.number ∙ is_there u (back_member n u here)) (before_home t ms n u.number ∙ after u here));
    strangers = all_map (λ (row : StoredRow). is_member ms row.writer ≡ false) (λ (row : StoredRow). listed.is_member (map number_of (map (commit_at_slot t) ms)) row.writer ≡ false)
        (λ row none. any_map (λ m. m == row.writer) number_of (map (commit_at_slot t) ms) ∙ member_home t ms row.writer ∙ none) base strangers;
  } where
    after : (u : Transaction) → Contains (serial (part_from n ms)) u → is_before ms n u.number ≡ true
    after u here = by_case (from_cases ms u.number n apart (of_back n u here)) where
      by_case : (u.number ≡ n) ⊎ (is_before ms n u.number ≡ true) → is_before ms n u.number ≡ true
      by_case (inl same) = absurd (differs u (back_member n u here) same)
      by_case (inr is) = is

  pub home_place : HasPlace base ms t (CommitHome t)
  home_place = record {
    front = serial (part_before n ms);
    back = serial (part_from n ms);
    now = serial_home t ms apart slot;
    before = serial_parts n ms;
    between = home_between;
    commits = refl;
    batch = refl;
    slots = λ holders gone all. slots_home t holders ms gone all;
  }

  -- before a target
  module _ (p : ℕ) (target : is_member ms p ≡ true) (other : p ≢ n) where
    abbrev rest : List Member
    rest = without_member ms n

    abbrev moved : List Member
    moved = insert_before (Committed t) p rest

    member_moved : (k : ℕ) → k ≢ n → is_member moved k ≡ is_member ms k
    member_moved k apart = member_insert_other (Committed t) p rest k (λ same. apart (sym same)) ∙ member_without_other ms n k apart

    before_moved : (k : ℕ) → k ≢ n → is_before moved n k ≡ ((p == k) || is_before ms p k)
    before_moved k apart =
        before_insert_left (Committed t) p rest k (member_without_other ms n p other ∙ target) (λ same. apart (sym same)) (member_without_same ms n)
        ∙ ap (λ b. (p == k) || b) (before_without ms n p k other apart)

    before_between : IsBetween (map number_of moved) base (serial (part_before p ms)) n (serial (part_from p ms))
    before_between = record {
      ahead = all_from (λ u. stands_before (map number_of moved) n u.number ≡ false) (serial (part_before p ms)) (λ u here. stands_not moved n u.number (ahead_of u here));
      behind = all_from (λ u. stands_before (map number_of moved) n u.number ≡ true) (serial (part_from p ms))
          (λ u here. stands_there moved n u.number (member_moved u.number (differs u (back_member p u here)) ∙ is_there u (back_member p u here)) (behind_it u here));
      strangers = all_map (λ (row : StoredRow). is_member ms row.writer ≡ false) (λ (row : StoredRow). listed.is_member (map number_of moved) row.writer ≡ false)
          (λ row none. any_map (λ m. m == row.writer) number_of moved ∙ member_moved row.writer (strange row.writer none) ∙ none) base strangers;
    } where
      ahead_of : (u : Transaction) → Contains (serial (part_before p ms)) u → is_before moved n u.number ≡ false
      ahead_of u here =
          let before : is_before ms u.number p ≡ true = of_front p u here in
          before_moved u.number (differs u (front_member p u here))
          ∙ ap (λ b. b || is_before ms p u.number) (ne_eqb p u.number (λ same. true_false (sym before ∙ ap (λ k. is_before ms k p) (sym same) ∙ before_self ms p)))
          ∙ before_asym ms u.number p before

      behind_it : (u : Transaction) → Contains (serial (part_from p ms)) u → is_before moved n u.number ≡ true
      behind_it u here = before_moved u.number (differs u (back_member p u here)) ∙ by_case (from_cases ms u.number p apart (of_back p u here)) where
        by_case : (u.number ≡ p) ⊎ (is_before ms p u.number ≡ true) → ((p == u.number) || is_before ms p u.number) ≡ true
        by_case (inl same) = ap (λ b. b || is_before ms p u.number) (eq-eqb p u.number (sym same))
        by_case (inr is) = or_right (p == u.number) (is_before ms p u.number) is

    pub before_place : HasPlace base ms t (CommitBefore t p)
    before_place = record {
      front = serial (part_before p ms);
      back = serial (part_from p ms);
      now = serial_before t p ms apart slot other target;
      before = serial_parts p ms;
      between = before_between;
      commits = refl;
      batch = refl;
      slots = λ holders gone all. slots_insert (removed n holders) (Committed t) p rest gone (slots_without n holders ms all);
    }
