-- The structure after a transaction commits or ends: one lemma for each move.
use Rattle.std.proofs.Common.{◌||◌}
use Rattle.ltx_model.specs.Agenda.{without_member, insert_before, part_from, CommitBefore, Leave, has_slot, commits_after}
use Rattle.ltx_lemmas.proofs.Lists.{all_filter}
use Rattle.ltx_laws.proofs.Pairs.{same_number, all_from_first, all_insert, pairs_filter, pairs_insert}
use Rattle.ltx_laws.proofs.Places.{any_before, in_front, before_without, before_apart}
use Rattle.ltx_laws.proofs.Agendas.{or_true, member_without, member_insert, gone, serial_without, before_inserted, IsInserted}
use Rattle.ltx_laws.proofs.Snapshots.{passing_without, passing_before}
use Rattle.std.proofs.Common.{◌≡◌, ◌≢◌, ℕ, ◌<◌, ◌≤◌, Bool, true, false, cond, not, ◌||◌, ◌==◌, List, [], ◌∷◌, ◌++◌, map, filter, Some, refl, sym, ap, ◌∙◌, subst, subst₂, ne_eqb, eq-eqb, IsPermutation}
use Rattle.std.specs.List.{AllByRecursion}
use Rattle.ltx_model.specs.Lists.{without_first, IsPairwise}
use Rattle.ltx_model.specs.Operations.{Transaction}
use Rattle.ltx_model.specs.Agenda.{Member, Committed, number_of, has_number, is_member, commit_at_slot, agenda_after, serial, agenda_from, part_before, CommitShort, CommitHome, Timed, is_slot, commits_of, commits_batch}
use Rattle.ltx_model.specs.States.{Active, transaction_of, Base, State, is_of, active_of}
use Rattle.ltx_model.specs.Histories.{closed, moved}
use Rattle.ltx_laws.specs.Structure.{forwards, is_forwarded, AreSlots, IsKnown, IsBefore, Stands, Structure}
use Rattle.ltx_lemmas.proofs.Lists.{all_map, all_push, all_without, all_find, all_mapped, filter_same, true_false}
use Rattle.ltx_laws.proofs.Pairs.{all_of, all_both, pairs_all, pairs_push, pairs_map}
use Rattle.ltx_laws.proofs.Agendas.{IsOther, any_push, any_push_not, any_kept, until_more, agenda_more, commits_after_more, commits_after_now, number_home, member_home, member_push, not_member, serial_short, inserted_at_end, inserted_permutes, home_inserted}
use Rattle.ltx_laws.proofs.Snapshots.{part_push, passing_home}
use Rattle.ltx_laws.proofs.Standing.{commits_none, Keeps, stands_on, known_on, others_rising, others_committed, opens_less, before_on, commits_push}

module _ (base : Base) (s : State) (session : ℕ) (o : Active) (inv : Structure base s) (is : active_of s session ≡ Some o) where
  abbrev rest : List Active
  rest = without_first (is_of session) s.active

  apart_rest : AllByRecursion (λ u. o.number ≢ u.number) rest
  apart_rest = others_rising s.active session o is inv.opens.rising

  apart_from_rest : AllByRecursion (λ u. u.number ≢ o.number) rest
  apart_from_rest = all_map (λ u. o.number ≢ u.number) (λ u. u.number ≢ o.number) (λ u ne e. ne (sym e)) rest apart_rest

  others : AllByRecursion (IsOther o.number) s.agenda
  others = all_map (IsKnown s.active s.moves) (IsOther o.number) (others_committed s.active session o is s.moves) s.agenda inv.members.known

  above : base.last < o.number
  above = all_find (λ (u : Active). base.last < u.number) (is_of session) s.active o inv.opens.above is

  bound : o.number ≤ s.last
  bound = all_find (λ (u : Active). u.number ≤ s.last) (is_of session) s.active o inv.opens.bound is

  -- the others stand as before
  rest_stands : (agenda' : List Member) (moves' : List Timed) → ((n : ℕ) → has_slot moves' n ≡ has_slot s.moves n) → Keeps o.number s.agenda s.moves agenda' moves' → AllByRecursion (Stands agenda' moves') rest
  rest_stands agenda' moves' slots keeps = all_both (Stands s.agenda s.moves) (λ u. o.number ≢ u.number) (Stands agenda' moves') (λ u h apart. stands_on o.number s.agenda s.moves agenda' moves' keeps u apart (λ pending later j e. later j (sym (slots j) ∙ e)) h) rest
      (all_without (Stands s.agenda s.moves) (is_of session) s.active inv.stands) apart_rest

  -- a short or a pending batch ends
  pub closed_structure : is_member s.agenda o.number ≡ false → Structure base (closed s session)
  closed_structure fresh = record {
    rows = inv.rows;
    last = inv.last;
    opens = opens_less base s.last s.active (is_of session) inv.opens;
    slots = inv.slots;
    moves = inv.moves;
    members = record {
      above = inv.members.above;
      bound = inv.members.bound;
      known = all_both (λ m. number_of m ≢ o.number) (IsKnown s.active s.moves) (IsKnown rest s.moves) (known_on s.active session o is s.moves s.moves (λ n e. refl) (λ n e. refl)) s.agenda (not_member s.agenda o.number fresh) inv.members.known;
    };
    order = inv.order;
    stands = all_without (Stands s.agenda s.moves) (is_of session) s.active inv.stands;
    committed = inv.committed;
  }

  -- a move that is no slot
  module _ (m : Timed) (unslotted : (n : ℕ) → is_slot n m.move ≡ false) where
    abbrev later : List Timed
    later = s.moves ++ m ∷ []

    slots_same : (n : ℕ) → has_slot later n ≡ has_slot s.moves n
    slots_same n = any_push_not (λ x. is_slot n x.move) s.moves m (unslotted n)

    forwards_more : (n : ℕ) → is_forwarded s.moves n ≡ true → is_forwarded later n ≡ true
    forwards_more n e = any_kept (λ x. forwards n x.move) s.moves (m ∷ []) e

    slots_on : ((n : ℕ) → forwards n m.move ≡ true → has_slot s.moves n ≡ true) → AreSlots s.last later
    slots_on slotted = record {
      bound = λ n e. inv.slots.bound n (sym (slots_same n) ∙ e);
      forwarded = λ n e. slots_same n ∙ by_part n (is_forwarded s.moves n) refl (sym (any_push (λ x. forwards n x.move) s.moves m) ∙ e);
    } where
      by_part : (n : ℕ) (b : Bool) → is_forwarded s.moves n ≡ b → (is_forwarded s.moves n || forwards n m.move) ≡ true → has_slot s.moves n ≡ true
      by_part n true is e = inv.slots.forwarded n is
      by_part n false is e = slotted n (sym (ap (λ c. c || forwards n m.move) is) ∙ e)

    keeps_by : (agenda' : List Member) → ((n : ℕ) → o.number ≢ n → is_member agenda' n ≡ is_member s.agenda n)
        → ((n : ℕ) → o.number ≢ n → has_slot s.moves n ≡ true → is_member s.agenda n ≡ true
        → filter (λ t. not (commits_after later n t.number)) (serial (part_before n agenda')) ≡ filter (λ t. not (commits_after s.moves n t.number)) (serial (part_before n s.agenda)))
        → Keeps o.number s.agenda s.moves agenda' later
    keeps_by agenda' members passing = record {
      slots = λ n e. slots_same n;
      members = members;
      until = λ n e. until_more n s.moves (m ∷ []) e;
      passing = passing;
    }

    -- two numbers stand as before
    order_on : (a b : ℕ) → IsBefore s.moves a b → IsBefore later a b
    order_on a b h = before_on s.moves later a b (slots_same a) (slots_same b) (forwards_more a) h

    order_later : (ms : List Member) → IsPairwise (λ x y. IsBefore s.moves (number_of x) (number_of y)) ms → IsPairwise (λ x y. IsBefore later (number_of x) (number_of y)) ms
    order_later ms pairs = pairs_all (λ x y. IsBefore s.moves (number_of x) (number_of y)) (λ x y. IsBefore later (number_of x) (number_of y)) (λ x y. order_on (number_of x) (number_of y)) ms pairs

    -- a batch that is not the one of the move commits after a slot as before
    after_same : (n c : ℕ) → has_slot s.moves n ≡ true → commits_batch c m.move ≡ false → not (commits_after later n c) ≡ not (commits_after s.moves n c)
    after_same n c slotted other = ap not (commits_after_more s.moves m n c slotted other)

    agenda_on : agenda_after s.agenda m.move ≡ agenda_from [] later
    agenda_on = ap (λ ms. agenda_after ms m.move) inv.moves ∙ sym (agenda_more [] s.moves m)

  abbrev tx : Transaction
  tx = transaction_of o

  -- a short commits
  pub short_structure : is_member s.agenda o.number ≡ false → has_slot s.moves o.number ≡ false → Structure base (moved (closed s session) s.epoch (CommitShort tx))
  short_structure fresh unslotted =
      let m : Timed = record { epoch = s.epoch; move = CommitShort tx } in
      let plain : (n : ℕ) → is_slot n m.move ≡ false = λ n. refl in
      let new : Member = Committed tx in
      let apart : AllByRecursion (λ x. number_of x ≢ o.number) s.agenda = not_member s.agenda o.number fresh in
      let passing : (n : ℕ) → o.number ≢ n → has_slot s.moves n ≡ true → is_member s.agenda n ≡ true
      → filter (λ t. not (commits_after (later m plain) n t.number)) (serial (part_before n (s.agenda ++ new ∷ []))) ≡ filter (λ t. not (commits_after s.moves n t.number)) (serial (part_before n s.agenda))
      = λ n e slotted member. ap (λ l. filter (λ t. not (commits_after (later m plain) n t.number)) (serial l)) (part_push n s.agenda new member)
      ∙ filter_same (λ t. not (commits_after (later m plain) n t.number)) (λ t. not (commits_after s.moves n t.number)) (serial (part_before n s.agenda))
      (all_of (λ t. not (commits_after (later m plain) n t.number) ≡ not (commits_after s.moves n t.number)) (λ t. after_same m plain n t.number slotted refl) (serial (part_before n s.agenda))) in
      let fresh_last : (y : Member) → number_of y ≢ o.number → IsBefore (later m plain) (number_of y) o.number
      = λ y ne. record { apart = ne; elder = λ a b lt. absurd (let clash : true ≡ false = sym b ∙ slots_same m plain o.number ∙ unslotted in let none : ⊥ = cc in none) } in
      record {
        rows = inv.rows;
        last = inv.last;
        opens = opens_less base s.last s.active (is_of session) inv.opens;
        slots = slots_on m plain (λ n e. absurd (let none : ⊥ = cc in none));
        moves = agenda_on m plain;
        members = record {
          above = all_push (λ x. base.last < number_of x) s.agenda new inv.members.above above;
          bound = all_push (λ x. number_of x ≤ s.last) s.agenda new inv.members.bound bound;
          known = all_push (IsKnown rest (later m plain)) s.agenda new
              (all_both (λ x. number_of x ≢ o.number) (IsKnown s.active s.moves) (IsKnown rest (later m plain))
              (known_on s.active session o is s.moves (later m plain) (λ n e. slots_same m plain n) (λ n e. any_push_not (λ x. forwards n x.move) s.moves m refl)) s.agenda apart inv.members.known)
              apart_from_rest;
        };
        order = pairs_push (λ x y. IsBefore (later m plain) (number_of x) (number_of y)) s.agenda new (all_map (λ x. number_of x ≢ o.number) (λ x. IsBefore (later m plain) (number_of x) o.number) fresh_last s.agenda apart)
            (order_later m plain s.agenda inv.order);
        stands = rest_stands (s.agenda ++ new ∷ []) (later m plain) (slots_same m plain) (keeps_by m plain (s.agenda ++ new ∷ []) (λ n e. member_push s.agenda new n e) passing);
        committed = subst₂ IsPermutation (sym (commits_push s.moves m tx refl)) (sym (serial_short s.agenda tx)) (inserted_permutes tx (commits_of s.moves) (serial s.agenda) (serial s.agenda ++ tx ∷ []) (inserted_at_end tx (serial s.agenda)) inv.committed);
      }

  -- no two members have one number
  numbers_apart : IsPairwise (λ x y. number_of x ≢ number_of y) s.agenda
  numbers_apart = pairs_all (λ x y. IsBefore s.moves (number_of x) (number_of y)) (λ x y. number_of x ≢ number_of y) (λ x y h. h.apart) s.agenda inv.order

  -- a member is known as before, and the batch itself as committed
  home_known : (m : Timed) (plain : (n : ℕ) → is_slot n m.move ≡ false) → ((n : ℕ) → forwards n m.move ≡ false) → (x : Member) → IsKnown s.active s.moves x → IsKnown rest (later m plain) (commit_at_slot tx x)
  home_known m plain unforwarded x h = by_test (has_number o.number x) refl where
    by_test : (b : Bool) → has_number o.number x ≡ b → IsKnown rest (later m plain) (cond b (Committed tx) x)
    by_test true at = apart_from_rest
    by_test false at = known_on s.active session o is s.moves (later m plain) (λ n e. slots_same m plain n) (λ n e. any_push_not (λ y. forwards n y.move) s.moves m (unforwarded n)) x
        (λ e. true_false (sym (eq-eqb (number_of x) o.number e) ∙ at)) h

  -- the batch is in the agenda, and became live
  module _ (member : is_member s.agenda o.number ≡ true) (slotted : has_slot s.moves o.number ≡ true) where
    -- the same of a number that is not the batch's
    other_number : (n : ℕ) → n ≢ o.number → (o.number == n) ≡ false
    other_number n apart = ne_eqb o.number n (λ e. apart (sym e))

    -- it commits at its slot
    pub home_structure : Structure base (moved (closed s session) s.epoch (CommitHome tx))
    home_structure =
        let m : Timed = record { epoch = s.epoch; move = CommitHome tx } in
        let plain : (n : ℕ) → is_slot n m.move ≡ false = λ n. refl in
        let home : Member → Member = commit_at_slot tx in
        let numbers : (P : ℕ → Type 0) → AllByRecursion (λ x. P (number_of x)) s.agenda → AllByRecursion (λ x. P (number_of x)) (map home s.agenda)
        = λ P all. all_mapped (λ x. P (number_of x)) home s.agenda (all_map (λ x. P (number_of x)) (λ x. P (number_of (home x))) (λ x p. subst P (sym (number_home tx x)) p) s.agenda all) in
        let known : (x : Member) → IsKnown s.active s.moves x → IsKnown rest (later m plain) (home x) = λ x h. home_known m plain (λ n. refl) x h in
        let passing : (n : ℕ) → o.number ≢ n → has_slot s.moves n ≡ true → is_member s.agenda n ≡ true
        → filter (λ t. not (commits_after (later m plain) n t.number)) (serial (part_before n (map home s.agenda))) ≡ filter (λ t. not (commits_after s.moves n t.number)) (serial (part_before n s.agenda))
        = λ n e slot at. passing_home o.number n e (λ t. not (commits_after s.moves n t.number)) (λ t. not (commits_after (later m plain) n t.number))
        (λ u ne. after_same m plain n u.number slot (other_number u.number ne)) tx refl (ap not (commits_after_now s.moves m n o.number slot (eq-eqb o.number o.number refl))) s.agenda others in
        record {
          rows = inv.rows;
          last = inv.last;
          opens = opens_less base s.last s.active (is_of session) inv.opens;
          slots = slots_on m plain (λ n e. absurd (let none : ⊥ = cc in none));
          moves = agenda_on m plain;
          members = record {
            above = numbers (λ n. base.last < n) inv.members.above;
            bound = numbers (λ n. n ≤ s.last) inv.members.bound;
            known = all_mapped (IsKnown rest (later m plain)) home s.agenda (all_map (IsKnown s.active s.moves) (λ x. IsKnown rest (later m plain) (home x)) known s.agenda inv.members.known);
          };
          order = pairs_map (λ x y. IsBefore s.moves (number_of x) (number_of y)) (λ x y. IsBefore (later m plain) (number_of x) (number_of y)) home
              (λ x y h. subst₂ (IsBefore (later m plain)) (sym (number_home tx x)) (sym (number_home tx y)) (order_on m plain (number_of x) (number_of y) h)) s.agenda inv.order;
          stands = rest_stands (map home s.agenda) (later m plain) (slots_same m plain) (keeps_by m plain (map home s.agenda) (λ n e. member_home tx n s.agenda) passing);
          committed = subst (λ l. IsPermutation l (serial (map home s.agenda))) (sym (commits_push s.moves m tx refl))
              (inserted_permutes tx (commits_of s.moves) (serial s.agenda) (serial (map home s.agenda)) (home_inserted tx s.agenda others numbers_apart member) inv.committed);
        }

    -- without the batch, what holds of each number's member, and what holds of each pair
    gone_all : (P Q : Member → Type 0) → ((x : Member) → number_of x ≢ o.number → P x → Q x) → AllByRecursion P s.agenda → AllByRecursion Q (without_member s.agenda o.number)
    gone_all P Q f all = all_both (λ x. number_of x ≢ o.number) P Q f (without_member s.agenda o.number) (gone o.number s.agenda) (all_filter P (λ m. not (has_number o.number m)) s.agenda all)

    known_gone : (m : Timed) (plain : (n : ℕ) → is_slot n m.move ≡ false) → ((n : ℕ) → o.number ≢ n → forwards n m.move ≡ false) → AllByRecursion (IsKnown rest (later m plain)) (without_member s.agenda o.number)
    known_gone m plain unforwarded = gone_all (IsKnown s.active s.moves) (IsKnown rest (later m plain))
        (known_on s.active session o is s.moves (later m plain) (λ n e. slots_same m plain n) (λ n e. any_push_not (λ y. forwards n y.move) s.moves m (unforwarded n e))) inv.members.known

    order_gone : (m : Timed) (plain : (n : ℕ) → is_slot n m.move ≡ false) → IsPairwise (λ x y. IsBefore (later m plain) (number_of x) (number_of y)) (without_member s.agenda o.number)
    order_gone m plain = order_later m plain (without_member s.agenda o.number) (pairs_filter (λ x y. IsBefore s.moves (number_of x) (number_of y)) (λ m. not (has_number o.number m)) s.agenda inv.order)

    -- it leaves
    pub leave_structure : Structure base (moved (closed s session) s.epoch (Leave o.number))
    leave_structure =
        let m : Timed = record { epoch = s.epoch; move = Leave o.number } in
        let plain : (n : ℕ) → is_slot n m.move ≡ false = λ n. refl in
        let less : List Member = without_member s.agenda o.number in
        let passing : (n : ℕ) → o.number ≢ n → has_slot s.moves n ≡ true → is_member s.agenda n ≡ true
        → filter (λ t. not (commits_after (later m plain) n t.number)) (serial (part_before n less)) ≡ filter (λ t. not (commits_after s.moves n t.number)) (serial (part_before n s.agenda))
        = λ n e slot at. passing_without o.number n e (λ t. not (commits_after s.moves n t.number)) (λ t. not (commits_after (later m plain) n t.number)) (λ u ne. after_same m plain n u.number slot refl) s.agenda others in
        record {
          rows = inv.rows;
          last = inv.last;
          opens = opens_less base s.last s.active (is_of session) inv.opens;
          slots = slots_on m plain (λ n e. absurd (let none : ⊥ = cc in none));
          moves = agenda_on m plain;
          members = record {
            above = gone_all (λ x. base.last < number_of x) (λ x. base.last < number_of x) (λ x ne h. h) inv.members.above;
            bound = gone_all (λ x. number_of x ≤ s.last) (λ x. number_of x ≤ s.last) (λ x ne h. h) inv.members.bound;
            known = known_gone m plain (λ n e. refl);
          };
          order = order_gone m plain;
          stands = rest_stands less (later m plain) (slots_same m plain) (keeps_by m plain less (λ n e. member_without n o.number (λ same. e (sym same)) s.agenda) passing);
          committed = subst₂ IsPermutation (sym (commits_none s.moves m refl)) (sym (serial_without o.number s.agenda others)) inv.committed;
        }

    -- it commits immediately before a member that stands before it
    pub before_structure : (p : ℕ) → is_member (part_before o.number s.agenda) p ≡ true → Structure base (moved (closed s session) s.epoch (CommitBefore tx p))
    before_structure p ahead =
        let m : Timed = record { epoch = s.epoch; move = CommitBefore tx p } in
        let plain : (n : ℕ) → is_slot n m.move ≡ false = λ n. refl in
        let less : List Member = without_member s.agenda o.number in
        let new : Member = Committed tx in
        let apart : p ≢ o.number = before_apart o.number p s.agenda ahead in
        let there : is_member s.agenda p ≡ true = any_before (has_number p) (has_number o.number) s.agenda ahead in
        let here : is_member less p ≡ true = member_without p o.number apart s.agenda ∙ there in
        let forwarded : is_forwarded (later m plain) o.number ≡ true = any_push (λ x. forwards o.number x.move) s.moves m ∙ ap (λ b. is_forwarded s.moves o.number || b) (eq-eqb o.number o.number refl) ∙ or_true (is_forwarded s.moves o.number) in
        let front : AllByRecursion (λ y. IsBefore (later m plain) (number_of y) o.number) (part_before p less)
        = before_without (λ y. IsBefore (later m plain) (number_of y) o.number) p o.number apart s.agenda
        (in_front (IsBefore (later m plain)) o.number p s.agenda (order_later m plain s.agenda inv.order) member ahead) in
        let back : AllByRecursion (λ y. IsBefore (later m plain) o.number (number_of y)) (part_from p less)
        = all_from_first (λ y. IsBefore (later m plain) o.number (number_of y)) (has_number p) less
        (all_map (λ y. number_of y ≢ o.number) (λ y. IsBefore (later m plain) o.number (number_of y)) (λ y ne. record { apart = λ e. ne (sym e); elder = λ a b lt. forwarded }) less (gone o.number s.agenda)) in
        let passing : (n : ℕ) → o.number ≢ n → has_slot s.moves n ≡ true → is_member s.agenda n ≡ true
        → filter (λ t. not (commits_after (later m plain) n t.number)) (serial (part_before n (insert_before new p less))) ≡ filter (λ t. not (commits_after s.moves n t.number)) (serial (part_before n s.agenda))
        = λ n e slot at. passing_before o.number n e (λ t. not (commits_after s.moves n t.number)) (λ t. not (commits_after (later m plain) n t.number))
        (λ u ne. after_same m plain n u.number slot (other_number u.number ne)) tx refl (ap not (commits_after_now s.moves m n o.number slot (eq-eqb o.number o.number refl))) p s.agenda others in
        record {
          rows = inv.rows;
          last = inv.last;
          opens = opens_less base s.last s.active (is_of session) inv.opens;
          slots = slots_on m plain (λ n e. subst (λ k. has_slot s.moves k ≡ true) (same_number o.number n e) slotted);
          moves = agenda_on m plain;
          members = record {
            above = all_insert new p (λ x. base.last < number_of x) above less (gone_all (λ x. base.last < number_of x) (λ x. base.last < number_of x) (λ x ne h. h) inv.members.above);
            bound = all_insert new p (λ x. number_of x ≤ s.last) bound less (gone_all (λ x. number_of x ≤ s.last) (λ x. number_of x ≤ s.last) (λ x ne h. h) inv.members.bound);
            known = all_insert new p (IsKnown rest (later m plain)) apart_from_rest less
                (known_gone m plain (λ n e. other_number n (λ same. e (sym same))));
          };
          order = pairs_insert new p (λ x y. IsBefore (later m plain) (number_of x) (number_of y)) less front back (order_gone m plain);
          stands = rest_stands (insert_before new p less) (later m plain) (slots_same m plain)
              (keeps_by m plain (insert_before new p less) (λ n e. member_insert new p n e less ∙ member_without n o.number (λ same. e (sym same)) s.agenda) passing);
          committed = subst (λ l. IsPermutation l (serial (insert_before new p less))) (sym (commits_push s.moves m tx refl))
              (inserted_permutes tx (commits_of s.moves) (serial s.agenda) (serial (insert_before new p less))
              (subst (λ l. IsInserted tx l (serial (insert_before new p less))) (serial_without o.number s.agenda others) (before_inserted tx p less here)) inv.committed);
        }
