-- The guards of live batches, kept by each move.
use Rattle.std.proofs.Common.{◌≡◌, ◌≢◌, ◌⊎◌, inl, inr, ℕ, ◌<◌, Bool, true, false, cond, not, ◌==◌, List, [], ◌∷◌, ◌++◌, map, Some, None, refl, sym, ◌∙◌, subst, ne_eqb, arith, Contains}
use Rattle.std.specs.List.{find, AllByRecursion}
use Rattle.ltx_model.specs.Lists.{without_first, IsPairwise}
use Rattle.ltx_model.specs.Operations.{Transaction, operations}
use Rattle.ltx_model.specs.Agenda.{Member, LiveSlot, Committed, number_of, has_number, is_member, without_member, insert_before, commit_at_slot, part_before, part_from, CommitShort, CommitHome, CommitBefore, Leave, Timed, is_slot, has_slot}
use Rattle.ltx_model.specs.States.{Declaration, Kind, IsShort, IsPending, IsLive, Active, transaction_of, Base, State, LiveBatch, live_batches, is_of, active_of}
use Rattle.ltx_model.specs.Histories.{closed, moved, left, ended}
use Rattle.ltx_model.specs.Shorts.{held_table}
use Rattle.ltx_model.specs.Batches.{overtakes, target, is_from, elder_reader}
use Rattle.ltx_laws.specs.Structure.{is_forwarded, IsKnown, IsBefore, IsSlotOfLive, IsLiveBatch, StandsAs, Stands, Structure}
use Rattle.ltx_laws.specs.Guards.{LooksIntoNone, IsGuarded, GuardsAs, AreGuarded}
use Rattle.ltx_lemmas.proofs.Lists.{all_map, all_without, all_from, all_contains, find_none, true_false, any_item}
use Rattle.ltx_laws.proofs.Pairs.{same_number, all_of, all_both, pairs_all, pairs_both, pairs_push, pairs_filter, pairs_map, pairs_insert}
use Rattle.ltx_laws.proofs.Places.{in_front, before_without, before_apart, from_without, found_first, one_smaller}
use Rattle.ltx_laws.proofs.Agendas.{IsOther, any_push_not}
use Rattle.ltx_laws.proofs.Standing.{others_rising, others_committed}
use Rattle.ltx_laws.proofs.Transitions.{live_of}
use Rattle.ltx_laws.proofs.Targets.{target_found, target_none}
use Rattle.ltx_laws.proofs.Spared.{live_here, not_overtaken, not_read, short_spares}
use Rattle.ltx_laws.proofs.Structures.{live_stands, live_unforwarded, live_target_ahead}

-- the guards of a pair under moves that add no slot
guarded_on : (moves moves' : List Timed) → ((k : ℕ) → has_slot moves' k ≡ has_slot moves k) → (n : ℕ) (d : Declaration) (x y : Member) → IsGuarded moves n d x y → IsGuarded moves' n d x y
guarded_on moves moves' slots n d (LiveSlot k) (LiveSlot j) h = tt
guarded_on moves moves' slots n d (LiveSlot k) (Committed t) h = h
guarded_on moves moves' slots n d (Committed g) (LiveSlot k) h = λ e slotted less. h e (sym (slots g.number) ∙ slotted) less
guarded_on moves moves' slots n d (Committed g) (Committed t) h = tt

-- of an open live batch, its slot
pub slot_in : (base : Base) (s : State) → Structure base s → (u : Active) → Contains s.active u → is_member s.agenda u.number ≡ true → IsSlotOfLive s.active s.moves u.number
slot_in base s inv u here member =
    let found = any_item (has_number u.number) s.agenda member in
    by_member found.0 (all_contains (IsKnown s.active s.moves) s.agenda found.0 inv.members.known found.1) (same_number (number_of found.0) u.number found.2) where
      by_member : (m : Member) → IsKnown s.active s.moves m → number_of m ≡ u.number → IsSlotOfLive s.active s.moves u.number
      by_member (LiveSlot n) known e = subst (IsSlotOfLive s.active s.moves) e known
      by_member (Committed t) known e = absurd (all_contains (λ (v : Active). v.number ≢ t.number) s.active u known here (sym e))

module _ (base : Base) (s : State) (inv : Structure base s) (guards : AreGuarded s) (session : ℕ) (o : Active) (is : active_of s session ≡ Some o) where
  abbrev rest : List Active
  rest = without_first (is_of session) s.active

  -- another open transaction
  record IsFellow (u : Active) : Type 0 where
    here : Contains s.active u
    apart : o.number ≢ u.number
    stands : Stands s.agenda s.moves u
    guarded : GuardsAs s.agenda s.moves u.kind u.number

  fellows : AllByRecursion IsFellow rest
  fellows = fellow rest (all_without (Contains s.active) (is_of session) s.active (all_from (Contains s.active) s.active (λ u here. here))) (others_rising s.active session o is inv.opens.rising)
      (all_without (Stands s.agenda s.moves) (is_of session) s.active inv.stands) (all_without (λ u. GuardsAs s.agenda s.moves u.kind u.number) (is_of session) s.active guards) where
        fellow : (us : List Active) → AllByRecursion (Contains s.active) us → AllByRecursion (λ u. o.number ≢ u.number) us → AllByRecursion (Stands s.agenda s.moves) us → AllByRecursion (λ u. GuardsAs s.agenda s.moves u.kind u.number) us → AllByRecursion IsFellow us
        fellow [] a b c d = tt
        fellow (u ∷ us) a b c d = (record { here = a.0; apart = b.0; stands = c.0; guarded = d.0 }, fellow us a.1 b.1 c.1 d.1)

  -- The guards of the others, where those of each live one are kept.
  module _ (agenda' : List Member) (moves' : List Timed)
      (keep : (u : Active) (d : Declaration) (snapshot : List Transaction) → Contains s.active u → u.kind ≡ IsLive d snapshot → o.number ≢ u.number → IsLiveBatch s.agenda s.moves u.number d snapshot u.steps
      → IsPairwise (IsGuarded s.moves u.number d) s.agenda → IsPairwise (IsGuarded moves' u.number d) agenda') where
    guards_one : (u : Active) → IsFellow u → GuardsAs agenda' moves' u.kind u.number
    guards_one u f = by_kind u.kind refl f.stands f.guarded where
      by_kind : (k : Kind) → u.kind ≡ k → StandsAs s.agenda s.moves k u.number u.steps → GuardsAs s.agenda s.moves k u.number → GuardsAs agenda' moves' k u.number
      by_kind IsShort e stands g = tt
      by_kind (IsPending d) e stands g = tt
      by_kind (IsLive d snapshot) e stands g = keep u d snapshot f.here e f.apart stands g

    guards_rest : AllByRecursion (λ u. GuardsAs agenda' moves' u.kind u.number) rest
    guards_rest = all_map IsFellow (λ u. GuardsAs agenda' moves' u.kind u.number) guards_one rest fellows

  slots_plain : (m : Timed) → ((n : ℕ) → is_slot n m.move ≡ false) → (n : ℕ) → has_slot (s.moves ++ m ∷ []) n ≡ has_slot s.moves n
  slots_plain m plain n = any_push_not (λ x. is_slot n x.move) s.moves m (plain n)

  on : (m : Timed) → ((n : ℕ) → is_slot n m.move ≡ false) → (n : ℕ) (d : Declaration) (ms : List Member) → IsPairwise (IsGuarded s.moves n d) ms → IsPairwise (IsGuarded (s.moves ++ m ∷ []) n d) ms
  on m plain n d ms pairs = pairs_all (IsGuarded s.moves n d) (IsGuarded (s.moves ++ m ∷ []) n d) (guarded_on s.moves (s.moves ++ m ∷ []) (slots_plain m plain) n d) ms pairs

  pub closed_guards : AreGuarded (closed s session)
  closed_guards = all_without (λ u. GuardsAs s.agenda s.moves u.kind u.number) (is_of session) s.active guards

  abbrev tx : Transaction
  tx = transaction_of o

  pub short_guards : held_table s (operations tx) ≡ None → AreGuarded (moved (closed s session) s.epoch (CommitShort tx))
  short_guards none =
      let m : Timed = record { epoch = s.epoch; move = CommitShort tx } in
      guards_rest (s.agenda ++ Committed tx ∷ []) (s.moves ++ m ∷ [])
      (λ u d snapshot here kind apart stands pairs. pairs_push (IsGuarded (s.moves ++ m ∷ []) u.number d) s.agenda (Committed tx)
      (all_of (λ x. IsGuarded (s.moves ++ m ∷ []) u.number d x (Committed tx)) (spared u d snapshot here kind m) s.agenda) (on m (λ n. refl) u.number d s.agenda pairs)) where
        spared : (u : Active) (d : Declaration) (snapshot : List Transaction) → Contains s.active u → u.kind ≡ IsLive d snapshot → (m : Timed) (x : Member) → IsGuarded (s.moves ++ m ∷ []) u.number d x (Committed tx)
        spared u d snapshot here kind m (LiveSlot k) = λ e. short_spares s tx (live_of u d snapshot) none (live_here s u d snapshot here kind)
        spared u d snapshot here kind m (Committed t) = tt

  pub leave_guards : AreGuarded (moved (closed s session) s.epoch (Leave o.number))
  leave_guards =
      let m : Timed = record { epoch = s.epoch; move = Leave o.number } in
      guards_rest (without_member s.agenda o.number) (s.moves ++ m ∷ [])
      (λ u d snapshot here kind apart stands pairs. on m (λ n. refl) u.number d (without_member s.agenda o.number) (pairs_filter (IsGuarded s.moves u.number d) (λ x. not (has_number o.number x)) s.agenda pairs))

  -- the batch that commits is live, and so is another one: which has the smaller number, and what it spares
  module _ (d : Declaration) (snapshot : List Transaction) (kind : o.kind ≡ IsLive d snapshot) where
    own : IsLiveBatch s.agenda s.moves o.number d snapshot o.steps
    own = live_stands base s inv session o is d snapshot kind

    abbrev i : LiveBatch
    i = live_of o d snapshot

    -- a live batch that stands before another has the smaller number
    smaller : (a b : ℕ) → has_slot s.moves a ≡ true → has_slot s.moves b ≡ true → is_forwarded s.moves a ≡ false → IsBefore s.moves a b → a < b
    smaller a b sa sb unforwarded h = by_order (one_smaller a b h.apart) where
      by_order : (a < b) ⊎ (b < a) → a < b
      by_order (inl less) = less
      by_order (inr less) = absurd (true_false (sym (h.elder sa sb less) ∙ unforwarded))

    module _ (u : Active) (d' : Declaration) (snapshot' : List Transaction) (here : Contains s.active u) (live : u.kind ≡ IsLive d' snapshot') (apart : o.number ≢ u.number) (stands : IsLiveBatch s.agenda s.moves u.number d' snapshot' u.steps) where
      among : Contains (live_batches s) (live_of u d' snapshot')
      among = live_here s u d' snapshot' here live

      before_own : IsBefore s.moves u.number o.number → u.number < o.number
      before_own h = smaller u.number o.number stands.slotted own.slotted (slot_in base s inv u here stands.member).unforwarded h

      after_own : IsBefore s.moves o.number u.number → o.number < u.number
      after_own h = smaller o.number u.number own.slotted stands.slotted (live_unforwarded base s inv session o is d snapshot kind) h

      -- the one that commits looks into no table of one that stands before it and that it does not overtake
      looks_into_none : (k : ℕ) → k ≡ u.number → overtakes s i (LiveSlot k) ≡ false → IsBefore s.moves k o.number → LooksIntoNone d'.writes tx
      looks_into_none k e free h = not_overtaken s i (live_of u d' snapshot') among (before_own (subst (λ n. IsBefore s.moves n o.number) e h)) (subst (λ n. overtakes s i (LiveSlot n) ≡ false) e free)

      -- what a pair of members is known by
      record IsSide (x : Member) : Type 0 where
        other : IsOther o.number x
        free : overtakes s i x ≡ false

      abbrev home_moves : List Timed
      home_moves = s.moves ++ record { epoch = s.epoch; move = CommitHome tx } ∷ []

      home_slots : (n : ℕ) → has_slot home_moves n ≡ has_slot s.moves n
      home_slots = slots_plain (record { epoch = s.epoch; move = CommitHome tx }) (λ n. refl)

      -- a pair after the commit at home
      home_pair : (x y : Member) → IsSide x → IsSide y → IsGuarded s.moves u.number d' x y → IsBefore s.moves (number_of x) (number_of y) → IsGuarded home_moves u.number d' (commit_at_slot tx x) (commit_at_slot tx y)
      home_pair (LiveSlot k) (LiveSlot j) sx sy g h = by_tests (k == o.number) (j == o.number) refl refl where
        by_tests : (a b : Bool) → (k == o.number) ≡ a → (j == o.number) ≡ b → IsGuarded home_moves u.number d' (cond a (Committed tx) (LiveSlot k)) (cond b (Committed tx) (LiveSlot j))
        by_tests true true ek ej = tt
        by_tests true false ek ej = λ e slotted less. absurd (
            let after : o.number < u.number = after_own (subst (λ n. IsBefore s.moves n u.number) (same_number k o.number ek) (subst (λ n. IsBefore s.moves k n) e h)) in
            let none : ⊥ = omega arith in none)
        by_tests false true ek ej = λ e. looks_into_none k e sx.free (subst (λ n. IsBefore s.moves k n) (same_number j o.number ej) h)
        by_tests false false ek ej = tt
      home_pair (LiveSlot k) (Committed t) sx sy g h = rw (ne_eqb t.number o.number sy.other) (by_test (k == o.number)) where
        by_test : (a : Bool) → IsGuarded home_moves u.number d' (cond a (Committed tx) (LiveSlot k)) (Committed t)
        by_test true = tt
        by_test false = g
      home_pair (Committed t) (LiveSlot k) sx sy g h = rw (ne_eqb t.number o.number sx.other) (by_test (k == o.number)) where
        by_test : (a : Bool) → IsGuarded home_moves u.number d' (Committed t) (cond a (Committed tx) (LiveSlot k))
        by_test true = tt
        by_test false = λ e slotted less. g e (sym (home_slots t.number) ∙ slotted) less
      home_pair (Committed t) (Committed v) sx sy g h = rw (ne_eqb t.number o.number sx.other, ne_eqb v.number o.number sy.other) tt

      home_keep : find (overtakes s i) s.agenda ≡ None → IsPairwise (IsGuarded s.moves u.number d') s.agenda → IsPairwise (IsGuarded home_moves u.number d') (map (commit_at_slot tx) s.agenda)
      home_keep none pairs = pairs_map (λ x y. IsGuarded home_moves u.number d' (commit_at_slot tx x) (commit_at_slot tx y)) (IsGuarded home_moves u.number d') (commit_at_slot tx) (λ x y g. g) s.agenda
          (pairs_both IsSide (IsGuarded s.moves u.number d') (λ x y. IsBefore s.moves (number_of x) (number_of y)) (λ x y. IsGuarded home_moves u.number d' (commit_at_slot tx x) (commit_at_slot tx y)) home_pair s.agenda
          (all_both (IsKnown s.active s.moves) (λ x. overtakes s i x ≡ false) IsSide (λ x known free. record { other = others_committed s.active session o is s.moves x known; free = free }) s.agenda inv.members.known (find_none (overtakes s i) s.agenda none))
          pairs inv.order)

      module _ (p : ℕ) (goal : target s i ≡ Some p) (nobody : elder_reader s i p ≡ None) where
        abbrev before_moves : List Timed
        before_moves = s.moves ++ record { epoch = s.epoch; move = CommitBefore tx p } ∷ []

        ahead : is_member (part_before o.number s.agenda) p ≡ true
        ahead = live_target_ahead base s inv session o is d snapshot kind p goal

        not_own : p ≢ o.number
        not_own = before_apart o.number p s.agenda ahead

        -- those before the target
        front_pair : (y : Member) → overtakes s i y ≡ false → IsBefore s.moves (number_of y) o.number → IsGuarded before_moves u.number d' y (Committed tx)
        front_pair (LiveSlot k) free h = λ e. looks_into_none k e free h
        front_pair (Committed t) free h = tt

        front : AllByRecursion (λ y. IsGuarded before_moves u.number d' y (Committed tx)) (part_before p (without_member s.agenda o.number))
        front = let found = target_found s i p goal in
            before_without (λ y. IsGuarded before_moves u.number d' y (Committed tx)) p o.number not_own s.agenda
            (all_both (λ y. overtakes s i y ≡ false) (λ y. IsBefore s.moves (number_of y) o.number) (λ y. IsGuarded before_moves u.number d' y (Committed tx)) front_pair (part_before p s.agenda)
            (found_first (overtakes s i) p s.agenda found.0 found.1 found.2) (in_front (IsBefore s.moves) o.number p s.agenda inv.order own.member ahead))

        -- those from the target on
        back_pair : (y : Member) → is_member (part_from p s.agenda) (number_of y) ≡ true → IsGuarded before_moves u.number d' (Committed tx) y
        back_pair (LiveSlot k) from = λ e slotted less. not_read s i p (live_of u d' snapshot') nobody among less (subst (λ n. is_from s p n ≡ true) e from)
        back_pair (Committed t) from = tt

        back : AllByRecursion (IsGuarded before_moves u.number d' (Committed tx)) (part_from p (without_member s.agenda o.number))
        back = all_map (λ y. is_member (part_from p s.agenda) (number_of y) ≡ true) (IsGuarded before_moves u.number d' (Committed tx)) back_pair (part_from p (without_member s.agenda o.number)) (from_without p o.number not_own s.agenda)

        before_keep : IsPairwise (IsGuarded s.moves u.number d') s.agenda → IsPairwise (IsGuarded before_moves u.number d') (insert_before (Committed tx) p (without_member s.agenda o.number))
        before_keep pairs = pairs_insert (Committed tx) p (IsGuarded before_moves u.number d') (without_member s.agenda o.number) front back
            (on (record { epoch = s.epoch; move = CommitBefore tx p }) (λ n. refl) u.number d' (without_member s.agenda o.number) (pairs_filter (IsGuarded s.moves u.number d') (λ x. not (has_number o.number x)) s.agenda pairs))

    pub home_guards : target s i ≡ None → AreGuarded (moved (closed s session) s.epoch (CommitHome tx))
    home_guards none = guards_rest (map (commit_at_slot tx) s.agenda) (s.moves ++ record { epoch = s.epoch; move = CommitHome tx } ∷ [])
        (λ u d' snapshot' here live apart stands pairs. home_keep u d' snapshot' here live apart stands (target_none s i none) pairs)

    pub before_guards : (p : ℕ) → target s i ≡ Some p → elder_reader s i p ≡ None → AreGuarded (moved (closed s session) s.epoch (CommitBefore tx p))
    before_guards p goal nobody = guards_rest (insert_before (Committed tx) p (without_member s.agenda o.number)) (s.moves ++ record { epoch = s.epoch; move = CommitBefore tx p } ∷ [])
        (λ u d' snapshot' here live apart stands pairs. before_keep u d' snapshot' here live apart stands p goal nobody pairs)

  pub ended_guards : AreGuarded (ended s o session)
  ended_guards = by_kind o.kind where
    by_kind : (k : Kind) → AreGuarded (left (closed s session) k o.number)
    by_kind IsShort = closed_guards
    by_kind (IsPending d) = closed_guards
    by_kind (IsLive d snapshot) = leave_guards
