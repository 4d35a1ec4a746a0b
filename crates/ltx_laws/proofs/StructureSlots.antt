-- The structure after an epoch is advanced: the pending batches become live one after another, in the order of their numbers.
use Rattle.std.proofs.Common.{◌≡◌, ◌≢◌, ℕ, ◌<◌, ◌≤◌, Bool, true, false, not, ◌||◌, ◌==◌, List, [], ◌∷◌, ◌++◌, map, filter, None, refl, sym, ap, ◌∙◌, subst, subst₂, ne_eqb, eq-eqb, append_assoc, append-nil, arith, IsPermutation}
use Rattle.std.specs.List.{list_any, AllByRecursion}
use Rattle.ltx_model.specs.Operations.{Transaction}
use Rattle.ltx_model.specs.Agenda.{Member, LiveSlot, Committed, number_of, has_number, is_member, agenda_after, serial, agenda_from, part_before, Slot, Timed, is_slot, commits_batch, has_slot, commits_after}
use Rattle.ltx_model.specs.States.{Declaration, Kind, IsShort, IsPending, IsLive, Active, Base, State}
use Rattle.ltx_model.specs.Histories.{with_active, moved, with_kind, made_live, slot_after, slots_after, in_epoch, advanced}
use Rattle.ltx_model.specs.Answers.{refusal}
use Rattle.ltx_model.specs.Lists.{IsPairwise}
use Rattle.ltx_laws.specs.Structure.{forwards, is_forwarded, is_live_as, if_live, IsKnown, IsBefore, IsPendingBatch, StandsAs, Stands, Structure}
use Rattle.ltx_lemmas.proofs.Lists.{all_map, all_push, all_append, filter_same, filter_all, before_past, true_false}
use Rattle.ltx_lemmas.proofs.Pairwise.{pairs_behind}
use Rattle.ltx_laws.proofs.Pairs.{same_number, all_of, all_both, all_replace, all_middle, pairs_push, pairs_weaken, pairs_replace}
use Rattle.ltx_laws.proofs.Agendas.{or_true, any_push, any_push_not, any_kept, until_more, until_new, since_new, agenda_more, commits_after_more, member_push, not_member, serial_slot}
use Rattle.ltx_laws.proofs.Snapshots.{part_push}
use Rattle.ltx_laws.proofs.Standing.{IsPendingKind, StaysLater, Keeps, stands_on, before_on, commits_none}

any_replace : (p : Active → Bool) (o o' : Active) → (p o ≡ true → p o' ≡ true) → (front back : List Active) → list_any p (front ++ o ∷ back) ≡ true → list_any p (front ++ o' ∷ back) ≡ true
any_replace p o o' f [] back e = by_test (p o) refl e where
  by_test : (b : Bool) → p o ≡ b → (b || list_any p back) ≡ true → (p o' || list_any p back) ≡ true
  by_test true is e = ap (λ b. b || list_any p back) (f is)
  by_test false is e = ap (λ b. p o' || b) e ∙ or_true (p o')
any_replace p o o' f (x ∷ front) back e = by_test (p x) e (any_replace p o o' f front back) where
  by_test : (b : Bool) → (b || list_any p (front ++ o ∷ back)) ≡ true → (list_any p (front ++ o ∷ back) ≡ true → list_any p (front ++ o' ∷ back) ≡ true) → (b || list_any p (front ++ o' ∷ back)) ≡ true
  by_test true e later = refl
  by_test false e later = later e

any_middle : (p : Active → Bool) (o : Active) → p o ≡ true → (front back : List Active) → list_any p (front ++ o ∷ back) ≡ true
any_middle p o e [] back = ap (λ b. b || list_any p back) e
any_middle p o e (x ∷ front) back = ap (λ b. p x || b) (any_middle p o e front back) ∙ or_true (p x)

-- One pending batch o becomes live. Those before it are not pending.
module _ (base : Base) (s : State) (epoch : ℕ) (front back : List Active) (o : Active) (d : Declaration) (kind : o.kind ≡ IsPending d) (inv : Structure base (with_active s (front ++ o ∷ back)))
    (started : AllByRecursion (λ u. IsPendingKind u.kind → ⊥) front) (snapshot : List Transaction) (taken : snapshot ≡ serial s.agenda) where
  abbrev n : ℕ
  n = o.number

  abbrev live : Active
  live = with_kind (IsLive d snapshot) o

  abbrev m : Timed
  m = record { epoch = epoch; move = Slot o.number }

  abbrev later : List Timed
  later = s.moves ++ m ∷ []

  abbrev agenda : List Member
  agenda = s.agenda ++ LiveSlot o.number ∷ []

  pub pending : IsPendingBatch s.agenda s.moves n o.steps
  pending = subst (λ k. StandsAs s.agenda s.moves k o.number o.steps) kind (all_middle (Stands s.agenda s.moves) front o back inv.stands)

  unslotted : has_slot s.moves n ≡ false
  unslotted = by_test (has_slot s.moves n) refl where
    by_test : (b : Bool) → has_slot s.moves n ≡ b → has_slot s.moves n ≡ false
    by_test true is = absurd (let less : n < n = pending.later n is in let none : ⊥ = omega arith in none)
    by_test false is = is

  pub apart : AllByRecursion (λ x. number_of x ≢ n) s.agenda
  apart = not_member s.agenda n pending.fresh

  above : base.last < n
  above = all_middle (λ (u : Active). base.last < u.number) front o back inv.opens.above

  bound : n ≤ s.last
  bound = all_middle (λ (u : Active). u.number ≤ s.last) front o back inv.opens.bound

  pub slots_other : (k : ℕ) → n ≢ k → has_slot later k ≡ has_slot s.moves k
  slots_other k ne = any_push_not (λ x. is_slot k x.move) s.moves m (ne_eqb n k ne)

  slotted : has_slot later n ≡ true
  slotted = any_push (λ x. is_slot n x.move) s.moves m ∙ ap (λ b. has_slot s.moves n || b) (eq-eqb n n refl) ∙ or_true (has_slot s.moves n)

  forward_same : (k : ℕ) → is_forwarded later k ≡ is_forwarded s.moves k
  forward_same k = any_push_not (λ x. forwards k x.move) s.moves m refl

  unforwarded : is_forwarded later n ≡ false
  unforwarded = forward_same n ∙ by_test (is_forwarded s.moves n) refl where
    by_test : (b : Bool) → is_forwarded s.moves n ≡ b → is_forwarded s.moves n ≡ false
    by_test true is = absurd (true_false (sym (inv.slots.forwarded n is) ∙ unslotted))
    by_test false is = is

  part_new : part_before n agenda ≡ s.agenda
  part_new = before_past (has_number n) s.agenda (LiveSlot n ∷ []) (all_map (λ x. number_of x ≢ n) (λ x. has_number n x ≡ false) (λ x. ne_eqb (number_of x) n) s.agenda apart) ∙ rw (eq-eqb n n refl) (append-nil s.agenda)

  now : snapshot ≡ filter (λ t. not (commits_after later n t.number)) (serial (part_before n agenda))
  now = taken ∙ ap serial (sym part_new) ∙ sym (filter_all (λ t. not (commits_after later n t.number)) (serial (part_before n agenda))
      (all_of (λ t. not (commits_after later n t.number) ≡ true) (λ t. ap (λ ms. not (list_any (λ x. commits_batch t.number x.move) ms)) (since_new n s.moves m unslotted (eq-eqb n n refl))) (serial (part_before n agenda))))

  itself : Stands agenda later live
  itself = record {
    member = any_push (has_number n) s.agenda (LiveSlot n) ∙ ap (λ b. is_member s.agenda n || b) (eq-eqb n n refl) ∙ or_true (is_member s.agenda n);
    slotted = slotted;
    taken = taken ∙ ap serial inv.moves ∙ ap (λ ms. serial (agenda_from [] ms)) (sym (until_new n s.moves m unslotted (eq-eqb n n refl)));
    now = now;
    inside = subst (AllByRecursion (λ step. refusal d step.op ≡ None)) (sym pending.idle) tt;
  }

  keeps : Keeps n s.agenda s.moves agenda later
  keeps = record {
    slots = slots_other;
    members = λ k ne. member_push s.agenda (LiveSlot n) k ne;
    until = λ k e. until_more k s.moves (m ∷ []) e;
    passing = λ k ne slot at. ap (λ l. filter (λ t. not (commits_after later k t.number)) (serial l)) (part_push k s.agenda (LiveSlot n) at)
        ∙ filter_same (λ t. not (commits_after later k t.number)) (λ t. not (commits_after s.moves k t.number)) (serial (part_before k s.agenda))
        (all_of (λ t. not (commits_after later k t.number) ≡ not (commits_after s.moves k t.number)) (λ t. ap not (commits_after_more s.moves m k t.number slot refl)) (serial (part_before k s.agenda)));
  }

  stays_later : (k : ℕ) → n < k → StaysLater s.moves later k
  stays_later k less h j e = by_same (n == j) refl where
    by_same : (b : Bool) → (n == j) ≡ b → j < k
    by_same true is = subst (λ i. i < k) (same_number n j is) less
    by_same false is = h j (sym (slots_other j (λ same. true_false (sym (eq-eqb n j same) ∙ is))) ∙ e)

  -- the others have other numbers, and those that are pending have greater ones
  abbrev pub IsAnother : Active → Type 0
  IsAnother u = (n ≢ u.number) × (IsPendingKind u.kind → n < u.number)

  pub front_others : (us : List Active) → AllByRecursion (λ u. IsPendingKind u.kind → ⊥) us → IsPairwise (λ a b. a.number < b.number) (us ++ o ∷ back) → AllByRecursion IsAnother us
  front_others [] started pairs = tt
  front_others (u ∷ us) started pairs =
      let less : u.number < n = all_middle (λ (v : Active). u.number < v.number) us o back pairs.0 in
      ((λ e. let none : ⊥ = omega arith in none, λ p. absurd (started.0 p)), front_others us started.1 pairs.1)

  pub back_others : AllByRecursion IsAnother back
  back_others = all_map (λ (u : Active). n < u.number) IsAnother (λ u less. (λ e. let none : ⊥ = omega arith in none, λ p. less)) back (pairs_behind (λ a b. a.number < b.number) front o back inv.opens.rising)

  others : AllByRecursion IsAnother (front ++ back)
  others = all_append IsAnother front back (front_others front started inv.opens.rising) back_others

  on : (u : Active) → IsAnother u → Stands s.agenda s.moves u → Stands agenda later u
  on u another h = stands_on n s.agenda s.moves agenda later keeps u another.0 (λ p. stays_later u.number (another.1 p)) h

  stand_all : (us : List Active) → AllByRecursion IsAnother us → AllByRecursion (Stands s.agenda s.moves) (us ++ o ∷ back) → AllByRecursion (Stands agenda later) (us ++ live ∷ back)
  stand_all [] another all = (itself, all_both IsAnother (Stands s.agenda s.moves) (Stands agenda later) on back back_others all.1)
  stand_all (u ∷ us) another all = (on u another.0 all.0, stand_all us another.1 all.1)

  known : (x : Member) → number_of x ≢ n → IsKnown (front ++ o ∷ back) s.moves x → IsKnown (front ++ live ∷ back) later x
  known (LiveSlot k) ne h = record {
    live = any_replace (is_live_as k) o live (λ e. absurd (true_false (sym e ∙ ap (λ i. if_live i (o.number == k)) kind))) front back h.live;
    slotted = any_kept (λ x. is_slot k x.move) s.moves (m ∷ []) h.slotted;
    unforwarded = forward_same k ∙ h.unforwarded;
  }
  known (Committed t) ne h = all_replace (λ (u : Active). u.number ≢ t.number) (λ (u : Active). u.number ≢ t.number) (λ u e. e) front o live back (all_middle (λ (u : Active). u.number ≢ t.number) front o back h) h

  behind : (x : Member) → number_of x ≢ n → IsBefore later (number_of x) n
  behind x ne = record {
    apart = ne;
    elder = λ a b less. absurd (let old : has_slot s.moves (number_of x) ≡ true = sym (slots_other (number_of x) (λ e. ne (sym e))) ∙ a in let more : number_of x < n = pending.later (number_of x) old in let none : ⊥ = omega arith in none);
  }

  order_on : (x y : Member) → number_of x ≢ n → number_of y ≢ n → IsBefore s.moves (number_of x) (number_of y) → IsBefore later (number_of x) (number_of y)
  order_on x y nx ny h = before_on s.moves later (number_of x) (number_of y) (slots_other (number_of x) (λ e. nx (sym e))) (slots_other (number_of y) (λ e. ny (sym e))) (λ e. forward_same (number_of x) ∙ e) h

  pub slot_structure : Structure base (with_active (moved s epoch (Slot n)) (front ++ live ∷ back))
  slot_structure = record {
    rows = inv.rows;
    last = inv.last;
    opens = record {
      above = all_replace (λ (u : Active). base.last < u.number) (λ (u : Active). base.last < u.number) (λ u e. e) front o live back above inv.opens.above;
      bound = all_replace (λ (u : Active). u.number ≤ s.last) (λ (u : Active). u.number ≤ s.last) (λ u e. e) front o live back bound inv.opens.bound;
      rising = pairs_replace (λ a b. a.number < b.number) o live (λ x r. r) (λ y r. r) front back inv.opens.rising;
      sessions = pairs_replace (λ a b. a.session ≢ b.session) o live (λ x r. r) (λ y r. r) front back inv.opens.sessions;
    };
    slots = record {
      bound = λ k e. by_same k (n == k) refl e;
      forwarded = λ k e. any_kept (λ x. is_slot k x.move) s.moves (m ∷ []) (inv.slots.forwarded k (sym (forward_same k) ∙ e));
    };
    moves = ap (λ ms. agenda_after ms m.move) inv.moves ∙ sym (agenda_more [] s.moves m);
    members = record {
      above = all_push (λ x. base.last < number_of x) s.agenda (LiveSlot n) inv.members.above above;
      bound = all_push (λ x. number_of x ≤ s.last) s.agenda (LiveSlot n) inv.members.bound bound;
      known = all_push (IsKnown (front ++ live ∷ back) later) s.agenda (LiveSlot n) (all_both (λ x. number_of x ≢ n) (IsKnown (front ++ o ∷ back) s.moves) (IsKnown (front ++ live ∷ back) later) known s.agenda apart inv.members.known)
          (record { live = any_middle (is_live_as n) live (eq-eqb n n refl) front back; slotted = slotted; unforwarded = unforwarded });
    };
    order = pairs_push (λ x y. IsBefore later (number_of x) (number_of y)) s.agenda (LiveSlot n) (all_map (λ x. number_of x ≢ n) (λ x. IsBefore later (number_of x) n) behind s.agenda apart)
        (pairs_weaken (λ x. number_of x ≢ n) (λ x y. IsBefore s.moves (number_of x) (number_of y)) (λ x y. IsBefore later (number_of x) (number_of y)) order_on s.agenda apart inv.order);
    stands = stand_all front (front_others front started inv.opens.rising) inv.stands;
    committed = subst₂ IsPermutation (sym (commits_none s.moves m refl)) (sym (serial_slot s.agenda n)) inv.committed;
  } where
    by_same : (k : ℕ) (b : Bool) → (n == k) ≡ b → has_slot later k ≡ true → k ≤ s.last
    by_same k true is e = subst (λ i. i ≤ s.last) (same_number n k is) bound
    by_same k false is e = inv.slots.bound k (sym (slots_other k (λ same. true_false (sym (eq-eqb n k same) ∙ is))) ∙ e)

-- each open transaction of an epoch that begins, pending ones live
abbrev pub live_in : List Transaction → Active → Active
live_in snapshot o = with_kind (made_live snapshot o.kind) o

pub slots_active : (epoch : ℕ) (s : State) (os : List Active) → (slots_after epoch s os).active ≡ s.active
slots_active epoch s [] = refl
slots_active epoch s (o ∷ os) = slots_active epoch (slot_after epoch s o.kind o.number) os ∙ by_kind o.kind where
  by_kind : (k : Kind) → (slot_after epoch s k o.number).active ≡ s.active
  by_kind IsShort = refl
  by_kind (IsPending d) = refl
  by_kind (IsLive d snapshot) = refl

-- What holds of a state with some open transactions holds when its pending batches have become live, where one more that becomes live keeps it.
module _ (Q : State → Type 0) (epoch : ℕ) (snapshot : List Transaction)
    (one : (s : State) (front back : List Active) (o : Active) (d : Declaration) → o.kind ≡ IsPending d → Q (with_active s (front ++ o ∷ back)) → AllByRecursion (λ u. IsPendingKind u.kind → ⊥) front → snapshot ≡ serial s.agenda
    → Q (with_active (moved s epoch (Slot o.number)) (front ++ with_kind (IsLive d snapshot) o ∷ back))) where
  abbrev Loops : List Active → Type 0
  Loops todo = (front : List Active) (s : State) → Q (with_active s (front ++ todo)) → AllByRecursion (λ u. IsPendingKind u.kind → ⊥) front → snapshot ≡ serial s.agenda
      → Q (with_active (slots_after epoch s todo) (front ++ map (live_in snapshot) todo))

  slots_loop : (todo : List Active) → Loops todo
  slots_loop [] front s q started taken = q
  slots_loop (o ∷ todo) front s q started taken = by_kind o.kind refl (slots_loop todo) where
    -- the rest of the list, with one more in front
    next : (o' : Active) (t : State) → Loops todo → Q (with_active t (front ++ o' ∷ todo)) → (IsPendingKind o'.kind → ⊥) → snapshot ≡ serial t.agenda → Q (with_active (slots_after epoch t todo) (front ++ o' ∷ map (live_in snapshot) todo))
    next o' t loop h none taken = subst (λ l. Q (with_active (slots_after epoch t todo) l)) (append_assoc front (o' ∷ []) (map (live_in snapshot) todo))
        (loop (front ++ o' ∷ []) t (subst (λ l. Q (with_active t l)) (sym (append_assoc front (o' ∷ []) todo)) h) (all_push (λ u. IsPendingKind u.kind → ⊥) front o' started none) taken)

    by_kind : (k : Kind) → o.kind ≡ k → Loops todo → Q (with_active (slots_after epoch (slot_after epoch s k o.number) todo) (front ++ with_kind (made_live snapshot k) o ∷ map (live_in snapshot) todo))
    by_kind IsShort is loop = next (with_kind IsShort o) s loop (subst (λ k. Q (with_active s (front ++ with_kind k o ∷ todo))) is q) (λ p. p) taken
    by_kind (IsLive d old) is loop = next (with_kind (IsLive d old) o) s loop (subst (λ k. Q (with_active s (front ++ with_kind k o ∷ todo))) is q) (λ p. p) taken
    by_kind (IsPending d) is loop = next (with_kind (IsLive d snapshot) o) (moved s epoch (Slot o.number)) loop (one s front todo o d is q started taken) (λ p. p) (taken ∙ sym (serial_slot s.agenda o.number))

  pub slots_along : (s : State) → Q (with_active (in_epoch s epoch) s.active) → snapshot ≡ serial s.agenda → Q (with_active (slots_after epoch (in_epoch s epoch) s.active) (map (live_in snapshot) s.active))
  slots_along s q taken = slots_loop s.active [] (in_epoch s epoch) q tt taken

-- and so of the state in a new epoch
pub advanced_along : (Q : State → Type 0) (epoch : ℕ) (s : State)
    → ((t : State) (front back : List Active) (o : Active) (d : Declaration) → o.kind ≡ IsPending d → Q (with_active t (front ++ o ∷ back)) → AllByRecursion (λ u. IsPendingKind u.kind → ⊥) front → serial s.agenda ≡ serial t.agenda
    → Q (with_active (moved t epoch (Slot o.number)) (front ++ with_kind (IsLive d (serial s.agenda)) o ∷ back)))
    → Q (with_active (in_epoch s epoch) s.active) → Q (advanced s epoch)
advanced_along Q epoch s one q =
    let end : State = slots_after epoch (in_epoch s epoch) s.active in
    subst (λ l. Q (with_active end l)) (sym (slots_active epoch (in_epoch s epoch) s.active)) (slots_along Q epoch (serial s.agenda) one s q refl)

-- the structure of a state is that of one in another epoch
pub in_epoch_structure : (base : Base) (s : State) (epoch : ℕ) → Structure base s → Structure base (with_active (in_epoch s epoch) s.active)
in_epoch_structure base s epoch inv = record { rows = inv.rows; last = inv.last; opens = inv.opens; slots = inv.slots; moves = inv.moves; members = inv.members; order = inv.order; stands = inv.stands; committed = inv.committed }

pub advanced_structure : (base : Base) (s : State) (epoch : ℕ) → Structure base s → Structure base (advanced s epoch)
advanced_structure base s epoch inv = advanced_along (Structure base) epoch s
    (λ t front back o d kind h started taken. slot_structure base t epoch front back o d kind h started (serial s.agenda) taken) (in_epoch_structure base s epoch inv)
