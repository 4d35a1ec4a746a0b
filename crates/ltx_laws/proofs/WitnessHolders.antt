-- The holder of a table is the least live batch that declared it; the held table is the least of those touched.
use Rattle.std.proofs.Common.{◌≡◌, ◌⊎◌, inl, inr, ℕ, ◌<◌, ◌≤◌, Bool, true, false, cond, ◌||◌, ◌==◌, nat_le, List, [], ◌∷◌, Option, Some, None, option_map, refl, sym, ap, ◌∙◌, subst, arith, Contains}
use Rattle.std.specs.List.{find, filter_map, cons_option, AllByRecursion}
use Rattle.std.proofs.lemmas.Bool.{eqb-true, leb-true, leb-false}
use Rattle.ltx_model.specs.declared.commands.Op.{Op}
use Rattle.ltx_model.specs.Operations.{table_of, touches}
use Rattle.ltx_model.specs.States.{Kind, IsShort, IsPending, IsLive, Active, transaction_of, State, LiveBatch, as_live, live_batches}
use Rattle.ltx_model.specs.Shorts.{holds, holder, IsHeld, Held, lesser, held_table, IsLeastHeld}
use Rattle.ltx_model.specs.Lists.{IsPairwise}
use Rattle.ltx_lemmas.proofs.Lists.{some_same, none_some, contains_cases, all_contains, find_passes, find_contains, find_not}
use Rattle.ltx_lemmas.proofs.Members.{same_number}

abbrev pub AreRising : List LiveBatch → Type 0
AreRising bs = IsPairwise (λ a b. a.tx.number < b.tx.number) bs

above_live : (n : ℕ) (os : List Active) → AllByRecursion (λ o. n < o.number) os → AllByRecursion (λ b. n < b.tx.number) (filter_map (λ o. as_live o.kind (transaction_of o)) os)
above_live n [] all = tt
above_live n (o ∷ os) all = by_kind o.kind (above_live n os all.1) where
  by_kind : (k : Kind) → AllByRecursion (λ b. n < b.tx.number) (filter_map (λ u. as_live u.kind (transaction_of u)) os)
      → AllByRecursion (λ b. n < b.tx.number) (cons_option (as_live k (transaction_of o)) (filter_map (λ u. as_live u.kind (transaction_of u)) os))
  by_kind IsShort rest = rest
  by_kind (IsPending d) rest = rest
  by_kind (IsLive d snapshot) rest = (all.0, rest)

rising_from : (os : List Active) → IsPairwise (λ a b. a.number < b.number) os → AreRising (filter_map (λ o. as_live o.kind (transaction_of o)) os)
rising_from [] rising = tt
rising_from (o ∷ os) rising = by_kind o.kind (rising_from os rising.1) (above_live o.number os rising.0) where
  by_kind : (k : Kind) → AreRising (filter_map (λ u. as_live u.kind (transaction_of u)) os) → AllByRecursion (λ b. o.number < b.tx.number) (filter_map (λ u. as_live u.kind (transaction_of u)) os)
      → AreRising (cons_option (as_live k (transaction_of o)) (filter_map (λ u. as_live u.kind (transaction_of u)) os))
  by_kind IsShort rest above = rest
  by_kind (IsPending d) rest above = rest
  by_kind (IsLive d snapshot) rest above = (above, rest)

-- live batches stand in the order of their numbers where open transactions do
pub live_rising : (s : State) → IsPairwise (λ a b. a.number < b.number) s.active → AreRising (live_batches s)
live_rising s rising = rising_from s.active rising

-- the first of rising live batches that passes a test is the least of those that pass
pub first_is_least : (test : LiveBatch → Bool) (bs : List LiveBatch) (b other : LiveBatch) → AreRising bs → find test bs ≡ Some b → Contains bs other → test other ≡ true → b.tx.number ≤ other.tx.number
first_is_least test [] b other rising is here passes = absurd (none_some is)
first_is_least test (x ∷ xs) b other rising is here passes = by_test (test x) refl is (contains_cases x xs other here) (λ later is. first_is_least test xs b other rising.1 is later passes) where
  by_test : (t : Bool) → test x ≡ t → cond t (Some x) (find test xs) ≡ Some b → (x ≡ other) ⊎ Contains xs other → (Contains xs other → find test xs ≡ Some b → b.tx.number ≤ other.tx.number) → b.tx.number ≤ other.tx.number
  by_test true e h (inl same) rec = let first : x ≡ b = some_same h in subst (λ (c : LiveBatch). c.tx.number ≤ other.tx.number) first (subst (λ (c : LiveBatch). x.tx.number ≤ c.tx.number) same (let l : x.tx.number ≤ x.tx.number = omega arith in l))
  by_test true e h (inr later) rec = let first : x ≡ b = some_same h in
      let less : x.tx.number < other.tx.number = all_contains (λ (c : LiveBatch). x.tx.number < c.tx.number) xs other rising.0 later in
      subst (λ (c : LiveBatch). c.tx.number ≤ other.tx.number) first (let l : x.tx.number ≤ other.tx.number = omega arith in l)
  by_test false e h (inl same) rec = absurd (let both : false ≡ true = sym e ∙ ap test same ∙ passes in let no : ⊥ = cc in no)
  by_test false e h (inr later) rec = rec later h

-- the holder is the least live batch that holds the table
pub holder_held : (s : State) → AreRising (live_batches s) → (table n : ℕ) → holder s table ≡ Some n → IsHeld s table n
holder_held s rising table n is = by_find (find (holds table) (live_batches s)) refl is where
  by_find : (o : Option LiveBatch) → find (holds table) (live_batches s) ≡ o → option_map (λ (b : LiveBatch). b.tx.number) o ≡ Some n → IsHeld s table n
  by_find None e h = absurd (none_some h)
  by_find (Some b) e h = let number : b.tx.number ≡ n = some_same h in record {
    batch = b;
    live = find_contains (holds table) (live_batches s) b e;
    number = number;
    declared = find_passes (holds table) (live_batches s) b e;
    least = λ other live passes. subst (λ m. m ≤ other.tx.number) number (first_is_least (holds table) (live_batches s) b other rising e live passes);
  }

-- with no holder no live batch holds it
pub holder_none : (s : State) (table : ℕ) → holder s table ≡ None → (b : LiveBatch) → Contains (live_batches s) b → holds table b ≡ false
holder_none s table is b live = by_find (find (holds table) (live_batches s)) refl is where
  by_find : (o : Option LiveBatch) → find (holds table) (live_batches s) ≡ o → option_map (λ (c : LiveBatch). c.tx.number) o ≡ None → holds table b ≡ false
  by_find None e h = find_not (holds table) (live_batches s) b e live
  by_find (Some c) e h = absurd (none_some (sym h))

pub unheld : (s : State) (table n : ℕ) → holder s table ≡ None → IsHeld s table n → ⊥
unheld s table n none h = let both : false ≡ true = sym (holder_none s table none h.batch h.live) ∙ h.declared in let no : ⊥ = cc in no

-- a table has one least holder
pub held_once : (s : State) (table m n : ℕ) → IsHeld s table m → IsHeld s table n → m ≡ n
held_once s table m n h g =
    let one : m ≤ n = subst (λ k. m ≤ k) g.number (h.least g.batch g.live g.declared) in
    let two : n ≤ m = subst (λ k. n ≤ k) h.number (g.least h.batch h.live h.declared) in
    omega arith

pub held_holder : (s : State) → AreRising (live_batches s) → (table n : ℕ) → IsHeld s table n → holder s table ≡ Some n
held_holder s rising table n h = by_holder (holder s table) refl where
  by_holder : (o : Option ℕ) → holder s table ≡ o → holder s table ≡ Some n
  by_holder None e = absurd (unheld s table n e h)
  by_holder (Some m) e = e ∙ ap Some (held_once s table m n (holder_held s rising table m e) h)

touches_first : (op : Op) (ops : List Op) (table : ℕ) → touches (op ∷ ops) table ≡ true → (table_of op ≡ table) ⊎ (touches ops table ≡ true)
touches_first op ops table e = by_test (table_of op == table) refl e where
  by_test : (b : Bool) → (table_of op == table) ≡ b → (b || touches ops table) ≡ true → (table_of op ≡ table) ⊎ (touches ops table ≡ true)
  by_test true is h = inl (eqb-true (table_of op) table is)
  by_test false is h = inr h

some_lesser : (b : Bool) (g k : Held) → cond b (Some g) (Some k) ≡ None → ⊥
some_lesser true g k h = none_some (sym h)
some_lesser false g k h = none_some (sym h)

-- with no held table nothing that is touched is held
pub held_nowhere : (s : State) (ops : List Op) → held_table s ops ≡ None → (table n : ℕ) → touches ops table ≡ true → IsHeld s table n → ⊥
held_nowhere s [] none table n touched h = absurd (let no : ⊥ = cc in no)
held_nowhere s (op ∷ ops) none table n touched h = by_both (holder s (table_of op)) refl (held_table s ops) refl none (touches_first op ops table touched) (λ none later. held_nowhere s ops none table n later h) where
  by_both : (a : Option ℕ) → holder s (table_of op) ≡ a → (b : Option Held) → held_table s ops ≡ b → lesser (option_map (λ (m : ℕ). let g : Held = record { table = table_of op; holder = m } in g) a) b ≡ None
      → (table_of op ≡ table) ⊎ (touches ops table ≡ true) → (held_table s ops ≡ None → touches ops table ≡ true → ⊥) → ⊥
  by_both (Some m) e None f g w rec = none_some (sym g)
  by_both (Some m) e (Some k) f g w rec = some_lesser (nat_le (table_of op) k.table) (record { table = table_of op; holder = m }) k g
  by_both None e b f g (inl same) rec = unheld s (table_of op) n e (subst (λ t. IsHeld s t n) (sym same) h)
  by_both None e b f g (inr later) rec = rec (f ∙ g) later

true_or : (b : Bool) → (true || b) ≡ true
true_or b = refl

touches_here : (op : Op) (ops : List Op) → touches (op ∷ ops) (table_of op) ≡ true
touches_here op ops = ap (λ b. b || touches ops (table_of op)) (same_number (table_of op))

touches_later : (op : Op) (ops : List Op) (table : ℕ) → touches ops table ≡ true → touches (op ∷ ops) table ≡ true
touches_later op ops table e = by_test (table_of op == table) where
  by_test : (b : Bool) → (b || touches ops table) ≡ true
  by_test true = refl
  by_test false = e

-- the held table is the least that is touched and held, with its least holder
pub held_least : (s : State) → AreRising (live_batches s) → (ops : List Op) (h : Held) → held_table s ops ≡ Some h → IsLeastHeld s ops h.table h.holder
held_least s rising [] h is = absurd (none_some is)
held_least s rising (op ∷ ops) h is = by_both (holder s (table_of op)) refl (held_table s ops) refl is (λ g. held_least s rising ops g) where
  later_least : IsLeastHeld s ops h.table h.holder → ((m : ℕ) → IsHeld s (table_of op) m → h.table ≤ table_of op) → IsLeastHeld s (op ∷ ops) h.table h.holder
  later_least r here = record {
    touched = touches_later op ops h.table r.touched;
    held = r.held;
    least = λ other m touched held. by_place other m held (touches_first op ops other touched);
  } where
    by_place : (other m : ℕ) → IsHeld s other m → (table_of op ≡ other) ⊎ (touches ops other ≡ true) → h.table ≤ other
    by_place other m held (inl same) = subst (λ t. h.table ≤ t) same (here m (subst (λ t. IsHeld s t m) (sym same) held))
    by_place other m held (inr later) = r.least other m later held

  first_least : (m : ℕ) → holder s (table_of op) ≡ Some m → (let g : Held = record { table = table_of op; holder = m } in g) ≡ h → ((other n : ℕ) → touches ops other ≡ true → IsHeld s other n → table_of op ≤ other) → IsLeastHeld s (op ∷ ops) h.table h.holder
  first_least m e same later = subst (λ (g : Held). IsLeastHeld s (op ∷ ops) g.table g.holder) same (record {
    touched = touches_here op ops;
    held = holder_held s rising (table_of op) m e;
    least = λ other n touched held. by_place other n held (touches_first op ops other touched);
  }) where
    by_place : (other n : ℕ) → IsHeld s other n → (table_of op ≡ other) ⊎ (touches ops other ≡ true) → table_of op ≤ other
    by_place other n held (inl here) = subst (λ t. table_of op ≤ t) here (let l : table_of op ≤ table_of op = omega arith in l)
    by_place other n held (inr after) = later other n after held

  by_less : (b : Bool) (m : ℕ) (k : Held) → nat_le (table_of op) k.table ≡ b → holder s (table_of op) ≡ Some m → held_table s ops ≡ Some k → cond b (Some (let g : Held = record { table = table_of op; holder = m } in g)) (Some k) ≡ Some h
      → ((g : Held) → held_table s ops ≡ Some g → IsLeastHeld s ops g.table g.holder) → IsLeastHeld s (op ∷ ops) h.table h.holder
  by_less true m k le e f g rec = first_least m e (some_same g) (λ other n touched held.
      let low : table_of op ≤ k.table = leb-true (table_of op) k.table le in
      let high : k.table ≤ other = (rec k f).least other n touched held in
      let both : table_of op ≤ other = omega arith in both)
  by_less false m k le e f g rec = later_least (subst (λ (x : Held). IsLeastHeld s ops x.table x.holder) (some_same g) (rec k f))
      (λ n held. let less : k.table < table_of op = leb-false (table_of op) k.table le in
      subst (λ (x : Held). x.table ≤ table_of op) (some_same g) (let l : k.table ≤ table_of op = omega arith in l))

  by_both : (a : Option ℕ) → holder s (table_of op) ≡ a → (b : Option Held) → held_table s ops ≡ b → lesser (option_map (λ (m : ℕ). let g : Held = record { table = table_of op; holder = m } in g) a) b ≡ Some h
      → ((g : Held) → held_table s ops ≡ Some g → IsLeastHeld s ops g.table g.holder) → IsLeastHeld s (op ∷ ops) h.table h.holder
  by_both None e b f g rec = later_least (rec h (f ∙ g)) (λ m held. absurd (unheld s (table_of op) m e held))
  by_both (Some m) e None f g rec = first_least m e (some_same g) (λ other n touched held. absurd (held_nowhere s ops f other n touched held))
  by_both (Some m) e (Some k) f g rec = by_less (nat_le (table_of op) k.table) m k refl e f g rec

-- and the other way round
pub least_held : (s : State) → AreRising (live_batches s) → (ops : List Op) (table n : ℕ) → IsLeastHeld s ops table n → held_table s ops ≡ Some (record { table = table; holder = n })
least_held s rising ops table n l = by_held (held_table s ops) refl where
  by_held : (o : Option Held) → held_table s ops ≡ o → held_table s ops ≡ Some (record { table = table; holder = n })
  by_held None e = absurd (held_nowhere s ops e table n l.touched l.held)
  by_held (Some h) e =
      let g = held_least s rising ops h e in
      let one : h.table ≤ table = g.least table n l.touched l.held in
      let two : table ≤ h.table = l.least h.table h.holder g.touched g.held in
      let tables : h.table ≡ table = omega arith in
      let holders : h.holder ≡ n = held_once s table h.holder n (subst (λ t. IsHeld s t h.holder) tables g.held) l.held in
      e ∙ (λ i. Some (record { table = tables i; holder = holders i }))
