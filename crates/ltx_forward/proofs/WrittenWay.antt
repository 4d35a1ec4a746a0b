-- A walk along the written keys of a range.
use Rattle.std.proofs.Common.{◌≡◌, ◌⊎◌, inl, inr, ℕ, ◌<◌, ◌≤◌, Bool, true, false, cond, ◌&&◌, List, [], ◌∷◌, ◌++◌, length, filter, Option, Some, None, IfSome, refl, sym, ap, ◌∙◌, subst, arith, Contains}
use Rattle.std.proofs.lemmas.Bool.{and_parts, both_ways}
use Rattle.std.specs.Ordering.{is_lt, is_le}
use Rattle.std.specs.declared.cmp.Ordering.{Ordering}
use Rattle.std.specs.declared.cmp.Ordering.TheVariants.{Less, Equal, Greater}
use Rattle.std.specs.Cmp.Lexicographic.{nat_list_cmp_total}
use Rattle.ltx_model.specs.declared.writes.Write.{Write}
use Rattle.ltx_model.specs.Keys.{Cell, key_cmp, is_below_end, same_cell}
use Rattle.ltx_model.specs.Notes.{is_one_of}
use Rattle.ltx_model.specs.Operations.{cell_of_write}
use Rattle.ltx_model.specs.Records.{Recorded, Records, has_written, IsNextWritten}
use Rattle.ltx_model.proofs.KeyOrder.{key_itself, same_keys, key_turned, above_past, below_end_lesser}
use Rattle.ltx_model.proofs.Orderings.{is_less}
use Rattle.ltx_model.proofs.CellOrder.{same_cell_same}
use Rattle.ltx_lemmas.proofs.Lists.{any_contains, any_item, contains_none, contains_cases, contains_front, contains_back, true_false}
use Rattle.ltx_forward.specs.Earliest.{Improves, IsAfter, IsWriter}
use Rattle.ltx_forward.specs.WrittenKeys.{is_written, NextIn, IsWriterIn}
use Rattle.ltx_forward.proofs.Improving.{improves_none, improves_both, improves_same}

-- ---- fewer keys are left

filter_most : {A : Type 0} (p q : A → Bool) (xs : List A) → ((x : A) → p x ≡ true → q x ≡ true) → length (filter p xs) ≤ length (filter q xs)
filter_most p q [] each = omega arith
filter_most p q (x ∷ xs) each = by_tests (p x) refl (q x) refl (filter_most p q xs each) where
  by_tests : (a : Bool) → p x ≡ a → (b : Bool) → q x ≡ b → length (filter p xs) ≤ length (filter q xs) → length (cond a (x ∷ filter p xs) (filter p xs)) ≤ length (cond b (x ∷ filter q xs) (filter q xs))
  by_tests true is true at rest = omega (arith, rest)
  by_tests true is false at rest = absurd (both_ways (q x) at (each x is))
  by_tests false is true at rest = omega (arith, rest)
  by_tests false is false at rest = rest

filter_fewer : {A : Type 0} (p q : A → Bool) (xs : List A) (y : A) → ((x : A) → p x ≡ true → q x ≡ true) → Contains xs y → q y ≡ true → p y ≡ false → length (filter p xs) < length (filter q xs)
filter_fewer p q [] y each here passes fails = absurd (contains_none y here)
filter_fewer p q (x ∷ xs) y each here passes fails = by_place (contains_cases x xs y here) (filter_fewer p q xs y each) where
  by_place : (x ≡ y) ⊎ Contains xs y → (Contains xs y → q y ≡ true → p y ≡ false → length (filter p xs) < length (filter q xs))
      → length (cond (p x) (x ∷ filter p xs) (filter p xs)) < length (cond (q x) (x ∷ filter q xs) (filter q xs))
  by_place (inl e) later =
      let rest = filter_most p q xs each in
      rw (ap p e ∙ fails, ap q e ∙ passes) (omega (arith, rest))
  by_place (inr c) later = by_tests (p x) refl (q x) refl (later c passes fails) where
    by_tests : (a : Bool) → p x ≡ a → (b : Bool) → q x ≡ b → length (filter p xs) < length (filter q xs) → length (cond a (x ∷ filter p xs) (filter p xs)) < length (cond b (x ∷ filter q xs) (filter q xs))
    by_tests true is true at rest = omega (arith, rest)
    by_tests true is false at rest = absurd (both_ways (q x) at (each x is))
    by_tests false is true at rest = omega (arith, rest)
    by_tests false is false at rest = rest

-- the writes of records
abbrev pub writes_in : List Recorded → List Write
writes_in [] = []
writes_in (r ∷ rs) = r.writes ++ writes_in rs

writes_here : (rs : List Recorded) (r : Recorded) (w : Write) → Contains rs r → Contains r.writes w → Contains (writes_in rs) w
writes_here [] r w here c = absurd (contains_none r here)
writes_here (x ∷ xs) r w here c = by_place (contains_cases x xs r here) (writes_here xs r w) where
  by_place : (x ≡ r) ⊎ Contains xs r → (Contains xs r → Contains r.writes w → Contains (writes_in xs) w) → Contains (x.writes ++ writes_in xs) w
  by_place (inl e) later = contains_front x.writes (writes_in xs) w (subst (λ (z : Recorded). Contains z.writes w) (sym e) c)
  by_place (inr d) later = contains_back x.writes (writes_in xs) w (later d c)

-- a write is of this key or of one above it
abbrev pub is_at_least : List ℕ → Write → Bool
is_at_least key w = is_le (key_cmp key w.key)

-- how many writes are of a key or of one above it, where there is a key
abbrev pub writes_left : Records → Option (List ℕ) → ℕ
writes_left records None = 0
writes_left records (Some key) = length (filter (is_at_least key) (writes_in records.kept))

written_here : (records : Records) (table : ℕ) (key : List ℕ) → is_written records table key ≡ true → (w : Write) × Contains (writes_in records.kept) w × (w.key ≡ key)
written_here records table key e =
    let cell : Cell = record { table = table; key = key } in
    let found = any_item (has_written cell) records.kept e in
    let write = any_item (λ (w : Write). same_cell (cell_of_write w) cell) found.0.writes found.2 in
    (write.0, writes_here records.kept found.0 write.0 found.1 write.1, ap (λ (c : Cell). c.key) (same_cell_same (cell_of_write write.0) cell write.2))

-- after a written key there are fewer
pub fewer_writes : (records : Records) (table : ℕ) (high key : List ℕ) (more : Option (List ℕ)) → is_written records table key ≡ true → NextIn records table high key true more → writes_left records more < writes_left records (Some key)
fewer_writes records table high key more written next = by_more more next where
  found : (w : Write) × Contains (writes_in records.kept) w × (w.key ≡ key)
  found = written_here records table key written

  own : is_at_least key found.0 ≡ true
  own = ap (λ k. is_le (key_cmp key k)) found.2 ∙ ap is_le (key_itself key)

  by_more : (more : Option (List ℕ)) → NextIn records table high key true more → writes_left records more < length (filter (is_at_least key) (writes_in records.kept))
  by_more None n =
      let less : length (filter (λ (w : Write). false) (writes_in records.kept)) < length (filter (is_at_least key) (writes_in records.kept)) = filter_fewer (λ (w : Write). false) (is_at_least key) (writes_in records.kept) found.0 (λ x e. absurd (true_false (sym e))) found.1 own refl in
      omega (arith, less)
  by_more (Some k) n =
      let past : key_cmp key k ≡ Less = is_less (key_cmp key k) n.reached in
      filter_fewer (is_at_least k) (is_at_least key) (writes_in records.kept) found.0
      (λ x e. ap is_le (passes x e past)) found.1 own (ap (λ l. is_le (key_cmp k l)) found.2 ∙ ap is_le (key_turned key k Less past))
    where
      passes : (x : Write) → is_le (key_cmp k x.key) ≡ true → key_cmp key k ≡ Less → key_cmp key x.key ≡ Less
      passes x e past = by_order (key_cmp k x.key) refl e where
        by_order : (o : Ordering) → key_cmp k x.key ≡ o → is_le o ≡ true → key_cmp key x.key ≡ Less
        by_order Less at f = nat_list_cmp_total.trans key k x.key past at
        by_order Equal at f = ap (key_cmp key) (sym (same_keys k x.key at)) ∙ past
        by_order Greater at f = absurd (true_false (sym f))

-- ---- the walk

-- the key is below the next one, or there is no next one
abbrev pub IsPassed : Option (List ℕ) → List ℕ → Type 0
IsPassed None key = Unit {0}
IsPassed (Some k) key = key_cmp key k ≡ Less

module _ (records : Records) (list : List ℕ) (own mark : ℕ) (after : Option ℕ) (table : ℕ) (low high : List ℕ) (keys : List (List ℕ)) where
  -- a key of the range that was passed, none of the own ones, was written
  pub record IsPassedWriter (next : Option (List ℕ)) (n : ℕ) : Type 0 where
    pub in_it : IsWriterIn records list own mark table low high keys n
    pub passed : IsPassed next in_it.key
    pub later : IsAfter list after n

  -- the next key is a written one of the range, and those who wrote the keys below it were looked at
  pub record IsOnWay (next : Option (List ℕ)) (best found : Option ℕ) : Type 0 where
    pub inside : IfSome next (λ key. (is_le (key_cmp low key) ≡ true) × (is_below_end high key ≡ true) × (is_written records table key ≡ true))
    pub done : Improves list (IsPassedWriter next) best found

  written_by : (key : List ℕ) (n : ℕ) → IsWriter records list own mark (record { table = table; key = key }) n → is_written records table key ≡ true
  written_by key n w = any_contains (has_written (record { table = table; key = key })) records.kept w.entry w.kept w.written

  pub way_start : (next : Option (List ℕ)) (best : Option ℕ) → NextIn records table high low false next → IsOnWay next best best
  way_start None best n = record {
    inside = tt;
    done = improves_none list (IsPassedWriter None) best (λ m p. let parts = and_parts (is_le (key_cmp low p.in_it.key)) (is_below_end high p.in_it.key) p.in_it.inside in n p.in_it.key parts.0 parts.1 (written_by p.in_it.key m p.in_it.writer));
  }
  way_start (Some k) best n = record {
    inside = (n.reached, n.below, n.written);
    done = improves_none list (IsPassedWriter (Some k)) best (λ m p. let parts = and_parts (is_le (key_cmp low p.in_it.key)) (is_below_end high p.in_it.key) p.in_it.inside in n.least p.in_it.key parts.0 (written_by p.in_it.key m p.in_it.writer) p.passed);
  }

  -- those who wrote this key were looked at
  abbrev pub At : List ℕ → ℕ → Type 0
  At key n = IsWriter records list own mark (record { table = table; key = key }) n × IsAfter list after n

  -- what was passed by the next key was passed before, or is of the key
  passed_more : (key : List ℕ) (more : Option (List ℕ)) (n : ℕ) → NextIn records table high key true more → (p : IsPassedWriter more n) → IsPassedWriter (Some key) n ⊎ (p.in_it.key ≡ key)
  passed_more key more n next p = by_order (key_cmp p.in_it.key key) refl where
    parts : (is_le (key_cmp low p.in_it.key) ≡ true) × (is_below_end high p.in_it.key ≡ true)
    parts = and_parts (is_le (key_cmp low p.in_it.key)) (is_below_end high p.in_it.key) p.in_it.inside

    nobody : (more : Option (List ℕ)) → NextIn records table high key true more → IsPassed more p.in_it.key → key_cmp key p.in_it.key ≡ Less → ⊥
    nobody None next passed past = next p.in_it.key (ap is_lt past) parts.1 (written_by p.in_it.key n p.in_it.writer)
    nobody (Some k) next passed past = next.least p.in_it.key (ap is_lt past) (written_by p.in_it.key n p.in_it.writer) passed

    by_order : (o : Ordering) → key_cmp p.in_it.key key ≡ o → IsPassedWriter (Some key) n ⊎ (p.in_it.key ≡ key)
    by_order Less e = inl (record { in_it = p.in_it; passed = e; later = p.later })
    by_order Equal e = inr (same_keys p.in_it.key key e)
    by_order Greater e = absurd (nobody more next p.passed (key_turned p.in_it.key key Greater e))

  passed_still : (key : List ℕ) (more : Option (List ℕ)) (n : ℕ) → NextIn records table high key true more → IsPassedWriter (Some key) n → IsPassedWriter more n
  passed_still key None n next p = record { in_it = p.in_it; passed = tt; later = p.later }
  passed_still key (Some k) n next p = record { in_it = p.in_it; passed = nat_list_cmp_total.trans p.in_it.key key k p.passed (is_less (key_cmp key k) next.reached); later = p.later }

  passed_now : (key : List ℕ) (more : Option (List ℕ)) → NextIn records table high key true more → IsPassed more key
  passed_now key None next = tt
  passed_now key (Some k) next = is_less (key_cmp key k) next.reached

  next_inside : (key : List ℕ) (more : Option (List ℕ)) → is_le (key_cmp low key) ≡ true → NextIn records table high key true more
      → IfSome more (λ k. (is_le (key_cmp low k) ≡ true) × (is_below_end high k ≡ true) × (is_written records table k ≡ true))
  next_inside key None reached next = tt
  next_inside key (Some k) reached next = (ap is_le (above_past low key k (is_less (key_cmp key k) next.reached) reached), next.below, next.written)

  -- one of the own keys is passed over
  pub way_less : (key : List ℕ) (more : Option (List ℕ)) (best found : Option ℕ) → IsOnWay (Some key) best found → NextIn records table high key true more → is_one_of keys key ≡ true → IsOnWay more best found
  way_less key more best found way next own_key = record {
    inside = next_inside key more way.inside.0 next;
    done = improves_same list (IsPassedWriter (Some key)) (IsPassedWriter more) best found way.done (λ n p. by_place n p (passed_more key more n next p)) (λ n p. passed_still key more n next p);
  } where
    by_place : (n : ℕ) (p : IsPassedWriter more n) → IsPassedWriter (Some key) n ⊎ (p.in_it.key ≡ key) → IsPassedWriter (Some key) n
    by_place n p (inl h) = h
    by_place n p (inr e) = absurd (both_ways (is_one_of keys p.in_it.key) p.in_it.other (ap (is_one_of keys) e ∙ own_key))

  -- another one is looked at
  pub way_more : (key : List ℕ) (more : Option (List ℕ)) (best found better : Option ℕ) → IsOnWay (Some key) best found → NextIn records table high key true more → is_one_of keys key ≡ false → Improves list (At key) found better
      → IsOnWay more best better
  way_more key more best found better way next other one = record {
    inside = next_inside key more way.inside.0 next;
    done = improves_both list (IsPassedWriter (Some key)) (At key) (IsPassedWriter more) best found better way.done one (λ n p. by_place n p (passed_more key more n next p)) (λ n p. passed_still key more n next p)
        (λ n h. record {
          in_it = record { key = key; inside = inside_of (is_le (key_cmp low key)) (is_below_end high key) way.inside.0 way.inside.1; other = other; writer = h.0 };
          passed = passed_now key more next;
          later = h.1;
        });
  } where
    inside_of : (a b : Bool) → a ≡ true → b ≡ true → (a && b) ≡ true
    inside_of a b x y = rw (x, y) refl

    by_place : (n : ℕ) (p : IsPassedWriter more n) → IsPassedWriter (Some key) n ⊎ (p.in_it.key ≡ key) → IsPassedWriter (Some key) n ⊎ At key n
    by_place n p (inl h) = inl h
    by_place n p (inr e) = inr (subst (λ k. IsWriter records list own mark (record { table = table; key = k }) n) e p.in_it.writer, p.later)

  -- no key is left
  pub way_end : (best found : Option ℕ) → IsOnWay None best found → Improves list (λ n. IsWriterIn records list own mark table low high keys n × IsAfter list after n) best found
  way_end best found way = improves_same list (IsPassedWriter None) (λ n. IsWriterIn records list own mark table low high keys n × IsAfter list after n) best found way.done
      (λ n h. record { in_it = h.0; passed = tt; later = h.1 }) (λ n p. (p.in_it, p.later))

-- where the next written key is not below the upper end, none is
pub past_end : (records : Records) (table : ℕ) (high from : List ℕ) (strict : Bool) (k : List ℕ) → IsNextWritten records table from strict k → is_below_end high k ≡ false → NextIn records table high from strict None
past_end records table high from strict k next above key reached below written = by_order (key_cmp key k) refl where
  by_order : (o : Ordering) → key_cmp key k ≡ o → ⊥
  by_order Less e = next.least key reached written e
  by_order Equal e = both_ways (is_below_end high k) above (ap (is_below_end high) (sym (same_keys key k e)) ∙ below)
  by_order Greater e = both_ways (is_below_end high k) above (below_end_lesser high k key (key_turned key k Greater e) below)
