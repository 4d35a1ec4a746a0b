-- A walk along the looks of a range and its rows now: a key_turned takes the least key that is left.
use Rattle.std.proofs.Common.{◌≡◌, ◌≢◌, ◌⊎◌, inl, inr, ℕ, Bool, true, false, not, ◌&&◌, List, [], ◌∷◌, Option, Some, None, refl, sym, ap, ◌∙◌, subst}
use Rattle.std.specs.List.{AllByRecursion}
use Rattle.std.specs.List.Sorted.{IsStrictlySortedBy}
use Rattle.std.specs.declared.cmp.Ordering.{Ordering}
use Rattle.std.specs.declared.cmp.Ordering.TheVariants.{Less, Equal, Greater}
use Rattle.std.specs.Ordering.{is_lt, is_le}
use Rattle.std.proofs.lemmas.Bool.{and_parts, both_ways}
use Rattle.ltx_model.specs.declared.rows.StoredRow.{StoredRow}
use Rattle.ltx_model.specs.declared.writes.Look.{Look}
use Rattle.ltx_model.specs.declared.looked.Reach.{Reach}
use Rattle.ltx_model.specs.declared.looked.Reach.TheVariants.{Range}
use Rattle.ltx_model.specs.Keys.{key_cmp, in_range, is_below_end}
use Rattle.ltx_model.specs.StoredRows.{writer_at}
use Rattle.ltx_model.specs.NextKeys.{reaches}
use Rattle.ltx_model.specs.Notes.{found_by, look_of, is_one_of, found_in, asks}
use Rattle.ltx_validate.specs.Differences.{at, AreRisingLooks, IsOrdered, IsSame, IsLeastDifference, Tells}
use Rattle.ltx_validate.specs.Turns.{Turning, turn_by, turn_of, IsNextRow, NextRow, IsWalk}
use Rattle.ltx_model.proofs.Orderings.{is_less}
use Rattle.ltx_model.proofs.KeyOrder.{key_turned, key_itself, same_keys, not_past, below_end_lesser, key_total, reaches_past}

-- a key that all looks are above has none
abbrev AreAbove : List ℕ → List Look → Type 0
AreAbove key looks = AllByRecursion (λ look. key_cmp key look.key ≡ Less) looks

look_none : (key : List ℕ) (looks : List Look) → AreAbove key looks → look_of looks key ≡ None
look_none key [] above = refl
look_none key (look ∷ rest) above = rw (key_turned key look.key Less above.0) (look_none key rest above.1)

above_lesser : (key k : List ℕ) (looks : List Look) → key_cmp key k ≡ Less → AreAbove k looks → AreAbove key looks
above_lesser key k [] less above = tt
above_lesser key k (look ∷ rest) less above = (key_total.trans key k look.key less above.0, above_lesser key k rest less above.1)

above_reached : (key : List ℕ) (looks : List Look) → AreAbove key looks → AllByRecursion (λ look. reaches key true look.key ≡ true) looks
above_reached key [] above = tt
above_reached key (look ∷ rest) above = (ap is_lt above.0, above_reached key rest above.1)

look_here : (look : Look) (rest : List Look) → look_of (look ∷ rest) look.key ≡ Some look
look_here look rest = rw (key_itself look.key) refl

look_past : (look : Look) (rest : List Look) (key : List ℕ) → key_cmp look.key key ≡ Less → look_of rest key ≡ look_of (look ∷ rest) key
look_past look rest key less = rw less refl

module _ (rows : List StoredRow) (table : ℕ) (high from : List ℕ) (strict : Bool) where
  abbrev now : List ℕ → Option ℕ
  now key = writer_at rows (at table key)

  -- a key_turned from a bound on: the least key that is left, and what is left behind it
  pub record IsTurned (left : List Look) (next : Option (List ℕ × ℕ)) (t : Turning) : Type 0 where
    pub reached : reaches from strict t.key ≡ true
    pub below : is_below_end high t.key ≡ true
    pub found : found_in (look_of left t.key) ≡ t.found
    pub current : now t.key ≡ t.current
    pub no_look : (key : List ℕ) → key_cmp key t.key ≡ Less → look_of left key ≡ None
    pub no_row : (key : List ℕ) → reaches from strict key ≡ true → key_cmp key t.key ≡ Less → now key ≡ None
    pub left_rising : AreRisingLooks t.left
    pub left_reached : AllByRecursion (λ look. reaches t.key true look.key ≡ true) t.left
    pub left_below : AllByRecursion (λ look. is_below_end high look.key ≡ true) t.left
    pub same_looks : (key : List ℕ) → key_cmp t.key key ≡ Less → look_of t.left key ≡ look_of left key
    pub kept : t.current ≡ None → NextRow rows table high t.key true next

  turned_by : (o : Ordering) (look : Look) (rest : List Look) (row : List ℕ × ℕ) → key_cmp look.key row.0 ≡ o → AreRisingLooks (look ∷ rest) → reaches from strict look.key ≡ true
      → AllByRecursion (λ l. is_below_end high l.key ≡ true) (look ∷ rest) → IsNextRow rows table high from strict row → IsTurned (look ∷ rest) (Some row) (turn_by o look rest row)
  unfolding IsStrictlySortedBy
  turned_by Less look rest row is rising reached below n = record {
    reached = reached;
    below = below.0;
    found = ap found_in (look_here look rest);
    current = n.least look.key reached is;
    no_look = λ key less. look_none key (look ∷ rest) (less, above_lesser key look.key rest less rising.0);
    no_row = λ key at_key less. n.least key at_key (key_total.trans key look.key row.0 less is);
    left_rising = rising.1;
    left_reached = above_reached look.key rest rising.0;
    left_below = below.1;
    same_looks = look_past look rest;
    kept = λ _. record { reached = ap is_lt is; below = n.below; written = n.written; least = λ key at_key less. n.least key (reaches_past from strict look.key key (is_less (key_cmp look.key key) at_key) reached) less };
  }
  turned_by Equal look rest row is rising reached below n = record {
    reached = reached;
    below = below.0;
    found = ap found_in (look_here look rest);
    current = ap now (same_keys look.key row.0 is) ∙ n.written;
    no_look = λ key less. look_none key (look ∷ rest) (less, above_lesser key look.key rest less rising.0);
    no_row = λ key at_key less. n.least key at_key (ap (key_cmp key) (sym (same_keys look.key row.0 is)) ∙ less);
    left_rising = rising.1;
    left_reached = above_reached look.key rest rising.0;
    left_below = below.1;
    same_looks = look_past look rest;
    kept = λ e. cc;
  }
  turned_by Greater look rest row is rising reached below n =
      let less : key_cmp row.0 look.key ≡ Less = key_turned look.key row.0 Greater is in
      let above : AreAbove row.0 (look ∷ rest) = (less, above_lesser row.0 look.key rest less rising.0) in
      record {
        reached = n.reached;
        below = n.below;
        found = ap found_in (look_none row.0 (look ∷ rest) above);
        current = n.written;
        no_look = λ key lesser. look_none key (look ∷ rest) (above_lesser key row.0 (look ∷ rest) lesser above);
        no_row = n.least;
        left_rising = rising;
        left_reached = above_reached row.0 (look ∷ rest) above;
        left_below = below;
        same_looks = λ key lesser. refl;
        kept = λ e. cc;
      }

  turned_look : (look : Look) (rest : List Look) → AreRisingLooks (look ∷ rest) → reaches from strict look.key ≡ true → AllByRecursion (λ l. is_below_end high l.key ≡ true) (look ∷ rest) → NextRow rows table high from strict None
      → IsTurned (look ∷ rest) None (record { key = look.key; found = found_by look; current = None; left = rest })
  unfolding IsStrictlySortedBy
  turned_look look rest rising reached below n = record {
    reached = reached;
    below = below.0;
    found = ap found_in (look_here look rest);
    current = n look.key reached below.0;
    no_look = λ key less. look_none key (look ∷ rest) (less, above_lesser key look.key rest less rising.0);
    no_row = λ key at_key less. n key at_key (below_end_lesser high key look.key less below.0);
    left_rising = rising.1;
    left_reached = above_reached look.key rest rising.0;
    left_below = below.1;
    same_looks = look_past look rest;
    kept = λ _ key at_key under. n key (reaches_past from strict look.key key (is_less (key_cmp look.key key) at_key) reached) under;
  }

  turned_row : (row : List ℕ × ℕ) → IsNextRow rows table high from strict row → IsTurned [] (Some row) (record { key = row.0; found = None; current = Some row.1; left = [] })
  unfolding IsStrictlySortedBy
  turned_row row n = record {
    reached = n.reached;
    below = n.below;
    found = refl;
    current = n.written;
    no_look = λ key less. refl;
    no_row = n.least;
    left_rising = tt;
    left_reached = tt;
    left_below = tt;
    same_looks = λ key less. refl;
    kept = λ e. cc;
  }

  pub turned : (left : List Look) (next : Option (List ℕ × ℕ)) (t : Turning) → AreRisingLooks left → AllByRecursion (λ look. reaches from strict look.key ≡ true) left → AllByRecursion (λ look. is_below_end high look.key ≡ true) left
      → NextRow rows table high from strict next → turn_of left next ≡ Some t → IsTurned left next t
  turned [] None t rising reached below n e = cc
  turned [] (Some row) t rising reached below n e = let same : record { key = row.0; found = None; current = Some row.1; left = [] } ≡ t = cc in subst (IsTurned [] (Some row)) same (turned_row row n)
  turned (look ∷ rest) None t rising reached below n e =
      let same : record { key = look.key; found = found_by look; current = None; left = rest } ≡ t = cc in subst (IsTurned (look ∷ rest) None) same (turned_look look rest rising reached.0 below n)
  turned (look ∷ rest) (Some row) t rising reached below n e =
      let same : turn_by (key_cmp look.key row.0) look rest row ≡ t = cc in
      subst (IsTurned (look ∷ rest) (Some row)) same (turned_by (key_cmp look.key row.0) look rest row refl rising reached.0 below n)

module _ (rows : List StoredRow) (table : ℕ) (low high : List ℕ) (looks : List Look) (own : List (List ℕ)) where
  abbrev reach : Reach
  reach = Range low high looks own

  in_parts : (a b : Bool) → (a && b) ≡ true → (a ≡ true) × (b ≡ true)
  in_parts a b e = and_parts a b e

  looks_reached : (ls : List Look) → AllByRecursion (λ look. in_range low high look.key ≡ true) ls → AllByRecursion (λ look. reaches low false look.key ≡ true) ls × AllByRecursion (λ look. is_below_end high look.key ≡ true) ls
  looks_reached [] all = (tt, tt)
  looks_reached (look ∷ rest) all =
      let both = in_parts (is_le (key_cmp low look.key)) (is_below_end high look.key) all.0 in
      let more = looks_reached rest all.1 in
      ((both.0, more.0), (both.1, more.1))

  asked_low : (key : List ℕ) → asks reach key ≡ true → (is_le (key_cmp low key) ≡ true) × (is_below_end high key ≡ true) × (is_one_of own key ≡ false)
  asked_low key e =
      let both = in_parts (in_range low high key) (not (is_one_of own key)) e in
      let ends = in_parts (is_le (key_cmp low key)) (is_below_end high key) both.0 in
      (ends.0, ends.1, by_test (is_one_of own key) both.1) where
        by_test : (b : Bool) → not b ≡ true → b ≡ false
        by_test true e = cc
        by_test false e = refl

  -- the walk before its first key_turned
  pub walk_start : (next : Option (List ℕ × ℕ)) → NextRow rows table high low false next → IsOrdered reach → IsWalk rows table low high looks own looks next
  walk_start next n ordered =
      let within = looks_reached looks ordered.1 in
      record {
        from = low;
        strict = false;
        settled = λ key short asked. absurd (both_ways (is_le (key_cmp low key)) short (asked_low key asked).0);
        above_low = λ key reached. reached;
        same_looks = λ key reached. refl;
        left_rising = ordered.0;
        left_reached = within.0;
        left_below = within.1;
        next_row = n;
      }

  module _ (left : List Look) (next : Option (List ℕ × ℕ)) (w : IsWalk rows table low high looks own left next) where
    -- with nothing left, no key has another writer
    pub walk_end : turn_of left next ≡ None → Tells rows table reach None
    walk_end e = ended left next w e where
      ended : (left : List Look) (next : Option (List ℕ × ℕ)) → IsWalk rows table low high looks own left next → turn_of left next ≡ None → (key : List ℕ) → IsSame rows table reach key
      ended [] (Some row) w e key = cc
      ended (look ∷ rest) None w e key = cc
      ended (look ∷ rest) (Some row) w e key = cc
      ended [] None w e key = by_test (reaches w.from w.strict key) refl where
        by_test : (b : Bool) → reaches w.from w.strict key ≡ b → IsSame rows table reach key
        by_test false is = w.settled key is
        by_test true is = λ asked. ap found_in (sym (w.same_looks key is)) ∙ sym (w.next_row key is (asked_low key asked).1)

    module _ (t : Turning) (is_turn : turn_of left next ≡ Some t) where
      abbrev taken : IsTurned rows table high w.from w.strict left next t
      taken = turned rows table high w.from w.strict left next t w.left_rising w.left_reached w.left_below w.next_row is_turn

      found_is : found_in (look_of looks t.key) ≡ t.found
      found_is = ap found_in (sym (w.same_looks t.key taken.reached)) ∙ taken.found

      -- no lesser key has another writer
      before : (key : List ℕ) → key_cmp key t.key ≡ Less → IsSame rows table reach key
      before key less = by_test (reaches w.from w.strict key) refl where
        by_test : (b : Bool) → reaches w.from w.strict key ≡ b → IsSame rows table reach key
        by_test false is = w.settled key is
        by_test true is = λ asked. ap found_in (sym (w.same_looks key is) ∙ taken.no_look key less) ∙ sym (taken.no_row key is less)

      -- the key_turned's key differs: it is the least that does
      pub walk_differs : t.found ≢ t.current → is_one_of own t.key ≡ false → IsLeastDifference rows table reach (record { key = t.key; found = t.found; current = t.current })
      walk_differs differ foreign = record {
        asked = rw (w.above_low t.key taken.reached, taken.below, foreign) refl;
        found = found_is;
        current = taken.current;
        differ = differ;
        least = before;
      }

      -- a key_turned more
      pub walk_more : (t.found ≡ t.current) ⊎ (is_one_of own t.key ≡ true) → (more : Option (List ℕ × ℕ)) → NextRow rows table high t.key true more → IsWalk rows table low high looks own t.left more
      walk_more same more n = record {
        from = t.key;
        strict = true;
        settled = λ key short. by_place key (not_past t.key key short);
        above_low = λ key reached. w.above_low key (reaches_past w.from w.strict t.key key (is_less (key_cmp t.key key) reached) taken.reached);
        same_looks = λ key reached. taken.same_looks key (is_less (key_cmp t.key key) reached) ∙ w.same_looks key (reaches_past w.from w.strict t.key key (is_less (key_cmp t.key key) reached) taken.reached);
        left_rising = taken.left_rising;
        left_reached = taken.left_reached;
        left_below = taken.left_below;
        next_row = n;
      } where
        here : (t.found ≡ t.current) ⊎ (is_one_of own t.key ≡ true) → IsSame rows table reach t.key
        here (inl e) asked = found_is ∙ e ∙ sym taken.current
        here (inr e) asked = absurd (both_ways (is_one_of own t.key) (asked_low t.key asked).2 e)

        by_place : (key : List ℕ) → (key_cmp key t.key ≡ Less) ⊎ (key ≡ t.key) → IsSame rows table reach key
        by_place key (inl less) = before key less
        by_place key (inr e) = subst (IsSame rows table reach) (sym e) (here same)

      -- where the key_turned's key has no row, the next row is the one that was
      pub row_kept : t.current ≡ None → NextRow rows table high t.key true next
      row_kept none = taken.kept none
