-- A scan's rows and looks, step by step.
use Rattle.std.proofs.Common.{◌≡◌, ℕ, Bool, true, false, cond, ◌||◌, List, [], ◌∷◌, ◌++◌, refl, sym, ap, ◌∙◌, inl, inr, append-nil}
use Rattle.std.specs.List.{AllByRecursion}
use Rattle.std.specs.List.Sorted.{IsStrictlySortedBy}
use Rattle.std.specs.Map.{keys_of}
use Rattle.std.specs.declared.cmp.Ordering.{Ordering}
use Rattle.std.specs.declared.cmp.Ordering.TheVariants.{Less, Equal, Greater}
use Rattle.std.specs.Ordering.{is_lt, is_le, ordering_reverse}
use Rattle.std.specs.Cmp.Lexicographic.{nat_list_cmp_total}
use Rattle.std.proofs.lemmas.Bool.{cases_Bool}
use Rattle.std.proofs.lemmas.List.{append_assoc}
use Rattle.std.proofs.lemmas.List.Elements.{filter_map-append}
use Rattle.ltx_model.specs.declared.rows.Row.{Row}
use Rattle.ltx_model.specs.declared.writes.Look.{Look}
use Rattle.ltx_model.specs.Keys.{key_cmp, is_empty}
use Rattle.ltx_index.specs.Pairs.{IsInOrder, pairs_from}
use Rattle.ltx_index.proofs.Lookups.{in_order-pairs_from}
use Rattle.ltx_chain.specs.Versions.{Versions, visible}
use Rattle.ltx_store.specs.Scans.{between, row_of_seen, look_of_version, rows_seen, looks_seen}
use Rattle.ltx_store.specs.Walks.{under, IsScanned}

abbrev Pairs : Type 0
Pairs = List (List ℕ × Versions)

-- keys above one that is not below the upper end are not below it either
past_end : (o : Ordering) (key high : List ℕ) → key_cmp key high ≡ o → is_lt o ≡ false → key_cmp high key ≡ ordering_reverse o
past_end o key high is past = nat_list_cmp_total.antisymm high key ∙ ap ordering_reverse is

above_end : (key next high : List ℕ) (o : Ordering) → key_cmp key high ≡ o → is_lt o ≡ false → key_cmp key next ≡ Less → is_lt (key_cmp next high) ≡ false
above_end key next high Less is past less = cc
above_end key next high Equal is past less =
    let same : key_cmp key next ≡ key_cmp high next = nat_list_cmp_total.congr key high next is in
    rw (nat_list_cmp_total.antisymm next high, sym same ∙ less) refl
above_end key next high Greater is past less =
    let less_end : key_cmp high next ≡ Less = nat_list_cmp_total.trans high key next (past_end Greater key high is past) less in
    rw (nat_list_cmp_total.antisymm next high, less_end) refl

module _ (high : List ℕ) where
  ends_apart : (a b : Bool) → (a || b) ≡ false → (a ≡ false) × (b ≡ false)
  ends_apart true b is = cc
  ends_apart false b is = (refl, is)

  none_past : (key : List ℕ) (pairs : Pairs) → is_empty high ≡ false → is_lt (key_cmp key high) ≡ false → AllByRecursion (λ k. key_cmp key k ≡ Less) (keys_of pairs) → under high pairs ≡ []
  none_past key [] some past all = refl
  none_past key (q ∷ qs) some past all = rw (some, above_end key q.0 high (key_cmp key high) refl past all.0) (none_past key qs some past all.1)

  -- a pair that is below the upper end, and one that is not
  one_under : (p : List ℕ × Versions) (rest : Pairs) → (is_empty high || is_lt (key_cmp p.0 high)) ≡ true → under high (p ∷ rest) ≡ (p ∷ []) ++ under high rest
  one_under p rest below = rw below refl

  none_under : (p : List ℕ × Versions) (rest : Pairs) → IsInOrder (p ∷ rest) → (is_empty high || is_lt (key_cmp p.0 high)) ≡ false → under high (p ∷ rest) ≡ []
  unfolding IsStrictlySortedBy
  none_under p rest order past =
      let apart = ends_apart (is_empty high) (is_lt (key_cmp p.0 high)) past in
      rw past (none_past p.0 rest apart.0 apart.1 order.0)

  -- the pairs of a range are those from its lower end on that are below its upper end
  range_is : (low : List ℕ) (pairs : Pairs) → under high (pairs_from pairs low false) ≡ between low high pairs
  range_is low [] = refl
  range_is low (q ∷ qs) = elim (cases_Bool (is_le (key_cmp low q.0))) [
    | inl at ↦ rw at (ap (λ l. cond (is_empty high || is_lt (key_cmp q.0 high)) (q ∷ l) l) (range_is low qs))
    | inr short ↦ rw short (range_is low qs)
  ]

  in_order_rest : (p : List ℕ × Versions) (rest : Pairs) → IsInOrder (p ∷ rest) → IsInOrder rest
  unfolding IsStrictlySortedBy
  in_order_rest p rest order = order.1

module _ (low high : List ℕ) (mark : ℕ) (table : Pairs) where
  pub scan_start : IsInOrder table → IsScanned low high mark table (pairs_from table low false) [] []
  scan_start order = record {
    order = in_order-pairs_from low false table order;
    rows_are = ap (rows_seen mark) (range_is high low table);
    looks_are = ap (looks_seen mark) (range_is high low table);
  }

  module _ (p : List ℕ × Versions) (rest : Pairs) (rows : List Row) (looks : List Look) (s : IsScanned low high mark table (p ∷ rest) rows looks) where
    pub scan_more : (more_rows : List Row) (more_looks : List Look) → (is_empty high || is_lt (key_cmp p.0 high)) ≡ true
        → more_rows ≡ rows ++ rows_seen mark (p ∷ []) → more_looks ≡ looks ++ looks_seen mark (p ∷ []) → IsScanned low high mark table rest more_rows more_looks
    scan_more more_rows more_looks below rows_is looks_is = record {
      order = in_order_rest high p rest s.order;
      rows_are = ap (λ l. l ++ rows_seen mark (under high rest)) rows_is ∙ append_assoc rows (rows_seen mark (p ∷ [])) (rows_seen mark (under high rest))
          ∙ ap (λ l. rows ++ l) (sym (filter_map-append (λ (q : List ℕ × Versions). row_of_seen q.0 (visible mark q.1.items)) (p ∷ []) (under high rest)) ∙ ap (rows_seen mark) (sym (one_under high p rest below))) ∙ s.rows_are;
      looks_are = ap (λ l. l ++ looks_seen mark (under high rest)) looks_is ∙ append_assoc looks (looks_seen mark (p ∷ [])) (looks_seen mark (under high rest))
          ∙ ap (λ l. looks ++ l) (sym (filter_map-append (λ (q : List ℕ × Versions). look_of_version q.0 (visible mark q.1.items)) (p ∷ []) (under high rest)) ∙ ap (looks_seen mark) (sym (one_under high p rest below))) ∙ s.looks_are;
    }

    -- the whole range, where the walk has left it
    pub scan_past : (is_empty high || is_lt (key_cmp p.0 high)) ≡ false → (rows ≡ rows_seen mark (between low high table)) × (looks ≡ looks_seen mark (between low high table))
    scan_past past =
        let none = none_under high p rest s.order past in
        (sym (append-nil rows) ∙ ap (λ l. rows ++ rows_seen mark l) (sym none) ∙ s.rows_are, sym (append-nil looks) ∙ ap (λ l. looks ++ looks_seen mark l) (sym none) ∙ s.looks_are)

  -- and where no pair is left
  pub scan_all : (rows : List Row) (looks : List Look) → IsScanned low high mark table [] rows looks → (rows ≡ rows_seen mark (between low high table)) × (looks ≡ looks_seen mark (between low high table))
  scan_all rows looks s = (sym (append-nil rows) ∙ s.rows_are, sym (append-nil looks) ∙ s.looks_are)
