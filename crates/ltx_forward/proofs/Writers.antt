-- The earliest of those who wrote a key, and of those who wrote a key that a note looks up.
use Rattle.std.proofs.Common.{◌≡◌, ℕ, ◌≤◌, Bool, true, nat_lt, ◌&&◌, List, length, take, map, filter, Option, refl, sym, ◌∙◌, subst, Contains, lt-ltb, ltb-true}
use Rattle.std.proofs.lemmas.List.{take_all}
use Rattle.std.proofs.lemmas.Bool.{and_parts}
use Rattle.ltx_model.specs.Keys.{Cell}
use Rattle.ltx_model.specs.Listings.{is_member}
use Rattle.ltx_model.specs.Records.{Recorded, Records, has_written}
use Rattle.ltx_lemmas.proofs.Lists.{map_item, map_here, filter_item, filter_here}
use Rattle.ltx_forward.specs.Earliest.{Improves, Ahead, IsAfter, IsWriter, AreMembers}
use Rattle.ltx_forward.proofs.Improving.{Given, improves_same}

-- the test of a kept batch that wrote the key after so many commits
abbrev pub wrote_after : ℕ → Cell → Recorded → Bool
wrote_after mark cell r = r.batch && (nat_lt mark r.mark && has_written cell r)

-- n is this number, and it stands before the batch and after where the search begins
pub record IsPassing (list : List ℕ) (own : ℕ) (after : Option ℕ) (tx n : ℕ) : Type 0 where
  pub same : tx ≡ n
  pub ahead : Ahead list n own
  pub later : IsAfter list after n

-- whoever wrote the key is a member
pub writer_member : (records : Records) (list : List ℕ) (test : Recorded → Bool) (items : List ℕ) → items ≡ map (λ r. r.number) (filter test records.kept) → AreMembers records list
    → (n : ℕ) → Contains items n → is_member list n ≡ true
writer_member records list test items are members n here =
    let found = map_item (λ (r : Recorded). r.number) (filter test records.kept) n (subst (λ l. Contains l n) are here) in
    let kept = filter_item test records.kept found.0 found.1 in
    subst (λ m. is_member list m ≡ true) found.2 (members found.0 kept.0)

-- one who stands before the batch is looked at
pub writer_offered : (list : List ℕ) (own : ℕ) (after : Option ℕ) (x : ℕ) (best found : Option ℕ) → Ahead list x own → Improves list (λ n. (n ≡ x) × IsAfter list after n) best found
    → Improves list (IsPassing list own after x) best found
writer_offered list own after x best found ahead one = improves_same list (λ n. (n ≡ x) × IsAfter list after n) (IsPassing list own after x) best found one
    (λ n p. (sym p.same, p.later)) (λ n h. record { same = sym h.0; ahead = subst (λ m. Ahead list m own) (sym h.0) ahead; later = h.1 })

-- one who does not is passed over
pub writer_skipped : (list : List ℕ) (own : ℕ) (after : Option ℕ) (x : ℕ) → (Ahead list x own → ⊥) → (n : ℕ) → IsPassing list own after x n → ⊥
writer_skipped list own after x behind n p = behind (subst (λ m. Ahead list m own) (sym p.same) p.ahead)

-- all that are told were looked at
pub writers_all : (records : Records) (list : List ℕ) (own mark : ℕ) (after : Option ℕ) (cell : Cell) (items : List ℕ) (k : ℕ) (best found : Option ℕ)
    → items ≡ map (λ r. r.number) (filter (wrote_after mark cell) records.kept) → length items ≤ k → Improves list (Given list (IsPassing list own after) items k) best found
    → Improves list (λ n. IsWriter records list own mark cell n × IsAfter list after n) best found
writers_all records list own mark after cell items k best found are all one = improves_same list (Given list (IsPassing list own after) items k) (λ n. IsWriter records list own mark cell n × IsAfter list after n) best found one to from where
  whole : take k items ≡ items
  whole = take_all k items all

  to : (n : ℕ) → IsWriter records list own mark cell n × IsAfter list after n → Given list (IsPassing list own after) items k n
  to n h =
      let r : Recorded = h.0.entry in
      let passes : wrote_after mark cell r ≡ true = rw (h.0.batch, lt-ltb mark r.mark h.0.later) h.0.written in
      let here : Contains (map (λ (q : Recorded). q.number) (filter (wrote_after mark cell) records.kept)) r.number = map_here (λ (q : Recorded). q.number) (filter (wrote_after mark cell) records.kept) r (filter_here (wrote_after mark cell) records.kept r h.0.kept passes) in
      record { item = n; here = subst (λ l. Contains l n) (sym (whole ∙ are)) (subst (λ m. Contains (map (λ (q : Recorded). q.number) (filter (wrote_after mark cell) records.kept)) m) h.0.number here); gives = record { same = refl; ahead = h.0.ahead; later = h.1 } }

  from : (n : ℕ) → Given list (IsPassing list own after) items k n → IsWriter records list own mark cell n × IsAfter list after n
  from n g =
      let found = map_item (λ (r : Recorded). r.number) (filter (wrote_after mark cell) records.kept) g.item (subst (λ l. Contains l g.item) (whole ∙ are) g.here) in
      let kept = filter_item (wrote_after mark cell) records.kept found.0 found.1 in
      let parts = and_parts found.0.batch (nat_lt mark found.0.mark && has_written cell found.0) kept.1 in
      let rest = and_parts (nat_lt mark found.0.mark) (has_written cell found.0) parts.1 in
      (record { entry = found.0; kept = kept.0; number = found.2 ∙ g.gives.same; batch = parts.0; later = ltb-true mark found.0.mark rest.0; written = rest.1; ahead = g.gives.ahead }, g.gives.later)
