-- The earliest of the live batches with a smaller number that preserve a table.
use Rattle.std.proofs.Common.{◌≡◌, ◌⊎◌, inl, inr, ℕ, ◌<◌, ◌≤◌, ◌^◌, Bool, true, false, nat_lt, ltb-true, ltb-false, List, length, take, Option, Some, None, refl, sym, ◌∙◌, subst, arith, Contains}
use Rattle.std.proofs.lemmas.List.{take_all}
use Rattle.std.proofs.lemmas.Nat.Bits.{bit_at_above}
use Rattle.std.specs.List.{list_any, AllByRecursion}
use Rattle.ltx_model.specs.NoteLists.{looks_into_table}
use Rattle.ltx_model.specs.Records.{Records}
use Rattle.ltx_model.specs.Tables.{has_table, CommonTable}
use Rattle.ltx_model.proofs.TableSets.{bit-by-has}
use Rattle.ltx_lemmas.proofs.Lists.{all_contains, some_same, none_some}
use Rattle.ltx_long.specs.Longs.{Long}
use Rattle.ltx_forward.specs.declared.decide.Live.{Live}
use Rattle.ltx_forward.specs.Earliest.{Improves, IsAfter, IsHolder, IsElder, IsWriterBy, IsOvertaken}
use Rattle.ltx_forward.proofs.Improving.{Given, improves_none, improves_both, improves_same}

-- the live batch is such a one, and n is its number, after where the search begins
pub record IsHolding (list : List ℕ) (own looked : ℕ) (after : Option ℕ) (live : Live) (n : ℕ) : Type 0 where
  pub same : live.tx ≡ n
  pub holds : (live.tx < own) × CommonTable live.writes looked
  pub later : IsAfter list after n

pub holder_offered : (list : List ℕ) (own looked : ℕ) (after : Option ℕ) (live : Live) (best found : Option ℕ) → (live.tx < own) × CommonTable live.writes looked → Improves list (λ n. (n ≡ live.tx) × IsAfter list after n) best found
    → Improves list (IsHolding list own looked after live) best found
holder_offered list own looked after live best found holds one = improves_same list (λ n. (n ≡ live.tx) × IsAfter list after n) (IsHolding list own looked after live) best found one
    (λ n h. (sym h.same, h.later)) (λ n h. record { same = sym h.0; holds = holds; later = h.1 })

-- a set of tables has none but those that there are
pub table_within : (set table : ℕ) → set < 2 ^ 64 → has_table set table ≡ true → table < 64
table_within set table fits has = by_test (nat_lt table 64) refl where
  by_test : (b : Bool) → nat_lt table 64 ≡ b → table < 64
  by_test true e = ltb-true table 64 e
  by_test false e =
      let above : 64 ≤ table = ltb-false table 64 e in
      let none = bit_at_above set 64 table fits above in
      let one = bit-by-has set table has in
      absurd (omega (arith, none, one))

-- the elders that hold a table into which the batch looks are those that hold a table of the set
pub elder_holds : (tx : Long) (lives : List Live) (looked n : ℕ) → ((t : ℕ) → t < 64 → has_table looked t ≡ list_any (looks_into_table t) tx.list.notes) → AllByRecursion (λ live. live.writes < 2 ^ 64) lives
    → IsElder tx lives n → IsHolder lives tx.tx looked n
elder_holds tx lives looked n is ranges e =
    let within = table_within e.live.writes e.table (all_contains (λ (live : Live). live.writes < 2 ^ 64) lives e.live ranges e.here) e.preserves in
    record { live = e.live; here = e.here; number = e.number; smaller = e.smaller; common = record { table = e.table; within = within; first = e.preserves; second = is e.table within ∙ e.looks } }

pub holder_elder : (tx : Long) (lives : List Live) (looked n : ℕ) → ((t : ℕ) → t < 64 → has_table looked t ≡ list_any (looks_into_table t) tx.list.notes) → IsHolder lives tx.tx looked n → IsElder tx lives n
holder_elder tx lives looked n is h =
    record { live = h.live; here = h.here; number = h.number; smaller = h.smaller; table = h.common.table; preserves = h.common.first; looks = sym (is h.common.table h.common.within) ∙ h.common.second }

-- the elders and then those who wrote a key that was looked up: all whom the batch overtakes
pub overtaken_all : (tx : Long) (lives : List Live) (records : Records) (list : List ℕ) (after : Option ℕ) (mark looked : ℕ) (elder found : Option ℕ) → tx.live ≡ Some mark
    → ((t : ℕ) → t < 64 → has_table looked t ≡ list_any (looks_into_table t) tx.list.notes) → AllByRecursion (λ live. live.writes < 2 ^ 64) lives
    → Improves list (λ n. IsHolder lives tx.tx looked n × IsAfter list after n) None elder → Improves list (λ n. IsWriterBy records list tx.tx mark tx.list.notes n × IsAfter list after n) elder found
    → Improves list (λ n. IsOvertaken tx lives records list n × IsAfter list after n) None found
overtaken_all tx lives records list after mark looked elder found live is ranges one two =
    improves_both list (λ n. IsHolder lives tx.tx looked n × IsAfter list after n) (λ n. IsWriterBy records list tx.tx mark tx.list.notes n × IsAfter list after n) (λ n. IsOvertaken tx lives records list n × IsAfter list after n) None elder found one two
    (λ n h. by_way n h.1 h.0.mark (some_same (sym h.0.live ∙ live)) h.0.by)
    (λ n h. (record { mark = mark; live = live; by = inl (holder_elder tx lives looked n is h.0) }, h.1))
    (λ n h. (record { mark = mark; live = live; by = inr h.0 }, h.1))
  where
    by_way : (n : ℕ) → IsAfter list after n → (m : ℕ) → m ≡ mark → IsElder tx lives n ⊎ IsWriterBy records list tx.tx m tx.list.notes n
        → (IsHolder lives tx.tx looked n × IsAfter list after n) ⊎ (IsWriterBy records list tx.tx mark tx.list.notes n × IsAfter list after n)
    by_way n later m same (inl e) = inl (elder_holds tx lives looked n is ranges e, later)
    by_way n later m same (inr w) = inr (subst (λ k. IsWriterBy records list tx.tx k tx.list.notes n) same w, later)

-- a batch that is not live overtakes nobody
pub nobody_overtaken : (tx : Long) (lives : List Live) (records : Records) (list : List ℕ) (after : Option ℕ) → tx.live ≡ None → Improves list (λ n. IsOvertaken tx lives records list n × IsAfter list after n) None None
nobody_overtaken tx lives records list after pending = improves_none list (λ n. IsOvertaken tx lives records list n × IsAfter list after n) None (λ n h. none_some (sym pending ∙ h.0.live))

-- all of them
pub holders_all : (list : List ℕ) (own looked : ℕ) (after : Option ℕ) (lives : List Live) (k : ℕ) (best found : Option ℕ) → length lives ≤ k → Improves list (Given list (IsHolding list own looked after) lives k) best found
    → Improves list (λ n. IsHolder lives own looked n × IsAfter list after n) best found
holders_all list own looked after lives k best found all one = improves_same list (Given list (IsHolding list own looked after) lives k) (λ n. IsHolder lives own looked n × IsAfter list after n) best found one
    (λ n h. record { item = h.0.live; here = subst (λ l. Contains l h.0.live) (sym whole) h.0.here; gives = record { same = h.0.number; holds = (h.0.smaller, h.0.common); later = h.1 } })
    (λ n g. (record { live = g.item; here = subst (λ l. Contains l g.item) whole g.here; number = g.gives.same; smaller = g.gives.holds.0; common = g.gives.holds.1 }, g.gives.later))
  where
    whole : take k lives ≡ lives
    whole = take_all k lives all
