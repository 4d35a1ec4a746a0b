-- The set of the tables of some items, one item after another, and what it has in common with another set.
use Rattle.std.proofs.Common.{◌≡◌, ◌↔◌, IsTrue, ℕ, zero, suc, ◌+◌, ◌^◌, ◌<◌, nat_lt, Bool, true, false, ◌&&◌, ◌||◌, ◌==◌, List, [], ◌∷◌, ◌++◌, take, length, get_or, refl, sym, ap, ◌∙◌, subst, arith, add-one}
use Rattle.std.specs.List.{list_any}
use Rattle.std.proofs.lemmas.Bool.{and_parts, eqb-true, eq-eqb, lt-ltb, ltb-true}
use Rattle.ltx_model.specs.Limits.{table_count}
use Rattle.ltx_model.specs.Tables.{has_table, CommonTable, HasNoTable}
use Rattle.ltx_lemmas.proofs.Lists.{any_append, any_item, any_contains, all_push, all_contains}
use Rattle.ltx_model.specs.declared.looked.Noted.{Noted}
use Rattle.ltx_model.specs.NoteLists.{looks_inside, looks_into_table}
use Rattle.ltx_forward.specs.Waits.{AreTablesBy, AreTablesInto, look_into_some}
use Rattle.ltx_forward.proofs.Holders.{table_within}

take_one_more : {A : Type 0} (xs : List A) (i : ℕ) (x : A) → i < length xs → x ≡ get_or xs i x → take (suc i) xs ≡ take i xs ++ x ∷ []
take_one_more [] i x within is = absurd (let no : ⊥ = omega (arith, within) in no)
take_one_more (y ∷ ys) zero x within is = ap (λ z. z ∷ []) (sym is)
take_one_more (y ∷ ys) (suc i) x within is = ap (λ l. y ∷ l) (take_one_more ys i x (omega (arith, within)) is)

or_nothing : (b : Bool) → (b || false) ≡ b
or_nothing true = refl
or_nothing false = refl

-- two tests that imply each other are one
pub same_tests : (a b : Bool) → (a ≡ true → b ≡ true) → (b ≡ true → a ≡ true) → a ≡ b
same_tests true b f g = sym (f refl)
same_tests false true f g = g refl
same_tests false false f g = refl

module _ {A : Type 0} (test : A → Bool) (table : A → ℕ) where
  pub tables_none : (set : ℕ) → HasNoTable set → AreTablesBy test table [] set
  tables_none set none = record { within = tt; members = none }

  -- one item more that passes
  tables_with : (xs : List A) (x : A) (old new : ℕ) → AreTablesBy test table xs old → test x ≡ true → ((t : ℕ) → t < table_count → has_table new t ≡ (has_table old t || (t == table x))) → table x < table_count → AreTablesBy test table (xs ++ x ∷ []) new
  tables_with xs x old new are passes members range = record {
    within = all_push (λ (y : A). test y ≡ true → table y < table_count) xs x are.within (λ e. range);
    members = λ t less.
        members t less ∙ ap (λ b. b || (t == table x)) (are.members t less)
        ∙ sym (any_append (λ (y : A). test y && (table y == t)) xs (x ∷ []) ∙ ap (λ b. list_any (λ (y : A). test y && (table y == t)) xs || b) (or_nothing (test x && (table x == t)) ∙ ap (λ b. b && (table x == t)) passes ∙ turned (table x) t));
  } where
    turned : (a b : ℕ) → (a == b) ≡ (b == a)
    turned a b = same_tests (a == b) (b == a) (λ e. eq-eqb b a (sym (eqb-true a b e))) (λ e. eq-eqb a b (sym (eqb-true b a e)))

  pub tables_more : (xs : List A) (k : ℕ) (x : A) (old new : ℕ) → k < length xs → x ≡ get_or xs k x → AreTablesBy test table (take k xs) old → test x ≡ true
      → ((t : ℕ) → t < table_count → has_table new t ≡ (has_table old t || (t == table x))) → table x < table_count → AreTablesBy test table (take (k + 1) xs) new
  tables_more xs k x old new within is are passes members range = rw (add-one k) (subst (λ ys. AreTablesBy test table ys new) (sym (take_one_more xs k x within is)) (tables_with (take k xs) x old new are passes members range))

  -- a set has a table in common with it exactly where it has the table of an item that passes
  pub common_any : (xs : List A) (set other : ℕ) → AreTablesBy test table xs set → (b : Bool) → IsTrue b ↔ CommonTable other set → b ≡ list_any (λ x. test x && has_table other (table x)) xs
  common_any xs set other are b common = same_tests b (list_any (λ x. test x && has_table other (table x)) xs) there back where
    there : b ≡ true → list_any (λ x. test x && has_table other (table x)) xs ≡ true
    there e =
        let c : CommonTable other set = common.0 e in
        let found = any_item (λ (x : A). test x && (table x == c.table)) xs (sym (are.members c.table c.within) ∙ c.second) in
        let parts = and_parts (test found.0) (table found.0 == c.table) found.2 in
        let same : table found.0 ≡ c.table = eqb-true (table found.0) c.table parts.1 in
        any_contains (λ (x : A). test x && has_table other (table x)) xs found.0 found.1 (rw (parts.0, same, c.first) refl)

    back : list_any (λ x. test x && has_table other (table x)) xs ≡ true → b ≡ true
    back e =
        let found = any_item (λ (x : A). test x && has_table other (table x)) xs e in
        let parts = and_parts (test found.0) (has_table other (table found.0)) found.2 in
        let less : table found.0 < table_count = all_contains (λ (x : A). test x ≡ true → table x < table_count) xs found.0 are.within found.1 parts.0 in
        let own : (table found.0 == table found.0) ≡ true = eq-eqb (table found.0) (table found.0) refl in
        let member : has_table set (table found.0) ≡ true = are.members (table found.0) less ∙ any_contains (λ (x : A). test x && (table x == table found.0)) xs found.0 found.1 (rw (parts.0, own) refl) in
        common.1 (record { table = table found.0; within = less; first = parts.1; second = member })

-- whether a live batch has a smaller number, and a table of its set is one into which the notes look
pub overtaken_told : (tx own set looked : ℕ) (notes : List Noted) → AreTablesInto notes looked → set < 2 ^ 64 → (b : Bool) → IsTrue b ↔ ((tx < own) × CommonTable set looked) → b ≡ (nat_lt tx own && look_into_some notes set)
overtaken_told tx own set looked notes are fits b told = same_tests b (nat_lt tx own && look_into_some notes set) there back where
  there : b ≡ true → (nat_lt tx own && look_into_some notes set) ≡ true
  there e =
      let both = told.0 e in
      let c : CommonTable set looked = both.1 in
      let found = any_item (looks_into_table c.table) notes (sym (are c.table c.within) ∙ c.second) in
      let parts = and_parts (found.0.table == c.table) (looks_inside found.0.reach) found.2 in
      let has : has_table set found.0.table ≡ true = ap (has_table set) (eqb-true found.0.table c.table parts.0) ∙ c.first in
      let some : look_into_some notes set ≡ true = any_contains (λ (note : Noted). looks_inside note.reach && has_table set note.table) notes found.0 found.1 (rw (parts.1, has) refl) in
      rw (lt-ltb tx own both.0, some) refl

  back : (nat_lt tx own && look_into_some notes set) ≡ true → b ≡ true
  back e =
      let parts = and_parts (nat_lt tx own) (look_into_some notes set) e in
      let found = any_item (λ (note : Noted). looks_inside note.reach && has_table set note.table) notes parts.1 in
      let both = and_parts (looks_inside found.0.reach) (has_table set found.0.table) found.2 in
      let within : found.0.table < table_count = table_within set found.0.table fits both.1 in
      let same : (found.0.table == found.0.table) ≡ true = eq-eqb found.0.table found.0.table refl in
      let member : has_table looked found.0.table ≡ true = are found.0.table within ∙ any_contains (looks_into_table found.0.table) notes found.0 found.1 (rw (same, both.0) refl) in
      told.1 (ltb-true tx own parts.0, record { table = found.0.table; within = within; first = both.1; second = member })
