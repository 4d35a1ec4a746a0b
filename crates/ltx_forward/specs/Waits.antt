-- The tables that a batch looked into and wrote, and whom it waits for by them.
use Rattle.std.specs.Prelude.{◌≡◌, ℕ, ◌<◌, Bool, true, nat_lt, ◌==◌, ◌&&◌, List}
use Rattle.std.specs.List.{list_any, AllByRecursion}
use Rattle.ltx_model.specs.declared.looked.Noted.{Noted}
use Rattle.ltx_model.specs.declared.writes.Write.{Write}
use Rattle.ltx_model.specs.Limits.{table_count}
use Rattle.ltx_model.specs.NoteLists.{looks_inside, looks_into_table}
use Rattle.ltx_model.specs.Tables.{has_table}
use Rattle.ltx_forward.specs.declared.decide.Live.{Live}
use Rattle.ltx_forward.specs.Lates.{stands_from}

-- The set has the tables of the items that pass a test, which are tables that there are.
pub record AreTablesBy {A : Type 0} (test : A → Bool) (table : A → ℕ) (items : List A) (set : ℕ) : Type 0 where
  pub within : AllByRecursion (λ x. test x ≡ true → table x < table_count) items
  pub members : (t : ℕ) → t < table_count → has_table set t ≡ list_any (λ x. test x && (table x == t)) items

-- the set has the tables of the writes
abbrev pub AreTablesOf : List Write → ℕ → Type 0
AreTablesOf writes set = AreTablesBy (λ w. true) (λ w. w.table) writes set

-- the set has the tables into which the operations looked
abbrev pub AreTablesInto : List Noted → ℕ → Type 0
AreTablesInto notes set = (t : ℕ) → t < table_count → has_table set t ≡ list_any (looks_into_table t) notes

-- one of the operations looked into a table of the set
abbrev pub look_into_some : List Noted → ℕ → Bool
look_into_some notes set = list_any (λ note. looks_inside note.reach && has_table set note.table) notes

-- one of the writes is of a table of the set
abbrev pub write_some : List Write → ℕ → Bool
write_some writes set = list_any (λ w. has_table set w.table) writes

-- the live batch is overtaken by one with this number and these notes
abbrev pub is_overtaken : ℕ → List Noted → Live → Bool
is_overtaken number notes live = nat_lt live.tx number && look_into_some notes live.writes

-- the live batch has a smaller number, and may read what these writes write
abbrev pub may_read_some : ℕ → List Write → Live → Bool
may_read_some number writes live = nat_lt live.tx number && write_some writes live.reads

-- the live batch may read it, and is p or stands after p
abbrev pub may_read_from : List ℕ → ℕ → ℕ → List Write → Live → Bool
may_read_from list p number writes live = may_read_some number writes live && stands_from list p live.tx
