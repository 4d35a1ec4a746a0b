-- What a batch that commits leaves alone: the tables of live batches that it does not overtake, and of elders that may still read; and what a short leaves alone.
use Rattle.std.proofs.Common.{◌≡◌, ℕ, ◌<◌, Bool, true, false, cond, ◌&&◌, ◌==◌, nat_lt, nat_le, List, [], ◌∷◌, Option, Some, None, option_map, refl, sym, ap, ◌∙◌, subst, eq-eqb, lt-ltb, Contains}
use Rattle.std.specs.List.{find, list_any, AllByRecursion}
use Rattle.ltx_model.specs.declared.commands.Op.{Op}
use Rattle.ltx_model.specs.declared.commands.Op.TheVariants.{Get, Scan, Put, Del}
use Rattle.ltx_model.specs.declared.writes.Write.{Write}
use Rattle.ltx_model.specs.Tables.{has_table}
use Rattle.ltx_model.specs.Lists.{Numbered, numbered}
use Rattle.ltx_model.specs.Keys.{Cell}
use Rattle.ltx_model.specs.Operations.{Transaction, operations, table_of, looks_up, looks_into, looks_into_table, writes_of}
use Rattle.ltx_model.specs.Agenda.{LiveSlot}
use Rattle.ltx_model.specs.States.{Declaration, IsLive, Active, transaction_of, State, LiveBatch, as_live, live_batches}
use Rattle.ltx_model.specs.Shorts.{holds, holder, Held, held_at, lesser, held_table}
use Rattle.ltx_model.specs.Batches.{batch_operations, preserves_what_looks, overtakes, is_from, may_still_read, elder_reader}
use Rattle.ltx_laws.specs.Guards.{LooksIntoNone, WritesNone}
use Rattle.ltx_lemmas.proofs.Lists.{any_item, any_contains, any_not, find_none, all_contains, given_here, none_some, true_false}
use Rattle.ltx_lemmas.proofs.Searches.{numbered_item, write_at}
use Rattle.ltx_laws.proofs.Transitions.{live_of}
use Rattle.ltx_laws.proofs.Pairs.{same_number}
use Rattle.ltx_laws.proofs.Places.{and_left, both}

-- a test that is not true is false
pub false_from : (b : Bool) → (b ≡ true → ⊥) → b ≡ false
false_from true f = absurd (f refl)
false_from false f = refl

-- an operation that looks into a table is in it
looks_into_touches : (table : ℕ) (earlier : List Op) (op : Op) → looks_into table earlier op ≡ true → table_of op ≡ table
looks_into_touches table earlier (Get t key) e = same_number t table (and_left (t == table) (looks_up (record { table = t; key = key }) earlier (Get t key)) e)
looks_into_touches table earlier (Scan t low high) e = same_number t table e
looks_into_touches table earlier (Put t key value) e = cc
looks_into_touches table earlier (Del t key) e = cc

-- operations that look into a table have one that is in it
pub looked_into : (ops : List Op) (table : ℕ) → looks_into_table ops table ≡ true → (op : Op) × Contains ops op × (table_of op ≡ table)
looked_into ops table e =
    let found = any_item (λ (o : Numbered Op). looks_into table o.earlier o.item) (numbered ops) e in
    (found.0.item, numbered_item ops found.0 found.1, looks_into_touches table found.0.earlier found.0.item found.2)

-- an open live batch is among the live ones
pub live_here : (s : State) (o : Active) (d : Declaration) (snapshot : List Transaction) → Contains s.active o → o.kind ≡ IsLive d snapshot → Contains (live_batches s) (live_of o d snapshot)
live_here s o d snapshot here kind = given_here (λ u. as_live u.kind (transaction_of u)) s.active o (live_of o d snapshot) here (ap (λ k. as_live k (transaction_of o)) kind)

-- the batch i does not overtake a live batch b with a smaller number: it looks into no table that b preserves
pub not_overtaken : (s : State) (i b : LiveBatch) → Contains (live_batches s) b → b.tx.number < i.tx.number → overtakes s i (LiveSlot b.tx.number) ≡ false → LooksIntoNone b.declared.writes i.tx
not_overtaken s i b live smaller e table preserved = false_from (looks_into_table (operations i.tx) table) looks where
  looks : looks_into_table (operations i.tx) table ≡ true → ⊥
  looks h =
      let found = looked_into (operations i.tx) table h in
      let op : Op = found.0 in
      let at : table_of op ≡ table = found.2 in
      let test : Op → Bool = λ op. has_table b.declared.writes (table_of op) && looks_into_table (batch_operations i) (table_of op) in
      let passes : test op ≡ true = both (has_table b.declared.writes (table_of op)) (looks_into_table (batch_operations i) (table_of op)) (ap (has_table b.declared.writes) at ∙ preserved) (ap (looks_into_table (operations i.tx)) at ∙ h) in
      let some : list_any test (batch_operations i) ≡ true = any_contains test (batch_operations i) op found.1 passes in
      let smaller_is : nat_lt b.tx.number i.tx.number ≡ true = lt-ltb b.tx.number i.tx.number smaller in
      let whole : preserves_what_looks i b ≡ true = both (nat_lt b.tx.number i.tx.number) (list_any test (batch_operations i)) smaller_is some in
      let fails : ((b.tx.number == b.tx.number) && preserves_what_looks i b) ≡ false = any_not (λ (c : LiveBatch). (c.tx.number == b.tx.number) && preserves_what_looks i c) (live_batches s) b e live in
      true_false (sym (both (b.tx.number == b.tx.number) (preserves_what_looks i b) (eq-eqb b.tx.number b.tx.number refl) whole) ∙ fails)

three : (a b c : Bool) → a ≡ true → b ≡ true → c ≡ true → (a && b && c) ≡ true
three a b c x y z = rw (x, y, z) refl

option_none : {A B : Type 0} (f : A → B) (o : Option A) → option_map f o ≡ None → o ≡ None
option_none f None e = refl
option_none f (Some x) e = absurd (none_some (sym e))

-- no elder from p on may still read what the batch i writes: it writes no table of the area of one
pub not_read : (s : State) (i : LiveBatch) (p : ℕ) (b : LiveBatch) → elder_reader s i p ≡ None → Contains (live_batches s) b → b.tx.number < i.tx.number → is_from s p b.tx.number ≡ true → WritesNone b.declared.reads i.tx
not_read s i p b none live smaller after key writes = false_from (has_table b.declared.reads key.table) reads where
  reads : has_table b.declared.reads key.table ≡ true → ⊥
  reads h =
      let found = write_at key (operations i.tx) writes in
      let w : Write = found.0 in
      let at : has_table b.declared.reads w.table ≡ true = ap (λ (c : Cell). has_table b.declared.reads c.table) found.2 ∙ h in
      let some : list_any (λ (v : Write). has_table b.declared.reads v.table) (writes_of (batch_operations i)) ≡ true = any_contains (λ (v : Write). has_table b.declared.reads v.table) (writes_of (batch_operations i)) w found.1 at in
      let smaller_is : nat_lt b.tx.number i.tx.number ≡ true = lt-ltb b.tx.number i.tx.number smaller in
      let whole : may_still_read s i p b ≡ true = three (nat_lt b.tx.number i.tx.number) (is_from s p b.tx.number) (list_any (λ (v : Write). has_table b.declared.reads v.table) (writes_of (batch_operations i))) smaller_is after some in
      let fails : may_still_read s i p b ≡ false = all_contains (λ (c : LiveBatch). may_still_read s i p c ≡ false) (live_batches s) b (find_none (may_still_read s i p) (live_batches s) (option_none (λ (c : LiveBatch). c.tx.number) (find (may_still_read s i p) (live_batches s)) none)) live in
      true_false (sym whole ∙ fails)

lesser_none : (a b : Option Held) → lesser a b ≡ None → (a ≡ None) × (b ≡ None)
lesser_none None b e = (refl, e)
lesser_none (Some h) None e = absurd (none_some (sym e))
lesser_none (Some h) (Some g) e = by_test (nat_le h.table g.table) e where
  by_test : (b : Bool) → cond b (Some h) (Some g) ≡ None → (◌≡◌ {A = Option Held} (Some h) None) × (◌≡◌ {A = Option Held} (Some g) None)
  by_test true e = absurd (none_some (sym e))
  by_test false e = absurd (none_some (sym e))

-- no table that these operations touch is held
pub none_held : (s : State) (ops : List Op) → held_table s ops ≡ None → (op : Op) → Contains ops op → holder s (table_of op) ≡ None
none_held s ops e op here = option_none (λ n. let h : Held = record { table = table_of op; holder = n } in h) (holder s (table_of op)) (all_contains (λ (o : Op). held_at s (table_of o) ≡ None) ops op (all ops e) here) where
  all : (ops : List Op) → held_table s ops ≡ None → AllByRecursion (λ (o : Op). held_at s (table_of o) ≡ None) ops
  all [] e = tt
  all (o ∷ os) e = let parts = lesser_none (held_at s (table_of o)) (held_table s os) e in (parts.0, all os parts.1)

-- a table that nobody holds is preserved by no live batch
pub not_holding : (s : State) (table : ℕ) (b : LiveBatch) → holder s table ≡ None → Contains (live_batches s) b → has_table b.declared.writes table ≡ false
not_holding s table b none live = all_contains (λ (c : LiveBatch). holds table c ≡ false) (live_batches s) b (find_none (holds table) (live_batches s) (option_none (λ (c : LiveBatch). c.tx.number) (find (holds table) (live_batches s)) none)) live

-- a short that touches no held table looks into no table that a live batch preserves
pub short_spares : (s : State) (t : Transaction) (b : LiveBatch) → held_table s (operations t) ≡ None → Contains (live_batches s) b → LooksIntoNone b.declared.writes t
short_spares s t b none live table preserved = false_from (looks_into_table (operations t) table) looks where
  looks : looks_into_table (operations t) table ≡ true → ⊥
  looks h =
      let found = looked_into (operations t) table h in
      true_false (sym preserved ∙ subst (λ k. has_table b.declared.writes k ≡ false) found.2 (not_holding s (table_of found.0) b (none_held s (operations t) none found.0 found.1) live))
