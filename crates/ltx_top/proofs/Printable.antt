-- Each answer is one that has a text: its rows stand in order of key, its operations are counted from 1, and its writers differ.
use Rattle.std.proofs.Common.{◌≡◌, ◌≢◌, ℕ, ◌+◌, ◌<◌, ◌==◌, ◌&&◌, not, Bool, true, false, cond, List, [], ◌∷◌, ◌++◌, map, filter, Option, Some, None, option_map, option_and_then, refl, sym, ap, ◌∙◌, subst, arith}
use Rattle.std.proofs.lemmas.Bool.{eqb-true}
use Rattle.std.specs.List.{find}
use Rattle.std.specs.declared.cmp.Ordering.{Ordering}
use Rattle.std.specs.declared.cmp.Ordering.TheVariants.{Less, Equal}
use Rattle.std.specs.Ordering.{nat_cmp, ordering_then}
use Rattle.ltx_model.specs.declared.commands.Op.{Op}
use Rattle.ltx_model.specs.declared.commands.Op.TheVariants.{Get, Scan, Put, Del}
use Rattle.ltx_model.specs.declared.commands.Verb.{Verb}
use Rattle.ltx_model.specs.declared.commands.Verb.TheVariants as verbs
use Rattle.ltx_model.specs.declared.commands.Command.{Command}
use Rattle.ltx_model.specs.declared.commands.Command.TheVariants as commands
use Rattle.ltx_model.specs.declared.commands.Line.{Line}
use Rattle.ltx_model.specs.declared.commands.Line.TheVariants as lines
use Rattle.ltx_model.specs.declared.replies.Entry.{Entry}
use Rattle.ltx_model.specs.declared.replies.Reply.{Reply}
use Rattle.ltx_model.specs.declared.replies.Reply.TheVariants as replies
use Rattle.ltx_model.specs.declared.rows.StoredRow.{StoredRow}
use Rattle.ltx_model.specs.declared.writes.Write.{Write}
use Rattle.ltx_model.specs.Tables.{has_table}
use Rattle.ltx_model.specs.Lists.{Numbered, numbered_from, or_else, first_some}
use Rattle.ltx_model.specs.Keys.{Cell, cell_cmp, key_cmp, in_range, AreAbove, IsRising}
use Rattle.ltx_model.specs.StoredRows.{cell_of, row_at, writer_at}
use Rattle.ltx_model.specs.Operations.{Transaction, operations, table_of, looks_up, first_write, cell_of_write}
use Rattle.ltx_model.specs.Agenda.{serial, part_from}
use Rattle.ltx_model.specs.Rows.{row_of, found, reply_on, rows_after_all, see, run}
use Rattle.ltx_model.specs.States.{Base, IsSound, State, Step, Kind, IsShort, IsPending, IsLive, Declaration, Active, transaction_of, LiveBatch, active_of, latest}
use Rattle.ltx_model.specs.Histories.{state}
use Rattle.ltx_model.specs.Shorts.{holder, Held, held_table, Change, same_writer, is_changed, candidates, change_of, first_change}
use Rattle.ltx_model.specs.Batches.{Witness, batch_operations, target, waits, late_or, late_of, first_late, is_late_key, late_witness, last_writer, cells_written_by, contradicted, contradicted_write, contradicts_of, first_contradicted, first_witness}
use Rattle.ltx_model.specs.Answers.{staged, answer, IsLegalWith, command_reply, verb_reply, begin_short, begin_long, short_reply, long_reply, operation, operation_in, operation_of_short, operation_of_batch, counted, is_full, refusal, unless_in, commit, commit_in, commit_short, commit_live, commit_at, checked, abort, advance, flush, flush_within}
use Rattle.ltx_model.specs.Limits.{last_number, last_epoch}
use Rattle.ltx_lemmas.proofs.Rising.{rising_after_all, rising_run}
use Rattle.ltx_laws.proofs.Structures.{structure_of}
use Rattle.ltx_reply.specs.Texts.{IsReply, key_of}

-- ---- rows of a table

then_less : (o p : Ordering) → o ≡ Equal → ordering_then o p ≡ Less → p ≡ Less
then_less o p e less = subst (λ q. ordering_then q p ≡ Less) e less

same_number : (n : ℕ) → nat_cmp n n ≡ Equal
same_number n = grind arith

module _ (table : ℕ) (low high : List ℕ) where
  abbrev in_scan : StoredRow → Bool
  in_scan row = (row.table == table) && in_range low high row.key

  scan_table : (row : StoredRow) → in_scan row ≡ true → row.table ≡ table
  scan_table row e = by_table (row.table == table) refl e where
    by_table : (b : Bool) → (row.table == table) ≡ b → (b && in_range low high row.key) ≡ true → row.table ≡ table
    by_table true same rest = eqb-true row.table table same
    by_table false other rest = cc

  scan_less : (c row : StoredRow) → c.table ≡ table → row.table ≡ table → cell_cmp (cell_of c) (cell_of row) ≡ Less → cell_cmp (key_of (row_of c)) (key_of (row_of row)) ≡ Less
  scan_less c row here there less =
      then_less (nat_cmp c.table row.table) (key_cmp c.key row.key) ((λ i. nat_cmp (here i) (there i)) ∙ same_number table) less

  scan_above : (c : StoredRow) → c.table ≡ table → (rows : List StoredRow) → AreAbove cell_of (cell_of c) rows → AreAbove key_of (key_of (row_of c)) (map row_of (filter in_scan rows))
  scan_above c here [] above = tt
  scan_above c here (row ∷ rows) above = by_test (in_scan row) refl (scan_above c here rows above.1) where
    by_test : (b : Bool) → in_scan row ≡ b → AreAbove key_of (key_of (row_of c)) (map row_of (filter in_scan rows)) → AreAbove key_of (key_of (row_of c)) (map row_of (cond b (row ∷ filter in_scan rows) (filter in_scan rows)))
    by_test true e rest = (scan_less c row here (scan_table row e) above.0, rest)
    by_test false e rest = rest

  scan_rising : (rows : List StoredRow) → IsRising cell_of rows → IsRising key_of (map row_of (filter in_scan rows))
  scan_rising [] rising = tt
  scan_rising (row ∷ rows) rising = by_test (in_scan row) refl (scan_rising rows rising.1) where
    by_test : (b : Bool) → in_scan row ≡ b → IsRising key_of (map row_of (filter in_scan rows)) → IsRising key_of (map row_of (cond b (row ∷ filter in_scan rows) (filter in_scan rows)))
    by_test true e rest = (scan_above row (scan_table row e) rows rising.0, rest)
    by_test false e rest = rest

-- ---- operations

found_prints : (o : Option StoredRow) → IsReply (found o)
found_prints None = tt
found_prints (Some row) = tt

reply_prints : (rows : List StoredRow) (op : Op) → IsRising cell_of rows → IsReply (reply_on rows op)
reply_prints rows (Get table key) rising = found_prints (row_at rows (record { table = table; key = key }))
reply_prints rows (Scan table low high) rising = scan_rising table low high rows rising
reply_prints rows (Put table key value) rising = tt
reply_prints rows (Del table key) rising = tt

see_prints : (n : ℕ) (rows : List StoredRow) (earlier : List Op) (op : Op) → IsRising cell_of rows → IsReply (see n rows earlier op)
unfolding see
see_prints n rows earlier op rising = reply_prints (rows_after_all n rows earlier) op (rising_after_all n rows earlier rising)

counted_prints : (full : Bool) (rows : List StoredRow) (t : Transaction) (op : Op) → IsRising cell_of rows → IsReply (counted full rows t op)
counted_prints true rows t op rising = tt
counted_prints false rows t op rising = see_prints t.number rows (operations t) op rising

latest_rises : (s : State) → IsRising cell_of s.base → IsRising cell_of (latest s)
latest_rises s rising = rising_run s.base (serial s.agenda) rising

short_prints : (s : State) (h : Option ℕ) (t : Transaction) (op : Op) → IsRising cell_of s.base → IsReply (operation_of_short s h t op)
short_prints s (Some n) t op rising = tt
short_prints s None t op rising = counted_prints (is_full t) (latest s) t op (latest_rises s rising)

abbrev PrintsIf : Option Reply → Type 0
PrintsIf None = Unit {0}
PrintsIf (Some reply) = IsReply reply

unless_prints : (b : Bool) (reply : Reply) → IsReply reply → PrintsIf (unless_in b reply)
unless_prints true reply prints = tt
unless_prints false reply prints = prints

refusal_prints : (d : Declaration) (op : Op) → PrintsIf (refusal d op)
refusal_prints d (Get table key) = unless_prints (has_table d.reads table) (replies.Outside table) tt
refusal_prints d (Scan table low high) = unless_prints (has_table d.reads table) (replies.Outside table) tt
refusal_prints d (Put table key value) = unless_prints (has_table d.writes table) (replies.NotPreserved table) tt
refusal_prints d (Del table key) = unless_prints (has_table d.writes table) (replies.NotPreserved table) tt

batch_prints : (s : State) (r : Option Reply) (snapshot : List Transaction) (t : Transaction) (op : Op) → IsRising cell_of s.base → PrintsIf r → IsReply (operation_of_batch s r snapshot t op)
batch_prints s (Some reply) snapshot t op rising prints = prints
batch_prints s None snapshot t op rising prints = counted_prints (is_full t) (run s.base snapshot) t op (rising_run s.base snapshot rising)

operation_in_prints : (s : State) (kind : Kind) (t : Transaction) (op : Op) → IsRising cell_of s.base → IsReply (operation_in s kind t op)
operation_in_prints s IsShort t op rising = short_prints s (holder s (table_of op)) t op rising
operation_in_prints s (IsPending d) t op rising = tt
operation_in_prints s (IsLive d snapshot) t op rising = batch_prints s (refusal d op) snapshot t op rising (refusal_prints d op)

operation_prints : (s : State) (o : Option Active) (op : Op) → IsRising cell_of s.base → IsReply (operation s o op)
operation_prints s None op rising = tt
operation_prints s (Some o) op rising = operation_in_prints s o.kind (transaction_of o) op rising

-- ---- changes

abbrev Differs : Option Change → Type 0
Differs None = Unit {0}
Differs (Some c) = (0 < c.op) × (c.found ≢ c.current)

same_equal : (n : ℕ) → (n == n) ≡ true
same_equal n = grind arith

same_writers : (a : Option ℕ) → same_writer a a ≡ true
same_writers None = refl
same_writers (Some n) = same_equal n

other_writers : (a b : Option ℕ) → same_writer a b ≡ false → a ≢ b
other_writers a b other same = let both : true ≡ false = sym (same_writers a) ∙ ap (same_writer a) same ∙ other in cc

changed_differs : (looks : Bool) (a b : Option ℕ) → (looks && not (same_writer a b)) ≡ true → a ≢ b
changed_differs true a b e = other_writers a b (by_same (same_writer a b) e) where
  by_same : (x : Bool) → not x ≡ true → x ≡ false
  by_same true e = sym e
  by_same false e = refl
changed_differs false a b e = cc

module _ (now : List StoredRow) (o : Numbered Step) (counted : 0 < o.number) where
  abbrev change_here : Cell → Change
  change_here cell = record { op = o.number; cell = cell; found = writer_at o.item.latest cell; current = writer_at now cell }

  found_differs : (cells : List Cell) → Differs (option_map change_here (find (is_changed now o.earlier o.item) cells))
  found_differs [] = tt
  found_differs (cell ∷ cells) = by_test (is_changed now o.earlier o.item cell) refl (found_differs cells) where
    by_test : (b : Bool) → is_changed now o.earlier o.item cell ≡ b → Differs (option_map change_here (find (is_changed now o.earlier o.item) cells))
        → Differs (option_map change_here (cond {A = Option Cell} b (Some cell) (find (is_changed now o.earlier o.item) cells)))
    by_test true e rest = (counted, changed_differs (looks_up cell (map (λ b. b.op) o.earlier) o.item.op) (writer_at o.item.latest cell) (writer_at now cell) e)
    by_test false e rest = rest

either_differs : (a b : Option Change) → Differs a → Differs b → Differs (or_else a b)
either_differs None b first second = second
either_differs (Some c) b first second = first

changes_differ : (now : List StoredRow) (number : ℕ) (earlier steps : List Step) → 0 < number → Differs (first_some (change_of now) (numbered_from number earlier steps))
changes_differ now number earlier [] counted = tt
changes_differ now number earlier (x ∷ steps) counted =
    let o : Numbered Step = record { number = number; earlier = earlier; item = x } in
    either_differs (change_of now o) (first_some (change_of now) (numbered_from (number + 1) (earlier ++ x ∷ []) steps))
    (found_differs now o counted (candidates x.latest now x.op)) (changes_differ now (number + 1) (earlier ++ x ∷ []) steps (omega (arith, counted)))

first_differs : (now : List StoredRow) (steps : List Step) → Differs (first_change now steps)
unfolding first_change
first_differs now steps = changes_differ now 1 [] steps (omega arith)

checked_prints : (s : State) (c : Option Change) → Differs c → IsReply (checked s c)
checked_prints s None differs = tt
checked_prints s (Some c) differs = differs

commit_short_prints : (s : State) (h : Option Held) (o : Active) → IsReply (commit_short s h o)
commit_short_prints s (Some h) o = tt
commit_short_prints s None o = checked_prints s (first_change (latest s) o.steps) (first_differs (latest s) o.steps)

-- ---- witnesses

abbrev Counted : Option Witness → Type 0
Counted None = Unit {0}
Counted (Some w) = 0 < w.op

either_counted : (a b : Option Witness) → Counted a → Counted b → Counted (or_else a b)
either_counted None b first second = second
either_counted (Some c) b first second = first

witnesses_counted : (f : Numbered Op → Option Witness) → ((o : Numbered Op) → 0 < o.number → Counted (f o)) → (number : ℕ) (earlier ops : List Op) → 0 < number → Counted (first_some f (numbered_from number earlier ops))
witnesses_counted f each number earlier [] counted = tt
witnesses_counted f each number earlier (x ∷ ops) counted =
    let o : Numbered Op = record { number = number; earlier = earlier; item = x } in
    either_counted (f o) (first_some f (numbered_from (number + 1) (earlier ++ x ∷ []) ops)) (each o counted)
    (witnesses_counted f each (number + 1) (earlier ++ x ∷ []) ops (omega (arith, counted)))

late_here : (op : ℕ) (cell : Cell) (w : Option ℕ) → 0 < op → Counted (option_map (λ n. record { op = op; cell = cell; other = n }) w)
late_here op cell None counted = tt
late_here op cell (Some n) counted = counted

late_found : (i : LiveBatch) (op : ℕ) (cell : Option Cell) → 0 < op → Counted (option_and_then (late_witness i op) cell)
late_found i op None counted = tt
late_found i op (Some cell) counted = late_here op cell (last_writer i cell) counted

late_counted : (s : State) (i : LiveBatch) (p : ℕ) → Counted (first_late s i p)
unfolding first_late
late_counted s i p = witnesses_counted (late_of s i p (cells_written_by [] i.snapshot))
    (λ o counted. late_found i o.number (find (is_late_key s i p o.earlier o.item) (cells_written_by [] i.snapshot)) counted) 1 [] (batch_operations i) (omega arith)

contradicts_found : (later : List Transaction) (op : ℕ) (w : Option Write) → 0 < op → Counted (option_and_then (contradicted_write later op) w)
contradicts_found later op None counted = tt
contradicts_found later op (Some w) counted = late_here op (cell_of_write w) (contradicted (cell_of_write w) later) counted

contradicted_counted : (s : State) (i : LiveBatch) (p : ℕ) → Counted (first_contradicted s i p)
unfolding first_contradicted
contradicted_counted s i p = witnesses_counted (contradicts_of (serial (part_from p s.agenda)))
    (λ o counted. contradicts_found (serial (part_from p s.agenda)) o.number (first_write o.earlier o.item) counted) 1 [] (batch_operations i) (omega arith)

at_prints : (s : State) (p : ℕ) (w : Option ℕ) (late other : Option Witness) → Counted late → Counted other → IsReply (commit_at s p w (late_or late other))
at_prints s p (Some k) late other first second = tt
at_prints s p None (Some w) other first second = first
at_prints s p None None (Some w) first second = second
at_prints s p None None None first second = tt

live_prints : (s : State) (i : LiveBatch) (p : Option ℕ) → IsReply (commit_live s i p)
live_prints s i None = tt
live_prints s i (Some p) = at_prints s p (waits s i p (first_witness s i p)) (first_late s i p) (first_contradicted s i p) (late_counted s i p) (contradicted_counted s i p)

-- ---- lines

commit_in_prints : (s : State) (kind : Kind) (o : Active) → IsReply (commit_in s kind o)
commit_in_prints s IsShort o = commit_short_prints s (held_table s (operations (transaction_of o))) o
commit_in_prints s (IsPending d) o = tt
commit_in_prints s (IsLive d snapshot) o = let i : LiveBatch = record { tx = transaction_of o; declared = d; snapshot = snapshot } in live_prints s i (target s i)

commit_prints : (s : State) (o : Option Active) → IsReply (commit s o)
commit_prints s None = tt
commit_prints s (Some o) = commit_in_prints s o.kind o

short_begun_prints : (s : State) (full : Bool) → IsReply (short_reply s full)
short_begun_prints s true = tt
short_begun_prints s false = tt

begin_short_prints : (s : State) (o : Option Active) → IsReply (begin_short s o)
begin_short_prints s (Some o) = tt
begin_short_prints s None = short_begun_prints s (s.last == last_number)

long_begun_prints : (s : State) (late full : Bool) → IsReply (long_reply s late full)
long_begun_prints s true full = tt
long_begun_prints s false true = tt
long_begun_prints s false false = tt

begin_long_prints : (s : State) (o : Option Active) → IsReply (begin_long s o)
begin_long_prints s (Some o) = tt
begin_long_prints s None = long_begun_prints s (s.epoch == last_epoch) (s.last == last_number)

abort_prints : (o : Option Active) → IsReply (abort o)
abort_prints None = tt
abort_prints (Some o) = tt

advance_prints : (s : State) (full : Bool) → IsReply (advance s full)
advance_prints s true = tt
advance_prints s false = tt

within_prints : (s : State) (within : Bool) → IsReply (flush_within s within)
within_prints s true = tt
within_prints s false = tt

flush_prints : (s : State) (same : Bool) → IsReply (flush s same)
flush_prints s true = tt
flush_prints s false = within_prints s _

verb_prints : (s : State) (session : ℕ) (verb : Verb) → IsRising cell_of s.base → IsReply (verb_reply s session verb)
verb_prints s session verbs.Short rising = begin_short_prints s (active_of s session)
verb_prints s session (verbs.Long writes reads) rising = begin_long_prints s (active_of s session)
verb_prints s session (verbs.Do op) rising = operation_prints s (active_of s session) op rising
verb_prints s session verbs.Commit rising = commit_prints s (active_of s session)
verb_prints s session verbs.Abort rising = abort_prints (active_of s session)

command_prints : (s : State) (command : Command) → IsRising cell_of s.base → IsReply (command_reply s command)
command_prints s commands.Epoch rising = advance_prints s (s.epoch == last_epoch)
command_prints s commands.Flush rising = flush_prints s _
command_prints s commands.Prune rising = tt
command_prints s (commands.Ask session verb) rising = verb_prints s session verb rising

answer_prints : (s : State) (line : Line) → IsRising cell_of s.base → IsReply (answer s line)
unfolding answer
answer_prints s (lines.Good command) rising = command_prints s command rising
answer_prints s (lines.Bad cause) rising = tt

staged_prints : (built : State → Line → Bool) (s : State) (line : Line) → IsRising cell_of s.base → IsReply (staged built s line)
staged_prints built s line rising = by_built (built s line) (answer_prints s line rising) where
  by_built : (b : Bool) → IsReply (answer s line) → IsReply (cond b (answer s line) replies.Later)
  by_built true prints = prints
  by_built false prints = tt

-- each answer of the state that a legal history leads to
pub answers_print : (built : State → Line → Bool) (base : Base) (history : List Entry) (line : Line) → IsSound base → IsLegalWith built base history → IsReply (staged built (state base history) line)
answers_print built base history line sound legal =
    staged_prints built (state base history) line (subst (IsRising cell_of) (sym (structure_of built base history legal).rows) sound.rising)
