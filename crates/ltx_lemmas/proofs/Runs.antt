-- Runs of whole transactions: the last writer of a key gives its row, what may be left out of a run or put into it, and where rows come from.
use Rattle.std.proofs.Common.{◌≡◌, ◌⊎◌, inl, inr, ℕ, ◌<◌, ◌≤◌, Bool, true, false, cond, ◌||◌, List, [], ◌∷◌, ◌++◌, map, Option, Some, None, option_and_then, refl, sym, ap, ◌∙◌, subst, arith}
use Rattle.std.proofs.lemmas.Bool.{both_ways}
use Rattle.std.specs.List.{list_any, find, filter, AllByRecursion, Contains}
use Rattle.std.specs.Option.{option_map}
use Rattle.ltx_model.specs.declared.commands.Op.{Op}
use Rattle.ltx_model.specs.declared.commands.Op.TheVariants.{Get, Scan, Put, Del}
use Rattle.ltx_model.specs.declared.rows.StoredRow.{StoredRow}
use Rattle.ltx_model.specs.Lists.{before_first}
use Rattle.ltx_model.specs.Keys.{Cell, IsRising}
use Rattle.ltx_model.specs.StoredRows.{cell_of, row_at, writer_at}
use Rattle.ltx_model.specs.Operations.{Transaction, operations, writes_at, looks_up_key, writes_key}
use Rattle.ltx_model.specs.Rows.{rows_after, rows_after_all, play, rows_after_transaction, run, RunGives}
use Rattle.ltx_model.specs.Batches.{unless_any, contradicted}
use Rattle.ltx_model.proofs.OneMore.{run-append, gives-append, gives-one}
use Rattle.ltx_lemmas.specs.Sources.{IsWrittenBy, AreSourced}
use Rattle.ltx_lemmas.proofs.Lists.{true_false, some_same, none_some, filter_append, any_not_all, find_none_from, contains_here, contains_back}
use Rattle.ltx_model.proofs.RowsAt.{row_at-put, row_at-without}
use Rattle.ltx_lemmas.proofs.Rising.{rising_transaction, rising_run}
use Rattle.ltx_lemmas.proofs.Views.{agree_after, agree_written, unwritten_after, row_at-unwritten, play_agrees}

-- a run whose transactions do not write a key leaves its row
pub silent_run : (q : Cell) (rows : List StoredRow) (ts : List Transaction) → AllByRecursion (λ t. writes_key (operations t) q ≡ false) ts → row_at (run rows ts) q ≡ row_at rows q
unfolding run
silent_run q rows [] silent = refl
silent_run q rows (t ∷ ts) silent = silent_run q (rows_after_transaction rows t) ts silent.1 ∙ unwritten_after t.number rows (operations t) q silent.0

-- rows that agree at a key agree there after a run
pub run_agrees_at : (q : Cell) (rows more : List StoredRow) (ts : List Transaction) → row_at rows q ≡ row_at more q → row_at (run rows ts) q ≡ row_at (run more ts) q
unfolding run
run_agrees_at q rows more [] e = e
run_agrees_at q rows more (t ∷ ts) e = run_agrees_at q (rows_after_transaction rows t) (rows_after_transaction more t) ts (agree_after t.number rows more (operations t) q e)

-- Last writer: the row of a key after a run is what the last transaction that wrote the key left there, whatever stood there before.
pub last_writes : (q : Cell) (rows : List StoredRow) (front : List Transaction) (t : Transaction) (back : List Transaction) → writes_key (operations t) q ≡ true
    → AllByRecursion (λ u. writes_key (operations u) q ≡ false) back → row_at (run rows (front ++ t ∷ back)) q ≡ row_at (rows_after_all t.number [] (operations t)) q
unfolding run
last_writes q rows front t back writes silent =
    ap (λ r. row_at r q) (run-append rows front (t ∷ back))
    ∙ silent_run q (rows_after_transaction (run rows front) t) back silent
    ∙ agree_written t.number (run rows front) [] (operations t) q writes

-- one of them writes the key: the last one that does
pub last_to_write : (q : Cell) (ts : List Transaction) → list_any (λ t. writes_key (operations t) q) ts ≡ true
    → (front : List Transaction) × (t : Transaction) × (back : List Transaction) × (ts ≡ front ++ t ∷ back) × (writes_key (operations t) q ≡ true) × AllByRecursion (λ u. writes_key (operations u) q ≡ false) back
last_to_write q [] e = absurd (true_false (sym e))
last_to_write q (t ∷ ts) e = by_tests (list_any (λ u. writes_key (operations u) q) ts) refl (writes_key (operations t) q) refl e (last_to_write q ts) where
  by_tests : (b : Bool) → list_any (λ u. writes_key (operations u) q) ts ≡ b → (w : Bool) → writes_key (operations t) q ≡ w → (w || list_any (λ u. writes_key (operations u) q) ts) ≡ true
      → (list_any (λ u. writes_key (operations u) q) ts ≡ true → (front : List Transaction) × (u : Transaction) × (back : List Transaction) × (ts ≡ front ++ u ∷ back) × (writes_key (operations u) q ≡ true) × AllByRecursion (λ v. writes_key (operations v) q ≡ false) back)
      → (front : List Transaction) × (u : Transaction) × (back : List Transaction) × (t ∷ ts ≡ front ++ u ∷ back) × (writes_key (operations u) q ≡ true) × AllByRecursion (λ v. writes_key (operations v) q ≡ false) back
  by_tests true some w is h later = let r = later some in (t ∷ r.0, r.1, r.2, ap (λ l. t ∷ l) r.3, r.4, r.5)
  by_tests false none true is h later = ([], t, ts, refl, is, any_not_all (λ u. writes_key (operations u) q) ts none)
  by_tests false none false is h later = absurd (let no : ⊥ = both_ways (list_any (λ u. writes_key (operations u) q) ts) none h in no)

-- none of the first looks the key up, up to one that writes it
not_seen : (q : Cell) (t : Transaction) (ts : List Transaction) → contradicted q (t ∷ ts) ≡ None → (looks_up_key (operations t) q ≡ false) × ((writes_key (operations t) q ≡ true) ⊎ (contradicted q ts ≡ None))
not_seen q t ts e = by_looks (looks_up_key (operations t) q) e where
  looks : Transaction → Bool
  looks u = looks_up_key (operations u) q

  writes : Transaction → Bool
  writes u = writes_key (operations u) q

  by_writes : (w : Bool) → option_and_then (unless_any (w || list_any writes (before_first looks ts))) (find looks ts) ≡ None → (w ≡ true) ⊎ (contradicted q ts ≡ None)
  by_writes true h = inl refl
  by_writes false h = inr h

  by_looks : (l : Bool) → option_and_then (unless_any (list_any writes (cond l [] (t ∷ before_first looks ts)))) (cond l (Some t) (find looks ts)) ≡ None → (l ≡ false) × ((writes_key (operations t) q ≡ true) ⊎ (contradicted q ts ≡ None))
  by_looks true h = absurd (none_some (sym h))
  by_looks false h = (refl, by_writes (writes_key (operations t) q) h)

-- where none of them looks the key up, none is contradicted
pub unseen : (q : Cell) (ts : List Transaction) → AllByRecursion (λ t. looks_up_key (operations t) q ≡ false) ts → contradicted q ts ≡ None
unseen q ts all = ap (option_and_then (unless_any (list_any (λ t. writes_key (operations t) q) (before_first (λ t. looks_up_key (operations t) q) ts)))) (find_none_from (λ t. looks_up_key (operations t) q) ts all)

-- Transactions keep their replies on rows that differ only at keys that none of them sees.
pub run_agrees : (rows more : List StoredRow) (ts : List Transaction) → IsRising cell_of rows → IsRising cell_of more → ((q : Cell) → (row_at rows q ≡ row_at more q) ⊎ (contradicted q ts ≡ None)) → RunGives rows ts → RunGives more ts
unfolding RunGives
run_agrees rows more [] rr rm agree gives = tt
run_agrees rows more (t ∷ ts) rr rm agree gives = (
  sym (play_agrees t.number rows more (operations t) rr rm (λ q looks. at_look q looks (agree q))) ∙ gives.0,
  run_agrees (rows_after_transaction rows t) (rows_after_transaction more t) ts (rising_transaction rows t rr) (rising_transaction more t rm) (λ q. after_it q (agree q)) gives.1,
) where
  at_look : (q : Cell) → looks_up_key (operations t) q ≡ true → (row_at rows q ≡ row_at more q) ⊎ (contradicted q (t ∷ ts) ≡ None) → row_at rows q ≡ row_at more q
  at_look q looks (inl e) = e
  at_look q looks (inr none) = absurd (let no : ⊥ = both_ways (looks_up_key (operations t) q) (not_seen q t ts none).0 looks in no)

  later : (q : Cell) → (writes_key (operations t) q ≡ true) ⊎ (contradicted q ts ≡ None) → (row_at (rows_after_transaction rows t) q ≡ row_at (rows_after_transaction more t) q) ⊎ (contradicted q ts ≡ None)
  later q (inl w) = inl (agree_written t.number rows more (operations t) q w)
  later q (inr none) = inr none

  after_it : (q : Cell) → (row_at rows q ≡ row_at more q) ⊎ (contradicted q (t ∷ ts) ≡ None) → (row_at (rows_after_transaction rows t) q ≡ row_at (rows_after_transaction more t) q) ⊎ (contradicted q ts ≡ None)
  after_it q (inl e) = inl (agree_after t.number rows more (operations t) q e)
  after_it q (inr none) = later q (not_seen q t ts none).1

pub gives_parts : (rows : List StoredRow) (front back : List Transaction) → RunGives rows (front ++ back) → RunGives rows front × RunGives (run rows front) back
unfolding RunGives run
gives_parts rows [] back g = (tt, g)
gives_parts rows (t ∷ ts) back g = let rest = gives_parts (rows_after_transaction rows t) ts back g.1 in ((g.0, rest.0), rest.1)

-- A run with one more transaction in its middle: it gets its replies there, and no later one sees its writes.
pub inserted : (rows : List StoredRow) (front back : List Transaction) (t : Transaction) → IsRising cell_of rows → RunGives rows (front ++ back)
    → play t.number (run rows front) (operations t) ≡ map (λ a. a.reply) t.answered
    → ((q : Cell) → writes_key (operations t) q ≡ true → contradicted q back ≡ None)
    → RunGives rows (front ++ t ∷ back)
inserted rows front back t rising gives own unseen =
    let parts = gives_parts rows front back gives in
    gives-append rows front (t ∷ back) parts.0 (
    gives-one (run rows front) t back own
    (run_agrees (run rows front) (rows_after_transaction (run rows front) t) back (rising_run rows front rising) (rising_transaction (run rows front) t (rising_run rows front rising))
    (λ q. by_test q (writes_key (operations t) q) refl) parts.1)
    ) where
      by_test : (q : Cell) (b : Bool) → writes_key (operations t) q ≡ b → (row_at (run rows front) q ≡ row_at (rows_after_transaction (run rows front) t) q) ⊎ (contradicted q back ≡ None)
      by_test q true w = inr (unseen q w)
      by_test q false w = inl (sym (unwritten_after t.number (run rows front) (operations t) q w))

-- Transactions that do not write a key can be left out, as far as its row goes.
pub left_out : (keep : Transaction → Bool) (q : Cell) (rows more : List StoredRow) (ts : List Transaction) → row_at rows q ≡ row_at more q
    → AllByRecursion (λ t. keep t ≡ false → writes_key (operations t) q ≡ false) ts → row_at (run rows (filter keep ts)) q ≡ row_at (run more ts) q
unfolding run
left_out keep q rows more [] e silent = e
left_out keep q rows more (t ∷ ts) e silent =
    by_test (keep t) silent.0 (left_out keep q rows (rows_after_transaction more t) ts) (left_out keep q (rows_after_transaction rows t) (rows_after_transaction more t) ts) where
      by_test : (b : Bool) → (b ≡ false → writes_key (operations t) q ≡ false)
          → (row_at rows q ≡ row_at (rows_after_transaction more t) q → AllByRecursion (λ u. keep u ≡ false → writes_key (operations u) q ≡ false) ts → row_at (run rows (filter keep ts)) q ≡ row_at (run (rows_after_transaction more t) ts) q)
          → (row_at (rows_after_transaction rows t) q ≡ row_at (rows_after_transaction more t) q → AllByRecursion (λ u. keep u ≡ false → writes_key (operations u) q ≡ false) ts → row_at (run (rows_after_transaction rows t) (filter keep ts)) q ≡ row_at (run (rows_after_transaction more t) ts) q)
          → row_at (run rows (cond b (t ∷ filter keep ts) (filter keep ts))) q ≡ row_at (run (rows_after_transaction more t) ts) q
      by_test true quiet out kept = kept (agree_after t.number rows more (operations t) q e) silent.1
      by_test false quiet out kept = out (e ∙ sym (unwritten_after t.number more (operations t) q (quiet refl))) silent.1

-- What a batch read from its snapshot it reads at its place: of the members before the place, those that are not of the snapshot write
-- none of its looked-up keys, and neither do those of the snapshot that stand from the place on.
pub reads_at_place : (n : ℕ) (rows : List StoredRow) (keep : Transaction → Bool) (ahead behind : List Transaction) (ops : List Op) → IsRising cell_of rows
    → ((q : Cell) → looks_up_key ops q ≡ true → AllByRecursion (λ t. keep t ≡ false → writes_key (operations t) q ≡ false) ahead)
    → ((q : Cell) → looks_up_key ops q ≡ true → AllByRecursion (λ t. writes_key (operations t) q ≡ false) (filter keep behind))
    → play n (run rows (filter keep (ahead ++ behind))) ops ≡ play n (run rows ahead) ops
reads_at_place n rows keep ahead behind ops rising out late =
    play_agrees n (run rows (filter keep (ahead ++ behind))) (run rows ahead) ops (rising_run rows (filter keep (ahead ++ behind)) rising) (rising_run rows ahead rising) (λ q looks.
    ap (λ l. row_at (run rows l) q) (filter_append keep ahead behind)
    ∙ ap (λ r. row_at r q) (run-append rows (filter keep ahead) (filter keep behind))
    ∙ silent_run q (run rows (filter keep ahead)) (filter keep behind) (late q looks)
    ∙ left_out keep q rows rows ahead refl (out q looks))

-- a key that a transaction wrote has no row afterwards, or one of that transaction
abbrev pub IsOwned : ℕ → List StoredRow → Cell → Type 0
IsOwned n rows q = (row_at rows q ≡ None) ⊎ (writer_at rows q ≡ Some n)

owned_once : (n : ℕ) (rows : List StoredRow) (op : Op) (q : Cell) → writes_at q op ≡ true → IsOwned n (rows_after n rows op) q
owned_once n rows (Get table key) q e = cc
owned_once n rows (Scan table low high) q e = cc
owned_once n rows (Put table key value) q e =
    let x : StoredRow = record { table = table; key = key; value = value; writer = n } in
    inr (ap (option_map (λ (r : StoredRow). r.writer)) (row_at-put x rows q ∙ ap (λ b. cond b (Some x) (row_at rows q)) e))
owned_once n rows (Del table key) q e = inl (row_at-without rows (record { table = table; key = key }) q ∙ ap (λ b. cond b None (row_at rows q)) e)

owned_kept : (n : ℕ) (rows more : List StoredRow) (q : Cell) → row_at more q ≡ row_at rows q → IsOwned n rows q → IsOwned n more q
owned_kept n rows more q e (inl none) = inl (e ∙ none)
owned_kept n rows more q e (inr own) = inr (ap (option_map (λ (r : StoredRow). r.writer)) e ∙ own)

owned_on : (n : ℕ) (rows : List StoredRow) (ops : List Op) (q : Cell) → IsOwned n rows q → IsOwned n (rows_after_all n rows ops) q
owned_on n rows [] q own = own
owned_on n rows (op ∷ ops) q own = owned_on n (rows_after n rows op) ops q (by_test (writes_at q op) refl) where
  by_test : (b : Bool) → writes_at q op ≡ b → IsOwned n (rows_after n rows op) q
  by_test true w = owned_once n rows op q w
  by_test false w = owned_kept n rows (rows_after n rows op) q (row_at-unwritten n rows op q w) own

pub owned_after : (n : ℕ) (rows : List StoredRow) (ops : List Op) (q : Cell) → writes_key ops q ≡ true → IsOwned n (rows_after_all n rows ops) q
owned_after n rows [] q e = cc
owned_after n rows (op ∷ ops) q e = by_test (writes_at q op) refl e (owned_after n (rows_after n rows op) ops q) where
  by_test : (b : Bool) → writes_at q op ≡ b → (b || list_any (writes_at q) ops) ≡ true → (list_any (writes_at q) ops ≡ true → IsOwned n (rows_after_all n (rows_after n rows op) ops) q)
      → IsOwned n (rows_after_all n (rows_after n rows op) ops) q
  by_test true w h later = owned_on n (rows_after n rows op) ops q (owned_once n rows op q w)
  by_test false w h later = later h

-- Each row after a run is the base's row of its key, or is what a transaction of the run wrote last there.
pub run_sourced : (base : List StoredRow) (ts : List Transaction) → AreSourced base ts (run base ts)
run_sourced base ts q row is = by_any (list_any (λ t. writes_key (operations t) q) ts) refl where
  by_owner : (rows : List StoredRow) (t : Transaction) → row_at rows q ≡ Some row → IsOwned t.number rows q → row.writer ≡ t.number
  by_owner rows t e (inl none) = absurd (none_some (sym none ∙ e))
  by_owner rows t e (inr own) = some_same (sym (ap (option_map (λ (r : StoredRow). r.writer)) e) ∙ own)

  by_any : (b : Bool) → list_any (λ t. writes_key (operations t) q) ts ≡ b → (row_at base q ≡ Some row) ⊎ IsWrittenBy ts q row
  by_any false none = inl (sym (silent_run q base ts (any_not_all (λ t. writes_key (operations t) q) ts none)) ∙ is)
  by_any true some =
      let (front, t, back, parts, writes, silent) = last_to_write q ts some in
      let last : row_at (rows_after_all t.number [] (operations t)) q ≡ Some row = sym (last_writes q base front t back writes silent) ∙ sym (ap (λ l. row_at (run base l) q) parts) ∙ is in
      inr (record {
        tx = t;
        here = subst (λ l. Contains l t) (sym parts) (contains_back front (t ∷ back) t (contains_here t back));
        writes = writes;
        last = last;
        writer = by_owner (rows_after_all t.number [] (operations t)) t last (owned_after t.number [] (operations t) q writes);
      })

pub sourced_more : (base : List StoredRow) (ts more : List Transaction) (rows : List StoredRow) → ((t : Transaction) → Contains ts t → Contains more t) → AreSourced base ts rows → AreSourced base more rows
sourced_more base ts more rows sub sourced q row is = by_source (sourced q row is) where
  by_source : (row_at base q ≡ Some row) ⊎ IsWrittenBy ts q row → (row_at base q ≡ Some row) ⊎ IsWrittenBy more q row
  by_source (inl e) = inl e
  by_source (inr w) = inr (record { tx = w.tx; here = sub w.tx w.here; writes = w.writes; last = w.last; writer = w.writer })

-- Writer fixes value: where numbers of transactions are above the base's writers and no two have one number, rows of one key with one writer are one.
pub writer_fixes : (base : List StoredRow) (last : ℕ) (ts : List Transaction)
    → ((q : Cell) (row : StoredRow) → row_at base q ≡ Some row → row.writer ≤ last)
    → ((t : Transaction) → Contains ts t → last < t.number)
    → ((t u : Transaction) → Contains ts t → Contains ts u → t.number ≡ u.number → t ≡ u)
    → (rows more : List StoredRow) → AreSourced base ts rows → AreSourced base ts more
    → (q : Cell) → writer_at rows q ≡ writer_at more q → row_at rows q ≡ row_at more q
writer_fixes base last ts low high one rows more sr sm q same = by_rows (row_at rows q) (row_at more q) refl refl same where
  by_sources : (a b : StoredRow) → a.writer ≡ b.writer → (row_at base q ≡ Some a) ⊎ IsWrittenBy ts q a → (row_at base q ≡ Some b) ⊎ IsWrittenBy ts q b → Some a ≡ Some b
  by_sources a b w (inl e) (inl f) = sym e ∙ f
  by_sources a b w (inl e) (inr g) = absurd (let below : a.writer ≤ last = low q a e in let above : last < g.tx.number = high g.tx g.here in let is : a.writer ≡ g.tx.number = w ∙ g.writer in let no : ⊥ = omega arith in no)
  by_sources a b w (inr f) (inl e) = absurd (let below : b.writer ≤ last = low q b e in let above : last < f.tx.number = high f.tx f.here in let is : b.writer ≡ f.tx.number = sym w ∙ f.writer in let no : ⊥ = omega arith in no)
  by_sources a b w (inr f) (inr g) =
      let t : f.tx ≡ g.tx = one f.tx g.tx f.here g.here (sym f.writer ∙ w ∙ g.writer) in
      sym f.last ∙ ap (λ (u : Transaction). row_at (rows_after_all u.number [] (operations u)) q) t ∙ g.last

  by_rows : (a b : Option StoredRow) → row_at rows q ≡ a → row_at more q ≡ b → option_map (λ (r : StoredRow). r.writer) a ≡ option_map (λ (r : StoredRow). r.writer) b → a ≡ b
  by_rows None None e f w = refl
  by_rows None (Some b) e f w = absurd (none_some w)
  by_rows (Some a) None e f w = absurd (none_some (sym w))
  by_rows (Some a) (Some b) e f w = by_sources a b (some_same w) (sr q a e) (sm q b f)
