-- What a transaction sees, plays and writes: rows that agree at each key that it looks up give it one list of replies.
use Rattle.std.proofs.Common.{◌≡◌, ℕ, ◌+◌, Bool, true, false, cond, not, ◌&&◌, ◌||◌, ◌==◌, List, [], ◌∷◌, ◌++◌, map, Some, None, refl, sym, ap, ◌∙◌}
use Rattle.std.proofs.lemmas.Bool.{or_left, or_right}
use Rattle.std.specs.List.{list_any}
use Rattle.ltx_model.specs.declared.commands.Op.{Op}
use Rattle.ltx_model.specs.declared.commands.Op.TheVariants.{Get, Scan, Put, Del}
use Rattle.ltx_model.specs.declared.replies.Reply.TheVariants.{Rows}
use Rattle.ltx_model.specs.declared.rows.StoredRow.{StoredRow}
use Rattle.ltx_model.specs.Lists.{numbered_from}
use Rattle.ltx_model.specs.Keys.{Cell, same_cell, in_range, IsRising}
use Rattle.ltx_model.specs.StoredRows.{cell_of, row_at}
use Rattle.ltx_model.specs.Operations.{Answered, Transaction, operations, writes_at, covers, looks_up, looks_up_key, writes_key}
use Rattle.ltx_model.specs.Rows.{row_of, rows_after, rows_after_all, reply_on, found, see, play}
use Rattle.ltx_lemmas.specs.Plays.{AreSeen}
use Rattle.ltx_lemmas.proofs.Lists.{true_false}
use Rattle.ltx_model.proofs.RowsAt.{row_at-put, row_at-without}
use Rattle.ltx_model.proofs.CellOrder.{same_cell_refl}
use Rattle.ltx_lemmas.proofs.Rising.{rising_after_all}
use Rattle.ltx_model.proofs.Rising.{same_filter}

-- One operation: rows that agree at a key agree there afterwards, and where it writes the key they agree in any case.
pub row_at-after : (n : ℕ) (rows more : List StoredRow) (op : Op) (q : Cell) → row_at rows q ≡ row_at more q → row_at (rows_after n rows op) q ≡ row_at (rows_after n more op) q
row_at-after n rows more (Get table key) q e = e
row_at-after n rows more (Scan table low high) q e = e
row_at-after n rows more (Put table key value) q e =
    let x : StoredRow = record { table = table; key = key; value = value; writer = n } in
    row_at-put x rows q ∙ ap (cond (same_cell (cell_of x) q) (Some x)) e ∙ sym (row_at-put x more q)
row_at-after n rows more (Del table key) q e =
    let c : Cell = record { table = table; key = key } in
    row_at-without rows c q ∙ ap (cond (same_cell c q) None) e ∙ sym (row_at-without more c q)

pub row_at-written : (n : ℕ) (rows more : List StoredRow) (op : Op) (q : Cell) → writes_at q op ≡ true → row_at (rows_after n rows op) q ≡ row_at (rows_after n more op) q
row_at-written n rows more (Get table key) q e = cc
row_at-written n rows more (Scan table low high) q e = cc
row_at-written n rows more (Put table key value) q e = rw (row_at-put _ rows q, row_at-put _ more q, e) refl
row_at-written n rows more (Del table key) q e = rw (row_at-without rows _ q, row_at-without more _ q, e) refl

-- an operation that does not write the key leaves its row
pub row_at-unwritten : (n : ℕ) (rows : List StoredRow) (op : Op) (q : Cell) → writes_at q op ≡ false → row_at (rows_after n rows op) q ≡ row_at rows q
row_at-unwritten n rows (Get table key) q e = refl
row_at-unwritten n rows (Scan table low high) q e = refl
row_at-unwritten n rows (Put table key value) q e = rw (row_at-put _ rows q, e) refl
row_at-unwritten n rows (Del table key) q e = rw (row_at-without rows _ q, e) refl

-- several operations
pub agree_after : (n : ℕ) (rows more : List StoredRow) (ops : List Op) (q : Cell) → row_at rows q ≡ row_at more q → row_at (rows_after_all n rows ops) q ≡ row_at (rows_after_all n more ops) q
agree_after n rows more [] q e = e
agree_after n rows more (op ∷ ops) q e = agree_after n (rows_after n rows op) (rows_after n more op) ops q (row_at-after n rows more op q e)

pub agree_written : (n : ℕ) (rows more : List StoredRow) (ops : List Op) (q : Cell) → writes_key ops q ≡ true → row_at (rows_after_all n rows ops) q ≡ row_at (rows_after_all n more ops) q
agree_written n rows more [] q e = cc
agree_written n rows more (op ∷ ops) q e = by_test (writes_at q op) refl e (agree_written n (rows_after n rows op) (rows_after n more op) ops q) where
  by_test : (b : Bool) → writes_at q op ≡ b → (b || list_any (writes_at q) ops) ≡ true
      → (list_any (writes_at q) ops ≡ true → row_at (rows_after_all n (rows_after n rows op) ops) q ≡ row_at (rows_after_all n (rows_after n more op) ops) q)
      → row_at (rows_after_all n (rows_after n rows op) ops) q ≡ row_at (rows_after_all n (rows_after n more op) ops) q
  by_test true w h later = agree_after n (rows_after n rows op) (rows_after n more op) ops q (row_at-written n rows more op q w)
  by_test false w h later = later h

pub unwritten_after : (n : ℕ) (rows : List StoredRow) (ops : List Op) (q : Cell) → writes_key ops q ≡ false → row_at (rows_after_all n rows ops) q ≡ row_at rows q
unwritten_after n rows [] q e = refl
unwritten_after n rows (op ∷ ops) q e = by_test (writes_at q op) refl e (unwritten_after n (rows_after n rows op) ops q) where
  by_test : (b : Bool) → writes_at q op ≡ b → (b || list_any (writes_at q) ops) ≡ false
      → (list_any (writes_at q) ops ≡ false → row_at (rows_after_all n (rows_after n rows op) ops) q ≡ row_at (rows_after n rows op) q)
      → row_at (rows_after_all n (rows_after n rows op) ops) q ≡ row_at rows q
  by_test true w h later = absurd (true_false h)
  by_test false w h later = later h ∙ row_at-unwritten n rows op q w

pub rows_after_all-push : (n : ℕ) (rows : List StoredRow) (ops : List Op) (op : Op) → rows_after_all n rows (ops ++ op ∷ []) ≡ rows_after n (rows_after_all n rows ops) op
rows_after_all-push n rows [] op = refl
rows_after_all-push n rows (x ∷ xs) op = rows_after_all-push n (rows_after n rows x) xs op

pub rows_after_all-append : (n : ℕ) (rows : List StoredRow) (ops more : List Op) → rows_after_all n rows (ops ++ more) ≡ rows_after_all n (rows_after_all n rows ops) more
rows_after_all-append n rows [] more = refl
rows_after_all-append n rows (x ∷ xs) more = rows_after_all-append n (rows_after n rows x) xs more

-- Frame of `see`: rows that agree at each key that an operation looks up give it one reply.
pub reply_agrees : (n : ℕ) (rows more : List StoredRow) (earlier : List Op) (op : Op) → IsRising cell_of rows → IsRising cell_of more
    → ((q : Cell) → looks_up q earlier op ≡ true → row_at rows q ≡ row_at more q)
    → reply_on (rows_after_all n rows earlier) op ≡ reply_on (rows_after_all n more earlier) op
reply_agrees n rows more earlier op rr rm agree = by_op op at where
  covered : (q : Cell) (b : Bool) → list_any (writes_at q) earlier ≡ b → covers q op ≡ true → row_at (rows_after_all n rows earlier) q ≡ row_at (rows_after_all n more earlier) q
  covered q true w is = agree_written n rows more earlier q w
  covered q false w is = agree_after n rows more earlier q (agree q (let looks : (covers q op && not (list_any (writes_at q) earlier)) ≡ true = rw (is, w) refl in looks))

  at : (q : Cell) → covers q op ≡ true → row_at (rows_after_all n rows earlier) q ≡ row_at (rows_after_all n more earlier) q
  at q is = covered q (list_any (writes_at q) earlier) refl is

  by_op : (o : Op) → ((q : Cell) → covers q o ≡ true → row_at (rows_after_all n rows earlier) q ≡ row_at (rows_after_all n more earlier) q) → reply_on (rows_after_all n rows earlier) o ≡ reply_on (rows_after_all n more earlier) o
  by_op (Get table key) h = let c : Cell = record { table = table; key = key } in ap found (h c (same_cell_refl c))
  by_op (Scan table low high) h = ap (λ (l : List StoredRow). Rows (map row_of l))
      (same_filter cell_of (λ (c : Cell). (c.table == table) && in_range low high c.key) (rows_after_all n rows earlier) (rows_after_all n more earlier) (rising_after_all n rows earlier rr) (rising_after_all n more earlier rm) h)
  by_op (Put table key value) h = refl
  by_op (Del table key) h = refl

pub see_agrees : (n : ℕ) (rows more : List StoredRow) (earlier : List Op) (op : Op) → IsRising cell_of rows → IsRising cell_of more
    → ((q : Cell) → looks_up q earlier op ≡ true → row_at rows q ≡ row_at more q) → see n rows earlier op ≡ see n more earlier op
unfolding see
see_agrees n rows more earlier op rr rm agree = reply_agrees n rows more earlier op rr rm agree

play_from : (n k : ℕ) (rows more : List StoredRow) (earlier ops : List Op) → IsRising cell_of rows → IsRising cell_of more
    → ((q : Cell) → list_any (λ o. looks_up q o.earlier o.item) (numbered_from k earlier ops) ≡ true → row_at rows q ≡ row_at more q)
    → play n (rows_after_all n rows earlier) ops ≡ play n (rows_after_all n more earlier) ops
play_from n k rows more earlier [] rr rm agree = refl
play_from n k rows more earlier (op ∷ ops) rr rm agree =
    let head = reply_agrees n rows more earlier op rr rm (λ q is. agree q (or_left (looks_up q earlier op) (list_any (λ o. looks_up q o.earlier o.item) (numbered_from (k + 1) (earlier ++ op ∷ []) ops)) is)) in
    let rest = play_from n (k + 1) rows more (earlier ++ op ∷ []) ops rr rm (λ q is. agree q (or_right (looks_up q earlier op) (list_any (λ o. looks_up q o.earlier o.item) (numbered_from (k + 1) (earlier ++ op ∷ []) ops)) is)) in
    let rest' : play n (rows_after n (rows_after_all n rows earlier) op) ops ≡ play n (rows_after n (rows_after_all n more earlier) op) ops =
    sym (ap (λ r. play n r ops) (rows_after_all-push n rows earlier op)) ∙ rest ∙ ap (λ r. play n r ops) (rows_after_all-push n more earlier op) in
    λ i. head i ∷ rest' i

-- so a transaction gets one list of replies from rows that agree at each key that it looks up
pub play_agrees : (n : ℕ) (rows more : List StoredRow) (ops : List Op) → IsRising cell_of rows → IsRising cell_of more → ((q : Cell) → looks_up_key ops q ≡ true → row_at rows q ≡ row_at more q) → play n rows ops ≡ play n more ops
play_agrees n rows more ops rr rm agree = play_from n 1 rows more [] ops rr rm agree

-- a play of one more operation
pub play_push : (n : ℕ) (rows : List StoredRow) (ops : List Op) (op : Op) → play n rows (ops ++ op ∷ []) ≡ play n rows ops ++ see n rows ops op ∷ []
unfolding see
play_push n rows [] op = refl
play_push n rows (x ∷ xs) op = ap (λ l. reply_on rows x ∷ l) (play_push n (rows_after n rows x) xs op)

play_seen_from : (n : ℕ) (rows : List StoredRow) (earlier : List Op) (as' : List Answered) → AreSeen n rows earlier as' → play n (rows_after_all n rows earlier) (map (λ a. a.op) as') ≡ map (λ a. a.reply) as'
unfolding see
play_seen_from n rows earlier [] seen = refl
play_seen_from n rows earlier (a ∷ as') seen =
    let rest : play n (rows_after n (rows_after_all n rows earlier) a.op) (map (λ b. b.op) as') ≡ map (λ b. b.reply) as' =
    sym (ap (λ r. play n r (map (λ b. b.op) as')) (rows_after_all-push n rows earlier a.op)) ∙ play_seen_from n rows (earlier ++ a.op ∷ []) as' seen.1 in
    λ i. seen.0 i ∷ rest i

-- A play of a whole transaction gives the recorded replies, where each of them is what it sees.
pub play_seen : (n : ℕ) (rows : List StoredRow) (t : Transaction) → AreSeen n rows [] t.answered → play n rows (operations t) ≡ map (λ a. a.reply) t.answered
play_seen n rows t seen = play_seen_from n rows [] t.answered seen
