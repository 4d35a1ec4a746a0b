-- The large definitions over one entry, or one transaction, more.
use Rattle.std.proofs.Common.{◌≡◌, ℕ, List, [], ◌∷◌, ◌++◌, map, refl, sym, ap, ◌∙◌, Option, Some, None, Bool}
use Rattle.std.specs.List.{cons_option}
use Rattle.ltx_model.specs.declared.commands.Op.{Op}
use Rattle.ltx_model.specs.declared.commands.Line.{Line}
use Rattle.ltx_model.specs.declared.replies.Entry.{Entry}
use Rattle.ltx_model.specs.declared.replies.Reply.{Reply}
use Rattle.ltx_model.specs.declared.rows.StoredRow.{StoredRow}
use Rattle.ltx_model.specs.Operations.{Transaction, operations}
use Rattle.ltx_model.specs.Rows.{reply_on, rows_after_all, see, play, rows_after_transaction, run, RunGives}
use Rattle.ltx_model.specs.States.{State}
use Rattle.ltx_model.specs.Histories.{reply_changes, after, state_from}
use Rattle.ltx_model.specs.Answers.{staged, IsLegalFrom, entries_from}
use Rattle.ltx_model.specs.Explained.{Open, opens_after, opens_from, committed_by, committed_from}

-- the state
pub state-none : (s : State) → state_from s [] ≡ s
unfolding state_from
state-none s = refl

pub state-one : (s : State) (e : Entry) (es : List Entry) → state_from s (e ∷ es) ≡ state_from (after s e) es
unfolding state_from
state-one s e es = refl

pub state-append : (s : State) (xs ys : List Entry) → state_from s (xs ++ ys) ≡ state_from (state_from s xs) ys
unfolding state_from
state-append s [] ys = refl
state-append s (x ∷ xs) ys = state-append (after s x) xs ys

pub state-push : (s : State) (xs : List Entry) (x : Entry) → state_from s (xs ++ x ∷ []) ≡ after (state_from s xs) x
state-push s xs x = state-append s xs (x ∷ []) ∙ state-one (state_from s xs) x [] ∙ state-none (after (state_from s xs) x)

pub after-is : (s : State) (line : Line) (reply : Reply) → after s (record { line = line; reply = reply }) ≡ reply_changes s line reply
unfolding after
after-is s line reply = refl

-- legal histories
pub legal-none : (built : State → Line → Bool) (s : State) → IsLegalFrom built s []
unfolding IsLegalFrom
legal-none built s = tt

pub legal-one : (built : State → Line → Bool) (s : State) (e : Entry) (es : List Entry) → e.reply ≡ staged built s e.line → IsLegalFrom built (after s e) es → IsLegalFrom built s (e ∷ es)
unfolding IsLegalFrom
legal-one built s e es is rest = (is, rest)

pub legal-first : (built : State → Line → Bool) (s : State) (e : Entry) (es : List Entry) → IsLegalFrom built s (e ∷ es) → (e.reply ≡ staged built s e.line) × IsLegalFrom built (after s e) es
unfolding IsLegalFrom
legal-first built s e es legal = legal

pub legal-append : (built : State → Line → Bool) (s : State) (xs ys : List Entry) → IsLegalFrom built s xs → IsLegalFrom built (state_from s xs) ys → IsLegalFrom built s (xs ++ ys)
unfolding IsLegalFrom state_from
legal-append built s [] ys legal rest = rest
legal-append built s (x ∷ xs) ys legal rest = (legal.0, legal-append built (after s x) xs ys legal.1 rest)

pub legal-push : (built : State → Line → Bool) (s : State) (xs : List Entry) (x : Entry) → IsLegalFrom built s xs → x.reply ≡ staged built (state_from s xs) x.line → IsLegalFrom built s (xs ++ x ∷ [])
legal-push built s xs x legal is = legal-append built s xs (x ∷ []) legal (legal-one built (state_from s xs) x [] is (legal-none built (after (state_from s xs) x)))

pub legal-parts : (built : State → Line → Bool) (s : State) (xs ys : List Entry) → IsLegalFrom built s (xs ++ ys) → IsLegalFrom built s xs × IsLegalFrom built (state_from s xs) ys
unfolding IsLegalFrom state_from
legal-parts built s [] ys legal = (tt, legal)
legal-parts built s (x ∷ xs) ys legal = let rest = legal-parts built (after s x) xs ys legal.1 in ((legal.0, rest.0), rest.1)

-- the entries that lines get
pub entries-none : (built : State → Line → Bool) (s : State) → entries_from built s [] ≡ []
unfolding entries_from
entries-none built s = refl

pub entries-one : (built : State → Line → Bool) (s : State) (line : Line) → entries_from built s (line ∷ []) ≡ record { line = line; reply = staged built s line } ∷ []
unfolding entries_from
entries-one built s line = refl

pub entries-append : (built : State → Line → Bool) (s : State) (xs ys : List Line) → entries_from built s (xs ++ ys) ≡ entries_from built s xs ++ entries_from built (state_from s (entries_from built s xs)) ys
unfolding entries_from state_from
entries-append built s [] ys = refl
entries-append built s (x ∷ xs) ys = let e : Entry = record { line = x; reply = staged built s x } in ap (λ es. e ∷ es) (entries-append built (after s e) xs ys)

pub entries-push : (built : State → Line → Bool) (s : State) (xs : List Line) (x : Line)
    → entries_from built s (xs ++ x ∷ []) ≡ entries_from built s xs ++ record { line = x; reply = staged built (state_from s (entries_from built s xs)) x } ∷ []
entries-push built s xs x = entries-append built s xs (x ∷ []) ∙ ap (λ es. entries_from built s xs ++ es) (entries-one built (state_from s (entries_from built s xs)) x)

pub entries-lines : (built : State → Line → Bool) (s : State) (xs : List Line) → map (λ e. e.line) (entries_from built s xs) ≡ xs
unfolding entries_from
entries-lines built s [] = refl
entries-lines built s (x ∷ xs) = ap (λ ls. x ∷ ls) (entries-lines built (after s (record { line = x; reply = staged built s x })) xs)

pub entries-legal : (built : State → Line → Bool) (s : State) (xs : List Line) → IsLegalFrom built s (entries_from built s xs)
unfolding entries_from IsLegalFrom
entries-legal built s [] = tt
entries-legal built s (x ∷ xs) = (refl, entries-legal built (after s (record { line = x; reply = staged built s x })) xs)

-- a legal history is the one that its lines get
pub entries-only : (built : State → Line → Bool) (s : State) (es : List Entry) → IsLegalFrom built s es → entries_from built s (map (λ e. e.line) es) ≡ es
unfolding entries_from IsLegalFrom
entries-only built s [] legal = refl
entries-only built s (e ∷ es) legal =
    let same : ◌≡◌ {A = Entry} (record { line = e.line; reply = staged built s e.line }) e = λ i. record { line = e.line; reply = sym legal.0 i } in
    (λ i. same i ∷ entries_from built (after s (same i)) (map (λ f. f.line) es)) ∙ ap (λ fs. e ∷ fs) (entries-only built (after s e) es legal.1)

-- runs
pub see-is : (tx : ℕ) (rows : List StoredRow) (earlier : List Op) (op : Op) → see tx rows earlier op ≡ reply_on (rows_after_all tx rows earlier) op
unfolding see
see-is tx rows earlier op = refl

pub run-none : (rows : List StoredRow) → run rows [] ≡ rows
unfolding run
run-none rows = refl

pub run-one : (rows : List StoredRow) (t : Transaction) (ts : List Transaction) → run rows (t ∷ ts) ≡ run (rows_after_transaction rows t) ts
unfolding run
run-one rows t ts = refl

pub run-append : (rows : List StoredRow) (xs ys : List Transaction) → run rows (xs ++ ys) ≡ run (run rows xs) ys
unfolding run
run-append rows [] ys = refl
run-append rows (x ∷ xs) ys = run-append (rows_after_transaction rows x) xs ys

pub run-push : (rows : List StoredRow) (xs : List Transaction) (x : Transaction) → run rows (xs ++ x ∷ []) ≡ rows_after_transaction (run rows xs) x
run-push rows xs x = run-append rows xs (x ∷ []) ∙ run-one (run rows xs) x [] ∙ run-none (rows_after_transaction (run rows xs) x)

pub gives-none : (rows : List StoredRow) → RunGives rows []
unfolding RunGives
gives-none rows = tt

pub gives-one : (rows : List StoredRow) (t : Transaction) (ts : List Transaction) → play t.number rows (operations t) ≡ map (λ a. a.reply) t.answered → RunGives (rows_after_transaction rows t) ts → RunGives rows (t ∷ ts)
unfolding RunGives
gives-one rows t ts is rest = (is, rest)

pub gives-first : (rows : List StoredRow) (t : Transaction) (ts : List Transaction) → RunGives rows (t ∷ ts) → (play t.number rows (operations t) ≡ map (λ a. a.reply) t.answered) × RunGives (rows_after_transaction rows t) ts
unfolding RunGives
gives-first rows t ts gives = gives

pub gives-append : (rows : List StoredRow) (xs ys : List Transaction) → RunGives rows xs → RunGives (run rows xs) ys → RunGives rows (xs ++ ys)
unfolding RunGives run
gives-append rows [] ys gives rest = rest
gives-append rows (x ∷ xs) ys gives rest = (gives.0, gives-append (rows_after_transaction rows x) xs ys gives.1 rest)

pub gives-push : (rows : List StoredRow) (xs : List Transaction) (x : Transaction) → RunGives rows xs → play x.number (run rows xs) (operations x) ≡ map (λ a. a.reply) x.answered → RunGives rows (xs ++ x ∷ [])
gives-push rows xs x gives is = gives-append rows xs (x ∷ []) gives (gives-one (run rows xs) x [] is (gives-none (rows_after_transaction (run rows xs) x)))

-- what entries commit
pub opens-none : (opens : List Open) → opens_from opens [] ≡ opens
unfolding opens_from
opens-none opens = refl

pub opens-append : (opens : List Open) (xs ys : List Entry) → opens_from opens (xs ++ ys) ≡ opens_from (opens_from opens xs) ys
unfolding opens_from
opens-append opens [] ys = refl
opens-append opens (x ∷ xs) ys = opens-append (opens_after opens x) xs ys

pub opens-push : (opens : List Open) (xs : List Entry) (x : Entry) → opens_from opens (xs ++ x ∷ []) ≡ opens_after (opens_from opens xs) x
unfolding opens_from
opens-push opens xs x = opens-append opens xs (x ∷ [])

cons_append : (o : Option Transaction) (ts us : List Transaction) → cons_option o (ts ++ us) ≡ cons_option o ts ++ us
cons_append None ts us = refl
cons_append (Some t) ts us = refl

pub committed-append : (opens : List Open) (xs ys : List Entry) → committed_from opens (xs ++ ys) ≡ committed_from opens xs ++ committed_from (opens_from opens xs) ys
unfolding committed_from opens_from
committed-append opens [] ys = refl
committed-append opens (x ∷ xs) ys = ap (cons_option (committed_by opens x)) (committed-append (opens_after opens x) xs ys) ∙ cons_append (committed_by opens x) (committed_from (opens_after opens x) xs) (committed_from (opens_from (opens_after opens x) xs) ys)

pub committed-none : (opens : List Open) → committed_from opens [] ≡ []
unfolding committed_from
committed-none opens = refl

pub committed-push : (opens : List Open) (xs : List Entry) (x : Entry) → committed_from opens (xs ++ x ∷ []) ≡ committed_from opens xs ++ cons_option (committed_by (opens_from opens xs) x) []
unfolding committed_from
committed-push opens xs x = committed-append opens xs (x ∷ [])
