-- What explains a history: a serial order of the transactions that its entries commit. It is read off the entries alone.
use Rattle.std.specs.Prelude.{◌≡◌, ℕ, Bool, ◌==◌, false, List, [], ◌∷◌, ◌++◌, map, Option, Some, None, option_map, IsPermutation}
use Rattle.std.specs.List.{find, list_any, cons_option}
use Rattle.ltx_model.specs.declared.commands.Op.{Op}
use Rattle.ltx_model.specs.declared.replies.Entry.{Entry}
use Rattle.ltx_model.specs.declared.replies.Reply.{Reply}
use Rattle.ltx_model.specs.declared.replies.Reply.TheVariants as replies
use Rattle.ltx_model.specs.Lists.{change_first, without_first}
use Rattle.ltx_model.specs.Operations.{Answered, Transaction}
use Rattle.ltx_model.specs.Rows.{RunGives}
use Rattle.ltx_model.specs.States.{Base}
use Rattle.ltx_model.specs.Histories.{session_of, operation_of}

-- a session and its open transaction
pub record Open : Type 0 where
  pub session : ℕ
  pub tx : Transaction

-- it is the open transaction of this session
abbrev pub is_session : ℕ → Open → Bool
is_session session o = o.session == session

-- what a reply does to the open transaction of its session: a begin opens a new one, an answered operation is added to it,
-- and a commit or another end closes it
pub data Effect : Type 0 where
  Begins : ℕ → Effect
  Answers : Effect
  Commits : Effect
  Ends : Effect
  Leaves : Effect

-- the effect of each reply
abbrev pub effect_of : Reply → Effect
effect_of (replies.Begun n) = Begins n
effect_of (replies.BegunAt n epoch) = Begins n
effect_of (replies.Found value) = Answers
effect_of replies.Absent = Answers
effect_of (replies.Rows rows) = Answers
effect_of replies.Done = Answers
effect_of (replies.Committed epoch) = Commits
effect_of (replies.CommittedBefore epoch target) = Commits
effect_of replies.Aborted = Ends
effect_of (replies.Preserved table holder) = Ends
effect_of (replies.Changed op table key found current) = Ends
effect_of (replies.Late target op table key writer) = Ends
effect_of (replies.Contradicts target op table key reader) = Ends
effect_of reply = Leaves

-- an answered operation more
abbrev pub with_answer : Answered → Open → Open
with_answer a o = record { session = o.session; tx = record { number = o.tx.number; answered = o.tx.answered ++ a ∷ [] } }

-- an answered operation is added to the transaction of its session
abbrev pub answers_if : Option Op → Reply → ℕ → List Open → List Open
answers_if None reply session opens = opens
answers_if (Some op) reply session opens = change_first (is_session session) (with_answer (record { op = op; reply = reply })) opens

-- the open transactions after an effect in a session
abbrev pub opens_by : Effect → Option Op → Reply → ℕ → List Open → List Open
opens_by (Begins n) op reply session opens = without_first (is_session session) opens ++ record { session = session; tx = record { number = n; answered = [] } } ∷ []
opens_by Answers op reply session opens = answers_if op reply session opens
opens_by Commits op reply session opens = without_first (is_session session) opens
opens_by Ends op reply session opens = without_first (is_session session) opens
opens_by Leaves op reply session opens = opens

-- the open transactions after an entry in a session, if its line has one
abbrev pub opens_in : Option ℕ → Entry → List Open → List Open
opens_in None entry opens = opens
opens_in (Some session) entry opens = opens_by (effect_of entry.reply) (operation_of entry.line) entry.reply session opens

-- the open transactions after an entry
abbrev pub opens_after : List Open → Entry → List Open
opens_after opens entry = opens_in (session_of entry.line) entry opens

-- what an effect in a session commits
abbrev pub commit_by : Effect → ℕ → List Open → Option Transaction
commit_by (Begins n) session opens = None
commit_by Answers session opens = None
commit_by Commits session opens = option_map (λ o. o.tx) (find (is_session session) opens)
commit_by Ends session opens = None
commit_by Leaves session opens = None

-- what a reply in a session commits, if its line has one
abbrev pub commit_in_session : Option ℕ → Reply → List Open → Option Transaction
commit_in_session None reply opens = None
commit_in_session (Some session) reply opens = commit_by (effect_of reply) session opens

-- the transaction that an entry commits: the open one of its session, where the reply is a commit
abbrev pub committed_by : List Open → Entry → Option Transaction
committed_by opens entry = commit_in_session (session_of entry.line) entry.reply opens

-- the open transactions after entries
unfoldable pub opens_from : List Open → List Entry → List Open
opens_from opens [] = opens
opens_from opens (entry ∷ entries) = opens_from (opens_after opens entry) entries

-- what entries commit, in time, where these transactions are open before them
unfoldable pub committed_from : List Open → List Entry → List Transaction
committed_from opens [] = []
committed_from opens (entry ∷ entries) = cons_option (committed_by opens entry) (committed_from (opens_after opens entry) entries)

-- the transactions that a history commits, in time
abbrev pub committed_in : List Entry → List Transaction
committed_in history = committed_from [] history

-- no number twice
abbrev pub IsDistinct : List ℕ → Type 0
IsDistinct [] = Unit {0}
IsDistinct (x ∷ xs) = (list_any (λ y. y == x) xs ≡ false) × IsDistinct xs

-- An order explains a history: it has the committed transactions and no others, each once, and they get the replies that they
-- were given when they run in this order, one at a time, from the base's rows.
pub record IsExplained (base : Base) (history : List Entry) (order : List ℕ) : Type 0 where
  pub run : List Transaction
  pub numbers : map (λ t. t.number) run ≡ order
  pub distinct : IsDistinct order
  pub members : IsPermutation (committed_in history) run
  pub replies : RunGives base.rows run
