-- A guess at the reply that a text is, by its words. Each text of a reply gives this reply; another text may give one as well.
use Rattle.std.specs.Prelude.{ℕ, ◌+◌, ◌&&◌, nat_le, if◌then◌else◌, List, [], ◌∷◌, length, Option, Some, None, codes, bytes_eq}
use Rattle.ltx_model.specs.declared.commands.Bad.{Bad}
use Rattle.ltx_model.specs.declared.commands.Bad.TheVariants as causes
use Rattle.ltx_model.specs.declared.replies.Reply.{Reply}
use Rattle.ltx_model.specs.declared.replies.Reply.TheVariants as replies
use Rattle.ltx_model.specs.declared.rows.Row.{Row}
use Rattle.ltx_model.specs.Limits.{table_count, last_number, count_limit, key_limit, value_limit}
use Rattle.ltx_model.specs.Lists.{or_else}
use Rattle.ltx_text.specs.Readings.{bytes_of}
use Rattle.ltx_text.specs.Cuts.{words_of}
use Rattle.ltx_text.specs.Decimals.{number_in}

-- ---- words

infixl 10 ◌>>=◌
-- what follows a step that gave something
abbrev pub ◌>>=◌ : {A B : Type 0} → Option A → (A → Option B) → Option B
(Some x) >>= f = f x
None >>= f = None

-- the next word and those behind it
abbrev pub next_word : List (List ℕ) → Option (List ℕ × List (List ℕ))
next_word [] = None
next_word (word ∷ words) = Some (word, words)

-- five words
unfoldable pub five : List (List ℕ) → Option (List ℕ × List ℕ × List ℕ × List ℕ × List ℕ)
five words = do
  a ← next_word words
  b ← next_word a.1
  c ← next_word b.1
  d ← next_word c.1
  e ← next_word d.1
  Some (a.0, b.0, c.0, d.0, e.0)

-- ---- parts and their spellings

abbrev pub tx_at : List ℕ → Option ℕ
tx_at word = number_in 1 (last_number + 1) word

-- an epoch or an operation
abbrev pub count_at : List ℕ → Option ℕ
count_at word = number_in 0 count_limit word

abbrev pub table_at : List ℕ → Option ℕ
table_at word = number_in 0 table_count word

-- a byte string of such a length
abbrev pub of_length : ℕ → ℕ → Option (List ℕ) → Option (List ℕ)
of_length least most None = None
of_length least most (Some bytes) = if nat_le least (length bytes) && nat_le (length bytes) most then Some bytes else None

abbrev pub key_at : List ℕ → Option (List ℕ)
key_at word = of_length 1 key_limit (bytes_of word)

abbrev pub value_at : List ℕ → Option (List ℕ)
value_at word = of_length 0 value_limit (bytes_of word)

abbrev pub some_writer : Option ℕ → Option (Option ℕ)
some_writer None = None
some_writer (Some n) = Some (Some n)

-- a writer's number, or `none`
unfoldable pub writer_at : List ℕ → Option (Option ℕ)
writer_at word = if bytes_eq word (codes "none") then Some None else some_writer (tx_at word)

-- the cause with this name
unfoldable pub cause_at : List ℕ → Option Bad
cause_at word =
    if bytes_eq word (codes "verb") then Some causes.Verb
    else if bytes_eq word (codes "session") then Some causes.Session
    else if bytes_eq word (codes "table") then Some causes.Table
    else if bytes_eq word (codes "key") then Some causes.Key
    else if bytes_eq word (codes "value") then Some causes.Value
    else if bytes_eq word (codes "sets") then Some causes.Sets
    else if bytes_eq word (codes "words") then Some causes.Words
    else if bytes_eq word (codes "long") then Some causes.Long
    else None

-- ---- replies, from the words behind their first

abbrev pub begun_from : ℕ → List (List ℕ) → Option Reply
begun_from tx [] = Some (replies.Begun tx)
begun_from tx (at ∷ words) = do
  word ← next_word words
  epoch ← count_at word.0
  Some (replies.BegunAt tx epoch)

unfoldable pub begun_at : List (List ℕ) → Option Reply
begun_at words = do
  word ← next_word words
  tx ← tx_at word.0
  begun_from tx word.1

abbrev pub committed_from : ℕ → List (List ℕ) → Option Reply
committed_from epoch [] = Some (replies.Committed epoch)
committed_from epoch (before ∷ words) = do
  word ← next_word words
  target ← tx_at word.0
  Some (replies.CommittedBefore epoch target)

unfoldable pub committed_at : List (List ℕ) → Option Reply
committed_at words = do
  word ← next_word words
  epoch ← count_at word.0
  committed_from epoch word.1

-- rows from keys and values by turns
abbrev pub rows_in : List (List ℕ) → Option (List Row)
rows_in [] = Some []
rows_in (word ∷ []) = None
rows_in (key ∷ value ∷ words) = do
  k ← key_at key
  v ← value_at value
  rows ← rows_in words
  Some (record { key = k; value = v } ∷ rows)

unfoldable pub rows_at : List (List ℕ) → Option Reply
rows_at words = do
  count ← next_word words
  rows ← rows_in count.1
  Some (replies.Rows rows)

unfoldable pub preserved_at : List (List ℕ) → Option Reply
preserved_at words = do
  first ← next_word words
  second ← next_word first.1
  table ← table_at first.0
  holder ← tx_at second.0
  Some (replies.Preserved table holder)

unfoldable pub changed_at : List (List ℕ) → Option Reply
changed_at words = do
  parts ← five words
  op ← count_at parts.0
  table ← table_at parts.1
  key ← key_at parts.2
  found ← writer_at parts.3
  current ← writer_at parts.4
  Some (replies.Changed op table key found current)

unfoldable pub late_at : List (List ℕ) → Option Reply
late_at words = do
  parts ← five words
  target ← tx_at parts.0
  op ← count_at parts.1
  table ← table_at parts.2
  key ← key_at parts.3
  writer ← tx_at parts.4
  Some (replies.Late target op table key writer)

unfoldable pub contradicts_at : List (List ℕ) → Option Reply
contradicts_at words = do
  parts ← five words
  target ← tx_at parts.0
  op ← count_at parts.1
  table ← table_at parts.2
  key ← key_at parts.3
  reader ← tx_at parts.4
  Some (replies.Contradicts target op table key reader)

-- replies with one number behind their first word
unfoldable pub numbered_at : List ℕ → List ℕ → Option Reply
numbered_at word number =
    if bytes_eq word (codes "waiting") then tx_at number >>= (λ n. Some (replies.Waiting n))
    else if bytes_eq word (codes "notyet") then count_at number >>= (λ n. Some (replies.NotYet n))
    else if bytes_eq word (codes "outside") then table_at number >>= (λ n. Some (replies.Outside n))
    else if bytes_eq word (codes "notpreserved") then table_at number >>= (λ n. Some (replies.NotPreserved n))
    else if bytes_eq word (codes "epoch") then count_at number >>= (λ n. Some (replies.Advanced n))
    else if bytes_eq word (codes "durable") then count_at number >>= (λ n. Some (replies.Durable n))
    else None

-- replies with one part behind their first word
unfoldable pub single_at : List ℕ → List ℕ → Option Reply
single_at word part =
    if bytes_eq word (codes "found") then value_at part >>= (λ value. Some (replies.Found value))
    else if bytes_eq word (codes "bad") then cause_at part >>= (λ cause. Some (replies.Bad cause))
    else numbered_at word part

-- replies with parts
unfoldable pub worded_at : List ℕ → List (List ℕ) → Option Reply
worded_at word words =
    if bytes_eq word (codes "begun") then begun_at words
    else if bytes_eq word (codes "rows") then rows_at words
    else if bytes_eq word (codes "committed") then committed_at words
    else if bytes_eq word (codes "preserved") then preserved_at words
    else if bytes_eq word (codes "changed") then changed_at words
    else if bytes_eq word (codes "late") then late_at words
    else if bytes_eq word (codes "contradicts") then contradicts_at words
    else next_word words >>= (λ part. single_at word part.0)

-- replies of fixed words
unfoldable pub fixed_at : List ℕ → Option Reply
fixed_at text =
    if bytes_eq text (codes "none") then Some replies.Absent
    else if bytes_eq text (codes "done") then Some replies.Done
    else if bytes_eq text (codes "aborted") then Some replies.Aborted
    else if bytes_eq text (codes "notx") then Some replies.NoTx
    else if bytes_eq text (codes "hastx") then Some replies.HasTx
    else if bytes_eq text (codes "limit epoch") then Some replies.LimitEpoch
    else if bytes_eq text (codes "limit ops") then Some replies.LimitOps
    else if bytes_eq text (codes "limit tx") then Some replies.LimitTx
    else if bytes_eq text (codes "limit log") then Some replies.LimitLog
    else if bytes_eq text (codes "pruned") then Some replies.Pruned
    else if bytes_eq text (codes "later") then Some replies.Later
    else None

abbrev pub said_by : List (List ℕ) → Option Reply
said_by [] = None
said_by (word ∷ words) = worded_at word words

-- the reply at which the words of a text hint
unfoldable pub guess_at : List ℕ → Option Reply
guess_at text = or_else (fixed_at text) (said_by (words_of text))
