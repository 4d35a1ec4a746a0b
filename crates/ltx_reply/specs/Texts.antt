-- The text of each reply: words of visible bytes with one space between two.
use Rattle.std.specs.Prelude.{◌≢◌, ℕ, ◌<◌, ◌^◌, List, ◌++◌, length, flat_map, Option, Some, None, codes}
use Rattle.std.specs.List.{AllByRecursion}
use Rattle.ltx_model.specs.declared.commands.Bad.{Bad}
use Rattle.ltx_model.specs.declared.commands.Bad.TheVariants as causes
use Rattle.ltx_model.specs.declared.replies.Reply.{Reply}
use Rattle.ltx_model.specs.declared.replies.Reply.TheVariants as replies
use Rattle.ltx_model.specs.declared.rows.Row.{Row}
use Rattle.ltx_model.specs.Keys.{Cell, IsRising}
use Rattle.ltx_text.specs.Cuts.{spaced}
use Rattle.ltx_text.specs.Words.{word_of}
use Rattle.ltx_model.specs.Limits.{IsTx, IsTable, IsCount, IsKey, IsValue}
use Rattle.ltx_text.specs.Decimals.{decimal_of}

-- a transaction's number, or `none`
abbrev pub writer_text : Option ℕ → List ℕ
writer_text None = codes "none"
writer_text (Some n) = decimal_of n

abbrev pub row_text : Row → List ℕ
row_text row = spaced (word_of row.key) ++ spaced (word_of row.value)

abbrev pub cause_text : Bad → List ℕ
cause_text causes.Verb = codes "verb"
cause_text causes.Session = codes "session"
cause_text causes.Table = codes "table"
cause_text causes.Key = codes "key"
cause_text causes.Value = codes "value"
cause_text causes.Sets = codes "sets"
cause_text causes.Words = codes "words"
cause_text causes.Long = codes "long"

-- a target, an operation, a table, a key and another transaction, each after a space
unfoldable pub witness_text : ℕ → ℕ → ℕ → List ℕ → ℕ → List ℕ
witness_text target op table key other = spaced (decimal_of target) ++ spaced (decimal_of op) ++ spaced (decimal_of table) ++ spaced (word_of key) ++ spaced (decimal_of other)

-- the text of a reply
unfoldable pub reply_text : Reply → List ℕ
reply_text (replies.Begun n) = codes "begun" ++ spaced (decimal_of n)
reply_text (replies.BegunAt n epoch) = codes "begun" ++ spaced (decimal_of n) ++ spaced (codes "at") ++ spaced (decimal_of epoch)
reply_text (replies.Found value) = codes "found" ++ spaced (word_of value)
reply_text replies.Absent = codes "none"
reply_text (replies.Rows rows) = codes "rows" ++ spaced (decimal_of (length rows)) ++ flat_map row_text rows
reply_text replies.Done = codes "done"
reply_text (replies.Committed epoch) = codes "committed" ++ spaced (decimal_of epoch)
reply_text (replies.CommittedBefore epoch target) = codes "committed" ++ spaced (decimal_of epoch) ++ spaced (codes "before") ++ spaced (decimal_of target)
reply_text replies.Aborted = codes "aborted"
reply_text (replies.Preserved table holder) = codes "preserved" ++ spaced (decimal_of table) ++ spaced (decimal_of holder)
reply_text (replies.Changed op table key found current) = codes "changed" ++ spaced (decimal_of op) ++ spaced (decimal_of table) ++ spaced (word_of key) ++ spaced (writer_text found) ++ spaced (writer_text current)
reply_text (replies.Late target op table key writer) = codes "late" ++ witness_text target op table key writer
reply_text (replies.Contradicts target op table key reader) = codes "contradicts" ++ witness_text target op table key reader
reply_text (replies.Waiting n) = codes "waiting" ++ spaced (decimal_of n)
reply_text (replies.NotYet epoch) = codes "notyet" ++ spaced (decimal_of epoch)
reply_text (replies.Outside table) = codes "outside" ++ spaced (decimal_of table)
reply_text (replies.NotPreserved table) = codes "notpreserved" ++ spaced (decimal_of table)
reply_text replies.NoTx = codes "notx"
reply_text replies.HasTx = codes "hastx"
reply_text replies.LimitEpoch = codes "limit" ++ spaced (codes "epoch")
reply_text replies.LimitOps = codes "limit" ++ spaced (codes "ops")
reply_text replies.LimitTx = codes "limit" ++ spaced (codes "tx")
reply_text replies.LimitLog = codes "limit" ++ spaced (codes "log")
reply_text (replies.Advanced epoch) = codes "epoch" ++ spaced (decimal_of epoch)
reply_text (replies.Durable epoch) = codes "durable" ++ spaced (decimal_of epoch)
reply_text replies.Pruned = codes "pruned"
reply_text (replies.Bad cause) = codes "bad" ++ spaced (cause_text cause)
reply_text replies.Later = codes "later"

-- the place of a row in the order of keys
abbrev pub key_of : Row → Cell
key_of row = record { table = 0; key = row.key }

-- What a reply keeps beside the limits of its parts: operations are counted from 1, the two writers of a change differ,
-- and rows stand in strictly rising order of key.
abbrev pub IsReply : Reply → Type 0
IsReply (replies.Rows rows) = IsRising key_of rows
IsReply (replies.Changed op table key found current) = (0 < op) × (found ≢ current)
IsReply (replies.Late target op table key writer) = 0 < op
IsReply (replies.Contradicts target op table key reader) = 0 < op
IsReply reply = Unit {0}

-- a writer, if there is one
abbrev pub IsWriter : Option ℕ → Type 0
IsWriter None = Unit {0}
IsWriter (Some n) = IsTx n

abbrev pub IsRow : Row → Type 0
IsRow row = IsKey row.key × IsValue row.value

-- the parts of a reply are within the limits of their types
abbrev pub IsWithinLimits : Reply → Type 0
IsWithinLimits (replies.Begun n) = IsTx n
IsWithinLimits (replies.BegunAt n epoch) = IsTx n × IsCount epoch
IsWithinLimits (replies.Found value) = IsValue value
IsWithinLimits (replies.Rows rows) = (length rows < 2 ^ 64) × AllByRecursion IsRow rows
IsWithinLimits (replies.Committed epoch) = IsCount epoch
IsWithinLimits (replies.CommittedBefore epoch target) = IsCount epoch × IsTx target
IsWithinLimits (replies.Preserved table holder) = IsTable table × IsTx holder
IsWithinLimits (replies.Changed op table key found current) = IsCount op × IsTable table × IsKey key × IsWriter found × IsWriter current
IsWithinLimits (replies.Late target op table key writer) = IsTx target × IsCount op × IsTable table × IsKey key × IsTx writer
IsWithinLimits (replies.Contradicts target op table key reader) = IsTx target × IsCount op × IsTable table × IsKey key × IsTx reader
IsWithinLimits (replies.Waiting n) = IsTx n
IsWithinLimits (replies.NotYet epoch) = IsCount epoch
IsWithinLimits (replies.Outside table) = IsTable table
IsWithinLimits (replies.NotPreserved table) = IsTable table
IsWithinLimits (replies.Advanced epoch) = IsCount epoch
IsWithinLimits (replies.Durable epoch) = IsCount epoch
IsWithinLimits reply = Unit {0}
