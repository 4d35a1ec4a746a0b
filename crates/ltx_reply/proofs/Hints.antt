-- The words of a reply's text hint at this reply.
use Rattle.std.proofs.Common.{◌≡◌, ◌≢◌, ℕ, ◌<◌, ◌^◌, true, false, ◌==◌, List, [], ◌∷◌, ◌++◌, length, flat_map, Option, Some, None, refl, sym, ap, ◌∙◌, append_assoc, append-nil, subst, arith, codes}
use Rattle.std.specs.Prelude.{All, IsTrue, bytes_eq}
use Rattle.std.specs.List.{AllByRecursion, join_with_byte, list_all}
use Rattle.std.proofs.lemmas.List.Elements.{All-from_recursion, recursion_from_All}
use Rattle.std.proofs.lemmas.List.Splits.{slice_split_at, slice_split_none}
use Rattle.ltx_model.specs.declared.commands.Bad.{Bad}
use Rattle.ltx_model.specs.declared.commands.Bad.TheVariants as causes
use Rattle.ltx_model.specs.declared.replies.Reply.{Reply}
use Rattle.ltx_model.specs.declared.replies.Reply.TheVariants as replies
use Rattle.ltx_model.specs.declared.rows.Row.{Row}
use Rattle.ltx_text.specs.Words.{AreVisible, is_visible, word_of}
use Rattle.ltx_text.specs.Decimals.{decimal_of}
use Rattle.ltx_text.proofs.DecimalLemmas.{decimal_digits, decimal_is_visible, no_digit}
use Rattle.ltx_text.proofs.WordLemmas.{word_is_visible}
use Rattle.ltx_reply.specs.Texts.{row_text, writer_text, cause_text, reply_text, witness_text, IsReply, IsWriter, IsRow, IsWithinLimits}
use Rattle.ltx_model.specs.Limits.{IsTx, IsCount, IsTable, IsKey, IsValue}
use Rattle.ltx_text.specs.Cuts.{spaced, cut_at, words_of}
use Rattle.ltx_reply.specs.Readings.{tx_at, count_at, table_at, key_at, value_at, writer_at, cause_at, five, begun_at, committed_at, rows_in, rows_at, preserved_at, changed_at, late_at, contradicts_at, numbered_at, single_at, worded_at, fixed_at, guess_at}
use Rattle.ltx_text.proofs.WordReadings.{bytes_again, both_true, other_bytes, same_bytes}
use Rattle.ltx_text.proofs.Numbers.{number_some}
use Rattle.ltx_reply.proofs.PartLemmas.{key_some, value_some}

-- ---- words are cut apart

-- a word has no space
abbrev pub HasNoSpace : List ℕ → Type 0
HasNoSpace word = All (λ b. (b == 32) ≡ false) word

no_space : (b : ℕ) → IsTrue (is_visible b) → (b == 32) ≡ false
no_space b visible = grind arith

no_spaces : (word : List ℕ) → AllByRecursion (λ b. IsTrue (is_visible b)) word → AllByRecursion (λ b. (b == 32) ≡ false) word
no_spaces [] visible = tt
no_spaces (b ∷ word) visible = (no_space b visible.0, no_spaces word visible.1)

visible_word : (word : List ℕ) → AreVisible word → HasNoSpace word
visible_word word visible = All-from_recursion (λ b. (b == 32) ≡ false) word (no_spaces word (recursion_from_All (λ b. IsTrue (is_visible b)) word visible))

all_visible : (word : List ℕ) → list_all is_visible word ≡ true → AllByRecursion (λ b. IsTrue (is_visible b)) word
all_visible [] e = tt
all_visible (b ∷ word) e = let p = both_true (is_visible b) (list_all is_visible word) e in (p.0, all_visible word p.1)

-- a word of letters
named : (word : List ℕ) → list_all is_visible word ≡ true → HasNoSpace word
named word e = visible_word word (All-from_recursion (λ b. IsTrue (is_visible b)) word (all_visible word e))

pub cut_words : (word : List ℕ) (words : List (List ℕ)) → AllByRecursion HasNoSpace (word ∷ words) → words_of (join_with_byte 32 (word ∷ words)) ≡ word ∷ words
unfolding cut_at
cut_words word [] apart = slice_split_none (λ b. b == 32) word apart.0
cut_words word (next ∷ words) apart =
    slice_split_at (λ b. b == 32) word 32 (join_with_byte 32 (next ∷ words)) apart.0 refl ∙ ap (λ (ws : List (List ℕ)). word ∷ ws) (cut_words next words apart.1)

-- a text of words that is no fixed one hints at what the words say
hints : (text : List ℕ) (reply : Reply) (word : List ℕ) (words : List (List ℕ)) → fixed_at text ≡ None → text ≡ join_with_byte 32 (word ∷ words)
    → AllByRecursion HasNoSpace (word ∷ words) → worded_at word words ≡ Some reply → guess_at text ≡ Some reply
unfolding guess_at
hints text reply word words fixed is apart said = rw (fixed, ap words_of is ∙ cut_words word words apart) said

-- ---- parts

tx_apart : (n : ℕ) → IsTx n → HasNoSpace (decimal_of n)
tx_apart n tx = visible_word (decimal_of n) (decimal_is_visible n (omega (arith, tx.1)))

tx_again : (n : ℕ) → IsTx n → tx_at (decimal_of n) ≡ Some n
tx_again n tx = number_some (decimal_of n) 1 9223372036854775808 n (omega (arith, tx.0)) (omega (arith, tx.1)) (omega arith) refl

count_apart : (n : ℕ) → IsCount n → HasNoSpace (decimal_of n)
count_apart n low = visible_word (decimal_of n) (decimal_is_visible n (omega (arith, low)))

count_again : (n : ℕ) → IsCount n → count_at (decimal_of n) ≡ Some n
count_again n low = number_some (decimal_of n) 0 4294967296 n (omega arith) low (omega arith) refl

table_apart : (n : ℕ) → IsTable n → HasNoSpace (decimal_of n)
table_apart n low = visible_word (decimal_of n) (decimal_is_visible n (omega (arith, low)))

table_again : (n : ℕ) → IsTable n → table_at (decimal_of n) ≡ Some n
table_again n low = number_some (decimal_of n) 0 64 n (omega arith) low (omega arith) refl

key_apart : (key : List ℕ) → IsKey key → HasNoSpace (word_of key)
key_apart key is = visible_word (word_of key) (word_is_visible key is.bytes)

key_again : (key : List ℕ) → IsKey key → key_at (word_of key) ≡ Some key
key_again key is = key_some (word_of key) key (bytes_again (word_of key) key is.bytes refl) is.some is.short

value_apart : (value : List ℕ) → IsValue value → HasNoSpace (word_of value)
value_apart value is = visible_word (word_of value) (word_is_visible value is.bytes)

value_again : (value : List ℕ) → IsValue value → value_at (word_of value) ≡ Some value
value_again value is = value_some (word_of value) value (bytes_again (word_of value) value is.bytes refl) is.short

writer_apart : (writer : Option ℕ) → IsWriter writer → HasNoSpace (writer_text writer)
writer_apart None is = named (codes "none") refl
writer_apart (Some n) is = tx_apart n is

cause_apart : (cause : Bad) → HasNoSpace (cause_text cause)
cause_apart causes.Verb = named (codes "verb") refl
cause_apart causes.Session = named (codes "session") refl
cause_apart causes.Table = named (codes "table") refl
cause_apart causes.Key = named (codes "key") refl
cause_apart causes.Value = named (codes "value") refl
cause_apart causes.Sets = named (codes "sets") refl
cause_apart causes.Words = named (codes "words") refl
cause_apart causes.Long = named (codes "long") refl

cause_again : (cause : Bad) → cause_at (cause_text cause) ≡ Some cause
unfolding cause_at
cause_again causes.Verb = refl
cause_again causes.Session = refl
cause_again causes.Table = refl
cause_again causes.Key = refl
cause_again causes.Value = refl
cause_again causes.Sets = refl
cause_again causes.Words = refl
cause_again causes.Long = refl

-- a decimal is no name
none_is_no_decimal : (n : ℕ) → n < 2 ^ 64 → codes "none" ≢ decimal_of n
none_is_no_decimal n low is = no_digit 110 refl (decimal_digits (codes "none") n low is).0.0

writer_again : (writer : Option ℕ) → IsWriter writer → writer_at (writer_text writer) ≡ Some writer
unfolding writer_at
writer_again None is = refl
writer_again (Some n) is =
    let other : bytes_eq (decimal_of n) (codes "none") ≡ false = other_bytes (decimal_of n) (codes "none") (λ e. none_is_no_decimal n (omega (arith, is.1)) (sym e)) in
    rw (other, tx_again n is) refl

-- ---- rows

-- the words of rows, two for each
abbrev row_words : List Row → List (List ℕ)
row_words [] = []
row_words (row ∷ rows) = word_of row.key ∷ word_of row.value ∷ row_words rows

rows_text : (front : List ℕ) (rows : List Row) → front ++ flat_map row_text rows ≡ join_with_byte 32 (front ∷ row_words rows)
rows_text front [] = append-nil front
rows_text front (row ∷ rows) =
    ap (λ (l : List ℕ). front ++ l) (append_assoc (spaced (word_of row.key)) (spaced (word_of row.value)) (flat_map row_text rows))
    ∙ ap (λ (l : List ℕ). front ++ (32 ∷ (word_of row.key ++ (32 ∷ l)))) (rows_text (word_of row.value) rows)

rows_apart : (rows : List Row) → AllByRecursion IsRow rows → AllByRecursion HasNoSpace (row_words rows)
rows_apart [] are = tt
rows_apart (row ∷ rows) are = (key_apart row.key are.0.0, (value_apart row.value are.0.1, rows_apart rows are.1))

rows_again : (rows : List Row) → AllByRecursion IsRow rows → rows_in (row_words rows) ≡ Some rows
rows_again [] are = refl
rows_again (row ∷ rows) are = rw (key_again row.key are.0.0, value_again row.value are.0.1, rows_again rows are.1) refl

-- ---- each reply

-- three words and five words, with one space between two
three_words : (a b c : List ℕ) → (a ++ spaced b) ++ spaced c ≡ join_with_byte 32 (a ∷ b ∷ c ∷ [])
three_words a b c = append_assoc a (spaced b) (spaced c)

five_words : (a b c d e : List ℕ) → (((a ++ spaced b) ++ spaced c) ++ spaced d) ++ spaced e ≡ join_with_byte 32 (a ∷ b ∷ c ∷ d ∷ e ∷ [])
five_words a b c d e =
    append_assoc ((a ++ spaced b) ++ spaced c) (spaced d) (spaced e)
    ∙ append_assoc (a ++ spaced b) (spaced c) (spaced d ++ spaced e)
    ∙ append_assoc a (spaced b) (spaced c ++ (spaced d ++ spaced e))

begun_word : HasNoSpace (codes "begun")
begun_word = named (codes "begun") refl

committed_word : HasNoSpace (codes "committed")
committed_word = named (codes "committed") refl

-- the text of each reply, within the limits of its parts, hints at it
pub reply_again : (reply : Reply) → IsWithinLimits reply → guess_at (reply_text reply) ≡ Some reply
unfolding reply_text witness_text guess_at fixed_at worded_at single_at numbered_at five begun_at committed_at rows_at preserved_at changed_at late_at contradicts_at
reply_again (replies.Begun n) is =
    hints (reply_text (replies.Begun n)) (replies.Begun n) (codes "begun") (decimal_of n ∷ []) refl refl
    (begun_word, (tx_apart n is, tt)) (rw (tx_again n is) refl)
reply_again (replies.BegunAt n epoch) is =
    hints (reply_text (replies.BegunAt n epoch)) (replies.BegunAt n epoch) (codes "begun") (decimal_of n ∷ codes "at" ∷ decimal_of epoch ∷ []) refl
    (ap (λ (l : List ℕ). codes "begun" ++ spaced l) (three_words (decimal_of n) (codes "at") (decimal_of epoch)))
    (begun_word, (tx_apart n is.0, (named (codes "at") refl, (count_apart epoch is.1, tt)))) (rw (tx_again n is.0, count_again epoch is.1) refl)
reply_again (replies.Found value) is =
    hints (reply_text (replies.Found value)) (replies.Found value) (codes "found") (word_of value ∷ []) refl refl
    (named (codes "found") refl, (value_apart value is, tt)) (rw (value_again value is) refl)
reply_again replies.Absent is = refl
reply_again (replies.Rows rows) is =
    hints (reply_text (replies.Rows rows)) (replies.Rows rows) (codes "rows") (decimal_of (length rows) ∷ row_words rows) refl
    (ap (λ (l : List ℕ). codes "rows" ++ 32 ∷ l) (rows_text (decimal_of (length rows)) rows))
    (named (codes "rows") refl, (visible_word (decimal_of (length rows)) (decimal_is_visible (length rows) is.0), rows_apart rows is.1))
    (rw (rows_again rows is.1) refl)
reply_again replies.Done is = refl
reply_again (replies.Committed epoch) is =
    hints (reply_text (replies.Committed epoch)) (replies.Committed epoch) (codes "committed") (decimal_of epoch ∷ []) refl refl
    (committed_word, (count_apart epoch is, tt)) (rw (count_again epoch is) refl)
reply_again (replies.CommittedBefore epoch target) is =
    hints (reply_text (replies.CommittedBefore epoch target)) (replies.CommittedBefore epoch target) (codes "committed") (decimal_of epoch ∷ codes "before" ∷ decimal_of target ∷ []) refl
    (ap (λ (l : List ℕ). codes "committed" ++ spaced l) (three_words (decimal_of epoch) (codes "before") (decimal_of target)))
    (committed_word, (count_apart epoch is.0, (named (codes "before") refl, (tx_apart target is.1, tt)))) (rw (count_again epoch is.0, tx_again target is.1) refl)
reply_again replies.Aborted is = refl
reply_again (replies.Preserved table holder) is =
    hints (reply_text (replies.Preserved table holder)) (replies.Preserved table holder) (codes "preserved") (decimal_of table ∷ decimal_of holder ∷ []) refl refl
    (named (codes "preserved") refl, (table_apart table is.0, (tx_apart holder is.1, tt))) (rw (table_again table is.0, tx_again holder is.1) refl)
reply_again (replies.Changed op table key found current) is =
    hints (reply_text (replies.Changed op table key found current)) (replies.Changed op table key found current) (codes "changed")
    (decimal_of op ∷ decimal_of table ∷ word_of key ∷ writer_text found ∷ writer_text current ∷ []) refl
    (ap (λ (l : List ℕ). codes "changed" ++ spaced l) (five_words (decimal_of op) (decimal_of table) (word_of key) (writer_text found) (writer_text current)))
    (named (codes "changed") refl, (count_apart op is.0, (table_apart table is.1, (key_apart key is.2, (writer_apart found is.3, (writer_apart current is.4, tt))))))
    (rw (count_again op is.0, table_again table is.1, key_again key is.2, writer_again found is.3, writer_again current is.4) refl)
reply_again (replies.Late target op table key writer) is =
    hints (reply_text (replies.Late target op table key writer)) (replies.Late target op table key writer) (codes "late")
    (decimal_of target ∷ decimal_of op ∷ decimal_of table ∷ word_of key ∷ decimal_of writer ∷ []) refl
    (ap (λ (l : List ℕ). codes "late" ++ spaced l) (five_words (decimal_of target) (decimal_of op) (decimal_of table) (word_of key) (decimal_of writer)))
    (named (codes "late") refl, (tx_apart target is.0, (count_apart op is.1, (table_apart table is.2, (key_apart key is.3, (tx_apart writer is.4, tt))))))
    (rw (tx_again target is.0, count_again op is.1, table_again table is.2, key_again key is.3, tx_again writer is.4) refl)
reply_again (replies.Contradicts target op table key reader) is =
    hints (reply_text (replies.Contradicts target op table key reader)) (replies.Contradicts target op table key reader) (codes "contradicts")
    (decimal_of target ∷ decimal_of op ∷ decimal_of table ∷ word_of key ∷ decimal_of reader ∷ []) refl
    (ap (λ (l : List ℕ). codes "contradicts" ++ spaced l) (five_words (decimal_of target) (decimal_of op) (decimal_of table) (word_of key) (decimal_of reader)))
    (named (codes "contradicts") refl, (tx_apart target is.0, (count_apart op is.1, (table_apart table is.2, (key_apart key is.3, (tx_apart reader is.4, tt))))))
    (rw (tx_again target is.0, count_again op is.1, table_again table is.2, key_again key is.3, tx_again reader is.4) refl)
reply_again (replies.Waiting n) is =
    hints (reply_text (replies.Waiting n)) (replies.Waiting n) (codes "waiting") (decimal_of n ∷ []) refl refl
    (named (codes "waiting") refl, (tx_apart n is, tt)) (rw (tx_again n is) refl)
reply_again (replies.NotYet epoch) is =
    hints (reply_text (replies.NotYet epoch)) (replies.NotYet epoch) (codes "notyet") (decimal_of epoch ∷ []) refl refl
    (named (codes "notyet") refl, (count_apart epoch is, tt)) (rw (count_again epoch is) refl)
reply_again (replies.Outside table) is =
    hints (reply_text (replies.Outside table)) (replies.Outside table) (codes "outside") (decimal_of table ∷ []) refl refl
    (named (codes "outside") refl, (table_apart table is, tt)) (rw (table_again table is) refl)
reply_again (replies.NotPreserved table) is =
    hints (reply_text (replies.NotPreserved table)) (replies.NotPreserved table) (codes "notpreserved") (decimal_of table ∷ []) refl refl
    (named (codes "notpreserved") refl, (table_apart table is, tt)) (rw (table_again table is) refl)
reply_again replies.NoTx is = refl
reply_again replies.HasTx is = refl
reply_again replies.LimitEpoch is = refl
reply_again replies.LimitOps is = refl
reply_again replies.LimitTx is = refl
reply_again replies.LimitLog is = refl
reply_again (replies.Advanced epoch) is =
    hints (reply_text (replies.Advanced epoch)) (replies.Advanced epoch) (codes "epoch") (decimal_of epoch ∷ []) refl refl
    (named (codes "epoch") refl, (count_apart epoch is, tt)) (rw (count_again epoch is) refl)
reply_again (replies.Durable epoch) is =
    hints (reply_text (replies.Durable epoch)) (replies.Durable epoch) (codes "durable") (decimal_of epoch ∷ []) refl refl
    (named (codes "durable") refl, (count_apart epoch is, tt)) (rw (count_again epoch is) refl)
reply_again replies.Pruned is = refl
reply_again (replies.Bad cause) is =
    hints (reply_text (replies.Bad cause)) (replies.Bad cause) (codes "bad") (cause_text cause ∷ []) refl refl
    (named (codes "bad") refl, (cause_apart cause, tt)) (rw (cause_again cause) refl)
reply_again replies.Later is = refl

-- ---- what is read

same_reply : (x y : Reply) → Some x ≡ Some y → x ≡ y
same_reply x y e = cc

-- the guess is the reply that has the text
pub guessed : (text : List ℕ) (reply guess : Reply) → guess_at text ≡ Some guess → IsWithinLimits reply → reply_text reply ≡ text → guess ≡ reply
guessed text reply guess e is same = same_reply guess reply (sym e ∙ ap guess_at (sym same) ∙ reply_again reply is)

pub replies_differ : (x y : Reply) → IsWithinLimits x → IsWithinLimits y → reply_text x ≡ reply_text y → x ≡ y
replies_differ x y in_x in_y same = same_reply x y (sym (reply_again x in_x) ∙ ap guess_at same ∙ reply_again y in_y)

-- no reply that is as asked has this text
abbrev pub HasNoReply : List ℕ → Type 0
HasNoReply text = (reply : Reply) → IsReply reply → IsWithinLimits reply → reply_text reply ≢ text

pub none_unread : (text : List ℕ) → guess_at text ≡ None → HasNoReply text
none_unread text e reply kept is same = let no : Some reply ≡ None = sym (reply_again reply is) ∙ ap guess_at same ∙ e in absurd cc

pub none_unkept : (text : List ℕ) (guess : Reply) → guess_at text ≡ Some guess → (IsReply guess → ⊥) → HasNoReply text
none_unkept text guess e unkept reply kept is same = unkept (subst IsReply (sym (guessed text reply guess e is same)) kept)

pub none_unlike : (text : List ℕ) (guess : Reply) → guess_at text ≡ Some guess → bytes_eq (reply_text guess) text ≡ false → HasNoReply text
none_unlike text guess e unlike reply kept is same =
    let yes : bytes_eq (reply_text guess) text ≡ true = same_bytes (reply_text guess) text (ap reply_text (guessed text reply guess e is same) ∙ same) in
    let no : true ≡ false = sym yes ∙ unlike in absurd cc
