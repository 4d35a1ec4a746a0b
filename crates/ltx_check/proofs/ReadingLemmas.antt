-- Reading a transcript line by line.
use Rattle.std.proofs.Common.{◌≡◌, ℕ, ◌+◌, ◌<◌, List, [], ◌∷◌, ◌++◌, map, length, refl, sym, ap, subst, ◌∙◌, arith}
use Rattle.ltx_model.specs.declared.replies.Entry.{Entry}
use Rattle.ltx_model.specs.Limits.{IsCount}
use Rattle.ltx_check.specs.Cuts.{lines_of, ended}
use Rattle.ltx_check.specs.Texts.{entry_line, IsEntry, AreEntries, order_line, AreTxs, durable_line}
use Rattle.ltx_check.specs.Lines.{entry_text, IsOrderText, IsDurableText, Says, Breaks, no_order, other_order, no_durable, other_durable, too_much, IsTextFault}
use Rattle.ltx_check.specs.Readings.{BeginsNoEntry, AreLast}
use Rattle.ltx_check.proofs.Feeds.{same_line, text_lines}

-- ---- entries

-- The line was read, and is no entry's.
pub begins_none : (text line : List ℕ) (more : List (List ℕ)) → lines_of text ≡ ended line ∷ more → ((entry : Entry) → IsEntry entry → entry_line entry ≡ line → ⊥) → BeginsNoEntry (lines_of text)
begins_none text line more cut none entry others fits is = none entry fits (sym (same_line line (entry_line entry) more others (sym cut ∙ is)))

-- These entries were read, and this rest was not.
pub record ReadsOn (whole rest : List ℕ) (entries : List Entry) : Type 0 where
  pub fits : AreEntries entries
  pub lines : lines_of whole ≡ map entry_text entries ++ lines_of rest

pub none_read : (whole : List ℕ) → ReadsOn whole whole []
none_read whole = record { fits = tt; lines = refl }

entries_more : (entries : List Entry) (entry : Entry) → AreEntries entries → IsEntry entry → AreEntries (entries ++ entry ∷ [])
entries_more [] entry all one = (one, tt)
entries_more (e ∷ entries) entry all one = (all.0, entries_more entries entry all.1 one)

texts_more : (entries : List Entry) (entry : Entry) (more : List (List ℕ)) → map entry_text (entries ++ entry ∷ []) ++ more ≡ map entry_text entries ++ entry_text entry ∷ more
texts_more [] entry more = refl
texts_more (e ∷ entries) entry more = ap (λ l. entry_text e ∷ l) (texts_more entries entry more)

pub one_read : (whole rest more : List ℕ) (entries : List Entry) (entry : Entry) → ReadsOn whole rest entries → IsEntry entry → lines_of rest ≡ entry_text entry ∷ lines_of more → ReadsOn whole more (entries ++ entry ∷ [])
one_read whole rest more entries entry kept fits cut = record {
  fits = entries_more entries entry kept.fits fits;
  lines = kept.lines ∙ ap (λ l. map entry_text entries ++ l) cut ∙ sym (texts_more entries entry (lines_of more));
}

-- ---- the two last lines

-- no line is the first, and an order
abbrev pub BeginsNoOrder : List (List ℕ) → Type 0
BeginsNoOrder lines = (order : List ℕ) (more : List (List ℕ)) → AreTxs order → lines ≡ ended (order_line order) ∷ more → ⊥

abbrev pub BeginsNoDurable : List (List ℕ) → Type 0
BeginsNoDurable lines = (epoch : ℕ) (more : List (List ℕ)) → IsCount epoch → lines ≡ ended (durable_line epoch) ∷ more → ⊥

pub no_order_read : (text line : List ℕ) (more : List (List ℕ)) → lines_of text ≡ ended line ∷ more → ((order : List ℕ) → AreTxs order → order_line order ≡ line → ⊥) → BeginsNoOrder (lines_of text)
no_order_read text line more cut none order others fits is = none order fits (sym (same_line line (order_line order) more others (sym cut ∙ is)))

pub no_durable_read : (text line : List ℕ) (more : List (List ℕ)) → lines_of text ≡ ended line ∷ more → ((epoch : ℕ) → IsCount epoch → durable_line epoch ≡ line → ⊥) → BeginsNoDurable (lines_of text)
no_durable_read text line more cut none epoch others fits is = none epoch fits (sym (same_line line (durable_line epoch) more others (sym cut ∙ is)))

pub breaks_first : (lines : List (List ℕ)) → BeginsNoEntry lines → BeginsNoOrder lines → Breaks lines 1
breaks_first [] entry order = no_order
breaks_first (line ∷ more) entry order =
    other_order (λ e. entry e.0 more e.1 (ap (λ l. l ∷ more) e.2)) (λ o. order o.0 more o.1 (ap (λ l. l ∷ more) o.2))

second : (order : List ℕ) (behind : List (List ℕ)) → IsOrderText order → BeginsNoDurable behind → Breaks (order ∷ behind) 2
second order [] is none = no_durable is
second order (line ∷ more) is none = other_durable is (λ d. none d.0 more d.1 (ap (λ l. l ∷ more) d.2))

pub breaks_second : (lines behind : List (List ℕ)) (order : List ℕ) → AreTxs order → lines ≡ ended (order_line order) ∷ behind → BeginsNoDurable behind → Breaks lines 2
breaks_second lines behind order txs is none = subst (λ l. Breaks l 2) (sym is) (second (ended (order_line order)) behind (order, txs, refl) none)

third : (order durable : List ℕ) (rest : List (List ℕ)) → 0 < length rest → IsOrderText order → IsDurableText durable → Breaks (order ∷ durable ∷ rest) 3
third order durable [] some is is' = absurd (omega (arith, some))
third order durable (line ∷ more) some is is' = too_much is is'

pub breaks_third : (lines behind rest : List (List ℕ)) (order : List ℕ) (durable : ℕ) → AreTxs order → lines ≡ ended (order_line order) ∷ behind → IsCount durable → behind ≡ ended (durable_line durable) ∷ rest → 0 < length rest → Breaks lines 3
breaks_third lines behind rest order durable txs is epoch is' some =
    subst (λ l. Breaks l 3) (sym (is ∙ ap (λ l. ended (order_line order) ∷ l) is')) (third (ended (order_line order)) (ended (durable_line durable)) rest some (order, txs, refl) (durable, epoch, refl))

pub last_read : (lines behind rest : List (List ℕ)) (order : List ℕ) (durable : ℕ) → AreTxs order → lines ≡ ended (order_line order) ∷ behind → IsCount durable → behind ≡ ended (durable_line durable) ∷ rest → rest ≡ [] → AreLast lines order durable
last_read lines behind rest order durable txs is epoch is' none = record {
  numbers = txs;
  epoch = epoch;
  parts = is ∙ ap (λ l. ended (order_line order) ∷ l) (is' ∙ ap (λ l. ended (durable_line durable) ∷ l) none);
}

-- a text has a line exactly where it has a byte
pub some_line : (text : List ℕ) → 0 < length text → 0 < length (lines_of text)
some_line text some = text_lines text some

-- ---- the whole

pub says : (text rest : List ℕ) (entries : List Entry) (order : List ℕ) (durable : ℕ) → ReadsOn text rest entries → AreLast (lines_of rest) order durable → Says text entries order durable
says text rest entries order durable kept last = record {
  entries = kept.fits;
  numbers = last.numbers;
  epoch = last.epoch;
  lines = kept.lines ∙ ap (λ l. map entry_text entries ++ l) last.parts;
}

pub faulty : (text rest : List ℕ) (entries : List Entry) (place number : ℕ) → ReadsOn text rest entries → Breaks (lines_of rest) place → number ≡ length entries + place → IsTextFault text number
faulty text rest entries place number kept breaks counted = record {
  history = entries;
  entries = kept.fits;
  rest = lines_of rest;
  lines = kept.lines;
  place = place;
  breaks = breaks;
  counted = counted;
}
