-- A text says one history, and has one first fault.
use Rattle.std.proofs.Common.{◌≡◌, ◌⊎◌, ℕ, List, [], ◌∷◌, ◌++◌, map, length, refl, sym, ap, subst, ◌∙◌, append_assoc, arith, inl, inr, codes}
use Rattle.std.proofs.lemmas.List.{append_cancel_left, append_cancel_right}
use Rattle.ltx_model.specs.declared.commands.Line.{Line}
use Rattle.ltx_model.specs.declared.commands.Line.TheVariants as lines
use Rattle.ltx_model.specs.declared.replies.Entry.{Entry}
use Rattle.ltx_model.specs.declared.replies.Reply.{Reply}
use Rattle.ltx_model.specs.declared.replies.Reply.TheVariants as replies
use Rattle.ltx_script.specs.Commands.{command_text}
use Rattle.ltx_reply.specs.Texts.{reply_text}
use Rattle.ltx_reply.proofs.Hints.{replies_differ}
use Rattle.ltx_check.specs.Cuts.{ended}
use Rattle.ltx_check.specs.Texts.{entry_line, IsAnswered, IsEntry, AreEntries, order_line, numbers_text}
use Rattle.ltx_check.specs.Lines.{entry_text, IsOrderText, IsDurableText, Says, Breaks, no_order, other_order, no_durable, other_durable, too_much, IsTextFault}
use Rattle.ltx_check.specs.Readings.{BeginsNoEntry}
use Rattle.ltx_check.proofs.Feeds.{same_line}
use Rattle.ltx_check.proofs.Numbers.{numbers_one}
use Rattle.ltx_check.proofs.Commands.{same_command, same_behind, no_question, no_order_name, first_of}

-- ---- entries have lines of their own

same_text : (l m : Line) (r s : Reply) → IsAnswered l r → IsAnswered m s → entry_line (record { line = l; reply = r }) ≡ entry_line (record { line = m; reply = s }) → (l ≡ m) × (r ≡ s)
same_text (lines.Good a) (lines.Good b) r s fits fits' is =
    let behind = same_behind a b (reply_text r) (reply_text s) fits.0 fits'.0 is in
    (ap lines.Good (same_command a b (reply_text r) (reply_text s) fits.0 fits'.0 is), replies_differ r s fits.2 fits'.2 behind)
same_text (lines.Good a) (lines.Bad cause) r s fits fits' is =
    absurd (no_question a (codes " => " ++ reply_text r) (codes " => " ++ reply_text s) fits.0 (sym (append_assoc (command_text a) (codes " => ") (reply_text r)) ∙ is))
same_text (lines.Bad cause) (lines.Good b) r s fits fits' is =
    absurd (no_question b (codes " => " ++ reply_text s) (codes " => " ++ reply_text r) fits'.0 (sym (append_assoc (command_text b) (codes " => ") (reply_text s)) ∙ sym is))
same_text (lines.Bad cause) (lines.Bad other) r s fits fits' is =
    let texts : reply_text r ≡ reply_text s = append_cancel_left (codes "? => ") (reply_text r) (reply_text s) is in
    let same : replies.Bad cause ≡ replies.Bad other
    = replies_differ (replies.Bad cause) (replies.Bad other) tt tt (ap reply_text (sym fits) ∙ texts ∙ ap reply_text fits') in
    let causes : cause ≡ other = cc in
    (ap lines.Bad causes, fits ∙ same ∙ sym fits')

same_entry : (d e : Entry) → IsEntry d → IsEntry e → entry_text d ≡ entry_text e → d ≡ e
same_entry d e fits fits' is =
    let both = same_text d.line e.line d.reply e.reply fits fits' (append_cancel_right (entry_line d) (entry_line e) (10 ∷ []) is) in
    λ i. record { line = both.0 i; reply = both.1 i }

-- ---- no entry is an order

no_order_text : (l : Line) (r : Reply) (order : List ℕ) → IsAnswered l r → entry_text (record { line = l; reply = r }) ≡ ended (order_line order) → ⊥
no_order_text (lines.Good a) r order fits is =
    no_order_name a (codes " => " ++ (reply_text r ++ 10 ∷ [])) _ fits.0
    (sym (append_assoc (command_text a ++ codes " => ") (reply_text r) (10 ∷ []) ∙ append_assoc (command_text a) (codes " => ") (reply_text r ++ 10 ∷ [])) ∙ is)
no_order_text (lines.Bad cause) r order fits is = let e : 63 ≡ 111 = ap first_of is in omega (arith, e)

order_is_none : (line : List ℕ) (more : List (List ℕ)) → IsOrderText line → BeginsNoEntry (line ∷ more)
order_is_none line more is entry others fits same =
    let heads : line ≡ entry_text entry = cc in
    no_order_text entry.line entry.reply is.0 fits (sym heads ∙ is.2)

nothing_is_none : BeginsNoEntry []
nothing_is_none entry others fits same = cc

first_line : (line other : List ℕ) (more others : List (List ℕ)) → line ∷ more ≡ other ∷ others → line ≡ other
first_line line other more others same = cc

pub breaks_none : (rest : List (List ℕ)) (n : ℕ) → Breaks rest n → BeginsNoEntry rest
breaks_none rest n no_order = nothing_is_none
breaks_none rest n (other_order {line = line} {more = more} none order) = λ entry others fits same. none (entry, fits, first_line line (entry_text entry) more others same)
breaks_none rest n (no_durable {order = line} is) = order_is_none line [] is
breaks_none rest n (other_durable {order = line} {line = next} {more = more} is none) = order_is_none line (next ∷ more) is
breaks_none rest n (too_much {order = line} {durable = durable} {line = next} {more = more} is is') = order_is_none line (durable ∷ next ∷ more) is

-- ---- the entries at the front are one history

pub record SameFront (h g : List Entry) (rest more : List (List ℕ)) : Type 0 where
  pub entries : h ≡ g
  pub behind : rest ≡ more

pub same_front : (h g : List Entry) (rest more : List (List ℕ)) → AreEntries h → AreEntries g → BeginsNoEntry rest → BeginsNoEntry more → map entry_text h ++ rest ≡ map entry_text g ++ more → SameFront h g rest more
same_front [] [] rest more fits fits' none none' is = record { entries = refl; behind = is }
same_front [] (e ∷ g) rest more fits fits' none none' is = absurd (none e (map entry_text g ++ more) fits'.0 is)
same_front (e ∷ h) [] rest more fits fits' none none' is = absurd (none' e (map entry_text h ++ rest) fits.0 (sym is))
same_front (d ∷ h) (e ∷ g) rest more fits fits' none none' is =
    let heads : entry_text d ≡ entry_text e = cc in
    let tails : map entry_text h ++ rest ≡ map entry_text g ++ more = cc in
    let one : d ≡ e = same_entry d e fits.0 fits'.0 heads in
    let same = same_front h g rest more fits.1 fits'.1 none none' tails in
    record { entries = λ i. one i ∷ same.entries i; behind = same.behind }

-- ---- the lines behind them break off at one place

Third : List (List ℕ) → ℕ → Type 0
Third [] n = ⊥
Third (line ∷ more) n = n ≡ 3

Second : List (List ℕ) → ℕ → Type 0
Second [] n = n ≡ 2
Second (line ∷ more) n = ((IsDurableText line → ⊥) × (n ≡ 2)) ⊎ (IsDurableText line × Third more n)

First : List (List ℕ) → ℕ → Type 0
First [] n = n ≡ 1
First (line ∷ more) n = ((IsOrderText line → ⊥) × (n ≡ 1)) ⊎ (IsOrderText line × Second more n)

first_place : (rest : List (List ℕ)) (n : ℕ) → Breaks rest n → First rest n
unfolding First Second Third
first_place rest n no_order = refl
first_place rest n (other_order none order) = inl (order, refl)
first_place rest n (no_durable is) = inr (is, refl)
first_place rest n (other_durable is none) = inr (is, inl (none, refl))
first_place rest n (too_much is is') = inr (is, inr (is', refl))

third_one : (rest : List (List ℕ)) (m n : ℕ) → Third rest m → Third rest n → m ≡ n
unfolding Third
third_one [] m n a b = absurd a
third_one (line ∷ more) m n a b = a ∙ sym b

second_one : (rest : List (List ℕ)) (m n : ℕ) → Second rest m → Second rest n → m ≡ n
unfolding Second
second_one [] m n a b = a ∙ sym b
second_one (line ∷ more) m n (inl a) (inl b) = a.1 ∙ sym b.1
second_one (line ∷ more) m n (inl a) (inr b) = absurd (a.0 b.0)
second_one (line ∷ more) m n (inr a) (inl b) = absurd (b.0 a.0)
second_one (line ∷ more) m n (inr a) (inr b) = third_one more m n a.1 b.1

first_one : (rest : List (List ℕ)) (m n : ℕ) → First rest m → First rest n → m ≡ n
unfolding First
first_one [] m n a b = a ∙ sym b
first_one (line ∷ more) m n (inl a) (inl b) = a.1 ∙ sym b.1
first_one (line ∷ more) m n (inl a) (inr b) = absurd (a.0 b.0)
first_one (line ∷ more) m n (inr a) (inl b) = absurd (b.0 a.0)
first_one (line ∷ more) m n (inr a) (inr b) = second_one more m n a.1 b.1

not_whole : (order durable : List ℕ) (n : ℕ) → IsOrderText order → IsDurableText durable → First (order ∷ durable ∷ []) n → ⊥
unfolding First Second Third
not_whole order durable n is is' (inl a) = a.0 is
not_whole order durable n is is' (inr (o, inl a)) = a.0 is'
not_whole order durable n is is' (inr (o, inr a)) = a.1

-- ---- texts

last_none : (order : List ℕ) (more : List (List ℕ)) → IsOrderText (ended (order_line order)) → BeginsNoEntry (ended (order_line order) ∷ more)
last_none order more is = order_is_none (ended (order_line order)) more is

pub says_one : (text : List ℕ) (h g : List Entry) (order other : List ℕ) (durable epoch : ℕ) → Says text h order durable → Says text g other epoch → h ≡ g
says_one text h g order other durable epoch a b =
    (same_front h g _ _ a.entries b.entries (last_none order _ (order, a.numbers, refl)) (last_none other _ (other, b.numbers, refl)) (sym a.lines ∙ b.lines)).entries

pub says_order : (text : List ℕ) (h g : List Entry) (order other : List ℕ) (durable epoch : ℕ) → Says text h order durable → Says text g other epoch → order ≡ other
says_order text h g order other durable epoch a b =
    let same = same_front h g _ _ a.entries b.entries (last_none order _ (order, a.numbers, refl)) (last_none other _ (other, b.numbers, refl)) (sym a.lines ∙ b.lines) in
    let lines : order_line order ≡ order_line other = same_line (order_line order) (order_line other) _ _ same.behind in
    numbers_one order other a.numbers b.numbers (append_cancel_left (codes "order") (numbers_text order) (numbers_text other) lines)

pub says_no_fault : (text : List ℕ) (h : List Entry) (order : List ℕ) (durable n : ℕ) → Says text h order durable → IsTextFault text n → ⊥
says_no_fault text h order durable n a b =
    let same = same_front h b.history _ b.rest a.entries b.entries (last_none order _ (order, a.numbers, refl)) (breaks_none b.rest b.place b.breaks) (sym a.lines ∙ b.lines) in
    not_whole _ _ b.place (order, a.numbers, refl) (durable, a.epoch, refl) (subst (λ l. First l b.place) (sym same.behind) (first_place b.rest b.place b.breaks))

pub one_text_fault : (text : List ℕ) (m n : ℕ) → IsTextFault text m → IsTextFault text n → m ≡ n
one_text_fault text m n a b =
    let same = same_front a.history b.history a.rest b.rest a.entries b.entries (breaks_none a.rest a.place a.breaks) (breaks_none b.rest b.place b.breaks) (sym a.lines ∙ b.lines) in
    let places : a.place ≡ b.place
    = first_one a.rest a.place b.place (first_place a.rest a.place a.breaks) (subst (λ l. First l b.place) (sym same.behind) (first_place b.rest b.place b.breaks)) in
    let long : length a.history ≡ length b.history = ap length same.entries in
    omega (arith, a.counted, b.counted, places, long)
