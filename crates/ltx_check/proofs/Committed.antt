-- In a history whose entries may stand where they do, each committed transaction is what the history told of its number.
use Rattle.std.proofs.Common.{◌≡◌, ℕ, ◌+◌, ◌<◌, Bool, true, false, ◌==◌, List, [], ◌∷◌, ◌++◌, map, length, Option, Some, None, option_map, refl, sym, ap, subst, ◌∙◌, append_assoc, append-nil, arith}
use Rattle.std.specs.Prelude.{nat_le, max, is_some}
use Rattle.std.specs.List.{find, cons_option}
use Rattle.std.proofs.lemmas.Bool.{eq-eqb, ne_eqb, leb-false}
use Rattle.ltx_model.specs.declared.commands.Op.{Op}
use Rattle.ltx_model.specs.declared.replies.Entry.{Entry}
use Rattle.ltx_model.specs.declared.replies.Reply.{Reply}
use Rattle.ltx_model.specs.declared.replies.Reply.TheVariants as replies
use Rattle.ltx_model.specs.Lists.{change_first, without_first}
use Rattle.ltx_model.specs.Operations.{Answered, Transaction}
use Rattle.ltx_model.specs.Histories.{session_of, operation_of}
use Rattle.ltx_model.specs.Explained.{Open, is_session, with_answer, Effect, Begins, Answers, Commits, Ends, Leaves, answers_if, effect_of, opens_by, opens_in, opens_after, opens_from, commit_by, commit_in_session, committed_from, committed_in}
use Rattle.ltx_model.proofs.OneMore.{opens-push, committed-push}
use Rattle.ltx_check.specs.Opens.{Desk, first_desk, desk_after, desk_after_in, desk_after_reply, desk_from, is_open_fault, is_misplaced, is_misplaced_in, AreWellPlaced, IsWellPlaced, seat_of}
use Rattle.ltx_check.specs.Replays.{Told, answer_by, has_number, told_if, told_in, told_by, told_from, told_of}
use Rattle.ltx_check.proofs.Seats.{or_false}
use Rattle.ltx_check.proofs.Belongs.{Kept, kept_none, kept_same, kept_end, kept_begin, kept_commit, kept_answer, change_none}

-- ---- one entry more

pub told_more : (n place : ℕ) (opens : List Open) (xs : List Entry) (x : Entry) → told_from n place opens (xs ++ x ∷ []) ≡ told_from n place opens xs ++ cons_option (told_by n (place + length xs) (opens_from opens xs) x) []
unfolding told_from opens_from
told_more n place opens [] x = ap (λ k. cons_option (told_by n k opens x) []) (omega arith)
told_more n place opens (y ∷ xs) x =
    let rest = told_more n (place + 1) (opens_after opens y) xs x in
    let far : (place + 1) + length xs ≡ place + length (y ∷ xs) = omega arith in
    ap (cons_option (told_by n place opens y)) (rest ∙ ap (λ k. told_from n (place + 1) (opens_after opens y) xs ++ cons_option (told_by n k (opens_from (opens_after opens y) xs) x) []) far)
    ∙ joined (told_by n place opens y)
  where
    joined : (o : Option Told) → cons_option o (told_from n (place + 1) (opens_after opens y) xs ++ cons_option (told_by n (place + length (y ∷ xs)) (opens_from (opens_after opens y) xs) x) [])
        ≡ cons_option o (told_from n (place + 1) (opens_after opens y) xs) ++ cons_option (told_by n (place + length (y ∷ xs)) (opens_from (opens_after opens y) xs) x) []
    joined None = refl
    joined (Some t) = refl

pub told_push : (front : List Entry) (entry : Entry) (n : ℕ) → told_of (front ++ entry ∷ []) n ≡ told_of front n ++ cons_option (told_by n (length front) (opens_from [] front) entry) []
told_push front entry n =
    let zero_more : 0 + length front ≡ length front = omega arith in
    told_more n 0 [] front entry ∙ ap (λ k. told_of front n ++ cons_option (told_by n k (opens_from [] front) entry) []) zero_more

-- the answers told of a number
abbrev pub answers_of : List Entry → ℕ → List Answered
answers_of history n = map (λ x. x.answered) (told_of history n)

answer_of : Option Told → List Answered
answer_of None = []
answer_of (Some t) = t.answered ∷ []

mapped : (ts : List Told) (o : Option Told) → map (λ x. x.answered) (ts ++ cons_option o []) ≡ map (λ x. x.answered) ts ++ answer_of o
unfolding answer_of
mapped [] None = refl
mapped [] (Some t) = refl
mapped (x ∷ ts) o = ap (λ l. x.answered ∷ l) (mapped ts o)

answers_more : (front : List Entry) (entry : Entry) (n : ℕ) → answers_of (front ++ entry ∷ []) n ≡ answers_of front n ++ answer_of (told_by n (length front) (opens_from [] front) entry)
answers_more front entry n = ap (map (λ x. x.answered)) (told_push front entry n) ∙ mapped (told_of front n) (told_by n (length front) (opens_from [] front) entry)

-- ---- what an entry keeps

module _ (told new : ℕ → List Answered) (opens : List Open) (done : List Transaction) (last place session : ℕ) where
  by_answer : (op : Option Op) (reply : Reply) → ((n : ℕ) → new n ≡ told n ++ answer_of (told_if (has_number n (find (is_session session) opens)) place (answer_by Answers op reply)))
      → Kept told opens done last → Kept new (answers_if op reply session opens) done last
  unfolding answer_of
  by_answer None reply is kept = kept_same told new opens done last (λ n. is n ∙ nothing (has_number n (find (is_session session) opens)) (told n)) kept
    where
      nothing : (b : Bool) (l : List Answered) → l ++ answer_of (told_if b place None) ≡ l
      nothing true l = append-nil l
      nothing false l = append-nil l
  by_answer (Some op) reply is kept = by (find (is_session session) opens) refl
    where
      a : Answered
      a = record { op = op; reply = reply }

      passes : (b : Bool) (l : List Answered) → b ≡ true → l ++ answer_of (told_if b place (Some a)) ≡ l ++ a ∷ []
      passes true l e = refl
      passes false l e = cc

      fails : (b : Bool) (l : List Answered) → b ≡ false → l ++ answer_of (told_if b place (Some a)) ≡ l
      fails true l e = cc
      fails false l e = append-nil l

      by : (o : Option Open) → find (is_session session) opens ≡ o → Kept new (change_first (is_session session) (with_answer a) opens) done last
      by None found = subst (λ os. Kept new os done last) (sym (change_none (is_session session) (with_answer a) opens found))
          (kept_same told new opens done last (λ n. is n ∙ ap (λ o. told n ++ answer_of (told_if (has_number n o) place (Some a))) found ∙ append-nil (told n)) kept)
      by (Some o) found = kept_answer told opens done last session new o a found
          (is o.tx.number ∙ ap (λ p. told o.tx.number ++ answer_of (told_if (has_number o.tx.number p) place (Some a))) found ∙ passes (o.tx.number == o.tx.number) (told o.tx.number) (eq-eqb o.tx.number o.tx.number refl))
          (λ n no. is n ∙ ap (λ p. told n ++ answer_of (told_if (has_number n p) place (Some a))) found ∙ fails (o.tx.number == n) (told n) (ne_eqb o.tx.number n no))
          kept

  stays : (effect : Effect) (op : Option Op) (reply : Reply) → (answer_by effect op reply ≡ None) → ((n : ℕ) → new n ≡ told n ++ answer_of (told_if (has_number n (find (is_session session) opens)) place (answer_by effect op reply))) → (n : ℕ) → new n ≡ told n
  unfolding answer_of
  stays effect op reply none is n = is n ∙ ap (λ a. told n ++ answer_of (told_if (has_number n (find (is_session session) opens)) place a)) none ∙ nothing (has_number n (find (is_session session) opens)) (told n)
    where
      nothing : (b : Bool) (l : List Answered) → l ++ answer_of (told_if b place None) ≡ l
      nothing true l = append-nil l
      nothing false l = append-nil l

  by_commit : (o : Option Open) → find (is_session session) opens ≡ o → Kept told opens done last → Kept told (without_first (is_session session) opens) (done ++ cons_option (option_map (λ x. x.tx) o) []) last
  by_commit None found kept = subst (λ ts. Kept told (without_first (is_session session) opens) ts last) (sym (append-nil done)) (kept_end told opens done last session kept)
  by_commit (Some o) found kept = kept_commit told opens done last session o found kept

-- the greatest number begun after an effect
abbrev last_by : Effect → ℕ → ℕ
last_by (Begins n) last = max last n
last_by Answers last = last
last_by Commits last = last
last_by Ends last = last
last_by Leaves last = last

-- what begins has a number above all before
abbrev IsLater : Effect → ℕ → Type 0
IsLater (Begins n) last = last < n
IsLater Answers last = Unit {0}
IsLater Commits last = Unit {0}
IsLater Ends last = Unit {0}
IsLater Leaves last = Unit {0}

module _ (told new : ℕ → List Answered) (opens : List Open) (done : List Transaction) (last place session : ℕ) (op : Option Op) (reply : Reply) where
  no_commit : (os : List Open) (l : ℕ) → Kept new os done l → Kept new os (done ++ []) l
  no_commit os l kept = subst (λ ts. Kept new os ts l) (sym (append-nil done)) kept

  by_effect : (effect : Effect) → IsLater effect last → ((n : ℕ) → new n ≡ told n ++ answer_of (told_if (has_number n (find (is_session session) opens)) place (answer_by effect op reply)))
      → Kept told opens done last → Kept new (opens_by effect op reply session opens) (done ++ cons_option (commit_by effect session opens) []) (last_by effect last)
  by_effect (Begins n) later is kept =
      let same = stays told new opens done last place session (Begins n) op reply refl is in
      let top : n ≡ max last n = omega (arith, later) in
      no_commit _ (max last n) (subst (Kept new _ done) top (kept_begin new opens done last session n later (kept_same told new opens done last same kept)))
  by_effect Answers later is kept = no_commit _ last (by_answer told new opens done last place session op reply is kept)
  by_effect Commits later is kept =
      let same = stays told new opens done last place session Commits op reply refl is in
      by_commit new new opens done last place session (find (is_session session) opens) refl (kept_same told new opens done last same kept)
  by_effect Ends later is kept =
      let same = stays told new opens done last place session Ends op reply refl is in
      no_commit _ last (kept_end new opens done last session (kept_same told new opens done last same kept))
  by_effect Leaves later is kept =
      let same = stays told new opens done last place session Leaves op reply refl is in
      no_commit opens last (kept_same told new opens done last same kept)

-- ---- replies and their effects

after_last : (session : ℕ) (d : Desk) (reply : Reply) → (desk_after_reply session reply d).last ≡ last_by (effect_of reply) d.last
after_last session d (replies.Begun n) = refl
after_last session d (replies.BegunAt n epoch) = refl
after_last session d (replies.Found value) = refl
after_last session d replies.Absent = refl
after_last session d (replies.Rows rows) = refl
after_last session d replies.Done = refl
after_last session d (replies.Committed epoch) = refl
after_last session d (replies.CommittedBefore epoch target) = refl
after_last session d replies.Aborted = refl
after_last session d (replies.Preserved table holder) = refl
after_last session d (replies.Changed number table key found current) = refl
after_last session d (replies.Late target number table key writer) = refl
after_last session d (replies.Contradicts target number table key reader) = refl
after_last session d (replies.Waiting n) = refl
after_last session d (replies.NotYet epoch) = refl
after_last session d (replies.Outside table) = refl
after_last session d (replies.NotPreserved table) = refl
after_last session d replies.NoTx = refl
after_last session d replies.HasTx = refl
after_last session d replies.LimitEpoch = refl
after_last session d replies.LimitOps = refl
after_last session d replies.LimitTx = refl
after_last session d replies.LimitLog = refl
after_last session d (replies.Advanced epoch) = refl
after_last session d (replies.Durable epoch) = refl
after_last session d replies.Pruned = refl
after_last session d (replies.Bad cause) = refl
after_last session d replies.Later = refl

module _ (session : ℕ) (d : Desk) where
  fine_later : (reply : Reply) → is_misplaced (seat_of d.seats session) d.last reply ≡ false → IsLater (effect_of reply) d.last
  fine_later (replies.Begun n) fine = leb-false n d.last (or_false (is_some (seat_of d.seats session)) (nat_le n d.last) fine).1
  fine_later (replies.BegunAt n epoch) fine = leb-false n d.last (or_false (is_some (seat_of d.seats session)) (nat_le n d.last) fine).1
  fine_later (replies.Found value) fine = tt
  fine_later replies.Absent fine = tt
  fine_later (replies.Rows rows) fine = tt
  fine_later replies.Done fine = tt
  fine_later (replies.Committed epoch) fine = tt
  fine_later (replies.CommittedBefore epoch target) fine = tt
  fine_later replies.Aborted fine = tt
  fine_later (replies.Preserved table holder) fine = tt
  fine_later (replies.Changed number table key found current) fine = tt
  fine_later (replies.Late target number table key writer) fine = tt
  fine_later (replies.Contradicts target number table key reader) fine = tt
  fine_later (replies.Waiting n) fine = tt
  fine_later (replies.NotYet epoch) fine = tt
  fine_later (replies.Outside table) fine = tt
  fine_later (replies.NotPreserved table) fine = tt
  fine_later replies.NoTx fine = tt
  fine_later replies.HasTx fine = tt
  fine_later replies.LimitEpoch fine = tt
  fine_later replies.LimitOps fine = tt
  fine_later replies.LimitTx fine = tt
  fine_later replies.LimitLog fine = tt
  fine_later (replies.Advanced epoch) fine = tt
  fine_later (replies.Durable epoch) fine = tt
  fine_later replies.Pruned fine = tt
  fine_later (replies.Bad cause) fine = tt
  fine_later replies.Later fine = tt

one_kept : (front : List Entry) (d : Desk) (entry : Entry) → is_open_fault d entry ≡ false → Kept (answers_of front) (opens_from [] front) (committed_in front) d.last
    → Kept (answers_of (front ++ entry ∷ [])) (opens_from [] (front ++ entry ∷ [])) (committed_in (front ++ entry ∷ [])) (desk_after d entry).last
unfolding answer_of
one_kept front d entry fine kept =
    subst (λ os. Kept new os (committed_in (front ++ entry ∷ [])) (desk_after d entry).last) (sym (opens-push [] front entry))
    (subst (λ ts. Kept new (opens_after opens entry) ts (desk_after d entry).last) (sym (committed-push [] front entry))
    (by (session_of entry.line) (answers_more front entry) (or_false _ _ fine).1))
  where
    opens : List Open
    opens = opens_from [] front

    done : List Transaction
    done = committed_in front

    told : ℕ → List Answered
    told = answers_of front

    new : ℕ → List Answered
    new = answers_of (front ++ entry ∷ [])

    by : (s : Option ℕ) → ((n : ℕ) → new n ≡ told n ++ answer_of (told_in n (length front) s opens entry)) → is_misplaced_in s d entry.reply ≡ false
        → Kept new (opens_in s entry opens) (done ++ cons_option (commit_in_session s entry.reply opens) []) (desk_after_in s entry.reply d).last
    by None is free = subst (λ ts. Kept new opens ts d.last) (sym (append-nil done)) (kept_same told new opens done d.last (λ n. is n ∙ append-nil (told n)) kept)
    by (Some session) is free = subst (Kept new (opens_in (Some session) entry opens) (done ++ cons_option (commit_in_session (Some session) entry.reply opens) [])) (sym (after_last session d entry.reply))
        (by_effect told new opens done d.last (length front) session (operation_of entry.line) entry.reply (effect_of entry.reply) (fine_later session d entry.reply free) is kept)

-- over entries
kept_from : (front rest : List Entry) (d : Desk) → AreWellPlaced d rest → Kept (answers_of front) (opens_from [] front) (committed_in front) d.last
    → Kept (answers_of (front ++ rest)) (opens_from [] (front ++ rest)) (committed_in (front ++ rest)) (desk_from d rest).last
unfolding AreWellPlaced desk_from
kept_from front [] d placed kept = subst (λ h. Kept (answers_of h) (opens_from [] h) (committed_in h) d.last) (sym (append-nil front)) kept
kept_from front (entry ∷ rest) d placed kept =
    let all = kept_from (front ++ entry ∷ []) rest (desk_after d entry) placed.1 (one_kept front d entry placed.0 kept) in
    subst (λ h. Kept (answers_of h) (opens_from [] h) (committed_in h) (desk_from (desk_after d entry) rest).last) (append_assoc front (entry ∷ []) rest) all

pub placed_kept : (history : List Entry) → IsWellPlaced history → Kept (answers_of history) (opens_from [] history) (committed_in history) (desk_from first_desk history).last
unfolding told_from opens_from committed_from
placed_kept history placed = kept_from [] history first_desk placed (kept_none (answers_of []) (λ n. refl))
