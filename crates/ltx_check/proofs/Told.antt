-- The seats of a history are its open transactions, so what is told as committed by the seats is what the history commits.
use Rattle.std.proofs.Common.{◌≡◌, ℕ, ◌+◌, ◌<◌, Bool, true, false, ◌==◌, List, [], ◌∷◌, ◌++◌, map, length, get_or, take, Option, Some, None, option_map, refl, sym, ap, subst, ◌∙◌}
use Rattle.std.specs.List.{find, cons_option}
use Rattle.ltx_model.specs.declared.commands.Op.{Op}
use Rattle.ltx_model.specs.declared.replies.Entry.{Entry}
use Rattle.ltx_model.specs.declared.replies.Reply.{Reply}
use Rattle.ltx_model.specs.declared.replies.Reply.TheVariants as replies
use Rattle.ltx_model.specs.Lists.{change_first, without_first}
use Rattle.ltx_model.specs.Operations.{Answered, Transaction}
use Rattle.ltx_model.specs.Histories.{session_of, operation_of}
use Rattle.ltx_model.specs.Explained.{Open, is_session, with_answer, answers_if, effect_of, opens_by, opens_in, opens_after, opens_from, commit_by, commit_in_session, committed_by, committed_from}
use Rattle.ltx_model.proofs.OneMore.{opens-push, committed-push}
use Rattle.ltx_check.specs.declared.desk.Seat.{Seat}
use Rattle.ltx_check.specs.Opens.{Desk, first_desk, is_seat, seat_of, without_seat, desk_after_reply, desk_after_in, desk_after, commits_number, commits_number_in, committed_number}
use Rattle.ltx_check.specs.Orders.{committed_numbers}
use Rattle.ltx_check.proofs.Placed.{take_more}

abbrev pub AreAlike : List Seat → List Open → Type 0
AreAlike [] [] = Unit {0}
AreAlike [] (o ∷ os) = ⊥
AreAlike (s ∷ ss) [] = ⊥
AreAlike (s ∷ ss) (o ∷ os) = (s.session ≡ o.session) × (s.number ≡ o.tx.number) × AreAlike ss os

alike_append : (ss : List Seat) (os : List Open) (s : Seat) (o : Open) → AreAlike ss os → s.session ≡ o.session → s.number ≡ o.tx.number → AreAlike (ss ++ s ∷ []) (os ++ o ∷ [])
alike_append [] [] s o alike e n = (e, n, tt)
alike_append [] (y ∷ os) s o alike e n = absurd alike
alike_append (x ∷ ss) [] s o alike e n = absurd alike
alike_append (x ∷ ss) (y ∷ os) s o alike e n = (alike.0, alike.1, alike_append ss os s o alike.2 e n)

module _ (session : ℕ) where
  alike_without : (ss : List Seat) (os : List Open) → AreAlike ss os → AreAlike (without_first (is_seat session) ss) (without_first (is_session session) os)
  alike_without [] [] alike = tt
  alike_without [] (y ∷ os) alike = absurd alike
  alike_without (x ∷ ss) [] alike = absurd alike
  alike_without (x ∷ ss) (y ∷ os) alike = by (alike_without ss os alike.2) (x.session == session) refl (sym (ap (λ k. k == session) alike.0))
    where
      by : AreAlike (without_first (is_seat session) ss) (without_first (is_session session) os) → (b : Bool) → (x.session == session) ≡ b → (y.session == session) ≡ (x.session == session) → AreAlike (without_first (is_seat session) (x ∷ ss)) (without_first (is_session session) (y ∷ os))
      by rest true e same = rw (e, same ∙ e) alike.2
      by rest false e same = rw (e, same ∙ e) (alike.0, alike.1, rest)

  alike_change : (a : Answered) (ss : List Seat) (os : List Open) → AreAlike ss os → AreAlike ss (change_first (is_session session) (with_answer a) os)
  alike_change a [] [] alike = tt
  alike_change a [] (y ∷ os) alike = absurd alike
  alike_change a (x ∷ ss) [] alike = absurd alike
  alike_change a (x ∷ ss) (y ∷ os) alike = by (alike_change a ss os alike.2) (y.session == session) refl
    where
      by : AreAlike ss (change_first (is_session session) (with_answer a) os) → (b : Bool) → (y.session == session) ≡ b → AreAlike (x ∷ ss) (change_first (is_session session) (with_answer a) (y ∷ os))
      by rest true e = rw e alike
      by rest false e = rw e (alike.0, alike.1, rest)

  alike_answers : (op : Option Op) (reply : Reply) (ss : List Seat) (os : List Open) → AreAlike ss os → AreAlike ss (answers_if op reply session os)
  alike_answers None reply ss os alike = alike
  alike_answers (Some op) reply ss os alike = alike_change (record { op = op; reply = reply }) ss os alike

  pub alike_find : (ss : List Seat) (os : List Open) → AreAlike ss os → option_map (λ s. s.number) (find (is_seat session) ss) ≡ option_map (λ t. t.number) (option_map (λ o. o.tx) (find (is_session session) os))
  alike_find [] [] alike = refl
  alike_find [] (y ∷ os) alike = absurd alike
  alike_find (x ∷ ss) [] alike = absurd alike
  alike_find (x ∷ ss) (y ∷ os) alike = by (alike_find ss os alike.2) (x.session == session) refl (sym (ap (λ k. k == session) alike.0))
    where
      by : option_map (λ s. s.number) (find (is_seat session) ss) ≡ option_map (λ t. t.number) (option_map (λ o. o.tx) (find (is_session session) os)) → (b : Bool) → (x.session == session) ≡ b → (y.session == session) ≡ (x.session == session) → option_map (λ s. s.number) (find (is_seat session) (x ∷ ss)) ≡ option_map (λ t. t.number) (option_map (λ o. o.tx) (find (is_session session) (y ∷ os)))
      by rest true e same = rw (e, same ∙ e) (ap Some alike.1)
      by rest false e same = rw (e, same ∙ e) rest

  begin_alike : (n : ℕ) (short : Bool) (ss : List Seat) (os : List Open) → AreAlike ss os
      → AreAlike (without_seat session ss ++ record { session = session; number = n; short = short } ∷ []) (without_first (is_session session) os ++ record { session = session; tx = record { number = n; answered = [] } } ∷ [])
  begin_alike n short ss os alike = alike_append (without_seat session ss) (without_first (is_session session) os) _ _ (alike_without ss os alike) refl refl

  reply_alike : (reply : Reply) (op : Option Op) (d : Desk) (os : List Open) → AreAlike d.seats os → AreAlike (desk_after_reply session reply d).seats (opens_by (effect_of reply) op reply session os)
  reply_alike (replies.Begun n) op d os alike = begin_alike n true d.seats os alike
  reply_alike (replies.BegunAt n epoch) op d os alike = begin_alike n false d.seats os alike
  reply_alike (replies.Found value) op d os alike = alike_answers op (replies.Found value) d.seats os alike
  reply_alike replies.Absent op d os alike = alike_answers op replies.Absent d.seats os alike
  reply_alike (replies.Rows rows) op d os alike = alike_answers op (replies.Rows rows) d.seats os alike
  reply_alike replies.Done op d os alike = alike_answers op replies.Done d.seats os alike
  reply_alike (replies.Committed epoch) op d os alike = alike_without d.seats os alike
  reply_alike (replies.CommittedBefore epoch target) op d os alike = alike_without d.seats os alike
  reply_alike replies.Aborted op d os alike = alike_without d.seats os alike
  reply_alike (replies.Preserved table holder) op d os alike = alike_without d.seats os alike
  reply_alike (replies.Changed number table key found current) op d os alike = alike_without d.seats os alike
  reply_alike (replies.Late target number table key writer) op d os alike = alike_without d.seats os alike
  reply_alike (replies.Contradicts target number table key reader) op d os alike = alike_without d.seats os alike
  reply_alike (replies.Waiting n) op d os alike = alike
  reply_alike (replies.NotYet epoch) op d os alike = alike
  reply_alike (replies.Outside table) op d os alike = alike
  reply_alike (replies.NotPreserved table) op d os alike = alike
  reply_alike replies.NoTx op d os alike = alike
  reply_alike replies.HasTx op d os alike = alike
  reply_alike replies.LimitEpoch op d os alike = alike
  reply_alike replies.LimitOps op d os alike = alike
  reply_alike replies.LimitTx op d os alike = alike
  reply_alike replies.LimitLog op d os alike = alike
  reply_alike (replies.Advanced epoch) op d os alike = alike
  reply_alike (replies.Durable epoch) op d os alike = alike
  reply_alike replies.Pruned op d os alike = alike
  reply_alike (replies.Bad cause) op d os alike = alike
  reply_alike replies.Later op d os alike = alike

  reply_commits : (reply : Reply) (d : Desk) (os : List Open) → AreAlike d.seats os → commits_number (seat_of d.seats session) reply ≡ option_map (λ t. t.number) (commit_by (effect_of reply) session os)
  reply_commits (replies.Committed epoch) d os alike = alike_find d.seats os alike
  reply_commits (replies.CommittedBefore epoch target) d os alike = alike_find d.seats os alike
  reply_commits (replies.Begun n) d os alike = refl
  reply_commits (replies.BegunAt n epoch) d os alike = refl
  reply_commits (replies.Found value) d os alike = refl
  reply_commits replies.Absent d os alike = refl
  reply_commits (replies.Rows rows) d os alike = refl
  reply_commits replies.Done d os alike = refl
  reply_commits replies.Aborted d os alike = refl
  reply_commits (replies.Preserved table holder) d os alike = refl
  reply_commits (replies.Changed number table key found current) d os alike = refl
  reply_commits (replies.Late target number table key writer) d os alike = refl
  reply_commits (replies.Contradicts target number table key reader) d os alike = refl
  reply_commits (replies.Waiting n) d os alike = refl
  reply_commits (replies.NotYet epoch) d os alike = refl
  reply_commits (replies.Outside table) d os alike = refl
  reply_commits (replies.NotPreserved table) d os alike = refl
  reply_commits replies.NoTx d os alike = refl
  reply_commits replies.HasTx d os alike = refl
  reply_commits replies.LimitEpoch d os alike = refl
  reply_commits replies.LimitOps d os alike = refl
  reply_commits replies.LimitTx d os alike = refl
  reply_commits replies.LimitLog d os alike = refl
  reply_commits (replies.Advanced epoch) d os alike = refl
  reply_commits (replies.Durable epoch) d os alike = refl
  reply_commits replies.Pruned d os alike = refl
  reply_commits (replies.Bad cause) d os alike = refl
  reply_commits replies.Later d os alike = refl

pub entry_alike : (d : Desk) (os : List Open) (entry : Entry) → AreAlike d.seats os → AreAlike (desk_after d entry).seats (opens_after os entry)
entry_alike d os entry alike = by (session_of entry.line)
  where
    by : (s : Option ℕ) → AreAlike (desk_after_in s entry.reply d).seats (opens_in s entry os)
    by None = alike
    by (Some session) = reply_alike session entry.reply (operation_of entry.line) d os alike

entry_commits : (d : Desk) (os : List Open) (entry : Entry) → AreAlike d.seats os → committed_number d entry ≡ option_map (λ t. t.number) (committed_by os entry)
entry_commits d os entry alike = by (session_of entry.line)
  where
    by : (s : Option ℕ) → commits_number_in s d entry.reply ≡ option_map (λ t. t.number) (commit_in_session s entry.reply os)
    by None = refl
    by (Some session) = reply_commits session entry.reply d os alike

-- these entries were read, and these numbers are of what they commit
pub record Tells (entries : List Entry) (place : ℕ) (now : Desk) (numbers : List ℕ) : Type 0 where
  pub alike : AreAlike now.seats (opens_from [] (take place entries))
  pub told : numbers ≡ committed_numbers (take place entries)

pub tells_none : (entries : List Entry) → Tells entries 0 first_desk []
unfolding opens_from committed_from
tells_none entries = record { alike = tt; told = refl }

pub tells_init : (entries : List Entry) (d : Desk) (numbers : List ℕ) → d ≡ first_desk → numbers ≡ [] → Tells entries 0 d numbers
tells_init entries d numbers desk none = subst (λ e. Tells entries 0 e numbers) (sym desk) (subst (Tells entries 0 first_desk) (sym none) (tells_none entries))

numbers_more : (ts : List Transaction) (o : Option Transaction) → map (λ t. t.number) (ts ++ cons_option o []) ≡ map (λ t. t.number) ts ++ cons_option (option_map (λ t. t.number) o) []
numbers_more [] None = refl
numbers_more [] (Some t) = refl
numbers_more (x ∷ ts) o = ap (λ l. x.number ∷ l) (numbers_more ts o)

pub tells_more : (entries : List Entry) (place : ℕ) (old new : Desk) (before after : List ℕ) (entry : Entry) → Tells entries place old before → place < length entries → entry ≡ get_or entries place entry
    → new ≡ desk_after old entry → after ≡ before ++ cons_option (committed_number old entry) [] → Tells entries (place + 1) new after
tells_more entries place old new before after entry kept low is next pushed =
    let more = take_more entries place entry low is in
    let front = take place entries in
    let opens : opens_from [] (take (place + 1) entries) ≡ opens_after (opens_from [] front) entry = ap (opens_from []) more ∙ opens-push [] front entry in
    let commits : committed_numbers (take (place + 1) entries) ≡ committed_numbers front ++ cons_option (option_map (λ t. t.number) (committed_by (opens_from [] front) entry)) []
    = ap committed_numbers more ∙ ap (map (λ t. t.number)) (committed-push [] front entry) ∙ numbers_more (committed_from [] front) (committed_by (opens_from [] front) entry) in
    record {
      alike = subst (λ o. AreAlike new.seats o) (sym opens) (subst (λ d. AreAlike d.seats (opens_after (opens_from [] front) entry)) (sym next) (entry_alike old (opens_from [] front) entry kept.alike));
      told = pushed ∙ (λ i. kept.told i ++ cons_option (entry_commits old (opens_from [] front) entry kept.alike i) []) ∙ sym commits;
    }

pub tells_all : (entries : List Entry) (place : ℕ) (d : Desk) (numbers : List ℕ) → Tells entries place d numbers → take place entries ≡ entries → numbers ≡ committed_numbers entries
tells_all entries place d numbers kept all = kept.told ∙ ap committed_numbers all
