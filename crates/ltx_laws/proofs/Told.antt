-- What the entries of a history tell is what its state has: the open transactions, and what was committed.
use Rattle.std.proofs.Common.{◌≡◌, ℕ, ◌+◌, nat_lt, Bool, true, false, cond, List, [], ◌∷◌, ◌++◌, map, Option, Some, None, option_map, refl, sym, ap, ◌∙◌, append-nil, append_assoc}
use Rattle.std.specs.List.{find, cons_option}
use Rattle.ltx_model.specs.declared.commands.Op.{Op}
use Rattle.ltx_model.specs.declared.commands.Verb.{Verb}
use Rattle.ltx_model.specs.declared.commands.Verb.TheVariants as verbs
use Rattle.ltx_model.specs.declared.commands.Command.TheVariants as commands
use Rattle.ltx_model.specs.declared.commands.Line.{Line}
use Rattle.ltx_model.specs.declared.commands.Line.TheVariants as lines
use Rattle.ltx_model.specs.declared.replies.Entry.{Entry}
use Rattle.ltx_model.specs.declared.replies.Reply.{Reply}
use Rattle.ltx_model.specs.declared.replies.Reply.TheVariants as replies
use Rattle.ltx_model.specs.Lists.{change_first, without_first}
use Rattle.ltx_model.specs.Operations.{Transaction}
use Rattle.ltx_model.specs.Agenda.{Slot, CommitShort, CommitHome, CommitBefore, Leave, Timed, commit_of, commits_of, serial}
use Rattle.ltx_model.specs.States.{Kind, IsShort, IsPending, IsLive, Step, Active, answered_of, transaction_of, Base, State, first_state, is_of, active_of, latest}
use Rattle.ltx_model.specs.Histories.{session_of, with_step, begun, answered, closed, moved, left, ended, slot_after, slots_after, in_epoch, advanced, durable_if, made_durable, after, state, state_from}
use Rattle.ltx_model.specs.Answers.{staged, IsLegalFrom, IsLegalWith}
use Rattle.ltx_model.specs.Explained.{Open, is_session, Begins, Answers, Commits, Ends, Leaves, effect_of, with_answer, opens_in, opens_after, commit_in_session, committed_by, opens_from, committed_from, committed_in}
use Rattle.ltx_laws.specs.Told.{open_of, opens_of}
use Rattle.ltx_laws.proofs.Transitions.{Cases, asks, entry_case}
use Rattle.ltx_laws.proofs.Standing.{commits_push, commits_none}
use Rattle.ltx_laws.proofs.StructureSlots.{live_in, slots_active}

map_push : {A B : Type 0} (f : A → B) (xs : List A) (y : A) → map f (xs ++ y ∷ []) ≡ map f xs ++ f y ∷ []
map_push f [] y = refl
map_push f (x ∷ xs) y = ap (λ l. f x ∷ l) (map_push f xs y)

opens_without : (session : ℕ) (xs : List Active) → opens_of (without_first (is_of session) xs) ≡ without_first (is_session session) (opens_of xs)
opens_without session [] = refl
opens_without session (x ∷ xs) = by_test (is_of session x) (opens_without session xs) where
  by_test : (b : Bool) → opens_of (without_first (is_of session) xs) ≡ without_first (is_session session) (opens_of xs)
      → opens_of (cond b xs (x ∷ without_first (is_of session) xs)) ≡ cond b (opens_of xs) (open_of x ∷ without_first (is_session session) (opens_of xs))
  by_test true rest = refl
  by_test false rest = ap (λ l. open_of x ∷ l) rest

open_step : (step : Step) (o : Active) → open_of (with_step step o) ≡ with_answer (answered_of step) (open_of o)
open_step step o = ap (λ as'. let t : Transaction = record { number = o.number; answered = as' } in let x : Open = record { session = o.session; tx = t } in x) (map_push answered_of o.steps step)

opens_change : (session : ℕ) (step : Step) (xs : List Active) → opens_of (change_first (is_of session) (with_step step) xs) ≡ change_first (is_session session) (with_answer (answered_of step)) (opens_of xs)
opens_change session step [] = refl
opens_change session step (x ∷ xs) = by_test (is_of session x) (opens_change session step xs) where
  by_test : (b : Bool) → opens_of (change_first (is_of session) (with_step step) xs) ≡ change_first (is_session session) (with_answer (answered_of step)) (opens_of xs)
      → opens_of (cond b (with_step step x ∷ xs) (x ∷ change_first (is_of session) (with_step step) xs)) ≡ cond b (with_answer (answered_of step) (open_of x) ∷ opens_of xs) (open_of x ∷ change_first (is_session session) (with_answer (answered_of step)) (opens_of xs))
  by_test true rest = ap (λ y. y ∷ opens_of xs) (open_step step x)
  by_test false rest = ap (λ l. open_of x ∷ l) rest

pub opens_find : (session : ℕ) (xs : List Active) → find (is_session session) (opens_of xs) ≡ option_map open_of (find (is_of session) xs)
opens_find session [] = refl
opens_find session (x ∷ xs) = by_test (is_of session x) (opens_find session xs) where
  by_test : (b : Bool) → find (is_session session) (opens_of xs) ≡ option_map open_of (find (is_of session) xs) → cond b (Some (open_of x)) (find (is_session session) (opens_of xs)) ≡ option_map open_of (cond b (Some x) (find (is_of session) xs))
  by_test true rest = refl
  by_test false rest = rest

opens_live : (snapshot : List Transaction) (xs : List Active) → opens_of (map (live_in snapshot) xs) ≡ opens_of xs
opens_live snapshot [] = refl
opens_live snapshot (x ∷ xs) = ap (λ l. open_of x ∷ l) (opens_live snapshot xs)

pub slots_commits : (epoch : ℕ) (s : State) (os : List Active) → commits_of (slots_after epoch s os).moves ≡ commits_of s.moves
slots_commits epoch s [] = refl
slots_commits epoch s (o ∷ os) = slots_commits epoch (slot_after epoch s o.kind o.number) os ∙ by_kind o.kind where
  by_kind : (k : Kind) → commits_of (slot_after epoch s k o.number).moves ≡ commits_of s.moves
  by_kind IsShort = refl
  by_kind (IsPending d) = commits_none s.moves (record { epoch = epoch; move = Slot o.number }) refl
  by_kind (IsLive d snapshot) = refl

-- An entry tells of the state after it: who is open, and what was committed in it.
pub record Tells (s : State) (line : Line) (reply : Reply) (s' : State) : Type 0 where
  pub opens : opens_of s'.active ≡ opens_after (opens_of s.active) (record { line = line; reply = reply })
  pub commits : commits_of s'.moves ≡ commits_of s.moves ++ cons_option (committed_by (opens_of s.active) (record { line = line; reply = reply })) []

module _ (s : State) where
  abbrev opens : List Open
  opens = opens_of s.active

  -- a reply that leaves the open transactions
  leaves_opens : (f : Option ℕ) (line : Line) (reply : Reply) → effect_of reply ≡ Leaves → opens_in f (record { line = line; reply = reply }) opens ≡ opens
  leaves_opens None line reply e = refl
  leaves_opens (Some session) line reply e = rw e refl

  leaves_commit : (f : Option ℕ) (reply : Reply) → effect_of reply ≡ Leaves → commit_in_session f reply opens ≡ None
  leaves_commit None reply e = refl
  leaves_commit (Some session) reply e = rw e refl

  nothing_told : (line : Line) (reply : Reply) → effect_of reply ≡ Leaves → Tells s line reply s
  nothing_told line reply e = record {
    opens = sym (leaves_opens (session_of line) line reply e);
    commits = sym (append-nil (commits_of s.moves)) ∙ ap (λ c. commits_of s.moves ++ cons_option c []) (sym (leaves_commit (session_of line) reply e));
  }

  begun_told : (verb : Verb) (reply : Reply) (kind : Kind) (session : ℕ) → effect_of reply ≡ Begins (s.last + 1) → Tells s (asks session verb) reply (begun s kind (s.last + 1) session)
  begun_told verb reply kind session e = record {
    opens = map_push open_of (without_first (is_of session) s.active) (record { session = session; kind = kind; number = s.last + 1; steps = [] })
        ∙ ap (λ l. l ++ record { session = session; tx = record { number = s.last + 1; answered = [] } } ∷ []) (opens_without session s.active) ∙ rw e refl;
    commits = sym (append-nil (commits_of s.moves)) ∙ rw e refl;
  }

  answered_told : (op : Op) (reply : Reply) (session : ℕ) → effect_of reply ≡ Answers → Tells s (asks session (verbs.Do op)) reply (answered s op reply session)
  answered_told op reply session e = record {
    opens = opens_change session (record { op = op; reply = reply; order = serial s.agenda; latest = latest s }) s.active ∙ rw e refl;
    commits = sym (append-nil (commits_of s.moves)) ∙ rw e refl;
  }

  committed_told : (session : ℕ) (o : Active) (reply : Reply) (m : Timed) → active_of s session ≡ Some o → effect_of reply ≡ Commits → commit_of m.move ≡ Some (transaction_of o) → Tells s (asks session verbs.Commit) reply (moved (closed s session) m.epoch m.move)
  committed_told session o reply m is e commits =
      let found : find (is_session session) opens ≡ Some (open_of o) = opens_find session s.active ∙ ap (option_map open_of) is in
      let commit : committed_by opens (record { line = asks session verbs.Commit; reply = reply }) ≡ Some (transaction_of o) = rw (e, found) refl in
      record {
        opens = opens_without session s.active ∙ rw e refl;
        commits = commits_push s.moves m (transaction_of o) commits ∙ ap (λ c. commits_of s.moves ++ cons_option c []) (sym commit);
      }

  ended_told : (session : ℕ) (verb : Verb) (reply : Reply) (o : Active) → effect_of reply ≡ Ends → Tells s (asks session verb) reply (ended s o session)
  ended_told session verb reply o e = by_kind o.kind where
    by_kind : (k : Kind) → Tells s (asks session verb) reply (left (closed s session) k o.number)
    by_kind IsShort = record { opens = opens_without session s.active ∙ rw e refl; commits = sym (append-nil (commits_of s.moves)) ∙ rw e refl }
    by_kind (IsPending d) = record { opens = opens_without session s.active ∙ rw e refl; commits = sym (append-nil (commits_of s.moves)) ∙ rw e refl }
    by_kind (IsLive d snapshot) = record {
      opens = opens_without session s.active ∙ rw e refl;
      commits = commits_none s.moves (record { epoch = s.epoch; move = Leave o.number }) refl ∙ sym (append-nil (commits_of s.moves)) ∙ rw e refl;
    }

  advanced_told : (epoch : ℕ) → Tells s (lines.Good commands.Epoch) (replies.Advanced epoch) (advanced s epoch)
  advanced_told epoch = record {
    opens = ap opens_of (slots_active epoch (in_epoch s epoch) s.active) ∙ opens_live (serial s.agenda) s.active;
    commits = slots_commits epoch (in_epoch s epoch) s.active ∙ sym (append-nil (commits_of s.moves));
  }

  durable_told : (epoch : ℕ) → Tells s (lines.Good commands.Flush) (replies.Durable epoch) (made_durable s epoch)
  durable_told epoch = by_test (nat_lt s.durable epoch) where
    by_test : (b : Bool) → Tells s (lines.Good commands.Flush) (replies.Durable epoch) (durable_if b s epoch)
    by_test true = record { opens = refl; commits = sym (append-nil (commits_of s.moves)) }
    by_test false = record { opens = refl; commits = sym (append-nil (commits_of s.moves)) }

  pub tells_cases : Cases s (Tells s)
  tells_cases = record {
    nothing = nothing_told;
    begins_short = λ session none. begun_told verbs.Short (replies.Begun (s.last + 1)) IsShort session refl;
    begins_long = λ session writes reads none. begun_told (verbs.Long writes reads) (replies.BegunAt (s.last + 1) (s.epoch + 1)) (IsPending (record { writes = writes; reads = reads; from = s.epoch + 1 })) session refl;
    answers_short = λ session op o reply is kind held sees answers. answered_told op reply session answers;
    answers_batch = λ session op o d snapshot reply is kind inside sees answers. answered_told op reply session answers;
    commits_short = λ session o is kind held unchanged. committed_told session o (replies.Committed s.epoch) (record { epoch = s.epoch; move = CommitShort (transaction_of o) }) is refl refl;
    commits_home = λ session o d snapshot is kind none. committed_told session o (replies.Committed s.epoch) (record { epoch = s.epoch; move = CommitHome (transaction_of o) }) is refl refl;
    commits_before = λ session o d snapshot p is kind t witness reader. committed_told session o (replies.CommittedBefore s.epoch p) (record { epoch = s.epoch; move = CommitBefore (transaction_of o) p }) is refl refl;
    ends = λ session verb reply o is e. ended_told session verb reply o e;
    advances = advanced_told (s.epoch + 1);
    flushes = λ epoch which. durable_told epoch;
  }

-- an entry of a legal history
pub entry_tells : (built : State → Line → Bool) (s : State) (entry : Entry) → entry.reply ≡ staged built s entry.line → Tells s entry.line entry.reply (after s entry)
entry_tells built s entry is = entry_case s (Tells s) (tells_cases s) built entry is

cons_some : (c : Option Transaction) (ts : List Transaction) → cons_option c [] ++ ts ≡ cons_option c ts
cons_some None ts = refl
cons_some (Some t) ts = refl

pub told_from : (built : State → Line → Bool) (s : State) (history : List Entry) → IsLegalFrom built s history → (opens_of (state_from s history).active ≡ opens_from (opens_of s.active) history) × (commits_of (state_from s history).moves ≡ commits_of s.moves ++ committed_from (opens_of s.active) history)
unfolding IsLegalFrom state_from opens_from committed_from
told_from built s [] legal = (refl, sym (append-nil (commits_of s.moves)))
told_from built s (entry ∷ entries) legal =
    let tells : Tells s entry.line entry.reply (after s entry) = entry_tells built s entry legal.0 in
    let rest = told_from built (after s entry) entries legal.1 in (
      rest.0 ∙ ap (λ os. opens_from os entries) tells.opens,
      rest.1 ∙ ap (λ os. commits_of (after s entry).moves ++ committed_from os entries) tells.opens ∙ ap (λ ts. ts ++ committed_from (opens_after (opens_of s.active) entry) entries) tells.commits
          ∙ append_assoc (commits_of s.moves) (cons_option (committed_by (opens_of s.active) entry) []) (committed_from (opens_after (opens_of s.active) entry) entries)
          ∙ ap (λ ts. commits_of s.moves ++ ts) (cons_some (committed_by (opens_of s.active) entry) (committed_from (opens_after (opens_of s.active) entry) entries)),
    )

pub opens_told : (built : State → Line → Bool) (base : Base) (history : List Entry) → IsLegalWith built base history → opens_of (state base history).active ≡ opens_from [] history
opens_told built base history legal = (told_from built (first_state base) history legal).0

pub commits_told : (built : State → Line → Bool) (base : Base) (history : List Entry) → IsLegalWith built base history → commits_of (state base history).moves ≡ committed_in history
commits_told built base history legal = (told_from built (first_state base) history legal).1
