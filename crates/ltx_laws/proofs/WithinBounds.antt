-- The bounds of each state that a legal history leads to: a number, an epoch or an operation more is given only below its bound.
use Rattle.std.proofs.Common.{◌≡◌, ◌≢◌, ℕ, ◌+◌, ◌<◌, ◌≤◌, Bool, true, false, ◌==◌, nat_lt, List, [], ◌∷◌, length, Some, None, refl, sym, ap, ◌∙◌, subst, arith, if◌then◌else◌, Contains}
use Rattle.std.proofs.lemmas.Bool.{eq-eqb, leb-false, ltb-true, ltb-false}
use Rattle.std.proofs.lemmas.List.{length-map, length-append}
use Rattle.std.proofs.lemmas.List.Sorted.{Contains-permutation, IsPermutation-sym}
use Rattle.std.specs.List.{AllByRecursion}
use Rattle.ltx_model.specs.declared.commands.Op.{Op}
use Rattle.ltx_model.specs.declared.commands.Verb.TheVariants as verbs
use Rattle.ltx_model.specs.declared.commands.Command.TheVariants as commands
use Rattle.ltx_model.specs.declared.commands.Line.{Line}
use Rattle.ltx_model.specs.declared.commands.Line.TheVariants as lines
use Rattle.ltx_model.specs.declared.replies.Entry.{Entry}
use Rattle.ltx_model.specs.declared.replies.Reply.{Reply}
use Rattle.ltx_model.specs.declared.replies.Reply.TheVariants as replies
use Rattle.ltx_model.specs.declared.rows.StoredRow.{StoredRow}
use Rattle.ltx_model.specs.Lists.{without_first}
use Rattle.ltx_model.specs.Operations.{Transaction, table_of}
use Rattle.ltx_model.specs.Rows.{run}
use Rattle.ltx_model.specs.Agenda.{serial, Move, CommitShort, CommitHome, CommitBefore, Leave, commit_of, commits_of}
use Rattle.ltx_model.specs.States.{Declaration, Kind, IsShort, IsPending, IsLive, Step, Active, answered_of, transaction_of, Base, IsSound, State, first_state, is_of, active_of, latest}
use Rattle.ltx_model.specs.Histories.{with_step, begun, answered, closed, moved, left, made_live, with_kind, in_epoch, advanced, durable_if, after, state, state_from}
use Rattle.ltx_model.specs.Shorts.{holder}
use Rattle.ltx_model.specs.Answers.{answer, staged, IsLegalFrom, IsLegalWith, begin_short, short_reply, begin_long, long_reply, operation, operation_in, operation_of_short, operation_of_batch, refusal, counted, is_full, advance}
use Rattle.ltx_model.specs.Limits.{last_number, last_epoch, most_operations}
use Rattle.ltx_model.specs.Explained.{effect_of, Answers}
use Rattle.ltx_lemmas.proofs.Lists.{some_same, all_push, all_without, all_change, all_contains, all_find, all_mapped}
use Rattle.ltx_laws.proofs.Transitions.{Cases, asks, entry_case}
use Rattle.ltx_laws.proofs.Standing.{commits_push, commits_none}
use Rattle.ltx_laws.proofs.StructureSlots.{slots_active}
use Rattle.ltx_laws.proofs.Structures.{structure_of}
use Rattle.ltx_laws.proofs.DropsFrames.{slots_keep}
use Rattle.ltx_laws.proofs.Told.{slots_commits}
use Rattle.ltx_laws.proofs.Begins.{last_kept}

-- What is at most a bound and is not it has room for one more.
below : (a b : ℕ) → a ≤ b → a ≢ b → a + 1 ≤ b
below a b most other = by_test (nat_lt a b) refl where
  by_test : (c : Bool) → nat_lt a b ≡ c → a + 1 ≤ b
  by_test true is = let less : a < b = ltb-true a b is in let r : a + 1 ≤ b = omega arith in r
  by_test false is = let high : b ≤ a = ltb-false a b is in absurd (other (let same : a ≡ b = omega arith in same))

-- The bounds.
pub record AreBounded (s : State) : Type 0 where
  pub last : s.last ≤ last_number
  pub epoch : s.epoch ≤ last_epoch
  pub opened : AllByRecursion (λ o. length o.steps ≤ most_operations) s.active
  pub done : AllByRecursion (λ t. length t.answered ≤ most_operations) (commits_of s.moves)

module _ (built : State → Line → Bool) (s : State) where
  -- a reply other than `later` is the answer
  is_answer : (line : Line) (reply : Reply) → reply ≡ staged built s line → (reply ≡ replies.Later → ⊥) → reply ≡ answer s line
  is_answer line reply e built_is = by_test (built s line) e where
    by_test : (b : Bool) → reply ≡ (if b then answer s line else replies.Later) → reply ≡ answer s line
    by_test true e = e
    by_test false e = absurd (built_is e)

  short_room : (session : ℕ) → active_of s session ≡ None → replies.Begun (s.last + 1) ≡ staged built s (asks session verbs.Short) → s.last ≢ last_number
  unfolding answer
  short_room session none e same =
      let is : replies.Begun (s.last + 1) ≡ begin_short s (active_of s session) = is_answer (asks session verbs.Short) (replies.Begun (s.last + 1)) e (λ l. let no : ⊥ = cc in no) in
      let full : begin_short s (active_of s session) ≡ replies.LimitTx = ap (begin_short s) none ∙ ap (short_reply s) (eq-eqb s.last last_number same) in
      let no : ⊥ = cc (is ∙ full) in no

  long_room : (session writes reads : ℕ) → active_of s session ≡ None → replies.BegunAt (s.last + 1) (s.epoch + 1) ≡ staged built s (asks session (verbs.Long writes reads)) → s.last ≢ last_number
  unfolding answer
  long_room session writes reads none e same =
      let begun : Reply = replies.BegunAt (s.last + 1) (s.epoch + 1) in
      let is : begun ≡ begin_long s (active_of s session) = is_answer (asks session (verbs.Long writes reads)) begun e (λ l. let no : ⊥ = cc in no) in
      let full : begin_long s (active_of s session) ≡ long_reply s (s.epoch == last_epoch) true = ap (begin_long s) none ∙ ap (long_reply s (s.epoch == last_epoch)) (eq-eqb s.last last_number same) in
      by_test (s.epoch == last_epoch) (is ∙ full) where
        by_test : (b : Bool) → replies.BegunAt (s.last + 1) (s.epoch + 1) ≡ long_reply s b true → ⊥
        by_test true e = let no : ⊥ = cc in no
        by_test false e = let no : ⊥ = cc in no

  epoch_room : replies.Advanced (s.epoch + 1) ≡ staged built s (lines.Good commands.Epoch) → s.epoch ≢ last_epoch
  unfolding answer
  epoch_room e same =
      let is : replies.Advanced (s.epoch + 1) ≡ advance s (s.epoch == last_epoch) = is_answer (lines.Good commands.Epoch) (replies.Advanced (s.epoch + 1)) e (λ l. let no : ⊥ = cc in no) in
      let full : advance s (s.epoch == last_epoch) ≡ replies.LimitEpoch = ap (advance s) (eq-eqb s.epoch last_epoch same) in
      let no : ⊥ = cc (is ∙ full) in no

  -- an operation is answered only where the transaction has fewer than it may have
  counted_room : (rows : List StoredRow) (o : Active) (op : Op) (reply : Reply) → effect_of reply ≡ Answers → reply ≡ counted (is_full (transaction_of o)) rows (transaction_of o) op → length o.steps < most_operations
  counted_room rows o op reply answers e = by_test (is_full (transaction_of o)) refl e where
    by_test : (b : Bool) → is_full (transaction_of o) ≡ b → reply ≡ counted b rows (transaction_of o) op → length o.steps < most_operations
    by_test true is e = absurd (let no : ⊥ = cc (sym answers ∙ ap effect_of e) in no)
    by_test false is e = subst (λ n. n < most_operations) (length-map o.steps answered_of) (leb-false most_operations (length (transaction_of o).answered) is)

  answered_is : (session : ℕ) (op : Op) (o : Active) (k : Kind) (reply : Reply) → active_of s session ≡ Some o → o.kind ≡ k → effect_of reply ≡ Answers → reply ≡ staged built s (asks session (verbs.Do op))
      → reply ≡ operation_in s k (transaction_of o) op
  unfolding answer
  answered_is session op o k reply opened kind answers e =
      is_answer (asks session (verbs.Do op)) reply e (λ l. let no : ⊥ = cc (sym answers ∙ ap effect_of l) in no) ∙ ap (λ f. operation s f op) opened ∙ ap (λ x. operation_in s x (transaction_of o) op) kind

  short_operation_room : (session : ℕ) (op : Op) (o : Active) (reply : Reply) → active_of s session ≡ Some o → o.kind ≡ IsShort → holder s (table_of op) ≡ None → effect_of reply ≡ Answers
      → reply ≡ staged built s (asks session (verbs.Do op)) → length o.steps < most_operations
  short_operation_room session op o reply opened kind held answers e =
      counted_room (latest s) o op reply answers (answered_is session op o IsShort reply opened kind answers e ∙ ap (λ h. operation_of_short s h (transaction_of o) op) held)

  batch_operation_room : (session : ℕ) (op : Op) (o : Active) (d : Declaration) (snapshot : List Transaction) (reply : Reply) → active_of s session ≡ Some o → o.kind ≡ IsLive d snapshot → refusal d op ≡ None → effect_of reply ≡ Answers
      → reply ≡ staged built s (asks session (verbs.Do op)) → length o.steps < most_operations
  batch_operation_room session op o d snapshot reply opened kind inside answers e =
      counted_room (run s.base snapshot) o op reply answers (answered_is session op o (IsLive d snapshot) reply opened kind answers e ∙ ap (λ r. operation_of_batch s r snapshot (transaction_of o) op) inside)

  -- case by case
  module _ (h : AreBounded s) where
    abbrev Few : Active → Type 0
    Few o = length o.steps ≤ most_operations

    rest : (session : ℕ) → AllByRecursion Few (without_first (is_of session) s.active)
    rest session = all_without Few (is_of session) s.active h.opened

    few_of : (session : ℕ) (o : Active) → active_of s session ≡ Some o → length (transaction_of o).answered ≤ most_operations
    few_of session o opened = subst (λ n. n ≤ most_operations) (sym (length-map o.steps answered_of)) (all_find Few (is_of session) s.active o h.opened opened)

    after_commit : (session : ℕ) (o : Active) (m : Move) → active_of s session ≡ Some o → commit_of m ≡ Some (transaction_of o) → AreBounded (moved (closed s session) s.epoch m)
    after_commit session o m opened is = record {
      last = h.last;
      epoch = h.epoch;
      opened = rest session;
      done = subst (AllByRecursion (λ t. length t.answered ≤ most_operations)) (sym (commits_push s.moves (record { epoch = s.epoch; move = m }) (transaction_of o) is))
          (all_push (λ (t : Transaction). length t.answered ≤ most_operations) (commits_of s.moves) (transaction_of o) h.done (few_of session o opened));
    }

    after_end : (session : ℕ) (o : Active) (k : Kind) → AreBounded (left (closed s session) k o.number)
    after_end session o IsShort = record { last = h.last; epoch = h.epoch; opened = rest session; done = h.done }
    after_end session o (IsPending d) = record { last = h.last; epoch = h.epoch; opened = rest session; done = h.done }
    after_end session o (IsLive d snapshot) = record {
      last = h.last;
      epoch = h.epoch;
      opened = rest session;
      done = subst (AllByRecursion (λ t. length t.answered ≤ most_operations)) (sym (commits_none s.moves (record { epoch = s.epoch; move = Leave o.number }) refl)) h.done;
    }

    after_answer : (session : ℕ) (op : Op) (o : Active) (reply : Reply) → active_of s session ≡ Some o → length o.steps < most_operations → AreBounded (answered s op reply session)
    after_answer session op o reply opened room = record {
      last = h.last;
      epoch = h.epoch;
      opened = all_change Few Few (is_of session) (with_step step) s.active (λ u few. few) one_more h.opened;
      done = h.done;
    } where
      step : Step
      step = record { op = op; reply = reply; order = serial s.agenda; latest = latest s }

      one_more : (u : Active) → active_of s session ≡ Some u → Few u → Few (with_step step u)
      one_more u found few =
          let same : o ≡ u = some_same (sym opened ∙ found) in
          let less : length u.steps < most_operations = subst (λ (x : Active). length x.steps < most_operations) same room in
          subst (λ n. n ≤ most_operations) (sym (length-append u.steps (step ∷ []))) (let r : length u.steps + 1 ≤ most_operations = omega arith in r)

    after_begin : (kind : Kind) (session : ℕ) → s.last ≢ last_number → AreBounded (begun s kind (s.last + 1) session)
    after_begin kind session room = record {
      last = below s.last last_number h.last room;
      epoch = h.epoch;
      opened = all_push Few (without_first (is_of session) s.active) (record { session = session; kind = kind; number = s.last + 1; steps = [] }) (rest session) (let r : 0 ≤ most_operations = omega arith in r);
      done = h.done;
    }

    after_advance : s.epoch ≢ last_epoch → AreBounded (advanced s (s.epoch + 1))
    after_advance room =
        let next : ℕ = s.epoch + 1 in
        record {
          last = subst (λ n. n ≤ last_number) (sym (last_kept next (in_epoch s next) s.active)) h.last;
          epoch = subst (λ n. n ≤ last_epoch) (sym (slots_keep s next (in_epoch s next) s.active).0) (below s.epoch last_epoch h.epoch room);
          opened = subst (AllByRecursion Few) (sym (slots_active next (in_epoch s next) s.active)) (all_mapped Few (λ o. with_kind (made_live (serial s.agenda) o.kind) o) s.active h.opened);
          done = subst (AllByRecursion (λ t. length t.answered ≤ most_operations)) (sym (slots_commits next (in_epoch s next) s.active)) h.done;
        }

    after_flush : (epoch : ℕ) (b : Bool) → AreBounded (durable_if b s epoch)
    after_flush epoch true = record { last = h.last; epoch = h.epoch; opened = h.opened; done = h.done }
    after_flush epoch false = h

    bounded_cases : Cases s (λ line reply next. reply ≡ staged built s line → AreBounded next)
    bounded_cases = record {
      nothing = λ line reply leaves e. h;
      begins_short = λ session none e. after_begin IsShort session (short_room session none e);
      begins_long = λ session writes reads none e. after_begin (IsPending (record { writes = writes; reads = reads; from = s.epoch + 1 })) session (long_room session writes reads none e);
      answers_short = λ session op o reply is kind free sees answers e. after_answer session op o reply is (short_operation_room session op o reply is kind free answers e);
      answers_batch = λ session op o d snapshot reply is kind inside sees answers e. after_answer session op o reply is (batch_operation_room session op o d snapshot reply is kind inside answers e);
      commits_short = λ session o is kind free unchanged e. after_commit session o (CommitShort (transaction_of o)) is refl;
      commits_home = λ session o d snapshot is kind none e. after_commit session o (CommitHome (transaction_of o)) is refl;
      commits_before = λ session o d snapshot p is kind aim free elder e. after_commit session o (CommitBefore (transaction_of o) p) is refl;
      ends = λ session verb reply o is ends e. after_end session o o.kind;
      advances = λ e. after_advance (epoch_room e);
      flushes = λ epoch which e. after_flush epoch (nat_lt s.durable epoch);
    }

-- along a legal history
bounded_from : (built : State → Line → Bool) (s : State) (history : List Entry) → AreBounded s → IsLegalFrom built s history → AreBounded (state_from s history)
unfolding IsLegalFrom state_from
bounded_from built s [] h legal = h
bounded_from built s (entry ∷ entries) h legal =
    bounded_from built (after s entry) entries (entry_case s (λ line reply next. reply ≡ staged built s line → AreBounded next) (bounded_cases built s h) built entry legal.0 legal.0) legal.1

pub bounded_of : (built : State → Line → Bool) (base : Base) (history : List Entry) → IsSound base → IsLegalWith built base history → AreBounded (state base history)
bounded_of built base history sound legal =
    bounded_from built (first_state base) history (record { last = sound.last; epoch = (let low : base.durable ≤ 4294967293 = sound.durable in let r : base.durable + 1 ≤ last_epoch = omega arith in r); opened = tt; done = tt }) legal

module _ (built : State → Line → Bool) (base : Base) (history : List Entry) (sound : IsSound base) (legal : IsLegalWith built base history) where
  abbrev there : State
  there = state base history

  bounded : AreBounded there
  bounded = bounded_of built base history sound legal

  pub last_bounded : there.last ≤ last_number
  last_bounded = bounded.last

  pub epoch_bounded : there.epoch ≤ last_epoch
  epoch_bounded = bounded.epoch

  pub open_bounded : (o : Active) → Contains there.active o → length o.steps ≤ most_operations
  open_bounded o here = all_contains (λ (u : Active). length u.steps ≤ most_operations) there.active o bounded.opened here

  pub committed_bounded : (t : Transaction) → Contains (serial there.agenda) t → length t.answered ≤ most_operations
  committed_bounded t here =
      all_contains (λ (u : Transaction). length u.answered ≤ most_operations) (commits_of there.moves) t bounded.done
      (Contains-permutation (serial there.agenda) (commits_of there.moves) t (IsPermutation-sym (commits_of there.moves) (serial there.agenda) (structure_of built base history legal).committed) here)
