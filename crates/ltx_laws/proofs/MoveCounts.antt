-- Each number that was given has at most two moves: a slot, and a commit or the end of its batch.
use Rattle.std.proofs.Common.{◌≡◌, ℕ, suc, ◌+◌, ◌≤◌, Bool, true, false, cond, nat_lt, List, [], ◌∷◌, ◌++◌, map, length, Some, refl, sym, ap, subst, arith, le_refl}
use Rattle.std.proofs.lemmas.List.{length-append}
use Rattle.std.specs.List.{find, cons_option}
use Rattle.ltx_model.specs.declared.commands.Op.{Op}
use Rattle.ltx_model.specs.declared.commands.Line.{Line}
use Rattle.ltx_model.specs.declared.replies.Entry.{Entry}
use Rattle.ltx_model.specs.declared.replies.Reply.{Reply}
use Rattle.ltx_model.specs.Lists.{change_first, without_first}
use Rattle.ltx_model.specs.Operations.{Transaction}
use Rattle.ltx_model.specs.Agenda.{serial, CommitShort, CommitHome, CommitBefore, Leave, Timed}
use Rattle.ltx_model.specs.States.{Kind, IsShort, IsPending, IsLive, Step, Active, transaction_of, Base, State, first_state, is_of, active_of, latest}
use Rattle.ltx_model.specs.Histories.{with_step, answered, closed, left, made_live, with_kind, in_epoch, advanced, durable_if, state}
use Rattle.ltx_model.specs.Answers.{IsLegalWith}
use Rattle.ltx_lemmas.proofs.Lists.{some_same, none_some}
use Rattle.ltx_laws.proofs.Transitions.{Cases, along}
use Rattle.ltx_laws.proofs.StructureSlots.{slots_active}
use Rattle.ltx_laws.proofs.FloorCounts.{slot_if, slots_of, advanced_moves}
use Rattle.ltx_laws.proofs.Begins.{last_kept}

-- how many moves an open transaction may still make
abbrev still : Kind → ℕ
still IsShort = 1
still (IsPending d) = 2
still (IsLive d snapshot) = 1

abbrev total : List Active → ℕ
total [] = 0
total (o ∷ os) = still o.kind + total os

total_push : (xs : List Active) (o : Active) → total (xs ++ o ∷ []) ≡ total xs + still o.kind
total_push [] o = let r : still o.kind + 0 ≡ 0 + still o.kind = omega arith in r
total_push (x ∷ xs) o =
    let rest : total (xs ++ o ∷ []) ≡ total xs + still o.kind = total_push xs o in
    let r : still x.kind + total (xs ++ o ∷ []) ≡ still x.kind + total xs + still o.kind = omega arith in r

total_less : (test : Active → Bool) (xs : List Active) → total (without_first test xs) ≤ total xs
total_less test [] = le_refl 0
total_less test (x ∷ xs) = by_test (test x) (total_less test xs) where
  by_test : (b : Bool) → total (without_first test xs) ≤ total xs → total (cond b xs (x ∷ without_first test xs)) ≤ still x.kind + total xs
  by_test true rest = let r : total xs ≤ still x.kind + total xs = omega arith in r
  by_test false rest = let r : still x.kind + total (without_first test xs) ≤ still x.kind + total xs = omega arith in r

total_found : (test : Active → Bool) (xs : List Active) (o : Active) → find test xs ≡ Some o → total (without_first test xs) + still o.kind ≡ total xs
total_found test [] o e = absurd (none_some e)
total_found test (x ∷ xs) o e = by_test (test x) e (total_found test xs o) where
  by_test : (b : Bool) → cond b (Some x) (find test xs) ≡ Some o → (find test xs ≡ Some o → total (without_first test xs) + still o.kind ≡ total xs)
      → total (cond b xs (x ∷ without_first test xs)) + still o.kind ≡ still x.kind + total xs
  by_test true e later = subst (λ (u : Active). total xs + still u.kind ≡ still x.kind + total xs) (some_same e) (let r : total xs + still x.kind ≡ still x.kind + total xs = omega arith in r)
  by_test false e later =
      let rest : total (without_first test xs) + still o.kind ≡ total xs = later e in
      let r : still x.kind + total (without_first test xs) + still o.kind ≡ still x.kind + total xs = omega arith in r

total_change : (test : Active → Bool) (step : Step) (xs : List Active) → total (change_first test (with_step step) xs) ≡ total xs
total_change test step [] = refl
total_change test step (x ∷ xs) = by_test (test x) (total_change test step xs) where
  by_test : (b : Bool) → total (change_first test (with_step step) xs) ≡ total xs → total (cond b (with_step step x ∷ xs) (x ∷ change_first test (with_step step) xs)) ≡ still x.kind + total xs
  by_test true rest = refl
  by_test false rest = ap (λ n. still x.kind + n) rest

abbrev total_as_live : List Transaction → List Active → ℕ
total_as_live snapshot os = total (map (λ o. with_kind (made_live snapshot o.kind) o) os)

total_live : (epoch : ℕ) (snapshot : List Transaction) (os : List Active) → length (slots_of epoch os) + total_as_live snapshot os ≡ total os
total_live epoch snapshot [] = refl
total_live epoch snapshot (o ∷ os) = by_kind o.kind (total_live epoch snapshot os) where
  by_kind : (k : Kind) → length (slots_of epoch os) + total_as_live snapshot os ≡ total os → length (cons_option (slot_if epoch k o.number) (slots_of epoch os)) + (still (made_live snapshot k) + total_as_live snapshot os) ≡ still k + total os
  by_kind IsShort e = let r : length (slots_of epoch os) + (1 + total_as_live snapshot os) ≡ 1 + total os = omega arith in r
  by_kind (IsPending d) e = let r : suc (length (slots_of epoch os)) + (1 + total_as_live snapshot os) ≡ 2 + total os = omega arith in r
  by_kind (IsLive d old) e = let r : length (slots_of epoch os) + (1 + total_as_live snapshot os) ≡ 1 + total os = omega arith in r

-- so many numbers were given
abbrev pub AreFew : State → Type 0
AreFew s = length s.moves + total s.active ≤ s.last + s.last

module _ (s : State) (h : AreFew s) where
  one_more : (m : Timed) → length (s.moves ++ m ∷ []) ≡ length s.moves + 1
  one_more m = length-append s.moves (m ∷ [])

  after_begin : (session : ℕ) (o : Active) → still o.kind ≤ 2 → length s.moves + total (without_first (is_of session) s.active ++ o ∷ []) ≤ (s.last + 1) + (s.last + 1)
  after_begin session o few =
      let less : total (without_first (is_of session) s.active) ≤ total s.active = total_less (is_of session) s.active in
      let push : total (without_first (is_of session) s.active ++ o ∷ []) ≡ total (without_first (is_of session) s.active) + still o.kind = total_push (without_first (is_of session) s.active) o in
      let r : length s.moves + total (without_first (is_of session) s.active ++ o ∷ []) ≤ (s.last + 1) + (s.last + 1) = omega arith in r

  after_move : (session : ℕ) (o : Active) (m : Timed) → active_of s session ≡ Some o → length (s.moves ++ m ∷ []) + total (without_first (is_of session) s.active) ≤ s.last + s.last
  after_move session o m is =
      let found : total (without_first (is_of session) s.active) + still o.kind ≡ total s.active = total_found (is_of session) s.active o is in
      let longer : length (s.moves ++ m ∷ []) ≡ length s.moves + 1 = one_more m in
      let some : 1 ≤ still o.kind = by_kind o.kind in
      let r : length (s.moves ++ m ∷ []) + total (without_first (is_of session) s.active) ≤ s.last + s.last = omega arith in r where
        by_kind : (k : Kind) → 1 ≤ still k
        by_kind IsShort = let r : 1 ≤ 1 = omega arith in r
        by_kind (IsPending d) = let r : 1 ≤ 2 = omega arith in r
        by_kind (IsLive d snapshot) = let r : 1 ≤ 1 = omega arith in r

  after_close : (session : ℕ) → length s.moves + total (without_first (is_of session) s.active) ≤ s.last + s.last
  after_close session =
      let less : total (without_first (is_of session) s.active) ≤ total s.active = total_less (is_of session) s.active in
      let r : length s.moves + total (without_first (is_of session) s.active) ≤ s.last + s.last = omega arith in r

  after_end : (session : ℕ) (o : Active) → active_of s session ≡ Some o → (k : Kind) → AreFew (left (closed s session) k o.number)
  after_end session o is IsShort = after_close session
  after_end session o is (IsPending d) = after_close session
  after_end session o is (IsLive d snapshot) = after_move session o (record { epoch = s.epoch; move = Leave o.number }) is

  after_answer : (session : ℕ) (op : Op) (reply : Reply) → AreFew (answered s op reply session)
  after_answer session op reply =
      subst (λ n. length s.moves + n ≤ s.last + s.last) (sym (total_change (is_of session) (record { op = op; reply = reply; order = serial s.agenda; latest = latest s }) s.active)) h

  after_advance : (next : ℕ) → AreFew (advanced s next)
  after_advance next =
      let lives : List Active = map (λ o. with_kind (made_live (serial s.agenda) o.kind) o) s.active in
      let both : length (slots_of next s.active) + total lives ≡ total s.active = total_live next (serial s.agenda) s.active in
      let longer : length (s.moves ++ slots_of next s.active) ≡ length s.moves + length (slots_of next s.active) = length-append s.moves (slots_of next s.active) in
      let few : length (s.moves ++ slots_of next s.active) + total lives ≤ s.last + s.last = omega arith in
      subst (λ n. length (advanced s next).moves + total (advanced s next).active ≤ n + n) (sym (last_kept next (in_epoch s next) s.active))
      (subst (λ l. length l + total (advanced s next).active ≤ s.last + s.last) (sym (advanced_moves next (in_epoch s next) s.active))
      (subst (λ l. length (s.moves ++ slots_of next s.active) + total l ≤ s.last + s.last) (sym (slots_active next (in_epoch s next) s.active)) few))

  after_flush : (epoch : ℕ) (b : Bool) → AreFew (durable_if b s epoch)
  after_flush epoch true = h
  after_flush epoch false = h

  few_cases : Cases s (λ line reply next. AreFew next)
  few_cases = record {
    nothing = λ line reply leaves. h;
    begins_short = λ session none. after_begin session (record { session = session; kind = IsShort; number = s.last + 1; steps = [] }) (let r : 1 ≤ 2 = omega arith in r);
    begins_long = λ session writes reads none.
        after_begin session (record { session = session; kind = IsPending (record { writes = writes; reads = reads; from = s.epoch + 1 }); number = s.last + 1; steps = [] }) (le_refl 2);
    answers_short = λ session op o reply is kind free sees answers. after_answer session op reply;
    answers_batch = λ session op o d snapshot reply is kind inside sees answers. after_answer session op reply;
    commits_short = λ session o is kind free unchanged. after_move session o (record { epoch = s.epoch; move = CommitShort (transaction_of o) }) is;
    commits_home = λ session o d snapshot is kind none. after_move session o (record { epoch = s.epoch; move = CommitHome (transaction_of o) }) is;
    commits_before = λ session o d snapshot p is kind aim free elder. after_move session o (record { epoch = s.epoch; move = CommitBefore (transaction_of o) p }) is;
    ends = λ session verb reply o is ends. after_end session o is o.kind;
    advances = after_advance (s.epoch + 1);
    flushes = λ epoch which. after_flush epoch (nat_lt s.durable epoch);
  }

few_of : (built : State → Line → Bool) (base : Base) (history : List Entry) → IsLegalWith built base history → AreFew (state base history)
few_of built base history legal = along built AreFew few_cases (first_state base) history (let r : 0 + 0 ≤ base.last + base.last = omega arith in r) legal

pub moves_few : (built : State → Line → Bool) (base : Base) (history : List Entry) → IsLegalWith built base history → length (state base history).moves ≤ (state base history).last + (state base history).last
moves_few built base history legal =
    let s : State = state base history in
    let few : length s.moves + total s.active ≤ s.last + s.last = few_of built base history legal in
    let r : length s.moves ≤ s.last + s.last = omega arith in r
