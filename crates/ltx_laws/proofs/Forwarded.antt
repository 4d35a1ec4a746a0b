-- A batch that the moves forwarded was printed as forwarded, and of two batches against their numbers the greater one was.
use Rattle.std.proofs.Common.{◌≡◌, ◌⊎◌, inl, inr, ℕ, ◌<◌, Bool, true, false, cond, ◌||◌, ◌==◌, List, [], ◌∷◌, ◌++◌, map, nat_lt, Some, refl, sym, ap, ◌∙◌, subst, append_assoc, ◌+◌}
use Rattle.std.specs.List.{list_any, AllByRecursion}
use Rattle.ltx_model.specs.declared.commands.Line.{Line}
use Rattle.ltx_model.specs.declared.commands.Verb.TheVariants as verbs
use Rattle.ltx_model.specs.declared.replies.Entry.{Entry}
use Rattle.ltx_model.specs.declared.replies.Reply.{Reply}
use Rattle.ltx_model.specs.declared.replies.Reply.TheVariants as replies
use Rattle.ltx_model.specs.Lists.{before_first, IsPairwise}
use Rattle.ltx_model.specs.Operations.{Transaction}
use Rattle.ltx_model.specs.Agenda.{Member, LiveSlot, Committed, number_of, serial, Slot, CommitShort, CommitHome, CommitBefore, Leave, Timed, has_slot}
use Rattle.ltx_model.specs.States.{Kind, IsShort, IsPending, IsLive, Active, transaction_of, Base, IsSound, State, first_state, active_of, order}
use Rattle.ltx_model.specs.Histories.{session_of, closed, left, ended, slot_after, slots_after, in_epoch, durable_if, made_durable, after, state, state_from}
use Rattle.ltx_model.specs.Answers.{staged, IsLegalFrom, IsLegalWith}
use Rattle.ltx_model.specs.Explained.{effect_of}
use Rattle.ltx_model.proofs.OneMore.{state-push}
use Rattle.ltx_laws.specs.Structure.{forwards, is_forwarded, IsBefore, Structure}
use Rattle.ltx_laws.specs.Commits.{IsPrintedForwarded}
use Rattle.ltx_laws.specs.Orders.{StandsBefore}
use Rattle.ltx_lemmas.proofs.Lists.{true_false, all_mapped}
use Rattle.ltx_laws.proofs.Pairs.{same_number}
use Rattle.ltx_laws.proofs.Agendas.{any_push, any_push_not}
use Rattle.ltx_laws.proofs.Transitions.{Cases, asks, entry_case}
use Rattle.ltx_laws.proofs.PlacesByCommit.{serial_all}
use Rattle.ltx_laws.proofs.Structures.{structure_of}

-- The entry forwards the batch n.
record ForwardsNow (s : State) (line : Line) (reply : Reply) (n : ℕ) : Type 0 where
  session : ℕ
  active : Active
  asked : session_of line ≡ Some session
  opened : active_of s session ≡ Some active
  number : active.number ≡ n
  target : ℕ
  epoch : ℕ
  printed : reply ≡ replies.CommittedBefore epoch target

abbrev TellsForward : State → Line → Reply → State → Type 0
TellsForward s line reply after = (n : ℕ) → is_forwarded after.moves n ≡ true → (is_forwarded s.moves n ≡ true) ⊎ ForwardsNow s line reply n

slots_forward : (epoch : ℕ) (s : State) (os : List Active) (n : ℕ) → is_forwarded (slots_after epoch s os).moves n ≡ is_forwarded s.moves n
slots_forward epoch s [] n = refl
slots_forward epoch s (o ∷ os) n = slots_forward epoch (slot_after epoch s o.kind o.number) os n ∙ by_kind o.kind where
  by_kind : (k : Kind) → is_forwarded (slot_after epoch s k o.number).moves n ≡ is_forwarded s.moves n
  by_kind IsShort = refl
  by_kind (IsPending d) = any_push_not (λ x. forwards n x.move) s.moves (record { epoch = epoch; move = Slot o.number }) refl
  by_kind (IsLive d snapshot) = refl

module _ (s : State) where
  -- a move that forwards nobody
  same_forward : (m : Timed) (n : ℕ) → forwards n m.move ≡ false → is_forwarded (s.moves ++ m ∷ []) n ≡ true → is_forwarded s.moves n ≡ true
  same_forward m n none e = sym (any_push_not (λ x. forwards n x.move) s.moves m none) ∙ e

  ended_forward : (session : ℕ) (o : Active) (n : ℕ) → is_forwarded (ended s o session).moves n ≡ true → is_forwarded s.moves n ≡ true
  ended_forward session o n = by_kind o.kind where
    by_kind : (k : Kind) → is_forwarded (left (closed s session) k o.number).moves n ≡ true → is_forwarded s.moves n ≡ true
    by_kind IsShort e = e
    by_kind (IsPending d) e = e
    by_kind (IsLive d snapshot) e = same_forward (record { epoch = s.epoch; move = Leave o.number }) n refl e

  durable_forward : (epoch : ℕ) (n : ℕ) → is_forwarded (made_durable s epoch).moves n ≡ true → is_forwarded s.moves n ≡ true
  durable_forward epoch n = by_test (nat_lt s.durable epoch) where
    by_test : (b : Bool) → is_forwarded (durable_if b s epoch).moves n ≡ true → is_forwarded s.moves n ≡ true
    by_test true e = e
    by_test false e = e

  before_forward : (line : Line) (session : ℕ) (o : Active) (p n : ℕ) → session_of line ≡ Some session → active_of s session ≡ Some o → is_forwarded (s.moves ++ record { epoch = s.epoch; move = CommitBefore (transaction_of o) p } ∷ []) n ≡ true
      → (is_forwarded s.moves n ≡ true) ⊎ ForwardsNow s line (replies.CommittedBefore s.epoch p) n
  before_forward line session o p n asked opened e = by_part (is_forwarded s.moves n) refl (sym (any_push (λ x. forwards n x.move) s.moves (record { epoch = s.epoch; move = CommitBefore (transaction_of o) p })) ∙ e) where
    by_part : (b : Bool) → is_forwarded s.moves n ≡ b → (b || (o.number == n)) ≡ true → (is_forwarded s.moves n ≡ true) ⊎ ForwardsNow s line (replies.CommittedBefore s.epoch p) n
    by_part true is h = inl is
    by_part false is h = inr (record { session = session; active = o; asked = asked; opened = opened; number = same_number o.number n h; target = p; epoch = s.epoch; printed = refl })

  forward_cases : Cases s (TellsForward s)
  forward_cases = record {
    nothing = λ line reply leaves n e. inl e;
    begins_short = λ session none n e. inl e;
    begins_long = λ session writes reads none n e. inl e;
    answers_short = λ session op o reply is kind held sees answers n e. inl e;
    answers_batch = λ session op o d snapshot reply is kind inside sees answers n e. inl e;
    commits_short = λ session o is kind held unchanged n e. inl (same_forward (record { epoch = s.epoch; move = CommitShort (transaction_of o) }) n refl e);
    commits_home = λ session o d snapshot is kind none n e. inl (same_forward (record { epoch = s.epoch; move = CommitHome (transaction_of o) }) n refl e);
    commits_before = λ session o d snapshot p is kind t witness reader n e. before_forward (asks session verbs.Commit) session o p n refl is e;
    ends = λ session verb reply o is ends n e. inl (ended_forward session o n e);
    advances = λ n e. inl (sym (slots_forward (s.epoch + 1) (in_epoch s (s.epoch + 1)) s.active n) ∙ e);
    flushes = λ epoch which n e. inl (durable_forward epoch n e);
  }

-- along a history, from the entries before it
forwarded_from : (built : State → Line → Bool) (base : Base) (before history : List Entry) (n : ℕ) → IsLegalFrom built (state base before) history → is_forwarded (state_from (state base before) history).moves n ≡ true
    → (is_forwarded (state base before).moves n ≡ true) ⊎ IsPrintedForwarded base (before ++ history) n
unfolding IsLegalFrom state_from
forwarded_from built base before [] n legal e = inl e
forwarded_from built base before (entry ∷ entries) n legal e =
    let s : State = state base before in
    let then : state base (before ++ entry ∷ []) ≡ after s entry = state-push (first_state base) before entry in
    let joined : (before ++ entry ∷ []) ++ entries ≡ before ++ entry ∷ entries = append_assoc before (entry ∷ []) entries in
    by_rest then joined legal.0 (forwarded_from built base (before ++ entry ∷ []) entries n (subst (λ t. IsLegalFrom built t entries) (sym then) legal.1) (subst (λ t. is_forwarded (state_from t entries).moves n ≡ true) (sym then) e)) where
      by_now : (is_forwarded (state base before).moves n ≡ true) ⊎ ForwardsNow (state base before) entry.line entry.reply n → (is_forwarded (state base before).moves n ≡ true) ⊎ IsPrintedForwarded base (before ++ entry ∷ entries) n
      by_now (inl e) = inl e
      by_now (inr f) = inr (record {
        before = before;
        entry = entry;
        later = entries;
        parts = refl;
        active = f.active;
        number = f.number;
        commit = record { session = f.session; asked = f.asked; opened = f.opened; printed = ap effect_of f.printed };
        target = f.target;
        printed = (f.epoch, f.printed);
      })

      by_rest : state base (before ++ entry ∷ []) ≡ after (state base before) entry → (before ++ entry ∷ []) ++ entries ≡ before ++ entry ∷ entries → entry.reply ≡ staged built (state base before) entry.line
          → (is_forwarded (state base (before ++ entry ∷ [])).moves n ≡ true) ⊎ IsPrintedForwarded base ((before ++ entry ∷ []) ++ entries) n → (is_forwarded (state base before).moves n ≡ true) ⊎ IsPrintedForwarded base (before ++ entry ∷ entries) n
      by_rest then joined is (inl e) = by_now (entry_case (state base before) (TellsForward (state base before)) (forward_cases (state base before)) built entry is n (subst (λ t. is_forwarded t.moves n ≡ true) then e))
      by_rest then joined is (inr h) = inr (subst (λ l. IsPrintedForwarded base l n) joined h)

pub forwarded_printed : (built : State → Line → Bool) (base : Base) (history : List Entry) (n : ℕ) → IsLegalWith built base history → is_forwarded (state base history).moves n ≡ true → IsPrintedForwarded base history n
unfolding state_from
forwarded_printed built base history n legal e = by_case (forwarded_from built base [] history n legal e) where
  by_case : (is_forwarded (state base []).moves n ≡ true) ⊎ IsPrintedForwarded base history n → IsPrintedForwarded base history n
  by_case (inl e) = cc
  by_case (inr h) = h

-- numbers of the order
pairs_serial : (R : ℕ → ℕ → Type 0) (ms : List Member) → IsPairwise (λ x y. R (number_of x) (number_of y)) ms → IsPairwise R (map (λ t. t.number) (serial ms))
pairs_serial R [] pairs = tt
pairs_serial R (LiveSlot n ∷ ms) pairs = pairs_serial R ms pairs.1
pairs_serial R (Committed t ∷ ms) pairs = (numbers (serial ms) (serial_all (R t.number) ms pairs.0), pairs_serial R ms pairs.1) where
  numbers : (ts : List Transaction) → AllByRecursion (λ (u : Transaction). R t.number u.number) ts → AllByRecursion (R t.number) (map (λ u. u.number) ts)
  numbers ts all = all_mapped (R t.number) (λ u. u.number) ts all

pairs_stand : (R : ℕ → ℕ → Type 0) (a b : ℕ) (ns : List ℕ) → IsPairwise R ns → StandsBefore ns a b → R a b
pairs_stand R a b [] pairs h = absurd (true_false (sym h.member))
pairs_stand R a b (x ∷ xs) pairs h = by_tests (x == b) (x == a) refl refl h.member h.before (λ m f. pairs_stand R a b xs pairs.1 (record { member = m; before = f })) where
  at : (ns : List ℕ) → AllByRecursion (R x) ns → list_any (λ n. n == b) ns ≡ true → R x b
  at [] all e = cc
  at (y ∷ ys) all e = by_test (y == b) refl e (at ys all.1) where
    by_test : (t : Bool) → (y == b) ≡ t → (t || list_any (λ n. n == b) ys) ≡ true → (list_any (λ n. n == b) ys ≡ true → R x b) → R x b
    by_test true is e later = subst (R x) (same_number y b is) all.0
    by_test false is e later = later e

  by_tests : (s t : Bool) → (x == b) ≡ s → (x == a) ≡ t → (s || list_any (λ n. n == b) xs) ≡ true → list_any (λ n. n == a) (cond s [] (x ∷ before_first (λ n. n == b) xs)) ≡ true
      → (list_any (λ n. n == b) xs ≡ true → list_any (λ n. n == a) (before_first (λ n. n == b) xs) ≡ true → R a b) → R a b
  by_tests true t isb isa member before later = absurd (true_false (sym before))
  by_tests false true isb isa member before later = subst (λ n. R n b) (same_number x a isa) (at xs pairs.0 member)
  by_tests false false isb isa member before later = later member (sym (ap (λ c. c || list_any (λ n. n == a) (before_first (λ n. n == b) xs)) isa) ∙ before)

pub against_numbers : (built : State → Line → Bool) (base : Base) (history : List Entry) → IsSound base → IsLegalWith built base history → (a b : ℕ) → has_slot (state base history).moves a ≡ true → has_slot (state base history).moves b ≡ true
    → a < b → StandsBefore (order (state base history)) b a → IsPrintedForwarded base history b
against_numbers built base history sound legal a b sa sb less stands =
    let s : State = state base history in
    let inv : Structure base s = structure_of built base history legal in
    let h : IsBefore s.moves b a = pairs_stand (IsBefore s.moves) b a (order s) (pairs_serial (IsBefore s.moves) s.agenda inv.order) stands in
    forwarded_printed built base history b legal (h.elder sb sa less)
