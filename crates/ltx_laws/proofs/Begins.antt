-- What was begun is told by the entries: the kind of each open transaction, and of each one that the moves name.
use Rattle.std.proofs.Common.{◌≡◌, ◌⊎◌, inl, inr, ℕ, ◌+◌, ◌<◌, ◌≤◌, Bool, true, false, nat_lt, List, [], ◌∷◌, ◌++◌, map, Some, refl, sym, ap, ◌∙◌, subst, append_assoc, append-nil, arith, le_refl, Contains}
use Rattle.std.specs.List.{cons_option, AllByRecursion}
use Rattle.ltx_model.specs.declared.commands.Op.{Op}
use Rattle.ltx_model.specs.declared.commands.Line.{Line}
use Rattle.ltx_model.specs.declared.commands.Verb.TheVariants as verbs
use Rattle.ltx_model.specs.declared.commands.Command.TheVariants as commands
use Rattle.ltx_model.specs.declared.commands.Line.TheVariants as lines
use Rattle.ltx_model.specs.declared.replies.Entry.{Entry}
use Rattle.ltx_model.specs.declared.replies.Reply.{Reply}
use Rattle.ltx_model.specs.declared.replies.Reply.TheVariants as replies
use Rattle.ltx_model.specs.Lists.{change_first, without_first}
use Rattle.ltx_model.specs.Agenda.{serial, Move, Slot, CommitShort, CommitHome, CommitBefore, Leave, Timed}
use Rattle.ltx_model.specs.States.{Declaration, Kind, IsShort, IsPending, IsLive, Active, transaction_of, Base, State, first_state, is_of, active_of, latest}
use Rattle.ltx_model.specs.Histories.{with_step, closed, left, begun, answered, moved, slot_after, slots_after, made_live, with_kind, in_epoch, advanced, durable_if, after, state, state_from}
use Rattle.ltx_model.specs.Answers.{IsLegalFrom, IsLegalWith}
use Rattle.ltx_model.specs.Explained.{Effect, Begins, Answers, Commits, Ends, Leaves, effect_of}
use Rattle.ltx_lemmas.proofs.Lists.{all_map, all_push, all_append, all_without, all_change, all_find, all_mapped, contains_front, contains_parts, contains_cases, contains_none, contains_back, contains_here}
use Rattle.ltx_laws.specs.Printed.{IsPrintedShort, IsPrintedBatchAt, IsPrintedBatch}
use Rattle.ltx_laws.proofs.Transitions.{Cases, asks, entry_case}
use Rattle.ltx_laws.proofs.StructureSlots.{slots_active}
use Rattle.ltx_laws.proofs.FloorCounts.{slot_if, slots_of, advanced_moves}

-- the begin of an open transaction was printed, that of a pending batch with the next epoch
abbrev pub IsBegunAs : List Entry → ℕ → Kind → ℕ → Type 0
IsBegunAs past epoch IsShort n = IsPrintedShort past n
IsBegunAs past epoch (IsPending d) n = IsPrintedBatchAt past n d.from × (d.from ≡ epoch + 1)
IsBegunAs past epoch (IsLive d snapshot) n = IsPrintedBatchAt past n d.from

-- the begin of whom a move names was printed
abbrev pub IsToldMove : List Entry → ℕ → Move → Type 0
IsToldMove past epoch (Slot n) = IsPrintedBatchAt past n epoch
IsToldMove past epoch (CommitShort t) = IsPrintedShort past t.number
IsToldMove past epoch (CommitHome t) = IsPrintedBatch past t.number
IsToldMove past epoch (CommitBefore t target) = IsPrintedBatch past t.number
IsToldMove past epoch (Leave n) = IsPrintedBatch past n

abbrev AreOpens : List Entry → ℕ → List Active → Type 0
AreOpens past epoch active = AllByRecursion (λ o. IsBegunAs past epoch o.kind o.number) active

abbrev AreTold : List Entry → List Timed → Type 0
AreTold past moves = AllByRecursion (λ m. IsToldMove past m.epoch m.move) moves

-- Entries and a state that they lead to.
pub record AreBegun (past : List Entry) (s : State) : Type 0 where
  pub opens : AllByRecursion (λ o. IsBegunAs past s.epoch o.kind o.number) s.active
  pub moves : AllByRecursion (λ m. IsToldMove past m.epoch m.move) s.moves
  pub bound : (x : Entry) (n : ℕ) → Contains past x → effect_of x.reply ≡ Begins n → n ≤ s.last
  -- no number is begun twice
  pub one : (x y : Entry) (n : ℕ) → Contains past x → Contains past y → effect_of x.reply ≡ Begins n → effect_of y.reply ≡ Begins n → x.reply ≡ y.reply

-- one entry more
module _ (past : List Entry) (e : Entry) where
  abbrev more : List Entry
  more = past ++ e ∷ []

  short_more : (n : ℕ) → IsPrintedShort past n → IsPrintedShort more n
  short_more n h = record { entry = h.entry; here = contains_front past (e ∷ []) h.entry h.here; printed = h.printed }

  batch_at_more : (n epoch : ℕ) → IsPrintedBatchAt past n epoch → IsPrintedBatchAt more n epoch
  batch_at_more n epoch h = record { entry = h.entry; here = contains_front past (e ∷ []) h.entry h.here; printed = h.printed }

  batch_more : (n : ℕ) → IsPrintedBatch past n → IsPrintedBatch more n
  batch_more n h = (h.0, batch_at_more n h.0 h.1)

  begun_more : (epoch : ℕ) (k : Kind) (n : ℕ) → IsBegunAs past epoch k n → IsBegunAs more epoch k n
  begun_more epoch IsShort n h = short_more n h
  begun_more epoch (IsPending d) n h = (batch_at_more n d.from h.0, h.1)
  begun_more epoch (IsLive d snapshot) n h = batch_at_more n d.from h

  told_more : (epoch : ℕ) (m : Move) → IsToldMove past epoch m → IsToldMove more epoch m
  told_more epoch (Slot n) h = batch_at_more n epoch h
  told_more epoch (CommitShort t) h = short_more t.number h
  told_more epoch (CommitHome t) h = batch_more t.number h
  told_more epoch (CommitBefore t target) h = batch_more t.number h
  told_more epoch (Leave n) h = batch_more n h

  opens_more : (epoch : ℕ) (active : List Active) → AreOpens past epoch active → AreOpens more epoch active
  opens_more epoch active h = all_map (λ o. IsBegunAs past epoch o.kind o.number) (λ o. IsBegunAs more epoch o.kind o.number) (λ o. begun_more epoch o.kind o.number) active h

  moves_more : (moves : List Timed) → AreTold past moves → AreTold more moves
  moves_more moves h = all_map (λ m. IsToldMove past m.epoch m.move) (λ m. IsToldMove more m.epoch m.move) (λ m. told_more m.epoch m.move) moves h

  here : Contains more e
  here = contains_back past (e ∷ []) e (contains_here e [])

  is_last : (x : Entry) → Contains (e ∷ []) x → e ≡ x
  is_last x c = by_case (contains_cases e [] x c) where
    by_case : (e ≡ x) ⊎ Contains [] x → e ≡ x
    by_case (inl same) = same
    by_case (inr none) = absurd (contains_none x none)

  module _ (s next : State) (h : AreBegun past s) (grows : s.last ≤ next.last) (new : (n : ℕ) → effect_of e.reply ≡ Begins n → (s.last < n) × (n ≤ next.last)) where
    new_of : (x : Entry) (n : ℕ) → e ≡ x → effect_of x.reply ≡ Begins n → (s.last < n) × (n ≤ next.last)
    new_of x n same is = new n (ap (λ (y : Entry). effect_of y.reply) same ∙ is)

    bound_more : (x : Entry) (n : ℕ) → Contains more x → effect_of x.reply ≡ Begins n → n ≤ next.last
    bound_more x n c is = by_part (contains_parts past (e ∷ []) x c) where
      by_part : Contains past x ⊎ Contains (e ∷ []) x → n ≤ next.last
      by_part (inl old) = let low : n ≤ s.last = h.bound x n old is in let r : n ≤ next.last = omega arith in r
      by_part (inr now) = (new_of x n (is_last x now) is).1

    one_more : (x y : Entry) (n : ℕ) → Contains more x → Contains more y → effect_of x.reply ≡ Begins n → effect_of y.reply ≡ Begins n → x.reply ≡ y.reply
    one_more x y n c d is at = by_parts (contains_parts past (e ∷ []) x c) (contains_parts past (e ∷ []) y d) where
      clash : (u v : Entry) → Contains past u → effect_of u.reply ≡ Begins n → e ≡ v → effect_of v.reply ≡ Begins n → ⊥
      clash u v old first same second =
          let low : n ≤ s.last = h.bound u n old first in
          let high : s.last < n = (new_of v n same second).0 in
          let none : ⊥ = omega arith in none

      by_parts : Contains past x ⊎ Contains (e ∷ []) x → Contains past y ⊎ Contains (e ∷ []) y → x.reply ≡ y.reply
      by_parts (inl a) (inl b) = h.one x y n a b is at
      by_parts (inl a) (inr b) = absurd (clash x y a is (is_last y b) at)
      by_parts (inr a) (inl b) = absurd (clash y x b at (is_last x a) is)
      by_parts (inr a) (inr b) = ap (λ (z : Entry). z.reply) (sym (is_last x a) ∙ is_last y b)

    -- these open transactions and moves are told by the entries with this one more
    pub begun_next : AreOpens more next.epoch next.active → AreTold more next.moves → AreBegun more next
    begun_next opens moves = record { opens = opens; moves = moves; bound = bound_more; one = one_more }

-- an entry that begins nothing
module _ (past : List Entry) (s : State) (h : AreBegun past s) (line : Line) (reply : Reply) where
  abbrev e : Entry
  e = record { line = line; reply = reply }

  plain : ((n : ℕ) → effect_of reply ≡ Begins n → ⊥) → (next : State) → next.last ≡ s.last → next.epoch ≡ s.epoch → AreOpens past s.epoch next.active → AreTold past next.moves → AreBegun (past ++ e ∷ []) next
  plain none next last epoch opens moves =
      begun_next past e s next h (subst (λ n. s.last ≤ n) (sym last) (le_refl s.last)) (λ n is. absurd (none n is))
      (subst (λ n. AreOpens (past ++ e ∷ []) n next.active) (sym epoch) (opens_more past e s.epoch next.active opens)) (moves_more past e next.moves moves)

  other : (f : Effect) → effect_of reply ≡ f → ((n : ℕ) → f ≡ Begins n → ⊥) → (n : ℕ) → effect_of reply ≡ Begins n → ⊥
  other f is not n at = not n (sym is ∙ at)

  no_leave : effect_of reply ≡ Leaves → (n : ℕ) → effect_of reply ≡ Begins n → ⊥
  no_leave is = other Leaves is (λ n e. let none : ⊥ = cc in none)

  no_answer : effect_of reply ≡ Answers → (n : ℕ) → effect_of reply ≡ Begins n → ⊥
  no_answer is = other Answers is (λ n e. let none : ⊥ = cc in none)

  no_commit : effect_of reply ≡ Commits → (n : ℕ) → effect_of reply ≡ Begins n → ⊥
  no_commit is = other Commits is (λ n e. let none : ⊥ = cc in none)

  no_end : effect_of reply ≡ Ends → (n : ℕ) → effect_of reply ≡ Begins n → ⊥
  no_end is = other Ends is (λ n e. let none : ⊥ = cc in none)

  rest : (session : ℕ) → AreOpens past s.epoch (without_first (is_of session) s.active)
  rest session = all_without (λ o. IsBegunAs past s.epoch o.kind o.number) (is_of session) s.active h.opens

  pushed : (m : Move) → IsToldMove past s.epoch m → AreTold past (s.moves ++ record { epoch = s.epoch; move = m } ∷ [])
  pushed m told = all_push (λ (x : Timed). IsToldMove past x.epoch x.move) s.moves (record { epoch = s.epoch; move = m }) h.moves told

  -- a transaction of a session, by its kind
  of_session : (session : ℕ) (o : Active) → active_of s session ≡ Some o → (k : Kind) → o.kind ≡ k → IsBegunAs past s.epoch k o.number
  of_session session o is k kind = subst (λ x. IsBegunAs past s.epoch x o.number) kind (all_find (λ u. IsBegunAs past s.epoch u.kind u.number) (is_of session) s.active o h.opens is)

  ended_begun : effect_of reply ≡ Ends → (session : ℕ) (o : Active) → active_of s session ≡ Some o → (k : Kind) → o.kind ≡ k → AreBegun (past ++ e ∷ []) (left (closed s session) k o.number)
  ended_begun is session o at IsShort kind = plain (no_end is) (closed s session) refl refl (rest session) h.moves
  ended_begun is session o at (IsPending d) kind = plain (no_end is) (closed s session) refl refl (rest session) h.moves
  ended_begun is session o at (IsLive d snapshot) kind =
      plain (no_end is) (left (closed s session) (IsLive d snapshot) o.number) refl refl (rest session) (pushed (Leave o.number) (d.from, of_session session o at (IsLive d snapshot) kind))

  answered_begun : effect_of reply ≡ Answers → (session : ℕ) (op : Op) (next : State) → next.last ≡ s.last → next.epoch ≡ s.epoch → next.moves ≡ s.moves
      → next.active ≡ change_first (is_of session) (with_step (record { op = op; reply = reply; order = serial s.agenda; latest = latest s })) s.active → AreBegun (past ++ e ∷ []) next
  answered_begun is session op next last epoch moves active =
      plain (no_answer is) next last epoch
      (subst (AreOpens past s.epoch) (sym active)
      (all_change (λ o. IsBegunAs past s.epoch o.kind o.number) (λ o. IsBegunAs past s.epoch o.kind o.number) (is_of session) (with_step (record { op = op; reply = reply; order = serial s.agenda; latest = latest s })) s.active (λ o b. b) (λ o found b. b) h.opens))
      (subst (AreTold past) (sym moves) h.moves)

  durable_begun : effect_of reply ≡ Leaves → (epoch : ℕ) (b : Bool) → AreBegun (past ++ e ∷ []) (durable_if b s epoch)
  durable_begun is epoch true = plain (no_leave is) (durable_if true s epoch) refl refl h.opens h.moves
  durable_begun is epoch false = plain (no_leave is) s refl refl h.opens h.moves

-- a begin
module _ (past : List Entry) (s : State) (h : AreBegun past s) (e : Entry) (session : ℕ) (kind : Kind) (begins : effect_of e.reply ≡ Begins (s.last + 1)) (next : State) (last : next.last ≡ s.last + 1) (epoch : next.epoch ≡ s.epoch) (moves : next.moves ≡ s.moves) where
  begun_begun : next.active ≡ without_first (is_of session) s.active ++ record { session = session; kind = kind; number = s.last + 1; steps = [] } ∷ [] → IsBegunAs (past ++ e ∷ []) s.epoch kind (s.last + 1) → AreBegun (past ++ e ∷ []) next
  begun_begun active own =
      let o : Active = record { session = session; kind = kind; number = s.last + 1; steps = [] } in
      begun_next past e s next h (subst (λ n. s.last ≤ n) (sym last) (let r : s.last ≤ s.last + 1 = omega arith in r)) number
      (subst (λ n. AreOpens (past ++ e ∷ []) n next.active) (sym epoch) (subst (AreOpens (past ++ e ∷ []) s.epoch) (sym active)
      (all_push (λ (u : Active). IsBegunAs (past ++ e ∷ []) s.epoch u.kind u.number) (without_first (is_of session) s.active) o
      (opens_more past e s.epoch (without_first (is_of session) s.active) (all_without (λ (u : Active). IsBegunAs past s.epoch u.kind u.number) (is_of session) s.active h.opens)) own)))
      (subst (AreTold (past ++ e ∷ [])) (sym moves) (moves_more past e s.moves h.moves)) where
        number : (n : ℕ) → effect_of e.reply ≡ Begins n → (s.last < n) × (n ≤ next.last)
        number n is =
            let same : s.last + 1 ≡ n = cc in
            let high : next.last ≡ s.last + 1 = last in
            (let r : s.last < n = omega arith in r, let r : n ≤ next.last = omega arith in r)

-- slots leave the last number
pub last_kept : (epoch : ℕ) (r : State) (os : List Active) → (slots_after epoch r os).last ≡ r.last
last_kept epoch r [] = refl
last_kept epoch r (o ∷ os) = last_kept epoch (slot_after epoch r o.kind o.number) os ∙ by_kind o.kind where
  by_kind : (k : Kind) → (slot_after epoch r k o.number).last ≡ r.last
  by_kind IsShort = refl
  by_kind (IsPending d) = refl
  by_kind (IsLive d snapshot) = refl

-- an advance
module _ (past : List Entry) (s : State) (h : AreBegun past s) (e : Entry) where
  slots_told : (os : List Active) → AreOpens past s.epoch os → AreTold past (slots_of (s.epoch + 1) os)
  slots_told [] opens = tt
  slots_told (o ∷ os) opens = by_kind o.kind opens.0 (slots_told os opens.1) where
    by_kind : (k : Kind) → IsBegunAs past s.epoch k o.number → AreTold past (slots_of (s.epoch + 1) os) → AreTold past (cons_option (slot_if (s.epoch + 1) k o.number) (slots_of (s.epoch + 1) os))
    by_kind IsShort own rest = rest
    by_kind (IsPending d) own rest = (subst (IsPrintedBatchAt past o.number) own.1 own.0, rest)
    by_kind (IsLive d snapshot) own rest = rest

  live_now : (k : Kind) (n epoch : ℕ) → IsBegunAs past s.epoch k n → IsBegunAs past epoch (made_live (serial s.agenda) k) n
  live_now IsShort n epoch own = own
  live_now (IsPending d) n epoch own = own.0
  live_now (IsLive d snapshot) n epoch own = own

  advanced_begun : ((n : ℕ) → effect_of e.reply ≡ Begins n → ⊥) → AreBegun (past ++ e ∷ []) (advanced s (s.epoch + 1))
  advanced_begun none =
      let next : ℕ = s.epoch + 1 in
      let then : State = advanced s next in
      let opens : AreOpens past then.epoch (map (λ o. with_kind (made_live (serial s.agenda) o.kind) o) s.active) =
      all_mapped (λ (o : Active). IsBegunAs past then.epoch o.kind o.number) (λ o. with_kind (made_live (serial s.agenda) o.kind) o) s.active
      (all_map (λ (o : Active). IsBegunAs past s.epoch o.kind o.number) (λ (o : Active). IsBegunAs past then.epoch (made_live (serial s.agenda) o.kind) o.number) (λ o. live_now o.kind o.number then.epoch) s.active h.opens) in
      begun_next past e s then h (subst (λ n. s.last ≤ n) (sym (last_kept next (in_epoch s next) s.active)) (le_refl s.last)) (λ n is. absurd (none n is))
      (opens_more past e then.epoch then.active (subst (AreOpens past then.epoch) (sym (slots_active next (in_epoch s next) s.active)) opens))
      (moves_more past e then.moves (subst (AreTold past) (sym (advanced_moves next (in_epoch s next) s.active))
      (all_append (λ (m : Timed). IsToldMove past m.epoch m.move) s.moves (slots_of next s.active) h.moves (slots_told s.active h.opens))))

-- case by case
module _ (past : List Entry) (s : State) (h : AreBegun past s) where
  abbrev entry : Line → Reply → Entry
  entry line reply = record { line = line; reply = reply }

  committed_begun : (line : Line) (reply : Reply) (session : ℕ) (m : Move) → effect_of reply ≡ Commits → IsToldMove past s.epoch m → AreBegun (past ++ entry line reply ∷ []) (moved (closed s session) s.epoch m)
  committed_begun line reply session m is told =
      plain past s h line reply (no_commit past s h line reply is) (moved (closed s session) s.epoch m) refl refl (rest past s h line reply session) (pushed past s h line reply m told)

  begun_cases : Cases s (λ line reply next. AreBegun (past ++ record { line = line; reply = reply } ∷ []) next)
  begun_cases = record {
    nothing = λ line reply leaves. plain past s h line reply (no_leave past s h line reply leaves) s refl refl h.opens h.moves;
    begins_short = λ session none.
        let e : Entry = entry (asks session verbs.Short) (replies.Begun (s.last + 1)) in
        begun_begun past s h e session IsShort refl (begun s IsShort (s.last + 1) session) refl refl refl refl (record { entry = e; here = here past e; printed = refl });
    begins_long = λ session writes reads none.
        let e : Entry = entry (asks session (verbs.Long writes reads)) (replies.BegunAt (s.last + 1) (s.epoch + 1)) in
        let d : Declaration = record { writes = writes; reads = reads; from = s.epoch + 1 } in
        begun_begun past s h e session (IsPending d) refl (begun s (IsPending d) (s.last + 1) session) refl refl refl refl (record { entry = e; here = here past e; printed = refl }, refl);
    answers_short = λ session op o reply is kind free sees answers. answered_begun past s h (asks session (verbs.Do op)) reply answers session op (answered s op reply session) refl refl refl refl;
    answers_batch = λ session op o d snapshot reply is kind free sees answers. answered_begun past s h (asks session (verbs.Do op)) reply answers session op (answered s op reply session) refl refl refl refl;
    commits_short = λ session o is kind free unchanged.
        committed_begun (asks session verbs.Commit) (replies.Committed s.epoch) session (CommitShort (transaction_of o)) refl (of_session past s h (asks session verbs.Commit) (replies.Committed s.epoch) session o is IsShort kind);
    commits_home = λ session o d snapshot is kind none.
        committed_begun (asks session verbs.Commit) (replies.Committed s.epoch) session (CommitHome (transaction_of o)) refl (d.from, of_session past s h (asks session verbs.Commit) (replies.Committed s.epoch) session o is (IsLive d snapshot) kind);
    commits_before = λ session o d snapshot p is kind aim free elder.
        committed_begun (asks session verbs.Commit) (replies.CommittedBefore s.epoch p) session (CommitBefore (transaction_of o) p) refl
        (d.from, of_session past s h (asks session verbs.Commit) (replies.CommittedBefore s.epoch p) session o is (IsLive d snapshot) kind);
    ends = λ session verb reply o is ends. ended_begun past s h (asks session verb) reply ends session o is o.kind refl;
    advances = advanced_begun past s h (entry (lines.Good commands.Epoch) (replies.Advanced (s.epoch + 1))) (λ n e. let none : ⊥ = cc in none);
    flushes = λ epoch which. durable_begun past s h (lines.Good commands.Flush) (replies.Durable epoch) refl epoch (nat_lt s.durable epoch);
  }

-- along a legal history
begun_from : (built : State → Line → Bool) (past : List Entry) (s : State) (history : List Entry) → AreBegun past s → IsLegalFrom built s history → AreBegun (past ++ history) (state_from s history)
unfolding IsLegalFrom state_from
begun_from built past s [] h legal = subst (λ l. AreBegun l s) (sym (append-nil past)) h
begun_from built past s (entry ∷ entries) h legal =
    let next : AreBegun (past ++ entry ∷ []) (after s entry) = entry_case s (λ line reply s'. AreBegun (past ++ record { line = line; reply = reply } ∷ []) s') (begun_cases past s h) built entry legal.0 in
    subst (λ l. AreBegun l (state_from (after s entry) entries)) (append_assoc past (entry ∷ []) entries) (begun_from built (past ++ entry ∷ []) (after s entry) entries next legal.1)

pub begun_of : (built : State → Line → Bool) (base : Base) (history : List Entry) → IsLegalWith built base history → AreBegun history (state base history)
begun_of built base history legal =
    begun_from built [] (first_state base) history
    (record { opens = tt; moves = tt; bound = λ x n c is. absurd (contains_none x c); one = λ x y n c d is at. absurd (contains_none x c) }) legal
