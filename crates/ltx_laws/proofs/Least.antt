-- The least live batch, as long as it is live: the others have greater numbers, and so has each batch that commits after its slot.
use Rattle.std.proofs.Common.{◌≡◌, ℕ, ◌+◌, ◌<◌, ◌≤◌, Bool, true, false, cond, ◌||◌, ◌==◌, List, [], ◌∷◌, ◌++◌, nat_lt, Some, None, refl, sym, ◌∙◌, subst, arith}
use Rattle.std.specs.List.{AllByRecursion}
use Rattle.ltx_model.specs.declared.commands.Op.{Op}
use Rattle.ltx_model.specs.declared.commands.Line.{Line}
use Rattle.ltx_model.specs.declared.replies.Entry.{Entry}
use Rattle.ltx_model.specs.declared.replies.Reply.{Reply}
use Rattle.ltx_model.specs.Lists.{without_first}
use Rattle.ltx_model.specs.Operations.{Transaction}
use Rattle.ltx_model.specs.Agenda.{Slot, CommitShort, CommitHome, CommitBefore, Leave, Move, Timed, is_slot, commits_batch, moves_since, serial, has_slot}
use Rattle.ltx_model.specs.States.{Declaration, Kind, IsShort, IsPending, IsLive, Active, transaction_of, Base, State, is_of, active_of, latest}
use Rattle.ltx_model.specs.Histories.{with_active, closed, moved, with_step, with_kind, begun, answered, left, ended, slot_after, slots_after, in_epoch, advanced, durable_if, made_durable, after, state_from}
use Rattle.ltx_model.specs.Answers.{staged, IsLegalFrom}
use Rattle.ltx_laws.specs.Structure.{IsLiveBatch, IsPendingBatch, Structure}
use Rattle.ltx_lemmas.proofs.Lists.{all_map, all_push, all_without, all_find, all_change, without_nothing}
use Rattle.ltx_laws.proofs.Pairs.{same_number, all_replace}
use Rattle.ltx_laws.proofs.Agendas.{any_push_not, any_kept, since_more, since_new}
use Rattle.ltx_laws.proofs.Transitions.{Cases, entry_case, along}
use Rattle.ltx_laws.proofs.Standing.{IsPendingKind}
use Rattle.ltx_laws.proofs.StructureSlots.{pending, slot_structure, advanced_along, in_epoch_structure}
use Rattle.ltx_laws.proofs.Structures.{live_stands, structure_cases}

abbrev pub IsLiveKind : Kind → Type 0
IsLiveKind IsShort = ⊥
IsLiveKind (IsPending d) = ⊥
IsLiveKind (IsLive d snapshot) = Unit {0}

-- a batch that a move commits has the number n or a greater one, and had a slot
abbrev pub CommitsFrom : ℕ → List Timed → Timed → Type 0
CommitsFrom n moves m = (j : ℕ) → commits_batch j m.move ≡ true → (n ≤ j) × (has_slot moves j ≡ true)

-- No live batch has a number below n, and no batch below n has committed after the slot of n.
pub record IsLeastFrom (n : ℕ) (s : State) : Type 0 where
  pub slotted : has_slot s.moves n ≡ true
  pub lives : AllByRecursion (λ o. IsLiveKind o.kind → n ≤ o.number) s.active
  pub commits : AllByRecursion (CommitsFrom n s.moves) (moves_since n s.moves)

-- one more move, of which this holds
commits_push : (n : ℕ) (moves : List Timed) (m : Timed) → has_slot moves n ≡ true → CommitsFrom n (moves ++ m ∷ []) m → AllByRecursion (CommitsFrom n moves) (moves_since n moves) → AllByRecursion (CommitsFrom n (moves ++ m ∷ [])) (moves_since n (moves ++ m ∷ []))
commits_push n moves m slotted one all = subst (AllByRecursion (CommitsFrom n (moves ++ m ∷ []))) (sym (since_more n moves (m ∷ []) slotted))
    (all_push (CommitsFrom n (moves ++ m ∷ [])) (moves_since n moves) m (all_map (CommitsFrom n moves) (CommitsFrom n (moves ++ m ∷ [])) (λ x h j e. ((h j e).0, any_kept (λ y. is_slot j y.move) moves (m ∷ []) (h j e).1)) (moves_since n moves) all) one)

module _ (base : Base) (n : ℕ) (s : State) (inv : Structure base s) (h : IsLeastFrom n s) where
  less : (session : ℕ) → AllByRecursion (λ o. IsLiveKind o.kind → n ≤ o.number) (without_first (is_of session) s.active)
  less session = all_without (λ o. IsLiveKind o.kind → n ≤ o.number) (is_of session) s.active h.lives

  -- a move of the open transaction of a session
  moved_least : (session : ℕ) (move : Move) → CommitsFrom n (s.moves ++ record { epoch = s.epoch; move = move } ∷ []) (record { epoch = s.epoch; move = move }) → IsLeastFrom n (moved (closed s session) s.epoch move)
  moved_least session move one = record {
    slotted = any_kept (λ y. is_slot n y.move) s.moves (record { epoch = s.epoch; move = move } ∷ []) h.slotted;
    lives = less session;
    commits = commits_push n s.moves (record { epoch = s.epoch; move = move }) h.slotted one h.commits;
  }

  closed_least : (session : ℕ) → IsLeastFrom n (closed s session)
  closed_least session = record { slotted = h.slotted; lives = less session; commits = h.commits }

  -- a live batch commits
  own : (session : ℕ) (o : Active) (d : Declaration) (snapshot : List Transaction) → active_of s session ≡ Some o → o.kind ≡ IsLive d snapshot → (m : Timed) → (j : ℕ) → (o.number == j) ≡ true → (n ≤ j) × (has_slot (s.moves ++ m ∷ []) j ≡ true)
  own session o d snapshot is kind m j e =
      let same : o.number ≡ j = same_number o.number j e in
      let live : IsLiveKind o.kind = subst IsLiveKind (sym kind) tt in
      let from : n ≤ o.number = all_find (λ u. IsLiveKind u.kind → n ≤ u.number) (is_of session) s.active o h.lives is live in
      let stands : IsLiveBatch s.agenda s.moves o.number d snapshot o.steps = live_stands base s inv session o is d snapshot kind in
      (subst (λ k. n ≤ k) same from, any_kept (λ y. is_slot j y.move) s.moves (m ∷ []) (subst (λ k. has_slot s.moves k ≡ true) same stands.slotted))

  ended_least : (session : ℕ) (o : Active) → IsLeastFrom n (ended s o session)
  ended_least session o = by_kind o.kind where
    by_kind : (k : Kind) → IsLeastFrom n (left (closed s session) k o.number)
    by_kind IsShort = closed_least session
    by_kind (IsPending d) = closed_least session
    by_kind (IsLive d snapshot) = moved_least session (Leave o.number) (λ j e. absurd (let none : ⊥ = cc in none))

  begun_least : (kind : Kind) (k session : ℕ) → (IsLiveKind kind → ⊥) → active_of s session ≡ None → IsLeastFrom n (begun s kind k session)
  begun_least kind k session not none = record {
    slotted = h.slotted;
    lives = subst (λ l. AllByRecursion (λ o. IsLiveKind o.kind → n ≤ o.number) (l ++ record { session = session; kind = kind; number = k; steps = [] } ∷ [])) (sym (without_nothing (is_of session) s.active none))
        (all_push (λ o. IsLiveKind o.kind → n ≤ o.number) s.active (record { session = session; kind = kind; number = k; steps = [] }) h.lives (λ live. absurd (not live)));
    commits = h.commits;
  }

  answered_least : (op : Op) (reply : Reply) (session : ℕ) → IsLeastFrom n (answered s op reply session)
  answered_least op reply session = record {
    slotted = h.slotted;
    lives = all_change (λ o. IsLiveKind o.kind → n ≤ o.number) (λ o. IsLiveKind o.kind → n ≤ o.number) (is_of session) (with_step (record { op = op; reply = reply; order = serial s.agenda; latest = latest s })) s.active (λ u e. e) (λ u found e. e) h.lives;
    commits = h.commits;
  }

  durable_least : (epoch : ℕ) → IsLeastFrom n (made_durable s epoch)
  durable_least epoch = by_test (nat_lt s.durable epoch) where
    by_test : (b : Bool) → IsLeastFrom n (durable_if b s epoch)
    by_test true = record { slotted = h.slotted; lives = h.lives; commits = h.commits }
    by_test false = h

-- a pending batch that becomes live has a greater number
record IsLeastState (base : Base) (n : ℕ) (s : State) : Type 0 where
  structure : Structure base s
  least : IsLeastFrom n s

slot_least : (base : Base) (n : ℕ) (s : State) (epoch : ℕ) (front back : List Active) (o : Active) (d : Declaration) (kind : o.kind ≡ IsPending d) (q : IsLeastState base n (with_active s (front ++ o ∷ back)))
    (started : AllByRecursion (λ u. IsPendingKind u.kind → ⊥) front) (snapshot : List Transaction) (taken : snapshot ≡ serial s.agenda) → IsLeastFrom n (with_active (moved s epoch (Slot o.number)) (front ++ with_kind (IsLive d snapshot) o ∷ back))
slot_least base n s epoch front back o d kind q started snapshot taken =
    let waits : IsPendingBatch s.agenda s.moves o.number o.steps = pending base s epoch front back o d kind q.structure started snapshot taken in
    let less : n < o.number = waits.later n q.least.slotted in
    let from : n ≤ o.number = omega arith in
    record {
      slotted = any_kept (λ y. is_slot n y.move) s.moves (record { epoch = epoch; move = Slot o.number } ∷ []) q.least.slotted;
      lives = all_replace (λ u. IsLiveKind u.kind → n ≤ u.number) (λ u. IsLiveKind u.kind → n ≤ u.number) (λ u e. e) front o (with_kind (IsLive d snapshot) o) back (λ live. from) q.least.lives;
      commits = commits_push n s.moves (record { epoch = epoch; move = Slot o.number }) q.least.slotted (λ j e. absurd (let none : ⊥ = cc in none)) q.least.commits;
    }

advanced_least : (base : Base) (n : ℕ) (s : State) (epoch : ℕ) → Structure base s → IsLeastFrom n s → IsLeastFrom n (advanced s epoch)
advanced_least base n s epoch inv h = (advanced_along (IsLeastState base n) epoch s
    (λ t front back o d kind q started taken. record {
      structure = slot_structure base t epoch front back o d kind q.structure started (serial s.agenda) taken;
      least = slot_least base n t epoch front back o d kind q started (serial s.agenda) taken;
    })
    (record { structure = in_epoch_structure base s epoch inv; least = record { slotted = h.slotted; lives = h.lives; commits = h.commits } })).least

least_cases : (base : Base) (n : ℕ) (s : State) → IsLeastState base n s → Cases s (λ line reply s'. IsLeastState base n s')
least_cases base n s q =
    let inv : Structure base s = q.structure in
    let h : IsLeastFrom n s = q.least in
    let c : Cases s (λ line reply s'. Structure base s') = structure_cases base s inv in
    record {
      nothing = λ line reply e. q;
      begins_short = λ session none. record { structure = c.begins_short session none; least = begun_least base n s inv h IsShort (s.last + 1) session (λ live. live) none };
      begins_long = λ session writes reads none. record { structure = c.begins_long session writes reads none; least = begun_least base n s inv h (IsPending (record { writes = writes; reads = reads; from = s.epoch + 1 })) (s.last + 1) session (λ live. live) none };
      answers_short = λ session op o reply is kind held sees answers. record { structure = c.answers_short session op o reply is kind held sees answers; least = answered_least base n s inv h op reply session };
      answers_batch = λ session op o d snapshot reply is kind inside sees answers. record { structure = c.answers_batch session op o d snapshot reply is kind inside sees answers; least = answered_least base n s inv h op reply session };
      commits_short = λ session o is kind held unchanged. record { structure = c.commits_short session o is kind held unchanged; least = moved_least base n s inv h session (CommitShort (transaction_of o)) (λ j e. absurd (let none : ⊥ = cc in none)) };
      commits_home = λ session o d snapshot is kind none. record {
        structure = c.commits_home session o d snapshot is kind none;
        least = moved_least base n s inv h session (CommitHome (transaction_of o)) (own base n s inv h session o d snapshot is kind (record { epoch = s.epoch; move = CommitHome (transaction_of o) }));
      };
      commits_before = λ session o d snapshot p is kind t witness reader. record {
        structure = c.commits_before session o d snapshot p is kind t witness reader;
        least = moved_least base n s inv h session (CommitBefore (transaction_of o) p) (own base n s inv h session o d snapshot is kind (record { epoch = s.epoch; move = CommitBefore (transaction_of o) p }));
      };
      ends = λ session verb reply o is e. record { structure = c.ends session verb reply o is e; least = ended_least base n s inv h session o };
      advances = record { structure = c.advances; least = advanced_least base n s (s.epoch + 1) inv h };
      flushes = λ epoch which. record { structure = c.flushes epoch which; least = durable_least base n s inv h epoch };
    }

pub least_along : (built : State → Line → Bool) (base : Base) (n : ℕ) (s : State) (history : List Entry) → Structure base s → IsLeastFrom n s → IsLegalFrom built s history → IsLeastFrom n (state_from s history)
least_along built base n s history inv h legal = (along built (IsLeastState base n) (least_cases base n) s history (record { structure = inv; least = h }) legal).least

-- When a batch becomes live, nobody has committed after its slot.
abbrev pub IsUncommitting : Timed → Type 0
IsUncommitting m = (j : ℕ) → commits_batch j m.move ≡ true → ⊥

pub since_none : (n : ℕ) (moves : List Timed) → has_slot moves n ≡ false → moves_since n moves ≡ []
since_none n [] e = refl
since_none n (m ∷ ms) e = by_test (is_slot n m.move) e (since_none n ms) where
  by_test : (b : Bool) → (b || has_slot ms n) ≡ false → (has_slot ms n ≡ false → moves_since n ms ≡ []) → cond b ms (moves_since n ms) ≡ []
  by_test true e later = cc
  by_test false e later = later e

slot_since : (n k epoch : ℕ) (moves : List Timed) → AllByRecursion IsUncommitting (moves_since n moves) → AllByRecursion IsUncommitting (moves_since n (moves ++ record { epoch = epoch; move = Slot k } ∷ []))
slot_since n k epoch moves all = by_slot (has_slot moves n) refl where
  by_number : (b : Bool) → (k == n) ≡ b → has_slot moves n ≡ false → AllByRecursion IsUncommitting (moves_since n (moves ++ record { epoch = epoch; move = Slot k } ∷ []))
  by_number true e slot = subst (AllByRecursion IsUncommitting) (sym (since_new n moves (record { epoch = epoch; move = Slot k }) slot e)) tt
  by_number false e slot = subst (AllByRecursion IsUncommitting) (sym (since_none n (moves ++ record { epoch = epoch; move = Slot k } ∷ []) (any_push_not (λ y. is_slot n y.move) moves (record { epoch = epoch; move = Slot k }) e ∙ slot))) tt

  by_slot : (b : Bool) → has_slot moves n ≡ b → AllByRecursion IsUncommitting (moves_since n (moves ++ record { epoch = epoch; move = Slot k } ∷ []))
  by_slot true slot = subst (AllByRecursion IsUncommitting) (sym (since_more n moves (record { epoch = epoch; move = Slot k } ∷ []) slot)) (all_push IsUncommitting (moves_since n moves) (record { epoch = epoch; move = Slot k }) all (λ j e. let none : ⊥ = cc in none))
  by_slot false slot = by_number (k == n) refl slot

slots_since : (n epoch : ℕ) (s : State) (os : List Active) → AllByRecursion IsUncommitting (moves_since n s.moves) → AllByRecursion IsUncommitting (moves_since n (slots_after epoch s os).moves)
slots_since n epoch s [] all = all
slots_since n epoch s (o ∷ os) all = slots_since n epoch (slot_after epoch s o.kind o.number) os (by_kind o.kind) where
  by_kind : (k : Kind) → AllByRecursion IsUncommitting (moves_since n (slot_after epoch s k o.number).moves)
  by_kind IsShort = all
  by_kind (IsPending d) = slot_since n o.number epoch s.moves all
  by_kind (IsLive d snapshot) = all

-- an entry after which a batch has a slot that it had not before
abbrev TellsSlot : ℕ → State → State → Type 0
TellsSlot n s after = has_slot s.moves n ≡ false → AllByRecursion IsUncommitting (moves_since n after.moves)

module _ (n : ℕ) (s : State) where
  same_slot : TellsSlot n s s
  same_slot slot = subst (AllByRecursion IsUncommitting) (sym (since_none n s.moves slot)) tt

  push_slot : (m : Timed) → is_slot n m.move ≡ false → has_slot s.moves n ≡ false → AllByRecursion IsUncommitting (moves_since n (s.moves ++ m ∷ []))
  push_slot m plain slot = subst (AllByRecursion IsUncommitting) (sym (since_none n (s.moves ++ m ∷ []) (any_push_not (λ y. is_slot n y.move) s.moves m plain ∙ slot))) tt

  ended_slot : (session : ℕ) (o : Active) → TellsSlot n s (ended s o session)
  ended_slot session o = by_kind o.kind where
    by_kind : (k : Kind) → TellsSlot n s (left (closed s session) k o.number)
    by_kind IsShort = same_slot
    by_kind (IsPending d) = same_slot
    by_kind (IsLive d snapshot) = push_slot (record { epoch = s.epoch; move = Leave o.number }) refl

  durable_slot : (epoch : ℕ) → TellsSlot n s (made_durable s epoch)
  durable_slot epoch = by_test (nat_lt s.durable epoch) where
    by_test : (b : Bool) → TellsSlot n s (durable_if b s epoch)
    by_test true = same_slot
    by_test false = same_slot

  slot_cases : Cases s (λ line reply after. TellsSlot n s after)
  slot_cases = record {
    nothing = λ line reply leaves. same_slot;
    begins_short = λ session none. same_slot;
    begins_long = λ session writes reads none. same_slot;
    answers_short = λ session op o reply is kind held sees answers. same_slot;
    answers_batch = λ session op o d snapshot reply is kind inside sees answers. same_slot;
    commits_short = λ session o is kind held unchanged. push_slot (record { epoch = s.epoch; move = CommitShort (transaction_of o) }) refl;
    commits_home = λ session o d snapshot is kind none. push_slot (record { epoch = s.epoch; move = CommitHome (transaction_of o) }) refl;
    commits_before = λ session o d snapshot p is kind t witness reader. push_slot (record { epoch = s.epoch; move = CommitBefore (transaction_of o) p }) refl;
    ends = λ session verb reply o is ends. ended_slot session o;
    advances = λ slot. slots_since n (s.epoch + 1) (in_epoch s (s.epoch + 1)) s.active (same_slot slot);
    flushes = λ epoch which. durable_slot epoch;
  }

pub slot_told : (built : State → Line → Bool) (n : ℕ) (s : State) (entry : Entry) → entry.reply ≡ staged built s entry.line → has_slot s.moves n ≡ false → AllByRecursion IsUncommitting (moves_since n (after s entry).moves)
slot_told built n s entry is slot = entry_case s (λ line reply after. TellsSlot n s after) (slot_cases n s) built entry is slot
