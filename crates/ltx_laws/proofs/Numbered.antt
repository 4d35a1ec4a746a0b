-- The numbers that moves name are above the base's last one and at most the state's.
use Rattle.std.proofs.Common.{◌≡◌, ℕ, ◌+◌, ◌<◌, ◌≤◌, Bool, true, false, nat_lt, List, [], ◌∷◌, ◌++◌, Some, sym, subst, arith}
use Rattle.std.specs.List.{cons_option, AllByRecursion}
use Rattle.ltx_model.specs.declared.commands.Line.{Line}
use Rattle.ltx_model.specs.declared.replies.Entry.{Entry}
use Rattle.ltx_model.specs.Agenda.{is_member, Move, Slot, CommitShort, CommitHome, CommitBefore, Leave, Timed}
use Rattle.ltx_model.specs.States.{Kind, IsShort, IsPending, IsLive, Active, transaction_of, Base, State, first_state, is_of, active_of}
use Rattle.ltx_model.specs.Histories.{closed, left, in_epoch, advanced, durable_if, after, state, state_from}
use Rattle.ltx_model.specs.Answers.{IsLegalFrom, IsLegalWith}
use Rattle.ltx_lemmas.proofs.Lists.{all_map, all_push, all_append, all_find}
use Rattle.ltx_laws.specs.Structure.{Structure}
use Rattle.ltx_laws.proofs.Places.{all_at}
use Rattle.ltx_laws.proofs.Transitions.{Cases, live_of, entry_case}
use Rattle.ltx_laws.proofs.Structures.{first_structure, structure_after}
use Rattle.ltx_laws.proofs.FloorCounts.{slot_if, slots_of, advanced_moves}
use Rattle.ltx_laws.proofs.Begins.{last_kept}
use Rattle.ltx_laws.proofs.WaitsFor.{target_is}

abbrev pub IsAmong : ℕ → ℕ → ℕ → Type 0
IsAmong low high n = (low < n) × (n ≤ high)

-- the numbers of a move
abbrev pub AreAmong : ℕ → ℕ → Move → Type 0
AreAmong low high (Slot n) = IsAmong low high n
AreAmong low high (CommitShort t) = IsAmong low high t.number
AreAmong low high (CommitHome t) = IsAmong low high t.number
AreAmong low high (CommitBefore t p) = IsAmong low high t.number × IsAmong low high p
AreAmong low high (Leave n) = Unit {0}

abbrev pub AreNumbered : ℕ → State → Type 0
AreNumbered low s = AllByRecursion (λ m. AreAmong low s.last m.move) s.moves

module _ (base : Base) (s : State) (inv : Structure base s) (h : AreNumbered base.last s) where
  low : ℕ
  low = base.last

  higher : (n : ℕ) → IsAmong base.last s.last n → IsAmong base.last (s.last + 1) n
  higher n (a, b) = (a, let r : n ≤ s.last + 1 = omega arith in r)

  move_higher : (m : Move) → AreAmong base.last s.last m → AreAmong base.last (s.last + 1) m
  move_higher (Slot n) a = higher n a
  move_higher (CommitShort t) a = higher t.number a
  move_higher (CommitHome t) a = higher t.number a
  move_higher (CommitBefore t p) (a, b) = (higher t.number a, higher p b)
  move_higher (Leave n) a = tt

  after_begin : AllByRecursion (λ m. AreAmong base.last (s.last + 1) m.move) s.moves
  after_begin = all_map (λ (m : Timed). AreAmong base.last s.last m.move) (λ (m : Timed). AreAmong base.last (s.last + 1) m.move) (λ m. move_higher m.move) s.moves h

  own : (session : ℕ) (o : Active) → active_of s session ≡ Some o → IsAmong base.last s.last o.number
  own session o is = (all_find (λ (u : Active). base.last < u.number) (is_of session) s.active o inv.opens.above is, all_find (λ (u : Active). u.number ≤ s.last) (is_of session) s.active o inv.opens.bound is)

  of_member : (n : ℕ) → is_member s.agenda n ≡ true → IsAmong base.last s.last n
  of_member n e = (all_at (λ k. base.last < k) n s.agenda inv.members.above e, all_at (λ k. k ≤ s.last) n s.agenda inv.members.bound e)

  pushed : (m : Move) → AreAmong base.last s.last m → AllByRecursion (λ x. AreAmong base.last s.last x.move) (s.moves ++ record { epoch = s.epoch; move = m } ∷ [])
  pushed m a = all_push (λ (x : Timed). AreAmong base.last s.last x.move) s.moves (record { epoch = s.epoch; move = m }) h a

  after_end : (session : ℕ) (o : Active) (k : Kind) → AreNumbered base.last (left (closed s session) k o.number)
  after_end session o IsShort = h
  after_end session o (IsPending d) = h
  after_end session o (IsLive d snapshot) = pushed (Leave o.number) tt

  slots_among : (epoch : ℕ) (os : List Active) → AllByRecursion (λ o. base.last < o.number) os → AllByRecursion (λ o. o.number ≤ s.last) os → AllByRecursion (λ m. AreAmong base.last s.last m.move) (slots_of epoch os)
  slots_among epoch [] above bound = tt
  slots_among epoch (o ∷ os) above bound = by_kind o.kind (slots_among epoch os above.1 bound.1) where
    by_kind : (k : Kind) → AllByRecursion (λ m. AreAmong base.last s.last m.move) (slots_of epoch os) → AllByRecursion (λ m. AreAmong base.last s.last m.move) (cons_option (slot_if epoch k o.number) (slots_of epoch os))
    by_kind IsShort rest = rest
    by_kind (IsPending d) rest = ((above.0, bound.0), rest)
    by_kind (IsLive d snapshot) rest = rest

  after_advance : (next : ℕ) → AreNumbered base.last (advanced s next)
  after_advance next =
      subst (λ n. AllByRecursion (λ m. AreAmong base.last n m.move) (advanced s next).moves) (sym (last_kept next (in_epoch s next) s.active))
      (subst (AllByRecursion (λ m. AreAmong base.last s.last m.move)) (sym (advanced_moves next (in_epoch s next) s.active))
      (all_append (λ (m : Timed). AreAmong base.last s.last m.move) s.moves (slots_of next s.active) h (slots_among next s.active inv.opens.above inv.opens.bound)))

  after_flush : (epoch : ℕ) (b : Bool) → AreNumbered base.last (durable_if b s epoch)
  after_flush epoch true = h
  after_flush epoch false = h

  numbered_cases : Cases s (λ line reply next. AreNumbered base.last next)
  numbered_cases = record {
    nothing = λ line reply leaves. h;
    begins_short = λ session none. after_begin;
    begins_long = λ session writes reads none. after_begin;
    answers_short = λ session op o reply is kind free sees answers. h;
    answers_batch = λ session op o d snapshot reply is kind inside sees answers. h;
    commits_short = λ session o is kind free unchanged. pushed (CommitShort (transaction_of o)) (own session o is);
    commits_home = λ session o d snapshot is kind none. pushed (CommitHome (transaction_of o)) (own session o is);
    commits_before = λ session o d snapshot p is kind aim free elder. pushed (CommitBefore (transaction_of o) p) (own session o is, of_member p (target_is base s inv (live_of o d snapshot) p aim).member);
    ends = λ session verb reply o is ends. after_end session o o.kind;
    advances = after_advance (s.epoch + 1);
    flushes = λ epoch which. after_flush epoch (nat_lt s.durable epoch);
  }

numbered_from : (built : State → Line → Bool) (base : Base) (s : State) (history : List Entry) → Structure base s → AreNumbered base.last s → IsLegalFrom built s history → AreNumbered base.last (state_from s history)
unfolding IsLegalFrom state_from
numbered_from built base s [] inv h legal = h
numbered_from built base s (entry ∷ entries) inv h legal =
    numbered_from built base (after s entry) entries (structure_after built base s entry inv legal.0) (entry_case s (λ line reply next. AreNumbered base.last next) (numbered_cases base s inv h) built entry legal.0) legal.1

pub numbered_of : (built : State → Line → Bool) (base : Base) (history : List Entry) → IsLegalWith built base history → AreNumbered base.last (state base history)
numbered_of built base history legal = numbered_from built base (first_state base) history (first_structure base) tt legal
