-- Each entry of a legal history may stand where it does.
use Rattle.std.proofs.Common.{◌≡◌, ℕ, ◌+◌, ◌≤◌, ◌<◌, Bool, true, false, List, [], ◌∷◌, ◌++◌, map, Option, Some, None, refl, sym, ap, subst, ◌∙◌, arith}
use Rattle.std.specs.Prelude.{◌==◌, ◌||◌, nat_le, nat_lt, is_some, is_none}
use Rattle.std.specs.List.{find}
use Rattle.std.proofs.lemmas.Bool.{lt-leb}
use Rattle.ltx_model.specs.declared.commands.Op.{Op}
use Rattle.ltx_model.specs.declared.commands.Line.{Line}
use Rattle.ltx_model.specs.declared.replies.Entry.{Entry}
use Rattle.ltx_model.specs.declared.replies.Reply.{Reply}
use Rattle.ltx_model.specs.declared.replies.Reply.TheVariants as replies
use Rattle.ltx_model.specs.Lists.{change_first, without_first}
use Rattle.ltx_model.specs.Operations.{Transaction}
use Rattle.ltx_model.specs.Agenda.{serial}
use Rattle.ltx_model.specs.States.{Kind, IsShort, IsPending, IsLive, Step, Active, State, Base, first_state, is_of, active_of}
use Rattle.ltx_model.specs.Histories.{session_of, with_step, closed, left, ended, begun, answered, made_live, with_kind, in_epoch, durable_if, after, slot_after, slots_after}
use Rattle.ltx_model.specs.Answers.{staged, IsLegalFrom, IsLegalWith}
use Rattle.ltx_model.specs.Explained.{Answers, Ends, Leaves, effect_of}
use Rattle.ltx_laws.proofs.Transitions.{Cases, entry_case}
use Rattle.ltx_laws.proofs.StructureSlots.{slots_active}
use Rattle.ltx_check.specs.declared.desk.Seat.{Seat}
use Rattle.ltx_check.specs.Opens.{Desk, first_desk, seat_of, without_seat, begins, desk_after, desk_after_in, desk_after_reply, is_misplaced, is_misplaced_in, is_open_fault, gives, asked_by, AreWellPlaced, IsWellPlaced}
use Rattle.ltx_transcript.proofs.Gives.{staged_given}

-- ---- seats and open transactions

abbrev is_short_kind : Kind → Bool
is_short_kind IsShort = true
is_short_kind (IsPending d) = false
is_short_kind (IsLive d snapshot) = false

-- the seats are those of the open transactions: their sessions, and whether they are shorts
abbrev AreSeats : List Seat → List Active → Type 0
AreSeats [] [] = Unit {0}
AreSeats [] (o ∷ os) = ⊥
AreSeats (x ∷ xs) [] = ⊥
AreSeats (x ∷ xs) (o ∷ os) = (x.session ≡ o.session) × (x.short ≡ is_short_kind o.kind) × AreSeats xs os

seats_append : (xs : List Seat) (os : List Active) (x : Seat) (o : Active) → AreSeats xs os → x.session ≡ o.session → x.short ≡ is_short_kind o.kind → AreSeats (xs ++ x ∷ []) (os ++ o ∷ [])
seats_append [] [] x o are e k = (e, k, tt)
seats_append [] (y ∷ os) x o are e k = absurd are
seats_append (y ∷ xs) [] x o are e k = absurd are
seats_append (y ∷ xs) (z ∷ os) x o are e k = (are.0, are.1, seats_append xs os x o are.2 e k)

seats_changed : (session : ℕ) (step : Step) (xs : List Seat) (os : List Active) → AreSeats xs os → AreSeats xs (change_first (is_of session) (with_step step) os)
seats_changed session step [] [] are = tt
seats_changed session step [] (o ∷ os) are = absurd are
seats_changed session step (x ∷ xs) [] are = absurd are
seats_changed session step (x ∷ xs) (o ∷ os) are = by (seats_changed session step xs os are.2) (o.session == session) refl where
  by : AreSeats xs (change_first (is_of session) (with_step step) os) → (b : Bool) → (o.session == session) ≡ b → AreSeats (x ∷ xs) (change_first (is_of session) (with_step step) (o ∷ os))
  by rest true e = rw e are
  by rest false e = rw e (are.0, are.1, rest)

seats_without : (session : ℕ) (xs : List Seat) (os : List Active) → AreSeats xs os → AreSeats (without_seat session xs) (without_first (is_of session) os)
seats_without session [] [] are = tt
seats_without session [] (o ∷ os) are = absurd are
seats_without session (x ∷ xs) [] are = absurd are
seats_without session (x ∷ xs) (o ∷ os) are = by (seats_without session xs os are.2) (x.session == session) refl (sym (ap (λ k. k == session) are.0)) where
  by : AreSeats (without_seat session xs) (without_first (is_of session) os) → (b : Bool) → (x.session == session) ≡ b → (o.session == session) ≡ (x.session == session) → AreSeats (without_seat session (x ∷ xs)) (without_first (is_of session) (o ∷ os))
  by rest true e same = rw (e, same ∙ e) are.2
  by rest false e same = rw (e, same ∙ e) (are.0, are.1, rest)

live_short : (snapshot : List Transaction) (k : Kind) → is_short_kind (made_live snapshot k) ≡ is_short_kind k
live_short snapshot IsShort = refl
live_short snapshot (IsPending d) = refl
live_short snapshot (IsLive d old) = refl

seats_live : (snapshot : List Transaction) (xs : List Seat) (os : List Active) → AreSeats xs os → AreSeats xs (map (λ o. with_kind (made_live snapshot o.kind) o) os)
seats_live snapshot [] [] are = tt
seats_live snapshot [] (o ∷ os) are = absurd are
seats_live snapshot (x ∷ xs) [] are = absurd are
seats_live snapshot (x ∷ xs) (o ∷ os) are = (are.0, are.1 ∙ sym (live_short snapshot o.kind), seats_live snapshot xs os are.2)

-- the seat of a session
abbrev IsSeatOf : Option Seat → Option Active → Type 0
IsSeatOf None None = Unit {0}
IsSeatOf None (Some o) = ⊥
IsSeatOf (Some x) None = ⊥
IsSeatOf (Some x) (Some o) = x.short ≡ is_short_kind o.kind

seats_find : (session : ℕ) (xs : List Seat) (os : List Active) → AreSeats xs os → IsSeatOf (seat_of xs session) (find (is_of session) os)
seats_find session [] [] are = tt
seats_find session [] (o ∷ os) are = absurd are
seats_find session (x ∷ xs) [] are = absurd are
seats_find session (x ∷ xs) (o ∷ os) are = by (seats_find session xs os are.2) (x.session == session) refl (sym (ap (λ k. k == session) are.0)) where
  by : IsSeatOf (seat_of xs session) (find (is_of session) os) → (b : Bool) → (x.session == session) ≡ b → (o.session == session) ≡ (x.session == session) → IsSeatOf (seat_of (x ∷ xs) session) (find (is_of session) (o ∷ os))
  by rest true e same = rw (e, same ∙ e) are.1
  by rest false e same = rw (e, same ∙ e) rest

-- what is open by the entries is what is open in the state
record Matches (d : Desk) (s : State) : Type 0 where
  seats : AreSeats d.seats s.active
  last : d.last ≤ s.last

-- ---- replies by their effects

leaves_free : (f : Option ℕ) (d : Desk) (reply : Reply) → effect_of reply ≡ Leaves → is_misplaced_in f d reply ≡ false
leaves_free None d reply e = refl
leaves_free (Some session) d (replies.Begun n) e = cc
leaves_free (Some session) d (replies.BegunAt n epoch) e = cc
leaves_free (Some session) d (replies.Found value) e = cc
leaves_free (Some session) d replies.Absent e = cc
leaves_free (Some session) d (replies.Rows rows) e = cc
leaves_free (Some session) d replies.Done e = cc
leaves_free (Some session) d (replies.Committed epoch) e = cc
leaves_free (Some session) d (replies.CommittedBefore epoch target) e = cc
leaves_free (Some session) d replies.Aborted e = cc
leaves_free (Some session) d (replies.Preserved table holder) e = cc
leaves_free (Some session) d (replies.Changed number table key found current) e = cc
leaves_free (Some session) d (replies.Late target number table key writer) e = cc
leaves_free (Some session) d (replies.Contradicts target number table key reader) e = cc
leaves_free (Some session) d reply e = refl

leaves_desk : (f : Option ℕ) (d : Desk) (reply : Reply) → effect_of reply ≡ Leaves → desk_after_in f reply d ≡ d
leaves_desk None d reply e = refl
leaves_desk (Some session) d (replies.Begun n) e = cc
leaves_desk (Some session) d (replies.BegunAt n epoch) e = cc
leaves_desk (Some session) d (replies.Committed epoch) e = cc
leaves_desk (Some session) d (replies.CommittedBefore epoch target) e = cc
leaves_desk (Some session) d replies.Aborted e = cc
leaves_desk (Some session) d (replies.Preserved table holder) e = cc
leaves_desk (Some session) d (replies.Changed number table key found current) e = cc
leaves_desk (Some session) d (replies.Late target number table key writer) e = cc
leaves_desk (Some session) d (replies.Contradicts target number table key reader) e = cc
leaves_desk (Some session) d reply e = refl

answers_free : (seat : Option Seat) (last : ℕ) (reply : Reply) → effect_of reply ≡ Answers → is_none seat ≡ false → is_misplaced seat last reply ≡ false
answers_free seat last (replies.Found value) e some = some
answers_free seat last replies.Absent e some = some
answers_free seat last (replies.Rows rows) e some = some
answers_free seat last replies.Done e some = some
answers_free seat last reply e some = cc

answers_desk : (session : ℕ) (d : Desk) (reply : Reply) → effect_of reply ≡ Answers → desk_after_reply session reply d ≡ d
answers_desk session d (replies.Found value) e = refl
answers_desk session d replies.Absent e = refl
answers_desk session d (replies.Rows rows) e = refl
answers_desk session d replies.Done e = refl
answers_desk session d reply e = cc

ends_free : (seat : Option Seat) (last : ℕ) (reply : Reply) → effect_of reply ≡ Ends → is_none seat ≡ false → is_misplaced seat last reply ≡ false
ends_free seat last replies.Aborted e some = some
ends_free seat last (replies.Preserved table holder) e some = some
ends_free seat last (replies.Changed number table key found current) e some = some
ends_free seat last (replies.Late target number table key writer) e some = some
ends_free seat last (replies.Contradicts target number table key reader) e some = some
ends_free seat last reply e some = cc

ends_desk : (session : ℕ) (d : Desk) (reply : Reply) → effect_of reply ≡ Ends → desk_after_reply session reply d ≡ record { seats = without_seat session d.seats; last = d.last }
ends_desk session d replies.Aborted e = refl
ends_desk session d (replies.Preserved table holder) e = refl
ends_desk session d (replies.Changed number table key found current) e = refl
ends_desk session d (replies.Late target number table key writer) e = refl
ends_desk session d (replies.Contradicts target number table key reader) e = refl
ends_desk session d reply e = cc

-- ---- one entry

slot_last : (epoch : ℕ) (s : State) (k : Kind) (n : ℕ) → (slot_after epoch s k n).last ≡ s.last
slot_last epoch s IsShort n = refl
slot_last epoch s (IsPending d) n = refl
slot_last epoch s (IsLive d snapshot) n = refl

slots_last : (epoch : ℕ) (s : State) (os : List Active) → (slots_after epoch s os).last ≡ s.last
slots_last epoch s [] = refl
slots_last epoch s (o ∷ os) = slots_last epoch (slot_after epoch s o.kind o.number) os ∙ slot_last epoch s o.kind o.number

module _ (d : Desk) (s : State) (m : Matches d s) where
  -- the reply may stand where its line does, and what is open is told again
  P : Line → Reply → State → Type 0
  P line reply next = (is_misplaced_in (session_of line) d reply ≡ false) × Matches (desk_after_in (session_of line) reply d) next

  seat_here : (session : ℕ) (o : Active) → active_of s session ≡ Some o → (x : Seat) × (seat_of d.seats session ≡ Some x) × (x.short ≡ is_short_kind o.kind)
  seat_here session o is = by (seat_of d.seats session) refl (subst (IsSeatOf (seat_of d.seats session)) is (seats_find session d.seats s.active m.seats)) where
    by : (f : Option Seat) → seat_of d.seats session ≡ f → IsSeatOf (seat_of d.seats session) (Some o) → (x : Seat) × (seat_of d.seats session ≡ Some x) × (x.short ≡ is_short_kind o.kind)
    by None e h = absurd (rw e at h)
    by (Some x) e h = (x, e, rw e at h)

  none_here : (session : ℕ) → active_of s session ≡ None → seat_of d.seats session ≡ None
  none_here session is = by (seat_of d.seats session) refl (subst (IsSeatOf (seat_of d.seats session)) is (seats_find session d.seats s.active m.seats)) where
    by : (f : Option Seat) → seat_of d.seats session ≡ f → IsSeatOf (seat_of d.seats session) None → seat_of d.seats session ≡ None
    by None e h = e
    by (Some x) e h = absurd (rw e at h)

  some_here : (session : ℕ) (o : Active) → active_of s session ≡ Some o → is_none (seat_of d.seats session) ≡ false
  some_here session o is = ap is_none (seat_here session o is).1

  begin_free : (session n : ℕ) → active_of s session ≡ None → s.last < n → (is_some (seat_of d.seats session) || nat_le n d.last) ≡ false
  begin_free session n is high = let low = m.last in rw (none_here session is) (lt-leb n d.last (omega (arith, low, high)))

  begin_matches : (session n : ℕ) (short : Bool) (k : Kind) → short ≡ is_short_kind k → s.last < n → Matches (begins session n short d) (begun s k n session)
  begin_matches session n short k is high = let low = m.last in record {
    seats = seats_append (without_seat session d.seats) (without_first (is_of session) s.active) _ _ (seats_without session d.seats s.active m.seats) refl is;
    last = omega (arith, low, high);
  }

  ended_matches : (session : ℕ) (next : State) → next.active ≡ without_first (is_of session) s.active → next.last ≡ s.last → Matches (record { seats = without_seat session d.seats; last = d.last }) next
  ended_matches session next active last = let low = m.last in record {
    seats = subst (AreSeats (without_seat session d.seats)) (sym active) (seats_without session d.seats s.active m.seats);
    last = omega (arith, low, last);
  }

  same_matches : (next : State) → next.active ≡ s.active → next.last ≡ s.last → Matches d next
  same_matches next active last = let low = m.last in record { seats = subst (AreSeats d.seats) (sym active) m.seats; last = omega (arith, low, last) }

  answered_matches : (session : ℕ) (op : Op) (reply : Reply) → Matches d (answered s op reply session)
  answered_matches session op reply = record { seats = seats_changed session _ d.seats s.active m.seats; last = m.last }

  left_active : (k : Kind) (session n : ℕ) → (left (closed s session) k n).active ≡ without_first (is_of session) s.active
  left_active IsShort session n = refl
  left_active (IsPending x) session n = refl
  left_active (IsLive x snapshot) session n = refl

  left_last : (k : Kind) (session n : ℕ) → (left (closed s session) k n).last ≡ s.last
  left_last IsShort session n = refl
  left_last (IsPending x) session n = refl
  left_last (IsLive x snapshot) session n = refl

  durable_matches : (b : Bool) (epoch : ℕ) → Matches d (durable_if b s epoch)
  durable_matches true epoch = same_matches (durable_if true s epoch) refl refl
  durable_matches false epoch = m

  cases : Cases s P
  unfolding P
  cases = record {
    nothing = λ line reply e. (leaves_free (session_of line) d reply e, subst (λ x. Matches x s) (sym (leaves_desk (session_of line) d reply e)) m);
    begins_short = λ session is. (begin_free session (s.last + 1) is (omega arith), begin_matches session (s.last + 1) true IsShort refl (omega arith));
    begins_long = λ session writes reads is. (begin_free session (s.last + 1) is (omega arith), begin_matches session (s.last + 1) false _ refl (omega arith));
    answers_short = λ session op o reply is kind free sees answers.
        (answers_free (seat_of d.seats session) d.last reply answers (some_here session o is), subst (λ x. Matches x (answered s op reply session)) (sym (answers_desk session d reply answers)) (answered_matches session op reply));
    answers_batch = λ session op o x snapshot reply is kind free sees answers.
        (answers_free (seat_of d.seats session) d.last reply answers (some_here session o is), subst (λ y. Matches y (answered s op reply session)) (sym (answers_desk session d reply answers)) (answered_matches session op reply));
    commits_short = λ session o is kind held first. (some_here session o is, ended_matches session _ refl refl);
    commits_home = λ session o x snapshot is kind free. (some_here session o is, ended_matches session _ refl refl);
    commits_before = λ session o x snapshot p is kind to witness elder.
        let seat = seat_here session o is in
        let long : seat.0.short ≡ false = seat.2 ∙ ap is_short_kind kind in
        (rw seat.1 long, ended_matches session _ refl refl);
    ends = λ session verb reply o is e. (
      ends_free (seat_of d.seats session) d.last reply e (some_here session o is),
      subst (λ x. Matches x (ended s o session)) (sym (ends_desk session d reply e)) (ended_matches session (ended s o session) (left_active o.kind session o.number) (left_last o.kind session o.number)),
    );
    advances = (
      refl,
      record {
        seats = subst (AreSeats d.seats) (sym (slots_active (s.epoch + 1) (in_epoch s (s.epoch + 1)) s.active)) (seats_live (serial s.agenda) d.seats s.active m.seats);
        last = (let low = m.last in let last = slots_last (s.epoch + 1) (in_epoch s (s.epoch + 1)) s.active in omega (arith, low, last));
      },
    );
    flushes = λ epoch which. (refl, durable_matches (nat_lt s.durable epoch) epoch);
  }

  one_placed : (built : State → Line → Bool) (entry : Entry) → entry.reply ≡ staged built s entry.line → (is_open_fault d entry ≡ false) × Matches (desk_after d entry) (after s entry)
  unfolding P
  one_placed built entry is =
      let here = entry_case s P cases built entry is in
      let given : gives (asked_by entry.line) entry.reply ≡ true = subst (λ r. gives (asked_by entry.line) r ≡ true) (sym is) (staged_given built s entry.line) in
      (rw given here.0, here.1)

-- ---- all entries

placed_from : (built : State → Line → Bool) (d : Desk) (s : State) (history : List Entry) → Matches d s → IsLegalFrom built s history → AreWellPlaced d history
unfolding AreWellPlaced IsLegalFrom
placed_from built d s [] m legal = tt
placed_from built d s (entry ∷ rest) m legal =
    let here = one_placed d s m built entry legal.0 in
    (here.0, placed_from built (desk_after d entry) (after s entry) rest here.1 legal.1)

pub legal_placed : (built : State → Line → Bool) (base : Base) (history : List Entry) → IsLegalWith built base history → IsWellPlaced history
legal_placed built base history legal = placed_from built first_desk (first_state base) history (record { seats = tt; last = omega arith }) legal
