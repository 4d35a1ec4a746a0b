-- The moves of a legal history are lawful one after another, and their epochs never fall.
use Rattle.std.proofs.Common.{◌≡◌, ◌≢◌, ℕ, ◌+◌, ◌<◌, ◌≤◌, Bool, true, false, cond, nat_lt, nat_le, List, [], ◌∷◌, ◌++◌, filter, Some, refl, sym, ap, ◌∙◌, subst, append_assoc, append-nil, arith, le_refl}
use Rattle.std.proofs.lemmas.Bool.{leb-false, lt-leb, ne_eqb, false_from_ne_true}
use Rattle.std.specs.List.{cons_option, AllByRecursion}
use Rattle.ltx_model.specs.declared.commands.Line.{Line}
use Rattle.ltx_model.specs.declared.replies.Entry.{Entry}
use Rattle.ltx_model.specs.Agenda.{LiveSlot, is_member, agenda_from, Move, Slot, CommitShort, CommitHome, CommitBefore, Leave, Timed, is_slot, serial, has_slot}
use Rattle.ltx_model.specs.States.{Kind, IsShort, IsPending, IsLive, Step, Active, transaction_of, Base, IsSound, State, first_state, active_of, serial_through}
use Rattle.ltx_model.specs.Histories.{begun, answered, slot_after, slots_after, closed, moved, left, in_epoch, advanced, durable_if, made_durable, state}
use Rattle.ltx_model.specs.Answers.{IsLegalWith}
use Rattle.ltx_model.specs.Lists.{IsPairwise}
use Rattle.ltx_lemmas.proofs.Lists.{all_map, all_push, all_append, all_contains, filter_nothing}
use Rattle.ltx_lemmas.proofs.Members.{member_push_other}
use Rattle.ltx_laws.specs.Structure.{IsKnown, IsSlotOfLive, StandsAs, Stands, Structure}
use Rattle.ltx_laws.specs.Orders.{IsPrefix}
use Rattle.ltx_laws.specs.Drops.{IsLawful, AreLawful, logged_agenda}
use Rattle.ltx_laws.proofs.Transitions.{Cases, along}
use Rattle.ltx_laws.proofs.Pairs.{all_both, pairs_push}
use Rattle.ltx_laws.proofs.Agendas.{agenda_more, any_push_not}
use Rattle.ltx_laws.proofs.Structures.{structure_cases, first_structure, stands_of}
use Rattle.ltx_laws.proofs.Explained.{are_ahead}
use Rattle.ltx_laws.proofs.ReadsKept.{live_slot}
use Rattle.ltx_laws.proofs.FloorCounts.{slot_if, slots_of, advanced_moves}
use Rattle.ltx_laws.proofs.DropsLists.{lawful_push, lawful_front, logged_serial}

-- The moves are lawful, and their epochs rise up to the state's.
pub record AreTimely (s : State) : Type 0 where
  pub lawful : AreLawful [] s.moves
  pub rising : IsPairwise (λ a b. a.epoch ≤ b.epoch) s.moves
  pub bound : AllByRecursion (λ m. m.epoch ≤ s.epoch) s.moves

timely_push : (moves : List Timed) (epoch : ℕ) (m : Timed) → m.epoch ≡ epoch → AllByRecursion (λ x. x.epoch ≤ epoch) moves → IsPairwise (λ a b. a.epoch ≤ b.epoch) moves → IsPairwise (λ a b. a.epoch ≤ b.epoch) (moves ++ m ∷ [])
timely_push moves epoch m is bound rising = pairs_push (λ (a : Timed) (b : Timed). a.epoch ≤ b.epoch) moves m (subst (λ e. AllByRecursion (λ x. x.epoch ≤ e) moves) (sym is) bound) rising

-- one lawful move in the state's epoch
move_timely : (s : State) (after : State) (m : Move) → after.moves ≡ s.moves ++ record { epoch = s.epoch; move = m } ∷ [] → after.epoch ≡ s.epoch → IsLawful s.moves (agenda_from [] s.moves) m → AreTimely s → AreTimely after
move_timely s after m moves epoch lawful t =
    let new : Timed = record { epoch = s.epoch; move = m } in
    record {
      lawful = subst (AreLawful []) (sym moves) (lawful_push s.moves new t.lawful lawful);
      rising = subst (IsPairwise (λ a b. a.epoch ≤ b.epoch)) (sym moves) (timely_push s.moves s.epoch new refl t.bound t.rising);
      bound = subst (λ e. AllByRecursion (λ x. x.epoch ≤ e) after.moves) (sym epoch) (subst (AllByRecursion (λ x. x.epoch ≤ s.epoch)) (sym moves) (all_push (λ (x : Timed). x.epoch ≤ s.epoch) s.moves new t.bound (le_refl s.epoch)));
    }

-- the slots of an advance, one after another
abbrev IsFreshAs : List Timed → Kind → ℕ → Type 0
IsFreshAs past IsShort n = Unit {0}
IsFreshAs past (IsPending d) n = (is_member (agenda_from [] past) n ≡ false) × (has_slot past n ≡ false)
IsFreshAs past (IsLive d snapshot) n = Unit {0}

fresh_more : (past : List Timed) (epoch n : ℕ) (k : Kind) (u : ℕ) → n < u → IsFreshAs past k u → IsFreshAs (past ++ record { epoch = epoch; move = Slot n } ∷ []) k u
fresh_more past epoch n IsShort u less h = tt
fresh_more past epoch n (IsPending d) u less h =
    let other : n ≢ u = λ same. (let none : ⊥ = omega arith in none) in (
      ap (λ ms. is_member ms u) (agenda_more [] past (record { epoch = epoch; move = Slot n })) ∙ member_push_other (agenda_from [] past) (LiveSlot n) u other ∙ h.0,
      any_push_not (λ (x : Timed). is_slot u x.move) past (record { epoch = epoch; move = Slot n }) (ne_eqb n u other) ∙ h.1,
    )
fresh_more past epoch n (IsLive d snapshot) u less h = tt

slots_lawful : (epoch : ℕ) (past : List Timed) (os : List Active) → IsPairwise (λ a b. a.number < b.number) os → AllByRecursion (λ o. IsFreshAs past o.kind o.number) os → AreLawful [] past → AreLawful [] (past ++ slots_of epoch os)
slots_lawful epoch past [] rising fresh lawful = subst (AreLawful []) (sym (append-nil past)) lawful
slots_lawful epoch past (o ∷ os) rising fresh lawful = by_kind o.kind fresh.0 (slots_lawful epoch past os rising.1 fresh.1 lawful) (λ next. slots_lawful epoch next os rising.1) where
  new : Timed
  new = record { epoch = epoch; move = Slot o.number }

  by_kind : (k : Kind) → IsFreshAs past k o.number → AreLawful [] (past ++ slots_of epoch os)
      → ((next : List Timed) → AllByRecursion (λ u. IsFreshAs next u.kind u.number) os → AreLawful [] next → AreLawful [] (next ++ slots_of epoch os))
      → AreLawful [] (past ++ cons_option (slot_if epoch k o.number) (slots_of epoch os))
  by_kind IsShort h rest later = rest
  by_kind (IsLive d snapshot) h rest later = rest
  by_kind (IsPending d) h rest later =
      let more : AllByRecursion (λ u. IsFreshAs (past ++ new ∷ []) u.kind u.number) os =
      all_both (λ u. IsFreshAs past u.kind u.number) (λ u. o.number < u.number) (λ u. IsFreshAs (past ++ new ∷ []) u.kind u.number) (λ u f less. fresh_more past epoch o.number u.kind u.number less f) os fresh.1 rising.0 in
      subst (AreLawful []) (append_assoc past (new ∷ []) (slots_of epoch os)) (later (past ++ new ∷ []) more (lawful_push past new lawful h))

pub slots_epoch : (epoch : ℕ) (os : List Active) → AllByRecursion (λ m. m.epoch ≡ epoch) (slots_of epoch os)
slots_epoch epoch [] = tt
slots_epoch epoch (o ∷ os) = by_kind o.kind (slots_epoch epoch os) where
  by_kind : (k : Kind) → AllByRecursion (λ m. m.epoch ≡ epoch) (slots_of epoch os) → AllByRecursion (λ m. m.epoch ≡ epoch) (cons_option (slot_if epoch k o.number) (slots_of epoch os))
  by_kind IsShort e = e
  by_kind (IsPending d) e = (refl, e)
  by_kind (IsLive d snapshot) e = e

-- epochs of moves, and of later moves in one epoch
rising_append : (epoch : ℕ) (xs ys : List Timed) → IsPairwise (λ a b. a.epoch ≤ b.epoch) xs → AllByRecursion (λ m. m.epoch ≤ epoch) xs → AllByRecursion (λ m. m.epoch ≡ epoch) ys → IsPairwise (λ a b. a.epoch ≤ b.epoch) (xs ++ ys)
rising_append epoch [] [] rising bound same = tt
rising_append epoch [] (y ∷ ys) rising bound same =
    (all_map (λ (m : Timed). m.epoch ≡ epoch) (λ (m : Timed). y.epoch ≤ m.epoch) (λ m e. let own : y.epoch ≡ epoch = same.0 in let h : y.epoch ≤ m.epoch = omega arith in h) ys same.1, rising_append epoch [] ys rising bound same.1)
rising_append epoch (x ∷ xs) ys rising bound same = (
  all_append (λ (m : Timed). x.epoch ≤ m.epoch) xs ys rising.0 (all_map (λ (m : Timed). m.epoch ≡ epoch) (λ (m : Timed). x.epoch ≤ m.epoch) (λ m e. let own : x.epoch ≤ epoch = bound.0 in let h : x.epoch ≤ m.epoch = omega arith in h) ys same),
  rising_append epoch xs ys rising.1 bound.1 same,
)

module _ (base : Base) (s : State) (inv : Structure base s) (t : AreTimely s) where
  -- a move that is lawful in the present agenda
  lawful_now : (m : Move) → IsLawful s.moves s.agenda m → IsLawful s.moves (agenda_from [] s.moves) m
  lawful_now m h = subst (λ ms. IsLawful s.moves ms m) inv.moves h

  slots_epochs : (slots_after (s.epoch + 1) (in_epoch s (s.epoch + 1)) s.active).epoch ≡ s.epoch + 1
  slots_epochs = keeps (s.epoch + 1) (in_epoch s (s.epoch + 1)) s.active where
    keeps : (epoch : ℕ) (r : State) (os : List Active) → (slots_after epoch r os).epoch ≡ r.epoch
    keeps epoch r [] = refl
    keeps epoch r (o ∷ os) = keeps epoch (slot_after epoch r o.kind o.number) os ∙ by_kind o.kind where
      by_kind : (k : Kind) → (slot_after epoch r k o.number).epoch ≡ r.epoch
      by_kind IsShort = refl
      by_kind (IsPending d) = refl
      by_kind (IsLive d snapshot) = refl

  advanced_timely : AreTimely (advanced s (s.epoch + 1))
  advanced_timely =
      let epoch = s.epoch + 1 in
      let moves : (advanced s epoch).moves ≡ s.moves ++ slots_of epoch s.active = advanced_moves epoch (in_epoch s epoch) s.active in
      let wider : AllByRecursion (λ (m : Timed). m.epoch ≤ epoch) s.moves = all_map (λ (m : Timed). m.epoch ≤ s.epoch) (λ (m : Timed). m.epoch ≤ epoch) (λ m e. let h : m.epoch ≤ s.epoch + 1 = omega arith in h) s.moves t.bound in
      let fresh : AllByRecursion (λ o. IsFreshAs s.moves o.kind o.number) s.active = all_map (Stands s.agenda s.moves) (λ o. IsFreshAs s.moves o.kind o.number) (λ o. by_kind o.kind o.number o.steps) s.active inv.stands in
      record {
        lawful = subst (AreLawful []) (sym moves) (slots_lawful epoch s.moves s.active inv.opens.rising fresh t.lawful);
        rising = subst (IsPairwise (λ a b. a.epoch ≤ b.epoch)) (sym moves) (rising_append epoch s.moves (slots_of epoch s.active) t.rising wider (slots_epoch epoch s.active));
        bound = subst (λ e. AllByRecursion (λ (m : Timed). m.epoch ≤ e) (advanced s epoch).moves) (sym slots_epochs)
            (subst (AllByRecursion (λ (m : Timed). m.epoch ≤ epoch)) (sym moves)
            (all_append (λ (m : Timed). m.epoch ≤ epoch) s.moves (slots_of epoch s.active) wider (all_map (λ (m : Timed). m.epoch ≡ epoch) (λ (m : Timed). m.epoch ≤ epoch) (λ m e. let h : m.epoch ≤ epoch = omega arith in h) (slots_of epoch s.active) (slots_epoch epoch s.active))));
      } where
        by_kind : (k : Kind) (n : ℕ) (steps : List Step) → StandsAs s.agenda s.moves k n steps → IsFreshAs s.moves k n
        by_kind IsShort n steps h = tt
        by_kind (IsPending d) n steps h = (
          subst (λ ms. is_member ms n ≡ false) inv.moves h.fresh,
          false_from_ne_true (has_slot s.moves n) (λ is. let less : n < n = h.later n is in let none : ⊥ = omega arith in none),
        )
        by_kind (IsLive d snapshot) n steps h = tt

  durable_timely : (epoch : ℕ) → AreTimely (made_durable s epoch)
  durable_timely epoch = by_test (nat_lt s.durable epoch) where
    by_test : (b : Bool) → AreTimely (durable_if b s epoch)
    by_test true = record { lawful = t.lawful; rising = t.rising; bound = t.bound }
    by_test false = t

  same_timely : (after : State) → after.moves ≡ s.moves → after.epoch ≡ s.epoch → AreTimely after
  same_timely after moves epoch = record {
    lawful = subst (AreLawful []) (sym moves) t.lawful;
    rising = subst (IsPairwise (λ a b. a.epoch ≤ b.epoch)) (sym moves) t.rising;
    bound = subst (λ e. AllByRecursion (λ (m : Timed). m.epoch ≤ e) after.moves) (sym epoch) (subst (AllByRecursion (λ (m : Timed). m.epoch ≤ s.epoch)) (sym moves) t.bound);
  }

  module _ (session : ℕ) (o : Active) (is : active_of s session ≡ Some o) where
    ended_timely : (k : Kind) → o.kind ≡ k → AreTimely (left (closed s session) k o.number)
    ended_timely IsShort kind = same_timely (closed s session) refl refl
    ended_timely (IsPending d) kind = same_timely (closed s session) refl refl
    ended_timely (IsLive d snapshot) kind =
        let slot = live_slot base s inv session o d snapshot is kind in
        let known : IsSlotOfLive s.active s.moves o.number = all_contains (IsKnown s.active s.moves) s.agenda (LiveSlot o.number) inv.members.known slot in
        move_timely s (left (closed s session) (IsLive d snapshot) o.number) (Leave o.number) refl refl (lawful_now (Leave o.number) (slot, known.slotted)) t

  pub timely_cases : Cases s (λ line reply after. AreTimely after)
  timely_cases = record {
    nothing = λ line reply leaves. t;
    begins_short = λ session none. same_timely (begun s IsShort (s.last + 1) session) refl refl;
    begins_long = λ session writes reads none. same_timely (begun s (IsPending (record { writes = writes; reads = reads; from = s.epoch + 1 })) (s.last + 1) session) refl refl;
    answers_short = λ session op o reply is kind free sees answers. same_timely (answered s op reply session) refl refl;
    answers_batch = λ session op o d snapshot reply is kind free sees answers. same_timely (answered s op reply session) refl refl;
    commits_short = λ session o is kind free unchanged. (
        let h = stands_of base s inv session o is IsShort kind in
        move_timely s (moved (closed s session) s.epoch (CommitShort (transaction_of o))) (CommitShort (transaction_of o)) refl refl (lawful_now (CommitShort (transaction_of o)) (h.fresh, h.unslotted)) t);
    commits_home = λ session o d snapshot is kind none.
        move_timely s (moved (closed s session) s.epoch (CommitHome (transaction_of o))) (CommitHome (transaction_of o)) refl refl (lawful_now (CommitHome (transaction_of o)) (live_slot base s inv session o d snapshot is kind)) t;
    commits_before = λ session o d snapshot p is kind aim free elder.
        move_timely s (moved (closed s session) s.epoch (CommitBefore (transaction_of o) p)) (CommitBefore (transaction_of o) p) refl refl
        (lawful_now (CommitBefore (transaction_of o) p) (live_slot base s inv session o d snapshot is kind, are_ahead base s inv session o d snapshot p is kind aim)) t;
    ends = λ session verb reply o is ends. ended_timely session o is o.kind refl;
    advances = advanced_timely;
    flushes = λ epoch which. durable_timely epoch;
  }

pub record IsTimelyState (base : Base) (s : State) : Type 0 where
  pub structure : Structure base s
  pub timely : AreTimely s

pub first_timely : (base : Base) → IsTimelyState base (first_state base)
first_timely base = record { structure = first_structure base; timely = record { lawful = tt; rising = tt; bound = tt } }

pub timely_state_cases : (base : Base) (s : State) → IsTimelyState base s → Cases s (λ line reply after. IsTimelyState base after)
timely_state_cases base s h =
    let g = structure_cases base s h.structure in
    let r = timely_cases base s h.structure h.timely in
    record {
      nothing = λ line reply leaves. h;
      begins_short = λ session none. record { structure = g.begins_short session none; timely = r.begins_short session none };
      begins_long = λ session writes reads none. record { structure = g.begins_long session writes reads none; timely = r.begins_long session writes reads none };
      answers_short = λ session op o reply is kind free sees answers. record { structure = g.answers_short session op o reply is kind free sees answers; timely = r.answers_short session op o reply is kind free sees answers };
      answers_batch = λ session op o d snapshot reply is kind free sees answers. record { structure = g.answers_batch session op o d snapshot reply is kind free sees answers; timely = r.answers_batch session op o d snapshot reply is kind free sees answers };
      commits_short = λ session o is kind free unchanged. record { structure = g.commits_short session o is kind free unchanged; timely = r.commits_short session o is kind free unchanged };
      commits_home = λ session o d snapshot is kind none. record { structure = g.commits_home session o d snapshot is kind none; timely = r.commits_home session o d snapshot is kind none };
      commits_before = λ session o d snapshot p is kind aim free elder. record { structure = g.commits_before session o d snapshot p is kind aim free elder; timely = r.commits_before session o d snapshot p is kind aim free elder };
      ends = λ session verb reply o is ends. record { structure = g.ends session verb reply o is ends; timely = r.ends session verb reply o is ends };
      advances = record { structure = g.advances; timely = r.advances };
      flushes = λ epoch which. record { structure = g.flushes epoch which; timely = r.flushes epoch which };
    }

pub timely_of : (built : State → Line → Bool) (base : Base) (history : List Entry) → IsLegalWith built base history → AreTimely (state base history)
timely_of built base history legal =
    let h : IsTimelyState base (state base history) = along built (IsTimelyState base) (timely_state_cases base) (first_state base) history (first_timely base) legal in
    h.timely

-- the moves of epochs up to d come first
pub through_first : (d : ℕ) (moves : List Timed) → IsPairwise (λ a b. a.epoch ≤ b.epoch) moves → IsPrefix (filter (λ m. nat_le m.epoch d) moves) moves
through_first d [] rising = record { rest = []; parts = refl }
through_first d (m ∷ ms) rising = by_test (nat_le m.epoch d) refl (through_first d ms rising.1) where
  by_test : (b : Bool) → nat_le m.epoch d ≡ b → IsPrefix (filter (λ m. nat_le m.epoch d) ms) ms → IsPrefix (cond b (m ∷ filter (λ m. nat_le m.epoch d) ms) (filter (λ m. nat_le m.epoch d) ms)) (m ∷ ms)
  by_test true is p = record { rest = p.rest; parts = ap (λ l. m ∷ l) p.parts }
  by_test false is p =
      let above : d < m.epoch = leb-false m.epoch d is in
      let none : filter (λ (x : Timed). nat_le x.epoch d) ms ≡ [] = filter_nothing (λ (x : Timed). nat_le x.epoch d) ms
      (all_map (λ (x : Timed). m.epoch ≤ x.epoch) (λ (x : Timed). nat_le x.epoch d ≡ false) (λ x e. lt-leb x.epoch d (let h : d < x.epoch = omega arith in h)) ms rising.0) in
      record { rest = m ∷ ms; parts = sym (ap (λ l. l ++ m ∷ ms) none) }

-- The moves without the drops, through an epoch, give the order through it.
pub logged_through : (built : State → Line → Bool) (base : Base) (history : List Entry) → IsSound base → IsLegalWith built base history
    → (d : ℕ) → serial (logged_agenda (filter (λ m. nat_le m.epoch d) (state base history).moves)) ≡ serial_through (state base history) d
logged_through built base history sound legal d =
    let t = timely_of built base history legal in
    let first = through_first d (state base history).moves t.rising in
    logged_serial (filter (λ m. nat_le m.epoch d) (state base history).moves) (lawful_front [] (filter (λ m. nat_le m.epoch d) (state base history).moves) first.rest (subst (AreLawful []) first.parts t.lawful))

-- The moves without the drops give the order.
pub logged_now : (built : State → Line → Bool) (base : Base) (history : List Entry) → IsSound base → IsLegalWith built base history → serial (logged_agenda (state base history).moves) ≡ serial (state base history).agenda
logged_now built base history sound legal =
    let h : IsTimelyState base (state base history) = along built (IsTimelyState base) (timely_state_cases base) (first_state base) history (first_timely base) legal in
    logged_serial (state base history).moves h.timely.lawful ∙ ap serial (sym h.structure.moves)
