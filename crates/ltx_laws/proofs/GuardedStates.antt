-- The structure and the guards of live batches hold in every state that a legal history leads to.
use Rattle.std.proofs.Common.{◌≡◌, ◌≢◌, ℕ, ◌+◌, ◌<◌, Bool, true, false, List, [], ◌∷◌, ◌++◌, nat_lt, None, sym, ◌∙◌, subst, arith}
use Rattle.std.specs.List.{AllByRecursion}
use Rattle.ltx_model.specs.declared.commands.Op.{Op}
use Rattle.ltx_model.specs.declared.commands.Line.{Line}
use Rattle.ltx_model.specs.declared.replies.Entry.{Entry}
use Rattle.ltx_model.specs.declared.replies.Reply.{Reply}
use Rattle.ltx_model.specs.Operations.{Transaction}
use Rattle.ltx_model.specs.Agenda.{Member, LiveSlot, Committed, number_of, serial, Slot, Timed, has_slot}
use Rattle.ltx_model.specs.States.{Declaration, Kind, IsShort, IsPending, IsLive, Active, Base, State, first_state, is_of, active_of, latest}
use Rattle.ltx_model.specs.Histories.{with_active, moved, with_step, with_kind, begun, answered, advanced, durable_if, made_durable, state}
use Rattle.ltx_model.specs.Answers.{IsLegalWith}
use Rattle.ltx_model.specs.Lists.{IsPairwise}
use Rattle.ltx_laws.specs.Structure.{IsPendingBatch, Structure}
use Rattle.ltx_laws.specs.Guards.{IsGuarded, GuardsAs, AreGuarded}
use Rattle.ltx_lemmas.proofs.Lists.{all_map, all_push, all_change, without_nothing}
use Rattle.ltx_laws.proofs.Pairs.{all_of, all_both, pairs_push, pairs_from, pairs_weaken}
use Rattle.ltx_laws.proofs.Transitions.{Cases, along}
use Rattle.ltx_laws.proofs.Standing.{IsPendingKind}
use Rattle.ltx_laws.proofs.StructureSlots.{pending, apart, slots_other, IsAnother, front_others, back_others, slot_structure, advanced_along, in_epoch_structure}
use Rattle.ltx_laws.proofs.Structures.{structure_cases, first_structure}
use Rattle.ltx_laws.proofs.Guarded.{short_guards, home_guards, before_guards, ended_guards}

pub record IsGuardedState (base : Base) (s : State) : Type 0 where
  pub structure : Structure base s
  pub guards : AreGuarded s

-- One pending batch o becomes live.
module _ (base : Base) (s : State) (epoch : ℕ) (front back : List Active) (o : Active) (d : Declaration) (kind : o.kind ≡ IsPending d) (inv : Structure base (with_active s (front ++ o ∷ back)))
    (started : AllByRecursion (λ u. IsPendingKind u.kind → ⊥) front) (snapshot : List Transaction) (taken : snapshot ≡ serial s.agenda) where
  abbrev later : List Timed
  later = s.moves ++ record { epoch = epoch; move = Slot o.number } ∷ []

  abbrev agenda : List Member
  agenda = s.agenda ++ LiveSlot o.number ∷ []

  new : AllByRecursion (λ x. number_of x ≢ o.number) s.agenda
  new = apart base s epoch front back o d kind inv started snapshot taken

  waits : IsPendingBatch s.agenda s.moves o.number o.steps
  waits = pending base s epoch front back o d kind inv started snapshot taken

  slots : (k : ℕ) → o.number ≢ k → has_slot later k ≡ has_slot s.moves k
  slots k ne = slots_other base s epoch front back o d kind inv started snapshot taken k ne

  own_pair : (x y : Member) → number_of x ≢ o.number → number_of y ≢ o.number → IsGuarded later o.number d x y
  own_pair (LiveSlot k) (LiveSlot j) nx ny = tt
  own_pair (LiveSlot k) (Committed t) nx ny = λ e. absurd (nx e)
  own_pair (Committed g) (LiveSlot k) nx ny = λ e. absurd (ny e)
  own_pair (Committed g) (Committed t) nx ny = tt

  own_behind : (x : Member) → number_of x ≢ o.number → IsGuarded later o.number d x (LiveSlot o.number)
  own_behind (LiveSlot k) ne = tt
  own_behind (Committed g) ne = λ e slotted less. absurd (
      let old : has_slot s.moves g.number ≡ true = sym (slots g.number (λ same. ne (sym same))) ∙ slotted in
      let more : g.number < o.number = waits.later g.number old in
      let none : ⊥ = omega arith in none)

  itself : IsPairwise (IsGuarded later o.number d) agenda
  itself = pairs_push (IsGuarded later o.number d) s.agenda (LiveSlot o.number) (all_map (λ x. number_of x ≢ o.number) (λ x. IsGuarded later o.number d x (LiveSlot o.number)) own_behind s.agenda new)
      (pairs_from (λ x. number_of x ≢ o.number) (IsGuarded later o.number d) own_pair s.agenda new)

  module _ (n : ℕ) (d' : Declaration) (other : o.number ≢ n) where
    old_pair : (x y : Member) → number_of x ≢ o.number → number_of y ≢ o.number → IsGuarded s.moves n d' x y → IsGuarded later n d' x y
    old_pair (LiveSlot k) (LiveSlot j) nx ny h = tt
    old_pair (LiveSlot k) (Committed t) nx ny h = h
    old_pair (Committed g) (LiveSlot k) nx ny h = λ e slotted less. h e (sym (slots g.number (λ same. nx (sym same))) ∙ slotted) less
    old_pair (Committed g) (Committed t) nx ny h = tt

    old_behind : (x : Member) → IsGuarded later n d' x (LiveSlot o.number)
    old_behind (LiveSlot k) = tt
    old_behind (Committed g) = λ e slotted less. absurd (other e)

    others_pairs : IsPairwise (IsGuarded s.moves n d') s.agenda → IsPairwise (IsGuarded later n d') agenda
    others_pairs pairs = pairs_push (IsGuarded later n d') s.agenda (LiveSlot o.number) (all_of (λ x. IsGuarded later n d' x (LiveSlot o.number)) old_behind s.agenda)
        (pairs_weaken (λ x. number_of x ≢ o.number) (IsGuarded s.moves n d') (IsGuarded later n d') old_pair s.agenda new pairs)

  guards_one : (k : Kind) (n : ℕ) → o.number ≢ n → GuardsAs s.agenda s.moves k n → GuardsAs agenda later k n
  guards_one IsShort n ne g = tt
  guards_one (IsPending d') n ne g = tt
  guards_one (IsLive d' snapshot') n ne g = others_pairs n d' ne g

  guards_all : (us : List Active) → AllByRecursion (IsAnother base s epoch front back o d kind inv started snapshot taken) us → AllByRecursion (λ u. GuardsAs s.agenda s.moves u.kind u.number) (us ++ o ∷ back)
      → AllByRecursion (λ u. GuardsAs agenda later u.kind u.number) (us ++ with_kind (IsLive d snapshot) o ∷ back)
  guards_all [] others all = (
    itself,
    all_both (IsAnother base s epoch front back o d kind inv started snapshot taken) (λ u. GuardsAs s.agenda s.moves u.kind u.number) (λ u. GuardsAs agenda later u.kind u.number)
        (λ u another g. guards_one u.kind u.number another.0 g) back (back_others base s epoch front back o d kind inv started snapshot taken) all.1,
  )
  guards_all (u ∷ us) others all = (guards_one u.kind u.number others.0.0 all.0, guards_all us others.1 all.1)

  pub slot_guards : AreGuarded (with_active s (front ++ o ∷ back)) → AreGuarded (with_active (moved s epoch (Slot o.number)) (front ++ with_kind (IsLive d snapshot) o ∷ back))
  slot_guards guards = guards_all front (front_others base s epoch front back o d kind inv started snapshot taken front started inv.opens.rising) guards

advanced_guards : (base : Base) (s : State) (epoch : ℕ) → IsGuardedState base s → IsGuardedState base (advanced s epoch)
advanced_guards base s epoch h = advanced_along (IsGuardedState base) epoch s
    (λ t front back o d kind q started taken. record {
      structure = slot_structure base t epoch front back o d kind q.structure started (serial s.agenda) taken;
      guards = slot_guards base t epoch front back o d kind q.structure started (serial s.agenda) taken q.guards;
    })
    (record { structure = in_epoch_structure base s epoch h.structure; guards = h.guards })

module _ (s : State) (guards : AreGuarded s) where
  begun_guards : (kind : Kind) (n session : ℕ) → active_of s session ≡ None → GuardsAs s.agenda s.moves kind n → AreGuarded (begun s kind n session)
  begun_guards kind n session none own = subst (λ l. AllByRecursion (λ u. GuardsAs s.agenda s.moves u.kind u.number) (l ++ record { session = session; kind = kind; number = n; steps = [] } ∷ [])) (sym (without_nothing (is_of session) s.active none))
      (all_push (λ u. GuardsAs s.agenda s.moves u.kind u.number) s.active (record { session = session; kind = kind; number = n; steps = [] }) guards own)

  answered_guards : (op : Op) (reply : Reply) (session : ℕ) → AreGuarded (answered s op reply session)
  answered_guards op reply session = all_change (λ u. GuardsAs s.agenda s.moves u.kind u.number) (λ u. GuardsAs s.agenda s.moves u.kind u.number) (is_of session) (with_step (record { op = op; reply = reply; order = serial s.agenda; latest = latest s })) s.active (λ u g. g) (λ u found g. g) guards

  durable_guards : (epoch : ℕ) → AreGuarded (made_durable s epoch)
  durable_guards epoch = by_test (nat_lt s.durable epoch) where
    by_test : (b : Bool) → AreGuarded (durable_if b s epoch)
    by_test true = guards
    by_test false = guards

pub guarded_cases : (base : Base) (s : State) → IsGuardedState base s → Cases s (λ line reply s'. IsGuardedState base s')
guarded_cases base s h =
    let inv : Structure base s = h.structure in
    let c : Cases s (λ line reply s'. Structure base s') = structure_cases base s inv in
    record {
      nothing = λ line reply e. h;
      begins_short = λ session none. record { structure = c.begins_short session none; guards = begun_guards s h.guards IsShort (s.last + 1) session none tt };
      begins_long = λ session writes reads none. record { structure = c.begins_long session writes reads none; guards = begun_guards s h.guards (IsPending (record { writes = writes; reads = reads; from = s.epoch + 1 })) (s.last + 1) session none tt };
      answers_short = λ session op o reply is kind held sees answers. record { structure = c.answers_short session op o reply is kind held sees answers; guards = answered_guards s h.guards op reply session };
      answers_batch = λ session op o d snapshot reply is kind inside sees answers. record { structure = c.answers_batch session op o d snapshot reply is kind inside sees answers; guards = answered_guards s h.guards op reply session };
      commits_short = λ session o is kind held unchanged. record { structure = c.commits_short session o is kind held unchanged; guards = short_guards base s inv h.guards session o is held };
      commits_home = λ session o d snapshot is kind none. record { structure = c.commits_home session o d snapshot is kind none; guards = home_guards base s inv h.guards session o is d snapshot kind none };
      commits_before = λ session o d snapshot p is kind t witness reader. record { structure = c.commits_before session o d snapshot p is kind t witness reader; guards = before_guards base s inv h.guards session o is d snapshot kind p t reader };
      ends = λ session verb reply o is e. record { structure = c.ends session verb reply o is e; guards = ended_guards base s inv h.guards session o is };
      advances = advanced_guards base s (s.epoch + 1) h;
      flushes = λ epoch which. record { structure = c.flushes epoch which; guards = durable_guards s h.guards epoch };
    }

pub guarded_of : (built : State → Line → Bool) (base : Base) (history : List Entry) → IsLegalWith built base history → IsGuardedState base (state base history)
guarded_of built base history legal = along built (IsGuardedState base) (guarded_cases base) (first_state base) history (record { structure = first_structure base; guards = tt }) legal
