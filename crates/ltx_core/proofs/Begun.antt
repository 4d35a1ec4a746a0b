-- The begin of a short, and of a batch.
use Rattle.std.proofs.Common.{◌≡◌, ◌≢◌, ◌⊎◌, inl, inr, ℕ, suc, ◌+◌, ◌<◌, ◌≤◌, Bool, true, false, ◌||◌, ◌==◌, List, [], ◌∷◌, ◌++◌, length, Option, Some, None, is_some, refl, sym, ap, ◌∙◌, subst, append-nil, arith}
use Rattle.std.specs.List.{cons_option, AllByRecursion}
use Rattle.std.proofs.lemmas.Bool.{eq-eqb, ne_eqb}
use Rattle.ltx_model.specs.declared.commands.Command.{Command}
use Rattle.ltx_model.specs.declared.commands.Command.TheVariants as commands
use Rattle.ltx_model.specs.declared.commands.Line.TheVariants as lines
use Rattle.ltx_model.specs.declared.commands.Verb.TheVariants as verbs
use Rattle.ltx_model.specs.declared.replies.Entry.{Entry}
use Rattle.ltx_model.specs.declared.replies.Reply.{Reply}
use Rattle.ltx_model.specs.declared.replies.Reply.TheVariants as replies
use Rattle.ltx_model.specs.Lists.{numbered, without_first, IsPairwise}
use Rattle.ltx_model.specs.LastWrites.{last_write}
use Rattle.ltx_model.specs.NoteLists.{NoteList, no_notes}
use Rattle.ltx_model.specs.Notes.{AreNotesBy}
use Rattle.ltx_model.specs.Decisions.{IsAskedLook}
use Rattle.ltx_model.specs.Records.{AreRecordsOf}
use Rattle.ltx_model.specs.Agenda.{Member, LiveSlot, Committed, number_of, serial, commits_of}
use Rattle.ltx_model.specs.States.{Declaration, Kind, IsShort, IsPending, IsLive, Active, Base, State, is_of, active_of, latest}
use Rattle.ltx_model.specs.Histories.{begun, state}
use Rattle.ltx_model.specs.Holders.{Holder, is_holder, is_entered, entered, holder_of}
use Rattle.ltx_model.specs.Answers.{short_reply, begin_short, long_reply, begin_long}
use Rattle.ltx_model.specs.Limits.{last_number, last_epoch}
use Rattle.ltx_laws.specs.Structure.{Structure}
use Rattle.ltx_laws.proofs.Structures.{structure_of}
use Rattle.ltx_laws.proofs.Pairs.{all_both}
use Rattle.ltx_lemmas.proofs.Lists.{without_nothing, given_append, any_append, true_false}
use Rattle.ltx_core.specs.Built.{built}
use Rattle.ltx_forward.specs.declared.decide.Live.{Live}
use Rattle.ltx_open.specs.declared.stage.Declared.{Declared}
use Rattle.ltx_open.specs.declared.stage.Stage.TheVariants as stages
use Rattle.ltx_open.specs.Views.{OpenView, declaration}
use Rattle.ltx_core.specs.Views.{Counters, LogView, CoreView, pending, AreEventsWithin}
use Rattle.ltx_open.specs.Slots.{opened, HasAt}
use Rattle.ltx_core.specs.Stands.{ground, everybody, AreMarked, IsOfKind, IsOpen, IsSlotOf, HasStore, HasOpens, batches_of, areas_of, IsStanding, StandsAt}
use Rattle.ltx_core.specs.Steps.{Steps, IsAnswered, IsCore}
use Rattle.ltx_core.proofs.LiveAreas.{areas_more}
use Rattle.ltx_core.proofs.LogSteps.{log_kept, IsCalm, calm_answered}
use Rattle.ltx_core.proofs.RecordsKept.{records_begun_short, records_begun_long}
use Rattle.ltx_core.proofs.LogWithin.{IsRoomed, events_same, events_roomed}
use Rattle.ltx_core.proofs.OpensKept.{opens_begun}
use Rattle.ltx_open.proofs.SameOpens.{same_opens}
use Rattle.ltx_core.proofs.StandsStill.{staged_is, leads, stays, same_core}
use Rattle.ltx_core.proofs.CoreSteps.{core_step, core_same}
use Rattle.ltx_core.proofs.NewCores.{has_tells}
use Rattle.ltx_store.specs.Kept.{AreUpTo, HasSameVersions}
use Rattle.ltx_store.proofs.Changes.{same_itself}

-- a short begins in a session, or a batch with these tables and this area
abbrev pub shorts : ℕ → Command
shorts session = commands.Ask session verbs.Short

abbrev pub longs : ℕ → ℕ → ℕ → Command
longs session writes reads = commands.Ask session (verbs.Long writes reads)

-- the open transaction that begins
abbrev starting : ℕ → Kind → ℕ → Active
starting session kind n = record { session = session; kind = kind; number = n; steps = [] }

-- as many batches as are open have numbers up to the last one
length_given : (h : Option Holder) (hs : List Holder) → length (cons_option h hs) ≤ suc (length hs)
length_given None hs = omega arith
length_given (Some h) hs = omega arith

pub few_batches : (os : List Active) (low last : ℕ) → low ≤ last → IsPairwise (λ a b. a.number < b.number) os → AllByRecursion (λ o. low < o.number) os → AllByRecursion (λ o. o.number ≤ last) os
    → low + length (batches_of os) ≤ last
few_batches [] low last within rising above bound = omega arith
few_batches (o ∷ os) low last within rising above bound =
    let rest : o.number + length (batches_of os) ≤ last = few_batches os o.number last bound.0 rising.1 rising.0 bound.1 in
    let one : length (batches_of (o ∷ os)) ≤ suc (length (batches_of os)) = length_given (holder_of o.kind o.number) (batches_of os) in
    let first : low < o.number = above.0 in
    omega arith

-- a number above the last one is entered by nobody
new_entered : (os : List Active) (last : ℕ) → AllByRecursion (λ o. o.number ≤ last) os → is_entered (batches_of os) (last + 1) ≡ false
new_entered [] last bound = refl
new_entered (o ∷ os) last bound = by_kind o.kind (new_entered os last bound.1) where
  other : (o.number == last + 1) ≡ false
  other = ne_eqb o.number (last + 1) (λ e. let within : o.number ≤ last = bound.0 in let none : ⊥ = omega arith in none)

  by_kind : (k : Kind) → is_entered (batches_of os) (last + 1) ≡ false → is_entered (cons_option (holder_of k o.number) (batches_of os)) (last + 1) ≡ false
  by_kind IsShort rest = rest
  by_kind (IsPending d) rest = rw (other, rest) refl
  by_kind (IsLive d snapshot) rest = rw (other, rest) refl

-- how many are pending
more_pending : (hs : List Holder) (n tables : ℕ) → pending (entered n tables hs) ≤ length hs + 1
more_pending [] n tables = omega arith
more_pending (h ∷ hs) n tables = by_live h.live (more_pending hs n tables) where
  by_live : (b : Bool) → pending (entered n tables hs) ≤ length hs + 1 → pending (record { number = h.number; tables = h.tables; live = b } ∷ entered n tables hs) ≤ suc (length hs) + 1
  by_live true rest = omega arith
  by_live false rest = omega arith

-- the slots are those of the batches, with one more of a new number
slot_more : (hs : List Holder) (last n tables : ℕ) (m : Member) → n ≡ last + 1 → number_of m ≤ last → IsSlotOf hs m → IsSlotOf (entered n tables hs) m
slot_more hs last n tables (LiveSlot k) next within slot = any_append (is_holder k) hs (record { number = n; tables = tables; live = false } ∷ []) ∙ ap (λ b. b || is_entered (record { number = n; tables = tables; live = false } ∷ []) k) slot
slot_more hs last n tables (Committed t) next within slot =
    let other : (n == t.number) ≡ false = ne_eqb n t.number (λ e. let none : ⊥ = omega arith in none) in
    any_append (is_holder t.number) hs (record { number = n; tables = tables; live = false } ∷ []) ∙ rw (slot, other) refl

-- What is kept besides the transaction that begins.
pub record HasBegun (old : CoreView) (session : ℕ) (a : OpenView) (holders : List Holder) (more : List Live) (new : CoreView) : Type 0 where
  pub counters : new.counters ≡ record { epoch = old.counters.epoch; last = old.counters.last + 1 }
  pub list : new.list ≡ old.list
  pub commits : new.commits ≡ old.commits
  pub batch : new.batch ≡ old.batch
  pub store : new.store ≡ old.store
  pub preserve : new.preserve ≡ old.preserve ++ holders
  pub opens : HasAt old.opens session (Some a) new.opens
  pub records : new.records ≡ old.records
  pub areas : new.areas ≡ old.areas ++ more

-- a core at the state in which it has begun
begun_at : (old new : CoreView) (s : State) (session : ℕ) (kind : Kind) (a : OpenView) → StandsAt old s → active_of s session ≡ None → HasBegun old session a (batches_of (starting session kind (s.last + 1) ∷ [])) (areas_of (starting session kind (s.last + 1) ∷ [])) new
    → AreRecordsOf (begun s kind (s.last + 1) session) old.records → AllByRecursion (IsSlotOf new.preserve) s.agenda → IsOpen (ground old s) (starting session kind (s.last + 1)) a → StandsAt new (begun s kind (s.last + 1) session)
begun_at old new s session kind a at here has recorded slots is_open = record {
  counters = has.counters ∙ counted;
  agenda = record {
    list_is = has.list ∙ at.agenda.list_is;
    count_is = has.commits ∙ at.agenda.count_is;
    batch_within = subst (λ b. b ≤ new.commits) (sym has.batch) (subst (λ c. old.batch ≤ c) (sym has.commits) at.agenda.batch_within);
    slots = slots;
  };
  holders = has.preserve ∙ ap (λ hs. hs ++ batches_of (o ∷ [])) at.holders ∙ sym (given_append (λ (u : Active). holder_of u.kind u.number) s.active (o ∷ [])) ∙ ap (λ os. batches_of (os ++ o ∷ [])) (sym others);
  store = subst (λ store. HasStore store s.base (latest s) (serial s.agenda) (commits_of s.moves)) (sym has.store) at.store;
  opens = subst (λ os. HasOpens (ground new s) new.opens (os ++ o ∷ [])) (sym others)
      (subst (λ g. HasOpens g new.opens (s.active ++ o ∷ [])) grounds (opens_begun (ground old s) old.opens s.active at.opens o a new.opens here has.opens is_open));
  records = subst (AreRecordsOf (begun s kind (s.last + 1) session)) (sym has.records) recorded;
  areas = has.areas ∙ ap (λ l. l ++ areas_of (o ∷ [])) at.areas ∙ sym (areas_more s.active o) ∙ ap (λ os. areas_of (os ++ o ∷ [])) (sym others);
} where
  o : Active
  o = starting session kind (s.last + 1)

  others : without_first (is_of session) s.active ≡ s.active
  others = without_nothing (is_of session) s.active here

  counted : ◌≡◌ {A = Counters} (record { epoch = old.counters.epoch; last = old.counters.last + 1 }) (record { epoch = s.epoch; last = s.last + 1 })
  counted i = record { epoch = (at.counters i).epoch; last = (at.counters i).last + 1 }

  grounds : ground old s ≡ ground new s
  grounds i = record { store = sym has.store i; commits = sym has.commits i; batch = sym has.batch i; base = s.base; agenda = s.agenda; moves = s.moves }

-- whether somebody is open in the session
has_open : (o : Option Active) → is_some o ≡ false → o ≡ None
has_open None is = refl
has_open (Some o) is = absurd (true_false is)

module _ (old : CoreView) (base : Base) (history : List Entry) (stands : StandsAt old (state base history)) where
  abbrev now : State
  now = state base history

  last_is : old.counters.last ≡ now.last
  last_is = ap (λ (c : Counters). c.last) stands.counters

  epoch_is : old.counters.epoch ≡ now.epoch
  epoch_is = ap (λ (c : Counters). c.epoch) stands.counters

-- the view of a core is what a caller has of it
pub for_view : (v old : CoreView) (command : Command) (reply : Reply) (new : CoreView) → v ≡ old → IsAnswered v command reply new → IsAnswered old command reply new
for_view v old command reply new same steps = subst (λ u. IsAnswered u command reply new) same steps

pub steps_for_view : (v old : CoreView) (command : Command) (reply : Reply) (new : CoreView) → v ≡ old → Steps v command reply new → Steps old command reply new
steps_for_view v old command reply new same steps = subst (λ u. Steps u command reply new) same steps

pub stays_for_view : (v old : CoreView) (command : Command) (reply : Reply) → v ≡ old → Steps v command reply v → IsCalm (lines.Good command) reply → IsAnswered old command reply old
stays_for_view v old command reply same steps calm = subst (λ u. IsAnswered u command reply u) same (calm_answered v command reply v steps (log_kept v.log) calm)

-- without a change: the session has one, or no number or epoch is left
module _ (v : CoreView) (session : ℕ) (b : Bool) (is : b ≡ is_some (opened v.opens session)) where
  there : b ≡ true → (base : Base) (history : List Entry) → StandsAt v (state base history) → is_some (active_of (state base history) session) ≡ true
  there holds base history stands = sym (has_tells v v refl session b is base history stands) ∙ holds

  nobody : b ≡ false → (base : Base) (history : List Entry) → StandsAt v (state base history) → active_of (state base history) session ≡ None
  nobody fails base history stands = has_open (active_of (state base history) session) (sym (has_tells v v refl session b is base history stands) ∙ fails)

  short_told : (s : State) (o : Option Active) → is_some o ≡ true → replies.HasTx ≡ begin_short s o
  short_told s None some = absurd (true_false (sym some))
  short_told s (Some o) some = refl

  long_told : (s : State) (o : Option Active) → is_some o ≡ true → replies.HasTx ≡ begin_long s o
  long_told s None some = absurd (true_false (sym some))
  long_told s (Some o) some = refl

  pub short_has : b ≡ true → Steps v (shorts session) replies.HasTx v
  short_has holds base history sound legal stands =
      let s : State = state base history in
      stays v v (shorts session) replies.HasTx base history (same_core v v refl) stands replies.HasTx (short_told s (active_of s session) (there holds base history stands) ∙ staged_is s (shorts session)) refl refl

  pub long_has : (writes reads : ℕ) → b ≡ true → Steps v (longs session writes reads) replies.HasTx v
  long_has writes reads holds base history sound legal stands =
      let s : State = state base history in
      stays v v (longs session writes reads) replies.HasTx base history (same_core v v refl) stands replies.HasTx
      (long_told s (active_of s session) (there holds base history stands) ∙ staged_is s (longs session writes reads)) refl refl

  pub long_late : (writes reads : ℕ) → b ≡ false → v.counters.epoch ≡ last_epoch → Steps v (longs session writes reads) replies.LimitEpoch v
  long_late writes reads fails late base history sound legal stands =
      let s : State = state base history in
      let epoch : s.epoch ≡ last_epoch = sym (epoch_is v base history stands) ∙ late in
      stays v v (longs session writes reads) replies.LimitEpoch base history (same_core v v refl) stands replies.LimitEpoch
      (ap (λ e. long_reply s e (s.last == last_number)) (sym (eq-eqb s.epoch last_epoch epoch)) ∙ ap (begin_long s) (sym (nobody fails base history stands)) ∙ staged_is s (longs session writes reads)) refl refl

  pub short_full : b ≡ false → v.counters.last ≡ last_number → Steps v (shorts session) replies.LimitTx v
  short_full fails full base history sound legal stands =
      let s : State = state base history in
      let last : s.last ≡ last_number = sym (last_is v base history stands) ∙ full in
      stays v v (shorts session) replies.LimitTx base history (same_core v v refl) stands replies.LimitTx
      (ap (short_reply s) (sym (eq-eqb s.last last_number last)) ∙ ap (begin_short s) (sym (nobody fails base history stands)) ∙ staged_is s (shorts session)) refl refl

  pub long_full : (writes reads : ℕ) → b ≡ false → v.counters.epoch ≢ last_epoch → v.counters.last ≡ last_number → Steps v (longs session writes reads) replies.LimitTx v
  long_full writes reads fails early full base history sound legal stands =
      let s : State = state base history in
      let last : s.last ≡ last_number = sym (last_is v base history stands) ∙ full in
      let epoch : (s.epoch == last_epoch) ≡ false = ne_eqb s.epoch last_epoch (λ e. early (epoch_is v base history stands ∙ e)) in
      stays v v (longs session writes reads) replies.LimitTx base history (same_core v v refl) stands replies.LimitTx
      (ap (long_reply s false) (sym (eq-eqb s.last last_number last)) ∙ ap (λ e. long_reply s e (s.last == last_number)) (sym epoch) ∙ ap (begin_long s) (sym (nobody fails base history stands)) ∙ staged_is s (longs session writes reads))
      refl refl

  -- one begins
  pub short_begins : (a : OpenView) (tx : ℕ) (new : CoreView) → b ≡ false → v.counters.last < last_number → tx ≡ v.counters.last + 1 → a.number ≡ tx → a.stage ≡ stages.Short → a.notes ≡ no_notes → a.own.writes ≡ []
      → HasBegun v session a [] [] new → Steps v (shorts session) (replies.Begun tx) new
  short_begins a tx new fails room next number stage notes own has base history sound legal stands =
      let s : State = state base history in
      let here : active_of s session ≡ None = nobody fails base history stands in
      let last : v.counters.last ≡ s.last = last_is v base history stands in
      let apart : (s.last == last_number) ≡ false = ne_eqb s.last last_number (λ e. let wrong : ⊥ = omega arith in wrong) in
      let tx_is : tx ≡ s.last + 1 = next ∙ ap (λ n. n + 1) last in
      let is_open : IsOpen (ground v s) (starting session IsShort (s.last + 1)) a = record {
        number = number ∙ tx_is;
        own = own;
        kind = subst (IsOfKind (ground v s) (s.last + 1) [] a IsShort) (sym stage) (record {
          notes = subst (λ (l : NoteList). AreNotesBy (λ step. IsAskedLook everybody (last_write s.base step.order)) (numbered []) l.notes) (sym notes) tt;
          marks = subst (λ (l : NoteList). AreMarked v.store v.commits [] l.marks) (sym notes) tt;
          moments = tt;
          rising = tt;
        });
      } in
      let slots : AllByRecursion (IsSlotOf new.preserve) s.agenda = subst (λ hs. AllByRecursion (IsSlotOf hs) s.agenda) (sym (has.preserve ∙ append-nil v.preserve)) stands.agenda.slots in
      leads base history (lines.Good (shorts session)) (replies.Begun (s.last + 1)) (replies.Begun tx) new
      (ap (short_reply s) (sym apart) ∙ ap (begin_short s) (sym here) ∙ staged_is s (shorts session))
      (ap replies.Begun tx_is)
      (begun_at v new s session IsShort a stands here has (records_begun_short base s (structure_of built base history legal) session v.records here stands.records) slots is_open)

  pub long_begins : (a : OpenView) (tx writes reads : ℕ) (e : Declared) (new : CoreView) → b ≡ false → v.counters.epoch ≢ last_epoch → v.counters.last < last_number → tx ≡ v.counters.last + 1
      → declaration e ≡ record { writes = writes; reads = reads; from = v.counters.epoch + 1 } → a.number ≡ tx → a.stage ≡ stages.Pending e → a.notes.notes ≡ [] → a.own.writes ≡ []
      → HasBegun v session a (record { number = tx; tables = writes; live = false } ∷ []) (record { tx = tx; writes = writes; reads = reads } ∷ []) new → Steps v (longs session writes reads) (replies.BegunAt tx (v.counters.epoch + 1)) new
  long_begins a tx writes reads e new fails early room next declared number stage notes own has base history sound legal stands =
      let s : State = state base history in
      let here : active_of s session ≡ None = nobody fails base history stands in
      let last : v.counters.last ≡ s.last = last_is v base history stands in
      let epoch : v.counters.epoch ≡ s.epoch = epoch_is v base history stands in
      let apart : (s.last == last_number) ≡ false = ne_eqb s.last last_number (λ e. let wrong : ⊥ = omega arith in wrong) in
      let not_late : (s.epoch == last_epoch) ≡ false = ne_eqb s.epoch last_epoch (λ e. early (epoch ∙ e)) in
      let tx_is : tx ≡ s.last + 1 = next ∙ ap (λ n. n + 1) last in
      let d : Declaration = record { writes = writes; reads = reads; from = s.epoch + 1 } in
      let declared_is : declaration e ≡ d = declared ∙ ap (λ n. record { writes = writes; reads = reads; from = n + 1 }) epoch in
      let is_open : IsOpen (ground v s) (starting session (IsPending d) (s.last + 1)) a = record {
        number = number ∙ tx_is;
        own = own;
        kind = subst (IsOfKind (ground v s) (s.last + 1) [] a (IsPending d)) (sym stage) (declared_is, record { idle = refl; notes = notes });
      } in
      let known : HasBegun v session a (record { number = s.last + 1; tables = writes; live = false } ∷ []) (record { tx = s.last + 1; writes = writes; reads = reads } ∷ []) new =
      subst (λ n. HasBegun v session a (record { number = n; tables = writes; live = false } ∷ []) (record { tx = n; writes = writes; reads = reads } ∷ []) new) tx_is has in
      let structure : Structure base s = structure_of built base history legal in
      let slots : AllByRecursion (IsSlotOf new.preserve) s.agenda = subst (λ hs. AllByRecursion (IsSlotOf hs) s.agenda) (sym known.preserve)
      (all_both (λ m. number_of m ≤ s.last) (IsSlotOf v.preserve) (IsSlotOf (entered (s.last + 1) writes v.preserve)) (λ m within slot. slot_more v.preserve s.last (s.last + 1) writes m refl within slot) s.agenda structure.members.bound stands.agenda.slots) in
      leads base history (lines.Good (longs session writes reads)) (replies.BegunAt (s.last + 1) (s.epoch + 1)) (replies.BegunAt tx (v.counters.epoch + 1)) new
      (ap (long_reply s false) (sym apart) ∙ ap (λ l. long_reply s l (s.last == last_number)) (sym not_late) ∙ ap (begin_long s) (sym here) ∙ staged_is s (longs session writes reads))
      (λ i. replies.BegunAt (tx_is i) (epoch i + 1))
      (begun_at v new s session (IsPending d) a stands here known (records_begun_long base s structure session writes reads v.records here stands.records) slots is_open)

-- no number is left after the last one
pub none_left : (last : ℕ) → (last + 1 ≡ 0) ⊎ (last_number < last + 1) → last ≤ last_number → last ≡ last_number
none_left last (inl zero) within = omega arith
none_left last (inr past) within = omega arith

-- after a slot for the session was made
pub put_reserved : (old mid new : List (Option OpenView)) (session : ℕ) (o : Option OpenView) → ((n : ℕ) → opened mid n ≡ opened old n) → HasAt mid session o new → HasAt old session o new
put_reserved old mid new session o kept put = record { here = put.here; others = λ n apart. put.others n apart ∙ kept n }

-- the numbers of what stands
pub standing_new : (v : CoreView) (tx : ℕ) → IsStanding v → tx ≡ v.counters.last + 1 → is_entered v.preserve tx ≡ false
standing_new v tx standing next =
    let s : State = state standing.base standing.history in
    let structure : Structure standing.base s = structure_of built standing.base standing.history standing.legal in
    let last : v.counters.last ≡ s.last = last_is v standing.base standing.history standing.stands in
    ap (is_entered v.preserve) (next ∙ ap (λ n. n + 1) last) ∙ ap (λ hs. is_entered hs (s.last + 1)) standing.stands.holders ∙ new_entered s.active s.last structure.opens.bound

pub standing_few : (v : CoreView) → IsStanding v → length v.preserve ≤ v.counters.last
standing_few v standing =
    let s : State = state standing.base standing.history in
    let structure : Structure standing.base s = structure_of built standing.base standing.history standing.legal in
    let last : v.counters.last ≡ s.last = last_is v standing.base standing.history standing.stands in
    let few : standing.base.last + length (batches_of s.active) ≤ s.last = few_batches s.active standing.base.last s.last structure.last structure.opens.rising structure.opens.above structure.opens.bound in
    let same : length v.preserve ≡ length (batches_of s.active) = ap length standing.stands.holders in
    omega arith

-- a core that keeps the same, with other room
pub begin_failed : (v new : CoreView) → IsCore v → new.counters ≡ v.counters → new.list ≡ v.list → new.commits ≡ v.commits → new.batch ≡ v.batch → new.store ≡ v.store → new.preserve ≡ v.preserve
    → ((n : ℕ) → opened new.opens n ≡ opened v.opens n) → new.records ≡ v.records → new.areas ≡ v.areas → new.log.durable ≡ v.log.durable → IsRoomed v.log.events new.log.events → v.room ≤ new.room → length new.list + new.room < 18446744073709551616
    → IsCore new
begin_failed v new core counters list commits batch store preserve opens records areas durable roomed room listed =
    let some : pending v.preserve ≤ v.room = core.within.room in
    let more : pending v.preserve ≤ new.room = omega arith in
    core_same v new
    (record { counters = counters; list = list; commits = commits; batch = batch; store = subst (HasSameVersions v.store) (sym store) (same_itself v.store); preserve = preserve; opens = same_opens v.opens new.opens opens; records = records; areas = areas; log = record { durable = durable; closed = roomed.closed; present = roomed.present } }) core.standing
    (record {
      marks = subst (λ n. AreUpTo n new.store) (sym commits) (subst (AreUpTo v.commits) (sym store) core.within.marks);
      room = subst (λ hs. pending hs ≤ new.room) (sym preserve) more;
      listed = listed;
      epoch_bound = subst (λ (c : Counters). c.epoch ≤ last_epoch) (sym counters) core.within.epoch_bound;
      epoch_positive = subst (λ (c : Counters). 0 < c.epoch) (sym counters) core.within.epoch_positive;
      last_bound = subst (λ (c : Counters). c.last ≤ last_number) (sym counters) core.within.last_bound;
      log = subst (λ (c : Counters). AreEventsWithin c.epoch (pending new.preserve) new.log.events) (sym counters)
          (subst (λ hs. AreEventsWithin v.counters.epoch (pending hs) new.log.events) (sym preserve) (events_roomed v.counters.epoch (pending v.preserve) v.log.events new.log.events core.within.log roomed));
    })

pub begun_core : (v new : CoreView) (command : Command) (reply : Reply) (session : ℕ) (a : OpenView) (holders : List Holder) (areas : List Live) → IsCore v → Steps v command reply new → HasBegun v session a holders areas new → v.counters.last < last_number
    → pending new.preserve ≤ new.room → length new.list + new.room < 18446744073709551616 → AreEventsWithin v.counters.epoch (pending new.preserve) new.log.events → IsCore new
begun_core v new command reply session a holders areas core steps has below room listed events =
    let next : v.counters.last + 1 ≤ last_number = omega arith in
    core_step v command reply new steps core.standing (record {
      marks = subst (λ n. AreUpTo n new.store) (sym has.commits) (subst (AreUpTo v.commits) (sym has.store) core.within.marks);
      room = room;
      listed = listed;
      epoch_bound = subst (λ (c : Counters). c.epoch ≤ last_epoch) (sym has.counters) core.within.epoch_bound;
      epoch_positive = subst (λ (c : Counters). 0 < c.epoch) (sym has.counters) core.within.epoch_positive;
      last_bound = subst (λ (c : Counters). c.last ≤ last_number) (sym has.counters) next;
      log = subst (λ (c : Counters). AreEventsWithin c.epoch (pending new.preserve) new.log.events) (sym has.counters) events;
    })

-- and what holds of every core
module _ (v : CoreView) (core : IsCore v) (session : ℕ) (b : Bool) (is : b ≡ is_some (opened v.opens session)) where
  pub short_core : (a : OpenView) (tx : ℕ) (new : CoreView) → b ≡ false → v.counters.last < last_number → tx ≡ v.counters.last + 1 → a.number ≡ tx → a.stage ≡ stages.Short → a.notes ≡ no_notes → a.own.writes ≡ []
      → HasBegun v session a [] [] new → new.room ≡ v.room → new.log ≡ v.log → IsCore new
  short_core a tx new fails below next number stage notes own has room log =
      let some : pending v.preserve ≤ v.room = core.within.room in
      let there : pending new.preserve ≤ new.room = subst (λ hs. pending hs ≤ new.room) (sym (has.preserve ∙ append-nil v.preserve)) (subst (λ n. pending v.preserve ≤ n) (sym room) some) in
      let listed : length new.list + new.room < 18446744073709551616 = subst (λ n. length new.list + n < 18446744073709551616) (sym room) (subst (λ l. length l + v.room < 18446744073709551616) (sym has.list) core.within.listed) in
      let events : AreEventsWithin v.counters.epoch (pending new.preserve) new.log.events
      = subst (λ (l : LogView). AreEventsWithin v.counters.epoch (pending new.preserve) l.events) (sym log) (subst (λ hs. AreEventsWithin v.counters.epoch (pending hs) v.log.events) (sym (has.preserve ∙ append-nil v.preserve)) core.within.log) in
      begun_core v new (shorts session) (replies.Begun tx) session a [] [] core (short_begins v session b is a tx new fails below next number stage notes own has) has below there listed events

  pub long_core : (a : OpenView) (tx writes reads : ℕ) (e : Declared) (new : CoreView) → b ≡ false → v.counters.epoch ≢ last_epoch → v.counters.last < last_number → tx ≡ v.counters.last + 1
      → declaration e ≡ record { writes = writes; reads = reads; from = v.counters.epoch + 1 } → a.number ≡ tx → a.stage ≡ stages.Pending e → a.notes.notes ≡ [] → a.own.writes ≡ []
      → HasBegun v session a (record { number = tx; tables = writes; live = false } ∷ []) (record { tx = tx; writes = writes; reads = reads } ∷ []) new → length v.preserve + 1 ≤ new.room → length new.list + new.room < 18446744073709551616
      → IsRoomed v.log.events new.log.events → length v.preserve + 1 ≤ new.log.events.room → IsCore new
  long_core a tx writes reads e new fails early below next declared number stage notes own has room listed roomed spare =
      let most : pending (entered tx writes v.preserve) ≤ length v.preserve + 1 = more_pending v.preserve tx writes in
      let less : pending (entered tx writes v.preserve) ≤ new.room = omega arith in
      let there : pending new.preserve ≤ new.room = subst (λ hs. pending hs ≤ new.room) (sym has.preserve) less in
      begun_core v new (longs session writes reads) (replies.BegunAt tx (v.counters.epoch + 1)) session a (record { number = tx; tables = writes; live = false } ∷ []) (record { tx = tx; writes = writes; reads = reads } ∷ []) core
      (long_begins v session b is a tx writes reads e new fails early below next declared number stage notes own has) has below there listed
      (events_same v.counters.epoch (pending v.preserve) (pending new.preserve) v.log.events new.log.events core.within.log roomed.closed roomed.present roomed.last (subst (λ hs. pending hs ≤ new.log.events.room) (sym has.preserve) (let h : pending (entered tx writes v.preserve) ≤ new.log.events.room = omega arith in h)))
