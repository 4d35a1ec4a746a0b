-- What open transactions were answered, and that the serial order gives the committed ones their replies: kept by what no commit changes.
use Rattle.std.proofs.Common.{◌≡◌, ◌≢◌, ℕ, Bool, true, false, ◌||◌, nat_lt, List, [], ◌∷◌, ◌++◌, map, Some, refl, sym, ap, ◌∙◌, subst}
use Rattle.std.proofs.lemmas.Bool.{eqb-true, ne_eqb}
use Rattle.std.proofs.lemmas.List.{map-append}
use Rattle.std.specs.List.{AllByRecursion, Contains}
use Rattle.ltx_model.specs.declared.commands.Op.{Op}
use Rattle.ltx_model.specs.declared.replies.Reply.{Reply}
use Rattle.ltx_model.specs.declared.rows.StoredRow.{StoredRow}
use Rattle.ltx_model.specs.Lists.{without_first, IsPairwise}
use Rattle.ltx_model.specs.Keys.{IsRising}
use Rattle.ltx_model.specs.StoredRows.{cell_of}
use Rattle.ltx_model.specs.Operations.{Transaction, operations}
use Rattle.ltx_model.specs.Rows.{see, play, run, RunGives}
use Rattle.ltx_model.specs.Agenda.{Member, LiveSlot, Committed, number_of, has_number, is_member, without_member, serial, Timed}
use Rattle.ltx_model.specs.States.{Declaration, Kind, IsShort, IsPending, IsLive, Step, Active, answered_of, transaction_of, Base, IsSound, State, is_of, active_of, latest}
use Rattle.ltx_model.specs.Histories.{begun, with_step, answered, closed, left, ended, made_live, with_kind, slot_after, slots_after, in_epoch, advanced, durable_if, made_durable}
use Rattle.ltx_lemmas.specs.Places.{AreApart}
use Rattle.ltx_lemmas.specs.Sources.{AreSourced}
use Rattle.ltx_lemmas.proofs.Lists.{some_same, all_map, all_push, all_find, all_without, all_change, all_mapped, all_contains, any_item}
use Rattle.ltx_lemmas.proofs.Members.{apart_from}
use Rattle.ltx_lemmas.proofs.Serials.{serial_slot, serial_without}
use Rattle.ltx_lemmas.proofs.Rising.{rising_run}
use Rattle.ltx_lemmas.proofs.Views.{play_push}
use Rattle.ltx_lemmas.proofs.Runs.{run_sourced, sourced_more}
use Rattle.ltx_lemmas.proofs.Shorts.{AreSeenThen, seen_then_push}
use Rattle.ltx_laws.specs.Structure.{IsBefore, IsKnown, IsLiveBatch, StandsAs, Stands, Structure}

-- An open short: each reply is what it saw on the latest rows of that moment, and these came from the base and the committed transactions.
pub record IsShortRead (base : List StoredRow) (ts : List Transaction) (n : ℕ) (steps : List Step) : Type 0 where
  pub rising : AllByRecursion (λ s. IsRising cell_of s.latest) steps
  pub sourced : AllByRecursion (λ s. AreSourced base ts s.latest) steps
  pub seen : AreSeenThen n [] steps

-- a pending batch has no operations, and a live one gets its replies when it is played on the rows of its snapshot
abbrev pub IsReadAs : List StoredRow → List Transaction → Kind → ℕ → List Step → Type 0
IsReadAs base ts IsShort n steps = IsShortRead base ts n steps
IsReadAs base ts (IsPending d) n steps = steps ≡ []
IsReadAs base ts (IsLive d snapshot) n steps = play n (run base snapshot) (map (λ b. b.op) steps) ≡ map (λ b. b.reply) steps

abbrev pub IsRead : List StoredRow → List Transaction → Active → Type 0
IsRead base ts o = IsReadAs base ts o.kind o.number o.steps

-- The serial order gives each committed transaction its replies, and each open one was answered from its rows.
pub record Reads (base : List StoredRow) (s : State) : Type 0 where
  pub explained : RunGives base (serial s.agenda)
  pub read : AllByRecursion (IsRead base (serial s.agenda)) s.active

-- an open transaction's operations and replies
pub steps_ops : (steps : List Step) → map (λ a. a.op) (map answered_of steps) ≡ map (λ b. b.op) steps
steps_ops [] = refl
steps_ops (s ∷ steps) = ap (λ l. s.op ∷ l) (steps_ops steps)

pub steps_replies : (steps : List Step) → map (λ a. a.reply) (map answered_of steps) ≡ map (λ b. b.reply) steps
steps_replies [] = refl
steps_replies (s ∷ steps) = ap (λ l. s.reply ∷ l) (steps_replies steps)

-- more committed transactions
pub read_more : (base : List StoredRow) (ts more : List Transaction) → ((t : Transaction) → Contains ts t → Contains more t) → (kind : Kind) (n : ℕ) (steps : List Step) → IsReadAs base ts kind n steps → IsReadAs base more kind n steps
read_more base ts more sub IsShort n steps h = record {
  rising = h.rising;
  sourced = all_map (λ s. AreSourced base ts s.latest) (λ s. AreSourced base more s.latest) (λ s. sourced_more base ts more s.latest sub) steps h.sourced;
  seen = h.seen;
}
read_more base ts more sub (IsPending d) n steps h = h
read_more base ts more sub (IsLive d snapshot) n steps h = h

pub all_read_more : (base : List StoredRow) (ts more : List Transaction) → ((t : Transaction) → Contains ts t → Contains more t) → (active : List Active) → AllByRecursion (IsRead base ts) active → AllByRecursion (IsRead base more) active
all_read_more base ts more sub active all = all_map (IsRead base ts) (IsRead base more) (λ o. read_more base ts more sub o.kind o.number o.steps) active all

-- the structure's members have numbers of their own
pub agenda_apart : (moves : List Timed) (ms : List Member) → IsPairwise (λ x y. IsBefore moves (number_of x) (number_of y)) ms → AreApart ms
agenda_apart moves [] pairs = tt
agenda_apart moves (m ∷ ms) pairs = apart_from m ms (new ms pairs.0) (agenda_apart moves ms pairs.1) where
  new : (xs : List Member) → AllByRecursion (λ y. IsBefore moves (number_of m) (number_of y)) xs → is_member xs (number_of m) ≡ false
  new [] all = refl
  new (x ∷ xs) all = ap (λ b. b || is_member xs (number_of m)) (ne_eqb (number_of x) (number_of m) (λ same. all.0.apart (sym same))) ∙ new xs all.1

module _ (base : Base) (s : State) (structure : Structure base s) where
  pub apart_members : AreApart s.agenda
  apart_members = agenda_apart s.moves s.agenda structure.order

  -- an open live batch
  module _ (session : ℕ) (o : Active) (d : Declaration) (snapshot : List Transaction) (is : active_of s session ≡ Some o) (kind : o.kind ≡ IsLive d snapshot) where
    pub live_batch : IsLiveBatch s.agenda s.moves o.number d snapshot o.steps
    live_batch = subst (λ k. StandsAs s.agenda s.moves k o.number o.steps) kind (all_find (Stands s.agenda s.moves) (is_of session) s.active o structure.stands is)

    pub live_slot : Contains s.agenda (LiveSlot o.number)
    live_slot = let (m, here, number) = any_item (has_number o.number) s.agenda live_batch.member in by_member m here (eqb-true (number_of m) o.number number) (all_contains (IsKnown s.active s.moves) s.agenda m structure.members.known here) where
      by_member : (m : Member) → Contains s.agenda m → number_of m ≡ o.number → IsKnown s.active s.moves m → Contains s.agenda (LiveSlot o.number)
      by_member (LiveSlot k) here same known = subst (λ n. Contains s.agenda (LiveSlot n)) same here
      by_member (Committed t) here same known = absurd (all_find (λ u. u.number ≢ t.number) (is_of session) s.active o known is (sym same))

  -- a transaction begins
  pub begun_reads : (rows : List StoredRow) (kind : Kind) (n session : ℕ) → IsReadAs rows (serial s.agenda) kind n [] → Reads rows s → Reads rows (begun s kind n session)
  begun_reads rows kind n session new r = record {
    explained = r.explained;
    read = all_push (IsRead rows (serial s.agenda)) (without_first (is_of session) s.active) (record { session = session; kind = kind; number = n; steps = [] })
        (all_without (IsRead rows (serial s.agenda)) (is_of session) s.active r.read) new;
  }

  -- an operation is answered
  answered_reads : (rows : List StoredRow) (session : ℕ) (op : Op) (reply : Reply) (o : Active) → active_of s session ≡ Some o → Reads rows s
      → (IsRead rows (serial s.agenda) o → IsRead rows (serial s.agenda) (with_step (record { op = op; reply = reply; order = serial s.agenda; latest = latest s }) o)) → Reads rows (answered s op reply session)
  answered_reads rows session op reply o is r step = record {
    explained = r.explained;
    read = all_change (IsRead rows (serial s.agenda)) (IsRead rows (serial s.agenda)) (is_of session) (with_step (record { op = op; reply = reply; order = serial s.agenda; latest = latest s })) s.active (λ u h. h)
        (λ u found h. subst (λ v. IsRead rows (serial s.agenda) v → IsRead rows (serial s.agenda) (with_step (record { op = op; reply = reply; order = serial s.agenda; latest = latest s }) v)) (some_same (sym is ∙ found)) step h) r.read;
  }

  pub short_reads : (session : ℕ) (op : Op) (o : Active) (reply : Reply) → IsSound base → active_of s session ≡ Some o → o.kind ≡ IsShort → reply ≡ see o.number (latest s) (operations (transaction_of o)) op
      → Reads base.rows s → Reads base.rows (answered s op reply session)
  short_reads session op o reply sound is kind sees r = answered_reads base.rows session op reply o is r (λ h.
      let ts = serial s.agenda in
      let new : Step = record { op = op; reply = reply; order = serial s.agenda; latest = latest s } in
      let short : IsShortRead base.rows ts o.number o.steps = subst (λ k. IsReadAs base.rows ts k o.number o.steps) kind h in
      let now : latest s ≡ run base.rows ts = ap (λ rows. run rows ts) structure.rows in
      subst (λ k. IsReadAs base.rows ts k o.number (o.steps ++ new ∷ [])) (sym kind) (record {
        rising = all_push (λ b. IsRising cell_of b.latest) o.steps new short.rising (subst (IsRising cell_of) (sym now) (rising_run base.rows ts sound.rising));
        sourced = all_push (λ b. AreSourced base.rows ts b.latest) o.steps new short.sourced (subst (AreSourced base.rows ts) (sym now) (run_sourced base.rows ts));
        seen = seen_then_push o.number [] o.steps new short.seen (sees ∙ ap (λ l. see o.number (latest s) l op) (steps_ops o.steps));
      }))

  pub batch_reads : (session : ℕ) (op : Op) (o : Active) (d : Declaration) (snapshot : List Transaction) (reply : Reply) → active_of s session ≡ Some o → o.kind ≡ IsLive d snapshot
      → reply ≡ see o.number (run s.base snapshot) (operations (transaction_of o)) op → Reads base.rows s → Reads base.rows (answered s op reply session)
  batch_reads session op o d snapshot reply is kind sees r = answered_reads base.rows session op reply o is r (λ h.
      let ts = serial s.agenda in
      let new : Step = record { op = op; reply = reply; order = serial s.agenda; latest = latest s } in
      let rows : List StoredRow = run base.rows snapshot in
      let ops : List Op = map (λ (b : Step). b.op) o.steps in
      let played : play o.number rows ops ≡ map (λ (b : Step). b.reply) o.steps = subst (λ k. IsReadAs base.rows ts k o.number o.steps) kind h in
      let seen : reply ≡ see o.number rows ops op = sees ∙ (λ i. see o.number (run (structure.rows i) snapshot) (steps_ops o.steps i) op) in
      let more : play o.number rows (map (λ (b : Step). b.op) (o.steps ++ new ∷ [])) ≡ map (λ (b : Step). b.reply) (o.steps ++ new ∷ []) =
      ap (play o.number rows) (map-append (λ (b : Step). b.op) o.steps (new ∷ [])) ∙ play_push o.number rows ops op ∙ (λ i. played i ++ sym seen i ∷ []) ∙ sym (map-append (λ (b : Step). b.reply) o.steps (new ∷ [])) in
      subst (λ k. IsReadAs base.rows ts k o.number (o.steps ++ new ∷ [])) (sym kind) more)

  -- a transaction ends without a commit
  closed_reads : (rows : List StoredRow) (session : ℕ) → Reads rows s → Reads rows (closed s session)
  closed_reads rows session r = record { explained = r.explained; read = all_without (IsRead rows (serial s.agenda)) (is_of session) s.active r.read }

  pub ended_reads : (rows : List StoredRow) (session : ℕ) (o : Active) → active_of s session ≡ Some o → Reads rows s → Reads rows (ended s o session)
  ended_reads rows session o is r = by_kind o.kind refl where
    by_kind : (k : Kind) → o.kind ≡ k → Reads rows (left (closed s session) k o.number)
    by_kind IsShort kind = closed_reads rows session r
    by_kind (IsPending d) kind = closed_reads rows session r
    by_kind (IsLive d snapshot) kind =
        let same : serial (without_member s.agenda o.number) ≡ serial s.agenda = serial_without o.number s.agenda apart_members (live_slot session o d snapshot is kind) in
        let c = closed_reads rows session r in
        record {
          explained = subst (RunGives rows) (sym same) c.explained;
          read = subst (λ ts. AllByRecursion (IsRead rows ts) (without_first (is_of session) s.active)) (sym same) c.read;
        }

-- the epoch closes: pending batches become live, and nothing commits
pub slots_active : (epoch : ℕ) (s : State) (os : List Active) → (slots_after epoch s os).active ≡ s.active
slots_active epoch s [] = refl
slots_active epoch s (o ∷ os) = slots_active epoch (slot_after epoch s o.kind o.number) os ∙ by_kind o.kind where
  by_kind : (k : Kind) → (slot_after epoch s k o.number).active ≡ s.active
  by_kind IsShort = refl
  by_kind (IsPending d) = refl
  by_kind (IsLive d snapshot) = refl

pub slots_serial : (epoch : ℕ) (s : State) (os : List Active) → serial (slots_after epoch s os).agenda ≡ serial s.agenda
slots_serial epoch s [] = refl
slots_serial epoch s (o ∷ os) = slots_serial epoch (slot_after epoch s o.kind o.number) os ∙ by_kind o.kind where
  by_kind : (k : Kind) → serial (slot_after epoch s k o.number).agenda ≡ serial s.agenda
  by_kind IsShort = refl
  by_kind (IsPending d) = serial_slot s.agenda o.number
  by_kind (IsLive d snapshot) = refl

live_read : (rows : List StoredRow) (ts snapshot : List Transaction) (kind : Kind) (n : ℕ) (steps : List Step) → IsReadAs rows ts kind n steps → IsReadAs rows ts (made_live snapshot kind) n steps
live_read rows ts snapshot IsShort n steps h = h
live_read rows ts snapshot (IsPending d) n steps h = subst (λ l. play n (run rows snapshot) (map (λ (b : Step). b.op) l) ≡ map (λ (b : Step). b.reply) l) (sym h) refl
live_read rows ts snapshot (IsLive d old) n steps h = h

pub advanced_reads : (rows : List StoredRow) (s : State) (epoch : ℕ) → Reads rows s → Reads rows (advanced s epoch)
advanced_reads rows s epoch r =
    let ts = serial s.agenda in
    let order : serial (advanced s epoch).agenda ≡ ts = slots_serial epoch (in_epoch s epoch) s.active in
    let opens : (advanced s epoch).active ≡ map (λ o. with_kind (made_live ts o.kind) o) s.active = slots_active epoch (in_epoch s epoch) s.active in
    let read : AllByRecursion (IsRead rows ts) (map (λ o. with_kind (made_live ts o.kind) o) s.active) =
    all_mapped (IsRead rows ts) (λ o. with_kind (made_live ts o.kind) o) s.active (all_map (IsRead rows ts) (λ o. IsRead rows ts (with_kind (made_live ts o.kind) o)) (λ o. live_read rows ts ts o.kind o.number o.steps) s.active r.read) in
    record {
      explained = subst (RunGives rows) (sym order) r.explained;
      read = subst (λ us. AllByRecursion (IsRead rows us) (advanced s epoch).active) (sym order) (subst (AllByRecursion (IsRead rows ts)) (sym opens) read);
    }

pub durable_reads : (rows : List StoredRow) (s : State) (epoch : ℕ) → Reads rows s → Reads rows (made_durable s epoch)
durable_reads rows s epoch r = by_test (nat_lt s.durable epoch) where
  by_test : (b : Bool) → Reads rows (durable_if b s epoch)
  by_test true = record { explained = r.explained; read = r.read }
  by_test false = r
