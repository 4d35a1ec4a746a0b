-- Each kind of commit: the serial order with the committed one in its place gives every committed transaction its replies.
use Rattle.std.proofs.Common.{◌≡◌, ◌≢◌, ◌⊎◌, inl, inr, ℕ, ◌<◌, ◌≤◌, true, false, List, [], ◌∷◌, ◌++◌, map, Some, None, refl, sym, ap, ◌∙◌, subst, append-nil}
use Rattle.std.proofs.lemmas.Bool.{both_ways}
use Rattle.std.specs.List.{AllByRecursion, Contains}
use Rattle.ltx_model.specs.declared.rows.StoredRow.{StoredRow}
use Rattle.ltx_model.specs.Tables.{has_table}
use Rattle.ltx_model.specs.Lists.{without_first}
use Rattle.ltx_model.specs.Keys.{Cell, same_cell, IsRising}
use Rattle.ltx_model.specs.StoredRows.{cell_of}
use Rattle.ltx_model.specs.Operations.{Transaction, operations, writes_key, looks_up_key, looks_into_table}
use Rattle.ltx_model.specs.Rows.{play, run, RunGives}
use Rattle.ltx_model.specs.Agenda.{Member, LiveSlot, Committed, number_of, is_member, serial, part_before, part_from, CommitShort, CommitHome, CommitBefore}
use Rattle.ltx_model.specs.States.{Declaration, IsShort, IsLive, Step, Active, transaction_of, Base, IsSound, State, is_of, active_of, latest}
use Rattle.ltx_model.specs.Histories.{closed, moved}
use Rattle.ltx_model.specs.Shorts.{first_change}
use Rattle.ltx_model.specs.Batches.{target, first_witness, first_late, first_contradicted, contradicted}
use Rattle.ltx_lemmas.specs.Places.{is_before}
use Rattle.ltx_lemmas.specs.Sources.{AreSourced}
use Rattle.ltx_lemmas.proofs.Lists.{all_map, all_find, all_without, all_from, all_contains, contains_parts, contains_front, contains_back, contains_later}
use Rattle.ltx_lemmas.proofs.Members.{apart_one, before_member, before_self}
use Rattle.ltx_lemmas.proofs.Serials.{serial_member, serial_push, serial_parts, serial_home, serial_before}
use Rattle.ltx_lemmas.proofs.Rising.{rising_run}
use Rattle.ltx_lemmas.proofs.Runs.{inserted, unseen, run_sourced, writer_fixes}
use Rattle.ltx_lemmas.proofs.Shorts.{DoWritersTell, play_unchanged}
use Rattle.ltx_laws.specs.Structure.{IsLiveBatch, Structure}
use Rattle.ltx_laws.proofs.Transitions.{live_of}
use Rattle.ltx_laws.proofs.ReadsWitnesses.{no_witness, not_contradicted}
use Rattle.ltx_laws.proofs.ReadsTables.{not_looked_up, writes_declared}
use Rattle.ltx_laws.proofs.ReadsPlaces.{reads_at_home, reads_before}
use Rattle.ltx_laws.proofs.ReadsKept.{IsShortRead, IsReadAs, IsRead, Reads, steps_ops, steps_replies, all_read_more, apart_members, live_batch, live_slot}

-- the two parts of an order are in the order with one more between them
between : (front back : List Transaction) (t u : Transaction) → Contains (front ++ back) u → Contains (front ++ t ∷ back) u
between front back t u c = by_part (contains_parts front back u c) where
  by_part : Contains front u ⊎ Contains back u → Contains (front ++ t ∷ back) u
  by_part (inl d) = contains_front front (t ∷ back) u d
  by_part (inr d) = contains_back front (t ∷ back) u (contains_later t back u d)

-- The order gets one more between its two parts, and the open ones are one less.
pub placed : (base : List StoredRow) (s after : State) (session : ℕ) (t : Transaction) (front back : List Transaction) → IsRising cell_of base
    → serial s.agenda ≡ front ++ back → serial after.agenda ≡ front ++ t ∷ back → after.active ≡ without_first (is_of session) s.active
    → play t.number (run base front) (operations t) ≡ map (λ a. a.reply) t.answered
    → ((q : Cell) → writes_key (operations t) q ≡ true → contradicted q back ≡ None)
    → Reads base s → Reads base after
placed base s after session t front back rising before now less own unseen r =
    let sub : (u : Transaction) → Contains (serial s.agenda) u → Contains (front ++ t ∷ back) u = λ u c. between front back t u (subst (λ l. Contains l u) before c) in
    let active : List Active = without_first (is_of session) s.active in
    let read : AllByRecursion (IsRead base (front ++ t ∷ back)) active = all_read_more base (serial s.agenda) (front ++ t ∷ back) sub active (all_without (IsRead base (serial s.agenda)) (is_of session) s.active r.read) in
    record {
      explained = subst (RunGives base) (sym now) (inserted base front back t rising (subst (RunGives base) before r.explained) own unseen);
      read = subst (λ ts. AllByRecursion (IsRead base ts) after.active) (sym now) (subst (AllByRecursion (IsRead base (front ++ t ∷ back))) (sym less) read);
    }

committed_same : {t u : Transaction} → ◌≡◌ {A = Member} (Committed t) (Committed u) → t ≡ u
committed_same e = cc

module _ (base : Base) (s : State) (structure : Structure base s) (sound : IsSound base) (r : Reads base.rows s) (session : ℕ) (o : Active) (is : active_of s session ≡ Some o) where
  read : IsRead base.rows (serial s.agenda) o
  read = all_find (IsRead base.rows (serial s.agenda)) (is_of session) s.active o r.read is

  -- rows of one key with one writer are one, among rows that come from the base and the committed members
  tells : (before : List StoredRow) → AreSourced base.rows (serial s.agenda) before → DoWritersTell before (run base.rows (serial s.agenda))
  tells before sourced = writer_fixes base.rows base.last (serial s.agenda)
      (λ q row e. all_find (λ (x : StoredRow). x.writer ≤ base.last) (λ (x : StoredRow). same_cell (cell_of x) q) base.rows row sound.writers e)
      (λ t c. all_contains (λ m. base.last < number_of m) s.agenda (Committed t) structure.members.above (serial_member s.agenda t c))
      (λ t u c d same. committed_same (apart_one s.agenda (Committed t) (Committed u) (apart_members base s structure) (serial_member s.agenda t c) (serial_member s.agenda u d) same))
      before (run base.rows (serial s.agenda)) sourced (run_sourced base.rows (serial s.agenda))

  -- a short
  pub short_placed : o.kind ≡ IsShort → first_change (latest s) o.steps ≡ None → Reads base.rows (moved (closed s session) s.epoch (CommitShort (transaction_of o)))
  short_placed kind unchanged =
      let short : IsShortRead base.rows (serial s.agenda) o.number o.steps = subst (λ k. IsReadAs base.rows (serial s.agenda) k o.number o.steps) kind read in
      let now : latest s ≡ run base.rows (serial s.agenda) = ap (λ rows. run rows (serial s.agenda)) structure.rows in
      let rows : List StoredRow = run base.rows (serial s.agenda) in
      let played : play o.number rows (map (λ (b : Step). b.op) o.steps) ≡ map (λ (b : Step). b.reply) o.steps =
      play_unchanged o.number rows o.steps (rising_run base.rows (serial s.agenda) sound.rising) short.rising
      (all_map (λ (b : Step). AreSourced base.rows (serial s.agenda) b.latest) (λ (b : Step). DoWritersTell b.latest rows) (λ b. tells b.latest) o.steps short.sourced)
      short.seen (sym (ap (λ l. first_change l o.steps) now) ∙ unchanged) in
      let own : play o.number rows (operations (transaction_of o)) ≡ map (λ a. a.reply) (transaction_of o).answered = ap (play o.number rows) (steps_ops o.steps) ∙ played ∙ sym (steps_replies o.steps) in
      placed base.rows s (moved (closed s session) s.epoch (CommitShort (transaction_of o))) session (transaction_of o) (serial s.agenda) [] sound.rising
      (sym (append-nil (serial s.agenda))) (serial_push s.agenda (transaction_of o)) refl own (λ q w. refl) r

  module _ (d : Declaration) (snapshot : List Transaction) (kind : o.kind ≡ IsLive d snapshot) where
    live : IsLiveBatch s.agenda s.moves o.number d snapshot o.steps
    live = live_batch base s structure session o d snapshot is kind

    slot : Contains s.agenda (LiveSlot o.number)
    slot = live_slot base s structure session o d snapshot is kind

    -- what it read from its snapshot
    from_snapshot : play o.number (run base.rows snapshot) (operations (transaction_of o)) ≡ map (λ a. a.reply) (transaction_of o).answered
    from_snapshot =
        ap (play o.number (run base.rows snapshot)) (steps_ops o.steps)
        ∙ subst (λ k. IsReadAs base.rows (serial s.agenda) k o.number o.steps) kind read
        ∙ sym (steps_replies o.steps)

    -- a batch at its slot
    pub home_placed : ((t : Transaction) → Contains (serial (part_from o.number s.agenda)) t → (table : ℕ) → has_table d.writes table ≡ true → looks_into_table (operations t) table ≡ false)
        → target s (live_of o d snapshot) ≡ None → Reads base.rows (moved (closed s session) s.epoch (CommitHome (transaction_of o)))
    home_placed unread none =
        let t = transaction_of o in
        let front = serial (part_before o.number s.agenda) in
        let back = serial (part_from o.number s.agenda) in
        let own : play o.number (run base.rows front) (operations t) ≡ map (λ a. a.reply) t.answered = sym (reads_at_home s (live_of o d snapshot) base.rows sound.rising live.now none) ∙ from_snapshot in
        placed base.rows s (moved (closed s session) s.epoch (CommitHome t)) session t front back sound.rising
        (sym (serial_parts o.number s.agenda)) (serial_home t s.agenda (apart_members base s structure) slot) refl own
        (λ q w. unseen q back (all_from (λ u. looks_up_key (operations u) q ≡ false) back (λ u c.
        not_looked_up (operations u) q (unread u c q.table (writes_declared d o.steps q live.inside (sym (ap (λ l. writes_key l q) (steps_ops o.steps)) ∙ w))))))
        r

    -- a batch before its target
    pub before_placed : (p : ℕ) → target s (live_of o d snapshot) ≡ Some p → is_before s.agenda p o.number ≡ true → first_witness s (live_of o d snapshot) p ≡ None
        → Reads base.rows (moved (closed s session) s.epoch (CommitBefore (transaction_of o) p))
    before_placed p aim ahead none =
        let t = transaction_of o in
        let i = live_of o d snapshot in
        let apart = apart_members base s structure in
        let front = serial (part_before p s.agenda) in
        let back = serial (part_from p s.agenda) in
        let here : is_member s.agenda p ≡ true = before_member s.agenda p o.number ahead in
        let other : p ≢ o.number = λ same. both_ways (is_before s.agenda p p) (before_self s.agenda p) (subst (λ n. is_before s.agenda p n ≡ true) (sym same) ahead) in
        let free = no_witness (first_late s i p) (first_contradicted s i p) none in
        let own : play o.number (run base.rows front) (operations t) ≡ map (λ a. a.reply) t.answered = sym (reads_before s i base.rows p sound.rising apart live.now aim ahead free.0) ∙ from_snapshot in
        placed base.rows s (moved (closed s session) s.epoch (CommitBefore t p)) session t front back sound.rising
        (sym (serial_parts p s.agenda)) (serial_before t p s.agenda apart slot other here) refl own
        (λ q w. not_contradicted s i p free.1 q w) r
