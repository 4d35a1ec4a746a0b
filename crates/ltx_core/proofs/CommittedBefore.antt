-- A live batch that is committed at a place: in its slot, or before a target.
use Rattle.std.proofs.Common.{◌≡◌, ℕ, ◌+◌, true, false, List, [], ◌∷◌, ◌++◌, map, length, refl, sym, ap, ◌∙◌, subst, arith}
use Rattle.std.proofs.lemmas.List.{length-append, length-map}
use Rattle.std.specs.List.{AllByRecursion, cons_option}
use Rattle.ltx_model.specs.declared.writes.Target.{Target}
use Rattle.ltx_model.specs.declared.writes.Target.TheVariants as targets
use Rattle.ltx_model.specs.declared.writes.Write.{Write}
use Rattle.ltx_model.specs.Lists.{without_first}
use Rattle.ltx_model.specs.Keys.{IsRising}
use Rattle.ltx_model.specs.StoredRows.{cell_of}
use Rattle.ltx_model.specs.Operations.{Transaction, operations, writes_of}
use Rattle.ltx_model.specs.Rows.{run}
use Rattle.ltx_model.specs.Agenda.{Member, number_of, Move, CommitHome, CommitBefore, commit_of, Timed, commits_of, agenda_after, serial}
use Rattle.ltx_model.specs.Records.{AreRecordsOf}
use Rattle.ltx_model.specs.States.{Kind, Active, transaction_of, Base, IsSound, State, is_of}
use Rattle.ltx_model.specs.Histories.{closed, moved}
use Rattle.ltx_model.specs.Holders.{is_entered, holder_of, removed}
use Rattle.ltx_lemmas.proofs.Lists.{given_append}
use Rattle.ltx_laws.specs.Structure.{Structure}
use Rattle.ltx_laws.proofs.NumberLists.{numbers_after}
use Rattle.ltx_open.specs.declared.stage.Declared.{Declared}
use Rattle.ltx_open.specs.Views.{OpenView}
use Rattle.ltx_core.specs.Views.{CoreView}
use Rattle.ltx_core.specs.Installed.{installed_writes, HasInstalledUnless}
use Rattle.ltx_core.specs.Decided.{list_at, HasCommittedAt}
use Rattle.ltx_core.specs.Stands.{ground, IsSlotOf, HasAgenda, HasStore, HasOpens, batches_of, areas_of, StandsAt}
use Rattle.ltx_core.proofs.Grounds.{IsLater, KeepsSlot, open_later}
use Rattle.ltx_core.proofs.OpensKept.{opens_on, opens_ended}
use Rattle.ltx_core.proofs.Batches.{without_batch}
use Rattle.ltx_core.proofs.HoldersLess.{entered_gone}
use Rattle.ltx_core.proofs.LiveFound.{IsLiveAt}
use Rattle.ltx_core.proofs.CommittedHome.{keeps_slot, seen_before}
use Rattle.ltx_core.proofs.InstalledUnless.{store_unless}
use Rattle.ltx_core.proofs.BatchPlaces.{HasPlace}

-- the move that commits a batch at a place
abbrev pub move_at : Target → Transaction → Move
move_at targets.Home t = CommitHome t
move_at (targets.Before p) t = CommitBefore t p

-- the list of numbers after it
pub list_moved : (place : Target) (t : Transaction) (ms : List Member) → list_at place t.number (map number_of ms) ≡ map number_of (agenda_after ms (move_at place t))
list_moved targets.Home t ms = sym (numbers_after ms (CommitHome t))
list_moved (targets.Before p) t ms = sym (numbers_after ms (CommitBefore t p))

module _ (old : CoreView) (session : ℕ) (a : OpenView) (e : Declared) (mark : ℕ) (base : Base) (s : State) (sound : IsSound base) (structure : Structure base s) (stands : StandsAt old s)
    (x : IsLiveAt old session a e mark s) (place : Target) (fits : HasPlace s.base s.agenda (transaction_of x.open_tx) (move_at place (transaction_of x.open_tx)))
    (new : CoreView) (done : HasCommittedAt place old session a new) where
  abbrev o : Active
  o = x.open_tx

  abbrev t : Transaction
  t = transaction_of x.open_tx

  abbrev move : Timed
  move = record { epoch = s.epoch; move = move_at place t }

  abbrev after : State
  after = moved (closed s session) s.epoch (move_at place t)

  abbrev writes : List Write
  writes = writes_of (operations t)

  rising : IsRising cell_of s.base
  rising = subst (IsRising cell_of) (sym structure.rows) sound.rising

  list_now : new.list ≡ map number_of (agenda_after s.agenda (move_at place t))
  list_now = done.list ∙ (λ i. list_at place (x.number i) (stands.agenda.list_is i)) ∙ list_moved place t s.agenda

  installed : HasInstalledUnless (map number_of (agenda_after s.agenda (move_at place t))) old.store new.store t.number (old.commits + 1) writes
  installed =
      subst (λ list. HasInstalledUnless list old.store new.store t.number (old.commits + 1) writes) list_now
      (subst (λ ws. HasInstalledUnless new.list old.store new.store t.number (old.commits + 1) ws) x.own
      (subst (λ n. HasInstalledUnless new.list old.store new.store n (old.commits + 1) a.own.writes) x.number done.installed))

  commits_are : commits_of (s.moves ++ move ∷ []) ≡ commits_of s.moves ++ t ∷ []
  commits_are = given_append (λ (m : Timed). commit_of m.move) s.moves (move ∷ []) ∙ ap (λ c. commits_of s.moves ++ cons_option c []) fits.commits

  removed_now : removed t.number old.preserve ≡ batches_of (without_first (is_of session) s.active)
  removed_now =
      ap (removed t.number) stands.holders
      ∙ sym (without_batch session s.active o (record { number = o.number; tables = e.writes; live = true }) structure.opens.rising x.found (ap (λ k. holder_of k o.number) x.kind))

  gone : is_entered (removed t.number old.preserve) t.number ≡ false
  gone = ap (λ hs. is_entered hs t.number) removed_now ∙ entered_gone s.active session o structure.opens.rising x.found

  preserve_is : new.preserve ≡ removed t.number old.preserve
  preserve_is = done.preserve ∙ ap (λ n. removed n old.preserve) x.number

  mark_is : old.commits + 1 ≡ length (map (λ u. u.number) (commits_of s.moves)) + 1
  mark_is = ap (λ n. n + 1) (stands.agenda.count_is ∙ sym (length-map (commits_of s.moves) (λ (u : Transaction). u.number)))

  store_now : HasStore new.store s.base (run s.base (serial (agenda_after s.agenda (move_at place t)))) (serial (agenda_after s.agenda (move_at place t))) (commits_of (s.moves ++ move ∷ []))
  store_now =
      subst (λ cs. HasStore new.store s.base (run s.base (serial (agenda_after s.agenda (move_at place t)))) (serial (agenda_after s.agenda (move_at place t))) cs) (sym commits_are)
      (subst (λ ts. HasStore new.store s.base (run s.base ts) ts (commits_of s.moves ++ t ∷ [])) (sym fits.now)
      (store_unless (map number_of (agenda_after s.agenda (move_at place t))) s.base fits.front t fits.back (commits_of s.moves) old.store new.store (old.commits + 1) rising fits.between mark_is
      (subst (λ ts. HasStore old.store s.base (run s.base ts) ts (commits_of s.moves)) (sym fits.before) stands.store) installed))

  agenda_now : HasAgenda new.list new.commits new.batch new.preserve (agenda_after s.agenda (move_at place t)) (s.moves ++ move ∷ [])
  agenda_now =
      let more : new.commits ≡ old.commits + 1 = done.commits in
      let batch : new.batch ≡ old.commits + 1 = done.batch in
      record {
        list_is = list_now;
        count_is = done.commits ∙ ap (λ n. n + 1) stands.agenda.count_is ∙ sym (ap length commits_are ∙ length-append (commits_of s.moves) (t ∷ []));
        batch_within = omega arith;
        slots = subst (λ hs. AllByRecursion (IsSlotOf hs) (agenda_after s.agenda (move_at place t))) (sym preserve_is) (fits.slots old.preserve gone stands.agenda.slots);
      }

  later : IsLater (ground old s) (ground new after)
  later =
      let more : new.commits ≡ old.commits + 1 = done.commits in
      record {
        base = refl;
        more = omega arith;
        rows = λ m within. installed.before m (omega arith);
        seen = λ m within cell. seen_before old.store new.store t.number (old.commits + 1) m (installed_writes (map number_of (agenda_after s.agenda (move_at place t))) old.store t.number writes) (omega arith) installed cell;
      }

  keeps : (n : ℕ) (kind : Kind) → KeepsSlot (ground old s) (ground new after) n kind
  keeps n kind d snapshot k is at = keeps_slot (ground old s) (ground new after) move fits.batch refl done.commits done.batch n d.writes k at

  opens_now : HasOpens (ground new after) new.opens (without_first (is_of session) s.active)
  opens_now =
      opens_ended (ground new after) old.opens s.active
      (opens_on (ground old s) old.opens s.active stands.opens (ground new after) (λ u b there is. open_later (ground old s) (ground new after) later u b (keeps u.number u.kind) is))
      session o new.opens x.found done.opens

  -- the core stands at the state after the move, with its records and areas
  pub placed_stands : AreRecordsOf after new.records → new.areas ≡ areas_of (without_first (is_of session) s.active) → StandsAt new (moved (closed s session) s.epoch (move_at place (transaction_of x.open_tx)))
  placed_stands records areas = record {
    counters = done.counters ∙ stands.counters;
    agenda = agenda_now;
    holders = preserve_is ∙ removed_now;
    store = store_now;
    opens = opens_now;
    records = records;
    areas = areas;
  }
