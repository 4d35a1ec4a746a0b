-- The live batch of a session, as the core keeps it and as the state has it.
use Rattle.std.proofs.Common.{◌≡◌, ℕ, suc, ◌<◌, ◌≤◌, ◌+◌, Bool, true, false, List, [], ◌∷◌, ◌++◌, map, length, Option, Some, None, option_map, refl, sym, ap, ◌∙◌, Contains, arith}
use Rattle.std.proofs.lemmas.List.{length-append, length-map}
use Rattle.std.proofs.lemmas.List.Sorted.{length_permutation}
use Rattle.std.specs.Prelude.{filter_map}
use Rattle.std.specs.List.{find, list_any, cons_option}
use Rattle.ltx_model.specs.Lists.{numbered}
use Rattle.ltx_model.specs.Tables.{has_table}
use Rattle.ltx_model.specs.LastWrites.{last_write}
use Rattle.ltx_model.specs.Notes.{AreNotesBy}
use Rattle.ltx_model.specs.Decisions.{IsAskedLook}
use Rattle.ltx_model.specs.Operations.{Transaction, operations, writes_key, writes_of}
use Rattle.ltx_model.specs.Agenda.{Member, number_of, committed_of, commit_at_slot, serial, commits_of, part_before, part_from}
use Rattle.ltx_model.specs.States.{IsLive, Active, transaction_of, Base, State, is_of}
use Rattle.ltx_lemmas.proofs.Lists.{all_from, true_false, some_same}
use Rattle.ltx_lemmas.proofs.Serials.{serial_home, serial_parts}
use Rattle.ltx_laws.specs.Structure.{Structure}
use Rattle.ltx_laws.proofs.ReadsKept.{steps_ops, apart_members, live_batch, live_slot}
use Rattle.ltx_laws.proofs.ReadsTables.{writes_declared}
use Rattle.ltx_preserve.specs.Kept.{is_live_below}
use Rattle.ltx_open.specs.declared.stage.Declared.{Declared}
use Rattle.ltx_open.specs.declared.stage.Stage.{Stage}
use Rattle.ltx_open.specs.declared.stage.Stage.TheVariants as stages
use Rattle.ltx_core.specs.Since.{has_batch_since, has_elder}
use Rattle.ltx_open.specs.Views.{OpenView, declaration}
use Rattle.ltx_core.specs.Views.{CoreView}
use Rattle.ltx_open.specs.Slots.{opened}
use Rattle.ltx_core.specs.Stands.{ground, everybody, IsSlotAt, StandsAt}
use Rattle.ltx_core.proofs.OpensKept.{FoundOpen, opens_some, FoundLive, as_live_open}
use Rattle.ltx_core.proofs.HomeAnswers.{elder_entered}
use Rattle.ltx_core.proofs.HomeRuns.{AreUnwritten}

-- The open transaction of the session is a live batch, with what it declared and its mark.
pub record IsLiveAt (old : CoreView) (session : ℕ) (a : OpenView) (e : Declared) (mark : ℕ) (s : State) : Type 0 where
  pub open_tx : Active
  pub found : find (is_of session) s.active ≡ Some open_tx
  pub number : a.number ≡ open_tx.number
  pub own : a.own.writes ≡ writes_of (operations (transaction_of open_tx))
  pub snapshot : List Transaction
  pub kind : open_tx.kind ≡ IsLive (declaration e) snapshot
  pub slot : IsSlotAt (ground old s) open_tx.number e.writes mark
  pub notes : AreNotesBy (λ step. IsAskedLook everybody (last_write s.base snapshot)) (numbered open_tx.steps) a.notes.notes

pub live_at : (old : CoreView) (session : ℕ) (a : OpenView) (e : Declared) (mark : ℕ) (s : State) → opened old.opens session ≡ Some a → a.stage ≡ stages.Live e mark → StandsAt old s → IsLiveAt old session a e mark s
live_at old session a e mark s here stage stands =
    let found : FoundOpen (ground old s) old.opens s.active stands.opens session a = opens_some (ground old s) old.opens s.active stands.opens session a here in
    let o : Active = found.open_tx in
    let live : FoundLive (ground old s) o.number o.steps a o.kind (declaration e) mark = as_live_open (ground old s) o.number o.steps a o.kind a.stage e mark stage found.is_open.kind in
    record {
      open_tx = o;
      found = found.found;
      number = found.is_open.number;
      own = found.is_open.own ∙ ap writes_of (sym (steps_ops o.steps));
      snapshot = live.snapshot;
      kind = live.kind_is;
      slot = live.live.slot_at;
      notes = live.live.notes;
    }

-- the stage of the session's open transaction
pub stage_some : (o : Option OpenView) (a : OpenView) (stage : Stage) → option_map (λ (x : OpenView). x.stage) o ≡ Some stage → o ≡ Some a → a.stage ≡ stage
stage_some o a stage at is = some_same (sym (ap (option_map (λ (x : OpenView). x.stage)) is) ∙ at)

-- no more are given than there are
pub given_length : (f : Member → Option Transaction) (xs : List Member) → length (filter_map f xs) ≤ length xs
given_length f [] = omega arith
given_length f (x ∷ xs) = by_given (f x) (filter_map f xs) (given_length f xs) where
  by_given : (o : Option Transaction) (ys : List Transaction) → length ys ≤ length xs → length (cons_option o ys) ≤ suc (length xs)
  by_given None ys less = omega arith
  by_given (Some y) ys less = omega arith

module _ (old : CoreView) (session : ℕ) (a : OpenView) (e : Declared) (mark : ℕ) (base : Base) (s : State) (structure : Structure base s) (stands : StandsAt old s) (x : IsLiveAt old session a e mark s) where
  abbrev pub t : Transaction
  t = transaction_of x.open_tx

  -- an elder is entered
  pub elder_is : has_elder s x.open_tx.number ≡ list_any (is_live_below a.number) old.preserve
  elder_is = sym (ap (λ n. list_any (is_live_below n) old.preserve) x.number ∙ ap (list_any (is_live_below x.open_tx.number)) stands.holders ∙ elder_entered x.open_tx.number s.active)

  -- with it in its place the order has one more between its two parts
  pub home_is : serial (map (commit_at_slot t) s.agenda) ≡ serial (part_before x.open_tx.number s.agenda) ++ t ∷ serial (part_from x.open_tx.number s.agenda)
  home_is = serial_home t s.agenda (apart_members base s structure) (live_slot base s structure session x.open_tx (declaration e) x.snapshot x.found x.kind)

  pub parts_are : serial (part_before x.open_tx.number s.agenda) ++ serial (part_from x.open_tx.number s.agenda) ≡ serial s.agenda
  parts_are = serial_parts x.open_tx.number s.agenda

  -- while no batch committed since, those behind its slot write no key that it writes
  pub home_apart : has_batch_since s.moves x.open_tx.number ≡ false → AreUnwritten t (serial (part_from x.open_tx.number s.agenda))
  home_apart alone cell writes = all_from (λ u. writes_key (operations u) cell ≡ false) (serial (part_from x.open_tx.number s.agenda)) (λ u c. by_test u c (writes_key (operations u) cell) refl) where
    declared : has_table e.writes cell.table ≡ true
    declared = writes_declared (declaration e) x.open_tx.steps cell (live_batch base s structure session x.open_tx (declaration e) x.snapshot x.found x.kind).inside
        (sym (ap (λ l. writes_key l cell) (steps_ops x.open_tx.steps)) ∙ writes)

    by_test : (u : Transaction) → Contains (serial (part_from x.open_tx.number s.agenda)) u → (b : Bool) → writes_key (operations u) cell ≡ b → b ≡ false
    by_test u c false is = refl
    by_test u c true is = absurd (true_false (sym declared ∙ x.slot.unwritten alone u c cell is))

  -- there are fewer commits than members
  pub commits_below : old.commits < length old.list
  commits_below =
      let n : ℕ = x.open_tx.number in
      let commits : old.commits ≡ length (commits_of s.moves) = stands.agenda.count_is in
      let same : length (serial s.agenda) ≡ length (commits_of s.moves) = length_permutation (commits_of s.moves) (serial s.agenda) structure.committed in
      let whole : length (serial (part_before n s.agenda)) + length (serial (part_from n s.agenda)) ≡ length (serial s.agenda) = sym (length-append (serial (part_before n s.agenda)) (serial (part_from n s.agenda))) ∙ ap length parts_are in
      let more : length (serial (map (commit_at_slot t) s.agenda)) ≡ length (serial (part_before n s.agenda)) + suc (length (serial (part_from n s.agenda))) = ap length home_is ∙ length-append (serial (part_before n s.agenda)) (t ∷ serial (part_from n s.agenda)) in
      let most : length (serial (map (commit_at_slot t) s.agenda)) ≤ length (map (commit_at_slot t) s.agenda) = given_length committed_of (map (commit_at_slot t) s.agenda) in
      let mapped : length (map (commit_at_slot t) s.agenda) ≡ length s.agenda = length-map s.agenda (commit_at_slot t) in
      let listed : length old.list ≡ length s.agenda = ap length stands.agenda.list_is ∙ length-map s.agenda number_of in
      omega arith
