-- Who overtakes nobody commits at once, and the least live batch overtakes nobody.
use Rattle.std.proofs.Common.{◌≡◌, ◌≢◌, inl, inr, ℕ, ◌<◌, ◌≤◌, Bool, true, false, not, ◌&&◌, ◌==◌, List, [], ◌∷◌, ◌++◌, map, nat_lt, Option, Some, None, refl, sym, ap, ◌∙◌, subst, ltb-true, arith, append_assoc, if◌then◌else◌, Contains}
use Rattle.std.specs.List.{list_any, AllByRecursion}
use Rattle.ltx_model.specs.declared.commands.Op.{Op}
use Rattle.ltx_model.specs.declared.commands.Op.TheVariants.{Get, Scan, Put, Del}
use Rattle.ltx_model.specs.declared.commands.Verb.TheVariants as verbs
use Rattle.ltx_model.specs.declared.commands.Line.{Line}
use Rattle.ltx_model.specs.declared.replies.Entry.{Entry}
use Rattle.ltx_model.specs.declared.replies.Reply.{Reply}
use Rattle.ltx_model.specs.declared.replies.Reply.TheVariants as replies
use Rattle.ltx_model.specs.declared.writes.Write.{Write}
use Rattle.ltx_model.specs.Tables.{has_table}
use Rattle.ltx_model.specs.Lists.{Numbered, numbered}
use Rattle.ltx_model.specs.Keys.{Cell, same_cell, in_range}
use Rattle.ltx_model.specs.Operations.{Transaction, operations, table_of, cell_of_write, covers, looks_up, looks_up_key, looks_into_table, writes_at, writes_key, writes_of}
use Rattle.ltx_model.specs.Agenda.{Member, LiveSlot, Committed, number_of, committed_of, has_number, is_member, serial, part_before, commits_batch, moves_since, Timed, commits_after, has_slot}
use Rattle.ltx_model.specs.States.{Declaration, Kind, IsShort, IsPending, IsLive, Step, Active, answered_of, Base, IsSound, State, first_state, LiveBatch, live_batches, is_of, active_of}
use Rattle.ltx_model.specs.Histories.{after, state, state_from}
use Rattle.ltx_model.specs.Batches.{batch_operations, committed_ahead, writes_what_looks, preserves_what_looks, overtakes, target, Overtakes}
use Rattle.ltx_model.specs.Answers.{answer, staged, unless_in, refusal, commit_live, IsLegalWith}
use Rattle.ltx_model.proofs.OneMore.{state-append, state-push, legal-parts, legal-first}
use Rattle.ltx_laws.specs.Structure.{IsKnown, IsLiveBatch, IsPendingBatch, StandsAs, Stands, Structure}
use Rattle.ltx_laws.specs.Guards.{WritesNone}
use Rattle.ltx_laws.specs.Priority.{AsksCommit, IsCommittedAtHome, WasLeast, batch_of}
use Rattle.ltx_lemmas.proofs.Lists.{any_contains, any_item, all_contains, all_map, all_find, all_from, all_mapped, find_contains, find_passes, given_here, before_contains, true_false, none_some}
use Rattle.ltx_lemmas.proofs.Searches.{numbered_item, is_written_of}
use Rattle.ltx_model.proofs.CellOrder.{same_cell_same, same_cell_refl}
use Rattle.ltx_lemmas.proofs.Members.{apart_one}
use Rattle.ltx_laws.proofs.Pairs.{same_number}
use Rattle.ltx_laws.proofs.Places.{and_left, and_right}
use Rattle.ltx_laws.proofs.Transitions.{asks, live_of}
use Rattle.ltx_laws.proofs.Targets.{target_found}
use Rattle.ltx_laws.proofs.Spared.{false_from, live_here}
use Rattle.ltx_laws.proofs.ReadsKept.{steps_ops, apart_members}
use Rattle.ltx_laws.proofs.Structures.{structure_of, structure_after, live_stands}
use Rattle.ltx_laws.proofs.GuardedStates.{IsGuardedState, guarded_of}
use Rattle.ltx_laws.proofs.LiveStates.{IsOpenBatch, open_batch, batch_stands}
use Rattle.ltx_laws.proofs.Unread.{live_unwritten}
use Rattle.ltx_laws.proofs.Least.{IsLiveKind, CommitsFrom, IsLeastFrom, least_along, IsUncommitting, slot_told}
use Rattle.ltx_laws.proofs.PlacesByCommit.{before_legal, entry_is}

-- the answer to the commit of a live batch
pub answer_commit : (s : State) (session : ℕ) (o : Active) (d : Declaration) (snapshot : List Transaction) → active_of s session ≡ Some o → o.kind ≡ IsLive d snapshot
    → answer s (asks session verbs.Commit) ≡ commit_live s (batch_of o d snapshot) (target s (batch_of o d snapshot))
unfolding answer
answer_commit s session o d snapshot is kind = rw is (rw kind refl)

-- a batch without a target is committed at home
pub home_reply : (built : State → Line → Bool) (s : State) (entry : Entry) (o : Active) (d : Declaration) (snapshot : List Transaction) → entry.reply ≡ staged built s entry.line → AsksCommit s entry o → o.kind ≡ IsLive d snapshot
    → target s (batch_of o d snapshot) ≡ None → IsCommittedAtHome built s entry
home_reply built s entry o d snapshot is c kind none = by_built (built s entry.line) refl is where
  by_built : (b : Bool) → built s entry.line ≡ b → entry.reply ≡ (if b then answer s entry.line else replies.Later) → IsCommittedAtHome built s entry
  by_built true f e = inl (e ∙ ap (answer s) c.line ∙ answer_commit s c.session o d snapshot c.opened kind ∙ ap (commit_live s (batch_of o d snapshot)) none)
  by_built false f e = inr (f, e)

-- whoever the function finds overtaken is overtaken
pub overtakes_is : (s : State) (i : LiveBatch) (m : Member) → Contains s.agenda m → overtakes s i m ≡ true → Overtakes s i (number_of m)
overtakes_is s i (Committed t) here e =
    let ahead : committed_ahead s i t ≡ true = and_left (committed_ahead s i t) (writes_what_looks i t) e in
    let found = any_item (λ (w : Write). looks_up_key (batch_operations i) (cell_of_write w)) (writes_of (operations t)) (and_right (committed_ahead s i t) (writes_what_looks i t) e) in
    let w : Write = found.0 in
    inl (record {
      tx = t;
      member = given_here committed_of s.agenda (Committed t) t here refl;
      number = refl;
      later = and_left (commits_after s.moves i.tx.number t.number) (is_member (part_before i.tx.number s.agenda) t.number) ahead;
      before = and_right (commits_after s.moves i.tx.number t.number) (is_member (part_before i.tx.number s.agenda) t.number) ahead;
      key = cell_of_write w;
      writes = sym (is_written_of (cell_of_write w) (operations t)) ∙ any_contains (λ (v : Write). same_cell (cell_of_write v) (cell_of_write w)) (writes_of (operations t)) w found.1 (same_cell_refl (cell_of_write w));
      looks = found.2;
    })
overtakes_is s i (LiveSlot n) here e =
    let found = any_item (λ (b : LiveBatch). (b.tx.number == n) && preserves_what_looks i b) (live_batches s) e in
    let b : LiveBatch = found.0 in
    let same : b.tx.number ≡ n = same_number b.tx.number n (and_left (b.tx.number == n) (preserves_what_looks i b) found.2) in
    let looks : preserves_what_looks i b ≡ true = and_right (b.tx.number == n) (preserves_what_looks i b) found.2 in
    let test : Op → Bool = λ op. has_table b.declared.writes (table_of op) && looks_into_table (batch_operations i) (table_of op) in
    let less : b.tx.number < i.tx.number = ltb-true b.tx.number i.tx.number (and_left (nat_lt b.tx.number i.tx.number) (list_any test (batch_operations i)) looks) in
    let one = any_item test (batch_operations i) (and_right (nat_lt b.tx.number i.tx.number) (list_any test (batch_operations i)) looks) in
    inr (record {
      batch = b;
      live = found.1;
      number = same;
      smaller = subst (λ k. k < i.tx.number) same less;
      table = table_of one.0;
      preserves = and_left (has_table b.declared.writes (table_of one.0)) (looks_into_table (batch_operations i) (table_of one.0)) one.2;
      looks = and_right (has_table b.declared.writes (table_of one.0)) (looks_into_table (batch_operations i) (table_of one.0)) one.2;
    })

-- a batch that overtakes nobody has no target
pub nobody_no_target : (s : State) (i : LiveBatch) → ((j : ℕ) → Overtakes s i j → ⊥) → target s i ≡ None
nobody_no_target s i nobody = by_target (target s i) refl where
  by_target : (t : Option ℕ) → target s i ≡ t → target s i ≡ None
  by_target None e = e
  by_target (Some p) e = let found = target_found s i p e in absurd (nobody (number_of found.0) (overtakes_is s i found.0 (find_contains (overtakes s i) s.agenda found.0 found.1) (find_passes (overtakes s i) s.agenda found.0 found.1)))

pub overtakes_nobody : (built : State → Line → Bool) (base : Base) (history : List Entry) (entry : Entry) → IsSound base → IsLegalWith built base (history ++ entry ∷ []) → (o : Active) (d : Declaration) (snapshot : List Transaction)
    → AsksCommit (state base history) entry o → o.kind ≡ IsLive d snapshot → ((j : ℕ) → Overtakes (state base history) (batch_of o d snapshot) j → ⊥) → IsCommittedAtHome built (state base history) entry
overtakes_nobody built base history entry sound legal o d snapshot c kind nobody = home_reply built (state base history) entry o d snapshot (entry_is built base history [] entry sound legal) c kind (nobody_no_target (state base history) (batch_of o d snapshot) nobody)

-- a batch looks keys up in its area alone
inside_true : (b : Bool) (reply : Reply) → unless_in b reply ≡ None → b ≡ true
inside_true true reply e = refl
inside_true false reply e = absurd (none_some (sym e))

covers_inside : (d : Declaration) (q : Cell) (op : Op) → refusal d op ≡ None → covers q op ≡ true → has_table d.reads q.table ≡ true
covers_inside d q (Get table key) free e =
    let c : Cell = record { table = table; key = key } in
    subst (λ (x : Cell). has_table d.reads x.table ≡ true) (same_cell_same c q e) (inside_true (has_table d.reads table) (replies.Outside table) free)
covers_inside d q (Scan table low high) free e = subst (λ t. has_table d.reads t ≡ true) (sym (same_number q.table table (and_left (q.table == table) (in_range low high q.key) e))) (inside_true (has_table d.reads table) (replies.Outside table) free)
covers_inside d q (Put table key value) free e = cc
covers_inside d q (Del table key) free e = cc

pub looks_inside : (d : Declaration) (steps : List Step) (q : Cell) → AllByRecursion (λ step. refusal d step.op ≡ None) steps → looks_up_key (map (λ a. a.op) (map answered_of steps)) q ≡ true → has_table d.reads q.table ≡ true
looks_inside d steps q inside e =
    let ops : List Op = map (λ (b : Step). b.op) steps in
    let looks : looks_up_key ops q ≡ true = ap (λ l. looks_up_key l q) (sym (steps_ops steps)) ∙ e in
    let found = any_item (λ (o : Numbered Op). looks_up q o.earlier o.item) (numbered ops) looks in
    let all : AllByRecursion (λ op. refusal d op ≡ None) ops = all_mapped (λ op. refusal d op ≡ None) (λ (b : Step). b.op) steps inside in
    covers_inside d q found.0.item (all_contains (λ op. refusal d op ≡ None) ops found.0.item all (numbered_item ops found.0 found.1)) (and_left (covers q found.0.item) (not (list_any (writes_at q) found.0.earlier)) found.2)

-- The least live batch overtakes nobody.
module _ (base : Base) (s : State) (h : IsGuardedState base s) (session : ℕ) (o : Active) (is : active_of s session ≡ Some o) (d : Declaration) (snapshot : List Transaction) (kind : o.kind ≡ IsLive d snapshot) (least : IsLeastFrom o.number s) where
  abbrev i : LiveBatch
  i = batch_of o d snapshot

  stands : IsLiveBatch s.agenda s.moves o.number d snapshot o.steps
  stands = live_stands base s h.structure session o is d snapshot kind

  free : (m : Member) → Contains s.agenda m → IsKnown s.active s.moves m → overtakes s i m ≡ true → ⊥
  free (LiveSlot j) here known e =
      let found = any_item (λ (b : LiveBatch). (b.tx.number == j) && preserves_what_looks i b) (live_batches s) e in
      let b : LiveBatch = found.0 in
      let looks : preserves_what_looks i b ≡ true = and_right (b.tx.number == j) (preserves_what_looks i b) found.2 in
      let less : b.tx.number < o.number = ltb-true b.tx.number o.number
      (and_left (nat_lt b.tx.number o.number) (list_any (λ op. has_table b.declared.writes (table_of op) && looks_into_table (batch_operations i) (table_of op)) (batch_operations i)) looks) in
      let active : IsOpenBatch s b = open_batch s b found.1 in
      let live : IsLiveKind active.active.kind = subst IsLiveKind (sym active.kind) tt in
      let from : o.number ≤ active.active.number = all_contains (λ u. IsLiveKind u.kind → o.number ≤ u.number) s.active active.active least.lives active.here live in
      let same : active.active.number ≡ b.tx.number = ap (λ (t : Transaction). t.number) active.tx in
      let none : ⊥ = omega arith in none
  free (Committed t) here known e =
      let ahead : committed_ahead s i t ≡ true = and_left (committed_ahead s i t) (writes_what_looks i t) e in
      let after : commits_after s.moves o.number t.number ≡ true = and_left (commits_after s.moves o.number t.number) (is_member (part_before o.number s.agenda) t.number) ahead in
      let before : is_member (part_before o.number s.agenda) t.number ≡ true = and_right (commits_after s.moves o.number t.number) (is_member (part_before o.number s.agenda) t.number) ahead in
      let move = any_item (λ (m : Timed). commits_batch t.number m.move) (moves_since o.number s.moves) after in
      let by_move = all_contains (CommitsFrom o.number s.moves) (moves_since o.number s.moves) move.0 least.commits move.1 t.number move.2 in
      let from : o.number ≤ t.number = by_move.0 in
      let slotted : has_slot s.moves t.number ≡ true = by_move.1 in
      let apart : o.number ≢ t.number = all_find (λ (u : Active). u.number ≢ t.number) (is_of session) s.active o known is in
      let less : o.number < t.number = omega arith in
      let there : Contains (serial (part_before o.number s.agenda)) t = in_part t here before in
      let unwritten : WritesNone d.reads t = live_unwritten base s h session o is d snapshot kind t there slotted less in
      let found = any_item (λ (w : Write). looks_up_key (batch_operations i) (cell_of_write w)) (writes_of (operations t)) (and_right (committed_ahead s i t) (writes_what_looks i t) e) in
      let w : Write = found.0 in
      let q : Cell = cell_of_write w in
      let writes : writes_key (operations t) q ≡ true = sym (is_written_of q (operations t)) ∙ any_contains (λ (v : Write). same_cell (cell_of_write v) q) (writes_of (operations t)) w found.1 (same_cell_refl q) in
      let reads : has_table d.reads q.table ≡ true = looks_inside d o.steps q stands.inside found.2 in
      true_false (sym reads ∙ unwritten q writes) where
        in_part : (t : Transaction) → Contains s.agenda (Committed t) → is_member (part_before o.number s.agenda) t.number ≡ true → Contains (serial (part_before o.number s.agenda)) t
        in_part t here before =
            let found = any_item (has_number t.number) (part_before o.number s.agenda) before in
            let same : found.0 ≡ Committed t = apart_one s.agenda found.0 (Committed t) (apart_members base s h.structure) (before_contains (has_number o.number) s.agenda found.0 found.1) here (same_number (number_of found.0) t.number found.2) in
            given_here committed_of (part_before o.number s.agenda) (Committed t) t (subst (Contains (part_before o.number s.agenda)) same found.1) refl

  pub least_no_target : target s i ≡ None
  least_no_target = by_target (target s i) refl where
    by_target : (t : Option ℕ) → target s i ≡ t → target s i ≡ None
    by_target None e = e
    by_target (Some p) e = let found = target_found s i p e in
        let here : Contains s.agenda found.0 = find_contains (overtakes s i) s.agenda found.0 found.1 in
        absurd (free found.0 here (all_contains (IsKnown s.active s.moves) s.agenda found.0 h.structure.members.known here) (find_passes (overtakes s i) s.agenda found.0 found.1))

-- a number that is above each slotted one has no slot
not_before : (n : ℕ) (s : State) → ((k : ℕ) → has_slot s.moves k ≡ true → k < n) → has_slot s.moves n ≡ false
not_before n s later = false_from (has_slot s.moves n) (λ e. let less : n < n = later n e in let none : ⊥ = omega arith in none)

-- an open live transaction is a live batch
lives_at : (s : State) (n : ℕ) → ((b : LiveBatch) → Contains (live_batches s) b → n ≤ b.tx.number) → (o : Active) → Contains s.active o → (k : Kind) → o.kind ≡ k → IsLiveKind k → n ≤ o.number
lives_at s n least o here IsShort kind live = absurd live
lives_at s n least o here (IsPending d) kind live = absurd live
lives_at s n least o here (IsLive d snapshot) kind live = least (live_of o d snapshot) (live_here s o d snapshot here kind)

-- a batch that was the least live one when it became live, as long as it is open
was_least_from : (built : State → Line → Bool) (base : Base) (history : List Entry) (n : ℕ) → IsLegalWith built base history → WasLeast base history n → IsLeastFrom n (state base history)
was_least_from built base history n legal w =
    let s0 : State = state base w.before in
    let whole : IsLegalWith built base (w.before ++ w.entry ∷ w.later) = subst (IsLegalWith built base) w.parts legal in
    let parts = legal-parts built (first_state base) w.before (w.entry ∷ w.later) whole in
    let first = legal-first built s0 w.entry w.later parts.1 in
    let s1 : State = after s0 w.entry in
    let next : state base (w.before ++ w.entry ∷ []) ≡ s1 = state-push (first_state base) w.before w.entry in
    let inv0 : Structure base s0 = structure_of built base w.before parts.0 in
    let inv1 : Structure base s1 = structure_after built base s0 w.entry inv0 first.0 in
    let waits : IsPendingBatch s0.agenda s0.moves w.pending.number w.pending.steps
    = subst (λ k. StandsAs s0.agenda s0.moves k w.pending.number w.pending.steps) w.kind (all_contains (Stands s0.agenda s0.moves) s0.active w.pending inv0.stands w.waited) in
    let unslotted : has_slot s0.moves n ≡ false = subst (λ k. has_slot s0.moves k ≡ false) w.number (not_before w.pending.number s0 waits.later) in
    let live : Contains (live_batches s1) w.batch = subst (λ t. Contains (live_batches t) w.batch) next w.live in
    let slot : has_slot s1.moves n ≡ true = subst (λ k. has_slot s1.moves k ≡ true) w.same (batch_stands base s1 inv1 w.batch (open_batch s1 w.batch live)).slotted in
    let start : IsLeastFrom n s1 = record {
      slotted = slot;
      lives = all_from (λ o. IsLiveKind o.kind → n ≤ o.number) s1.active (λ o here live. lives_at s1 n (λ b at. w.least b (subst (λ t. Contains (live_batches t) b) (sym next) at)) o here o.kind refl live);
      commits = all_map IsUncommitting (CommitsFrom n s1.moves) (λ m none j e. absurd (none j e)) (moves_since n s1.moves) (slot_told built n s0 w.entry first.0 unslotted);
    } in
    let done : IsLeastFrom n (state_from s1 w.later) = least_along built base n s1 w.later inv1 start first.1 in
    let joined : state base history ≡ state_from s1 w.later = ap (state base) w.parts ∙ sym (ap (state base) (append_assoc w.before (w.entry ∷ []) w.later)) ∙ state-append (first_state base) (w.before ++ w.entry ∷ []) w.later ∙ ap (λ t. state_from t w.later) next in
    subst (IsLeastFrom n) (sym joined) done

pub least_commits : (built : State → Line → Bool) (base : Base) (history : List Entry) (entry : Entry) → IsSound base → IsLegalWith built base (history ++ entry ∷ []) → (o : Active) (d : Declaration) (snapshot : List Transaction)
    → AsksCommit (state base history) entry o → o.kind ≡ IsLive d snapshot → WasLeast base history o.number → IsCommittedAtHome built (state base history) entry
least_commits built base history entry sound legal o d snapshot c kind w =
    let before : IsLegalWith built base history = before_legal built base history [] entry sound legal in
    home_reply built (state base history) entry o d snapshot (entry_is built base history [] entry sound legal) c kind
    (least_no_target base (state base history) (guarded_of built base history before) c.session o c.opened d snapshot kind (was_least_from built base history o.number before w))
