-- The serial order explains each legal history.
use Rattle.std.proofs.Common.{◌≡◌, ℕ, ◌+◌, true, false, ◌==◌, List, [], ◌∷◌, map, Some, refl, sym, subst, IsPermutation}
use Rattle.std.proofs.lemmas.Bool.{or_parts, or_from}
use Rattle.std.specs.List.{list_any, Contains}
use Rattle.ltx_model.specs.declared.replies.Entry.{Entry}
use Rattle.ltx_model.specs.Tables.{has_table}
use Rattle.ltx_model.specs.Operations.{Transaction, operations, looks_into_table}
use Rattle.ltx_model.specs.Agenda.{Member, LiveSlot, Committed, is_member, serial, part_from, commits_of}
use Rattle.ltx_model.specs.States.{Declaration, IsShort, IsPending, IsLive, Active, Base, IsSound, State, active_of, order}
use Rattle.ltx_model.specs.Batches.{target}
use Rattle.ltx_model.specs.Explained.{IsDistinct, IsExplained, committed_in}
use Rattle.ltx_lemmas.specs.Places.{is_before, AreApart}
use Rattle.ltx_lemmas.proofs.Lists.{all_contains}
use Rattle.ltx_lemmas.proofs.Members.{apart_tail}
use Rattle.ltx_laws.specs.Structure.{IsKnown, IsSlotOfLive, Structure}
use Rattle.ltx_laws.proofs.Transitions.{Cases, live_of}
use Rattle.ltx_laws.proofs.Targets.{target_ahead}
use Rattle.ltx_laws.proofs.ReadsKept.{Reads, agenda_apart, live_batch, live_slot, begun_reads, short_reads, batch_reads, ended_reads, advanced_reads, durable_reads}
use Rattle.ltx_laws.proofs.ExplainedCommits.{short_placed, home_placed, before_placed}

-- No committed transaction that stands after an open live batch looks into a table that the batch preserves.
abbrev pub IsUnread : State → Type 0
IsUnread s = (session : ℕ) (o : Active) (d : Declaration) (snapshot : List Transaction) → active_of s session ≡ Some o → o.kind ≡ IsLive d snapshot
    → (t : Transaction) → Contains (serial (part_from o.number s.agenda)) t → (table : ℕ) → has_table d.writes table ≡ true → looks_into_table (operations t) table ≡ false

-- The target of an open live batch stands before it.
abbrev pub AreAhead : State → Type 0
AreAhead s = (session : ℕ) (o : Active) (d : Declaration) (snapshot : List Transaction) (p : ℕ) → active_of s session ≡ Some o → o.kind ≡ IsLive d snapshot → target s (live_of o d snapshot) ≡ Some p → is_before s.agenda p o.number ≡ true

pub are_ahead : (base : Base) (s : State) → Structure base s → AreAhead s
are_ahead base s structure session o d snapshot p is kind aim =
    let live = live_batch base s structure session o d snapshot is kind in
    let slot : IsSlotOfLive s.active s.moves o.number = all_contains (IsKnown s.active s.moves) s.agenda (LiveSlot o.number) structure.members.known (live_slot base s structure session o d snapshot is kind) in
    target_ahead base s structure (live_of o d snapshot) live.slotted live.member slot.unforwarded p aim

-- what each entry of a legal history leaves
pub reads_cases : (base : Base) (s : State) → IsSound base → Structure base s → IsUnread s → AreAhead s → Reads base.rows s → Cases s (λ line reply after. Reads base.rows after)
reads_cases base s sound structure unread ahead r = record {
  nothing = λ line reply leaves. r;
  begins_short = λ session none. begun_reads base s structure base.rows IsShort (s.last + 1) session (record { rising = tt; sourced = tt; seen = tt }) r;
  begins_long = λ session writes reads none. begun_reads base s structure base.rows (IsPending (record { writes = writes; reads = reads; from = s.epoch + 1 })) (s.last + 1) session refl r;
  answers_short = λ session op o reply is kind free sees answers. short_reads base s structure session op o reply sound is kind sees r;
  answers_batch = λ session op o d snapshot reply is kind free sees answers. batch_reads base s structure session op o d snapshot reply is kind sees r;
  commits_short = λ session o is kind free unchanged. short_placed base s structure sound r session o is kind unchanged;
  commits_home = λ session o d snapshot is kind none. home_placed base s structure sound r session o is d snapshot kind (unread session o d snapshot is kind) none;
  commits_before = λ session o d snapshot p is kind aim free elder. before_placed base s structure sound r session o is d snapshot kind p aim (ahead session o d snapshot p is kind aim) free;
  ends = λ session verb reply o is ends. ended_reads base s structure base.rows session o is r;
  advances = advanced_reads base.rows s (s.epoch + 1) r;
  flushes = λ epoch which. durable_reads base.rows s epoch r;
}

-- the numbers of the order are those of members, and so no two are one
serial_any : (ms : List Member) (n : ℕ) → is_member ms n ≡ false → list_any (λ y. y == n) (map (λ t. t.number) (serial ms)) ≡ false
serial_any [] n new = refl
serial_any (LiveSlot k ∷ ms) n new = serial_any ms n (or_parts (k == n) (is_member ms n) new).1
serial_any (Committed t ∷ ms) n new = let both = or_parts (t.number == n) (is_member ms n) new in or_from (t.number == n) (list_any (λ y. y == n) (map (λ u. u.number) (serial ms))) both.0 (serial_any ms n both.1)

pub serial_distinct : (ms : List Member) → AreApart ms → IsDistinct (map (λ t. t.number) (serial ms))
serial_distinct [] apart = tt
serial_distinct (LiveSlot k ∷ ms) apart = serial_distinct ms (apart_tail (LiveSlot k) ms apart).1
serial_distinct (Committed t ∷ ms) apart = let tail = apart_tail (Committed t) ms apart in (serial_any ms t.number tail.0, serial_distinct ms tail.1)

pub explained_by : (base : Base) (history : List Entry) (s : State) → Structure base s → committed_in history ≡ commits_of s.moves → Reads base.rows s → IsExplained base history (order s)
explained_by base history s structure commits r = record {
  run = serial s.agenda;
  numbers = refl;
  distinct = serial_distinct s.agenda (agenda_apart s.moves s.agenda structure.order);
  members = subst (λ l. IsPermutation l (serial s.agenda)) (sym commits) structure.committed;
  replies = r.explained;
}
