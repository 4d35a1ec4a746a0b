-- The structure holds in every state that a legal history leads to.
use Rattle.std.proofs.Common.{◌≡◌, ◌≢◌, ℕ, Bool, true, false, List, [], Some, refl, sym, subst, le_refl, ◌+◌}
use Rattle.std.proofs.lemmas.List.Sorted.{IsPermutation-refl}
use Rattle.ltx_model.specs.declared.commands.Line.{Line}
use Rattle.ltx_model.specs.declared.replies.Entry.{Entry}
use Rattle.ltx_model.specs.Operations.{Transaction}
use Rattle.ltx_model.specs.Agenda.{Member, LiveSlot, Committed, number_of, has_number, is_member, part_before}
use Rattle.ltx_model.specs.States.{Declaration, Kind, IsShort, IsPending, IsLive, Active, Base, State, first_state, is_of, active_of}
use Rattle.ltx_model.specs.Histories.{closed, left, ended, after, state, state_from}
use Rattle.ltx_model.specs.Batches.{target}
use Rattle.ltx_model.specs.Answers.{staged, IsLegalFrom, IsLegalWith}
use Rattle.ltx_laws.specs.Structure.{is_forwarded, IsKnown, IsSlotOfLive, StandsAs, Stands, IsOpenShort, IsLiveBatch, Structure}
use Rattle.ltx_lemmas.proofs.Lists.{all_find, all_contains, any_item}
use Rattle.ltx_laws.proofs.Pairs.{same_number}
use Rattle.ltx_laws.proofs.Transitions.{Cases, live_of, entry_case, along}
use Rattle.ltx_laws.proofs.Targets.{target_ahead}
use Rattle.ltx_laws.proofs.StructureMoves.{closed_structure, short_structure, home_structure, leave_structure, before_structure}
use Rattle.ltx_laws.proofs.StructureOpens.{begun_short_structure, begun_batch_structure, answered_short_structure, answered_batch_structure, durable_structure}
use Rattle.ltx_laws.proofs.StructureSlots.{advanced_structure}

module _ (base : Base) (s : State) (inv : Structure base s) (session : ℕ) (o : Active) (is : active_of s session ≡ Some o) where
  pub stands_of : (kind : Kind) → o.kind ≡ kind → StandsAs s.agenda s.moves kind o.number o.steps
  stands_of kind e = subst (λ k. StandsAs s.agenda s.moves k o.number o.steps) e (all_find (Stands s.agenda s.moves) (is_of session) s.active o inv.stands is)

  -- an open transaction that is a member is a live slot's
  pub slot_of : is_member s.agenda o.number ≡ true → IsSlotOfLive s.active s.moves o.number
  slot_of member =
      let found = any_item (has_number o.number) s.agenda member in
      by_member found.0 (all_contains (IsKnown s.active s.moves) s.agenda found.0 inv.members.known found.1) (same_number (number_of found.0) o.number found.2) where
        by_member : (m : Member) → IsKnown s.active s.moves m → number_of m ≡ o.number → IsSlotOfLive s.active s.moves o.number
        by_member (LiveSlot n) known e = subst (IsSlotOfLive s.active s.moves) e known
        by_member (Committed t) known e = absurd (all_find (λ (u : Active). u.number ≢ t.number) (is_of session) s.active o known is (sym e))

  module _ (d : Declaration) (snapshot : List Transaction) (kind : o.kind ≡ IsLive d snapshot) where
    pub live_stands : IsLiveBatch s.agenda s.moves o.number d snapshot o.steps
    live_stands = stands_of (IsLive d snapshot) kind

    pub live_unforwarded : is_forwarded s.moves o.number ≡ false
    live_unforwarded = (slot_of live_stands.member).unforwarded

    -- the target of a live batch stands before it
    pub live_target_ahead : (p : ℕ) → target s (live_of o d snapshot) ≡ Some p → is_member (part_before o.number s.agenda) p ≡ true
    live_target_ahead p e = target_ahead base s inv (live_of o d snapshot) live_stands.slotted live_stands.member live_unforwarded p e

  ended_as : (kind : Kind) → o.kind ≡ kind → Structure base (left (closed s session) kind o.number)
  ended_as IsShort e = closed_structure base s session o inv is (stands_of IsShort e).fresh
  ended_as (IsPending d) e = closed_structure base s session o inv is (stands_of (IsPending d) e).fresh
  ended_as (IsLive d snapshot) e = leave_structure base s session o inv is (live_stands d snapshot e).member (live_stands d snapshot e).slotted

  pub ended_structure : Structure base (ended s o session)
  ended_structure = ended_as o.kind refl

-- the structure, case by case
pub structure_cases : (base : Base) (s : State) → Structure base s → Cases s (λ line reply s'. Structure base s')
structure_cases base s inv = record {
  nothing = λ line reply e. inv;
  begins_short = λ session none. begun_short_structure base s inv session none;
  begins_long = λ session writes reads none. begun_batch_structure base s inv (record { writes = writes; reads = reads; from = s.epoch + 1 }) session none;
  answers_short = λ session op o reply is kind held sees answers. answered_short_structure base s inv op reply session o is kind;
  answers_batch = λ session op o d snapshot reply is kind inside sees answers. answered_batch_structure base s inv op reply session o d snapshot is kind inside;
  commits_short = λ session o is kind held unchanged. let h : IsOpenShort s.agenda s.moves o.number = stands_of base s inv session o is IsShort kind in short_structure base s session o inv is h.fresh h.unslotted;
  commits_home = λ session o d snapshot is kind none. let h : IsLiveBatch s.agenda s.moves o.number d snapshot o.steps = live_stands base s inv session o is d snapshot kind in home_structure base s session o inv is h.member h.slotted;
  commits_before = λ session o d snapshot p is kind t witness reader. let h : IsLiveBatch s.agenda s.moves o.number d snapshot o.steps = live_stands base s inv session o is d snapshot kind in
      before_structure base s session o inv is h.member h.slotted p (live_target_ahead base s inv session o is d snapshot kind p t);
  ends = λ session verb reply o is e. ended_structure base s inv session o is;
  advances = advanced_structure base s (s.epoch + 1) inv;
  flushes = λ epoch which. durable_structure base s inv epoch;
}

pub structure_after : (built : State → Line → Bool) (base : Base) (s : State) (entry : Entry) → Structure base s → entry.reply ≡ staged built s entry.line → Structure base (after s entry)
structure_after built base s entry inv is = entry_case s (λ line reply s'. Structure base s') (structure_cases base s inv) built entry is

pub first_structure : (base : Base) → Structure base (first_state base)
first_structure base = record {
  rows = refl;
  last = le_refl base.last;
  opens = record { above = tt; bound = tt; rising = tt; sessions = tt };
  slots = record { bound = λ n e. absurd (let none : ⊥ = cc in none); forwarded = λ n e. absurd (let none : ⊥ = cc in none) };
  moves = refl;
  members = record { above = tt; bound = tt; known = tt };
  order = tt;
  stands = tt;
  committed = IsPermutation-refl [];
}

pub structure_along : (built : State → Line → Bool) (base : Base) (s : State) (history : List Entry) → Structure base s → IsLegalFrom built s history → Structure base (state_from s history)
structure_along built base s history inv legal = along built (Structure base) (structure_cases base) s history inv legal

pub structure_of : (built : State → Line → Bool) (base : Base) (history : List Entry) → IsLegalWith built base history → Structure base (state base history)
structure_of built base history legal = structure_along built base (first_state base) history (first_structure base) legal
