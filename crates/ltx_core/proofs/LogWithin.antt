-- The numbers of the events that are not durable yet stay within their bounds.
use Rattle.std.proofs.Common.{◌≡◌, ℕ, ◌+◌, ◌-◌, ◌≤◌, Bool, true, false, cond, not, filter, List, [], ◌∷◌, ◌++◌, map, length, refl, sym, ◌∙◌, subst, le_refl, arith}
use Rattle.std.specs.List.{AllByRecursion}
use Rattle.ltx_model.specs.Frames.{LogEvent, SlotEvent, ShortEvent, BatchEvent}
use Rattle.ltx_model.specs.Holders.{Holder}
use Rattle.ltx_model.specs.Played.{IsCommitUpTo}
use Rattle.ltx_events.specs.Kept.{Unsealed}
use Rattle.ltx_lemmas.proofs.Lists.{all_map, all_push, all_append}
use Rattle.ltx_core.specs.Views.{pending, AreEventsWithin}
use Rattle.ltx_core.specs.Logged.{IsSameLog, HasLogged}

-- The same events; there may be more room.
pub record IsRoomed (old new : Unsealed) : Type 0 where
  pub closed : new.closed ≡ old.closed
  pub present : new.present ≡ old.present
  pub last : new.last ≡ old.last
  pub room : old.room ≤ new.room

pub roomed_itself : (events : Unsealed) → IsRoomed events events
roomed_itself events = record { closed = refl; present = refl; last = refl; room = le_refl events.room }

pub roomed_log : (durable : ℕ) (old new : Unsealed) → IsRoomed old new → IsSameLog (record { durable = durable; events = old }) (record { durable = durable; events = new })
roomed_log durable old new same = record { durable = refl; closed = same.closed; present = same.present }

-- one event more, after room was made
pub roomed_event : (durable : ℕ) (old room new : Unsealed) (event made : LogEvent) → IsRoomed old room → event ≡ made → new.closed ≡ room.closed → new.present ≡ room.present ++ event ∷ []
    → HasLogged (record { durable = durable; events = old }) (record { durable = durable; events = new }) made
roomed_event durable old room new event made same is closed present = record {
  durable = refl;
  closed = closed ∙ same.closed;
  present = present ∙ (λ i. same.present i ++ is i ∷ []);
}

-- an event up to an epoch is one up to each later epoch
up_to_later : (a b : ℕ) → a ≤ b → (e : LogEvent) → IsCommitUpTo a e → IsCommitUpTo b e
up_to_later a b less (SlotEvent n) is = tt
up_to_later a b less (ShortEvent n epoch writes) is = let r : epoch ≤ b = omega (arith, less, is) in r
up_to_later a b less (BatchEvent n epoch target writes) is = let r : epoch ≤ b = omega (arith, less, is) in r

slots_up_to : (epoch : ℕ) (ns : List ℕ) → AllByRecursion (IsCommitUpTo epoch) (map SlotEvent ns)
slots_up_to epoch [] = tt
slots_up_to epoch (n ∷ ns) = (tt, slots_up_to epoch ns)

-- the same events, in room for these slots
pub events_same : (epoch slots more : ℕ) (old new : Unsealed) → AreEventsWithin epoch slots old → new.closed ≡ old.closed → new.present ≡ old.present → new.last ≡ old.last → more ≤ new.room → AreEventsWithin epoch more new
events_same epoch slots more old new within closed present last room = record {
  room = room;
  closed = subst (AllByRecursion (IsCommitUpTo (epoch - 1))) (sym closed) within.closed;
  present = subst (AllByRecursion (IsCommitUpTo epoch)) (sym present) within.present;
  last = subst (λ n. n ≤ epoch) (sym last) within.last;
}

pub events_roomed : (epoch slots : ℕ) (old new : Unsealed) → AreEventsWithin epoch slots old → IsRoomed old new → AreEventsWithin epoch slots new
events_roomed epoch slots old new within same =
    let some : slots ≤ old.room = within.room in
    let more : old.room ≤ new.room = same.room in
    events_same epoch slots slots old new within same.closed same.present same.last (let h : slots ≤ new.room = omega arith in h)

pub events_fewer : (epoch slots fewer : ℕ) (events : Unsealed) → AreEventsWithin epoch slots events → fewer ≤ slots → AreEventsWithin epoch fewer events
events_fewer epoch slots fewer events within less =
    let some : slots ≤ events.room = within.room in
    events_same epoch slots fewer events events within refl refl refl (let h : fewer ≤ events.room = omega arith in h)

-- one of the present epoch more
pub events_more : (epoch slots more : ℕ) (old new : Unsealed) (event : LogEvent) → AreEventsWithin epoch slots old → new.closed ≡ old.closed → new.present ≡ old.present ++ event ∷ [] → IsCommitUpTo epoch event → new.last ≡ epoch → more ≤ new.room
    → AreEventsWithin epoch more new
events_more epoch slots more old new event within closed present at last room = record {
  room = room;
  closed = subst (AllByRecursion (IsCommitUpTo (epoch - 1))) (sym closed) within.closed;
  present = subst (AllByRecursion (IsCommitUpTo epoch)) (sym present) (all_push (IsCommitUpTo epoch) old.present event within.present at);
  last = subst (λ n. n ≤ epoch) (sym last) (le_refl epoch);
}

-- those of the present epoch are closed, and the next one has slots
pub events_advanced : (epoch slots more : ℕ) (old new : Unsealed) (ns : List ℕ) → AreEventsWithin epoch slots old → new.closed ≡ old.closed ++ old.present → new.present ≡ map SlotEvent ns → new.last ≡ old.last → more ≤ new.room
    → AreEventsWithin (epoch + 1) more new
events_advanced epoch slots more old new ns within closed present last room =
    let before : epoch - 1 ≤ epoch = omega arith in
    let same : (epoch + 1) - 1 ≡ epoch = omega arith in
    let low : old.last ≤ epoch = within.last in
    record {
      room = room;
      closed = subst (λ e. AllByRecursion (IsCommitUpTo e) new.closed) (sym same)
          (subst (AllByRecursion (IsCommitUpTo epoch)) (sym closed) (all_append (IsCommitUpTo epoch) old.closed old.present (all_map (IsCommitUpTo (epoch - 1)) (IsCommitUpTo epoch) (up_to_later (epoch - 1) epoch before) old.closed within.closed) within.present));
      present = subst (AllByRecursion (IsCommitUpTo (epoch + 1))) (sym present) (slots_up_to (epoch + 1) ns);
      last = subst (λ n. n ≤ epoch + 1) (sym last) (let h : old.last ≤ epoch + 1 = omega arith in h);
    }

-- what was closed is forgotten
pub events_forgotten : (epoch slots : ℕ) (old new : Unsealed) → AreEventsWithin epoch slots old → new.closed ≡ [] → new.present ≡ old.present → new.last ≡ old.last → new.room ≡ old.room → AreEventsWithin epoch slots new
events_forgotten epoch slots old new within closed present last room = record {
  room = subst (λ n. slots ≤ n) (sym room) within.room;
  closed = subst (AllByRecursion (IsCommitUpTo (epoch - 1))) (sym closed) tt;
  present = subst (AllByRecursion (IsCommitUpTo epoch)) (sym present) within.present;
  last = subst (λ n. n ≤ epoch) (sym last) within.last;
}

-- no more batches are pending than there are
pub pending_few : (holders : List Holder) → pending holders ≤ length holders
pending_few [] = omega arith
pending_few (h ∷ hs) = by_live (not h.live) (pending_few hs) where
  by_live : (b : Bool) → pending hs ≤ length hs → length (cond b (h ∷ filter (λ x. not x.live) hs) (filter (λ x. not x.live) hs)) ≤ length (h ∷ hs)
  by_live true few = omega (arith, few)
  by_live false few = omega (arith, few)
