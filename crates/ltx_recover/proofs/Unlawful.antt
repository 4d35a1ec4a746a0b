-- The first event that is not lawful: what the test says of it and of those before, and what a frame that was played leaves to test.
use Rattle.std.proofs.Common.{◌≡◌, ℕ, zero, suc, ◌+◌, ◌<◌, Bool, true, false, not, ◌&&◌, ◌||◌, nat_lt, ◌==◌, if◌then◌else◌, max, List, [], ◌∷◌, ◌++◌, length, get_or, Option, Some, None, refl, sym, ap, ◌∙◌, subst, arith, option_map}
use Rattle.std.specs.List.{list_any, Contains}
use Rattle.std.proofs.lemmas.Bool.{eqb-true, eq-eqb, both_ways, or_right}
use Rattle.std.proofs.lemmas.Bool.Decides.{nat_tests}
use Rattle.std.proofs.lemmas.Option.{none-some, same_Some}
use Rattle.ltx_model.specs.Lists.{or_else}
use Rattle.ltx_model.specs.Frames.{LogEvent, SlotEvent, ShortEvent, BatchEvent, Frame}
use Rattle.ltx_model.specs.Logs.{events_in}
use Rattle.ltx_model.specs.Contents.{Placed, frames_in, epoch_after}
use Rattle.ltx_model.specs.Played.{Played, PlayedSlot, PlayedCommit, after_event, after_events, IsTargetPlayed}
use Rattle.ltx_model.specs.Recovery.{IsLawfulMove, AreLawfulMoves, AreLawfulFrames, is_played_slot, is_target_played, is_lawful_move, Unlawful, unlawful_in, unlawful_from, first_unlawful, IsFirstUnlawful, greatest_number}

-- ---- the test of one event

slot_contained : (n : ℕ) (ps : List Played) → list_any (is_played_slot n) ps ≡ true → Contains ps (PlayedSlot n)
slot_contained n [] e = absurd (let no : ⊥ = both_ways false refl e in no)
slot_contained n (PlayedSlot m ∷ ps) e = by_test (m == n) refl e (slot_contained n ps) where
  by_test : (b : Bool) → (m == n) ≡ b → (b || list_any (is_played_slot n) ps) ≡ true → (list_any (is_played_slot n) ps ≡ true → Contains ps (PlayedSlot n)) → Contains (PlayedSlot m ∷ ps) (PlayedSlot n)
  by_test true is h rest = (0, omega arith, ap PlayedSlot (eqb-true m n is))
  by_test false is h rest = let found = rest h in (suc found.0, omega (arith, found.1), found.2)
slot_contained n (PlayedCommit m ws ∷ ps) e = let found = slot_contained n ps e in (suc found.0, omega (arith, found.1), found.2)

slot_found : (n : ℕ) (ps : List Played) → Contains ps (PlayedSlot n) → list_any (is_played_slot n) ps ≡ true
slot_found n ps found = at found.0 ps found.1 found.2 where
  at : (k : ℕ) (ps : List Played) → k < length ps → get_or ps k (PlayedSlot n) ≡ PlayedSlot n → list_any (is_played_slot n) ps ≡ true
  at k [] within is = absurd (omega arith)
  at zero (p ∷ ps) within is = ap (λ q. is_played_slot n q || list_any (is_played_slot n) ps) is ∙ ap (λ b. b || list_any (is_played_slot n) ps) (eq-eqb n n refl)
  at (suc k) (p ∷ ps) within is = or_right (is_played_slot n p) (list_any (is_played_slot n) ps) (at k ps (omega arith) is)

both : (a b : Bool) → (a && b) ≡ true → (a ≡ true) × (b ≡ true)
both true b e = (refl, e)
both false b e = cc

together : (a b : Bool) → a ≡ true → b ≡ true → (a && b) ≡ true
together true b e f = f
together false b e f = cc

turned : (a : Bool) → not a ≡ true → a ≡ false
turned true e = cc
turned false e = refl

below : (m n : ℕ) → nat_lt m n ≡ true → m < n
below m n e = grind (arith, nat_tests)

is_below : (m n : ℕ) → m < n → nat_lt m n ≡ true
is_below m n less = grind (arith, nat_tests)

target_from : (ps : List Played) (n : ℕ) (target : Option ℕ) → is_target_played ps n target ≡ true → IsTargetPlayed ps n target
target_from ps n None e = tt
target_from ps n (Some t) e = e

target_tested : (ps : List Played) (n : ℕ) (target : Option ℕ) → IsTargetPlayed ps n target → is_target_played ps n target ≡ true
target_tested ps n None h = refl
target_tested ps n (Some t) h = h

pub lawful_from : (before : ℕ) (ps : List Played) (e : LogEvent) → is_lawful_move before ps e ≡ true → IsLawfulMove before ps e
lawful_from before ps (SlotEvent n) e = (turned _ e, tt)
lawful_from before ps (ShortEvent n epoch ws) e = let parts = both _ _ e in (turned _ parts.0, below before epoch parts.1)
lawful_from before ps (BatchEvent n epoch target ws) e =
    let parts = both (list_any (is_played_slot n) ps && is_target_played ps n target) (nat_lt before epoch) e in
    let first = both (list_any (is_played_slot n) ps) (is_target_played ps n target) parts.0 in
    ((slot_contained n ps first.0, target_from ps n target first.1), below before epoch parts.1)

pub lawful_tested : (before : ℕ) (ps : List Played) (e : LogEvent) → IsLawfulMove before ps e → is_lawful_move before ps e ≡ true
lawful_tested before ps (SlotEvent n) h = ap not h.0
lawful_tested before ps (ShortEvent n epoch ws) h = together _ _ (ap not h.0) (is_below before epoch h.1)
lawful_tested before ps (BatchEvent n epoch target ws) h =
    together (list_any (is_played_slot n) ps && is_target_played ps n target) (nat_lt before epoch)
    (together (list_any (is_played_slot n) ps) (is_target_played ps n target) (slot_found n ps h.0.0) (target_tested ps n target h.0.1)) (is_below before epoch h.1)

-- ---- the events of one frame

all_lawful : (before : ℕ) (ps : List Played) (k : ℕ) (es : List LogEvent) → unlawful_in before ps k es ≡ None → AreLawfulMoves before ps es
all_lawful before ps k [] none = tt
all_lawful before ps k (e ∷ es) none = by_test (is_lawful_move before ps e) refl none (all_lawful before (after_event ps e) (k + 1) es) where
  by_test : (b : Bool) → is_lawful_move before ps e ≡ b → (if b then unlawful_in before (after_event ps e) (k + 1) es else Some k) ≡ None → (unlawful_in before (after_event ps e) (k + 1) es ≡ None → AreLawfulMoves before (after_event ps e) es)
      → AreLawfulMoves before ps (e ∷ es)
  by_test true is h rest = (lawful_from before ps e is, rest h)
  by_test false is h rest = absurd (none-some k (sym h))

-- An event of these with lawful ones before it is not lawful.
record IsFirstIn (before : ℕ) (ps : List Played) (k : ℕ) (es : List LogEvent) (n : ℕ) : Type 0 where
  earlier : List LogEvent
  event : LogEvent
  later : List LogEvent
  parts : es ≡ earlier ++ event ∷ later
  number : k + length earlier ≡ n
  lawful : AreLawfulMoves before ps earlier
  unlawful : IsLawfulMove before (after_events ps earlier) event → ⊥

first_in : (before : ℕ) (ps : List Played) (k : ℕ) (es : List LogEvent) (n : ℕ) → unlawful_in before ps k es ≡ Some n → IsFirstIn before ps k es n
first_in before ps k [] n is = absurd (none-some n is)
first_in before ps k (e ∷ es) n is = by_test (is_lawful_move before ps e) refl is (first_in before (after_event ps e) (k + 1) es n) where
  by_test : (b : Bool) → is_lawful_move before ps e ≡ b → (if b then unlawful_in before (after_event ps e) (k + 1) es else Some k) ≡ Some n → (unlawful_in before (after_event ps e) (k + 1) es ≡ Some n → IsFirstIn before (after_event ps e) (k + 1) es n)
      → IsFirstIn before ps k (e ∷ es) n
  by_test true lawful h rest =
      let found = rest h in
      record {
        earlier = e ∷ found.earlier;
        event = found.event;
        later = found.later;
        parts = ap (λ l. e ∷ l) found.parts;
        number = omega (arith, found.number);
        lawful = (lawful_from before ps e lawful, found.lawful);
        unlawful = found.unlawful;
      }
  by_test false unlawful h rest = record {
    earlier = [];
    event = e;
    later = es;
    parts = refl;
    number = let same : k ≡ n = same_Some _ _ h in omega arith;
    lawful = tt;
    unlawful = λ lawful. let no : ⊥ = both_ways (is_lawful_move before ps e) unlawful (lawful_tested before ps e lawful) in no;
  }

-- ---- frames

pub after_join : (ps : List Played) (xs ys : List LogEvent) → after_events ps (xs ++ ys) ≡ after_events (after_events ps xs) ys
after_join ps [] ys = refl
after_join ps (x ∷ xs) ys = after_join (after_event ps x) xs ys

pub frame_passes : (before : ℕ) (ps new : List Played) (p : Placed) (fs : List Placed) → unlawful_in before ps 0 p.frame.events ≡ None → new ≡ after_events ps p.frame.events → unlawful_from before ps (p ∷ fs) ≡ unlawful_from p.frame.epoch new fs
frame_passes before ps new p fs none is = rw none (ap (λ l. unlawful_from p.frame.epoch l fs) (sym is))

pub frame_fails : (before : ℕ) (ps : List Played) (p : Placed) (fs : List Placed) (k : ℕ) → unlawful_in before ps 0 p.frame.events ≡ Some k → unlawful_from before ps (p ∷ fs) ≡ Some (record { at = p.at; event = k })
frame_fails before ps p fs k is = rw is refl

pub frame_events : (ps new : List Played) (f : Frame) (fs : List Frame) → new ≡ after_events ps f.events → after_events ps (events_in (f ∷ fs)) ≡ after_events new (events_in fs)
frame_events ps new f fs is = after_join ps f.events (events_in fs) ∙ ap (λ l. after_events l (events_in fs)) (sym is)

frames_lawful : (before : ℕ) (ps : List Played) (fs : List Placed) → unlawful_from before ps fs ≡ None → AreLawfulFrames before ps (frames_in fs)
frames_lawful before ps [] none = tt
frames_lawful before ps (p ∷ fs) none = by_first (unlawful_in before ps 0 p.frame.events) refl none (frames_lawful p.frame.epoch (after_events ps p.frame.events) fs) where
  by_first : (o : Option ℕ) → unlawful_in before ps 0 p.frame.events ≡ o → or_else (option_map (λ k. record { at = p.at; event = k }) o) (unlawful_from p.frame.epoch (after_events ps p.frame.events) fs) ≡ None
      → (unlawful_from p.frame.epoch (after_events ps p.frame.events) fs ≡ None → AreLawfulFrames p.frame.epoch (after_events ps p.frame.events) (frames_in fs)) → AreLawfulFrames before ps (frames_in (p ∷ fs))
  by_first None is h rest = (all_lawful before ps 0 p.frame.events is, rest h)
  by_first (Some k) is h rest = absurd (none-some _ (sym h))

pub lawful_when_none : (fs : List Placed) → first_unlawful fs ≡ None → AreLawfulFrames 0 [] (frames_in fs)
unfolding first_unlawful
lawful_when_none fs none = frames_lawful 0 [] fs none

-- A frame with lawful ones before it has the first event that is not lawful.
record IsFirstFrom (before : ℕ) (ps : List Played) (fs : List Placed) (u : Unlawful) : Type 0 where
  front : List Placed
  placed : Placed
  back : List Placed
  parts : fs ≡ front ++ placed ∷ back
  at : placed.at ≡ u.at
  lawful : AreLawfulFrames before ps (frames_in front)
  first : IsFirstIn (epoch_after before (frames_in front)) (after_events ps (events_in (frames_in front))) 0 placed.frame.events u.event

first_from : (before : ℕ) (ps : List Played) (fs : List Placed) (u : Unlawful) → unlawful_from before ps fs ≡ Some u → IsFirstFrom before ps fs u
first_from before ps [] u is = absurd (none-some u is)
first_from before ps (p ∷ fs) u is = by_first (unlawful_in before ps 0 p.frame.events) refl is (first_from p.frame.epoch (after_events ps p.frame.events) fs u) where
  by_first : (o : Option ℕ) → unlawful_in before ps 0 p.frame.events ≡ o → or_else (option_map (λ k. record { at = p.at; event = k }) o) (unlawful_from p.frame.epoch (after_events ps p.frame.events) fs) ≡ Some u
      → (unlawful_from p.frame.epoch (after_events ps p.frame.events) fs ≡ Some u → IsFirstFrom p.frame.epoch (after_events ps p.frame.events) fs u) → IsFirstFrom before ps (p ∷ fs) u
  by_first None none h rest =
      let found = rest h in
      record {
        front = p ∷ found.front;
        placed = found.placed;
        back = found.back;
        parts = ap (λ l. p ∷ l) found.parts;
        at = found.at;
        lawful = (all_lawful before ps 0 p.frame.events none, found.lawful);
        first = subst (λ l. IsFirstIn (epoch_after p.frame.epoch (frames_in found.front)) l 0 found.placed.frame.events u.event) (sym (after_join ps p.frame.events (events_in (frames_in found.front)))) found.first;
      }
  by_first (Some k) some h rest =
      let same : record { at = p.at; event = k } ≡ u = same_Some _ _ h in
      record {
        front = [];
        placed = p;
        back = fs;
        parts = refl;
        at = ap (λ (v : Unlawful). v.at) same;
        lawful = tt;
        first = subst (λ (v : Unlawful). IsFirstIn before ps 0 p.frame.events v.event) same (first_in before ps 0 p.frame.events k some);
      }

pub first_when_some : (fs : List Placed) (u : Unlawful) → first_unlawful fs ≡ Some u → IsFirstUnlawful fs u
unfolding first_unlawful
first_when_some fs u is =
    let found = first_from 0 [] fs u is in
    record {
      front = found.front;
      placed = found.placed;
      back = found.back;
      parts = found.parts;
      at = found.at;
      front_lawful = found.lawful;
      earlier = found.first.earlier;
      event = found.first.event;
      later = found.first.later;
      events = found.first.parts;
      number = let same : 0 + length found.first.earlier ≡ u.event = found.first.number in omega arith;
      earlier_lawful = found.first.lawful;
      unlawful = found.first.unlawful;
    }

pub unlawful_is : (fs : List Placed) → first_unlawful fs ≡ unlawful_from 0 [] fs
unfolding first_unlawful
unlawful_is fs = refl

-- ---- the greatest number

pub greatest_join : (xs ys : List LogEvent) → greatest_number (xs ++ ys) ≡ max (greatest_number xs) (greatest_number ys)
greatest_join [] ys = omega arith
greatest_join (x ∷ xs) ys = let rest = greatest_join xs ys in omega arith

pub greatest_next : (last new : ℕ) (f : Frame) (fs : List Frame) → new ≡ max last (greatest_number f.events) → max new (greatest_number (events_in fs)) ≡ max last (greatest_number (events_in (f ∷ fs)))
greatest_next last new f fs is = let joined = greatest_join f.events (events_in fs) in omega arith
