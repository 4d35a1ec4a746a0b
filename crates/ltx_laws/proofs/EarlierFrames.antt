-- Frames of earlier runs and a front of those of a history: they are lawful one after another, and what they give back together.
use Rattle.std.specs.Prelude.{max}
use Rattle.std.proofs.Common.{◌≡◌, ℕ, ◌≤◌, Bool, true, false, cond, not, List, [], ◌∷◌, ◌++◌, map, Some, None, refl, sym, ap, ◌∙◌, subst, append_assoc, arith}
use Rattle.std.proofs.Math.Nat.{le-max_left, le-max_right, max-le, max-eq_right}
use Rattle.std.specs.List.{AllByRecursion}
use Rattle.ltx_model.specs.declared.commands.Line.{Line}
use Rattle.ltx_model.specs.declared.replies.Entry.{Entry}
use Rattle.ltx_model.specs.declared.rows.StoredRow.{StoredRow}
use Rattle.ltx_model.specs.declared.writes.Write.{Write}
use Rattle.ltx_model.specs.States.{Base, IsSound, State, rows_through}
use Rattle.ltx_model.specs.Histories.{state}
use Rattle.ltx_model.specs.Frames.{LogEvent, SlotEvent, ShortEvent, BatchEvent, Frame}
use Rattle.ltx_model.specs.Answers.{IsLegalWith}
use Rattle.ltx_model.specs.Logs.{frames_of, events_in}
use Rattle.ltx_model.specs.Played.{Played, PlayedSlot, PlayedCommit, number_played, is_played, commit_there, without_played, put_before, after_event, after_events, played_list, rows_after_played, AreLawfulEvents, IsCommitAbove, AreCommitsNew}
use Rattle.ltx_model.specs.Contents.{epoch_after}
use Rattle.ltx_model.specs.Recovery.{AreLawfulMoves, AreLawfulFrames, number_of_event, greatest_number, recovered}
use Rattle.ltx_lemmas.proofs.Lists.{all_push, all_filter, all_from}
use Rattle.ltx_laws.proofs.FollowingFrames.{rows_append}
use Rattle.ltx_laws.proofs.FrameFronts.{front_rows, front_new, front_follows, front_lawful}
use Rattle.ltx_laws.proofs.NextBases.{greatest_of}

events_join : (xs ys : List Frame) → events_in (xs ++ ys) ≡ events_in xs ++ events_in ys
events_join [] ys = refl
events_join (f ∷ xs) ys = ap (λ l. f.events ++ l) (events_join xs ys) ∙ sym (append_assoc f.events (events_in xs) (events_in ys))

after_join : (ps : List Played) (es fs : List LogEvent) → after_events ps (es ++ fs) ≡ after_events (after_events ps es) fs
after_join ps [] fs = refl
after_join ps (e ∷ es) fs = after_join (after_event ps e) es fs

epoch_join : (before : ℕ) (xs ys : List Frame) → epoch_after before (xs ++ ys) ≡ epoch_after (epoch_after before xs) ys
epoch_join before [] ys = refl
epoch_join before (f ∷ xs) ys = epoch_join f.epoch xs ys

max_assoc : (a b c : ℕ) → max a (max b c) ≡ max (max a b) c
max_assoc a b c =
    let h1 : a ≤ max a b = le-max_left a b in
    let h2 : b ≤ max a b = le-max_right a b in
    let h3 : max a b ≤ max (max a b) c = le-max_left (max a b) c in
    let h4 : c ≤ max (max a b) c = le-max_right (max a b) c in
    let h5 : b ≤ max b c = le-max_left b c in
    let h6 : c ≤ max b c = le-max_right b c in
    let h7 : a ≤ max a (max b c) = le-max_left a (max b c) in
    let h8 : max b c ≤ max a (max b c) = le-max_right a (max b c) in
    let a1 : a ≤ max (max a b) c = omega (arith, h1, h3) in
    let b1 : b ≤ max (max a b) c = omega (arith, h2, h3) in
    let b2 : b ≤ max a (max b c) = omega (arith, h5, h8) in
    let c2 : c ≤ max a (max b c) = omega (arith, h6, h8) in
    let up : max a (max b c) ≤ max (max a b) c = max-le a1 (max-le b1 h4) in
    let down : max (max a b) c ≤ max a (max b c) = max-le (max-le h7 b2) c2 in
    omega (arith, up, down)

greatest_join : (es fs : List LogEvent) → greatest_number (es ++ fs) ≡ max (greatest_number es) (greatest_number fs)
greatest_join [] fs = sym (max-eq_right (let h : 0 ≤ greatest_number fs = omega arith in h))
greatest_join (e ∷ es) fs = ap (max (number_of_event e)) (greatest_join es fs) ∙ max_assoc (number_of_event e) (greatest_number es) (greatest_number fs)

-- numbers of played members are at most this one where those of the events are
module _ (last : ℕ) where
  abbrev Under : List Played → Type 0
  Under ps = AllByRecursion (λ p. number_played p ≤ last) ps

  there_under : (n : ℕ) (writes : List Write) (ps : List Played) → n ≤ last → Under ps → Under (map (commit_there n writes) ps)
  there_under n writes [] low all = tt
  there_under n writes (p ∷ ps) low all = (by_test (is_played n p), there_under n writes ps low all.1) where
    by_test : (b : Bool) → number_played (cond b (PlayedCommit n writes) p) ≤ last
    by_test true = low
    by_test false = all.0

  put_under : (x : Played) (target : ℕ) (ps : List Played) → number_played x ≤ last → Under ps → Under (put_before x target ps)
  put_under x target [] low all = tt
  put_under x target (p ∷ ps) low all = by_test (is_played target p) (put_under x target ps low all.1) where
    by_test : (b : Bool) → Under (put_before x target ps) → Under (cond b (x ∷ p ∷ ps) (p ∷ put_before x target ps))
    by_test true rest = (low, all)
    by_test false rest = (all.0, rest)

  event_under : (ps : List Played) (e : LogEvent) → number_of_event e ≤ last → Under ps → Under (after_event ps e)
  event_under ps (SlotEvent n) low all = all_push (λ (p : Played). number_played p ≤ last) ps (PlayedSlot n) all low
  event_under ps (ShortEvent n epoch writes) low all = all_push (λ (p : Played). number_played p ≤ last) ps (PlayedCommit n writes) all low
  event_under ps (BatchEvent n epoch None writes) low all = there_under n writes ps low all
  event_under ps (BatchEvent n epoch (Some target) writes) low all =
      put_under (PlayedCommit n writes) target (without_played n ps) low (all_filter (λ (p : Played). number_played p ≤ last) (λ p. not (is_played n p)) ps all)

  events_under : (ps : List Played) (es : List LogEvent) → AllByRecursion (λ e. number_of_event e ≤ last) es → Under ps → Under (after_events ps es)
  events_under ps [] low all = all
  events_under ps (e ∷ es) low all = events_under (after_event ps e) es low.1 (event_under ps e low.0 all)

-- lawful event by event, and frame by frame
record IsLawfulInTwo (ps : List Played) (es fs : List LogEvent) : Type 0 where
  first : AreLawfulEvents ps es
  second : AreLawfulEvents (after_events ps es) fs

in_two : (ps : List Played) (es fs : List LogEvent) → AreLawfulEvents ps (es ++ fs) → IsLawfulInTwo ps es fs
in_two ps [] fs lawful = record { first = tt; second = lawful }
in_two ps (e ∷ es) fs lawful = let r : IsLawfulInTwo (after_event ps e) es fs = in_two (after_event ps e) es fs lawful.1 in record { first = (lawful.0, r.first); second = r.second }

moves_lawful : (before : ℕ) (ps : List Played) (es : List LogEvent) → AreLawfulEvents ps es → AllByRecursion (IsCommitAbove before) es → AreLawfulMoves before ps es
moves_lawful before ps [] lawful new = tt
moves_lawful before ps (e ∷ es) lawful new = ((lawful.0, new.0), moves_lawful before (after_event ps e) es lawful.1 new.1)

frames_lawful : (before : ℕ) (ps : List Played) (fs : List Frame) → AreLawfulEvents ps (events_in fs) → AreCommitsNew before fs → AreLawfulFrames before ps fs
frames_lawful before ps [] lawful new = tt
frames_lawful before ps (f ∷ fs) lawful new =
    let r : IsLawfulInTwo ps f.events (events_in fs) = in_two ps f.events (events_in fs) lawful in
    (moves_lawful before ps f.events r.first new.0, frames_lawful f.epoch (after_events ps f.events) fs r.second new.1)

frames_join : (before : ℕ) (ps : List Played) (xs ys : List Frame) → AreLawfulFrames before ps xs → AreLawfulFrames (epoch_after before xs) (after_events ps (events_in xs)) ys → AreLawfulFrames before ps (xs ++ ys)
frames_join before ps [] ys a b = b
frames_join before ps (x ∷ xs) ys a b = (a.0, frames_join x.epoch (after_events ps x.events) xs ys a.1 (subst (λ l. AreLawfulFrames (epoch_after x.epoch xs) l ys) (after_join ps x.events (events_in xs)) b))

abbrev base_with : List StoredRow → ℕ → ℕ → ℕ → Base
base_with rows durable last gate = record { rows = rows; durable = durable; last = last; gate = gate }

module _ (built : State → Line → Bool) (base : Base) (history : List Entry) (sound : IsSound base) (legal : IsLegalWith built base history) (earlier : List Frame) (gives : recovered earlier base.gate ≡ base) (front back : List Frame) (parts : frames_of base history ≡ front ++ back) where
  abbrev past : List Played
  past = played_list (events_in earlier)

  rows_there : rows_after_played [] past ≡ base.rows
  unfolding recovered
  rows_there = ap (λ (b : Base). b.rows) gives

  epoch_there : epoch_after 0 earlier ≡ base.durable
  unfolding recovered
  epoch_there = ap (λ (b : Base). b.durable) gives

  last_there : greatest_number (events_in earlier) ≡ base.last
  unfolding recovered
  last_there = ap (λ (b : Base). b.last) gives

  under : AllByRecursion (λ p. number_played p ≤ base.last) past
  under = events_under base.last [] (events_in earlier)
      (all_from (λ (e : LogEvent). number_of_event e ≤ base.last) (events_in earlier) (λ e c. subst (λ k. number_of_event e ≤ k) last_there (greatest_of (events_in earlier) e c))) tt

  pub all_lawful : AreLawfulFrames 0 [] earlier → AreLawfulFrames 0 [] (earlier ++ front)
  all_lawful lawful = frames_join 0 [] earlier front lawful (subst (λ k. AreLawfulFrames k past front) (sym epoch_there)
      (frames_lawful base.durable past front (front_lawful built base history sound legal front back parts past under) (front_new built base history sound legal front back parts)))

  all_played : played_list (events_in (earlier ++ front)) ≡ past ++ played_list (events_in front)
  all_played = ap played_list (events_join earlier front) ∙ after_join [] (events_in earlier) (events_in front) ∙ front_follows built base history sound legal front back parts past under

  all_rows : rows_after_played [] (played_list (events_in (earlier ++ front))) ≡ rows_through (state base history) (epoch_after base.durable front)
  all_rows = ap (rows_after_played []) all_played ∙ rows_append [] past (played_list (events_in front)) ∙ ap (λ r. rows_after_played r (played_list (events_in front))) rows_there ∙ front_rows built base history sound legal front back parts

  pub all_recovered : (gate : ℕ) → recovered (earlier ++ front) gate ≡ record {
    rows = rows_through (state base history) (epoch_after base.durable front);
    durable = epoch_after base.durable front;
    last = max base.last (greatest_number (events_in front));
    gate = gate;
  }
  unfolding recovered
  all_recovered gate =
      let d : ℕ = epoch_after 0 (earlier ++ front) in
      let l : ℕ = greatest_number (events_in (earlier ++ front)) in
      let epoch_is : d ≡ epoch_after base.durable front = epoch_join 0 earlier front ∙ ap (λ k. epoch_after k front) epoch_there in
      let last_is : l ≡ max base.last (greatest_number (events_in front)) =
      ap greatest_number (events_join earlier front) ∙ greatest_join (events_in earlier) (events_in front) ∙ ap (λ k. max k (greatest_number (events_in front))) last_there in
      ap (λ r. base_with r d l gate) all_rows ∙ ap (λ k. base_with (rows_through (state base history) (epoch_after base.durable front)) k l gate) epoch_is
      ∙ ap (λ k. base_with (rows_through (state base history) (epoch_after base.durable front)) (epoch_after base.durable front) k gate) last_is
