-- The events of closed epochs and those of the present one, as parts of one list.
use Rattle.std.proofs.Common.{◌≡◌, ◌+◌, ◌≤◌, ◌<◌, ◌^◌, ℕ, List, [], ◌∷◌, ◌++◌, length, take, drop, refl, sym, ap, subst, ◌∙◌, arith}
use Rattle.std.proofs.lemmas.List.{map-append, take-append-drop, take-append-le, drop-append-le, take_all, length-drop, length-append, length-map}
use Rattle.std.specs.List.{AllByRecursion}
use Rattle.ltx_model.specs.Played.{IsCommitUpTo}
use Rattle.ltx_frame.specs.declared.event.Event.{Event}
use Rattle.ltx_frame.specs.Events.{event_of, events_of}
use Rattle.ltx_frame.specs.Orders.{epoch_past}
use Rattle.ltx_events.specs.Kept.{IsKept, AreInTime, AreUnsealed}
use Rattle.ltx_events.proofs.InTime.{time_more, time_front, time_back, time_up_to}

pub parts : (es : List Event) (n : ℕ) → events_of (take n es) ++ events_of (drop n es) ≡ events_of es
parts es n = sym (map-append event_of (take n es) (drop n es)) ∙ ap events_of (take-append-drop n es)

pub closed_stays : (es : List Event) (e : Event) (n : ℕ) → n ≤ length es → events_of (take n (es ++ e ∷ [])) ≡ events_of (take n es)
closed_stays es e n le = ap events_of (take-append-le n es (e ∷ []) le)

pub present_more : (es : List Event) (e : Event) (n : ℕ) → n ≤ length es → events_of (drop n (es ++ e ∷ [])) ≡ events_of (drop n es) ++ event_of e ∷ []
present_more es e n le = ap events_of (drop-append-le n es (e ∷ []) le) ∙ map-append event_of (drop n es) (e ∷ [])

pub all_closed : (es : List Event) → events_of (take (length es) es) ≡ events_of es
all_closed es = ap events_of (take_all (length es) es (omega arith))

none_behind : (es : List Event) → drop (length es) es ≡ []
none_behind [] = refl
none_behind (e ∷ es) = none_behind es

pub none_present : (es : List Event) → events_of (drop (length es) es) ≡ []
none_present es = ap events_of (none_behind es)

-- with one more event
pub kept_more : (es : List Event) (e : Event) (capacity closed room less last next : ℕ) → AreUnsealed es capacity closed room last → less + 1 ≡ room → IsKept (event_of e) → last ≤ next
    → next ≡ epoch_past last (event_of e) → AreUnsealed (es ++ e ∷ []) capacity closed less next
kept_more es e capacity closed room less last next is one kept le past =
    let long : length (es ++ e ∷ []) ≡ length es + 1 = length-append es (e ∷ []) in
    record {
      within = omega (arith, is.within, long);
      spare = omega (arith, is.spare, long, one);
      fits = omega (arith, is.fits, long, one);
      time = subst (AreInTime next) (sym (map-append event_of es (e ∷ []))) (time_more last next (events_of es) (event_of e) is.time kept le past);
    }

-- without those of closed epochs
pub kept_behind : (es : List Event) (capacity closed room last : ℕ) → AreUnsealed es capacity closed room last → AreUnsealed (drop closed es) capacity 0 room last
kept_behind es capacity closed room last is =
    let long : length (drop closed es) + closed ≡ length es = omega (arith, length-drop closed es, is.within) in
    record {
      within = omega arith;
      spare = omega (arith, is.spare, long);
      fits = omega (arith, is.fits, long);
      time = time_back last (events_of (take closed es)) (events_of (drop closed es)) (subst (AreInTime last) (sym (parts es closed)) is.time);
    }

-- those of closed epochs are in time up to each epoch that they are up to
pub closed_in_time : (es : List Event) (capacity closed room last epoch : ℕ) → AreUnsealed es capacity closed room last → AllByRecursion (IsCommitUpTo epoch) (events_of (take closed es))
    → AreInTime epoch (events_of (take closed es))
closed_in_time es capacity closed room last epoch is up =
    time_up_to last epoch (events_of (take closed es)) (time_front last (events_of (take closed es)) (events_of (drop closed es)) (subst (AreInTime last) (sym (parts es closed)) is.time)) up

-- as many as there are, and their room
pub kept_fits : (es : List Event) (capacity closed room last : ℕ) → AreUnsealed es capacity closed room last → length (events_of (take closed es) ++ events_of (drop closed es)) + room < 2 ^ 64
kept_fits es capacity closed room last is =
    let many : length (events_of (take closed es) ++ events_of (drop closed es)) ≡ length es = ap (λ l. length l) (parts es closed) ∙ length-map es event_of in
    omega (arith, many, is.fits)
