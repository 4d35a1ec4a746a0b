-- The bytes of an event and of a body, piece by piece, and what a frame says of its events.
use Rattle.std.proofs.Common.{◌≡◌, ℕ, List, [], ◌∷◌, ◌++◌, Option, length, flat_map, sym, ap, ◌∙◌, append_assoc, All}
use Rattle.std.specs.List.{AllByRecursion}
use Rattle.std.specs.Int.{to_be_bytes, w32, w64}
use Rattle.std.proofs.lemmas.List.{length-map}
use Rattle.std.proofs.lemmas.List.Elements.{All-from_recursion}
use Rattle.ltx_model.specs.declared.writes.Write.{Write}
use Rattle.ltx_model.specs.Frames.{LogEvent, ShortEvent, BatchEvent, Frame}
use Rattle.ltx_model.specs.Spellings.{writes_bytes, target_bytes, event_bytes, body_bytes, IsEvent}
use Rattle.ltx_frame.specs.declared.event.Event.{Event}
use Rattle.ltx_frame.specs.Events.{event_of, events_of}

-- three pieces behind what there was
three : (old a b c : List ℕ) → ((old ++ a) ++ b) ++ c ≡ old ++ (a ++ (b ++ c))
three old a b c = append_assoc (old ++ a) b c ∙ append_assoc old a (b ++ c)

four : (old a b c d : List ℕ) → (((old ++ a) ++ b) ++ c) ++ d ≡ old ++ (a ++ (b ++ (c ++ d)))
four old a b c d = append_assoc ((old ++ a) ++ b) c d ∙ three old a b (c ++ d)

pub short_put : (e : LogEvent) (old x y new : List ℕ) (n epoch : ℕ) (writes ws : List Write) → e ≡ ShortEvent n epoch writes → ws ≡ writes → x ≡ old ++ 2 ∷ to_be_bytes w64 n
    → y ≡ x ++ to_be_bytes w32 epoch → new ≡ y ++ writes_bytes ws → new ≡ old ++ event_bytes e
short_put e old x y new n epoch writes ws is same first second third =
    let put : new ≡ ((old ++ 2 ∷ to_be_bytes w64 n) ++ to_be_bytes w32 epoch) ++ writes_bytes writes =
    third ∙ ap (λ l. y ++ writes_bytes l) same ∙ ap (λ l. l ++ writes_bytes writes) (second ∙ ap (λ l. l ++ to_be_bytes w32 epoch) first) in
    put ∙ three old (2 ∷ to_be_bytes w64 n) (to_be_bytes w32 epoch) (writes_bytes writes) ∙ ap (λ k. old ++ event_bytes k) (sym is)

pub batch_put : (e : LogEvent) (old x y z new : List ℕ) (n epoch : ℕ) (target : Option ℕ) (writes ws : List Write) → e ≡ BatchEvent n epoch target writes → ws ≡ writes
    → x ≡ old ++ 3 ∷ to_be_bytes w64 n → y ≡ x ++ to_be_bytes w32 epoch → z ≡ y ++ target_bytes target → new ≡ z ++ writes_bytes ws → new ≡ old ++ event_bytes e
batch_put e old x y z new n epoch target writes ws is same first second third fourth =
    let put : new ≡ (((old ++ 3 ∷ to_be_bytes w64 n) ++ to_be_bytes w32 epoch) ++ target_bytes target) ++ writes_bytes writes =
    fourth ∙ ap (λ l. z ++ writes_bytes l) same
    ∙ ap (λ l. l ++ writes_bytes writes) (third ∙ ap (λ l. l ++ target_bytes target) (second ∙ ap (λ l. l ++ to_be_bytes w32 epoch) first)) in
    put ∙ four old (3 ∷ to_be_bytes w64 n) (to_be_bytes w32 epoch) (target_bytes target) (writes_bytes writes) ∙ ap (λ k. old ++ event_bytes k) (sym is)

pub body_put : (f : Frame) (old x y new : List ℕ) (epoch count : ℕ) (es : List LogEvent) → epoch ≡ f.epoch → count ≡ length f.events → es ≡ f.events → x ≡ old ++ to_be_bytes w32 epoch
    → y ≡ x ++ to_be_bytes w64 count → new ≡ y ++ flat_map event_bytes es → new ≡ old ++ body_bytes f
unfolding body_bytes
body_put f old x y new epoch count es e k same first second third =
    let put : new ≡ ((old ++ to_be_bytes w32 f.epoch) ++ to_be_bytes w64 (length f.events)) ++ flat_map event_bytes f.events =
    third ∙ ap (λ l. y ++ flat_map event_bytes l) same
    ∙ ap (λ l. l ++ flat_map event_bytes f.events) (second ∙ ap (λ n. x ++ to_be_bytes w64 n) k ∙ ap (λ l. l ++ to_be_bytes w64 (length f.events)) (first ∙ ap (λ n. old ++ to_be_bytes w32 n) e)) in
    put ∙ three old (to_be_bytes w32 f.epoch) (to_be_bytes w64 (length f.events)) (flat_map event_bytes f.events)

-- as many events as the frame has
pub counted : (es : List Event) (all : List LogEvent) → events_of es ≡ all → length es ≡ length all
counted es all is = sym (length-map es event_of) ∙ ap (λ l. length l) is

each_fits : (es : List Event) → AllByRecursion IsEvent (events_of es) → AllByRecursion (λ e. IsEvent (event_of e)) es
each_fits [] fits = tt
each_fits (e ∷ es) fits = (fits.0, each_fits es fits.1)

pub event_fits : (es : List Event) → AllByRecursion IsEvent (events_of es) → All (λ e. IsEvent (event_of e)) es
event_fits es fits = All-from_recursion (λ e. IsEvent (event_of e)) es (each_fits es fits)
