-- How many bytes a frame's body takes: as many as are counted for the log's limit and for the place of the next gate.
use Rattle.std.proofs.Common.{◌≡◌, ℕ, suc, ◌+◌, List, [], ◌∷◌, ◌++◌, Option, Some, None, flat_map, length, refl, sym, ap, ◌∙◌, arith}
use Rattle.std.specs.List.{sum_by}
use Rattle.std.proofs.lemmas.List.{length-append}
use Rattle.std.proofs.lemmas.List.Sums.{sum_by-cons}
use Rattle.ltx_model.specs.declared.writes.Write.{Write}
use Rattle.ltx_model.specs.Frames.{LogEvent, SlotEvent, ShortEvent, BatchEvent, Frame, value_length, write_length, event_length, body_length}
use Rattle.ltx_model.specs.Spellings.{value_bytes, write_bytes, event_bytes, body_bytes}
use Rattle.ltx_model.specs.Contents.{next_gate}

pieces_long : {X : Type 0} (f : X → List ℕ) (g : X → ℕ) → ((x : X) → length (f x) ≡ g x) → (xs : List X) → length (flat_map f xs) ≡ sum_by g xs
pieces_long f g same [] = refl
pieces_long f g same (x ∷ xs) =
    length-append (f x) (flat_map f xs) ∙ ap (λ n. n + length (flat_map f xs)) (same x) ∙ ap (λ n. g x + n) (pieces_long f g same xs) ∙ sym (sum_by-cons g x xs)

value_long : (put : Option (List ℕ)) → length (value_bytes put) ≡ value_length put
value_long None = refl
value_long (Some value) = let h : suc (suc (length value)) ≡ 2 + length value = omega arith in h

write_long : (w : Write) → length (write_bytes w) ≡ write_length w
write_long w =
    let parts : length (w.key ++ value_bytes w.put) ≡ length w.key + length (value_bytes w.put) = length-append w.key (value_bytes w.put) in
    let value : length (value_bytes w.put) ≡ value_length w.put = value_long w.put in
    let h : suc (suc (suc (length (w.key ++ value_bytes w.put)))) ≡ 3 + length w.key + value_length w.put = omega (arith, parts, value) in h

-- so many more, one by one
twelve_more : (n : ℕ) → suc (suc (suc (suc (suc (suc (suc (suc (suc (suc (suc (suc n))))))))))) ≡ 12 + n
twelve_more n = omega arith

seventeen_more : (n : ℕ) → suc (suc (suc (suc (suc (suc (suc (suc (suc (suc (suc (suc (suc (suc (suc (suc (suc n)))))))))))))))) ≡ 17 + n
seventeen_more n = omega arith

event_long : (e : LogEvent) → length (event_bytes e) ≡ event_length e
event_long (SlotEvent n) = refl
event_long (ShortEvent n epoch writes) = seventeen_more (length (flat_map write_bytes writes)) ∙ ap (λ k. 17 + k) (pieces_long write_bytes write_length write_long writes)
event_long (BatchEvent n epoch None writes) =
    let few : length (flat_map write_bytes writes) ≡ sum_by write_length writes = pieces_long write_bytes write_length write_long writes in
    let more : 17 + suc (length (flat_map write_bytes writes)) ≡ 17 + 1 + sum_by write_length writes = omega (arith, few) in
    seventeen_more (suc (length (flat_map write_bytes writes))) ∙ more
event_long (BatchEvent n epoch (Some target) writes) =
    let few : length (flat_map write_bytes writes) ≡ sum_by write_length writes = pieces_long write_bytes write_length write_long writes in
    let more : 17 + suc (suc (suc (suc (suc (suc (suc (suc (suc (length (flat_map write_bytes writes)))))))))) ≡ 17 + 9 + sum_by write_length writes = omega (arith, few) in
    seventeen_more (suc (suc (suc (suc (suc (suc (suc (suc (suc (length (flat_map write_bytes writes))))))))))) ∙ more

pub body_long : (f : Frame) → length (body_bytes f) ≡ body_length f
unfolding body_bytes body_length
body_long f = twelve_more (length (flat_map event_bytes f.events)) ∙ ap (λ k. 12 + k) (pieces_long event_bytes event_length event_long f.events)

-- the next gate stands where the state counts it
pub gate_counted : (place : ℕ) (f : Frame) → next_gate place f ≡ place + 9 + body_length f
gate_counted place f = ap (λ k. place + 9 + k) (body_long f)
