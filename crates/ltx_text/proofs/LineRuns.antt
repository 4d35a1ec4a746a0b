-- All that a reader gave since it was new.
use Rattle.std.proofs.Common.{◌≡◌, ℕ, ◌+◌, ◌-◌, ◌≤◌, List, [], ◌++◌, length, take, Option, Some, None, refl, sym, ap, ◌∙◌, arith}
use Rattle.std.proofs.lemmas.List.{append-nil, take_at}
use Rattle.std.proofs.Math.Seq.{take-append-add}
use Rattle.std.specs.Io.KnownBytes.{IsAtEnd}
use Rattle.ltx_text.specs.Lines.{LinesState, Cuts, NoFeedAhead, feeds, fresh, pieces_of, to_go}
use Rattle.ltx_text.proofs.LineLemmas.{feeds-append, pieces_none}

pub fewer_to_go : (old new : LinesState) (left_old left_new : Option (List ℕ)) (gave : List (Option (List ℕ))) → Cuts old new left_old left_new gave
    → new.taken ≤ new.limit + 1 → new.limit ≡ old.limit → length gave + to_go new ≤ to_go old
fewer_to_go old new left_old left_new gave cuts within same = omega (arith, cuts.fewer, cuts.counted, within, same)

pub given_front : (limit : ℕ) (now : LinesState) (bytes : List ℕ) (left : Option (List ℕ)) (gave : List (Option (List ℕ))) → Cuts (fresh limit) now (Some bytes) left gave
    → (rest : List (Option (List ℕ))) × (pieces_of bytes ≡ gave ++ rest)
given_front limit now bytes None gave cuts = absurd cuts.pieces
given_front limit now bytes (Some more) gave cuts = (pieces_of (now.held ++ more), cuts.pieces)

pub given_all : (limit : ℕ) (now : LinesState) (bytes : List ℕ) (left : Option (List ℕ)) (gave : List (Option (List ℕ))) → Cuts (fresh limit) now (Some bytes) left gave
    → now.held ≡ [] → IsAtEnd left → gave ≡ pieces_of bytes
given_all limit now bytes None gave cuts none end = absurd cuts.pieces
given_all limit now bytes (Some more) gave cuts none end =
    let nothing : now.held ++ more ≡ [] = ap (λ (t : List ℕ). t ++ more) none ∙ end in
    sym (cuts.pieces ∙ ap (λ (t : List ℕ). gave ++ pieces_of t) nothing ∙ ap (λ (t : List (Option (List ℕ))). gave ++ t) (sym (pieces_none [] refl)) ∙ append-nil gave)

pub given_taken : (limit : ℕ) (now : LinesState) (bytes : List ℕ) (left : Option (List ℕ)) (gave : List (Option (List ℕ))) → Cuts (fresh limit) now (Some bytes) left gave
    → feeds now.held ≡ 0 → feeds (take now.taken bytes) ≤ length gave
given_taken limit now bytes None gave cuts none = absurd cuts.pieces
given_taken limit now bytes (Some more) gave cuts none =
    let front : take now.taken bytes ≡ cuts.bytes = ap (take now.taken) cuts.consumed ∙ take_at cuts.bytes more now.taken (omega (arith, cuts.counted)) in
    omega (arith, ap feeds front, cuts.ended, none)

pub given_below : (limit : ℕ) (now : LinesState) (bytes : List ℕ) (left : Option (List ℕ)) (gave : List (Option (List ℕ))) → Cuts (fresh limit) now (Some bytes) left gave
    → now.taken ≤ limit → now.limit ≡ limit → feeds now.held ≡ 0 → NoFeedAhead now left → feeds (take limit bytes) ≤ length gave
given_below limit now bytes None gave cuts within same none ahead = absurd cuts.pieces
given_below limit now bytes (Some more) gave cuts within same none ahead =
    let sum : limit ≡ length cuts.bytes + (now.limit - now.taken) = omega (arith, within, same, cuts.counted) in
    let front : take limit bytes ≡ cuts.bytes ++ take (now.limit - now.taken) more =
    ap (take limit) cuts.consumed ∙ ap (λ (n : ℕ). take n (cuts.bytes ++ more)) sum ∙ take-append-add cuts.bytes more (now.limit - now.taken) in
    omega (arith, ap feeds front, feeds-append cuts.bytes (take (now.limit - now.taken) more), cuts.ended, none, ahead)
