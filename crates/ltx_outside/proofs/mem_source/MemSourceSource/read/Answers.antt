use Rattle.std.proofs.Common.{rules, arith, sym, ap, ◌≡◌, ◌≤◌, ◌<◌, ◌+◌, ◌++◌, ◌∙◌, [], length, drop, take, min, ℕ, List}
use Rattle.std.proofs.lemmas.List.{take-append-drop, length-take-le, drop-drop, drop_all}
use Rattle.std.proofs.Math.Seq.{take-append_seam}
use Rattle.ltx_outside.proofs.mem_source.MemSourceSource.read.Goals as goal

-- a front that was copied into a buffer, and what is behind it
front_and_rest : (n : ℕ) (rest buffer : List ℕ) → n ≤ length rest → rest ≡ take n (take n rest ++ drop n buffer) ++ drop n rest
front_and_rest n rest buffer fits =
    let size : length (take n rest) ≡ n = length-take-le n rest fits in
    let front : take n (take n rest ++ drop n buffer) ≡ take n rest = ap (λ (k : ℕ). take k (take n rest ++ drop n buffer)) (sym size) ∙ take-append_seam (take n rest) (drop n buffer) in
    sym (take-append-drop n rest) ∙ ap (λ (xs : List ℕ). xs ++ drop n rest) (sym front)

-- none was copied into a buffer with room, since none is left
none_left : (n : ℕ) (rest buffer : List ℕ) → n ≡ min (length buffer) (length rest) → n ≡ 0 → 0 < length buffer → drop n rest ≡ []
none_left n rest buffer count none room = drop_all n rest (omega (arith, count, none, room))

pub returns-clause-taken : goal.returns-clause-taken
returns-clause-taken c =
    let at = c.self.inside.at in
    let n = c.copy_front-count.result in
    let bytes = c.self.inside.bytes.items in
    let rest = c.split_at.result.1.now in
    let buffer = c.args.buffer.now in
    let left : drop at bytes ≡ c.args.self.now.left = search rules in
    let back : rest ≡ drop at bytes = search rules in
    let behind : drop n rest ≡ drop (at + n) bytes = ap (drop n) back ∙ drop-drop n at bytes in
    let count : n ≡ min (length buffer) (length rest) = c.copy_front-count.ensures.count in
    let into : c.copy_front-count.new.into ≡ take n rest ++ drop n buffer = c.copy_front-count.ensures.into in
    let size : length c.copy_front-count.new.into ≡ length buffer = search rules in (
      sym left ∙ sym back ∙ (rw (into, ← behind) (front_and_rest n rest buffer (omega (arith, count)))),
      λ none room. sym behind ∙ none_left n rest buffer count none (omega (arith, size, room)),
    )
