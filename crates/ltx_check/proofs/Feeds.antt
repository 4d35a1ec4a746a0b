-- Where a text is cut at its line feeds.
use Rattle.std.proofs.Common.{◌≡◌, ℕ, zero, suc, ◌<◌, true, false, ◌==◌, List, [], ◌∷◌, ◌++◌, length, take, drop, get_or, refl, sym, ap, ◌∙◌, arith, inl, inr}
use Rattle.std.proofs.lemmas.List.{take-append-drop, append_cancel_right}
use Rattle.std.proofs.lemmas.Bool.{cases_Bool}
use Rattle.std.proofs.Math.Seq.{take-append_seam}
use Rattle.std.specs.Prelude.{slice_index, bytes_eq}
use Rattle.ltx_text.proofs.WordReadings.{same_bytes}
use Rattle.ltx_text.specs.Lines.{before_lines, feeds, IsFirstFeed}
use Rattle.ltx_text.proofs.LineLemmas.{no_feed_first, feeds-append}
use Rattle.ltx_check.specs.Cuts.{lines_of, ended}

lines_first : (b : ℕ) (bytes : List ℕ) → (b == 10) ≡ false → lines_of (b ∷ bytes) ≡ before_lines b (lines_of bytes)
unfolding lines_of
lines_first b bytes other = rw other refl

lines_feed : (bytes : List ℕ) → lines_of (10 ∷ bytes) ≡ (10 ∷ []) ∷ lines_of bytes
unfolding lines_of
lines_feed bytes = refl

lines_none : lines_of [] ≡ []
unfolding lines_of
lines_none = refl

-- a line feed ends the first line
pub lines_cut : (line rest : List ℕ) → feeds line ≡ 0 → lines_of (line ++ 10 ∷ rest) ≡ ended line ∷ lines_of rest
lines_cut [] rest none = lines_feed rest
lines_cut (b ∷ line) rest none =
    let one = no_feed_first b line none in
    lines_first b (line ++ 10 ∷ rest) one.first ∙ ap (before_lines b) (lines_cut line rest one.rest)

-- without a line feed there is one line at most, which is not ended
lines_whole : (b : ℕ) (bytes : List ℕ) → feeds (b ∷ bytes) ≡ 0 → lines_of (b ∷ bytes) ≡ (b ∷ bytes) ∷ []
lines_whole b [] none =
    let one = no_feed_first b [] none in lines_first b [] one.first ∙ ap (before_lines b) lines_none
lines_whole b (c ∷ bytes) none =
    let one = no_feed_first b (c ∷ bytes) none in
    lines_first b (c ∷ bytes) one.first ∙ ap (before_lines b) (lines_whole c bytes one.rest)

not_ended : (text line : List ℕ) → feeds text ≡ 0 → text ≡ ended line → ⊥
not_ended text line none is = omega (arith, none, ap feeds is, feeds-append line (10 ∷ []))

pub none_ended : (text line : List ℕ) (more : List (List ℕ)) → feeds text ≡ 0 → lines_of text ≡ ended line ∷ more → ⊥
none_ended [] line more none is = let e : [] ≡ ended line ∷ more = sym lines_none ∙ is in cc
none_ended (b ∷ bytes) line more none is =
    let e : (b ∷ bytes) ∷ [] ≡ ended line ∷ more = sym (lines_whole b bytes none) ∙ is in
    let heads : b ∷ bytes ≡ ended line = cc in
    not_ended (b ∷ bytes) line none heads

at_feed : (bytes : List ℕ) (at : ℕ) → at < length bytes → slice_index bytes at ≡ 10 → drop at bytes ≡ 10 ∷ drop 1 (drop at bytes)
at_feed bytes at within here = grind (arith, drop-get)
  where
    drop-get : (bs : List ℕ) (k : ℕ) → k < length bs → drop k bs ≡ get_or bs k 0 ∷ drop 1 (drop k bs)
    drop-get [] k low = absurd (omega (arith, low))
    drop-get (b ∷ bs) zero low = refl
    drop-get (b ∷ bs) (suc k) low = drop-get bs k (omega (arith, low))

-- the first line feed cuts the first line off
pub cut_there : (text : List ℕ) (at : ℕ) → IsFirstFeed text at → lines_of text ≡ ended (take at text) ∷ lines_of (drop 1 (drop at text))
cut_there text at is =
    let whole : text ≡ take at text ++ 10 ∷ drop 1 (drop at text)
    = sym (take-append-drop at text) ∙ ap (λ l. take at text ++ l) (at_feed text at is.within is.here) in
    ap lines_of whole ∙ lines_cut (take at text) (drop 1 (drop at text)) is.before

pub cut_parts : (text line back : List ℕ) (at : ℕ) → IsFirstFeed text at → line ≡ take at text → back ≡ drop 1 (drop at text) → lines_of text ≡ ended line ∷ lines_of back
cut_parts text line back at is first second = cut_there text at is ∙ (λ i. ended (sym first i) ∷ lines_of (sym second i))

-- two lines that are the same with their line feeds
pub same_line : (line other : List ℕ) (more others : List (List ℕ)) → ended line ∷ more ≡ ended other ∷ others → line ≡ other
same_line line other more others is =
    let heads : ended line ≡ ended other = cc in
    append_cancel_right line other (10 ∷ []) heads

-- a text that begins so has this front
pub not_behind : (text front first rest : List ℕ) → first ≡ take (length front) text → bytes_eq first front ≡ false → text ≡ front ++ rest → ⊥
not_behind text front first rest is other begins =
    let same : first ≡ front = is ∙ ap (take (length front)) begins ∙ take-append_seam front rest in
    let yes : bytes_eq first front ≡ true = same_bytes first front same in
    cc

lines_some : (b : ℕ) (lines : List (List ℕ)) → 0 < length (before_lines b lines)
lines_some b [] = omega arith
lines_some b (line ∷ lines) = omega arith

-- a text with a byte has a line
pub text_lines : (text : List ℕ) → 0 < length text → 0 < length (lines_of text)
unfolding lines_of
text_lines [] some = absurd (omega (arith, some))
text_lines (b ∷ text) some = elim (cases_Bool (b == 10)) [
  | inl e1 ↦ rw e1 (omega arith)
  | inr e0 ↦ rw e0 (lines_some b (lines_of text))
]

-- a text without a byte has no line
pub no_lines : (text : List ℕ) → length text ≡ 0 → lines_of text ≡ []
no_lines [] none = lines_none
no_lines (b ∷ text) none = absurd (omega (arith, none))
