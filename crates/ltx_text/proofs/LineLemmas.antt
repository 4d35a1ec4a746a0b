-- The lines of bytes that are taken a part at a time.
use Rattle.std.proofs.Common.{◌≡◌, ℕ, zero, suc, ◌+◌, ◌<◌, ◌≤◌, true, false, List, [], ◌∷◌, ◌++◌, map, length, take, drop, get_or, Option, Some, None, refl, sym, ap, subst, ◌∙◌, append_assoc, arith, inl, inr}
use Rattle.std.proofs.lemmas.List.{append-nil, length-append, length-take, take-append-drop, take_all}
use Rattle.std.proofs.lemmas.Bool.{cases_Bool, cases_lt, eqb-true, lt-leb}
use Rattle.std.specs.Prelude.{◌==◌, MatchOption}
use Rattle.memchr.specs.Find.{IsFirstByte, is_byte}
use Rattle.std.specs.Io.KnownBytes.{Consumes, prepend_known}
use Rattle.std.proofs.KnownBytes.{Consumes-nil, Consumes-trans}
use Rattle.ltx_text.specs.Lines.{LinesState, Cuts, GivesPieces, IsFirstFeed, before_lines, feeds, lines_of, piece_of, pieces_of}

-- ---- line feeds

pub feeds-append : (xs ys : List ℕ) → feeds (xs ++ ys) ≡ feeds xs + feeds ys
feeds-append [] ys = omega arith
feeds-append (x ∷ xs) ys = omega (arith, feeds-append xs ys)

pub record NoFeedFirst (b : ℕ) (bytes : List ℕ) : Type 0 where
  pub first : (b == 10) ≡ false
  pub rest : feeds bytes ≡ 0

pub no_feed_first : (b : ℕ) (bytes : List ℕ) → feeds (b ∷ bytes) ≡ 0 → NoFeedFirst b bytes
no_feed_first b bytes none =
    elim (cases_Bool (b == 10)) [
      | inl p ↦ let e : 1 + feeds bytes ≡ 0 = (rw p at none) in absurd (omega (arith, e))
      | inr p ↦ let e : 0 + feeds bytes ≡ 0 = (rw p at none) in record { first = p; rest = omega (arith, e) }
    ]

-- ---- lines

-- bytes without a line feed stand before the first line of what follows them
abbrev pub onto : List ℕ → List (List ℕ) → List (List ℕ)
onto front [] = front ∷ []
onto front (line ∷ lines) = (front ++ line) ∷ lines

lines_first : (b : ℕ) (bytes : List ℕ) → (b == 10) ≡ false → lines_of (b ∷ bytes) ≡ before_lines b (lines_of bytes)
unfolding lines_of
lines_first b bytes other = rw other refl

lines_feed : (bytes : List ℕ) → lines_of (10 ∷ bytes) ≡ [] ∷ lines_of bytes
unfolding lines_of
lines_feed bytes = refl

lines_none : lines_of [] ≡ []
unfolding lines_of
lines_none = refl

before_one : (b : ℕ) (lines : List (List ℕ)) → before_lines b lines ≡ onto (b ∷ []) lines
before_one b [] = refl
before_one b (line ∷ lines) = refl

before_onto : (b : ℕ) (front : List ℕ) (lines : List (List ℕ)) → before_lines b (onto front lines) ≡ onto (b ∷ front) lines
before_onto b front [] = refl
before_onto b front (line ∷ lines) = refl

pub lines_onto : (front more : List ℕ) → feeds front ≡ 0 → 0 < length front → lines_of (front ++ more) ≡ onto front (lines_of more)
lines_onto [] more none some = absurd (omega (arith, some))
lines_onto (b ∷ []) more none some =
    let one = no_feed_first b [] none in lines_first b more one.first ∙ before_one b (lines_of more)
lines_onto (b ∷ c ∷ front) more none some =
    let one = no_feed_first b (c ∷ front) none in
    lines_first b (c ∷ front ++ more) one.first ∙ ap (before_lines b) (lines_onto (c ∷ front) more one.rest (omega arith)) ∙ before_onto b (c ∷ front) (lines_of more)

-- a line feed ends the first line
pub lines_of_line : (line rest : List ℕ) → feeds line ≡ 0 → lines_of (line ++ 10 ∷ rest) ≡ line ∷ lines_of rest
lines_of_line [] rest none = lines_feed rest
lines_of_line (b ∷ line) rest none =
    lines_onto (b ∷ line) (10 ∷ rest) none (omega arith) ∙ ap (onto (b ∷ line)) (lines_feed rest) ∙ ap (λ (t : List ℕ). t ∷ lines_of rest) (append-nil (b ∷ line))

-- the last line has no line feed
pub lines_of_last : (line : List ℕ) → feeds line ≡ 0 → 0 < length line → lines_of line ≡ line ∷ []
lines_of_last line none some = ap lines_of (sym (append-nil line)) ∙ lines_onto line [] none some ∙ ap (onto line) lines_none

-- ---- pieces

long_piece : (line : List ℕ) → 4096 < length line → piece_of line ≡ None
long_piece line long = rw (lt-leb _ _ long) refl

long_pieces : (front short : List ℕ) (lines : List (List ℕ)) → 4096 < length front → 4096 < length short → map piece_of (onto front lines) ≡ map piece_of (onto short lines)
long_pieces front short [] long still = ap (λ (p : Option (List ℕ)). p ∷ []) (long_piece front long ∙ sym (long_piece short still))
long_pieces front short (line ∷ lines) long still =
    ap (λ (p : Option (List ℕ)). p ∷ map piece_of lines)
    (long_piece (front ++ line) (omega (arith, long, length-append front line)) ∙ sym (long_piece (short ++ line) (omega (arith, still, length-append short line))))

pub feeds-take : (n : ℕ) (bytes : List ℕ) → feeds bytes ≡ 0 → feeds (take n bytes) ≡ 0
feeds-take n bytes none = omega (arith, none, ap feeds (take-append-drop n bytes), feeds-append (take n bytes) (drop n bytes))

-- of an unfinished line its first 4,097 bytes tell as much as all
pub pieces_kept : (front more : List ℕ) → feeds front ≡ 0 → pieces_of (front ++ more) ≡ pieces_of (take 4097 front ++ more)
pieces_kept front more none =
    elim (cases_lt 4096 (length front)) [
      | inl long ↦
          let still : 4096 < length (take 4097 front) = omega (arith, long, length-take 4097 front) in
          ap (map piece_of) (lines_onto front more none (omega (arith, long))) ∙ long_pieces front (take 4097 front) (lines_of more) long still
          ∙ sym (ap (map piece_of) (lines_onto (take 4097 front) more (feeds-take 4097 front none) (omega (arith, still))))
      | inr short ↦ ap (λ (t : List ℕ). pieces_of (t ++ more)) (sym (take_all 4097 front (omega (arith, short))))
    ]

pub pieces_none : (bytes : List ℕ) → length bytes ≡ 0 → [] ≡ pieces_of bytes
pieces_none [] none = ap (map piece_of) (sym lines_none)
pieces_none (b ∷ bytes) none = absurd (omega (arith, none))

pub pieces_last : (bytes : List ℕ) → feeds bytes ≡ 0 → (length bytes ≡ 0 → ⊥) → piece_of bytes ∷ [] ≡ pieces_of bytes
pieces_last bytes none some = ap (map piece_of) (sym (lines_of_last bytes none (omega (arith, some))))

pub pieces_are_few : (bytes : List ℕ) → feeds bytes ≡ 0 → length (pieces_of bytes) ≤ length bytes
pieces_are_few [] none = omega (arith, ap length (pieces_none [] refl))
pieces_are_few (b ∷ bytes) none = omega (arith, ap length (pieces_last (b ∷ bytes) none (λ nothing. omega (arith, nothing))))

pub pieces_line : (line rest : List ℕ) → feeds line ≡ 0 → pieces_of (line ++ 10 ∷ rest) ≡ piece_of line ∷ pieces_of rest
pieces_line line rest none = ap (map piece_of) (lines_of_line line rest none)

-- ---- the first line feed

-- where a line feed stands at none of the first n places, none stands among the first n bytes
pub none_before : (bytes : List ℕ) (n : ℕ) → ((k : ℕ) → k < n → k < length bytes → (get_or bytes k 0 == 10) ≡ true → ⊥) → feeds (take n bytes) ≡ 0
none_before [] n none = ap feeds (take_all n [] (omega arith))
none_before (b ∷ bytes) zero none = refl
none_before (b ∷ bytes) (suc n) none =
    elim (cases_Bool (b == 10)) [
      | inl p ↦ absurd (none 0 (omega arith) (omega arith) p)
      | inr p ↦ rw p (omega (arith, none_before bytes n (λ k low within here. none (suc k) (omega (arith, low)) (omega (arith, within)) here)))
    ]

pub first_byte : (bytes : List ℕ) (r : Option ℕ) → IsFirstByte (is_byte 10) bytes r → MatchOption r (feeds bytes ≡ 0) (IsFirstFeed bytes)
first_byte bytes None none =
    ap feeds (sym (take_all (length bytes) bytes (omega arith))) ∙ none_before bytes (length bytes) (λ k low within here. none k (omega arith) within here)
first_byte bytes (Some at) found = record {
  within = found.0.high;
  here = eqb-true _ _ found.1;
  before = none_before bytes at (λ k low within here. found.0.before k (omega arith) low here);
}

-- ---- cuts

GivesPieces-nothing : (known : Option (List ℕ)) → GivesPieces known known []
GivesPieces-nothing None = tt
GivesPieces-nothing (Some bytes) = refl

GivesPieces-then : (a b c : Option (List ℕ)) (first second : List (Option (List ℕ))) → GivesPieces a b first → GivesPieces b c second → GivesPieces a c (first ++ second)
GivesPieces-then None b c first second p q = tt
GivesPieces-then (Some x) None c first second p q = absurd p
GivesPieces-then (Some x) (Some y) None first second p q = absurd q
GivesPieces-then (Some x) (Some y) (Some z) first second p q = p ∙ ap (λ (t : List (Option (List ℕ))). first ++ t) q ∙ sym (append_assoc first second (pieces_of z))

pub Cuts-nothing : (state : LinesState) (left : Option (List ℕ)) → Cuts state state left left []
Cuts-nothing state left = record {
  bytes = [];
  consumed = Consumes-nil left;
  counted = omega arith;
  pieces = GivesPieces-nothing (prepend_known state.held left);
  ended = omega arith;
  fewer = omega arith;
}

-- two steps, one after the other
pub Cuts-then : (a b c : LinesState) (la lb lc : Option (List ℕ)) (first second : List (Option (List ℕ))) → Cuts a b la lb first → Cuts b c lb lc second → Cuts a c la lc (first ++ second)
Cuts-then a b c la lb lc first second p q = record {
  bytes = p.bytes ++ q.bytes;
  consumed = Consumes-trans la lb lc p.bytes q.bytes p.consumed q.consumed;
  counted = omega (arith, p.counted, q.counted, length-append p.bytes q.bytes);
  pieces = GivesPieces-then (prepend_known a.held la) (prepend_known b.held lb) (prepend_known c.held lc) first second p.pieces q.pieces;
  ended = omega (arith, p.ended, q.ended, feeds-append p.bytes q.bytes, length-append first second);
  fewer = omega (arith, p.fewer, q.fewer, length-append p.bytes q.bytes, length-append first second);
}

-- bytes that come behind an unfinished line, of which the first are kept
pub Cuts-read : (old new : LinesState) (la lb : Option (List ℕ)) (more : List ℕ) → feeds old.held ≡ 0 → new.held ≡ take 4097 old.held ++ more → new.taken ≡ old.taken + length more → Consumes la lb more → Cuts old new la lb []
Cuts-read old new la lb more unended held taken consumed = record {
  bytes = more;
  consumed = consumed;
  counted = taken;
  pieces = grown la lb consumed;
  ended = omega (arith, unended, ap feeds held, feeds-append (take 4097 old.held) more);
  fewer = omega (arith, ap length held, length-append (take 4097 old.held) more, length-take 4097 old.held);
}
  where
    grown : (la lb : Option (List ℕ)) → Consumes la lb more → GivesPieces (prepend_known old.held la) (prepend_known new.held lb) []
    grown None lb taken = tt
    grown (Some before) None taken = taken
    grown (Some before) (Some after) taken =
        ap (λ (t : List ℕ). pieces_of (old.held ++ t)) taken ∙ pieces_kept old.held (more ++ after) unended
        ∙ ap pieces_of (sym (append_assoc (take 4097 old.held) more after) ∙ ap (λ (t : List ℕ). t ++ after) (sym held))

pub Consumes-same : (la lb : Option (List ℕ)) → lb ≡ la → Consumes la lb []
Consumes-same la lb same = subst (λ (l : Option (List ℕ)). Consumes la l []) (sym same) (Consumes-nil la)

-- nothing came, and an unfinished line is unfinished still
pub feeds-kept : (front kept new more : List ℕ) → feeds front ≡ 0 → kept ≡ take 4097 front → new ≡ kept ++ more → length more ≡ 0 → feeds new ≡ 0
feeds-kept front kept new [] none is grown nothing = ap feeds (grown ∙ append-nil kept ∙ is) ∙ feeds-take 4097 front none
feeds-kept front kept new (b ∷ more) none is grown nothing = absurd (omega (arith, nothing))
