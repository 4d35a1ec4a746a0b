-- What a reader gives of the bytes that it holds.
use Rattle.std.proofs.Common.{◌≡◌, ℕ, ◌+◌, ◌≤◌, List, [], ◌∷◌, ◌++◌, length, take, drop, Option, Some, None, Result, Ok, Err, OnOk, OnErr, refl, sym, ap, subst, ◌∙◌, append_assoc, arith}
use Rattle.std.proofs.lemmas.List.{append-nil, take-append-drop, drop_more, length-drop}
use Rattle.std.specs.Io.KnownBytes.{IsAtEnd, prepend_known}
use Rattle.std.proofs.KnownBytes.{Consumes-nil}
use Rattle.ltx_text.specs.declared.piece.Piece.{Piece}
use Rattle.ltx_text.specs.declared.piece.TextFault.{TextFault}
use Rattle.ltx_text.specs.Lines.{LinesState, Cuts, GivesPieces, IsFirstFeed, feeds, piece_of, pieces_of}
use Rattle.ltx_text.specs.Pieces.{given}
use Rattle.ltx_text.proofs.LineLemmas.{Cuts-nothing, feeds-append, pieces_are_few, pieces_line, pieces_none}

-- bytes with a line feed are the line, the line feed and the bytes behind it
parts_of : (bytes : List ℕ) (at : ℕ) → IsFirstFeed bytes at → bytes ≡ take at bytes ++ 10 ∷ drop (at + 1) bytes
parts_of bytes at first =
    sym (take-append-drop at bytes) ∙ ap (λ (t : List ℕ). take at bytes ++ t) (drop_more bytes at 0 first.within ∙ ap (λ (b : ℕ). b ∷ drop (at + 1) bytes) first.here)

same_given : (old new : LinesState) (left : Option (List ℕ)) (given : List (Option (List ℕ))) → new.taken ≡ old.taken
    → GivesPieces (prepend_known old.held left) (prepend_known new.held left) given → feeds old.held ≤ length given + feeds new.held → length given + length new.held ≤ length old.held → Cuts old new left left given
same_given old new left given taken pieces ended fewer = record {
  bytes = [];
  consumed = Consumes-nil left;
  counted = omega (arith, taken);
  pieces = pieces;
  ended = omega (arith, ended);
  fewer = omega (arith, fewer);
}

-- a line that is lent and let go is given, and the bytes behind its line feed stay
pub lent_line : (state : LinesState) (left : Option (List ℕ)) (at : ℕ) → IsFirstFeed state.held at
    → Cuts state (record state { held = drop (at + 1) state.held }) left left (piece_of (take at state.held) ∷ [])
lent_line state left at first =
    same_given state (record state { held = drop (at + 1) state.held }) left (piece_of (take at state.held) ∷ []) refl (cut left)
    (omega (arith, ap feeds parts, feeds-append (take at state.held) (10 ∷ drop (at + 1) state.held), first.before))
    (omega (arith, first.within, length-drop (at + 1) state.held))
  where
    parts : state.held ≡ take at state.held ++ 10 ∷ drop (at + 1) state.held
    parts = parts_of state.held at first

    cut : (left : Option (List ℕ)) → GivesPieces (prepend_known state.held left) (prepend_known (drop (at + 1) state.held) left) (piece_of (take at state.held) ∷ [])
    cut None = tt
    cut (Some more) =
        ap (λ (t : List ℕ). pieces_of (t ++ more)) parts ∙ ap pieces_of (append_assoc (take at state.held) (10 ∷ drop (at + 1) state.held) more)
        ∙ pieces_line (take at state.held) (drop (at + 1) state.held ++ more) first.before

-- the line is given where memory allows it, and else stays
pub gave_line : (r : Result Piece TextFault) (old new : LinesState) (left : Option (List ℕ)) (at : ℕ) → IsFirstFeed old.held at → OnOk r (given r ≡ piece_of (take at old.held) ∷ [])
    → OnOk r (new ≡ record old { held = drop (at + 1) old.held }) → OnErr r (new ≡ old) → Cuts old new left left (given r)
gave_line (Err e) old new left at first piece state err = subst (λ (s : LinesState). Cuts old s left left []) (sym err) (Cuts-nothing old left)
gave_line (Ok p) old new left at first piece state err =
    subst (λ (g : List (Option (List ℕ))). Cuts old new left left g) (sym piece)
    (subst (λ (s : LinesState). Cuts old s left left (piece_of (take at old.held) ∷ [])) (sym state) (lent_line old left at first))

-- at the end of the source all that is held is given
pub gave_last : (r : Result Piece TextFault) (old new : LinesState) (left : Option (List ℕ)) → feeds old.held ≡ 0 → IsAtEnd left → OnOk r (given r ≡ pieces_of old.held)
    → OnOk r (new ≡ record old { held = [] }) → OnErr r (new ≡ old) → Cuts old new left left (given r)
gave_last (Err e) old new left unended end piece state err = subst (λ (s : LinesState). Cuts old s left left []) (sym err) (Cuts-nothing old left)
gave_last (Ok p) old new left unended end piece state err =
    subst (λ (g : List (Option (List ℕ))). Cuts old new left left g) (sym piece)
    (same_given old new left (pieces_of old.held) (ap (λ (s : LinesState). s.taken) state) (cut left end) (omega (arith, unended))
    (omega (arith, pieces_are_few old.held unended, ap (λ (s : LinesState). length s.held) state)))
  where
    cut : (left : Option (List ℕ)) → IsAtEnd left → GivesPieces (prepend_known old.held left) (prepend_known new.held left) (pieces_of old.held)
    cut None end = tt
    cut (Some more) end =
        let nothing : [] ≡ new.held ++ more = sym (ap (λ (s : LinesState). s.held ++ more) state ∙ end) in
        ap (λ (t : List ℕ). pieces_of (old.held ++ t)) end ∙ ap pieces_of (append-nil old.held) ∙ sym (append-nil (pieces_of old.held))
        ∙ ap (λ (t : List (Option (List ℕ))). pieces_of old.held ++ t) (pieces_none [] refl ∙ ap pieces_of nothing)
