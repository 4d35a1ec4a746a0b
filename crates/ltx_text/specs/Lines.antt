-- Cutting bytes into lines, and what a reader of lines holds, takes and gives.
use Rattle.std.specs.Prelude.{◌≡◌, ℕ, ◌+◌, ◌-◌, ◌≤◌, ◌<◌, nat_le, ◌==◌, if◌then◌else◌, List, [], ◌∷◌, ◌++◌, map, length, take, slice_index, Option, None, Some, IfSome, IsSomeAnd, ⊤, Bool, true, false}
use Rattle.std.specs.Io.KnownBytes.{Consumes, IsAtEnd, prepend_known}
use Rattle.ltx_outside.specs.Reads.{Reads}

-- a byte other than a line feed stands before the first line of what follows it
abbrev pub before_lines : ℕ → List (List ℕ) → List (List ℕ)
before_lines b [] = (b ∷ []) ∷ []
before_lines b (line ∷ lines) = (b ∷ line) ∷ lines

-- the lines of bytes: each line feed (10) ends one and is no part of it,
-- and the bytes after the last are one where there are any
unfoldable pub lines_of : List ℕ → List (List ℕ)
lines_of [] = []
lines_of (b ∷ bytes) = if b == 10 then [] ∷ lines_of bytes else before_lines b (lines_of bytes)

-- what is given of a line: itself, or nothing of one of more than 4,096 bytes
abbrev pub piece_of : List ℕ → Option (List ℕ)
piece_of line = if nat_le (length line) 4096 then Some line else None

-- what is given of bytes: a piece for each line, in order
abbrev pub pieces_of : List ℕ → List (Option (List ℕ))
pieces_of bytes = map piece_of (lines_of bytes)

-- how many line feeds stand among the bytes
abbrev pub feeds : List ℕ → ℕ
feeds [] = 0
feeds (b ∷ bytes) = (if b == 10 then 1 else 0) + feeds bytes

-- a reader: the bytes that it holds, how many it has taken from its source, how many it may take, and whether its source has
-- said that it is at its end
pub record LinesState : Type 0 where
  pub held : List ℕ
  pub taken : ℕ
  pub limit : ℕ
  pub ended : Bool

-- a reader that has taken nothing yet
abbrev pub fresh : ℕ → LinesState
fresh limit = record { held = []; taken = 0; limit = limit; ended = false }

-- how many bytes a reader may still take and give
abbrev pub to_go : LinesState → ℕ
to_go reader = reader.limit + 1 - reader.taken + length reader.held

-- where the bytes to come are known: the pieces that are to come at first are those given and those to come then
abbrev pub GivesPieces : Option (List ℕ) → Option (List ℕ) → List (Option (List ℕ)) → Type 0
GivesPieces None new given = ⊤
GivesPieces (Some old) None given = ⊥
GivesPieces (Some old) (Some new) given = pieces_of old ≡ given ++ pieces_of new

-- what a reader took from a source and what it gave
pub record Cuts (old new : LinesState) (left_old left_new : Option (List ℕ)) (given : List (Option (List ℕ))) : Type 0 where
  -- the bytes that it took
  pub bytes : List ℕ
  pub consumed : Consumes left_old left_new bytes
  pub counted : new.taken ≡ old.taken + length bytes
  -- to come are the bytes that it holds and those that the source has left
  pub pieces : GivesPieces (prepend_known old.held left_old) (prepend_known new.held left_new) given
  -- each line feed that it held or took ends a piece given, or is held
  pub ended : feeds old.held + feeds bytes ≤ length given + feeds new.held
  -- each piece given had a byte at least, so that the bytes to give and to take grow fewer
  pub fewer : length given + length new.held ≤ length old.held + length bytes

-- no line feed stands among the bytes that the source has left, as far as the reader may take them
abbrev pub NoFeedAhead : LinesState → Option (List ℕ) → Type 0
NoFeedAhead reader left = IfSome left (λ bytes. feeds (take (reader.limit - reader.taken) bytes) ≡ 0)

-- a reader whose source has said that it is at its end is used with a source that has nothing left
abbrev pub Knows : LinesState → Option (List ℕ) → Type 0
Knows reader left = reader.ended ≡ true → IsAtEnd left

-- 1 where the end was met, which is asked for once
abbrev pub ends : LinesState → ℕ
ends reader = if reader.ended then 1 else 0

-- What a reader asked of its source, so many calls of which may have failed: each call gave a byte or more, or met the end, or
-- failed; and no line feed was taken before the last of them.
pub record Asks (old new : LinesState) (left : Option (List ℕ)) (before after : Reads) (failed : ℕ) : Type 0 where
  pub calls : after.calls + ends old ≤ before.calls + (new.taken - old.taken) + ends new + failed
  pub first : IfSome left (λ bytes. feeds (take (new.taken - old.taken - after.last) bytes) ≡ 0)

-- the same, where the source tells of its calls
abbrev pub AsksOf : LinesState → LinesState → Option (List ℕ) → Option Reads → Option Reads → ℕ → Type 0
AsksOf old new left before after failed = IfSome before (λ b. IsSomeAnd after (λ a. Asks old new left b a failed))

-- the first line feed of the bytes stands at this place
pub record IsFirstFeed (bytes : List ℕ) (at : ℕ) : Type 0 where
  pub within : at < length bytes
  pub here : slice_index bytes at ≡ 10
  pub before : feeds (take at bytes) ≡ 0
