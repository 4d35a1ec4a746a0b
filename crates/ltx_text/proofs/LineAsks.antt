-- What a reader asked of its source.
use Rattle.std.proofs.Common.{◌≡◌, ℕ, ◌+◌, ◌-◌, ◌≤◌, ◌<◌, Bool, true, false, List, [], length, take, Option, Some, None, Result, Err, refl, ap, ◌∙◌, subst, sym, arith}
use Rattle.std.proofs.lemmas.List.{take_at}
use Rattle.std.specs.Prelude.{IfSome, IsErrOf, IsSomeAnd}
use Rattle.ltx_outside.specs.Reads.{Reads}
use Rattle.ltx_text.specs.declared.piece.TextFault.{TextFault}
use Rattle.ltx_text.specs.declared.piece.TextFault.TheVariants.{ReadFault, TooMuch, NoMemory}
use Rattle.ltx_text.specs.Pieces.{faults_among}
use Rattle.ltx_text.specs.Lines.{LinesState, Asks, AsksOf, Cuts, ends, feeds}

-- so many calls were made at most
abbrev pub CallsWithin : Option Reads → Option Reads → ℕ → Type 0
CallsWithin before after n = IfSome before (λ b. IsSomeAnd after (λ a. a.calls ≤ b.calls + n))

-- one call was made at most, and what was taken is what it gave
abbrev pub OneCall : LinesState → LinesState → Option Reads → Option Reads → Type 0
OneCall old new before after = IfSome before (λ b. IsSomeAnd after (λ a. (a.calls ≤ b.calls + 1) × (new.taken ≡ old.taken + a.last)))

pub calls_none : (reads : Option Reads) → CallsWithin reads reads 0
calls_none None = tt
calls_none (Some r) = omega arith

-- nothing was asked
asks_nothing : (old new : LinesState) (left : Option (List ℕ)) (r : Reads) → new.taken ≡ old.taken → new.ended ≡ old.ended → Asks old new left r r 0
asks_nothing old new left r taken ended = record {
  calls = omega (arith, taken, ap (λ b. ends (record old { ended = b })) ended);
  first = none left;
} where
  none : (left : Option (List ℕ)) → IfSome left (λ bytes. feeds (take (new.taken - old.taken - r.last) bytes) ≡ 0)
  none None = tt
  none (Some bytes) =
      let zero : new.taken - old.taken - r.last ≡ 0 = omega (arith, taken) in
      ap (λ n. feeds (take n bytes)) zero

pub asks_none : (old new : LinesState) (left : Option (List ℕ)) (reads : Option Reads) → new.taken ≡ old.taken → new.ended ≡ old.ended → AsksOf old new left reads reads 0
asks_none old new left None taken ended = tt
asks_none old new left (Some r) taken ended = asks_nothing old new left r taken ended

-- what is given of what is held changes nothing of that
pub asks_given : (old mid new : LinesState) (left : Option (List ℕ)) (before after : Option Reads) (n : ℕ) → new.taken ≡ mid.taken → new.ended ≡ mid.ended
    → AsksOf old mid left before after n → AsksOf old new left before after n
asks_given old mid new left None after n taken ended asks = tt
asks_given old mid new left (Some b) None n taken ended asks = absurd asks
asks_given old mid new left (Some b) (Some a) n taken ended asks = record {
  calls = omega (arith, asks.calls, taken, ap (λ x. ends (record mid { ended = x })) ended);
  first = subst (λ (t : ℕ). IfSome left (λ bytes. feeds (take (t - old.taken - a.last) bytes) ≡ 0)) (sym taken) asks.first;
}

-- calls that gave bytes without a line feed, and then one more
pub asks_more : (old mid new : LinesState) (left_old left_mid : Option (List ℕ)) (before between after : Option Reads) (n : ℕ)
    → Cuts old mid left_old left_mid [] → feeds mid.held ≡ 0 → old.ended ≡ false → CallsWithin before between (mid.taken - old.taken) → OneCall mid new between after
    → mid.taken + 1 ≤ new.taken + ends new + n → AsksOf old new left_old before after n
asks_more old mid new left_old left_mid None between after n cuts none unended within call gave = tt
asks_more old mid new left_old left_mid (Some b) None after n cuts none unended within call gave = absurd within
asks_more old mid new left_old left_mid (Some b) (Some m) None n cuts none unended within call gave = absurd call
asks_more old mid new left_old left_mid (Some b) (Some m) (Some a) n cuts none unended within call gave = record {
  calls = omega (arith, within, call.0, call.1, gave, cuts.counted, ap (λ x. ends (record old { ended = x })) unended);
  first = before left_old left_mid cuts;
} where
  before : (left_old left_mid : Option (List ℕ)) → Cuts old mid left_old left_mid [] → IfSome left_old (λ bytes. feeds (take (new.taken - old.taken - a.last) bytes) ≡ 0)
  before None left_mid cuts = tt
  before (Some bytes) None cuts = absurd cuts.pieces
  before (Some bytes) (Some more) cuts =
      let count : new.taken - old.taken - a.last ≡ length cuts.bytes = omega (arith, call.1, cuts.counted) in
      let front : take (new.taken - old.taken - a.last) bytes ≡ cuts.bytes = ap (λ n. take n bytes) count ∙ ap (take (length cuts.bytes)) cuts.consumed ∙ take_at cuts.bytes more (length cuts.bytes) refl in
      omega (arith, ap feeds front, cuts.ended, none)

-- a call that gave a byte or more
pub calls_step : (a b c : Option Reads) (old mid new : LinesState) → CallsWithin a b (mid.taken - old.taken) → OneCall mid new b c → old.taken ≤ mid.taken → mid.taken < new.taken
    → CallsWithin a c (new.taken - old.taken)
calls_step None b c old mid new p q low more = tt
calls_step (Some x) None c old mid new p q low more = absurd p
calls_step (Some x) (Some y) None old mid new p q low more = absurd q
calls_step (Some x) (Some y) (Some z) old mid new p q low more = omega (arith, p, q.0, low, more)

pub gave_end : (mid new : LinesState) → mid.taken ≤ new.taken → new.ended ≡ true → mid.taken + 1 ≤ new.taken + ends new + 0
gave_end mid new less met = omega (arith, less, ap (λ b. ends (record new { ended = b })) met)

pub gave_more : (mid new : LinesState) → mid.taken < new.taken → mid.taken + 1 ≤ new.taken + ends new + 0
gave_more mid new more = omega (arith, more)

-- a call that failed, or gave the byte that is too many
pub gave_fault : (y : TextFault) (r : Result (Option ℕ) TextFault) (mid new : LinesState) → r ≡ Err y → mid.taken ≤ new.taken → new.limit ≡ mid.limit
    → (IsErrOf {T = Bool} (Err y) NoMemory → ⊥) → (IsErrOf {T = Bool} (Err y) TooMuch → (mid.taken ≡ mid.limit) × (new.taken ≡ new.limit + 1)) → mid.taken + 1 ≤ new.taken + ends new + faults_among r
gave_fault ReadFault r mid new is less same none past = omega (arith, less, ap faults_among is)
gave_fault TooMuch r mid new is less same none past = let p = past refl in omega (arith, p.0, p.1, same)
gave_fault NoMemory r mid new is less same none past = absurd (none refl)
