-- A gate and the length behind it, as they are read.
use Rattle.std.proofs.Common.{◌≡◌, ◌≢◌, ◌<◌, ◌≤◌, ◌+◌, inl, inr, ℕ, Bool, true, false, List, length, take, drop, get_or, sym, ap, ◌∙◌, subst, arith, nat_eq, Option, Some, None, slice_index_or}
use Rattle.std.specs.Prelude.{IfSome, IsSomeAnd, slice_get}
use Rattle.std.specs.Int.{to_be_bytes, w64}
use Rattle.std.proofs.lemmas.Bool.{cases_Bool, eqb-true, eq-eqb}
use Rattle.std.proofs.lemmas.List.{drop-drop, drop-take, get_or-drop, get_or-take, take-take}
use Rattle.std.proofs.lemmas.Nat.{be_bytes_8}
use Rattle.std.proofs.lemmas.Option.{slice_get-get_or}
use Rattle.byteorder.specs.Endian.{big_number}
use Rattle.ltx_log.specs.Readings.{IsGateAt, IsHead}

both_ways : (b : Bool) → b ≡ true → b ≡ false → ⊥
both_ways b is isnt = grind (arith, is, isnt)

-- a gate by its byte
gate_by : (bytes : List ℕ) (gate byte : ℕ) → gate < length bytes → byte ≡ get_or bytes gate 0 → IsGateAt (nat_eq byte 1) bytes gate
gate_by bytes gate byte inside is =
    let there : slice_get bytes gate ≡ Some byte = slice_get-get_or bytes gate 0 inside ∙ ap Some (sym is) in
    elim (cases_Bool (nat_eq byte 1)) [
      | inl same ↦ subst (λ b. IsGateAt b bytes gate) (sym same) (there ∙ ap Some (eqb-true byte 1 same))
      | inr differs ↦ subst (λ b. IsGateAt b bytes gate) (sym differs) (subst (λ o. IsSomeAnd o (λ b. b ≢ 1)) (sym there) (λ one. both_ways (nat_eq byte 1) (eq-eqb byte 1 one) differs))
    ]

-- the first of the bytes from a gate on
first_byte : (bytes buffer : List ℕ) (gate n : ℕ) → 0 < n → buffer ≡ take n (drop gate bytes) → get_or buffer 0 0 ≡ get_or bytes gate 0
first_byte bytes buffer gate n some is =
    let here : gate + 0 ≡ gate = omega arith in
    ap (λ (xs : List ℕ). get_or xs 0 0) is ∙ get_or-take n (drop gate bytes) 0 0 some ∙ get_or-drop gate bytes 0 0 ∙ ap (λ (k : ℕ). get_or bytes k 0) here

short_is : (bytes : List ℕ) (size gate : ℕ) (buffer : List ℕ) → length bytes ≡ size → gate < size → size < gate + 9 → buffer ≡ take 1 (drop gate bytes)
    → IsHead bytes gate (record { is_open = nat_eq (slice_index_or buffer 0 0) 1; length = None })
short_is bytes size gate buffer whole inside short is = record {
  gate_is = gate_by bytes gate (get_or buffer 0 0) (omega (arith, whole, inside)) (first_byte bytes buffer gate 1 (omega arith) is);
  body = omega (arith, whole, short);
}

-- a gate that fewer than eight bytes follow
pub short_head : (o : Option (List ℕ)) (size gate : ℕ) (buffer : List ℕ) → IfSome o (λ bytes. length bytes ≡ size) → gate < size → size < gate + 9
    → IfSome o (λ bytes. buffer ≡ take 1 (drop gate bytes)) → IfSome o (λ bytes. IsHead bytes gate (record { is_open = nat_eq (slice_index_or buffer 0 0) 1; length = None }))
short_head None size gate buffer whole inside short is = tt
short_head (Some bytes) size gate buffer whole inside short is = short_is bytes size gate buffer whole inside short is

-- eight bytes spell the number that is read of them
pub spelled : (bs : List ℕ) (n : ℕ) → length bs ≡ 8 → ((i : ℕ) → get_or bs i 0 < 256) → n ≡ big_number 8 bs → to_be_bytes w64 n ≡ bs
spelled bs n size fits is = be_bytes_8 bs n size fits (omega (arith, is))

behind_gate : (bytes buffer : List ℕ) (gate : ℕ) → buffer ≡ take 9 (drop gate bytes) → take 8 (drop (gate + 1) bytes) ≡ take 8 (drop 1 buffer)
behind_gate bytes buffer gate is =
    sym (ap (λ (xs : List ℕ). take 8 (drop 1 xs)) is
    ∙ ap (take 8) (drop-take 1 8 (drop gate bytes))
    ∙ ap (λ (xs : List ℕ). take 8 (take 8 xs)) (drop-drop 1 gate bytes)
    ∙ take-take 8 8 (drop (gate + 1) bytes) (omega arith))

long_is : (bytes : List ℕ) (size gate : ℕ) (buffer : List ℕ) (n : ℕ) → length bytes ≡ size → gate + 9 ≤ size → buffer ≡ take 9 (drop gate bytes)
    → n < 18446744073709551616 → to_be_bytes w64 n ≡ take 8 (drop 1 buffer)
    → IsHead bytes gate (record { is_open = nat_eq (slice_index_or buffer 0 0) 1; length = Some n })
long_is bytes size gate buffer n whole long is small value =
    let behind : take 8 (drop (gate + 1) bytes) ≡ take 8 (drop 1 buffer) = behind_gate bytes buffer gate is in
    record {
      gate_is = gate_by bytes gate (get_or buffer 0 0) (omega (arith, whole, long)) (first_byte bytes buffer gate 9 (omega arith) is);
      body = (omega (arith, whole, long), small, behind ∙ sym value);
    }

-- a gate with eight bytes behind it
pub long_head : (o : Option (List ℕ)) (size gate : ℕ) (buffer : List ℕ) (n : ℕ) → IfSome o (λ bytes. length bytes ≡ size) → gate + 9 ≤ size → IfSome o (λ bytes. buffer ≡ take 9 (drop gate bytes))
    → n < 18446744073709551616 → to_be_bytes w64 n ≡ take 8 (drop 1 buffer)
    → IfSome o (λ bytes. IsHead bytes gate (record { is_open = nat_eq (slice_index_or buffer 0 0) 1; length = Some n }))
long_head None size gate buffer n whole long is small value = tt
long_head (Some bytes) size gate buffer n whole long is small value = long_is bytes size gate buffer n whole long is small value
