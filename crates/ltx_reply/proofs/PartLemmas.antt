-- Keys and values against their spellings.
use Rattle.std.proofs.Common.{◌≡◌, ℕ, ◌<◌, ◌≤◌, ◌⊎◌, Bool, true, false, ◌&&◌, List, length, Some, None, refl, arith, inl, inr}
use Rattle.std.specs.Prelude.{nat_le}
use Rattle.ltx_text.specs.Readings.{bytes_of}
use Rattle.ltx_reply.specs.Readings.{key_at, value_at}

at_most : (a b : ℕ) → a ≤ b → nat_le a b ≡ true
at_most a b low = grind arith

above : (a b : ℕ) → b < a → nat_le a b ≡ false
above a b high = grind arith

last_false : (a b : Bool) → b ≡ false → (a && b) ≡ false
last_false true b e = e
last_false false b e = refl

pub no_key : (word : List ℕ) → bytes_of word ≡ None → key_at word ≡ None
no_key word e = rw e refl

pub key_some : (word bytes : List ℕ) → bytes_of word ≡ Some bytes → 0 < length bytes → length bytes ≤ 64 → key_at word ≡ Some bytes
key_some word bytes e some short = rw (e, at_most 1 (length bytes) (omega (arith, some)), at_most (length bytes) 64 short) refl

pub key_out : (word bytes : List ℕ) → bytes_of word ≡ Some bytes → (length bytes ≡ 0) ⊎ (64 < length bytes) → key_at word ≡ None
key_out word bytes e (inl none) = rw (e, above 1 (length bytes) (omega (arith, none))) refl
key_out word bytes e (inr long) = rw (e, above (length bytes) 64 long, last_false (nat_le 1 (length bytes)) false refl) refl

pub no_value : (word : List ℕ) → bytes_of word ≡ None → value_at word ≡ None
no_value word e = rw e refl

pub value_some : (word bytes : List ℕ) → bytes_of word ≡ Some bytes → length bytes ≤ 1024 → value_at word ≡ Some bytes
value_some word bytes e short = rw (e, at_most 0 (length bytes) (omega arith), at_most (length bytes) 1024 short) refl

pub value_out : (word bytes : List ℕ) → bytes_of word ≡ Some bytes → 1024 < length bytes → value_at word ≡ None
value_out word bytes e long = rw (e, above (length bytes) 1024 long, last_false (nat_le 0 (length bytes)) false refl) refl
