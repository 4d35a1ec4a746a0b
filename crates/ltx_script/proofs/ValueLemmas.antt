-- Keys, ends of scans and values against their spellings.
use Rattle.std.proofs.Common.{◌≡◌, ◌≢◌, ℕ, zero, suc, ◌+◌, ◌^◌, ◌<◌, ◌≤◌, ◌⊎◌, List, [], ◌∷◌, length, Some, None, Ok, refl, sym, ap, ◌∙◌, arith, inl, inr}
use Rattle.std.specs.Prelude.{bytes_eq, Err}
use Rattle.std.proofs.lemmas.Bool.{cases_Bool, cases_lt, le-ltb, lt-ltb}
use Rattle.ltx_model.specs.declared.commands.Bad.TheVariants as causes
use Rattle.ltx_text.specs.Readings.{bytes_of}
use Rattle.ltx_text.specs.Decimals.{decimal_of, number_in}
use Rattle.ltx_text.proofs.DecimalLemmas.{decimal_spelling_injective}
use Rattle.ltx_text.proofs.WordReadings.{text_is, same_bytes, other_bytes}
use Rattle.ltx_script.specs.Lines.{key_at, bound_at, value_at}

pub no_key : (word : List ℕ) → bytes_of word ≡ None → key_at word ≡ Err causes.Key
no_key word e = rw e refl

pub key_some : (word bytes : List ℕ) → bytes_of word ≡ Some bytes → 0 < length bytes → length bytes ≤ 64 → key_at word ≡ Ok bytes
key_some word [] e some short = absurd (omega (arith, some))
key_some word (b ∷ bytes) e some short = rw (e, le-ltb 64 (length (b ∷ bytes)) short) refl

pub key_out : (word bytes : List ℕ) → bytes_of word ≡ Some bytes → (length bytes ≡ 0) ⊎ (64 < length bytes) → key_at word ≡ Err causes.Key
key_out word [] e out = rw e refl
key_out word (b ∷ bytes) e (inl none) = absurd (omega (arith, none))
key_out word (b ∷ bytes) e (inr long) = rw (e, lt-ltb 64 (length (b ∷ bytes)) long) refl

pub no_bound : (word : List ℕ) → bytes_of word ≡ None → bound_at word ≡ Err causes.Key
no_bound word e = rw e refl

pub bound_some : (word bytes : List ℕ) → bytes_of word ≡ Some bytes → length bytes ≤ 64 → bound_at word ≡ Ok bytes
bound_some word bytes e short = rw (e, le-ltb 64 (length bytes) short) refl

pub bound_out : (word bytes : List ℕ) → bytes_of word ≡ Some bytes → 64 < length bytes → bound_at word ≡ Err causes.Key
bound_out word bytes e long = rw (e, lt-ltb 64 (length bytes) long) refl

pub no_value : (word : List ℕ) → bytes_of word ≡ None → value_at word ≡ Err causes.Value
no_value word e = rw e refl

pub value_some : (word bytes : List ℕ) → bytes_of word ≡ Some bytes → length bytes ≤ 1024 → value_at word ≡ Ok bytes
value_some word bytes e short = rw (e, le-ltb 1024 (length bytes) short) refl

pub value_out : (word bytes : List ℕ) → bytes_of word ≡ Some bytes → 1024 < length bytes → value_at word ≡ Err causes.Value
value_out word bytes e long = rw (e, lt-ltb 1024 (length bytes) long) refl
