-- The spelling of a set of tables, read.
use Rattle.std.proofs.Common.{◌≡◌, ◌≢◌, ℕ, ◌+◌, ◌^◌, ◌<◌, Bool, true, false, ◌==◌, cond, List, [], ◌∷◌, ◌++◌, map, Option, Some, None, refl, sym, ap, subst, ◌∙◌, append_assoc, append-nil, arith, inl, inr}
use Rattle.std.specs.Prelude.{bytes_eq, fold, filter_map, codes, All}
use Rattle.std.specs.List.{join_with_byte, slice_split, onto_first, AllByRecursion}
use Rattle.std.specs.Str.Parse.{AllDigits}
use Rattle.std.specs.Int.{IsInRange}
use Rattle.std.proofs.lemmas.Bool.{cases_Bool}
use Rattle.std.proofs.lemmas.List.Elements.{All-from_recursion}
use Rattle.std.proofs.lemmas.List.Splits.{slice_split_at, slice_split_none, join_with_byte-slice_split}
use Rattle.std.proofs.lemmas.Str.Parse.{digit_from_value}
use Rattle.ltx_model.specs.Tables.{with_table, all_tables, no_tables}
use Rattle.ltx_text.specs.Decimals.{decimal_of, number_in}
use Rattle.ltx_text.proofs.DecimalLemmas.{decimal_digits}
use Rattle.ltx_script.specs.Commands.{commas, tables_of, tables_text, set_text}
use Rattle.ltx_script.specs.Lines.{named_tables, set_of}
use Rattle.ltx_text.specs.Cuts.{cut_at}
use Rattle.ltx_script.specs.Rising.{IsRisingFrom}
use Rattle.ltx_text.proofs.WordReadings.{same_bytes, other_bytes, text_is}
use Rattle.ltx_text.proofs.Numbers.{number_is, number_none, number_some}
use Rattle.ltx_script.proofs.SetLemmas.{NoneFrom, none_in_none, none_from_more, none_with, none_so_far, with_fits, tables_with, tables_rise, same_tables}

-- ---- cutting at commas

no_comma : (d : ℕ) → IsInRange 48 57 d → (d == 44) ≡ false
no_comma d range = grind arith

no_commas : (ds : List ℕ) → AllDigits 10 ds → AllByRecursion (λ d. (d == 44) ≡ false) ds
no_commas [] all = tt
no_commas (d ∷ ds) all = (no_comma d (digit_from_value d all.0), no_commas ds all.1)

decimal_has_no_comma : (t : ℕ) → t < 64 → All (λ d. (d == 44) ≡ false) (decimal_of t)
decimal_has_no_comma t low = All-from_recursion (λ d. (d == 44) ≡ false) (decimal_of t) (no_commas (decimal_of t) (decimal_digits (decimal_of t) t (omega (arith, low)) refl).0)

pub cut_commas : (least t : ℕ) (ts : List ℕ) → IsRisingFrom least (t ∷ ts) → cut_at 44 (commas (t ∷ ts)) ≡ map decimal_of (t ∷ ts)
unfolding cut_at
cut_commas least t [] rising = slice_split_none (λ b. b == 44) (decimal_of t) (decimal_has_no_comma t rising.1)
cut_commas least t (u ∷ ts) rising =
    slice_split_at (λ b. b == 44) (decimal_of t) 44 (commas (u ∷ ts)) (decimal_has_no_comma t rising.1) refl
    ∙ ap (λ l. decimal_of t ∷ l) (cut_commas (t + 1) u ts rising.2)

pub joined_parts : (byte : ℕ) (text : List ℕ) → join_with_byte byte (cut_at byte text) ≡ text
unfolding cut_at
joined_parts byte text = join_with_byte-slice_split byte text

-- ---- the named tables

read_named : (least : ℕ) (ts : List ℕ) → IsRisingFrom least ts → filter_map (number_in 0 64) (map decimal_of ts) ≡ ts
read_named least [] rising = refl
read_named least (t ∷ ts) rising =
    rw (number_some (decimal_of t) 0 64 t (omega arith) (omega (arith, rising.1)) (omega arith) refl) (ap (λ l. t ∷ l) (read_named (t + 1) ts rising.2))

-- a set, and rising tables behind those that it has
record Gathers (set : ℕ) (ts : List ℕ) : Type 0 where
  fits : fold with_table set ts < 2 ^ 64
  tables : tables_of (fold with_table set ts) ≡ tables_of set ++ ts

gather : (set least : ℕ) (ts : List ℕ) → set < 2 ^ 64 → NoneFrom set least → IsRisingFrom least ts → Gathers set ts
gather set least [] fits none rising = record { fits = fits; tables = sym (append-nil (tables_of set)) }
gather set least (t ∷ ts) fits none rising =
    let below = none_from_more set least t rising.0 none in
    let rest = gather (with_table set t) (t + 1) ts (with_fits set t fits rising.1) (none_with set t below) rising.2 in
    record {
      fits = rest.fits;
      tables = rest.tables ∙ ap (λ l. l ++ ts) (tables_with set t rising.1 below) ∙ append_assoc (tables_of set) (t ∷ []) ts;
    }

-- rising tables are those of one set
gathered : (set : ℕ) → set < 2 ^ 64 → fold with_table no_tables (tables_of set) ≡ set
gathered set fits =
    let all = gather no_tables 0 (tables_of set) (omega arith) (none_in_none 0) (tables_rise set) in
    same_tables (fold with_table no_tables (tables_of set)) set all.fits fits (all.tables ∙ ap (λ l. l ++ tables_of set) none_so_far)

pub named_set : (set : ℕ) (text : List ℕ) → set < 2 ^ 64 → cut_at 44 text ≡ map decimal_of (tables_of set) → named_tables text ≡ set
named_set set text fits e = ap (λ parts. fold with_table no_tables (filter_map (number_in 0 64) parts)) e ∙ ap (fold with_table no_tables) (read_named 0 (tables_of set) (tables_rise set)) ∙ gathered set fits

fold_fits : (set : ℕ) (parts : List (List ℕ)) → set < 2 ^ 64 → fold with_table set (filter_map (number_in 0 64) parts) < 2 ^ 64
fold_fits set [] fits = fits
fold_fits set (part ∷ parts) fits = go (number_in 0 64 part) refl (λ s small. fold_fits s parts small)
  where
    go : (o : Option ℕ) → number_in 0 64 part ≡ o → ((s : ℕ) → s < 2 ^ 64 → fold with_table s (filter_map (number_in 0 64) parts) < 2 ^ 64)
        → fold with_table set (filter_map (number_in 0 64) (part ∷ parts)) < 2 ^ 64
    go None e rest = rw e (rest set fits)
    go (Some t) e rest = let n = number_is part 0 64 t e in rw e (rest (with_table set t) (with_fits set t fits (omega (arith, n.high))))

-- ---- the signs for all tables and for none

no_sign : (sign t : ℕ) → sign < 48 → t < 64 → sign ∷ [] ≢ decimal_of t
no_sign sign t low small is =
    let digits = decimal_digits (sign ∷ []) t (omega (arith, small)) is in
    let range = digit_from_value sign digits.0.0 in
    out range
  where
    out : IsInRange 48 57 sign → ⊥
    out range = grind (arith, low)

-- a sign names no table
sign_names_none : (sign : ℕ) → sign < 48 → number_in 0 64 (sign ∷ []) ≡ None
sign_names_none sign low = number_none (sign ∷ []) 0 64 (λ n from small. no_sign sign n low (omega (arith, small)))

dash_is_one_part : cut_at 44 (codes "-") ≡ codes "-" ∷ []
unfolding cut_at
dash_is_one_part = refl

star_is_one_part : cut_at 44 (codes "*") ≡ codes "*" ∷ []
unfolding cut_at
star_is_one_part = refl

pub all_text : set_text all_tables ≡ codes "*"
unfolding set_text
all_text = refl

pub none_text : set_text no_tables ≡ codes "-"
unfolding set_text
none_text = ap tables_text none_so_far

pub is_all : (set : ℕ) → (set == all_tables) ≡ true → set ≡ all_tables
is_all set e = grind (arith, e)

pub other_text : (set : ℕ) → (set == all_tables) ≡ false → set_text set ≡ tables_text (tables_of set)
unfolding set_text
other_text set e = rw e refl

names_none : (text : List ℕ) (least t : ℕ) (ts : List ℕ) → number_in 0 64 text ≡ None → cut_at 44 text ≡ text ∷ [] → IsRisingFrom least (t ∷ ts) → text ≢ commas (t ∷ ts)
names_none text least t ts none one rising is =
    let parts : text ∷ [] ≡ decimal_of t ∷ map decimal_of ts = sym one ∙ ap (cut_at 44) is ∙ cut_commas least t ts rising in
    let at : text ≡ decimal_of t = cc in
    let found : None ≡ Some t = sym none ∙ number_some text 0 64 t (omega arith) (omega (arith, rising.1)) (omega arith) at in
    absurd cc

no_sign_text : (text ts : List ℕ) → number_in 0 64 text ≡ None → cut_at 44 text ≡ text ∷ [] → text ≢ codes "-" → IsRisingFrom 0 ts → text ≢ tables_text ts
no_sign_text text [] none one other rising e = other e
no_sign_text text (t ∷ ts) none one other rising e = names_none text 0 t ts none one rising e

star_is_no_dash : codes "*" ≢ codes "-"
star_is_no_dash e = absurd cc

tables_text_is_no_star : (text ts : List ℕ) → text ≡ codes "*" → IsRisingFrom 0 ts → text ≢ tables_text ts
tables_text_is_no_star text ts star rising =
    no_sign_text text ts (ap (number_in 0 64) star ∙ sign_names_none 42 (omega arith)) (ap (cut_at 44) star ∙ star_is_one_part ∙ ap (λ w. w ∷ []) (sym star))
    (λ e. star_is_no_dash (sym star ∙ e)) rising

-- ---- reading the spelling of a set

-- the named tables of a spelling without a sign for all
named_by_text : (set : ℕ) (ts : List ℕ) → set < 2 ^ 64 → tables_of set ≡ ts → IsRisingFrom 0 ts → named_tables (tables_text ts) ≡ set
named_by_text set [] fits are rising =
    let none : named_tables (codes "-") ≡ no_tables = ap (λ parts. fold with_table no_tables (filter_map (number_in 0 64) parts)) dash_is_one_part ∙ rw (sign_names_none 45 (omega arith)) refl in
    none ∙ same_tables no_tables set (omega arith) fits (none_so_far ∙ sym are)
named_by_text set (t ∷ ts) fits are rising = named_set set (commas (t ∷ ts)) fits (cut_commas 0 t ts rising ∙ ap (map decimal_of) (sym are))

pub set_again : (set : ℕ) (text : List ℕ) → set < 2 ^ 64 → text ≡ set_text set → set_of text ≡ Some set
unfolding set_of
set_again set text fits is = elim (cases_Bool (set == all_tables)) [
  | inl e1 ↦
      let at = is_all set e1 in
      rw (same_bytes text (codes "*") (is ∙ ap set_text at ∙ all_text)) (ap (λ s. Some s) (sym at))
  | inr e0 ↦
      let text_of = is ∙ other_text set e0 in
      let no_star : bytes_eq text (codes "*") ≡ false = other_bytes text (codes "*") (λ e. tables_text_is_no_star text (tables_of set) e (tables_rise set) text_of) in
      let named : named_tables text ≡ set = ap named_tables text_of ∙ named_by_text set (tables_of set) fits refl (tables_rise set) in
      rw (no_star, named, same_bytes (set_text set) text (sym is)) refl
]

-- the set that was read has this spelling
pub record IsSetOf (text : List ℕ) (set : ℕ) : Type 0 where
  pub fits : set < 2 ^ 64
  pub is : text ≡ set_text set

pub set_is : (text : List ℕ) (set : ℕ) → set_of text ≡ Some set → IsSetOf text set
unfolding set_of
set_is text set e = elim (cases_Bool (bytes_eq text (codes "*"))) [
  | inl e1 ↦
      let found : Some all_tables ≡ Some set = (rw e1 at e) in
      let at : all_tables ≡ set = cc in
      subst (IsSetOf text) at (record { fits = omega arith; is = text_is text (codes "*") e1 ∙ sym all_text })
  | inr e0 ↦ elim (cases_Bool (bytes_eq (set_text (named_tables text)) text)) [
    | inl e2 ↦
        let found : Some (named_tables text) ≡ Some set = (rw (e0, e2) at e) in
        let at : named_tables text ≡ set = cc in
        subst (IsSetOf text) at (record { fits = fold_fits no_tables (cut_at 44 text) (omega arith); is = sym (text_is (set_text (named_tables text)) text e2) })
    | inr e3 ↦ let found : None ≡ Some set = (rw (e0, e3) at e) in absurd cc
  ]
]

no_set_by : (text : List ℕ) (read : Option ℕ) → set_of text ≡ read → ((set : ℕ) → set < 2 ^ 64 → text ≢ set_text set) → set_of text ≡ None
no_set_by text None e none = e
no_set_by text (Some set) e none = let is = set_is text set e in absurd (none set is.fits is.is)

pub no_set : (text : List ℕ) → ((set : ℕ) → set < 2 ^ 64 → text ≢ set_text set) → set_of text ≡ None
no_set text none = no_set_by text (set_of text) refl none

-- a text without a sign is the tables of one set, cut at the commas
tables_cut : (text ts : List ℕ) → text ≢ codes "-" → IsRisingFrom 0 ts → text ≡ tables_text ts → cut_at 44 text ≡ map decimal_of ts
tables_cut text [] other rising is = absurd (other is)
tables_cut text (t ∷ ts) other rising is = ap (cut_at 44) is ∙ cut_commas 0 t ts rising

plain_set : (text : List ℕ) (set : ℕ) → text ≢ codes "*" → text ≢ codes "-" → text ≡ set_text set → cut_at 44 text ≡ map decimal_of (tables_of set)
plain_set text set no_star no_dash is = elim (cases_Bool (set == all_tables)) [
  | inl e1 ↦ absurd (no_star (is ∙ ap set_text (is_all set e1) ∙ all_text))
  | inr e0 ↦ tables_cut text (tables_of set) no_dash (tables_rise set) (is ∙ other_text set e0)
]

-- where no rising tables are named, there is no set
pub unnamed : (text : List ℕ) → text ≢ codes "*" → text ≢ codes "-" → ((ts : List ℕ) → IsRisingFrom 0 ts → cut_at 44 text ≢ map decimal_of ts) → set_of text ≡ None
unnamed text no_star no_dash none = no_set text (λ set fits is. none (tables_of set) (tables_rise set) (plain_set text set no_star no_dash is))

-- all tables are not named one by one
pub all_named : (text : List ℕ) → text ≢ codes "*" → text ≢ codes "-" → cut_at 44 text ≡ map decimal_of (tables_of all_tables) → set_of text ≡ None
all_named text no_star no_dash are = no_set text (λ set fits is.
    let at : all_tables ≡ set = sym (named_set all_tables text (omega arith) are) ∙ named_set set text fits (plain_set text set no_star no_dash is) in
    no_star (is ∙ ap set_text (sym at) ∙ all_text))

pub cut_is_some : (byte : ℕ) (text : List ℕ) → cut_at byte text ≢ []
unfolding cut_at
cut_is_some byte [] e = absurd cc
cut_is_some byte (b ∷ text) e = by (b == byte) (slice_split (λ c. c == byte) text) e
  where
    by : (test : Bool) (parts : List (List ℕ)) → cond test ([] ∷ parts) (onto_first b parts) ≡ [] → ⊥
    by true parts e = absurd cc
    by false [] e = absurd cc
    by false (part ∷ parts) e = absurd cc

text_by_tables : (text ts : List ℕ) → cut_at 44 text ≡ map decimal_of ts → text ≡ tables_text ts
text_by_tables text [] are = absurd (cut_is_some 44 text are)
text_by_tables text (t ∷ ts) are = sym (joined_parts 44 text) ∙ ap (join_with_byte 44) are

pub tables_named : (text : List ℕ) (set : ℕ) → set < 2 ^ 64 → (set == all_tables) ≡ false → cut_at 44 text ≡ map decimal_of (tables_of set) → set_of text ≡ Some set
tables_named text set fits e0 are = set_again set text fits (text_by_tables text (tables_of set) are ∙ sym (other_text set e0))
