-- What stands in the spelling of a command, word by word.
use Rattle.std.proofs.Common.{◌≡◌, codes, inl, inr, ℕ, zero, suc, ◌+◌, ◌-◌, ◌<◌, ◌≤◌, List, [], ◌∷◌, ◌++◌, length, take, filter, Bool, true, false, cond, ◌==◌, refl, sym, ap, subst, ◌∙◌, append_assoc, append-nil, arith}
use Rattle.std.specs.List.{range_with_len}
use Rattle.ltx_model.specs.declared.commands.Op.TheVariants.{Get, Scan, Put, Del}
use Rattle.ltx_model.specs.declared.commands.Verb.{Verb}
use Rattle.ltx_model.specs.declared.commands.Verb.TheVariants as verbs
use Rattle.std.proofs.lemmas.Bool.{cases_lt}
use Rattle.ltx_model.specs.Tables.{has_table, all_tables, HasNoTable, IsLeastTable}
use Rattle.ltx_text.specs.Decimals.{decimal_of}
use Rattle.ltx_script.specs.Commands.{joined, commas, tables_of, tables_text, set_text, verb_words}

-- a verb's words follow a word and a space
pub asked : (word : List ℕ) (verb : Verb) → joined (word ∷ verb_words verb) ≡ word ++ 32 ∷ joined (verb_words verb)
asked word verbs.Short = refl
asked word (verbs.Long writes reads) = refl
asked word (verbs.Do (Get table key)) = refl
asked word (verbs.Do (Scan table low high)) = refl
asked word (verbs.Do (Put table key value)) = refl
asked word (verbs.Do (Del table key)) = refl
asked word verbs.Commit = refl
asked word verbs.Abort = refl

-- one number more, with its comma
pub commas_more : (a n : ℕ) (ns : List ℕ) → commas (a ∷ ns ++ n ∷ []) ≡ commas (a ∷ ns) ++ 44 ∷ decimal_of n
commas_more a n [] = refl
commas_more a n (b ∷ ns) = ap (λ l. decimal_of a ++ 44 ∷ l) (commas_more b n ns) ∙ sym (append_assoc (decimal_of a) (44 ∷ commas (b ∷ ns)) (44 ∷ decimal_of n))

pub range_more : (a n : ℕ) → range_with_len a (n + 1) ≡ range_with_len a n ++ (a + n) ∷ []
range_more a zero = ap (λ k. k ∷ []) (omega arith)
range_more a (suc n) =
    let at : a + 1 + n ≡ a + suc n = omega arith in
    let one : suc n + 1 ≡ suc (n + 1) = omega arith in
    ap (range_with_len a) one ∙ ap (λ l. a ∷ l) (range_more (a + 1) n ∙ ap (λ k. range_with_len (a + 1) n ++ k ∷ []) at)

pub filter_more : (p : ℕ → Bool) (xs : List ℕ) (n : ℕ) → filter p (xs ++ n ∷ []) ≡ filter p xs ++ cond (p n) (n ∷ []) []
filter_more p [] n = refl
filter_more p (x ∷ xs) n = by (p x) (filter_more p xs n)
  where
    by : (b : Bool) → filter p (xs ++ n ∷ []) ≡ filter p xs ++ cond (p n) (n ∷ []) [] → cond b (x ∷ filter p (xs ++ n ∷ [])) (filter p (xs ++ n ∷ [])) ≡ cond b (x ∷ filter p xs) (filter p xs) ++ cond (p n) (n ∷ []) []
    by true more = ap (λ l. x ∷ l) more
    by false more = more

-- the numbers of a set from the least on, before another
abbrev pub between : ℕ → ℕ → ℕ → List ℕ
between set least n = filter (has_table set) (range_with_len (least + 1) (n - (least + 1)))

next_range : (least n : ℕ) → least < n → range_with_len (least + 1) (n + 1 - (least + 1)) ≡ range_with_len (least + 1) (n - (least + 1)) ++ n ∷ []
next_range least n low =
    let one : n + 1 - (least + 1) ≡ n - (least + 1) + 1 = omega (arith, low) in
    let at : least + 1 + (n - (least + 1)) ≡ n = omega (arith, low) in
    rw one (range_more (least + 1) (n - (least + 1)) ∙ ap (λ k. range_with_len (least + 1) (n - (least + 1)) ++ k ∷ []) at)

-- the next number of a set
pub between_more : (set least n : ℕ) → least < n → commas (least ∷ between set least (n + 1)) ≡ commas (least ∷ between set least n) ++ cond (has_table set n) (44 ∷ decimal_of n) []
between_more set least n low =
    ap (λ l. commas (least ∷ l)) (ap (filter (has_table set)) (next_range least n low) ∙ filter_more (has_table set) _ n) ∙ by (has_table set n)
  where
    by : (b : Bool) → commas (least ∷ (between set least n ++ cond b (n ∷ []) [])) ≡ commas (least ∷ between set least n) ++ cond b (44 ∷ decimal_of n) []
    by true = commas_more least n (between set least n)
    by false = ap (λ l. commas (least ∷ l)) (append-nil (between set least n)) ∙ sym (append-nil (commas (least ∷ between set least n)))

pub member_step : (old mid new : List ℕ) (set least n table : ℕ) → mid ≡ old ++ commas (least ∷ between set least n) → least < n → table ≡ n
    → new ≡ mid ++ cond (has_table set table) (44 ∷ decimal_of table) [] → new ≡ old ++ commas (least ∷ between set least (n + 1))
member_step old mid new set least n table is low same more =
    subst (λ k. new ≡ mid ++ cond (has_table set k) (44 ∷ decimal_of k) []) same more
    ∙ ap (λ l. l ++ cond (has_table set n) (44 ∷ decimal_of n) []) is ∙ append_assoc old (commas (least ∷ between set least n)) (cond (has_table set n) (44 ∷ decimal_of n) [])
    ∙ ap (λ l. old ++ l) (sym (between_more set least n low))

pub member_start : (old new : List ℕ) (set least n first : ℕ) → n ≡ least → first ≡ least + 1 → new ≡ old ++ decimal_of n → new ≡ old ++ commas (least ∷ between set least first)
member_start old new set least n first same next is =
    let none : first - (least + 1) ≡ 0 = omega (arith, next) in
    is ∙ ap (λ k. old ++ decimal_of k) same ∙ ap (λ k. old ++ commas (least ∷ filter (has_table set) (range_with_len (least + 1) k))) (sym none)

pub member_end : (old new : List ℕ) (set least n : ℕ) → least < n → 64 ≤ n → n ≤ 64 → new ≡ old ++ commas (least ∷ between set least n)
    → new ≡ old ++ commas (least ∷ filter (has_table set) (range_with_len (least + 1) (63 - least)))
member_end old new set least n low past within is =
    let all : n - (least + 1) ≡ 63 - least = omega (arith, low, past, within) in
    is ∙ ap (λ k. old ++ commas (least ∷ filter (has_table set) (range_with_len (least + 1) k))) all

-- ---- sets

filter_none : (p : ℕ → Bool) (a n : ℕ) → ((k : ℕ) → a ≤ k → k < a + n → p k ≡ false) → filter p (range_with_len a n) ≡ []
filter_none p a zero none = refl
filter_none p a (suc n) none =
    rw (none a (omega arith) (omega arith)) (filter_none p (a + 1) n (λ k low high. none k (omega (arith, low)) (omega (arith, high))))

filter_first : (p : ℕ → Bool) (a n least rest : ℕ) → a ≤ least → least + 1 + rest ≡ a + n → p least ≡ true → ((k : ℕ) → a ≤ k → k < least → p k ≡ false)
    → filter p (range_with_len a n) ≡ least ∷ filter p (range_with_len (least + 1) rest)
filter_first p a zero least rest above within has none = absurd (omega (arith, above, within))
filter_first p a (suc n) least rest above within has none = elim (cases_lt a least) [
  | inl lt ↦ rw (none a (omega arith) lt) (filter_first p (a + 1) n least rest (omega (arith, lt)) (omega (arith, within)) has (λ k low high. none k (omega (arith, low)) high))
  | inr le ↦
      let at : a ≡ least = omega (arith, above, le) in
      let same : n ≡ rest = omega (arith, at, within) in
      rw (at, has, same) refl
]

pub set_by_tables : (set : ℕ) (ts : List ℕ) → (set == all_tables) ≡ false → tables_of set ≡ ts → set_text set ≡ tables_text ts
unfolding set_text
set_by_tables set ts other is = rw other (ap tables_text is)

pub no_tables_text : (set : ℕ) → (set == all_tables) ≡ false → HasNoTable set → set_text set ≡ codes "-"
unfolding tables_of
no_tables_text set other none = set_by_tables set [] other (filter_none (has_table set) 0 64 (λ k low high. none k high))

pub least_text : (set least : ℕ) → (set == all_tables) ≡ false → IsLeastTable set least → set_text set ≡ commas (least ∷ filter (has_table set) (range_with_len (least + 1) (63 - least)))
unfolding tables_of
least_text set least other is =
    let within : least + 1 + (63 - least) ≡ 64 = omega (arith, is.within) in
    set_by_tables set (least ∷ filter (has_table set) (range_with_len (least + 1) (63 - least))) other (filter_first (has_table set) 0 64 least (63 - least) (omega arith) within is.member (λ k low high. is.least k high))
