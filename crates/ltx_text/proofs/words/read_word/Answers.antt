use Rattle.std.proofs.Common.{◌≡◌, ◌≢◌, ◌∷◌, [], ◌<◌, ℕ, List, Result, Ok, Err, Option, Some, None, Vec, Global, IfOk, IfNone, ◌∙◌, sym, ap, arith, length, rules}
use Rattle.ltx_model.specs.declared.memory.NoMemory.{NoMemory}
use Rattle.ltx_text.specs.Words.{spellings, word_of}
use Rattle.ltx_model.specs.Limits.{AreBytes}
use Rattle.ltx_text.proofs.WordLemmas.{is_other, plain_word, word_is_some, word_of_others}
use Rattle.ltx_text.proofs.words.read_word.Goals as goal

pub returns-then-is_empty-clause-none : goal.returns-then-is_empty-clause-none
returns-then-is_empty-clause-none c =
    let none : length c.args.word.now ≡ 0 = search rules in
    λ bytes low same. omega (arith, none, ap length same, word_is_some bytes)

pub returns-then-are_plain-clause-found : goal.returns-then-are_plain-clause-found
returns-then-are_plain-clause-found c =
    let some : 0 < length c.args.word.now = search rules in
    sym (plain_word c.args.word.now some (sym c.are_plain.ensures ∙ c.if-are_plain.true)) ∙ ap word_of (sym c.in_ok-from_slice.ensures.items)

-- what is no spellings is no word, but for `%`
none_of_word : (word : List ℕ) (r : Result (Option (Vec ℕ Global)) NoMemory) → word ≢ 37 ∷ []
    → IfOk r (λ found. IfNone found ((bytes : List ℕ) → AreBytes bytes → word ≢ spellings bytes))
    → IfOk r (λ found. IfNone found ((bytes : List ℕ) → AreBytes bytes → word ≢ word_of bytes))
none_of_word word (Ok (Some v)) other none = tt
none_of_word word (Ok None) other none = λ bytes low same. none bytes low (word_of_others word bytes other same)
none_of_word word (Err e) other none = tt

pub returns-clause-none : goal.returns-clause-none
returns-clause-none c =
    none_of_word c.args.word.now c.read_spellings.result (is_other c.args.word.now c.as_slice.result.now c.as_slice.ensures c.if-eq.ensures) c.read_spellings.ensures.none
