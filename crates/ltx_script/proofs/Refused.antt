-- What was refused has this cause.
use Rattle.std.proofs.Common.{◌≡◌, ◌≢◌, ℕ, suc, ◌^◌, ◌<◌, ◌⊎◌, true, false, ◌==◌, List, [], ◌∷◌, ◌++◌, length, Option, Some, None, Result, Ok, Err, refl, sym, ap, subst, ◌∙◌, arith, inl, inr}
use Rattle.std.specs.Prelude.{bytes_eq, nat_lt, codes, ok_or}
use Rattle.std.specs.List.{list_all}
use Rattle.std.proofs.lemmas.Bool.{ltb-false, ltb-true}
use Rattle.ltx_model.specs.declared.commands.Op.TheVariants.{Get, Scan, Put, Del}
use Rattle.ltx_model.specs.declared.commands.Verb.{Verb}
use Rattle.ltx_model.specs.declared.commands.Verb.TheVariants as verbs
use Rattle.ltx_model.specs.declared.commands.Command.{Command}
use Rattle.ltx_model.specs.declared.commands.Command.TheVariants as commands
use Rattle.ltx_model.specs.declared.commands.Bad.{Bad}
use Rattle.ltx_model.specs.declared.commands.Bad.TheVariants as causes
use Rattle.ltx_model.specs.Tables.{all_tables}
use Rattle.ltx_script.specs.Commands.{set_text}
use Rattle.ltx_script.specs.Causes.{Argument, ATable, AKey, ABound, AValue, AWrites, AReads, IsSpelling, forms_of, form_of, VerbCause, unknown, miscounted, misspelt, IsControl, IsSession, WordsCause, word_behind, no_session, silent, by_verb, IsCause, too_long, no_words, by_words}
use Rattle.ltx_text.specs.Readings.{bytes_of}
use Rattle.ltx_script.specs.Lines.{is_word, within, unless_empty, marked, unless_all, ◌>>=◌, session_at, table_at, key_at, bound_at, value_at, writes_at, reads_at, alone, one_or_two, two, three, long_at, get_at, scan_at, put_at, del_at, verb_at, asked_at, ask_at, command_at, said_at, most_bytes, reading}
use Rattle.ltx_text.specs.Cuts.{cut_at, words_of}
use Rattle.ltx_text.specs.Decimals.{number_in}
use Rattle.ltx_text.proofs.WordReadings.{text_is, same_bytes}
use Rattle.ltx_script.proofs.SetTexts.{cut_is_some}
use Rattle.ltx_script.proofs.Readings.{chosen, table_is, session_is, key_is, bound_is, writes_are}
use Rattle.ltx_script.proofs.Spelt.{table_again, session_again, key_again, bound_again, value_again, writes_again, reads_again}

abbrev refused : {A : Type 0} → Bad → Result A Bad
refused cause = Err cause

pub err_is : {A : Type 0} (x y : Bad) → refused {A = A} x ≡ refused {A = A} y → x ≡ y
err_is x y e = cc

pub no_ok : {A : Type 0} (x : A) (cause : Bad) → Ok x ≡ refused {A = A} cause → ⊥
no_ok x cause e = absurd cc

-- the cause where there is none
none_cause : {A : Type 0} (o : Option A) (c cause : Bad) → ok_or o c ≡ Err cause → c ≡ cause
none_cause {A = A} None c cause e = err_is {A = A} c cause e
none_cause (Some x) c cause e = absurd (no_ok x cause e)

-- which of two steps was refused
bind_err : {A B : Type 0} (r : Result A Bad) (f : A → Result B Bad) (cause : Bad) → (r >>= f) ≡ Err cause → (r ≡ Err cause) ⊎ ((x : A) × (r ≡ Ok x) × (f x ≡ Err cause))
bind_err (Ok x) f cause e = inr (x, refl, e)
bind_err {A = A} {B = B} (Err c) f cause e = inl (ap (refused {A = A}) (err_is {A = B} c cause e))

clash : {A : Type 0} (r : Result A Bad) (x : A) (cause : Bad) → r ≡ Ok x → r ≡ Err cause → ⊥
clash r x cause ok err = no_ok x cause (sym ok ∙ err)

-- ---- arguments: a step that is refused is no spelling, and has this cause; one that is not is a spelling

pub no_table : (word : List ℕ) (cause : Bad) → table_at word ≡ Err cause → (IsSpelling ATable word → ⊥) × (causes.Table ≡ cause)
no_table word cause e = (λ s. clash (table_at word) s.0 cause (ap table_at s.2 ∙ table_again s.0 s.1) e, none_cause (number_in 0 64 word) causes.Table cause e)

pub a_table : (word : List ℕ) (table : ℕ) → table_at word ≡ Ok table → IsSpelling ATable word
a_table word table e = let is = table_is word table e in (table, is.0, is.1)

pub no_key : (word : List ℕ) (cause : Bad) → key_at word ≡ Err cause → (IsSpelling AKey word → ⊥) × (causes.Key ≡ cause)
no_key word cause e = (λ s. clash (key_at word) s.0 cause (ap key_at s.2 ∙ key_again s.0 s.1) e, none_cause (unless_empty (within 64 (bytes_of word))) causes.Key cause e)

pub a_key : (word key : List ℕ) → key_at word ≡ Ok key → IsSpelling AKey word
a_key word key e = let is = key_is word key e in (key, is.0, is.1)

pub no_bound : (word : List ℕ) (cause : Bad) → bound_at word ≡ Err cause → (IsSpelling ABound word → ⊥) × (causes.Key ≡ cause)
no_bound word cause e = (λ s. clash (bound_at word) s.0 cause (ap bound_at s.2 ∙ bound_again s.0 s.1) e, none_cause (within 64 (bytes_of word)) causes.Key cause e)

pub a_bound : (word bound : List ℕ) → bound_at word ≡ Ok bound → IsSpelling ABound word
a_bound word bound e = let is = bound_is word bound e in (bound, is.0, is.1)

pub no_value : (word : List ℕ) (cause : Bad) → value_at word ≡ Err cause → (IsSpelling AValue word → ⊥) × (causes.Value ≡ cause)
no_value word cause e = (λ s. clash (value_at word) s.0 cause (ap value_at s.2 ∙ value_again s.0 s.1) e, none_cause (within 1024 (bytes_of word)) causes.Value cause e)

pub no_writes : (word : List ℕ) (cause : Bad) → writes_at word ≡ Err cause → (IsSpelling AWrites word → ⊥) × (causes.Sets ≡ cause)
no_writes word cause e = (λ s. clash (writes_at word) s.0 cause (ap writes_at s.2 ∙ writes_again s.0 s.1) e, none_cause (marked (codes "W=") word) causes.Sets cause e)

pub a_write : (word : List ℕ) (set : ℕ) → writes_at word ≡ Ok set → IsSpelling AWrites word
a_write word set e = let is = writes_are word set e in (set, is.0, is.1)

pub other_set : (set : ℕ) → set ≢ all_tables → (set == all_tables) ≡ false
other_set set other = grind (arith, other)

pub reads_spelt : (word : List ℕ) (set : ℕ) → word ≡ codes "R=" ++ set_text set → set < 2 ^ 64 → set ≢ all_tables → reads_at (Some word) ≡ Ok set
reads_spelt word set is fits other = ap (λ w. reads_at (Some w)) is ∙ reads_again set fits (other_set set other)

pub no_reads : (word : List ℕ) (cause : Bad) → reads_at (Some word) ≡ Err cause → (IsSpelling AReads word → ⊥) × (causes.Sets ≡ cause)
no_reads word cause e = (λ s. clash (reads_at (Some word)) s.0 cause (reads_spelt word s.0 s.3 s.1 s.2) e, none_cause (unless_all (marked (codes "R=") word)) causes.Sets cause e)

-- ---- verbs

-- a form with other arguments
pub fewer_more : (n : ℕ) → (0 == suc n) ≡ false
fewer_more n = grind arith

pub one_more : (n : ℕ) → (1 == suc (suc n)) ≡ false
one_more n = grind arith

pub two_more : (n : ℕ) → (2 == suc (suc (suc n))) ≡ false
two_more n = grind arith

pub three_more : (n : ℕ) → (3 == suc (suc (suc (suc n)))) ≡ false
three_more n = grind arith

words_cause : (verb : List ℕ) (args : List (List ℕ)) (cause : Bad) → forms_of verb ≢ [] → form_of verb (length args) ≡ None → causes.Words ≡ cause → VerbCause verb args cause
words_cause verb args cause some none is = subst (VerbCause verb args) is (miscounted some none)

some_forms : (verb : List ℕ) (form : List Argument) (more : List (List Argument)) → forms_of verb ≡ form ∷ more → forms_of verb ≢ []
some_forms verb form more is none = let e : form ∷ more ≡ [] = sym is ∙ none in absurd cc

bare_cause : (verb : List ℕ) (args : List (List ℕ)) (bare : Verb) (cause : Bad) → forms_of verb ≢ [] → ((n : ℕ) → form_of verb (suc n) ≡ None) → alone args bare ≡ Err cause → VerbCause verb args cause
bare_cause verb [] bare cause some none e = absurd (no_ok bare cause e)
bare_cause verb (w ∷ args) bare cause some none e = words_cause verb (w ∷ args) cause some (none (length args)) (err_is {A = Verb} causes.Words cause e)

short_cause : (args : List (List ℕ)) (cause : Bad) → alone args verbs.Short ≡ Err cause → VerbCause (codes "short") args cause
unfolding forms_of form_of
short_cause args cause e = bare_cause (codes "short") args verbs.Short cause (some_forms (codes "short") [] [] refl) (λ n. rw (fewer_more n) refl) e

commit_cause : (args : List (List ℕ)) (cause : Bad) → alone args verbs.Commit ≡ Err cause → VerbCause (codes "commit") args cause
unfolding forms_of form_of
commit_cause args cause e = bare_cause (codes "commit") args verbs.Commit cause (some_forms (codes "commit") [] [] refl) (λ n. rw (fewer_more n) refl) e

abort_cause : (args : List (List ℕ)) (cause : Bad) → alone args verbs.Abort ≡ Err cause → VerbCause (codes "abort") args cause
unfolding forms_of form_of
abort_cause args cause e = bare_cause (codes "abort") args verbs.Abort cause (some_forms (codes "abort") [] [] refl) (λ n. rw (fewer_more n) refl) e

get_cause : (args : List (List ℕ)) (cause : Bad) → get_at args ≡ Err cause → VerbCause (codes "get") args cause
unfolding get_at two forms_of form_of
get_cause [] cause e = words_cause (codes "get") [] cause (some_forms (codes "get") (ATable ∷ AKey ∷ []) [] refl) refl (err_is {A = Verb} causes.Words cause e)
get_cause (a ∷ []) cause e = words_cause (codes "get") (a ∷ []) cause (some_forms (codes "get") (ATable ∷ AKey ∷ []) [] refl) refl (err_is {A = Verb} causes.Words cause e)
get_cause (a ∷ b ∷ []) cause e = elim (bind_err (table_at a) (λ table. key_at b >>= (λ key. Ok (verbs.Do (Get table key)))) cause e) [
  | inl t ↦ misspelt (ATable ∷ AKey ∷ []) refl (inl (no_table a cause t))
  | inr t ↦ elim (bind_err (key_at b) (λ key. Ok (verbs.Do (Get t.0 key))) cause t.2) [
    | inl k ↦ misspelt (ATable ∷ AKey ∷ []) refl (inr (a_table a t.0 t.1, inl (no_key b cause k)))
    | inr k ↦ absurd (no_ok (verbs.Do (Get t.0 k.0)) cause k.2)
  ]
]
get_cause (a ∷ b ∷ c ∷ args) cause e =
    words_cause (codes "get") (a ∷ b ∷ c ∷ args) cause (some_forms (codes "get") (ATable ∷ AKey ∷ []) [] refl) (rw (two_more (length args)) refl) (err_is {A = Verb} causes.Words cause e)

del_cause : (args : List (List ℕ)) (cause : Bad) → del_at args ≡ Err cause → VerbCause (codes "del") args cause
unfolding del_at two forms_of form_of
del_cause [] cause e = words_cause (codes "del") [] cause (some_forms (codes "del") (ATable ∷ AKey ∷ []) [] refl) refl (err_is {A = Verb} causes.Words cause e)
del_cause (a ∷ []) cause e = words_cause (codes "del") (a ∷ []) cause (some_forms (codes "del") (ATable ∷ AKey ∷ []) [] refl) refl (err_is {A = Verb} causes.Words cause e)
del_cause (a ∷ b ∷ []) cause e = elim (bind_err (table_at a) (λ table. key_at b >>= (λ key. Ok (verbs.Do (Del table key)))) cause e) [
  | inl t ↦ misspelt (ATable ∷ AKey ∷ []) refl (inl (no_table a cause t))
  | inr t ↦ elim (bind_err (key_at b) (λ key. Ok (verbs.Do (Del t.0 key))) cause t.2) [
    | inl k ↦ misspelt (ATable ∷ AKey ∷ []) refl (inr (a_table a t.0 t.1, inl (no_key b cause k)))
    | inr k ↦ absurd (no_ok (verbs.Do (Del t.0 k.0)) cause k.2)
  ]
]
del_cause (a ∷ b ∷ c ∷ args) cause e =
    words_cause (codes "del") (a ∷ b ∷ c ∷ args) cause (some_forms (codes "del") (ATable ∷ AKey ∷ []) [] refl) (rw (two_more (length args)) refl) (err_is {A = Verb} causes.Words cause e)

scan_cause : (args : List (List ℕ)) (cause : Bad) → scan_at args ≡ Err cause → VerbCause (codes "scan") args cause
unfolding scan_at three forms_of form_of
scan_cause [] cause e = words_cause (codes "scan") [] cause (some_forms (codes "scan") (ATable ∷ ABound ∷ ABound ∷ []) [] refl) refl (err_is {A = Verb} causes.Words cause e)
scan_cause (a ∷ []) cause e = words_cause (codes "scan") (a ∷ []) cause (some_forms (codes "scan") (ATable ∷ ABound ∷ ABound ∷ []) [] refl) refl (err_is {A = Verb} causes.Words cause e)
scan_cause (a ∷ b ∷ []) cause e = words_cause (codes "scan") (a ∷ b ∷ []) cause (some_forms (codes "scan") (ATable ∷ ABound ∷ ABound ∷ []) [] refl) refl (err_is {A = Verb} causes.Words cause e)
scan_cause (a ∷ b ∷ c ∷ []) cause e = elim (bind_err (table_at a) (λ table. bound_at b >>= (λ low. bound_at c >>= (λ high. Ok (verbs.Do (Scan table low high))))) cause e) [
  | inl t ↦ misspelt (ATable ∷ ABound ∷ ABound ∷ []) refl (inl (no_table a cause t))
  | inr t ↦ elim (bind_err (bound_at b) (λ low. bound_at c >>= (λ high. Ok (verbs.Do (Scan t.0 low high)))) cause t.2) [
    | inl l ↦ misspelt (ATable ∷ ABound ∷ ABound ∷ []) refl (inr (a_table a t.0 t.1, inl (no_bound b cause l)))
    | inr l ↦ elim (bind_err (bound_at c) (λ high. Ok (verbs.Do (Scan t.0 l.0 high))) cause l.2) [
      | inl h ↦ misspelt (ATable ∷ ABound ∷ ABound ∷ []) refl (inr (a_table a t.0 t.1, inr (a_bound b l.0 l.1, inl (no_bound c cause h))))
      | inr h ↦ absurd (no_ok (verbs.Do (Scan t.0 l.0 h.0)) cause h.2)
    ]
  ]
]
scan_cause (a ∷ b ∷ c ∷ d ∷ args) cause e =
    words_cause (codes "scan") (a ∷ b ∷ c ∷ d ∷ args) cause (some_forms (codes "scan") (ATable ∷ ABound ∷ ABound ∷ []) [] refl) (rw (three_more (length args)) refl) (err_is {A = Verb} causes.Words cause e)

put_cause : (args : List (List ℕ)) (cause : Bad) → put_at args ≡ Err cause → VerbCause (codes "put") args cause
unfolding put_at three forms_of form_of
put_cause [] cause e = words_cause (codes "put") [] cause (some_forms (codes "put") (ATable ∷ AKey ∷ AValue ∷ []) [] refl) refl (err_is {A = Verb} causes.Words cause e)
put_cause (a ∷ []) cause e = words_cause (codes "put") (a ∷ []) cause (some_forms (codes "put") (ATable ∷ AKey ∷ AValue ∷ []) [] refl) refl (err_is {A = Verb} causes.Words cause e)
put_cause (a ∷ b ∷ []) cause e = words_cause (codes "put") (a ∷ b ∷ []) cause (some_forms (codes "put") (ATable ∷ AKey ∷ AValue ∷ []) [] refl) refl (err_is {A = Verb} causes.Words cause e)
put_cause (a ∷ b ∷ c ∷ []) cause e = elim (bind_err (table_at a) (λ table. key_at b >>= (λ key. value_at c >>= (λ value. Ok (verbs.Do (Put table key value))))) cause e) [
  | inl t ↦ misspelt (ATable ∷ AKey ∷ AValue ∷ []) refl (inl (no_table a cause t))
  | inr t ↦ elim (bind_err (key_at b) (λ key. value_at c >>= (λ value. Ok (verbs.Do (Put t.0 key value)))) cause t.2) [
    | inl k ↦ misspelt (ATable ∷ AKey ∷ AValue ∷ []) refl (inr (a_table a t.0 t.1, inl (no_key b cause k)))
    | inr k ↦ elim (bind_err (value_at c) (λ value. Ok (verbs.Do (Put t.0 k.0 value))) cause k.2) [
      | inl v ↦ misspelt (ATable ∷ AKey ∷ AValue ∷ []) refl (inr (a_table a t.0 t.1, inr (a_key b k.0 k.1, inl (no_value c cause v))))
      | inr v ↦ absurd (no_ok (verbs.Do (Put t.0 k.0 v.0)) cause v.2)
    ]
  ]
]
put_cause (a ∷ b ∷ c ∷ d ∷ args) cause e =
    words_cause (codes "put") (a ∷ b ∷ c ∷ d ∷ args) cause (some_forms (codes "put") (ATable ∷ AKey ∷ AValue ∷ []) [] refl) (rw (three_more (length args)) refl) (err_is {A = Verb} causes.Words cause e)

long_cause : (args : List (List ℕ)) (cause : Bad) → long_at args ≡ Err cause → VerbCause (codes "long") args cause
unfolding long_at one_or_two forms_of form_of
long_cause [] cause e = words_cause (codes "long") [] cause (some_forms (codes "long") (AWrites ∷ []) ((AWrites ∷ AReads ∷ []) ∷ []) refl) refl (err_is {A = Verb} causes.Words cause e)
long_cause (a ∷ []) cause e = elim (bind_err (writes_at a) (λ writes. Ok (verbs.Long writes all_tables)) cause e) [
  | inl w ↦ misspelt (AWrites ∷ []) refl (inl (no_writes a cause w))
  | inr w ↦ absurd (no_ok (verbs.Long w.0 all_tables) cause w.2)
]
long_cause (a ∷ b ∷ []) cause e = elim (bind_err (writes_at a) (λ writes. reads_at (Some b) >>= (λ reads. Ok (verbs.Long writes reads))) cause e) [
  | inl w ↦ misspelt (AWrites ∷ AReads ∷ []) refl (inl (no_writes a cause w))
  | inr w ↦ elim (bind_err (reads_at (Some b)) (λ reads. Ok (verbs.Long w.0 reads)) cause w.2) [
    | inl r ↦ misspelt (AWrites ∷ AReads ∷ []) refl (inr (a_write a w.0 w.1, inl (no_reads b cause r)))
    | inr r ↦ absurd (no_ok (verbs.Long w.0 r.0) cause r.2)
  ]
]
long_cause (a ∷ b ∷ c ∷ args) cause e =
    words_cause (codes "long") (a ∷ b ∷ c ∷ args) cause (some_forms (codes "long") (AWrites ∷ []) ((AWrites ∷ AReads ∷ []) ∷ []) refl) (rw (one_more (suc (length args)), two_more (length args)) refl) (err_is {A = Verb} causes.Words cause e)

renamed : (word name : List ℕ) (args : List (List ℕ)) (cause : Bad) → bytes_eq word name ≡ true → VerbCause name args cause → VerbCause word args cause
renamed word name args cause e is = subst (λ (w : List ℕ). VerbCause w args cause) (sym (text_is word name e)) is

pub unknown_verb : (word : List ℕ) → bytes_eq word (codes "short") ≡ false → bytes_eq word (codes "long") ≡ false → bytes_eq word (codes "get") ≡ false → bytes_eq word (codes "scan") ≡ false
    → bytes_eq word (codes "put") ≡ false → bytes_eq word (codes "del") ≡ false → bytes_eq word (codes "commit") ≡ false → bytes_eq word (codes "abort") ≡ false → forms_of word ≡ []
unfolding forms_of
unknown_verb word a b c d e f g h = rw (a, b, c, d, e, f, g, h) refl

verb_cause : (word : List ℕ) (args : List (List ℕ)) (cause : Bad) → verb_at word args ≡ Err cause → VerbCause word args cause
unfolding verb_at
verb_cause word args cause e = elim (chosen (bytes_eq word (codes "short")) _ _ _ e) [
  | inl c ↦ renamed word (codes "short") args cause c.0 (short_cause args cause c.1)
  | inr c ↦ elim (chosen (bytes_eq word (codes "long")) _ _ _ c.1) [
    | inl d ↦ renamed word (codes "long") args cause d.0 (long_cause args cause d.1)
    | inr d ↦ elim (chosen (bytes_eq word (codes "get")) _ _ _ d.1) [
      | inl f ↦ renamed word (codes "get") args cause f.0 (get_cause args cause f.1)
      | inr f ↦ elim (chosen (bytes_eq word (codes "scan")) _ _ _ f.1) [
        | inl g ↦ renamed word (codes "scan") args cause g.0 (scan_cause args cause g.1)
        | inr g ↦ elim (chosen (bytes_eq word (codes "put")) _ _ _ g.1) [
          | inl h ↦ renamed word (codes "put") args cause h.0 (put_cause args cause h.1)
          | inr h ↦ elim (chosen (bytes_eq word (codes "del")) _ _ _ h.1) [
            | inl i ↦ renamed word (codes "del") args cause i.0 (del_cause args cause i.1)
            | inr i ↦ elim (chosen (bytes_eq word (codes "commit")) _ _ _ i.1) [
              | inl j ↦ renamed word (codes "commit") args cause j.0 (commit_cause args cause j.1)
              | inr j ↦ elim (chosen (bytes_eq word (codes "abort")) _ _ _ j.1) [
                | inl k ↦ renamed word (codes "abort") args cause k.0 (abort_cause args cause k.1)
                | inr k ↦ subst (VerbCause word args) (err_is {A = Verb} causes.Verb cause k.1) (unknown (unknown_verb word c.0 d.0 f.0 g.0 h.0 i.0 j.0 k.0))
              ]
            ]
          ]
        ]
      ]
    ]
  ]
]

-- ---- commands

more_words : (first : List ℕ) (words : List (List ℕ)) (command : Command) (cause : Bad) → IsControl first → alone words command ≡ Err cause → WordsCause (first ∷ words) cause
more_words first [] command cause is e = absurd (no_ok command cause e)
more_words first (second ∷ words) command cause is e = subst (WordsCause (first ∷ second ∷ words)) (err_is {A = Command} causes.Words cause e) (word_behind is)

pub not_session : (word : List ℕ) (cause : Bad) → session_at word ≡ Err cause → (IsSession word → ⊥) × (causes.Session ≡ cause)
not_session word cause e = (λ s. clash (session_at word) s.0 cause (ap session_at s.3 ∙ session_again s.0 s.1 s.2) e, none_cause (number_in 1 1025 word) causes.Session cause e)

pub a_session : (word : List ℕ) (session : ℕ) → session_at word ≡ Ok session → IsSession word
a_session word session e = let is = session_is word session e in (session, is.0, is.1, is.2)

asked_cause : (first : List ℕ) (words : List (List ℕ)) (cause : Bad) → (IsControl first → ⊥) → IsSession first → asked_at words ≡ Err cause → WordsCause (first ∷ words) cause
asked_cause first [] cause other is e = subst (WordsCause (first ∷ [])) (err_is {A = Verb} causes.Verb cause e) (silent other is)
asked_cause first (verb ∷ words) cause other is e = by_verb other is (verb_cause verb words cause e)

ask_cause : (first : List ℕ) (words : List (List ℕ)) (cause : Bad) → (IsControl first → ⊥) → ask_at first words ≡ Err cause → WordsCause (first ∷ words) cause
unfolding ask_at
ask_cause first words cause other e = elim (bind_err (session_at first) (λ session. asked_at words >>= (λ verb. Ok (commands.Ask session verb))) cause e) [
  | inl s ↦ let none = not_session first cause s in subst (WordsCause (first ∷ words)) none.1 (no_session other none.0)
  | inr s ↦ elim (bind_err (asked_at words) (λ verb. Ok (commands.Ask s.0 verb)) cause s.2) [
    | inl v ↦ asked_cause first words cause other (a_session first s.0 s.1) v
    | inr v ↦ absurd (no_ok (commands.Ask s.0 v.0) cause v.2)
  ]
]

pub no_control : (word : List ℕ) → bytes_eq word (codes "epoch") ≡ false → bytes_eq word (codes "flush") ≡ false → bytes_eq word (codes "prune") ≡ false → IsControl word → ⊥
no_control word a b c (inl is) = let e : true ≡ false = sym (same_bytes word (codes "epoch") is) ∙ a in absurd cc
no_control word a b c (inr (inl is)) = let e : true ≡ false = sym (same_bytes word (codes "flush") is) ∙ b in absurd cc
no_control word a b c (inr (inr is)) = let e : true ≡ false = sym (same_bytes word (codes "prune") is) ∙ c in absurd cc

command_cause : (first : List ℕ) (words : List (List ℕ)) (cause : Bad) → command_at first words ≡ Err cause → WordsCause (first ∷ words) cause
unfolding command_at
command_cause first words cause e = elim (chosen (bytes_eq first (codes "epoch")) _ _ _ e) [
  | inl c ↦ more_words first words commands.Epoch cause (inl (text_is first (codes "epoch") c.0)) c.1
  | inr c ↦ elim (chosen (bytes_eq first (codes "flush")) _ _ _ c.1) [
    | inl d ↦ more_words first words commands.Flush cause (inr (inl (text_is first (codes "flush") d.0))) d.1
    | inr d ↦ elim (chosen (bytes_eq first (codes "prune")) _ _ _ d.1) [
      | inl f ↦ more_words first words commands.Prune cause (inr (inr (text_is first (codes "prune") f.0))) f.1
      | inr f ↦ ask_cause first words cause (no_control first c.0 d.0 f.0) f.1
    ]
  ]
]

said_cause : (byte : ℕ) (line : List ℕ) (words : List (List ℕ)) (cause : Bad) → cut_at byte line ≡ words → said_at words ≡ Err cause → WordsCause words cause
said_cause byte line [] cause is e = absurd (cut_is_some byte line is)
said_cause byte line (first ∷ words) cause is e = command_cause first words cause e

pub reading_cause : (line : List ℕ) (cause : Bad) → reading line ≡ Err cause → IsCause line cause
unfolding reading
reading_cause line cause e = elim (chosen (nat_lt most_bytes (length line)) _ _ _ e) [
  | inl c ↦ subst (IsCause line) (err_is {A = Command} causes.Long cause c.1) (too_long (ltb-true most_bytes (length line) c.0))
  | inr c ↦ elim (chosen (list_all is_word (words_of line)) _ _ _ c.1) [
    | inl d ↦ by_words (ltb-false most_bytes (length line) c.0) d.0 (said_cause 32 line (words_of line) cause refl d.1)
    | inr d ↦ subst (IsCause line) (err_is {A = Command} causes.Words cause d.1) (no_words (ltb-false most_bytes (length line) c.0) d.0)
  ]
]
