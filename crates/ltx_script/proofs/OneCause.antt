-- What has a cause is refused with it, so each line has one cause at most.
use Rattle.std.proofs.Common.{◌≡◌, ◌≢◌, ℕ, suc, true, false, ◌==◌, List, [], ◌∷◌, length, Some, None, Result, Ok, Err, refl, sym, ap, subst, ◌∙◌, inl, inr}
use Rattle.std.specs.Prelude.{bytes_eq, codes, find}
use Rattle.std.proofs.lemmas.Bool.{cases_Bool, le-ltb, lt-ltb}
use Rattle.ltx_model.specs.declared.commands.Bad.{Bad}
use Rattle.ltx_model.specs.declared.commands.Bad.TheVariants as causes
use Rattle.ltx_model.specs.declared.commands.Line.TheVariants as lines
use Rattle.ltx_model.specs.declared.commands.Verb.TheVariants as verbs
use Rattle.ltx_model.specs.Tables.{all_tables}
use Rattle.ltx_script.specs.Causes.{Argument, ATable, AKey, ABound, AValue, AWrites, AReads, IsSpelling, IsFirstBad, forms_of, form_of, VerbCause, unknown, miscounted, misspelt, IsControl, IsSession, WordsCause, word_behind, no_session, silent, by_verb, IsCause, too_long, no_words, by_words}
use Rattle.ltx_script.specs.Lines.{marked, unless_all, session_at, table_at, key_at, bound_at, value_at, writes_at, reads_at, alone, one_or_two, two, three, long_at, get_at, scan_at, put_at, del_at, verb_at, asked_at, ask_at, command_at, said_at, most_bytes, reading, line_from, line_of}
use Rattle.ltx_text.specs.Cuts.{words_of}
use Rattle.ltx_text.proofs.WordReadings.{text_is, other_bytes}
use Rattle.ltx_script.proofs.Readings.{value_is, marked_is, not_all, some_is}
use Rattle.ltx_script.proofs.Refused.{no_table, a_table, no_key, a_key, no_bound, a_bound, no_value, no_writes, a_write, no_reads, fewer_more, one_more, two_more, three_more, not_session, a_session, unknown_verb}
use Rattle.ltx_script.proofs.Spelt.{table_again, session_again, key_again, bound_again, writes_again}

-- a step with no value is refused with the cause that it has
refused_by : {A : Type 0} (r : Result A Bad) (cause : Bad) → ((x : A) → r ≡ Ok x → ⊥) → ((other : Bad) → r ≡ Err other → cause ≡ other) → r ≡ Err cause
refused_by (Ok x) cause none same = absurd (none x refl)
refused_by (Err other) cause none same = ap (λ c. Err c) (sym (same other refl))

bad_table : (word : List ℕ) → (IsSpelling ATable word → ⊥) → table_at word ≡ Err causes.Table
bad_table word none = refused_by (table_at word) causes.Table (λ x e. none (a_table word x e)) (λ c e. (no_table word c e).1)

bad_key : (word : List ℕ) → (IsSpelling AKey word → ⊥) → key_at word ≡ Err causes.Key
bad_key word none = refused_by (key_at word) causes.Key (λ x e. none (a_key word x e)) (λ c e. (no_key word c e).1)

bad_bound : (word : List ℕ) → (IsSpelling ABound word → ⊥) → bound_at word ≡ Err causes.Key
bad_bound word none = refused_by (bound_at word) causes.Key (λ x e. none (a_bound word x e)) (λ c e. (no_bound word c e).1)

a_value : (word value : List ℕ) → value_at word ≡ Ok value → IsSpelling AValue word
a_value word value e = let is = value_is word value e in (value, is.0, is.1)

bad_value : (word : List ℕ) → (IsSpelling AValue word → ⊥) → value_at word ≡ Err causes.Value
bad_value word none = refused_by (value_at word) causes.Value (λ x e. none (a_value word x e)) (λ c e. (no_value word c e).1)

bad_writes : (word : List ℕ) → (IsSpelling AWrites word → ⊥) → writes_at word ≡ Err causes.Sets
bad_writes word none = refused_by (writes_at word) causes.Sets (λ x e. none (a_write word x e)) (λ c e. (no_writes word c e).1)

is_other : (set : ℕ) → (set == all_tables) ≡ false → set ≢ all_tables
is_other set other is = let e : true ≡ false = sym (ap (λ s. s == all_tables) is) ∙ other in absurd cc

a_read : (word : List ℕ) (set : ℕ) → reads_at (Some word) ≡ Ok set → IsSpelling AReads word
a_read word set e =
    let o = not_all (marked (codes "R=") word) set (some_is (unless_all (marked (codes "R=") word)) causes.Sets set e) in
    let m = marked_is (codes "R=") word set o.0 in
    (set, m.0, is_other set o.1, m.1)

bad_reads : (word : List ℕ) → (IsSpelling AReads word → ⊥) → reads_at (Some word) ≡ Err causes.Sets
bad_reads word none = refused_by (reads_at (Some word)) causes.Sets (λ x e. none (a_read word x e)) (λ c e. (no_reads word c e).1)

-- ---- arguments that are spelt, with the value of each

good_table : (word : List ℕ) (s : IsSpelling ATable word) → table_at word ≡ Ok s.0
good_table word s = ap table_at s.2 ∙ table_again s.0 s.1

good_key : (word : List ℕ) (s : IsSpelling AKey word) → key_at word ≡ Ok s.0
good_key word s = ap key_at s.2 ∙ key_again s.0 s.1

good_bound : (word : List ℕ) (s : IsSpelling ABound word) → bound_at word ≡ Ok s.0
good_bound word s = ap bound_at s.2 ∙ bound_again s.0 s.1

good_writes : (word : List ℕ) (s : IsSpelling AWrites word) → writes_at word ≡ Ok s.0
good_writes word s = ap writes_at s.2 ∙ writes_again s.0 s.1

-- ---- the one form of a verb

the_form : (form other : List Argument) (words : List (List ℕ)) (cause : Bad) → Some form ≡ Some other → IsFirstBad other words cause → IsFirstBad form words cause
the_form form other words cause e bad = let at : form ≡ other = cc in subst (λ f. IsFirstBad f words cause) (sym at) bad

no_form : {P : Type 0} (form : List Argument) → None ≡ Some form → P
no_form form e = absurd cc

is_form : {P : Type 0} (form : List Argument) → Some form ≡ None → P
is_form form e = absurd cc

not_empty : {P : Type 0} (form : List Argument) (more : List (List Argument)) → form ∷ more ≡ [] → P
not_empty form more e = absurd cc

get_refused : (words : List (List ℕ)) (cause : Bad) → VerbCause (codes "get") words cause → get_at words ≡ Err cause
unfolding get_at two forms_of form_of
get_refused words cause (unknown e) = not_empty _ _ e
get_refused [] cause (miscounted some none) = refl
get_refused (a ∷ []) cause (miscounted some none) = refl
get_refused (a ∷ b ∷ []) cause (miscounted some none) = is_form _ none
get_refused (a ∷ b ∷ c ∷ words) cause (miscounted some none) = refl
get_refused [] cause (misspelt form is bad) = no_form form is
get_refused (a ∷ []) cause (misspelt form is bad) = no_form form is
get_refused (a ∷ b ∷ []) cause (misspelt form is bad) = elim (the_form (ATable ∷ AKey ∷ []) form (a ∷ b ∷ []) cause is bad) [
  | inl t ↦ rw (bad_table a t.0) (ap (λ c. Err c) t.1)
  | inr t ↦ elim t.1 [
    | inl k ↦ rw (good_table a t.0, bad_key b k.0) (ap (λ c. Err c) k.1)
    | inr k ↦ absurd k.1
  ]
]
get_refused (a ∷ b ∷ c ∷ words) cause (misspelt form is bad) = no_form form (rw (two_more (length words)) at is)

del_refused : (words : List (List ℕ)) (cause : Bad) → VerbCause (codes "del") words cause → del_at words ≡ Err cause
unfolding del_at two forms_of form_of
del_refused words cause (unknown e) = not_empty _ _ e
del_refused [] cause (miscounted some none) = refl
del_refused (a ∷ []) cause (miscounted some none) = refl
del_refused (a ∷ b ∷ []) cause (miscounted some none) = is_form _ none
del_refused (a ∷ b ∷ c ∷ words) cause (miscounted some none) = refl
del_refused [] cause (misspelt form is bad) = no_form form is
del_refused (a ∷ []) cause (misspelt form is bad) = no_form form is
del_refused (a ∷ b ∷ []) cause (misspelt form is bad) = elim (the_form (ATable ∷ AKey ∷ []) form (a ∷ b ∷ []) cause is bad) [
  | inl t ↦ rw (bad_table a t.0) (ap (λ c. Err c) t.1)
  | inr t ↦ elim t.1 [
    | inl k ↦ rw (good_table a t.0, bad_key b k.0) (ap (λ c. Err c) k.1)
    | inr k ↦ absurd k.1
  ]
]
del_refused (a ∷ b ∷ c ∷ words) cause (misspelt form is bad) = no_form form (rw (two_more (length words)) at is)

scan_refused : (words : List (List ℕ)) (cause : Bad) → VerbCause (codes "scan") words cause → scan_at words ≡ Err cause
unfolding scan_at three forms_of form_of
scan_refused words cause (unknown e) = not_empty _ _ e
scan_refused [] cause (miscounted some none) = refl
scan_refused (a ∷ []) cause (miscounted some none) = refl
scan_refused (a ∷ b ∷ []) cause (miscounted some none) = refl
scan_refused (a ∷ b ∷ c ∷ []) cause (miscounted some none) = is_form _ none
scan_refused (a ∷ b ∷ c ∷ d ∷ words) cause (miscounted some none) = refl
scan_refused [] cause (misspelt form is bad) = no_form form is
scan_refused (a ∷ []) cause (misspelt form is bad) = no_form form is
scan_refused (a ∷ b ∷ []) cause (misspelt form is bad) = no_form form is
scan_refused (a ∷ b ∷ c ∷ []) cause (misspelt form is bad) = elim (the_form (ATable ∷ ABound ∷ ABound ∷ []) form (a ∷ b ∷ c ∷ []) cause is bad) [
  | inl t ↦ rw (bad_table a t.0) (ap (λ c. Err c) t.1)
  | inr t ↦ elim t.1 [
    | inl k ↦ rw (good_table a t.0, bad_bound b k.0) (ap (λ c. Err c) k.1)
    | inr k ↦ elim k.1 [
      | inl v ↦ rw (good_table a t.0, good_bound b k.0, bad_bound c v.0) (ap (λ c. Err c) v.1)
      | inr v ↦ absurd v.1
    ]
  ]
]
scan_refused (a ∷ b ∷ c ∷ d ∷ words) cause (misspelt form is bad) = no_form form (rw (three_more (length words)) at is)

put_refused : (words : List (List ℕ)) (cause : Bad) → VerbCause (codes "put") words cause → put_at words ≡ Err cause
unfolding put_at three forms_of form_of
put_refused words cause (unknown e) = not_empty _ _ e
put_refused [] cause (miscounted some none) = refl
put_refused (a ∷ []) cause (miscounted some none) = refl
put_refused (a ∷ b ∷ []) cause (miscounted some none) = refl
put_refused (a ∷ b ∷ c ∷ []) cause (miscounted some none) = is_form _ none
put_refused (a ∷ b ∷ c ∷ d ∷ words) cause (miscounted some none) = refl
put_refused [] cause (misspelt form is bad) = no_form form is
put_refused (a ∷ []) cause (misspelt form is bad) = no_form form is
put_refused (a ∷ b ∷ []) cause (misspelt form is bad) = no_form form is
put_refused (a ∷ b ∷ c ∷ []) cause (misspelt form is bad) = elim (the_form (ATable ∷ AKey ∷ AValue ∷ []) form (a ∷ b ∷ c ∷ []) cause is bad) [
  | inl t ↦ rw (bad_table a t.0) (ap (λ c. Err c) t.1)
  | inr t ↦ elim t.1 [
    | inl k ↦ rw (good_table a t.0, bad_key b k.0) (ap (λ c. Err c) k.1)
    | inr k ↦ elim k.1 [
      | inl v ↦ rw (good_table a t.0, good_key b k.0, bad_value c v.0) (ap (λ c. Err c) v.1)
      | inr v ↦ absurd v.1
    ]
  ]
]
put_refused (a ∷ b ∷ c ∷ d ∷ words) cause (misspelt form is bad) = no_form form (rw (three_more (length words)) at is)

long_refused : (words : List (List ℕ)) (cause : Bad) → VerbCause (codes "long") words cause → long_at words ≡ Err cause
unfolding long_at one_or_two forms_of form_of
long_refused words cause (unknown e) = not_empty _ _ e
long_refused [] cause (miscounted some none) = refl
long_refused (a ∷ []) cause (miscounted some none) = is_form _ none
long_refused (a ∷ b ∷ []) cause (miscounted some none) = is_form _ none
long_refused (a ∷ b ∷ c ∷ words) cause (miscounted some none) = refl
long_refused [] cause (misspelt form is bad) = no_form form is
long_refused (a ∷ []) cause (misspelt form is bad) = elim (the_form (AWrites ∷ []) form (a ∷ []) cause is bad) [
  | inl w ↦ rw (bad_writes a w.0) (ap (λ c. Err c) w.1)
  | inr w ↦ absurd w.1
]
long_refused (a ∷ b ∷ []) cause (misspelt form is bad) = elim (the_form (AWrites ∷ AReads ∷ []) form (a ∷ b ∷ []) cause is bad) [
  | inl w ↦ rw (bad_writes a w.0) (ap (λ c. Err c) w.1)
  | inr w ↦ elim w.1 [
    | inl r ↦ rw (good_writes a w.0, bad_reads b r.0) (ap (λ c. Err c) r.1)
    | inr r ↦ absurd r.1
  ]
]
long_refused (a ∷ b ∷ c ∷ words) cause (misspelt form is bad) = no_form form (rw (one_more (suc (length words)), two_more (length words)) at is)

short_refused : (words : List (List ℕ)) (cause : Bad) → VerbCause (codes "short") words cause → alone words verbs.Short ≡ Err cause
unfolding forms_of form_of
short_refused words cause (unknown e) = not_empty _ _ e
short_refused [] cause (miscounted some none) = is_form _ none
short_refused (a ∷ words) cause (miscounted some none) = refl
short_refused [] cause (misspelt form is bad) = let none : IsFirstBad [] [] cause = the_form [] form [] cause is bad in absurd none
short_refused (a ∷ words) cause (misspelt form is bad) = no_form form (rw (fewer_more (length words)) at is)

commit_refused : (words : List (List ℕ)) (cause : Bad) → VerbCause (codes "commit") words cause → alone words verbs.Commit ≡ Err cause
unfolding forms_of form_of
commit_refused words cause (unknown e) = not_empty _ _ e
commit_refused [] cause (miscounted some none) = is_form _ none
commit_refused (a ∷ words) cause (miscounted some none) = refl
commit_refused [] cause (misspelt form is bad) = let none : IsFirstBad [] [] cause = the_form [] form [] cause is bad in absurd none
commit_refused (a ∷ words) cause (misspelt form is bad) = no_form form (rw (fewer_more (length words)) at is)

abort_refused : (words : List (List ℕ)) (cause : Bad) → VerbCause (codes "abort") words cause → alone words verbs.Abort ≡ Err cause
unfolding forms_of form_of
abort_refused words cause (unknown e) = not_empty _ _ e
abort_refused [] cause (miscounted some none) = is_form _ none
abort_refused (a ∷ words) cause (miscounted some none) = refl
abort_refused [] cause (misspelt form is bad) = let none : IsFirstBad [] [] cause = the_form [] form [] cause is bad in absurd none
abort_refused (a ∷ words) cause (misspelt form is bad) = no_form form (rw (fewer_more (length words)) at is)

-- the words of no verb
no_verb_refused : (word : List ℕ) (words : List (List ℕ)) (cause : Bad) → forms_of word ≡ [] → VerbCause word words cause → causes.Verb ≡ cause
unfolding form_of
no_verb_refused word words cause none (unknown e) = refl
no_verb_refused word words cause none (miscounted some form) = absurd (some none)
no_verb_refused word words cause none (misspelt form is bad) = no_form form (sym (ap (find (λ arguments. length arguments == length words)) none) ∙ is)

named : (word name : List ℕ) (words : List (List ℕ)) (cause : Bad) → bytes_eq word name ≡ true → VerbCause word words cause → VerbCause name words cause
named word name words cause e is = subst (λ (w : List ℕ). VerbCause w words cause) (text_is word name e) is

verb_refused : (word : List ℕ) (words : List (List ℕ)) (cause : Bad) → VerbCause word words cause → verb_at word words ≡ Err cause
unfolding verb_at
verb_refused word words cause is = elim (cases_Bool (bytes_eq word (codes "short"))) [
  | inl a1 ↦ rw a1 (short_refused words cause (named word (codes "short") words cause a1 is))
  | inr a ↦ elim (cases_Bool (bytes_eq word (codes "long"))) [
    | inl b1 ↦ rw (a, b1) (long_refused words cause (named word (codes "long") words cause b1 is))
    | inr b ↦ elim (cases_Bool (bytes_eq word (codes "get"))) [
      | inl c1 ↦ rw (a, b, c1) (get_refused words cause (named word (codes "get") words cause c1 is))
      | inr c ↦ elim (cases_Bool (bytes_eq word (codes "scan"))) [
        | inl d1 ↦ rw (a, b, c, d1) (scan_refused words cause (named word (codes "scan") words cause d1 is))
        | inr d ↦ elim (cases_Bool (bytes_eq word (codes "put"))) [
          | inl e1 ↦ rw (a, b, c, d, e1) (put_refused words cause (named word (codes "put") words cause e1 is))
          | inr e ↦ elim (cases_Bool (bytes_eq word (codes "del"))) [
            | inl f1 ↦ rw (a, b, c, d, e, f1) (del_refused words cause (named word (codes "del") words cause f1 is))
            | inr f ↦ elim (cases_Bool (bytes_eq word (codes "commit"))) [
              | inl g1 ↦ rw (a, b, c, d, e, f, g1) (commit_refused words cause (named word (codes "commit") words cause g1 is))
              | inr g ↦ elim (cases_Bool (bytes_eq word (codes "abort"))) [
                | inl h1 ↦ rw (a, b, c, d, e, f, g, h1) (abort_refused words cause (named word (codes "abort") words cause h1 is))
                | inr h ↦ rw (a, b, c, d, e, f, g, h) (ap (λ x. Err x) (no_verb_refused word words cause (unknown_verb word a b c d e f g h) is))
              ]
            ]
          ]
        ]
      ]
    ]
  ]
]

-- ---- commands

bad_session : (word : List ℕ) → (IsSession word → ⊥) → session_at word ≡ Err causes.Session
bad_session word none = refused_by (session_at word) causes.Session (λ x e. none (a_session word x e)) (λ c e. (not_session word c e).1)

good_session : (word : List ℕ) (s : IsSession word) → session_at word ≡ Ok s.0
good_session word s = ap session_at s.3 ∙ session_again s.0 s.1 s.2

-- a first word that is no control word begins what a session asks
is_asked : (first : List ℕ) (words : List (List ℕ)) → (IsControl first → ⊥) → command_at first words ≡ ask_at first words
unfolding command_at
is_asked first words other =
    rw (other_bytes first (codes "epoch") (λ e. other (inl e)), other_bytes first (codes "flush") (λ e. other (inr (inl e))), other_bytes first (codes "prune") (λ e. other (inr (inr e)))) refl

session_refused : (first : List ℕ) (words : List (List ℕ)) → (IsSession first → ⊥) → ask_at first words ≡ Err causes.Session
unfolding ask_at
session_refused first words none = rw (bad_session first none) refl

asked_refused : (first : List ℕ) (words : List (List ℕ)) (cause : Bad) → IsSession first → asked_at words ≡ Err cause → ask_at first words ≡ Err cause
unfolding ask_at
asked_refused first words cause s e = rw (good_session first s, e) refl

control_refused : (first second : List ℕ) (words : List (List ℕ)) → IsControl first → command_at first (second ∷ words) ≡ Err causes.Words
unfolding command_at
control_refused first second words (inl is) = ap (λ (w : List ℕ). command_at w (second ∷ words)) is
control_refused first second words (inr (inl is)) = ap (λ (w : List ℕ). command_at w (second ∷ words)) is
control_refused first second words (inr (inr is)) = ap (λ (w : List ℕ). command_at w (second ∷ words)) is

words_refused : (words : List (List ℕ)) (cause : Bad) → WordsCause words cause → said_at words ≡ Err cause
words_refused words cause (word_behind {first = first} {second = second} {words = more} is) = control_refused first second more is
words_refused words cause (no_session {first = first} {words = more} other none) = is_asked first more other ∙ session_refused first more none
words_refused words cause (silent {first = first} other s) = is_asked first [] other ∙ asked_refused first [] causes.Verb s refl
words_refused words cause (by_verb {first = first} {verb = verb} {words = more} {cause = c} other s is) = is_asked first (verb ∷ more) other ∙ asked_refused first (verb ∷ more) c s (verb_refused verb more c is)

pub cause_refused : (line : List ℕ) (cause : Bad) → IsCause line cause → reading line ≡ Err cause
unfolding reading
cause_refused line cause (too_long e) = rw (lt-ltb most_bytes (length line) e) refl
cause_refused line cause (no_words short e) = rw (le-ltb most_bytes (length line) short, e) refl
cause_refused line cause (by_words {cause = c} short e is) = rw (le-ltb most_bytes (length line) short, e) (words_refused (words_of line) c is)

pub one_cause : (line : List ℕ) (cause : Bad) → IsCause line cause → line_of line ≡ lines.Bad cause
unfolding line_of
one_cause line cause is = ap line_from (cause_refused line cause is)
