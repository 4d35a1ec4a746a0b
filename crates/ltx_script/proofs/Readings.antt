-- What was read has this spelling.
use Rattle.std.proofs.Common.{◌≡◌, ℕ, ◌^◌, ◌<◌, ◌≤◌, ◌⊎◌, Bool, true, false, ◌==◌, cond, List, [], ◌∷◌, ◌++◌, length, take, drop, Option, Some, None, Result, Ok, Err, refl, sym, ap, subst, ◌∙◌, arith, inl, inr}
use Rattle.std.specs.Prelude.{bytes_eq, nat_lt, codes, ok_or}
use Rattle.std.specs.List.{list_all}
use Rattle.std.proofs.lemmas.Bool.{cases_Bool, ltb-false}
use Rattle.std.proofs.lemmas.List.{take-append-drop}
use Rattle.ltx_model.specs.declared.commands.Op.TheVariants.{Get, Scan, Put, Del}
use Rattle.ltx_model.specs.declared.commands.Verb.{Verb}
use Rattle.ltx_model.specs.declared.commands.Verb.TheVariants as verbs
use Rattle.ltx_model.specs.declared.commands.Command.{Command}
use Rattle.ltx_model.specs.declared.commands.Command.TheVariants as commands
use Rattle.ltx_model.specs.declared.commands.Bad.{Bad}
use Rattle.ltx_model.specs.declared.commands.Bad.TheVariants as causes
use Rattle.ltx_model.specs.Tables.{all_tables}
use Rattle.ltx_text.specs.Words.{word_of}
use Rattle.ltx_text.specs.Decimals.{decimal_of, number_in}
use Rattle.ltx_script.specs.Commands.{joined, set_text, writes_word, reads_words, verb_words, command_words, command_text, IsVerb, IsCommand}
use Rattle.ltx_model.specs.Limits.{IsKey, IsBound, IsValue}
use Rattle.ltx_text.specs.Readings.{bytes_of}
use Rattle.ltx_script.specs.Lines.{is_word, within, unless_empty, marked, unless_all, ◌>>=◌, session_at, table_at, key_at, bound_at, value_at, writes_at, reads_at, alone, one_or_two, two, three, long_at, get_at, scan_at, put_at, del_at, verb_at, asked_at, ask_at, command_at, said_at, most_bytes, reading}
use Rattle.ltx_text.specs.Cuts.{words_of}
use Rattle.ltx_text.proofs.WordReadings.{IsWordOf, bytes_is, text_is}
use Rattle.ltx_text.proofs.Numbers.{number_is}
use Rattle.ltx_script.proofs.SetTexts.{set_is, joined_parts}

-- ---- steps

abbrev done : {A : Type 0} → A → Result A Bad
done x = Ok x

pub ok_is : {A : Type 0} (x y : A) → done x ≡ done y → x ≡ y
ok_is x y e = cc

-- the value of a step that was no refusal
pub bind_ok : {A B : Type 0} (r : Result A Bad) (f : A → Result B Bad) (y : B) → (r >>= f) ≡ Ok y → (x : A) × (r ≡ Ok x) × (f x ≡ Ok y)
bind_ok (Ok x) f y e = (x, refl, e)
bind_ok (Err cause) f y e = absurd cc

pub some_is : {A : Type 0} (o : Option A) (cause : Bad) (x : A) → ok_or o cause ≡ Ok x → o ≡ Some x
some_is None cause x e = absurd cc
some_is (Some y) cause x e = ap (λ z. Some z) (ok_is y x e)

-- which side of a test was taken
pub chosen : {A : Type 0} (b : Bool) (x y z : A) → cond b x y ≡ z → ((b ≡ true) × (x ≡ z)) ⊎ ((b ≡ false) × (y ≡ z))
chosen true x y z e = inl (refl, e)
chosen false x y z e = inr (refl, e)

-- ---- arguments

pub table_is : (word : List ℕ) (table : ℕ) → table_at word ≡ Ok table → (table < 64) × (word ≡ decimal_of table)
table_is word table e = let n = number_is word 0 64 table (some_is (number_in 0 64 word) causes.Table table e) in (omega (arith, n.high), n.is)

pub session_is : (word : List ℕ) (session : ℕ) → session_at word ≡ Ok session → (0 < session) × (session ≤ 1024) × (word ≡ decimal_of session)
session_is word session e = let n = number_is word 1 1025 session (some_is (number_in 1 1025 word) causes.Session session e) in (omega (arith, n.low), omega (arith, n.high), n.is)

-- a byte string that is no longer than this
record IsShortOf (word bytes : List ℕ) (most : ℕ) : Type 0 where
  short : length bytes ≤ most
  spelt : IsWordOf word bytes

within_is : (most : ℕ) (word bytes : List ℕ) (read : Option (List ℕ)) → bytes_of word ≡ read → within most read ≡ Some bytes → IsShortOf word bytes most
within_is most word bytes None is e = absurd cc
within_is most word bytes (Some b) is e = elim (cases_Bool (nat_lt most (length b))) [
  | inl e1 ↦ let none : None ≡ Some bytes = (rw e1 at e) in absurd cc
  | inr e0 ↦
      let found : Some b ≡ Some bytes = (rw e0 at e) in
      let at : b ≡ bytes = cc in
      subst (λ (l : List ℕ). IsShortOf word l most) at (record { short = ltb-false most (length b) e0; spelt = bytes_is word b is })
]

some_bytes : (read : Option (List ℕ)) (bytes : List ℕ) → unless_empty read ≡ Some bytes → (read ≡ Some bytes) × (0 < length bytes)
some_bytes None bytes e = absurd cc
some_bytes (Some []) bytes e = absurd cc
some_bytes (Some (b ∷ bs)) bytes e = let at : b ∷ bs ≡ bytes = cc in (e, rw (← at) (omega arith))

pub key_is : (word key : List ℕ) → key_at word ≡ Ok key → IsKey key × (word ≡ word_of key)
key_is word key e =
    let s = some_bytes (within 64 (bytes_of word)) key (some_is (unless_empty (within 64 (bytes_of word))) causes.Key key e) in
    let w = within_is 64 word key (bytes_of word) refl s.0 in
    (record { some = s.1; short = w.short; bytes = w.spelt.low }, w.spelt.is)

pub bound_is : (word bound : List ℕ) → bound_at word ≡ Ok bound → IsBound bound × (word ≡ word_of bound)
bound_is word bound e =
    let w = within_is 64 word bound (bytes_of word) refl (some_is (within 64 (bytes_of word)) causes.Key bound e) in
    (record { short = w.short; bytes = w.spelt.low }, w.spelt.is)

pub value_is : (word value : List ℕ) → value_at word ≡ Ok value → IsValue value × (word ≡ word_of value)
value_is word value e =
    let w = within_is 1024 word value (bytes_of word) refl (some_is (within 1024 (bytes_of word)) causes.Value value e) in
    (record { short = w.short; bytes = w.spelt.low }, w.spelt.is)

pub marked_is : (mark word : List ℕ) (set : ℕ) → marked mark word ≡ Some set → (set < 2 ^ 64) × (word ≡ mark ++ set_text set)
marked_is mark word set e = elim (cases_Bool (bytes_eq (take 2 word) mark)) [
  | inl e1 ↦
      let is = set_is (drop 2 word) set (rw e1 at e) in
      (is.fits, sym (take-append-drop 2 word) ∙ ap (λ l. l ++ drop 2 word) (text_is (take 2 word) mark e1) ∙ ap (λ l. mark ++ l) is.is)
  | inr e0 ↦ let none : None ≡ Some set = (rw e0 at e) in absurd cc
]

pub writes_are : (word : List ℕ) (set : ℕ) → writes_at word ≡ Ok set → (set < 2 ^ 64) × (word ≡ writes_word set)
writes_are word set e = marked_is (codes "W=") word set (some_is (marked (codes "W=") word) causes.Sets set e)

pub not_all : (read : Option ℕ) (set : ℕ) → unless_all read ≡ Some set → (read ≡ Some set) × ((set == all_tables) ≡ false)
not_all None set e = absurd cc
not_all (Some s) set e = elim (cases_Bool (s == all_tables)) [
  | inl e1 ↦ let none : None ≡ Some set = (rw e1 at e) in absurd cc
  | inr e0 ↦
      let found : Some s ≡ Some set = (rw e0 at e) in
      let at : s ≡ set = cc in
      (found, ap (λ k. k == all_tables) (sym at) ∙ e0)
]

-- the words of an argument that may be left out
abbrev pub maybe_word : Option (List ℕ) → List (List ℕ)
maybe_word None = []
maybe_word (Some word) = word ∷ []

pub reads_are : (word : Option (List ℕ)) (set : ℕ) → reads_at word ≡ Ok set → (set < 2 ^ 64) × (maybe_word word ≡ reads_words set)
reads_are None set e = let at = ok_is all_tables set e in subst (λ s. (s < 2 ^ 64) × ([] ≡ reads_words s)) at (omega arith, refl)
reads_are (Some word) set e =
    let o = not_all (marked (codes "R=") word) set (some_is (unless_all (marked (codes "R=") word)) causes.Sets set e) in
    let m = marked_is (codes "R=") word set o.0 in
    (m.0, rw o.1 (ap (λ w. w ∷ []) m.1))

-- ---- the number of words

pub alone_is : {X : Type 0} (words : List (List ℕ)) (x y : X) → alone words x ≡ Ok y → (words ≡ []) × (x ≡ y)
alone_is [] x y e = (refl, ok_is x y e)
alone_is (w ∷ words) x y e = absurd cc

pub two_are : (words : List (List ℕ)) (p : List ℕ × List ℕ) → two words ≡ Ok p → words ≡ p.0 ∷ p.1 ∷ []
unfolding two
two_are [] p e = absurd cc
two_are (a ∷ []) p e = absurd cc
two_are (a ∷ b ∷ []) p e = ap (λ (q : List ℕ × List ℕ). q.0 ∷ q.1 ∷ []) (ok_is (a, b) p e)
two_are (a ∷ b ∷ c ∷ words) p e = absurd cc

pub three_are : (words : List (List ℕ)) (p : List ℕ × List ℕ × List ℕ) → three words ≡ Ok p → words ≡ p.0 ∷ p.1 ∷ p.2 ∷ []
unfolding three
three_are [] p e = absurd cc
three_are (a ∷ []) p e = absurd cc
three_are (a ∷ b ∷ []) p e = absurd cc
three_are (a ∷ b ∷ c ∷ []) p e = ap (λ (q : List ℕ × List ℕ × List ℕ). q.0 ∷ q.1 ∷ q.2 ∷ []) (ok_is (a, b, c) p e)
three_are (a ∷ b ∷ c ∷ d ∷ words) p e = absurd cc

pub one_or_two_are : (words : List (List ℕ)) (p : List ℕ × Option (List ℕ)) → one_or_two words ≡ Ok p → words ≡ p.0 ∷ maybe_word p.1
unfolding one_or_two
one_or_two_are [] p e = absurd cc
one_or_two_are (a ∷ []) p e = ap (λ (q : List ℕ × Option (List ℕ)). q.0 ∷ maybe_word q.1) (ok_is (a, None) p e)
one_or_two_are (a ∷ b ∷ []) p e = ap (λ (q : List ℕ × Option (List ℕ)). q.0 ∷ maybe_word q.1) (ok_is (a, Some b) p e)
one_or_two_are (a ∷ b ∷ c ∷ words) p e = absurd cc

-- ---- verbs

-- these words are those of the verb
pub record Says (words : List (List ℕ)) (verb : Verb) : Type 0 where
  pub fits : IsVerb verb
  pub are : words ≡ verb_words verb

long_is : (args : List (List ℕ)) (verb : Verb) → long_at args ≡ Ok verb → Says (codes "long" ∷ args) verb
unfolding long_at
long_is args verb e =
    let b = bind_ok (one_or_two args) (λ words. writes_at words.0 >>= (λ writes. reads_at words.1 >>= (λ reads. Ok (verbs.Long writes reads)))) verb e in
    let w = bind_ok (writes_at b.0.0) (λ writes. reads_at b.0.1 >>= (λ reads. Ok (verbs.Long writes reads))) verb b.2 in
    let r = bind_ok (reads_at b.0.1) (λ reads. Ok (verbs.Long w.0 reads)) verb w.2 in
    let writes = writes_are b.0.0 w.0 w.1 in
    let reads = reads_are b.0.1 r.0 r.1 in
    subst (Says (codes "long" ∷ args)) (ok_is (verbs.Long w.0 r.0) verb r.2) (record {
      fits = (writes.0, reads.0);
      are = ap (λ l. codes "long" ∷ l) (one_or_two_are args b.0 b.1 ∙ ap (λ a. a ∷ maybe_word b.0.1) writes.1 ∙ ap (λ l. writes_word w.0 ∷ l) reads.1);
    })

get_is : (args : List (List ℕ)) (verb : Verb) → get_at args ≡ Ok verb → Says (codes "get" ∷ args) verb
unfolding get_at
get_is args verb e =
    let b = bind_ok (two args) (λ words. table_at words.0 >>= (λ table. key_at words.1 >>= (λ key. Ok (verbs.Do (Get table key))))) verb e in
    let t = bind_ok (table_at b.0.0) (λ table. key_at b.0.1 >>= (λ key. Ok (verbs.Do (Get table key)))) verb b.2 in
    let k = bind_ok (key_at b.0.1) (λ key. Ok (verbs.Do (Get t.0 key))) verb t.2 in
    let table = table_is b.0.0 t.0 t.1 in
    let key = key_is b.0.1 k.0 k.1 in
    subst (Says (codes "get" ∷ args)) (ok_is (verbs.Do (Get t.0 k.0)) verb k.2) (record {
      fits = (table.0, key.0);
      are = ap (λ l. codes "get" ∷ l) (two_are args b.0 b.1 ∙ ap (λ a. a ∷ b.0.1 ∷ []) table.1 ∙ ap (λ a. decimal_of t.0 ∷ a ∷ []) key.1);
    })

del_is : (args : List (List ℕ)) (verb : Verb) → del_at args ≡ Ok verb → Says (codes "del" ∷ args) verb
unfolding del_at
del_is args verb e =
    let b = bind_ok (two args) (λ words. table_at words.0 >>= (λ table. key_at words.1 >>= (λ key. Ok (verbs.Do (Del table key))))) verb e in
    let t = bind_ok (table_at b.0.0) (λ table. key_at b.0.1 >>= (λ key. Ok (verbs.Do (Del table key)))) verb b.2 in
    let k = bind_ok (key_at b.0.1) (λ key. Ok (verbs.Do (Del t.0 key))) verb t.2 in
    let table = table_is b.0.0 t.0 t.1 in
    let key = key_is b.0.1 k.0 k.1 in
    subst (Says (codes "del" ∷ args)) (ok_is (verbs.Do (Del t.0 k.0)) verb k.2) (record {
      fits = (table.0, key.0);
      are = ap (λ l. codes "del" ∷ l) (two_are args b.0 b.1 ∙ ap (λ a. a ∷ b.0.1 ∷ []) table.1 ∙ ap (λ a. decimal_of t.0 ∷ a ∷ []) key.1);
    })

scan_is : (args : List (List ℕ)) (verb : Verb) → scan_at args ≡ Ok verb → Says (codes "scan" ∷ args) verb
unfolding scan_at
scan_is args verb e =
    let b = bind_ok (three args) (λ words. table_at words.0 >>= (λ table. bound_at words.1 >>= (λ low. bound_at words.2 >>= (λ high. Ok (verbs.Do (Scan table low high)))))) verb e in
    let t = bind_ok (table_at b.0.0) (λ table. bound_at b.0.1 >>= (λ low. bound_at b.0.2 >>= (λ high. Ok (verbs.Do (Scan table low high))))) verb b.2 in
    let l = bind_ok (bound_at b.0.1) (λ low. bound_at b.0.2 >>= (λ high. Ok (verbs.Do (Scan t.0 low high)))) verb t.2 in
    let h = bind_ok (bound_at b.0.2) (λ high. Ok (verbs.Do (Scan t.0 l.0 high))) verb l.2 in
    let table = table_is b.0.0 t.0 t.1 in
    let low = bound_is b.0.1 l.0 l.1 in
    let high = bound_is b.0.2 h.0 h.1 in
    subst (Says (codes "scan" ∷ args)) (ok_is (verbs.Do (Scan t.0 l.0 h.0)) verb h.2) (record {
      fits = (table.0, low.0, high.0);
      are = ap (λ l. codes "scan" ∷ l) (three_are args b.0 b.1 ∙ ap (λ a. a ∷ b.0.1 ∷ b.0.2 ∷ []) table.1 ∙ ap (λ a. decimal_of t.0 ∷ a ∷ b.0.2 ∷ []) low.1 ∙ ap (λ a. decimal_of t.0 ∷ word_of l.0 ∷ a ∷ []) high.1);
    })

put_is : (args : List (List ℕ)) (verb : Verb) → put_at args ≡ Ok verb → Says (codes "put" ∷ args) verb
unfolding put_at
put_is args verb e =
    let b = bind_ok (three args) (λ words. table_at words.0 >>= (λ table. key_at words.1 >>= (λ key. value_at words.2 >>= (λ value. Ok (verbs.Do (Put table key value)))))) verb e in
    let t = bind_ok (table_at b.0.0) (λ table. key_at b.0.1 >>= (λ key. value_at b.0.2 >>= (λ value. Ok (verbs.Do (Put table key value))))) verb b.2 in
    let k = bind_ok (key_at b.0.1) (λ key. value_at b.0.2 >>= (λ value. Ok (verbs.Do (Put t.0 key value)))) verb t.2 in
    let v = bind_ok (value_at b.0.2) (λ value. Ok (verbs.Do (Put t.0 k.0 value))) verb k.2 in
    let table = table_is b.0.0 t.0 t.1 in
    let key = key_is b.0.1 k.0 k.1 in
    let value = value_is b.0.2 v.0 v.1 in
    subst (Says (codes "put" ∷ args)) (ok_is (verbs.Do (Put t.0 k.0 v.0)) verb v.2) (record {
      fits = (table.0, key.0, value.0);
      are = ap (λ l. codes "put" ∷ l) (three_are args b.0 b.1 ∙ ap (λ a. a ∷ b.0.1 ∷ b.0.2 ∷ []) table.1 ∙ ap (λ a. decimal_of t.0 ∷ a ∷ b.0.2 ∷ []) key.1 ∙ ap (λ a. decimal_of t.0 ∷ word_of k.0 ∷ a ∷ []) value.1);
    })

-- a verb without arguments
bare_is : (word : List ℕ) (args : List (List ℕ)) (bare verb : Verb) → IsVerb bare → word ∷ [] ≡ verb_words bare → alone args bare ≡ Ok verb → Says (word ∷ args) verb
bare_is word args bare verb fits are e =
    let a = alone_is args bare verb e in
    subst (Says (word ∷ args)) a.1 (record { fits = fits; are = ap (λ l. word ∷ l) a.0 ∙ are })

-- what this word and its arguments say
renamed : (word name : List ℕ) (args : List (List ℕ)) (verb : Verb) → bytes_eq word name ≡ true → Says (name ∷ args) verb → Says (word ∷ args) verb
renamed word name args verb e says = subst (λ (w : List ℕ). Says (w ∷ args) verb) (sym (text_is word name e)) says

pub verb_is : (word : List ℕ) (args : List (List ℕ)) (verb : Verb) → verb_at word args ≡ Ok verb → Says (word ∷ args) verb
unfolding verb_at
verb_is word args verb e = elim (chosen (bytes_eq word (codes "short")) _ _ _ e) [
  | inl c ↦ renamed word (codes "short") args verb c.0 (bare_is (codes "short") args verbs.Short verb tt refl c.1)
  | inr c ↦ elim (chosen (bytes_eq word (codes "long")) _ _ _ c.1) [
    | inl d ↦ renamed word (codes "long") args verb d.0 (long_is args verb d.1)
    | inr d ↦ elim (chosen (bytes_eq word (codes "get")) _ _ _ d.1) [
      | inl f ↦ renamed word (codes "get") args verb f.0 (get_is args verb f.1)
      | inr f ↦ elim (chosen (bytes_eq word (codes "scan")) _ _ _ f.1) [
        | inl g ↦ renamed word (codes "scan") args verb g.0 (scan_is args verb g.1)
        | inr g ↦ elim (chosen (bytes_eq word (codes "put")) _ _ _ g.1) [
          | inl h ↦ renamed word (codes "put") args verb h.0 (put_is args verb h.1)
          | inr h ↦ elim (chosen (bytes_eq word (codes "del")) _ _ _ h.1) [
            | inl i ↦ renamed word (codes "del") args verb i.0 (del_is args verb i.1)
            | inr i ↦ elim (chosen (bytes_eq word (codes "commit")) _ _ _ i.1) [
              | inl j ↦ renamed word (codes "commit") args verb j.0 (bare_is (codes "commit") args verbs.Commit verb tt refl j.1)
              | inr j ↦ elim (chosen (bytes_eq word (codes "abort")) _ _ _ j.1) [
                | inl k ↦ renamed word (codes "abort") args verb k.0 (bare_is (codes "abort") args verbs.Abort verb tt refl k.1)
                | inr k ↦ let no_verb : Err causes.Verb ≡ Ok verb = k.1 in absurd cc
              ]
            ]
          ]
        ]
      ]
    ]
  ]
]

pub asked_is : (words : List (List ℕ)) (verb : Verb) → asked_at words ≡ Ok verb → Says words verb
asked_is [] verb e = absurd cc
asked_is (word ∷ args) verb e = verb_is word args verb e

-- ---- commands

-- these words are those of the command
pub record Commands (words : List (List ℕ)) (command : Command) : Type 0 where
  pub fits : IsCommand command
  pub are : words ≡ command_words command

ask_is : (word : List ℕ) (words : List (List ℕ)) (command : Command) → ask_at word words ≡ Ok command → Commands (word ∷ words) command
unfolding ask_at
ask_is word words command e =
    let s = bind_ok (session_at word) (λ session. asked_at words >>= (λ verb. Ok (commands.Ask session verb))) command e in
    let v = bind_ok (asked_at words) (λ verb. Ok (commands.Ask s.0 verb)) command s.2 in
    let session = session_is word s.0 s.1 in
    let verb = asked_is words v.0 v.1 in
    subst (Commands (word ∷ words)) (ok_is (commands.Ask s.0 v.0) command v.2) (record {
      fits = (session.0, session.1, verb.fits);
      are = ap (λ a. a ∷ words) session.2 ∙ ap (λ l. decimal_of s.0 ∷ l) verb.are;
    })

control_is : (word name : List ℕ) (words : List (List ℕ)) (control command : Command) → IsCommand control → name ∷ [] ≡ command_words control → bytes_eq word name ≡ true
    → alone words control ≡ Ok command → Commands (word ∷ words) command
control_is word name words control command fits are named e =
    let a = alone_is words control command e in
    subst (Commands (word ∷ words)) a.1 (record { fits = fits; are = ap (λ (w : List ℕ). w ∷ words) (text_is word name named) ∙ ap (λ l. name ∷ l) a.0 ∙ are })

pub command_is : (word : List ℕ) (words : List (List ℕ)) (command : Command) → command_at word words ≡ Ok command → Commands (word ∷ words) command
unfolding command_at
command_is word words command e = elim (chosen (bytes_eq word (codes "epoch")) _ _ _ e) [
  | inl c ↦ control_is word (codes "epoch") words commands.Epoch command tt refl c.0 c.1
  | inr c ↦ elim (chosen (bytes_eq word (codes "flush")) _ _ _ c.1) [
    | inl d ↦ control_is word (codes "flush") words commands.Flush command tt refl d.0 d.1
    | inr d ↦ elim (chosen (bytes_eq word (codes "prune")) _ _ _ d.1) [
      | inl f ↦ control_is word (codes "prune") words commands.Prune command tt refl f.0 f.1
      | inr f ↦ ask_is word words command f.1
    ]
  ]
]

pub said_is : (words : List (List ℕ)) (command : Command) → said_at words ≡ Ok command → Commands words command
said_is [] command e = absurd cc
said_is (word ∷ words) command e = command_is word words command e

-- the line is the spelling of the command
pub record Spells (line : List ℕ) (command : Command) : Type 0 where
  pub fits : IsCommand command
  pub is : line ≡ command_text command

pub reading_is : (line : List ℕ) (command : Command) → reading line ≡ Ok command → Spells line command
unfolding reading command_text
reading_is line command e = elim (chosen (nat_lt most_bytes (length line)) _ _ _ e) [
  | inl c ↦ let none : Err causes.Long ≡ Ok command = c.1 in absurd cc
  | inr c ↦ elim (chosen (list_all is_word (words_of line)) _ _ _ c.1) [
    | inl d ↦ let s = said_is (words_of line) command d.1 in record { fits = s.fits; is = sym (joined_parts 32 line) ∙ ap joined s.are }
    | inr d ↦ let none : Err causes.Words ≡ Ok command = d.1 in absurd cc
  ]
]
