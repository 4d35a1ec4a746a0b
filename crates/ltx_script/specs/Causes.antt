-- Why a line is no spelling of a command: of the causes that apply, the first one.
use Rattle.std.specs.Prelude.{◌≡◌, ◌≢◌, ◌⊎◌, ℕ, ◌<◌, ◌≤◌, ◌^◌, ◌==◌, IsTrue, IsFalse, List, [], ◌∷◌, ◌++◌, length, map, filter, find, Option, Some, None, codes, bytes_eq}
use Rattle.std.specs.List.{list_all}
use Rattle.ltx_model.specs.declared.commands.Bad.{Bad}
use Rattle.ltx_model.specs.declared.commands.Bad.TheVariants as causes
use Rattle.ltx_model.specs.Tables.{all_tables}
use Rattle.ltx_text.specs.Words.{word_of}
use Rattle.ltx_text.specs.Decimals.{decimal_of}
use Rattle.ltx_script.specs.Commands.{set_text}
use Rattle.ltx_model.specs.Limits.{last_session, IsTable, IsKey, IsBound, IsValue}
use Rattle.ltx_script.specs.Lines.{is_word, most_bytes}
use Rattle.ltx_text.specs.Cuts.{words_of}

-- what an argument of a verb is
pub data Argument : Type 0 where
  ATable : Argument
  AKey : Argument
  ABound : Argument
  AValue : Argument
  AWrites : Argument
  AReads : Argument

-- the word spells such an argument
abbrev pub IsSpelling : Argument → List ℕ → Type 0
IsSpelling ATable word = (table : ℕ) × IsTable table × (word ≡ decimal_of table)
IsSpelling AKey word = (key : List ℕ) × IsKey key × (word ≡ word_of key)
IsSpelling ABound word = (bound : List ℕ) × IsBound bound × (word ≡ word_of bound)
IsSpelling AValue word = (value : List ℕ) × IsValue value × (word ≡ word_of value)
IsSpelling AWrites word = (set : ℕ) × (set < 2 ^ 64) × (word ≡ codes "W=" ++ set_text set)
IsSpelling AReads word = (set : ℕ) × (set < 2 ^ 64) × (set ≢ all_tables) × (word ≡ codes "R=" ++ set_text set)

-- the cause where a word is no such argument
abbrev pub cause_of : Argument → Bad
cause_of ATable = causes.Table
cause_of AKey = causes.Key
cause_of ABound = causes.Key
cause_of AValue = causes.Value
cause_of AWrites = causes.Sets
cause_of AReads = causes.Sets

-- the first word from the left that does not spell its argument has this cause
abbrev pub IsFirstBad : List Argument → List (List ℕ) → Bad → Type 0
IsFirstBad [] words cause = ⊥
IsFirstBad (argument ∷ arguments) [] cause = ⊥
IsFirstBad (argument ∷ arguments) (word ∷ words) cause =
    ((IsSpelling argument word → ⊥) × (cause_of argument ≡ cause)) ⊎ (IsSpelling argument word × IsFirstBad arguments words cause)

-- a verb with the arguments of one of its forms
pub record Form : Type 0 where
  pub verb : List ℕ
  pub arguments : List Argument

-- the forms of what a session asks: eight verbs, one of them with two forms
abbrev pub forms : List Form
forms =
    (record { verb = codes "short"; arguments = [] })
    ∷ (record { verb = codes "long"; arguments = AWrites ∷ [] })
    ∷ (record { verb = codes "long"; arguments = AWrites ∷ AReads ∷ [] })
    ∷ (record { verb = codes "get"; arguments = ATable ∷ AKey ∷ [] })
    ∷ (record { verb = codes "scan"; arguments = ATable ∷ ABound ∷ ABound ∷ [] })
    ∷ (record { verb = codes "put"; arguments = ATable ∷ AKey ∷ AValue ∷ [] })
    ∷ (record { verb = codes "del"; arguments = ATable ∷ AKey ∷ [] })
    ∷ (record { verb = codes "commit"; arguments = [] })
    ∷ (record { verb = codes "abort"; arguments = [] })
    ∷ []

-- the forms that a verb has
unfoldable pub forms_of : List ℕ → List (List Argument)
forms_of verb = map (λ form. form.arguments) (filter (λ form. bytes_eq verb form.verb) forms)

-- the form of a verb with so many arguments
unfoldable pub form_of : List ℕ → ℕ → Option (List Argument)
form_of verb count = find (λ arguments. length arguments == count) (forms_of verb)

-- why a verb and its arguments are no form: there is no such verb; it has not so many arguments; an argument is no spelling
pub data VerbCause (verb : List ℕ) (words : List (List ℕ)) : Bad → Type 0 where
  unknown : forms_of verb ≡ [] → VerbCause verb words causes.Verb
  miscounted : forms_of verb ≢ [] → form_of verb (length words) ≡ None → VerbCause verb words causes.Words
  misspelt : {cause : Bad} (form : List Argument) → form_of verb (length words) ≡ Some form → IsFirstBad form words cause → VerbCause verb words cause

-- a first word that stands alone
abbrev pub IsControl : List ℕ → Type 0
IsControl word = (word ≡ codes "epoch") ⊎ ((word ≡ codes "flush") ⊎ (word ≡ codes "prune"))

-- the number of a session
abbrev pub IsSession : List ℕ → Type 0
IsSession word = (session : ℕ) × (0 < session) × (session ≤ last_session) × (word ≡ decimal_of session)

-- why words are no command: a word behind `epoch`, `flush` or `prune`; no session; no verb; what the verb lacks
pub data WordsCause : List (List ℕ) → Bad → Type 0 where
  word_behind : {first second : List ℕ} {words : List (List ℕ)} → IsControl first → WordsCause (first ∷ second ∷ words) causes.Words
  no_session : {first : List ℕ} {words : List (List ℕ)} → (IsControl first → ⊥) → (IsSession first → ⊥) → WordsCause (first ∷ words) causes.Session
  silent : {first : List ℕ} → (IsControl first → ⊥) → IsSession first → WordsCause (first ∷ []) causes.Verb
  by_verb : {first verb : List ℕ} {words : List (List ℕ)} {cause : Bad} → (IsControl first → ⊥) → IsSession first → VerbCause verb words cause
      → WordsCause (first ∷ verb ∷ words) cause

-- why a line is no command: it is too long; it is not one or more words with one space between two; what its words lack
pub data IsCause (line : List ℕ) : Bad → Type 0 where
  too_long : most_bytes < length line → IsCause line causes.Long
  no_words : length line ≤ most_bytes → IsFalse (list_all is_word (words_of line)) → IsCause line causes.Words
  by_words : {cause : Bad} → length line ≤ most_bytes → IsTrue (list_all is_word (words_of line)) → WordsCause (words_of line) cause → IsCause line cause
