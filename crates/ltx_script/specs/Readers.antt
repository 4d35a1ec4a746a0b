-- How a reader's answer stands to a reading of lists.
use Rattle.std.specs.Prelude.{◌≡◌, ℕ, List, if◌then◌else◌, Result, Ok, Err}
use Rattle.std.specs.List.{list_all}
use Rattle.ltx_model.specs.declared.commands.Bad.{Bad}
use Rattle.ltx_model.specs.declared.commands.Bad.TheVariants as causes
use Rattle.ltx_model.specs.declared.commands.Command.{Command}
use Rattle.ltx_model.specs.declared.commands.Command.TheVariants as commands
use Rattle.ltx_model.specs.declared.commands.Verb.{Verb}
use Rattle.ltx_script.specs.Lines.{◌>>=◌, is_word, next_word, alone}
use Rattle.ltx_text.specs.Cuts.{words_of}
use Rattle.ltx_script.specs.declared.refusal.Refusal.{Refusal}
use Rattle.ltx_script.specs.declared.refusal.Refusal.TheVariants as refusals

-- the cause, unless memory was wanting
abbrev pub Refuses : {Y : Type 0} → Refusal → Result Y Bad → Type 0
Refuses refusals.Memory read = Unit {0}
Refuses (refusals.Cause cause) read = read ≡ Err cause

-- what a function returned, seen by view, is what reading gives, unless memory was wanting
abbrev pub Gives : {X Y : Type 0} → (X → Y) → Result X Refusal → Result Y Bad → Type 0
Gives view (Ok x) read = read ≡ Ok (view x)
Gives view (Err refusal) read = Refuses refusal read

-- the next word, with none behind it
abbrev pub last_word : List (List ℕ) → Result (List ℕ) Bad
last_word words = next_word words >>= (λ p. alone p.1 p.0)

-- what this session asks, where it was read
abbrev pub asked : ℕ → Result Verb Bad → Result Command Bad
asked session read = read >>= (λ verb. Ok (commands.Ask session verb))

-- the first cause of a line in which no command was read, where this one was found
abbrev pub first_cause : List ℕ → Bad → Bad
first_cause line cause = if list_all is_word (words_of line) then cause else causes.Words
