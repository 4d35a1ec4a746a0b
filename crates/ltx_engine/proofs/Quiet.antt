-- An entry that is no flush leaves the durable epoch and the place of the log's closed gate.
use Rattle.std.proofs.Common.{◌≡◌, ℕ, ◌+◌, Bool, false, List, [], ◌∷◌, refl, ◌∙◌}
use Rattle.ltx_model.specs.declared.commands.Line.{Line}
use Rattle.ltx_model.specs.declared.replies.Entry.{Entry}
use Rattle.ltx_model.specs.States.{Kind, IsShort, IsPending, IsLive, Active, State}
use Rattle.ltx_model.specs.Histories.{slot_after, slots_after, closed, left, in_epoch, after}
use Rattle.ltx_model.specs.Answers.{staged}
use Rattle.ltx_laws.proofs.Transitions.{Cases, entry_case}
use Rattle.ltx_engine.specs.Views.{is_flush}

pub record IsQuiet (s after : State) : Type 0 where
  pub durable : after.durable ≡ s.durable
  pub gate : after.gate ≡ s.gate

-- the line is a flush, or nothing of the log changes
abbrev IsQuietAt : State → Line → State → Type 0
IsQuietAt s line after = is_flush line ≡ false → IsQuiet s after

module _ (s : State) where
  ended_quiet : (session : ℕ) (o : Active) (k : Kind) → IsQuiet s (left (closed s session) k o.number)
  ended_quiet session o IsShort = record { durable = refl; gate = refl }
  ended_quiet session o (IsPending d) = record { durable = refl; gate = refl }
  ended_quiet session o (IsLive d snapshot) = record { durable = refl; gate = refl }

  slots_quiet : (epoch : ℕ) (r : State) (os : List Active) → IsQuiet r (slots_after epoch r os)
  slots_quiet epoch r [] = record { durable = refl; gate = refl }
  slots_quiet epoch r (o ∷ os) =
      let own = by_kind o.kind in
      let rest = slots_quiet epoch (slot_after epoch r o.kind o.number) os in
      record { durable = rest.durable ∙ own.durable; gate = rest.gate ∙ own.gate } where
        by_kind : (k : Kind) → IsQuiet r (slot_after epoch r k o.number)
        by_kind IsShort = record { durable = refl; gate = refl }
        by_kind (IsPending d) = record { durable = refl; gate = refl }
        by_kind (IsLive d snapshot) = record { durable = refl; gate = refl }

  quiet_cases : Cases s (λ line reply after. IsQuietAt s line after)
  quiet_cases = record {
    nothing = λ line reply leaves isnt. record { durable = refl; gate = refl };
    begins_short = λ session none isnt. record { durable = refl; gate = refl };
    begins_long = λ session writes reads none isnt. record { durable = refl; gate = refl };
    answers_short = λ session op o reply is kind free sees answers isnt. record { durable = refl; gate = refl };
    answers_batch = λ session op o d snapshot reply is kind free sees answers isnt. record { durable = refl; gate = refl };
    commits_short = λ session o is kind free unchanged isnt. record { durable = refl; gate = refl };
    commits_home = λ session o d snapshot is kind none isnt. record { durable = refl; gate = refl };
    commits_before = λ session o d snapshot p is kind aim free elder isnt. record { durable = refl; gate = refl };
    ends = λ session verb reply o is ends isnt. ended_quiet session o o.kind;
    advances = λ isnt. let slots = slots_quiet (s.epoch + 1) (in_epoch s (s.epoch + 1)) s.active in record { durable = slots.durable; gate = slots.gate };
    flushes = λ epoch which isnt. absurd (let no : ⊥ = cc in no);
  }

  pub entry_quiet : (built : State → Line → Bool) (entry : Entry) → entry.reply ≡ staged built s entry.line → is_flush entry.line ≡ false → IsQuiet s (after s entry)
  entry_quiet built entry is = entry_case s (λ line reply after. IsQuietAt s line after) quiet_cases built entry is
