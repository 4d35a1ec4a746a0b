-- What a flush is answered, and what it changes.
use Rattle.std.proofs.Common.{◌≡◌, inl, inr, ◌+◌, ◌-◌, ◌<◌, ◌≤◌, true, false, ◌==◌, refl, sym, ap, ◌∙◌, subst, arith}
use Rattle.std.proofs.lemmas.Bool.{lt-ltb, le-ltb, le-leb, lt-leb, eq-eqb, ne_eqb, cases_lt}
use Rattle.ltx_model.specs.declared.commands.Command.TheVariants as commands
use Rattle.ltx_model.specs.declared.commands.Line.TheVariants as lines
use Rattle.ltx_model.specs.declared.replies.Entry.{Entry}
use Rattle.ltx_model.specs.declared.replies.Reply.{Reply}
use Rattle.ltx_model.specs.declared.replies.Reply.TheVariants as replies
use Rattle.ltx_model.specs.Limits.{longest_log}
use Rattle.ltx_model.specs.States.{State}
use Rattle.ltx_model.specs.Frames.{sealed, body_length}
use Rattle.ltx_model.specs.Histories.{durable_if, after}
use Rattle.ltx_model.specs.Answers.{answer, flush, flush_within}
use Rattle.ltx_model.specs.Contents.{next_gate}
use Rattle.ltx_model.proofs.BodyLengths.{gate_counted}
use Rattle.ltx_model.proofs.OneMore.{after-is}
use Rattle.ltx_log.specs.Running.{HasRoom}

-- a flush with its reply
abbrev pub flushed : Reply → Entry
flushed reply = record { line = lines.Good commands.Flush; reply = reply }

flush_is : (s : State) → answer s (lines.Good commands.Flush) ≡ flush s (s.epoch - 1 == s.durable)
unfolding answer
flush_is s = refl

module _ (s : State) where
  room_counted : next_gate s.gate (sealed s) + 1 ≡ s.gate + 10 + body_length (sealed s)
  room_counted = omega (arith, gate_counted s.gate (sealed s))

  -- a frame must be written
  module _ (must : s.durable + 1 < s.epoch) where
    behind : (s.epoch - 1 == s.durable) ≡ false
    behind = ne_eqb (s.epoch - 1) s.durable (λ same. omega (arith, same, must))

    pub answer_written : HasRoom s.gate (sealed s) → answer s (lines.Good commands.Flush) ≡ replies.Durable (s.epoch - 1)
    answer_written room = flush_is s ∙ ap (flush s) behind ∙ ap (flush_within s) (le-leb (s.gate + 10 + body_length (sealed s)) longest_log (subst (λ n. n ≤ longest_log) room_counted room))

    pub answer_full : (HasRoom s.gate (sealed s) → ⊥) → answer s (lines.Good commands.Flush) ≡ replies.LimitLog
    answer_full full = flush_is s ∙ ap (flush s) behind ∙ ap (flush_within s) (lt-leb (s.gate + 10 + body_length (sealed s)) longest_log
        (elim (cases_lt longest_log (s.gate + 10 + body_length (sealed s))) [
          | inl past ↦ past
          | inr within ↦ absurd (full (subst (λ n. n ≤ longest_log) (sym room_counted) within))
        ]))

    pub after_written : after s (flushed (replies.Durable (s.epoch - 1))) ≡ durable_if true s (s.epoch - 1)
    after_written = after-is s (lines.Good commands.Flush) (replies.Durable (s.epoch - 1)) ∙ ap (λ b. durable_if b s (s.epoch - 1)) (lt-ltb s.durable (s.epoch - 1) (omega (arith, must)))

    pub above_written : s.durable < (after s (flushed (replies.Durable (s.epoch - 1)))).durable
    above_written = subst (λ (x : State). s.durable < x.durable) (sym after_written) (omega (arith, must))

  pub after_full : after s (flushed replies.LimitLog) ≡ s
  after_full = after-is s (lines.Good commands.Flush) replies.LimitLog

  -- no frame must be written
  pub answer_idle : s.epoch - 1 ≡ s.durable → answer s (lines.Good commands.Flush) ≡ replies.Durable s.durable
  answer_idle last = flush_is s ∙ ap (flush s) (eq-eqb (s.epoch - 1) s.durable last)

  pub after_idle : after s (flushed (replies.Durable s.durable)) ≡ s
  after_idle = after-is s (lines.Good commands.Flush) (replies.Durable s.durable) ∙ ap (λ b. durable_if b s s.durable) (le-ltb s.durable s.durable (omega arith))
