-- Reading an entry: each place of the line is tried, and an entry has one command and one reply.
use Rattle.std.proofs.Common.{◌≡◌, ℕ, ◌+◌, ◌≤◌, List, ◌++◌, length, take, drop, sym, ap, ◌∙◌, append_assoc, arith, inl, inr, codes}
use Rattle.std.proofs.Math.Seq.{take-append_seam, drop-append_seam}
use Rattle.std.proofs.lemmas.List.{length-append, append_cancel_left}
use Rattle.std.proofs.lemmas.Bool.{cases_lt}
use Rattle.ltx_model.specs.declared.commands.Bad.{Bad}
use Rattle.ltx_model.specs.declared.commands.Command.{Command}
use Rattle.ltx_model.specs.declared.commands.Line.{Line}
use Rattle.ltx_model.specs.declared.commands.Line.TheVariants as lines
use Rattle.ltx_model.specs.declared.replies.Entry.{Entry}
use Rattle.ltx_model.specs.declared.replies.Reply.{Reply}
use Rattle.ltx_model.specs.declared.replies.Reply.TheVariants as replies
use Rattle.ltx_script.specs.Commands.{IsCommand, command_text}
use Rattle.ltx_reply.specs.Texts.{reply_text, IsReply, IsWithinLimits}
use Rattle.ltx_check.specs.Texts.{entry_line, IsAnswered, IsEntry}
use Rattle.ltx_reply.proofs.Hints.{replies_differ}
use Rattle.ltx_check.proofs.Commands.{same_behind, no_question}

-- no command ends where none was found
abbrev pub NoneHere : List ℕ → List ℕ → Type 0
NoneHere front rest = (command : Command) (reply : List ℕ) → IsCommand command → front ≡ command_text command → rest ≡ codes " => " ++ reply → ⊥

-- each command that the line begins with ends at this place or later
abbrev pub EndFrom : List ℕ → ℕ → Type 0
EndFrom line at = (command : Command) (reply : List ℕ) → IsCommand command → line ≡ command_text command ++ codes " => " ++ reply → at ≤ length (command_text command)

pub end_later : (line front rest : List ℕ) (at : ℕ) → front ≡ take at line → rest ≡ drop at line → NoneHere front rest → EndFrom line at → EndFrom line (at + 1)
end_later line front rest at first second none from command reply fits is =
    elim (cases_lt at (length (command_text command))) [
      | inl low ↦ omega (arith, low)
      | inr high ↦
          let here : at ≡ length (command_text command) = omega (arith, high, from command reply fits is) in
          let parts : line ≡ command_text command ++ (codes " => " ++ reply)
          = is ∙ append_assoc (command_text command) (codes " => ") reply in
          let fronts : front ≡ command_text command
          = first ∙ (λ i. take (here i) (parts i)) ∙ take-append_seam (command_text command) (codes " => " ++ reply) in
          let rests : rest ≡ codes " => " ++ reply
          = second ∙ (λ i. drop (here i) (parts i)) ∙ drop-append_seam (command_text command) (codes " => " ++ reply) in
          absurd (none command reply fits fronts rests)
    ]

pub end_nowhere : (line : List ℕ) (at : ℕ) → length line ≤ at → EndFrom line at → (command : Command) (reply : List ℕ) → IsCommand command → line ≡ command_text command ++ codes " => " ++ reply → ⊥
end_nowhere line at past from command reply fits is =
    omega (arith, past, from command reply fits is, ap length is, length-append (command_text command ++ codes " => ") reply, length-append (command_text command) (codes " => "))

-- no reply has this text
abbrev pub HasNoReply : List ℕ → Type 0
HasNoReply text = (reply : Reply) → IsReply reply → IsWithinLimits reply → reply_text reply ≡ text → ⊥

-- ---- malformed lines

-- no reply that names a cause has this text
abbrev pub NoCause : List ℕ → Type 0
NoCause text = (entry : Entry) → IsEntry entry → entry_line entry ≡ codes "? => " ++ text → ⊥

bad_behind : (text : List ℕ) (reply : Reply) → codes "?" ++ codes " => " ++ reply_text reply ≡ codes "? => " ++ text → reply_text reply ≡ text
bad_behind text reply is = append_cancel_left (codes "? => ") (reply_text reply) text is

-- no malformed line has a reply with this text
pub no_cause : (text : List ℕ) → ((cause : Bad) → reply_text (replies.Bad cause) ≡ text → ⊥) → NoCause text
no_cause text none entry fits is = by entry.line entry.reply fits is
  where
    by : (line : Line) (reply : Reply) → IsAnswered line reply → entry_line (record { line = line; reply = reply }) ≡ codes "? => " ++ text → ⊥
    by (lines.Good command) reply fits is = no_question command (codes " => " ++ reply_text reply) (codes " => " ++ text) fits.0 (sym (append_assoc (command_text command) (codes " => ") (reply_text reply)) ∙ is)
    by (lines.Bad cause) reply fits is = none cause (ap reply_text (sym fits) ∙ bad_behind text reply is)

pub no_reply : (text : List ℕ) → HasNoReply text → NoCause text
no_reply text none = no_cause text (λ cause. none (replies.Bad cause) tt tt)

-- a text has one reply, and this one names no cause
pub other_cause : (text : List ℕ) (reply : Reply) → IsWithinLimits reply → reply_text reply ≡ text → ((cause : Bad) → reply ≡ replies.Bad cause → ⊥) → NoCause text
other_cause text reply within is none = no_cause text (λ cause same. none cause (replies_differ reply (replies.Bad cause) within tt (is ∙ sym same)))

-- ---- answered commands

pub no_answer : (command : Command) (text : List ℕ) → IsCommand command → HasNoReply text → (entry : Entry) → IsEntry entry → entry_line entry ≡ command_text command ++ codes " => " ++ text → ⊥
no_answer command text well none entry fits is = by entry.line entry.reply fits is
  where
    by : (line : Line) (reply : Reply) → IsAnswered line reply → entry_line (record { line = line; reply = reply }) ≡ command_text command ++ codes " => " ++ text → ⊥
    by (lines.Good other) reply fits is =
        none reply fits.1 fits.2 (same_behind other command (reply_text reply) text fits.0 well is)
    by (lines.Bad cause) reply fits is = no_question command (codes " => " ++ text) (codes " => " ++ reply_text reply) well (sym (append_assoc (command_text command) (codes " => ") text) ∙ sym is)

-- ---- lines

-- a line that begins neither with `?` nor with a command is no entry's
pub no_entry : (line : List ℕ) → ((text : List ℕ) → line ≡ codes "? => " ++ text → ⊥)
    → ((command : Command) (reply : List ℕ) → IsCommand command → line ≡ command_text command ++ codes " => " ++ reply → ⊥)
    → (entry : Entry) → IsEntry entry → entry_line entry ≡ line → ⊥
no_entry line other none entry fits is = by entry.line entry.reply fits is
  where
    by : (l : Line) (reply : Reply) → IsAnswered l reply → entry_line (record { line = l; reply = reply }) ≡ line → ⊥
    by (lines.Good command) reply fits is = none command (reply_text reply) fits.0 (sym is)
    by (lines.Bad cause) reply fits is = other (reply_text reply) (sym is)
