-- A malformed line, which the core does not see: what it is answered, and that the core then stands for one entry more.
use Rattle.std.proofs.Common.{◌≡◌, List, [], ◌∷◌, ◌++◌, refl, sym, ap, ◌∙◌}
use Rattle.ltx_model.specs.declared.commands.Bad.{Bad}
use Rattle.ltx_model.specs.declared.commands.Line.{Line}
use Rattle.ltx_model.specs.declared.commands.Line.TheVariants as lines
use Rattle.ltx_model.specs.declared.replies.Entry.{Entry}
use Rattle.ltx_model.specs.declared.replies.Reply.TheVariants as replies
use Rattle.ltx_model.specs.States.{Base, State}
use Rattle.ltx_model.specs.Histories.{after, state}
use Rattle.ltx_model.specs.Answers.{answer, staged}
use Rattle.ltx_top.specs.Built.{built}
use Rattle.ltx_core.specs.Views.{CoreView}
use Rattle.ltx_core.specs.Stands.{StandsFor}
use Rattle.ltx_core.proofs.LogSteps.{quiet}

bad_reply : (s : State) (cause : Bad) → staged built s (lines.Bad cause) ≡ replies.Bad cause
unfolding answer
bad_reply s cause = refl

bad_leaves : (s : State) (cause : Bad) → after s (record { line = lines.Bad cause; reply = replies.Bad cause }) ≡ s
unfolding after
bad_leaves s cause = refl

pub bad_answer : (line : Line) (cause : Bad) → line ≡ lines.Bad cause → (s : State) → replies.Bad cause ≡ staged built s line
bad_answer line cause is s = sym (ap (staged built s) is ∙ bad_reply s cause)

pub bad_stands : (core : CoreView) (base : Base) (history : List Entry) (line : Line) (cause : Bad) → line ≡ lines.Bad cause → StandsFor core base history
    → StandsFor core base (history ++ record { line = line; reply = replies.Bad cause } ∷ [])
bad_stands core base history line cause is stands =
    quiet core base history (record { line = line; reply = replies.Bad cause })
    ((λ i. after (state base history) (record { line = is i; reply = replies.Bad cause })) ∙ bad_leaves (state base history) cause) stands
