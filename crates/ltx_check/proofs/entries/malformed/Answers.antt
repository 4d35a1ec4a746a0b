use Rattle.std.proofs.Common.{◌≡◌, rules}
use Rattle.ltx_model.specs.declared.commands.Bad.{Bad}
use Rattle.ltx_model.specs.declared.replies.Reply.TheVariants as replies
use Rattle.ltx_reply.specs.Texts.{reply_text, IsReply, IsWithinLimits}
use Rattle.ltx_check.proofs.EntryLemmas.{HasNoReply, no_reply, other_cause}
use Rattle.ltx_check.proofs.entries.malformed.Goals as goal

pub returns-in-Ok-None-clause-none : goal.returns-in-Ok-None-clause-none
returns-in-Ok-None-clause-none c =
    let none : HasNoReply c.args.text.now = (rw c.in-Ok-None.field-0-is at c.in-Ok-None.ensures.none) in
    no_reply c.args.text.now none

pub returns-in-None-clause-none : goal.returns-in-None-clause-none
returns-in-None-clause-none c =
    let reply = c.in-Ok-Some.reply in
    let found : reply_text reply ≡ c.args.text.now = (rw c.in-Ok-Some.field-0-is at c.in-Ok-Some.ensures.found) in
    let kept : IsReply reply × IsWithinLimits reply = (rw c.in-Ok-Some.field-0-is at c.in-Ok-Some.ensures.kept) in
    let none : (cause : Bad) → reply ≡ replies.Bad cause → ⊥ = search rules in
    other_cause c.args.text.now reply kept.1 found none
