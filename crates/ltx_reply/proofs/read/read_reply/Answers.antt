use Rattle.std.proofs.Common.{◌≡◌, ℕ, List, Some, None, false, refl, sym, ap, ◌∙◌, rules}
use Rattle.std.specs.Prelude.{bytes_eq}
use Rattle.ltx_reply.specs.Texts.{reply_text}
use Rattle.ltx_reply.specs.Readings.{guess_at}
use Rattle.ltx_reply.proofs.Hints.{guessed, none_unread, none_unkept, none_unlike}
use Rattle.ltx_reply.proofs.read.read_reply.Goals as goal

pub returns-in-Err-NoReply-clause-none : goal.returns-in-Err-NoReply-clause-none
returns-in-Err-NoReply-clause-none c =
    let unread : guess_at c.args.text.now ≡ None = search rules in
    none_unread c.args.text.now unread

pub returns-in-Err-NoReply-clause-again : goal.returns-in-Err-NoReply-clause-again
returns-in-Err-NoReply-clause-again c =
    let unread : guess_at c.args.text.now ≡ None = search rules in
    λ reply kept is same. absurd (none_unread c.args.text.now unread reply kept is same)

pub returns-then-not-is_reply-clause-none : goal.returns-then-not-is_reply-clause-none
returns-then-not-is_reply-clause-none c =
    let read : guess_at c.args.text.now ≡ Some c.in-Ok.reply = search rules in
    none_unkept c.args.text.now c.in-Ok.reply read (c.if-not-is_reply.ensures.no refl)

pub returns-then-not-is_reply-clause-again : goal.returns-then-not-is_reply-clause-again
returns-then-not-is_reply-clause-again c =
    let read : guess_at c.args.text.now ≡ Some c.in-Ok.reply = search rules in
    λ reply kept is same. absurd (none_unkept c.args.text.now c.in-Ok.reply read (c.if-not-is_reply.ensures.no refl) reply kept is same)

pub returns-then-is-clause-again : goal.returns-then-is-clause-again
returns-then-is-clause-again c =
    let read : guess_at c.args.text.now ≡ Some c.in-Ok.reply = search rules in
    λ reply kept is same. ap Some (guessed c.args.text.now reply c.in-Ok.reply read is same)

pub returns-else-is-clause-none : goal.returns-else-is-clause-none
returns-else-is-clause-none c =
    let read : guess_at c.args.text.now ≡ Some c.in-Ok.reply = search rules in
    let printed : c.deref.result.now ≡ reply_text c.in-Ok.reply = search rules in
    let unlike : bytes_eq (reply_text c.in-Ok.reply) c.args.text.now ≡ false = sym (ap (λ (l : List ℕ). bytes_eq l c.args.text.now) printed) ∙ sym c.if-is.ensures in
    none_unlike c.args.text.now c.in-Ok.reply read unlike

pub returns-else-is-clause-again : goal.returns-else-is-clause-again
returns-else-is-clause-again c =
    let read : guess_at c.args.text.now ≡ Some c.in-Ok.reply = search rules in
    let printed : c.deref.result.now ≡ reply_text c.in-Ok.reply = search rules in
    let unlike : bytes_eq (reply_text c.in-Ok.reply) c.args.text.now ≡ false = sym (ap (λ (l : List ℕ). bytes_eq l c.args.text.now) printed) ∙ sym c.if-is.ensures in
    λ reply kept is same. absurd (none_unlike c.args.text.now c.in-Ok.reply read unlike reply kept is same)
