use Rattle.std.proofs.Common.{sym, subst}
use Rattle.ltx_model.specs.declared.replies.Reply.{Reply}
use Rattle.ltx_top.specs.Built.{built}
use Rattle.ltx_reply.specs.Texts.{IsReply}
use Rattle.ltx_top.proofs.Printable.{answers_print}
use Rattle.ltx_top.proofs.serving.serve.Goals as goal

pub put_entry-requires : goal.put_entry-requires
put_entry-requires c =
    let h = c.requires.under_way in
    record { spelt = c.requires.spelt; kept = subst (λ (r : Reply). IsReply r) (sym (c.in_ok-reply.ensures.reply h.base h.history h.sound h.legal h.stands)) (answers_print built h.base h.history c.args.line.now h.sound h.legal) }

pub returns-clause-served : goal.returns-clause-served
returns-clause-served c = record {
  reply = c.in_ok-reply.reply;
  told = c.in_ok-reply.ensures.reply;
  stands = c.in_ok-reply.ensures.stands;
  text = c.in_ok-put_entry.ensures.ok;
  tells = c.is_bad.ensures;
}
