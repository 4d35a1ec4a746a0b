use Rattle.std.proofs.lemmas.Result.{on_ok_weaker}
use Rattle.ltx_reply.proofs.Fronts.{told}
use Rattle.ltx_reply.proofs.print.put_reply.Goals as goal

-- src/print.rt:35:1
pub returns-in_ok-put_text-in-Contradicts-clause-ok :
    goal.returns-in_ok-put_text-in-Contradicts-clause-ok
returns-in_ok-put_text-in-Contradicts-clause-ok c =
    on_ok_weaker c.put_witness-in-Contradicts.result
    (told c.args.out.now.items c.put_text-in-Contradicts.new.out.items c.put_witness-in-Contradicts.new.out.items c.args.reply.now
    c.in-Contradicts.target c.in-Contradicts.op c.in-Contradicts.table c.in-Contradicts.key c.in-Contradicts.reader c.in-Contradicts.is c.in_ok-put_text-in-Contradicts.ensures.ok)
    c.put_witness-in-Contradicts.ensures.ok
