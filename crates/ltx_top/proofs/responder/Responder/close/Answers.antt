use Rattle.std.proofs.Common.{◌∙◌}
use Rattle.ltx_top.proofs.Results.{closed}
use Rattle.ltx_top.proofs.responder.Responder.close.Goals as goal

pub returns-clause-ending : goal.returns-clause-ending
returns-clause-ending c =
    closed c.put_ending.result c.args.self.now.text.items c.put_ending.new.out.items c.args.self.now.core c.deref.result.now c.durable.result c.put_ending.ensures.ok
    (λ base history stands. c.deref.ensures.value ∙ c.in_ok-order.ensures.value base history stands) c.durable.ensures.value
