use Rattle.std.proofs.Common.{option_map, ◌∙◌, ap}
use Rattle.std.specs.List.{find}
use Rattle.ltx_forward.specs.declared.decide.Live.{Live}
use Rattle.ltx_forward.specs.Waits.{is_overtaken}
use Rattle.ltx_forward.proofs.Waiting.{first_overtaken_is}
use Rattle.ltx_forward.proofs.wait.overtaken_live.Goals as goal

pub returns : goal.returns
returns c s i writes records agenda asked =
    c.first_overtaken.ensures c.args.tx.now.list.notes c.looked_into.ensures ∙ ap (λ n. option_map (λ (l : Live). l.tx) (find (is_overtaken n c.args.tx.now.list.notes) c.args.lives.now)) c.tx.ensures.value
    ∙ first_overtaken_is s i c.args.tx.now writes c.args.lives.now records agenda asked
