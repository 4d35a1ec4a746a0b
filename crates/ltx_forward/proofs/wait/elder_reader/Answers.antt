use Rattle.std.proofs.Common.{option_map, ◌∙◌, ap}
use Rattle.std.specs.List.{find}
use Rattle.ltx_forward.specs.declared.decide.Live.{Live}
use Rattle.ltx_forward.specs.Waits.{may_read_from}
use Rattle.ltx_forward.proofs.Waiting.{first_reader_is}
use Rattle.ltx_forward.proofs.wait.elder_reader.Goals as goal

pub returns : goal.returns
returns c s i records asked =
    c.first_reader.ensures c.args.writes.now c.tables_of.ensures ∙ ap (λ n. option_map (λ (l : Live). l.tx) (find (may_read_from c.args.agenda.now.list c.args.p n c.args.writes.now) c.args.lives.now)) c.tx.ensures.value
    ∙ first_reader_is s i c.args.tx.now c.args.writes.now c.args.lives.now records c.args.agenda.now asked c.args.p c.requires.place
