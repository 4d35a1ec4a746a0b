use Rattle.std.proofs.Common.{rules, ◌≡◌, ◌∙◌, sym, ap, true, nat_lt, ◌&&◌}
use Rattle.ltx_model.specs.declared.writes.Write.{Write}
use Rattle.ltx_forward.specs.Waits.{write_some}
use Rattle.ltx_forward.proofs.TableSets.{common_any}
use Rattle.ltx_forward.proofs.wait.may_read.Goals as goal

pub returns-then-lt : goal.returns-then-lt
returns-then-lt c writes are =
    let common = common_any (λ (w : Write). true) (λ (w : Write). w.table) writes c.args.written c.args.live.now.reads are c.meets.result c.meets.ensures.common in
    let less : nat_lt c.args.live.now.tx c.args.number ≡ true = search rules in
    common ∙ sym (ap (λ b. b && write_some writes c.args.live.now.reads) less)
