use Rattle.std.proofs.Common.{◌≡◌, [], IfOk, ap, subst, ◌∙◌}
use Rattle.ltx_recover.specs.Stamps.{rows_with_all}
use Rattle.ltx_recover.proofs.Stamps.{played_stamped}
use Rattle.ltx_recover.proofs.frames.rows_left.Goals as goal

pub returns : goal.returns
returns c = subst (λ l. IfOk c.rows_of.result (λ rows. rows ≡ l)) (ap (rows_with_all []) c.in_ok-stamps.ensures ∙ played_stamped [] c.args.order.now) c.rows_of.ensures
