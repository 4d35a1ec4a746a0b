use Rattle.std.proofs.Common.{◌∙◌, ap, not, filter}
use Rattle.ltx_model.specs.Holders.{is_entered}
use Rattle.ltx_open.proofs.Results.{if_ok}
use Rattle.ltx_core.proofs.NewCores.{order_tells}
use Rattle.ltx_core.proofs.state.Core.order.Goals as goal

pub returns : goal.returns
returns c = record {
  value = if_ok _ _ (λ txs are base history stands.
      order_tells _ _ c.self.view_is txs.items
      (are ∙ ap (filter (λ n. not (is_entered c.self.inside.preserve n))) (c.deref.ensures.value ∙ c.in_ok-list.ensures)) base history stands.at) c.without_slots.result c.without_slots.ensures;
}
