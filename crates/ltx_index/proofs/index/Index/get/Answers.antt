use Rattle.std.proofs.Common.{[], sym, ap, ◌∙◌}
use Rattle.ltx_index.specs.Pairs.{value_at}
use Rattle.ltx_index.proofs.Places.{read_some, read_none}
use Rattle.ltx_index.proofs.Leaves.{value_at-home}
use Rattle.ltx_index.proofs.index.Index.get.Goals as goal

pub returns-in_err-get-clause-value : goal.returns-in_err-get-clause-value
returns-in_err-get-clause-value g c =
    let leaves = c.self.inside.leaves.items in
    let home = rw (c.deref.ensures.value, c.bytes.ensures.value) at c.home-at.ensures in
    let none = read_none (λ x. x.now) leaves c.home-at.result [] c.get.result (rw c.deref-2.ensures.value at c.get.ensures.lookup) c.in_err-get.was in
    rw (← c.self.view_is, c.from_residual.ensures) (sym (value_at-home c.args.key.now leaves c.home-at.result home ∙ ap (λ leaf. value_at leaf c.args.key.now) none))

pub returns-clause-value : goal.returns-clause-value
returns-clause-value g c =
    let leaves = c.self.inside.leaves.items in
    let home = rw (c.deref.ensures.value, c.bytes.ensures.value) at c.home-at.ensures in
    let leaf = read_some (λ x. x.now) leaves c.home-at.result [] c.get.result c.in_ok-get.field-0 (rw c.deref-2.ensures.value at c.get.ensures.lookup) c.in_ok-get.was in
    rw (← c.self.view_is) (c.get-2.ensures.value ∙ sym (value_at-home c.args.key.now leaves c.home-at.result home ∙ ap (λ leaf. value_at leaf c.args.key.now) leaf))
