use Rattle.std.proofs.Common.{◌∙◌, sym, arith}
use Rattle.ltx_index.proofs.Heads.{begins_below, begins_above}
use Rattle.ltx_index.proofs.keys.Keys.begins_short.Goals as goal

pub returns-in-Less : goal.returns-in-Less
returns-in-Less c =
    rw (← c.self.view_is) (begins_below c.self.inside.keys.items c.self.inside.heads.items c.self.inside.low c.args.of_from c.args.from.now c.args.strict c.self.invariant c.requires (λ i. omega (arith, c.type_inv.from i)) (sym c.cmp.ensures ∙ c.in-Less.is))

pub returns-in-Greater : goal.returns-in-Greater
returns-in-Greater c =
    rw (← c.self.view_is) (begins_above c.self.inside.keys.items c.self.inside.heads.items c.self.inside.low c.args.of_from c.args.from.now c.args.strict c.self.invariant c.requires (λ i. omega (arith, c.type_inv.from i)) (sym c.cmp.ensures ∙ c.in-Greater.is))
