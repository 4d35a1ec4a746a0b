use Rattle.std.proofs.Common.{◌≡◌, ◌∷◌, ℕ, List, Option, Some, None, IfSome, IfNone, [], sym, ◌∙◌}
use Rattle.std.specs.Map.Iter.{deref_pair}
use Rattle.ltx_index.proofs.Leaves.{first_from-given}
use Rattle.ltx_index.proofs.index.Index.after.Goals as goal

pub returns-clause-pair : goal.returns-clause-pair
returns-clause-pair g c = first_from-given c.args.from.now c.args.strict c.args.self.now c.walk.result deref_pair c.next.new.self c.next.result c.walk.ensures.pairs c.next.ensures.some c.next.ensures.none
