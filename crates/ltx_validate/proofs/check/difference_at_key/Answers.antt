use Rattle.std.proofs.Common.{rules, ◌∙◌, sym, ap, nat_eq}
use Rattle.std.specs.Option.{option_eq}
use Rattle.std.specs.Cmp.Lexicographic.{options_equiv}
use Rattle.std.proofs.lemmas.Cmp.{nat_eq_equiv}
use Rattle.std.proofs.lemmas.Bool.{both_ways}
use Rattle.ltx_validate.proofs.Points.{point_same, point_differs}
use Rattle.ltx_validate.proofs.check.difference_at_key.Goals as goal

pub returns-then-eq : goal.returns-then-eq
returns-then-eq g c =
    point_same (g.L.Latest.rows c.args.latest.now) c.args.table c.args.key.now c.args.look.now c.writer_in-found.result c.writer-current.result c.writer_in-found.ensures c.writer-current.ensures.writer (search rules)

pub returns : goal.returns
returns g c =
    rw c.in_ok-at.ensures (point_differs (g.L.Latest.rows c.args.latest.now) c.args.table c.args.key.now c.args.look.now c.writer_in-found.result c.writer-current.result c.writer_in-found.ensures c.writer-current.ensures.writer (λ e. both_ways (option_eq nat_eq c.writer_in-found.result c.writer-current.result) (sym c.eq.ensures ∙ c.if-eq.false) (ap (option_eq nat_eq c.writer_in-found.result) (sym e) ∙ (options_equiv nat_eq_equiv).refl c.writer_in-found.result)))
