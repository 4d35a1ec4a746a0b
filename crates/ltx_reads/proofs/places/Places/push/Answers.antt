use Rattle.std.proofs.Common.{◌≡◌, ◌<◌, ◌≤◌, length, OnOk, OnErr, slice_set, sym, ◌∙◌, subst, arith}
use Rattle.ltx_model.specs.Keys.{same_cell}
use Rattle.ltx_reads.specs.Places.{Pairs, stamps_at, IsStampedBy, HasSameStamps}
use Rattle.ltx_reads.proofs.PlacedStamps.{pushed_or, not_pushed}
use Rattle.ltx_reads.proofs.places.Places.push.Goals as goal

pub returns-clause-stamped : goal.returns-clause-stamped
returns-clause-stamped c =
    let at : c.from.result ≡ c.args.table = c.from.ensures ∙ c.number.ensures.value in
    let wide : 64 ≤ length c.self.inside.tables.items = subst (λ l. 64 ≤ length l) (sym c.self.view_is) c.in_ok-make_tables.ensures.made in
    let within : c.from.result < length c.self.inside.tables.items = omega arith in
    let same : HasSameStamps (stamps_at c.args.self.now) (stamps_at c.self.inside.tables.items) = subst (λ l. HasSameStamps (stamps_at c.args.self.now) (stamps_at l)) (sym c.self.view_is) c.in_ok-make_tables.ensures.same in
    subst (λ t. OnOk c.push_stamp.result (IsStampedBy (same_cell (record { table = t; key = c.args.key.now })) c.args.stamp (stamps_at c.args.self.now) (stamps_at (slice_set c.self.inside.tables.items c.from.result c.push_stamp.new.index)))) at
    (pushed_or c.args.self.now c.self.inside.tables.items c.from.result c.args.key.now c.args.stamp c.index_mut.result.now c.push_stamp.new.index c.push_stamp.result same within c.index_mut.ensures.value c.push_stamp.ensures.stamped)

pub returns-clause-kept : goal.returns-clause-kept
returns-clause-kept c =
    let at : c.from.result ≡ c.args.table = c.from.ensures ∙ c.number.ensures.value in
    let wide : 64 ≤ length c.self.inside.tables.items = subst (λ l. 64 ≤ length l) (sym c.self.view_is) c.in_ok-make_tables.ensures.made in
    let within : c.from.result < length c.self.inside.tables.items = omega arith in
    let same : HasSameStamps (stamps_at c.args.self.now) (stamps_at c.self.inside.tables.items) = subst (λ l. HasSameStamps (stamps_at c.args.self.now) (stamps_at l)) (sym c.self.view_is) c.in_ok-make_tables.ensures.same in
    not_pushed c.args.self.now c.self.inside.tables.items c.from.result c.args.key.now c.args.stamp c.index_mut.result.now c.push_stamp.new.index c.push_stamp.result same within c.index_mut.ensures.value c.push_stamp.ensures.kept
