use Rattle.std.proofs.Common.{◌≡◌, ◌==◌, ◌<◌, ◌≤◌, length, OnOk, OnErr, slice_set, sym, ◌∙◌, subst, arith}
use Rattle.ltx_reads.specs.Places.{scans_at, IsStampedBy, HasSameStamps}
use Rattle.ltx_reads.proofs.PlacedStamps.{scanned_or, not_scanned}
use Rattle.ltx_reads.proofs.scanners.Scanners.push.Goals as goal

pub returns-clause-stamped : goal.returns-clause-stamped
returns-clause-stamped c =
    let at : c.from.result ≡ c.args.table = c.from.ensures ∙ c.number.ensures.value in
    let wide : 64 ≤ length c.self.inside.tables.items = subst (λ l. 64 ≤ length l) (sym c.self.view_is) c.in_ok-make_tables.ensures.made in
    let within : c.from.result < length c.self.inside.tables.items = omega arith in
    let same : HasSameStamps (scans_at c.args.self.now) (scans_at c.self.inside.tables.items) = subst (λ l. HasSameStamps (scans_at c.args.self.now) (scans_at l)) (sym c.self.view_is) c.in_ok-make_tables.ensures.same in
    subst (λ t. OnOk c.push.result (IsStampedBy (λ cell. t == cell.table) c.args.stamp (scans_at c.args.self.now) (scans_at (slice_set c.self.inside.tables.items c.from.result c.push.new.self)))) at
    (scanned_or c.args.self.now c.self.inside.tables.items c.from.result c.args.stamp c.index_mut.result.now c.push.new.self c.push.result same within c.index_mut.ensures.value c.push.ensures.pushed)

pub returns-clause-kept : goal.returns-clause-kept
returns-clause-kept c =
    let at : c.from.result ≡ c.args.table = c.from.ensures ∙ c.number.ensures.value in
    let wide : 64 ≤ length c.self.inside.tables.items = subst (λ l. 64 ≤ length l) (sym c.self.view_is) c.in_ok-make_tables.ensures.made in
    let within : c.from.result < length c.self.inside.tables.items = omega arith in
    let same : HasSameStamps (scans_at c.args.self.now) (scans_at c.self.inside.tables.items) = subst (λ l. HasSameStamps (scans_at c.args.self.now) (scans_at l)) (sym c.self.view_is) c.in_ok-make_tables.ensures.same in
    not_scanned c.args.self.now c.self.inside.tables.items c.from.result c.args.stamp c.index_mut.result.now c.push.new.self c.push.result same within c.index_mut.ensures.value c.push.ensures.kept
