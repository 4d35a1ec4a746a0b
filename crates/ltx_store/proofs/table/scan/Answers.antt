use Rattle.std.proofs.Common.{◌∙◌, sym, subst, ℕ, List}
use Rattle.ltx_chain.specs.Versions.{Versions}
use Rattle.ltx_store.specs.Walks.{IsScanned}
use Rattle.ltx_store.proofs.ScanSteps.{scan_start, scan_more, scan_past}
use Rattle.ltx_store.proofs.table.scan.Goals as goal

pub loop-key-init : goal.loop-key-init
loop-key-init c =
    rw (c.new.ensures.items, c.new-2.ensures.items, c.walk-walk.ensures.pairs, c.bytes.ensures.value) (scan_start c.args.low.now c.args.high.now c.args.mark c.args.table.now c.walk-walk.ensures.in_order)

pub loop-key-preserved : goal.loop-key-preserved
loop-key-preserved c =
    let here = subst (λ (left : List (List ℕ × Versions)). IsScanned c.args.low.now c.args.high.now c.args.mark c.args.table.now left c.loop-key.scanned.rows.items c.loop-key.scanned.looks.items) c.in-Some.ensures.some c.loop-key.invariant in
    scan_more c.args.low.now c.args.high.now c.args.mark c.args.table.now (c.in-Some.key.now, c.in-Some.chain.now) c.next.new.self _ _ here _ _ (sym c.is_below.ensures ∙ c.if-not-is_below.false) c.in_ok-note.ensures.rows c.in_ok-note.ensures.looks

pub returns-then-not-is_below : goal.returns-then-not-is_below
returns-then-not-is_below c =
    let here = subst (λ (left : List (List ℕ × Versions)). IsScanned c.args.low.now c.args.high.now c.args.mark c.args.table.now left c.loop-key.scanned.rows.items c.loop-key.scanned.looks.items) c.in-Some.ensures.some c.loop-key.invariant in
    let all = scan_past c.args.low.now c.args.high.now c.args.mark c.args.table.now (c.in-Some.key.now, c.in-Some.chain.now) c.next.new.self _ _ here (sym c.is_below.ensures ∙ c.if-not-is_below.true) in
    record { rows = all.0; looks = all.1 }
