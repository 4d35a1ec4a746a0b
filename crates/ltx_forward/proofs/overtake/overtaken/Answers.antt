use Rattle.std.proofs.Common.{ℕ, List, Option, sym, subst}
use Rattle.ltx_forward.specs.Earliest.{IsOvertaken}
use Rattle.ltx_forward.proofs.InOrder.{AreFound, found_start, found_more, fewer_members}
use Rattle.ltx_forward.proofs.Placeable.{placeable, overtaken_member}
use Rattle.ltx_forward.proofs.Overtakes.{overtaken_by}
use Rattle.ltx_forward.proofs.overtake.overtaken.Goals as goal

pub earliest_overtaken-requires-clause-placeable : goal.earliest_overtaken-requires-clause-placeable
earliest_overtaken-requires-clause-placeable c = placeable c.args.tx.now c.args.writes.now c.args.lives.now c.args.records.now c.args.agenda.now c.requires.asked

pub loop-next-init : goal.loop-next-init
loop-next-init c =
    let placed = placeable c.args.tx.now c.args.writes.now c.args.lives.now c.args.records.now c.args.agenda.now c.requires.asked in
    subst (λ (xs : List ℕ). AreFound c.args.agenda.now.list (IsOvertaken c.args.tx.now c.args.lives.now c.args.records.now c.args.agenda.now.list) xs c.in_ok-next.next) (sym c.new-found.ensures.items)
    (found_start c.args.agenda.now.list (IsOvertaken c.args.tx.now c.args.lives.now c.args.records.now c.args.agenda.now.list) (overtaken_member c.args.tx.now c.args.lives.now c.args.records.now c.args.agenda.now.list placed) c.in_ok-next.next c.in_ok-next.ensures)

pub earliest_overtaken-requires-in-Some-clause-placeable : goal.earliest_overtaken-requires-in-Some-clause-placeable
earliest_overtaken-requires-in-Some-clause-placeable c = placeable c.args.tx.now c.args.writes.now c.args.lives.now c.args.records.now c.args.agenda.now c.requires.asked

pub earliest_overtaken-requires-in-Some-clause-after : goal.earliest_overtaken-requires-in-Some-clause-after
earliest_overtaken-requires-in-Some-clause-after c =
    let placed = placeable c.args.tx.now c.args.writes.now c.args.lives.now c.args.records.now c.args.agenda.now c.requires.asked in
    let are = subst (λ (o : Option ℕ). AreFound c.args.agenda.now.list (IsOvertaken c.args.tx.now c.args.lives.now c.args.records.now c.args.agenda.now.list) c.loop-next.found.items o) c.in-Some.is c.loop-next.invariant in
    overtaken_member c.args.tx.now c.args.lives.now c.args.records.now c.args.agenda.now.list placed c.in-Some.member are.next_is

pub loop-next-smaller : goal.loop-next-smaller
loop-next-smaller c =
    let placed = placeable c.args.tx.now c.args.writes.now c.args.lives.now c.args.records.now c.args.agenda.now c.requires.asked in
    let are = subst (λ (o : Option ℕ). AreFound c.args.agenda.now.list (IsOvertaken c.args.tx.now c.args.lives.now c.args.records.now c.args.agenda.now.list) c.loop-next.found.items o) c.in-Some.is c.loop-next.invariant in
    rw c.in-Some.is (fewer_members c.args.agenda.now.list (IsOvertaken c.args.tx.now c.args.lives.now c.args.records.now c.args.agenda.now.list) (overtaken_member c.args.tx.now c.args.lives.now c.args.records.now c.args.agenda.now.list placed) c.loop-next.found.items c.in-Some.member
    c.in_ok-next-2.next are c.in_ok-next-2.ensures)

pub loop-next-preserved : goal.loop-next-preserved
loop-next-preserved c =
    let placed = placeable c.args.tx.now c.args.writes.now c.args.lives.now c.args.records.now c.args.agenda.now c.requires.asked in
    let are = subst (λ (o : Option ℕ). AreFound c.args.agenda.now.list (IsOvertaken c.args.tx.now c.args.lives.now c.args.records.now c.args.agenda.now.list) c.loop-next.found.items o) c.in-Some.is c.loop-next.invariant in
    subst (λ (xs : List ℕ). AreFound c.args.agenda.now.list (IsOvertaken c.args.tx.now c.args.lives.now c.args.records.now c.args.agenda.now.list) xs c.in_ok-next-2.next) (sym c.in_ok-push.ensures.items)
    (found_more c.args.agenda.now.list (IsOvertaken c.args.tx.now c.args.lives.now c.args.records.now c.args.agenda.now.list) (overtaken_member c.args.tx.now c.args.lives.now c.args.records.now c.args.agenda.now.list placed) c.loop-next.found.items c.in-Some.member
    c.in_ok-next-2.next are c.in_ok-next-2.ensures)

pub returns : goal.returns
returns c s i asked =
    overtaken_by s i c.args.tx.now c.args.writes.now c.args.lives.now c.args.records.now c.args.agenda.now asked c.loop-next.found.items
    (subst (λ (o : Option ℕ). AreFound c.args.agenda.now.list (IsOvertaken c.args.tx.now c.args.lives.now c.args.records.now c.args.agenda.now.list) c.loop-next.found.items o) c.in_default.is c.loop-next.invariant)
