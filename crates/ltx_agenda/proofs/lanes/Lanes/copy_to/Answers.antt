use Rattle.std.proofs.Common.{◌++◌, length-append, arith, ap, ◌∙◌, sym}
use Rattle.std.proofs.lemmas.List.{at_drop_all}
use Rattle.ltx_agenda.specs.Runs.{rows_of, members_of}
use Rattle.ltx_agenda.specs.Placed.{Standing}
use Rattle.ltx_agenda.proofs.Listings.{copied, copied_room, append_none}
use Rattle.ltx_agenda.proofs.lanes.Lanes.copy_to.Goals as goal

pub loop-run-init : goal.loop-run-init
loop-run-init c = record {
  whole = ap (λ xs. c.args.flat.now.items ++ members_of (rows_of xs)) c.deref-run-items.ensures.value ∙ ap (λ (v : Standing). c.args.flat.now.items ++ v.list) c.self.view_is;
  capacity = omega arith;
}

pub copy_to-requires : goal.copy_to-requires
copy_to-requires c =
    let next = copied_room c.deref-run-items.result.now c.loop-run.run-index c.run-item.result c.loop-run.flat.items (c.args.flat.now.items ++ c.args.self.now.list) c.loop-run-test.true c.run-item.is c.loop-run.invariant.whole in
    let parts = length-append c.args.flat.now.items c.args.self.now.list in
    let room = c.requires.room in
    let capacity = c.loop-run.invariant.capacity in
    record { room = omega arith }

pub loop-run-preserved : goal.loop-run-preserved
loop-run-preserved c =
    let before = c.loop-run.invariant.capacity in
    let more = c.copy_to.ensures.capacity in
    record {
      whole = copied c.deref-run-items.result.now c.loop-run.run-index c.run-item.result c.loop-run.flat.items c.copy_to.new.flat.items (c.args.flat.now.items ++ c.args.self.now.list) c.loop-run-test.true c.run-item.is c.copy_to.ensures.items c.loop-run.invariant.whole;
      capacity = omega arith;
    }

pub returns-clause-items : goal.returns-clause-items
returns-clause-items c =
    sym (append_none c.loop-run.flat.items) ∙ sym (at_drop_all (λ xs. c.loop-run.flat.items ++ members_of (rows_of xs)) c.deref-run-items.result.now c.loop-run.run-index c.loop-run-test.false) ∙ c.loop-run.invariant.whole
