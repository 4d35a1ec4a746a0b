use Rattle.std.proofs.Common.{refl, length, drop, List, ℕ, arith, ap, ◌∙◌, sym}
use Rattle.ltx_model.specs.Listings.{is_member, without}
use Rattle.ltx_agenda.specs.Lanes.{lanes_without, lanes_from, cut, total, kept}
use Rattle.ltx_agenda.specs.Runs.{rows_of}
use Rattle.ltx_agenda.proofs.InLanes.{take_exact, length-kept, flat_left, members-lanes_from}
use Rattle.ltx_agenda.specs.Placed.{Listed}
use Rattle.ltx_agenda.proofs.Settling.{lane_left, lanes_left, settled_left, list_lane_left, list_settled_left}
use Rattle.ltx_agenda.proofs.agenda.Agenda.drop_tx.Goals as goal

pub invariant_of-self : goal.invariant_of-self
invariant_of-self c = lane_left _ _ _ _ _ _ _ c.self.invariant c.args.tx c.drop_tx.new.self c.drop_tx.ensures.list c.drop_tx.ensures.room c.drop_tx.ensures.ends

pub returns-then-has-clause-list : goal.returns-then-has-clause-list
returns-then-has-clause-list c =
    list_lane_left _ _ _ _ _ _ _ c.self.invariant c.args.tx c.drop_tx.new.self (sym c.has.ensures.value ∙ c.if-has.true) c.drop_tx.ensures.list ∙ ap (λ (v : Listed). without v.list c.args.tx) c.self.view_is

pub returns-else-has-clause-list : goal.returns-else-has-clause-list
returns-else-has-clause-list c =
    list_settled_left c.self.inside.settled.items c.self.inside.lanes.list c.take_out.new.flat.items c.args.tx (sym c.has.ensures.value ∙ c.if-has.false) c.take_out.ensures.items ∙ ap (λ (v : Listed). without v.list c.args.tx) c.self.view_is

pub returns-then-has-clause-lanes : goal.returns-then-has-clause-lanes
returns-then-has-clause-lanes c =
    lanes_left c.self.inside.settled.items c.self.inside.lens.items c.self.inside.lanes c.drop_tx.new.self c.args.tx (c.self.invariant.apart_from c.args.tx (sym c.has.ensures.value ∙ c.if-has.true)) c.drop_tx.ensures.rows c.drop_tx.ensures.ends
    ∙ ap (λ (v : Listed). lanes_without v.lanes c.args.tx) c.self.view_is

pub invariant_of-self-else-has : goal.invariant_of-self-else-has
invariant_of-self-else-has c =
    let len = c.self.inside.lens.ok.0 in
    let old = c.deref_mut.ensures.value in
    let many = ap (λ (xs : List ℕ). length xs) (c.recount-self-inside.ensures.lens ∙ ap (λ ks. kept c.deref.result.now ks c.args.tx) old) in
    let alike = length-kept c.deref.result.now c.self.inside.lens.items c.args.tx in
    let written = take_exact c.recount-self-inside.new.lens (drop (length c.recount-self-inside.new.lens) c.self.inside.lens.items) c.self.inside.lens.len (omega arith) in
    settled_left _ _ _ _ _ _ _ c.self.invariant c.args.tx c.take_out.new.flat.items _ _ _ c.recount-self-inside.result c.take_out.ensures.items c.take_out.ensures.capacity
    (written ∙ c.recount-self-inside.ensures.lens ∙ ap (λ ks. kept c.deref.result.now ks c.args.tx) old ∙ ap (λ xs. kept xs c.self.inside.lens.items c.args.tx) c.deref.ensures.value) refl
    (c.recount-self-inside.ensures.open ∙ ap (λ ks. length (without (drop (total ks) c.deref.result.now) c.args.tx)) old ∙ ap (λ xs. length (without (drop (total c.self.inside.lens.items) xs) c.args.tx)) c.deref.ensures.value)

pub returns-else-has-clause-lanes : goal.returns-else-has-clause-lanes
returns-else-has-clause-lanes c =
    let len = c.self.inside.lens.ok.0 in
    let old = c.deref_mut.ensures.value in
    let many = ap (λ (xs : List ℕ). length xs) (c.recount-self-inside.ensures.lens ∙ ap (λ ks. kept c.deref.result.now ks c.args.tx) old) in
    let alike = length-kept c.deref.result.now c.self.inside.lens.items c.args.tx in
    let written = take_exact c.recount-self-inside.new.lens (drop (length c.recount-self-inside.new.lens) c.self.inside.lens.items) c.self.inside.lens.len (omega arith) in
    let none = sym c.has.ensures.value ∙ c.if-has.false in
    let behind = lanes_from c.self.inside.lanes.ends (rows_of c.self.inside.lanes.runs) in
    ap (λ ks. cut c.take_out.new.flat.items ks behind) (written ∙ c.recount-self-inside.ensures.lens ∙ ap (λ ks. kept c.deref.result.now ks c.args.tx) old ∙ ap (λ xs. kept xs c.self.inside.lens.items c.args.tx) c.deref.ensures.value)
    ∙ ap (λ xs. cut xs (kept c.self.inside.settled.items c.self.inside.lens.items c.args.tx) behind) c.take_out.ensures.items
    ∙ flat_left c.self.inside.settled.items c.self.inside.lens.items behind c.args.tx
    (ap (λ xs. is_member xs c.args.tx) (members-lanes_from c.self.inside.lanes.ends (rows_of c.self.inside.lanes.runs) c.has.ensures.as_many ∙ sym c.has.ensures.listed) ∙ none)
    ∙ ap (λ (v : Listed). lanes_without v.lanes c.args.tx) c.self.view_is
