use Rattle.std.proofs.Common.{◌∙◌, sym, ap, arith}
use Rattle.ltx_chain.specs.Versions.{latest}
use Rattle.ltx_store.specs.Kept.{items_of}
use Rattle.ltx_store.specs.Latest.{putter}
use Rattle.ltx_store.proofs.Places.{IsPlace}
use Rattle.ltx_store.proofs.InPlace.{writer_in_place}
use Rattle.ltx_store.proofs.store.StoreLatest.writer.Goals as goal

pub returns : goal.returns
returns c =
    let p : IsPlace c.args.self.now c.self.inside.tables.items c.from.result c.args.table c.index.result.now =
    record { kept_is = c.self.view_is; tables = c.self.invariant.tables_are; at = c.from.ensures ∙ c.number.ensures.value; within = omega arith; is = c.index.ensures } in
    record { writer = c.putter.ensures ∙ ap (λ o. putter (latest (items_of o))) c.in_ok-get.ensures.value ∙ sym (writer_in_place p c.args.key.now) }

pub returns-in_err-get : goal.returns-in_err-get
returns-in_err-get c =
    let p : IsPlace c.args.self.now c.self.inside.tables.items c.from.result c.args.table c.index.result.now =
    record { kept_is = c.self.view_is; tables = c.self.invariant.tables_are; at = c.from.ensures ∙ c.number.ensures.value; within = omega arith; is = c.index.ensures } in
    record { writer = c.from_residual.ensures ∙ ap (λ o. putter (latest (items_of o))) c.in_err-get.ensures.value ∙ sym (writer_in_place p c.args.key.now) }
