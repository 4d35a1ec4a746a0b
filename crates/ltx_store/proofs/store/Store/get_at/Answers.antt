use Rattle.std.proofs.Common.{◌∙◌, sym, ap, arith}
use Rattle.std.specs.Option.{option_copied}
use Rattle.ltx_chain.specs.Versions.{visible}
use Rattle.ltx_store.specs.Kept.{items_of}
use Rattle.ltx_store.proofs.Places.{IsPlace, chain_in_place, kept_rising}
use Rattle.ltx_store.proofs.InPlace.{row_in_place}
use Rattle.ltx_store.proofs.store.Store.get_at.Goals as goal

pub returns : goal.returns
returns c =
    let p : IsPlace c.args.self.now c.self.inside.tables.items c.from.result c.args.table c.index.result.now =
    record { kept_is = c.self.view_is; tables = c.self.invariant.tables_are; at = c.from.ensures ∙ c.number.ensures.value; within = omega arith; is = c.index.ensures } in
    record {
      row = row_in_place p c.args.key.now c.args.mark (option_copied c.visible.result) (c.visible.ensures ∙ ap (λ o. visible c.args.mark (items_of o)) c.in_ok-get.ensures.value);
      version = c.visible.ensures ∙ ap (λ o. visible c.args.mark (items_of o)) (c.in_ok-get.ensures.value ∙ sym (chain_in_place p c.args.key.now));
      in_order = kept_rising p;
    }

pub returns-in_err-get : goal.returns-in_err-get
returns-in_err-get c =
    let p : IsPlace c.args.self.now c.self.inside.tables.items c.from.result c.args.table c.index.result.now =
    record { kept_is = c.self.view_is; tables = c.self.invariant.tables_are; at = c.from.ensures ∙ c.number.ensures.value; within = omega arith; is = c.index.ensures } in
    record {
      row = row_in_place p c.args.key.now c.args.mark (option_copied c.from_residual.result) (ap option_copied c.from_residual.ensures ∙ ap (λ o. visible c.args.mark (items_of o)) c.in_err-get.ensures.value);
      version = ap option_copied c.from_residual.ensures ∙ ap (λ o. visible c.args.mark (items_of o)) (c.in_err-get.ensures.value ∙ sym (chain_in_place p c.args.key.now));
      in_order = kept_rising p;
    }
