use Rattle.std.proofs.Common.{◌≡◌, ◌<◌, length, arith, rules}
use Rattle.std.proofs.lemmas.Grind.{common_steps}
use Rattle.ltx_open.proofs.Results.{if_ok, on_err_so}
use Rattle.ltx_open.proofs.SlotChanges.{in_none, in_full, in_done, in_kept}
use Rattle.ltx_open.proofs.opens.Opens.operate.Goals as goal

pub returns-clause-none : goal.returns-clause-none
returns-clause-none c =
    let is : c.from-place.result ≡ c.args.session = search rules in
    let within : c.from-place.result < length c.self.inside.slots.items = grind (arith, common_steps) in
    if_ok _ _ (λ reply does. in_none _ _ c.self.view_is c.from-place.result c.args.session is c.index_mut.result.now c.operate_in.new.slot within c.index_mut.ensures.value reply does) c.operate_in.result c.operate_in.ensures.none

pub returns-clause-full : goal.returns-clause-full
returns-clause-full c =
    let is : c.from-place.result ≡ c.args.session = search rules in
    let within : c.from-place.result < length c.self.inside.slots.items = grind (arith, common_steps) in
    if_ok _ _ (λ reply does. in_full _ _ c.self.view_is c.from-place.result c.args.session is c.index_mut.result.now c.operate_in.new.slot within c.index_mut.ensures.value reply does) c.operate_in.result c.operate_in.ensures.full

pub returns-clause-done : goal.returns-clause-done
returns-clause-done c =
    let is : c.from-place.result ≡ c.args.session = search rules in
    let within : c.from-place.result < length c.self.inside.slots.items = grind (arith, common_steps) in
    if_ok _ _ (λ reply does. in_done _ _ c.self.view_is c.from-place.result c.args.session is c.index_mut.result.now c.operate_in.new.slot within c.index_mut.ensures.value c.args.store.now c.args.mark c.args.op.now reply does) c.operate_in.result c.operate_in.ensures.done

pub returns-clause-kept : goal.returns-clause-kept
returns-clause-kept c =
    let is : c.from-place.result ≡ c.args.session = search rules in
    let within : c.from-place.result < length c.self.inside.slots.items = grind (arith, common_steps) in
    on_err_so _ _ (λ keeps. in_kept _ _ c.self.view_is c.from-place.result c.args.session is c.index_mut.result.now c.operate_in.new.slot within c.index_mut.ensures.value keeps) c.operate_in.result c.operate_in.ensures.kept
