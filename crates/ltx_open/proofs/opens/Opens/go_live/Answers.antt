use Rattle.std.proofs.Common.{◌≡◌, List, Option, ap, sym, ◌∙◌, ◌++◌, set, take, drop, length, option_map, rules}
use Rattle.std.proofs.Math.Seq.{take-append_seam}
use Rattle.ltx_preserve.proofs.Mapped.{one_more_mapped, all_mapped}
use Rattle.ltx_open.specs.Views.{OpenView, gone_live}
use Rattle.ltx_open.specs.Slots.{opened}
use Rattle.ltx_open.proofs.SlotChanges.{opened_map}
use Rattle.ltx_open.proofs.opens.Opens.go_live.Goals as goal

pub loop-slot-preserved : goal.loop-slot-preserved
loop-slot-preserved c =
    ap (λ s. set c.loop-slot.slot-items c.loop-slot.slot-index s) (c.go_live_in.ensures ∙ ap (option_map (gone_live c.args.mark)) (sym c.slot-item.is))
    ∙ one_more_mapped (option_map (gone_live c.args.mark)) c.deref_mut-slot-items.result.now c.loop-slot.slot-items c.loop-slot.slot-index c.slot-item.result c.loop-slot-test.true c.loop-slot.invariant c.slot-item.is

pub returns : goal.returns
returns c session =
    let long : c.self.inside.slots.len ≡ length c.loop-slot.slot-items = search rules in
    let back : take c.self.inside.slots.len (c.loop-slot.slot-items ++ drop (length c.loop-slot.slot-items) c.self.inside.slots.items) ≡ c.loop-slot.slot-items =
    ap (λ n. take n (c.loop-slot.slot-items ++ drop (length c.loop-slot.slot-items) c.self.inside.slots.items)) long
    ∙ take-append_seam c.loop-slot.slot-items (drop (length c.loop-slot.slot-items) c.self.inside.slots.items) in
    let all = c.loop-slot.invariant ∙ all_mapped (option_map (gone_live c.args.mark)) c.deref_mut-slot-items.result.now c.loop-slot.slot-index c.loop-slot-test.false in
    ap (λ (l : List (Option OpenView)). opened l session) (back ∙ all) ∙ opened_map (gone_live c.args.mark) c.deref_mut-slot-items.result.now session
    ∙ ap (λ (l : List (Option OpenView)). option_map (gone_live c.args.mark) (opened l session)) (c.deref_mut-slot-items.ensures.value ∙ c.self.view_is)
