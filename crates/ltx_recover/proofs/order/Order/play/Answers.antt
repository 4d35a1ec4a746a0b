use Rattle.std.proofs.Common.{◌≡◌, true, rules}
use Rattle.std.specs.List.{list_any}
use Rattle.ltx_model.specs.Recovery.{is_played_slot}
use Rattle.ltx_recover.proofs.Numbers.{slot_stands}
use Rattle.ltx_recover.proofs.order.Order.play.Goals as goal

pub has_target-requires : goal.has_target-requires
has_target-requires c =
    let slot : list_any (is_played_slot c.in-Batch.tx) c.args.self.now ≡ true = search rules in
    slot_stands c.in-Batch.tx c.args.self.now slot

pub commit-requires-clause-member : goal.commit-requires-clause-member
commit-requires-clause-member c =
    let slot : list_any (is_played_slot c.in-Batch.tx) c.args.self.now ≡ true = search rules in
    slot_stands c.in-Batch.tx c.args.self.now slot
