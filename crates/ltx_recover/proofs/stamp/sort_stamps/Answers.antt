use Rattle.std.proofs.Common.{rules}
use Rattle.std.proofs.lemmas.List.Sorted.{ranks_by, answers_always}
use Rattle.ltx_model.proofs.CellOrder.{cell_total}
use Rattle.ltx_recover.specs.Stamps.{stamped_of, cell_at}
use Rattle.ltx_recover.proofs.Stamps.{in_cell_order, sorted_rows}
use Rattle.ltx_recover.proofs.stamp.sort_stamps.Goals as goal

pub returns-clause-sorted : goal.returns-clause-sorted
returns-clause-sorted c =
    in_cell_order stamped_of _ (c.in_ok-sort_by.ensures.sorted _ (ranks_by cell_total (λ s. cell_at (stamped_of s))) (answers_always _ _ _ (λ f a r f' k. search rules)))

pub returns-clause-same : goal.returns-clause-same
returns-clause-same c =
    sorted_rows stamped_of _ _ (c.in_ok-sort_by.ensures.stable _ (ranks_by cell_total (λ s. cell_at (stamped_of s))) (answers_always _ _ _ (λ f a r f' k. search rules)))
