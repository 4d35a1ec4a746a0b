use Rattle.std.proofs.Common.{rules}
use Rattle.std.specs.Ordering.{nat_cmp}
use Rattle.std.specs.List.Sorted.{IsSorted}
use Rattle.std.proofs.lemmas.List.Sorted.{IsNonDecreasingBy-from_sort}
use Rattle.ltx_check.proofs.orders.sorted_numbers.Goals as goal

pub returns-clause-rising : goal.returns-clause-rising
returns-clause-rising c =
    let sorted : IsSorted nat_cmp c.sort.new.self.items = search rules in
    IsNonDecreasingBy-from_sort (λ x. x) c.sort.new.self.items sorted
