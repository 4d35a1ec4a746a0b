use Rattle.std.proofs.Common.{◌≡◌, rules}
use Rattle.std.specs.Prelude.{bytes_eq}
use Rattle.std.specs.List.Sorted.{IsPermutation, IsNonDecreasing}
use Rattle.ltx_check.proofs.Sorts.{same_yes, same_no}
use Rattle.ltx_check.proofs.orders.has_all.Goals as goal

pub returns-clause-yes : goal.returns-clause-yes
returns-clause-yes c =
    let sorted = c.in_ok-sorted.sorted.items in
    let others = c.in_ok-others.others.items in
    let is : c.are_same.result ≡ bytes_eq sorted others = search rules in
    let first : IsPermutation c.args.numbers.now sorted = search rules in
    let second : IsPermutation c.args.order.now others = search rules in
    same_yes c.args.numbers.now c.args.order.now sorted others c.are_same.result is first second

pub returns-clause-no : goal.returns-clause-no
returns-clause-no c =
    let sorted = c.in_ok-sorted.sorted.items in
    let others = c.in_ok-others.others.items in
    let is : c.are_same.result ≡ bytes_eq sorted others = search rules in
    let first : IsPermutation c.args.numbers.now sorted = search rules in
    let second : IsPermutation c.args.order.now others = search rules in
    let up : IsNonDecreasing sorted = search rules in
    let up' : IsNonDecreasing others = search rules in
    same_no c.args.numbers.now c.args.order.now sorted others c.are_same.result is first second up up'
