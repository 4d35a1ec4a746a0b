use Rattle.std.proofs.Common.{arith}
use Rattle.std.proofs.lemmas.List.{take_all}
use Rattle.std.proofs.lemmas.List.Folds.{list_all_more}
use Rattle.ltx_text.specs.Words.{is_plain}
use Rattle.ltx_text.proofs.words.are_eight_plain.Goals as goal

pub returns : goal.returns
returns c =
    let x = c.args.x.now in
    let all = take_all 8 x (omega arith) in
    let one = list_all_more is_plain x 0 0 (omega arith) in
    let two = list_all_more is_plain x 1 0 (omega arith) in
    let three = list_all_more is_plain x 2 0 (omega arith) in
    let four = list_all_more is_plain x 3 0 (omega arith) in
    let five = list_all_more is_plain x 4 0 (omega arith) in
    let six = list_all_more is_plain x 5 0 (omega arith) in
    let seven = list_all_more is_plain x 6 0 (omega arith) in
    let eight = list_all_more is_plain x 7 0 (omega arith) in
    cc
