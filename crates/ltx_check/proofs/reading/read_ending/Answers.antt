use Rattle.std.proofs.Common.{◌≡◌, ◌<◌, ◌∷◌, length, arith, rules}
use Rattle.std.proofs.lemmas.Grind.{common_steps}
use Rattle.ltx_model.specs.Limits.{IsCount}
use Rattle.ltx_check.specs.Cuts.{lines_of, ended}
use Rattle.ltx_check.specs.Texts.{AreTxs, order_line, durable_line}
use Rattle.ltx_check.proofs.Feeds.{no_lines, text_lines}
use Rattle.ltx_check.proofs.ReadingLemmas.{BeginsNoOrder, BeginsNoDurable, breaks_first, breaks_second, breaks_third, last_read}
use Rattle.ltx_check.proofs.reading.read_ending.Goals as goal

pub returns-in-Ok-None : goal.returns-in-Ok-None
returns-in-Ok-None c =
    let none : BeginsNoOrder (lines_of c.args.text.now) = (rw c.in-Ok-None.field-0-is at c.in-Ok-None.ensures.none) in
    breaks_first (lines_of c.args.text.now) c.requires.stops none

pub returns-in-None : goal.returns-in-None
returns-in-None c =
    let order = c.in-Ok-Some.order.items in
    let behind = c.in-Ok-Some.behind.now in
    let txs : AreTxs order = search rules in
    let is : lines_of c.args.text.now ≡ ended (order_line order) ∷ lines_of behind = search rules in
    let none : BeginsNoDurable (lines_of behind) = search rules in
    breaks_second (lines_of c.args.text.now) (lines_of behind) order txs is none

pub returns-then-is_empty : goal.returns-then-is_empty
returns-then-is_empty c =
    let order = c.in-Ok-Some.order.items in
    let behind = c.in-Ok-Some.behind.now in
    let durable = c.in-Some.durable in
    let rest = c.in-Some.rest.now in
    let txs : AreTxs order = search rules in
    let is : lines_of c.args.text.now ≡ ended (order_line order) ∷ lines_of behind = search rules in
    let epoch : IsCount durable = search rules in
    let is' : lines_of behind ≡ ended (durable_line durable) ∷ lines_of rest = search rules in
    let none : length rest ≡ 0 = grind (arith, common_steps) in
    last_read (lines_of c.args.text.now) (lines_of behind) (lines_of rest) order durable txs is epoch is' (no_lines rest none)

pub returns-else-is_empty : goal.returns-else-is_empty
returns-else-is_empty c =
    let order = c.in-Ok-Some.order.items in
    let behind = c.in-Ok-Some.behind.now in
    let durable = c.in-Some.durable in
    let rest = c.in-Some.rest.now in
    let txs : AreTxs order = search rules in
    let is : lines_of c.args.text.now ≡ ended (order_line order) ∷ lines_of behind = search rules in
    let epoch : IsCount durable = search rules in
    let is' : lines_of behind ≡ ended (durable_line durable) ∷ lines_of rest = search rules in
    let some : 0 < length rest = grind (arith, common_steps) in
    breaks_third (lines_of c.args.text.now) (lines_of behind) (lines_of rest) order durable txs is epoch is' (text_lines rest some)
