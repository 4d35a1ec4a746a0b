use Rattle.std.proofs.Common.{rules}
use Rattle.std.proofs.lemmas.Fn.{always_returns_same}
use Rattle.ltx_model.specs.Keys.{Cell, cell_cmp}
use Rattle.ltx_model.specs.Operations.{cell_of_write}
use Rattle.ltx_buffer.proofs.Search.{searched}
use Rattle.ltx_buffer.proofs.places.place_of.Goals as goal

-- the closure compares each write's key with this one
pub returns : goal.returns
returns c =
    let cell : Cell = record { table = c.args.table; key = c.args.key.now } in
    let facts = c.binary_search_by.ensures in
    let by_key = facts.position (λ w. cell_cmp (cell_of_write w) cell) (always_returns_same _ _ _ (λ a r after called. search rules)) in
    searched c.args.writes.now c.requires.rising cell c.binary_search_by.result facts.bound by_key
