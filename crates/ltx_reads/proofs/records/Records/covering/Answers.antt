use Rattle.std.proofs.Common.{◌≡◌, List, map, filter, IfOk, ap, ◌∙◌, subst}
use Rattle.ltx_model.specs.Keys.{Cell}
use Rattle.ltx_model.specs.Records.{Records, looked_up}
use Rattle.ltx_reads.specs.Places.{stamps_at, scans_at}
use Rattle.ltx_reads.specs.Stamped.{Stamped, kept_of}
use Rattle.ltx_reads.specs.Sites.{lookers_in}
use Rattle.ltx_reads.proofs.Lookers.{lookers_are}
use Rattle.ltx_reads.proofs.records.Records.covering.Goals as goal

pub returns : goal.returns
returns c =
    let cell : Cell = record { table = c.args.table; key = c.args.key.now } in
    let kept : List Stamped = c.self.inside.kept.items in
    let sites = c.self.inside.sites in
    let is : map (λ (e : Stamped). e.commit.number) (kept_of c.deref.result.now (lookers_in c.deref.result.now sites cell)) ≡ map (λ r. r.number) (filter (looked_up cell) c.args.self.now.kept) =
    ap (λ (l : List Stamped). map (λ (e : Stamped). e.commit.number) (kept_of l (lookers_in l sites cell))) c.deref.ensures.value
    ∙ lookers_are kept c.self.inside.next cell (stamps_at sites.readers cell) (scans_at sites.scanners cell) c.self.invariant.rising (c.self.invariant.readers cell) (c.self.invariant.scanners cell)
    ∙ ap (λ (r : Records). map (λ r. r.number) (filter (looked_up cell) r.kept)) c.self.view_is in
    subst (λ l. IfOk c.lookers.result (λ txs. txs.items ≡ l)) is c.lookers.ensures
