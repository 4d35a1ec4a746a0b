use Rattle.std.proofs.Common.{◌≡◌, sym, ◌∙◌, false, nat_lt, arith}
use Rattle.std.proofs.lemmas.Bool.Decides.{nat_tests}
use Rattle.ltx_core.proofs.PlacedCommits.{is_ahead}
use Rattle.ltx_core.proofs.state.Core.commit_batch.Goals as goal

pub commit_decided-requires : goal.commit_decided-requires
commit_decided-requires c = record { live = record { declared = c.args.declared; mark = c.args.mark; live = c.requires.live } }

pub commit_home-requires : goal.commit_home-requires
commit_home-requires c =
    let unpassed : nat_lt c.args.mark c.self.inside.batch ≡ false = grind (arith, nat_tests) in
    record { ahead = is_ahead _ _ c.self.view_is c.args.session c.args.declared c.args.mark c.requires.live c.in-Some.open.now c.in-Some.ensures c.number-tx.result c.number-tx.ensures unpassed (sym c.has_live_below.ensures ∙ c.if-has_live_below.false) }
