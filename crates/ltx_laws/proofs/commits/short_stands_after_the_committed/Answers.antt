use Rattle.ltx_laws.proofs.PlacesByCommit.{short_after}
use Rattle.ltx_laws.proofs.commits.short_stands_after_the_committed.Goals as goal

pub returns : goal.returns
returns c = record { after = λ built base history more entry sound legal o commit. short_after built base history more entry sound legal o commit }
