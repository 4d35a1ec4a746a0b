use Rattle.ltx_laws.proofs.PlacesByCommit.{home_after}
use Rattle.ltx_laws.proofs.commits.home_stands_after_its_snapshot.Goals as goal

pub returns : goal.returns
returns c = record { after = λ built base history more entry sound legal o d snapshot commit. home_after built base history more entry sound legal o commit d snapshot }
