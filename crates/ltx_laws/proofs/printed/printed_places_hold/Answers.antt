use Rattle.ltx_laws.proofs.PrintedPlaces.{short_printed_after, home_printed_after}
use Rattle.ltx_laws.proofs.printed.printed_places_hold.Goals as goal

pub returns : goal.returns
returns c = record {
  short = λ built base history more entry sound legal t. short_printed_after built base history more entry sound legal t;
  home = λ built base history more entry sound legal t epoch commits. home_printed_after built base history more entry sound legal t commits epoch;
}
