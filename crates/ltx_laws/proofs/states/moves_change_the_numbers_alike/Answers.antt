use Rattle.ltx_laws.proofs.NumberLists.{numbers_after, numbers_given, numbers_apart}
use Rattle.ltx_laws.proofs.states.moves_change_the_numbers_alike.Goals as goal

pub returns : goal.returns
returns c = record { each = numbers_after; numbers = numbers_given; distinct = numbers_apart }
