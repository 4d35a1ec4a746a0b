use Rattle.ltx_lemmas.proofs.Members.{before_insert_right, before_insert_left}
use Rattle.ltx_lemmas.proofs.places.place_after_insert.Goals as goal

pub returns : goal.returns
returns c = record { right = before_insert_right; left = before_insert_left }
