use Rattle.ltx_text.proofs.WordLemmas.{front_kept}
use Rattle.ltx_text.proofs.words.put_spellings.Goals as goal

pub returns-in_err-put_byte-clause-front : goal.returns-in_err-put_byte-clause-front
returns-in_err-put_byte-clause-front c = front_kept _ _ _ _ c.loop-byte.invariant c.in_err-put_byte.ensures.front
