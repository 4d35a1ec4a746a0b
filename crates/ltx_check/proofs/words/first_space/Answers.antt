use Rattle.ltx_check.proofs.Numbers.{first_space}
use Rattle.ltx_check.proofs.words.first_space.Goals as goal

pub returns : goal.returns
returns c = first_space c.args.text.now c.memchr.result c.memchr.ensures
