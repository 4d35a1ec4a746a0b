use Rattle.ltx_text.proofs.LineLemmas.{first_byte}
use Rattle.ltx_check.proofs.cuts.first_feed.Goals as goal

pub returns : goal.returns
returns c = first_byte c.args.text.now c.memchr.result c.memchr.ensures
