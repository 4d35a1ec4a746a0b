use Rattle.std.proofs.Common.{◌∙◌, ap, option_copied}
use Rattle.ltx_script.specs.Lines.{alone}
use Rattle.ltx_text.specs.Cuts.{words_after}
use Rattle.ltx_script.proofs.Parts.{alone_more}
use Rattle.ltx_script.proofs.cuts.alone.Goals as goal

pub returns-in-Some : goal.returns-in-Some
returns-in-Some g c = ap (λ r. alone (words_after (option_copied r)) c.args.x) c.in-Some.is ∙ alone_more 32 _ c.args.x
