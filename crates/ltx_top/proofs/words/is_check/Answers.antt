use Rattle.std.proofs.Common.{map, string_bytes, codes}
use Rattle.ltx_top.proofs.OneWord.{one_word, spells}
use Rattle.ltx_top.proofs.words.is_check.Goals as goal

pub returns-in-len1 : goal.returns-in-len1
returns-in-len1 c = record {
  spelt = spells (codes "check") c.eq.result c.as_str.result.now (string_bytes c.word-item.result) (map string_bytes c.args.words.now) c.eq.ensures c.as_str.ensures.value
      (one_word string_bytes c.args.words.now c.word-item.result c.in-len1.len_at_least c.in-len1.len_below c.word-item.is);
}
