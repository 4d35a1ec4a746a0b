use Rattle.ltx_lemmas.proofs.Members.{before_push_old, before_without, before_insert_others, before_home}
use Rattle.ltx_lemmas.proofs.places.others_keep_order.Goals as goal

pub returns : goal.returns
returns c = record { appended = before_push_old; removed = before_without; inserted = before_insert_others; home = before_home }
