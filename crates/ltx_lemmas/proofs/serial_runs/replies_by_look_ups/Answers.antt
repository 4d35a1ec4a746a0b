use Rattle.ltx_lemmas.proofs.Views.{see_agrees, play_agrees, play_seen}
use Rattle.ltx_lemmas.proofs.serial_runs.replies_by_look_ups.Goals as goal

pub returns : goal.returns
returns c = record { one = see_agrees; all = play_agrees; seen = play_seen }
