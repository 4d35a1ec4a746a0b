use Rattle.ltx_check.proofs.rows.Rows.play.Goals as goal

pub returns-in-Del : goal.returns-in-Del
returns-in-Del c = λ tx rows are. rw c.in-Del.is (c.delete.ensures tx rows are)
