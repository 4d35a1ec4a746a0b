-- What a get answers of the value that it sees.
use Rattle.std.specs.Prelude.{ℕ, List, Option, Some, None}
use Rattle.ltx_model.specs.declared.replies.Reply.{Reply}
use Rattle.ltx_model.specs.declared.replies.Reply.TheVariants.{Found, Absent}
use Rattle.ltx_chain.specs.declared.chain.Version.{Version}

-- the value, or that there is none
abbrev pub answered : Option (List ℕ) → Reply
answered None = Absent
answered (Some value) = Found value

-- the value that a version puts
abbrev pub put_by : Option Version → Option (List ℕ)
put_by None = None
put_by (Some v) = v.put
