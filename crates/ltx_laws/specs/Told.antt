-- Open transactions as the entries of a history tell them.
use Rattle.std.specs.Prelude.{List, map}
use Rattle.ltx_model.specs.States.{Active, transaction_of}
use Rattle.ltx_model.specs.Explained.{Open}

-- a session and its open transaction
abbrev pub open_of : Active → Open
open_of o = record { session = o.session; tx = transaction_of o }

-- the open transactions
abbrev pub opens_of : List Active → List Open
opens_of active = map open_of active
