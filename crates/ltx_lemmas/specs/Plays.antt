-- Replies that a transaction sees.
use Rattle.std.specs.Prelude.{◌≡◌, ℕ, List, [], ◌∷◌, ◌++◌}
use Rattle.ltx_model.specs.declared.commands.Op.{Op}
use Rattle.ltx_model.specs.declared.rows.StoredRow.{StoredRow}
use Rattle.ltx_model.specs.Operations.{Answered}
use Rattle.ltx_model.specs.Rows.{see}

-- each recorded reply is what the transaction sees on the rows after the operations before it
abbrev pub AreSeen : ℕ → List StoredRow → List Op → List Answered → Type 0
AreSeen n rows earlier [] = Unit {0}
AreSeen n rows earlier (a ∷ as') = (see n rows earlier a.op ≡ a.reply) × AreSeen n rows (earlier ++ a.op ∷ []) as'
