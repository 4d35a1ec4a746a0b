-- The open transactions by the numbers of their sessions.
use Rattle.std.specs.Prelude.{◌≡◌, ℕ, ◌==◌, false, List, slice_get, Option, Some, None}
use Rattle.ltx_open.specs.Views.{OpenView}

abbrev pub joined : Option (Option OpenView) → Option OpenView
joined None = None
joined (Some o) = o

-- the open transaction of a session
abbrev pub opened : List (Option OpenView) → ℕ → Option OpenView
opened slots session = joined (slice_get slots session)

-- The session has this one now, or none; of the other sessions nothing has changed.
pub record HasAt (old : List (Option OpenView)) (session : ℕ) (o : Option OpenView) (new : List (Option OpenView)) : Type 0 where
  pub here : opened new session ≡ o
  pub others : (n : ℕ) → (n == session) ≡ false → opened new n ≡ opened old n
