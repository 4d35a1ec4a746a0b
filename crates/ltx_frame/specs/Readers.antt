-- How a reader's answer stands to a reading of lists.
use Rattle.std.specs.Prelude.{◌≡◌, Result, Ok, Err, Option, Some, None}
use Rattle.ltx_frame.specs.declared.unread.Unread.{Unread}
use Rattle.ltx_frame.specs.declared.unread.Unread.TheVariants as causes

-- nothing stands there, unless memory was wanting
abbrev pub Refuses : {Y : Type 0} → Unread → Option Y → Type 0
Refuses causes.Memory read = Unit {0}
Refuses causes.NoFrame read = read ≡ None

-- what a function returned, seen by view, is what reading gives, unless memory was wanting
abbrev pub Gives : {X Y : Type 0} → (X → Y) → Result X Unread → Option Y → Type 0
Gives view (Ok x) read = read ≡ Some (view x)
Gives view (Err unread) read = Refuses unread read
