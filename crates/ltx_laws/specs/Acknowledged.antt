-- What the replies of a history acknowledge.
use Rattle.std.specs.Prelude.{◌≡◌, ℕ, ◌≤◌, List, Contains}
use Rattle.ltx_model.specs.declared.replies.Entry.{Entry}
use Rattle.ltx_model.specs.declared.replies.Reply.TheVariants as replies

-- each epoch that a `durable` of these entries prints is at most this one
abbrev pub AreAcknowledgedUpTo : ℕ → List Entry → Type 0
AreAcknowledgedUpTo last history = (entry : Entry) → Contains history entry → (d : ℕ) → entry.reply ≡ replies.Durable d → d ≤ last
