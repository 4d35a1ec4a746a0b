-- Scripts whose answers are known, computed by the checker from the definitions.
use Rattle.std.proofs.Common.{◌≡◌, ℕ, List, [], ◌∷◌, refl, ap, map, Some, None, take, reverse, arith, true, false, length, nat_le}
use Rattle.ltx_model.specs.declared.commands.Op.{Op}
use Rattle.ltx_model.specs.declared.commands.Op.TheVariants.{Get, Scan, Put, Del}
use Rattle.ltx_model.specs.declared.commands.Verb.{Verb}
use Rattle.ltx_model.specs.declared.commands.Verb.TheVariants as verbs
use Rattle.ltx_model.specs.declared.commands.Command.TheVariants.{Ask, Epoch, Flush, Prune}
use Rattle.ltx_model.specs.declared.commands.Line.{Line}
use Rattle.ltx_model.specs.declared.commands.Line.TheVariants as lines
use Rattle.ltx_model.specs.declared.replies.Reply.{Reply}
use Rattle.ltx_model.specs.declared.replies.Reply.TheVariants as replies
use Rattle.ltx_model.specs.declared.rows.StoredRow.{StoredRow}
use Rattle.ltx_model.specs.States.{Base, IsSound, State, first_state, order, latest, rows_through}
use Rattle.ltx_model.specs.Operations.{Transaction, table_of}
use Rattle.ltx_model.specs.Rows.{run, see, RunGives}
use Rattle.ltx_model.specs.Shorts.{first_change}
use Rattle.ltx_model.specs.Batches.{target, first_late, first_contradicted, floor, safe}
use Rattle.ltx_model.specs.Frames.{SlotEvent, ShortEvent, BatchEvent, sealed, body_length}
use Rattle.ltx_model.specs.Histories.{after, state_from, state}
use Rattle.ltx_model.specs.Answers.{everything, answer, entries_from, is_full, counted, operation_of_short, operation_of_batch}
use Rattle.ltx_model.specs.Explained.{committed_in, committed_from}

-- an empty log, one whose last epoch has come, and one whose last number was given
abbrev pub blank : Base
blank = record { rows = []; durable = 0; last = 0; gate = 17 }

abbrev at_last_epoch : Base
at_last_epoch = record { rows = []; durable = 4294967293; last = 0; gate = 38 }

abbrev at_last_number : Base
at_last_number = record { rows = []; durable = 1; last = 9223372036854775807; gate = 47 }

abbrev at_both_limits : Base
at_both_limits = record { rows = []; durable = 4294967293; last = 9223372036854775807; gate = 38 }

abbrev before_last_number : Base
before_last_number = record { rows = []; durable = 4294967293; last = 9223372036854775806; gate = 38 }

abbrev with_gate : ℕ → Base
with_gate gate = record { rows = []; durable = 0; last = 0; gate = gate }

abbrev pub asks : ℕ → Verb → Line
asks session verb = lines.Good (Ask session verb)

abbrev replies_to : Base → List Line → List Reply
replies_to base ls = map (λ e. e.reply) (entries_from everything (first_state base) ls)

abbrev order_after : Base → List Line → List ℕ
order_after base ls = order (state base (entries_from everything (first_state base) ls))

abbrev gate_after : Base → List Line → ℕ
gate_after base ls = (state base (entries_from everything (first_state base) ls)).gate

-- a read sees a commit
abbrev read_sees_commit : List Line
read_sees_commit =
    asks 1 verbs.Short ∷
    asks 1 (verbs.Do (Put 0 (120 ∷ []) (97 ∷ []))) ∷
    asks 1 verbs.Commit ∷
    asks 2 verbs.Short ∷
    asks 2 (verbs.Do (Get 0 (120 ∷ []))) ∷
    asks 2 verbs.Commit ∷ []

read_sees_commit_replies : replies_to blank read_sees_commit ≡
    replies.Begun 1 ∷
    replies.Done ∷
    replies.Committed 1 ∷
    replies.Begun 2 ∷
    replies.Found (97 ∷ []) ∷
    replies.Committed 1 ∷ []
unfolding entries_from answer after state_from run see first_change target first_late first_contradicted sealed body_length
read_sees_commit_replies = refl

read_sees_commit_order : order_after blank read_sees_commit ≡ 1 ∷ 2 ∷ []
unfolding entries_from answer after state_from run see first_change target first_late first_contradicted sealed body_length
read_sees_commit_order = refl

-- two shorts read and write one key: the second to commit is refused
abbrev pub lost_update_is_refused : List Line
lost_update_is_refused =
    asks 1 verbs.Short ∷
    asks 1 (verbs.Do (Put 0 (120 ∷ []) (97 ∷ []))) ∷
    asks 1 verbs.Commit ∷
    asks 1 verbs.Short ∷
    asks 2 verbs.Short ∷
    asks 1 (verbs.Do (Get 0 (120 ∷ []))) ∷
    asks 2 (verbs.Do (Get 0 (120 ∷ []))) ∷
    asks 1 (verbs.Do (Put 0 (120 ∷ []) (98 ∷ []))) ∷
    asks 2 (verbs.Do (Put 0 (120 ∷ []) (99 ∷ []))) ∷
    asks 1 verbs.Commit ∷
    asks 2 verbs.Commit ∷ []

lost_update_is_refused_replies : replies_to blank lost_update_is_refused ≡
    replies.Begun 1 ∷
    replies.Done ∷
    replies.Committed 1 ∷
    replies.Begun 2 ∷
    replies.Begun 3 ∷
    replies.Found (97 ∷ []) ∷
    replies.Found (97 ∷ []) ∷
    replies.Done ∷
    replies.Done ∷
    replies.Committed 1 ∷
    replies.Changed 1 0 (120 ∷ []) (Some 1) (Some 2) ∷ []
unfolding entries_from answer after state_from run see first_change target first_late first_contradicted sealed body_length
lost_update_is_refused_replies = refl

lost_update_is_refused_order : order_after blank lost_update_is_refused ≡ 1 ∷ 2 ∷ []
unfolding entries_from answer after state_from run see first_change target first_late first_contradicted sealed body_length
lost_update_is_refused_order = refl

-- a row that comes into the range of a scan refuses its short
abbrev phantom_is_refused : List Line
phantom_is_refused =
    asks 1 verbs.Short ∷
    asks 1 (verbs.Do (Scan 0 (97 ∷ []) (109 ∷ []))) ∷
    asks 2 verbs.Short ∷
    asks 2 (verbs.Do (Put 0 (99 ∷ []) (118 ∷ []))) ∷
    asks 2 verbs.Commit ∷
    asks 1 (verbs.Do (Put 0 (122 ∷ []) (119 ∷ []))) ∷
    asks 1 verbs.Commit ∷ []

phantom_is_refused_replies : replies_to blank phantom_is_refused ≡
    replies.Begun 1 ∷
    replies.Rows ([]) ∷
    replies.Begun 2 ∷
    replies.Done ∷
    replies.Committed 1 ∷
    replies.Done ∷
    replies.Changed 1 0 (99 ∷ []) None (Some 2) ∷ []
unfolding entries_from answer after state_from run see first_change target first_late first_contradicted sealed body_length
phantom_is_refused_replies = refl

phantom_is_refused_order : order_after blank phantom_is_refused ≡ 2 ∷ []
unfolding entries_from answer after state_from run see first_change target first_late first_contradicted sealed body_length
phantom_is_refused_order = refl

-- a key that was absent and is absent again has not changed
abbrev absent_then_and_now_passes : List Line
absent_then_and_now_passes =
    asks 1 verbs.Short ∷
    asks 1 (verbs.Do (Get 0 (120 ∷ []))) ∷
    asks 2 verbs.Short ∷
    asks 2 (verbs.Do (Put 0 (120 ∷ []) (118 ∷ []))) ∷
    asks 2 verbs.Commit ∷
    asks 3 verbs.Short ∷
    asks 3 (verbs.Do (Del 0 (120 ∷ []))) ∷
    asks 3 verbs.Commit ∷
    lines.Good Prune ∷
    asks 1 (verbs.Do (Put 0 (121 ∷ []) (119 ∷ []))) ∷
    asks 1 verbs.Commit ∷ []

absent_then_and_now_passes_replies : replies_to blank absent_then_and_now_passes ≡
    replies.Begun 1 ∷
    replies.Absent ∷
    replies.Begun 2 ∷
    replies.Done ∷
    replies.Committed 1 ∷
    replies.Begun 3 ∷
    replies.Done ∷
    replies.Committed 1 ∷
    replies.Pruned ∷
    replies.Done ∷
    replies.Committed 1 ∷ []
unfolding entries_from answer after state_from run see first_change target first_late first_contradicted sealed body_length
absent_then_and_now_passes_replies = refl

absent_then_and_now_passes_order : order_after blank absent_then_and_now_passes ≡ 2 ∷ 3 ∷ 1 ∷ []
unfolding entries_from answer after state_from run see first_change target first_late first_contradicted sealed body_length
absent_then_and_now_passes_order = refl

-- a short that read before a batch became live is refused at its commit
abbrev pub preserve_is_met_at_commit : List Line
preserve_is_met_at_commit =
    asks 1 verbs.Short ∷
    asks 1 (verbs.Do (Get 0 (120 ∷ []))) ∷
    asks 2 (verbs.Long 1 18446744073709551615) ∷
    lines.Good Epoch ∷
    asks 1 verbs.Commit ∷
    asks 1 verbs.Commit ∷ []

preserve_is_met_at_commit_replies : replies_to blank preserve_is_met_at_commit ≡
    replies.Begun 1 ∷
    replies.Absent ∷
    replies.BegunAt 2 2 ∷
    replies.Advanced 2 ∷
    replies.Preserved 0 2 ∷
    replies.NoTx ∷ []
unfolding entries_from answer after state_from run see first_change target first_late first_contradicted sealed body_length
preserve_is_met_at_commit_replies = refl

preserve_is_met_at_commit_order : order_after blank preserve_is_met_at_commit ≡ []
unfolding entries_from answer after state_from run see first_change target first_late first_contradicted sealed body_length
preserve_is_met_at_commit_order = refl

-- a batch is pending until its epoch comes
abbrev batch_waits_for_its_epoch : List Line
batch_waits_for_its_epoch =
    asks 1 (verbs.Long 1 18446744073709551615) ∷
    asks 1 (verbs.Do (Get 0 (120 ∷ []))) ∷
    lines.Good Epoch ∷
    asks 1 (verbs.Do (Get 0 (120 ∷ []))) ∷
    asks 1 verbs.Commit ∷ []

batch_waits_for_its_epoch_replies : replies_to blank batch_waits_for_its_epoch ≡
    replies.BegunAt 1 2 ∷
    replies.NotYet 2 ∷
    replies.Advanced 2 ∷
    replies.Absent ∷
    replies.Committed 2 ∷ []
unfolding entries_from answer after state_from run see first_change target first_late first_contradicted sealed body_length
batch_waits_for_its_epoch_replies = refl

batch_waits_for_its_epoch_order : order_after blank batch_waits_for_its_epoch ≡ 1 ∷ []
unfolding entries_from answer after state_from run see first_change target first_late first_contradicted sealed body_length
batch_waits_for_its_epoch_order = refl

-- a batch reads in its area and writes what it declared
abbrev declarations_bind : List Line
declarations_bind =
    asks 1 (verbs.Long 1 2) ∷
    lines.Good Epoch ∷
    asks 1 (verbs.Do (Put 3 (120 ∷ []) (118 ∷ []))) ∷
    asks 1 (verbs.Do (Get 3 (120 ∷ []))) ∷
    asks 1 (verbs.Do (Put 0 (120 ∷ []) (118 ∷ []))) ∷
    asks 1 verbs.Commit ∷ []

declarations_bind_replies : replies_to blank declarations_bind ≡
    replies.BegunAt 1 2 ∷
    replies.Advanced 2 ∷
    replies.NotPreserved 3 ∷
    replies.Outside 3 ∷
    replies.Done ∷
    replies.Committed 2 ∷ []
unfolding entries_from answer after state_from run see first_change target first_late first_contradicted sealed body_length
declarations_bind_replies = refl

declarations_bind_order : order_after blank declarations_bind ≡ 1 ∷ []
unfolding entries_from answer after state_from run see first_change target first_late first_contradicted sealed body_length
declarations_bind_order = refl

-- write skew of two batches: the younger waits, and is then contradicted
abbrev pub skew_of_batches_is_refused : List Line
skew_of_batches_is_refused =
    asks 1 (verbs.Long 1 18446744073709551615) ∷
    asks 2 (verbs.Long 2 18446744073709551615) ∷
    lines.Good Epoch ∷
    asks 1 (verbs.Do (Get 1 (120 ∷ []))) ∷
    asks 2 (verbs.Do (Get 0 (121 ∷ []))) ∷
    asks 1 (verbs.Do (Put 0 (121 ∷ []) (97 ∷ []))) ∷
    asks 2 (verbs.Do (Put 1 (120 ∷ []) (98 ∷ []))) ∷
    asks 2 verbs.Commit ∷
    asks 1 verbs.Commit ∷
    asks 2 verbs.Commit ∷ []

skew_of_batches_is_refused_replies : replies_to blank skew_of_batches_is_refused ≡
    replies.BegunAt 1 2 ∷
    replies.BegunAt 2 2 ∷
    replies.Advanced 2 ∷
    replies.Absent ∷
    replies.Absent ∷
    replies.Done ∷
    replies.Done ∷
    replies.Waiting 1 ∷
    replies.Committed 2 ∷
    replies.Contradicts 1 2 1 (120 ∷ []) 1 ∷ []
unfolding entries_from answer after state_from run see first_change target first_late first_contradicted sealed body_length
skew_of_batches_is_refused_replies = refl

skew_of_batches_is_refused_order : order_after blank skew_of_batches_is_refused ≡ 1 ∷ []
unfolding entries_from answer after state_from run see first_change target first_late first_contradicted sealed body_length
skew_of_batches_is_refused_order = refl

-- a batch is placed before an older one that it overtook
abbrev pub younger_is_forwarded : List Line
younger_is_forwarded =
    asks 1 (verbs.Long 1 4) ∷
    asks 2 (verbs.Long 2 18446744073709551615) ∷
    lines.Good Epoch ∷
    asks 1 (verbs.Do (Get 2 (122 ∷ []))) ∷
    asks 2 (verbs.Do (Get 0 (121 ∷ []))) ∷
    asks 1 (verbs.Do (Put 0 (121 ∷ []) (97 ∷ []))) ∷
    asks 2 (verbs.Do (Put 1 (120 ∷ []) (98 ∷ []))) ∷
    asks 2 verbs.Commit ∷
    asks 1 verbs.Commit ∷
    lines.Good Epoch ∷
    lines.Good Flush ∷ []

younger_is_forwarded_replies : replies_to blank younger_is_forwarded ≡
    replies.BegunAt 1 2 ∷
    replies.BegunAt 2 2 ∷
    replies.Advanced 2 ∷
    replies.Absent ∷
    replies.Absent ∷
    replies.Done ∷
    replies.Done ∷
    replies.CommittedBefore 2 1 ∷
    replies.Committed 2 ∷
    replies.Advanced 3 ∷
    replies.Durable 2 ∷ []
unfolding entries_from answer after state_from run see first_change target first_late first_contradicted sealed body_length
younger_is_forwarded_replies = refl

younger_is_forwarded_order : order_after blank younger_is_forwarded ≡ 2 ∷ 1 ∷ []
unfolding entries_from answer after state_from run see first_change target first_late first_contradicted sealed body_length
younger_is_forwarded_order = refl

-- the snapshot of a batch has a write that stands after its place
abbrev pub late_read_is_refused : List Line
late_read_is_refused =
    asks 1 (verbs.Long 1 18446744073709551615) ∷
    lines.Good Epoch ∷
    asks 2 verbs.Short ∷
    asks 2 (verbs.Do (Put 5 (120 ∷ []) (118 ∷ []))) ∷
    asks 2 verbs.Commit ∷
    asks 3 (verbs.Long 2 18446744073709551615) ∷
    lines.Good Epoch ∷
    asks 3 (verbs.Do (Get 5 (120 ∷ []))) ∷
    asks 3 (verbs.Do (Get 0 (121 ∷ []))) ∷
    asks 3 (verbs.Do (Put 1 (122 ∷ []) (119 ∷ []))) ∷
    asks 3 verbs.Commit ∷
    asks 1 (verbs.Do (Put 0 (121 ∷ []) (97 ∷ []))) ∷
    asks 1 verbs.Commit ∷
    asks 3 verbs.Commit ∷ []

late_read_is_refused_replies : replies_to blank late_read_is_refused ≡
    replies.BegunAt 1 2 ∷
    replies.Advanced 2 ∷
    replies.Begun 2 ∷
    replies.Done ∷
    replies.Committed 2 ∷
    replies.BegunAt 3 3 ∷
    replies.Advanced 3 ∷
    replies.Found (118 ∷ []) ∷
    replies.Absent ∷
    replies.Done ∷
    replies.Waiting 1 ∷
    replies.Done ∷
    replies.Committed 3 ∷
    replies.Late 1 1 5 (120 ∷ []) 2 ∷ []
unfolding entries_from answer after state_from run see first_change target first_late first_contradicted sealed body_length
late_read_is_refused_replies = refl

late_read_is_refused_order : order_after blank late_read_is_refused ≡ 1 ∷ 2 ∷ []
unfolding entries_from answer after state_from run see first_change target first_late first_contradicted sealed body_length
late_read_is_refused_order = refl

-- the elder aborts, and the younger commits at its slot
abbrev elder_aborts : List Line
elder_aborts =
    asks 1 (verbs.Long 1 18446744073709551615) ∷
    lines.Good Epoch ∷
    asks 2 verbs.Short ∷
    asks 2 (verbs.Do (Put 5 (120 ∷ []) (118 ∷ []))) ∷
    asks 2 verbs.Commit ∷
    asks 3 (verbs.Long 2 18446744073709551615) ∷
    lines.Good Epoch ∷
    asks 3 (verbs.Do (Get 5 (120 ∷ []))) ∷
    asks 3 (verbs.Do (Get 0 (121 ∷ []))) ∷
    asks 3 (verbs.Do (Put 1 (122 ∷ []) (119 ∷ []))) ∷
    asks 3 verbs.Commit ∷
    asks 1 verbs.Abort ∷
    asks 3 verbs.Commit ∷ []

elder_aborts_replies : replies_to blank elder_aborts ≡
    replies.BegunAt 1 2 ∷
    replies.Advanced 2 ∷
    replies.Begun 2 ∷
    replies.Done ∷
    replies.Committed 2 ∷
    replies.BegunAt 3 3 ∷
    replies.Advanced 3 ∷
    replies.Found (118 ∷ []) ∷
    replies.Absent ∷
    replies.Done ∷
    replies.Waiting 1 ∷
    replies.Aborted ∷
    replies.Committed 3 ∷ []
unfolding entries_from answer after state_from run see first_change target first_late first_contradicted sealed body_length
elder_aborts_replies = refl

elder_aborts_order : order_after blank elder_aborts ≡ 2 ∷ 3 ∷ []
unfolding entries_from answer after state_from run see first_change target first_late first_contradicted sealed body_length
elder_aborts_order = refl

-- a forwarded write is not the latest where a later one stands
abbrev pub forwarded_write_stays_under : List Line
forwarded_write_stays_under =
    asks 1 (verbs.Long 1 4) ∷
    lines.Good Epoch ∷
    asks 2 verbs.Short ∷
    asks 2 (verbs.Do (Put 1 (120 ∷ []) (115 ∷ []))) ∷
    asks 2 verbs.Commit ∷
    asks 2 (verbs.Long 2 18446744073709551615) ∷
    lines.Good Epoch ∷
    asks 2 (verbs.Do (Get 0 (121 ∷ []))) ∷
    asks 2 (verbs.Do (Put 1 (120 ∷ []) (98 ∷ []))) ∷
    asks 2 verbs.Commit ∷
    asks 3 verbs.Short ∷
    asks 3 (verbs.Do (Get 1 (120 ∷ []))) ∷
    asks 3 verbs.Commit ∷
    asks 1 verbs.Commit ∷ []

forwarded_write_stays_under_replies : replies_to blank forwarded_write_stays_under ≡
    replies.BegunAt 1 2 ∷
    replies.Advanced 2 ∷
    replies.Begun 2 ∷
    replies.Done ∷
    replies.Committed 2 ∷
    replies.BegunAt 3 3 ∷
    replies.Advanced 3 ∷
    replies.Absent ∷
    replies.Done ∷
    replies.CommittedBefore 3 1 ∷
    replies.Begun 4 ∷
    replies.Found (115 ∷ []) ∷
    replies.Committed 3 ∷
    replies.Committed 3 ∷ []
unfolding entries_from answer after state_from run see first_change target first_late first_contradicted sealed body_length
forwarded_write_stays_under_replies = refl

forwarded_write_stays_under_order : order_after blank forwarded_write_stays_under ≡ 3 ∷ 1 ∷ 2 ∷ 4 ∷ []
unfolding entries_from answer after state_from run see first_change target first_late first_contradicted sealed body_length
forwarded_write_stays_under_order = refl

-- the target of a forwarded batch is refused later
abbrev forwarded_before_a_refused_one : List Line
forwarded_before_a_refused_one =
    asks 1 (verbs.Long 1 512) ∷
    asks 2 (verbs.Long 2 1) ∷
    asks 3 (verbs.Long 4 2) ∷
    lines.Good Epoch ∷
    asks 3 (verbs.Do (Get 1 (120 ∷ []))) ∷
    asks 3 (verbs.Do (Put 2 (122 ∷ []) (99 ∷ []))) ∷
    asks 3 verbs.Commit ∷
    asks 2 (verbs.Do (Get 0 (121 ∷ []))) ∷
    asks 2 (verbs.Do (Put 1 (120 ∷ []) (98 ∷ []))) ∷
    asks 2 verbs.Commit ∷
    asks 1 (verbs.Do (Put 0 (121 ∷ []) (97 ∷ []))) ∷
    asks 1 verbs.Commit ∷
    asks 2 verbs.Commit ∷ []

forwarded_before_a_refused_one_replies : replies_to blank forwarded_before_a_refused_one ≡
    replies.BegunAt 1 2 ∷
    replies.BegunAt 2 2 ∷
    replies.BegunAt 3 2 ∷
    replies.Advanced 2 ∷
    replies.Absent ∷
    replies.Done ∷
    replies.CommittedBefore 2 2 ∷
    replies.Absent ∷
    replies.Done ∷
    replies.Waiting 1 ∷
    replies.Done ∷
    replies.Committed 2 ∷
    replies.Contradicts 1 2 1 (120 ∷ []) 3 ∷ []
unfolding entries_from answer after state_from run see first_change target first_late first_contradicted sealed body_length
forwarded_before_a_refused_one_replies = refl

forwarded_before_a_refused_one_order : order_after blank forwarded_before_a_refused_one ≡ 1 ∷ 3 ∷ []
unfolding entries_from answer after state_from run see first_change target first_late first_contradicted sealed body_length
forwarded_before_a_refused_one_order = refl

-- each flush makes the closed epochs durable
abbrev pub closed_epochs_become_durable : List Line
closed_epochs_become_durable =
    asks 1 verbs.Short ∷
    asks 1 (verbs.Do (Put 0 (120 ∷ []) (97 ∷ []))) ∷
    asks 1 verbs.Commit ∷
    lines.Good Epoch ∷
    lines.Good Flush ∷
    asks 1 verbs.Short ∷
    asks 1 (verbs.Do (Put 0 (120 ∷ []) (98 ∷ []))) ∷
    asks 1 verbs.Commit ∷
    lines.Good Epoch ∷
    lines.Good Flush ∷ []

closed_epochs_become_durable_replies : replies_to blank closed_epochs_become_durable ≡
    replies.Begun 1 ∷
    replies.Done ∷
    replies.Committed 1 ∷
    replies.Advanced 2 ∷
    replies.Durable 1 ∷
    replies.Begun 2 ∷
    replies.Done ∷
    replies.Committed 2 ∷
    replies.Advanced 3 ∷
    replies.Durable 2 ∷ []
unfolding entries_from answer after state_from run see first_change target first_late first_contradicted sealed body_length
closed_epochs_become_durable_replies = refl

closed_epochs_become_durable_order : order_after blank closed_epochs_become_durable ≡ 1 ∷ 2 ∷ []
unfolding entries_from answer after state_from run see first_change target first_late first_contradicted sealed body_length
closed_epochs_become_durable_order = refl

-- at the last epoch no epoch and no batch begins
abbrev last_epoch_is_met : List Line
last_epoch_is_met =
    lines.Good Epoch ∷
    asks 1 (verbs.Long 1 18446744073709551615) ∷
    asks 1 verbs.Short ∷
    asks 1 verbs.Commit ∷
    lines.Good Flush ∷ []

last_epoch_is_met_replies : replies_to at_last_epoch last_epoch_is_met ≡
    replies.LimitEpoch ∷
    replies.LimitEpoch ∷
    replies.Begun 1 ∷
    replies.Committed 4294967294 ∷
    replies.Durable 4294967293 ∷ []
unfolding entries_from answer after state_from run see first_change target first_late first_contradicted sealed body_length
last_epoch_is_met_replies = refl

last_epoch_is_met_order : order_after at_last_epoch last_epoch_is_met ≡ 1 ∷ []
unfolding entries_from answer after state_from run see first_change target first_late first_contradicted sealed body_length
last_epoch_is_met_order = refl

-- a sum over a snapshot runs beside transfers, and is never refused
abbrev sum_beside_order_entry : List Line
sum_beside_order_entry =
    asks 1 verbs.Short ∷
    asks 1 (verbs.Do (Put 1 (97 ∷ 48 ∷ 48 ∷ 48 ∷ []) (49 ∷ 48 ∷ 48 ∷ []))) ∷
    asks 1 (verbs.Do (Put 1 (97 ∷ 48 ∷ 48 ∷ 49 ∷ []) (49 ∷ 48 ∷ 48 ∷ []))) ∷
    asks 1 (verbs.Do (Put 1 (97 ∷ 48 ∷ 48 ∷ 50 ∷ []) (49 ∷ 48 ∷ 48 ∷ []))) ∷
    asks 1 (verbs.Do (Put 1 (97 ∷ 48 ∷ 48 ∷ 51 ∷ []) (49 ∷ 48 ∷ 48 ∷ []))) ∷
    asks 1 (verbs.Do (Put 1 (97 ∷ 48 ∷ 48 ∷ 52 ∷ []) (49 ∷ 48 ∷ 48 ∷ []))) ∷
    asks 1 (verbs.Do (Put 1 (97 ∷ 48 ∷ 48 ∷ 53 ∷ []) (49 ∷ 48 ∷ 48 ∷ []))) ∷
    asks 1 (verbs.Do (Put 1 (97 ∷ 48 ∷ 48 ∷ 54 ∷ []) (49 ∷ 48 ∷ 48 ∷ []))) ∷
    asks 1 (verbs.Do (Put 1 (97 ∷ 48 ∷ 48 ∷ 55 ∷ []) (49 ∷ 48 ∷ 48 ∷ []))) ∷
    asks 1 (verbs.Do (Put 1 (97 ∷ 48 ∷ 48 ∷ 56 ∷ []) (49 ∷ 48 ∷ 48 ∷ []))) ∷
    asks 1 (verbs.Do (Put 1 (97 ∷ 48 ∷ 48 ∷ 57 ∷ []) (49 ∷ 48 ∷ 48 ∷ []))) ∷
    asks 1 verbs.Commit ∷
    asks 2 (verbs.Long 4 2) ∷
    lines.Good Epoch ∷
    asks 2 (verbs.Do (Scan 1 [] [])) ∷
    asks 3 verbs.Short ∷
    asks 3 (verbs.Do (Get 1 (97 ∷ 48 ∷ 48 ∷ 48 ∷ []))) ∷
    asks 3 (verbs.Do (Put 1 (97 ∷ 48 ∷ 48 ∷ 48 ∷ []) (57 ∷ 48 ∷ []))) ∷
    asks 3 (verbs.Do (Get 1 (97 ∷ 48 ∷ 48 ∷ 53 ∷ []))) ∷
    asks 3 (verbs.Do (Put 1 (97 ∷ 48 ∷ 48 ∷ 53 ∷ []) (49 ∷ 49 ∷ 48 ∷ []))) ∷
    asks 3 verbs.Commit ∷
    asks 3 verbs.Short ∷
    asks 3 (verbs.Do (Get 1 (97 ∷ 48 ∷ 48 ∷ 49 ∷ []))) ∷
    asks 3 (verbs.Do (Put 1 (97 ∷ 48 ∷ 48 ∷ 49 ∷ []) (57 ∷ 48 ∷ []))) ∷
    asks 3 (verbs.Do (Get 1 (97 ∷ 48 ∷ 48 ∷ 54 ∷ []))) ∷
    asks 3 (verbs.Do (Put 1 (97 ∷ 48 ∷ 48 ∷ 54 ∷ []) (49 ∷ 49 ∷ 48 ∷ []))) ∷
    asks 3 verbs.Commit ∷
    asks 4 verbs.Short ∷
    asks 4 (verbs.Do (Get 2 (115 ∷ 117 ∷ 109 ∷ []))) ∷
    asks 2 (verbs.Do (Put 2 (115 ∷ 117 ∷ 109 ∷ []) (49 ∷ 48 ∷ 48 ∷ 48 ∷ []))) ∷
    asks 2 verbs.Commit ∷
    asks 4 verbs.Short ∷
    asks 4 (verbs.Do (Get 2 (115 ∷ 117 ∷ 109 ∷ []))) ∷
    asks 4 verbs.Commit ∷
    lines.Good Epoch ∷
    lines.Good Flush ∷ []

sum_beside_order_entry_replies : replies_to blank sum_beside_order_entry ≡
    replies.Begun 1 ∷
    replies.Done ∷
    replies.Done ∷
    replies.Done ∷
    replies.Done ∷
    replies.Done ∷
    replies.Done ∷
    replies.Done ∷
    replies.Done ∷
    replies.Done ∷
    replies.Done ∷
    replies.Committed 1 ∷
    replies.BegunAt 2 2 ∷
    replies.Advanced 2 ∷
    replies.Rows (record { key = (97 ∷ 48 ∷ 48 ∷ 48 ∷ []); value = (49 ∷ 48 ∷ 48 ∷ []) } ∷ record { key = (97 ∷ 48 ∷ 48 ∷ 49 ∷ []); value = (49 ∷ 48 ∷ 48 ∷ []) } ∷ record { key = (97 ∷ 48 ∷ 48 ∷ 50 ∷ []); value = (49 ∷ 48 ∷ 48 ∷ []) } ∷ record { key = (97 ∷ 48 ∷ 48 ∷ 51 ∷ []); value = (49 ∷ 48 ∷ 48 ∷ []) } ∷ record { key = (97 ∷ 48 ∷ 48 ∷ 52 ∷ []); value = (49 ∷ 48 ∷ 48 ∷ []) } ∷ record { key = (97 ∷ 48 ∷ 48 ∷ 53 ∷ []); value = (49 ∷ 48 ∷ 48 ∷ []) } ∷ record { key = (97 ∷ 48 ∷ 48 ∷ 54 ∷ []); value = (49 ∷ 48 ∷ 48 ∷ []) } ∷ record { key = (97 ∷ 48 ∷ 48 ∷ 55 ∷ []); value = (49 ∷ 48 ∷ 48 ∷ []) } ∷ record { key = (97 ∷ 48 ∷ 48 ∷ 56 ∷ []); value = (49 ∷ 48 ∷ 48 ∷ []) } ∷ record { key = (97 ∷ 48 ∷ 48 ∷ 57 ∷ []); value = (49 ∷ 48 ∷ 48 ∷ []) } ∷ []) ∷
    replies.Begun 3 ∷
    replies.Found (49 ∷ 48 ∷ 48 ∷ []) ∷
    replies.Done ∷
    replies.Found (49 ∷ 48 ∷ 48 ∷ []) ∷
    replies.Done ∷
    replies.Committed 2 ∷
    replies.Begun 4 ∷
    replies.Found (49 ∷ 48 ∷ 48 ∷ []) ∷
    replies.Done ∷
    replies.Found (49 ∷ 48 ∷ 48 ∷ []) ∷
    replies.Done ∷
    replies.Committed 2 ∷
    replies.Begun 5 ∷
    replies.Preserved 2 2 ∷
    replies.Done ∷
    replies.Committed 2 ∷
    replies.Begun 6 ∷
    replies.Found (49 ∷ 48 ∷ 48 ∷ 48 ∷ []) ∷
    replies.Committed 2 ∷
    replies.Advanced 3 ∷
    replies.Durable 2 ∷ []
unfolding entries_from answer after state_from run see first_change target first_late first_contradicted sealed body_length
sum_beside_order_entry_replies = refl

sum_beside_order_entry_order : order_after blank sum_beside_order_entry ≡ 1 ∷ 2 ∷ 3 ∷ 4 ∷ 6 ∷ []
unfolding entries_from answer after state_from run see first_change target first_late first_contradicted sealed body_length
sum_beside_order_entry_order = refl

-- a transaction sees its own writes
abbrev own_writes_are_seen : List Line
own_writes_are_seen =
    asks 1 verbs.Short ∷
    asks 1 (verbs.Do (Put 0 (98 ∷ []) (50 ∷ []))) ∷
    asks 1 (verbs.Do (Put 0 (97 ∷ 32 ∷ 98 ∷ []) [])) ∷
    asks 1 (verbs.Do (Del 0 (98 ∷ []))) ∷
    asks 1 (verbs.Do (Get 0 (98 ∷ []))) ∷
    asks 1 (verbs.Do (Scan 0 [] [])) ∷
    asks 1 (verbs.Do (Get 0 (97 ∷ 32 ∷ 98 ∷ []))) ∷
    asks 1 verbs.Commit ∷ []

own_writes_are_seen_replies : replies_to blank own_writes_are_seen ≡
    replies.Begun 1 ∷
    replies.Done ∷
    replies.Done ∷
    replies.Done ∷
    replies.Absent ∷
    replies.Rows (record { key = (97 ∷ 32 ∷ 98 ∷ []); value = [] } ∷ []) ∷
    replies.Found [] ∷
    replies.Committed 1 ∷ []
unfolding entries_from answer after state_from run see first_change target first_late first_contradicted sealed body_length
own_writes_are_seen_replies = refl

own_writes_are_seen_order : order_after blank own_writes_are_seen ≡ 1 ∷ []
unfolding entries_from answer after state_from run see first_change target first_late first_contradicted sealed body_length
own_writes_are_seen_order = refl

-- at the last number nothing begins
abbrev last_number_is_met : List Line
last_number_is_met =
    asks 1 verbs.Short ∷
    asks 1 (verbs.Long 0 18446744073709551615) ∷ []

last_number_is_met_replies : replies_to at_last_number last_number_is_met ≡
    replies.LimitTx ∷
    replies.LimitTx ∷ []
unfolding entries_from answer after state_from run see first_change target first_late first_contradicted sealed body_length
last_number_is_met_replies = refl

last_number_is_met_order : order_after at_last_number last_number_is_met ≡ []
unfolding entries_from answer after state_from run see first_change target first_late first_contradicted sealed body_length
last_number_is_met_order = refl

-- a session has one open transaction
abbrev one_transaction_a_session : List Line
one_transaction_a_session =
    asks 1 verbs.Short ∷
    asks 1 (verbs.Long 0 18446744073709551615) ∷
    asks 1 verbs.Abort ∷
    asks 1 verbs.Abort ∷
    asks 1 (verbs.Long 0 1) ∷
    asks 1 verbs.Commit ∷
    asks 1 verbs.Abort ∷
    lines.Good Flush ∷ []

one_transaction_a_session_replies : replies_to blank one_transaction_a_session ≡
    replies.Begun 1 ∷
    replies.HasTx ∷
    replies.Aborted ∷
    replies.NoTx ∷
    replies.BegunAt 2 2 ∷
    replies.NotYet 2 ∷
    replies.Aborted ∷
    replies.Durable 0 ∷ []
unfolding entries_from answer after state_from run see first_change target first_late first_contradicted sealed body_length
one_transaction_a_session_replies = refl

one_transaction_a_session_order : order_after blank one_transaction_a_session ≡ []
unfolding entries_from answer after state_from run see first_change target first_late first_contradicted sealed body_length
one_transaction_a_session_order = refl

-- a deletion that a batch saw stays a witness after a prune
abbrev pub deletion_keeps_its_witness : List Line
deletion_keeps_its_witness =
    asks 1 verbs.Short ∷
    asks 1 (verbs.Do (Put 5 (120 ∷ []) (118 ∷ []))) ∷
    asks 1 verbs.Commit ∷
    asks 1 (verbs.Long 1 18446744073709551615) ∷
    lines.Good Epoch ∷
    asks 2 verbs.Short ∷
    asks 2 (verbs.Do (Del 5 (120 ∷ []))) ∷
    asks 2 verbs.Commit ∷
    asks 3 (verbs.Long 2 18446744073709551615) ∷
    lines.Good Epoch ∷
    lines.Good Prune ∷
    asks 3 (verbs.Do (Get 5 (120 ∷ []))) ∷
    asks 3 (verbs.Do (Get 0 (121 ∷ []))) ∷
    asks 3 (verbs.Do (Put 1 (122 ∷ []) (119 ∷ []))) ∷
    asks 1 (verbs.Do (Put 0 (121 ∷ []) (97 ∷ []))) ∷
    asks 1 verbs.Commit ∷
    lines.Good Prune ∷
    asks 3 verbs.Commit ∷ []

deletion_keeps_its_witness_replies : replies_to blank deletion_keeps_its_witness ≡
    replies.Begun 1 ∷
    replies.Done ∷
    replies.Committed 1 ∷
    replies.BegunAt 2 2 ∷
    replies.Advanced 2 ∷
    replies.Begun 3 ∷
    replies.Done ∷
    replies.Committed 2 ∷
    replies.BegunAt 4 3 ∷
    replies.Advanced 3 ∷
    replies.Pruned ∷
    replies.Absent ∷
    replies.Absent ∷
    replies.Done ∷
    replies.Done ∷
    replies.Committed 3 ∷
    replies.Pruned ∷
    replies.Late 2 1 5 (120 ∷ []) 3 ∷ []
unfolding entries_from answer after state_from run see first_change target first_late first_contradicted sealed body_length
deletion_keeps_its_witness_replies = refl

deletion_keeps_its_witness_order : order_after blank deletion_keeps_its_witness ≡ 1 ∷ 2 ∷ 3 ∷ []
unfolding entries_from answer after state_from run see first_change target first_late first_contradicted sealed body_length
deletion_keeps_its_witness_order = refl

-- a batch that looked into no preserved table overtakes nobody
abbrev area_alone_overtakes_nobody : List Line
area_alone_overtakes_nobody =
    asks 1 (verbs.Long 1 18446744073709551615) ∷
    asks 2 (verbs.Long 2 18446744073709551615) ∷
    lines.Good Epoch ∷
    asks 2 (verbs.Do (Get 5 (120 ∷ []))) ∷
    asks 2 (verbs.Do (Put 1 (120 ∷ []) (98 ∷ []))) ∷
    asks 2 verbs.Commit ∷
    asks 1 verbs.Commit ∷ []

area_alone_overtakes_nobody_replies : replies_to blank area_alone_overtakes_nobody ≡
    replies.BegunAt 1 2 ∷
    replies.BegunAt 2 2 ∷
    replies.Advanced 2 ∷
    replies.Absent ∷
    replies.Done ∷
    replies.Committed 2 ∷
    replies.Committed 2 ∷ []
unfolding entries_from answer after state_from run see first_change target first_late first_contradicted sealed body_length
area_alone_overtakes_nobody_replies = refl

area_alone_overtakes_nobody_order : order_after blank area_alone_overtakes_nobody ≡ 1 ∷ 2 ∷ []
unfolding entries_from answer after state_from run see first_change target first_late first_contradicted sealed body_length
area_alone_overtakes_nobody_order = refl

-- a committed writer from the place on hides a later reader
abbrev written_reader_is_hidden : List Line
written_reader_is_hidden =
    asks 1 (verbs.Long 1 4) ∷
    lines.Good Epoch ∷
    asks 2 verbs.Short ∷
    asks 2 (verbs.Do (Put 1 (120 ∷ []) (115 ∷ []))) ∷
    asks 2 verbs.Commit ∷
    asks 3 verbs.Short ∷
    asks 3 (verbs.Do (Get 1 (120 ∷ []))) ∷
    asks 3 verbs.Commit ∷
    asks 2 (verbs.Long 2 18446744073709551615) ∷
    lines.Good Epoch ∷
    asks 2 (verbs.Do (Get 0 (121 ∷ []))) ∷
    asks 2 (verbs.Do (Put 1 (120 ∷ []) (98 ∷ []))) ∷
    asks 2 verbs.Commit ∷
    asks 1 verbs.Commit ∷ []

written_reader_is_hidden_replies : replies_to blank written_reader_is_hidden ≡
    replies.BegunAt 1 2 ∷
    replies.Advanced 2 ∷
    replies.Begun 2 ∷
    replies.Done ∷
    replies.Committed 2 ∷
    replies.Begun 3 ∷
    replies.Found (115 ∷ []) ∷
    replies.Committed 2 ∷
    replies.BegunAt 4 3 ∷
    replies.Advanced 3 ∷
    replies.Absent ∷
    replies.Done ∷
    replies.CommittedBefore 3 1 ∷
    replies.Committed 3 ∷ []
unfolding entries_from answer after state_from run see first_change target first_late first_contradicted sealed body_length
written_reader_is_hidden_replies = refl

written_reader_is_hidden_order : order_after blank written_reader_is_hidden ≡ 4 ∷ 1 ∷ 2 ∷ 3 ∷ []
unfolding entries_from answer after state_from run see first_change target first_late first_contradicted sealed body_length
written_reader_is_hidden_order = refl

-- a reader of the snapshot is contradicted, by the first write of the key
abbrev reader_in_the_snapshot : List Line
reader_in_the_snapshot =
    asks 4 verbs.Short ∷
    asks 4 (verbs.Do (Put 1 (120 ∷ []) (114 ∷ []))) ∷
    asks 4 verbs.Commit ∷
    asks 1 (verbs.Long 1 18446744073709551615) ∷
    lines.Good Epoch ∷
    asks 2 verbs.Short ∷
    asks 2 (verbs.Do (Get 1 (120 ∷ []))) ∷
    asks 2 verbs.Commit ∷
    asks 3 verbs.Short ∷
    asks 3 (verbs.Do (Get 1 (120 ∷ []))) ∷
    asks 3 (verbs.Do (Put 1 (120 ∷ []) (115 ∷ []))) ∷
    asks 3 verbs.Commit ∷
    asks 2 (verbs.Long 2 18446744073709551615) ∷
    lines.Good Epoch ∷
    asks 2 (verbs.Do (Get 0 (121 ∷ []))) ∷
    asks 2 (verbs.Do (Put 1 (120 ∷ []) (98 ∷ []))) ∷
    asks 2 (verbs.Do (Put 1 (120 ∷ []) (99 ∷ []))) ∷
    asks 2 verbs.Commit ∷
    asks 1 (verbs.Do (Put 0 (121 ∷ []) (97 ∷ []))) ∷
    asks 1 verbs.Commit ∷
    asks 2 verbs.Commit ∷ []

reader_in_the_snapshot_replies : replies_to blank reader_in_the_snapshot ≡
    replies.Begun 1 ∷
    replies.Done ∷
    replies.Committed 1 ∷
    replies.BegunAt 2 2 ∷
    replies.Advanced 2 ∷
    replies.Begun 3 ∷
    replies.Found (114 ∷ []) ∷
    replies.Committed 2 ∷
    replies.Begun 4 ∷
    replies.Found (114 ∷ []) ∷
    replies.Done ∷
    replies.Committed 2 ∷
    replies.BegunAt 5 3 ∷
    replies.Advanced 3 ∷
    replies.Absent ∷
    replies.Done ∷
    replies.Done ∷
    replies.Waiting 2 ∷
    replies.Done ∷
    replies.Committed 3 ∷
    replies.Contradicts 2 2 1 (120 ∷ []) 3 ∷ []
unfolding entries_from answer after state_from run see first_change target first_late first_contradicted sealed body_length
reader_in_the_snapshot_replies = refl

reader_in_the_snapshot_order : order_after blank reader_in_the_snapshot ≡ 1 ∷ 2 ∷ 3 ∷ 4 ∷ []
unfolding entries_from answer after state_from run see first_change target first_late first_contradicted sealed body_length
reader_in_the_snapshot_order = refl

-- the least elder that may still read is waited for
abbrev least_elder_is_waited_for : List Line
least_elder_is_waited_for =
    asks 1 (verbs.Long 1 18446744073709551615) ∷
    asks 2 (verbs.Long 2 18446744073709551615) ∷
    asks 3 (verbs.Long 4 18446744073709551615) ∷
    lines.Good Epoch ∷
    asks 3 (verbs.Do (Get 0 (121 ∷ []))) ∷
    asks 3 (verbs.Do (Get 1 (121 ∷ []))) ∷
    asks 3 (verbs.Do (Put 2 (122 ∷ []) (99 ∷ []))) ∷
    asks 3 verbs.Commit ∷ []

least_elder_is_waited_for_replies : replies_to blank least_elder_is_waited_for ≡
    replies.BegunAt 1 2 ∷
    replies.BegunAt 2 2 ∷
    replies.BegunAt 3 2 ∷
    replies.Advanced 2 ∷
    replies.Absent ∷
    replies.Absent ∷
    replies.Done ∷
    replies.Waiting 1 ∷ []
unfolding entries_from answer after state_from run see first_change target first_late first_contradicted sealed body_length
least_elder_is_waited_for_replies = refl

least_elder_is_waited_for_order : order_after blank least_elder_is_waited_for ≡ []
unfolding entries_from answer after state_from run see first_change target first_late first_contradicted sealed body_length
least_elder_is_waited_for_order = refl

-- where a witness stands, the least overtaken live batch is waited for
abbrev waits_for_the_overtaken : List Line
waits_for_the_overtaken =
    asks 1 (verbs.Long 1 18446744073709551615) ∷
    asks 2 (verbs.Long 2 18446744073709551615) ∷
    asks 4 (verbs.Long 64 18446744073709551615) ∷
    lines.Good Epoch ∷
    asks 3 verbs.Short ∷
    asks 3 (verbs.Do (Put 5 (120 ∷ []) (118 ∷ []))) ∷
    asks 3 verbs.Commit ∷
    asks 3 (verbs.Long 4 18446744073709551615) ∷
    lines.Good Epoch ∷
    asks 3 (verbs.Do (Get 5 (120 ∷ []))) ∷
    asks 3 (verbs.Do (Get 1 (121 ∷ []))) ∷
    asks 3 (verbs.Do (Get 6 (121 ∷ []))) ∷
    asks 3 verbs.Commit ∷ []

waits_for_the_overtaken_replies : replies_to blank waits_for_the_overtaken ≡
    replies.BegunAt 1 2 ∷
    replies.BegunAt 2 2 ∷
    replies.BegunAt 3 2 ∷
    replies.Advanced 2 ∷
    replies.Begun 4 ∷
    replies.Done ∷
    replies.Committed 2 ∷
    replies.BegunAt 5 3 ∷
    replies.Advanced 3 ∷
    replies.Found (118 ∷ []) ∷
    replies.Absent ∷
    replies.Absent ∷
    replies.Waiting 2 ∷ []
unfolding entries_from answer after state_from run see first_change target first_late first_contradicted sealed body_length
waits_for_the_overtaken_replies = refl

waits_for_the_overtaken_order : order_after blank waits_for_the_overtaken ≡ 4 ∷ []
unfolding entries_from answer after state_from run see first_change target first_late first_contradicted sealed body_length
waits_for_the_overtaken_order = refl

-- the late key of the least operation, and its last writer in the snapshot
abbrev first_late_key : List Line
first_late_key =
    asks 1 (verbs.Long 1 18446744073709551615) ∷
    lines.Good Epoch ∷
    asks 2 verbs.Short ∷
    asks 2 (verbs.Do (Put 5 (121 ∷ []) (117 ∷ []))) ∷
    asks 2 (verbs.Do (Put 5 (120 ∷ []) (117 ∷ []))) ∷
    asks 2 verbs.Commit ∷
    asks 2 verbs.Short ∷
    asks 2 (verbs.Do (Put 5 (121 ∷ []) (118 ∷ []))) ∷
    asks 2 verbs.Commit ∷
    asks 2 (verbs.Long 2 18446744073709551615) ∷
    lines.Good Epoch ∷
    asks 2 (verbs.Do (Scan 5 (121 ∷ []) [])) ∷
    asks 2 (verbs.Do (Get 5 (120 ∷ []))) ∷
    asks 2 (verbs.Do (Get 0 (121 ∷ []))) ∷
    asks 2 (verbs.Do (Put 1 (120 ∷ []) (119 ∷ []))) ∷
    asks 3 (verbs.Long 0 2) ∷
    lines.Good Epoch ∷
    asks 1 (verbs.Do (Put 0 (121 ∷ []) (97 ∷ []))) ∷
    asks 1 verbs.Commit ∷
    asks 2 verbs.Commit ∷ []

first_late_key_replies : replies_to blank first_late_key ≡
    replies.BegunAt 1 2 ∷
    replies.Advanced 2 ∷
    replies.Begun 2 ∷
    replies.Done ∷
    replies.Done ∷
    replies.Committed 2 ∷
    replies.Begun 3 ∷
    replies.Done ∷
    replies.Committed 2 ∷
    replies.BegunAt 4 3 ∷
    replies.Advanced 3 ∷
    replies.Rows (record { key = (121 ∷ []); value = (118 ∷ []) } ∷ []) ∷
    replies.Found (117 ∷ []) ∷
    replies.Absent ∷
    replies.Done ∷
    replies.BegunAt 5 4 ∷
    replies.Advanced 4 ∷
    replies.Done ∷
    replies.Committed 4 ∷
    replies.Late 1 1 5 (121 ∷ []) 3 ∷ []
unfolding entries_from answer after state_from run see first_change target first_late first_contradicted sealed body_length
first_late_key_replies = refl

first_late_key_order : order_after blank first_late_key ≡ 1 ∷ 2 ∷ 3 ∷ []
unfolding entries_from answer after state_from run see first_change target first_late first_contradicted sealed body_length
first_late_key_order = refl

-- who committed before the slot is not overtaken
abbrev pub committed_before_the_slot : List Line
committed_before_the_slot =
    asks 1 (verbs.Long 4 1) ∷
    lines.Good Epoch ∷
    asks 1 (verbs.Do (Put 2 (121 ∷ []) (98 ∷ []))) ∷
    asks 1 verbs.Commit ∷
    asks 2 (verbs.Long 1 18446744073709551615) ∷
    lines.Good Epoch ∷
    asks 2 (verbs.Do (Get 2 (121 ∷ []))) ∷
    asks 2 verbs.Commit ∷ []

committed_before_the_slot_replies : replies_to blank committed_before_the_slot ≡
    replies.BegunAt 1 2 ∷
    replies.Advanced 2 ∷
    replies.Done ∷
    replies.Committed 2 ∷
    replies.BegunAt 2 3 ∷
    replies.Advanced 3 ∷
    replies.Found (98 ∷ []) ∷
    replies.Committed 3 ∷ []
unfolding entries_from answer after state_from run see first_change target first_late first_contradicted sealed body_length
committed_before_the_slot_replies = refl

committed_before_the_slot_order : order_after blank committed_before_the_slot ≡ 1 ∷ 2 ∷ []
unfolding entries_from answer after state_from run see first_change target first_late first_contradicted sealed body_length
committed_before_the_slot_order = refl

-- a get of an own write is no look
abbrev own_write_is_no_look : List Line
own_write_is_no_look =
    asks 1 (verbs.Long 1 18446744073709551615) ∷
    asks 2 (verbs.Long 1 18446744073709551615) ∷
    lines.Good Epoch ∷
    asks 2 (verbs.Do (Put 0 (120 ∷ []) (97 ∷ []))) ∷
    asks 2 (verbs.Do (Get 0 (120 ∷ []))) ∷
    asks 2 verbs.Commit ∷
    asks 1 verbs.Commit ∷ []

own_write_is_no_look_replies : replies_to blank own_write_is_no_look ≡
    replies.BegunAt 1 2 ∷
    replies.BegunAt 2 2 ∷
    replies.Advanced 2 ∷
    replies.Done ∷
    replies.Found (97 ∷ []) ∷
    replies.Committed 2 ∷
    replies.Committed 2 ∷ []
unfolding entries_from answer after state_from run see first_change target first_late first_contradicted sealed body_length
own_write_is_no_look_replies = refl

own_write_is_no_look_order : order_after blank own_write_is_no_look ≡ 1 ∷ 2 ∷ []
unfolding entries_from answer after state_from run see first_change target first_late first_contradicted sealed body_length
own_write_is_no_look_order = refl

-- the target is the overtaken member that stands earliest
abbrev earliest_in_the_agenda : List Line
earliest_in_the_agenda =
    asks 1 (verbs.Long 1 512) ∷
    asks 2 (verbs.Long 2 1) ∷
    asks 3 (verbs.Long 4 18446744073709551615) ∷
    lines.Good Epoch ∷
    asks 2 (verbs.Do (Get 0 (121 ∷ []))) ∷
    asks 2 (verbs.Do (Put 1 (120 ∷ []) (98 ∷ []))) ∷
    asks 3 (verbs.Do (Get 1 (120 ∷ []))) ∷
    asks 3 (verbs.Do (Get 0 (122 ∷ []))) ∷
    asks 2 verbs.Commit ∷
    asks 3 verbs.Commit ∷
    asks 1 verbs.Commit ∷ []

earliest_in_the_agenda_replies : replies_to blank earliest_in_the_agenda ≡
    replies.BegunAt 1 2 ∷
    replies.BegunAt 2 2 ∷
    replies.BegunAt 3 2 ∷
    replies.Advanced 2 ∷
    replies.Absent ∷
    replies.Done ∷
    replies.Absent ∷
    replies.Absent ∷
    replies.CommittedBefore 2 1 ∷
    replies.CommittedBefore 2 2 ∷
    replies.Committed 2 ∷ []
unfolding entries_from answer after state_from run see first_change target first_late first_contradicted sealed body_length
earliest_in_the_agenda_replies = refl

earliest_in_the_agenda_order : order_after blank earliest_in_the_agenda ≡ 3 ∷ 2 ∷ 1 ∷ []
unfolding entries_from answer after state_from run see first_change target first_late first_contradicted sealed body_length
earliest_in_the_agenda_order = refl

-- a held table is named before a change
abbrev preserved_before_changed : List Line
preserved_before_changed =
    asks 1 verbs.Short ∷
    asks 1 (verbs.Do (Get 0 (120 ∷ []))) ∷
    asks 2 verbs.Short ∷
    asks 2 (verbs.Do (Put 0 (120 ∷ []) (97 ∷ []))) ∷
    asks 2 verbs.Commit ∷
    asks 2 (verbs.Long 1 18446744073709551615) ∷
    lines.Good Epoch ∷
    asks 1 verbs.Commit ∷ []

preserved_before_changed_replies : replies_to blank preserved_before_changed ≡
    replies.Begun 1 ∷
    replies.Absent ∷
    replies.Begun 2 ∷
    replies.Done ∷
    replies.Committed 1 ∷
    replies.BegunAt 3 2 ∷
    replies.Advanced 2 ∷
    replies.Preserved 0 3 ∷ []
unfolding entries_from answer after state_from run see first_change target first_late first_contradicted sealed body_length
preserved_before_changed_replies = refl

preserved_before_changed_order : order_after blank preserved_before_changed ≡ 2 ∷ []
unfolding entries_from answer after state_from run see first_change target first_late first_contradicted sealed body_length
preserved_before_changed_order = refl

-- the least held table, and its least holder
abbrev least_table_least_holder : List Line
least_table_least_holder =
    asks 1 verbs.Short ∷
    asks 1 (verbs.Do (Get 1 (120 ∷ []))) ∷
    asks 1 (verbs.Do (Get 0 (120 ∷ []))) ∷
    asks 2 (verbs.Long 3 18446744073709551615) ∷
    asks 3 (verbs.Long 1 18446744073709551615) ∷
    lines.Good Epoch ∷
    asks 1 verbs.Commit ∷
    asks 4 verbs.Short ∷
    asks 4 (verbs.Do (Get 0 (120 ∷ []))) ∷ []

least_table_least_holder_replies : replies_to blank least_table_least_holder ≡
    replies.Begun 1 ∷
    replies.Absent ∷
    replies.Absent ∷
    replies.BegunAt 2 2 ∷
    replies.BegunAt 3 2 ∷
    replies.Advanced 2 ∷
    replies.Preserved 0 2 ∷
    replies.Begun 4 ∷
    replies.Preserved 0 2 ∷ []
unfolding entries_from answer after state_from run see first_change target first_late first_contradicted sealed body_length
least_table_least_holder_replies = refl

least_table_least_holder_order : order_after blank least_table_least_holder ≡ []
unfolding entries_from answer after state_from run see first_change target first_late first_contradicted sealed body_length
least_table_least_holder_order = refl

-- a flush without commits writes a frame
abbrev empty_frame : List Line
empty_frame =
    asks 1 (verbs.Long 1 18446744073709551615) ∷
    lines.Good Epoch ∷
    lines.Good Flush ∷ []

empty_frame_replies : replies_to blank empty_frame ≡
    replies.BegunAt 1 2 ∷
    replies.Advanced 2 ∷
    replies.Durable 1 ∷ []
unfolding entries_from answer after state_from run see first_change target first_late first_contradicted sealed body_length
empty_frame_replies = refl

empty_frame_order : order_after blank empty_frame ≡ []
unfolding entries_from answer after state_from run see first_change target first_late first_contradicted sealed body_length
empty_frame_order = refl

empty_frame_gate : gate_after blank empty_frame ≡ 38
unfolding entries_from answer after state_from run see first_change target first_late first_contradicted sealed body_length
empty_frame_gate = refl

-- an elder before the place is not waited for
abbrev elder_before_the_place : List Line
elder_before_the_place =
    asks 1 (verbs.Long 512 4) ∷
    asks 2 (verbs.Long 1 512) ∷
    asks 3 (verbs.Long 4 1) ∷
    lines.Good Epoch ∷
    asks 3 (verbs.Do (Get 0 (121 ∷ []))) ∷
    asks 3 (verbs.Do (Put 2 (122 ∷ []) (99 ∷ []))) ∷
    asks 3 verbs.Commit ∷ []

elder_before_the_place_replies : replies_to blank elder_before_the_place ≡
    replies.BegunAt 1 2 ∷
    replies.BegunAt 2 2 ∷
    replies.BegunAt 3 2 ∷
    replies.Advanced 2 ∷
    replies.Absent ∷
    replies.Done ∷
    replies.CommittedBefore 2 2 ∷ []
unfolding entries_from answer after state_from run see first_change target first_late first_contradicted sealed body_length
elder_before_the_place_replies = refl

elder_before_the_place_order : order_after blank elder_before_the_place ≡ 3 ∷ []
unfolding entries_from answer after state_from run see first_change target first_late first_contradicted sealed body_length
elder_before_the_place_order = refl

-- an elder that is not overtaken is waited for
abbrev elder_that_is_not_overtaken : List Line
elder_that_is_not_overtaken =
    asks 1 (verbs.Long 1 512) ∷
    asks 2 (verbs.Long 512 2) ∷
    asks 3 (verbs.Long 2 1) ∷
    lines.Good Epoch ∷
    asks 3 (verbs.Do (Get 0 (121 ∷ []))) ∷
    asks 3 (verbs.Do (Put 1 (120 ∷ []) (98 ∷ []))) ∷
    asks 3 verbs.Commit ∷ []

elder_that_is_not_overtaken_replies : replies_to blank elder_that_is_not_overtaken ≡
    replies.BegunAt 1 2 ∷
    replies.BegunAt 2 2 ∷
    replies.BegunAt 3 2 ∷
    replies.Advanced 2 ∷
    replies.Absent ∷
    replies.Done ∷
    replies.Waiting 2 ∷ []
unfolding entries_from answer after state_from run see first_change target first_late first_contradicted sealed body_length
elder_that_is_not_overtaken_replies = refl

elder_that_is_not_overtaken_order : order_after blank elder_that_is_not_overtaken ≡ []
unfolding entries_from answer after state_from run see first_change target first_late first_contradicted sealed body_length
elder_that_is_not_overtaken_order = refl

-- a batch sees its snapshot, and not the latest rows
abbrev snapshot_not_latest : List Line
snapshot_not_latest =
    asks 1 (verbs.Long 0 18446744073709551615) ∷
    lines.Good Epoch ∷
    asks 2 verbs.Short ∷
    asks 2 (verbs.Do (Put 2 (120 ∷ []) (97 ∷ []))) ∷
    asks 2 verbs.Commit ∷
    asks 1 (verbs.Do (Get 2 (120 ∷ []))) ∷ []

snapshot_not_latest_replies : replies_to blank snapshot_not_latest ≡
    replies.BegunAt 1 2 ∷
    replies.Advanced 2 ∷
    replies.Begun 2 ∷
    replies.Done ∷
    replies.Committed 2 ∷
    replies.Absent ∷ []
unfolding entries_from answer after state_from run see first_change target first_late first_contradicted sealed body_length
snapshot_not_latest_replies = refl

snapshot_not_latest_order : order_after blank snapshot_not_latest ≡ 2 ∷ []
unfolding entries_from answer after state_from run see first_change target first_late first_contradicted sealed body_length
snapshot_not_latest_order = refl

-- a late witness is named before a contradicted one
abbrev late_before_contradicts : List Line
late_before_contradicts =
    asks 4 verbs.Short ∷
    asks 4 (verbs.Do (Get 1 (122 ∷ []))) ∷
    asks 4 verbs.Commit ∷
    asks 1 (verbs.Long 1 18446744073709551615) ∷
    lines.Good Epoch ∷
    asks 2 verbs.Short ∷
    asks 2 (verbs.Do (Put 5 (120 ∷ []) (118 ∷ []))) ∷
    asks 2 (verbs.Do (Get 1 (122 ∷ []))) ∷
    asks 2 verbs.Commit ∷
    asks 2 (verbs.Long 2 18446744073709551615) ∷
    lines.Good Epoch ∷
    asks 2 (verbs.Do (Put 1 (122 ∷ []) (119 ∷ []))) ∷
    asks 2 (verbs.Do (Get 5 (120 ∷ []))) ∷
    asks 2 (verbs.Do (Get 0 (121 ∷ []))) ∷
    asks 1 (verbs.Do (Put 0 (121 ∷ []) (97 ∷ []))) ∷
    asks 1 verbs.Commit ∷
    asks 2 verbs.Commit ∷ []

late_before_contradicts_replies : replies_to blank late_before_contradicts ≡
    replies.Begun 1 ∷
    replies.Absent ∷
    replies.Committed 1 ∷
    replies.BegunAt 2 2 ∷
    replies.Advanced 2 ∷
    replies.Begun 3 ∷
    replies.Done ∷
    replies.Absent ∷
    replies.Committed 2 ∷
    replies.BegunAt 4 3 ∷
    replies.Advanced 3 ∷
    replies.Done ∷
    replies.Found (118 ∷ []) ∷
    replies.Absent ∷
    replies.Done ∷
    replies.Committed 3 ∷
    replies.Late 2 2 5 (120 ∷ []) 3 ∷ []
unfolding entries_from answer after state_from run see first_change target first_late first_contradicted sealed body_length
late_before_contradicts_replies = refl

late_before_contradicts_order : order_after blank late_before_contradicts ≡ 1 ∷ 2 ∷ 3 ∷ []
unfolding entries_from answer after state_from run see first_change target first_late first_contradicted sealed body_length
late_before_contradicts_order = refl

-- the limit of epochs is named before that of numbers
abbrev both_limits : List Line
both_limits =
    asks 1 (verbs.Long 0 18446744073709551615) ∷
    asks 1 verbs.Short ∷ []

both_limits_replies : replies_to at_both_limits both_limits ≡
    replies.LimitEpoch ∷
    replies.LimitTx ∷ []
unfolding entries_from answer after state_from run see first_change target first_late first_contradicted sealed body_length
both_limits_replies = refl

both_limits_order : order_after at_both_limits both_limits ≡ []
unfolding entries_from answer after state_from run see first_change target first_late first_contradicted sealed body_length
both_limits_order = refl

-- an open transaction is named before the limits
abbrev hastx_first : List Line
hastx_first =
    asks 1 verbs.Short ∷
    asks 1 verbs.Short ∷
    asks 1 (verbs.Long 0 18446744073709551615) ∷ []

hastx_first_replies : replies_to before_last_number hastx_first ≡
    replies.Begun 9223372036854775807 ∷
    replies.HasTx ∷
    replies.HasTx ∷ []
unfolding entries_from answer after state_from run see first_change target first_late first_contradicted sealed body_length
hastx_first_replies = refl

hastx_first_order : order_after before_last_number hastx_first ≡ []
unfolding entries_from answer after state_from run see first_change target first_late first_contradicted sealed body_length
hastx_first_order = refl

-- the record of a look-up is kept when it is durable, and through a prune
abbrev durable_record_is_kept : List Line
durable_record_is_kept =
    asks 1 (verbs.Long 1 18446744073709551615) ∷
    asks 2 (verbs.Long 2 18446744073709551615) ∷
    lines.Good Epoch ∷
    asks 1 (verbs.Do (Get 1 (120 ∷ []))) ∷
    asks 2 (verbs.Do (Get 0 (121 ∷ []))) ∷
    asks 1 (verbs.Do (Put 0 (121 ∷ []) (97 ∷ []))) ∷
    asks 2 (verbs.Do (Put 1 (120 ∷ []) (98 ∷ []))) ∷
    asks 2 verbs.Commit ∷
    asks 1 verbs.Commit ∷
    lines.Good Epoch ∷
    lines.Good Flush ∷
    lines.Good Prune ∷
    asks 2 verbs.Commit ∷ []

durable_record_is_kept_replies : replies_to blank durable_record_is_kept ≡
    replies.BegunAt 1 2 ∷
    replies.BegunAt 2 2 ∷
    replies.Advanced 2 ∷
    replies.Absent ∷
    replies.Absent ∷
    replies.Done ∷
    replies.Done ∷
    replies.Waiting 1 ∷
    replies.Committed 2 ∷
    replies.Advanced 3 ∷
    replies.Durable 2 ∷
    replies.Pruned ∷
    replies.Contradicts 1 2 1 (120 ∷ []) 1 ∷ []
unfolding entries_from answer after state_from run see first_change target first_late first_contradicted sealed body_length
durable_record_is_kept_replies = refl

durable_record_is_kept_order : order_after blank durable_record_is_kept ≡ 1 ∷ []
unfolding entries_from answer after state_from run see first_change target first_late first_contradicted sealed body_length
durable_record_is_kept_order = refl

-- a younger batch that committed at its slot stands behind an elder, which does not overtake it
abbrev younger_at_home_is_not_overtaken : List Line
younger_at_home_is_not_overtaken =
    asks 1 (verbs.Long 1 18446744073709551615) ∷
    asks 2 (verbs.Long 2 18446744073709551615) ∷
    lines.Good Epoch ∷
    asks 1 (verbs.Do (Get 1 (120 ∷ []))) ∷
    asks 2 (verbs.Do (Put 1 (120 ∷ []) (98 ∷ []))) ∷
    asks 2 verbs.Commit ∷
    asks 1 verbs.Commit ∷ []

younger_at_home_is_not_overtaken_replies : replies_to blank younger_at_home_is_not_overtaken ≡
    replies.BegunAt 1 2 ∷
    replies.BegunAt 2 2 ∷
    replies.Advanced 2 ∷
    replies.Absent ∷
    replies.Done ∷
    replies.Committed 2 ∷
    replies.Committed 2 ∷ []
unfolding entries_from answer after state_from run see first_change target first_late first_contradicted sealed body_length
younger_at_home_is_not_overtaken_replies = refl

younger_at_home_is_not_overtaken_order : order_after blank younger_at_home_is_not_overtaken ≡ 1 ∷ 2 ∷ []
unfolding entries_from answer after state_from run see first_change target first_late first_contradicted sealed body_length
younger_at_home_is_not_overtaken_order = refl

-- the same value by another writer is a change
abbrev same_value_again_is_a_change : List Line
same_value_again_is_a_change =
    asks 1 verbs.Short ∷
    asks 1 (verbs.Do (Put 0 (120 ∷ []) (97 ∷ []))) ∷
    asks 1 verbs.Commit ∷
    asks 1 verbs.Short ∷
    asks 1 (verbs.Do (Get 0 (120 ∷ []))) ∷
    asks 2 verbs.Short ∷
    asks 2 (verbs.Do (Put 0 (120 ∷ []) (97 ∷ []))) ∷
    asks 2 verbs.Commit ∷
    asks 1 verbs.Commit ∷ []

same_value_again_is_a_change_replies : replies_to blank same_value_again_is_a_change ≡
    replies.Begun 1 ∷
    replies.Done ∷
    replies.Committed 1 ∷
    replies.Begun 2 ∷
    replies.Found (97 ∷ []) ∷
    replies.Begun 3 ∷
    replies.Done ∷
    replies.Committed 1 ∷
    replies.Changed 1 0 (120 ∷ []) (Some 1) (Some 3) ∷ []
unfolding entries_from answer after state_from run see first_change target first_late first_contradicted sealed body_length
same_value_again_is_a_change_replies = refl

same_value_again_is_a_change_order : order_after blank same_value_again_is_a_change ≡ 1 ∷ 3 ∷ []
unfolding entries_from answer after state_from run see first_change target first_late first_contradicted sealed body_length
same_value_again_is_a_change_order = refl

-- the high end of a scan is not in its range
abbrev high_end_is_not_in_the_range : List Line
high_end_is_not_in_the_range =
    asks 1 verbs.Short ∷
    asks 1 (verbs.Do (Put 0 (97 ∷ []) (49 ∷ []))) ∷
    asks 1 (verbs.Do (Put 0 (98 ∷ []) (50 ∷ []))) ∷
    asks 1 verbs.Commit ∷
    asks 1 verbs.Short ∷
    asks 1 (verbs.Do (Scan 0 (97 ∷ []) (98 ∷ []))) ∷
    asks 2 verbs.Short ∷
    asks 2 (verbs.Do (Put 0 (98 ∷ []) (51 ∷ []))) ∷
    asks 2 verbs.Commit ∷
    asks 1 verbs.Commit ∷ []

high_end_is_not_in_the_range_replies : replies_to blank high_end_is_not_in_the_range ≡
    replies.Begun 1 ∷
    replies.Done ∷
    replies.Done ∷
    replies.Committed 1 ∷
    replies.Begun 2 ∷
    replies.Rows (record { key = (97 ∷ []); value = (49 ∷ []) } ∷ []) ∷
    replies.Begun 3 ∷
    replies.Done ∷
    replies.Committed 1 ∷
    replies.Committed 1 ∷ []
unfolding entries_from answer after state_from run see first_change target first_late first_contradicted sealed body_length
high_end_is_not_in_the_range_replies = refl

high_end_is_not_in_the_range_order : order_after blank high_end_is_not_in_the_range ≡ 1 ∷ 3 ∷ 2 ∷ []
unfolding entries_from answer after state_from run see first_change target first_late first_contradicted sealed body_length
high_end_is_not_in_the_range_order = refl

-- the first change is of the least operation, and in it of the least key; a row that went away is one
abbrev first_change_of_several : List Line
first_change_of_several =
    asks 1 verbs.Short ∷
    asks 1 (verbs.Do (Put 0 (97 ∷ []) (49 ∷ []))) ∷
    asks 1 (verbs.Do (Put 0 (98 ∷ []) (50 ∷ []))) ∷
    asks 1 (verbs.Do (Put 0 (99 ∷ []) (51 ∷ []))) ∷
    asks 1 verbs.Commit ∷
    asks 1 verbs.Short ∷
    asks 1 (verbs.Do (Scan 0 [] [])) ∷
    asks 1 (verbs.Do (Get 0 (99 ∷ []))) ∷
    asks 2 verbs.Short ∷
    asks 2 (verbs.Do (Del 0 (97 ∷ []))) ∷
    asks 2 (verbs.Do (Put 0 (98 ∷ []) (53 ∷ []))) ∷
    asks 2 (verbs.Do (Put 0 (99 ∷ []) (54 ∷ []))) ∷
    asks 2 verbs.Commit ∷
    asks 1 verbs.Commit ∷ []

first_change_of_several_replies : replies_to blank first_change_of_several ≡
    replies.Begun 1 ∷
    replies.Done ∷
    replies.Done ∷
    replies.Done ∷
    replies.Committed 1 ∷
    replies.Begun 2 ∷
    replies.Rows (record { key = (97 ∷ []); value = (49 ∷ []) } ∷ record { key = (98 ∷ []); value = (50 ∷ []) } ∷ record { key = (99 ∷ []); value = (51 ∷ []) } ∷ []) ∷
    replies.Found (51 ∷ []) ∷
    replies.Begun 3 ∷
    replies.Done ∷
    replies.Done ∷
    replies.Done ∷
    replies.Committed 1 ∷
    replies.Changed 1 0 (97 ∷ []) (Some 1) None ∷ []
unfolding entries_from answer after state_from run see first_change target first_late first_contradicted sealed body_length
first_change_of_several_replies = refl

first_change_of_several_order : order_after blank first_change_of_several ≡ 1 ∷ 3 ∷ []
unfolding entries_from answer after state_from run see first_change target first_late first_contradicted sealed body_length
first_change_of_several_order = refl

-- the first write that is contradicted; a reader that wrote the key afterwards is a reader of it
abbrev first_contradicted_write : List Line
first_contradicted_write =
    asks 1 (verbs.Long 1 18446744073709551615) ∷
    lines.Good Epoch ∷
    asks 2 verbs.Short ∷
    asks 2 (verbs.Do (Get 1 (120 ∷ []))) ∷
    asks 2 (verbs.Do (Get 1 (121 ∷ []))) ∷
    asks 2 (verbs.Do (Put 1 (120 ∷ []) (115 ∷ []))) ∷
    asks 2 verbs.Commit ∷
    asks 2 (verbs.Long 2 18446744073709551615) ∷
    lines.Good Epoch ∷
    asks 2 (verbs.Do (Get 0 (121 ∷ []))) ∷
    asks 2 (verbs.Do (Put 1 (120 ∷ []) (98 ∷ []))) ∷
    asks 2 (verbs.Do (Put 1 (121 ∷ []) (98 ∷ []))) ∷
    asks 1 (verbs.Do (Put 0 (121 ∷ []) (97 ∷ []))) ∷
    asks 1 verbs.Commit ∷
    asks 2 verbs.Commit ∷ []

first_contradicted_write_replies : replies_to blank first_contradicted_write ≡
    replies.BegunAt 1 2 ∷
    replies.Advanced 2 ∷
    replies.Begun 2 ∷
    replies.Absent ∷
    replies.Absent ∷
    replies.Done ∷
    replies.Committed 2 ∷
    replies.BegunAt 3 3 ∷
    replies.Advanced 3 ∷
    replies.Absent ∷
    replies.Done ∷
    replies.Done ∷
    replies.Done ∷
    replies.Committed 3 ∷
    replies.Contradicts 1 2 1 (120 ∷ []) 2 ∷ []
unfolding entries_from answer after state_from run see first_change target first_late first_contradicted sealed body_length
first_contradicted_write_replies = refl

first_contradicted_write_order : order_after blank first_contradicted_write ≡ 1 ∷ 2 ∷ []
unfolding entries_from answer after state_from run see first_change target first_late first_contradicted sealed body_length
first_contradicted_write_order = refl

-- a pending batch holds no table
abbrev pending_batch_holds_nothing : List Line
pending_batch_holds_nothing =
    asks 1 (verbs.Long 1 18446744073709551615) ∷
    asks 2 verbs.Short ∷
    asks 2 (verbs.Do (Put 0 (120 ∷ []) (97 ∷ []))) ∷
    asks 2 verbs.Commit ∷
    lines.Good Epoch ∷
    asks 1 verbs.Commit ∷ []

pending_batch_holds_nothing_replies : replies_to blank pending_batch_holds_nothing ≡
    replies.BegunAt 1 2 ∷
    replies.Begun 2 ∷
    replies.Done ∷
    replies.Committed 1 ∷
    replies.Advanced 2 ∷
    replies.Committed 2 ∷ []
unfolding entries_from answer after state_from run see first_change target first_late first_contradicted sealed body_length
pending_batch_holds_nothing_replies = refl

pending_batch_holds_nothing_order : order_after blank pending_batch_holds_nothing ≡ 2 ∷ 1 ∷ []
unfolding entries_from answer after state_from run see first_change target first_late first_contradicted sealed body_length
pending_batch_holds_nothing_order = refl

-- an elder is not waited for whose area holds only what was declared and not written
abbrev declared_and_not_written : List Line
declared_and_not_written =
    asks 1 (verbs.Long 1 2) ∷
    asks 2 (verbs.Long 6 18446744073709551615) ∷
    lines.Good Epoch ∷
    asks 2 (verbs.Do (Get 0 (121 ∷ []))) ∷
    asks 2 (verbs.Do (Put 2 (122 ∷ []) (99 ∷ []))) ∷
    asks 2 verbs.Commit ∷ []

declared_and_not_written_replies : replies_to blank declared_and_not_written ≡
    replies.BegunAt 1 2 ∷
    replies.BegunAt 2 2 ∷
    replies.Advanced 2 ∷
    replies.Absent ∷
    replies.Done ∷
    replies.CommittedBefore 2 1 ∷ []
unfolding entries_from answer after state_from run see first_change target first_late first_contradicted sealed body_length
declared_and_not_written_replies = refl

declared_and_not_written_order : order_after blank declared_and_not_written ≡ 2 ∷ []
unfolding entries_from answer after state_from run see first_change target first_late first_contradicted sealed body_length
declared_and_not_written_order = refl

-- a scan without rows looks into its table
abbrev scan_looks_into_its_table : List Line
scan_looks_into_its_table =
    asks 1 (verbs.Long 1 18446744073709551615) ∷
    asks 2 (verbs.Long 2 1) ∷
    lines.Good Epoch ∷
    asks 2 (verbs.Do (Scan 0 [] [])) ∷
    asks 2 verbs.Commit ∷
    asks 1 (verbs.Do (Put 0 (121 ∷ []) (97 ∷ []))) ∷
    asks 1 verbs.Commit ∷ []

scan_looks_into_its_table_replies : replies_to blank scan_looks_into_its_table ≡
    replies.BegunAt 1 2 ∷
    replies.BegunAt 2 2 ∷
    replies.Advanced 2 ∷
    replies.Rows ([]) ∷
    replies.CommittedBefore 2 1 ∷
    replies.Done ∷
    replies.Committed 2 ∷ []
unfolding entries_from answer after state_from run see first_change target first_late first_contradicted sealed body_length
scan_looks_into_its_table_replies = refl

scan_looks_into_its_table_order : order_after blank scan_looks_into_its_table ≡ 2 ∷ 1 ∷ []
unfolding entries_from answer after state_from run see first_change target first_late first_contradicted sealed body_length
scan_looks_into_its_table_order = refl

-- the late key of an operation is its least one, also where it was deleted without a row
abbrev late_deletion_of_the_least_key : List Line
late_deletion_of_the_least_key =
    asks 1 (verbs.Long 1 18446744073709551615) ∷
    lines.Good Epoch ∷
    asks 2 verbs.Short ∷
    asks 2 (verbs.Do (Put 5 (98 ∷ []) (49 ∷ []))) ∷
    asks 2 (verbs.Do (Put 5 (99 ∷ []) (50 ∷ []))) ∷
    asks 2 verbs.Commit ∷
    asks 2 verbs.Short ∷
    asks 2 (verbs.Do (Del 5 (97 ∷ []))) ∷
    asks 2 verbs.Commit ∷
    asks 2 (verbs.Long 2 18446744073709551615) ∷
    lines.Good Epoch ∷
    asks 2 (verbs.Do (Scan 5 [] [])) ∷
    asks 2 (verbs.Do (Get 0 (121 ∷ []))) ∷
    asks 1 (verbs.Do (Put 0 (121 ∷ []) (97 ∷ []))) ∷
    asks 1 verbs.Commit ∷
    asks 2 verbs.Commit ∷ []

late_deletion_of_the_least_key_replies : replies_to blank late_deletion_of_the_least_key ≡
    replies.BegunAt 1 2 ∷
    replies.Advanced 2 ∷
    replies.Begun 2 ∷
    replies.Done ∷
    replies.Done ∷
    replies.Committed 2 ∷
    replies.Begun 3 ∷
    replies.Done ∷
    replies.Committed 2 ∷
    replies.BegunAt 4 3 ∷
    replies.Advanced 3 ∷
    replies.Rows (record { key = (98 ∷ []); value = (49 ∷ []) } ∷ record { key = (99 ∷ []); value = (50 ∷ []) } ∷ []) ∷
    replies.Absent ∷
    replies.Done ∷
    replies.Committed 3 ∷
    replies.Late 1 1 5 (97 ∷ []) 3 ∷ []
unfolding entries_from answer after state_from run see first_change target first_late first_contradicted sealed body_length
late_deletion_of_the_least_key_replies = refl

late_deletion_of_the_least_key_order : order_after blank late_deletion_of_the_least_key ≡ 1 ∷ 2 ∷ 3 ∷ []
unfolding entries_from answer after state_from run see first_change target first_late first_contradicted sealed body_length
late_deletion_of_the_least_key_order = refl

-- of a batch that was aborted a frame has the slot alone
abbrev dropped_batch_has_no_event : List Line
dropped_batch_has_no_event =
    asks 1 (verbs.Long 1 18446744073709551615) ∷
    lines.Good Epoch ∷
    asks 1 verbs.Abort ∷
    lines.Good Epoch ∷
    lines.Good Flush ∷ []

dropped_batch_has_no_event_replies : replies_to blank dropped_batch_has_no_event ≡
    replies.BegunAt 1 2 ∷
    replies.Advanced 2 ∷
    replies.Aborted ∷
    replies.Advanced 3 ∷
    replies.Durable 2 ∷ []
unfolding entries_from answer after state_from run see first_change target first_late first_contradicted sealed body_length
dropped_batch_has_no_event_replies = refl

dropped_batch_has_no_event_order : order_after blank dropped_batch_has_no_event ≡ []
unfolding entries_from answer after state_from run see first_change target first_late first_contradicted sealed body_length
dropped_batch_has_no_event_order = refl

-- a frame has the last write of each key, in order
abbrev last_writes_are_sealed : List Line
last_writes_are_sealed =
    asks 1 verbs.Short ∷
    asks 1 (verbs.Do (Put 0 (121 ∷ []) (97 ∷ []))) ∷
    asks 1 (verbs.Do (Put 0 (120 ∷ []) (97 ∷ []))) ∷
    asks 1 (verbs.Do (Put 0 (120 ∷ []) (98 ∷ []))) ∷
    asks 1 (verbs.Do (Del 0 (121 ∷ []))) ∷
    asks 1 verbs.Commit ∷
    lines.Good Epoch ∷ []

last_writes_are_sealed_replies : replies_to blank last_writes_are_sealed ≡
    replies.Begun 1 ∷
    replies.Done ∷
    replies.Done ∷
    replies.Done ∷
    replies.Done ∷
    replies.Committed 1 ∷
    replies.Advanced 2 ∷ []
unfolding entries_from answer after state_from run see first_change target first_late first_contradicted sealed body_length
last_writes_are_sealed_replies = refl

last_writes_are_sealed_order : order_after blank last_writes_are_sealed ≡ 1 ∷ []
unfolding entries_from answer after state_from run see first_change target first_late first_contradicted sealed body_length
last_writes_are_sealed_order = refl

-- the log's closed gate after frames of known lengths
younger_is_forwarded_gate : gate_after blank younger_is_forwarded ≡ 114
unfolding entries_from answer after state_from run see first_change target first_late first_contradicted sealed body_length
younger_is_forwarded_gate = refl

closed_epochs_become_durable_gate : gate_after blank closed_epochs_become_durable ≡ 107
unfolding entries_from answer after state_from run see first_change target first_late first_contradicted sealed body_length
closed_epochs_become_durable_gate = refl

dropped_batch_has_no_event_gate : gate_after blank dropped_batch_has_no_event ≡ 47
unfolding entries_from answer after state_from run see first_change target first_late first_contradicted sealed body_length
dropped_batch_has_no_event_gate = refl

-- a flush fits the log to the byte, and is one byte too long
abbrev flush_once : List Line
flush_once = lines.Good Epoch ∷ lines.Good Flush ∷ []

fits_the_log : replies_to (with_gate 1099511627754) flush_once ≡ replies.Advanced 2 ∷ replies.Durable 1 ∷ []
unfolding entries_from answer after state_from run see first_change target first_late first_contradicted sealed body_length
fits_the_log = refl

passes_the_log : replies_to (with_gate 1099511627755) flush_once ≡ replies.Advanced 2 ∷ replies.LimitLog ∷ []
unfolding entries_from answer after state_from run see first_change target first_late first_contradicted sealed body_length
passes_the_log = refl

-- the frame of the flush after a forwarded batch: its events in time
forwarded_frame : sealed (state blank (take 10 (entries_from everything (first_state blank) younger_is_forwarded))) ≡ record {
  epoch = 2;
  events = SlotEvent 1 ∷ SlotEvent 2 ∷ BatchEvent 2 2 (Some 1) (record { table = 1; key = 120 ∷ []; put = Some (98 ∷ []) } ∷ []) ∷ BatchEvent 1 2 None (record { table = 0; key = 121 ∷ []; put = Some (97 ∷ []) } ∷ []) ∷ [];
}
unfolding entries_from answer after state_from run see first_change target first_late first_contradicted sealed body_length
forwarded_frame = refl

-- the frame of a short that wrote two keys twice: the last write of each, in order
sealed_last_writes : sealed (state blank (entries_from everything (first_state blank) last_writes_are_sealed)) ≡ record {
  epoch = 1;
  events = ShortEvent 1 1 (record { table = 0; key = 120 ∷ []; put = Some (98 ∷ []) } ∷ record { table = 0; key = 121 ∷ []; put = None } ∷ []) ∷ [];
}
unfolding entries_from answer after state_from run see first_change target first_late first_contradicted sealed body_length
sealed_last_writes = refl

-- the floor and the safe members: a forwarded batch stands before the live elder that it overtook, an elder that aborted is gone,
-- a batch that committed before the slot of the live one does not count, and without a live batch all are safe
abbrev pub state_after : ℕ → List Line → State
state_after n ls = state blank (take n (entries_from everything (first_state blank) ls))

abbrev safe_numbers : State → List ℕ
safe_numbers s = map (λ t. t.number) (safe s)

floor_is_a_forwarded_batch : floor (state_after 13 forwarded_write_stays_under) ≡ Some 3
unfolding entries_from answer after state_from run see first_change target first_late first_contradicted sealed body_length
floor_is_a_forwarded_batch = refl

safe_before_a_forwarded_batch : safe_numbers (state_after 13 forwarded_write_stays_under) ≡ []
unfolding entries_from answer after state_from run see first_change target first_late first_contradicted sealed body_length
safe_before_a_forwarded_batch = refl

floor_after_the_elder_aborted : floor (state_after 12 elder_aborts) ≡ Some 3
unfolding entries_from answer after state_from run see first_change target first_late first_contradicted sealed body_length
floor_after_the_elder_aborted = refl

safe_after_the_elder_aborted : safe_numbers (state_after 12 elder_aborts) ≡ 2 ∷ []
unfolding entries_from answer after state_from run see first_change target first_late first_contradicted sealed body_length
safe_after_the_elder_aborted = refl

floor_is_the_live_batch : floor (state_after 6 committed_before_the_slot) ≡ Some 2
unfolding entries_from answer after state_from run see first_change target first_late first_contradicted sealed body_length
floor_is_the_live_batch = refl

safe_before_the_live_batch : safe_numbers (state_after 6 committed_before_the_slot) ≡ 1 ∷ []
unfolding entries_from answer after state_from run see first_change target first_late first_contradicted sealed body_length
safe_before_the_live_batch = refl

no_floor_without_live_batches : floor (state_after 8 committed_before_the_slot) ≡ None
unfolding entries_from answer after state_from run see first_change target first_late first_contradicted sealed body_length
no_floor_without_live_batches = refl

safe_without_live_batches : safe_numbers (state_after 8 committed_before_the_slot) ≡ 1 ∷ 2 ∷ []
unfolding entries_from answer after state_from run see first_change target first_late first_contradicted sealed body_length
safe_without_live_batches = refl

-- the rows through each epoch
abbrev row_x : List ℕ → ℕ → StoredRow
row_x value writer = record { table = 0; key = 120 ∷ []; value = value; writer = writer }

rows_through_the_base : rows_through (state_after 10 closed_epochs_become_durable) 0 ≡ []
unfolding entries_from answer after state_from run see first_change target first_late first_contradicted sealed body_length
rows_through_the_base = refl

rows_through_the_first_epoch : rows_through (state_after 10 closed_epochs_become_durable) 1 ≡ row_x (97 ∷ []) 1 ∷ []
unfolding entries_from answer after state_from run see first_change target first_late first_contradicted sealed body_length
rows_through_the_first_epoch = refl

rows_through_the_second_epoch : rows_through (state_after 10 closed_epochs_become_durable) 2 ≡ row_x (98 ∷ []) 2 ∷ []
unfolding entries_from answer after state_from run see first_change target first_late first_contradicted sealed body_length
rows_through_the_second_epoch = refl

-- a transaction is full at 65,536 operations and not before; a held table, or a table that it may not use, is named first
full_at_the_limit : (t : Transaction) → length t.answered ≡ 65536 → is_full t ≡ true
full_at_the_limit t e = ap (λ n. nat_le 65536 n) e

not_full_before_the_limit : (t : Transaction) → length t.answered ≡ 65535 → is_full t ≡ false
not_full_before_the_limit t e = ap (λ n. nat_le 65536 n) e

full_is_limited : (s : State) (t : Transaction) (op : Op) → is_full t ≡ true → operation_of_short s None t op ≡ replies.LimitOps
full_is_limited s t op e = ap (λ full. counted full (latest s) t op) e

full_batch_is_limited : (s : State) (t : Transaction) (op : Op) (snapshot : List Transaction) → is_full t ≡ true → operation_of_batch s None snapshot t op ≡ replies.LimitOps
full_batch_is_limited s t op snapshot e = ap (λ full. counted full (run s.base snapshot) t op) e

held_before_full : (s : State) (n : ℕ) (t : Transaction) (op : Op) → operation_of_short s (Some n) t op ≡ replies.Preserved (table_of op) n
held_before_full s n t op = refl

outside_before_full : (s : State) (reply : Reply) (t : Transaction) (op : Op) (snapshot : List Transaction) → operation_of_batch s (Some reply) snapshot t op ≡ reply
outside_before_full s reply t op snapshot = refl

-- bases at both limits are sound
both_limits_are_sound : IsSound at_both_limits
both_limits_are_sound = record { rising = tt; writers = tt; durable = omega arith; last = omega arith }

-- run in the order of their numbers, the two batches do not get the replies that they were given
numbers_do_not_explain : RunGives [] (reverse (committed_in (entries_from everything (first_state blank) younger_is_forwarded))) → ⊥
unfolding entries_from answer after state_from run see first_change target first_late first_contradicted sealed body_length RunGives committed_from
numbers_do_not_explain gives =
    let replies : replies.Found (97 ∷ []) ∷ replies.Done ∷ [] ≡ replies.Absent ∷ replies.Done ∷ [] = gives.1.0 in
    let no : ⊥ = cc in no
