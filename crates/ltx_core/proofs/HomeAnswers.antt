-- The answer to the commit of a live batch where no batch committed since its slot and no live one is older.
use Rattle.std.proofs.Common.{◌≡◌, ℕ, Bool, true, false, ◌&&◌, ◌||◌, ◌==◌, List, [], ◌∷◌, Some, None, option_map, refl, sym, ap, ◌∙◌, nat_lt}
use Rattle.std.specs.Prelude.{filter_map}
use Rattle.std.specs.List.{list_any, cons_option}
use Rattle.ltx_model.specs.declared.commands.Command.{Command}
use Rattle.ltx_model.specs.declared.commands.Command.TheVariants.{Ask}
use Rattle.ltx_model.specs.declared.commands.Line.TheVariants.{Good}
use Rattle.ltx_model.specs.declared.commands.Verb.TheVariants as verbs
use Rattle.ltx_model.specs.declared.replies.Reply.TheVariants as replies
use Rattle.ltx_model.specs.Operations.{Transaction}
use Rattle.ltx_model.specs.Agenda.{Member, LiveSlot, Committed, number_of, Move, Slot, CommitShort, CommitHome, CommitBefore, Leave, Timed, commits_batch, commits_after, moves_since, is_member, part_before}
use Rattle.ltx_model.specs.States.{Declaration, Kind, IsShort, IsPending, IsLive, Active, State, LiveBatch, as_live, live_batches, transaction_of, active_of}
use Rattle.ltx_model.specs.Holders.{Holder, holder_of}
use Rattle.ltx_model.specs.Tables.{has_table}
use Rattle.ltx_model.specs.Operations.{table_of, looks_into_table}
use Rattle.ltx_model.specs.Batches.{batch_operations, writes_what_looks, preserves_what_looks, overtakes, target}
use Rattle.ltx_model.specs.Answers.{commit_live, commit_in, commit, staged}
use Rattle.ltx_lemmas.proofs.Lists.{true_false, all_from, all_map, any_not, any_not_all, any_none, any_none_all, find_none_from}
use Rattle.ltx_preserve.specs.Kept.{is_live_below}
use Rattle.ltx_core.specs.Built.{built}
use Rattle.ltx_core.specs.Since.{is_batch_commit, has_batch_since, has_elder}
use Rattle.ltx_core.specs.Stands.{batches_of}
use Rattle.ltx_core.proofs.StandsStill.{staged_is}

-- an elder is a live batch that is entered with a smaller number
below_by_kind : (n : ℕ) (o : Active) (kind : Kind) (hs : List Holder) (bs : List LiveBatch) → list_any (is_live_below n) hs ≡ list_any (λ b. nat_lt b.tx.number n) bs
    → list_any (is_live_below n) (cons_option (holder_of kind o.number) hs) ≡ list_any (λ b. nat_lt b.tx.number n) (cons_option (as_live kind (transaction_of o)) bs)
below_by_kind n o IsShort hs bs rest = rest
below_by_kind n o (IsPending d) hs bs rest = rest
below_by_kind n o (IsLive d snapshot) hs bs rest = ap (λ b. nat_lt o.number n || b) rest

pub elder_entered : (n : ℕ) (active : List Active) → list_any (is_live_below n) (batches_of active) ≡ list_any (λ b. nat_lt b.tx.number n) (filter_map (λ o. as_live o.kind (transaction_of o)) active)
elder_entered n [] = refl
elder_entered n (o ∷ os) = below_by_kind n o o.kind (batches_of os) (filter_map (λ u. as_live u.kind (transaction_of u)) os) (elder_entered n os)

-- a move that commits no batch does not commit this one
commits_none : (c : ℕ) (m : Move) → is_batch_commit m ≡ false → commits_batch c m ≡ false
commits_none c (Slot n) none = refl
commits_none c (CommitShort t) none = refl
commits_none c (CommitHome t) none = absurd (true_false none)
commits_none c (CommitBefore t target) none = absurd (true_false none)
commits_none c (Leave n) none = refl

none_after : (moves : List Timed) (n c : ℕ) → has_batch_since moves n ≡ false → commits_after moves n c ≡ false
none_after moves n c none =
    any_none_all (λ m. commits_batch c m.move) (moves_since n moves)
    (all_map (λ m. is_batch_commit m.move ≡ false) (λ m. commits_batch c m.move ≡ false) (λ m. commits_none c m.move) (moves_since n moves) (any_not_all (λ m. is_batch_commit m.move) (moves_since n moves) none))

and_false : (b : Bool) → (b && false) ≡ false
and_false true = refl
and_false false = refl

module _ (s : State) (i : LiveBatch) (alone : has_batch_since s.moves i.tx.number ≡ false) (least : has_elder s i.tx.number ≡ false) where
  -- who commits first and is the least overtakes nobody
  overtakes_none : (m : Member) → overtakes s i m ≡ false
  overtakes_none (Committed t) =
      ap (λ b. (b && is_member (part_before i.tx.number s.agenda) t.number) && writes_what_looks i t) (none_after s.moves i.tx.number t.number alone)
  overtakes_none (LiveSlot n) = any_none (λ b. (b.tx.number == n) && preserves_what_looks i b) (live_batches s) (λ b here.
      ap (λ r. (b.tx.number == n) && (r && list_any (λ op. has_table b.declared.writes (table_of op) && looks_into_table (batch_operations i) (table_of op)) (batch_operations i)))
      (any_not (λ u. nat_lt u.tx.number i.tx.number) (live_batches s) b least here) ∙ and_false (b.tx.number == n))

  pub no_target : target s i ≡ None
  unfolding target
  no_target = ap (option_map number_of) (find_none_from (overtakes s i) s.agenda (all_from (λ m. overtakes s i m ≡ false) s.agenda (λ m here. overtakes_none m)))

-- the commit of a session
abbrev pub commits_at : ℕ → Command
commits_at session = Ask session verbs.Commit

pub home_answer : (s : State) (session : ℕ) (o : Active) (d : Declaration) (snapshot : List Transaction) → active_of s session ≡ Some o → o.kind ≡ IsLive d snapshot → has_batch_since s.moves o.number ≡ false → has_elder s o.number ≡ false
    → replies.Committed s.epoch ≡ staged built s (Good (commits_at session))
home_answer s session o d snapshot is kind alone least =
    let i : LiveBatch = record { tx = transaction_of o; declared = d; snapshot = snapshot } in
    let answers : commit s (active_of s session) ≡ replies.Committed s.epoch = ap (commit s) is ∙ ap (λ k. commit_in s k o) kind ∙ ap (commit_live s i) (no_target s i alone least) in
    sym answers ∙ staged_is s (commits_at session)
