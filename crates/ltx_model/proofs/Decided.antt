-- The answer to a commit is the reply of the decision on a batch and of the verdict on a short.
use Rattle.std.proofs.Common.{◌≡◌, ℕ, Option, Some, None, refl}
use Rattle.ltx_model.specs.States.{Active, State, LiveBatch, latest}
use Rattle.ltx_model.specs.Shorts.{Held, Change, holder, held_table, first_change}
use Rattle.ltx_model.specs.Batches.{Refusal, ByLate, ByContradicts, first_witness, waits}
use Rattle.ltx_model.specs.Answers.{checked, commit_short, commit_at, commit_live}
use Rattle.ltx_model.specs.Decisions.{decided_at, decided, reply_to}
use Rattle.ltx_model.specs.Verdicts.{by_held, verdict, ops_of, reply_by}

-- at the place before a target
answered_at : (s : State) (p : ℕ) (k : Option ℕ) (witness : Option Refusal) → commit_at s p k witness ≡ reply_to s (decided_at p k witness)
answered_at s p (Some k) witness = refl
answered_at s p None (Some (ByLate w)) = refl
answered_at s p None (Some (ByContradicts w)) = refl
answered_at s p None None = refl

-- a live batch, by its target
pub commit_is_decided : (s : State) (i : LiveBatch) (t : Option ℕ) → commit_live s i t ≡ reply_to s (decided s i t)
commit_is_decided s i None = refl
commit_is_decided s i (Some p) = answered_at s p (waits s i p (first_witness s i p)) (first_witness s i p)

-- a short, by its least held table and its first change
answered_by : (s : State) (h : Option Held) (c : Option Change) (o : Active) → first_change (latest s) o.steps ≡ c → commit_short s h o ≡ reply_by s (by_held h c)
answered_by s (Some h) c o is = refl
answered_by s None None o is = (λ i. checked s (is i))
answered_by s None (Some c) o is = (λ i. checked s (is i))

pub commit_is_verdict : (s : State) (o : Active) → commit_short s (held_table s (ops_of o.steps)) o ≡ reply_by s (verdict (holder s) (latest s) o.steps)
commit_is_verdict s o = answered_by s (held_table s (ops_of o.steps)) (first_change (latest s) o.steps) o refl
