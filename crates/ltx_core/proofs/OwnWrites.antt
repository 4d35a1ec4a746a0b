-- An open transaction writes no more keys than it has operations.
use Rattle.std.proofs.Common.{◌≡◌, ℕ, suc, ◌+◌, ◌≤◌, List, [], ◌∷◌, map, length, Option, Some, None, ap, le_refl, arith}
use Rattle.std.proofs.lemmas.List.{length-map}
use Rattle.std.specs.declared.cmp.Ordering.{Ordering}
use Rattle.std.specs.declared.cmp.Ordering.TheVariants.{Less, Equal, Greater}
use Rattle.ltx_model.specs.declared.commands.Op.{Op}
use Rattle.ltx_model.specs.declared.writes.Write.{Write}
use Rattle.ltx_model.specs.Keys.{cell_cmp, put_at, put_in_order}
use Rattle.ltx_model.specs.Limits.{most_operations}
use Rattle.ltx_model.specs.Operations.{write_of, cell_of_write, put_write, writes_after, writes_of}
use Rattle.ltx_model.specs.States.{Active, Step, State, is_of}
use Rattle.ltx_model.specs.Histories.{state}
use Rattle.ltx_lemmas.proofs.Lists.{all_find}
use Rattle.ltx_laws.proofs.WithinBounds.{bounded_of}
use Rattle.ltx_core.specs.Built.{built}
use Rattle.ltx_open.specs.Views.{OpenView}
use Rattle.ltx_core.specs.Views.{CoreView}
use Rattle.ltx_open.specs.Slots.{opened}
use Rattle.ltx_core.specs.Stands.{ground, IsStanding}
use Rattle.ltx_core.proofs.Ended.{some_open}
use Rattle.ltx_core.proofs.OpensKept.{FoundOpen}

put_length : (x : Write) (ys : List Write) → length (put_in_order cell_of_write x ys) ≤ length ys + 1
put_length x [] = le_refl 1
put_length x (y ∷ ys) = by_order (cell_cmp (cell_of_write x) (cell_of_write y)) (put_length x ys) where
  by_order : (o : Ordering) → length (put_in_order cell_of_write x ys) ≤ length ys + 1 → length (put_at o x y ys (put_in_order cell_of_write x ys)) ≤ suc (length ys) + 1
  by_order Less rest = let r : suc (suc (length ys)) ≤ suc (length ys) + 1 = omega arith in r
  by_order Equal rest = let r : suc (length ys) ≤ suc (length ys) + 1 = omega arith in r
  by_order Greater rest = let r : suc (length (put_in_order cell_of_write x ys)) ≤ suc (length ys) + 1 = omega arith in r

writes_length : (ws : List Write) (ops : List Op) → length (writes_after ws ops) ≤ length ws + length ops
writes_length ws [] = let r : length ws ≤ length ws + 0 = omega arith in r
writes_length ws (op ∷ ops) = by_write (write_of op) (λ next. writes_length next ops) where
  by_write : (w : Option Write) → ((next : List Write) → length (writes_after next ops) ≤ length next + length ops) → length (writes_after (put_write w ws) ops) ≤ length ws + suc (length ops)
  by_write None rest = let most : length (writes_after ws ops) ≤ length ws + length ops = rest ws in let r : length (writes_after ws ops) ≤ length ws + suc (length ops) = omega arith in r
  by_write (Some w) rest =
      let next : List Write = put_in_order cell_of_write w ws in
      let most : length (writes_after next ops) ≤ length next + length ops = rest next in
      let one : length next ≤ length ws + 1 = put_length w ws in
      let r : length (writes_after next ops) ≤ length ws + suc (length ops) = omega arith in r

-- an open transaction has no more writes than a frame may hold of a commit
pub own_few : (core : CoreView) → IsStanding core → (session : ℕ) (a : OpenView) → opened core.opens session ≡ Some a → length a.own.writes ≤ most_operations
own_few core standing session a here =
    let s : State = state standing.base standing.history in
    let found : FoundOpen (ground core s) core.opens s.active standing.stands.opens session a = some_open core session s standing.stands a here in
    let few : length found.open_tx.steps ≤ most_operations =
    all_find (λ (o : Active). length o.steps ≤ most_operations) (is_of session) s.active found.open_tx (bounded_of built standing.base standing.history standing.sound standing.legal).opened found.found in
    let own : length a.own.writes ≡ length (writes_of (map (λ (b : Step). b.op) found.open_tx.steps)) = ap length found.is_open.own in
    let most : length (writes_of (map (λ (b : Step). b.op) found.open_tx.steps)) ≤ 0 + length (map (λ (b : Step). b.op) found.open_tx.steps) = writes_length [] (map (λ (b : Step). b.op) found.open_tx.steps) in
    let steps : length (map (λ (b : Step). b.op) found.open_tx.steps) ≡ length found.open_tx.steps = length-map found.open_tx.steps (λ (b : Step). b.op) in
    omega arith
