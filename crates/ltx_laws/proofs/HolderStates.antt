-- The holders of a state, as they are entered, are its live batches.
use Rattle.std.proofs.Common.{◌≡◌, ℕ, ◌≤◌, true, Some, Contains, refl, sym, ap, ◌∙◌, subst}
use Rattle.ltx_model.specs.States.{Kind, IsShort, IsPending, IsLive, Active, transaction_of, State, LiveBatch, as_live, live_batches}
use Rattle.ltx_model.specs.Shorts.{holds, IsHeld}
use Rattle.ltx_model.specs.Holders.{Holder, holds_table, IsLeastHolder, holder_of, holders_of}
use Rattle.ltx_lemmas.proofs.Lists.{some_same, none_some, true_false, given_here, given_item}
use Rattle.ltx_laws.proofs.LiveStates.{IsOpenBatch, open_batch}

-- a holder is a live batch
pub record IsBatchOf (s : State) (table n : ℕ) : Type 0 where
  pub batch : LiveBatch
  pub live : Contains (live_batches s) batch
  pub number : batch.tx.number ≡ n
  pub declared : holds table batch ≡ true

pub batch_of : (s : State) (table : ℕ) (h : Holder) → Contains (holders_of s) h → holds_table table h ≡ true → IsBatchOf s table h.number
batch_of s table h c e = by_open (given_item (λ (o : Active). holder_of o.kind o.number) s.active h c) where
  by_kind : (o : Active) → Contains s.active o → (k : Kind) → o.kind ≡ k → holder_of k o.number ≡ Some h → IsBatchOf s table h.number
  by_kind o at IsShort kind is = absurd (none_some is)
  by_kind o at (IsPending d) kind is = absurd (true_false (sym (subst (λ x. holds_table table x ≡ true) (sym (some_same is)) e)))
  by_kind o at (IsLive d snapshot) kind is = record {
    batch = record { tx = transaction_of o; declared = d; snapshot = snapshot };
    live = given_here (λ (u : Active). as_live u.kind (transaction_of u)) s.active o (record { tx = transaction_of o; declared = d; snapshot = snapshot }) at (ap (λ k. as_live k (transaction_of o)) kind);
    number = ap (λ (x : Holder). x.number) (some_same is);
    declared = subst (λ x. holds_table table x ≡ true) (sym (some_same is)) e;
  }

  by_open : (o : Active) × Contains s.active o × (holder_of o.kind o.number ≡ Some h) → IsBatchOf s table h.number
  by_open (o, at, is) = by_kind o at o.kind refl is

-- a live batch is a holder
record IsHolderOf (s : State) (table n : ℕ) : Type 0 where
  holder : Holder
  here : Contains (holders_of s) holder
  number : holder.number ≡ n
  holding : holds_table table holder ≡ true

holder_from : (s : State) (table : ℕ) (b : LiveBatch) → Contains (live_batches s) b → holds table b ≡ true → IsHolderOf s table b.tx.number
holder_from s table b live e =
    let x : IsOpenBatch s b = open_batch s b live in
    record {
      holder = record { number = x.active.number; tables = b.declared.writes; live = true };
      here = given_here (λ (o : Active). holder_of o.kind o.number) s.active x.active (record { number = x.active.number; tables = b.declared.writes; live = true }) x.here (ap (λ k. holder_of k x.active.number) x.kind);
      number = ap (λ t. t.number) x.tx;
      holding = e;
    }

pub least_is_held : (s : State) (table n : ℕ) → IsLeastHolder (holders_of s) table n → IsHeld s table n
least_is_held s table n l =
    let b : IsBatchOf s table l.holder.number = batch_of s table l.holder l.here l.holds in
    record {
      batch = b.batch;
      live = b.live;
      number = b.number ∙ l.number;
      declared = b.declared;
      least = λ other at e. let h : IsHolderOf s table other.tx.number = holder_from s table other at e in subst (λ k. n ≤ k) h.number (l.least h.holder h.here h.holding);
    }

pub held_is_least : (s : State) (table n : ℕ) → IsHeld s table n → IsLeastHolder (holders_of s) table n
held_is_least s table n i =
    let h : IsHolderOf s table i.batch.tx.number = holder_from s table i.batch i.live i.declared in
    record {
      holder = h.holder;
      here = h.here;
      number = h.number ∙ i.number;
      holds = h.holding;
      least = λ other at e. let b : IsBatchOf s table other.number = batch_of s table other at e in subst (λ k. n ≤ k) b.number (i.least b.batch b.live b.declared);
    }
