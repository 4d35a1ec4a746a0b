-- The two laws of bodies: what is read is spelled so, and what is spelled so is read.
use Rattle.std.proofs.Common.{◌≡◌, ℕ, zero, suc, ◌^◌, ◌<◌, true, cond, eqb, Result, Ok, Err, ◌&&◌, nat_lt, nat_le, List, [], ◌∷◌, ◌++◌, length, Option, Some, None, refl, sym, ap, subst, ◌∙◌, append_assoc, append-nil, arith, flat_map}
use Rattle.std.specs.Prelude.{IsOk, IfOk, IfNone}
use Rattle.std.specs.Result.{result_ok}
use Rattle.std.specs.Int.{w16, w32, w64, to_be_bytes}
use Rattle.std.proofs.lemmas.Bool.{eqb-true}
use Rattle.std.proofs.lemmas.List.{nil_from_length}
use Rattle.ltx_model.specs.declared.writes.Write.{Write}
use Rattle.ltx_model.specs.Limits.{key_limit, value_limit, IsKey, IsValue, IsTx}
use Rattle.ltx_model.specs.Frames.{LogEvent, SlotEvent, ShortEvent, BatchEvent, Frame}
use Rattle.ltx_model.specs.Spellings.{write_bytes, writes_bytes, target_bytes, event_bytes, body_bytes, IsWithin, IsPut, AreWithin, IsTarget, IsEvent, IsFrame, Spells}
use Rattle.ltx_frame.specs.Readings.{◌>>=◌, byte_at, number_at, part_at, as_tx, as_table, key_at, value_at, put_at, del_at, write_at, writes_at, slot_at, short_at, target_at, batch_at, event_at, items_at, body_at}
use Rattle.ltx_frame.proofs.Fields.{IsBytes, IsBytes-rest, bind_some, passed, some_is, as_same, as_made, Takes, Takes-then, wide16, wide32, wide64, number_takes, number_again, byte_takes, part_takes, part_again, tx_is, tx_again, table_is, table_again, items_take, items_again}

-- one byte more before what was taken
more_before : (b : ℕ) (bytes text rest : List ℕ) → Takes bytes text rest → Takes (b ∷ bytes) (b ∷ text) rest
more_before b bytes text rest t = record { parts = ap (λ (l : List ℕ). b ∷ l) t.parts; rest_fits = t.rest_fits }

-- ---- keys and values

key_takes : (bytes : List ℕ) (x : List ℕ × List ℕ) → IsBytes bytes → key_at bytes ≡ Some x → Takes bytes (length x.0 ∷ x.0) x.1
unfolding key_at
key_takes bytes x fits e =
    let a = bind_some (byte_at bytes) (λ n. part_at n.0 n.1 >>= λ key. cond (nat_lt 0 (length key.0) && nat_le (length key.0) key_limit) (Some (key.0, key.1)) None) x e in
    let b = bind_some (part_at a.0.0 a.0.1) (λ key. cond (nat_lt 0 (length key.0) && nat_le (length key.0) key_limit) (Some (key.0, key.1)) None) x a.2 in
    let g = passed (nat_lt 0 (length b.0.0) && nat_le (length b.0.0) key_limit) (b.0.0, b.0.1) x b.2 in
    let first = byte_takes bytes a.0 fits a.1 in
    let second = part_takes a.0.0 a.0.1 b.0 first.rest_fits b.1 in
    let both : Takes bytes (a.0.0 ∷ b.0.0) b.0.1 = Takes-then bytes (a.0.0 ∷ []) a.0.1 b.0.0 b.0.1 first second.0 in
    let counted : Takes bytes (length b.0.0 ∷ b.0.0) b.0.1 = subst (λ k. Takes bytes (k ∷ b.0.0) b.0.1) (sym second.1) both in
    subst (λ (y : List ℕ × List ℕ). Takes bytes (length y.0 ∷ y.0) y.1) g.1 counted

key_again : (key rest : List ℕ) → IsKey key → key_at (length key ∷ key ++ rest) ≡ Some (key, rest)
unfolding key_at
key_again key rest is =
    let test : (nat_lt 0 (length key) && nat_le (length key) key_limit) ≡ true = grind (arith, is.some, is.short) in
    rw (part_again key rest, test) refl

value_takes : (bytes : List ℕ) (x : List ℕ × List ℕ) → IsBytes bytes → value_at bytes ≡ Some x → Takes bytes (to_be_bytes w16 (length x.0) ++ x.0) x.1
unfolding value_at
value_takes bytes x fits e =
    let a = bind_some (number_at w16 bytes) (λ n. part_at n.0 n.1 >>= λ value. cond (nat_le (length value.0) value_limit) (Some (value.0, value.1)) None) x e in
    let b = bind_some (part_at a.0.0 a.0.1) (λ value. cond (nat_le (length value.0) value_limit) (Some (value.0, value.1)) None) x a.2 in
    let g = passed (nat_le (length b.0.0) value_limit) (b.0.0, b.0.1) x b.2 in
    let first = number_takes w16 (2 ^ 16) wide16 bytes a.0 fits a.1 in
    let second = part_takes a.0.0 a.0.1 b.0 first.rest_fits b.1 in
    let both : Takes bytes (to_be_bytes w16 a.0.0 ++ b.0.0) b.0.1 = Takes-then bytes (to_be_bytes w16 a.0.0) a.0.1 b.0.0 b.0.1 first second.0 in
    let counted : Takes bytes (to_be_bytes w16 (length b.0.0) ++ b.0.0) b.0.1 = subst (λ k. Takes bytes (to_be_bytes w16 k ++ b.0.0) b.0.1) (sym second.1) both in
    subst (λ (y : List ℕ × List ℕ). Takes bytes (to_be_bytes w16 (length y.0) ++ y.0) y.1) g.1 counted

value_again : (value rest : List ℕ) → IsValue value → value_at (to_be_bytes w16 (length value) ++ (value ++ rest)) ≡ Some (value, rest)
unfolding value_at
value_again value rest is =
    let test : nat_le (length value) value_limit ≡ true = grind (arith, is.short) in
    rw (number_again w16 (2 ^ 16) wide16 (length value) (value ++ rest) (omega (arith, is.short)), part_again value rest, test) refl

-- ---- writes

put_takes : (bytes : List ℕ) (x : Write × List ℕ) → IsBytes bytes → put_at bytes ≡ Some x → Takes (0 ∷ bytes) (write_bytes x.0) x.1
unfolding put_at
put_takes bytes x fits e =
    let a = bind_some (byte_at bytes) (λ n. as_table n.0 >>= λ table. key_at n.1 >>= λ key. value_at key.1 >>= λ value. Some (record { table = table; key = key.0; put = Some value.0 }, value.1)) x e in
    let t = bind_some (as_table a.0.0) (λ table. key_at a.0.1 >>= λ key. value_at key.1 >>= λ value. Some (record { table = table; key = key.0; put = Some value.0 }, value.1)) x a.2 in
    let b = bind_some (key_at a.0.1) (λ key. value_at key.1 >>= λ value. Some (record { table = t.0; key = key.0; put = Some value.0 }, value.1)) x t.2 in
    let v = bind_some (value_at b.0.1) (λ value. Some (record { table = t.0; key = b.0.0; put = Some value.0 }, value.1)) x b.2 in
    let first : Takes bytes (t.0 ∷ []) a.0.1 = subst (λ k. Takes bytes (k ∷ []) a.0.1) (table_is a.0.0 t.0 t.1) (byte_takes bytes a.0 fits a.1) in
    let second = key_takes a.0.1 b.0 first.rest_fits b.1 in
    let third = value_takes b.0.1 v.0 second.rest_fits v.1 in
    let later = Takes-then a.0.1 (length b.0.0 ∷ b.0.0) b.0.1 (to_be_bytes w16 (length v.0.0) ++ v.0.0) v.0.1 second third in
    let all = Takes-then bytes (t.0 ∷ []) a.0.1 ((length b.0.0 ∷ b.0.0) ++ (to_be_bytes w16 (length v.0.0) ++ v.0.0)) v.0.1 first later in
    let made : Write × List ℕ = (record { table = t.0; key = b.0.0; put = Some v.0.0 }, v.0.1) in
    as_made (λ (y : Write × List ℕ). Takes (0 ∷ bytes) (write_bytes y.0) y.1) made x v.2 (more_before 0 bytes (t.0 ∷ length b.0.0 ∷ b.0.0 ++ (to_be_bytes w16 (length v.0.0) ++ v.0.0)) v.0.1 all)

del_takes : (bytes : List ℕ) (x : Write × List ℕ) → IsBytes bytes → del_at bytes ≡ Some x → Takes (1 ∷ bytes) (write_bytes x.0) x.1
unfolding del_at
del_takes bytes x fits e =
    let a = bind_some (byte_at bytes) (λ n. as_table n.0 >>= λ table. key_at n.1 >>= λ key. Some (record { table = table; key = key.0; put = None }, key.1)) x e in
    let t = bind_some (as_table a.0.0) (λ table. key_at a.0.1 >>= λ key. Some (record { table = table; key = key.0; put = None }, key.1)) x a.2 in
    let b = bind_some (key_at a.0.1) (λ key. Some (record { table = t.0; key = key.0; put = None }, key.1)) x t.2 in
    let first : Takes bytes (t.0 ∷ []) a.0.1 = subst (λ k. Takes bytes (k ∷ []) a.0.1) (table_is a.0.0 t.0 t.1) (byte_takes bytes a.0 fits a.1) in
    let second = key_takes a.0.1 b.0 first.rest_fits b.1 in
    let all : Takes bytes (t.0 ∷ length b.0.0 ∷ b.0.0 ++ []) b.0.1 =
    subst (λ (l : List ℕ). Takes bytes (t.0 ∷ length b.0.0 ∷ l) b.0.1) (sym (append-nil b.0.0)) (Takes-then bytes (t.0 ∷ []) a.0.1 (length b.0.0 ∷ b.0.0) b.0.1 first second) in
    let made : Write × List ℕ = (record { table = t.0; key = b.0.0; put = None }, b.0.1) in
    as_made (λ (y : Write × List ℕ). Takes (1 ∷ bytes) (write_bytes y.0) y.1) made x b.2 (more_before 1 bytes (t.0 ∷ length b.0.0 ∷ b.0.0 ++ []) b.0.1 all)

write_takes : (bytes : List ℕ) (x : Write × List ℕ) → IsBytes bytes → write_at bytes ≡ Some x → Takes bytes (write_bytes x.0) x.1
unfolding write_at
write_takes [] x fits e = absurd cc
write_takes (zero ∷ bytes) x fits e = put_takes bytes x (IsBytes-rest 0 bytes fits) e
write_takes (suc zero ∷ bytes) x fits e = del_takes bytes x (IsBytes-rest 1 bytes fits) e
write_takes (suc (suc b) ∷ bytes) x fits e = absurd cc

put_again : (table : ℕ) (key value rest : List ℕ) → table < 64 → IsKey key → IsValue value
    → put_at (table ∷ length key ∷ key ++ (to_be_bytes w16 (length value) ++ (value ++ rest))) ≡ Some (record { table = table; key = key; put = Some value }, rest)
unfolding put_at
put_again table key value rest low is fits =
    rw (table_again table low, key_again key (to_be_bytes w16 (length value) ++ (value ++ rest)) is, value_again value rest fits) refl

del_again : (table : ℕ) (key rest : List ℕ) → table < 64 → IsKey key → del_at (table ∷ length key ∷ key ++ rest) ≡ Some (record { table = table; key = key; put = None }, rest)
unfolding del_at
del_again table key rest low is = rw (table_again table low, key_again key rest is) refl

write_by : (table : ℕ) (key : List ℕ) (put : Option (List ℕ)) (rest : List ℕ) → table < 64 → IsKey key → IsPut put
    → write_at (write_bytes (record { table = table; key = key; put = put }) ++ rest) ≡ Some (record { table = table; key = key; put = put }, rest)
unfolding write_at
write_by table key None rest low is fits =
    let regrouped : (key ++ []) ++ rest ≡ key ++ rest = ap (λ (l : List ℕ). l ++ rest) (append-nil key) in
    ap (λ l. del_at (table ∷ length key ∷ l)) regrouped ∙ del_again table key rest low is
write_by table key (Some value) rest low is fits =
    let regrouped : (key ++ (to_be_bytes w16 (length value) ++ value)) ++ rest ≡ key ++ (to_be_bytes w16 (length value) ++ (value ++ rest)) =
    append_assoc key (to_be_bytes w16 (length value) ++ value) rest ∙ ap (λ (l : List ℕ). key ++ l) (append_assoc (to_be_bytes w16 (length value)) value rest) in
    ap (λ l. put_at (table ∷ length key ∷ l)) regrouped ∙ put_again table key value rest low is fits

write_again : (w : Write) (rest : List ℕ) → IsWithin w → write_at (write_bytes w ++ rest) ≡ Some (w, rest)
write_again w rest is = write_by w.table w.key w.put rest is.table is.key is.put

writes_take : (bytes : List ℕ) (x : List Write × List ℕ) → IsBytes bytes → writes_at bytes ≡ Some x → Takes bytes (writes_bytes x.0) x.1
unfolding writes_at
writes_take bytes x fits e =
    let a = bind_some (number_at w32 bytes) (λ n. items_at write_at n.0 n.1) x e in
    let first = number_takes w32 (2 ^ 32) wide32 bytes a.0 fits a.1 in
    let second = items_take write_at write_bytes write_takes a.0.0 a.0.1 x first.rest_fits a.2 in
    let both = Takes-then bytes (to_be_bytes w32 a.0.0) a.0.1 (flat_map write_bytes x.0) x.1 first second.0 in
    subst (λ k. Takes bytes (to_be_bytes w32 k ++ flat_map write_bytes x.0) x.1) (sym second.1) both

writes_again : (ws : List Write) (rest : List ℕ) → AreWithin ws → writes_at (writes_bytes ws ++ rest) ≡ Some (ws, rest)
unfolding writes_at
writes_again ws rest are =
    let regrouped : writes_bytes ws ++ rest ≡ to_be_bytes w32 (length ws) ++ (flat_map write_bytes ws ++ rest) = append_assoc (to_be_bytes w32 (length ws)) (flat_map write_bytes ws) rest in
    ap writes_at regrouped ∙ rw (number_again w32 (2 ^ 32) wide32 (length ws) (flat_map write_bytes ws ++ rest) (omega (arith, are.count))) (items_again write_at write_bytes IsWithin write_again ws rest are.each)

-- ---- events

slot_takes : (bytes : List ℕ) (x : LogEvent × List ℕ) → IsBytes bytes → slot_at bytes ≡ Some x → Takes (1 ∷ bytes) (event_bytes x.0) x.1
unfolding slot_at
slot_takes bytes x fits e =
    let a = bind_some (number_at w64 bytes) (λ n. as_tx n.0 >>= λ tx. Some (SlotEvent tx, n.1)) x e in
    let t = bind_some (as_tx a.0.0) (λ tx. Some (SlotEvent tx, a.0.1)) x a.2 in
    let first : Takes bytes (to_be_bytes w64 t.0) a.0.1 = subst (λ k. Takes bytes (to_be_bytes w64 k) a.0.1) (tx_is a.0.0 t.0 t.1) (number_takes w64 (2 ^ 64) wide64 bytes a.0 fits a.1) in
    let made : LogEvent × List ℕ = (SlotEvent t.0, a.0.1) in
    as_made (λ (y : LogEvent × List ℕ). Takes (1 ∷ bytes) (event_bytes y.0) y.1) made x t.2 (more_before 1 bytes (to_be_bytes w64 t.0) a.0.1 first)

short_takes : (bytes : List ℕ) (x : LogEvent × List ℕ) → IsBytes bytes → short_at bytes ≡ Some x → Takes (2 ∷ bytes) (event_bytes x.0) x.1
unfolding short_at
short_takes bytes x fits e =
    let a = bind_some (number_at w64 bytes) (λ n. as_tx n.0 >>= λ tx. number_at w32 n.1 >>= λ epoch. writes_at epoch.1 >>= λ writes. Some (ShortEvent tx epoch.0 writes.0, writes.1)) x e in
    let t = bind_some (as_tx a.0.0) (λ tx. number_at w32 a.0.1 >>= λ epoch. writes_at epoch.1 >>= λ writes. Some (ShortEvent tx epoch.0 writes.0, writes.1)) x a.2 in
    let b = bind_some (number_at w32 a.0.1) (λ epoch. writes_at epoch.1 >>= λ writes. Some (ShortEvent t.0 epoch.0 writes.0, writes.1)) x t.2 in
    let v = bind_some (writes_at b.0.1) (λ writes. Some (ShortEvent t.0 b.0.0 writes.0, writes.1)) x b.2 in
    let first : Takes bytes (to_be_bytes w64 t.0) a.0.1 = subst (λ k. Takes bytes (to_be_bytes w64 k) a.0.1) (tx_is a.0.0 t.0 t.1) (number_takes w64 (2 ^ 64) wide64 bytes a.0 fits a.1) in
    let second = number_takes w32 (2 ^ 32) wide32 a.0.1 b.0 first.rest_fits b.1 in
    let third = writes_take b.0.1 v.0 second.rest_fits v.1 in
    let later = Takes-then a.0.1 (to_be_bytes w32 b.0.0) b.0.1 (writes_bytes v.0.0) v.0.1 second third in
    let all = Takes-then bytes (to_be_bytes w64 t.0) a.0.1 (to_be_bytes w32 b.0.0 ++ writes_bytes v.0.0) v.0.1 first later in
    let made : LogEvent × List ℕ = (ShortEvent t.0 b.0.0 v.0.0, v.0.1) in
    as_made (λ (y : LogEvent × List ℕ). Takes (2 ∷ bytes) (event_bytes y.0) y.1) made x v.2
    (more_before 2 bytes (to_be_bytes w64 t.0 ++ (to_be_bytes w32 b.0.0 ++ writes_bytes v.0.0)) v.0.1 all)

target_takes : (bytes : List ℕ) (x : Option ℕ × List ℕ) → IsBytes bytes → target_at bytes ≡ Some x → Takes bytes (target_bytes x.0) x.1
unfolding target_at
target_takes [] x fits e = absurd cc
target_takes (zero ∷ bytes) x fits e =
    let made : Option ℕ × List ℕ = (None, bytes) in
    as_made (λ (y : Option ℕ × List ℕ). Takes (0 ∷ bytes) (target_bytes y.0) y.1) made x e (record { parts = refl; rest_fits = IsBytes-rest 0 bytes fits })
target_takes (suc zero ∷ bytes) x fits e =
    let a = bind_some (number_at w64 bytes) (λ n. as_tx n.0 >>= λ tx. Some (Some tx, n.1)) x e in
    let t = bind_some (as_tx a.0.0) (λ tx. Some (Some tx, a.0.1)) x a.2 in
    let first : Takes bytes (to_be_bytes w64 t.0) a.0.1 =
    subst (λ k. Takes bytes (to_be_bytes w64 k) a.0.1) (tx_is a.0.0 t.0 t.1) (number_takes w64 (2 ^ 64) wide64 bytes a.0 (IsBytes-rest 1 bytes fits) a.1) in
    let made : Option ℕ × List ℕ = (Some t.0, a.0.1) in
    as_made (λ (y : Option ℕ × List ℕ). Takes (1 ∷ bytes) (target_bytes y.0) y.1) made x t.2 (more_before 1 bytes (to_be_bytes w64 t.0) a.0.1 first)
target_takes (suc (suc b) ∷ bytes) x fits e = absurd cc

batch_takes : (bytes : List ℕ) (x : LogEvent × List ℕ) → IsBytes bytes → batch_at bytes ≡ Some x → Takes (3 ∷ bytes) (event_bytes x.0) x.1
unfolding batch_at
batch_takes bytes x fits e =
    let a = bind_some (number_at w64 bytes) (λ n. as_tx n.0 >>= λ tx. number_at w32 n.1 >>= λ epoch. target_at epoch.1 >>= λ target. writes_at target.1 >>= λ writes. Some (BatchEvent tx epoch.0 target.0 writes.0, writes.1)) x e in
    let t = bind_some (as_tx a.0.0) (λ tx. number_at w32 a.0.1 >>= λ epoch. target_at epoch.1 >>= λ target. writes_at target.1 >>= λ writes. Some (BatchEvent tx epoch.0 target.0 writes.0, writes.1)) x a.2 in
    let b = bind_some (number_at w32 a.0.1) (λ epoch. target_at epoch.1 >>= λ target. writes_at target.1 >>= λ writes. Some (BatchEvent t.0 epoch.0 target.0 writes.0, writes.1)) x t.2 in
    let p = bind_some (target_at b.0.1) (λ target. writes_at target.1 >>= λ writes. Some (BatchEvent t.0 b.0.0 target.0 writes.0, writes.1)) x b.2 in
    let v = bind_some (writes_at p.0.1) (λ writes. Some (BatchEvent t.0 b.0.0 p.0.0 writes.0, writes.1)) x p.2 in
    let first : Takes bytes (to_be_bytes w64 t.0) a.0.1 = subst (λ k. Takes bytes (to_be_bytes w64 k) a.0.1) (tx_is a.0.0 t.0 t.1) (number_takes w64 (2 ^ 64) wide64 bytes a.0 fits a.1) in
    let second = number_takes w32 (2 ^ 32) wide32 a.0.1 b.0 first.rest_fits b.1 in
    let third = target_takes b.0.1 p.0 second.rest_fits p.1 in
    let fourth = writes_take p.0.1 v.0 third.rest_fits v.1 in
    let last = Takes-then b.0.1 (target_bytes p.0.0) p.0.1 (writes_bytes v.0.0) v.0.1 third fourth in
    let later = Takes-then a.0.1 (to_be_bytes w32 b.0.0) b.0.1 (target_bytes p.0.0 ++ writes_bytes v.0.0) v.0.1 second last in
    let all = Takes-then bytes (to_be_bytes w64 t.0) a.0.1 (to_be_bytes w32 b.0.0 ++ (target_bytes p.0.0 ++ writes_bytes v.0.0)) v.0.1 first later in
    let made : LogEvent × List ℕ = (BatchEvent t.0 b.0.0 p.0.0 v.0.0, v.0.1) in
    as_made (λ (y : LogEvent × List ℕ). Takes (3 ∷ bytes) (event_bytes y.0) y.1) made x v.2
    (more_before 3 bytes (to_be_bytes w64 t.0 ++ (to_be_bytes w32 b.0.0 ++ (target_bytes p.0.0 ++ writes_bytes v.0.0))) v.0.1 all)

event_takes : (bytes : List ℕ) (x : LogEvent × List ℕ) → IsBytes bytes → event_at bytes ≡ Some x → Takes bytes (event_bytes x.0) x.1
unfolding event_at
event_takes [] x fits e = absurd cc
event_takes (zero ∷ bytes) x fits e = absurd cc
event_takes (suc zero ∷ bytes) x fits e = slot_takes bytes x (IsBytes-rest 1 bytes fits) e
event_takes (suc (suc zero) ∷ bytes) x fits e = short_takes bytes x (IsBytes-rest 2 bytes fits) e
event_takes (suc (suc (suc zero)) ∷ bytes) x fits e = batch_takes bytes x (IsBytes-rest 3 bytes fits) e
event_takes (suc (suc (suc (suc b))) ∷ bytes) x fits e = absurd cc

slot_again : (n : ℕ) (rest : List ℕ) → IsTx n → slot_at (to_be_bytes w64 n ++ rest) ≡ Some (SlotEvent n, rest)
unfolding slot_at
slot_again n rest tx = rw (number_again w64 (2 ^ 64) wide64 n rest (omega (arith, tx.1)), tx_again n tx) refl

short_again : (n epoch : ℕ) (writes : List Write) (rest : List ℕ) → IsTx n → epoch < 2 ^ 32 → AreWithin writes
    → short_at (to_be_bytes w64 n ++ (to_be_bytes w32 epoch ++ (writes_bytes writes ++ rest))) ≡ Some (ShortEvent n epoch writes, rest)
unfolding short_at
short_again n epoch writes rest tx low are =
    rw (
      number_again w64 (2 ^ 64) wide64 n (to_be_bytes w32 epoch ++ (writes_bytes writes ++ rest)) (omega (arith, tx.1)),
      tx_again n tx,
      number_again w32 (2 ^ 32) wide32 epoch (writes_bytes writes ++ rest) low,
      writes_again writes rest are,
    ) refl

target_again : (target : Option ℕ) (rest : List ℕ) → IsTarget target → target_at (target_bytes target ++ rest) ≡ Some (target, rest)
unfolding target_at
target_again None rest is = refl
target_again (Some n) rest is = rw (number_again w64 (2 ^ 64) wide64 n rest (omega (arith, is.1)), tx_again n is) refl

batch_again : (n epoch : ℕ) (target : Option ℕ) (writes : List Write) (rest : List ℕ) → IsTx n → epoch < 2 ^ 32 → IsTarget target → AreWithin writes
    → batch_at (to_be_bytes w64 n ++ (to_be_bytes w32 epoch ++ (target_bytes target ++ (writes_bytes writes ++ rest)))) ≡ Some (BatchEvent n epoch target writes, rest)
unfolding batch_at
batch_again n epoch target writes rest tx low is are =
    rw (
      number_again w64 (2 ^ 64) wide64 n (to_be_bytes w32 epoch ++ (target_bytes target ++ (writes_bytes writes ++ rest))) (omega (arith, tx.1)),
      tx_again n tx,
      number_again w32 (2 ^ 32) wide32 epoch (target_bytes target ++ (writes_bytes writes ++ rest)) low,
      target_again target (writes_bytes writes ++ rest) is,
      writes_again writes rest are,
    ) refl

event_again : (e : LogEvent) (rest : List ℕ) → IsEvent e → event_at (event_bytes e ++ rest) ≡ Some (e, rest)
unfolding event_at
event_again (SlotEvent n) rest is = slot_again n rest is
event_again (ShortEvent n epoch writes) rest is =
    let regrouped : (to_be_bytes w64 n ++ (to_be_bytes w32 epoch ++ writes_bytes writes)) ++ rest ≡ to_be_bytes w64 n ++ (to_be_bytes w32 epoch ++ (writes_bytes writes ++ rest)) =
    append_assoc (to_be_bytes w64 n) (to_be_bytes w32 epoch ++ writes_bytes writes) rest ∙ ap (λ (l : List ℕ). to_be_bytes w64 n ++ l) (append_assoc (to_be_bytes w32 epoch) (writes_bytes writes) rest) in
    ap short_at regrouped ∙ short_again n epoch writes rest is.0 (omega (arith, is.1.1)) is.2
event_again (BatchEvent n epoch target writes) rest is =
    let regrouped : (to_be_bytes w64 n ++ (to_be_bytes w32 epoch ++ (target_bytes target ++ writes_bytes writes))) ++ rest ≡ to_be_bytes w64 n ++ (to_be_bytes w32 epoch ++ (target_bytes target ++ (writes_bytes writes ++ rest))) =
    append_assoc (to_be_bytes w64 n) (to_be_bytes w32 epoch ++ (target_bytes target ++ writes_bytes writes)) rest
    ∙ ap (λ (l : List ℕ). to_be_bytes w64 n ++ l) (append_assoc (to_be_bytes w32 epoch) (target_bytes target ++ writes_bytes writes) rest ∙ ap (λ (l : List ℕ). to_be_bytes w32 epoch ++ l) (append_assoc (target_bytes target) (writes_bytes writes) rest)) in
    ap batch_at regrouped ∙ batch_again n epoch target writes rest is.0 (omega (arith, is.1.1)) is.2 is.3

-- ---- bodies

-- all that was taken, with nothing behind it
body_spelled : (bytes : List ℕ) (epoch count : ℕ) (es : List LogEvent) (rest : List ℕ) → Takes bytes (to_be_bytes w32 epoch ++ (to_be_bytes w64 count ++ flat_map event_bytes es)) rest
    → length es ≡ count → rest ≡ [] → bytes ≡ body_bytes (record { epoch = epoch; events = es })
unfolding body_bytes
body_spelled bytes epoch count es rest taken counted nothing =
    let text : bytes ≡ to_be_bytes w32 epoch ++ (to_be_bytes w64 count ++ flat_map event_bytes es) =
    taken.parts ∙ ap (λ (l : List ℕ). (to_be_bytes w32 epoch ++ (to_be_bytes w64 count ++ flat_map event_bytes es)) ++ l) nothing
    ∙ append-nil (to_be_bytes w32 epoch ++ (to_be_bytes w64 count ++ flat_map event_bytes es)) in
    text ∙ ap (λ k. to_be_bytes w32 epoch ++ (to_be_bytes w64 k ++ flat_map event_bytes es)) (sym counted)

pub body_is : (bytes : List ℕ) (f : Frame) → IsBytes bytes → body_at bytes ≡ Some f → bytes ≡ body_bytes f
unfolding body_at body_bytes
body_is bytes f fits e =
    let a = bind_some (number_at w32 bytes) (λ epoch. number_at w64 epoch.1 >>= λ count. items_at event_at count.0 count.1 >>= λ events. cond (eqb (length events.1) 0) (Some (record { epoch = epoch.0; events = events.0 })) None) f e in
    let b = bind_some (number_at w64 a.0.1) (λ count. items_at event_at count.0 count.1 >>= λ events. cond (eqb (length events.1) 0) (Some (record { epoch = a.0.0; events = events.0 })) None) f a.2 in
    let v = bind_some (items_at event_at b.0.0 b.0.1) (λ events. cond (eqb (length events.1) 0) (Some (record { epoch = a.0.0; events = events.0 })) None) f b.2 in
    let made : Frame = record { epoch = a.0.0; events = v.0.0 } in
    let g = passed (eqb (length v.0.1) 0) made f v.2 in
    let first = number_takes w32 (2 ^ 32) wide32 bytes a.0 fits a.1 in
    let second = number_takes w64 (2 ^ 64) wide64 a.0.1 b.0 first.rest_fits b.1 in
    let third = items_take event_at event_bytes event_takes b.0.0 b.0.1 v.0 second.rest_fits v.1 in
    let later = Takes-then a.0.1 (to_be_bytes w64 b.0.0) b.0.1 (flat_map event_bytes v.0.0) v.0.1 second third.0 in
    let all = Takes-then bytes (to_be_bytes w32 a.0.0) a.0.1 (to_be_bytes w64 b.0.0 ++ flat_map event_bytes v.0.0) v.0.1 first later in
    as_same (λ h. bytes ≡ body_bytes h) made f g.1 (body_spelled bytes a.0.0 b.0.0 v.0.0 v.0.1 all third.1 (nil_from_length v.0.1 (eqb-true (length v.0.1) 0 g.0)))

body_again : (f : Frame) → IsFrame f → body_at (body_bytes f) ≡ Some f
unfolding body_at body_bytes
body_again f is =
    let events : items_at event_at (length f.events) (flat_map event_bytes f.events) ≡ Some (f.events, []) =
    ap (items_at event_at (length f.events)) (sym (append-nil (flat_map event_bytes f.events))) ∙ items_again event_at event_bytes IsEvent event_again f.events [] is.events in
    rw (
      number_again w32 (2 ^ 32) wide32 f.epoch (to_be_bytes w64 (length f.events) ++ flat_map event_bytes f.events) (omega (arith, is.epoch.1)),
      number_again w64 (2 ^ 64) wide64 (length f.events) (flat_map event_bytes f.events) is.count,
      events,
    ) refl

-- the body of a frame is read
pub spelled : (body : List ℕ) (f : Frame) → Spells body f → body_at body ≡ Some f
spelled body f spells = ap body_at spells.bytes ∙ body_again f spells.frame

-- no frame has bytes that give none
pub none_spelled : (body : List ℕ) → body_at body ≡ None → (f : Frame) → Spells body f → ⊥
none_spelled body none f spells = let e : given_none ≡ Some f = sym none ∙ spelled body f spells in absurd cc where
  given_none : Option Frame
  given_none = None

-- nor have bytes that give what no frame may hold
pub none_within : (body : List ℕ) (made : Frame) → body_at body ≡ Some made → (IsFrame made → ⊥) → (f : Frame) → Spells body f → ⊥
none_within body made read out f spells = out (subst IsFrame (some_is f made (sym (spelled body f spells) ∙ read)) spells.frame)

-- a frame is made of what was read, or not
pub made_none : {E : Type 0} (body : List ℕ) (made : Frame) (r : Result Frame E) (found : Option Frame) → body_at body ≡ Some made → (IsFrame made → IsOk r) → found ≡ result_ok r
    → IfNone found ((f : Frame) → Spells body f → ⊥)
made_none body made (Ok f) found read within is = subst (λ o. IfNone o ((g : Frame) → Spells body g → ⊥)) (sym is) tt
made_none body made (Err e) found read within is =
    let out : IsFrame made → ⊥ = λ h. let no = within h in absurd cc in
    subst (λ o. IfNone o ((g : Frame) → Spells body g → ⊥)) (sym is) (none_within body made read out)

pub made_again : {E : Type 0} (body : List ℕ) (made : Frame) (r : Result Frame E) (found : Option Frame) → body_at body ≡ Some made → (IsFrame made → IsOk r) → IfOk r (λ f. f ≡ made)
    → found ≡ result_ok r → (f : Frame) → Spells body f → found ≡ Some f
made_again body made (Ok g) found read within value is f spells = is ∙ ap Some (value ∙ some_is made f (sym read ∙ spelled body f spells))
made_again body made (Err e) found read within value is f spells =
    let no = within (subst IsFrame (some_is f made (sym (spelled body f spells) ∙ read)) spells.frame) in absurd cc

-- no two frames have one body
pub bodies_differ : (f g : Frame) → IsFrame f → IsFrame g → body_bytes f ≡ body_bytes g → f ≡ g
bodies_differ f g is other same = some_is f g (sym (body_again f is) ∙ ap body_at same ∙ body_again g other)
