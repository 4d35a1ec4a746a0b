-- Clauses on a result that follow from others.
use Rattle.std.proofs.Common.{Result, Ok, Err, IfOk, OnErr}

pub if_ok : {T E : Type 0} (P Q : T → Type 0) → ((x : T) → P x → Q x) → (r : Result T E) → IfOk r P → IfOk r Q
if_ok P Q f (Ok x) p = f x p
if_ok P Q f (Err e) p = tt

pub if_both_ok : {T E : Type 0} (P Q R : T → Type 0) → ((x : T) → P x → Q x → R x) → (r : Result T E) → IfOk r P → IfOk r Q → IfOk r R
if_both_ok P Q R f (Ok x) p q = f x p q
if_both_ok P Q R f (Err e) p q = tt

pub if_three_ok : {T E : Type 0} (P Q R S : T → Type 0) → ((x : T) → P x → Q x → R x → S x) → (r : Result T E) → IfOk r P → IfOk r Q → IfOk r R → IfOk r S
if_three_ok P Q R S f (Ok x) p q s = f x p q s
if_three_ok P Q R S f (Err e) p q s = tt

pub on_err : {T E : Type 0} (P : Type 0) → P → (r : Result T E) → OnErr r P
on_err P p (Ok x) = tt
on_err P p (Err e) = p

pub on_err_so : {T E : Type 0} (P Q : Type 0) → (P → Q) → (r : Result T E) → OnErr r P → OnErr r Q
on_err_so P Q f (Ok x) p = tt
on_err_so P Q f (Err e) p = f p

-- what holds where a result is an answer, and where it is not, holds of it
pub by_result : {T E : Type 0} (P : T → Type 0) (Q R : Type 0) → ((x : T) → P x → R) → (Q → R) → (r : Result T E) → IfOk r P → OnErr r Q → R
by_result P Q R f g (Ok x) p q = f x p
by_result P Q R f g (Err e) p q = g q
