-- Clauses on images and contents, carried from one call to the next.
use Rattle.std.proofs.Common.{◌≡◌, ℕ, List, sym, subst, Option, Some, None}
use Rattle.std.specs.Prelude.{Result, Ok, Err, OnOk, IfSome, IfNone}
use Rattle.ltx_model.specs.Disks.{Crashes, Leaves}
use Rattle.ltx_log.specs.Images.{EachSince}
use Rattle.ltx_log.proofs.Images.{leaves_on}

pub ok_map : {T E : Type 0} (result : Result T E) (P Q : Type 0) → (P → Q) → OnOk result P → OnOk result Q
ok_map (Ok v) P Q to holds = to holds
ok_map (Err e) P Q to holds = tt

pub told_map : (P Q : List ℕ → Type 0) (o : Option (List ℕ)) → ((bytes : List ℕ) → P bytes → Q bytes) → IfSome o P → IfSome o Q
told_map P Q None to holds = tt
told_map P Q (Some bytes) to holds = to bytes holds

pub told_both : (P Q R : List ℕ → Type 0) (o : Option (List ℕ)) → ((bytes : List ℕ) → P bytes → Q bytes → R bytes) → IfSome o P → IfSome o Q → IfSome o R
told_both P Q R None to first second = tt
told_both P Q R (Some bytes) to first second = to bytes first second

-- what the bytes from before say of those after a step
pub told_next : (P Q : List ℕ → Type 0) (f : List ℕ → List ℕ) (o p : Option (List ℕ)) → ((bytes : List ℕ) → P bytes → Q (f bytes)) → IfSome o P → IfSome o (λ bytes. p ≡ Some (f bytes)) → IfNone o (p ≡ None) → IfSome p Q
told_next P Q f None p to holds step untold = subst (λ q. IfSome q Q) (sym untold) tt
told_next P Q f (Some bytes) p to holds step untold = subst (λ q. IfSome q Q) (sym step) (to bytes holds)

-- what was said of the bytes in between
pub told_back : (f : List ℕ → List ℕ) (R : Type 0) (o p : Option (List ℕ)) → IfSome o (λ bytes. p ≡ Some (f bytes)) → IfSome p (λ mid. R) → IfSome o (λ bytes. R)
told_back f R None p step holds = tt
told_back f R (Some bytes) p step holds = subst (λ q. IfSome q (λ mid. R)) step holds

leaves_as : (P R : List ℕ → Type 0) (old new : Crashes) → ((image : List ℕ) → P image → R image) → Leaves P old new → Leaves R old new
leaves_as P R old new to leaves = record {
  more = leaves.more;
  past = leaves.past;
  since = λ k images below image left. to image (leaves.since k images below image left);
  now = λ image left. to image (leaves.now image left);
}

pub since_as : (P R : List ℕ → List ℕ → Type 0) (o : Option (List ℕ)) (x y : Option Crashes) → IfSome o (λ bytes. (image : List ℕ) → P bytes image → R bytes image) → EachSince P o x y → EachSince R o x y
since_as P R None x y to since = tt
since_as P R (Some bytes) None y to since = tt
since_as P R (Some bytes) (Some old) None to since = since
since_as P R (Some bytes) (Some old) (Some new) to since = leaves_as (P bytes) (R bytes) old new to since

-- two steps
pub since_on : (P Q R : List ℕ → List ℕ → Type 0) (f : List ℕ → List ℕ) (o p : Option (List ℕ)) (x y z : Option Crashes)
    → IfSome o (λ bytes. (image : List ℕ) → P bytes image → R bytes image) → IfSome o (λ bytes. (image : List ℕ) → Q (f bytes) image → R bytes image)
    → IfSome o (λ bytes. p ≡ Some (f bytes)) → EachSince P o x y → EachSince Q p y z → EachSince R o x z
since_on P Q R f None p x y z from_P from_Q step first second = tt
since_on P Q R f (Some bytes) p None y z from_P from_Q step first second = tt
since_on P Q R f (Some bytes) p (Some old) None z from_P from_Q step first second = absurd first
since_on P Q R f (Some bytes) p (Some old) (Some mid) None from_P from_Q step first second = subst (λ q. EachSince Q q (Some mid) None) step second
since_on P Q R f (Some bytes) p (Some old) (Some mid) (Some new) from_P from_Q step first second =
    leaves_on (P bytes) (Q (f bytes)) (R bytes) old mid new from_P from_Q first (subst (λ q. EachSince Q q (Some mid) (Some new)) step second)
