-- Clauses on images since one moment and since a later one, joined.
use Rattle.std.proofs.Common.{◌≡◌, ℕ, List, Option, Some, None, sym, subst}
use Rattle.std.specs.Prelude.{IfNone}
use Rattle.ltx_model.specs.Disks.{Crashes}
use Rattle.ltx_log.specs.Images.{StaysTold, EachSince}
use Rattle.ltx_log.specs.Running.{EachNow}
use Rattle.ltx_log.proofs.Images.{leaves_on}

-- what is told all the way
pub told_on : (o p q : Option (List ℕ)) → StaysTold o p → StaysTold p q → StaysTold o q
told_on None p q first second = tt
told_on (Some bytes) None q first second = absurd first
told_on (Some bytes) (Some mid) None first second = second
told_on (Some bytes) (Some mid) (Some new) first second = tt

pub told_itself : (o : Option (List ℕ)) → StaysTold o o
told_itself None = tt
told_itself (Some bytes) = tt

-- each image since x has R, where those from x to y have P, those from y to z have Q, and either gives R
pub since_join : (P Q R : List ℕ → List ℕ → Type 0) (o p : Option (List ℕ)) (x y z : Option Crashes)
    → ((bytes image : List ℕ) → P bytes image → R bytes image) → ((bytes mid image : List ℕ) → Q mid image → R bytes image)
    → StaysTold o p → EachSince P o x y → EachSince Q p y z → EachSince R o x z
since_join P Q R None p x y z from_P from_Q told first second = tt
since_join P Q R (Some bytes) None x y z from_P from_Q told first second = absurd told
since_join P Q R (Some bytes) (Some mid) None y z from_P from_Q told first second = tt
since_join P Q R (Some bytes) (Some mid) (Some old) None z from_P from_Q told first second = absurd first
since_join P Q R (Some bytes) (Some mid) (Some old) (Some now) None from_P from_Q told first second = absurd second
since_join P Q R (Some bytes) (Some mid) (Some old) (Some now) (Some new) from_P from_Q told first second =
    leaves_on (P bytes) (Q mid) (R bytes) old now new (from_P bytes) (from_Q bytes mid) first second

-- each image now, by what was told before
pub now_join : (Q R : List ℕ → List ℕ → Type 0) (o p : Option (List ℕ)) (z : Option Crashes) → ((bytes mid image : List ℕ) → Q mid image → R bytes image) → StaysTold o p → EachNow Q p z → EachNow R o z
now_join Q R None p z from_Q told each = tt
now_join Q R (Some bytes) None z from_Q told each = absurd told
now_join Q R (Some bytes) (Some mid) None from_Q told each = tt
now_join Q R (Some bytes) (Some mid) (Some new) from_Q told each = λ image left. from_Q bytes mid image (each image left)

-- the images now are among those since a call began
pub since_now : (P : List ℕ → List ℕ → Type 0) (o : Option (List ℕ)) (x z : Option Crashes) → IfNone x (z ≡ None) → EachSince P o x z → EachNow P o z
since_now P None x z secret since = tt
since_now P (Some bytes) None z secret since = subst (EachNow P (Some bytes)) (sym secret) tt
since_now P (Some bytes) (Some old) None secret since = tt
since_now P (Some bytes) (Some old) (Some new) secret since = since.now
