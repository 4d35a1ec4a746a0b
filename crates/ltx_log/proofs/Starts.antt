-- What an opening finds and leaves, where the disk may tell its bytes and its images.
use Rattle.std.proofs.Common.{◌≡◌, inl, inr, ℕ, List, [], ◌∷◌, ◌++◌, refl, sym, subst, arith, Option, Some, None}
use Rattle.std.specs.Prelude.{IfSome, IfNone}
use Rattle.ltx_model.specs.Contents.{Placed, header, IsBlank, IsLog, IsLogOf, epoch_after, frames_in}
use Rattle.ltx_model.specs.Disks.{Crashes}
use Rattle.ltx_log.specs.declared.front.Kind.{Kind}
use Rattle.ltx_log.specs.declared.front.Kind.TheVariants as kinds
use Rattle.ltx_log.specs.declared.make.Lack.{Lack}
use Rattle.ltx_log.specs.Images.{IsStill, EachSince}
use Rattle.ltx_log.specs.Making.{IsFresh, Lacks}
use Rattle.ltx_log.specs.Readings.{IsKind, IsFront}
use Rattle.ltx_log.specs.Running.{IsLogTo, OpensTo, IsOpenedAs}
use Rattle.ltx_log.proofs.Moments.{told_map, told_both, since_as, since_on}
use Rattle.ltx_log.proofs.Exits.{still_since}

-- ---- a log that was made

made_new : IsLogTo (1 ∷ header ++ 0 ∷ []) [] 17 0
made_new = record {
  log = record {
    log = record { long = omega arith; open_gate = refl; header_is = refl };
    frames_are = refl;
    closed = λ one. absurd (omega (arith, one));
  };
  last_is = refl;
}

made_told : (o p : Option (List ℕ)) → IfSome o (λ bytes. p ≡ Some (1 ∷ header ++ 0 ∷ [])) → IfNone o (p ≡ None) → IfSome p (λ bytes. IsLogTo bytes [] 17 0)
made_told None p made untold = subst (λ q. IfSome q (λ bytes. IsLogTo bytes [] 17 0)) (sym untold) tt
made_told (Some bytes) p made untold = subst (λ q. IfSome q (λ bytes. IsLogTo bytes [] 17 0)) (sym made) made_new

pub made_log : (o p : Option (List ℕ)) (frames : List Placed) (gate epoch : ℕ) → frames ≡ [] → gate ≡ 17 → epoch ≡ 0 → IfSome o (λ bytes. p ≡ Some (1 ∷ header ++ 0 ∷ [])) → IfNone o (p ≡ None)
    → IfSome p (λ bytes. IsLogTo bytes frames gate epoch)
made_log o p frames gate epoch none at zero made untold =
    subst (λ fs. IfSome p (λ bytes. IsLogTo bytes fs gate epoch)) (sym none)
    (subst (λ (k : ℕ). IfSome p (λ bytes. IsLogTo bytes [] k epoch)) (sym at)
    (subst (λ (e : ℕ). IfSome p (λ bytes. IsLogTo bytes [] 17 e)) (sym zero) (made_told o p made untold)))

-- ---- what the front says

module _ (size : ℕ) (front : List ℕ) where
  abbrev Fronts : List ℕ → Type 0
  Fronts bytes = IsFront bytes size front

  pub front_blank : (o : Option (List ℕ)) (kind : Kind) → kind ≡ kinds.Blank → ((bytes : List ℕ) → IsFront bytes size front → IsKind bytes kind) → IfSome o (λ bytes. IsFront bytes size front) → IfSome o IsBlank
  front_blank o kind is kind_is fronts = told_map Fronts IsBlank o (λ bytes at. subst (IsKind bytes) is (kind_is bytes at)) fronts

  pub front_log : (o : Option (List ℕ)) (kind : Kind) → kind ≡ kinds.Log → ((bytes : List ℕ) → IsFront bytes size front → IsKind bytes kind) → IfSome o (λ bytes. IsFront bytes size front) → IfSome o IsLog
  front_log o kind is kind_is fronts = told_map Fronts IsLog o (λ bytes at. subst (IsKind bytes) is (kind_is bytes at)) fronts

  pub front_lacks : (o : Option (List ℕ)) (lack : Lack) → ((bytes : List ℕ) → IsFront bytes size front → IsBlank bytes → Lacks bytes lack) → IfSome o (λ bytes. IsFront bytes size front) → IfSome o IsBlank → IfSome o (λ bytes. Lacks bytes lack)
  front_lacks o lack of fronts blank = told_both Fronts IsBlank (λ bytes. Lacks bytes lack) o (λ bytes at is. of bytes at is) fronts blank

-- ---- what is opened

pub opened_log : (o : Option (List ℕ)) (frames : List Placed) (gate : ℕ) → IfSome o (λ bytes. IsLogOf bytes frames gate) → IfSome o (λ bytes. IsOpenedAs bytes frames gate)
opened_log o frames gate log = told_map (λ bytes. IsLogOf bytes frames gate) (λ bytes. IsOpenedAs bytes frames gate) o (λ bytes is. inr is) log

pub log_read : (o p : Option (List ℕ)) (frames : List Placed) (gate epoch : ℕ) → p ≡ o → epoch ≡ epoch_after 0 (frames_in frames) → IfSome o (λ bytes. IsLogOf bytes frames gate) → IfSome p (λ bytes. IsLogTo bytes frames gate epoch)
log_read o p frames gate epoch same last log =
    subst (λ q. IfSome q (λ bytes. IsLogTo bytes frames gate epoch)) (sym same)
    (told_map (λ bytes. IsLogOf bytes frames gate) (λ bytes. IsLogTo bytes frames gate epoch) o (λ bytes is. record { log = is; last_is = sym last }) log)

-- ---- the images

abbrev Fresh : List ℕ → List ℕ → Type 0
Fresh bytes image = IsFresh image

abbrev Same : List ℕ → List ℕ → Type 0
Same bytes image = image ≡ bytes

abbrev To : (List ℕ → List ℕ → Type 0) → List ℕ → Type 0
To P bytes = (image : List ℕ) → P bytes image → OpensTo bytes image

pub blank_since : (o : Option (List ℕ)) (x y : Option Crashes) → IfSome o IsBlank → EachSince (λ bytes. IsFresh) o x y → EachSince OpensTo o x y
blank_since o x y blank since = since_as Fresh OpensTo o x y (told_map IsBlank (To Fresh) o (λ bytes is image fresh. inr (is, fresh)) blank) since

pub still_opens : (o : Option (List ℕ)) (x y : Option Crashes) → y ≡ x → IsStill o x → EachSince OpensTo o x y
still_opens o x y same still = subst (EachSince OpensTo o x) (sym same) (still_since OpensTo (λ bytes. inl refl) o x still)

for_all : (P : List ℕ → Type 0) → ((bytes : List ℕ) → P bytes) → (o : Option (List ℕ)) → IfSome o P
for_all P holds None = tt
for_all P holds (Some bytes) = holds bytes

is_told : (o p : Option (List ℕ)) → p ≡ o → IfSome o (λ bytes. p ≡ Some bytes)
is_told None p same = tt
is_told (Some bytes) p same = same

pub same_opens : (o : Option (List ℕ)) (x y z : Option Crashes) → z ≡ y → EachSince (λ bytes image. image ≡ bytes) o x y → EachSince OpensTo o x z
same_opens o x y z same since =
    subst (EachSince OpensTo o x) (sym same) (since_as Same OpensTo o x y (for_all (To Same) (λ bytes image is. inl is) o) since)

pub then_opens : (o p : Option (List ℕ)) (x y y' z : Option Crashes) → p ≡ o → y' ≡ y → EachSince (λ bytes image. image ≡ bytes) o x y → EachSince OpensTo p y' z → EachSince OpensTo o x z
then_opens o p x y y' z told same first second =
    since_on Same OpensTo OpensTo (λ bytes. bytes) o p x y z
    (for_all (To Same) (λ bytes image is. inl is) o) (for_all (To OpensTo) (λ bytes image opens. opens) o) (is_told o p told)
    first (subst (λ w. EachSince OpensTo p w z) same second)
