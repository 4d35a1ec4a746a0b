-- Rows that rise from each to the next one rise strictly.
use Rattle.std.proofs.Common.{◌≡◌, List, [], ◌∷◌, subst, sym}
use Rattle.std.specs.declared.cmp.Ordering.TheVariants.{Less}
use Rattle.std.specs.Cmp.Lexicographic.{nat_list_cmp_total}
use Rattle.ltx_model.specs.declared.rows.Row.{Row}
use Rattle.ltx_model.specs.Keys.{key_cmp, AreAbove, IsRising}
use Rattle.ltx_reply.specs.Texts.{key_of}

all_above : (first second : Row) (rows : List Row) → key_cmp first.key second.key ≡ Less → AreAbove key_of (key_of second) rows → AreAbove key_of (key_of first) rows
all_above first second [] less above = tt
all_above first second (row ∷ rows) less above = (nat_list_cmp_total.trans first.key second.key row.key less above.0, all_above first second rows less above.1)

pub rise_on : (rows behind more : List Row) (first second : Row) → rows ≡ first ∷ behind → behind ≡ second ∷ more → key_cmp first.key second.key ≡ Less → IsRising key_of behind → IsRising key_of rows
rise_on rows behind more first second is next less rising =
    let r : IsRising key_of (second ∷ more) = subst (λ (l : List Row). IsRising key_of l) next rising in
    subst (λ (l : List Row). IsRising key_of l) (sym is) (subst (λ (l : List Row). IsRising key_of (first ∷ l)) (sym next) ((less, all_above first second more less r.0), r))

pub rest_rises : (rows behind : List Row) (first : Row) → rows ≡ first ∷ behind → IsRising key_of rows → IsRising key_of behind
rest_rises rows behind first is rising = let r : IsRising key_of (first ∷ behind) = subst (λ (l : List Row). IsRising key_of l) is rising in r.1
