-- Bytes that were taken from a source, one read after another.
use Rattle.std.proofs.Common.{◌≡◌, ℕ, ◌+◌, List, ◌++◌, length, Option, sym, subst, length-append}
use Rattle.std.specs.Io.KnownBytes.{Consumes}
use Rattle.std.proofs.KnownBytes.{Consumes-trans}
use Rattle.ltx_top.specs.declared.status.Stop.{Stop}
use Rattle.ltx_top.specs.Judged.{PassesAt}

-- bytes more were taken
pub taken_more : (a b c : Option (List ℕ)) (bytes more new : List ℕ) → Consumes a b bytes → Consumes b c more → new ≡ bytes ++ more → Consumes a c new
taken_more a b c bytes more new first second is = subst (Consumes a c) (sym is) (Consumes-trans a b c bytes more first second)

-- and the reading stopped then
pub taken_stops : (a b c : Option (List ℕ)) (bytes : List ℕ) (stop : Stop) → Consumes a b bytes → ((more : List ℕ) × Consumes b c more × PassesAt stop (length bytes + length more))
    → (whole : List ℕ) × Consumes a c whole × PassesAt stop (length whole)
taken_stops a b c bytes stop first rest =
    (bytes ++ rest.0, Consumes-trans a b c bytes rest.0 first rest.1, subst (PassesAt stop) (sym (length-append bytes rest.0)) rest.2)
