-- What of an operation looked a key up: a get of the key, or a scan of a range that holds it.
use Rattle.std.specs.Prelude.{ℕ, Bool, true, false, not, ◌&&◌, ◌==◌, List, Option, Some, None, if◌then◌else◌}
use Rattle.std.specs.List.{list_any}
use Rattle.std.specs.Ordering.{is_eq}
use Rattle.ltx_model.specs.declared.looked.Noted.{Noted}
use Rattle.ltx_model.specs.declared.looked.Reach.{Reach}
use Rattle.ltx_model.specs.declared.looked.Reach.TheVariants.{Nothing, Point, Range}
use Rattle.ltx_model.specs.Keys.{Cell, key_cmp, in_range}
use Rattle.ltx_model.specs.Notes.{is_one_of}
use Rattle.ltx_reads.specs.Stamped.{Stamped}

-- a get of the key, which the transaction had not written before
abbrev pub gets : Reach → List ℕ → Bool
gets Nothing k = false
gets (Point key look own) k = not own && is_eq (key_cmp key k)
gets (Range low high looks own) k = false

-- a scan of a range that holds the key, which the transaction had not written before
abbrev pub spans : Reach → List ℕ → Bool
spans Nothing k = false
spans (Point key look own) k = false
spans (Range low high looks own) k = in_range low high k && not (is_one_of own k)

-- a scan
abbrev pub is_scan : Reach → Bool
is_scan Nothing = false
is_scan (Point key look own) = false
is_scan (Range low high looks own) = true

abbrev pub note_gets : Cell → Noted → Bool
note_gets cell note = (note.table == cell.table) && gets note.reach cell.key

abbrev pub note_spans : Cell → Noted → Bool
note_spans cell note = (note.table == cell.table) && spans note.reach cell.key

-- a scan of the key's table
abbrev pub note_scans : Cell → Noted → Bool
note_scans cell note = (note.table == cell.table) && is_scan note.reach

-- the commit's transaction got the key
abbrev pub got : Cell → Stamped → Bool
got cell e = list_any (note_gets cell) e.commit.notes

-- it scanned a range that holds the key
abbrev pub spanned : Cell → Stamped → Bool
spanned cell e = list_any (note_spans cell) e.commit.notes

-- it scanned in the key's table
abbrev pub scanned : Cell → Stamped → Bool
scanned cell e = list_any (note_scans cell) e.commit.notes

-- the commit, where it is one that scanned such a range
abbrev pub if_spanned : Cell → Option Stamped → Option Stamped
if_spanned cell None = None
if_spanned cell (Some e) = if spanned cell e then Some e else None
