-- What frames give is within the bounds of what a run starts from, and an error says which event is the first that is not lawful.
use Rattle.std.proofs.Common.{◌≡◌, ℕ, ◌≤◌, List, [], sym, subst}
use Rattle.ltx_model.specs.declared.rows.StoredRow.{StoredRow}
use Rattle.ltx_model.specs.Keys.{IsRising}
use Rattle.ltx_model.specs.Limits.{last_number, last_durable}
use Rattle.ltx_model.specs.StoredRows.{cell_of}
use Rattle.ltx_model.specs.Restored.{Restored, IsRestored, AreWrittenUpTo}
use Rattle.ltx_model.specs.Frames.{LogEvent, Frame}
use Rattle.ltx_model.specs.Logs.{events_in}
use Rattle.ltx_model.specs.Contents as contents
use Rattle.ltx_model.specs.Contents.{epoch_after}
use Rattle.ltx_model.specs.Played.{Played, played_list, rows_after_played}
use Rattle.ltx_model.specs.Recovery.{greatest_number, recovered}
use Rattle.ltx_recover.specs.declared.fault.RecoverFault.{RecoverFault}
use Rattle.ltx_recover.specs.declared.fault.RecoverFault.TheVariants as faults
use Rattle.ltx_recover.specs.Frames.{IsBaseOf, IsCause, IsAtFirst}
use Rattle.ltx_recover.specs.Stamps.{stamped_all}
use Rattle.ltx_recover.proofs.Stamps.{played_stamped, rising_with_all}
use Rattle.ltx_recover.proofs.Bounds.{rows_written}
use Rattle.ltx_recover.proofs.Unlawful.{first_when_some}

rows_rise : (ps : List Played) → IsRising cell_of (rows_after_played [] ps)
rows_rise ps = subst (IsRising cell_of) (played_stamped [] ps) (rising_with_all [] (stamped_all ps) tt)

pub is_restored : (rows : List StoredRow) (epoch last : ℕ) (es : List LogEvent) → rows ≡ rows_after_played [] (played_list es) → last ≡ greatest_number es → epoch ≤ last_durable → last ≤ last_number → IsRestored (record { rows = rows; epoch = epoch; last = last })
is_restored rows epoch last es rows_are last_is epoch_within last_within = record {
  rising = subst (IsRising cell_of) (sym rows_are) (rows_rise (played_list es));
  writers = subst (λ l. AreWrittenUpTo last l) (sym rows_are) (subst (λ n. AreWrittenUpTo n (rows_after_played [] (played_list es))) (sym last_is) (rows_written es));
  epoch = epoch_within;
  last = last_within;
}

pub is_base : (r : Restored) (fs : List Frame) (gate : ℕ) → r.rows ≡ rows_after_played [] (played_list (events_in fs)) → r.epoch ≡ epoch_after 0 fs → r.last ≡ greatest_number (events_in fs) → IsBaseOf r (recovered fs gate)
unfolding recovered
is_base r fs gate rows epoch last = record { rows = rows; epoch = epoch; last = last }

pub cause_first : (fs : List contents.Placed) (e : RecoverFault) → IsCause fs e → IsAtFirst fs e
cause_first fs (faults.Damaged at event) h = first_when_some fs (record { at = at; event = event }) h
cause_first fs faults.NoMemory h = tt
