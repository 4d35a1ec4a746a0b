use Rattle.std.proofs.Common.{◌≡◌, ◌+◌, drop}
use Rattle.ltx_model.specs.Listings.{place_of}
use Rattle.ltx_agenda.proofs.flat.place.Given as goal

abbrev pub invariant-loop-place : goal.invariant-loop-place
invariant-loop-place l = place_of l.flat l.tx ≡ l.place + place_of (drop l.place l.flat) l.tx
