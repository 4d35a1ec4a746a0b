-- How a run ends, and the number of each ending.
use Rattle.std.specs.Prelude.{◌≡◌, ℕ, ◌≤◌, ◌<◌, Bool, true, false, IfSome, Result, Ok, Err}
use Rattle.ltx_model.specs.States.{Base}
use Rattle.ltx_outside.specs.Faults.{Rose}
use Rattle.ltx_top.specs.declared.status.Stop.{Stop}
use Rattle.ltx_top.specs.declared.status.Stop.TheVariants as stops
use Rattle.ltx_top.specs.Runs.{Devices, most_of_script, took, Stopped, Cut}

-- what holds where a run over a base stopped before its end
abbrev pub Stops : Stop → Base → Devices → Devices → Type 0
Stops stops.NoMemory base old new = Stopped base old new × (took old.left new.left ≤ most_of_script)
Stops stops.Source base old new = Cut base old new × (took old.left new.left ≤ most_of_script)
Stops stops.Sink base old new = Stopped base old new × (took old.left new.left ≤ most_of_script)
Stops stops.TooMuch base old new = Cut base old new × IfSome old.left (λ bytes. most_of_script < took old.left new.left)

-- Which counts of faults changed where a run stopped, the source's from s to s' and the sink's from k to k': that of the device
-- that stopped it. At want of memory the text in hand is handed to the sink, which may fail.
abbrev pub RoseAt : Stop → ℕ → ℕ → ℕ → ℕ → Type 0
RoseAt stops.NoMemory s s' k k' = s' ≡ s
RoseAt stops.Source s s' k k' = Rose s s' × (k' ≡ k)
RoseAt stops.Sink s s' k k' = (s' ≡ s) × Rose k k'
RoseAt stops.TooMuch s s' k k' = (s' ≡ s) × (k' ≡ k)

-- the number of a run that had a `bad` reply, or none, and of one that stopped
abbrev pub status_number : Result Bool Stop → ℕ
status_number (Ok false) = 0
status_number (Ok true) = 1
status_number (Err stops.NoMemory) = 3
status_number (Err stops.Source) = 4
status_number (Err stops.Sink) = 5
status_number (Err stops.TooMuch) = 9

-- how many calls of the source failed
abbrev pub failed_reads : {T : Type 0} → Result T Stop → ℕ
failed_reads (Ok x) = 0
failed_reads (Err stops.NoMemory) = 0
failed_reads (Err stops.Source) = 1
failed_reads (Err stops.Sink) = 0
failed_reads (Err stops.TooMuch) = 0
