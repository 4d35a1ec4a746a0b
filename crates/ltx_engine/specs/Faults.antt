-- The faults of an opening, by those of the log and of recovery.
use Rattle.std.specs.Prelude.{Some, None}
use Rattle.ltx_log.specs.declared.fault.OpenFault.{OpenFault}
use Rattle.ltx_log.specs.declared.fault.OpenFault.TheVariants as logs
use Rattle.ltx_recover.specs.declared.fault.RecoverFault.{RecoverFault}
use Rattle.ltx_recover.specs.declared.fault.RecoverFault.TheVariants as recoveries
use Rattle.ltx_engine.specs.declared.fault.EngineOpenFault.{EngineOpenFault}
use Rattle.ltx_engine.specs.declared.fault.EngineOpenFault.TheVariants as opening

abbrev pub of_log : OpenFault → EngineOpenFault
of_log logs.NotALog = opening.NotALog
of_log (logs.Damaged at) = opening.Damaged at None
of_log logs.DiskFault = opening.DiskFault
of_log logs.NoMemory = opening.NoMemory

abbrev pub of_recovery : RecoverFault → EngineOpenFault
of_recovery (recoveries.Damaged at event) = opening.Damaged at (Some event)
of_recovery recoveries.NoMemory = opening.NoMemory
