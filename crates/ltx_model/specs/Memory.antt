-- Want of memory.
use Rattle.ltx_model.specs.declared.memory.NoMemory.{NoMemory}

-- the one value that says so
abbrev pub no_memory : NoMemory
no_memory = record {}
