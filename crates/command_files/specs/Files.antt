-- What comes of reading and writing files. Nothing can be said of what files hold and of what standard output takes.
use Rattle.std.specs.Prelude.{◌≡◌, ◌⊎◌, Result, Err}
use Rattle.std.specs.declared.io.ErrorKind.{ErrorKind}
use Rattle.std.specs.declared.io.ErrorKind.TheVariants.{OutOfMemory}
use Rattle.job_texts.specs.declared.fault.JobFault.{JobFault}
use Rattle.job_texts.specs.declared.fault.JobFault.TheVariants.{Read, Write, Memory}

-- the fault of a file that was not read
abbrev pub read_fault : ErrorKind → JobFault
read_fault OutOfMemory = Memory
read_fault _ = Read

-- the fault of a file that was not written
abbrev pub write_fault : ErrorKind → JobFault
write_fault OutOfMemory = Memory
write_fault _ = Write

-- a file was not read
abbrev pub CannotRead : Result (Unit {0}) JobFault → Type 0
CannotRead result = (result ≡ Err Read) ⊎ (result ≡ Err Memory)
