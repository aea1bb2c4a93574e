-- The exit status of a process whose arguments could not be read.
use Rattle.std.specs.Prelude.{ℕ}
use Rattle.std.specs.declared.io.ErrorKind.{ErrorKind}
use Rattle.std.specs.declared.io.ErrorKind.TheVariants.{OutOfMemory}

-- 5 if memory ran out, and 2 otherwise
abbrev pub status_without_words : ErrorKind → ℕ
status_without_words OutOfMemory = 5
status_without_words kind = 2
