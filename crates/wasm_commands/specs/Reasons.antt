-- Why a file can't be opened, or a device failed, in the words of the system.
use Rattle.std.specs.Prelude.{ℕ, List, codes, if◌then◌else◌}
use Rattle.std.specs.declared.io.ErrorKind.{ErrorKind}
use Rattle.std.specs.declared.io.ErrorKind.TheVariants as kind
use Rattle.wasm_commands.specs.declared.reasons.Cause.{Cause}

abbrev pub reason_of_kind : ErrorKind → List ℕ
reason_of_kind kind.NotFound = codes "No such file or directory"
reason_of_kind kind.PermissionDenied = codes "Permission denied"
reason_of_kind kind.IsADirectory = codes "Is a directory"
reason_of_kind kind.NotADirectory = codes "Not a directory"
reason_of_kind kind.AlreadyExists = codes "File exists"
reason_of_kind kind.StorageFull = codes "No space left on device"
reason_of_kind kind.QuotaExceeded = codes "Disk quota exceeded"
reason_of_kind kind.FileTooLarge = codes "File too large"
reason_of_kind kind.ReadOnlyFilesystem = codes "Read-only file system"
reason_of_kind kind.FilesystemLoop = codes "Too many levels of symbolic links"
reason_of_kind kind.InvalidFilename = codes "File name too long"
reason_of_kind kind.InvalidInput = codes "Invalid argument"
reason_of_kind kind.ResourceBusy = codes "Device or resource busy"
reason_of_kind kind.ExecutableFileBusy = codes "Text file busy"
reason_of_kind kind.BrokenPipe = codes "Broken pipe"
reason_of_kind kind.OutOfMemory = codes "Cannot allocate memory"
reason_of_kind _ = codes "Input/output error"

-- | why a file can't be opened, or a device failed, in the words of the system
abbrev pub reason_of : Cause → List ℕ
reason_of cause = if cause.is_closed then codes "Bad file descriptor" else reason_of_kind cause.kind
