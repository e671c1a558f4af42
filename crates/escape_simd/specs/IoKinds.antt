-- Which of std's kinds of error a refusal is.
use Rattle.std.specs.declared.io.ErrorKind.{ErrorKind}
use Rattle.std.specs.declared.io.ErrorKind.TheVariants as kind
use Rattle.escape_simd.specs.declared.output.error.Refusal.{Refusal}
use Rattle.escape_simd.specs.declared.output.error.Refusal.TheVariants as any

abbrev pub io_kind : Refusal → ErrorKind
io_kind any.TooLarge = kind.InvalidInput
io_kind any.OutOfMemory = kind.OutOfMemory
