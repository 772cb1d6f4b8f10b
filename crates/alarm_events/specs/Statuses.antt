-- A status is spelt as its number.
use Rattle.std.specs.Prelude.{ℕ, List, Option, Some, None, Ok, Err}
use Rattle.field_codec.specs.declared.fault.FieldFault.TheVariants.{Range}
use Rattle.field_codec.specs.Reading.{ReadOf, read_u8}
use Rattle.field_codec.specs.Spelling.{u8_bytes}
use Rattle.alarm_events.specs.declared.status.Status.{Status}
use Rattle.alarm_events.specs.Status.{number, status_of}

unfoldable pub status_bytes : Status → List ℕ
status_bytes status = u8_bytes (number status)

abbrev pub status_or : Option Status → List ℕ → ReadOf Status
status_or None rest = Err Range
status_or (Some status) rest = Ok (status, rest)

abbrev pub then_status : ReadOf ℕ → ReadOf Status
then_status (Ok read) = status_or (status_of read.0) read.1
then_status (Err fault) = Err fault

unfoldable pub read_status : List ℕ → ReadOf Status
read_status bytes = then_status (read_u8 bytes)
