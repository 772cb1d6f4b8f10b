-- A delay is spelt as a flag and its three numbers, which are 0 where there is none.
use Rattle.std.specs.Prelude.{ℕ, ◌<◌, ◌^◌, ◌==◌, Bool, true, false, ◌&&◌, ◌||◌, List, ◌++◌, Option, Some, None}
use Rattle.field_codec.specs.declared.fault.FieldFault.TheVariants.{Range}
use Rattle.field_codec.specs.Lists.{◌>>◌}
use Rattle.field_codec.specs.Reading.{ReadOf, read_as, read_passing, read_flag, read_u32}
use Rattle.field_codec.specs.Spelling.{flag_bytes, u32_bytes}
use Rattle.alarm_events.specs.declared.delay.Delay.{Delay}

-- a flag, how long a rise and a fall wait, and the due moment
abbrev pub Parts : Type 0
Parts = ((Bool × ℕ) × ℕ) × ℕ

abbrev pub parts_bytes : Parts → List ℕ
parts_bytes parts = flag_bytes parts.0.0.0 ++ u32_bytes parts.0.0.1 ++ u32_bytes parts.0.1 ++ u32_bytes parts.1

abbrev pub parts_of : Option Delay → Parts
parts_of None = (((false, 0), 0), 0)
parts_of (Some delay) = (((true, delay.up), delay.down), delay.due)

abbrev pub delay_by : Bool → ℕ → ℕ → ℕ → Option Delay
delay_by false up down due = None
delay_by true up down due = Some (record { up = up; down = down; due = due })

abbrev pub delay_of : Parts → Option Delay
delay_of parts = delay_by parts.0.0.0 parts.0.0.1 parts.0.1 parts.1

-- the numbers are 0 where the flag is
abbrev pub is_delay : Parts → Bool
is_delay parts = parts.0.0.0 || ((parts.0.0.1 == 0) && ((parts.0.1 == 0) && (parts.1 == 0)))

unfoldable pub delay_bytes : Option Delay → List ℕ
delay_bytes delay = parts_bytes (parts_of delay)

unfoldable pub read_delay : List ℕ → ReadOf (Option Delay)
read_delay bytes = read_as delay_of (read_passing is_delay Range (read_flag bytes >> read_u32 >> read_u32 >> read_u32))

pub record IsDelay (delay : Delay) : Type 0 where
  pub up : delay.up < 2 ^ 32
  pub down : delay.down < 2 ^ 32
  pub due : delay.due < 2 ^ 32

-- the delays that have a spelling
abbrev pub IsSpelledDelay : Option Delay → Type 0
IsSpelledDelay None = Unit {0}
IsSpelledDelay (Some delay) = IsDelay delay
