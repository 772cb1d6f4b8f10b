-- Until when telling a change of status waits.
use Rattle.std.specs.Prelude.{ℕ, ◌+◌, ◌-◌, ◌*◌, ◌/◌, ◌^◌, min, max, Bool, true, false, not, ◌&&◌, ◌||◌, nat_le, nat_lt, if◌then◌else◌, Option, Some, None, unwrap_or, ℤ, unsigned_abs}
use Rattle.fixed_num.specs.Units.{one}
use Rattle.health_config.specs.Entity.{Alarm}
use Rattle.alarm_events.specs.declared.status.Status.{Status}
use Rattle.alarm_events.specs.declared.status.Status.TheVariants.{Clear}
use Rattle.alarm_events.specs.Status.{number, is_raised}
use Rattle.alarm_events.specs.declared.delay.Delay.{Delay}

-- the last moment, and the longest time
abbrev pub most : ℕ
most = 2 ^ 32 - 1

-- ---- how long

-- so many seconds times a multiplier of ten-millionths, cut to whole seconds
abbrev pub grown : ℤ → ℕ → ℕ
grown multiplier seconds = min (seconds * unsigned_abs multiplier / one) most

-- the longest delay: as `max` says, else the longer of `up` and `down` after they grew once
abbrev pub longest : Alarm → ℕ
longest alarm = unwrap_or alarm.max (max (grown alarm.multiplier alarm.up) (grown alarm.multiplier alarm.down))

-- a delay grows at a moment up to its due moment
abbrev pub grows : Delay → ℕ → Bool
grows delay moment = nat_le moment delay.due

-- the delay of a rise at a moment, by the delay before
abbrev pub next_up : Alarm → Option Delay → ℕ → ℕ
next_up alarm None moment = min alarm.up (longest alarm)
next_up alarm (Some delay) moment = min (if grows delay moment then grown alarm.multiplier delay.up else alarm.up) (longest alarm)

-- the delay of a fall
abbrev pub next_down : Alarm → Option Delay → ℕ → ℕ
next_down alarm None moment = min alarm.down (longest alarm)
next_down alarm (Some delay) moment = min (if grows delay moment then grown alarm.multiplier delay.down else alarm.down) (longest alarm)

-- ---- which

abbrev pub rises : Status → Status → Bool
rises old new = nat_lt (number old) (number new)

abbrev pub is_clear : Status → Bool
is_clear Clear = true
is_clear _ = false

-- a change that is to be told has a due moment: to a raised status, and from one back to clear, unless
-- the alarm says that this is not told
abbrev pub is_due : Alarm → Status → Status → Bool
is_due alarm old new = is_raised new || is_clear new && is_raised old && not alarm.no_clear

-- the delay of a change at a moment, by the delay before
abbrev pub delay_by : ℕ → ℕ → ℕ → Bool → Delay
delay_by up down moment rise = record { up = up; down = down; due = min (moment + (if rise then up else down)) most }

abbrev pub new_delay : Alarm → Option Delay → ℕ → Status → Status → Option Delay
new_delay alarm before moment old new =
    if is_due alarm old new then Some (delay_by (next_up alarm before moment) (next_down alarm before moment) moment (rises old new)) else None
