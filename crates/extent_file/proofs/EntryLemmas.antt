-- The forms within an entry, after each of its fields.
use Rattle.std.proofs.Common.{ℕ, ◌-◌, ◌^◌}
use Rattle.extent_file.specs.declared.entry.Entry.{Entry}
use Rattle.extent_file.specs.declared.entry.Before.{Before}
use Rattle.extent_file.specs.Form.{Form, Next}
use Rattle.extent_file.specs.Directory.{between, first_field, count_field}

module _ (tier size left : ℕ) (before : Before) (next : Entry → Form) where
  abbrev pub after_place : ℕ → ℕ → ℕ → ℕ → ℕ → Form
  after_place series first step count place = next (record { series = series; first = first; step = step; count = count; place = place })

  abbrev pub after_count : ℕ → ℕ → ℕ → ℕ → Form
  after_count series first step count = Next (between 8 before.place before.place) (λ place. after_place series first step count place)

  abbrev pub after_step : ℕ → ℕ → ℕ → Form
  after_step series first step = Next (count_field tier size left before.place first step) (λ count. after_count series first step count)

  abbrev pub after_first : ℕ → ℕ → Form
  after_first series first = Next (between 4 1 (2 ^ 32 - 1)) (λ step. after_step series first step)

  abbrev pub after_series : ℕ → Form
  after_series series = Next (first_field before series) (λ first. after_first series first)
