-- The definitions, checked on small texts by computation.
use Rattle.std.proofs.Common.{◌≡◌, ℕ, true, false, List, [], ◌∷◌, ◌++◌, pos, Some, None, Ok, Err, refl, codes}
use Rattle.health_config.specs.declared.fault.ConfigFault.TheVariants.{NoName as NoNameAt, NoOn}
use Rattle.health_config.specs.declared.fault.ValueFault.TheVariants.{Bad, Duration}
use Rattle.health_config.specs.declared.lookup.Method.TheVariants.{Average}
use Rattle.health_config.specs.Config.{config_read, none_but}
use Rattle.health_config.specs.Delay.{delay}
use Rattle.std.specs.Str.{is_utf8, chars}
use Rattle.health_config.specs.Entity.{name}
use Rattle.health_config.specs.Key.{begins, key_value}
use Rattle.health_config.specs.Lines.{lines}
use Rattle.health_config.specs.Lookup.{lookup}
use Rattle.health_config.specs.Number.{duration}
use Rattle.health_config.specs.Setting.{line_read}

-- a line, and what stands behind its line feed
abbrev fed : List ℕ → List ℕ → List ℕ
fed line behind = line ++ 10 ∷ behind

-- ---- lines

joined_lines : lines (fed (codes "a\\") (fed (codes "b") (codes "c"))) ≡ record { number = 1; text = codes "a b" } ∷ record { number = 3; text = codes "c" } ∷ []
unfolding lines
joined_lines = refl

last_mark : lines (codes "a\\") ≡ record { number = 1; text = codes "a " } ∷ []
unfolding lines
last_mark = refl

key_and_value : key_value (codes " info :  a : b ") ≡ Some (codes "info", codes "a : b")
unfolding key_value
key_and_value = refl

-- ---- durations

minutes : duration 1 86400 (codes "-5m") ≡ Ok 300
unfolding duration
minutes = refl

a_day_and_more : duration 1 86400 (codes "25h") ≡ Err Duration
unfolding duration
a_day_and_more = refl

no_digits : duration 0 86400 (codes "m") ≡ Err Duration
unfolding duration
no_digits = refl

-- ---- values

whole_delay : delay (codes "down 15m multiplier 1.5 up 1") ≡ Ok (record { up = Some 1; down = Some 900; multiplier = Some (pos 15000000); max = None })
unfolding delay duration
whole_delay = refl

given_twice : delay (codes "up 1m up 2m") ≡ Err Bad
unfolding delay duration
given_twice = refl

whole_lookup : lookup (codes "average -10m at 1 min2max of a,b|!*")
    ≡ Ok (record { lookup = record { method = Average; after = 600; before = 1; absolute = false; percentage = false; min2max = true; dims = Some (codes "a" ∷ codes "b" ∷ codes "!*" ∷ []) }; every = None })
unfolding lookup duration
whole_lookup = refl

-- ---- texts

key_before_all : config_read (codes "warn: 1") ≡ Ok (none_but 1)
unfolding config_read lines begins key_value line_read is_utf8 chars lib.Utf8.encode
key_before_all = refl

no_name : config_read (codes "alarm:") ≡ Err (NoNameAt 1)
unfolding config_read lines begins key_value name is_utf8 chars lib.Utf8.encode
no_name = refl

on_nothing : config_read (codes "alarm: x") ≡ Err (NoOn 1)
unfolding config_read lines begins key_value name is_utf8 chars lib.Utf8.encode
on_nothing = refl

ended_first : config_read (fed (codes "alarm: a") (codes "alarm:")) ≡ Err (NoOn 1)
unfolding config_read lines begins key_value name is_utf8 chars lib.Utf8.encode
ended_first = refl
