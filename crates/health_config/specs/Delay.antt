-- The words of `delay`, each with its value.
use Rattle.std.specs.Prelude.{ℕ, false, ◌&&◌, if◌then◌else◌, List, [], ◌∷◌, Some, None, is_none, Result, Ok, Err, codes}
use Rattle.std.specs.Str.{bytes_eq}
use Rattle.simple_pattern.specs.Words.{words}
use Rattle.health_config.specs.declared.delay.Delay.{Delay}
use Rattle.health_config.specs.declared.fault.ValueFault.{ValueFault}
use Rattle.health_config.specs.declared.fault.ValueFault.TheVariants.{Bad}
use Rattle.health_config.specs.declared.number.TheConstants.{LONGEST_DURATION}
use Rattle.health_config.specs.Fault.{◌>>=◌}
use Rattle.health_config.specs.Number.{duration, multiplier}

-- nothing is given
abbrev pub none : Delay
none = record { up = None; down = None; multiplier = None; max = None }

-- a word with its value, which may be given once
abbrev pub with : List ℕ → List ℕ → Delay → Result Delay ValueFault
with word value delay =
    if bytes_eq word (codes "up") && is_none delay.up then (duration 0 LONGEST_DURATION value >>= λ seconds. Ok (record delay { up = Some seconds }))
    else (if bytes_eq word (codes "down") && is_none delay.down then (duration 0 LONGEST_DURATION value >>= λ seconds. Ok (record delay { down = Some seconds }))
    else (if bytes_eq word (codes "multiplier") && is_none delay.multiplier then (multiplier value >>= λ units. Ok (record delay { multiplier = Some units }))
    else (if bytes_eq word (codes "max") && is_none delay.max then (duration 0 LONGEST_DURATION value >>= λ seconds. Ok (record delay { max = Some seconds }))
    else Err Bad)))

-- the words from the left, each with the one behind it
abbrev pub with_all : Delay → List (List ℕ) → Result Delay ValueFault
with_all delay [] = Ok delay
with_all delay (word ∷ []) = Err Bad
with_all delay (word ∷ value ∷ words) = with word value delay >>= λ more. with_all more words

unfoldable pub delay : List ℕ → Result Delay ValueFault
delay text = with_all none (words false text)
