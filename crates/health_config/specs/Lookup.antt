-- `METHOD AFTER [at BEFORE] [every D] [OPTIONS] [of DIMENSIONS]`, word by word.
use Rattle.std.specs.Prelude.{ℕ, Bool, true, false, nat_lt, if◌then◌else◌, List, [], ◌∷◌, length, Option, Some, None, unwrap_or, Result, Ok, Err, codes}
use Rattle.std.specs.Borrow.{Bor}
use Rattle.std.specs.List.{list_any, flat_map}
use Rattle.std.specs.Str.{bytes_eq}
use Rattle.simple_pattern.specs.Words.{words}
use Rattle.simple_pattern.specs.declared.pattern.TheConstants.{WORD_LIMIT}
use Rattle.health_config.specs.declared.fault.ValueFault.{ValueFault}
use Rattle.health_config.specs.declared.fault.ValueFault.TheVariants.{Bad, Duration}
use Rattle.health_config.specs.declared.lookup.Head.{Head}
use Rattle.health_config.specs.declared.lookup.LookupLine.{LookupLine}
use Rattle.health_config.specs.declared.lookup.Method.{Method}
use Rattle.health_config.specs.declared.lookup.Method.TheVariants.{Average, Min, Max, Sum, Count, AnomalyRate}
use Rattle.health_config.specs.declared.number.TheConstants.{LONGEST_DURATION}
use Rattle.health_config.specs.Fault.{◌>>=◌}
use Rattle.health_config.specs.Number.{duration}

-- what is read of words, and the words behind it
abbrev pub Reader : Type 0 → Type 0
Reader A = List (List ℕ) → Result (A × List (List ℕ)) ValueFault

-- ---- the parts before the options

abbrev pub method_of : List ℕ → Option Method
method_of word =
    if bytes_eq word (codes "average") then Some Average
    else (if bytes_eq word (codes "min") then Some Min
    else (if bytes_eq word (codes "max") then Some Max
    else (if bytes_eq word (codes "sum") then Some Sum
    else (if bytes_eq word (codes "count") then Some Count
    else (if bytes_eq word (codes "anomaly-rate") then Some AnomalyRate
    else None)))))

abbrev pub method_by : Option Method → Reader Method
method_by None words = Err Bad
method_by (Some method) words = Ok (method, words)

-- METHOD
abbrev pub method : Reader Method
method [] = Err Bad
method (word ∷ words) = method_by (method_of word) words

-- a duration of at least so many seconds
abbrev pub needed : ℕ → Reader ℕ
needed low [] = Err Duration
needed low (word ∷ words) = duration low LONGEST_DURATION word >>= λ seconds. Ok (seconds, words)

-- the same behind a keyword, where that stands next
abbrev pub optional : List ℕ → ℕ → Reader (Option ℕ)
optional keyword low [] = Ok (None, [])
optional keyword low (word ∷ words) =
    if bytes_eq word keyword then (needed low words >>= λ read. Ok (Some read.0, read.1)) else Ok (None, word ∷ words)

-- ---- the options, and the dimensions

abbrev pub is_of : List ℕ → Bool
is_of word = bytes_eq word (codes "of")

-- the words before the first `of`
abbrev pub options : List (List ℕ) → List (List ℕ)
options [] = []
options (word ∷ words) = if is_of word then [] else word ∷ options words

-- the words behind it, where there is one
abbrev pub behind_of : List (List ℕ) → Option (List (List ℕ))
behind_of [] = None
behind_of (word ∷ words) = if is_of word then Some words else behind_of words

-- whether an option is given
abbrev pub has_option : List ℕ → List (List ℕ) → Bool
has_option option words = list_any (λ word. bytes_eq word option) (options words)

-- the pattern of the dimensions: commas and pipes cut its words too
abbrev pub pattern : List (List ℕ) → Result (Option (List (List ℕ))) ValueFault
pattern dims = if nat_lt WORD_LIMIT (length dims) then Err Bad else Ok (Some dims)

abbrev pub dimensions_by : Option (List (List ℕ)) → Result (Option (List (List ℕ))) ValueFault
dimensions_by None = Ok None
dimensions_by (Some dims) = pattern (flat_map (words true) dims)

abbrev pub dimensions : List (List ℕ) → Result (Option (List (List ℕ))) ValueFault
dimensions words = dimensions_by (behind_of words)

-- ---- the whole

-- the lookup of these parts, whose options and dimensions are these words
abbrev pub lookup_of : Head → List (List ℕ) → Option (List (List ℕ)) → LookupLine
lookup_of head words dims =
    record {
      lookup = record {
        method = head.method;
        after = head.after;
        before = unwrap_or head.before 0;
        absolute = has_option (codes "absolute") words;
        percentage = has_option (codes "percentage") words;
        min2max = has_option (codes "min2max") words;
        dims = dims;
      };
      every = head.every;
    }

-- the option `foreach` is refused, and others are ignored
abbrev pub with_options : Head → List (List ℕ) → Result LookupLine ValueFault
with_options head words =
    if has_option (codes "foreach") words then Err Bad
    else (dimensions words >>= λ dims. Ok (lookup_of head words dims))

-- the parts before the options
abbrev pub head : Reader Head
head words = do
  method ← method words
  after ← needed 1 method.1
  before ← optional (codes "at") 0 after.1
  every ← optional (codes "every") 1 before.1
  Ok (record { method = method.0; after = after.0; before = before.0; every = every.0 }, every.1)

unfoldable pub lookup : List ℕ → Result LookupLine ValueFault
lookup text = head (words false text) >>= λ read. with_options read.0 read.1

-- ---- what the code reads, with the text behind it

-- a value and the text behind it, seen as the words of that text
abbrev pub seen : {A : Type 0} → Result (A × Bor (List ℕ)) ValueFault → Result (A × List (List ℕ)) ValueFault
seen (Ok read) = Ok (read.0, words false read.1.now)
seen (Err fault) = Err fault
