-- The records of a journal: beats in order. A list of beats has the newest first.
use Rattle.std.specs.Prelude.{◌≡◌, ℕ, Bool, true, nat_lt, List, [], ◌∷◌, Option, Some, None, if◌then◌else◌}
use Rattle.std.specs.List.{AllByRecursion}
use Rattle.std.specs.Option.{option_map}
use Rattle.store_core.specs.declared.beats.beat.Beat.{Beat}
use Rattle.store_core.specs.beats.Beats.{beat_in, InForm}

-- the last moment after one more beat
abbrev pub last_after : ℕ → Option ℕ → ℕ
last_after last None = last
last_after last (Some moment) = moment

-- the last moment of these beats, or 0
abbrev pub last_moment : List Beat → ℕ
last_moment [] = 0
last_moment (beat ∷ beats) = last_after (last_moment beats) beat.moment

-- a moment may follow the last one
abbrev pub is_later : ℕ → Option ℕ → Bool
is_later last None = true
is_later last (Some moment) = nat_lt last moment

-- the moments rise
abbrev pub Rises : List Beat → Type 0
Rises [] = Unit {0}
Rises (beat ∷ beats) = (is_later (last_moment beats) beat.moment ≡ true) × Rises beats

-- the beats, and then the others, which have the oldest first
abbrev pub with_all : List Beat → List Beat → List Beat
with_all beats [] = beats
with_all beats (next ∷ rest) = with_all (next ∷ beats) rest

-- these beats may follow one another
pub record AreBeats (beats : List Beat) : Type 0 where
  pub forms : AllByRecursion InForm beats
  pub rises : Rises beats

-- each of these beats, the oldest first, is in form, and its moment lies above the one before
abbrev pub AreNext : ℕ → List Beat → Type 0
AreNext last [] = Unit {0}
AreNext last (beat ∷ beats) = InForm beat × (is_later last beat.moment ≡ true) × AreNext (last_after last beat.moment) beats

-- ---- what records hold

-- the beat, if it may follow the last moment
abbrev pub if_later : ℕ → Option Beat → Option Beat
if_later last None = None
if_later last (Some beat) = if is_later last beat.moment then Some beat else None

-- the beat that this record is after the last moment, if it is one
abbrev pub next_beat : ℕ → List ℕ → Option Beat
next_beat last body = if_later last (beat_in body)

-- a beat, and what comes after it
abbrev pub then_beats : Option Beat → (Beat → Option (List Beat)) → Option (List Beat)
then_beats None after = None
then_beats (Some beat) after = option_map (λ rest. beat ∷ rest) (after beat)

-- the beats that these records are after the last moment, the oldest first, if all of them are
abbrev pub beats_from : ℕ → List (List ℕ) → Option (List Beat)
beats_from last [] = Some []
beats_from last (body ∷ bodies) = then_beats (next_beat last body) (λ beat. beats_from (last_after last beat.moment) bodies)

-- ---- beats that wait

-- the first of the beats that wait was taken, if there was one
abbrev pub TakesFirst : List Beat → Option Beat → List Beat → Type 0
TakesFirst old None new = (old ≡ []) × (new ≡ [])
TakesFirst old (Some beat) new = old ≡ beat ∷ new
