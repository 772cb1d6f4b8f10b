-- The beats that records are, behind any last moment: what is read has its records, and the record of a beat reads as it.
use Rattle.std.proofs.Common.{◌≡◌, ℕ, true, List, [], ◌∷◌, ◌++◌, map, Option, Some, None, refl, sym, ap, ◌∙◌, subst}
use Rattle.std.specs.List.{AllByRecursion}
use Rattle.std.specs.Option.{option_map}
use Rattle.std.proofs.lemmas.Bool.{cond-true}
use Rattle.std.proofs.lemmas.Option.{cond_some, none-some, same_Some}
use Rattle.field_codec.specs.Field.{IsBytes}
use Rattle.store_core.specs.declared.beats.beat.Beat.{Beat}
use Rattle.store_core.specs.beats.Beats.{beat_bytes, beat_in, InForm}
use Rattle.store_core.specs.beats.Records.{beats_from, if_later, is_later, last_after, next_beat, then_beats, with_all, AreNext}
use Rattle.store_core.proofs.BeatProofs.BeatLaw.{beat_again, beat_found}

abbrev pub AreBytes : List (List ℕ) → Type 0
AreBytes bodies = AllByRecursion IsBytes bodies

-- ---- the order

with_all-more : (beats rest : List Beat) (beat : Beat) → with_all beats (rest ++ beat ∷ []) ≡ beat ∷ with_all beats rest
with_all-more beats [] beat = refl
with_all-more beats (next ∷ rest) beat = with_all-more (next ∷ beats) rest beat

-- the beats with the oldest first
pub record OldestFirst (beats : List Beat) : Type 0 where
  pub rest : List Beat
  pub whole : with_all [] rest ≡ beats

pub oldest_first : (beats : List Beat) → OldestFirst beats
oldest_first [] = record { rest = []; whole = refl }
oldest_first (beat ∷ beats) =
    let before = oldest_first beats in
    record {
      rest = before.rest ++ beat ∷ [];
      whole = with_all-more [] before.rest beat ∙ ap (λ (all : List Beat). beat ∷ all) before.whole;
    }

abbrev some_beat : Beat → Option Beat
some_beat beat = Some beat

-- ---- what is read

-- a beat that may follow the last moment
later-found : (last : ℕ) (found : Option Beat) (beat : Beat) → if_later last found ≡ Some beat → (found ≡ Some beat) × (is_later last beat.moment ≡ true)
later-found last None beat is = absurd (none-some beat is)
later-found last (Some found) beat is =
    let known = cond_some (is_later last found.moment) found beat is in
    (ap some_beat known.1, ap (λ (b : Beat). is_later last b.moment) (sym known.1) ∙ known.0)

-- a first beat was read, and then the others
record IsFirst (found : Option Beat) (after : Beat → Option (List Beat)) (rest : List Beat) : Type 0 where
  beat : Beat
  more : List Beat
  first : found ≡ Some beat
  others : after beat ≡ Some more
  whole : beat ∷ more ≡ rest

more-found : (beat : Beat) (others : Option (List Beat)) (rest : List Beat) → option_map (λ more. beat ∷ more) others ≡ Some rest
    → (more : List Beat) × (others ≡ Some more) × (beat ∷ more ≡ rest)
more-found beat None rest is = absurd (none-some rest is)
more-found beat (Some more) rest is = (more, refl, same_Some (beat ∷ more) rest is)

first-found : (found : Option Beat) (after : Beat → Option (List Beat)) (rest : List Beat) → then_beats found after ≡ Some rest → IsFirst found after rest
first-found None after rest is = absurd (none-some rest is)
first-found (Some beat) after rest is =
    let known = more-found beat (after beat) rest is in
    record { beat = beat; more = known.0; first = refl; others = known.1; whole = known.2 }

-- the beats may follow one another, and these are their records
pub record AreRead (last : ℕ) (bodies : List (List ℕ)) (rest : List Beat) : Type 0 where
  pub next : AreNext last rest
  pub spelt : bodies ≡ map beat_bytes rest

pub are-read : (last : ℕ) (bodies : List (List ℕ)) (rest : List Beat) → AreBytes bodies → beats_from last bodies ≡ Some rest → AreRead last bodies rest
are-read last [] rest fits is = subst (λ (l : List Beat). AreRead last [] l) (same_Some [] rest is) (record { next = tt; spelt = refl })
are-read last (body ∷ bodies) rest fits is =
    let after : Beat → Option (List Beat) = λ beat. beats_from (last_after last beat.moment) bodies in
    let found = first-found (next_beat last body) after rest is in
    let known = later-found last (beat_in body) found.beat found.first in
    let read = beat_found body found.beat fits.0 known.0 in
    let others = are-read (last_after last found.beat.moment) bodies found.more fits.1 found.others in
    subst (λ (l : List Beat). AreRead last (body ∷ bodies) l) found.whole
    (record {
      next = (read.0, known.1, others.next);
      spelt = ap (λ (b : List ℕ). b ∷ bodies) read.1 ∙ ap (λ (l : List (List ℕ)). beat_bytes found.beat ∷ l) others.spelt;
    })

-- ---- what is read again

-- a beat that may follow the last moment is read of its record
pub next-again : (last : ℕ) (beat : Beat) → InForm beat → is_later last beat.moment ≡ true → next_beat last (beat_bytes beat) ≡ Some beat
next-again last beat form later = ap (if_later last) (beat_again beat form) ∙ cond-true (is_later last beat.moment) (some_beat beat) None later
