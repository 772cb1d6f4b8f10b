-- What stays found in last rows, of a registry that takes more definitions.
use Rattle.std.proofs.Common.{◌≡◌, ℕ, zero, suc, ◌≤◌, Bool, true, List, [], ◌∷◌, ◌++◌, length, replicate, position, get_or, Option, Some, None, inl, inr, refl, sym, ap, ◌∙◌, arith}
use Rattle.std.proofs.lemmas.List.{get_or_past}
use Rattle.algorithms.specs.declared.last.Last.{Last}
use Rattle.history.specs.declared.beat.OpenDim.{OpenDim}
use Rattle.history.specs.declared.chart.ChartDef.{ChartDef}
use Rattle.history.specs.Put.{put, put_all}
use Rattle.history.specs.Registry.{Registry, is_dimension, same_dimension, series_of, with_definitions}
use Rattle.chart_registry.proofs.Growing.{far-put, first-put, length-put, same_dimension-alike}
use Rattle.chart_registry.proofs.Places.{IsNowhere, first_or_nowhere, position-first, position-nowhere}
use Rattle.beat_points.specs.LastRows.{last_in}

module _ {A : Type 0} (same : A → A → Bool) (p : A → Bool) (alike : (x y : A) → same x y ≡ true → p x ≡ p y) where
  last_in-put : (lasts : List (Option Last)) (xs : List A) (x : A) → length lasts ≤ length xs → last_in lasts (position p (put same xs x)) ≡ last_in lasts (position p xs)
  last_in-put lasts xs x few =
      elim (first_or_nowhere p xs) [
        | inl f ↦ ap (last_in lasts) (position-first p (put same xs x) f.0 (first-put same p alike xs x f.0 f.1) ∙ sym (position-first p xs f.0 f.1))
        | inr none ↦ none_there none ∙ sym (ap (last_in lasts) (position-nowhere p xs none))
      ]
    where
      none_there : IsNowhere p xs → last_in lasts (position p (put same xs x)) ≡ None
      none_there none =
          elim (first_or_nowhere p (put same xs x)) [
            | inl f ↦ ap (last_in lasts) (position-first p (put same xs x) f.0 f.1) ∙ get_or_past lasts f.0 None (omega (arith, far-put same p alike xs x f.0 none f.1))
            | inr nowhere ↦ ap (last_in lasts) (position-nowhere p (put same xs x) nowhere)
          ]

  last_in-put_all : (lasts : List (Option Last)) (xs ys : List A) → length lasts ≤ length xs → last_in lasts (position p (put_all same xs ys)) ≡ last_in lasts (position p xs)
  last_in-put_all lasts xs [] few = refl
  last_in-put_all lasts xs (y ∷ ys) few = last_in-put_all lasts (put same xs y) ys (omega (arith, length-put same p alike xs y)) ∙ last_in-put lasts xs y few

-- a registry with more definitions finds the same last rows
pub last_in-definitions : (registry : Registry) (charts : List ChartDef) (dimensions : List OpenDim) (lasts : List (Option Last)) (chart id : List ℕ) → length lasts ≤ length registry.dimensions
    → last_in lasts (series_of (with_definitions registry charts dimensions) chart id) ≡ last_in lasts (series_of registry chart id)
last_in-definitions registry charts dimensions lasts chart id few =
    last_in-put_all same_dimension (is_dimension chart id) (same_dimension-alike chart id) lasts registry.dimensions dimensions few

-- more numbers without a last row
abbrev pub nothing : Option Last
nothing = None

get_or-nothing : (m n : ℕ) → get_or (replicate m nothing) n None ≡ None
get_or-nothing zero n = refl
get_or-nothing (suc m) zero = refl
get_or-nothing (suc m) (suc n) = get_or-nothing m n

get_or-room : (lasts : List (Option Last)) (m n : ℕ) → get_or (lasts ++ replicate m None) n None ≡ get_or lasts n None
get_or-room [] m n = get_or-nothing m n
get_or-room (last ∷ lasts) m zero = refl
get_or-room (last ∷ lasts) m (suc n) = get_or-room lasts m n

pub last_in-room : (lasts : List (Option Last)) (m : ℕ) (series : Option ℕ) → last_in (lasts ++ replicate m None) series ≡ last_in lasts series
last_in-room lasts m None = refl
last_in-room lasts m (Some n) = get_or-room lasts m n
