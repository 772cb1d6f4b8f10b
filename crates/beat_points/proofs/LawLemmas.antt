-- What a history with one beat more says of points and of last values.
use Rattle.std.proofs.Common.{◌≡◌, ℕ, zero, suc, ◌+◌, ◌<◌, Bool, cond, nat_eq, List, [], ◌∷◌, slice_get, Option, Some, None, IfSome, refl, sym, ap, ◌∙◌, arith, add-zero}
use Rattle.std.specs.List.{find, filter_map, cons_option, enumerate_from}
use Rattle.std.specs.Option.{option_map, option_map_or, option_and_then}
use Rattle.algorithms.specs.Words.{packed}
use Rattle.history.specs.declared.beat.OpenBeat.{OpenBeat}
use Rattle.history.specs.declared.beat.OpenDim.{OpenDim}
use Rattle.history.specs.declared.beat.OpenValue.{OpenValue}
use Rattle.history.specs.History.{Beat, collected, registry_of}
use Rattle.history.specs.Points.{Collected, Point, last_set, points, value_of, word_at}
use Rattle.beat_points.specs.declared.series_word.SeriesWord.{SeriesWord}
use Rattle.beat_points.specs.Points.{IsBefore, beat_points}
use Rattle.chart_registry.proofs.Finding.{nat_eq_same, nat_eq_other}
use Rattle.beat_points.proofs.OrderLemmas.{place_pair}

abbrev has : ℕ → SeriesWord → Bool
has series point = nat_eq point.series series

module _ {D : Type 0} (f : D → Option ℕ) where
  abbrev at_number : ℕ → Option ℕ → Option SeriesWord
  at_number series found = option_map (λ (word : ℕ). record { series = series; word = word }) found

  -- behind a number there is no earlier one
  find-far : (ds : List D) (n k : ℕ) → k < n → find (has k) (filter_map (place_pair f) (enumerate_from n ds)) ≡ None
  find-far [] n k far = refl
  find-far (d ∷ ds) n k far = by (f d) (find-far ds (n + 1) k (omega arith))
    where
      by : (found : Option ℕ) → find (has k) (filter_map (place_pair f) (enumerate_from (n + 1) ds)) ≡ None
          → find (has k) (cons_option (at_number n found) (filter_map (place_pair f) (enumerate_from (n + 1) ds))) ≡ None
      by None rest = rest
      by (Some w) rest =
          ap (λ (b : Bool). cond b (Some (record { series = n; word = w })) (find (has k) (filter_map (place_pair f) (enumerate_from (n + 1) ds)))) (nat_eq_other n k (λ e. absurd (omega (arith, e, far)))) ∙ rest

  find-place : (ds : List D) (n k : ℕ) → find (has (n + k)) (filter_map (place_pair f) (enumerate_from n ds)) ≡ at_number (n + k) (option_and_then f (slice_get ds k))
  find-place [] n k = refl
  find-place (d ∷ ds) n zero = by (f d) (find-far ds (n + 1) (n + 0) (omega arith))
    where
      by : (found : Option ℕ) → find (has (n + 0)) (filter_map (place_pair f) (enumerate_from (n + 1) ds)) ≡ None
          → find (has (n + 0)) (cons_option (at_number n found) (filter_map (place_pair f) (enumerate_from (n + 1) ds))) ≡ at_number (n + 0) found
      by None rest = rest
      by (Some w) rest =
          ap (λ (b : Bool). cond b (Some (record { series = n; word = w })) (find (has (n + 0)) (filter_map (place_pair f) (enumerate_from (n + 1) ds)))) (ap (nat_eq n) (add-zero n) ∙ nat_eq_same n)
          ∙ ap (λ (m : ℕ). Some (record { series = m; word = w })) (sym (add-zero n))
  find-place (d ∷ ds) n (suc k) = by (f d) (ap (λ (m : ℕ). find (has m) (filter_map (place_pair f) (enumerate_from (n + 1) ds))) (sym moved) ∙ find-place ds (n + 1) k ∙ ap (λ (m : ℕ). at_number m (option_and_then f (slice_get ds k))) moved)
    where
      moved : (n + 1) + k ≡ n + suc k
      moved = omega arith

      by : (found : Option ℕ) → find (has (n + suc k)) (filter_map (place_pair f) (enumerate_from (n + 1) ds)) ≡ at_number (n + suc k) (option_and_then f (slice_get ds k))
          → find (has (n + suc k)) (cons_option (at_number n found) (filter_map (place_pair f) (enumerate_from (n + 1) ds))) ≡ at_number (n + suc k) (option_and_then f (slice_get ds k))
      by None rest = rest
      by (Some w) rest =
          ap (λ (b : Bool). cond b (Some (record { series = n; word = w })) (find (has (n + suc k)) (filter_map (place_pair f) (enumerate_from (n + 1) ds)))) (nat_eq_other n (n + suc k) (λ e. absurd (omega (arith, e)))) ∙ rest

module _ (h : List Beat) (moment series : ℕ) (beat : OpenBeat) where
  abbrev after : List Beat
  after = collected moment beat ∷ h

  abbrev word_in : OpenDim → Option ℕ
  word_in d = word_at packed (registry_of after) h moment beat d

  abbrev prefix : Option SeriesWord → List Point
  prefix found = option_map_or (λ (point : SeriesWord). record { moment = moment; word = point.word } ∷ points packed h series) found (points packed h series)

  prefix-some : (found : Option ℕ) → prefix (at_number word_in series found) ≡ option_map_or (λ (word : ℕ). record { moment = moment; word = word } ∷ points packed h series) found (points packed h series)
  prefix-some None = refl
  prefix-some (Some w) = refl

  found-there : find (has series) (beat_points (registry_of after) h moment beat) ≡ at_number word_in series (option_and_then word_in (slice_get (registry_of after).dimensions series))
  found-there =
      let same : 0 + series ≡ series = omega arith in
      ap (λ (m : ℕ). find (has m) (beat_points (registry_of after) h moment beat)) (sym same)
      ∙ find-place word_in (registry_of after).dimensions 0 series
      ∙ ap (λ (m : ℕ). at_number word_in m (option_and_then word_in (slice_get (registry_of after).dimensions series))) same

  pub points-of_beat : points packed (collected moment beat ∷ h) series
      ≡ option_map_or (λ (point : SeriesWord). record { moment = moment; word = point.word } ∷ points packed h series)
      (find (λ (point : SeriesWord). nat_eq point.series series) (beat_points (registry_of (collected moment beat ∷ h)) h moment beat)) (points packed h series)
  points-of_beat = sym (ap prefix found-there ∙ prefix-some (option_and_then word_in (slice_get (registry_of after).dimensions series)))

pub before-none : (moment : ℕ) → IsBefore [] moment
before-none moment chart id = tt

pub before-collected : (h : List Beat) (moment later : ℕ) (beat : OpenBeat) → IsBefore h later → moment < later → IsBefore (collected moment beat ∷ h) later
before-collected h moment later beat before less chart id = by (value_of beat chart id) (before chart id)
  where
    by : (value : Option OpenValue) → IfSome (last_set h chart id) (λ (last : Collected). last.moment < later)
        → IfSome (option_map_or (λ (value : OpenValue). Some (record { moment = moment; value = value.value })) value (last_set h chart id)) (λ (last : Collected). last.moment < later)
    by None rest = rest
    by (Some value) rest = less
