-- What a history never defined was never seen of it.
use Rattle.std.proofs.Common.{◌≡◌, ℕ, ◌<◌, ◌≤◌, Bool, true, false, ◌||◌, nat_eq, List, [], ◌∷◌, length, slice_get, All, Option, Some, None, IsSome, refl, sym, ap, ◌∙◌, arith, true≢false, if◌then◌else◌}
use Rattle.std.specs.List.{list_any, AllByRecursion}
use Rattle.std.specs.Option.{option_map_or, option_and_then}
use Rattle.std.specs.Str.{bytes_eq}
use Rattle.std.proofs.lemmas.List.Elements.{recursion_from_All}
use Rattle.std.proofs.lemmas.Option.{slice_get_past}
use Rattle.list_lemmas.proofs.Every.{all-at}
use Rattle.algorithms.specs.Words.{packed}
use Rattle.history.specs.declared.beat.OpenBeat.{OpenBeat}
use Rattle.history.specs.declared.beat.OpenDim.{OpenDim}
use Rattle.history.specs.declared.beat.OpenRow.{OpenRow}
use Rattle.history.specs.History.{Beat, collected, copied, health, missing, registry_of, Copy, Gap, Word}
use Rattle.history.specs.Points.{points, word_at}
use Rattle.history.specs.Refusal.{has_chart}
use Rattle.history.specs.Registry.{Registry, chart_of, is_chart, is_of, same_chart, same_dimension, with_definitions}
use Rattle.history.specs.Regular.{IsRegular}
use Rattle.chart_registry.proofs.Applying.{any-put_all, has_chart-applied, same_chart-alike}
use Rattle.chart_registry.proofs.Finding.{all-weaker, find-none, nat_eq_other}
use Rattle.chart_registry.proofs.Growing.{more_definitions}
use Rattle.chart_registry.proofs.Places.{list_any-position}
use Rattle.chart_registry.proofs.RegistryLemmas.{or_false}
use Rattle.chart_registry.proofs.RowsLemmas.{same_text}
use Rattle.beat_entries.specs.Copied.{definitions_of}
use Rattle.agent_core.specs.LastSeen.{is_word_of, seen_at}
use Rattle.agent_core.proofs.Lists.{all-put_all}

abbrev HasChart : Registry → List ℕ → Type 0
HasChart registry chart = list_any (is_chart chart) registry.charts ≡ true

abbrev HasOwners : Registry → Type 0
HasOwners registry = AllByRecursion (λ (dimension : OpenDim). HasChart registry dimension.chart) registry.dimensions

-- each dimension's chart is defined, and no other chart and series was seen
pub record HasOnlyDefined (h : List Beat) : Type 0 where
  pub owners : HasOwners (registry_of h)
  pub charts : (chart : List ℕ) → list_any (is_chart chart) (registry_of h).charts ≡ false → seen_at h chart ≡ 0
  pub points : (series : ℕ) → length (registry_of h).dimensions ≤ series → points packed h series ≡ []

pub only-none : HasOnlyDefined []
only-none = record { owners = tt; charts = λ chart none. refl; points = λ series past. refl }

-- ---- with a beat's definitions
module _ (registry : Registry) (beat : OpenBeat) where
  abbrev after : Registry
  after = with_definitions registry beat.charts beat.dimensions

  still-there : (chart : List ℕ) → HasChart registry chart → HasChart after chart
  still-there chart has = any-put_all same_chart (is_chart chart) (same_chart-alike chart) registry.charts beat.charts ∙ ap (λ (b : Bool). b || list_any (is_chart chart) beat.charts) has

  not-before : (chart : List ℕ) → list_any (is_chart chart) after.charts ≡ false → list_any (is_chart chart) registry.charts ≡ false
  not-before chart none =
      (or_false (list_any (is_chart chart) registry.charts) (list_any (is_chart chart) beat.charts)
      (sym (any-put_all same_chart (is_chart chart) (same_chart-alike chart) registry.charts beat.charts) ∙ none)).0

  owners-after : HasOwners registry → All (λ (dimension : OpenDim). has_chart registry beat dimension.chart ≡ true) beat.dimensions → HasOwners after
  owners-after owners own =
      all-put_all same_dimension (λ (dimension : OpenDim). HasChart after dimension.chart) registry.dimensions beat.dimensions
      (all-weaker (λ (dimension : OpenDim). HasChart registry dimension.chart) (λ (dimension : OpenDim). HasChart after dimension.chart) (λ dimension. still-there dimension.chart) registry.dimensions owners)
      (all-weaker (λ (dimension : OpenDim). has_chart registry beat dimension.chart ≡ true) (λ (dimension : OpenDim). HasChart after dimension.chart) (λ dimension has. has_chart-applied registry beat dimension.chart ∙ has) beat.dimensions
      (recursion_from_All (λ (dimension : OpenDim). has_chart registry beat dimension.chart ≡ true) beat.dimensions own))

-- ---- a beat that was collected
no-row : (registry : Registry) (chart : List ℕ) → list_any (is_chart chart) registry.charts ≡ false → (rows : List OpenRow) → AllByRecursion (λ (row : OpenRow). IsSome (chart_of registry row.chart)) rows
    → list_any (λ (row : OpenRow). bytes_eq chart row.chart) rows ≡ false
no-row registry chart none [] all = refl
no-row registry chart none (row ∷ rows) all = λ i. by (bytes_eq chart row.chart) refl i || no-row registry chart none rows all.1 i
  where
    by : (b : Bool) → bytes_eq chart row.chart ≡ b → bytes_eq chart row.chart ≡ false
    by false e = e
    by true e =
        let here : list_any (is_chart chart) registry.charts ≡ true
        = ap (λ (id : List ℕ). list_any (is_chart id) registry.charts) (same_text chart row.chart e) ∙ sym (list_any-position (is_chart row.chart) registry.charts) ∙ all.0 in
        absurd (true≢false (sym here ∙ none))

pub only-collected : (h : List Beat) (moment : ℕ) (beat : OpenBeat) → HasOnlyDefined h → All (λ (dimension : OpenDim). has_chart (registry_of h) beat dimension.chart ≡ true) beat.dimensions
    → IsRegular (registry_of (collected moment beat ∷ h)) beat → HasOnlyDefined (collected moment beat ∷ h)
only-collected h moment beat only own regular = record {
  owners = owners-after (registry_of h) beat only.owners own;
  charts = λ chart none.
      ap (λ (b : Bool). if b then moment else seen_at h chart)
      (no-row (registry_of (collected moment beat ∷ h)) chart none beat.rows (recursion_from_All (λ (row : OpenRow). IsSome (chart_of (registry_of (collected moment beat ∷ h)) row.chart)) beat.rows regular.charts))
      ∙ only.charts chart (not-before (registry_of h) beat chart none);
  points = λ series past.
      let there = registry_of (collected moment beat ∷ h) in
      ap (λ (found : Option OpenDim). option_map_or (λ (word : ℕ). record { moment = moment; word = word } ∷ points packed h series) (option_and_then (word_at packed there h moment beat) found) (points packed h series))
      (slice_get_past there.dimensions series past)
      ∙ only.points series (omega (arith, past, more_definitions (registry_of h) beat.charts beat.dimensions));
}

-- ---- a beat that was copied
no-word : (registry : Registry) (chart : List ℕ) → HasOwners registry → list_any (is_chart chart) registry.charts ≡ false → (words : List Word) → list_any (is_word_of registry chart) words ≡ false
no-word registry chart owners none [] = refl
no-word registry chart owners none (word ∷ words) = λ i. by (slice_get registry.dimensions word.series) refl i || no-word registry chart owners none words i
  where
    other : (dimension : OpenDim) → slice_get registry.dimensions word.series ≡ Some dimension → (b : Bool) → bytes_eq chart dimension.chart ≡ b → bytes_eq chart dimension.chart ≡ false
    other dimension at false e = e
    other dimension at true e =
        let here : list_any (is_chart chart) registry.charts ≡ true
        = ap (λ (id : List ℕ). list_any (is_chart id) registry.charts) (same_text chart dimension.chart e)
        ∙ all-at (λ (dimension : OpenDim). HasChart registry dimension.chart) registry.dimensions word.series dimension owners at in
        absurd (true≢false (sym here ∙ none))

    by : (found : Option OpenDim) → slice_get registry.dimensions word.series ≡ found → option_map_or (is_of chart) found false ≡ false
    by None at = refl
    by (Some dimension) at = other dimension at (bytes_eq chart dimension.chart) refl

no-point : (most series : ℕ) → most ≤ series → (words : List Word) → AllByRecursion (λ (word : Word). word.series < most) words → list_any (λ (word : Word). nat_eq word.series series) words ≡ false
no-point most series past [] all = refl
no-point most series past (word ∷ words) all = λ i. nat_eq_other word.series series (λ e. absurd (omega (arith, e, all.0, past))) i || no-point most series past words all.1 i

pub only-copied : (h : List Beat) (copy : Copy) → HasOnlyDefined h → All (λ (dimension : OpenDim). has_chart (registry_of h) (definitions_of copy) dimension.chart ≡ true) copy.dimensions
    → All (λ (word : Word). word.series < length (registry_of (copied copy ∷ h)).dimensions) copy.words → HasOnlyDefined (copied copy ∷ h)
only-copied h copy only own words =
    let owners = owners-after (registry_of h) (definitions_of copy) only.owners own in
    let there = registry_of (copied copy ∷ h) in
    record {
      owners = owners;
      charts = λ chart none.
          ap (λ (b : Bool). if b then copy.moment else seen_at h chart) (no-word there chart owners none copy.words)
          ∙ only.charts chart (not-before (registry_of h) (definitions_of copy) chart none);
      points = λ series past.
          ap (λ (found : Option Word). option_map_or (λ (word : Word). record { moment = copy.moment; word = word.word } ∷ points packed h series) found (points packed h series))
          (find-none (λ (word : Word). nat_eq word.series series) copy.words
          (no-point (length there.dimensions) series past copy.words (recursion_from_All (λ (word : Word). word.series < length there.dimensions) copy.words words)))
          ∙ only.points series (omega (arith, past, more_definitions (registry_of h) copy.charts copy.dimensions));
    }

-- ---- a configuration and a gap
pub only-health : (h : List Beat) (text : List ℕ) → HasOnlyDefined h → HasOnlyDefined (health text ∷ h)
only-health h text only = record { owners = only.owners; charts = only.charts; points = only.points }

pub only-missing : (h : List Beat) (gap : Gap) → HasOnlyDefined h → HasOnlyDefined (missing gap ∷ h)
only-missing h gap only = record { owners = only.owners; charts = only.charts; points = only.points }
