-- The definitions of a numbered beat that may follow a history are taken by the history's registry.
use Rattle.std.proofs.Common.{◌≡◌, ℕ, ◌+◌, ◌<◌, ◌≤◌, Bool, true, false, cond, ◌&&◌, ◌||◌, nat_eq, List, [], ◌∷◌, ◌++◌, map, length, position, slice_get, Option, Some, None, is_some, is_none, refl, sym, ap, ◌∙◌, arith, true≢false, lt-ltb, if◌then◌else◌}
use Rattle.std.specs.List.{find, list_any, count_by, AllByRecursion}
use Rattle.std.specs.Option.{option_and_then}
use Rattle.std.proofs.lemmas.Bool.{lt-leb}
use Rattle.std.proofs.lemmas.List.{length_push}
use Rattle.std.proofs.lemmas.Option.{none-some, same_Some}
use Rattle.chart_registry.specs.Defining.{chart_id, nothing_open}
use Rattle.chart_registry.proofs.Applying.{any-put, same_chart-alike}
use Rattle.chart_registry.proofs.Places.{IsFirst, first-at, first-from_position, position-first, put-absent, list_any-position, find-position, count_by-push}
use Rattle.chart_registry.proofs.RegistryLemmas.{chart_refusal-present, chart_refusal-absent, dimension_refusal-present, dimension_refusal-absent}
use Rattle.chart_registry.proofs.RowsLemmas.{bytes_eq_same}
use Rattle.history.specs.declared.numbered.NumberedChart.{NumberedChart}
use Rattle.history.specs.declared.numbered.NumberedDimension.{NumberedDimension}
use Rattle.history.specs.declared.beat.OpenDim.{OpenDim}
use Rattle.history.specs.declared.chart.ChartDef.{ChartDef}
use Rattle.history.specs.declared.fault.BlockFault.TheVariants as block
use Rattle.history.specs.Limits.{chart_keeps_limits, dimension_keeps_limits}
use Rattle.history.specs.Put.{put, put_all}
use Rattle.history.specs.Refusal.{chart_refusal, dimension_refusal, dimensions_full}
use Rattle.history.specs.Registry.{Registry, is_chart, is_dimension, is_of, same_chart, same_dimension, chart_of, series_of}
use Rattle.history.specs.Regular.{AreApart}
use Rattle.chart_registry.proofs.Finding.{nat_eq_same, all-weaker}
use Rattle.chart_registry.proofs.Growing.{count-put_all, first-put, length-put_all, of-alike, same_dimension-alike}
use Rattle.chart_registry.specs.Taking.{all_taken, chart_def, is_number, with_chart, takes_chart, dimension_back, with_dimension, takes_dimension}
use Rattle.beat_entries.proofs.DefinedLemmas.{chart-itself, chart-alike, dimension-itself}
use Rattle.beat_entries.proofs.PutLemmas.{turned, find-put}
use Rattle.beat_entries.proofs.Slots.{all-both, none-all}
use Rattle.chart_registry.proofs.Steps.{number-yes}

-- ---- what is put keeps its place, and there are no fewer
module _ {A : Type 0} (same : A → A → Bool) (p : A → Bool) (alike : (x y : A) → same x y ≡ true → p x ≡ p y) where
  first-put_all : (ys xs : List A) (n : ℕ) → IsFirst p ys n → IsFirst p (put_all same ys xs) n
  first-put_all ys [] n h = h
  first-put_all ys (x ∷ xs) n h = first-put_all (put same ys x) xs n (first-put same p alike ys x n h)

  -- what was put has the number that it has at last
  number-kept : (ys xs last : List A) (x : A) (n : ℕ) → put_all same (put same ys x) xs ≡ last → p x ≡ true → position p last ≡ Some n → is_number n (position p (put same ys x)) ≡ true
  number-kept ys xs last x n whole here number = by (position p (put same ys x)) refl
    where
      or-true : (b : Bool) → (b || true) ≡ true
      or-true true = refl
      or-true false = refl

      there : is_some (position p (put same ys x)) ≡ true
      there = list_any-position p (put same ys x) ∙ any-put same p alike ys x ∙ ap (λ (b : Bool). list_any p ys || b) here ∙ or-true (list_any p ys)

      by : (found : Option ℕ) → position p (put same ys x) ≡ found → is_number n found ≡ true
      by None e = absurd (true≢false (sym there ∙ ap is_some e))
      by (Some k) e =
          let at_last : position p last ≡ Some k
          = ap (position p) (sym whole) ∙ position-first p (put_all same (put same ys x) xs) k (first-put_all (put same ys x) xs k (first-from_position p (put same ys x) k e)) in
          number-yes n k (Some k) refl (same_Some k n (sym at_last ∙ number))

all-map : {A B : Type 0} (f : A → B) (P : B → Type 0) (xs : List A) → AllByRecursion P (map f xs) → AllByRecursion (λ (x : A). P (f x)) xs
all-map f P [] all = tt
all-map f P (x ∷ xs) all = (all.0, all-map f P xs all.1)

-- ---- charts
module _ (last : List ChartDef) (few : length last ≤ 4096) where
  -- a chart that may be defined over these, and that has its number at last
  pub record MayChart (charts : List ChartDef) (chart : NumberedChart) : Type 0 where
    pub grid : 0 < chart.def.update_every
    pub limits : chart_keeps_limits chart.def ≡ true
    pub number : position (is_chart chart.def.id) last ≡ Some chart.number
    pub kept : (old : ChartDef) → find (is_chart chart.def.id) charts ≡ Some old → old.update_every ≡ chart.def.update_every

  not-refused : (s : Registry) (chart : NumberedChart) (rest : List ChartDef) → MayChart s.charts chart → put_all same_chart (put same_chart s.charts chart.def) rest ≡ last
      → chart_refusal s nothing_open chart.def ≡ None
  not-refused s chart rest may whole = by (chart_of s chart.def.id) refl
    where
      by : (found : Option ℕ) → chart_of s chart.def.id ≡ found → chart_refusal s nothing_open chart.def ≡ None
      by None e =
          let pushed : put same_chart s.charts chart.def ≡ s.charts ++ chart.def ∷ [] = put-absent same_chart chart.def s.charts e in
          let room : length s.charts < 4096
          = omega (arith, few, ap length whole, length-put_all same_chart (is_chart []) (same_chart-alike []) (put same_chart s.charts chart.def) rest, ap length pushed, length_push s.charts chart.def) in
          chart_refusal-absent s chart.def e ∙ ap (λ (b : Bool). if b then Some block.TooManyCharts else None) (lt-leb 4096 (length s.charts) room)
      by (Some n) e =
          let there = first-at (is_chart chart.def.id) s.charts n (first-from_position (is_chart chart.def.id) s.charts n e) in
          let old = there.0 in
          let found : find (is_chart chart.def.id) s.charts ≡ Some old = sym (find-position (is_chart chart.def.id) s.charts) ∙ ap (option_and_then (slice_get s.charts)) e ∙ there.1.0 in
          let grid : nat_eq old.update_every chart.def.update_every ≡ true = ap (nat_eq old.update_every) (sym (may.kept old found)) ∙ nat_eq_same old.update_every in
          chart_refusal-present s chart.def old n e there.1.0 ∙ ap (λ (b : Bool). if b then None else Some block.GridChanged) grid

  pub charts-taken : (s : Registry) (charts : List NumberedChart) → put_all same_chart s.charts (map chart_def charts) ≡ last → AreApart same_chart (map chart_def charts)
      → AllByRecursion (MayChart s.charts) charts → all_taken takes_chart with_chart s charts ≡ true
  charts-taken s [] whole apart may = refl
  charts-taken s (chart ∷ charts) whole apart may =
      let takes : takes_chart s chart ≡ true
      = λ i. lt-ltb 0 chart.def.update_every may.0.grid i && may.0.limits i && is_none (not-refused s chart (map chart_def charts) may.0 whole i)
      && number-kept same_chart (is_chart chart.def.id) (same_chart-alike chart.def.id) s.charts (map chart_def charts) last chart.def chart.number whole (chart-itself chart.def) may.0.number i in
      ap (λ (b : Bool). b && all_taken takes_chart with_chart (with_chart s chart) charts) takes
      ∙ charts-taken (with_chart s chart) charts whole apart.1
      (all-weaker (λ (x : NumberedChart). MayChart s.charts x × (same_chart chart.def x.def ≡ false)) (MayChart (put same_chart s.charts chart.def))
      (λ x both. record {
        grid = both.0.grid;
        limits = both.0.limits;
        number = both.0.number;
        kept = λ old found. both.0.kept old
            (sym (find-put same_chart chart-itself chart-alike x.def s.charts chart.def
            ∙ ap (λ (b : Bool). cond b (Some chart.def) (find (is_chart x.def.id) s.charts)) (turned same_chart chart-itself chart-alike x.def chart.def ∙ both.1)) ∙ found);
      }) charts
      (all-both (MayChart s.charts) (λ (x : NumberedChart). same_chart chart.def x.def ≡ false) charts may.1
      (all-map chart_def (λ (def : ChartDef). same_chart chart.def def ≡ false) charts (none-all (same_chart chart.def) (map chart_def charts) apart.0))))

-- ---- dimensions
module _ (last : List OpenDim) (few : length last ≤ 65536) where
  pub record MayDimension (s : Registry) (dimension : NumberedDimension) : Type 0 where
    pub chart : dimension.chart < length s.charts
    pub limits : dimension_keeps_limits dimension.def ≡ true
    pub number : position (same_dimension (dimension_back s dimension)) last ≡ Some dimension.series
    pub room : series_of s (chart_id s dimension.chart) dimension.def.id ≡ None → count_by (is_of (chart_id s dimension.chart)) last ≤ 1024

  not-full : (s : Registry) (dimension : NumberedDimension) (rest : List OpenDim) → MayDimension s dimension → put_all same_dimension (put same_dimension s.dimensions (dimension_back s dimension)) rest ≡ last
      → dimension_refusal s nothing_open (chart_id s dimension.chart) dimension.def ≡ None
  not-full s dimension rest may whole = by (series_of s (chart_id s dimension.chart) dimension.def.id) refl
    where
      by : (found : Option ℕ) → series_of s (chart_id s dimension.chart) dimension.def.id ≡ found → dimension_refusal s nothing_open (chart_id s dimension.chart) dimension.def ≡ None
      by None e =
          let made = dimension_back s dimension in
          let pushed : put same_dimension s.dimensions made ≡ s.dimensions ++ made ∷ [] = put-absent same_dimension made s.dimensions e in
          let more = length-put_all same_dimension (is_of (chart_id s dimension.chart)) (of-alike (chart_id s dimension.chart)) (put same_dimension s.dimensions made) rest in
          let room : length s.dimensions + 0 < 65536 = omega (arith, few, ap length whole, more, ap length pushed, length_push s.dimensions made) in
          let counts = count-put_all same_dimension (is_of (chart_id s dimension.chart)) (of-alike (chart_id s dimension.chart)) (put same_dimension s.dimensions made) rest in
          let own : count_by (is_of (chart_id s dimension.chart)) (s.dimensions ++ made ∷ []) ≡ count_by (is_of (chart_id s dimension.chart)) s.dimensions + 1
          = count_by-push (is_of (chart_id s dimension.chart)) s.dimensions made true (bytes_eq_same (chart_id s dimension.chart) (chart_id s dimension.chart) refl) in
          let own_room : count_by (is_of (chart_id s dimension.chart)) s.dimensions + 0 < 1024
          = omega (arith, may.room e, ap (count_by (is_of (chart_id s dimension.chart))) whole, counts, ap (count_by (is_of (chart_id s dimension.chart))) pushed, own) in
          let full : false ≡ dimensions_full s nothing_open (chart_id s dimension.chart)
          = λ i. sym (lt-leb 1024 (count_by (is_of (chart_id s dimension.chart)) s.dimensions + 0) own_room) i || sym (lt-leb 65536 (length s.dimensions + 0) room) i in
          dimension_refusal-absent s (chart_id s dimension.chart) dimension.def false e full
      by (Some n) e = dimension_refusal-present s (chart_id s dimension.chart) dimension.def n e

  pub dimensions-taken : (s : Registry) (dimensions : List NumberedDimension) → put_all same_dimension s.dimensions (map (dimension_back s) dimensions) ≡ last
      → AllByRecursion (MayDimension s) dimensions → all_taken takes_dimension with_dimension s dimensions ≡ true
  dimensions-taken s [] whole may = refl
  dimensions-taken s (dimension ∷ dimensions) whole may =
      let made = dimension_back s dimension in
      let takes : takes_dimension s dimension ≡ true
      = λ i. lt-ltb dimension.chart (length s.charts) may.0.chart i && may.0.limits i && is_none (not-full s dimension (map (dimension_back s) dimensions) may.0 whole i)
      && number-kept same_dimension (same_dimension made) (same_dimension-alike made.chart made.def.id) s.dimensions (map (dimension_back s) dimensions) last made dimension.series whole
      (dimension-itself made) may.0.number i in
      ap (λ (b : Bool). b && all_taken takes_dimension with_dimension (with_dimension s dimension) dimensions) takes
      ∙ dimensions-taken (with_dimension s dimension) dimensions whole
      (all-weaker (MayDimension s) (MayDimension (with_dimension s dimension)) (λ x one. record {
        chart = one.chart;
        limits = one.limits;
        number = one.number;
        room = λ none. one.room (still-new x none);
      }) dimensions may.1)
    where
      -- what is not there now was not there before
      still-new : (x : NumberedDimension) → series_of (with_dimension s dimension) (chart_id s x.chart) x.def.id ≡ None → series_of s (chart_id s x.chart) x.def.id ≡ None
      still-new x none = by (series_of s (chart_id s x.chart) x.def.id) refl
        where
          by : (found : Option ℕ) → series_of s (chart_id s x.chart) x.def.id ≡ found → found ≡ None
          by None e = refl
          by (Some n) e =
              absurd (none-some n (sym none ∙ position-first (is_dimension (chart_id s x.chart) x.def.id) (put same_dimension s.dimensions (dimension_back s dimension)) n
              (first-put same_dimension (is_dimension (chart_id s x.chart) x.def.id) (same_dimension-alike (chart_id s x.chart) x.def.id) s.dimensions (dimension_back s dimension) n
              (first-from_position (is_dimension (chart_id s x.chart) x.def.id) s.dimensions n e))))
