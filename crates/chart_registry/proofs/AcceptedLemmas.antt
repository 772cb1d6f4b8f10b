-- What the accepted lines of a text leave: of the history after them, and of the open beat and block.
use Rattle.std.proofs.Common.{◌≡◌, ℕ, ◌+◌, ◌<◌, ◌≤◌, Bool, true, false, not, ◌||◌, nat_le, List, [], ◌∷◌, ◌++◌, length, All, Option, Some, None, IfSome, IsSome, is_some, is_none, ℤ, refl, sym, ap, ◌∙◌, arith, true≢false, if◌then◌else◌}
use Rattle.std.specs.List.{count_by, filter, list_any, AllByRecursion}
use Rattle.std.specs.Option.{option_map_or}
use Rattle.std.specs.Str.{bytes_eq}
use Rattle.std.proofs.lemmas.Bool.{leb-false, not-false}
use Rattle.std.proofs.lemmas.List.Elements.{All-from_recursion, recursion_from_All, All-nil, All-push, All-filter, All-weaker}
use Rattle.std.proofs.lemmas.Option.{none-some}
use Rattle.history.specs.declared.beat.OpenBeat.{OpenBeat}
use Rattle.history.specs.declared.beat.OpenDim.{OpenDim}
use Rattle.history.specs.declared.beat.OpenRow.{OpenRow}
use Rattle.history.specs.declared.beat.OpenValue.{OpenValue}
use Rattle.history.specs.declared.chart.ChartDef.{ChartDef}
use Rattle.history.specs.declared.dimension.DimDef.{DimDef}
use Rattle.history.specs.declared.fault.BlockFault.TheVariants as fault
use Rattle.history.specs.declared.line.Line.{Line}
use Rattle.history.specs.declared.line.Line.TheVariants as line
use Rattle.history.specs.History.{Beat, child, last, registry_of}
use Rattle.history.specs.Looking.{beat, charts, dimensions, is_value, last_chart, open_block, rows, same_value, set_value, values, with_grid}
use Rattle.history.specs.Put.{put, put_all}
use Rattle.history.specs.Read.{history_at}
use Rattle.history.specs.Refusal.{dimension_refusal, dimensions_full, has_chart, has_dimension, has_row, is_new_dimension}
use Rattle.history.specs.Registry.{Registry, is_chart, is_of, is_dimension, same_chart, same_dimension, chart_of, series_of, with_definitions}
use Rattle.chart_registry.proofs.Applying.{all-put, any-put, any-put_all, has_chart-applied, same_chart-alike}
use Rattle.chart_registry.proofs.Places.{list_any-position}
use Rattle.chart_registry.proofs.RegistryLemmas.{or_false}
use Rattle.chart_registry.proofs.RowsLemmas.{same_text, bytes_eq_same}
use Rattle.history.specs.Regular.{AreApart, IsRegular, same_row}
use Rattle.chart_registry.specs.Accepted.{AreAccepted, HasFew}
use Rattle.chart_registry.proofs.ApartLemmas.{apart-filter, apart-push, apart-put}
use Rattle.chart_registry.proofs.Finding.{all-weaker}
use Rattle.chart_registry.proofs.Growing.{same_dimension-alike}
use Rattle.chart_registry.proofs.FewLemmas.{HaveFew, count_of, few-closed, few-known, few-room, values-few}

-- ---- what is not refused
pub passed : {A : Type 0} (b : Bool) (x : A) (rest : Option A) → (if b then Some x else rest) ≡ None → (b ≡ false) × (rest ≡ None)
passed true x rest e = absurd (none-some x (sym e))
passed false x rest e = (refl, e)

pub wanted : {A : Type 0} (b : Bool) (x : A) → (if b then None else Some x) ≡ None → b ≡ true
wanted true x e = refl
wanted false x e = absurd (none-some x (sym e))

-- ---- a registry, and a list, that take definitions
or_more : (a b c : Bool) → (a || b) ≡ true → (a || (b || c)) ≡ true
or_more true b c e = refl
or_more false true c e = refl
or_more false false c e = absurd (true≢false (sym e))

more-put : {A : Type 0} (same : A → A → Bool) (p : A → Bool) → ((x y : A) → same x y ≡ true → p x ≡ p y) → (xs ys : List A) (y : A)
    → list_any p (put_all same xs ys) ≡ true → list_any p (put_all same xs (put same ys y)) ≡ true
more-put same p alike xs ys y known =
    any-put_all same p alike xs (put same ys y) ∙ ap (λ (b : Bool). list_any p xs || b) (any-put same p alike ys y)
    ∙ or_more (list_any p xs) (list_any p ys) (p y) (sym (any-put_all same p alike xs ys) ∙ known)

-- a registry has all that another has
record HasAll (old new : Registry) : Type 0 where
  pub charts : (id : List ℕ) → list_any (is_chart id) old.charts ≡ true → list_any (is_chart id) new.charts ≡ true
  pub dimensions : (chart id : List ℕ) → list_any (is_dimension chart id) old.dimensions ≡ true → list_any (is_dimension chart id) new.dimensions ≡ true

-- ---- a row of which all is known
record IsKnown (registry : Registry) (row : OpenRow) : Type 0 where
  pub chart : list_any (is_chart row.chart) registry.charts ≡ true
  pub values : AllByRecursion (λ (value : OpenValue). list_any (is_dimension row.chart value.id) registry.dimensions ≡ true) row.values
  pub apart : AreApart same_value row.values

known-more : (old new : Registry) → HasAll old new → (row : OpenRow) → IsKnown old row → IsKnown new row
known-more old new more row known = record {
  chart = more.charts row.chart known.chart;
  values = all-weaker (λ (value : OpenValue). list_any (is_dimension row.chart value.id) old.dimensions ≡ true) (λ (value : OpenValue). list_any (is_dimension row.chart value.id) new.dimensions ≡ true)
      (λ value there. more.dimensions row.chart value.id there) row.values known.values;
  apart = known.apart;
}

abbrev row_of : List ℕ → List OpenValue → OpenRow
row_of chart vs = record { chart = chart; values = vs }

-- what is set in a block whose chart is there
module _ (registry : Registry) (chart : List ℕ) (vs : List OpenValue) (id : List ℕ) (anomalous : Bool) (known : IsKnown registry (row_of chart vs)) (there : list_any (is_dimension chart id) registry.dimensions ≡ true) where
  known-set : (value : Option ℤ) → IsKnown registry (row_of chart (set_value vs id value anomalous))
  known-set (Some value) = record {
    chart = known.chart;
    values = all-put same_value (λ (value : OpenValue). list_any (is_dimension chart value.id) registry.dimensions ≡ true) vs (record { id = id; value = value; anomalous = anomalous }) known.values there;
    apart = apart-put same_value (λ x. bytes_eq_same x.id x.id refl) (λ x y e. ap is_value (same_text x.id y.id e)) (λ z x y e. ap (bytes_eq z.id) (same_text x.id y.id e))
        vs (record { id = id; value = value; anomalous = anomalous }) known.apart;
  }
  known-set None =
      let P = λ (value : OpenValue). list_any (is_dimension chart value.id) registry.dimensions ≡ true in
      let kept = λ (value : OpenValue). not (is_value id value) in
      record {
        chart = known.chart;
        values = recursion_from_All P (filter kept vs) (All-filter kept P vs (All-from_recursion P vs known.values));
        apart = apart-filter same_value kept vs known.apart;
      }

pub same_row-left : (x y : OpenRow) → same_row x y ≡ true → same_row x ≡ same_row y
same_row-left x y e = λ i row. bytes_eq (same_text x.chart y.chart e i) row.chart

-- a dimension that is not refused leaves no chart with too many
pub few-taken : (registry : Registry) (open_beat : OpenBeat) → HaveFew registry open_beat.dimensions → (dimension : OpenDim)
    → dimension_refusal registry open_beat dimension.chart dimension.def ≡ None → HaveFew registry (put same_dimension open_beat.dimensions dimension)
few-taken registry open_beat few dimension free = by (has_dimension registry open_beat dimension.chart dimension.def.id) refl free
  where
    by : (b : Bool) → has_dimension registry open_beat dimension.chart dimension.def.id ≡ b
        → (if b then None else if dimensions_full registry open_beat dimension.chart then Some fault.TooManyDimensions else None) ≡ None
        → HaveFew registry (put same_dimension open_beat.dimensions dimension)
    by true e free = few-known registry open_beat.dimensions few dimension e
    by false e free =
        let room = passed (dimensions_full registry open_beat dimension.chart) fault.TooManyDimensions None free in
        let first = or_false (nat_le 1024 (count_of registry open_beat.dimensions dimension.chart)) (nat_le 65536 (length registry.dimensions + count_by (is_new_dimension registry) open_beat.dimensions)) room.0 in
        few-room registry open_beat.dimensions few dimension (omega (arith, leb-false 1024 (count_of registry open_beat.dimensions dimension.chart) first.0))

-- ---- what holds after each line
-- A registry with these definitions knows all of these rows, which are apart, and all of the open block,
-- whose chart has no row, and no chart of it has too many dimensions.
record IsSound (registry : Registry) (cs : List ChartDef) (ds : List OpenDim) (rs : List OpenRow) (block : Option (List ℕ)) (vs : List OpenValue) : Type 0 where
  pub apart : AreApart same_row rs
  pub rows : All (IsKnown (with_definitions registry cs ds)) rs
  pub opened : IfSome block (λ (chart : List ℕ). IsKnown (with_definitions registry cs ds) (row_of chart vs) × (list_any (same_row (row_of chart vs)) rs ≡ false))
  pub few : HaveFew registry ds

-- the same rows and block, where more is defined
module _ (registry : Registry) (cs cs' : List ChartDef) (ds ds' : List OpenDim) (rs : List OpenRow) (block : Option (List ℕ)) (vs : List OpenValue) (sound : IsSound registry cs ds rs block vs) where
  sound-more : HasAll (with_definitions registry cs ds) (with_definitions registry cs' ds') → HaveFew registry ds' → IsSound registry cs' ds' rs block vs
  sound-more more few = record {
    apart = sound.apart;
    rows = All-weaker (IsKnown (with_definitions registry cs ds)) (IsKnown (with_definitions registry cs' ds')) (known-more (with_definitions registry cs ds) (with_definitions registry cs' ds') more) rs sound.rows;
    opened = by block sound.opened;
    few = few;
  }
    where
      by : (block : Option (List ℕ)) → IfSome block (λ (chart : List ℕ). IsKnown (with_definitions registry cs ds) (row_of chart vs) × (list_any (same_row (row_of chart vs)) rs ≡ false))
          → IfSome block (λ (chart : List ℕ). IsKnown (with_definitions registry cs' ds') (row_of chart vs) × (list_any (same_row (row_of chart vs)) rs ≡ false))
      by None there = tt
      by (Some chart) there = (known-more (with_definitions registry cs ds) (with_definitions registry cs' ds') more (row_of chart vs) there.0, there.1)

module _ (registry : Registry) (cs : List ChartDef) (ds : List OpenDim) (rs : List OpenRow) (block : Option (List ℕ)) (vs : List OpenValue) (sound : IsSound registry cs ds rs block vs) where
  abbrev open_now : OpenBeat
  open_now = record { charts = cs; dimensions = ds; rows = rs }

  known-dimension : (chart id : List ℕ) → has_dimension registry open_now chart id ≡ true → list_any (is_dimension chart id) (put_all same_dimension registry.dimensions ds) ≡ true
  known-dimension chart id there = any-put_all same_dimension (is_dimension chart id) (same_dimension-alike chart id) registry.dimensions ds ∙ there

  sound-chart : (def : ChartDef) → IsSound registry (put same_chart cs def) ds rs block vs
  sound-chart def = sound-more registry cs (put same_chart cs def) ds ds rs block vs sound
      (record {
        charts = λ id. more-put same_chart (is_chart id) (same_chart-alike id) registry.charts cs def;
        dimensions = λ chart id there. there;
      })
      sound.few

  sound-dimension : (def : DimDef) (chart : List ℕ) → dimension_refusal registry open_now chart def ≡ None → IsSound registry cs (put same_dimension ds (record { chart = chart; def = def })) rs block vs
  sound-dimension def chart free = sound-more registry cs cs ds (put same_dimension ds (record { chart = chart; def = def })) rs block vs sound
      (record {
        charts = λ id there. there;
        dimensions = λ chart' id. more-put same_dimension (is_dimension chart' id) (same_dimension-alike chart' id) registry.dimensions ds (record { chart = chart; def = def });
      })
      (few-taken registry open_now sound.few (record { chart = chart; def = def }) free)

  sound-last : (def : DimDef) (chart : Option (List ℕ)) → option_map_or (λ chart. dimension_refusal registry open_now chart def) chart (Some fault.NoChart) ≡ None
      → IsSound registry cs (option_map_or (λ chart. put same_dimension ds (record { chart = chart; def = def })) chart ds) rs block vs
  sound-last def None free = sound
  sound-last def (Some chart) free = sound-dimension def chart free

  sound-begin : (chart : List ℕ) → has_chart registry open_now chart ≡ true → has_row open_now chart ≡ false → IsSound registry cs ds rs (Some chart) []
  sound-begin chart there none = record {
    apart = sound.apart;
    rows = sound.rows;
    opened = (record { chart = has_chart-applied registry open_now chart ∙ there; values = tt; apart = tt }, none);
    few = sound.few;
  }

  -- the block is dropped
  sound-flush : IsSound registry cs ds rs None vs
  sound-flush = record { apart = sound.apart; rows = sound.rows; opened = tt; few = sound.few }

  -- the beat is closed
  sound-moment : IsSound (with_definitions registry cs ds) [] [] [] block vs
  sound-moment = record {
    apart = tt;
    rows = All-nil (IsKnown (with_definitions registry cs ds));
    opened = by block sound.opened;
    few = λ chart. omega (arith, few-closed registry ds chart, sound.few chart);
  }
    where
      by : (block : Option (List ℕ)) → IfSome block (λ (chart : List ℕ). IsKnown (with_definitions registry cs ds) (row_of chart vs) × (list_any (same_row (row_of chart vs)) rs ≡ false))
          → IfSome block (λ (chart : List ℕ). IsKnown (with_definitions registry cs ds) (row_of chart vs) × (list_any (same_row (row_of chart vs)) [] ≡ false))
      by None there = tt
      by (Some chart) there = (there.0, refl)

module _ (registry : Registry) (cs : List ChartDef) (ds : List OpenDim) (rs : List OpenRow) where
  sound-set : (block : Option (List ℕ)) (vs : List OpenValue) (id : List ℕ) (value : Option ℤ) (anomalous : Bool) → IsSound registry cs ds rs block vs
      → option_map_or (λ chart. if has_dimension registry (record { charts = cs; dimensions = ds; rows = rs }) chart id then None else Some fault.NoDimension) block (Some fault.NoBlock) ≡ None
      → IsSound registry cs ds rs block (set_value vs id value anomalous)
  sound-set None vs id value anomalous sound free = absurd (none-some fault.NoBlock (sym free))
  sound-set (Some chart) vs id value anomalous sound free =
      let there = wanted (has_dimension registry (record { charts = cs; dimensions = ds; rows = rs }) chart id) fault.NoDimension free in
      record {
        apart = sound.apart;
        rows = sound.rows;
        opened = (known-set (with_definitions registry cs ds) chart vs id anomalous sound.opened.0 (known-dimension registry cs ds rs (Some chart) vs sound chart id there) value, sound.opened.1);
        few = sound.few;
      }

  sound-end : (block : Option (List ℕ)) (vs : List OpenValue) → IsSound registry cs ds rs block vs → (if is_none block then Some fault.NoBlock else None) ≡ None
      → IsSound registry cs ds (rs ++ option_map_or (λ chart. record { chart = chart; values = vs } ∷ []) block []) None vs
  sound-end None vs sound free = absurd (none-some fault.NoBlock (sym free))
  sound-end (Some chart) vs sound free = record {
    apart = apart-push same_row (λ x. bytes_eq_same x.chart x.chart refl) same_row-left rs (row_of chart vs) sound.apart sound.opened.1;
    rows = All-push (IsKnown (with_definitions registry cs ds)) rs (row_of chart vs) sound.rows sound.opened.0;
    opened = tt;
    few = sound.few;
  }

-- ---- a text
module _ (every : ℕ) (h : List Beat) where
  abbrev now : List Line → Registry
  now past = registry_of (history_at every h past)

  abbrev Sound : List Line → Type 0
  Sound past = IsSound (now past) (charts every past) (dimensions past) (rows past) (open_block past) (values past)

  sound-all : (past : List Line) → HasFew (registry_of h) → AreAccepted every h past → Sound past
  sound-all [] few accepted = record { apart = tt; rows = All-nil (IsKnown (with_definitions (registry_of h) [] [])); opened = tt; few = λ chart. omega (arith, few chart) }
  sound-all (line.Chart def ∷ past) few accepted =
      sound-chart (now past) (charts every past) (dimensions past) (rows past) (open_block past) (values past) (sound-all past few accepted.1) (with_grid every def)
  sound-all (line.Dimension def ∷ past) few accepted =
      sound-last (now past) (charts every past) (dimensions past) (rows past) (open_block past) (values past) (sound-all past few accepted.1) def (last_chart past)
      (passed (is_some (open_block past)) fault.OpenBlock _ accepted.0).1
  sound-all (line.Begin chart ∷ past) few accepted =
      let free = passed (is_some (open_block past)) fault.OpenBlock _ accepted.0 in
      let there = passed (not (has_chart (now past) (beat every past) chart)) fault.NoChart _ free.1 in
      let none = passed (has_row (beat every past) chart) fault.SecondBlock None there.1 in
      sound-begin (now past) (charts every past) (dimensions past) (rows past) (open_block past) (values past) (sound-all past few accepted.1) chart
      (not-false (has_chart (now past) (beat every past) chart) there.0) none.0
  sound-all (line.Set id value anomalous ∷ past) few accepted =
      sound-set (now past) (charts every past) (dimensions past) (rows past) (open_block past) (values past) id value anomalous (sound-all past few accepted.1) accepted.0
  sound-all (line.End ∷ past) few accepted =
      sound-end (now past) (charts every past) (dimensions past) (rows past) (open_block past) (values past) (sound-all past few accepted.1) accepted.0
  sound-all (line.Flush ∷ past) few accepted =
      sound-flush (now past) (charts every past) (dimensions past) (rows past) (open_block past) (values past) (sound-all past few accepted.1)
  sound-all (line.Disable ∷ past) few accepted = sound-all past few accepted.1
  sound-all (line.Moment moment ∷ past) few accepted =
      sound-moment (now past) (charts every past) (dimensions past) (rows past) (open_block past) (values past) (sound-all past few accepted.1)
  sound-all (line.Query text ∷ past) few accepted = sound-all past few accepted.1
  sound-all (line.Skipped ∷ past) few accepted = sound-all past few accepted.1

  -- a beat that is closed
  pub text-regular : (past : List Line) (moment : ℕ) → HasFew (registry_of h) → AreAccepted every h (line.Moment moment ∷ past)
      → IsRegular (registry_of (history_at every h (line.Moment moment ∷ past))) (beat every past)
  text-regular past moment few accepted =
      let closed = registry_of (history_at every h (line.Moment moment ∷ past)) in
      let sound : Sound past = sound-all past few accepted.1 in
      record {
        rows = sound.apart;
        values = All-weaker (IsKnown closed) (λ (row : OpenRow). AreApart same_value row.values) (λ row known. known.apart) (rows past) sound.rows;
        charts = All-weaker (IsKnown closed) (λ (row : OpenRow). IsSome (chart_of closed row.chart)) (λ row known. list_any-position (is_chart row.chart) closed.charts ∙ known.chart) (rows past) sound.rows;
        dimensions = All-weaker (IsKnown closed) (λ (row : OpenRow). All (λ (value : OpenValue). IsSome (series_of closed row.chart value.id)) row.values) (λ row known.
            All-from_recursion (λ (value : OpenValue). IsSome (series_of closed row.chart value.id)) row.values
            (all-weaker (λ (value : OpenValue). list_any (is_dimension row.chart value.id) closed.dimensions ≡ true) (λ (value : OpenValue). IsSome (series_of closed row.chart value.id))
            (λ value there. list_any-position (is_dimension row.chart value.id) closed.dimensions ∙ there) row.values known.values)) (rows past) sound.rows;
        limit = All-weaker (IsKnown closed) (λ (row : OpenRow). length row.values ≤ 1024) (λ row known. omega (
          arith,
          values-few (λ (dimension : OpenDim). dimension.def.id) closed.dimensions (is_of row.chart) row.values known.apart known.values,
          few-closed (now past) (dimensions past) row.chart,
          sound.few row.chart,
        )) (rows past) sound.rows;
      }

  -- no chart comes to have too many with the open beat
  pub text-open_few : (past : List Line) → HasFew (registry_of h) → AreAccepted every h past → HaveFew (now past) (dimensions past)
  text-open_few past few accepted = let sound : Sound past = sound-all past few accepted in sound.few

  pub text-few : (past : List Line) → HasFew (registry_of h) → AreAccepted every h past → HasFew (registry_of (history_at every h past))
  text-few past few accepted chart = let sound : Sound past = sound-all past few accepted in omega (arith, sound.few chart)

  -- a MOMENT says a later moment than the one before
  pub later-free : (past : List Line) (moment : ℕ) → AreAccepted every h (line.Moment moment ∷ past) → last (history_at every h past) < moment
  later-free past moment accepted =
      let after = history_at every h past in
      let free = passed (is_some (open_block past)) fault.OpenBlock _ accepted.0 in
      let own = passed (is_some (child after)) fault.MixedRoles _ free.1 in
      let later = passed (nat_le moment (last after)) (fault.MomentOrder (last after)) _ own.1 in
      omega (arith, leb-false moment (last after) later.0)
