-- Each beat that a history makes of a Data may follow those before it.
use Rattle.std.proofs.Common.{◌≡◌, ℕ, zero, suc, ◌<◌, Bool, true, false, not, ◌&&◌, ◌||◌, nat_le, nat_lt, List, [], ◌∷◌, ◌++◌, length, map, slice_get, Option, Some, None, All, inl, inr, refl, sym, ap, subst, ◌∙◌, arith}
use Rattle.std.specs.List.{cons_option, filter_map, find, list_all, list_any, after_first, AllByRecursion, IsDistinct}
use Rattle.std.specs.Option.{option_map}
use Rattle.std.specs.Str.{bytes_eq}
use Rattle.std.proofs.lemmas.Bool.{cases_Bool, cases_lt, and_left, and_right, and_parts, or_left, or_right, cond-true, cond-false, eq-eqb, le-leb, leb-true, lt-ltb, le-ltb, not-false, true≢false}
use Rattle.std.proofs.lemmas.List.{length-drop}
use Rattle.std.proofs.lemmas.List.Elements.{All-from_recursion, All-map, All-nil, All-weaker}
use Rattle.std.proofs.lemmas.List.Folds.{list_any_none}
use Rattle.std.proofs.lemmas.Option.{none-some, same_Some, slice_get_within}
use Rattle.history.specs.declared.beat.OpenBeat.{OpenBeat}
use Rattle.history.specs.declared.beat.OpenDim.{OpenDim}
use Rattle.history.specs.declared.beat.OpenRow.{OpenRow}
use Rattle.history.specs.declared.chart.ChartDef.{ChartDef}
use Rattle.history.specs.declared.fault.BlockFault.TheVariants as fault
use Rattle.history.specs.History.{Beat, missing, last, registry_of, Word}
use Rattle.history.specs.Limits.{chart_keeps_limits, dimension_keeps_limits, has_two_parts, is_chart_id, is_dot, is_id, is_one_line, is_short}
use Rattle.history.specs.Refusal.{has_chart}
use Rattle.history.specs.Looking.{same_value}
use Rattle.history.specs.Registry.{Registry, empty, is_chart, same_chart, same_dimension, with_definitions}
use Rattle.history.specs.Regular.{AreApart}
use Rattle.chart_registry.specs.Accepted.{IsWithin}
use Rattle.chart_registry.proofs.AcceptedLemmas.{passed}
use Rattle.chart_registry.proofs.Applying.{has_chart-any}
use Rattle.chart_registry.proofs.Finding.{all-weaker}
use Rattle.chart_registry.proofs.RowsLemmas.{bytes_eq_same, same_text}
use Rattle.beat_entries.specs.Copied.{usual_dimension, IsUsualChart, IsUsualDimension, MayCopy}
use Rattle.beat_entries.specs.Following.{AreOwned, MayFollow}
use Rattle.beat_entries.proofs.FollowLemmas.{all-places}
use Rattle.beat_entries.proofs.Gathering.{all-gathered}
use Rattle.beat_entries.proofs.Slots.{none-all}
use Rattle.replication.specs.declared.beats.Beat.{Beat as SentBeat}
use Rattle.replication.specs.declared.gap.Gap.{Gap as Span}
use Rattle.replication.specs.declared.message.Data.{Data}
use Rattle.replication.specs.declared.named.NamedBeat.{NamedBeat}
use Rattle.replication.specs.declared.named.NamedPoint.{NamedPoint}
use Rattle.replication.specs.declared.names.ChartName.{ChartName}
use Rattle.replication.specs.declared.names.DimName.{DimName}
use Rattle.replication.specs.declared.names.Names.{Names}
use Rattle.replication.specs.Answer.{AreNames}
use Rattle.replication.specs.Copies.{RisesFrom}
use Rattle.replication.specs.Names.{beat_moment, named_beat, named_beats, named_moment}
use Rattle.replication.proofs.NamesLaws.{RisesFrom-map}
use Rattle.link_frames.proofs.PlacesLaw.{all-of}
use Rattle.link_frames.specs.DataForm.{has_id, IsData}
use Rattle.link_frames.specs.DataForm.{is_chart as names_chart, same_chart as same_name, same_dimension as same_series, AreApart as AreNamesApart}
use Rattle.agent_core.specs.Copying.{beats_of, copied_beats, copied_of, copy_refusal, defined_chart, defined_dimension, definitions_in, gap_beat, is_point_of, names_refusal, nothing_defined, numbered_word, numbered_words}
use Rattle.agent_core.specs.Kept.{onto}
use Rattle.agent_core.specs.Roles.{may_copy, role_of}
use Rattle.agent_core.specs.Storing.{MayTake, MayTakeAll}
use Rattle.agent_core.specs.Rules.{changes_grid, changes_grid_of, lacks_chart, too_many_charts, too_many_dimensions, IsOpenBeat}
use Rattle.agent_core.proofs.CopyLemmas.{all-words, HasWords}
use Rattle.agent_core.proofs.FollowLemmas.{keeps, KeepsGrid}
use Rattle.beat_entries.proofs.Within.{within-after}
use Rattle.agent_core.proofs.Within.{names-tests}

-- ---- lists
any-at : {X : Type 0} (p : X → Bool) (xs : List X) (i : ℕ) (x : X) → slice_get xs i ≡ Some x → p x ≡ true → list_any p xs ≡ true
any-at p [] i x is passes = absurd (none-some x is)
any-at p (y ∷ ys) zero x is passes = or_left (p y) (list_any p ys) (ap p (same_Some y x is) ∙ passes)
any-at p (y ∷ ys) (suc i) x is passes = or_right (p y) (list_any p ys) (any-at p ys i x is passes)

any-map : {X Y : Type 0} (p : Y → Bool) (f : X → Y) (xs : List X) → list_any p (map f xs) ≡ list_any (λ x. p (f x)) xs
any-map p f [] = refl
any-map p f (x ∷ xs) = ap (λ rest. p (f x) || rest) (any-map p f xs)

apart-map : {X Y : Type 0} (same : Y → Y → Bool) (f : X → Y) (xs : List X) → IsDistinct (λ a b. same (f a) (f b)) xs → AreApart same (map f xs)
unfolding IsDistinct
apart-map same f [] apart = tt
apart-map {X} {Y} same f (x ∷ xs) apart = (
  list_any_none (same (f x)) (map f xs) (All-map (λ (y : Y). same (f x) y ≡ false) f xs (All-from_recursion (λ (b : X). same (f x) (f b) ≡ false) xs apart.0)),
  apart-map same f xs apart.1,
)

module _ {X Y : Type 0} (f : X → Option Y) where
  pub all-made : (Q : X → Type 0) (P : Y → Type 0) → ((x : X) (y : Y) → Q x → f x ≡ Some y → P y) → (xs : List X) → AllByRecursion Q xs → AllByRecursion P (filter_map f xs)
  all-made Q P each [] all = tt
  all-made Q P each (x ∷ xs) all = by (f x) refl (all-made Q P each xs all.1)
    where
      by : (found : Option Y) → f x ≡ found → AllByRecursion P (filter_map f xs) → AllByRecursion P (cons_option found (filter_map f xs))
      by None is rest = rest
      by (Some y) is rest = (each x y all.0 is, rest)

  pub apart-made : (same : X → X → Bool) (alike : Y → Y → Bool) → ((a b : X) (c d : Y) → f a ≡ Some c → f b ≡ Some d → same a b ≡ false → alike c d ≡ false)
      → (xs : List X) → IsDistinct same xs → AreApart alike (filter_map f xs)
  unfolding IsDistinct
  apart-made same alike each [] apart = tt
  apart-made same alike each (x ∷ xs) apart = by (f x) refl apart.0 (apart-made same alike each xs apart.1)
    where
      by : (found : Option Y) → f x ≡ found → AllByRecursion (λ b. same x b ≡ false) xs → AreApart alike (filter_map f xs) → AreApart alike (cons_option found (filter_map f xs))
      by None is differ rest = rest
      by (Some y) is differ rest = (
        list_any_none (alike y) (filter_map f xs) (
            All-from_recursion (λ (d : Y). alike y d ≡ false) (filter_map f xs)
            (all-made (λ (b : X). same x b ≡ false) (λ (d : Y). alike y d ≡ false) (λ b d other made. each x b y d is made other) xs differ)
            ),
        rest,
      )

-- a thing that stands once stands at one place
module _ {X : Type 0} (same : X → X → Bool) (turned : (a b : X) → same a b ≡ true → same b a ≡ true) where
  differs : (x : X) (xs : List X) (j : ℕ) (b : X) → AllByRecursion (λ y. same x y ≡ false) xs → slice_get xs j ≡ Some b → same x b ≡ true → ⊥
  differs x [] j b all is alike = none-some b is
  differs x (y ∷ ys) zero b all is alike = true≢false (sym alike ∙ ap (same x) (sym (same_Some y b is)) ∙ all.0)
  differs x (y ∷ ys) (suc j) b all is alike = differs x ys j b all.1 is alike

  pub one-place : (xs : List X) (i j : ℕ) (a b : X) → IsDistinct same xs → slice_get xs i ≡ Some a → slice_get xs j ≡ Some b → same a b ≡ true → i ≡ j
  unfolding IsDistinct
  one-place [] i j a b apart at_i at_j alike = absurd (none-some a at_i)
  one-place (x ∷ xs) zero zero a b apart at_i at_j alike = refl
  one-place (x ∷ xs) zero (suc j) a b apart at_i at_j alike =
      absurd (differs x xs j b apart.0 at_j (ap (λ y. same y b) (same_Some x a at_i) ∙ alike))
  one-place (x ∷ xs) (suc i) zero a b apart at_i at_j alike =
      absurd (differs x xs i a apart.0 at_i (ap (λ y. same y a) (same_Some x b at_j) ∙ turned a b alike))
  one-place (x ∷ xs) (suc i) (suc j) a b apart at_i at_j alike = ap suc (one-place xs i j a b apart.1 at_i at_j alike)

-- ---- what names define keeps the limits
after-short : (id : List ℕ) → is_id id ≡ true → is_short (after_first is_dot id) ≡ true
after-short id is =
    let few = leb-true (length id) 200 (and_parts (nat_lt 0 (length id)) (nat_le (length id) 200) (and_parts (nat_lt 0 (length id) && nat_le (length id) 200) (is_one_line id) is).0).1 in
    le-leb (length (after_first is_dot id)) 200 (omega (arith, few, length-drop {A = ℕ}))

id-short : (id : List ℕ) → is_id id ≡ true → is_short id ≡ true
id-short id is = (and_parts (nat_lt 0 (length id)) (nat_le (length id) 200) (and_parts (nat_lt 0 (length id) && nat_le (length id) 200) (is_one_line id) is).0).1

record IsLimited (def : ChartDef) : Type 0 where
  some : 0 < def.update_every
  keeps_limits : chart_keeps_limits def ≡ true

chart-limited : (chart : ChartName) → names_chart chart ≡ true → IsLimited (defined_chart chart)
chart-limited chart is =
    let every = and_parts (is_chart_id chart.id && nat_le (length chart.context) 200 && nat_le 1 chart.update_every) (nat_le chart.update_every 86400) is in
    let least = and_parts (is_chart_id chart.id && nat_le (length chart.context) 200) (nat_le 1 chart.update_every) every.0 in
    let texts = and_parts (is_chart_id chart.id) (nat_le (length chart.context) 200) least.0 in
    let after = after-short chart.id (and_parts (is_id chart.id) (has_two_parts chart.id) texts.0).0 in
    record {
      some = leb-true 1 chart.update_every least.1;
      keeps_limits = λ i. texts.0 i && (after i && true && true && after i && texts.1 i) && every.1 i;
    }

dimension-limited : (id : List ℕ) (hidden : Bool) → is_id id ≡ true → dimension_keeps_limits (usual_dimension id hidden) ≡ true
dimension-limited id hidden is = λ i. is i && id-short id is i && true && true

-- ---- what names define may follow
module _ (names : Names) (charts : list_all names_chart names.charts ≡ true) (ids : list_all has_id names.dimensions ≡ true) (apart : AreNamesApart names) (owned : AreNames names) where
  abbrev defines : OpenBeat
  defines = definitions_in names

  -- a dimension that is defined is of a chart by name
  record IsMadeOf (dimension : DimName) (made : OpenDim) : Type 0 where
    chart : ChartName
    at : slice_get names.charts dimension.chart ≡ Some chart
    is : record { chart = chart.id; def = usual_dimension dimension.id dimension.hidden } ≡ made

  made-of : (dimension : DimName) (made : OpenDim) → defined_dimension names dimension ≡ Some made → IsMadeOf dimension made
  made-of dimension made is = by (slice_get names.charts dimension.chart) refl is
    where
      by : (found : Option ChartName) → slice_get names.charts dimension.chart ≡ found
          → option_map (λ (chart : ChartName). record { chart = chart.id; def = usual_dimension dimension.id dimension.hidden }) found ≡ Some made → IsMadeOf dimension made
      by None at is = absurd (none-some made is)
      by (Some chart) at is = record { chart = chart; at = at; is = same_Some _ made is }

  turned : (a b : ChartName) → same_name a b ≡ true → same_name b a ≡ true
  turned a b same = bytes_eq_same b.id a.id (sym (same_text a.id b.id same))

  series-differ : (a b : DimName) (c d : OpenDim) → defined_dimension names a ≡ Some c → defined_dimension names b ≡ Some d → same_series a b ≡ false → same_dimension c d ≡ false
  series-differ a b c d is_c is_d differ =
      let first = made-of a c is_c in
      let second = made-of b d is_d in
      let charts_are : bytes_eq c.chart d.chart ≡ bytes_eq first.chart.id second.chart.id = λ i. bytes_eq (sym first.is i).chart (sym second.is i).chart in
      let ids_are : bytes_eq c.def.id d.def.id ≡ bytes_eq a.id b.id = λ i. bytes_eq (sym first.is i).def.id (sym second.is i).def.id in
      elim (cases_Bool (bytes_eq c.chart d.chart)) [
        | inl same ↦
            let place = one-place same_name turned names.charts a.chart b.chart first.chart second.chart apart.charts first.at second.at (sym charts_are ∙ same) in
            let other : bytes_eq a.id b.id ≡ false = ap (λ (t : Bool). t && bytes_eq a.id b.id) (sym (eq-eqb a.chart b.chart place)) ∙ differ in
            and_right (bytes_eq c.chart d.chart) (bytes_eq c.def.id d.def.id) (ids_are ∙ other)
        | inr other ↦ and_left (bytes_eq c.chart d.chart) (bytes_eq c.def.id d.def.id) other
      ]

  defined-owned : (registry : Registry) → AreOwned registry defines
  defined-owned registry = record {
    charts = apart-map same_chart defined_chart names.charts apart.charts;
    dimensions = apart-made (defined_dimension names) same_series same_dimension series-differ names.dimensions apart.dimensions;
    owners = All-from_recursion (λ (dimension : OpenDim). has_chart registry defines dimension.chart ≡ true) defines.dimensions
        (all-made (defined_dimension names) (λ (dimension : DimName). dimension.chart < length names.charts) (λ (dimension : OpenDim). has_chart registry defines dimension.chart ≡ true) owner names.dimensions owned);
  }
    where
      owner : (dimension : DimName) (made : OpenDim) → dimension.chart < length names.charts → defined_dimension names dimension ≡ Some made → has_chart registry defines made.chart ≡ true
      owner dimension made within is =
          let of = made-of dimension made is in
          let any : list_any (is_chart of.chart.id) defines.charts ≡ true =
          any-map (is_chart of.chart.id) defined_chart names.charts
          ∙ any-at (λ (chart : ChartName). bytes_eq of.chart.id chart.id) names.charts dimension.chart of.chart of.at (bytes_eq_same of.chart.id of.chart.id refl) in
          let there = has_chart-any registry defines of.chart.id ∙ or_left (list_any (is_chart of.chart.id) defines.charts) (list_any (is_chart of.chart.id) registry.charts) any in
          subst (λ (made : OpenDim). has_chart registry defines made.chart ≡ true) of.is there

  defined-usual : All IsUsualDimension defines.dimensions
  defined-usual = All-from_recursion IsUsualDimension defines.dimensions
      (all-gathered (defined_dimension names) IsUsualDimension (λ dimension made is. subst IsUsualDimension (made-of dimension made is).is refl) names.dimensions)

  charts-usual : All IsUsualChart defines.charts
  charts-usual = All-map IsUsualChart defined_chart names.charts (λ k d lt. refl)

  limited : AllByRecursion (λ (chart : ChartName). IsLimited (defined_chart chart)) names.charts
  limited = all-weaker (λ (chart : ChartName). names_chart chart ≡ true) (λ (chart : ChartName). IsLimited (defined_chart chart)) chart-limited names.charts (all-of names_chart names.charts charts)

  -- they may be handed in as the definitions of a beat are
  pub defined-open : IsOpenBeat defines
  defined-open = record {
    apart_charts = (defined-owned empty).charts;
    apart_dimensions = (defined-owned empty).dimensions;
    apart_rows = tt;
    apart_values = All-nil (λ (row : OpenRow). AreApart same_value row.values);
    grids = All-map (λ (def : ChartDef). 0 < def.update_every) defined_chart names.charts (All-from_recursion (λ (chart : ChartName). 0 < chart.update_every) names.charts
        (all-weaker (λ (chart : ChartName). IsLimited (defined_chart chart)) (λ (chart : ChartName). 0 < chart.update_every) (λ chart of. of.some) names.charts limited));
    chart_limits = All-map (λ (def : ChartDef). chart_keeps_limits def ≡ true) defined_chart names.charts (All-from_recursion (λ (chart : ChartName). chart_keeps_limits (defined_chart chart) ≡ true) names.charts
        (all-weaker (λ (chart : ChartName). IsLimited (defined_chart chart)) (λ (chart : ChartName). chart_keeps_limits (defined_chart chart) ≡ true) (λ chart of. of.keeps_limits) names.charts limited));
    dimension_limits = All-from_recursion (λ (dimension : OpenDim). dimension_keeps_limits dimension.def ≡ true) defines.dimensions
        (all-made (defined_dimension names) (λ (dimension : DimName). has_id dimension ≡ true) (λ (dimension : OpenDim). dimension_keeps_limits dimension.def ≡ true)
        (λ dimension made is at. subst (λ (made : OpenDim). dimension_keeps_limits made.def ≡ true) (made-of dimension made at).is (dimension-limited dimension.id dimension.hidden is))
        names.dimensions (all-of has_id names.dimensions ids));
  }

  -- each dimension is of a chart that they define
  pub defined-has : (registry : Registry) → lacks_chart registry defines ≡ false
  defined-has registry =
      list_any_none (λ (dimension : OpenDim). not (has_chart registry defines dimension.chart)) defines.dimensions
      (All-weaker (λ (dimension : OpenDim). has_chart registry defines dimension.chart ≡ true) (λ (dimension : OpenDim). not (has_chart registry defines dimension.chart) ≡ false) (λ dimension has. ap not has) defines.dimensions
      (defined-owned registry).owners)

  module _ (registry : Registry) (within : IsWithin registry) (free : names_refusal registry defines ≡ None) where
    abbrev after : Registry
    after = with_definitions registry defines.charts defines.dimensions

    tests : (changes_grid registry defines ≡ false) × (too_many_charts registry defines ≡ false) × (too_many_dimensions registry defines ≡ false)
    tests = names-tests registry defines free

    defined-within : IsWithin after
    defined-within = within-after registry defines within tests.1 tests.2

    defined-may : MayFollow registry defines
    defined-may = record {
      grids = defined-open.grids;
      kept = All-from_recursion (KeepsGrid registry) defines.charts
          (all-weaker (λ (def : ChartDef). changes_grid_of registry def ≡ false) (KeepsGrid registry) (keeps registry) defines.charts (none-all (changes_grid_of registry) defines.charts tests.0));
      chart_limits = defined-open.chart_limits;
      dimension_limits = defined-open.dimension_limits;
      charts = defined-within.charts;
      dimensions = defined-within.dimensions;
      each = defined-within.each;
    }

-- ---- the words
words-below : (registry : Registry) (points : List NamedPoint) → All (λ (word : Word). word.series < length registry.dimensions) (numbered_words registry points)
words-below registry points =
    All-from_recursion (λ (word : Word). word.series < length registry.dimensions) (numbered_words registry points)
    (all-places (λ (word : Word). word.series < length registry.dimensions) (numbered_word points) registry.dimensions (λ m dimension word at is. below m dimension word at (find (is_point_of dimension) points) is))
  where
    below : (m : ℕ) (dimension : OpenDim) (word : Word) → slice_get registry.dimensions m ≡ Some dimension → (found : Option NamedPoint)
        → option_map (λ (point : NamedPoint). record { series = m; word = point.word }) found ≡ Some word → word.series < length registry.dimensions
    below m dimension word at None is = absurd (none-some word is)
    below m dimension word at (Some point) is = subst (λ (word : Word). word.series < length registry.dimensions) (same_Some _ word is) (slice_get_within registry.dimensions m dimension at)

-- ---- beats that follow one another

take-at : (g before : List Beat) (beat : Beat) (rest : List Beat) → MayTakeAll g (before ++ beat ∷ rest) → MayTake (onto g before) beat
take-at g [] beat rest all = all.0
take-at g (first ∷ before) beat rest all = take-at (first ∷ g) before beat rest all.1

-- each has a word by the numbers of a registry
abbrev HaveWords : Registry → List NamedBeat → Type 0
HaveWords r beats = AllByRecursion (λ (beat : NamedBeat). 0 < length (numbered_words r beat.points)) beats

some-length : {X : Type 0} (xs : List X) → (xs ≡ [] → ⊥) → 0 < length xs
some-length [] some = absurd (some refl)
some-length (x ∷ xs) some = omega arith

-- beats without definitions, where the registry has what they name
later-follow : (number : ℕ) (r : Registry) (g : List Beat) (beats : List NamedBeat) → IsWithin r → registry_of g ≡ r → may_copy (role_of g) ≡ true → HaveWords r beats → RisesFrom named_moment (last g) beats
    → MayTakeAll g (map (copied_of number r nothing_defined) beats)
later-follow number r g [] within is role some rises = tt
later-follow number r g (beat ∷ beats) within is role some rises = (
  record { role = role; later = rises.0; some = some.0; may = may },
  later-follow number r (copied_of number r nothing_defined beat ∷ g) beats within is refl some.1 rises.1,
)
  where
    now : IsWithin (registry_of g)
    now = subst IsWithin (sym is) within

    may : MayCopy g (record { child = number; moment = beat.moment; charts = []; dimensions = []; words = numbered_words r beat.points })
    may = record {
      owned = record { charts = tt; dimensions = tt; owners = All-nil (λ (dimension : OpenDim). has_chart (registry_of g) nothing_defined dimension.chart ≡ true) };
      may = record {
        grids = All-nil (λ (def : ChartDef). 0 < def.update_every);
        kept = All-nil (KeepsGrid (registry_of g));
        chart_limits = All-nil (λ (def : ChartDef). chart_keeps_limits def ≡ true);
        dimension_limits = All-nil (λ (dimension : OpenDim). dimension_keeps_limits dimension.def ≡ true);
        charts = now.charts;
        dimensions = now.dimensions;
        each = now.each;
      };
      charts = All-nil IsUsualChart;
      dimensions = All-nil IsUsualDimension;
      words = subst (λ (s : Registry). All (λ (word : Word). word.series < length s.dimensions) (numbered_words r beat.points)) (sym is) (words-below r beat.points);
    }

module _ (h : List Beat) (message : Data) (within : IsWithin (registry_of h)) (data_is : IsData message) (free : copy_refusal (registry_of h) (role_of h) message ≡ None) (prev : message.prev ≡ last h) where
  abbrev registry : Registry
  registry = registry_of h

  abbrev all : OpenBeat
  all = definitions_in message.names

  roles : (may_copy (role_of h) ≡ true) × (names_refusal registry all ≡ None)
  roles = let parts = passed (not (may_copy (role_of h))) fault.MixedRoles (names_refusal registry all) free in (not-false (may_copy (role_of h)) parts.0, parts.1)

  abbrev after-all : Registry
  after-all = with_definitions registry all.charts all.dimensions

  -- each beat of the Data has a word
  named-words : (beats : List SentBeat) → AllByRecursion (HasWords message.child registry message.names) beats → HaveWords after-all (named_beats message.names beats)
  named-words [] some = tt
  named-words (beat ∷ beats) some = (some-length (numbered_words after-all (named_beat message.names beat).points) some.0, named-words beats some.1)

  have-words : HaveWords after-all (named_beats message.names message.beats)
  have-words = named-words message.beats (all-words h message data_is message.beats data_is.whole.series data_is.whole.words)

  -- where the registry is that of the history
  copies-follow : (g : List Beat) (beats : List NamedBeat) → registry_of g ≡ registry → may_copy (role_of g) ≡ true → HaveWords after-all beats → RisesFrom named_moment (last g) beats
      → MayTakeAll g (copied_beats message.child (with_definitions registry all.charts all.dimensions) all beats)
  copies-follow g [] is role some rises = tt
  copies-follow g (beat ∷ beats) is role some rises = (
    record {
      role = role;
      later = rises.0;
      some = some.0;
      may = record {
        owned = defined-owned message.names data_is.charts data_is.ids data_is.apart data_is.whole.names (registry_of g);
        may = subst (λ (s : Registry). MayFollow s all) (sym is) (defined-may message.names data_is.charts data_is.ids data_is.apart data_is.whole.names registry within roles.1);
        charts = charts-usual message.names data_is.charts data_is.ids data_is.apart data_is.whole.names;
        dimensions = defined-usual message.names data_is.charts data_is.ids data_is.apart data_is.whole.names;
        words = subst (λ (s : Registry). All (λ (word : Word). word.series < length (with_definitions s all.charts all.dimensions).dimensions) (numbered_words (with_definitions registry all.charts all.dimensions) beat.points)) (sym is)
            (words-below (with_definitions registry all.charts all.dimensions) beat.points);
      };
    },
    later-follow message.child (with_definitions registry all.charts all.dimensions) (copied_of message.child (with_definitions registry all.charts all.dimensions) all beat ∷ g) beats
        (defined-within message.names data_is.charts data_is.ids data_is.apart data_is.whole.names registry within roles.1)
        (ap (λ (s : Registry). with_definitions s all.charts all.dimensions) is) refl some.1 rises.1,
  )

  abbrev copies : List Beat
  copies = copied_beats message.child (with_definitions registry all.charts all.dimensions) all (named_beats message.names message.beats)

  rises : RisesFrom named_moment message.from (named_beats message.names message.beats)
  rises = RisesFrom-map beat_moment named_moment (named_beat message.names) (λ beat. refl) message.from message.beats data_is.moments.rises

  pub all-follow : MayTakeAll h (beats_of registry message)
  unfolding beats_of
  all-follow =
      elim (cases_lt message.prev message.from) [
        | inl lt ↦ subst (λ (spans : List Span). MayTakeAll h (map (gap_beat message.child) spans ++ copies)) (sym (cond-true _ (record { from = message.prev; to = message.from } ∷ []) [] (lt-ltb _ _ lt)))
            ((roles.0, omega (arith, prev, lt)), copies-follow (missing (record { child = message.child; from = message.prev; to = message.from }) ∷ h) (named_beats message.names message.beats) refl refl have-words rises)
        | inr ge ↦ subst (λ (spans : List Span). MayTakeAll h (map (gap_beat message.child) spans ++ copies)) (sym (cond-false _ (record { from = message.prev; to = message.from } ∷ []) [] (le-ltb _ _ ge)))
            (copies-follow h (named_beats message.names message.beats) refl roles.0 have-words (let same : message.from ≡ last h = omega (arith, prev, ge, data_is.from) in subst (λ from. RisesFrom named_moment from (named_beats message.names message.beats)) same rises))
      ]

  -- each beat that the history makes of the Data may follow the history with those before it
  pub each-follows : (before : List Beat) (beat : Beat) (rest : List Beat) → beats_of registry message ≡ before ++ beat ∷ rest → MayTake (onto h before) beat
  each-follows before beat rest is = take-at h before beat rest (subst (MayTakeAll h) is all-follow)
