-- The registry of a history from its charts and dimensions by number.
use Rattle.std.proofs.Common.{◌≡◌, ℕ, ◌+◌, ◌<◌, ◌≤◌, Bool, true, false, not, cond, ◌||◌, List, [], ◌∷◌, ◌++◌, length, map, position, find, Option, Some, None, is_some, refl, sym, ap, subst, ◌∙◌, append_assoc, arith, true≢false, lt-ltb, if◌then◌else◌}
use Rattle.std.specs.List.{cons_option, enumerate_from, filter_map, list_any, position_or_len, AllByRecursion}
use Rattle.std.specs.Option.{option_map, option_map_or}
use Rattle.std.specs.Str.{bytes_eq}
use Rattle.std.proofs.lemmas.List.{append-nil}
use Rattle.std.proofs.lemmas.List.Elements.{All-from_recursion, All-weaker, recursion_from_All}
use Rattle.std.proofs.lemmas.List.Folds.{list_any-append}
use Rattle.std.proofs.lemmas.Option.{none-some}
use Rattle.history.specs.declared.beat.OpenBeat.{OpenBeat}
use Rattle.history.specs.declared.beat.OpenDim.{OpenDim}
use Rattle.history.specs.declared.beat.OpenRow.{OpenRow}
use Rattle.history.specs.declared.chart.ChartDef.{ChartDef}
use Rattle.history.specs.declared.numbered.NumberedBeat.{NumberedBeat}
use Rattle.history.specs.declared.row.Row.{Row}
use Rattle.history.specs.History.{Beat, collected, copied, health, missing, registry_of}
use Rattle.history.specs.Limits.{chart_keeps_limits, dimension_keeps_limits}
use Rattle.history.specs.Numbered.{numbered_beat, numbered_charts, numbered_dimension, numbered_dimensions, numbered_values}
use Rattle.history.specs.Put.{put, put_all}
use Rattle.history.specs.Refusal.{has_chart}
use Rattle.history.specs.Registry.{Registry, empty, is_chart, is_dimension, same_chart, same_dimension, with_definitions}
use Rattle.history.specs.Regular.{AreApart}
use Rattle.chart_registry.specs.Accepted.{HasFew}
use Rattle.chart_registry.proofs.ApartLemmas.{apart-charts, apart-registry, chart-left, itself, left, turned}
use Rattle.chart_registry.proofs.Applying.{some-find}
use Rattle.chart_registry.proofs.Finding.{all-weaker}
use Rattle.chart_registry.proofs.RegistryLemmas.{or_false}
use Rattle.beat_entries.specs.Following.{AreOwned, MayFollow}
use Rattle.beat_entries.specs.Next.{goes_on, with_numbered}
use Rattle.beat_entries.proofs.CopiedLemmas.{regular-without}
use Rattle.beat_entries.proofs.DefinedLemmas.{chart-alike, chart-itself, dimension-alike}
use Rattle.beat_entries.proofs.FollowLemmas.{beat-goes-on, last-is}
use Rattle.beat_entries.proofs.PutLemmas.{self-any}
use Rattle.beat_entries.proofs.Slots.{all-both}
use Rattle.store_core.specs.declared.beats.beat.Beat.{Beat as StoreBeat}
use Rattle.agent_core.specs.Kept.{AreBeatsOf}
use Rattle.agent_core.specs.Rules.{HasLimits}
use Rattle.agent_core.specs.Sides.{all_charts, all_dimensions, chart_at, dimension_at}
use Rattle.agent_core.proofs.FollowLemmas.{follows-may}
use Rattle.agent_core.proofs.LastSeenLemmas.{only-defined}
use Rattle.agent_core.proofs.LimitLemmas.{grid-kept, none-limits, IsGrid}
use Rattle.agent_core.proofs.Lists.{all-put_all}
use Rattle.agent_core.proofs.Within.{within-of}

-- ---- lists in which each thing stands once
module _ {A : Type 0} (same : A → A → Bool) (itself_ : (x : A) → same x x ≡ true) (left_ : (x y : A) → same x y ≡ true → same x ≡ same y) where
  -- what none of them is comes to the end
  put-end : (x : A) (ys : List A) → list_any (same x) ys ≡ false → put same ys x ≡ ys ++ x ∷ []
  put-end x [] none = refl
  put-end x (y ∷ ys) none =
      let parts = or_false (same x y) (list_any (same x) ys) none in
      ap (λ (b : Bool). if b then x ∷ ys else y ∷ put same ys x) parts.0 ∙ ap (λ (l : List A). y ∷ l) (put-end x ys parts.1)

  absent : (ys : List A) (x : A) (xs : List A) → AreApart same (ys ++ x ∷ xs) → list_any (same x) ys ≡ false
  absent [] x xs apart = refl
  absent (y ∷ ys) x xs apart =
      let others = or_false (list_any (same y) ys) (list_any (same y) (x ∷ xs)) (sym (list_any-append (same y) ys (x ∷ xs)) ∙ apart.0) in
      let first = turned same itself_ left_ y x (or_false (same y x) (list_any (same y) xs) others.1).0 in
      λ i. first i || absent ys x xs apart.1 i

  put-more : (xs ys : List A) → AreApart same (ys ++ xs) → put_all same ys xs ≡ ys ++ xs
  put-more [] ys apart = sym (append-nil ys)
  put-more (x ∷ xs) ys apart =
      ap (λ (l : List A). put_all same l xs) (put-end x ys (absent ys x xs apart))
      ∙ put-more xs (ys ++ x ∷ []) (subst (AreApart same) (sym (append_assoc ys (x ∷ []) xs)) apart) ∙ append_assoc ys (x ∷ []) xs

  pub put-once : (xs : List A) → AreApart same xs → put_all same [] xs ≡ xs
  put-once xs apart = put-more xs [] apart

all-of : {A : Type 0} (P : A → Type 0) → ((x : A) → P x) → (xs : List A) → AllByRecursion P xs
all-of P each [] = tt
all-of P each (x ∷ xs) = (each x, all-of P each xs)

-- all of a list are picked
picked-all : {A C : Type 0} (P : A → Type 0) (pick : ℕ × A → Option C) (made : ℕ × A → C) → ((k : ℕ) (a : A) → P a → pick (k, a) ≡ Some (made (k, a)))
    → (xs : List A) (n : ℕ) → AllByRecursion P xs → filter_map pick (enumerate_from n xs) ≡ map made (enumerate_from n xs)
picked-all P pick made each [] n all = refl
picked-all P pick made each (x ∷ xs) n all = λ i. cons_option (each n x all.0 i) (picked-all P pick made each xs (n + 1) all.1 i)

-- ---- the place of a chart
pub position-within : {A : Type 0} (p : A → Bool) (xs : List A) → list_any p xs ≡ true → position_or_len p xs < length xs
position-within p [] any = absurd (true≢false (sym any))
position-within {A} p (x ∷ xs) any = by (p x) any (position-within p xs)
  where
    by : (b : Bool) → (b || list_any p xs) ≡ true → (list_any p xs ≡ true → position_or_len p xs < length xs) → cond (not b) (1 + position_or_len p xs) 0 < length (x ∷ xs)
    by true any rest = omega arith
    by false any rest = omega (arith, rest any)

place-there : {A : Type 0} (p : A → Bool) (xs : List A) → list_any p xs ≡ true → position p xs ≡ Some (position_or_len p xs)
place-there p xs any = ap (λ (b : Bool). cond b (Some (position_or_len p xs)) None) (lt-ltb (position_or_len p xs) (length xs) (position-within p xs any))

-- ---- a registry as a history has it
abbrev pub HasOwners : Registry → Type 0
HasOwners registry = AllByRecursion (λ (dimension : OpenDim). list_any (is_chart dimension.chart) registry.charts ≡ true) registry.dimensions

pub record IsOfHistory (registry : Registry) : Type 0 where
  pub charts : AreApart same_chart registry.charts
  pub dimensions : AreApart same_dimension registry.dimensions
  pub limits : HasLimits registry
  pub owners : HasOwners registry
  pub few : HasFew registry

-- what a side says of it
abbrev pub defining : Registry → NumberedBeat
defining registry = record { moment = 0; charts = all_charts registry; dimensions = all_dimensions registry; rows = [] }

module _ (registry : Registry) (sound : IsOfHistory registry) where
  -- all of it as one beat
  abbrev whole : OpenBeat
  whole = record { charts = registry.charts; dimensions = registry.dimensions; rows = [] }

  same-again : with_definitions empty registry.charts registry.dimensions ≡ registry
  same-again = λ i. record {
    charts = put-once same_chart chart-itself chart-left registry.charts sound.charts i;
    dimensions = put-once same_dimension itself left registry.dimensions sound.dimensions i;
  }

  charts-all : numbered_charts registry whole ≡ all_charts registry
  charts-all =
      picked-all (λ (def : ChartDef). list_any (is_chart def.id) registry.charts ≡ true)
      (λ (place : ℕ × ChartDef). if list_any (is_chart place.1.id) registry.charts then Some (record { number = place.0; def = place.1 }) else None) chart_at
      (λ k def there. ap (λ (b : Bool). if b then Some (chart_at (k, def)) else None) there) registry.charts 0 (self-any same_chart chart-itself chart-alike registry.charts)

  abbrev IsThere : OpenDim → Type 0
  IsThere dimension = list_any (is_dimension dimension.chart dimension.def.id) registry.dimensions ≡ true

  abbrev IsOwned : OpenDim → Type 0
  IsOwned dimension = list_any (is_chart dimension.chart) registry.charts ≡ true

  dimensions-all : numbered_dimensions registry whole ≡ all_dimensions registry
  dimensions-all =
      picked-all (λ (dimension : OpenDim). IsThere dimension × IsOwned dimension)
      (λ (place : ℕ × OpenDim). if list_any (is_dimension place.1.chart place.1.def.id) registry.dimensions then numbered_dimension registry place.0 place.1 else None) (dimension_at registry)
      (λ k dimension both.
      ap (λ (b : Bool). if b then numbered_dimension registry k dimension else None) both.0
      ∙ ap (option_map (λ (number : ℕ). record { series = k; chart = number; def = dimension.def })) (place-there (is_chart dimension.chart) registry.charts both.1))
      registry.dimensions 0 (all-both IsThere IsOwned registry.dimensions (self-any same_dimension itself dimension-alike registry.dimensions) sound.owners)

  no-rows : (charts : List ChartDef) (n : ℕ)
      → filter_map {Y = Row} (λ (place : ℕ × ChartDef). option_map (λ (row : OpenRow). record { chart = place.0; values = numbered_values registry row }) (find (λ (row : OpenRow). bytes_eq place.1.id row.chart) []))
      (enumerate_from n charts) ≡ []
  no-rows [] n = refl
  no-rows (def ∷ charts) n = no-rows charts (n + 1)

  numbered-is : numbered_beat registry 0 whole ≡ defining registry
  numbered-is = λ i. record { moment = 0; charts = charts-all i; dimensions = dimensions-all i; rows = no-rows registry.charts 0 i }

  -- ---- it may be defined
  or-none : {A : Type 0} (x : Option A) → is_some (option_map_or Some x None) ≡ is_some x
  or-none None = refl
  or-none (Some x) = refl

  owner-has : (dimension : OpenDim) → IsOwned dimension → has_chart empty whole dimension.chart ≡ true
  owner-has dimension there = or-none (find (is_chart dimension.chart) registry.charts) ∙ some-find (is_chart dimension.chart) registry.charts ∙ there

  is-owned : AreOwned empty whole
  is-owned = record {
    charts = sound.charts;
    dimensions = sound.dimensions;
    owners = All-from_recursion (λ (dimension : OpenDim). has_chart empty whole dimension.chart ≡ true) registry.dimensions
        (all-weaker IsOwned (λ (dimension : OpenDim). has_chart empty whole dimension.chart ≡ true) owner-has registry.dimensions sound.owners);
  }

  abbrev KeepsGrid : ChartDef → Type 0
  KeepsGrid def = (old : ChartDef) → find (is_chart def.id) [] ≡ Some old → old.update_every ≡ def.update_every

  may : MayFollow empty whole
  may = record {
    grids = All-weaker IsGrid (λ (def : ChartDef). 0 < def.update_every) (λ def grid. grid.0) registry.charts sound.limits.grids;
    kept = All-from_recursion KeepsGrid registry.charts (all-of KeepsGrid (λ def old found. absurd (none-some old found)) registry.charts);
    chart_limits = sound.limits.charts;
    dimension_limits = sound.limits.dimensions;
    charts = subst (λ (r : Registry). length r.charts ≤ 4096) (sym same-again) sound.limits.few_charts;
    dimensions = subst (λ (r : Registry). length r.dimensions ≤ 65536) (sym same-again) sound.limits.few;
    each = subst HasFew (sym same-again) sound.few;
  }

  abbrev there : Registry
  there = with_definitions empty registry.charts registry.dimensions

  numbered-there : numbered_beat there 0 whole ≡ defining registry
  numbered-there = ap (λ (r : Registry). numbered_beat r 0 whole) same-again ∙ numbered-is

  -- the charts and dimensions by number go on from nothing
  pub all-go-on : goes_on empty (defining registry) ≡ true
  all-go-on = ap (goes_on empty) (sym numbered-there) ∙ beat-goes-on [] 0 whole is-owned may (regular-without there registry.charts registry.dimensions)

  -- and give the registry again
  pub all-defined : with_numbered empty (defining registry) ≡ registry
  all-defined = ap (with_numbered empty) (sym numbered-there) ∙ sym (last-is [] 0 whole is-owned) ∙ same-again

-- ---- the registry of a history that a store keeps
abbrev KeepsChart : ChartDef → Type 0
KeepsChart def = chart_keeps_limits def ≡ true

abbrev KeepsDimension : OpenDim → Type 0
KeepsDimension dimension = dimension_keeps_limits dimension.def ≡ true

grids-kept : (defs : List ChartDef) → AllByRecursion (λ (def : ChartDef). 0 < def.update_every) defs → AllByRecursion KeepsChart defs → AllByRecursion IsGrid defs
grids-kept [] some keeps = tt
grids-kept (def ∷ defs) some keeps = (grid-kept def some.0 keeps.0, grids-kept defs some.1 keeps.1)

limits-with : (registry : Registry) (beat : OpenBeat) → HasLimits registry → MayFollow registry beat → HasLimits (with_definitions registry beat.charts beat.dimensions)
limits-with registry beat limits may =
    let after = with_definitions registry beat.charts beat.dimensions in
    let keeps = recursion_from_All KeepsChart beat.charts may.chart_limits in
    record {
      grids = All-from_recursion IsGrid after.charts (all-put_all same_chart IsGrid registry.charts beat.charts (recursion_from_All IsGrid registry.charts limits.grids)
          (grids-kept beat.charts (recursion_from_All (λ (def : ChartDef). 0 < def.update_every) beat.charts may.grids) keeps));
      charts = All-from_recursion KeepsChart after.charts (all-put_all same_chart KeepsChart registry.charts beat.charts (recursion_from_All KeepsChart registry.charts limits.charts) keeps);
      dimensions = All-from_recursion KeepsDimension after.dimensions
          (all-put_all same_dimension KeepsDimension registry.dimensions beat.dimensions (recursion_from_All KeepsDimension registry.dimensions limits.dimensions)
          (recursion_from_All KeepsDimension beat.dimensions may.dimension_limits));
      few_charts = may.charts;
      few = may.dimensions;
    }

limits-of : (h : List Beat) (beats : List StoreBeat) → AreBeatsOf h beats → HasLimits (registry_of h)
limits-of [] beats are = none-limits
limits-of (collected moment beat ∷ h) [] are = absurd are
limits-of (collected moment beat ∷ h) (kept ∷ beats) are =
    limits-with (registry_of h) beat (limits-of h beats are.1) (follows-may h moment beat are.0.follows (within-of h beats are.1))
limits-of (copied copy ∷ h) [] are = absurd are
limits-of (copied copy ∷ h) (kept ∷ beats) are =
    limits-with (registry_of h) (record { charts = copy.charts; dimensions = copy.dimensions; rows = [] }) (limits-of h beats are.1) are.0.follows.may.may
limits-of (health text ∷ h) [] are = absurd are
limits-of (health text ∷ h) (kept ∷ beats) are = limits-of h beats are.1
limits-of (missing gap ∷ h) [] are = absurd are
limits-of (missing gap ∷ h) (kept ∷ beats) are = limits-of h beats are.1

pub of-history : (h : List Beat) (beats : List StoreBeat) → AreBeatsOf h beats → IsOfHistory (registry_of h)
of-history h beats are = record {
  charts = apart-charts h;
  dimensions = apart-registry h;
  limits = limits-of h beats are;
  owners = (only-defined h beats are).owners;
  few = (within-of h beats are).each;
}
