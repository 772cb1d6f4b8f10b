-- What is known of the definitions of an open beat.
use Rattle.std.proofs.Common.{◌≡◌, ℕ, zero, suc, ◌<◌, ◌≤◌, Bool, true, false, ◌&&◌, ◌||◌, nat_eq, nat_le, List, [], ◌∷◌, All, Option, Some, None, IfSome, true≢false, refl, sym, ap, ◌∙◌, arith, if◌then◌else◌}
use Rattle.std.specs.List.{list_any, AllByRecursion}
use Rattle.std.specs.Option.{option_map_or}
use Rattle.std.proofs.lemmas.Bool.{and_parts, le-leb}
use Rattle.std.proofs.lemmas.List.Elements.{All-from_recursion, recursion_from_All}
use Rattle.history.specs.declared.beat.OpenBeat.{OpenBeat}
use Rattle.history.specs.declared.beat.OpenDim.{OpenDim}
use Rattle.history.specs.declared.beat.OpenRow.{OpenRow}
use Rattle.history.specs.declared.chart.ChartDef.{ChartDef}
use Rattle.history.specs.declared.dimension.DimDef.{DimDef}
use Rattle.history.specs.declared.limits.TheConstants.{UPDATE_EVERY_LIMIT}
use Rattle.history.specs.declared.line.Line.{Line}
use Rattle.history.specs.declared.line.Line.TheVariants as line
use Rattle.history.specs.History.{Beat, registry_of}
use Rattle.history.specs.Limits.{chart_keeps_limits, dimension_keeps_limits, has_short_texts, is_chart_id, keeps_limits}
use Rattle.history.specs.Looking.{last_chart, with_grid, charts, dimensions, rows, beat}
use Rattle.history.specs.Put.{put}
use Rattle.history.specs.Read.{history_at}
use Rattle.history.specs.Refusal.{has_chart}
use Rattle.history.specs.Registry.{Registry, is_chart, same_chart, same_dimension, with_definitions}
use Rattle.chart_registry.specs.Defining.{nothing_open}
use Rattle.chart_registry.proofs.Applying.{all-put, any-put, same_chart-alike, has_chart-any, has_chart-applied}
use Rattle.chart_registry.proofs.RowsLemmas.{bytes_eq_same}

module _ {A : Type 0} (P Q : A → Type 0) (weaker : (x : A) → P x → Q x) where
  all-weaker : (xs : List A) → AllByRecursion P xs → AllByRecursion Q xs
  all-weaker [] h = tt
  all-weaker (x ∷ xs) h = (weaker x h.0, all-weaker xs h.1)

-- ---- no chart of an open beat has an update_every of 0
abbrev HasGrid : ChartDef → Type 0
HasGrid def = 0 < def.update_every

above-zero : (n : ℕ) → nat_eq n 0 ≡ false → 0 < n
above-zero zero e = absurd (true≢false e)
above-zero (suc n) e = omega arith

grid-given : (every : ℕ) (def : ChartDef) → 0 < every → HasGrid (with_grid every def)
grid-given every def above = by (nat_eq def.update_every 0) refl
  where
    by : (b : Bool) → nat_eq def.update_every 0 ≡ b → 0 < (if b then record def { update_every = every } else def).update_every
    by true e = above
    by false e = above-zero def.update_every e

grids-by_recursion : (every : ℕ) (past : List Line) → 0 < every → AllByRecursion HasGrid (charts every past)
grids-by_recursion every [] above = tt
grids-by_recursion every (line.Moment moment ∷ past) above = tt
grids-by_recursion every (line.Chart def ∷ past) above = all-put same_chart HasGrid (charts every past) (with_grid every def) (grids-by_recursion every past above) (grid-given every def above)
grids-by_recursion every (line.Dimension def ∷ past) above = grids-by_recursion every past above
grids-by_recursion every (line.Begin chart ∷ past) above = grids-by_recursion every past above
grids-by_recursion every (line.Set id value anomalous ∷ past) above = grids-by_recursion every past above
grids-by_recursion every (line.End ∷ past) above = grids-by_recursion every past above
grids-by_recursion every (line.Flush ∷ past) above = grids-by_recursion every past above
grids-by_recursion every (line.Disable ∷ past) above = grids-by_recursion every past above
grids-by_recursion every (line.Query text ∷ past) above = grids-by_recursion every past above
grids-by_recursion every (line.Skipped ∷ past) above = grids-by_recursion every past above

pub grids : (every : ℕ) (past : List Line) → 0 < every → All (λ (def : ChartDef). 0 < def.update_every) (charts every past)
grids every past above = All-from_recursion HasGrid (charts every past) (grids-by_recursion every past above)

-- ---- where the lines keep their limits, so do the definitions
abbrev KeepsLimits : Line → Type 0
KeepsLimits line = keeps_limits line ≡ true

abbrev IsLimitedChart : ChartDef → Type 0
IsLimitedChart def = chart_keeps_limits def ≡ true

abbrev IsLimitedDimension : OpenDim → Type 0
IsLimitedDimension dimension = dimension_keeps_limits dimension.def ≡ true

limits-given : (every : ℕ) (def : ChartDef) → every ≤ UPDATE_EVERY_LIMIT → IsLimitedChart def → IsLimitedChart (with_grid every def)
limits-given every def low limits = by (nat_eq def.update_every 0)
  where
    by : (b : Bool) → IsLimitedChart (if b then record def { update_every = every } else def)
    by true =
        let texts = (and_parts (is_chart_id def.id && has_short_texts def) (nat_le def.update_every UPDATE_EVERY_LIMIT) limits).0 in
        λ i. texts i && le-leb every UPDATE_EVERY_LIMIT low i
    by false = limits

charts-by_recursion : (every : ℕ) (past : List Line) → every ≤ UPDATE_EVERY_LIMIT → AllByRecursion KeepsLimits past → AllByRecursion IsLimitedChart (charts every past)
charts-by_recursion every [] low limits = tt
charts-by_recursion every (line.Moment moment ∷ past) low limits = tt
charts-by_recursion every (line.Chart def ∷ past) low limits =
    all-put same_chart IsLimitedChart (charts every past) (with_grid every def) (charts-by_recursion every past low limits.1) (limits-given every def low limits.0)
charts-by_recursion every (line ∷ past) low limits = charts-by_recursion every past low limits.1

pub charts-limits : (every : ℕ) (past : List Line) → every ≤ UPDATE_EVERY_LIMIT → All (λ (line : Line). keeps_limits line ≡ true) past
    → All (λ (def : ChartDef). chart_keeps_limits def ≡ true) (charts every past)
charts-limits every past low limits = All-from_recursion IsLimitedChart (charts every past) (charts-by_recursion every past low (recursion_from_All KeepsLimits past limits))

dimension-also : (def : DimDef) (ds : List OpenDim) (chart : Option (List ℕ)) → dimension_keeps_limits def ≡ true → AllByRecursion IsLimitedDimension ds
    → AllByRecursion IsLimitedDimension (option_map_or (λ chart. put same_dimension ds (record { chart = chart; def = def })) chart ds)
dimension-also def ds None here all = all
dimension-also def ds (Some chart) here all = all-put same_dimension IsLimitedDimension ds (record { chart = chart; def = def }) all here

dimensions-by_recursion : (past : List Line) → AllByRecursion KeepsLimits past → AllByRecursion IsLimitedDimension (dimensions past)
dimensions-by_recursion [] limits = tt
dimensions-by_recursion (line.Moment moment ∷ past) limits = tt
dimensions-by_recursion (line.Dimension def ∷ past) limits = dimension-also def (dimensions past) (last_chart past) limits.0 (dimensions-by_recursion past limits.1)
dimensions-by_recursion (line ∷ past) limits = dimensions-by_recursion past limits.1

pub dimensions-limits : (past : List Line) → All (λ (line : Line). keeps_limits line ≡ true) past
    → All (λ (dimension : OpenDim). dimension_keeps_limits dimension.def ≡ true) (dimensions past)
dimensions-limits past limits = All-from_recursion IsLimitedDimension (dimensions past) (dimensions-by_recursion past (recursion_from_All KeepsLimits past limits))

-- ---- each chart that a text named last is there, and so is that of each dimension
or-wider : (x y z : Bool) → (x || z) ≡ true → ((x || y) || z) ≡ true
or-wider true y z e = refl
or-wider false true z e = refl
or-wider false false z e = e

or-found : (x y z : Bool) → y ≡ true → ((x || y) || z) ≡ true
or-found true y z e = refl
or-found false y z e = ap (λ b. b || z) e

module _ (registry : Registry) (cs : List ChartDef) (ds : List OpenDim) (rs : List OpenRow) (def : ChartDef) where
  abbrev old : OpenBeat
  old = record { charts = cs; dimensions = ds; rows = rs }

  abbrev new : OpenBeat
  new = record { charts = put same_chart cs def; dimensions = ds; rows = rs }

  now : (id : List ℕ) → has_chart registry new id ≡ ((list_any (is_chart id) cs || is_chart id def) || list_any (is_chart id) registry.charts)
  now id = has_chart-any registry new id ∙ ap (λ b. b || list_any (is_chart id) registry.charts) (any-put same_chart (is_chart id) (same_chart-alike id) cs def)

  stays-there : (id : List ℕ) → has_chart registry old id ≡ true → has_chart registry new id ≡ true
  stays-there id there = now id ∙ or-wider (list_any (is_chart id) cs) (is_chart id def) (list_any (is_chart id) registry.charts) (sym (has_chart-any registry old id) ∙ there)

  is-there : (id : List ℕ) → id ≡ def.id → has_chart registry new id ≡ true
  is-there id e = now id ∙ or-found (list_any (is_chart id) cs) (is_chart id def) (list_any (is_chart id) registry.charts) (bytes_eq_same id def.id e)

with_grid-id : (every : ℕ) (def : ChartDef) → def.id ≡ (with_grid every def).id
with_grid-id every def = by (nat_eq def.update_every 0)
  where
    by : (b : Bool) → def.id ≡ (if b then record def { update_every = every } else def).id
    by true = refl
    by false = refl

-- a beat that is closed leaves its charts in the registry
closed-there : (registry : Registry) (closed : OpenBeat) (id : List ℕ) → has_chart registry closed id ≡ true
    → has_chart (with_definitions registry closed.charts closed.dimensions) nothing_open id ≡ true
closed-there registry closed id there = has_chart-any (with_definitions registry closed.charts closed.dimensions) nothing_open id ∙ has_chart-applied registry closed id ∙ there

module _ (every : ℕ) (h : List Beat) where
  abbrev reg : List Line → Registry
  reg past = registry_of (history_at every h past)

  abbrev IsThere : List Line → List ℕ → Type 0
  IsThere past id = has_chart (reg past) (beat every past) id ≡ true

  abbrev IsOwned : List Line → OpenDim → Type 0
  IsOwned past dimension = IsThere past dimension.chart

  abbrev Owned : List Line → Type 0
  Owned past = IfSome (last_chart past) (IsThere past) × AllByRecursion (IsOwned past) (dimensions past)

  chart-owned : (past : List Line) (def : ChartDef) → Owned past → Owned (line.Chart def ∷ past)
  chart-owned past def owned = (
    is-there (reg past) (charts every past) (dimensions past) (rows past) (with_grid every def) def.id (with_grid-id every def),
    all-weaker (IsOwned past) (IsOwned (line.Chart def ∷ past)) (λ dimension there.
        stays-there (reg past) (charts every past) (dimensions past) (rows past) (with_grid every def) dimension.chart there) (dimensions past) owned.1,
  )

  dimension-owned : (past : List Line) (def : DimDef) → Owned past → Owned (line.Dimension def ∷ past)
  dimension-owned past def owned = (owned.0, by (last_chart past) owned.0)
    where
      by : (last : Option (List ℕ)) → IfSome last (IsThere past)
          → AllByRecursion (IsOwned past) (option_map_or (λ chart. put same_dimension (dimensions past) (record { chart = chart; def = def })) last (dimensions past))
      by None there = owned.1
      by (Some chart) there = all-put same_dimension (IsOwned past) (dimensions past) (record { chart = chart; def = def }) owned.1 there

  moment-owned : (past : List Line) (moment : ℕ) → Owned past → Owned (line.Moment moment ∷ past)
  moment-owned past moment owned = (by (last_chart past) owned.0, tt)
    where
      by : (last : Option (List ℕ)) → IfSome last (IsThere past) → IfSome last (IsThere (line.Moment moment ∷ past))
      by None there = tt
      by (Some chart) there = closed-there (reg past) (beat every past) chart there

  owned-all : (past : List Line) → Owned past
  owned-all [] = (tt, tt)
  owned-all (line.Chart def ∷ past) = chart-owned past def (owned-all past)
  owned-all (line.Dimension def ∷ past) = dimension-owned past def (owned-all past)
  owned-all (line.Moment moment ∷ past) = moment-owned past moment (owned-all past)
  owned-all (line.Begin chart ∷ past) = owned-all past
  owned-all (line.Set id value anomalous ∷ past) = owned-all past
  owned-all (line.End ∷ past) = owned-all past
  owned-all (line.Flush ∷ past) = owned-all past
  owned-all (line.Disable ∷ past) = owned-all past
  owned-all (line.Query text ∷ past) = owned-all past
  owned-all (line.Skipped ∷ past) = owned-all past

  pub owners : (past : List Line) → All (λ (dimension : OpenDim). has_chart (registry_of (history_at every h past)) (beat every past) dimension.chart ≡ true) (dimensions past)
  owners past = All-from_recursion (IsOwned past) (dimensions past) (owned-all past).1
