-- The numbers that charts and dimensions have once a registry takes a beat.
use Rattle.std.proofs.Common.{◌≡◌, ℕ, zero, suc, ◌+◌, ◌==◌, Bool, true, false, cond, not, ◌&&◌, ◌||◌, List, [], ◌∷◌, ◌++◌, map, filter, length, position, Option, Some, None, IfSome, is_some, refl, sym, ap, subst, ◌∙◌, arith, true≢false, append_assoc, if◌then◌else◌}
use Rattle.std.specs.List.{find, list_any, AllByRecursion}
use Rattle.std.specs.Option.{option_and_then, option_map, option_map_or}
use Rattle.std.specs.Str.{bytes_eq}
use Rattle.std.proofs.lemmas.Bool.{and_parts, eqb-true, not-false}
use Rattle.std.proofs.lemmas.List.{append-nil, map-append}
use Rattle.list_lemmas.proofs.Searches.{none-from}
use Rattle.history.specs.declared.beat.OpenBeat.{OpenBeat}
use Rattle.history.specs.declared.beat.OpenDim.{OpenDim}
use Rattle.history.specs.declared.chart.ChartDef.{ChartDef}
use Rattle.history.specs.Put.{put, put_all}
use Rattle.history.specs.Refusal.{chart_now, has_chart, has_dimension, is_new_chart, is_new_dimension}
use Rattle.history.specs.Registry.{Registry, is_chart, is_dimension, is_of, same_chart, same_dimension, chart_of, series_of}
use Rattle.history.specs.Regular.{AreApart}
use Rattle.chart_registry.proofs.Applying.{any-put, has_chart-any, same_chart-alike}
use Rattle.chart_registry.proofs.Finding.{all-weaker, find-none, found-all, found-passes}
use Rattle.chart_registry.proofs.Growing.{same_dimension-alike}
use Rattle.chart_registry.proofs.Places.{IsFirst, IsNowhere, first-from_position, list_any-position, nowhere-from_position, position-append, position-first, position-map, position-nowhere}
use Rattle.chart_registry.proofs.RegistryLemmas.{chart_id-chart_of, or_false}
use Rattle.chart_registry.proofs.RowsLemmas.{same_text}
use Rattle.chart_registry.specs.Defining.{chart_id}
use Rattle.beat_entries.specs.Fresh.{IsKnownAs}
use Rattle.beat_entries.specs.Rules.{changes_grid, changes_grid_of, with_beat}
use Rattle.beat_entries.proofs.DefinedLemmas.{chart-alike, chart-itself, dimension-alike, dimension-itself}
use Rattle.beat_entries.proofs.EntryLemmas.{any-find}
use Rattle.beat_entries.proofs.FreshLemmas.{put-new}
use Rattle.beat_entries.proofs.PutLemmas.{alike_right, turned}
use Rattle.beat_entries.proofs.Slots.{none-all}

-- ---- tests
pub or-none : (b : Bool) → (b || false) ≡ b
or-none true = refl
or-none false = refl

pub or-yes : (b : Bool) → (b || true) ≡ true
or-yes true = refl
or-yes false = refl

none-and : {A : Type 0} (p g : A → Bool) (xs : List A) → list_any p xs ≡ false → list_any (λ x. p x && g x) xs ≡ false
none-and p g [] none = refl
none-and p g (x ∷ xs) none = let parts = or_false (p x) (list_any p xs) none in λ i. (parts.0 i && g x) || none-and p g xs parts.1 i

-- ---- places in a list behind another
module _ {A : Type 0} (p : A → Bool) where
  first-behind : (xs zs : List A) (n m : ℕ) → m ≡ length xs + n → IsNowhere p xs → IsFirst p zs n → IsFirst p (xs ++ zs) m
  first-behind [] zs n m e none first = let same : n ≡ m = omega (arith, e) in subst (IsFirst p zs) same first
  first-behind (x ∷ xs) zs n zero e none first = absurd (omega (arith, e))
  first-behind (x ∷ xs) zs n (suc m) e none first = (none.0, first-behind xs zs n m (omega (arith, e)) none.1 first)

  nowhere-both : (xs zs : List A) → IsNowhere p xs → IsNowhere p zs → IsNowhere p (xs ++ zs)
  nowhere-both [] zs none all = all
  nowhere-both (x ∷ xs) zs none all = (none.0, nowhere-both xs zs none.1 all)

  position-seen : (xs : List A) → position p xs ≡ position (λ (b : Bool). b) (map p xs)
  position-seen xs = sym (position-map (λ (b : Bool). b) p xs)

  find-filter : (q : A → Bool) → ((y : A) → p y ≡ true → q y ≡ true) → (ys : List A) → find p (filter q ys) ≡ find p ys
  find-filter q passes [] = refl
  find-filter q passes (y ∷ ys) = by (q y) refl (p y) refl (find-filter q passes ys)
    where
      by : (b : Bool) → q y ≡ b → (c : Bool) → p y ≡ c → find p (filter q ys) ≡ find p ys → find p (cond b (y ∷ filter q ys) (filter q ys)) ≡ cond c (Some y) (find p ys)
      by true e c f rest = λ i. cond (f i) (Some y) (rest i)
      by false e true f rest = absurd (true≢false (sym (passes y f) ∙ e))
      by false e false f rest = rest

-- ---- the dimensions of a chart that the registry has, or has not
pub known-is : (registry : Registry) (chart id : List ℕ) (known : Option ℕ) → IsKnownAs registry chart known
    → option_and_then (λ (number : ℕ). series_of registry (chart_id registry number) id) known ≡ series_of registry chart id
known-is registry chart id None is =
    sym (none-from (series_of registry chart id) (list_any-position (is_dimension chart id) registry.dimensions
    ∙ none-and (is_of chart) (λ (dimension : OpenDim). bytes_eq id dimension.def.id) registry.dimensions is.unowned))
known-is registry chart id (Some number) is =
    let same : chart_id registry number ≡ chart = subst (λ (o : Option ℕ). IfSome o (λ n. chart_id registry n ≡ chart)) (sym is.number) (chart_id-chart_of registry chart) in
    ap (λ (text : List ℕ). series_of registry text id) same

-- ---- a list that takes things that stand apart
filter-like : {A : Type 0} (q r : A → Bool) (ys : List A) → AllByRecursion (λ y. q y ≡ r y) ys → filter q ys ≡ filter r ys
filter-like q r [] all = refl
filter-like q r (y ∷ ys) all = λ i. cond (all.0 i) (y ∷ filter-like q r ys all.1 i) (filter-like q r ys all.1 i)

module _ {A : Type 0} (same : A → A → Bool) (itself : (x : A) → same x x ≡ true) (alike : (x y z : A) → same x y ≡ true → same x z ≡ same y z) where
  -- the thing is not in the list
  abbrev is_new : List A → A → Bool
  is_new xs y = not (list_any (same y) xs)

  new-kept : (xs ys : List A) (y : A) → list_any (same y) ys ≡ false → AllByRecursion (λ z. is_new (put same xs y) z ≡ is_new xs z) ys
  new-kept xs ys y none =
      all-weaker (λ (z : A). same y z ≡ false) (λ (z : A). is_new (put same xs y) z ≡ is_new xs z)
      (λ z e. ap not (any-put same (same z) (alike_right same itself alike z) xs y ∙ ap (λ (b : Bool). list_any (same z) xs || b) (turned same itself alike z y ∙ e) ∙ or-none (list_any (same z) xs)))
      ys (none-all (same y) ys none)

  module _ (p : A → Bool) (told : (x y : A) → same x y ≡ true → p x ≡ p y) where
    map-put : (xs : List A) (y : A) → list_any (same y) xs ≡ true → map p (put same xs y) ≡ map p xs
    map-put [] y some = absurd (true≢false (sym some))
    map-put (x ∷ xs) y some = by (same y x) refl some (map-put xs y)
      where
        by : (b : Bool) → same y x ≡ b → (b || list_any (same y) xs) ≡ true → (list_any (same y) xs ≡ true → map p (put same xs y) ≡ map p xs)
            → map p (if b then y ∷ xs else x ∷ put same xs y) ≡ p x ∷ map p xs
        by true e some rest = ap (λ (b : Bool). b ∷ map p xs) (told y x e)
        by false e some rest = ap (λ (l : List Bool). p x ∷ l) (rest some)

    map-put_all : (xs ys : List A) → AreApart same ys → map p (put_all same xs ys) ≡ map p xs ++ map p (filter (is_new xs) ys)
    map-put_all xs [] apart = sym (append-nil (map p xs))
    map-put_all xs (y ∷ ys) apart = map-put_all (put same xs y) ys apart.1 ∙ by (list_any (same y) xs) refl
      where
        others : filter (is_new (put same xs y)) ys ≡ filter (is_new xs) ys
        others = filter-like (is_new (put same xs y)) (is_new xs) ys (new-kept xs ys y apart.0)

        by : (b : Bool) → list_any (same y) xs ≡ b
            → map p (put same xs y) ++ map p (filter (is_new (put same xs y)) ys) ≡ map p xs ++ map p (cond (not b) (y ∷ filter (is_new xs) ys) (filter (is_new xs) ys))
        by true e = λ i. map-put xs y e i ++ map p (others i)
        by false e =
            (λ i. map p (put-new same xs y e i) ++ map p (others i))
            ∙ ap (λ (l : List Bool). l ++ map p (filter (is_new xs) ys)) (map-append p xs (y ∷ []))
            ∙ append_assoc (map p xs) (p y ∷ []) (map p (filter (is_new xs) ys))

    module _ (xs ys : List A) (apart : AreApart same ys) where
      -- what is new stands behind the list, in its order
      placed : position p (put_all same xs ys) ≡ position p (xs ++ filter (is_new xs) ys)
      placed =
          position-seen p (put_all same xs ys) ∙ ap (position (λ (b : Bool). b)) (map-put_all xs ys apart ∙ sym (map-append p xs (filter (is_new xs) ys)))
          ∙ sym (position-seen p (xs ++ filter (is_new xs) ys))

      pub placed-known : (n : ℕ) → position p xs ≡ Some n → position p (put_all same xs ys) ≡ Some n
      placed-known n e = placed ∙ position-append p xs (filter (is_new xs) ys) n e

      pub placed-fresh : (n : ℕ) → position p xs ≡ None → position p (filter (is_new xs) ys) ≡ Some n → position p (put_all same xs ys) ≡ Some (length xs + n)
      placed-fresh n none e =
          placed ∙ position-first p (xs ++ filter (is_new xs) ys) (length xs + n)
          (first-behind p xs (filter (is_new xs) ys) n (length xs + n) refl (nowhere-from_position p xs none) (first-from_position p (filter (is_new xs) ys) n e))

      pub placed-nowhere : position p xs ≡ None → position p (filter (is_new xs) ys) ≡ None → position p (put_all same xs ys) ≡ None
      placed-nowhere none e =
          placed ∙ position-nowhere p (xs ++ filter (is_new xs) ys)
          (nowhere-both p xs (filter (is_new xs) ys) (nowhere-from_position p xs none) (nowhere-from_position p (filter (is_new xs) ys) e))

module _ (registry : Registry) (beat : OpenBeat) where
  abbrev after : Registry
  after = with_beat registry beat

  -- ---- charts
  module _ (id : List ℕ) where
    abbrev fresh : List ChartDef
    fresh = filter (is_new_chart registry) beat.charts

    pub chart-known : AreApart same_chart beat.charts → (n : ℕ) → chart_of registry id ≡ Some n → chart_of after id ≡ Some n
    chart-known apart n e = placed-known same_chart chart-itself chart-alike (is_chart id) (same_chart-alike id) registry.charts beat.charts apart n e

    pub chart-has : (n : ℕ) → chart_of registry id ≡ Some n → has_chart registry beat id ≡ true
    chart-has n e =
        has_chart-any registry beat id
        ∙ ap (λ (b : Bool). list_any (is_chart id) beat.charts || b) (sym (list_any-position (is_chart id) registry.charts) ∙ ap is_some e)
        ∙ or-yes (list_any (is_chart id) beat.charts)

    -- a chart that the registry has keeps its update_every
    pub grid-known : (old : ChartDef) → find (is_chart id) registry.charts ≡ Some old → changes_grid registry beat ≡ false
        → Some old.update_every ≡ option_map (λ (def : ChartDef). def.update_every) (chart_now registry beat id)
    grid-known old found same = by (find (is_chart id) beat.charts) refl
      where
        by : (f : Option ChartDef) → find (is_chart id) beat.charts ≡ f
            → Some old.update_every ≡ option_map (λ (def : ChartDef). def.update_every) (option_map_or Some f (find (is_chart id) registry.charts))
        by None e = ap (option_map (λ (def : ChartDef). def.update_every)) (sym found)
        by (Some def) e =
            let here : changes_grid_of registry def ≡ false
            = found-all (λ (def : ChartDef). changes_grid_of registry def ≡ false) (is_chart id) beat.charts def (none-all (changes_grid_of registry) beat.charts same) e in
            let ids : id ≡ def.id = same_text id def.id (found-passes (is_chart id) beat.charts def e) in
            let there : find (is_chart def.id) registry.charts ≡ Some old = ap (λ (text : List ℕ). find (is_chart text) registry.charts) (sym ids) ∙ found in
            let grid : not (old.update_every == def.update_every) ≡ false
            = ap (λ (f : Option ChartDef). option_map_or (λ (old : ChartDef). not (old.update_every == def.update_every)) f false) (sym there) ∙ here in
            ap Some (eqb-true old.update_every def.update_every (not-false (old.update_every == def.update_every) grid))

    module _ (none : chart_of registry id ≡ None) where
      unknown : list_any (is_chart id) registry.charts ≡ false
      unknown = sym (list_any-position (is_chart id) registry.charts) ∙ ap is_some none

      pub chart-fresh : AreApart same_chart beat.charts → (n : ℕ) → position (is_chart id) fresh ≡ Some n → chart_of after id ≡ Some (length registry.charts + n)
      chart-fresh apart n e = placed-fresh same_chart chart-itself chart-alike (is_chart id) (same_chart-alike id) registry.charts beat.charts apart n none e

      pub chart-nowhere : AreApart same_chart beat.charts → position (is_chart id) fresh ≡ None → chart_of after id ≡ None
      chart-nowhere apart e = placed-nowhere same_chart chart-itself chart-alike (is_chart id) (same_chart-alike id) registry.charts beat.charts apart none e

      new-of : (def : ChartDef) → is_chart id def ≡ true → is_new_chart registry def ≡ true
      new-of def e = ap (λ (text : List ℕ). not (list_any (is_chart text) registry.charts)) (sym (same_text id def.id e)) ∙ ap not unknown

      pub find-fresh : find (is_chart id) fresh ≡ find (is_chart id) beat.charts
      find-fresh = find-filter (is_chart id) (is_new_chart registry) new-of beat.charts

      pub any-fresh : is_some (position (is_chart id) fresh) ≡ list_any (is_chart id) beat.charts
      any-fresh =
          list_any-position (is_chart id) fresh ∙ any-find (is_chart id) fresh (find (is_chart id) beat.charts) find-fresh
          ∙ sym (any-find (is_chart id) beat.charts (find (is_chart id) beat.charts) refl)

      pub has-fresh : list_any (is_chart id) beat.charts ≡ has_chart registry beat id
      has-fresh =
          sym (has_chart-any registry beat id ∙ ap (λ (b : Bool). list_any (is_chart id) beat.charts || b) unknown ∙ or-none (list_any (is_chart id) beat.charts))

      pub now-fresh : find (is_chart id) beat.charts ≡ chart_now registry beat id
      now-fresh = by (find (is_chart id) beat.charts) ∙ ap (option_map_or Some (find (is_chart id) beat.charts)) (sym (find-none (is_chart id) registry.charts unknown))
        where
          by : (f : Option ChartDef) → f ≡ option_map_or Some f None
          by None = refl
          by (Some def) = refl

  -- ---- dimensions
  module _ (chart id : List ℕ) where
    abbrev fresh_dimensions : List OpenDim
    fresh_dimensions = filter (is_new_dimension registry) beat.dimensions

    pub series-known : AreApart same_dimension beat.dimensions → (n : ℕ) → series_of registry chart id ≡ Some n → series_of after chart id ≡ Some n
    series-known apart n e =
        placed-known same_dimension dimension-itself dimension-alike (is_dimension chart id) (same_dimension-alike chart id) registry.dimensions beat.dimensions apart n e

    pub series-has : (n : ℕ) → series_of registry chart id ≡ Some n → has_dimension registry beat chart id ≡ true
    series-has n e =
        ap (λ (b : Bool). b || list_any (is_dimension chart id) beat.dimensions) (sym (list_any-position (is_dimension chart id) registry.dimensions) ∙ ap is_some e)

    module _ (none : series_of registry chart id ≡ None) where
      unknown_dimension : list_any (is_dimension chart id) registry.dimensions ≡ false
      unknown_dimension = sym (list_any-position (is_dimension chart id) registry.dimensions) ∙ ap is_some none

      pub series-fresh : AreApart same_dimension beat.dimensions → (n : ℕ) → position (is_dimension chart id) fresh_dimensions ≡ Some n → series_of after chart id ≡ Some (length registry.dimensions + n)
      series-fresh apart n e =
          placed-fresh same_dimension dimension-itself dimension-alike (is_dimension chart id) (same_dimension-alike chart id) registry.dimensions beat.dimensions apart n none e

      pub series-nowhere : AreApart same_dimension beat.dimensions → position (is_dimension chart id) fresh_dimensions ≡ None → series_of after chart id ≡ None
      series-nowhere apart e =
          placed-nowhere same_dimension dimension-itself dimension-alike (is_dimension chart id) (same_dimension-alike chart id) registry.dimensions beat.dimensions apart none e

      new-dimension : (dimension : OpenDim) → is_dimension chart id dimension ≡ true → is_new_dimension registry dimension ≡ true
      new-dimension dimension e =
          let parts = and_parts (bytes_eq chart dimension.chart) (bytes_eq id dimension.def.id) e in
          (λ i. not (list_any (is_dimension (sym (same_text chart dimension.chart parts.0) i) (sym (same_text id dimension.def.id parts.1) i)) registry.dimensions))
          ∙ ap not unknown_dimension

      pub any-fresh_dimension : is_some (position (is_dimension chart id) fresh_dimensions) ≡ list_any (is_dimension chart id) beat.dimensions
      any-fresh_dimension =
          list_any-position (is_dimension chart id) fresh_dimensions
          ∙ any-find (is_dimension chart id) fresh_dimensions (find (is_dimension chart id) beat.dimensions) (find-filter (is_dimension chart id) (is_new_dimension registry) new-dimension beat.dimensions)
          ∙ sym (any-find (is_dimension chart id) beat.dimensions (find (is_dimension chart id) beat.dimensions) refl)

      pub has-fresh_dimension : list_any (is_dimension chart id) beat.dimensions ≡ has_dimension registry beat chart id
      has-fresh_dimension = ap (λ (b : Bool). b || list_any (is_dimension chart id) beat.dimensions) (sym unknown_dimension)
