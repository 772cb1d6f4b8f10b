-- The lists by number of a side, as a history has them.
use Rattle.std.proofs.Common.{◌≡◌, ℕ, ◌+◌, ◌-◌, ◌<◌, ◌≤◌, Bool, true, false, List, [], ◌∷◌, ◌++◌, length, map, take, replicate, get_or, slice_get, find, All, Option, Some, None, IsSome, is_some, refl, sym, ap, ◌∙◌, arith, zero-add, true≢false, if◌then◌else◌}
use Rattle.std.specs.List.{enumerate_from, list_any, AllByRecursion}
use Rattle.std.specs.Option.{option_and_then, option_map, option_map_or}
use Rattle.std.specs.Str.{bytes_eq}
use Rattle.std.proofs.lemmas.Bool.{and_parts}
use Rattle.std.proofs.lemmas.List.{append-nil, length-map, map-append, take_all, take_more}
use Rattle.std.proofs.lemmas.List.Elements.{recursion_from_All}
use Rattle.std.proofs.lemmas.List.FromFn.{get_or-enumerate_from, length-enumerate_from, length-map-range_with_len}
use Rattle.std.proofs.lemmas.Option.{get_or_from_slice_get, slice_get-map, slice_get_within}
use Rattle.algorithms.specs.declared.last.Last.{Last}
use Rattle.algorithms.specs.Cells.{last_of}
use Rattle.history.specs.declared.beat.OpenBeat.{OpenBeat}
use Rattle.history.specs.declared.beat.OpenDim.{OpenDim}
use Rattle.history.specs.declared.beat.OpenRow.{OpenRow}
use Rattle.history.specs.declared.beat.OpenValue.{OpenValue}
use Rattle.history.specs.History.{Beat, collected, copied, health, missing, registry_of}
use Rattle.history.specs.Looking.{is_value}
use Rattle.history.specs.Put.{put_all}
use Rattle.history.specs.Points.{last_set, row_of, value_of, Collected}
use Rattle.history.specs.Registry.{Registry, is_dimension, same_dimension, series_of}
use Rattle.history.specs.Regular.{IsRegular}
use Rattle.chart_registry.proofs.ApartLemmas.{apart-registry, own-series}
use Rattle.chart_registry.proofs.Applying.{any-put_all, some-find}
use Rattle.chart_registry.proofs.Finding.{found-all, found-passes}
use Rattle.chart_registry.proofs.Growing.{same_dimension-alike}
use Rattle.chart_registry.proofs.Places.{find-position, list_any-position}
use Rattle.chart_registry.proofs.RegistryLemmas.{or_false}
use Rattle.chart_registry.proofs.RowsLemmas.{same_text}
use Rattle.beat_points.specs.LastRows.{last_in, AreLastOf}
use Rattle.tier_rollup.specs.declared.point.Point.{Point}
use Rattle.store_core.specs.declared.beats.beat.Beat.{Beat as StoreBeat}
use Rattle.agent_core.specs.Kept.{AreBeatsOf}
use Rattle.agent_core.specs.LastSeen.{last_point, last_raw, points_seen, raws_seen}
use Rattle.agent_core.specs.Sides.{filled, last_row, point_back, point_in_side, raw_of, stored_point}
use Rattle.agent_core.proofs.FollowLemmas.{follows-regular}
use Rattle.agent_core.proofs.PlaceLemmas.{get_or-room, length-room, same-by_number}
use Rattle.agent_core.proofs.SideWords.{HasWord}

-- ---- one more of a list that is made by places
pub placed-more : {A B : Type 0} (f : ℕ × A → B) (xs : List A) (n : ℕ) (x : A) (y : B) (old new : List B) → slice_get xs n ≡ Some x → y ≡ f (n, x)
    → new ≡ old ++ y ∷ [] → old ≡ map f (take n (enumerate_from 0 xs)) → new ≡ map f (take (n + 1) (enumerate_from 0 xs))
placed-more {A} {B} f xs n x y old new at is pushed before =
    let within : n < length xs = slice_get_within xs n x at in
    let inside : n < length (enumerate_from 0 xs) = omega (arith, within, length-enumerate_from 0 xs) in
    let here : get_or (enumerate_from 0 xs) n (0, x) ≡ (n, x)
    = get_or-enumerate_from 0 xs n (0, x) within ∙ (λ i. (zero-add n i, get_or_from_slice_get xs n x x at i)) in
    pushed ∙ (λ i. before i ++ is i ∷ []) ∙ sym (map-append f (take n (enumerate_from 0 xs)) ((n, x) ∷ []))
    ∙ ap (map f) (ap (λ (place : ℕ × A). take n (enumerate_from 0 xs) ++ place ∷ []) (sym here) ∙ sym (take_more (enumerate_from 0 xs) n (0, x) inside))

pub placed-all : {A B : Type 0} (f : ℕ × A → B) (xs : List A) (n : ℕ) (made : List B) → length xs ≤ n → made ≡ map f (take n (enumerate_from 0 xs)) → made ≡ map f (enumerate_from 0 xs)
placed-all f xs n made all is = is ∙ ap (map f) (take_all n (enumerate_from 0 xs) (omega (arith, all, length-enumerate_from 0 xs)))

-- ---- a list of just as many things
pub filled-whole : {A : Type 0} (none : A) (count : ℕ) (list : List A) → length list ≡ count → filled none count list ≡ list
filled-whole {A} none count list len =
    let nothing : count - length list ≡ 0 = omega (arith, len) in
    (λ i. take_all count list (omega (arith, len)) i ++ replicate (nothing i) none) ∙ append-nil list

filled-short : {A : Type 0} (none : A) (count : ℕ) (list : List A) → length list ≤ count → filled none count list ≡ list ++ replicate (count - length list) none
filled-short none count list few = ap (λ l. l ++ replicate (count - length list) none) (take_all count list few)

-- ---- last rows
pub rows-filled : (h : List Beat) (lasts : List (Option Last)) → AreLastOf lasts h → filled None (length (registry_of h).dimensions) lasts ≡ map (last_row h) (registry_of h).dimensions
rows-filled h lasts are =
    let dimensions = (registry_of h).dimensions in
    filled-short None (length dimensions) lasts are.within
    ∙ same-by_number (last_row h) None dimensions (lasts ++ replicate (length dimensions - length lasts) None) (length-room None lasts (length dimensions) are.within)
    (λ n dimension at.
    get_or-room None lasts (length dimensions - length lasts) n
    ∙ sym (ap (last_in lasts) (own-series (registry_of h) n dimension (apart-registry h) at)) ∙ are.rows dimension.chart dimension.def.id)

-- ---- what the registry has not was never set
no-dimension : (before after : List OpenDim) (chart id : List ℕ) → list_any (is_dimension chart id) (put_all same_dimension before after) ≡ false → list_any (is_dimension chart id) before ≡ false
no-dimension before after chart id none =
    (or_false (list_any (is_dimension chart id) before) (list_any (is_dimension chart id) after)
    (sym (any-put_all same_dimension (is_dimension chart id) (same_dimension-alike chart id) before after) ∙ none)).0

module _ (registry : Registry) (beat : OpenBeat) (regular : IsRegular registry beat) (chart id : List ℕ) (none : list_any (is_dimension chart id) registry.dimensions ≡ false) where
  abbrev HasSeries : List ℕ → OpenValue → Type 0
  HasSeries row value = IsSome (series_of registry row value.id)

  abbrev HasAll : OpenRow → Type 0
  HasAll row = All (HasSeries row.chart) row.values

  never : (row : OpenRow) (value : OpenValue) → bytes_eq chart row.chart ≡ true → is_value id value ≡ true → HasSeries row.chart value → ⊥
  never row value same own has =
      let is : list_any (is_dimension chart id) registry.dimensions ≡ true
      = (λ i. list_any (is_dimension (same_text chart row.chart same i) (same_text id value.id own i)) registry.dimensions)
      ∙ sym (list_any-position (is_dimension row.chart value.id) registry.dimensions) ∙ has in
      true≢false (sym is ∙ none)

  no-value : (row : OpenRow) → bytes_eq chart row.chart ≡ true → HasAll row → (found : Option OpenValue) → find (is_value id) row.values ≡ found → find (is_value id) row.values ≡ None
  no-value row same all None e = e
  no-value row same all (Some value) e =
      absurd (never row value same (found-passes (is_value id) row.values value e)
      (found-all (HasSeries row.chart) (is_value id) row.values value (recursion_from_All (HasSeries row.chart) row.values all) e))

  unset-in : (found : Option OpenRow) → row_of beat chart ≡ found → option_and_then (λ (row : OpenRow). find (is_value id) row.values) found ≡ None
  unset-in None e = refl
  unset-in (Some row) e =
      no-value row (found-passes (λ (row : OpenRow). bytes_eq chart row.chart) beat.rows row e)
      (found-all HasAll (λ (row : OpenRow). bytes_eq chart row.chart) beat.rows row (recursion_from_All HasAll beat.rows regular.dimensions) e) (find (is_value id) row.values) refl

  unset : value_of beat chart id ≡ None
  unset = unset-in (row_of beat chart) refl

never-set : (h : List Beat) (beats : List StoreBeat) → AreBeatsOf h beats → (chart id : List ℕ) → list_any (is_dimension chart id) (registry_of h).dimensions ≡ false → last_set h chart id ≡ None
never-set [] beats are chart id none = refl
never-set (collected moment beat ∷ h) [] are chart id none = absurd are
never-set (collected moment beat ∷ h) (kept ∷ beats) are chart id none =
    ap (λ (value : Option OpenValue). option_map_or (λ (value : OpenValue). Some (record { moment = moment; value = value.value })) value (last_set h chart id))
    (unset (registry_of (collected moment beat ∷ h)) beat (follows-regular h moment beat are.0.follows) chart id none)
    ∙ never-set h beats are.1 chart id (no-dimension (registry_of h).dimensions beat.dimensions chart id none)
never-set (copied copy ∷ h) [] are chart id none = absurd are
never-set (copied copy ∷ h) (kept ∷ beats) are chart id none = never-set h beats are.1 chart id (no-dimension (registry_of h).dimensions copy.dimensions chart id none)
never-set (health text ∷ h) [] are chart id none = absurd are
never-set (health text ∷ h) (kept ∷ beats) are chart id none = never-set h beats are.1 chart id none
never-set (missing gap ∷ h) [] are chart id none = absurd are
never-set (missing gap ∷ h) (kept ∷ beats) are chart id none = never-set h beats are.1 chart id none

-- ---- the last rows by number are those of the history
module _ (h : List Beat) (beats : List StoreBeat) (are : AreBeatsOf h beats) where
  abbrev dimensions : List OpenDim
  dimensions = (registry_of h).dimensions

  row-at : (chart id : List ℕ) (found : Option ℕ) → series_of (registry_of h) chart id ≡ found → last_in (map (last_row h) dimensions) found ≡ option_map last_of (last_set h chart id)
  row-at chart id None e =
      ap (option_map last_of)
      (sym (never-set h beats are chart id (sym (list_any-position (is_dimension chart id) dimensions) ∙ ap is_some e)))
  row-at chart id (Some n) e = by (find (is_dimension chart id) dimensions) refl
    where
      at : slice_get dimensions n ≡ find (is_dimension chart id) dimensions
      at = sym (ap (option_and_then (slice_get dimensions)) e) ∙ find-position (is_dimension chart id) dimensions

      by : (found : Option OpenDim) → find (is_dimension chart id) dimensions ≡ found → get_or (map (last_row h) dimensions) n None ≡ option_map last_of (last_set h chart id)
      by None f =
          let none : is_some (series_of (registry_of h) chart id) ≡ false = list_any-position (is_dimension chart id) dimensions ∙ sym (some-find (is_dimension chart id) dimensions) ∙ ap is_some f in
          absurd (true≢false (sym (ap is_some e) ∙ none))
      by (Some dimension) f =
          let parts = and_parts (bytes_eq chart dimension.chart) (bytes_eq id dimension.def.id) (found-passes (is_dimension chart id) dimensions dimension f) in
          get_or_from_slice_get (map (last_row h) dimensions) n (last_row h dimension) None (slice_get-map (last_row h) dimensions n ∙ ap (option_map (last_row h)) (at ∙ f))
          ∙ sym (λ i. option_map last_of (last_set h (same_text chart dimension.chart parts.0 i) (same_text id dimension.def.id parts.1 i)))

  pub rows-are : AreLastOf (map (last_row h) dimensions) h
  rows-are = record {
    rows = λ chart id. row-at chart id (series_of (registry_of h) chart id) refl;
    within = omega (arith, length-map dimensions (last_row h));
  }

-- their values
raw-of : (last : Option Collected) → option_map raw_of (option_map last_of last) ≡ option_map (λ (last : Collected). last.value) last
raw-of None = refl
raw-of (Some last) = refl

raws-from : (h : List Beat) (dimensions : List OpenDim) → map (option_map raw_of) (map (last_row h) dimensions) ≡ map (last_raw h) dimensions
raws-from h [] = refl
raws-from h (dimension ∷ dimensions) = λ i. raw-of (last_set h dimension.chart dimension.def.id) i ∷ raws-from h dimensions i

pub raws-are : (h : List Beat) → map (option_map raw_of) (map (last_row h) (registry_of h).dimensions) ≡ raws_seen h
raws-are h = raws-from h (registry_of h).dimensions

-- ---- last points
stored-word : (point : Option Point) → HasWord point → stored_point point ≡ option_map point_in_side point
stored-word None has = refl
stored-word (Some point) has = ap (λ (b : Bool). if b then Some (point_in_side point) else None) has

pub words-stored : (points : List (Option Point)) → AllByRecursion HasWord points → map stored_point points ≡ map (option_map point_in_side) points
words-stored [] all = refl
words-stored (point ∷ points) all = λ i. stored-word point all.0 i ∷ words-stored points all.1 i

point-again : (point : Option Point) → option_map point_back (option_map point_in_side point) ≡ point
point-again None = refl
point-again (Some point) = refl

pub points-again : (points : List (Option Point)) → map (option_map point_back) (map (option_map point_in_side) points) ≡ points
points-again [] = refl
points-again (point ∷ points) = λ i. point-again point i ∷ points-again points i

pub points-length : (h : List Beat) → length (points_seen h) ≡ length (registry_of h).dimensions
points-length h = length-map-range_with_len (last_point h) 0 (length (registry_of h).dimensions)
