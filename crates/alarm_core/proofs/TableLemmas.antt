-- The series of all charts, one dimension after the other.
use Rattle.std.proofs.Common.{◌≡◌, ℕ, zero, suc, ◌+◌, ◌<◌, ◌≤◌, Bool, true, false, List, [], ◌∷◌, ◌++◌, length, map, take, set, get_or, slice_get, Option, Some, None, refl, sym, ap, ◌∙◌, append-nil, append_assoc, arith, if◌then◌else◌}
use Rattle.std.specs.Option.{option_map}
use Rattle.std.proofs.lemmas.List.{take_all}
use Rattle.std.proofs.lemmas.Slice.Eq.{bytes_eq-Decides}
use Rattle.std.specs.List.{range_with_len}
use Rattle.history.specs.declared.beat.OpenDim.{OpenDim}
use Rattle.history.specs.Registry.{Registry, is_of, chart_of}
use Rattle.chart_registry.specs.Defining.{chart_id}
use Rattle.alarm_core.specs.Known.{AreKnown, no_series}
use Rattle.alarm_core.specs.Series.{series_from, series_of_chart, series_of_all}
use Rattle.alarm_core.proofs.PairLemmas.{range_more}
use Rattle.alarm_core.proofs.SeriesLemmas.{first_series}

-- ---- one dimension more

one_or_none : List ℕ → ℕ → OpenDim → List ℕ
one_or_none chart number dimension = if is_of chart dimension then number ∷ [] else []

starts_with : (chart : List ℕ) (first : ℕ) (one : OpenDim) (others : List OpenDim)
    → series_from chart first (one ∷ others) ≡ one_or_none chart first one ++ series_from chart (first + 1) others
unfolding one_or_none
starts_with chart first one others = first_series chart first one others (is_of chart one) (is_of chart one) refl refl

take_more_series : (chart : List ℕ) (dimensions : List OpenDim) (first place : ℕ) (dimension : OpenDim) → slice_get dimensions place ≡ Some dimension
    → series_from chart first (take (place + 1) dimensions) ≡ series_from chart first (take place dimensions) ++ one_or_none chart (first + place) dimension
take_more_series chart [] first place dimension here = absurd (cc)
take_more_series chart (one ∷ others) first zero dimension here =
    let same : one ≡ dimension = cc in
    let start : first ≡ first + 0 = omega arith in
    starts_with chart first one [] ∙ append-nil (one_or_none chart first one)
    ∙ ap (λ (n : ℕ). one_or_none chart n one) start ∙ ap (λ (d : OpenDim). one_or_none chart (first + 0) d) same
take_more_series chart (one ∷ others) first (suc place) dimension here =
    let next : suc place + 1 ≡ suc (place + 1) = omega arith in
    let number : first + 1 + place ≡ first + suc place = omega arith in
    let prefix : List ℕ = one_or_none chart first one in
    let middle : List ℕ = series_from chart (first + 1) (take place others) in
    let back : List ℕ = one_or_none chart (first + suc place) dimension in
    ap (λ (n : ℕ). series_from chart first (take n (one ∷ others))) next
    ∙ starts_with chart first one (take (place + 1) others)
    ∙ ap (λ (l : List ℕ). prefix ++ l) (take_more_series chart others (first + 1) place dimension here ∙ ap (λ (n : ℕ). middle ++ one_or_none chart n dimension) number)
    ∙ sym (append_assoc prefix middle back)
    ∙ ap (λ (l : List ℕ). l ++ back) (sym (starts_with chart first one (take place others)))

take_series : (chart : List ℕ) (dimensions : List OpenDim) (first place : ℕ) (dimension : OpenDim) → slice_get dimensions place ≡ Some dimension
    → series_from chart first (take (place + 1) dimensions)
    ≡ series_from chart first (take place dimensions) ++ (if is_of chart dimension then (first + place) ∷ [] else [])
unfolding one_or_none
take_series chart dimensions first place dimension here = take_more_series chart dimensions first place dimension here

-- ---- a list for each number

map_range : (f g : ℕ → List ℕ) (a n : ℕ) → ((c : ℕ) → a ≤ c → c < a + n → f c ≡ g c) → map f (range_with_len a n) ≡ map g (range_with_len a n)
map_range f g a zero same = refl
map_range f g a (suc n) same =
    ap (λ (x : List ℕ). x ∷ map f (range_with_len (a + 1) n)) (same a (omega arith) (omega arith))
    ∙ ap (λ (xs : List (List ℕ)). g a ∷ xs) (map_range f g (a + 1) n (λ c from to. same c (omega arith) (omega arith)))

set_range : (f g : ℕ → List ℕ) (a n k : ℕ) (y : List ℕ) → k < n → y ≡ g (a + k)
    → ((c : ℕ) → a ≤ c → c < a + n → (c ≡ a + k → ⊥) → f c ≡ g c) → set (map f (range_with_len a n)) k y ≡ map g (range_with_len a n)
set_range f g a zero k y inside is same = absurd (omega arith)
set_range f g a (suc n) zero y inside is same =
    let start : a + 0 ≡ a = omega arith in
    ap (λ (x : List ℕ). x ∷ map f (range_with_len (a + 1) n)) (is ∙ ap g start)
    ∙ ap (λ (xs : List (List ℕ)). g a ∷ xs) (map_range f g (a + 1) n (λ c from to. same c (omega arith) (omega arith) (λ e. omega arith)))
set_range f g a (suc n) (suc k) y inside is same =
    let next : a + suc k ≡ a + 1 + k = omega arith in
    ap (λ (x : List ℕ). x ∷ set (map f (range_with_len (a + 1) n)) k y) (same a (omega arith) (omega arith) (λ e. omega arith))
    ∙ ap (λ (xs : List (List ℕ)). g a ∷ xs)
    (set_range f g (a + 1) n k y (omega arith) (is ∙ ap g next) (λ c from to other. same c (omega arith) (omega arith) (λ e. other (e ∙ next))))

get_range : (f : ℕ → List ℕ) (a n k : ℕ) (d : List ℕ) → k < n → get_or (map f (range_with_len a n)) k d ≡ f (a + k)
get_range f a zero k d inside = absurd (omega arith)
get_range f a (suc n) zero d inside = let start : a ≡ a + 0 = omega arith in ap f start
get_range f a (suc n) (suc k) d inside =
    let next : a + 1 + k ≡ a + suc k = omega arith in
    get_range f (a + 1) n k d (omega arith) ∙ ap f next

pub length_range : {A : Type 0} (f : ℕ → A) (a n : ℕ) → length (map f (range_with_len a n)) ≡ n
length_range {A} f a zero = refl
length_range {A} f a (suc n) = ap suc (length_range f (a + 1) n)

-- ---- all charts

-- the series of a chart among the first dimensions
abbrev pub series_before : Registry → ℕ → ℕ → List ℕ
series_before registry place chart = series_from (chart_id registry chart) 0 (take place registry.dimensions)

own_series : (registry : Registry) (count chart owner : ℕ) (dimension : OpenDim) → AreKnown registry count → chart < count → owner < count
    → dimension.chart ≡ chart_id registry owner → (chart ≡ owner → ⊥) → is_of (chart_id registry chart) dimension ≡ false
own_series registry count chart owner dimension known inside inside_too is other = go (is_of (chart_id registry chart) dimension) refl
  where
    go : (b : Bool) → is_of (chart_id registry chart) dimension ≡ b → b ≡ false
    go true e =
        let ids : chart_id registry chart ≡ chart_id registry owner = (bytes_eq-Decides (chart_id registry chart) dimension.chart).0 e ∙ is in
        let numbers : Some chart ≡ Some owner = sym (known chart inside) ∙ ap (chart_of registry) ids ∙ known owner inside_too in
        let same : chart ≡ owner = cc in
        absurd (other same)
    go false e = refl

add_none : (registry : Registry) (place chart : ℕ) (dimension : OpenDim) → slice_get registry.dimensions place ≡ Some dimension
    → is_of (chart_id registry chart) dimension ≡ false → series_before registry place chart ≡ series_before registry (place + 1) chart
add_none registry place chart dimension here is =
    sym (take_series (chart_id registry chart) registry.dimensions 0 place dimension here
    ∙ ap (λ (b : Bool). series_before registry place chart ++ (if b then (0 + place) ∷ [] else [])) is
    ∙ append-nil (series_before registry place chart))

add_one : (registry : Registry) (place chart : ℕ) (dimension : OpenDim) → slice_get registry.dimensions place ≡ Some dimension
    → dimension.chart ≡ chart_id registry chart → series_before registry place chart ++ place ∷ [] ≡ series_before registry (place + 1) chart
add_one registry place chart dimension here is =
    let own : is_of (chart_id registry chart) dimension ≡ true = (bytes_eq-Decides (chart_id registry chart) dimension.chart).1 (sym is) in
    let number : 0 + place ≡ place = omega arith in
    sym (take_series (chart_id registry chart) registry.dimensions 0 place dimension here
    ∙ ap (λ (b : Bool). series_before registry place chart ++ (if b then (0 + place) ∷ [] else [])) own
    ∙ ap (λ (n : ℕ). series_before registry place chart ++ n ∷ []) number)

-- a series is added to the list of its chart
table_more : (registry : Registry) (count place owner : ℕ) (dimension : OpenDim) (old new : List (List ℕ)) → AreKnown registry count → owner < count
    → slice_get registry.dimensions place ≡ Some dimension → dimension.chart ≡ chart_id registry owner
    → old ≡ map (series_before registry place) (range_with_len 0 count)
    → new ≡ set old owner (get_or old owner [] ++ place ∷ [])
    → new ≡ map (series_before registry (place + 1)) (range_with_len 0 count)
table_more registry count place owner dimension old new known inside here is was made =
    let at : 0 + owner ≡ owner = omega arith in
    let here_before : get_or old owner [] ≡ series_before registry place owner =
    ap (λ (all : List (List ℕ)). get_or all owner []) was ∙ get_range (series_before registry place) 0 count owner [] inside ∙ ap (series_before registry place) at in
    let value : get_or old owner [] ++ place ∷ [] ≡ series_before registry (place + 1) (0 + owner) =
    ap (λ (l : List ℕ). l ++ place ∷ []) here_before ∙ add_one registry place owner dimension here is ∙ ap (series_before registry (place + 1)) (sym at) in
    made
    ∙ ap (λ (all : List (List ℕ)). set all owner (get_or old owner [] ++ place ∷ [])) was
    ∙ set_range (series_before registry place) (series_before registry (place + 1)) 0 count owner (get_or old owner [] ++ place ∷ []) inside value
    (λ c from to other. add_none registry place c dimension here (own_series registry count c owner dimension known (omega arith) inside is (λ e. other (e ∙ sym at))))

pub table_step : (registry : Registry) (count place owner : ℕ) (found : Option OpenDim) (old new : List (List ℕ)) → AreKnown registry count → owner < count
    → slice_get registry.dimensions place ≡ found → option_map (λ (dimension : OpenDim). dimension.chart) found ≡ Some (chart_id registry owner)
    → old ≡ map (series_before registry place) (range_with_len 0 count)
    → new ≡ set old owner (get_or old owner [] ++ place ∷ [])
    → new ≡ map (series_before registry (place + 1)) (range_with_len 0 count)
table_step registry count place owner None old new known inside here is was made = absurd (cc)
table_step registry count place owner (Some dimension) old new known inside here is was made =
    let same : dimension.chart ≡ chart_id registry owner = cc in
    table_more registry count place owner dimension old new known inside here same was made

-- before the first dimension no chart has a series
pub table_none : (registry : Registry) (count : ℕ) → map no_series (range_with_len 0 count) ≡ map (series_before registry 0) (range_with_len 0 count)
table_none registry count = map_range no_series (series_before registry 0) 0 count (λ c from to. refl)

-- one chart more has none
pub none_more : (count : ℕ) (old new : List (List ℕ)) → old ≡ map no_series (range_with_len 0 count) → new ≡ old ++ [] ∷ []
    → new ≡ map no_series (range_with_len 0 (count + 1))
none_more count old new was made =
    made ∙ ap (λ (l : List (List ℕ)). l ++ [] ∷ []) was ∙ sym (map_append (range_with_len 0 count) (count ∷ [])) ∙ ap (map no_series) (sym (range_more count))
  where
    map_append : (xs ys : List ℕ) → map no_series (xs ++ ys) ≡ map no_series xs ++ map no_series ys
    map_append [] ys = refl
    map_append (x ∷ xs) ys = ap (λ (rest : List (List ℕ)). [] ∷ rest) (map_append xs ys)

-- after the last dimension all are there
pub table_done : (registry : Registry) (place : ℕ) (lists : List (List ℕ)) → length registry.dimensions ≤ place
    → lists ≡ map (series_before registry place) (range_with_len 0 (length registry.charts)) → lists ≡ series_of_all registry
unfolding series_of_chart
table_done registry place lists end is =
    is ∙ map_range (series_before registry place) (series_of_chart registry) 0 (length registry.charts)
    (λ c from to. ap (series_from (chart_id registry c) 0) (take_all place registry.dimensions end))

-- the list of a chart
pub table_at : (registry : Registry) (lists : List (List ℕ)) (chart : ℕ) (d : List ℕ) → chart < length registry.charts → lists ≡ series_of_all registry
    → get_or lists chart d ≡ series_of_chart registry chart
table_at registry lists chart d inside is =
    let at : 0 + chart ≡ chart = omega arith in
    ap (λ (all : List (List ℕ)). get_or all chart d) is ∙ get_range (series_of_chart registry) 0 (length registry.charts) chart d inside ∙ ap (series_of_chart registry) at
