-- Pairs depend on what alarms say of charts alone; lists that agree item by item.
use Rattle.std.proofs.Common.{◌≡◌, ℕ, zero, suc, ◌+◌, ◌<◌, Bool, false, cond, List, [], ◌∷◌, ◌++◌, length, get_or, map, filter, take, Option, Some, None, arith, refl, sym, ap, ◌∙◌}
use Rattle.std.specs.Prelude.{slice_get}
use Rattle.std.specs.List.{flat_map, range_with_len}
use Rattle.std.specs.Option.{option_map, option_map_or}
use Rattle.std.proofs.lemmas.List.{length-map}
use Rattle.std.proofs.lemmas.List.Concat.{flat_map-cons}
use Rattle.std.proofs.lemmas.Option.{slice_get-map}
use Rattle.health_config.specs.Entity.{Alarm, alarm_of}
use Rattle.health_config.specs.declared.entity.Entity.{Entity}
use Rattle.history.specs.declared.chart.ChartDef.{ChartDef}
use Rattle.alarm_core.specs.declared.charts.ChartWords.{ChartWords}
use Rattle.alarm_core.specs.declared.pairs.Pair.{Pair}
use Rattle.alarm_core.specs.Charts.{words_of, chart_with, wanted_on}
use Rattle.alarm_core.specs.Pairs.{first_pairs, is_computed, is_pair, pairs_of, wanted}

-- ---- lists that agree item by item

take_more : {A : Type 0} (xs : List A) (i : ℕ) (d : A) → i < length xs → take (i + 1) xs ≡ take i xs ++ get_or xs i d ∷ []
take_more [] i d inside = absurd (omega (arith, inside))
take_more (x ∷ xs) zero d inside = refl
take_more {A} (x ∷ xs) (suc i) d inside =
    let next : suc i + 1 ≡ suc (i + 1) = omega arith in
    ap (λ (n : ℕ). take n (x ∷ xs)) next ∙ ap (λ (ys : List A). x ∷ ys) (take_more xs i d (omega (arith, inside)))

pub map_more : {A B : Type 0} (f : A → B) (xs : List A) (i : ℕ) (d : A) → i < length xs → map f (take (i + 1) xs) ≡ map f (take i xs) ++ f (get_or xs i d) ∷ []
map_more f [] i d inside = absurd (omega (arith, inside))
map_more f (x ∷ xs) zero d inside = refl
map_more {A} {B} f (x ∷ xs) (suc i) d inside =
    let next : suc i + 1 ≡ suc (i + 1) = omega arith in
    ap (λ (n : ℕ). map f (take n (x ∷ xs))) next ∙ ap (λ (ys : List B). f x ∷ ys) (map_more f xs i d (omega (arith, inside)))

pub words_more : {A B : Type 0} (f : A → B) (xs : List A) (ys : List B) (i : ℕ) (d : A) (e : B) → i < length xs → i < length ys
    → map f (take i xs) ≡ take i ys → f (get_or xs i d) ≡ get_or ys i e → map f (take (i + 1) xs) ≡ take (i + 1) ys
words_more {A} {B} f xs ys i d e inside too so_far is =
    map_more f xs i d inside
    ∙ ap (λ (zs : List B). zs ++ f (get_or xs i d) ∷ []) so_far
    ∙ ap (λ (z : B). take i ys ++ z ∷ []) is
    ∙ sym (take_more ys i e too)

-- lists that agree whole agree at each place
pub owners_at : {A B C : Type 0} (f : A → C) (g : B → C) (xs : List A) (ys : List B) (i : ℕ) (d : A) (e : B) → i < length xs → i < length ys → map f xs ≡ map g ys
    → f (get_or xs i d) ≡ g (get_or ys i e)
owners_at f g [] ys i d e inside too same = absurd (omega (arith, inside))
owners_at f g (x ∷ xs) [] i d e inside too same = absurd (omega (arith, too))
owners_at f g (x ∷ xs) (y ∷ ys) zero d e inside too same = let head : f x ≡ g y = cc in head
owners_at f g (x ∷ xs) (y ∷ ys) (suc i) d e inside too same =
    let tail : map f xs ≡ map g ys = cc in owners_at f g xs ys i d e (omega (arith, inside)) (omega (arith, too)) tail

-- ---- pairs by what alarms say of charts

same_pair : (alarms : List Alarm) (charts : List ChartDef) (e chart : ℕ) → is_pair alarms (map chart_with (map words_of charts)) e chart ≡ is_pair alarms charts e chart
same_pair alarms charts e chart =
    let test : ChartDef → Bool = λ (def : ChartDef). is_computed alarms def e in
    ap (λ (o : Option ChartDef). option_map_or test o false)
    (slice_get-map chart_with (map words_of charts) chart ∙ ap (option_map chart_with) (slice_get-map words_of charts chart))
    ∙ by_chart (slice_get charts chart)
  where
    by_chart : (o : Option ChartDef)
        → option_map_or (λ (def : ChartDef). is_computed alarms def e) (option_map chart_with (option_map words_of o)) false ≡ option_map_or (λ (def : ChartDef). is_computed alarms def e) o false
    by_chart None = refl
    by_chart (Some def) = refl

filter_each : (p q : ℕ → Bool) → ((n : ℕ) → p n ≡ q n) → (xs : List ℕ) → filter p xs ≡ filter q xs
filter_each p q same [] = refl
filter_each p q same (x ∷ xs) =
    ap (λ (b : Bool). cond b (x ∷ filter p xs) (filter p xs)) (same x)
    ∙ ap (λ (rest : List ℕ). cond (q x) (x ∷ rest) rest) (filter_each p q same xs)

flat_map_each : (f g : ℕ → List Pair) → ((n : ℕ) → f n ≡ g n) → (xs : List ℕ) → flat_map f xs ≡ flat_map g xs
flat_map_each f g same [] = refl
flat_map_each f g same (x ∷ xs) =
    flat_map-cons f x xs
    ∙ ap (λ (prefix : List Pair). prefix ++ flat_map f xs) (same x)
    ∙ ap (λ (rest : List Pair). g x ++ rest) (flat_map_each f g same xs)
    ∙ sym (flat_map-cons g x xs)

same_row : (alarms : List Alarm) (charts : List ChartDef) (e : ℕ) → pairs_of alarms (map chart_with (map words_of charts)) e ≡ pairs_of alarms charts e
same_row alarms charts e =
    let pair : ℕ → Pair = λ (chart : ℕ). record { alarm = e; chart = chart } in
    let known : List ChartDef = map chart_with (map words_of charts) in
    let size : length known ≡ length charts = length-map (map words_of charts) chart_with ∙ length-map charts words_of in
    ap (λ (n : ℕ). map pair (filter (is_pair alarms known e) (range_with_len 0 n))) size
    ∙ ap (map pair) (filter_each (is_pair alarms known e) (is_pair alarms charts e) (same_pair alarms charts e) (range_with_len 0 (length charts)))

-- the pairs that are wanted on the words of charts are those that are wanted on them
pub wanted_known : (alarms : List Alarm) (charts : List ChartDef) → wanted_on alarms (map words_of charts) ≡ wanted alarms charts
unfolding wanted_on
wanted_known alarms charts =
    ap first_pairs (flat_map_each (pairs_of alarms (map chart_with (map words_of charts))) (pairs_of alarms charts) (same_row alarms charts) (range_with_len 0 (length alarms)))

-- without alarms none is wanted
pub none_wanted : (alarms : List Entity) (words : List ChartWords) → alarms ≡ [] → [] ≡ wanted_on (map alarm_of alarms) words
unfolding wanted_on first_pairs
none_wanted alarms words none = ap (λ (all : List Entity). wanted_on (map alarm_of all) words) (sym none)

pub none_wanted_now : (alarms : List Entity) (charts : List ChartDef) → alarms ≡ [] → [] ≡ wanted (map alarm_of alarms) charts
unfolding first_pairs
none_wanted_now alarms charts none = ap (λ (all : List Entity). wanted (map alarm_of all) charts) (sym none)
