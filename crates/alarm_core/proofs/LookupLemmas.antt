-- The numbers of lookups: what they come to, and how large they are.
use Rattle.std.proofs.Common.{◌≡◌, ℕ, zero, suc, ◌+◌, ◌-◌, ◌*◌, ◌^◌, ◌<◌, ◌≤◌, Bool, true, false, cond, List, [], ◌∷◌, ◌++◌, length, get_or, take, map, filter, ltb, Option, Some, None, IfSome, ℤ, pos, negsuc, neg_ℤ, ◌-ℤ◌, ◌*ℤ◌, unsigned_abs, int_lt, SFits, of_z, ◌||◌, arith, refl, sym, ap, subst, ◌∙◌}
use Rattle.std.proofs.Math.IntN.{+ℤ_idl}
use Rattle.std.proofs.Math.Nat.{mul-le-mul_left}
use Rattle.std.proofs.lemmas.Int.{fits_signed_from_abs, unsigned_abs-mul, int_min_is, int_max_is, ints}
use Rattle.std.proofs.lemmas.Bool.{cond-false, le-ltb, ltb-false}
use Rattle.std.proofs.lemmas.List.{append-nil, take_more, take_all}
use Rattle.std.proofs.lemmas.List.Sums.{length-filter, count_by-le-length}
use Rattle.std.proofs.lemmas.List.Elements.{filter-append, filter_map-append}
use Rattle.std.specs.Int.{int_min, int_max, w128}
use Rattle.std.specs.List.{cons_option}
use Rattle.std.specs.Option.{option_map}
use Rattle.fixed_num.specs.declared.units.Record.{Record}
use Rattle.fixed_num.specs.Rounding.{nearest, half_even, differ_in_sign}
use Rattle.fixed_num.proofs.RoundingLemmas.{half_even_mono, half_even_whole, unsigned_abs-signed}
use Rattle.health_config.specs.declared.lookup.Lookup.{Lookup}
use Rattle.health_config.specs.declared.lookup.Method.{Method}
use Rattle.health_config.specs.declared.lookup.Method.TheVariants as method
use Rattle.tier_rollup.specs.Buckets.{Added, limit, least, greatest, total, anomalous_count, record_of, IsWithinLimit}
use Rattle.tier_rollup.specs.Growing.{single}
use Rattle.tier_rollup.specs.Rolling.{AreWithin}
use Rattle.tier_rollup.proofs.RecordLemmas.{single_is, abs-add, anomalous-le, total_bound}
use Rattle.tier_rollup.specs.declared.point.Point.{Point}
use Rattle.query_engine.specs.Points.{are_rising_from, values}
use Rattle.query_engine.specs.Joining.{joined, HaveRoom}
use Rattle.query_engine.specs.Windows.{members_between, group_of}
use Rattle.query_engine.proofs.MemberLemmas.{members-append, members_few, members_within}
use Rattle.query_engine.proofs.JoinLemmas.{joined-none, record_of-append}
use Rattle.health_expr.specs.declared.value.Value.{Value}
use Rattle.health_expr.specs.Value.{fixed, is_zero}
use Rattle.history.specs.Registry.{Registry}
use Rattle.alarm_core.specs.declared.gather.Gathered.{Gathered}
use Rattle.alarm_core.specs.Gathering.{one_of, HasRoomFor, Adds, IsGathered}
use Rattle.alarm_core.specs.Lookups.{start_of, stop_of, sized, members, group, number, numbers, is_taken, as_point, come_to, together, is_past, percent, sum_of, result, looked_up_in, looked_up}
use Rattle.alarm_core.specs.Series.{series_of_chart}
use Rattle.chart_registry.proofs.RegistryLemmas.{or_false}

-- ---- the values of a dimension

map-append : {A B : Type 0} (f : A → B) (xs ys : List A) → map f (xs ++ ys) ≡ map f xs ++ map f ys
map-append f [] ys = refl
map-append f (x ∷ xs) ys = ap (λ rest. f x ∷ rest) (map-append f xs ys)

length-map : {A B : Type 0} (f : A → B) (xs : List A) → length (map f xs) ≡ length xs
length-map f [] = refl
length-map f (x ∷ xs) = omega (arith, length-map f xs)

sized_one : (absolute : Bool) (point : Added) → IsWithinLimit point → IsWithinLimit (sized absolute point)
sized_one true point within = within
sized_one false point within = within

sized_within : (absolute : Bool) (xs : List Added) → AreWithin xs → AreWithin (map (sized absolute) xs)
sized_within absolute [] within = tt
sized_within absolute (x ∷ xs) within = (sized_one absolute x within.0, sized_within absolute xs within.1)

pub all_within : (absolute : Bool) (start stop : ℕ) (points : List Point) → AreWithin (members absolute start stop points)
all_within absolute start stop points = sized_within absolute (members_between start stop (values points)) (members_within start stop points)

pub all_few : (absolute : Bool) (start stop : ℕ) (points : List Point) → are_rising_from 0 points ≡ true → length (members absolute start stop points) ≤ stop - start
all_few absolute start stop points rising =
    let few = members_few start stop 0 points rising in
    omega (arith, few.in_span, length-map (sized absolute) (members_between start stop (values points)))

pub all-append : (absolute : Bool) (start stop : ℕ) (xs ys : List Point)
    → members absolute start stop (xs ++ ys) ≡ members absolute start stop xs ++ members absolute start stop ys
all-append absolute start stop xs ys =
    ap (map (sized absolute)) (members-append start stop xs ys)
    ∙ map-append (sized absolute) (members_between start stop (values xs)) (members_between start stop (values ys))

-- ---- how large a number is

-- the greatest size of a number, in ten-millionths
abbrev pub most : ℕ
most = 2592000 * limit

-- each is of at most this size
AreBelow : ℕ → List Added → Type 0
AreBelow bound [] = Unit {0}
AreBelow bound (x ∷ xs) = (unsigned_abs x.units ≤ bound) × AreBelow bound xs

below_limit : (xs : List Added) → AreWithin xs → AreBelow limit xs
unfolding AreBelow
below_limit [] within = tt
below_limit (x ∷ xs) within = (within.0, below_limit xs within.1)

min_below : (bound : ℕ) (a b : ℤ) → unsigned_abs a ≤ bound → unsigned_abs b ≤ bound → unsigned_abs (int_min a b) ≤ bound
min_below bound a b low high = omega (arith, ints, int_min_is a b)

max_below : (bound : ℕ) (a b : ℤ) → unsigned_abs a ≤ bound → unsigned_abs b ≤ bound → unsigned_abs (int_max a b) ≤ bound
max_below bound a b low high = omega (arith, ints, int_max_is a b)

least_below : (bound : ℕ) (x : Added) (xs : List Added) → AreBelow bound (x ∷ xs) → unsigned_abs (least x xs) ≤ bound
unfolding AreBelow
least_below bound x [] below = below.0
least_below bound x (y ∷ ys) below = min_below bound x.units (least y ys) below.0 (least_below bound y ys below.1)

greatest_below : (bound : ℕ) (x : Added) (xs : List Added) → AreBelow bound (x ∷ xs) → unsigned_abs (greatest x xs) ≤ bound
unfolding AreBelow
greatest_below bound x [] below = below.0
greatest_below bound x (y ∷ ys) below = max_below bound x.units (greatest y ys) below.0 (greatest_below bound y ys below.1)

half_even_le : (n d : ℕ) → 0 < d → half_even n d ≤ n
half_even_le n d positive =
    let more : n * 1 ≤ n * d = mul-le-mul_left n positive in
    let low : half_even n d ≤ half_even n 1 = half_even_mono n d n 1 positive (omega arith) more in
    let same : n * 1 ≡ n = omega arith in
    let one : half_even n 1 ≡ n = ap (λ m. half_even m 1) (sym same) ∙ half_even_whole n 1 (omega arith) in
    omega (arith, low, one)

nearest_le : (num : ℤ) (d : ℕ) → 0 < d → unsigned_abs (nearest num (pos d)) ≤ unsigned_abs num
nearest_le num d positive = omega (arith, unsigned_abs-signed (differ_in_sign num (pos d)) (half_even (unsigned_abs num) d), half_even_le (unsigned_abs num) d positive)

-- the number of a method of some values is not too large
method_bound : (method : Method) (x : Added) (xs : List Added) → AreWithin (x ∷ xs) → length (x ∷ xs) ≤ 2592000
    → IfSome (record_of (x ∷ xs)) (λ points. unsigned_abs (group_of (group method) points) ≤ most)
method_bound method.Average x xs within few =
    let sum = total_bound (x ∷ xs) within in
    let near = nearest_le (total (x ∷ xs)) (length (x ∷ xs)) (omega arith) in
    omega (arith, sum, near)
method_bound method.Min x xs within few = omega (arith, least_below limit x xs (below_limit (x ∷ xs) within))
method_bound method.Max x xs within few = omega (arith, greatest_below limit x xs (below_limit (x ∷ xs) within))
method_bound method.Sum x xs within few = omega (arith, total_bound (x ∷ xs) within)
method_bound method.Count x xs within few = omega arith
method_bound method.AnomalyRate x xs within few =
    let some : anomalous_count (x ∷ xs) ≤ length (x ∷ xs) = anomalous-le (x ∷ xs) in
    let near = nearest_le (pos (100 * anomalous_count (x ∷ xs) * 10 ^ 7)) (length (x ∷ xs)) (omega arith) in
    omega (arith, some, near)

-- ---- the numbers of dimensions

-- none is too large
abbrev pub AreSmall : List ℤ → Type 0
AreSmall [] = Unit {0}
AreSmall (number ∷ others) = (unsigned_abs number ≤ most) × AreSmall others

small_by : (method : Method) (values : List Added) → AreWithin values → length values ≤ 2592000
    → IfSome (option_map (group_of (group method)) (record_of values)) (λ number. unsigned_abs number ≤ most)
small_by method [] within few = tt
small_by method (x ∷ xs) within few = method_bound method x xs within few

-- the number of a dimension in a window of at most so many seconds
pub number_small : (lookup : Lookup) (start stop : ℕ) (points : List Point) → are_rising_from 0 points ≡ true → stop ≤ start + 2592000
    → IfSome (number lookup start stop points) (λ number. unsigned_abs number ≤ most)
number_small lookup start stop points rising short =
    small_by lookup.method (members lookup.absolute start stop points) (all_within lookup.absolute start stop points)
    (omega (arith, all_few lookup.absolute start stop points rising))

cons_small : (number : Option ℤ) (others : List ℤ) → IfSome number (λ number. unsigned_abs number ≤ most) → AreSmall others → AreSmall (cons_option number others)
cons_small None others first rest = rest
cons_small (Some number) others first rest = (first, rest)

-- every series has points whose moments rise
abbrev pub AllRise : (ℕ → List Point) → Type 0
AllRise told = (series : ℕ) → are_rising_from 0 (told series) ≡ true

pub numbers_small : (lookup : Lookup) (start stop : ℕ) (told : ℕ → List Point) (series : List ℕ) → AllRise told → stop ≤ start + 2592000
    → AreSmall (numbers lookup start stop told series)
numbers_small lookup start stop told [] rise short = tt
numbers_small lookup start stop told (one ∷ others) rise short =
    cons_small (number lookup start stop (told one)) (numbers lookup start stop told others)
    (number_small lookup start stop (told one) (rise one) short) (numbers_small lookup start stop told others rise short)

cons_few : (number : Option ℤ) (others : List ℤ) → length (cons_option number others) ≤ length others + 1
cons_few None others = omega arith
cons_few (Some number) others = omega arith

pub numbers_few : (lookup : Lookup) (start stop : ℕ) (told : ℕ → List Point) (series : List ℕ) → length (numbers lookup start stop told series) ≤ length series
numbers_few lookup start stop told [] = omega arith
numbers_few lookup start stop told (one ∷ others) =
    omega (arith, cons_few (number lookup start stop (told one)) (numbers lookup start stop told others), numbers_few lookup start stop told others)

numbers_total : (found : List ℤ) → AreSmall found → unsigned_abs (total (map as_point found)) ≤ length found * most
numbers_total [] small = omega arith
numbers_total (number ∷ others) small =
    let rest : unsigned_abs (total (map as_point others)) ≤ length others * most = numbers_total others small.1 in
    let first : unsigned_abs number ≤ most = small.0 in
    omega (arith, abs-add number (total (map as_point others)), rest, first)

none_anomalous : (found : List ℤ) → anomalous_count (map as_point found) ≡ 0
none_anomalous [] = refl
none_anomalous (number ∷ others) = omega (arith, none_anomalous others)

-- one more number fits
number_room : (found : List ℤ) (number : ℤ) → AreSmall found → unsigned_abs number ≤ most → length found < 1024 → HaveRoom (come_to found) (Some (single number false))
number_room [] number small first few = tt
number_room (other ∷ others) number small first few =
    let sum : unsigned_abs (total (map as_point (other ∷ others))) ≤ length (other ∷ others) * most = numbers_total (other ∷ others) small in
    let count : length (map as_point (other ∷ others)) ≡ length (other ∷ others) = length-map as_point (other ∷ others) in
    record {
      sum_room = omega (arith, abs-add (total (map as_point (other ∷ others))) number, sum, first, few);
      count_room = omega (arith, count, few);
      anomalies_room = omega (arith, none_anomalous (other ∷ others));
    }

come_to-more : (found : List ℤ) (number : ℤ) → come_to (found ++ number ∷ []) ≡ joined (come_to found) (Some (single number false))
come_to-more found number =
    ap record_of (map-append as_point found (number ∷ []))
    ∙ record_of-append (map as_point found) (as_point number ∷ [])
    ∙ ap (joined (come_to found)) (single_is (as_point number))

-- ---- one dimension more

pub option_room : (found : List ℤ) (number : Option ℤ) → AreSmall found → IfSome number (λ number. unsigned_abs number ≤ most) → length found < 1024 → HaveRoom (come_to found) (one_of number)
option_room [] None small first few = tt
option_room (other ∷ others) None small first few = tt
option_room found (Some number) small first few = number_room found number small first few

pub option_more : (found : List ℤ) (number : Option ℤ) → come_to (found ++ cons_option number []) ≡ joined (come_to found) (one_of number)
option_more found None = ap come_to (append-nil found) ∙ sym (joined-none (come_to found))
option_more found (Some number) = come_to-more found number

pub numbers-more : (lookup : Lookup) (start stop : ℕ) (told : ℕ → List Point) (series : List ℕ) (one : ℕ)
    → numbers lookup start stop told (series ++ one ∷ []) ≡ numbers lookup start stop told series ++ cons_option (number lookup start stop (told one)) []
numbers-more lookup start stop told series one = filter_map-append (λ one. number lookup start stop (told one)) series (one ∷ [])

-- ---- what was gathered

length-take_le : (l : List ℕ) (n : ℕ) → length (take n l) ≤ n
length-take_le l zero = omega arith
length-take_le [] (suc n) = omega arith
length-take_le (x ∷ xs) (suc n) = omega (arith, length-take_le xs n)

filter_le : (keep : ℕ → Bool) (l : List ℕ) → length (filter keep l) ≤ length l
filter_le keep l = omega (arith, length-filter keep l, count_by-le-length keep l)

-- one dimension more
pub gathered_more : (registry : Registry) (lookup : Lookup) (start stop : ℕ) (told : ℕ → List Point) (series : List ℕ) (i d : ℕ) (before after : Gathered)
    → AllRise told → stop ≤ start + 2592000 → i < length series → length series ≤ 1024
    → IsGathered registry lookup start stop told (take i series) before
    → (HasRoomFor lookup.percentage (number lookup start stop (told (get_or series i d))) before
    → Adds (is_taken registry lookup (get_or series i d)) lookup.percentage (number lookup start stop (told (get_or series i d))) before after)
    → IsGathered registry lookup start stop told (take (i + 1) series) after
gathered_more registry lookup start stop told series i d before after rise short inside few was adds =
    let next : ℕ = get_or series i d in
    let prefix : List ℕ = take i series in
    let some : Option ℤ = number lookup start stop (told next) in
    let all : List ℤ = numbers lookup start stop told prefix in
    let kept : List ℕ = filter (is_taken registry lookup) prefix in
    let taken : List ℤ = numbers lookup start stop told kept in
    let short_prefix : length prefix ≤ i = length-take_le series i in
    let small = number_small lookup start stop (told next) (rise next) short in
    let few_kept : length kept ≤ length prefix = filter_le (is_taken registry lookup) prefix in
    let room_taken : HaveRoom (come_to taken) (one_of some) =
    option_room taken some (numbers_small lookup start stop told kept rise short) small (omega (arith, numbers_few lookup start stop told kept, few_kept, short_prefix, inside, few)) in
    let room_all : HaveRoom (come_to all) (one_of some) =
    option_room all some (numbers_small lookup start stop told prefix rise short) small (omega (arith, numbers_few lookup start stop told prefix, short_prefix, inside, few)) in
    let has : HasRoomFor lookup.percentage some before = record {
      taken = subst (λ (r : Option Record). HaveRoom r (one_of some)) (sym was.taken) room_taken;
      all = λ asked. subst (λ (r : Option Record). HaveRoom r (one_of some)) (sym (was.all asked)) room_all;
    } in
    let added = adds has in
    let more : take (i + 1) series ≡ prefix ++ next ∷ [] = take_more series i d inside in
    record {
      taken =
          added.taken
          ∙ kept_more (is_taken registry lookup) prefix next before.taken was.taken (is_taken registry lookup next) refl
          ∙ ap (λ (l : List ℕ). come_to (numbers lookup start stop told (filter (is_taken registry lookup) l))) (sym more);
      all = λ asked.
          added.all asked
          ∙ ap (λ (r : Option Record). joined r (one_of some)) (was.all asked)
          ∙ sym (option_more all some)
          ∙ ap come_to (sym (numbers-more lookup start stop told prefix next))
          ∙ ap (λ (l : List ℕ). come_to (numbers lookup start stop told l)) (sym more);
    }
  where
    -- the taken ones with the next
    kept_more : (keep : ℕ → Bool) (prefix : List ℕ) (next : ℕ) (before : Option Record) → before ≡ come_to (numbers lookup start stop told (filter keep prefix)) → (b : Bool) → keep next ≡ b
        → cond b (joined before (one_of (number lookup start stop (told next)))) before ≡ come_to (numbers lookup start stop told (filter keep (prefix ++ next ∷ [])))
    kept_more keep prefix next before was true e =
        ap (λ (r : Option Record). joined r (one_of (number lookup start stop (told next)))) was
        ∙ sym (option_more (numbers lookup start stop told (filter keep prefix)) (number lookup start stop (told next)))
        ∙ ap come_to (sym (numbers-more lookup start stop told (filter keep prefix) next))
        ∙ ap (λ (l : List ℕ). come_to (numbers lookup start stop told (filter keep prefix ++ l))) (sym (ap (λ (t : Bool). cond t (next ∷ []) []) e))
        ∙ ap (λ (l : List ℕ). come_to (numbers lookup start stop told l)) (sym (filter-append keep prefix (next ∷ [])))
    kept_more keep prefix next before was false e =
        was
        ∙ ap (λ (l : List ℕ). come_to (numbers lookup start stop told l)) (sym (append-nil (filter keep prefix)))
        ∙ ap (λ (l : List ℕ). come_to (numbers lookup start stop told (filter keep prefix ++ l))) (sym (ap (λ (t : Bool). cond t (next ∷ []) []) e))
        ∙ ap (λ (l : List ℕ). come_to (numbers lookup start stop told l)) (sym (filter-append keep prefix (next ∷ [])))

-- nothing yet
pub gathered_none : (registry : Registry) (lookup : Lookup) (start stop : ℕ) (told : ℕ → List Point) (series : List ℕ)
    → IsGathered registry lookup start stop told (take zero series) (record { taken = None; all = None })
gathered_none registry lookup start stop told series = record { taken = refl; all = λ asked. refl }

-- all of them
pub gathered_all : (registry : Registry) (lookup : Lookup) (start stop : ℕ) (told : ℕ → List Point) (series : List ℕ) (i : ℕ) (gathered : Gathered) → length series ≤ i
    → IsGathered registry lookup start stop told (take i series) gathered → IsGathered registry lookup start stop told series gathered
gathered_all registry lookup start stop told series i gathered end is =
    subst (λ (l : List ℕ). IsGathered registry lookup start stop told l gathered) (take_all i series end) is

-- ---- the result

below_most : (found : List ℤ) → AreSmall found → AreBelow most (map as_point found)
unfolding AreBelow
below_most [] small = tt
below_most (number ∷ others) small = (small.0, below_most others small.1)

difference_below : (bound : ℕ) (a b : ℤ) → unsigned_abs a ≤ bound → unsigned_abs b ≤ bound → unsigned_abs (a -ℤ b) ≤ 2 * bound
difference_below bound a b low high = omega (arith, ints)

-- the sum and the span of numbers fit
pub together_fits : (min2max : Bool) (found : List ℤ) → AreSmall found → length found ≤ 1024
    → IfSome (come_to found) (λ numbers. unsigned_abs (together min2max numbers) < 2 ^ 127)
together_fits min2max [] small few = tt
together_fits false (number ∷ others) small few =
    let sum : unsigned_abs (total (map as_point (number ∷ others))) ≤ length (number ∷ others) * most = numbers_total (number ∷ others) small in
    omega (arith, sum, few)
together_fits true (number ∷ others) small few =
    let below = below_most (number ∷ others) small in
    let span = difference_below most (greatest (as_point number) (map as_point others)) (least (as_point number) (map as_point others))
    (greatest_below most (as_point number) (map as_point others) below) (least_below most (as_point number) (map as_point others) below) in
    omega (arith, span)

result_same : (lookup : Lookup) (taken one other : Option Record) → (percentage : Bool) → lookup.percentage ≡ percentage → (percentage ≡ true → one ≡ other)
    → result lookup taken one ≡ result lookup taken other
result_same lookup None one other percentage is same = refl
result_same lookup (Some taken) one other true is same = ap (result lookup (Some taken)) (same refl)
result_same lookup (Some taken) one other false is same =
    ap (λ (b : Bool). cond b (percent (together lookup.min2max taken) (sum_of one)) (fixed (together lookup.min2max taken))) is
    ∙ sym (ap (λ (b : Bool). cond b (percent (together lookup.min2max taken) (sum_of other)) (fixed (together lookup.min2max taken))) is)

-- what is found in a window is what its numbers come to
pub found_in : (registry : Registry) (lookup : Lookup) (start stop : ℕ) (told : ℕ → List Point) (series : List ℕ) (gathered : Gathered) (value : Value)
    → AllRise told → stop ≤ start + 2592000 → length series ≤ 1024 → IsGathered registry lookup start stop told series gathered
    → (IfSome gathered.taken (λ numbers. unsigned_abs (together lookup.min2max numbers) < 2 ^ 127) → value ≡ result lookup gathered.taken gathered.all)
    → value ≡ looked_up_in registry series lookup start stop told
found_in registry lookup start stop told series gathered value rise short few is made =
    let kept : List ℕ = filter (is_taken registry lookup) series in
    let few_kept : length kept ≤ length series = filter_le (is_taken registry lookup) series in
    let fits = together_fits lookup.min2max (numbers lookup start stop told kept) (numbers_small lookup start stop told kept rise short)
    (omega (arith, numbers_few lookup start stop told kept, few_kept, few)) in
    made (subst (λ (r : Option Record). IfSome r (λ numbers. unsigned_abs (together lookup.min2max numbers) < 2 ^ 127)) (sym is.taken) fits)
    ∙ result_same lookup gathered.taken gathered.all (come_to (numbers lookup start stop told series)) lookup.percentage refl is.all
    ∙ ap (λ (r : Option Record). result lookup r (come_to (numbers lookup start stop told series))) is.taken

pub found_above : (registry : Registry) (chart : ℕ) (lookup : Lookup) (moment floor : ℕ) (told : ℕ → List Point) (series : List ℕ) (start stop : ℕ) (value : Value)
    → start ≡ start_of lookup moment → stop ≡ stop_of lookup moment → floor ≤ start → series ≡ series_of_chart registry chart
    → value ≡ looked_up_in registry series lookup start stop told → value ≡ looked_up registry chart lookup moment floor told
found_above registry chart lookup moment floor told series start stop value starts stops above same is =
    is
    ∙ ap (λ (l : List ℕ). looked_up_in registry l lookup start stop told) same
    ∙ ap (λ (n : ℕ). looked_up_in registry (series_of_chart registry chart) lookup n stop told) starts
    ∙ ap (λ (n : ℕ). looked_up_in registry (series_of_chart registry chart) lookup (start_of lookup moment) n told) stops
    ∙ sym (cond-false (ltb (start_of lookup moment) floor) _ _ (le-ltb (start_of lookup moment) floor (subst (λ (n : ℕ). floor ≤ n) starts above)))

-- ---- shares

zero_less : (n : ℤ) → pos 0 -ℤ n ≡ neg_ℤ n
zero_less n = +ℤ_idl (neg_ℤ n)

pub turned_fits : (n : ℤ) → unsigned_abs n < 2 ^ 127 → SFits w128 (pos 0 -ℤ n)
turned_fits n small = fits_signed_from_abs w128 (pos 0 -ℤ n) (omega (arith, ints))

turned_by : (n : ℤ) (d : ℕ) → nearest (neg_ℤ n) (pos (suc d)) ≡ nearest n (negsuc d)
turned_by (pos zero) d =
    let zero_times : 0 * suc d ≡ 0 = omega arith in
    let none : half_even 0 (suc d) ≡ 0 = ap (λ n. half_even n (suc d)) (sym zero_times) ∙ half_even_whole 0 (suc d) (omega arith) in
    ap pos none ∙ sym (ap (λ (m : ℕ). neg_ℤ (pos m)) none)
turned_by (pos (suc m)) d = refl
turned_by (negsuc m) d = refl

-- a quotient of two numbers with their signs turned is the same
pub nearest-turned : (n d : ℤ) → int_lt d (pos 0) ≡ true → nearest (pos 0 -ℤ n) (pos 0 -ℤ d) ≡ nearest n d
nearest-turned n (pos d) below = absurd (omega (arith, ints))
nearest-turned n (negsuc d) below =
    ap (λ (z : ℤ). nearest z (pos 0 -ℤ negsuc d)) (zero_less n)
    ∙ ap (nearest (neg_ℤ n)) (zero_less (negsuc d))
    ∙ turned_by n d

within_limit : (number : ℤ) → is_past number ≡ false → unsigned_abs number ≤ 10 ^ 29
within_limit number near = ltb-false (10 ^ 29) (unsigned_abs number) near

pub product_fits : (number all : ℤ) → (is_past number || is_past all) ≡ false → SFits w128 (pos 1000000000 *ℤ number)
product_fits number all near =
    let small : unsigned_abs number ≤ 10 ^ 29 = within_limit number (or_false (is_past number) (is_past all) near).0 in
    let size : unsigned_abs (pos 1000000000 *ℤ number) ≡ 1000000000 * unsigned_abs number = unsigned_abs-mul (pos 1000000000) number in
    fits_signed_from_abs w128 (pos 1000000000 *ℤ number) (omega (arith, small, size))

pub not_zero : (all : ℤ) → (of_z w128 all ≡ 0 → ⊥) → is_zero all ≡ false
not_zero (pos zero) other = absurd (other refl)
not_zero (pos (suc n)) other = refl
not_zero (negsuc n) other = refl

pub percent_is : (number all : ℤ) → is_zero all ≡ false → (is_past number || is_past all) ≡ false → fixed (nearest (pos 1000000000 *ℤ number) all) ≡ percent number all
percent_is number all other near =
    sym (cond-false (is_zero all) _ _ other ∙ cond-false (is_past number || is_past all) _ _ near)
