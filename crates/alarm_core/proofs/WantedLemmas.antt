-- The pairs that are wanted: they rise, and no two of one chart have alarms of one name. Their states stay.
use Rattle.std.proofs.Common.{◌≡◌, ℕ, zero, suc, ◌+◌, ◌<◌, ◌≤◌, ◌==◌, ◌⊎◌, inl, inr, Bool, true, false, cond, not, ◌&&◌, ltb, List, [], ◌∷◌, ◌++◌, length, map, filter, take, find, Option, Some, None, arith, refl, sym, ap, subst, ◌∙◌}
use Rattle.std.specs.Prelude.{slice_get}
use Rattle.std.specs.Bool.{beq}
use Rattle.std.specs.List.{AllByRecursion, flat_map, filter_map, cons_option, list_any, range_with_len}
use Rattle.std.specs.Option.{option_map_or}
use Rattle.std.specs.Str.{bytes_eq}
use Rattle.std.proofs.lemmas.Bool.{and_from, and_parts, eqb-true, lt-ltb}
use Rattle.std.proofs.lemmas.List.Concat.{flat_map-cons}
use Rattle.std.proofs.lemmas.Option.{slice_get_within}
use Rattle.list_lemmas.proofs.Every.{all-append as each_more, all-take as each_cut, all-weaker as each_so}
use Rattle.health_config.specs.Entity.{Alarm}
use Rattle.history.specs.Registry.{Registry}
use Rattle.history.specs.declared.chart.ChartDef.{ChartDef}
use Rattle.alarm_events.specs.declared.event.Event.{Event}
use Rattle.alarm_core.specs.declared.pairs.Pair.{Pair}
use Rattle.alarm_core.specs.declared.state.Holder.{Holder}
use Rattle.alarm_core.specs.declared.state.Holder.TheVariants as holder
use Rattle.alarm_core.specs.declared.state.State.{State}
use Rattle.alarm_core.specs.Charts.{owner, owner_of}
use Rattle.alarm_core.specs.Pairs.{most_pairs, first_pairs, is_on, is_on_at, goes_before, goes_before_at, is_computed, is_pair, pairs_of, wanted}
use Rattle.alarm_core.specs.Pairing.{is_of, is_same_at, state_of, states_of, stays, fresh, removal, removal_of, removals}
use Rattle.alarm_core.specs.Same.{is_same}
use Rattle.alarm_core.proofs.PairLemmas.{any_found, or_left, or_right}
use Rattle.alarm_core.proofs.SameLemmas.{alarms_alike, bytes_back, number_back}

-- ---- lists of pairs

-- a pair is behind another: its alarm is, or it has the same alarm and its chart is
abbrev pub After : Pair → Pair → Type 0
After p q = (p.alarm < q.alarm) ⊎ ((p.alarm ≡ q.alarm) × (p.chart < q.chart))

abbrev pub Rise : List Pair → Type 0
Rise [] = Unit {0}
Rise (p ∷ ps) = AllByRecursion (After p) ps × Rise ps

pub each_both : {A : Type 0} (P Q R : A → Type 0) → ((p : A) → P p → Q p → R p) → (ps : List A) → AllByRecursion P ps → AllByRecursion Q ps → AllByRecursion R ps
each_both P Q R so [] is too = tt
each_both P Q R so (p ∷ ps) is too = (so p is.0 too.0, each_both P Q R so ps is.1 too.1)

rise_cut : (n : ℕ) (ps : List Pair) → Rise ps → Rise (take n ps)
rise_cut zero ps is = tt
rise_cut (suc n) [] is = tt
rise_cut (suc n) (p ∷ ps) is = (each_cut (After p) n ps is.0, rise_cut n ps is.1)

rise_more : (ps qs : List Pair) → Rise ps → Rise qs → AllByRecursion (λ p. AllByRecursion (After p) qs) ps → Rise (ps ++ qs)
rise_more [] qs is so far = so
rise_more (p ∷ ps) qs is so far = (each_more (After p) ps qs is.0 far.0, rise_more ps qs is.1 so far.1)

-- ---- the pairs of one alarm

abbrev pair_with : ℕ → ℕ → Pair
pair_with e chart = record { alarm = e; chart = chart }

-- a pair of this alarm with a chart from a number on that passes
abbrev IsOfRow : (ℕ → Bool) → ℕ → ℕ → Pair → Type 0
IsOfRow keep e a p = (p.alarm ≡ e) × ((a ≤ p.chart) × (keep p.chart ≡ true))

abbrev IsRow : (ℕ → Bool) → ℕ → ℕ → List Pair → Type 0
IsRow keep e a ps = AllByRecursion (IsOfRow keep e a) ps × Rise ps

row_next : (keep : ℕ → Bool) (e a : ℕ) (rest : List ℕ) (b : Bool) → keep a ≡ b → IsRow keep e (a + 1) (map (pair_with e) rest)
    → IsRow keep e a (map (pair_with e) (cond b (a ∷ rest) rest))
row_next keep e a rest true is so = (
  ((refl, (omega arith, is)), each_so (IsOfRow keep e (a + 1)) (IsOfRow keep e a) (λ p found. (found.0, (omega (arith, found.1.0), found.1.1))) (map (pair_with e) rest) so.0),
  (each_so (IsOfRow keep e (a + 1)) (After (pair_with e a)) (λ p found. inr (sym found.0, omega (arith, found.1.0))) (map (pair_with e) rest) so.0, so.1),
)
row_next keep e a rest false is so =
    (each_so (IsOfRow keep e (a + 1)) (IsOfRow keep e a) (λ p found. (found.0, (omega (arith, found.1.0), found.1.1))) (map (pair_with e) rest) so.0, so.1)

row_is : (keep : ℕ → Bool) (e a n : ℕ) → IsRow keep e a (map (pair_with e) (filter keep (range_with_len a n)))
row_is keep e a zero = (tt, tt)
row_is keep e a (suc n) = row_next keep e a (filter keep (range_with_len (a + 1) n)) (keep a) refl (row_is keep e (a + 1) n)

-- ---- all pairs

abbrev pub IsComputed : List Alarm → List ChartDef → Pair → Type 0
IsComputed alarms charts p = is_pair alarms charts p.alarm p.chart ≡ true

-- a pair of an alarm from a place on
abbrev IsFrom : List Alarm → List ChartDef → ℕ → Pair → Type 0
IsFrom alarms charts a p = (a ≤ p.alarm) × IsComputed alarms charts p

rows_is : (alarms : List Alarm) (charts : List ChartDef) (a n : ℕ)
    → AllByRecursion (IsFrom alarms charts a) (flat_map (pairs_of alarms charts) (range_with_len a n)) × Rise (flat_map (pairs_of alarms charts) (range_with_len a n))
rows_is alarms charts a zero = (tt, tt)
rows_is alarms charts a (suc n) =
    let f : ℕ → List Pair = pairs_of alarms charts in
    let row : IsRow (is_pair alarms charts a) a 0 (f a) = row_is (is_pair alarms charts a) a 0 (length charts) in
    let rest : List Pair = flat_map f (range_with_len (a + 1) n) in
    let next = rows_is alarms charts (a + 1) n in
    let first : AllByRecursion (IsFrom alarms charts a) (f a) =
    each_so (IsOfRow (is_pair alarms charts a) a 0) (IsFrom alarms charts a)
    (λ p found. (omega (arith, found.0), subst (λ (e : ℕ). is_pair alarms charts e p.chart ≡ true) (sym found.0) found.1.1)) (f a) row.0 in
    let others : AllByRecursion (IsFrom alarms charts a) rest =
    each_so (IsFrom alarms charts (a + 1)) (IsFrom alarms charts a) (λ p found. (omega (arith, found.0), found.1)) rest next.0 in
    let apart : AllByRecursion (λ p. AllByRecursion (After p) rest) (f a) =
    each_so (IsOfRow (is_pair alarms charts a) a 0) (λ p. AllByRecursion (After p) rest)
    (λ p found. each_so (IsFrom alarms charts (a + 1)) (After p) (λ q later. inl (omega (arith, found.0, later.0))) rest next.0) (f a) row.0 in
    let all : AllByRecursion (IsFrom alarms charts a) (f a ++ rest) × Rise (f a ++ rest) =
    (each_more (IsFrom alarms charts a) (f a) rest first others, rise_more (f a) rest row.1 next.1 apart) in
    subst (λ (ps : List Pair). AllByRecursion (IsFrom alarms charts a) ps × Rise ps) (sym (flat_map-cons f a (range_with_len (a + 1) n))) all

pub wanted_each : (alarms : List Alarm) (charts : List ChartDef) → AllByRecursion (IsComputed alarms charts) (wanted alarms charts)
unfolding first_pairs
wanted_each alarms charts =
    each_cut (IsComputed alarms charts) most_pairs (flat_map (pairs_of alarms charts) (range_with_len 0 (length alarms)))
    (each_so (IsFrom alarms charts 0) (IsComputed alarms charts) (λ p found. found.1) (flat_map (pairs_of alarms charts) (range_with_len 0 (length alarms))) (rows_is alarms charts 0 (length alarms)).0)

pub wanted_rise : (alarms : List Alarm) (charts : List ChartDef) → Rise (wanted alarms charts)
unfolding first_pairs
wanted_rise alarms charts = rise_cut most_pairs (flat_map (pairs_of alarms charts) (range_with_len 0 (length alarms))) (rows_is alarms charts 0 (length alarms)).1

-- ---- two alarms of one name

pub some_passes : {A : Type 0} (test : A → Bool) (o : Option A) → option_map_or test o false ≡ true → (a : A) × (o ≡ Some a) × (test a ≡ true)
some_passes test None is = absurd cc
some_passes test (Some a) is = (a, refl, is)

-- the chart of a pair, on which its alarm is computed
pub chart_of_pair : (alarms : List Alarm) (charts : List ChartDef) (p : Pair) → IsComputed alarms charts p
    → (def : ChartDef) × (slice_get charts p.chart ≡ Some def) × (is_computed alarms def p.alarm ≡ true)
chart_of_pair alarms charts p is = some_passes (λ (def : ChartDef). is_computed alarms def p.alarm) (slice_get charts p.chart) is

pub on_chart : (alarms : List Alarm) (def : ChartDef) (e : ℕ) → is_computed alarms def e ≡ true → is_on_at alarms def e ≡ true
on_chart alarms def e is = (and_parts (is_on_at alarms def e) _ is).0

-- the alarm of a place that is computed
pub alarm_of_place : (alarms : List Alarm) (def : ChartDef) (e : ℕ) → is_computed alarms def e ≡ true → (x : Alarm) × (slice_get alarms e ≡ Some x)
alarm_of_place alarms def e is =
    let found = some_passes (λ (entity : Alarm). is_on entity def) (slice_get alarms e) (on_chart alarms def e is) in
    (found.0, found.1)

none_of : (b : Bool) → not b ≡ true → b ≡ true → ⊥
none_of true is so = absurd cc
none_of false is so = absurd cc

-- an alarm that another goes before on a chart is not computed for it
replaced : (alarms : List Alarm) (def : ChartDef) (e f : ℕ) (x : Alarm) → slice_get alarms f ≡ Some x → is_computed alarms def e ≡ true → goes_before_at alarms f e ≡ true
    → is_on_at alarms def f ≡ true → ⊥
replaced alarms def e f x there computed before on =
    let test : ℕ → Bool = λ (f : ℕ). goes_before_at alarms f e && is_on_at alarms def f in
    let found : true ≡ list_any test (range_with_len 0 (length alarms)) =
    any_found test (length alarms) f (slice_get_within alarms f x there) (and_from (goes_before_at alarms f e) (is_on_at alarms def f) before on) in
    none_of (list_any test (range_with_len 0 (length alarms))) (and_parts (is_on_at alarms def e) _ computed).1 (sym found)

before_at : (alarms : List Alarm) (f e : ℕ) (x y : Alarm) → slice_get alarms f ≡ Some x → slice_get alarms e ≡ Some y → goes_before_at alarms f e ≡ goes_before f x e y
before_at alarms f e x y is_x is_y =
    ap (λ (o : Option Alarm). option_map_or (λ (entity : Alarm). option_map_or (λ (other : Alarm). goes_before f other e entity) (slice_get alarms f) false) o false) is_y
    ∙ ap (λ (o : Option Alarm). option_map_or (λ (other : Alarm). goes_before f other e y) o false) is_x

-- of two alarms of one name on a chart one goes before the other
pub names_apart : (alarms : List Alarm) (def : ChartDef) (f e : ℕ) (x y : Alarm) → slice_get alarms f ≡ Some x → slice_get alarms e ≡ Some y → f < e
    → is_computed alarms def f ≡ true → is_computed alarms def e ≡ true → x.name ≡ y.name → ⊥
names_apart alarms def f e x y is_x is_y less one other same = by_kind x.template y.template refl refl
  where
    first : cond (beq x.template y.template) (ltb f e) y.template ≡ true → ⊥
    first goes =
        replaced alarms def e f x is_x other
        (before_at alarms f e x y is_x is_y ∙ and_from (bytes_eq x.name y.name) (cond (beq x.template y.template) (ltb f e) y.template) (bytes_back x.name y.name same) goes)
        (on_chart alarms def f one)

    second : cond (beq y.template x.template) (ltb e f) x.template ≡ true → ⊥
    second goes =
        replaced alarms def f e y is_y one
        (before_at alarms e f y x is_y is_x ∙ and_from (bytes_eq y.name x.name) (cond (beq y.template x.template) (ltb e f) x.template) (bytes_back y.name x.name (sym same)) goes)
        (on_chart alarms def e other)

    goes_by : (s t : Bool) → x.template ≡ s → y.template ≡ t → cond (beq s t) (ltb f e) t ≡ true → cond (beq x.template y.template) (ltb f e) y.template ≡ true
    goes_by s t a b is = ap (λ (s : Bool). cond (beq s y.template) (ltb f e) y.template) a ∙ ap (λ (t : Bool). cond (beq s t) (ltb f e) t) b ∙ is

    by_kind : (s t : Bool) → x.template ≡ s → y.template ≡ t → ⊥
    by_kind true true a b = first (goes_by true true a b (lt-ltb f e less))
    by_kind false false a b = first (goes_by false false a b (lt-ltb f e less))
    by_kind false true a b = first (goes_by false true a b refl)
    by_kind true false a b =
        second (ap (λ (s : Bool). cond (beq y.template s) (ltb e f) s) a ∙ ap (λ (t : Bool). cond (beq t true) (ltb e f) true) b)

-- the other pair of a chart is of an alarm of another name
pub pairs_apart : (alarms : List Alarm) (charts : List ChartDef) (p q : Pair) (x y : Alarm) → IsComputed alarms charts p → IsComputed alarms charts q → After p q
    → p.chart ≡ q.chart → slice_get alarms p.alarm ≡ Some x → slice_get alarms q.alarm ≡ Some y → x.name ≡ y.name → ⊥
pairs_apart alarms charts p q x y one other (inl less) chart is_x is_y same =
    let found = chart_of_pair alarms charts p one in
    let def : ChartDef = found.0 in
    let there : is_pair alarms charts q.alarm p.chart ≡ true = subst (λ (c : ℕ). is_pair alarms charts q.alarm c ≡ true) (sym chart) other in
    let computed : is_computed alarms def q.alarm ≡ true =
    sym (ap (λ (o : Option ChartDef). option_map_or (λ (def : ChartDef). is_computed alarms def q.alarm) o false) found.1) ∙ there in
    names_apart alarms def p.alarm q.alarm x y is_x is_y less found.2 computed same
pairs_apart alarms charts p q x y one other (inr less) chart is_x is_y same = absurd (omega (arith, less.1, chart))

-- ---- the states of pairs

-- a state of a pair is its own
own : (alarms : List Alarm) (charts : List ChartDef) (p : Pair) (s : State) → IsComputed alarms charts p → owner s ≡ owner_of p → is_of alarms alarms p s ≡ true
own alarms charts p s is at =
    let found = chart_of_pair alarms charts p is in
    let alarm = alarm_of_place alarms found.0 p.alarm found.2 in
    let x : Alarm = alarm.0 in
    let chart : (s.chart == p.chart) ≡ true = ap (λ (n : ℕ). n == p.chart) (ap (λ (o : Holder × ℕ). o.1) at) ∙ number_back p.chart p.chart refl in
    let held : is_same_at alarms s.alarm alarms p.alarm ≡ is_same_at alarms (holder.Alarm p.alarm) alarms p.alarm =
    ap (λ (h : Holder). is_same_at alarms h alarms p.alarm) (ap (λ (o : Holder × ℕ). o.0) at) in
    let same : is_same_at alarms (holder.Alarm p.alarm) alarms p.alarm ≡ true =
    ap (λ (o : Option Alarm). option_map_or (λ (one : Alarm). option_map_or (is_same one) o false) o false) alarm.1 ∙ (alarms_alike x x).1 refl in
    and_from (s.chart == p.chart) (is_same_at alarms s.alarm alarms p.alarm) chart (held ∙ same)

pub false_unless : (b : Bool) → (b ≡ true → ⊥) → b ≡ false
false_unless true never = absurd (never refl)
false_unless false never = refl

-- and it is no other's
not_own : (alarms : List Alarm) (charts : List ChartDef) (p q : Pair) (s : State) → IsComputed alarms charts p → IsComputed alarms charts q → After p q → owner s ≡ owner_of p
    → is_of alarms alarms q s ≡ false
not_own alarms charts p q s one other later at = false_unless (is_of alarms alarms q s) refused
  where
    refused : is_of alarms alarms q s ≡ true → ⊥
    refused is =
        let parts = and_parts (s.chart == q.chart) (is_same_at alarms s.alarm alarms q.alarm) is in
        let chart : p.chart ≡ q.chart = sym (ap (λ (o : Holder × ℕ). o.1) at) ∙ eqb-true s.chart q.chart parts.0 in
        let same : is_same_at alarms (holder.Alarm p.alarm) alarms q.alarm ≡ true =
        sym (ap (λ (h : Holder). is_same_at alarms h alarms q.alarm) (ap (λ (o : Holder × ℕ). o.0) at)) ∙ parts.1 in
        let mine = some_passes (λ (x : Alarm). option_map_or (is_same x) (slice_get alarms q.alarm) false) (slice_get alarms p.alarm) same in
        let theirs = some_passes (is_same mine.0) (slice_get alarms q.alarm) mine.2 in
        let alike : mine.0 ≡ theirs.0 = (alarms_alike mine.0 theirs.0).0 theirs.2 in
        pairs_apart alarms charts p q mine.0 theirs.0 one other later chart mine.1 theirs.1 (ap (λ (x : Alarm). x.name) alike)

pub map_each : {A B : Type 0} (f g : A → B) (xs : List A) → AllByRecursion (λ x. f x ≡ g x) xs → map f xs ≡ map g xs
map_each f g [] is = refl
map_each {A} {B} f g (x ∷ xs) is = ap (λ (y : B). y ∷ map f xs) is.0 ∙ ap (λ (ys : List B). g x ∷ ys) (map_each f g xs is.1)

-- the states of pairs are found again
pub states_stay : (alarms : List Alarm) (charts : List ChartDef) (ps : List Pair) (ss : List State) → AllByRecursion (IsComputed alarms charts) ps → Rise ps
    → map owner ss ≡ map owner_of ps → states_of alarms alarms ss ps ≡ ss
states_stay alarms charts [] [] each rise at = refl
states_stay alarms charts [] (s ∷ ss) each rise at = absurd cc
states_stay alarms charts (p ∷ ps) [] each rise at = absurd cc
states_stay alarms charts (p ∷ ps) (s ∷ ss) each rise at =
    let head : owner s ≡ owner_of p = cc in
    let tail : map owner ss ≡ map owner_of ps = cc in
    let made : Pair → Option State → State = λ (q : Pair) (o : Option State). option_map_or (λ (state : State). record state { alarm = holder.Alarm q.alarm }) o (fresh q) in
    let found : state_of alarms alarms (s ∷ ss) p ≡ record s { alarm = holder.Alarm p.alarm } =
    ap (λ (b : Bool). made p (cond b (Some s) (find (is_of alarms alarms p) ss))) (own alarms charts p s each.0 head) in
    let itself : record s { alarm = holder.Alarm p.alarm } ≡ s = ap (λ (h : Holder). record s { alarm = h }) (sym (ap (λ (o : Holder × ℕ). o.0) head)) in
    let skip : AllByRecursion (λ q. state_of alarms alarms (s ∷ ss) q ≡ state_of alarms alarms ss q) ps =
    each_both (After p) (IsComputed alarms charts) (λ q. state_of alarms alarms (s ∷ ss) q ≡ state_of alarms alarms ss q)
    (λ q later computed. ap (λ (b : Bool). made q (cond b (Some s) (find (is_of alarms alarms q) ss))) (not_own alarms charts p q s each.0 computed later head)) ps rise.0 each.1 in
    let rest : map (state_of alarms alarms (s ∷ ss)) ps ≡ ss =
    map_each (state_of alarms alarms (s ∷ ss)) (state_of alarms alarms ss) ps skip ∙ states_stay alarms charts ps ss each.1 rise.1 tail in
    ap (λ (first : State). first ∷ map (state_of alarms alarms (s ∷ ss)) ps) (found ∙ itself) ∙ ap (λ (others : List State). s ∷ others) rest

all_stay : (alarms : List Alarm) (charts : List ChartDef) (ps : List Pair) (ss : List State) → AllByRecursion (IsComputed alarms charts) ps
    → map owner ss ≡ map owner_of ps → AllByRecursion (λ s. stays alarms alarms ps s ≡ true) ss
all_stay alarms charts [] [] each at = tt
all_stay alarms charts [] (s ∷ ss) each at = absurd cc
all_stay alarms charts (p ∷ ps) [] each at = absurd cc
all_stay alarms charts (p ∷ ps) (s ∷ ss) each at =
    let head : owner s ≡ owner_of p = cc in
    let tail : map owner ss ≡ map owner_of ps = cc in (
      or_left (is_of alarms alarms p s) (stays alarms alarms ps s) (own alarms charts p s each.0 head),
      each_so (λ (t : State). stays alarms alarms ps t ≡ true) (λ (t : State). stays alarms alarms (p ∷ ps) t ≡ true)
          (λ t is. or_right (is_of alarms alarms p t) (stays alarms alarms ps t) is) ss (all_stay alarms charts ps ss each.1 tail),
    )

none_told : {A : Type 0} (f : A → Option Event) (xs : List A) → AllByRecursion (λ x. f x ≡ None) xs → filter_map f xs ≡ []
none_told f [] is = refl
none_told f (x ∷ xs) is = ap (λ (o : Option Event). cons_option o (filter_map f xs)) is.0 ∙ none_told f xs is.1

-- and none of them goes
pub none_goes : (alarms : List Alarm) (lost : List (List ℕ)) (charts : List ChartDef) (ps : List Pair) (registry : Registry) (moment : ℕ) (ss : List State)
    → AllByRecursion (IsComputed alarms charts) ps → map owner ss ≡ map owner_of ps → removals alarms lost alarms ps registry moment ss ≡ []
none_goes alarms lost charts ps registry moment ss each at =
    none_told (removal_of alarms lost alarms ps registry moment) ss
    (each_so (λ (s : State). stays alarms alarms ps s ≡ true) (λ (s : State). removal_of alarms lost alarms ps registry moment s ≡ None)
    (λ s is. ap (λ (b : Bool). cond b None (Some (removal alarms lost registry moment s))) is) ss (all_stay alarms charts ps ss each at))
