-- Records by series: what a look-up finds, and what a point more makes of them.
use Rattle.std.proofs.Common.{◌≡◌, ℕ, zero, suc, ◌+◌, ◌<◌, ◌≤◌, ◌==◌, cond, nat_lt, ◌⊎◌, List, [], ◌∷◌, inl, inr, Option, Some, None, arith, refl, sym, ap, ◌∙◌}
use Rattle.std.specs.BTreeMap.{insert_entry}
use Rattle.std.specs.List.{cons_option, find}
use Rattle.std.specs.Map.{lookup}
use Rattle.std.specs.Option.{option_map, option_map_or}
use Rattle.std.specs.Ordering.{match_ordering, nat_cmp}
use Rattle.std.specs.declared.cmp.Ordering.{Ordering}
use Rattle.std.specs.declared.cmp.Ordering.TheVariants.{Less, Equal, Greater}
use Rattle.std.proofs.lemmas.Bool.{cases_Bool, cases_eq, cases_lt, cond-true, cond-false, eq-eqb, eqb-true, lt-ltb, le-ltb, ne_eqb}
use Rattle.fixed_num.specs.declared.units.Record.{Record}
use Rattle.storage_number.specs.declared.point.Point.{Point as Value}
use Rattle.storage_number.specs.Word.{point_of}
use Rattle.tier_rollup.specs.Growing.{with_value}
use Rattle.beat_tiers.specs.declared.item.BeatPoint.{BeatPoint}
use Rattle.beat_tiers.specs.Beats.{AreAbove, is_series, series_limit}
use Rattle.beat_tiers.specs.State.{with_point, with_points, with_value_at}
use Rattle.beat_tiers.proofs.GivenLemmas.{entries}

pub cmp_less : (a b : ℕ) → a < b → nat_cmp a b ≡ Less
cmp_less a b lt = cond-true (nat_lt a b) Less (cond (a == b) Equal Greater) (lt-ltb a b lt)

pub cmp_greater : (a b : ℕ) → b < a → nat_cmp a b ≡ Greater
cmp_greater a b lt = cond-false (nat_lt a b) Less (cond (a == b) Equal Greater) (le-ltb a b (omega arith)) ∙ cond-false (a == b) Equal Greater (ne_eqb a b (λ e. omega arith))

pub cmp_equal : (a b : ℕ) → a ≡ b → nat_cmp a b ≡ Equal
cmp_equal a b e = cond-false (nat_lt a b) Less (cond (a == b) Equal Greater) (le-ltb a b (omega arith)) ∙ cond-true (a == b) Equal Greater (eq-eqb a b e)

-- the record of one series, and those of later ones
abbrev onto : ℕ → Option Record → List (ℕ × Record) → List (ℕ × Record)
onto series one rest = cons_option (option_map (λ one. (series, one)) one) rest

pub entries_agree : (f g : ℕ → Option Record) (from count : ℕ) → ((series : ℕ) → from ≤ series → series < from + count → f series ≡ g series) → entries f from count ≡ entries g from count
entries_agree f g from zero same = refl
entries_agree f g from (suc count) same =
    ap (λ (one : Option Record). onto from one (entries f (from + 1) count)) (same from (omega arith) (omega arith))
    ∙ ap (onto from (g from)) (entries_agree f g (from + 1) count (λ series low high. same series (omega arith) (omega arith)))

pub entries_none : (f : ℕ → Option Record) (from count : ℕ) → ((series : ℕ) → f series ≡ None) → entries f from count ≡ []
entries_none f from zero none = refl
entries_none f from (suc count) none =
    ap (λ (one : Option Record). onto from one (entries f (from + 1) count)) (none from) ∙ entries_none f (from + 1) count none

-- ---- what a look-up finds

-- a series outside those that are looked through has none
lookup_outside : (f : ℕ → Option Record) (series from count : ℕ) → (series < from) ⊎ (from + count ≤ series) → lookup (λ key. series == key) (entries f from count) ≡ None
lookup_outside f series from zero out = refl
lookup_outside f series from (suc count) out = by (f from) (is_other out) (lookup_outside f series (from + 1) count (further out))
  where
    is_other : (series < from) ⊎ (from + suc count ≤ series) → series ≡ from → ⊥
    is_other (inl lt) e = omega arith
    is_other (inr le) e = omega arith

    further : (series < from) ⊎ (from + suc count ≤ series) → (series < from + 1) ⊎ (from + 1 + count ≤ series)
    further (inl lt) = inl (omega arith)
    further (inr le) = inr (omega arith)

    by : (one : Option Record) → (series ≡ from → ⊥) → lookup (λ key. series == key) (entries f (from + 1) count) ≡ None → lookup (λ key. series == key) (onto from one (entries f (from + 1) count)) ≡ None
    by None other rest = rest
    by (Some one) other rest = cond-false (series == from) (Some one) (lookup (λ key. series == key) (entries f (from + 1) count)) (ne_eqb series from other) ∙ rest

pub lookup_entries : (f : ℕ → Option Record) (series from count : ℕ) → from ≤ series → series < from + count → lookup (λ key. series == key) (entries f from count) ≡ f series
lookup_entries f series from zero low high = absurd (omega arith)
lookup_entries f series from (suc count) low high =
    elim (cases_eq series from) [
      | inl same ↦ here (f from) same (lookup_outside f series (from + 1) count (inl (omega arith))) ∙ ap f (sym same)
      | inr other ↦ there (f from) other (lookup_entries f series (from + 1) count (omega arith) (omega arith))
    ]
  where
    here : (one : Option Record) → series ≡ from → lookup (λ key. series == key) (entries f (from + 1) count) ≡ None → lookup (λ key. series == key) (onto from one (entries f (from + 1) count)) ≡ one
    here None same rest = rest
    here (Some one) same rest = cond-true (series == from) (Some one) (lookup (λ key. series == key) (entries f (from + 1) count)) (eq-eqb series from same)

    there : (one : Option Record) → (series ≡ from → ⊥) → lookup (λ key. series == key) (entries f (from + 1) count) ≡ f series → lookup (λ key. series == key) (onto from one (entries f (from + 1) count)) ≡ f series
    there None other rest = rest
    there (Some one) other rest = cond-false (series == from) (Some one) (lookup (λ key. series == key) (entries f (from + 1) count)) (ne_eqb series from other) ∙ rest

-- ---- a record put in

-- the records, with this one of a series
abbrev pub put : ℕ → Record → (ℕ → Option Record) → ℕ → Option Record
put key one f series = cond (key == series) (Some one) (f series)

put_other : (key : ℕ) (one : Record) (f : ℕ → Option Record) (series : ℕ) → (key ≡ series → ⊥) → put key one f series ≡ f series
put_other key one f series other = cond-false (key == series) (Some one) (f series) (ne_eqb key series other)

put_same : (key : ℕ) (one : Record) (f : ℕ → Option Record) (series : ℕ) → key ≡ series → put key one f series ≡ Some one
put_same key one f series same = cond-true (key == series) (Some one) (f series) (eq-eqb key series same)

insert_below : (f : ℕ → Option Record) (key : ℕ) (one : Record) (from count : ℕ) → key < from → insert_entry nat_cmp (entries f from count) key one ≡ (key, one) ∷ entries f from count
insert_below f key one from zero lt = refl
insert_below f key one from (suc count) lt = by (f from) (insert_below f key one (from + 1) count (omega arith))
  where
    by : (was : Option Record) → insert_entry nat_cmp (entries f (from + 1) count) key one ≡ (key, one) ∷ entries f (from + 1) count
        → insert_entry nat_cmp (onto from was (entries f (from + 1) count)) key one ≡ (key, one) ∷ onto from was (entries f (from + 1) count)
    by None rest = rest
    by (Some was) rest = ap (λ (order : Ordering). match_ordering order ((key, one) ∷ (from, was) ∷ entries f (from + 1) count) ((from, one) ∷ entries f (from + 1) count) ((from, was) ∷ insert_entry nat_cmp (entries f (from + 1) count) key one)) (cmp_less key from lt)

insert_put : (f : ℕ → Option Record) (key : ℕ) (one : Record) (from count : ℕ) → from ≤ key → key < from + count
    → insert_entry nat_cmp (entries f from count) key one ≡ entries (put key one f) from count
insert_put f key one from zero low high = absurd (omega arith)
insert_put f key one from (suc count) low high =
    elim (cases_eq key from) [
      | inl same ↦ here (f from) same (insert_below f key one (from + 1) count (omega arith))
          ∙ ap (onto from (Some one)) (entries_agree f (put key one f) (from + 1) count (λ series low high. sym (put_other key one f series (λ e. omega arith))))
          ∙ ap (λ (was : Option Record). onto from was (entries (put key one f) (from + 1) count)) (sym (put_same key one f from same))
      | inr other ↦ there (f from) (omega arith) (insert_put f key one (from + 1) count (omega arith) (omega arith))
          ∙ ap (λ (was : Option Record). onto from was (entries (put key one f) (from + 1) count)) (sym (put_other key one f from other))
    ]
  where
    here : (was : Option Record) → key ≡ from → insert_entry nat_cmp (entries f (from + 1) count) key one ≡ (key, one) ∷ entries f (from + 1) count
        → insert_entry nat_cmp (onto from was (entries f (from + 1) count)) key one ≡ (from, one) ∷ entries f (from + 1) count
    here None same rest = rest ∙ ap (λ n. (n, one) ∷ entries f (from + 1) count) same
    here (Some was) same rest =
        ap (λ (order : Ordering). match_ordering order ((key, one) ∷ (from, was) ∷ entries f (from + 1) count) ((from, one) ∷ entries f (from + 1) count) ((from, was) ∷ insert_entry nat_cmp (entries f (from + 1) count) key one)) (cmp_equal key from same)

    there : (was : Option Record) → from < key → insert_entry nat_cmp (entries f (from + 1) count) key one ≡ entries (put key one f) (from + 1) count
        → insert_entry nat_cmp (onto from was (entries f (from + 1) count)) key one ≡ onto from was (entries (put key one f) (from + 1) count)
    there None later rest = rest
    there (Some was) later rest =
        ap (λ (order : Ordering). match_ordering order ((key, one) ∷ (from, was) ∷ entries f (from + 1) count) ((from, one) ∷ entries f (from + 1) count) ((from, was) ∷ insert_entry nat_cmp (entries f (from + 1) count) key one)) (cmp_greater key from later)
        ∙ ap (λ (rest : List (ℕ × Record)). (from, was) ∷ rest) rest

-- ---- points put in

-- the record of a series, with its point of a beat
abbrev pub with_word : Option Record → Option Value → Option Record
with_word was None = was
with_word was (Some value) = Some (with_value was value.units value.anomalous)

abbrev pub with_found : Option Record → Option BeatPoint → Option Record
with_found was found = option_map_or (λ (point : BeatPoint). with_word was (point_of point.word)) found was

-- the records, with a point more
abbrev one_more : BeatPoint → (ℕ → Option Record) → ℕ → Option Record
one_more point f series = cond (point.series == series) (with_word (f series) (point_of point.word)) (f series)

abbrev all_more : List BeatPoint → (ℕ → Option Record) → ℕ → Option Record
all_more [] f = f
all_more (point ∷ points) f = all_more points (one_more point f)

with_one : (f : ℕ → Option Record) (count : ℕ) (point : BeatPoint) → point.series < count → with_point (entries f 0 count) point ≡ entries (one_more point f) 0 count
with_one f count point lt = by (point_of point.word)
  where
    same_none : (series : ℕ) → f series ≡ cond (point.series == series) (with_word (f series) None) (f series)
    same_none series =
        elim (cases_Bool (point.series == series)) [
          | inl is ↦ sym (cond-true (point.series == series) (f series) (f series) is)
          | inr not ↦ sym (cond-false (point.series == series) (f series) (f series) not)
        ]

    same_some : (value : Value) (series : ℕ) → put point.series (with_value (f point.series) value.units value.anomalous) f series ≡ cond (point.series == series) (with_word (f series) (Some value)) (f series)
    same_some value series =
        elim (cases_eq point.series series) [
          | inl same ↦ ap (λ n. cond (point.series == series) (Some (with_value (f n) value.units value.anomalous)) (f series)) same
          | inr other ↦ put_other point.series (with_value (f point.series) value.units value.anomalous) f series other
              ∙ sym (cond-false (point.series == series) (with_word (f series) (Some value)) (f series) (ne_eqb point.series series other))
        ]

    by : (word : Option Value) → option_map_or (with_value_at (entries f 0 count) point.series) word (entries f 0 count) ≡ entries (λ series. cond (point.series == series) (with_word (f series) word) (f series)) 0 count
    by None = entries_agree f (λ series. cond (point.series == series) (with_word (f series) None) (f series)) 0 count (λ series low high. same_none series)
    by (Some value) =
        ap (λ (was : Option Record). insert_entry nat_cmp (entries f 0 count) point.series (with_value was value.units value.anomalous)) (lookup_entries f point.series 0 count (omega arith) (omega arith))
        ∙ insert_put f point.series (with_value (f point.series) value.units value.anomalous) 0 count (omega arith) (omega arith)
        ∙ entries_agree (put point.series (with_value (f point.series) value.units value.anomalous) f) (λ series. cond (point.series == series) (with_word (f series) (Some value)) (f series)) 0 count (λ series low high. same_some value series)

with_all : (f : ℕ → Option Record) (count least : ℕ) (points : List BeatPoint) → 65536 ≤ count → AreAbove least points → with_points (entries f 0 count) points ≡ entries (all_more points f) 0 count
with_all f count least [] few above = refl
with_all f count least (point ∷ points) few above =
    ap (λ (current : List (ℕ × Record)). with_points current points) (with_one f count point (omega (arith, above.1)))
    ∙ with_all (one_more point f) count (point.series + 1) points few above.2

-- each series has at most one point in a beat
none_found : (series least : ℕ) (points : List BeatPoint) → AreAbove least points → series < least → find (is_series series) points ≡ None
none_found series least [] above lt = refl
none_found series least (point ∷ points) above lt =
    cond-false (point.series == series) (Some point) (find (is_series series) points) (ne_eqb point.series series (λ e. omega (arith, above.0)))
    ∙ none_found series (point.series + 1) points above.2 (omega (arith, above.0))

all_found : (f : ℕ → Option Record) (series least : ℕ) (points : List BeatPoint) → AreAbove least points → all_more points f series ≡ with_found (f series) (find (is_series series) points)
all_found f series least [] above = refl
all_found f series least (point ∷ points) above =
    let rest : all_more points (one_more point f) series ≡ with_found (one_more point f series) (find (is_series series) points) = all_found (one_more point f) series (point.series + 1) points above.2 in
    elim (cases_Bool (point.series == series)) [
      | inl is ↦
          let same : point.series ≡ series = eqb-true point.series series is in
          rest ∙ ap (with_found (one_more point f series)) (none_found series (point.series + 1) points above.2 (omega arith))
          ∙ cond-true (point.series == series) (with_word (f series) (point_of point.word)) (f series) is
          ∙ ap (with_found (f series)) (sym (cond-true (point.series == series) (Some point) (find (is_series series) points) is))
      | inr not ↦
          rest ∙ ap (λ (was : Option Record). with_found was (find (is_series series) points)) (cond-false (point.series == series) (with_word (f series) (point_of point.word)) (f series) not)
          ∙ ap (with_found (f series)) (sym (cond-false (point.series == series) (Some point) (find (is_series series) points) not))
    ]

pub limit_is : series_limit ≡ 65536
unfolding series_limit
limit_is = refl

-- The records of all series, with the points of a beat.
pub with_points_is : (f g : ℕ → Option Record) (points : List BeatPoint) → AreAbove 0 points
    → ((series : ℕ) → g series ≡ with_found (f series) (find (is_series series) points))
    → with_points (entries f 0 series_limit) points ≡ entries g 0 series_limit
with_points_is f g points above same =
    with_all f series_limit 0 points (omega (arith, limit_is)) above
    ∙ entries_agree (all_more points f) g 0 series_limit (λ series low high. all_found f series 0 points above ∙ sym (same series))

-- every series is looked up, where none past the limit has one
pub lookup_is : (f : ℕ → Option Record) (series : ℕ) → (65536 ≤ series → f series ≡ None) → lookup (λ key. series == key) (entries f 0 series_limit) ≡ f series
lookup_is f series beyond = elim (cases_lt series 65536) [
  | inl lt ↦ lookup_entries f series 0 series_limit (omega arith) (omega (arith, limit_is))
  | inr le ↦ lookup_outside f series 0 series_limit (inr (omega (arith, limit_is, le))) ∙ sym (beyond le)
]
