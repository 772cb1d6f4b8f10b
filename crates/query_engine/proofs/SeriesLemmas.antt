use Rattle.std.proofs.Common.{◌≡◌, ℕ, ◌+◌, ◌<◌, ◌≤◌, Bool, true, false, cond, List, [], ◌∷◌, ◌++◌, filter, reverse, Option, Some, None, ℤ, arith, refl, sym, ap, subst, ◌∙◌}
use Rattle.std.specs.List.{cons_option}
use Rattle.std.specs.Option.{option_map}
use Rattle.std.specs.Int.{int_min, int_max}
use Rattle.std.proofs.Math.IntN.{+ℤ_comm}
use Rattle.std.proofs.lemmas.Int.{ints, int_min_is, int_max_is}
use Rattle.std.proofs.lemmas.List.{append-nil, reverse-append}
use Rattle.std.proofs.lemmas.List.Elements.{filter-append}
use Rattle.fixed_num.specs.declared.units.Record.{Record}
use Rattle.storage_number.specs.declared.point.Point.{Point as Value}
use Rattle.storage_number.specs.Word.{point_of}
use Rattle.tier_rollup.specs.Buckets.{Added, IsWithinLimit, holds, members, record_of, bucket_record}
use Rattle.tier_rollup.specs.Rolling.{IsAfter, IsRising, AreWithin}
use Rattle.tier_rollup.proofs.RecordLemmas.{same_parts}
use Rattle.tier_rollup.specs.declared.point.Point.{Point}
use Rattle.query_engine.specs.Points.{are_rising_from, values}
use Rattle.query_engine.specs.Joining.{joined}
use Rattle.query_engine.proofs.JoinLemmas.{record_of-append}
use Rattle.query_engine.proofs.MemberLemmas.{Rises, rises, values_within}

-- ---- the order of points does not matter to their record

reverse-cons : (x : Added) (xs : List Added) → reverse (x ∷ xs) ≡ reverse xs ++ x ∷ []
reverse-cons x xs = reverse-append (x ∷ []) xs

int_min_comm : (a b : ℤ) → int_min a b ≡ int_min b a
int_min_comm a b = omega (arith, ints, int_min_is a b, int_min_is b a)

int_max_comm : (a b : ℤ) → int_max a b ≡ int_max b a
int_max_comm a b = omega (arith, ints, int_max_is a b, int_max_is b a)

joined_comm : (one other : Option Record) → joined one other ≡ joined other one
joined_comm None None = refl
joined_comm None (Some other) = refl
joined_comm (Some one) None = refl
joined_comm (Some one) (Some other) =
    ap Some (same_parts _ _ _ _ _ _ _ _ _ _
    (int_min_comm one.min other.min) (int_max_comm one.max other.max) (+ℤ_comm one.sum other.sum)
    (let e : one.count + other.count ≡ other.count + one.count = omega arith in e)
    (let e : one.anomalies + other.anomalies ≡ other.anomalies + one.anomalies = omega arith in e))

record_of-reverse : (xs : List Added) → record_of (reverse xs) ≡ record_of xs
record_of-reverse [] = refl
record_of-reverse (x ∷ xs) =
    ap record_of (reverse-cons x xs)
    ∙ record_of-append (reverse xs) (x ∷ [])
    ∙ ap (λ (r : Option Record). joined r (record_of (x ∷ []))) (record_of-reverse xs)
    ∙ joined_comm (record_of xs) (record_of (x ∷ []))
    ∙ sym (record_of-append (x ∷ []) xs)

filter-reverse : (keep : Added → Bool) (xs : List Added) → filter keep (reverse xs) ≡ reverse (filter keep xs)
filter-reverse keep [] = refl
filter-reverse keep (x ∷ xs) =
    ap (filter keep) (reverse-cons x xs)
    ∙ filter-append keep (reverse xs) (x ∷ [])
    ∙ ap (λ (l : List Added). l ++ filter keep (x ∷ [])) (filter-reverse keep xs)
    ∙ by (keep x)
  where
    by : (b : Bool) → reverse (filter keep xs) ++ cond b (x ∷ []) [] ≡ reverse (cond b (x ∷ filter keep xs) (filter keep xs))
    by true = sym (reverse-cons x (filter keep xs))
    by false = append-nil (reverse (filter keep xs))

pub reversed_record : (width bucket : ℕ) (points : List Point) → bucket_record width bucket (reverse (values points)) ≡ bucket_record width bucket (values points)
reversed_record width bucket points =
    ap record_of (filter-reverse (λ (a : Added). holds width bucket a.moment) (values points))
    ∙ record_of-reverse (members width bucket (values points))

-- ---- sizes

within_end : (xs : List Added) (x : Added) → AreWithin xs → IsWithinLimit x → AreWithin (xs ++ x ∷ [])
within_end [] x all one = (one, tt)
within_end (y ∷ ys) x all one = (all.0, within_end ys x all.1 one)

within_reverse : (xs : List Added) → AreWithin xs → AreWithin (reverse xs)
within_reverse [] h = tt
within_reverse (x ∷ xs) h = subst AreWithin (sym (reverse-cons x xs)) (within_end (reverse xs) x (within_reverse xs h.1) h.0)

pub reversed_within : (points : List Point) → AreWithin (reverse (values points))
reversed_within points = within_reverse (values points) (values_within points)

-- ---- moments

-- every moment is at or above a number
AreFrom : ℕ → List Added → Type 0
AreFrom least [] = Unit {0}
AreFrom least (x ∷ xs) = (least ≤ x.moment) × AreFrom least xs

from_less : (least lower : ℕ) (xs : List Added) → lower ≤ least → AreFrom least xs → AreFrom lower xs
unfolding AreFrom
from_less least lower [] le h = tt
from_less least lower (x ∷ xs) le h = (omega (arith, h.0), from_less least lower xs le h.1)

from_end : (least : ℕ) (xs : List Added) (x : Added) → AreFrom least xs → least ≤ x.moment → AreFrom least (xs ++ x ∷ [])
unfolding AreFrom
from_end least [] x all one = (one, tt)
from_end least (y ∷ ys) x all one = (all.0, from_end least ys x all.1 one)

after_end : (moment : ℕ) (xs : List Added) (x : Added) → IsAfter moment xs → x.moment < moment → IsAfter moment (xs ++ x ∷ [])
after_end moment [] x after one = one
after_end moment (y ∷ ys) x after one = after

rising_end : (xs : List Added) (x : Added) → IsRising xs → AreFrom (x.moment + 1) xs → IsRising (xs ++ x ∷ [])
unfolding AreFrom
rising_end [] x rising from = (tt, tt)
rising_end (y ∷ ys) x rising from = (after_end y.moment ys x rising.0 (omega (arith, from.0)), rising_end ys x rising.1 from.1)

record IsUpward (least : ℕ) (xs : List Added) : Type 0 where
  rising : IsRising xs
  from : AreFrom least xs

upward : (least : ℕ) (points : List Point) → are_rising_from least points ≡ true → IsUpward least (reverse (values points))
unfolding AreFrom
upward least [] h = record { rising = tt; from = tt }
upward least (point ∷ points) h =
    let is : Rises least point points = rises least point points h in
    go (point_of point.word) is.low (upward (point.moment + 1) points is.rest)
  where
    go : (o : Option Value) → least ≤ point.moment → IsUpward (point.moment + 1) (reverse (values points))
        → IsUpward least (reverse (cons_option (option_map (λ (v : Value). record { moment = point.moment; units = v.units; anomalous = v.anomalous }) o) (values points)))
    go None low up = record { rising = up.rising; from = from_less (point.moment + 1) least (reverse (values points)) (omega arith) up.from }
    go (Some v) low up =
        let x : Added = record { moment = point.moment; units = v.units; anomalous = v.anomalous } in
        let here : IsUpward least (reverse (values points) ++ x ∷ []) = record {
          rising = rising_end (reverse (values points)) x up.rising up.from;
          from = from_end least (reverse (values points)) x (from_less (point.moment + 1) least (reverse (values points)) (omega arith) up.from) low;
        } in
        subst (IsUpward least) (sym (reverse-cons x (values points))) here

pub reversed_rising : (points : List Point) → are_rising_from 0 points ≡ true → IsRising (reverse (values points))
reversed_rising points h = (upward 0 points h).rising
