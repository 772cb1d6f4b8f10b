use Rattle.std.proofs.Common.{◌≡◌, ℕ, ◌+◌, ◌*◌, ◌^◌, ◌<◌, ◌≤◌, List, [], ◌∷◌, ◌++◌, length, Option, Some, None, IfSome, ℤ, ◌+ℤ◌, unsigned_abs, arith, refl, sym, ap, ◌∙◌}
use Rattle.std.specs.Int.{int_min, int_max}
use Rattle.std.proofs.Math.IntN.{+ℤ_assoc, +ℤ_idl}
use Rattle.std.proofs.lemmas.Int.{ints, int_min_is, int_max_is}
use Rattle.std.proofs.lemmas.List.{length-append, append-nil}
use Rattle.fixed_num.specs.declared.units.Record.{Record}
use Rattle.tier_rollup.specs.Buckets.{Added, limit, least, greatest, total, anomalous_count, record_of}
use Rattle.tier_rollup.specs.Rolling.{AreWithin}
use Rattle.tier_rollup.proofs.RecordLemmas.{same_parts, anomalous-le, total_bound}
use Rattle.query_engine.specs.Joining.{joined, HaveRoom}

-- ---- two records

int_min_assoc : (a b c : ℤ) → int_min a (int_min b c) ≡ int_min (int_min a b) c
int_min_assoc a b c = omega (arith, ints, int_min_is a (int_min b c), int_min_is b c, int_min_is (int_min a b) c, int_min_is a b)

int_max_assoc : (a b c : ℤ) → int_max a (int_max b c) ≡ int_max (int_max a b) c
int_max_assoc a b c = omega (arith, ints, int_max_is a (int_max b c), int_max_is b c, int_max_is (int_max a b) c, int_max_is a b)

least-append : (x : Added) (xs : List Added) (y : Added) (ys : List Added) → least x (xs ++ y ∷ ys) ≡ int_min (least x xs) (least y ys)
least-append x [] y ys = refl
least-append x (z ∷ zs) y ys = ap (int_min x.units) (least-append z zs y ys) ∙ int_min_assoc x.units (least z zs) (least y ys)

greatest-append : (x : Added) (xs : List Added) (y : Added) (ys : List Added) → greatest x (xs ++ y ∷ ys) ≡ int_max (greatest x xs) (greatest y ys)
greatest-append x [] y ys = refl
greatest-append x (z ∷ zs) y ys = ap (int_max x.units) (greatest-append z zs y ys) ∙ int_max_assoc x.units (greatest z zs) (greatest y ys)

total-append : (xs ys : List Added) → total (xs ++ ys) ≡ total xs +ℤ total ys
total-append [] ys = sym (+ℤ_idl (total ys))
total-append (x ∷ xs) ys = ap (λ z. x.units +ℤ z) (total-append xs ys) ∙ sym (+ℤ_assoc x.units (total xs) (total ys))

anomalous-append : (xs ys : List Added) → anomalous_count (xs ++ ys) ≡ anomalous_count xs + anomalous_count ys
anomalous-append [] ys = omega arith
anomalous-append (x ∷ xs) ys = let rest : anomalous_count (xs ++ ys) ≡ anomalous_count xs + anomalous_count ys = anomalous-append xs ys in omega arith

pub joined-none : (one : Option Record) → joined one None ≡ one
joined-none None = refl
joined-none (Some one) = refl

-- the record of points is that of one part and the others joined
pub record_of-append : (xs ys : List Added) → record_of (xs ++ ys) ≡ joined (record_of xs) (record_of ys)
record_of-append [] ys = refl
record_of-append (x ∷ xs) [] = ap record_of (append-nil (x ∷ xs))
record_of-append (x ∷ xs) (y ∷ ys) =
    ap Some (same_parts _ _ _ _ _ _ _ _ _ _
    (least-append x xs y ys) (greatest-append x xs y ys) (total-append (x ∷ xs) (y ∷ ys)) (length-append (x ∷ xs) (y ∷ ys)) (anomalous-append (x ∷ xs) (y ∷ ys)))

-- ---- no sum and no count is too large

pub room : (xs ys : List Added) → AreWithin (xs ++ ys) → length (xs ++ ys) < 2 ^ 32 → HaveRoom (record_of xs) (record_of ys)
room [] ys within few = tt
room (x ∷ xs) [] within few = tt
room (x ∷ xs) (y ∷ ys) within few =
    let bound : unsigned_abs (total ((x ∷ xs) ++ y ∷ ys)) ≤ length ((x ∷ xs) ++ y ∷ ys) * limit = total_bound ((x ∷ xs) ++ y ∷ ys) within in
    let same : unsigned_abs (total ((x ∷ xs) ++ y ∷ ys)) ≡ unsigned_abs (total (x ∷ xs) +ℤ total (y ∷ ys)) = ap unsigned_abs (total-append (x ∷ xs) (y ∷ ys)) in
    let count : length ((x ∷ xs) ++ y ∷ ys) ≡ length (x ∷ xs) + length (y ∷ ys) = length-append (x ∷ xs) (y ∷ ys) in
    let some : anomalous_count ((x ∷ xs) ++ y ∷ ys) ≤ length ((x ∷ xs) ++ y ∷ ys) = anomalous-le ((x ∷ xs) ++ y ∷ ys) in
    let marks : anomalous_count ((x ∷ xs) ++ y ∷ ys) ≡ anomalous_count (x ∷ xs) + anomalous_count (y ∷ ys) = anomalous-append (x ∷ xs) (y ∷ ys) in
    let r = roomy (unsigned_abs (total (x ∷ xs) +ℤ total (y ∷ ys))) (length ((x ∷ xs) ++ y ∷ ys)) (length (x ∷ xs)) (length (y ∷ ys)) (anomalous_count (x ∷ xs)) (anomalous_count (y ∷ ys))
    (omega (arith, bound, same)) count (omega (arith, some, marks)) few in
    record { sum_room = r.0; count_room = r.1; anomalies_room = r.2 }
  where
    roomy : (sum all m n j k : ℕ) → sum ≤ all * limit → all ≡ m + n → j + k ≤ all → all < 2 ^ 32 → (sum < 2 ^ 127) × (m + n < 2 ^ 32) × (j + k < 2 ^ 32)
    roomy sum all m n j k bound count some few = (omega arith, omega arith, omega arith)

-- a record has a point
pub counted : (xs : List Added) → IfSome (record_of xs) (λ points. 0 < points.count)
counted [] = tt
counted (x ∷ xs) = omega arith
