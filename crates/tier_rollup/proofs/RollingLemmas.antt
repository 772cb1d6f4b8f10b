use Rattle.std.proofs.Common.{◌≡◌, ℕ, ◌+◌, ◌*◌, ◌/◌, ◌^◌, ◌<◌, ◌≤◌, Bool, true, false, leb, List, [], ◌∷◌, ◌++◌, length, Option, Some, None, IfSome, IfNone, if◌then◌else◌, ℤ, arith, refl, sym, ap, subst, ◌∙◌}
use Rattle.std.proofs.lemmas.Bool.{leb-true, leb-false}
use Rattle.fixed_num.specs.declared.units.Record.{Record}
use Rattle.tier_rollup.specs.Buckets.{Added, IsWithinLimit, holds, members, record_of, bucket_record, with_first, buckets}
use Rattle.tier_rollup.specs.Growing.{single, grown, HasRoom}
use Rattle.tier_rollup.specs.Rolling.{IsAfter, IsPast, IsNext, HasRolled, is_over, closed_by, kept_by, numbers}
use Rattle.tier_rollup.proofs.BucketLemmas.{holds_from, own_bucket, bucket_from, starts_by, kept, no_members, count_bound, first_bucket, with_first-same, with_first-past, after_buckets}
use Rattle.tier_rollup.proofs.RecordLemmas.{single_is, grown_is, members_within, room}

-- ---- closing

-- the record of a bucket that is handed out or open
pub shown_record : (width : ℕ) (current : Option (ℕ × Record)) (points : List Added) (handed : List ℕ) → HasRolled width current points handed
    → IfSome current (λ bucket. bucket_record width bucket.0 points ≡ Some bucket.1)
shown_record width current points handed h = h.open_record

handed_record : (width : ℕ) (b : Bool) (current : Option (ℕ × Record)) (points : List Added) → IfSome current (λ bucket. bucket_record width bucket.0 points ≡ Some bucket.1)
    → IfSome (if b then current else None) (λ bucket. bucket_record width bucket.0 points ≡ Some bucket.1)
handed_record width true current points h = h
handed_record width false current points h = tt

pub closed_record : (width moment : ℕ) (current : Option (ℕ × Record)) (points : List Added) (handed : List ℕ) → HasRolled width current points handed
    → IfSome (closed_by width moment current) (λ bucket. bucket_record width bucket.0 points ≡ Some bucket.1)
closed_record width moment current points handed h = handed_record width (is_over width moment current) current points h.open_record

-- ---- a further point

next_if : (width moment : ℕ) (b : Bool) (bucket : ℕ × Record) (points : List Added) (handed : List ℕ) → leb ((bucket.0 + 1) * width) moment ≡ b → IsNext width moment points handed
    → IsNext width moment points (numbers (if b then Some bucket else None) ++ handed)
next_if width moment true bucket points handed e h = record { after = h.after; past = leb-true ((bucket.0 + 1) * width) moment e }
next_if width moment false bucket points handed e h = h

-- the moment may still come next after what it closes is handed out
pub next_closed : (width moment : ℕ) (current : Option (ℕ × Record)) (points : List Added) (handed : List ℕ) → IsNext width moment points handed
    → IsNext width moment points (numbers (closed_by width moment current) ++ handed)
next_closed width moment None points handed h = h
next_closed width moment (Some bucket) points handed h = next_if width moment (leb ((bucket.0 + 1) * width) moment) bucket points handed refl h

kept_if : (width moment : ℕ) (b : Bool) (bucket : ℕ × Record) → leb ((bucket.0 + 1) * width) moment ≡ b
    → IfSome (if b then None else Some bucket) (λ kept. moment < (kept.0 + 1) * width)
kept_if width moment true bucket e = tt
kept_if width moment false bucket e = leb-false ((bucket.0 + 1) * width) moment e

-- what the moment leaves open ends after it
pub kept_ends : (width moment : ℕ) (current : Option (ℕ × Record)) → IfSome (kept_by width moment current) (λ kept. moment < (kept.0 + 1) * width)
kept_ends width moment None = tt
kept_ends width moment (Some bucket) = kept_if width moment (leb ((bucket.0 + 1) * width) moment) bucket refl

-- a bucket with a further point of it
pub members_more : (width bucket : ℕ) (point : Added) (points : List Added) → holds width bucket point.moment ≡ true → members width bucket (point ∷ points) ≡ point ∷ members width bucket points
members_more width bucket point points e = kept (holds width bucket point.moment) point (members width bucket points) e

-- with no open bucket the point is the first of its own
pub started : (width : ℕ) (point : Added) (points : List Added) (handed : List ℕ) → 1 ≤ width → IsWithinLimit point
    → HasRolled width None points handed → IsNext width point.moment points handed
    → HasRolled width (Some (point.moment / width, single point.units point.anomalous)) (point ∷ points) handed
started width point points handed positive size h next =
    let bucket : ℕ = point.moment / width in
    let once : handed ≡ buckets width points = h.each_once in
    let past : IsPast width point.moment (buckets width points) = subst (λ (bs : List ℕ). IsPast width point.moment bs) once next.past in
    let none : members width bucket points ≡ [] = no_members width bucket points (after_buckets width point.moment points positive past) h.rising in
    record {
      rising = (next.after, h.rising);
      within = (size, h.within);
      each_once = sym (with_first-past width point.moment handed positive next.past) ∙ ap (with_first bucket) once;
      open_record =
          ap record_of (members_more width bucket point points (own_bucket width point.moment positive))
          ∙ ap (λ (ps : List Added). record_of (point ∷ ps)) none
          ∙ single_is point;
    }

-- the open bucket started before a later moment
started_by : (width bucket moment : ℕ) (points : List Added) (handed : List ℕ) → bucket ∷ handed ≡ buckets width points → IsAfter moment points → bucket * width ≤ moment
started_by width bucket moment [] handed e after = absurd (cc)
started_by width bucket moment (last ∷ points) handed e after =
    let own : bucket ≡ last.moment / width = first_bucket width bucket handed last points e in
    let low : last.moment / width * width ≤ last.moment = starts_by width last.moment in
    let same : bucket * width ≡ last.moment / width * width = ap (λ n. n * width) own in
    omega (arith, low, same)

-- with room in its record, the open bucket gains the point
pub continued : (width : ℕ) (point : Added) (bucket : ℕ) (before : Record) (points : List Added) (handed : List ℕ) → 1 ≤ width → IsWithinLimit point
    → HasRolled width (Some (bucket, before)) points handed → IsNext width point.moment points handed
    → point.moment < (bucket + 1) * width
    → HasRolled width (Some (bucket, grown before point.units point.anomalous)) (point ∷ points) handed
continued width point bucket before points handed positive size h next high =
    let once : bucket ∷ handed ≡ buckets width points = h.each_once in
    let low : bucket * width ≤ point.moment = started_by width bucket point.moment points handed once next.after in
    let own : bucket ≡ point.moment / width = bucket_from width bucket point.moment positive low high in
    record {
      rising = (next.after, h.rising);
      within = (size, h.within);
      each_once =
          sym (with_first-same (point.moment / width) bucket handed (sym own))
          ∙ ap (with_first (point.moment / width)) once;
      open_record =
          ap record_of (members_more width bucket point points (holds_from width bucket point.moment low high))
          ∙ grown_is point (members width bucket points) before h.open_record;
    }

pub has_room : (width : ℕ) (point : Added) (bucket : ℕ) (before : Record) (points : List Added) (handed : List ℕ) → width < 2 ^ 32 → IsWithinLimit point
    → HasRolled width (Some (bucket, before)) points handed → IsNext width point.moment points handed
    → point.moment < (bucket + 1) * width → HasRoom before point.units
has_room width point bucket before points handed narrow size h next high =
    let low : bucket * width ≤ point.moment = started_by width bucket point.moment points handed h.each_once next.after in
    let count : length (members width bucket points) + bucket * width ≤ point.moment = count_bound width bucket point.moment points h.rising next.after low in
    room (members width bucket points) before point.units h.open_record (members_within width bucket points h.within) (omega arith) size

-- the roller with a further point, by what the code makes of its open record
pub rolled : (width : ℕ) (point : Added) (current : Option (ℕ × Record)) (now : ℕ × Record) (points : List Added) (handed : List ℕ) → 1 ≤ width → width < 2 ^ 32 → IsWithinLimit point
    → IfSome current (λ kept. point.moment < (kept.0 + 1) * width)
    → IfNone current (now ≡ (point.moment / width, single point.units point.anomalous))
    → IfSome current (λ kept. HasRoom kept.1 point.units → now ≡ (kept.0, grown kept.1 point.units point.anomalous))
    → HasRolled width current points handed → IsNext width point.moment points handed
    → HasRolled width (Some now) (point ∷ points) handed
rolled width point None now points handed positive narrow size high none some h next =
    subst (λ (o : ℕ × Record). HasRolled width (Some o) (point ∷ points) handed) (sym none) (started width point points handed positive size h next)
rolled width point (Some (bucket, before)) now points handed positive narrow size high none some h next =
    subst (λ (o : ℕ × Record). HasRolled width (Some o) (point ∷ points) handed) (sym (some (has_room width point bucket before points handed narrow size h next high)))
    (continued width point bucket before points handed positive size h next high)

-- the roller with a further point, after what its moment closes is handed out
pub added : (old mid : ℕ) (point : Added) (current left result : Option (ℕ × Record)) (now : ℕ × Record) (units : ℤ) (points : List Added) (handed : List ℕ)
    → mid ≡ old → left ≡ kept_by old point.moment current → result ≡ closed_by old point.moment current
    → 1 ≤ mid → mid < 2 ^ 32 → IsWithinLimit point → units ≡ point.units
    → IfNone left (now ≡ (point.moment / mid, single units point.anomalous))
    → IfSome left (λ kept. HasRoom kept.1 units → now ≡ (kept.0, grown kept.1 units point.anomalous))
    → HasRolled mid left points (numbers result ++ handed) → IsNext old point.moment points handed
    → HasRolled mid (Some now) (point ∷ points) (numbers result ++ handed)
added old mid point current left result now units points handed w l r positive narrow size same none some h next =
    let later : IsNext mid point.moment points (numbers result ++ handed) =
    subst (λ (n : ℕ). IsNext n point.moment points (numbers result ++ handed)) (sym w)
    (subst (λ (o : Option (ℕ × Record)). IsNext old point.moment points (numbers o ++ handed)) (sym r) (next_closed old point.moment current points handed next)) in
    let high : IfSome left (λ kept. point.moment < (kept.0 + 1) * mid) =
    subst (λ (n : ℕ). IfSome left (λ kept. point.moment < (kept.0 + 1) * n)) (sym w)
    (subst (λ (o : Option (ℕ × Record)). IfSome o (λ kept. point.moment < (kept.0 + 1) * old)) (sym l) (kept_ends old point.moment current)) in
    rolled mid point left now points (numbers result ++ handed) positive narrow size high
    (subst (λ (u : ℤ). IfNone left (now ≡ (point.moment / mid, single u point.anomalous))) same none)
    (subst (λ (u : ℤ). IfSome left (λ kept. HasRoom kept.1 u → now ≡ (kept.0, grown kept.1 u point.anomalous))) same some)
    h later
