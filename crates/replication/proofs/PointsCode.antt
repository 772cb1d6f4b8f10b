-- Steps of the loops over points.
use Rattle.std.proofs.Common.{◌≡◌, ℕ, suc, ◌+◌, ◌<◌, ◌≤◌, List, [], ◌∷◌, ◌++◌, length, take, drop, get_or, set, not, inl, inr, refl, sym, ap, ◌∙◌, arith, append_assoc, add-one, drop-cons, length-append, Option, Some, None}
use Rattle.std.specs.declared.cmp.Ordering.{Ordering}
use Rattle.std.specs.declared.cmp.Ordering.TheVariants.{Less, Equal}
use Rattle.std.specs.List.{cons_option, filter_map, insert, list_any, position_or_len}
use Rattle.std.specs.Ordering.{match_ordering}
use Rattle.std.specs.Option.{option_to_list}
use Rattle.std.specs.Str.{bytes_eq}
use Rattle.std.proofs.lemmas.Bool.{cases_Bool, cond-true, cond-false}
use Rattle.std.proofs.lemmas.List.{set_split, take_more}
use Rattle.std.proofs.lemmas.List.Folds.{find_at}
use Rattle.std.proofs.lemmas.List.Sums.{prefix_len-le-length}
use Rattle.std.proofs.lemmas.Option.{slice_get_within}
use Rattle.std.proofs.lemmas.List.Elements.{filter_map-append}
use Rattle.list_lemmas.proofs.Searches.{find-none}
use Rattle.replication.specs.declared.beats.SeriesWord.{SeriesWord}
use Rattle.replication.specs.declared.names.Names.{Names}
use Rattle.replication.specs.Names.{named_point}
use Rattle.replication.specs.declared.named.NamedBeat.{NamedBeat}
use Rattle.replication.specs.declared.named.NamedPoint.{NamedPoint}
use Rattle.replication.specs.Points.{name_cmp, put, put_all, points_of, with_id, with_ids, charts_of}
use Rattle.replication.proofs.Copies.{get-some}
use Rattle.replication.proofs.PointsLaws.{found}

-- ---- the place of a point
put-cons : (point x : NamedPoint) (xs : List NamedPoint) (o : Ordering) → name_cmp point x ≡ o → put point (x ∷ xs) ≡ match_ordering o (point ∷ x ∷ xs) (point ∷ xs) (x ∷ put point xs)
put-cons point x xs o is = ap (λ o. match_ordering o (point ∷ x ∷ xs) (point ∷ xs) (x ∷ put point xs)) is

-- it stands before a point that is not
pub put-new : (point : NamedPoint) (points : List NamedPoint) (i : ℕ) (x : NamedPoint) → i < length points → x ≡ get_or points i x → put point points ≡ take i points ++ put point (drop i points) → name_cmp point x ≡ Less
    → put point points ≡ insert points i point
put-new point points i x lt at before less =
    let rest : drop i points ≡ x ∷ drop (i + 1) points = drop-cons points i x lt ∙ (λ j. sym at j ∷ drop (sym (add-one i) j) points) in
    before ∙ ap (λ rest. take i points ++ put point rest) rest ∙ ap (λ rest. take i points ++ rest) (put-cons point x (drop (i + 1) points) Less less) ∙ ap (λ rest. take i points ++ point ∷ rest) (sym rest)

-- or in place of the one of its name
pub put-same : (point : NamedPoint) (points : List NamedPoint) (i : ℕ) (x : NamedPoint) → i < length points → x ≡ get_or points i x → put point points ≡ take i points ++ put point (drop i points) → name_cmp point x ≡ Equal
    → put point points ≡ set points i point
put-same point points i x lt at before equal =
    let rest : drop i points ≡ x ∷ drop (suc i) points = drop-cons points i x lt ∙ (λ j. sym at j ∷ drop (suc i) points) in
    before ∙ ap (λ rest. take i points ++ put point rest) rest ∙ ap (λ rest. take i points ++ rest) (put-cons point x (drop (suc i) points) Equal equal) ∙ sym (set_split points i point lt)

-- ---- more points
pub put_all-append : (points ps qs : List NamedPoint) → put_all points (ps ++ qs) ≡ put_all (put_all points ps) qs
put_all-append points [] qs = refl
put_all-append points (p ∷ ps) qs = put_all-append (put p points) ps qs

pub points_of-next : (points : List NamedPoint) (beats : List NamedBeat) (i : ℕ) (x : NamedBeat) → i < length beats → x ≡ get_or beats i x
    → put_all points (points_of (drop i beats)) ≡ put_all (put_all points x.points) (points_of (drop (i + 1) beats))
points_of-next points beats i x lt at =
    let rest : drop i beats ≡ x ∷ drop (i + 1) beats = drop-cons beats i x lt ∙ (λ j. sym at j ∷ drop (sym (add-one i) j) beats) in
    ap (λ beats. put_all points (points_of beats)) rest ∙ put_all-append points x.points (points_of (drop (i + 1) beats))

pub with_ids-next : (ids : List (List ℕ)) (points : List NamedPoint) (i : ℕ) (x : NamedPoint) → i < length points → x ≡ get_or points i x → with_ids ids (drop i points) ≡ with_ids (with_id ids x.chart) (drop (i + 1) points)
with_ids-next ids points i x lt at =
    let rest : drop i points ≡ x ∷ drop (i + 1) points = drop-cons points i x lt ∙ (λ j. sym at j ∷ drop (sym (add-one i) j) points) in
    ap (with_ids ids) rest

-- ---- charts
-- a chart that is not there is added
pub with_id-new : (ids : List (List ℕ)) (id : List ℕ) → position_or_len (bytes_eq id) ids ≡ length ids → with_id ids id ≡ ids ++ id ∷ []
with_id-new ids id is = elim (cases_Bool (list_any (bytes_eq id) ids)) [
  | inl there ↦ let at = found (bytes_eq id) ids there in absurd (omega (arith, slice_get_within ids (position_or_len (bytes_eq id) ids) at.0 at.1.0))
  | inr new ↦ cond-false (list_any (bytes_eq id) ids) ids (ids ++ id ∷ []) new
]

-- no more charts than points
length-with_ids : (ids : List (List ℕ)) (ps : List NamedPoint) → length (with_ids ids ps) ≤ length ids + length ps
length-with_ids ids [] = omega arith
length-with_ids ids (p ∷ ps) = omega (arith, length-with_ids (with_id ids p.chart) ps, one ids p.chart)
  where
    one : (ids : List (List ℕ)) (id : List ℕ) → length (with_id ids id) ≤ length ids + 1
    one ids id = elim (cases_Bool (list_any (bytes_eq id) ids)) [
      | inl there ↦ omega (arith, ap length (cond-true (list_any (bytes_eq id) ids) ids (ids ++ id ∷ []) there))
      | inr new ↦ omega (arith, ap length (cond-false (list_any (bytes_eq id) ids) ids (ids ++ id ∷ []) new), length-append ids (id ∷ []))
    ]

pub length-charts_of : (ps : List NamedPoint) → length (charts_of ps) ≤ length ps
length-charts_of ps = omega (arith, length-with_ids [] ps)

-- and one that is there is not
pub with_id-there : (ids : List (List ℕ)) (id : List ℕ) → (position_or_len (bytes_eq id) ids ≡ length ids → ⊥) → position_or_len (bytes_eq id) ids ≤ length ids → with_id ids id ≡ ids
with_id-there ids id is_not le = elim (cases_Bool (list_any (bytes_eq id) ids)) [
  | inl there ↦ cond-true (list_any (bytes_eq id) ids) ids (ids ++ id ∷ []) there
  | inr new ↦ absurd (get-some ids (position_or_len (bytes_eq id) ids) (omega arith) (sym (find_at (bytes_eq id) ids) ∙ find-none (bytes_eq id) ids new))
]

pub add-there : (ids there : List (List ℕ)) (id : List ℕ) (at count : ℕ) → there ≡ ids → at ≡ position_or_len (bytes_eq id) there → count ≡ length there → at < count → ids ≡ with_id ids id
add-there ids there id at count same at_is count_is lt =
    let place : position_or_len (bytes_eq id) ids ≡ at = sym (at_is ∙ ap (position_or_len (bytes_eq id)) same) in
    let size = ap length same in
    sym (with_id-there ids id (λ e. omega (arith, place, size, count_is, lt)) (omega (arith, place, size, count_is, lt)))

pub add-new : (ids there : List (List ℕ)) (id : List ℕ) (at count : ℕ) → there ≡ ids → at ≡ position_or_len (bytes_eq id) there → count ≡ length there → count ≤ at → with_id ids id ≡ ids ++ id ∷ []
add-new ids there id at count same at_is count_is ge =
    let place : position_or_len (bytes_eq id) ids ≡ at = sym (at_is ∙ ap (position_or_len (bytes_eq id)) same) in
    let within = prefix_len-le-length (λ other. not (bytes_eq id other)) ids in
    with_id-new ids id (omega (arith, place, ap length same, count_is, ge, within))

-- ---- points by name
pub points-next : (names : Names) (words : List SeriesWord) (i : ℕ) (d : SeriesWord) (point : Option NamedPoint) → i < length words → point ≡ named_point names (get_or words i d)
    → filter_map (named_point names) (take i words) ++ option_to_list point ≡ filter_map (named_point names) (take (i + 1) words)
points-next names words i d point lt is =
    ap (λ point. filter_map (named_point names) (take i words) ++ option_to_list point) is
    ∙ ap (λ end. filter_map (named_point names) (take i words) ++ end) (alone (named_point names (get_or words i d)))
    ∙ sym (ap (filter_map (named_point names)) (take_more words i d lt) ∙ filter_map-append (named_point names) (take i words) (get_or words i d ∷ []))
  where
    alone : (point : Option NamedPoint) → option_to_list point ≡ cons_option point []
    alone None = refl
    alone (Some point) = refl

pub push-step : {X : Type 0} (a new b items : List X) (x : X) → a ≡ b ++ items → new ≡ a ++ x ∷ [] → new ≡ b ++ (items ++ x ∷ [])
push-step a new b items x is pushed = pushed ∙ ap (λ a. a ++ x ∷ []) is ∙ append_assoc b items (x ∷ [])

pub points-push : (names : Names) (words : List SeriesWord) (i : ℕ) (d : SeriesWord) (point : Option NamedPoint) (points new : List NamedPoint) → i < length words → point ≡ named_point names (get_or words i d)
    → points ≡ filter_map (named_point names) (take i words) → new ≡ points ++ option_to_list point → new ≡ filter_map (named_point names) (take (i + 1) words)
points-push names words i d point points new lt is before pushed =
    pushed ∙ ap (λ points. points ++ option_to_list point) before ∙ points-next names words i d point lt is
