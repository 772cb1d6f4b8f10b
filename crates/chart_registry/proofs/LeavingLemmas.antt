-- What charts and dimensions know of each other when the last one is taken out.
use Rattle.std.proofs.Common.{◌≡◌, ◌≢◌, ℕ, zero, suc, ◌+◌, ◌<◌, Bool, true, false, cond, ◌&&◌, List, [], ◌∷◌, ◌++◌, length, take, get_or, set, position, Option, Some, None, IfSome, inl, inr, refl, sym, ap, subst, ◌∙◌, arith, All, true≢false, add-zero}
use Rattle.std.specs.declared.alloc.Global.{Global}
use Rattle.std.specs.declared.string.String.{String}
use Rattle.std.specs.List.{count_by, list_any}
use Rattle.std.specs.Str.{bytes_eq}
use Rattle.std.proofs.lemmas.Bool.{cases_eq}
use Rattle.std.proofs.lemmas.List.{map-append, map-set, get_or_append_left, get_or_push, get_or-set_same, get_or-set_other, length_push, length-set, length-map, set-get_or}
use Rattle.std.proofs.lemmas.Option.{same_Some}
use Rattle.chart_registry.specs.Rows.{Row, Mark, row_at, ids, belongs, is_mark, same_mark, series_in, IsTableOf, AreDistinct, IsOwned, AreKept}
use Rattle.chart_registry.specs.Leaving.{RemovesSeries}
use Rattle.chart_registry.proofs.Finding.{take-prefix}
use Rattle.chart_registry.proofs.Places.{IsFirst, first-from_position, position-first, position-append, position-within, position-push_other, count_by-push, get_or-map_any}
use Rattle.chart_registry.proofs.RegistryLemmas.{or_false, row_at-position}
use Rattle.chart_registry.proofs.RowsLemmas.{same_text, bytes_eq_same}

abbrev no_row : Row
no_row = record { id = []; series = [] }

-- ---- lists without their last element
module _ {A : Type 0} (xs ys : List A) (x y : A) (same : xs ++ x ∷ [] ≡ ys ++ y ∷ []) where
  same_length : length xs ≡ length ys
  same_length = omega (arith, ap length same, length_push xs x, length_push ys y)

  pub prefix-same : xs ≡ ys
  prefix-same = sym (take-prefix xs (x ∷ []) (length ys) same_length) ∙ ap (take (length ys)) same ∙ take-prefix ys (y ∷ []) (length ys) refl

  pub last-same : x ≡ y
  last-same = sym (get_or_push xs x x (length ys) same_length) ∙ ap (λ l. get_or l (length ys) x) same ∙ get_or_push ys y x (length ys) refl

pub all-prefix : {A : Type 0} (P : A → Type 0) (xs : List A) (x : A) → All P (xs ++ x ∷ []) → All P xs
all-prefix P xs x all = λ k d within. subst P (get_or_append_left xs (x ∷ []) d k within) (all k d (omega (arith, within, length_push xs x)))

module _ {A : Type 0} (p : A → Bool) where
  first-prefix : (xs ys : List A) (n : ℕ) → IsFirst p (xs ++ ys) n → n < length xs → IsFirst p xs n
  first-prefix [] ys n h within = absurd (omega (arith, within))
  first-prefix (x ∷ xs) ys zero h within = h
  first-prefix (x ∷ xs) ys (suc n) h within = (h.0, first-prefix xs ys n h.1 (omega (arith, within)))

  position-prefix : (xs ys : List A) (n : ℕ) → position p (xs ++ ys) ≡ Some n → n < length xs → position p xs ≡ Some n
  position-prefix xs ys n found within = position-first p xs n (first-prefix xs ys n (first-from_position p (xs ++ ys) n found) within)

  none-at : (xs : List A) → list_any p xs ≡ false → (k : ℕ) (d : A) → k < length xs → p (get_or xs k d) ≡ false
  none-at [] none k d within = absurd (omega (arith, within))
  none-at (x ∷ xs) none zero d within = (or_false (p x) (list_any p xs) none).0
  none-at (x ∷ xs) none (suc k) d within = none-at xs (or_false (p x) (list_any p xs) none).1 k d (omega (arith, within))

distinct-prefix : {A : Type 0} (same : A → A → Bool) (xs : List A) (x : A) → AreDistinct same (xs ++ x ∷ []) → AreDistinct same xs
distinct-prefix same xs x distinct = λ k d within.
    position-prefix (same (get_or xs k d)) xs (x ∷ []) k
    (ap (λ y. position (same y) (xs ++ x ∷ [])) (sym (get_or_append_left xs (x ∷ []) d k within)) ∙ distinct k d (omega (arith, within, length_push xs x))) within

-- ---- texts that differ
turned : (a b : List ℕ) → bytes_eq a b ≡ false → bytes_eq b a ≡ false
turned a b other = by (bytes_eq b a) refl
  where
    by : (equal : Bool) → bytes_eq b a ≡ equal → bytes_eq b a ≡ false
    by true e = absurd (true≢false (sym (bytes_eq_same a b (sym (same_text b a e))) ∙ other))
    by false e = e

-- ---- the last chart, which has no dimensions
module _ (rows : List Row) (row : Row) (marks : List Mark) (known : AreKept (rows ++ row ∷ []) marks) (unowned : list_any (belongs row.id) marks ≡ false) where
  ids-last : ids (rows ++ row ∷ []) ≡ ids rows ++ row.id ∷ []
  ids-last = map-append (λ (row : Row). row.id) rows (row ∷ [])

  owner-stays : (k : ℕ) (d : Mark) → k < length marks → IsOwned rows (get_or marks k d)
  owner-stays k d within =
      sym (position-push_other (bytes_eq (get_or marks k d).chart) (ids rows) row.id (turned row.id (get_or marks k d).chart (none-at (belongs row.id) marks unowned k d within)))
      ∙ ap (position (bytes_eq (get_or marks k d).chart)) (sym ids-last) ∙ known.owners k d within

  pub AreKept-without_chart : AreKept rows marks
  AreKept-without_chart = record {
    tables = all-prefix (IsTableOf marks) rows row known.tables;
    owners = owner-stays;
    distinct_charts = distinct-prefix bytes_eq (ids rows) row.id (subst (AreDistinct bytes_eq) ids-last known.distinct_charts);
    distinct_dimensions = known.distinct_dimensions;
  }

-- ---- the last dimension
module _ (rows : List Row) (marks : List Mark) (mark : Mark) (known : AreKept rows (marks ++ mark ∷ [])) where
  within-last : length marks < length (marks ++ mark ∷ [])
  within-last = omega (arith, length_push marks mark)

  pub last-owned : position (bytes_eq mark.chart) (ids rows) ≡ Some mark.owner
  last-owned = subst (IsOwned rows) (get_or_push marks mark mark (length marks) refl) (known.owners (length marks) mark within-last)

  pub owner-there : mark.owner < length rows
  owner-there =
      let within : mark.owner < length (ids rows) = subst (λ (found : Option ℕ). IfSome found (λ n. n < length (ids rows))) last-owned (position-within (bytes_eq mark.chart) (ids rows)) in
      omega (arith, within, length-map rows (λ (row : Row). row.id))

  pub owner-id : (row_at rows mark.owner).id ≡ mark.chart
  owner-id = row_at-position rows mark.chart mark.owner last-owned

  last-at : position (same_mark mark) (marks ++ mark ∷ []) ≡ Some (length marks)
  last-at = ap (λ y. position (same_mark y) (marks ++ mark ∷ [])) (sym (get_or_push marks mark mark (length marks) refl)) ∙ known.distinct_dimensions (length marks) mark within-last

  absent : position (same_mark mark) marks ≡ None
  absent = by (position (same_mark mark) marks) refl
    where
      by : (found : Option ℕ) → position (same_mark mark) marks ≡ found → position (same_mark mark) marks ≡ None
      by None e = e
      by (Some n) e =
          let below : n < length marks = subst (λ (found : Option ℕ). IfSome found (λ n. n < length marks)) e (position-within (same_mark mark) marks) in
          let is : n ≡ length marks = same_Some n (length marks) (sym (position-append (same_mark mark) marks (mark ∷ []) n e) ∙ last-at) in
          absurd (omega (arith, below, is))

  -- its chart's table has it
  pub last-found : series_in (row_at rows mark.owner).series mark.id ≡ Some (length marks)
  last-found =
      (known.tables mark.owner no_row owner-there).finds mark.id ∙ ap (λ chart. position (is_mark chart mark.id) (marks ++ mark ∷ [])) owner-id ∙ last-at

  table-other : (row : Row) → belongs row.id mark ≡ false → IsTableOf (marks ++ mark ∷ []) row → IsTableOf marks row
  table-other row other table = record {
    finds = λ id. table.finds id ∙ position-push_other (is_mark row.id id) marks mark (ap (λ b. b && bytes_eq id mark.id) other);
    counts = table.counts ∙ count_by-push (belongs row.id) marks mark false other ∙ add-zero (count_by (belongs row.id) marks);
  }

  table-own : (row : Row) (series : List (String Global × ℕ)) → row.id ≡ mark.chart → RemovesSeries row.series mark.id series → IsTableOf (marks ++ mark ∷ []) row
      → IsTableOf marks (record { id = row.id; series = series })
  table-own row series own removes table = record {
    finds = λ id. removes.finds id ∙ by id (bytes_eq mark.id id) refl;
    counts =
        let is : length row.series ≡ count_by (belongs row.id) marks + 1 = table.counts ∙ count_by-push (belongs row.id) marks mark true is_own in
        omega (arith, removes.counts, is);
  }
    where
      is_own : bytes_eq row.id mark.chart ≡ true
      is_own = bytes_eq_same row.id mark.chart own

      by : (id : List ℕ) (b : Bool) → bytes_eq mark.id id ≡ b → cond b None (series_in row.series id) ≡ position (is_mark row.id id) marks
      by id true e =
          let same : id ≡ mark.id = sym (same_text mark.id id e) in
          sym ((λ i. position (is_mark (own i) (same i)) marks) ∙ absent)
      by id false e = table.finds id ∙ position-push_other (is_mark row.id id) marks mark (ap (λ b. b && bytes_eq id mark.id) is_own ∙ turned mark.id id e)

  module _ (series : List (String Global × ℕ)) (removes : RemovesSeries (row_at rows mark.owner).series mark.id series) where
    abbrev left : Row
    left = record { id = (row_at rows mark.owner).id; series = series }

    ids-left : ids (set rows mark.owner left) ≡ ids rows
    ids-left =
        map-set (λ (row : Row). row.id) rows mark.owner left
        ∙ ap (set (ids rows) mark.owner) (sym (get_or-map_any (λ (row : Row). row.id) rows mark.owner no_row)) ∙ set-get_or (ids rows) mark.owner []

    table-left : (k : ℕ) (d : Row) → k < length (set rows mark.owner left) → IsTableOf marks (get_or (set rows mark.owner left) k d)
    table-left k d k_in =
        elim (cases_eq k mark.owner) [
          | inl e ↦
              subst (IsTableOf marks) (sym (ap (λ i. get_or (set rows mark.owner left) i d) e ∙ get_or-set_same rows mark.owner left d owner-there))
              (table-own (row_at rows mark.owner) series owner-id removes (known.tables mark.owner no_row owner-there))
          | inr ne ↦
              subst (IsTableOf marks) (sym (get_or-set_other rows mark.owner k left d ne))
              (table-other (get_or rows k d) (far ne) (known.tables k d in_rows))
        ]
      where
        in_rows : k < length rows
        in_rows = omega (arith, k_in, length-set rows mark.owner left)

        found-at : position (bytes_eq (get_or rows k d).id) (ids rows) ≡ Some k
        found-at =
            ap (λ x. position (bytes_eq x) (ids rows)) (sym (get_or-map_any (λ (row : Row). row.id) rows k d))
            ∙ known.distinct_charts k d.id (omega (arith, in_rows, length-map rows (λ (row : Row). row.id)))

        far : k ≢ mark.owner → belongs (get_or rows k d).id mark ≡ false
        far ne = by (bytes_eq (get_or rows k d).id mark.chart) refl
          where
            by : (b : Bool) → bytes_eq (get_or rows k d).id mark.chart ≡ b → bytes_eq (get_or rows k d).id mark.chart ≡ false
            by true e = absurd (ne (same_Some k mark.owner (sym found-at ∙ ap (λ x. position (bytes_eq x) (ids rows)) (same_text (get_or rows k d).id mark.chart e) ∙ last-owned)))
            by false e = e

    pub AreKept-without_dimension : AreKept (set rows mark.owner left) marks
    AreKept-without_dimension = record {
      tables = table-left;
      owners = λ k d within. ap (position (bytes_eq (get_or marks k d).chart)) ids-left ∙ all-prefix (IsOwned rows) marks mark known.owners k d within;
      distinct_charts = subst (AreDistinct bytes_eq) (sym ids-left) known.distinct_charts;
      distinct_dimensions = distinct-prefix same_mark marks mark known.distinct_dimensions;
    }
