-- What charts and dimensions know of each other, as they grow.
use Rattle.std.proofs.Common.{◌≡◌, ◌≢◌, ℕ, ◌+◌, ◌<◌, Bool, true, false, cond, ◌&&◌, List, [], ◌∷◌, ◌++◌, length, get_or, set, position, Some, None, inl, inr, refl, sym, ap, subst, ◌∙◌, arith, All, true≢false, add-zero}
use Rattle.std.specs.declared.alloc.Global.{Global}
use Rattle.std.specs.declared.string.String.{String}
use Rattle.std.specs.List.{count_by}
use Rattle.std.specs.Str.{bytes_eq}
use Rattle.std.proofs.lemmas.Bool.{cases_lt, cases_eq}
use Rattle.std.proofs.lemmas.List.{map-append, map-set, get_or_append_left, get_or_push, get_or_default, get_or-set_same, get_or-set_other, length_push, length-set, length-map, set-get_or}
use Rattle.std.proofs.lemmas.List.Elements.{All-push, All-weaker}
use Rattle.std.proofs.lemmas.Option.{same_Some, none-some}
use Rattle.std.proofs.lemmas.Slice.Eq.{bytes_eq-Decides}
use Rattle.chart_registry.specs.Rows.{Row, Mark, row_at, ids, belongs, is_mark, same_mark, series_in, IsTableOf, AddsSeries, EntersSeries, AreDistinct, IsOwned, AreKept}
use Rattle.chart_registry.proofs.Places.{position-all_false, count_by-all_false, position-append, position-push, position-push_other, count_by-push, get_or-map_any}

pub same_text : (a b : List ℕ) → bytes_eq a b ≡ true → a ≡ b
same_text a b = (bytes_eq-Decides a b).0

pub bytes_eq_same : (a b : List ℕ) → a ≡ b → bytes_eq a b ≡ true
bytes_eq_same a b = (bytes_eq-Decides a b).1

-- ---- texts that are distinct
distinct-push : {A : Type 0} (same : A → A → Bool) (xs : List A) (x : A) → same x x ≡ true → AreDistinct same xs → position (same x) xs ≡ None → AreDistinct same (xs ++ x ∷ [])
distinct-push same xs x itself distinct none k d within =
    elim (cases_lt k (length xs)) [
      | inl below ↦
          ap (λ y. position (same y) (xs ++ x ∷ [])) (get_or_append_left xs (x ∷ []) d k below)
          ∙ position-append (same (get_or xs k d)) xs (x ∷ []) k (distinct k d below)
      | inr above ↦
          let last : length xs ≡ k = omega (arith, length_push xs x) in
          ap (λ y. position (same y) (xs ++ x ∷ [])) (get_or_push xs x d k last) ∙ position-push (same x) xs x none itself ∙ ap Some last
    ]

distinct-apart : (texts : List (List ℕ)) (k n : ℕ) (d : List ℕ) → AreDistinct bytes_eq texts → k < length texts → n < length texts → k ≢ n → bytes_eq (get_or texts k d) (get_or texts n d) ≡ false
distinct-apart texts k n d distinct k_in n_in ne = by (bytes_eq (get_or texts k d) (get_or texts n d)) refl
  where
    by : (b : Bool) → bytes_eq (get_or texts k d) (get_or texts n d) ≡ b → bytes_eq (get_or texts k d) (get_or texts n d) ≡ false
    by true e = absurd (ne (same_Some k n (sym (distinct k d k_in) ∙ ap (λ x. position (bytes_eq x) texts) (same_text _ _ e) ∙ distinct n d n_in)))
    by false e = e

-- ---- a table, where the dimensions grow
table-other : (marks : List Mark) (row : Row) (mark : Mark) → belongs row.id mark ≡ false → IsTableOf marks row → IsTableOf (marks ++ mark ∷ []) row
table-other marks row mark other table = record {
  finds = λ id. table.finds id ∙ sym (position-push_other (is_mark row.id id) marks mark (ap (λ b. b && bytes_eq id mark.id) other));
  counts = table.counts ∙ sym (count_by-push (belongs row.id) marks mark false other ∙ add-zero (count_by (belongs row.id) marks));
}

table-own : (marks : List Mark) (row : Row) (mark : Mark) (series : List (String Global × ℕ)) → mark.chart ≡ row.id → position (is_mark row.id mark.id) marks ≡ None
    → AddsSeries row.series mark.id (length marks) series → IsTableOf marks row → IsTableOf (marks ++ mark ∷ []) (record { id = row.id; series = series })
table-own marks row mark series own none adds table = record {
  finds = λ id. adds.finds id ∙ by id (bytes_eq mark.id id) refl;
  counts = adds.counts ∙ ap (λ n. n + 1) table.counts ∙ sym (count_by-push (belongs row.id) marks mark true (bytes_eq_same row.id mark.chart (sym own)));
}
  where
    is_own : bytes_eq row.id mark.chart ≡ true
    is_own = bytes_eq_same row.id mark.chart (sym own)

    by : (id : List ℕ) (b : Bool) → bytes_eq mark.id id ≡ b → cond b (Some (length marks)) (series_in row.series id) ≡ position (is_mark row.id id) (marks ++ mark ∷ [])
    by id true e =
        let same : mark.id ≡ id = same_text mark.id id e in
        sym (position-push (is_mark row.id id) marks mark (ap (λ x. position (is_mark row.id x) marks) (sym same) ∙ none)
        (ap (λ b. b && bytes_eq id mark.id) is_own ∙ bytes_eq_same id mark.id (sym same)))
    by id false e =
        table.finds id ∙ sym (position-push_other (is_mark row.id id) marks mark (ap (λ b. b && bytes_eq id mark.id) is_own ∙ apart id e))
      where
        apart : (id : List ℕ) → bytes_eq mark.id id ≡ false → bytes_eq id mark.id ≡ false
        apart id e = turned (bytes_eq id mark.id) refl
          where
            turned : (b : Bool) → bytes_eq id mark.id ≡ b → bytes_eq id mark.id ≡ false
            turned true t = absurd (true≢false (sym (bytes_eq_same mark.id id (sym (same_text id mark.id t))) ∙ e))
            turned false t = t

-- ---- one more chart
module _ (rows : List Row) (marks : List Mark) (known : AreKept rows marks) where
  module _ (id : List ℕ) (none : position (bytes_eq id) (ids rows) ≡ None) where
    -- a chart that is not there has no dimensions
    pub apart : All (λ mark. belongs id mark ≡ false) marks
    apart k d within = by (belongs id (get_or marks k d)) refl
      where
        by : (b : Bool) → belongs id (get_or marks k d) ≡ b → belongs id (get_or marks k d) ≡ false
        by true e = absurd (none-some _ (sym none ∙ ap (λ x. position (bytes_eq x) (ids rows)) (same_text _ _ e) ∙ known.owners k d within))
        by false e = e

    abbrev new_row : Row
    new_row = record { id = id; series = [] }

    ids-new : ids (rows ++ new_row ∷ []) ≡ ids rows ++ id ∷ []
    ids-new = map-append (λ (row : Row). row.id) rows (new_row ∷ [])

    pub AreKept-new_chart : AreKept (rows ++ record { id = id; series = [] } ∷ []) marks
    AreKept-new_chart = record {
      tables = All-push (IsTableOf marks) rows new_row known.tables (record {
        finds = λ q. sym (position-all_false (is_mark id q) marks (λ k d within. ap (λ b. b && bytes_eq q (get_or marks k d).id) (apart k d within)));
        counts = sym (count_by-all_false (belongs id) marks apart);
      });
      owners = All-weaker (IsOwned rows) (IsOwned (rows ++ new_row ∷ [])) (λ mark owner. ap (position (bytes_eq mark.chart)) ids-new ∙ position-append (bytes_eq mark.chart) (ids rows) (id ∷ []) mark.owner owner) marks known.owners;
      distinct_charts = subst (AreDistinct bytes_eq) (sym ids-new) (distinct-push bytes_eq (ids rows) id (bytes_eq_same id id refl) known.distinct_charts none);
      distinct_dimensions = known.distinct_dimensions;
    }

  -- ---- one more dimension
  module _ (n : ℕ) (id : List ℕ) (series : List (String Global × ℕ)) (within : n < length rows) where
    abbrev mark : Mark
    mark = record { chart = (row_at rows n).id; id = id; owner = n }

    abbrev row : Row
    row = record { id = (row_at rows n).id; series = series }

    id_at : get_or (ids rows) n [] ≡ (row_at rows n).id
    id_at = get_or-map_any (λ (row : Row). row.id) rows n (record { id = []; series = [] })

    within_ids : n < length (ids rows)
    within_ids = omega (arith, length-map rows (λ (row : Row). row.id))

    ids-set : ids (set rows n row) ≡ ids rows
    ids-set = map-set (λ (row : Row). row.id) rows n row ∙ ap (set (ids rows) n) (sym id_at) ∙ set-get_or (ids rows) n []

    table_at : position (is_mark (row_at rows n).id id) marks ≡ None → AddsSeries (row_at rows n).series id (length marks) series
        → (k : ℕ) (d : Row) → k < length (set rows n row) → IsTableOf (marks ++ mark ∷ []) (get_or (set rows n row) k d)
    table_at none adds k d k_in =
        elim (cases_eq k n) [
          | inl e ↦
              subst (IsTableOf (marks ++ mark ∷ [])) (sym (ap (λ i. get_or (set rows n row) i d) e ∙ get_or-set_same rows n row d within))
              (table-own marks (row_at rows n) mark series refl none adds (known.tables n _ within))
          | inr ne ↦
              subst (IsTableOf (marks ++ mark ∷ [])) (sym (get_or-set_other rows n k row d ne))
              (table-other marks (get_or rows k d) mark (far ne) (known.tables k d in_rows))
        ]
      where
        in_rows : k < length rows
        in_rows = omega (arith, length-set rows n row)

        far : k ≢ n → bytes_eq (get_or rows k d).id (row_at rows n).id ≡ false
        far ne =
            let in_ids : k < length (ids rows) = omega (arith, length-map rows (λ (row : Row). row.id), in_rows) in
            let here : get_or (ids rows) k [] ≡ (get_or rows k d).id = get_or_default (ids rows) k [] d.id in_ids ∙ get_or-map_any (λ (row : Row). row.id) rows k d in
            ap (λ x. bytes_eq x (row_at rows n).id) (sym here) ∙ ap (bytes_eq (get_or (ids rows) k [])) (sym id_at)
            ∙ distinct-apart (ids rows) k n [] known.distinct_charts in_ids within_ids ne

    kept-set : position (is_mark (row_at rows n).id id) marks ≡ None → AddsSeries (row_at rows n).series id (length marks) series → AreKept (set rows n row) (marks ++ mark ∷ [])
    kept-set none adds = record {
      tables = table_at none adds;
      owners = All-push (IsOwned (set rows n row)) marks mark (All-weaker (IsOwned rows) (IsOwned (set rows n row)) (λ mark owner. ap (position (bytes_eq mark.chart)) ids-set ∙ owner) marks known.owners)
          (ap (position (bytes_eq mark.chart)) ids-set ∙ ap (λ x. position (bytes_eq x) (ids rows)) (sym id_at) ∙ known.distinct_charts n [] within_ids);
      distinct_charts = subst (AreDistinct bytes_eq) (sym ids-set) known.distinct_charts;
      distinct_dimensions = distinct-push same_mark marks mark (ap (λ b. b && bytes_eq id id) (bytes_eq_same mark.chart mark.chart refl) ∙ bytes_eq_same id id refl) known.distinct_dimensions none;
    }

  pub AreKept-new_dimension : (n : ℕ) (id : List ℕ) (new : List Row) → n < length rows → position (is_mark (row_at rows n).id id) marks ≡ None → EntersSeries rows n id (length marks) new
      → AreKept new (marks ++ record { chart = (row_at rows n).id; id = id; owner = n } ∷ [])
  AreKept-new_dimension n id new within none enters =
      subst (λ kept. AreKept kept (marks ++ record { chart = (row_at rows n).id; id = id; owner = n } ∷ [])) (sym enters.rows) (kept-set n id enters.table within none enters.adds)
