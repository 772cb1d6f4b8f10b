use Rattle.std.proofs.Common.{◌≡◌, ℕ, ◌+◌, ◌<◌, ◌≤◌, List, [], ◌∷◌, ◌++◌, length, get_or, map, take, Option, ℤ, arith, sym, ap, ◌∙◌}
use Rattle.std.proofs.lemmas.List.{map_more, take_all}
use Rattle.std.proofs.lemmas.List.FromFn.{map-range_with_len_more}
use Rattle.std.specs.List.{range_with_len}
use Rattle.tier_rollup.specs.declared.point.Point.{Point}
use Rattle.query_engine.specs.declared.request.Request.{Request}
use Rattle.query_engine.specs.declared.table.Table.{Table}
use Rattle.query_engine.specs.declared.table.TableRow.{TableRow}
use Rattle.query_engine.specs.Windows.{cell, row_of, start_of, table_of, tier_for}

pub cells_more : (f : ℕ → Option ℤ) (series : List ℕ) (i : ℕ) (before after : List (Option ℤ)) (found : Option ℤ) → i < length series
    → before ≡ map f (take i series) → found ≡ f (get_or series i 0) → after ≡ before ++ found ∷ [] → after ≡ map f (take (i + 1) series)
cells_more f series i before after found inside was is made =
    made
    ∙ ap (λ (l : List (Option ℤ)). l ++ found ∷ []) was
    ∙ ap (λ (x : Option ℤ). map f (take i series) ++ x ∷ []) is
    ∙ sym (map_more f series i 0 inside)

pub cells_all : (f : ℕ → Option ℤ) (series : List ℕ) (i : ℕ) (cells : List (Option ℤ)) → length series ≤ i → cells ≡ map f (take i series) → cells ≡ map f series
cells_all f series i cells end made = made ∙ ap (map f) (take_all i series end)

pub row_made : (floor : ℕ) (told : ℕ → List Point) (request : Request) (i start : ℕ) (cells : List (Option ℤ)) (series : List ℕ)
    → start ≡ start_of request i → series ≡ request.series
    → cells ≡ map (λ one. cell request.group floor start request.window (told one)) series
    → (let row : TableRow = record { start = start; cells = cells } in row) ≡ row_of floor told request i
row_made floor told request i start cells series starts same made =
    ap (λ (l : List (Option ℤ)). record { start = start; cells = l })
    (made
    ∙ ap (map (λ one. cell request.group floor start request.window (told one))) same)
    ∙ ap (λ (n : ℕ). record { start = n; cells = map (λ one. cell request.group floor n request.window (told one)) request.series }) starts

pub rows_more : (f : ℕ → TableRow) (i : ℕ) (before after : List TableRow) (row : TableRow)
    → before ≡ map f (range_with_len 0 i) → row ≡ f i → after ≡ before ++ row ∷ [] → after ≡ map f (range_with_len 0 (i + 1))
rows_more f i before after row was is made =
    made
    ∙ ap (λ (l : List TableRow). l ++ row ∷ []) was
    ∙ ap (λ (x : TableRow). map f (range_with_len 0 i) ++ x ∷ []) is
    ∙ sym (map-range_with_len_more f 0 i i (omega arith))

pub table_made : (widths : List ℕ) (floor : ℕ → ℕ) (told : ℕ → List Point) (request : Request) (rows : List TableRow) (lowest tier i : ℕ)
    → rows ≡ map (row_of lowest told request) (range_with_len 0 i) → i ≡ request.rows → lowest ≡ floor tier → tier ≡ tier_for widths floor request.after request.window
    → (let table : Table = record { rows = rows } in table) ≡ table_of widths floor told request
table_made widths floor told request rows lowest tier i made all low chosen =
    ap (λ (l : List TableRow). record { rows = l })
    (made
    ∙ ap (λ (n : ℕ). map (row_of lowest told request) (range_with_len 0 n)) all
    ∙ ap (λ (n : ℕ). map (row_of n told request) (range_with_len 0 request.rows)) (low ∙ ap floor chosen))
