-- What the first rows of a beat came to.
use Rattle.std.proofs.Common.{◌≡◌, ℕ, ◌+◌, ◌<◌, Bool, true, false, not, ◌||◌, List, [], ◌∷◌, ◌++◌, length, take, get_or, sym, ap, ◌∙◌, arith}
use Rattle.std.specs.List.{cons_option, filter_map, list_any}
use Rattle.std.specs.Option.{option_map_or}
use Rattle.std.proofs.lemmas.List.{take_more}
use Rattle.std.proofs.lemmas.List.Folds.{list_any-append}
use Rattle.history.specs.declared.beat.OpenBeat.{OpenBeat}
use Rattle.history.specs.declared.beat.OpenRow.{OpenRow}
use Rattle.history.specs.Refusal.{chart_now, has_chart, is_off}
use Rattle.history.specs.Registry.{Registry}
use Rattle.beat_entries.specs.declared.rows.FoundRows.{FoundRows}
use Rattle.beat_entries.specs.Gathered.{row_at}
use Rattle.beat_entries.specs.Rules.{changes_grid, row_lacks_dimension, with_beat}
use Rattle.beat_entries.proofs.ComingLemmas.{or-none}
use Rattle.beat_entries.proofs.Gathering.{gathered-more}

pub any-more : {A : Type 0} (p : A → Bool) (xs : List A) (n : ℕ) (x : A) → n < length xs → get_or xs n x ≡ x
    → (list_any p (take n xs) || p x) ≡ list_any p (take (n + 1) xs)
any-more {A} p xs n x within at =
    sym (ap (list_any p) (take_more xs n x within) ∙ ap (λ (y : A). list_any p (take n xs ++ y ∷ [])) at ∙ list_any-append p (take n xs) (x ∷ []) ∙ ap (λ (b : Bool). list_any p (take n xs) || b) (or-none (p x)))

-- the moment is off the grid of the row's chart
abbrev pub is_off_row : Registry → OpenBeat → ℕ → OpenRow → Bool
is_off_row registry beat moment row = option_map_or (is_off moment) (chart_now registry beat row.chart) false

abbrev pub lacks_its_chart : Registry → OpenBeat → OpenRow → Bool
lacks_its_chart registry beat row = not (has_chart registry beat row.chart)

pub record AreFound (registry : Registry) (beat : OpenBeat) (moment : ℕ) (Can : Type 0) (rows : List OpenRow) (found : FoundRows) : Type 0 where
  pub charts : list_any (lacks_its_chart registry beat) rows ≡ false
  pub lack : found.lack ≡ list_any (row_lacks_dimension registry beat) rows
  pub off : changes_grid registry beat ≡ false → found.off_grid ≡ list_any (is_off_row registry beat moment) rows
  pub items : Can → found.rows.whole ≡ true → found.rows.items.items ≡ filter_map (row_at (with_beat registry beat)) rows

module _ (registry : Registry) (beat : OpenBeat) (moment : ℕ) (Can : Type 0) (rows : List OpenRow) (n : ℕ) (row : OpenRow) (within : n < length rows) (at : get_or rows n row ≡ row) (old new : FoundRows) where
  -- one more, of a chart that is there
  pub found-more : has_chart registry beat row.chart ≡ true → new.lack ≡ (old.lack || row_lacks_dimension registry beat row)
      → (changes_grid registry beat ≡ false → new.off_grid ≡ (old.off_grid || is_off_row registry beat moment row))
      → (new.rows.whole ≡ true → old.rows.whole ≡ true)
      → (Can → new.rows.whole ≡ true → new.rows.items.items ≡ old.rows.items.items ++ cons_option (row_at (with_beat registry beat) row) [])
      → AreFound registry beat moment Can (take n rows) old → AreFound registry beat moment Can (take (n + 1) rows) new
  found-more there lack off before items found = record {
    charts = sym (any-more (lacks_its_chart registry beat) rows n row within at) ∙ (λ i. found.charts i || not (there i));
    lack = lack ∙ ap (λ (b : Bool). b || row_lacks_dimension registry beat row) found.lack ∙ any-more (row_lacks_dimension registry beat) rows n row within at;
    off = λ same. off same ∙ ap (λ (b : Bool). b || is_off_row registry beat moment row) (found.off same) ∙ any-more (is_off_row registry beat moment) rows n row within at;
    items = λ can whole. gathered-more (row_at (with_beat registry beat)) rows n row old.rows.items.items new.rows.items.items within at (items can whole) (found.items can (before whole));
  }
