use Rattle.std.proofs.Common.{◌≡◌, true, List, subst}
use Rattle.std.specs.List.{filter_map}
use Rattle.std.specs.List.Sorted.{IsPermutation, IsNonDecreasingBy}
use Rattle.std.proofs.lemmas.Bool.{not-false}
use Rattle.history.specs.declared.beat.OpenBeat.{OpenBeat}
use Rattle.history.specs.declared.row.Row.{Row}
use Rattle.history.specs.Numbered.{numbered_rows}
use Rattle.history.specs.Registry.{Registry, same_chart}
use Rattle.history.specs.Regular.{AreApart, same_row}
use Rattle.beat_entries.specs.Gathered.{row_at}
use Rattle.beat_entries.proofs.EntryLemmas.{ok-both, rows-are}
use Rattle.beat_entries.proofs.rows.sorted.Goals as goal

pub returns : goal.returns
returns c =
    let items = c.args.rows.items.items in
    let whole : c.args.rows.whole ≡ true = not-false c.args.rows.whole c.if-not-rows.false in
    ok-both (λ (list : List Row). IsPermutation items list) (λ (list : List Row). IsNonDecreasingBy (λ (row : Row). row.chart) list)
    (λ (list : List Row). (registry : Registry) (beat : OpenBeat) → AreApart same_chart registry.charts → AreApart same_row beat.rows
    → (c.args.rows.whole ≡ true → items ≡ filter_map (row_at registry) beat.rows) → list ≡ numbered_rows registry beat)
    (λ list same up registry beat own apart is. rows-are registry beat own list apart (subst (λ (all : List Row). IsPermutation all list) (is whole) same) up)
    c.sort_rows.result c.sort_rows.ensures.same c.sort_rows.ensures.rises
