use Rattle.std.proofs.Common.{◌≡◌, true, map, sym, ap, ◌∙◌}
use Rattle.std.specs.List.{list_all}
use Rattle.entry_codec.specs.declared.charts.CopiedChart.{CopiedChart}
use Rattle.entry_codec.specs.declared.dimensions.CopiedDimension.{CopiedDimension}
use Rattle.entry_codec.specs.declared.words.CopiedWord.{CopiedWord}
use Rattle.entry_codec.specs.Entries.{is_copied_canonical, is_storage_number}
use Rattle.entry_codec.specs.Lists.{is_ascending}
use Rattle.entry_codec.proofs.canonical.is_copied.Goals as goal

pub returns : goal.returns
unfolding is_copied_canonical
returns c =
    let charts : is_ascending (map (λ (d : CopiedChart). d.number) c.args.copied.now.charts) ≡ true =
    rw (← c.as_slice.ensures) (sym c.is_ascending.ensures ∙ c.if-not-is_ascending.false) in
    let dimensions : is_ascending (map (λ (d : CopiedDimension). d.series) c.args.copied.now.dimensions) ≡ true =
    rw (← c.as_slice-2.ensures) (sym c.is_ascending-2.ensures ∙ c.if-not-is_ascending-2.false) in
    let words : is_ascending (map (λ (w : CopiedWord). w.series) c.args.copied.now.words) ≡ true =
    rw (← c.as_slice-3.ensures) (sym c.is_ascending-3.ensures ∙ c.if-not-is_ascending-3.false) in
    rw (charts, dimensions, words) (c.are_storage_numbers.ensures ∙ ap (list_all is_storage_number) c.as_slice-4.ensures)
