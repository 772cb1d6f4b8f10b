use Rattle.std.proofs.Common.{◌≡◌, ◌+◌, min, Some, length, unwrap_or, ap, ◌∙◌, string_bytes, if◌then◌else◌}
use Rattle.std.specs.Str.{bytes_eq}
use Rattle.std.proofs.lemmas.Map.Text.{hash_map_updates_text}
use Rattle.chart_registry.specs.Places.{place_in, count_in}
use Rattle.collect_block.proofs.CountLemmas.{ok-holds, count-updated}
use Rattle.collect_block.proofs.count_table.CountTable.define.Goals as goal

pub returns-clause-counts : goal.returns-clause-counts
returns-clause-counts c = λ chart.
    let old = c.args.self.now in
    let own = c.args.dimension.chart in
    let key = string_bytes c.into_string-chart.result in
    let named : key ≡ own = c.into_string-chart.ensures ∙ c.in_ok-clone.ensures.cases in
    let kept : c.reserve.new.self.entries ≡ old = c.reserve.ensures.entries ∙ c.self.view_is in
    let before : c.count_of.result ≡ count_in old own
    = c.count_of.ensures ∙ (λ i. count_in (kept i) ((c.as_str.ensures.value ∙ named) i)) in
    let count : c.raised-count.result ≡ min (count_in old own + 1) (length c.define.new.self)
    = c.raised-count.ensures ∙ (λ i. min (before i + 1) (length (c.as_slice.ensures i))) in
    let updates = ok-holds c.insert.result c.unwrap.result c.unwrap.ensures c.insert.ensures.updates in
    ap (λ found. unwrap_or found 0) (hash_map_updates_text key c.reserve.new.self c.insert.new.self (Some c.raised-count.result) updates chart)
    ∙ count-updated (bytes_eq key chart) c.raised-count.result (place_in c.reserve.new.self.entries chart)
    ∙ (λ i. if bytes_eq (named i) chart then count i else count_in (kept i) chart)
