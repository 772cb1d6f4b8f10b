use Rattle.std.proofs.Common.{◌≡◌, ◌<◌, List, [], ◌∷◌, ◌++◌, length, map, Option, Some, None, IsSome, sym, ap, ◌∙◌, arith, string_bytes, true≢false}
use Rattle.std.specs.Map.{keys_of, values_of}
use Rattle.std.specs.Option.{option_to_list}
use Rattle.std.proofs.lemmas.List.{length-map, map-append}
use Rattle.std.specs.declared.alloc.Global.{Global}
use Rattle.std.specs.declared.string.String.{String}
use Rattle.indexmap.specs.IndexMap.{values}
use Rattle.chart_registry.specs.declared.charts.Chart.{Chart}
use Rattle.chart_registry.specs.Rows.{Row, row_of, ids}
use Rattle.chart_registry.proofs.ChartsLemmas.{rows-push, values-push}
use Rattle.chart_registry.proofs.LeavingLemmas.{prefix-same}
use Rattle.chart_registry.proofs.charts.remove_last.Goals as goal

-- what is taken from a list that has something is its last
popped : {E : Type 0} (es fs : List E) (taken : Option E) → es ≡ fs ++ option_to_list taken → 0 < length es → ((0 < length es) → IsSome taken) → (e : E) × (es ≡ fs ++ e ∷ [])
popped es fs None same some found = absurd (true≢false (sym (found some)))
popped es fs (Some e) same some found = (e, same)

pub returns-clause-last : goal.returns-clause-last
returns-clause-last c =
    let charts = c.args.charts.now in
    let some : 0 < length charts.entries = omega (arith, c.requires, length-map (values charts) (λ (chart : Chart). chart.def), length-map charts.entries (λ (e : String Global × Chart). e.1)) in
    let last = popped charts.entries c.pop-last.new.self.entries c.pop-last.result c.pop-last.ensures.entries some c.pop-last.ensures.found.1 in
    (last.0.1, ap values_of last.1 ∙ values-push c.pop-last.new.self.entries last.0.0 last.0.1)

pub returns-clause-by_id : goal.returns-clause-by_id
returns-clause-by_id c = λ by_id.
    let charts = c.args.charts.now in
    let fs = c.pop-last.new.self.entries in
    let some : 0 < length charts.entries = omega (arith, c.requires, length-map (values charts) (λ (chart : Chart). chart.def), length-map charts.entries (λ (e : String Global × Chart). e.1)) in
    let last = popped charts.entries fs c.pop-last.result c.pop-last.ensures.entries some c.pop-last.ensures.found.1 in
    let id = last.0.0 in
    let chart = last.0.1 in
    let keys : map string_bytes (keys_of charts.entries) ≡ map string_bytes (keys_of fs) ++ string_bytes id ∷ []
    = ap (λ (es : List (String Global × Chart)). map string_bytes (keys_of es)) last.1
    ∙ ap (map string_bytes) (map-append (λ (e : String Global × Chart). e.0) fs ((id, chart) ∷ [])) ∙ map-append string_bytes (keys_of fs) (id ∷ []) in
    let rows : ids (map row_of (values_of charts.entries)) ≡ ids (map row_of (values_of fs)) ++ chart.def.id ∷ []
    = ap (λ (es : List (String Global × Chart)). ids (map row_of (values_of es))) last.1
    ∙ ap ids (rows-push fs id chart) ∙ map-append (λ (row : Row). row.id) (map row_of (values_of fs)) (row_of chart ∷ []) in
    prefix-same (map string_bytes (keys_of fs)) (ids (map row_of (values_of fs))) (string_bytes id) chart.def.id (sym keys ∙ by_id ∙ rows)
