use Rattle.std.proofs.Common.{◌≡◌, List, [], ◌∷◌, ◌++◌, map, sym, ap, subst, ◌∙◌, string_bytes}
use Rattle.std.specs.declared.alloc.Global.{Global}
use Rattle.std.specs.declared.string.String.{String}
use Rattle.std.specs.Map.{keys_of, values_of}
use Rattle.std.proofs.lemmas.List.{map-append}
use Rattle.history.specs.declared.chart.ChartDef.{ChartDef}
use Rattle.indexmap.specs.IndexMap.{values}
use Rattle.chart_registry.specs.declared.charts.Chart.{Chart}
use Rattle.chart_registry.specs.Rows.{Row, row_of, ids, rows, chart_defs}
use Rattle.chart_registry.proofs.ChartsLemmas.{entries-new, values-push, rows-push, by_id-push}
use Rattle.chart_registry.proofs.charts.add.Goals as goal

pub returns-clause-by_id : goal.returns-clause-by_id
returns-clause-by_id c =
    let m = c.args.charts.now in
    let id = c.into_string-id.result in
    let chart : Chart = record { def = c.in_ok-clone.field-0; series = c.new.result } in
    let copied : c.in_ok-clone.field-0 ≡ c.args.def.now = c.in_ok-clone.ensures.cases in
    let named : string_bytes id ≡ c.args.def.now.id = c.into_string-id.ensures ∙ c.in_ok-clone-2.ensures.cases in
    let entries = entries-new m c.insert.new.self.entries id chart c.args.def.now.id c.in_ok-insert.ensures.entries c.requires.by_id named c.requires.absent in
    subst (λ (es : List (String Global × Chart)). map string_bytes (keys_of es) ≡ ids (map row_of (values_of es))) (sym entries)
    (by_id-push m.entries id chart c.requires.by_id (named ∙ sym (ap (λ (def : ChartDef). def.id) copied)))

pub returns-clause-rows : goal.returns-clause-rows
returns-clause-rows c =
    let m = c.args.charts.now in
    let id = c.into_string-id.result in
    let chart : Chart = record { def = c.in_ok-clone.field-0; series = c.new.result } in
    let copied : c.in_ok-clone.field-0 ≡ c.args.def.now = c.in_ok-clone.ensures.cases in
    let named : string_bytes id ≡ c.args.def.now.id = c.into_string-id.ensures ∙ c.in_ok-clone-2.ensures.cases in
    let entries = entries-new m c.insert.new.self.entries id chart c.args.def.now.id c.in_ok-insert.ensures.entries c.requires.by_id named c.requires.absent in
    let row : row_of chart ≡ record { id = c.args.def.now.id; series = [] } = λ i. record { id = (copied i).id; series = c.new.ensures.empty i } in
    ap (λ (es : List (String Global × Chart)). map row_of (values_of es)) entries ∙ rows-push m.entries id chart ∙ ap (λ (x : Row). rows m ++ x ∷ []) row

pub returns-clause-ok : goal.returns-clause-ok
returns-clause-ok c =
    let m = c.args.charts.now in
    let id = c.into_string-id.result in
    let chart : Chart = record { def = c.in_ok-clone.field-0; series = c.new.result } in
    let copied : c.in_ok-clone.field-0 ≡ c.args.def.now = c.in_ok-clone.ensures.cases in
    let named : string_bytes id ≡ c.args.def.now.id = c.into_string-id.ensures ∙ c.in_ok-clone-2.ensures.cases in
    let entries = entries-new m c.insert.new.self.entries id chart c.args.def.now.id c.in_ok-insert.ensures.entries c.requires.by_id named c.requires.absent in
    let def_of = λ (chart : Chart). chart.def in
    ap (λ (es : List (String Global × Chart)). map def_of (values_of es)) entries ∙ ap (map def_of) (values-push m.entries id chart)
    ∙ map-append def_of (values m) (chart ∷ []) ∙ ap (λ (x : ChartDef). chart_defs m ++ x ∷ []) copied
