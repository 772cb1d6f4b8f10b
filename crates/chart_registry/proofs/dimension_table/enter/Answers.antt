use Rattle.std.proofs.Common.{◌≡◌, ℕ, List, Some, position, sym, ap, ◌∙◌, string_bytes}
use Rattle.std.specs.declared.alloc.Global.{Global}
use Rattle.std.specs.declared.string.String.{String}
use Rattle.std.specs.Map.{keys_of}
use Rattle.std.specs.Str.{bytes_eq}
use Rattle.std.proofs.lemmas.Result.{on_ok_weaker, on_err_weaker}
use Rattle.chart_registry.specs.Places.{place_in}
use Rattle.chart_registry.proofs.TablesLemmas.{enters-known, keeps-known}
use Rattle.chart_registry.proofs.dimension_table.enter.Goals as goal

pub returns-in-Some-clause-ok : goal.returns-in-Some-clause-ok
returns-in-Some-clause-ok c =
    let tables = c.args.tables.now.entries in
    let chart = string_bytes c.args.chart in
    let at : position (λ (key : String Global). bytes_eq chart (string_bytes key)) (keys_of tables) ≡ Some c.in-Some.number
    = ap (λ (text : List ℕ). position (λ (key : String Global). bytes_eq text (string_bytes key)) (keys_of tables)) (sym c.as_str.ensures.value) ∙ sym c.in-Some.ensures.index in
    let here : place_in tables chart ≡ Some c.index_mut.result.now
    = ap (place_in tables) (sym c.as_str.ensures.value) ∙ sym c.in-Some.ensures.value ∙ c.index_mut.ensures.value in
    on_ok_weaker c.add_place.result (enters-known tables chart (string_bytes c.args.id) c.args.place c.in-Some.number c.index_mut.result.now c.add_place.new.table at here) c.add_place.ensures.ok

pub returns-in-Some-clause-err : goal.returns-in-Some-clause-err
returns-in-Some-clause-err c =
    let tables = c.args.tables.now.entries in
    let chart = string_bytes c.args.chart in
    let at : position (λ (key : String Global). bytes_eq chart (string_bytes key)) (keys_of tables) ≡ Some c.in-Some.number
    = ap (λ (text : List ℕ). position (λ (key : String Global). bytes_eq text (string_bytes key)) (keys_of tables)) (sym c.as_str.ensures.value) ∙ sym c.in-Some.ensures.index in
    let here : place_in tables chart ≡ Some c.index_mut.result.now
    = ap (place_in tables) (sym c.as_str.ensures.value) ∙ sym c.in-Some.ensures.value ∙ c.index_mut.ensures.value in
    on_err_weaker c.add_place.result (keeps-known tables chart (string_bytes c.args.id) c.args.place c.in-Some.number c.index_mut.result.now c.add_place.new.table at here) c.add_place.ensures.err
