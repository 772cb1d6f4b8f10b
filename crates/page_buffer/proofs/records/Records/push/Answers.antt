use Rattle.std.proofs.Common.{◌<◌, ◌^◌, List, [], ◌∷◌, ◌++◌, ap, ◌∙◌, rules}
use Rattle.std.specs.Prelude.{FitsSigned}
use Rattle.std.specs.Int.{w128}
use Rattle.fixed_num.specs.declared.units.Record.{Record}
use Rattle.page_buffer.specs.Items.{records_of}
use Rattle.page_buffer.proofs.ItemLemmas.{Fits, records_of-push}
use Rattle.page_buffer.proofs.records.Records.push.Goals as goal

pub returns : goal.returns
returns c =
    let item = c.args.item in
    let min : FitsSigned w128 item.min = search rules in let max : FitsSigned w128 item.max = search rules in let sum : FitsSigned w128 item.sum = search rules in
    let count : item.count < 2 ^ 32 = search rules in let anomalies : item.anomalies < 2 ^ 32 = search rules in
    let fits : Fits item = record { min = min; max = max; sum = sum; count = count; anomalies = anomalies } in
    ap records_of c.append_record.ensures ∙ records_of-push c.self.inside.page item c.self.invariant.0 fits ∙ ap (λ (rs : List Record). rs ++ item ∷ []) c.self.view_is
