use Rattle.std.proofs.Common.{◌≡◌, ◌++◌, ap, ◌∙◌, rules}
use Rattle.std.specs.Prelude.{FitsSigned}
use Rattle.std.specs.Int.{w128}
use Rattle.std.proofs.lemmas.Int.{to_z-of_z}
use Rattle.page_buffer.specs.Items.{signed_bytes}
use Rattle.page_buffer.proofs.ItemLemmas.{five_pieces}
use Rattle.page_buffer.proofs.records.append_record.Goals as goal

pub returns : goal.returns
returns c =
    let old = c.args.page.now in let item = c.args.item in
    let min : FitsSigned w128 item.min = search rules in let max : FitsSigned w128 item.max = search rules in let sum : FitsSigned w128 item.sum = search rules in
    let min_bytes : c.to_le_bytes.result ≡ signed_bytes item.min = c.to_le_bytes.ensures ∙ ap signed_bytes (to_z-of_z w128 item.min min) in
    let max_bytes : c.to_le_bytes-2.result ≡ signed_bytes item.max = c.to_le_bytes-2.ensures ∙ ap signed_bytes (to_z-of_z w128 item.max max) in
    let sum_bytes : c.to_le_bytes-3.result ≡ signed_bytes item.sum = c.to_le_bytes-3.ensures ∙ ap signed_bytes (to_z-of_z w128 item.sum sum) in
    five_pieces old c.append.new.page c.append-2.new.page c.append-3.new.page c.append-4.new.page c.append-5.new.page
    c.to_le_bytes.result c.to_le_bytes-2.result c.to_le_bytes-3.result c.to_le_bytes-4.result c.to_le_bytes-5.result
    c.append.ensures c.append-2.ensures c.append-3.ensures c.append-4.ensures c.append-5.ensures
    ∙ (λ i. old ++ (min_bytes i ++ max_bytes i ++ sum_bytes i ++ c.to_le_bytes-4.ensures i ++ c.to_le_bytes-5.ensures i))
