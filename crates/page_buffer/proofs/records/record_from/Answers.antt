use Rattle.std.proofs.Common.{ap, ◌∙◌}
use Rattle.std.specs.Int.{w128}
use Rattle.std.proofs.lemmas.Int.{to_z-of_z}
use Rattle.std.proofs.lemmas.List.{take_rest}
use Rattle.byteorder.specs.Endian.{little_number}
use Rattle.page_buffer.specs.Items.{signed_from}
use Rattle.page_buffer.proofs.records.record_from.Goals as goal

pub returns : goal.returns
returns c = let bytes = c.args.bytes.now in λ i. record {
  min = (to_z-of_z w128 c.read_i128.result (record { sfits = c.read_i128.type_inv }) ∙ c.read_i128.ensures) i;
  max = (to_z-of_z w128 c.read_i128-2.result (record { sfits = c.read_i128-2.type_inv }) ∙ c.read_i128-2.ensures ∙ ap signed_from (take_rest bytes 16)) i;
  sum = (to_z-of_z w128 c.read_i128-3.result (record { sfits = c.read_i128-3.type_inv }) ∙ c.read_i128-3.ensures ∙ ap signed_from (take_rest bytes 32)) i;
  count = (c.read_u32.ensures ∙ ap (little_number 4) (take_rest bytes 48)) i;
  anomalies = (c.read_u32-2.ensures ∙ ap (little_number 4) (take_rest bytes 52)) i;
}
