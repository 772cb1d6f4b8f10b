use Rattle.std.proofs.Common.{map}
use Rattle.checkpoint_body.specs.Records.{records_of}
use Rattle.checkpoint_body.specs.Slots.{points_of}
use Rattle.store_core.specs.pages.Items.{item_of_bucket_record, item_of_point}
use Rattle.store_core.proofs.PageProofs.FormedLemmas.{have_step, records_end, slots_end}
use Rattle.store_core.proofs.PageProofs.WritableLemmas.{records_writable, same_order, slots_writable}
use Rattle.store_core.proofs.pages.law.pages_determine_their_items.Goals as goal

pub returns : goal.returns
returns c = record {
  one_order = λ pages one other left right here there. same_order (map item_of_point (points_of pages)) one other left right here there;
  one_order_of_records = λ pages one other left right here there. same_order (map item_of_bucket_record (records_of pages)) one other left right here there;
  writable = slots_writable;
  writable_records = records_writable;
  ends_in_time = slots_end;
  records_end_in_time = records_end;
  have_step = have_step;
}
