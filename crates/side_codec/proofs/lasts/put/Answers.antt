use Rattle.side_codec.proofs.Any.{any_items}
use Rattle.side_codec.proofs.lasts.put.Goals as goal

pub put_items-requires : goal.put_items-requires
put_items-requires c = any_items c.as_slice.result.now

pub put_items-requires-2 : goal.put_items-requires-2
put_items-requires-2 c = any_items c.as_slice-2.result.now
