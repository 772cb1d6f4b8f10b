use Rattle.std.proofs.Common.{sym, ◌∙◌}
use Rattle.store_core.proofs.PageProofs.FormedLemmas.{have_step, records_end}
use Rattle.store_core.proofs.bodies.kept_items.records_of.Goals as goal

pub items_of_records-requires : goal.items_of_records-requires
items_of_records-requires c =
    let are = sym c.are_record_pages.ensures ∙ c.if-not-are_record_pages.false in record {
      step = have_step c.args.width c.args.pages.now are;
      in_time = records_end c.args.width c.args.pages.now are;
    }
