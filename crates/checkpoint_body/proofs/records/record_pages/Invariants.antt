use Rattle.std.proofs.Common.{◌≡◌, ◌++◌, drop}
use Rattle.checkpoint_body.specs.Pages.{pages_from}
use Rattle.checkpoint_body.specs.Records.{record_page_of, with_record}
use Rattle.checkpoint_body.proofs.records.record_pages.Given as goal

abbrev pub invariant-loop-item : goal.invariant-loop-item
invariant-loop-item l =
    l.pages ++ pages_from (with_record l.width) (record_page_of l.width) l.page (drop l.item-index l.others) ≡ pages_from (with_record l.width) (record_page_of l.width) l.initial.page l.others
