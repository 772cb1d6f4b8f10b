use Rattle.std.proofs.Common.{◌≡◌, List, map, sym, ap, subst, ◌∙◌}
use Rattle.std.specs.List.Sorted.{IsPermutation}
use Rattle.std.proofs.lemmas.Result.{IfOk-weaker}
use Rattle.std.proofs.lemmas.List.Sorted.{IsPermutation-sym, IsPermutation-trans}
use Rattle.beat_tiers.specs.declared.item.Item.{Item}
use Rattle.fixed_num.specs.declared.units.Record.{Record}
use Rattle.beat_tiers.specs.Tiers.{AreOrdered}
use Rattle.checkpoint_body.specs.Records.{records_of}
use Rattle.store_core.specs.pages.Items.{item_of_bucket_record, HaveRecords}
use Rattle.store_core.specs.pages.Sorting.{IsByPlace}
use Rattle.store_core.proofs.PageProofs.Answered.{ok_both}
use Rattle.store_core.proofs.PageProofs.OneOrder.{sorted_is}
use Rattle.store_core.proofs.pages.records.items_of_records.Goals as goal

pub returns-clause-have : goal.returns-clause-have
returns-clause-have c =
    let held : c.in_ok-items.items.items ≡ map item_of_bucket_record (records_of c.args.pages.now) =
    c.in_ok-items.ensures ∙ ap (map item_of_bucket_record) (c.as_slice.ensures ∙ c.in_ok-records.ensures) in
    IfOk-weaker c.sorted_by_place.result (IsPermutation c.in_ok-items.items.items) (HaveRecords c.args.pages.now)
    (λ sorted moved. subst (λ (l : List (Item Record)). IsPermutation l sorted) held moved) c.sorted_by_place.ensures.permutation

pub returns-clause-ordered : goal.returns-clause-ordered
returns-clause-ordered c =
    let held : c.in_ok-items.items.items ≡ map item_of_bucket_record (records_of c.args.pages.now) =
    c.in_ok-items.ensures ∙ ap (map item_of_bucket_record) (c.as_slice.ensures ∙ c.in_ok-records.ensures) in
    ok_both c.sorted_by_place.result IsByPlace (IsPermutation c.in_ok-items.items.items)
    (λ items. (others : List (Item Record)) → AreOrdered others → HaveRecords c.args.pages.now others → items ≡ others)
    (λ items by moved others ordered have.
    sorted_is items others by ordered
    (IsPermutation-trans items c.in_ok-items.items.items others (IsPermutation-sym c.in_ok-items.items.items items moved)
    (subst (λ (l : List (Item Record)). IsPermutation l others) (sym held) have)))
    c.sorted_by_place.ensures.by_place c.sorted_by_place.ensures.permutation
