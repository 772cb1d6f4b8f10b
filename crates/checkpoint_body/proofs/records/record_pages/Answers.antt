use Rattle.std.proofs.Common.{ℕ, ◌*◌, ◌<◌, ◌^◌, List, ◌∷◌, ◌≡◌, length, get_or, All}
use Rattle.std.proofs.lemmas.List.Elements.{All-get_or, All-rest}
use Rattle.checkpoint_body.specs.declared.item.BucketRecord.{BucketRecord}
use Rattle.checkpoint_body.proofs.records.record_pages.Goals as goal

-- each record after the first is in time
is_in_time : (width : ℕ) (items others : List BucketRecord) (first : BucketRecord) → items ≡ first ∷ others
    → All (λ (item : BucketRecord). item.bucket * width < 2 ^ 32) items → (place : ℕ) (item : BucketRecord) → place < length others
    → (get_or others place item).bucket * width < 2 ^ 32
is_in_time width items others first are in_time place item within =
    let behind = All-rest (λ (item : BucketRecord). item.bucket * width < 2 ^ 32) first others items are in_time in
    All-get_or (λ (item : BucketRecord). item.bucket * width < 2 ^ 32) others place item within behind

pub add_record-requires : goal.add_record-requires
add_record-requires c = is_in_time c.args.width c.args.items.now c.in-Some.others.now c.in-Some.first.now c.in-Some.ensures.cases.0 c.requires c.loop-item.item-index _ c.loop-item-test.true

pub record_page_of-requires-then-not-branch : goal.record_page_of-requires-then-not-branch
record_page_of-requires-then-not-branch c = is_in_time c.args.width c.args.items.now c.in-Some.others.now c.in-Some.first.now c.in-Some.ensures.cases.0 c.requires c.loop-item.item-index _ c.loop-item-test.true
