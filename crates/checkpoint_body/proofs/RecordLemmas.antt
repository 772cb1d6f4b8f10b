-- The records of a page, and its size.
use Rattle.std.proofs.Common.{◌≡◌, ℕ, ◌+◌, ◌*◌, ◌/◌, ◌≤◌, ◌<◌, Bool, true, false, ◌&&◌, ◌==◌, ltb, cond, List, [], ◌∷◌, ◌++◌, length, Some, None, refl, ap, sym, subst, ◌∙◌, arith, length-append}
use Rattle.std.proofs.Math.Nat.{mul-div_cancel}
use Rattle.std.proofs.lemmas.Bool.{and_parts, eqb-true, ltb-true}
use Rattle.fixed_num.specs.declared.units.Record.{Record}
use Rattle.checkpoint_body.specs.declared.item.BucketRecord.{BucketRecord}
use Rattle.checkpoint_body.specs.declared.page.RecordPage.{RecordPage}
use Rattle.checkpoint_body.specs.Records.{is_next, record_page_of, record_page_size, records_from, records_in, with_record}

module _ (series step : ℕ) where
  records_from-append : (moment : ℕ) (prefix rest : List Record)
      → records_from series step moment (prefix ++ rest) ≡ records_from series step moment prefix ++ records_from series step (moment + length prefix * step) rest
  records_from-append moment [] rest = ap (λ (at : ℕ). records_from series step at rest) (omega arith)
  records_from-append moment (one ∷ prefix) rest =
      ap (λ (items : List BucketRecord). record { series = series; bucket = moment / step; value = one } ∷ items)
      (records_from-append (moment + step) prefix rest
      ∙ ap (λ (at : ℕ). records_from series step (moment + step) prefix ++ records_from series step at rest) (omega arith))

-- a page that takes a record
pub record TakesNext (width : ℕ) (page : RecordPage) (item : BucketRecord) (more : RecordPage) : Type 0 where
  pub series : page.series ≡ item.series
  pub step : page.step ≡ width
  pub moment : page.first + length page.records * width ≡ item.bucket * width
  pub room : length page.records < 73
  pub is : record page { records = page.records ++ item.value ∷ [] } ≡ more

chosen : {X : Type 0} (test : Bool) (a b : X) → cond test (Some a) None ≡ Some b → (test ≡ true) × (a ≡ b)
chosen true a b e = (refl, cc)
chosen false a b e = absurd cc

pub takes_next : (width : ℕ) (page : RecordPage) (item : BucketRecord) (more : RecordPage) → with_record width page item ≡ Some more → TakesNext width page item more
takes_next width page item more e =
    let known = chosen (is_next width page item) (record page { records = page.records ++ item.value ∷ [] }) more e in
    let first : Bool = page.series == item.series in
    let second : Bool = page.step == width in
    let third : Bool = page.first + length page.records * width == item.bucket * width in
    let fourth : Bool = ltb (length page.records) 73 in
    let last = and_parts (first && second && third) fourth known.0 in
    let next = and_parts (first && second) third last.0 in
    let prefix = and_parts first second next.0 in
    record {
      series = eqb-true page.series item.series prefix.0;
      step = eqb-true page.step width prefix.1;
      moment = eqb-true (page.first + length page.records * width) (item.bucket * width) next.1;
      room = ltb-true (length page.records) 73 last.1;
      is = known.1;
    }

item_from : ℕ → ℕ → Record → BucketRecord
item_from series bucket value = record { series = series; bucket = bucket; value = value }

module _ (width : ℕ) (some : 0 < width) where
  pub of_begun : (item : BucketRecord) → records_in (record_page_of width item) ≡ item ∷ []
  unfolding item_from
  of_begun item = ap (λ (bucket : ℕ). item_from item.series bucket item.value ∷ []) (mul-div_cancel item.bucket some)

  pub of_added : (page : RecordPage) (item : BucketRecord) (more : RecordPage) → with_record width page item ≡ Some more → records_in more ≡ records_in page ++ item ∷ []
  unfolding item_from
  of_added page item more e =
      let known = takes_next width page item more e in
      let moment = page.first + length page.records * page.step in
      let at : moment ≡ item.bucket * width = ap (λ (n : ℕ). page.first + length page.records * n) known.step ∙ known.moment in
      let bucket : moment / page.step ≡ item.bucket = ap (λ (n : ℕ). moment / n) known.step ∙ ap (λ (n : ℕ). n / width) at ∙ mul-div_cancel item.bucket some in
      let one : records_from page.series page.step moment (item.value ∷ []) ≡ item ∷ [] =
      ap (λ (n : ℕ). item_from page.series n item.value ∷ []) bucket
      ∙ ap (λ (n : ℕ). item_from n item.bucket item.value ∷ []) known.series in
      ap records_in (sym known.is)
      ∙ records_from-append page.series page.step page.first page.records (item.value ∷ [])
      ∙ ap (λ (items : List BucketRecord). records_in page ++ items) one

-- ---- its size

pub size_begun : (width : ℕ) (item : BucketRecord) → record_page_size (record_page_of width item) ≤ 80
size_begun width item = omega arith

pub size_added : (width : ℕ) (page : RecordPage) (item : BucketRecord) (more : RecordPage) → with_record width page item ≡ Some more → record_page_size more ≤ record_page_size page + 80
size_added width page item more e =
    let known = takes_next width page item more e in
    let count : length (page.records ++ item.value ∷ []) ≡ length page.records + 1 = length-append page.records (item.value ∷ []) in
    subst (λ (page' : RecordPage). record_page_size page' ≤ record_page_size page + 80) known.is (omega (arith, count))
