-- What is known of pages that have the form of a checkpoint's body.
use Rattle.std.proofs.Common.{◌≡◌, ℕ, All, Bool, List, [], ◌∷◌, true}
use Rattle.std.specs.List.{list_all, AllByRecursion}
use Rattle.std.proofs.lemmas.Bool.{and_parts, ltb-true}
use Rattle.std.proofs.lemmas.List.Elements.{All-from_recursion}
use Rattle.checkpoint_body.specs.declared.page.RecordPage.{RecordPage}
use Rattle.checkpoint_body.specs.declared.page.SlotPage.{SlotPage}
use Rattle.checkpoint_body.specs.Canonical.{is_record_page, is_slot_page}
use Rattle.checkpoint_body.specs.Records.{EndsInTime as RecordsEndInTime, HasStep}
use Rattle.checkpoint_body.specs.Slots.{EndsInTime as SlotsEndInTime}

-- what each element has that passes a test
each : {X : Type 0} (test : X → Bool) (P : X → Type 0) → ((x : X) → test x ≡ true → P x) → (xs : List X) → list_all test xs ≡ true → AllByRecursion P xs
each test P has [] all = tt
each test P has (x ∷ xs) all = let parts = and_parts _ _ all in (has x parts.0, each test P has xs parts.1)

all_have : {X : Type 0} (test : X → Bool) (P : X → Type 0) → ((x : X) → test x ≡ true → P x) → (xs : List X) → list_all test xs ≡ true → All P xs
all_have test P has xs all = All-from_recursion P xs (each test P has xs all)

pub slots_end : (pages : List SlotPage) → list_all is_slot_page pages ≡ true → All SlotsEndInTime pages
slots_end = all_have is_slot_page SlotsEndInTime (λ page is. ltb-true _ _ (and_parts _ _ is).1)

pub records_end : (width : ℕ) (pages : List RecordPage) → list_all (is_record_page width) pages ≡ true → All RecordsEndInTime pages
records_end width = all_have (is_record_page width) RecordsEndInTime (λ page is. ltb-true _ _ (and_parts _ _ is).1)

pub have_step : (width : ℕ) (pages : List RecordPage) → list_all (is_record_page width) pages ≡ true → All HasStep pages
have_step width =
    all_have (is_record_page width) HasStep
    (λ page is. let ends = and_parts _ _ is in let grid = and_parts _ _ ends.0 in ltb-true _ _ (and_parts _ _ grid.0).1)
