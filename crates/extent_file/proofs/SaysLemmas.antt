-- What is encoded of pages is the extent of the pages.
use Rattle.std.proofs.Common.{◌≡◌, ℕ, ◌+◌, ◌-◌, ◌*◌, ◌/◌, ◌^◌, ◌<◌, ◌≤◌, ◌⊎◌, min, max, cond, eqb, List, [], ◌∷◌, ◌++◌, length, take, drop, refl, sym, ap, ◌∙◌, subst, inl, inr, arith}
use Rattle.std.proofs.Math.Nat.{add-mul, mul-add}
use Rattle.std.proofs.lemmas.Nat.{le-div, div-mul-add, mul-le}
use Rattle.std.proofs.lemmas.List.{append_assoc, append-nil, length-append, take_at, drop_at}
use Rattle.byteorder.specs.Endian.{little_number, little_bytes}
use Rattle.byteorder.specs.Numbers.{little_number-reads_back, length-bytes_low_first}
use Rattle.page_buffer.proofs.ItemLemmas.{length-words_of, length-records_of}
use Rattle.std.proofs.lemmas.Bool.{cases_eq, cases_lt, ne_eqb, eq-eqb, le-leb, lt-leb}
use Rattle.extent_file.proofs.EncodeLemmas.{count_is}
use Rattle.extent_file.proofs.EntryLemmas.{after_series, after_first, after_step, after_count, after_place}
use Rattle.extent_file.proofs.HeadLemmas.{after_mark, after_tier, after_pages, after_size}
use Rattle.extent_file.specs.declared.field.Field.{Field}
use Rattle.extent_file.specs.declared.entry.Entry.{Entry}
use Rattle.extent_file.specs.declared.entry.Before.{Before}
use Rattle.extent_file.specs.declared.page.Page.{Page}
use Rattle.extent_file.specs.declared.page.Page.TheVariants.{Slots, Records}
use Rattle.extent_file.specs.Fields.{IsAllowed}
use Rattle.extent_file.specs.Form.{Form, Next, Says}
use Rattle.extent_file.specs.Slot.{item_size, most_items}
use Rattle.extent_file.specs.Directory.{between, last_of, bytes_of, after_entry, at_first, in_time, fewest, room, first_field, count_field, entry_form, directory_form, pages_field, extent_form}
use Rattle.extent_file.specs.Pages.{entry_of, IsOfTier, IsItemsOf, ArePages, items_of, extent_size, entries_of, Hold, IsExtentOf}
use Rattle.extent_file.specs.Writing.{entry_bytes, directory_bytes, head_bytes, IsEncoded, AreItems}

-- a field that is written
says_field : (field : Field) (after : ℕ → Form) (value : ℕ) (rest : List ℕ) (entries : List Entry) → value < 256 ^ field.width → IsAllowed field value
    → Says (after value) rest entries → Says (Next field after) (little_bytes field.width value ++ rest) entries
says_field field after value rest entries small allowed said =
    let size = length-bytes_low_first 0 field.width value in
    let back : little_number field.width (little_bytes field.width value ++ rest) ≡ value = little_number-reads_back field.width value rest small in
    let behind : drop field.width (little_bytes field.width value ++ rest) ≡ rest = drop_at (little_bytes field.width value) rest field.width size in (
      omega (arith, length-append (little_bytes field.width value) rest, size),
      subst (IsAllowed field) (sym back) allowed,
      subst (λ (v : ℕ). Says (after v) (drop field.width (little_bytes field.width value ++ rest)) entries) (sym back)
          (subst (λ (l : List ℕ). Says (after value) l entries) (sym behind) said),
    )

-- what is known of an entry that is written
record Fits (tier size left : ℕ) (before : Before) (entry : Entry) : Type 0 where
  series : IsAllowed (between 4 before.series (2 ^ 32 - 1)) entry.series
  first : IsAllowed (first_field before entry.series) entry.first
  step : IsAllowed (between 4 1 (2 ^ 32 - 1)) entry.step
  count : IsAllowed (count_field tier size left before.place entry.first entry.step) entry.count
  small : entry.count < 2 ^ 32
  place : entry.place ≡ before.place
  place_small : entry.place < 2 ^ 64

says_entry : (tier size left : ℕ) (before : Before) (next : Entry → Form) (entry : Entry) (rest : List ℕ) (entries : List Entry) → Fits tier size left before entry
    → Says (next entry) rest entries → Says (entry_form tier size left before next) (entry_bytes entry ++ rest) entries
says_entry tier size left before next entry rest entries fits said =
    let a = little_bytes 4 entry.series in let b = little_bytes 4 entry.first in let s = little_bytes 4 entry.step in let n = little_bytes 4 entry.count in let p = little_bytes 8 entry.place in
    let apart : entry_bytes entry ++ rest ≡ a ++ (b ++ (s ++ (n ++ (p ++ rest)))) =
    append_assoc a (b ++ (s ++ (n ++ p))) rest ∙ ap (λ (l : List ℕ). a ++ l) (append_assoc b (s ++ (n ++ p)) rest
    ∙ ap (λ (l : List ℕ). b ++ l) (append_assoc s (n ++ p) rest ∙ ap (λ (l : List ℕ). s ++ l) (append_assoc n p rest))) in
    let place = fits.place in
    subst (λ (l : List ℕ). Says (entry_form tier size left before next) l entries) (sym apart)
    (says_field (between 4 before.series (2 ^ 32 - 1)) (λ v. after_series tier size left before next v) entry.series (b ++ (s ++ (n ++ (p ++ rest)))) entries (let top = fits.series.1 in omega (arith, top)) fits.series
    (says_field (first_field before entry.series) (λ v. after_first tier size left before next entry.series v) entry.first (s ++ (n ++ (p ++ rest))) entries (let top = fits.first.1 in omega (arith, top)) fits.first
    (says_field (between 4 1 (2 ^ 32 - 1)) (λ v. after_step tier size left before next entry.series entry.first v) entry.step (n ++ (p ++ rest)) entries (let top = fits.step.1 in omega (arith, top)) fits.step
    (says_field (count_field tier size left before.place entry.first entry.step) (λ v. after_count tier size left before next entry.series entry.first entry.step v) entry.count (p ++ rest) entries (let top = fits.small in omega (arith, top)) fits.count
    (says_field (between 8 before.place before.place) (λ v. after_place tier size left before next entry.series entry.first entry.step entry.count v) entry.place rest entries (let top = fits.place_small in omega (arith, top)) (omega (arith, place), omega (arith, place)) said)))))

pub item-cases : (tier : ℕ) → ((tier ≡ 0) × (item_size tier ≡ 4) × (most_items tier ≡ 1024)) ⊎ ((0 < tier) × (item_size tier ≡ 56) × (most_items tier ≡ 73))
item-cases tier =
    elim (cases_eq tier 0) [
      | inl none ↦ inl (none, ap item_size none, ap most_items none)
      | inr other ↦ inr (omega (arith, other), rw (ne_eqb tier 0 other) refl, rw (ne_eqb tier 0 other) refl)
    ]

pub item-some : (tier : ℕ) → (1 ≤ item_size tier) × (item_size tier ≤ 56)
item-some tier = elim (item-cases tier) [ inl a ↦ let e = a.1 in (omega (arith, e), omega (arith, e)) | inr a ↦ let e = a.1 in (omega (arith, e), omega (arith, e)) ]

-- how long the items of a page are, and how many there may be
pub page_long : (tier : ℕ) (page : Page) (bytes : List ℕ) → IsOfTier tier page → IsItemsOf page bytes → length bytes ≡ (entry_of 0 page).count * item_size tier
page_long tier (Slots page) bytes of is =
    let count = length-words_of bytes in let same = ap length is.1 in let whole = is.0.0.0 in
    let size : item_size tier ≡ 4 = ap item_size of in
    rw size (omega (arith, count, same, whole))
page_long tier (Records page) bytes of is =
    let count = length-records_of bytes in let same = ap length is.1 in let whole = is.0.0.0 in
    let size : item_size tier ≡ 56 = elim (item-cases tier) [ inl a ↦ absurd (let e = a.0 in omega (arith, e, of)) | inr a ↦ a.1 ] in
    rw size (omega (arith, count, same, whole))

page_most : (tier : ℕ) (page : Page) (bytes : List ℕ) → IsOfTier tier page → IsItemsOf page bytes → (entry_of 0 page).count ≤ most_items tier
page_most tier (Slots page) bytes of is =
    let same = ap length is.1 in let most = is.0.1.0 in
    let size : most_items tier ≡ 1024 = ap most_items of in
    rw size (omega (arith, same, most))
page_most tier (Records page) bytes of is =
    let count = length-records_of bytes in let same = ap length is.1 in let most = is.0.0.1 in
    let size : most_items tier ≡ 73 = elim (item-cases tier) [ inl a ↦ absurd (let e = a.0 in omega (arith, e, of)) | inr a ↦ a.2 ] in
    rw size (omega (arith, count, same, most))

page_ends : (page : Page) (bytes : List ℕ) → IsItemsOf page bytes → 1 ≤ (entry_of 0 page).count → last_of (entry_of 0 page) < 2 ^ 32
page_ends (Slots page) bytes is some =
    let ends = is.0.1.2 (let same = ap length is.1 in omega (arith, same, some)) in
    subst (λ (l : List ℕ). page.first + (length l - 1) * page.step < 2 ^ 32) is.1 ends
page_ends (Records page) bytes is some =
    let ends = is.0.1 (let same = ap length is.1 in omega (arith, same, some)) in
    subst (λ (n : ℕ). page.first + (n - 1) * page.step < 2 ^ 32) (ap length is.1) ends

-- each page has an item
counted : (tier : ℕ) (before : Before) (pages : List Page) → ArePages tier before pages → length pages ≤ items_of pages
counted tier before [] are = omega arith
counted tier before (page ∷ pages) are =
    let rest = counted tier (after_entry tier (entry_of before.place page)) pages are.2 in
    let some = are.1.some in let same = count_is before.place page in
    omega (arith, rest, some, same)

pub items_long : (tier : ℕ) (before : Before) (pages : List Page) (bytes : List ℕ) → ArePages tier before pages → AreItems pages bytes → length bytes ≡ items_of pages * item_size tier
items_long tier before [] bytes are none = let e = ap length none in omega (arith, e)
items_long tier before (page ∷ pages) bytes are (prefix, rest, split, is, others) =
    let more = items_long tier (after_entry tier (entry_of before.place page)) pages rest are.2 others in
    let here = page_long tier page prefix are.0 is.items in
    let long = ap length split in let both = length-append prefix rest in
    let sum = add-mul (entry_of 0 page).count (items_of pages) (item_size tier) in
    omega (arith, more, here, long, both, sum)

-- the count of a page leaves room for those after it, and reaches the end where it is the last
module _ (tier size left place count more : ℕ) (whole : size ≡ place + (count + more) * item_size tier) (some : 1 ≤ count) (enough : left ≤ more) where
  count_room : count ≤ room tier size left place
  count_room =
      let item = item-some tier in
      let sized : size - place ≡ (count + more) * item_size tier + 0 = omega (arith, whole) in
      let many : (size - place) / item_size tier ≡ count + more =
      ap (λ (n : ℕ). n / item_size tier) sized ∙ div-mul-add (count + more) (item_size tier) 0 (omega (arith, item)) in
      omega (arith, many, enough)

  last_few : left ≡ 0 → more ≡ 0 → (size - place + (item_size tier - 1)) / item_size tier ≡ count
  last_few none ends =
      let item = item-some tier in
      let same : (count + more) * item_size tier ≡ count * item_size tier = ap (λ (n : ℕ). n * item_size tier) (let e : count + more ≡ count = omega (arith, ends) in e) in
      let sized : size - place + (item_size tier - 1) ≡ count * item_size tier + (item_size tier - 1) = omega (arith, whole, same) in
      ap (λ (n : ℕ). n / item_size tier) sized ∙ div-mul-add count (item_size tier) (item_size tier - 1) (omega (arith, item))

  few_enough : (left ≡ 0 → more ≡ 0) → fewest tier size left place ≤ count
  few_enough ends =
      elim (cases_eq left 0) [
        | inl none ↦ let few = last_few none (ends none) in rw (eq-eqb left 0 none, few) (omega (arith, some))
        | inr other ↦ rw (ne_eqb left 0 other) some
      ]

time_enough : (first step count : ℕ) → 1 ≤ step → first + (count - 1) * step < 2 ^ 32 → count ≤ in_time first step
time_enough first step count some ends =
    let less : count - 1 ≤ (2 ^ 32 - 1 - first) / step = le-div (count - 1) (2 ^ 32 - 1 - first) step some (omega (arith, ends)) in
    omega (arith, less)

first_enough : (series free first last : ℕ) → (series ≡ last → free ≤ first) → cond (eqb series last) free 0 ≤ first
first_enough series free first last low =
    elim (cases_eq series last) [
      | inl same ↦ rw (eq-eqb series last same) (low same)
      | inr other ↦ rw (ne_eqb series last other) (omega arith)
    ]

last_is : (place : ℕ) (page : Page) → last_of (entry_of place page) ≡ last_of (entry_of 0 page)
last_is place (Slots page) = refl
last_is place (Records page) = refl

series_is : (place : ℕ) (page : Page) → (entry_of place page).series ≡ (entry_of 0 page).series
series_is place (Slots page) = refl
series_is place (Records page) = refl

step_is : (place : ℕ) (page : Page) → (entry_of place page).step ≡ (entry_of 0 page).step
step_is place (Slots page) = refl
step_is place (Records page) = refl

pub place_is : (place : ℕ) (page : Page) → (entry_of place page).place ≡ place
place_is place (Slots page) = refl
place_is place (Records page) = refl

none_left : (pages : List Page) → length pages ≡ 0 → items_of pages ≡ 0
none_left [] none = refl
none_left (page ∷ pages) none = absurd (omega (arith, none))

fits_of : (tier size : ℕ) (before : Before) (page : Page) (pages : List Page) (bytes : List ℕ) → size ≤ 2 ^ 26 → ArePages tier before (page ∷ pages) → IsEncoded page bytes
    → size ≡ before.place + items_of (page ∷ pages) * item_size tier → Fits tier size (length pages) before (entry_of before.place page)
fits_of tier size before page pages bytes small are is whole =
    let entry : Entry = entry_of before.place page in
    let count = count_is before.place page in let some = are.1.some in let step_low = are.1.step in
    let most = page_most tier page bytes are.0 is.items in let ends = page_ends page bytes is.items (omega (arith, count, some)) in
    let last = last_is before.place page in let series = series_is before.place page in let step = step_is before.place page in let place = place_is before.place page in
    let series_top = is.series in let step_top = is.step in
    let rest = counted tier (after_entry tier entry) pages are.2 in
    let total : size ≡ before.place + (entry.count + items_of pages) * item_size tier =
    whole ∙ ap (λ (n : ℕ). before.place + (n + items_of pages) * item_size tier) (sym count) in
    let roomy = count_room tier size (length pages) before.place entry.count (items_of pages) total some rest in
    let few = few_enough tier size (length pages) before.place entry.count (items_of pages) total some rest (none_left pages) in
    let time = time_enough entry.first entry.step entry.count step_low (omega (arith, last, ends)) in
    let prefix : entry.first ≤ last_of entry = omega arith in
    let few_items : most_items tier ≤ 1024 = elim (item-cases tier) [ inl a ↦ (let e = a.2 in omega (arith, e)) | inr a ↦ (let e = a.2 in omega (arith, e)) ] in
    record {
      series = (are.1.series, omega (arith, series, series_top));
      first = (first_enough entry.series before.free entry.first before.series are.1.free, omega (arith, prefix, last, ends));
      step = (step_low, omega (arith, step, step_top));
      count = (few, omega (arith, roomy, time, most, count));
      small = omega (arith, few_items, most, count);
      place = place;
      place_small = omega (arith, place, whole, small);
    }

pub bytes_is : (tier place : ℕ) (page : Page) → bytes_of tier (entry_of place page) ≡ (entry_of 0 page).count * item_size tier
bytes_is tier place (Slots page) = refl
bytes_is tier place (Records page) = refl

says_directory : (tier size : ℕ) (before : Before) (pages : List Page) (items rest : List ℕ) (read : List Entry) → size ≤ 2 ^ 26 → ArePages tier before pages → AreItems pages items
    → size ≡ before.place + items_of pages * item_size tier → size ≤ 24 + 24 * (length read + length pages) + length rest
    → Says (directory_form tier size (length pages) before read) (directory_bytes (entries_of tier before.place pages) ++ rest) (read ++ entries_of tier before.place pages)
says_directory tier size before [] items rest read small are is whole long = (omega (arith, long), append-nil read)
says_directory tier size before (page ∷ pages) items rest read small are (prefix, behind, split, encoded, others) whole long =
    let entry : Entry = entry_of before.place page in
    let place = place_is before.place page in let count = count_is before.place page in
    let bytes = bytes_is tier before.place page in
    let next : Before = after_entry tier entry in
    let sum = add-mul (entry_of 0 page).count (items_of pages) (item_size tier) in
    let there : next.place ≡ before.place + bytes_of tier entry = ap (λ (n : ℕ). n + bytes_of tier entry) place in
    let left : size ≡ next.place + items_of pages * item_size tier = omega (arith, whole, sum, there, bytes) in
    let longer = length-append read (entry ∷ []) in
    let more : List ℕ = directory_bytes (entries_of tier (before.place + bytes_of tier entry) pages) in
    let said = says_directory tier size next pages behind rest (read ++ entry ∷ []) small are.2 others left (omega (arith, long, longer)) in
    let said_there = subst (λ (n : ℕ). Says (directory_form tier size (length pages) next (read ++ entry ∷ [])) (directory_bytes (entries_of tier n pages) ++ rest) ((read ++ entry ∷ []) ++ entries_of tier n pages)) there said in
    let said_all = subst (λ (l : List Entry). Says (directory_form tier size (length pages) next (read ++ entry ∷ [])) (more ++ rest) l) (append_assoc read (entry ∷ []) (entries_of tier (before.place + bytes_of tier entry) pages)) said_there in
    subst (λ (l : List ℕ). Says (directory_form tier size (length (page ∷ pages)) before read) l (read ++ entries_of tier before.place (page ∷ pages)))
    (sym (append_assoc (entry_bytes entry) more rest))
    (says_entry tier size (length pages) before (λ (e : Entry). directory_form tier size (length pages) (after_entry tier e) (read ++ e ∷ [])) entry (more ++ rest) (read ++ entries_of tier before.place (page ∷ pages))
    (fits_of tier size before page pages prefix small are encoded whole) said_all)

-- the whole extent of these pages, with these items
abbrev pub whole_bytes : ℕ → List Page → List ℕ → List ℕ
whole_bytes tier pages items =
    head_bytes tier (length pages) (extent_size tier pages) ++ (directory_bytes (entries_of tier (24 + 24 * length pages) pages) ++ items)

length-entry_bytes : (entry : Entry) → length (entry_bytes entry) ≡ 24
length-entry_bytes entry =
    let a = length-bytes_low_first 0 4 entry.series in let b = length-bytes_low_first 0 4 entry.first in let c = length-bytes_low_first 0 4 entry.step in
    let d = length-bytes_low_first 0 4 entry.count in let e = length-bytes_low_first 0 8 entry.place in
    grind (arith, length-append)

length-directory_bytes : (tier place : ℕ) (pages : List Page) → length (directory_bytes (entries_of tier place pages)) ≡ 24 * length pages
length-directory_bytes tier place [] = omega arith
length-directory_bytes tier place (page ∷ pages) =
    let entry : Entry = entry_of place page in
    let rest = length-directory_bytes tier (place + bytes_of tier entry) pages in
    let here = length-entry_bytes entry in
    let both = length-append (entry_bytes entry) (directory_bytes (entries_of tier (place + bytes_of tier entry) pages)) in
    omega (arith, rest, here, both)

length-head_bytes : (tier pages size : ℕ) → length (head_bytes tier pages size) ≡ 24
length-head_bytes tier pages size =
    let a = length-bytes_low_first 0 8 0x31305458_4541444E in let b = length-bytes_low_first 0 4 tier in let c = length-bytes_low_first 0 4 pages in
    let d = length-bytes_low_first 0 8 size in
    grind (arith, length-append)

hold_of : (tier : ℕ) (before : Before) (pages : List Page) (items prefix rest : List ℕ) → ArePages tier before pages → AreItems pages items → length prefix ≡ before.place
    → Hold tier before.place pages (prefix ++ (items ++ rest))
hold_of tier before [] items prefix rest are is long = tt
hold_of tier before (page ∷ pages) items prefix rest are (here, behind, split, encoded, others) long =
    let n : ℕ = bytes_of tier (entry_of before.place page) in
    let size : length here ≡ n = page_long tier page here are.0 encoded.items ∙ sym (bytes_is tier before.place page) in
    let tail : items ++ rest ≡ here ++ (behind ++ rest) = ap (λ (l : List ℕ). l ++ rest) split ∙ append_assoc here behind rest in
    let cut : drop before.place (prefix ++ (items ++ rest)) ≡ here ++ (behind ++ rest) = drop_at prefix (items ++ rest) before.place long ∙ tail in
    let mine : take n (drop before.place (prefix ++ (items ++ rest))) ≡ here = ap (take n) cut ∙ take_at here (behind ++ rest) n size in
    let place = place_is before.place page in
    let there : (after_entry tier (entry_of before.place page)).place ≡ before.place + n = ap (λ (k : ℕ). k + n) place in
    let longer : length (prefix ++ here) ≡ (after_entry tier (entry_of before.place page)).place = omega (arith, length-append prefix here, size, long, there) in
    let more = hold_of tier (after_entry tier (entry_of before.place page)) pages behind (prefix ++ here) rest are.2 others longer in
    let same : (prefix ++ here) ++ (behind ++ rest) ≡ prefix ++ (items ++ rest) = append_assoc prefix here (behind ++ rest) ∙ ap (λ (l : List ℕ). prefix ++ l) (sym tail) in (
      subst (IsItemsOf page) (sym mine) encoded.items,
      subst (λ (k : ℕ). Hold tier k pages (prefix ++ (items ++ rest))) there (subst (Hold tier (after_entry tier (entry_of before.place page)).place pages) same more),
    )

pages_fit : (tier slot size pages more : ℕ) → size ≡ 24 + 24 * pages + more * item_size tier → pages ≤ more → (pages ≡ 0 → more ≡ 0) → size ≤ slot → IsAllowed (pages_field tier slot size) pages
pages_fit tier slot size pages more whole enough ends fits =
    let item = item-some tier in
    let split = mul-add pages 24 (item_size tier) in
    let less = mul-le pages (item_size tier) more (item_size tier) enough (omega arith) in
    let room : pages ≤ (min size slot - 24) / (24 + item_size tier) =
    le-div pages (min size slot - 24) (24 + item_size tier) (omega (arith, item)) (omega (arith, whole, split, less, fits)) in (
      elim (cases_lt 24 size) [
        | inl long ↦ rw (lt-leb size 24 long) (elim (cases_eq pages 0) [
          | inl none ↦ absurd (let zero_items = ends none in let nothing : more * item_size tier ≡ 0 = ap (λ (n : ℕ). n * item_size tier) zero_items ∙ (omega arith) in omega (arith, whole, none, nothing, long))
          | inr other ↦ omega (arith, other)
        ])
        | inr short ↦ rw (le-leb size 24 short) (omega arith)
      ],
      room,
    )

pub extent_of : (tier slot : ℕ) (pages : List Page) (items more : List ℕ) → tier < 2 ^ 32 → ArePages tier (at_first (length pages)) pages → AreItems pages items
    → extent_size tier pages ≤ slot → slot ≤ 2 ^ 26 → IsExtentOf tier slot pages (whole_bytes tier pages items ++ more)
unfolding extent_form
extent_of tier slot pages items more tier_small are is fits small =
    let size : ℕ = extent_size tier pages in let n : ℕ = length pages in let first : ℕ = 24 + 24 * n in
    let m = little_bytes 8 0x31305458_4541444E in let t = little_bytes 4 tier in let p = little_bytes 4 n in let s = little_bytes 8 size in
    let directory = directory_bytes (entries_of tier first pages) in let rest = items ++ more in
    let long = items_long tier (at_first n) pages items are is in
    let counted_items = counted tier (at_first n) pages are in
    let apart : whole_bytes tier pages items ++ more ≡ m ++ (t ++ (p ++ (s ++ (directory ++ rest)))) =
    append_assoc (m ++ (t ++ (p ++ s))) (directory ++ items) more
    ∙ ap (λ (l : List ℕ). (m ++ (t ++ (p ++ s))) ++ l) (append_assoc directory items more)
    ∙ append_assoc m (t ++ (p ++ s)) (directory ++ rest)
    ∙ ap (λ (l : List ℕ). m ++ l) (append_assoc t (p ++ s) (directory ++ rest) ∙ ap (λ (l : List ℕ). t ++ l) (append_assoc p s (directory ++ rest))) in
    let said = says_directory tier size (at_first n) pages items rest [] (omega (arith, fits, small)) are is (omega arith) (omega (arith, length-append items more, long)) in
    let head_long = length-head_bytes tier n size in let directory_long = length-directory_bytes tier first pages in
    let prefix : List ℕ = head_bytes tier n size ++ directory in
    let prefix_long : length prefix ≡ first = omega (arith, length-append (head_bytes tier n size) directory, head_long, directory_long) in
    let held = hold_of tier (at_first n) pages items prefix more are is prefix_long in
    let same : prefix ++ rest ≡ whole_bytes tier pages items ++ more =
    append_assoc (head_bytes tier n size) directory rest
    ∙ ap (λ (l : List ℕ). head_bytes tier n size ++ l) (sym (append_assoc directory items more))
    ∙ sym (append_assoc (head_bytes tier n size) (directory ++ items) more) in
    record {
      says = subst (λ (l : List ℕ). Says (extent_form tier slot size) l (entries_of tier first pages)) (sym apart)
          (says_field (between 8 0x31305458_4541444E 0x31305458_4541444E) (λ _. after_mark tier slot size) 0x31305458_4541444E (t ++ (p ++ (s ++ (directory ++ rest)))) (entries_of tier first pages) (omega arith) (omega arith, omega arith)
          (says_field (between 4 tier tier) (λ _. after_tier tier slot size) tier (p ++ (s ++ (directory ++ rest))) (entries_of tier first pages) (omega (arith, tier_small)) (omega arith, omega arith)
          (says_field (pages_field tier slot size) (λ v. after_pages tier slot size v) n (s ++ (directory ++ rest)) (entries_of tier first pages) (omega (arith, fits, small)) (pages_fit tier slot size n (items_of pages) refl counted_items (none_left pages) fits)
          (says_field (between 8 (max size 24) (min size slot)) (λ _. after_size tier slot size n) size (directory ++ rest) (entries_of tier first pages) (omega (arith, fits, small)) (omega arith, omega (arith, fits)) said))));
      items = subst (Hold tier first pages) same held;
    }

pub whole_long : (tier : ℕ) (pages : List Page) (items : List ℕ) → ArePages tier (at_first (length pages)) pages → AreItems pages items → length (whole_bytes tier pages items) ≡ extent_size tier pages
whole_long tier pages items are is =
    let first : ℕ = 24 + 24 * length pages in
    let long = items_long tier (at_first (length pages)) pages items are is in
    let head = length-head_bytes tier (length pages) (extent_size tier pages) in let directory = length-directory_bytes tier first pages in
    omega (
      arith,
      long,
      head,
      directory,
      length-append (head_bytes tier (length pages) (extent_size tier pages)) (directory_bytes (entries_of tier first pages) ++ items),
      length-append (directory_bytes (entries_of tier first pages)) items,
    )

-- as it was written
pub written_whole : (tier size : ℕ) (pages : List Page) (out none seen list start bytes : List ℕ) → ArePages tier (at_first (length pages)) pages → AreItems pages bytes
    → none ≡ [] → start ≡ [] → list ≡ start ++ bytes → seen ≡ list → size ≡ 24 + 24 * length pages + length list
    → out ≡ none ++ (head_bytes tier (length pages) size ++ (directory_bytes (entries_of tier (24 + 24 * length pages) pages) ++ seen))
    → out ≡ whole_bytes tier pages bytes
written_whole tier size pages out none seen list start bytes are is e₁ e₂ e₃ e₄ e₅ e₆ =
    let list_is : list ≡ bytes = e₃ ∙ ap (λ (l : List ℕ). l ++ bytes) e₂ in
    let seen_is : seen ≡ bytes = e₄ ∙ list_is in
    let long = items_long tier (at_first (length pages)) pages bytes are is in
    let same_long = ap length list_is in
    let size_is : size ≡ extent_size tier pages = omega (arith, e₅, long, same_long) in
    e₆ ∙ ap (λ (l : List ℕ). l ++ (head_bytes tier (length pages) size ++ (directory_bytes (entries_of tier (24 + 24 * length pages) pages) ++ seen))) e₁
    ∙ ap (λ (k : ℕ). head_bytes tier (length pages) k ++ (directory_bytes (entries_of tier (24 + 24 * length pages) pages) ++ seen)) size_is
    ∙ ap (λ (l : List ℕ). head_bytes tier (length pages) (extent_size tier pages) ++ (directory_bytes (entries_of tier (24 + 24 * length pages) pages) ++ l)) seen_is

-- the same extent, by equal names
pub extent_moved : (tier same_tier slot same_slot : ℕ) (pages same_pages : List Page) (bytes same_bytes : List ℕ) → same_tier ≡ tier → same_slot ≡ slot → same_pages ≡ pages → same_bytes ≡ bytes
    → IsExtentOf same_tier same_slot same_pages same_bytes → IsExtentOf tier slot pages bytes
extent_moved tier same_tier slot same_slot pages same_pages bytes same_bytes e₁ e₂ e₃ e₄ is =
    subst (λ (l : List ℕ). IsExtentOf tier slot pages l) e₄
    (subst (λ (l : List Page). IsExtentOf tier slot l same_bytes) e₃
    (subst (λ (n : ℕ). IsExtentOf tier n same_pages same_bytes) e₂
    (subst (λ (n : ℕ). IsExtentOf n same_slot same_pages same_bytes) e₁ is)))
