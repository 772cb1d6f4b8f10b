-- How many bytes the parts of a body have, and the body at most.
use Rattle.std.proofs.Common.{◌≡◌, ℕ, zero, suc, ◌+◌, ◌*◌, ◌<◌, ◌≤◌, ◌%◌, Bool, true, cond, ◌&&◌, not, ◌==◌, ltb, leb, List, [], ◌∷◌, ◌++◌, length, map, flat_map, refl, ap, ◌∙◌, zero-add, arith, length-append}
use Rattle.std.specs.Prelude.{sum_by, count_by}
use Rattle.std.specs.List.{list_all}
use Rattle.std.proofs.Math.Nat.{mul-add}
use Rattle.std.proofs.lemmas.Bool.{and_parts, eqb-true, leb-true, ltb-true, ne_eqb}
use Rattle.std.proofs.lemmas.List.{length-map}
use Rattle.std.proofs.lemmas.List.Concat.{flat_map-cons}
use Rattle.std.proofs.lemmas.List.Folds.{list_all-map}
use Rattle.std.proofs.lemmas.List.Sums.{sum_by-cons}
use Rattle.fixed_num.specs.declared.units.Record.{Record}
use Rattle.tier_settings.specs.declared.settings.Settings.{Settings}
use Rattle.tier_settings.specs.declared.tier.Tier.{Tier}
use Rattle.tier_settings.specs.Limits.{HasWidths}
use Rattle.tier_settings.specs.Settings.{tier_with}
use Rattle.field_codec.specs.Spelling.{list_bytes, sized_bytes, u32_bytes, u64_bytes, u8_bytes}
use Rattle.field_codec.proofs.Lengths.{length-i128_bytes, length-list_bytes, length-sized_bytes, length-u32_bytes, length-u64_bytes, length-u8_bytes}
use Rattle.checkpoint_body.specs.declared.body.Body.{Body}
use Rattle.checkpoint_body.specs.declared.body.Extent.{Extent}
use Rattle.checkpoint_body.specs.declared.body.OpenRecord.{OpenRecord}
use Rattle.checkpoint_body.specs.declared.body.PointTier.{PointTier}
use Rattle.checkpoint_body.specs.declared.body.RecordTier.{RecordTier}
use Rattle.checkpoint_body.specs.declared.of_tiers.OfTiers.{OfTiers}
use Rattle.checkpoint_body.specs.declared.page.RecordPage.{RecordPage}
use Rattle.checkpoint_body.specs.declared.page.SlotPage.{SlotPage}
use Rattle.checkpoint_body.specs.Body.{body_bytes, extents_of, floors_of, sealed_of, HasSpelling}
use Rattle.checkpoint_body.specs.Canonical.{are_few, are_in_order, are_open, ends_in_time, is_ascending, is_point_tier, is_record_page, is_record_tier, is_series, is_slot_page, point_count, record_count, record_span, slot_span}
use Rattle.page_buffer.specs.Slots.{spaced}
use Rattle.checkpoint_body.specs.Fields.{each_bytes, extent_bytes, open_record_bytes, quota_bytes, record_bytes, record_page_bytes, settings_bytes, slot_page_bytes}
use Rattle.checkpoint_body.specs.Size.{body_limit, point_tier_limit, record_tier_limit}

-- ---- lists of items

-- items of one length
flat-each : {X : Type 0} (bytes : X → List ℕ) (size : ℕ) → ((x : X) → length (bytes x) ≡ size) → (items : List X) → length (flat_map bytes items) ≡ size * length items
flat-each bytes size each [] = omega arith
flat-each bytes size each (x ∷ items) =
    let rest = flat-each bytes size each items in
    let more : size * length (x ∷ items) ≡ size + size * length items = omega arith in
    omega (arith, rest, more, each x, ap length (flat_map-cons bytes x items), length-append (bytes x) (flat_map bytes items))

-- items that pass a test have so many bytes for each unit of their weight, at most
flat-within : {X : Type 0} (bytes : X → List ℕ) (test : X → Bool) (weight : X → ℕ) (most : ℕ)
    → ((x : X) → test x ≡ true → length (bytes x) ≤ most * weight x)
    → (items : List X) → list_all test items ≡ true → length (flat_map bytes items) ≤ most * sum_by weight items
flat-within bytes test weight most each [] all = omega arith
flat-within bytes test weight most each (x ∷ items) all =
    let parts = and_parts (test x) (list_all test items) all in
    let rest = flat-within bytes test weight most each items parts.1 in
    let more : most * sum_by weight (x ∷ items) ≡ most * weight x + most * sum_by weight items =
    ap (λ (n : ℕ). most * n) (sum_by-cons weight x items) ∙ mul-add most (weight x) (sum_by weight items) in
    omega (arith, rest, more, each x parts.0, ap length (flat_map-cons bytes x items), length-append (bytes x) (flat_map bytes items))

-- ---- the parts

length-each_bytes : {X : Type 0} (spelling : X → List ℕ) (t : OfTiers X)
    → length (each_bytes spelling t) ≡ length (spelling t.points) + length (spelling t.minutes) + length (spelling t.hours)
length-each_bytes spelling t =
    omega (arith, length-append (spelling t.points ++ spelling t.minutes) (spelling t.hours), length-append (spelling t.points) (spelling t.minutes))

length-quota_bytes : (tier : Tier) → length (quota_bytes tier) ≡ 8
unfolding quota_bytes
length-quota_bytes tier =
    omega (arith, length-append (u32_bytes tier.items) (u32_bytes tier.extents), length-u32_bytes tier.items, length-u32_bytes tier.extents)

length-settings_bytes : (set : Settings) → HasWidths set.tiers → length (settings_bytes set) ≡ 33
unfolding settings_bytes
length-settings_bytes set has =
    let count : length set.tiers ≡ 3 = omega (arith, ap length has, length-map set.tiers (λ (tier : Tier). tier.width)) in
    omega (
      arith,
      count,
      length-append (u8_bytes 1 ++ u64_bytes set.id) (flat_map quota_bytes set.tiers),
      length-append (u8_bytes 1) (u64_bytes set.id),
      length-u8_bytes 1,
      length-u64_bytes set.id,
      flat-each quota_bytes 8 length-quota_bytes set.tiers,
    )

length-extent_bytes : (extent : Extent) → length (extent_bytes extent) ≡ 32
unfolding extent_bytes
length-extent_bytes e =
    simp (length-append, length-u32_bytes, length-u64_bytes) refl

length-record_bytes : (r : Record) → length (record_bytes r) ≡ 56
unfolding record_bytes
length-record_bytes r = simp (length-append, length-u32_bytes, length-i128_bytes) refl

length-open_record_bytes : (one : OpenRecord) → length (open_record_bytes one) ≡ 64
unfolding open_record_bytes
length-open_record_bytes one = simp (length-append, length-u32_bytes, length-record_bytes) refl

-- ---- pages

-- how many slots are not empty
abbrev some_slots : List ℕ → ℕ
some_slots words = count_by (λ word. not (word == 0)) words

some_slots-zero : (words : List ℕ) → some_slots (zero ∷ words) ≡ some_slots words
some_slots-zero words = sum_by-cons (λ word. cond (not (word == 0)) 1 0) zero words ∙ zero-add (some_slots words)

some_slots-suc : (word : ℕ) (words : List ℕ) → some_slots (suc word ∷ words) ≡ 1 + some_slots words
some_slots-suc word words =
    sum_by-cons (λ word. cond (not (word == 0)) 1 0) (suc word) words
    ∙ ap (λ (none : Bool). cond (not none) 1 0 + some_slots words) (ne_eqb (suc word) 0 (λ e. omega (arith, e)))

-- at most six slots are empty before each that is not
spaced-slots : (empty : ℕ) (words : List ℕ) → empty ≤ 6 → spaced empty words ≡ true → empty + length words ≤ 7 * some_slots words
spaced-slots empty [] few is = omega (arith, eqb-true empty 0 is)
spaced-slots empty (zero ∷ words) few is =
    let parts = and_parts (ltb empty 6) (spaced (empty + 1) words) is in
    let less = ltb-true empty 6 parts.0 in
    let rest = spaced-slots (empty + 1) words (omega (arith, less)) parts.1 in
    omega (arith, rest, some_slots-zero words)
spaced-slots empty (suc word ∷ words) few is =
    let rest = spaced-slots 0 words (omega arith) is in
    omega (arith, rest, some_slots-suc word words)

length-slot_page_bytes : (page : SlotPage) → length (slot_page_bytes page) ≡ 16 + 4 * length page.words
unfolding slot_page_bytes
length-slot_page_bytes page =
    let words = flat-each u32_bytes 4 length-u32_bytes page.words in
    simp (length-append, length-u32_bytes, length-list_bytes) (omega (arith, words))

length-record_page_bytes : (page : RecordPage) → length (record_page_bytes page) ≡ 16 + 56 * length page.records
unfolding record_page_bytes
length-record_page_bytes page =
    let records = flat-each record_bytes 56 length-record_bytes page.records in
    simp (length-append, length-u32_bytes, length-list_bytes) (omega (arith, records))

-- a page's head costs no more than the slots that may be empty before its first point
slot_page-within : (page : SlotPage) → is_slot_page page ≡ true → length (slot_page_bytes page) ≤ 28 * some_slots page.words
slot_page-within page is =
    let first : Bool = leb (length page.words) 1024 && ltb 0 page.step in
    let second : Bool = spaced 6 page.words in
    let last = and_parts (first && second) (ends_in_time (slot_span page)) is in
    let prefix = and_parts first second last.0 in
    omega (arith, length-slot_page_bytes page, spaced-slots 6 page.words (omega arith) prefix.1)

record_page-within : (width : ℕ) (page : RecordPage) → is_record_page width page ≡ true → length (record_page_bytes page) ≤ 72 * length page.records
record_page-within width page is =
    let a : Bool = ltb 0 (length page.records) in
    let b : Bool = leb (length page.records) 73 in
    let c : Bool = page.step == width in
    let d : Bool = ltb 0 page.step in
    let e : Bool = page.first % page.step == 0 in
    let five = and_parts (a && b && c && d && e) (ends_in_time (record_span page)) is in
    let four = and_parts (a && b && c && d) e five.0 in
    let three = and_parts (a && b && c) d four.0 in
    let two = and_parts (a && b) c three.0 in
    let one = and_parts a b two.0 in
    omega (arith, length-record_page_bytes page, ltb-true 0 (length page.records) one.0)

-- ---- lists

extents-within : (tier : Tier) (extents : List Extent) → are_few tier extents ≡ true → length (list_bytes extent_bytes extents) ≤ 4 + 32 * tier.extents
extents-within tier extents few =
    omega (arith, length-list_bytes extent_bytes extents, flat-each extent_bytes 32 length-extent_bytes extents, leb-true (length extents) tier.extents few)

-- numbers that rise and are below a limit are at most so many
rising-count : (limit one : ℕ) (others : List ℕ) → list_all (λ n. ltb n limit) (one ∷ others) ≡ true → is_ascending (one ∷ others) ≡ true → one + length others < limit
rising-count limit one [] below rise = omega (arith, ltb-true one limit (and_parts (ltb one limit) true below).0)
rising-count limit one (next ∷ others) below rise =
    let later = (and_parts (ltb one limit) (list_all (λ n. ltb n limit) (next ∷ others)) below).1 in
    let parts = and_parts (ltb one next) (is_ascending (next ∷ others)) rise in
    omega (arith, ltb-true one next parts.0, rising-count limit next others later parts.1)

rising-few : (limit : ℕ) (numbers : List ℕ) → list_all (λ n. ltb n limit) numbers ≡ true → is_ascending numbers ≡ true → length numbers ≤ limit
rising-few limit [] below rise = omega arith
rising-few limit (one ∷ others) below rise = omega (arith, rising-count limit one others below rise)

open_records-within : (records : List OpenRecord) → are_open records ≡ true → length (list_bytes open_record_bytes records) ≤ 4 + 64 * 65536
open_records-within records are =
    let series = map (λ (one : OpenRecord). one.series) records in
    let parts = and_parts (list_all is_series records) (is_ascending series) are in
    let below : list_all (λ n. ltb n 65536) series ≡ true = list_all-map (λ n. ltb n 65536) (λ (one : OpenRecord). one.series) records ∙ parts.0 in
    let few = rising-few 65536 series below parts.1 in
    omega (arith, length-list_bytes open_record_bytes records, flat-each open_record_bytes 64 length-open_record_bytes records, few, length-map records (λ (one : OpenRecord). one.series))

-- ---- tiers

points-within : (tier : Tier) (kept : PointTier) → is_point_tier tier kept ≡ true
    → length (list_bytes extent_bytes kept.extents) + length (list_bytes slot_page_bytes kept.pages) ≤ 8 + point_tier_limit tier
points-within tier kept is =
    let a : Bool = are_few tier kept.extents in
    let b : Bool = list_all is_slot_page kept.pages in
    let c : Bool = are_in_order (map slot_span kept.pages) in
    let three = and_parts (a && b && c) (ltb (point_count kept.pages) tier.items) is in
    let two = and_parts (a && b) c three.0 in
    let one = and_parts a b two.0 in
    let pages : length (flat_map slot_page_bytes kept.pages) ≤ 28 * point_count kept.pages =
    flat-within slot_page_bytes is_slot_page (λ (page : SlotPage). some_slots page.words) 28 slot_page-within kept.pages one.1 in
    let few = ltb-true (point_count kept.pages) tier.items three.1 in
    omega (arith, extents-within tier kept.extents one.0, length-list_bytes slot_page_bytes kept.pages, pages, few)

records-within : (tier : Tier) (kept : RecordTier) → is_record_tier tier kept ≡ true
    → length (list_bytes extent_bytes kept.extents) + length (list_bytes open_record_bytes kept.open_records) + length (list_bytes record_page_bytes kept.pages) ≤ 12 + record_tier_limit tier
records-within tier kept is =
    let a : Bool = are_few tier kept.extents in
    let b : Bool = are_open kept.open_records in
    let c : Bool = list_all (is_record_page tier.width) kept.pages in
    let d : Bool = are_in_order (map record_span kept.pages) in
    let four = and_parts (a && b && c && d) (ltb (record_count kept.pages) tier.items) is in
    let three = and_parts (a && b && c) d four.0 in
    let two = and_parts (a && b) c three.0 in
    let one = and_parts a b two.0 in
    let pages : length (flat_map record_page_bytes kept.pages) ≤ 72 * record_count kept.pages =
    flat-within record_page_bytes (is_record_page tier.width) (λ (page : RecordPage). length page.records) 72 (record_page-within tier.width) kept.pages two.1 in
    let few = ltb-true (record_count kept.pages) tier.items four.1 in
    omega (arith, extents-within tier kept.extents one.0, open_records-within kept.open_records one.1, length-list_bytes record_page_bytes kept.pages, pages, few)

-- ---- the body

-- thirteen parts, one after the other
body_parts : (a b c d e f g h i j k l m : List ℕ) → length b ≡ 8 → length c ≡ 4 → length d ≡ 12 → length e ≡ 8 → length f ≡ 24
    → length (a ++ b ++ c ++ d ++ e ++ f ++ g ++ h ++ i ++ j ++ k ++ l ++ m)
    ≡ length a + 56 + length g + length h + length i + length j + length k + length l + length m
body_parts a b c d e f g h i j k l m count last floors before sealed = simp length-append (omega arith)

-- what a body has beside its tiers
length-body_bytes : (b : Body) → length (body_bytes b)
    ≡ length (settings_bytes b.settings) + 56
    + length (each_bytes (list_bytes extent_bytes) (extents_of b))
    + length (list_bytes open_record_bytes b.minutes.open_records) + length (list_bytes open_record_bytes b.hours.open_records)
    + length (list_bytes slot_page_bytes b.points.pages)
    + length (list_bytes record_page_bytes b.minutes.pages) + length (list_bytes record_page_bytes b.hours.pages)
    + length (sized_bytes b.side)
unfolding body_bytes
length-body_bytes b =
    let floors : length (each_bytes u32_bytes (floors_of b)) ≡ 12 =
    length-each_bytes u32_bytes (floors_of b) ∙ simp length-u32_bytes in
    let sealed : length (each_bytes u64_bytes (sealed_of b)) ≡ 24 =
    length-each_bytes u64_bytes (sealed_of b) ∙ simp length-u64_bytes in
    body_parts
    (settings_bytes b.settings) (u64_bytes b.count) (u32_bytes b.last) (each_bytes u32_bytes (floors_of b)) (u64_bytes b.points.before) (each_bytes u64_bytes (sealed_of b))
    (each_bytes (list_bytes extent_bytes) (extents_of b)) (list_bytes open_record_bytes b.minutes.open_records) (list_bytes open_record_bytes b.hours.open_records)
    (list_bytes slot_page_bytes b.points.pages) (list_bytes record_page_bytes b.minutes.pages) (list_bytes record_page_bytes b.hours.pages) (sized_bytes b.side)
    (length-u64_bytes b.count) (length-u32_bytes b.last) floors (length-u64_bytes b.points.before) sealed

-- a body has at most the bytes that its settings and its side allow
pub body-within : (b : Body) → HasSpelling b → length (body_bytes b) ≤ body_limit b.settings (length b.side)
body-within b has =
    omega (
      arith,
      length-body_bytes b,
      length-settings_bytes b.settings has.settings.widths,
      length-each_bytes (list_bytes extent_bytes) (extents_of b),
      length-sized_bytes b.side,
      points-within (tier_with b.settings 0) b.points has.points,
      records-within (tier_with b.settings 1) b.minutes has.minutes,
      records-within (tier_with b.settings 2) b.hours has.hours,
    )
