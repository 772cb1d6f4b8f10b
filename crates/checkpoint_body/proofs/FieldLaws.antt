-- The law of each part of a body, made of the laws of its fields.
use Rattle.std.proofs.Common.{◌≡◌, ℕ, ◌^◌, ◌<◌, true, List, [], ◌∷◌, ◌++◌, flat_map, refl, sym, ap, ◌∙◌, append_assoc, arith}
use Rattle.std.specs.Prelude.{nat_eq}
use Rattle.std.specs.List.{AllByRecursion}
use Rattle.std.proofs.lemmas.Bool.{eqb-true}
use Rattle.std.proofs.lemmas.List.{append-nil}
use Rattle.std.proofs.lemmas.List.Concat.{flat_map-cons}
use Rattle.tier_settings.specs.declared.settings.Settings.{Settings}
use Rattle.tier_settings.specs.declared.tier.Tier.{Tier}
use Rattle.tier_settings.specs.Limits.{HasWidths}
use Rattle.tier_settings.specs.Settings.{tier_with}
use Rattle.field_codec.specs.declared.fault.FieldFault.TheVariants.{Range}
use Rattle.field_codec.specs.Field.{IsField}
use Rattle.field_codec.specs.Reading.{ReadOf, read_u8}
use Rattle.field_codec.specs.Spelling.{u8_bytes, u32_bytes, u64_bytes}
use Rattle.field_codec.proofs.Combined.{field_from, passing_field}
use Rattle.field_codec.proofs.Fields.{bytes_field, i128_field, u8_field, u32_field, u64_field}
use Rattle.field_codec.proofs.Lists.{◌⊗◌, list_field, made_of}
use Rattle.checkpoint_body.specs.Body.{body_bytes, body_from, extents_of, floors_of, read_fields, sealed_of, FitsBody}
use Rattle.checkpoint_body.specs.Fields.{each_bytes, extent_bytes, extent_of, of_tiers, open_record_bytes, open_record_of, quota_bytes, read_each, read_extent, read_open_record, read_quota, read_record, read_record_page, read_settings, read_slot_page, read_version, record_bytes, record_of, record_page_bytes, record_page_from, settings_bytes, settings_from, slot_page_bytes, slot_page_from, FitsExtent, FitsOpenRecord, FitsRecord, FitsRecordPage, FitsSettings, FitsSlotPage, IsEach, IsQuota}

-- another way to write the same spelling
pub same_spelling : {X : Type 0} (V : X → Type 0) (s t : X → List ℕ) (read : List ℕ → ReadOf X) → ((x : X) → V x → s x ≡ t x) → IsField V s read → IsField V t read
same_spelling V s t read same field =
    field_from V t read
    (λ x rest fits. ap (λ (bytes : List ℕ). read (bytes ++ rest)) (sym (same x fits)) ∙ field.reads_back x rest fits)
    (λ bytes x rest fits e.
    let has = field.has_spelling bytes x rest fits e in
    (has, field.is_spelt bytes x rest fits e ∙ ap (λ (prefix : List ℕ). prefix ++ rest) (same x has)))

-- ---- settings

version_field : IsField (λ version. (version < 2 ^ 8) × (nat_eq version 1 ≡ true)) u8_bytes read_version
unfolding read_version
version_field = passing_field (λ n. n < 2 ^ 8) u8_bytes read_u8 (λ version. nat_eq version 1) Range u8_field

pair_bytes : ℕ × ℕ → List ℕ
pair_bytes p = u32_bytes p.0 ++ u32_bytes p.1

pair_field : IsField (λ (p : ℕ × ℕ). (p.0 < 2 ^ 32) × (p.1 < 2 ^ 32)) pair_bytes read_quota
unfolding pair_bytes read_quota
pair_field = u32_field ⊗ u32_field

abbrev pair_of : Tier → ℕ × ℕ
pair_of t = (t.items, t.extents)

abbrev pairs_of : Settings → (((ℕ × ℕ) × (ℕ × ℕ)) × (ℕ × ℕ)) × (ℕ × ℕ)
pairs_of s = ((((1, s.id), pair_of (tier_with s 0)), pair_of (tier_with s 1)), pair_of (tier_with s 2))

abbrev pairs_bytes : Settings → List ℕ
pairs_bytes s =
    u8_bytes 1 ++ u64_bytes s.id ++ pair_bytes (pair_of (tier_with s 0)) ++ pair_bytes (pair_of (tier_with s 1)) ++ pair_bytes (pair_of (tier_with s 2))

-- settings that have the widths are made of their three tiers
data AreThree (id : ℕ) : List Tier → Type 0 where
  three : (a b c : Tier) → a.width ≡ 1 → b.width ≡ 60 → c.width ≡ 3600 → AreThree id (a ∷ b ∷ c ∷ [])

are_three : (id : ℕ) (tiers : List Tier) → HasWidths tiers → AreThree id tiers
are_three id [] has = absurd cc
are_three id (a ∷ []) has = absurd cc
are_three id (a ∷ b ∷ []) has = absurd cc
are_three id (a ∷ b ∷ c ∷ []) has = three a b c (cc) (cc) (cc)
are_three id (a ∷ b ∷ c ∷ d ∷ tiers) has = absurd cc

settings_with : ℕ → List Tier → Settings
settings_with id tiers = record { id = id; tiers = tiers }

-- the pairs of settings fit, and make the settings
pairs_back : (id : ℕ) (tiers : List Tier) → id < 2 ^ 64 → AreThree id tiers → AllByRecursion IsQuota tiers
    → (((((((1 < 2 ^ 8) × (nat_eq 1 1 ≡ true)) × (id < 2 ^ 64))
    × ((tier_with (settings_with id tiers) 0).items < 2 ^ 32 × (tier_with (settings_with id tiers) 0).extents < 2 ^ 32))
    × ((tier_with (settings_with id tiers) 1).items < 2 ^ 32 × (tier_with (settings_with id tiers) 1).extents < 2 ^ 32))
    × ((tier_with (settings_with id tiers) 2).items < 2 ^ 32 × (tier_with (settings_with id tiers) 2).extents < 2 ^ 32)))
    × (settings_from (pairs_of (settings_with id tiers)) ≡ settings_with id tiers)
unfolding settings_with
pairs_back id tiers small (three a b c first second third) quotas =
    let made : ℕ → ℕ → ℕ → Settings = λ u v w. settings_with id (record a { width = u } ∷ record b { width = v } ∷ record c { width = w } ∷ []) in (
      (((((omega arith, refl), small), (quotas.0.items, quotas.0.extents)), (quotas.1.0.items, quotas.1.0.extents)), (quotas.1.1.0.items, quotas.1.1.0.extents)),
      ap (λ (u : ℕ). made u 60 3600) (sym first) ∙ ap (λ (v : ℕ). made a.width v 3600) (sym second) ∙ ap (λ (w : ℕ). made a.width b.width w) (sym third),
    )

-- one tier after the other
spelt_three : (id : ℕ) (tiers : List Tier) → AreThree id tiers → pairs_bytes (settings_with id tiers) ≡ settings_bytes (settings_with id tiers)
unfolding settings_with settings_bytes quota_bytes pair_bytes
spelt_three id tiers (three a b c first second third) =
    let prefix = u8_bytes 1 ++ u64_bytes id in
    let all : flat_map quota_bytes (a ∷ b ∷ c ∷ []) ≡ quota_bytes a ++ (quota_bytes b ++ quota_bytes c) =
    flat_map-cons quota_bytes a (b ∷ c ∷ [])
    ∙ ap (λ (rest : List ℕ). quota_bytes a ++ rest)
    (flat_map-cons quota_bytes b (c ∷ []) ∙ ap (λ (rest : List ℕ). quota_bytes b ++ rest) (flat_map-cons quota_bytes c [] ∙ append-nil (quota_bytes c))) in
    append_assoc (prefix ++ quota_bytes a) (quota_bytes b) (quota_bytes c)
    ∙ append_assoc prefix (quota_bytes a) (quota_bytes b ++ quota_bytes c)
    ∙ ap (λ (rest : List ℕ). prefix ++ rest) (sym all)

pub settings_field : IsField FitsSettings settings_bytes read_settings
unfolding read_settings settings_with
settings_field =
    same_spelling FitsSettings pairs_bytes settings_bytes read_settings
    (λ s fits. spelt_three s.id s.tiers (are_three s.id s.tiers fits.widths))
    (made_of FitsSettings settings_from pairs_of (version_field ⊗ u64_field ⊗ pair_field ⊗ pair_field ⊗ pair_field)
    (λ x fits. (
      record {
        id = fits.0.0.0.1;
        widths = refl;
        quotas = (record { items = fits.0.0.1.0; extents = fits.0.0.1.1 }, (record { items = fits.0.1.0; extents = fits.0.1.1 }, (record { items = fits.1.0; extents = fits.1.1 }, tt)));
      },
      (let one = eqb-true x.0.0.0.0 1 fits.0.0.0.0.1 in rw one refl),
    ))
    (λ s fits. pairs_back s.id s.tiers fits.id (are_three s.id s.tiers fits.widths) fits.quotas))

-- ---- what a body has lists of

each_field : {X : Type 0} {V : X → Type 0} {s : X → List ℕ} {r : List ℕ → ReadOf X} → IsField V s r → IsField (IsEach V) (each_bytes s) (read_each r)
each_field {V = V} field =
    made_of (IsEach V) of_tiers (λ t. ((t.points, t.minutes), t.hours)) (field ⊗ field ⊗ field)
    (λ x fits. (record { points = fits.0.0; minutes = fits.0.1; hours = fits.1 }, refl))
    (λ t fits. (((fits.points, fits.minutes), fits.hours), refl))

pub record_field : IsField FitsRecord record_bytes read_record
unfolding record_bytes read_record
record_field =
    made_of FitsRecord record_of (λ r. ((((r.min, r.max), r.sum), r.count), r.anomalies)) (i128_field ⊗ i128_field ⊗ i128_field ⊗ u32_field ⊗ u32_field)
    (λ x fits. (record { min = fits.0.0.0.0; max = fits.0.0.0.1; sum = fits.0.0.1; count = fits.0.1; anomalies = fits.1 }, refl))
    (λ r fits. (((((fits.min, fits.max), fits.sum), fits.count), fits.anomalies), refl))

pub extent_field : IsField FitsExtent extent_bytes read_extent
unfolding extent_bytes read_extent
extent_field =
    made_of FitsExtent extent_of (λ e. ((((e.slot, e.serial), e.sealed_at), e.size), e.beats)) (u32_field ⊗ u64_field ⊗ u32_field ⊗ u64_field ⊗ u64_field)
    (λ x fits. (record { slot = fits.0.0.0.0; serial = fits.0.0.0.1; sealed_at = fits.0.0.1; size = fits.0.1; beats = fits.1 }, refl))
    (λ e fits. (((((fits.slot, fits.serial), fits.sealed_at), fits.size), fits.beats), refl))

pub open_record_field : IsField FitsOpenRecord open_record_bytes read_open_record
unfolding open_record_bytes read_open_record
open_record_field =
    made_of FitsOpenRecord open_record_of (λ o. ((o.series, o.start), o.value)) (u32_field ⊗ u32_field ⊗ record_field)
    (λ x fits. (record { series = fits.0.0; start = fits.0.1; value = fits.1 }, refl))
    (λ o fits. (((fits.series, fits.start), fits.value), refl))

pub slot_page_field : IsField FitsSlotPage slot_page_bytes read_slot_page
unfolding slot_page_bytes read_slot_page
slot_page_field =
    made_of FitsSlotPage slot_page_from (λ p. (((p.series, p.first), p.step), p.words)) (u32_field ⊗ u32_field ⊗ u32_field ⊗ list_field u32_field)
    (λ x fits. (record { series = fits.0.0.0; first = fits.0.0.1; step = fits.0.1; words = fits.1 }, refl))
    (λ p fits. ((((fits.series, fits.first), fits.step), fits.words), refl))

pub record_page_field : IsField FitsRecordPage record_page_bytes read_record_page
unfolding record_page_bytes read_record_page
record_page_field =
    made_of FitsRecordPage record_page_from (λ p. (((p.series, p.first), p.step), p.records)) (u32_field ⊗ u32_field ⊗ u32_field ⊗ list_field record_field)
    (λ x fits. (record { series = fits.0.0.0; first = fits.0.0.1; step = fits.0.1; records = fits.1 }, refl))
    (λ p fits. ((((fits.series, fits.first), fits.step), fits.records), refl))

pub body_field : IsField FitsBody body_bytes read_fields
unfolding body_bytes read_fields
body_field =
    made_of FitsBody body_from (λ b. ((((((((((((b.settings, b.count), b.last), floors_of b), b.points.before), sealed_of b), extents_of b), b.minutes.open_records), b.hours.open_records), b.points.pages), b.minutes.pages), b.hours.pages), b.side))
    (settings_field ⊗ u64_field ⊗ u32_field ⊗ each_field u32_field ⊗ u64_field ⊗ each_field u64_field ⊗ each_field (list_field extent_field) ⊗ list_field open_record_field ⊗ list_field open_record_field ⊗ list_field slot_page_field ⊗ list_field record_page_field ⊗ list_field record_page_field ⊗ bytes_field)
    (λ x fits. (record { settings = fits.0.0.0.0.0.0.0.0.0.0.0.0; count = fits.0.0.0.0.0.0.0.0.0.0.0.1; last = fits.0.0.0.0.0.0.0.0.0.0.1; floors = fits.0.0.0.0.0.0.0.0.0.1; before = fits.0.0.0.0.0.0.0.0.1; sealed = fits.0.0.0.0.0.0.0.1; extents = fits.0.0.0.0.0.0.1; open_minutes = fits.0.0.0.0.0.1; open_hours = fits.0.0.0.0.1; points = fits.0.0.0.1; minutes = fits.0.0.1; hours = fits.0.1; side = fits.1 }, refl))
    (λ b fits. (((((((((((((fits.settings, fits.count), fits.last), fits.floors), fits.before), fits.sealed), fits.extents), fits.open_minutes), fits.open_hours), fits.points), fits.minutes), fits.hours), fits.side), refl))
