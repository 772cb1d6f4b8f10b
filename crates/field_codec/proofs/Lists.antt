-- The laws of fields one after the other, of lists and of texts, made of the laws of their parts.
use Rattle.std.proofs.Common.{◌≡◌, ℕ, zero, suc, ◌+◌, ◌^◌, ◌<◌, List, [], ◌∷◌, ◌++◌, length, drop, Ok, Err, refl, sym, ap, subst, ◌∙◌, append_assoc}
use Rattle.std.specs.List.{flat_map, AllByRecursion}
use Rattle.std.specs.Str.{IsUtf8}
use Rattle.std.proofs.lemmas.List.{drop_at, get_or-drop}
use Rattle.std.proofs.lemmas.List.Concat.{flat_map-cons}
use Rattle.field_codec.specs.Field.{IsBytes, IsField}
use Rattle.field_codec.specs.Reading.{ReadOf, read_as, read_u32, read_text}
use Rattle.field_codec.specs.Spelling.{u32_bytes, text_bytes, list_bytes}
use Rattle.field_codec.proofs.Combined.{done, done_is, field_from, same_values, as_field, read_as-ok}
use Rattle.field_codec.proofs.Fields.{u32_field, text_field}
use Rattle.field_codec.specs.Lists.{◌>>◌, read_items, read_by, read_counted_items, read_list, IsListOf, IsShortListOf, IsText}

-- ---- one field after the other

IsBytes-rest : (prefix rest bytes : List ℕ) → bytes ≡ prefix ++ rest → IsBytes bytes → IsBytes rest
IsBytes-rest prefix rest bytes e fits =
    let at : drop (length prefix) bytes ≡ rest = ap (drop (length prefix)) e ∙ drop_at prefix rest (length prefix) refl in
    subst IsBytes at (λ place. rw get_or-drop (fits (length prefix + place)))

-- what was read first, and what was read then
then-ok : {X Y : Type 0} (first : ReadOf X) (second : List ℕ → ReadOf Y) (both : X × Y) (rest : List ℕ) → first >> second ≡ Ok (both, rest)
    → (after : List ℕ) × (first ≡ Ok (both.0, after)) × (second after ≡ Ok (both.1, rest))
then-ok {X} {Y} (Ok first) second both rest e =
    let found = read_as-ok (λ (value : Y). (first.0, value)) (second first.1) both rest e in
    (first.1, ap (λ (p : X × Y). done (p.0, first.1)) found.2, found.1 ∙ ap (λ (p : X × Y). done (p.1, rest)) found.2)
then-ok (Err fault) second both rest e = absurd cc

-- one field, and then another
infixl 10 ◌⊗◌
pub ◌⊗◌ : {X Y : Type 0} {V : X → Type 0} {W : Y → Type 0} {s : X → List ℕ} {t : Y → List ℕ} {r : List ℕ → ReadOf X} {q : List ℕ → ReadOf Y}
    → IsField V s r → IsField W t q → IsField (λ (p : X × Y). V p.0 × W p.1) (λ (p : X × Y). s p.0 ++ t p.1) (λ bytes. r bytes >> q)
◌⊗◌ {X} {Y} {V} {W} {s} {t} {r} {q} first second =
    field_from (λ (p : X × Y). V p.0 × W p.1) (λ (p : X × Y). s p.0 ++ t p.1) (λ bytes. r bytes >> q)
    (λ p rest fits. rw (append_assoc (s p.0) (t p.1) rest, first.reads_back p.0 (t p.1 ++ rest) fits.0, second.reads_back p.1 rest fits.1) refl)
    (λ bytes p rest fits e.
    let found = then-ok (r bytes) q p rest e in
    let prefix = first.is_spelt bytes p.0 found.0 fits found.1 in
    let after_fits = IsBytes-rest (s p.0) found.0 bytes prefix fits in (
      (first.has_spelling bytes p.0 found.0 fits found.1, second.has_spelling found.0 p.1 rest after_fits found.2),
      prefix ∙ ap (λ (after : List ℕ). s p.0 ++ after) (second.is_spelt found.0 p.1 rest after_fits found.2) ∙ sym (append_assoc (s p.0) (t p.1) rest),
    ))

-- what was read first, and what was read by it
by-ok : {X Y : Type 0} (first : ReadOf X) (second : X → List ℕ → ReadOf Y) (both : X × Y) (rest : List ℕ) → read_by first second ≡ Ok (both, rest)
    → (after : List ℕ) × (first ≡ Ok (both.0, after)) × (second both.0 after ≡ Ok (both.1, rest))
by-ok {X} {Y} (Ok first) second both rest e =
    let found = read_as-ok (λ (value : Y). (first.0, value)) (second first.0 first.1) both rest e in (
      first.1,
      ap (λ (p : X × Y). done (p.0, first.1)) found.2,
      subst (λ (p : X × Y). second p.0 first.1 ≡ Ok (p.1, rest)) found.2 found.1,
    )
by-ok (Err fault) second both rest e = absurd cc

-- one field, and then another that is read by it
pub by_field : {X Y : Type 0} (V : X → Type 0) (W : X → Y → Type 0) (s : X → List ℕ) (t : Y → List ℕ) (r : List ℕ → ReadOf X) (q : X → List ℕ → ReadOf Y)
    → IsField V s r → ((x : X) → IsField (W x) t (q x))
    → IsField (λ (p : X × Y). V p.0 × W p.0 p.1) (λ (p : X × Y). s p.0 ++ t p.1) (λ bytes. read_by (r bytes) q)
by_field {X} {Y} V W s t r q first second =
    field_from (λ (p : X × Y). V p.0 × W p.0 p.1) (λ (p : X × Y). s p.0 ++ t p.1) (λ bytes. read_by (r bytes) q)
    (λ p rest fits. rw (append_assoc (s p.0) (t p.1) rest, first.reads_back p.0 (t p.1 ++ rest) fits.0, (second p.0).reads_back p.1 rest fits.1) refl)
    (λ bytes p rest fits e.
    let found = by-ok (r bytes) q p rest e in
    let prefix = first.is_spelt bytes p.0 found.0 fits found.1 in
    let after_fits = IsBytes-rest (s p.0) found.0 bytes prefix fits in (
      (first.has_spelling bytes p.0 found.0 fits found.1, (second p.0).has_spelling found.0 p.1 rest after_fits found.2),
      prefix ∙ ap (λ (after : List ℕ). s p.0 ++ after) ((second p.0).is_spelt found.0 p.1 rest after_fits found.2) ∙ sym (append_assoc (s p.0) (t p.1) rest),
    ))

-- what is made of fields
pub made_of : {X Y : Type 0} {V : X → Type 0} {s : X → List ℕ} {r : List ℕ → ReadOf X} (W : Y → Type 0) (to : X → Y) (from : Y → X) → IsField V s r
    → ((x : X) → V x → W (to x) × (from (to x) ≡ x)) → ((y : Y) → W y → V (from y) × (to (from y) ≡ y))
    → IsField W (λ y. s (from y)) (λ bytes. read_as to (r bytes))
made_of {V = V} {s = s} {r = r} W to from field there back = as_field V W s r to from there back field

-- ---- lists

items_again : {X : Type 0} {V : X → Type 0} {s : X → List ℕ} {r : List ℕ → ReadOf X} (field : IsField V s r) (items : List X) (rest : List ℕ) → AllByRecursion V items
    → read_items r (length items) (flat_map s items ++ rest) ≡ Ok (items, rest)
unfolding read_items
items_again field [] rest fits = refl
items_again {s = s} {r = r} field (x ∷ items) rest fits =
    let regrouped : flat_map s (x ∷ items) ++ rest ≡ s x ++ (flat_map s items ++ rest) = ap (λ (bytes : List ℕ). bytes ++ rest) (flat_map-cons s x items) ∙ append_assoc (s x) (flat_map s items) rest in
    ap (read_items r (suc (length items))) regrouped ∙ rw (field.reads_back x (flat_map s items ++ rest) fits.0, items_again field items rest fits.1) refl

-- what so many items were read of
record AreItems {X : Type 0} (V : X → Type 0) (s : X → List ℕ) (count : ℕ) (bytes : List ℕ) (items : List X) (rest : List ℕ) : Type 0 where
  counted : length items ≡ count
  each : AllByRecursion V items
  spelt : bytes ≡ flat_map s items ++ rest

items_taken : {X : Type 0} {V : X → Type 0} {s : X → List ℕ} {r : List ℕ → ReadOf X} (field : IsField V s r) (count : ℕ) (bytes : List ℕ) (items : List X) (rest : List ℕ) → IsBytes bytes
    → read_items r count bytes ≡ Ok (items, rest) → AreItems V s count bytes items rest
unfolding read_items
items_taken {X} {V} {s} field zero bytes items rest fits e =
    subst (λ (read : List X × List ℕ). AreItems V s 0 bytes read.0 read.1) (done_is ([], bytes) (items, rest) e) (record { counted = refl; each = tt; spelt = refl })
items_taken {X} {V} {s} {r} field (suc count) bytes items rest fits e =
    let made = read_as-ok (λ (both : X × List X). both.0 ∷ both.1) (r bytes >> read_items r count) items rest e in
    let found = then-ok (r bytes) (read_items r count) made.0 rest made.1 in
    let x : X = made.0.0 in
    let others : List X = made.0.1 in
    let prefix : bytes ≡ s x ++ found.0 = field.is_spelt bytes x found.0 fits found.1 in
    let more = items_taken field count found.0 others rest (IsBytes-rest (s x) found.0 bytes prefix fits) found.2 in
    let spelt : bytes ≡ flat_map s (x ∷ others) ++ rest =
    prefix ∙ ap (λ (after : List ℕ). s x ++ after) more.spelt ∙ sym (append_assoc (s x) (flat_map s others) rest)
    ∙ ap (λ (all : List ℕ). all ++ rest) (sym (flat_map-cons s x others)) in
    subst (λ (read : List X). AreItems V s (suc count) bytes read rest) made.2
    (record { counted = ap suc more.counted; each = (field.has_spelling bytes x found.0 fits found.1, more.each); spelt = spelt })

-- so many items, with no count
pub items_field : {X : Type 0} {V : X → Type 0} {s : X → List ℕ} {r : List ℕ → ReadOf X} → IsField V s r → (count : ℕ)
    → IsField (IsListOf V count) (flat_map s) (read_items r count)
items_field {X} {V} {s} {r} field count =
    field_from (IsListOf V count) (flat_map s) (read_items r count)
    (λ items rest fits. ap (λ (n : ℕ). read_items r n (flat_map s items ++ rest)) (sym fits.count) ∙ items_again field items rest fits.each)
    (λ bytes items rest fits e.
    let taken = items_taken field count bytes items rest fits e in
    (record { count = taken.counted; each = taken.each }, taken.spelt))

-- the count that was read, and the bytes after it
counted_items-ok : {X : Type 0} (r : List ℕ → ReadOf X) (count : ReadOf ℕ) (items : List X) (rest : List ℕ) → read_counted_items r count ≡ Ok (items, rest)
    → (n : ℕ) × (after : List ℕ) × (count ≡ Ok (n, after)) × (read_items r n after ≡ Ok (items, rest))
counted_items-ok r (Ok count) items rest e = (count.0, count.1, refl, e)
counted_items-ok r (Err fault) items rest e = absurd cc

pub list_field : {X : Type 0} {V : X → Type 0} {s : X → List ℕ} {r : List ℕ → ReadOf X} → IsField V s r → IsField (IsShortListOf V) (list_bytes s) (read_list r)
unfolding list_bytes read_list
list_field {X} {V} {s} {r} field =
    field_from (IsShortListOf V) (list_bytes s) (read_list r)
    (λ items rest fits.
    rw (append_assoc (u32_bytes (length items)) (flat_map s items) rest, u32_field.reads_back (length items) (flat_map s items ++ rest) fits.count) (items_again field items rest fits.each))
    (λ bytes items rest fits e.
    let found = counted_items-ok r (read_u32 bytes) items rest e in
    let prefix : bytes ≡ u32_bytes found.0 ++ found.1 = u32_field.is_spelt bytes found.0 found.1 fits found.2 in
    let taken = items_taken field found.0 found.1 items rest (IsBytes-rest (u32_bytes found.0) found.1 bytes prefix fits) found.3 in
    let small : found.0 < 2 ^ 32 = u32_field.has_spelling bytes found.0 found.1 fits found.2 in (
      record { count = subst (λ (n : ℕ). n < 2 ^ 32) (sym taken.counted) small; each = taken.each },
      prefix ∙ ap (λ (after : List ℕ). u32_bytes found.0 ++ after) taken.spelt
          ∙ ap (λ (n : ℕ). u32_bytes n ++ (flat_map s items ++ rest)) (sym taken.counted)
          ∙ sym (append_assoc (u32_bytes (length items)) (flat_map s items) rest),
    ))

-- ---- texts

pub short_text_field : IsField IsText text_bytes read_text
short_text_field =
    same_values (λ text. (length text < 2 ^ 16) × IsUtf8 text) IsText text_bytes read_text
    (λ text fits. record { short = fits.0; utf8 = fits.1 })
    (λ text fits. (fits.short, fits.utf8))
    text_field
