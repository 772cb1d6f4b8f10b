-- What bytes say of an extent of a size: its entries stand one after the other, up to the size.
use Rattle.std.proofs.Common.{◌≡◌, ℕ, zero, suc, ◌+◌, ◌-◌, ◌*◌, ◌/◌, ◌<◌, ◌≤◌, leb, cond, List, [], ◌∷◌, ◌++◌, length, drop, refl, sym, ap, ◌∙◌, subst, inl, inr, arith}
use Rattle.std.proofs.Math.Nat.{add-mul, lt-mul-div-succ, mul_comm, mul-add}
use Rattle.std.proofs.lemmas.Bool.{cases_lt, cases_eq, lt-leb}
use Rattle.std.proofs.lemmas.List.{append_assoc, append-nil}
use Rattle.std.proofs.lemmas.Nat.{mul-le}
use Rattle.byteorder.specs.Endian.{little_number}
use Rattle.extent_file.specs.declared.entry.Entry.{Entry}
use Rattle.extent_file.specs.declared.entry.Before.{Before}
use Rattle.extent_file.specs.declared.page.Page.{Page}
use Rattle.extent_file.specs.Fields.{IsAllowed}
use Rattle.extent_file.specs.Form.{Says}
use Rattle.extent_file.specs.Slot.{item_size}
use Rattle.extent_file.specs.Directory.{at_first, after_entry, bytes_of, count_field, directory_form, extent_form, pages_field}
use Rattle.extent_file.specs.Pages.{entry_of, entries_of, items_of}
use Rattle.extent_file.proofs.SaysLemmas.{bytes_is, item-some}

-- the items of each entry begin where those of the one before end
abbrev pub AreJoined : ℕ → ℕ → List Entry → Type 0
AreJoined tier place [] = Unit {0}
AreJoined tier place (entry ∷ entries) = (entry.place ≡ place) × AreJoined tier (place + bytes_of tier entry) entries

-- where the items of the last entry end
abbrev pub end_of : ℕ → ℕ → List Entry → ℕ
end_of tier place [] = place
end_of tier place (entry ∷ entries) = end_of tier (place + bytes_of tier entry) entries

-- the last entry's items reach the end
last_reaches : (tier size place first step count : ℕ) → IsAllowed (count_field tier size 0 place first step) count → place + count * item_size tier ≡ size
last_reaches tier size place first step count allowed =
    let item = item-some tier in
    let low = allowed.0 in let high = allowed.1 in
    let left : ℕ = size - place in
    let most : count * item_size tier ≤ left = elim-most left count (item_size tier) (omega (arith, item)) (omega (arith, high)) in
    let least : left ≤ count * item_size tier = elim-least left count (item_size tier) (omega (arith, item)) (omega (arith, low)) in
    let some = mul-le 1 (item_size tier) count (item_size tier) (omega (arith, low)) (omega arith) in
    omega (arith, most, least, some, item)
  where
    elim-most : (left count unit : ℕ) → 0 < unit → count ≤ left / unit → count * unit ≤ left
    elim-most left count unit some less =
        let grown = mul-le count unit (left / unit) unit less (omega arith) in
        let e = mul_comm (left / unit) unit in
        omega (arith, grown, e)

    elim-least : (left count unit : ℕ) → 0 < unit → (left + (unit - 1)) / unit ≤ count → left ≤ count * unit
    elim-least left count unit some more =
        let above = lt-mul-div-succ (left + (unit - 1)) some in
        let split = mul-add unit ((left + (unit - 1)) / unit) 1 in
        let grown = mul-le ((left + (unit - 1)) / unit) unit count unit more (omega arith) in
        let e = mul_comm ((left + (unit - 1)) / unit) unit in
        omega (arith, above, split, grown, e, some)

-- so many entries after those that were read
record AreSaid (tier size left place : ℕ) (read entries : List Entry) : Type 0 where
  more : List Entry
  whole : entries ≡ read ++ more
  count : length more ≡ left
  joined : AreJoined tier place more
  reaches : 0 < left → end_of tier place more ≡ size

said_more : (tier size left place : ℕ) (read entries : List Entry) (entry : Entry) → entry.place ≡ place
    → (left ≡ 0 → place + bytes_of tier entry ≡ size)
    → AreSaid tier size left (entry.place + bytes_of tier entry) (read ++ entry ∷ []) entries
    → AreSaid tier size (suc left) place read entries
said_more tier size left place read entries entry there last rest =
    let next : entry.place + bytes_of tier entry ≡ place + bytes_of tier entry = ap (λ (n : ℕ). n + bytes_of tier entry) there in
    let size_of = rest.count in
    record {
      more = entry ∷ rest.more;
      whole = rest.whole ∙ append_assoc read (entry ∷ []) rest.more;
      count = omega (arith, size_of);
      joined = (there, subst (λ (n : ℕ). AreJoined tier n rest.more) next rest.joined);
      reaches = λ some.
          elim (cases_eq left 0) [
            | inl none ↦
                let nothing : end_of tier (place + bytes_of tier entry) rest.more ≡ place + bytes_of tier entry =
                none_more (place + bytes_of tier entry) rest.more (rest.count ∙ none) in
                nothing ∙ last none
            | inr other ↦ subst (λ (n : ℕ). end_of tier n rest.more ≡ size) next (rest.reaches (omega (arith, other)))
          ];
    }
  where
    none_more : (place : ℕ) (more : List Entry) → length more ≡ 0 → end_of tier place more ≡ place
    none_more place [] none = refl
    none_more place (entry ∷ more) none = absurd (omega (arith, none))

said_directory : (tier size left : ℕ) (before : Before) (read : List Entry) (bytes : List ℕ) (entries : List Entry)
    → Says (directory_form tier size left before read) bytes entries → AreSaid tier size left before.place read entries
said_directory tier size zero before read bytes entries said = record {
  more = [];
  whole = said.1 ∙ sym (append-nil read);
  count = refl;
  joined = tt;
  reaches = λ some. absurd (omega (arith, some));
}
said_directory tier size (suc left) before read bytes entries said =
    let after₁ = said.2 in let after₂ = after₁.2 in let after₃ = after₂.2 in let after₄ = after₃.2 in
    let bytes₁ = drop 4 bytes in let bytes₂ = drop 4 bytes₁ in let bytes₃ = drop 4 bytes₂ in let bytes₄ = drop 4 bytes₃ in
    let entry : Entry = record {
      series = little_number 4 bytes;
      first = little_number 4 bytes₁;
      step = little_number 4 bytes₂;
      count = little_number 4 bytes₃;
      place = little_number 8 bytes₄;
    } in
    let low = after₄.1.0 in let high = after₄.1.1 in
    let there : entry.place ≡ before.place = omega (arith, low, high) in
    said_more tier size left before.place read entries entry there
    (λ none. last_reaches tier size before.place entry.first entry.step entry.count
    (subst (λ (n : ℕ). IsAllowed (count_field tier size n before.place entry.first entry.step) entry.count) none after₃.1))
    (said_directory tier size left (after_entry tier entry) (read ++ entry ∷ []) (drop 8 bytes₄) entries after₄.2)

-- an extent with no page ends behind its head
empty_extent : (tier slot size pages : ℕ) → IsAllowed (pages_field tier slot size) pages → pages ≡ 0 → size ≤ 24
empty_extent tier slot size pages allowed none =
    elim (cases_lt 24 size) [
      | inl long ↦
          let low : cond (leb size 24) 0 1 ≤ pages = allowed.0 in
          let one : 1 ≤ pages = rw (lt-leb size 24 long) at low in
          absurd (omega (arith, one, none))
      | inr short ↦ short
    ]

pub said_extent : (tier slot size : ℕ) (bytes : List ℕ) (entries : List Entry) → Says (extent_form tier slot size) bytes entries
    → AreJoined tier (24 + 24 * length entries) entries × (end_of tier (24 + 24 * length entries) entries ≡ size)
unfolding extent_form
said_extent tier slot size bytes entries said =
    let after₁ = said.2 in let after₂ = after₁.2 in let after₃ = after₂.2 in
    let pages : ℕ = little_number 4 (drop 4 (drop 8 bytes)) in
    let all = said_directory tier size pages (at_first pages) [] (drop 8 (drop 4 (drop 4 (drop 8 bytes)))) entries after₃.2 in
    let size_low = after₃.1.0 in
    let count : length entries ≡ pages = ap length all.whole ∙ all.count in
    let there : 24 + 24 * pages ≡ 24 + 24 * length entries = omega (arith, count) in (
      subst (λ (n : ℕ). AreJoined tier n entries) there (subst (AreJoined tier (24 + 24 * pages)) (sym all.whole) all.joined),
      elim (cases_eq pages 0) [
        | inl none ↦
            let short = empty_extent tier slot size pages after₂.1 none in
            none_ends entries (count ∙ none) ∙ (omega (arith, short, size_low))
        | inr other ↦
            subst (λ (n : ℕ). end_of tier n entries ≡ size) there
            (subst (λ (l : List Entry). end_of tier (24 + 24 * pages) l ≡ size) (sym all.whole) (all.reaches (omega (arith, other))))
      ],
    )
  where
    none_ends : (entries : List Entry) → length entries ≡ 0 → end_of tier (24 + 24 * length entries) entries ≡ 24
    none_ends [] none = omega arith
    none_ends (entry ∷ entries) none = absurd (omega (arith, none))

-- where the items of pages end
pub pages_end : (tier place : ℕ) (pages : List Page) → end_of tier place (entries_of tier place pages) ≡ place + items_of pages * item_size tier
pages_end tier place [] = omega arith
pages_end tier place (page ∷ pages) =
    let rest = pages_end tier (place + bytes_of tier (entry_of place page)) pages in
    let here = bytes_is tier place page in
    let split = add-mul (entry_of 0 page).count (items_of pages) (item_size tier) in
    omega (arith, rest, here, split)
