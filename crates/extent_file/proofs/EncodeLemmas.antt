-- Bytes behind one another, entry by entry and page by page.
use Rattle.std.proofs.Common.{◌≡◌, ℕ, suc, ◌+◌, ◌*◌, ◌<◌, List, [], ◌∷◌, ◌++◌, length, take, drop, get_or, refl, sym, ap, ◌∙◌, subst, arith}
use Rattle.std.proofs.Math.Nat.{add-mul}
use Rattle.std.proofs.Math.Seq.{drop-cons}
use Rattle.std.proofs.lemmas.List.{append_assoc, append-nil, take_more}
use Rattle.extent_file.specs.declared.entry.Entry.{Entry}
use Rattle.extent_file.specs.declared.page.Page.{Page}
use Rattle.extent_file.specs.declared.page.Page.TheVariants.{Slots, Records}
use Rattle.extent_file.specs.Slot.{item_size}
use Rattle.extent_file.specs.Directory.{bytes_of}
use Rattle.extent_file.specs.Pages.{entry_of, items_of, entries_of}
use Rattle.extent_file.specs.Writing.{entry_bytes, directory_bytes, IsEncoded, AreItems}

pub four_on : (old p₁ p₂ p₃ new a b c d : List ℕ) → p₁ ≡ old ++ a → p₂ ≡ p₁ ++ b → p₃ ≡ p₂ ++ c → new ≡ p₃ ++ d → new ≡ old ++ (a ++ (b ++ (c ++ d)))
four_on old p₁ p₂ p₃ new a b c d e₁ e₂ e₃ e₄ =
    e₄ ∙ ap (λ (x : List ℕ). x ++ d) e₃ ∙ append_assoc p₂ c d
    ∙ ap (λ (x : List ℕ). x ++ (c ++ d)) e₂ ∙ append_assoc p₁ b (c ++ d)
    ∙ ap (λ (x : List ℕ). x ++ (b ++ (c ++ d))) e₁ ∙ append_assoc old a (b ++ (c ++ d))

pub five_on : (old p₁ p₂ p₃ p₄ new a b c d e : List ℕ) → p₁ ≡ old ++ a → p₂ ≡ p₁ ++ b → p₃ ≡ p₂ ++ c → p₄ ≡ p₃ ++ d → new ≡ p₄ ++ e
    → new ≡ old ++ (a ++ (b ++ (c ++ (d ++ e))))
five_on old p₁ p₂ p₃ p₄ new a b c d e e₁ e₂ e₃ e₄ e₅ =
    e₅ ∙ ap (λ (x : List ℕ). x ++ e) e₄ ∙ append_assoc p₃ d e
    ∙ ap (λ (x : List ℕ). x ++ (d ++ e)) e₃ ∙ append_assoc p₂ c (d ++ e)
    ∙ ap (λ (x : List ℕ). x ++ (c ++ (d ++ e))) e₂ ∙ append_assoc p₁ b (c ++ (d ++ e))
    ∙ ap (λ (x : List ℕ). x ++ (b ++ (c ++ (d ++ e)))) e₁ ∙ append_assoc old a (b ++ (c ++ (d ++ e)))

items-push : (pages : List Page) (bytes : List ℕ) (page : Page) (more : List ℕ) → AreItems pages bytes → IsEncoded page more → AreItems (pages ++ page ∷ []) (bytes ++ more)
items-push [] bytes page more none is =
    (more, [], ap (λ (l : List ℕ). l ++ more) none ∙ sym (append-nil more), is, refl)
items-push (first ∷ pages) bytes page more (prefix, rest, split, is_first, others) is =
    (prefix, rest ++ more, ap (λ (l : List ℕ). l ++ more) split ∙ append_assoc prefix rest more, is_first, items-push pages rest page more others is)

pub items-more : (pages : List Page) (i : ℕ) (d : Page) (start out new : List ℕ) → i < length pages
    → ((bytes : List ℕ) × (out ≡ start ++ bytes) × AreItems (take i pages) bytes)
    → ((more : List ℕ) × (new ≡ out ++ more) × IsEncoded (get_or pages i d) more)
    → (bytes : List ℕ) × (new ≡ start ++ bytes) × AreItems (take (i + 1) pages) bytes
items-more pages i d start out new within (bytes, was, are) (more, now, is) = (
  bytes ++ more,
  now ∙ ap (λ (l : List ℕ). l ++ more) was ∙ append_assoc start bytes more,
  subst (λ (l : List Page). AreItems l (bytes ++ more)) (sym (take_more pages i d within)) (items-push (take i pages) bytes (get_or pages i d) more are is),
)

pub entry_is : (place : ℕ) (page : Page) (entry : Entry) → entry.series ≡ (entry_of 0 page).series → entry.first ≡ (entry_of 0 page).first
    → entry.step ≡ (entry_of 0 page).step → entry.count ≡ (entry_of 0 page).count → entry.place ≡ place → entry ≡ entry_of place page
entry_is place (Slots page) entry e₁ e₂ e₃ e₄ e₅ = λ i. record { series = e₁ i; first = e₂ i; step = e₃ i; count = e₄ i; place = e₅ i }
entry_is place (Records page) entry e₁ e₂ e₃ e₄ e₅ = λ i. record { series = e₁ i; first = e₂ i; step = e₃ i; count = e₄ i; place = e₅ i }

pub count_is : (place : ℕ) (page : Page) → (entry_of place page).count ≡ (entry_of 0 page).count
count_is place (Slots page) = refl
count_is place (Records page) = refl

-- one page of those that are left
pub left_place : (tier place next : ℕ) (pages : List Page) (i : ℕ) (d : Page) → i < length pages → next ≡ place + bytes_of tier (entry_of place (get_or pages i d))
    → next + items_of (drop (i + 1) pages) * item_size tier ≡ place + items_of (drop i pages) * item_size tier
left_place tier place next pages i d within is =
    let page = get_or pages i d in
    let cut : drop i pages ≡ page ∷ drop (i + 1) pages = subst (λ (n : ℕ). drop i pages ≡ page ∷ drop n pages) (let e : suc i ≡ i + 1 = omega arith in e) (drop-cons pages i d within) in
    let count : items_of (drop i pages) ≡ (entry_of 0 page).count + items_of (drop (i + 1) pages) = ap items_of cut in
    let split = add-mul (entry_of 0 page).count (items_of (drop (i + 1) pages)) (item_size tier) in
    let same = ap (λ (n : ℕ). n * item_size tier) (count_is place page) in
    let whole = ap (λ (n : ℕ). n * item_size tier) count in
    omega (arith, is, split, same, whole)

pub left_bytes : (tier place next : ℕ) (pages : List Page) (i : ℕ) (d : Page) (entry : Entry) (out new : List ℕ) → i < length pages → entry ≡ entry_of place (get_or pages i d)
    → next ≡ place + bytes_of tier (entry_of place (get_or pages i d)) → new ≡ out ++ entry_bytes entry
    → new ++ directory_bytes (entries_of tier next (drop (i + 1) pages)) ≡ out ++ directory_bytes (entries_of tier place (drop i pages))
left_bytes tier place next pages i d entry out new within is moved more =
    let page = get_or pages i d in
    let cut : drop i pages ≡ page ∷ drop (i + 1) pages = subst (λ (n : ℕ). drop i pages ≡ page ∷ drop n pages) (let e : suc i ≡ i + 1 = omega arith in e) (drop-cons pages i d within) in
    let rest = λ (n : ℕ). directory_bytes (entries_of tier n (drop (i + 1) pages)) in
    ap (λ (l : List ℕ). l ++ rest next) more
    ∙ append_assoc out (entry_bytes entry) (rest next)
    ∙ ap (λ (e : Entry). out ++ (entry_bytes e ++ rest next)) is
    ∙ ap (λ (n : ℕ). out ++ (entry_bytes (entry_of place page) ++ rest n)) moved
    ∙ ap (λ (l : List Page). out ++ directory_bytes (entries_of tier place l)) (sym cut)
