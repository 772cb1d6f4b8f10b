-- What holds of the pages of items, whatever the pages are.
use Rattle.std.proofs.Common.{◌≡◌, ℕ, ◌+◌, ◌*◌, ◌≤◌, List, [], ◌∷◌, ◌++◌, length, flat_map, Option, Some, None, refl, ap, sym, subst, ◌∙◌, append_assoc, arith}
use Rattle.std.specs.Prelude.{sum_by}
use Rattle.std.specs.Option.{option_map_or}
use Rattle.std.specs.List.{AllByRecursion}
use Rattle.std.proofs.lemmas.List.Sums.{sum_by-cons}
use Rattle.std.proofs.lemmas.List.Concat.{flat_map-cons}
use Rattle.checkpoint_body.specs.Pages.{pages_from, pages_of}

module _ {Page Item : Type 0} (added : Page → Item → Option Page) (begun : Item → Page) where
  -- the pages after an item, and the next page where there is one
  abbrev pages_next : Page → Item → List Item → Option Page → List Page
  pages_next page item items next =
      option_map_or (λ more. pages_from added begun more items) next (page ∷ pages_from added begun (begun item) items)

  module _ (items_in : Page → List Item) (IsItem : Item → Type 0)
      (of_begun : (item : Item) → IsItem item → items_in (begun item) ≡ item ∷ [])
      (of_added : (page : Page) (item : Item) (more : Page) → IsItem item → added page item ≡ Some more → items_in more ≡ items_in page ++ item ∷ []) where
    items-next : (page : Page) (item : Item) (items : List Item) → IsItem item
        → ((behind : Page) → flat_map items_in (pages_from added begun behind items) ≡ items_in behind ++ items)
        → (next : Option Page) → added page item ≡ next
        → flat_map items_in (pages_next page item items next) ≡ items_in page ++ item ∷ items
    items-next page item items are behind (Some more) is =
        behind more ∙ ap (λ (prefix : List Item). prefix ++ items) (of_added page item more are is) ∙ append_assoc (items_in page) (item ∷ []) items
    items-next page item items are behind None is =
        flat_map-cons items_in page (pages_from added begun (begun item) items)
        ∙ ap (λ (rest : List Item). items_in page ++ rest) (behind (begun item) ∙ ap (λ (prefix : List Item). prefix ++ items) (of_begun item are))

    items-pages_from : (page : Page) (items : List Item) → AllByRecursion IsItem items → flat_map items_in (pages_from added begun page items) ≡ items_in page ++ items
    items-pages_from page [] are = flat_map-cons items_in page []
    items-pages_from page (item ∷ items) are =
        items-next page item items are.0 (λ behind. items-pages_from behind items are.1) (added page item) refl

    -- the pages give the items back
    pub items-pages_of : (items : List Item) → AllByRecursion IsItem items → flat_map items_in (pages_of added begun items) ≡ items
    items-pages_of [] are = refl
    items-pages_of (item ∷ items) are =
        items-pages_from (begun item) items are.1 ∙ ap (λ (prefix : List Item). prefix ++ items) (of_begun item are.0)

  module _ (size : Page → ℕ) (most : ℕ)
      (of_begun : (item : Item) → size (begun item) ≤ most)
      (of_added : (page : Page) (item : Item) (more : Page) → added page item ≡ Some more → size more ≤ size page + most) where
    size-next : (page : Page) (item : Item) (items : List Item)
        → ((behind : Page) → sum_by size (pages_from added begun behind items) ≤ size behind + most * length items)
        → (next : Option Page) → added page item ≡ next
        → sum_by size (pages_next page item items next) ≤ size page + most * (length items + 1)
    size-next page item items behind (Some more) is = omega (arith, behind more, of_added page item more is)
    size-next page item items behind None is =
        let both : size page + sum_by size (pages_from added begun (begun item) items) ≤ size page + most * (length items + 1) =
        omega (arith, behind (begun item), of_begun item) in
        subst (λ (sum : ℕ). sum ≤ size page + most * (length items + 1)) (sym (sum_by-cons size page (pages_from added begun (begun item) items))) both

    size-pages_from : (page : Page) (items : List Item) → sum_by size (pages_from added begun page items) ≤ size page + most * length items
    size-pages_from page [] = omega arith
    size-pages_from page (item ∷ items) =
        let next = size-next page item items (λ behind. size-pages_from behind items) (added page item) refl in
        omega (arith, next)

    -- no item costs more than the most
    pub size-pages_of : (items : List Item) → sum_by size (pages_of added begun items) ≤ most * length items
    size-pages_of [] = omega arith
    size-pages_of (item ∷ items) = let rest = size-pages_from (begun item) items in let first = of_begun item in omega (arith, rest, first)
