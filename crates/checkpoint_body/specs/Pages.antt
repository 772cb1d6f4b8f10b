-- Items cut into pages, one after the other.
use Rattle.std.specs.Prelude.{List, [], ◌∷◌, Option}
use Rattle.std.specs.Option.{option_map_or}

-- Each item goes into the last page, where `added` gives that page with it, else it begins one.
abbrev pub pages_from : {Page Item : Type 0} → (Page → Item → Option Page) → (Item → Page) → Page → List Item → List Page
pages_from added begun page [] = page ∷ []
pages_from added begun page (item ∷ items) =
    option_map_or (λ more. pages_from added begun more items) (added page item) (page ∷ pages_from added begun (begun item) items)

abbrev pub pages_of : {Page Item : Type 0} → (Page → Item → Option Page) → (Item → Page) → List Item → List Page
pages_of added begun [] = []
pages_of added begun (item ∷ items) = pages_from added begun (begun item) items
