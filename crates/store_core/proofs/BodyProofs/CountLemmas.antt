-- How many items the first of some pages have.
use Rattle.std.proofs.Common.{◌≡◌, ℕ, ◌+◌, ◌<◌, ◌≤◌, List, [], ◌∷◌, ◌++◌, length, drop, get_or, map, take, arith, sym, ap, ◌∙◌}
use Rattle.std.proofs.lemmas.List.{map_push, map-append, take_more, take-append-drop}
use Rattle.extent_file.specs.declared.page.Page.{Page}
use Rattle.extent_file.specs.Pages.{entry_of, items_of}

items-append : (xs ys : List Page) → items_of (xs ++ ys) ≡ items_of xs + items_of ys
items-append [] ys = omega arith
items-append (x ∷ xs) ys = let rest = items-append xs ys in omega (arith, rest)

module _ {X : Type 0} (page_of : X → Page) where
  -- one page more has its items more
  pub count-more : (xs : List X) (index : ℕ) (x : X) → index < length xs → x ≡ get_or xs index x
      → items_of (map page_of (take (index + 1) xs)) ≡ items_of (map page_of (take index xs)) + (entry_of 0 (page_of x)).count
  count-more xs index x lt is =
      let more : take (index + 1) xs ≡ take index xs ++ x ∷ [] = take_more xs index x lt ∙ ap (λ (one : X). take index xs ++ one ∷ []) (sym is) in
      let parts = ap (λ (list : List X). items_of (map page_of list)) more ∙ ap items_of (map_push page_of (take index xs) x) ∙ items-append (map page_of (take index xs)) (page_of x ∷ []) in
      omega (arith, parts)

  pub count-within : (xs : List X) (index : ℕ) → items_of (map page_of (take index xs)) ≤ items_of (map page_of xs)
  count-within xs index =
      let whole =
      ap (λ (list : List X). items_of (map page_of list)) (sym (take-append-drop index xs)) ∙ ap items_of (map-append page_of (take index xs) (drop index xs))
      ∙ items-append (map page_of (take index xs)) (map page_of (drop index xs)) in
      omega (arith, whole)
