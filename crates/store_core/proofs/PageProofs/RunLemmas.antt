-- What holds of the pages of items that stand in the order of their series, then moments.
use Rattle.std.proofs.Common.{◌≡◌, ℕ, ◌+◌, ◌<◌, ◌≤◌, ◌⊎◌, ◌&&◌, ◌||◌, ◌==◌, ltb, true, List, [], ◌∷◌, length, Option, Some, None, refl, inl, inr, arith}
use Rattle.std.specs.Option.{option_map_or}
use Rattle.std.specs.List.{AllByRecursion}
use Rattle.std.proofs.lemmas.Bool.{and_from, cases_lt, eq-eqb, lt-ltb, or_left, or_right}
use Rattle.checkpoint_body.specs.Pages.{pages_from, pages_of}

-- the moments of a series that a page has
pub record Span : Type 0 where
  pub series : ℕ
  pub first : ℕ
  pub end : ℕ

-- what a page leaves to the next: its series, and the first moment after its end
pub record Left : Type 0 where
  pub series : ℕ
  pub free : ℕ

abbrev pub left_by : Span → Left
left_by span = record { series = span.series; free = span.end + 1 }

-- a page may follow
pub record MayCome (left : Left) (span : Span) : Type 0 where
  pub series : left.series ≤ span.series
  pub free : span.series ≡ left.series → left.free ≤ span.first

-- a page that may follow begins behind the end of the one before, or is of a later series
pub is_behind : (one next : Span) → MayCome (left_by one) next → (ltb one.series next.series || (one.series == next.series && ltb one.end next.first)) ≡ true
is_behind one next come = by (cases_lt one.series next.series)
  where
    by : (one.series < next.series) ⊎ (next.series ≤ one.series) → (ltb one.series next.series || (one.series == next.series && ltb one.end next.first)) ≡ true
    by (inl below) = or_left _ _ (lt-ltb one.series next.series below)
    by (inr above) =
        let same : next.series ≡ one.series = omega (arith, come.series) in
        let free = come.free same in
        or_right _ _ (and_from _ _ (eq-eqb one.series next.series (omega arith)) (lt-ltb one.end next.first (omega (arith, free))))

-- ---- pages, one after the other

module _ {Page : Type 0} (span : Page → Span) (IsPage : Page → Type 0) where
  -- each page has its form, and may follow the one before
  abbrev pub AreRun : Left → List Page → Type 0
  AreRun left [] = Unit {0}
  AreRun left (page ∷ pages) = MayCome left (span page) × IsPage page × AreRun (left_by (span page)) pages

  pub run-all : (left : Left) (pages : List Page) → AreRun left pages → AllByRecursion IsPage pages
  run-all left [] run = tt
  run-all left (page ∷ pages) run = (run.1, run-all (left_by (span page)) pages run.2)

-- ---- items, one after the other

module _ {Item : Type 0} (series moment : Item → ℕ) (IsItem : Item → Type 0) where
  -- an item comes behind another, in its series or in a later one
  abbrev pub Precedes : Item → Item → Type 0
  Precedes one next = (series one < series next) ⊎ ((series one ≡ series next) × (moment one < moment next))

  abbrev pub AreBehind : Item → List Item → Type 0
  AreBehind one [] = Unit {0}
  AreBehind one (next ∷ items) = Precedes one next × IsItem next × AreBehind next items

  abbrev pub AreLinked : List Item → Type 0
  AreLinked [] = Unit {0}
  AreLinked (item ∷ items) = IsItem item × AreBehind item items

-- the moments of a page
pub record HasSpan (span : Span) (of from to : ℕ) : Type 0 where
  pub series : span.series ≡ of
  pub first : span.first ≡ from
  pub end : span.end ≡ to

module _ {Page Item : Type 0} (added : Page → Item → Option Page) (begun : Item → Page) (span : Page → Span) (series moment : Item → ℕ)
    (IsItem : Item → Type 0) (IsPage : Page → Type 0)
    (of_begun : (item : Item) → IsItem item → IsPage (begun item) × HasSpan (span (begun item)) (series item) (moment item) (moment item))
    (of_added : (page : Page) (item : Item) (more : Page) → IsPage page → IsItem item → added page item ≡ Some more
    → IsPage more × HasSpan (span more) (series item) (span page).first (moment item) × ((span page).series ≡ series item)) where
  -- the page ends with the item
  abbrev EndsWith : Page → Item → Type 0
  EndsWith page item = IsPage page × ((span page).series ≡ series item) × ((span page).end ≡ moment item)

  ends_begun : (item : Item) → IsItem item → EndsWith (begun item) item
  ends_begun item is = let known = of_begun item is in (known.0, known.1.series, known.1.end)

  -- a new page follows the one before
  comes_begun : (page : Page) (before item : Item) → EndsWith page before → Precedes series moment IsItem before item → IsItem item → MayCome (left_by (span page)) (span (begun item))
  comes_begun page before item ends (inl below) is =
      let known = of_begun item is in
      record {
        series = omega (arith, ends.1, known.1.series);
        free = λ same. absurd (omega (arith, ends.1, known.1.series, same));
      }
  comes_begun page before item ends (inr behind) is =
      let known = of_begun item is in
      record {
        series = omega (arith, ends.1, known.1.series, behind.0);
        free = λ same. omega (arith, ends.2, known.1.first, behind.1);
      }

  -- a page with one more item follows what the page followed
  comes_added : (left : Left) (page : Page) (item : Item) (more : Page) → IsPage page → IsItem item → added page item ≡ Some more
      → MayCome left (span page) → MayCome left (span more)
  comes_added left page item more was is e come =
      let known = of_added page item more was is e in
      record {
        series = omega (arith, come.series, known.1.series, known.2);
        free = λ same. let old : (span page).series ≡ left.series = omega (arith, known.1.series, known.2, same) in
            let free = come.free old in omega (arith, known.1.first, free);
      }

  run-next : (left : Left) (page : Page) (before item : Item) (items : List Item) → EndsWith page before → MayCome left (span page)
      → Precedes series moment IsItem before item → IsItem item
      → ((left' : Left) (behind : Page) → EndsWith behind item → MayCome left' (span behind) → AreRun span IsPage left' (pages_from added begun behind items))
      → (next : Option Page) → added page item ≡ next
      → AreRun span IsPage left (option_map_or (λ more. pages_from added begun more items) next (page ∷ pages_from added begun (begun item) items))
  run-next left page before item items ends come precedes is rest (Some more) e =
      let known = of_added page item more ends.0 is e in
      rest left more (known.0, known.1.series, known.1.end) (comes_added left page item more ends.0 is e come)
  run-next left page before item items ends come precedes is rest None e =
      (come, ends.0, rest (left_by (span page)) (begun item) (ends_begun item is) (comes_begun page before item ends precedes is))

  run-pages_from : (left : Left) (page : Page) (before : Item) (items : List Item) → EndsWith page before → MayCome left (span page)
      → AreBehind series moment IsItem before items → AreRun span IsPage left (pages_from added begun page items)
  run-pages_from left page before [] ends come behind = (come, ends.0, tt)
  run-pages_from left page before (item ∷ items) ends come behind =
      run-next left page before item items ends come behind.0 behind.1
      (λ left' next ends' come'. run-pages_from left' next item items ends' come' behind.2) (added page item) refl

  -- the pages have their form and their order
  pub run-pages_of : (items : List Item) → AreLinked series moment IsItem items → AreRun span IsPage (record { series = 0; free = 0 }) (pages_of added begun items)
  run-pages_of [] linked = tt
  run-pages_of (item ∷ items) linked =
      run-pages_from (record { series = 0; free = 0 }) (begun item) item items (ends_begun item linked.0)
      (record { series = omega arith; free = λ same. omega arith }) linked.1

-- ---- how many pages

module _ {Page Item : Type 0} (added : Page → Item → Option Page) (begun : Item → Page) where
  count-next : (page : Page) (item : Item) (items : List Item) → ((behind : Page) → length (pages_from added begun behind items) ≤ length items + 1)
      → (next : Option Page) → length (option_map_or (λ more. pages_from added begun more items) next (page ∷ pages_from added begun (begun item) items)) ≤ length items + 2
  count-next page item items rest (Some more) = omega (arith, rest more)
  count-next page item items rest None = omega (arith, rest (begun item))

  count-pages_from : (page : Page) (items : List Item) → length (pages_from added begun page items) ≤ length items + 1
  count-pages_from page [] = omega arith
  count-pages_from page (item ∷ items) =
      let next = count-next page item items (λ behind. count-pages_from behind items) (added page item) in omega (arith, next)

  -- no more pages than items
  pub count-pages_of : (items : List Item) → length (pages_of added begun items) ≤ length items
  count-pages_of [] = omega arith
  count-pages_of (item ∷ items) = let rest = count-pages_from (begun item) items in omega (arith, rest)
