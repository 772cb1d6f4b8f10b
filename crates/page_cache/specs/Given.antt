-- What a cache ends as, once the page that it gave is no longer lent.
use Rattle.std.specs.Prelude.{◌≡◌, ℕ, List, Result, MatchResult, ⊤}
use Rattle.std.specs.Borrow.{Fml, Bor, MutBor, follows_so}
use mathlib.Core.Option.{none}
use Rattle.page_cache.specs.declared.key.PageKey.{PageKey}
use Rattle.page_cache.specs.Cached.{Cached, with_given, with_room}
use Rattle.page_cache.specs.contracts.cache.PageCache.{the_row}

-- the page of the key is the most recently used, or there is room for it
abbrev pub ends_given : {E : Type 0} → MutBor Cached → PageKey → Result (Bor (List ℕ)) E → Fml
ends_given c key r = follows_so the_row the_row c.ghost_name none (λ _ _. ⊤)
    (λ n. MatchResult r (λ page. n ≡ with_given c.now key page.now) (λ _. n ≡ with_room c.now))
