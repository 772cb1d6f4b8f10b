-- What a cache of pages holds.
use Rattle.std.specs.Prelude.{ℕ, ◌-◌, Bool, ◌&&◌, List, take, nat_eq, refl}
use Rattle.std.specs.Coded.{Coded, code_by, coded×, coded_list, coded_ℕ}
use Rattle.lru.specs.LruCache.{LruCache, lru_cache, lru_cache_code, put_entries}
use Rattle.page_cache.specs.declared.key.PageKey.{PageKey}

-- the bytes of the pages by key, the most recently used first, and how many there may be
abbrev pub Cached : Type 0
Cached = LruCache PageKey (List ℕ)

abbrev pub key_code : Coded PageKey
key_code = code_by (ℕ × (ℕ × ℕ)) (coded× coded_ℕ (coded× coded_ℕ coded_ℕ)) (λ k. (k.tier, (k.extent, k.index)))
    (λ t. record { tier = t.0; extent = t.1.0; index = t.1.1 }) (λ _. refl)

abbrev pub cached_code : Coded Cached
cached_code = lru_cache_code key_code (coded_list coded_ℕ)

abbrev pub same_key : PageKey → PageKey → Bool
same_key a b = nat_eq a.tier b.tier && (nat_eq a.extent b.extent && nat_eq a.index b.index)

-- the cache once a page was given: it is the most recently used, and one that was not there took the place of
-- the least recently used one of a full cache
abbrev pub with_given : Cached → PageKey → List ℕ → Cached
with_given c key page = lru_cache (put_entries same_key c key page) c.cap

-- the cache with room for a page: the least recently used one of a full cache is gone
abbrev pub with_room : Cached → Cached
with_room c = lru_cache (take (c.cap - 1) c.entries) c.cap
