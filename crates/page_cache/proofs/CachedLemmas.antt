-- What the calls of `lru` make of a cache of pages.
use Rattle.std.proofs.Common.{◌≡◌, ℕ, zero, suc, ◌-◌, ◌<◌, Bool, true, false, cond, List, [], ◌∷◌, length, take, Option, Some, None, refl, sym, ap, ◌∙◌, arith}
use Rattle.std.specs.Cmp.{IsEquivalence, nat_eq_equiv}
use Rattle.std.specs.Prelude.{nat_eq, unwrap_or}
use Rattle.lru.proofs.CallerLemmas.{lookup-put_entries}
use Rattle.std.proofs.lemmas.Bool.{and_parts}
use Rattle.std.specs.Map.{lookup, lookup_entry, remove_entry}
use Rattle.std.specs.Option.{option_map_or}
use Rattle.std.proofs.lemmas.List.{take_all, take-take}
use Rattle.lru.specs.LruCache.{lru_cache, promoted}
use Rattle.page_cache.specs.declared.key.PageKey.{PageKey}
use Rattle.page_cache.specs.Cached.{Cached, same_key, with_given, with_room}

-- a key is compared by its three numbers
pub same_key_equiv : IsEquivalence same_key
same_key_equiv = record {
  refl = λ x. rw (nat_eq_equiv.refl x.tier, nat_eq_equiv.refl x.extent, nat_eq_equiv.refl x.index) refl;
  symm = λ x y. rw (nat_eq_equiv.symm x.tier y.tier, nat_eq_equiv.symm x.extent y.extent, nat_eq_equiv.symm x.index y.index) refl;
  congr = λ x y z same.
      let prefix = and_parts (nat_eq x.tier y.tier) _ same in
      let back = and_parts (nat_eq x.extent y.extent) (nat_eq x.index y.index) prefix.1 in
      rw (nat_eq_equiv.congr x.tier y.tier z.tier prefix.0, nat_eq_equiv.congr x.extent y.extent z.extent back.0, nat_eq_equiv.congr x.index y.index z.index back.1) refl;
}

-- a full cache without its last page has room, and so has one that is not full
pub room_full : (c : Cached) → length c.entries ≡ c.cap → lru_cache (take (length c.entries - 1) c.entries) c.cap ≡ with_room c
room_full c full = ap (λ (n : ℕ). lru_cache (take (n - 1) c.entries) c.cap) full

pub room_left : (c : Cached) → length c.entries < c.cap → c ≡ with_room c
room_left c left = sym (ap (λ (es : List (PageKey × List ℕ)). lru_cache es c.cap) (take_all (c.cap - 1) c.entries (omega (arith, left))))

module _ {K V : Type 0} (test : K → Bool) where
  none_of-take : (n : ℕ) (es : List (K × V)) → lookup test es ≡ None → lookup_entry test (take n es) ≡ None
  none_of-take zero es none = refl
  none_of-take (suc n) [] none = refl
  none_of-take (suc n) (e ∷ es) none = (elim (test e.0) as (λ b. test e.0 ≡ b → cond b (Some e) (lookup_entry test (take n es)) ≡ None) [
    | true ↦ λ t. absurd (let found : Some e.1 ≡ None = rw t at none in cc)
    | false ↦ λ t. none_of-take n es (rw t at none)
  ]) refl

  none_of : (es : List (K × V)) → lookup test es ≡ None → lookup_entry test es ≡ None
  none_of [] none = refl
  none_of (e ∷ es) none = (elim (test e.0) as (λ b. test e.0 ≡ b → cond b (Some e) (lookup_entry test es) ≡ None) [
    | true ↦ λ t. absurd (let found : Some e.1 ≡ None = rw t at none in cc)
    | false ↦ λ t. none_of es (rw t at none)
  ]) refl

  -- the entry whose value a look-up gives
  found_entry : (es : List (K × V)) (v : V) → lookup test es ≡ Some v → (e : K × V) × (lookup_entry test es ≡ Some e) × (e.1 ≡ v)
  found_entry [] v found = absurd cc
  found_entry (e ∷ es) v found = (elim (test e.0) as (λ b. test e.0 ≡ b → (f : K × V) × (cond b (Some e) (lookup_entry test es) ≡ Some f) × (f.1 ≡ v)) [
    | true ↦ λ t. (e, refl, let found' : Some e.1 ≡ Some v = rw t at found in cc)
    | false ↦ λ t. found_entry es v (rw t at found)
  ]) refl

-- a page that was not there, put where there is room for it
pub given_room : (c : Cached) (key : PageKey) (page : List ℕ) → lookup (same_key key) c.entries ≡ None → with_given (with_room c) key page ≡ with_given c key page
given_room c key page none =
    let test = same_key key in let kept : List (PageKey × List ℕ) = take (c.cap - 1) c.entries in
    let after : Option (PageKey × List ℕ) → List (PageKey × List ℕ) → List (PageKey × List ℕ) → List (PageKey × List ℕ) =
    λ o es rest. option_map_or (λ e. (e.0, page) ∷ remove_entry test es) o ((key, page) ∷ rest) in
    ap (λ (o : Option (PageKey × List ℕ)). lru_cache (after o kept (take (c.cap - 1) kept)) c.cap) (none_of-take test (c.cap - 1) c.entries none)
    ∙ ap (λ (es : List (PageKey × List ℕ)). lru_cache ((key, page) ∷ es) c.cap) (take-take (c.cap - 1) (c.cap - 1) c.entries (omega arith))
    ∙ sym (ap (λ (o : Option (PageKey × List ℕ)). lru_cache (after o c.entries kept) c.cap) (none_of test c.entries none))

-- a page that is there goes first
pub given_promoted : (c : Cached) (key : PageKey) (page : List ℕ) → lookup (same_key key) c.entries ≡ Some page → lru_cache (promoted (same_key key) c.entries) c.cap ≡ with_given c key page
given_promoted c key page found =
    let test = same_key key in let was = found_entry test c.entries page found in let others = remove_entry test c.entries in
    ap (λ (o : Option (PageKey × List ℕ)). lru_cache (option_map_or (λ e. e ∷ others) o c.entries) c.cap) was.1
    ∙ ap (λ (p : List ℕ). lru_cache ((was.0.0, p) ∷ others) c.cap) was.2
    ∙ sym (ap (λ (o : Option (PageKey × List ℕ)). lru_cache (option_map_or (λ e. (e.0, page) ∷ others) o ((key, page) ∷ take (c.cap - 1) c.entries)) c.cap) was.1)

-- a key that is not there leaves the order as it was
pub not_promoted : (c : Cached) (key : PageKey) → lookup (same_key key) c.entries ≡ None → lru_cache (promoted (same_key key) c.entries) c.cap ≡ c
not_promoted c key none =
    let test = same_key key in let others = remove_entry test c.entries in
    ap (λ (o : Option (PageKey × List ℕ)). lru_cache (option_map_or (λ e. e ∷ others) o c.entries) c.cap) (none_of test c.entries none)

-- a look-up after the page was given finds it
pub lookup-given : (c : Cached) (key : PageKey) (page : List ℕ) → lookup (same_key key) (with_given c key page).entries ≡ Some page
lookup-given c key page = lookup-put_entries same_key c key page same_key_equiv

-- a cache that gave a page, whether it was there or not
pub given_ok : (old new : Cached) (key : PageKey) → ((page : List ℕ) → lookup (same_key key) old.entries ≡ Some page → new ≡ with_given old key page)
    → (lookup (same_key key) old.entries ≡ None → (page : List ℕ) × (new ≡ with_given old key page)) → (page : List ℕ) × (new ≡ with_given old key page)
given_ok old new key hit missed = by (lookup (same_key key) old.entries) refl
  where
    by : (o : Option (List ℕ)) → lookup (same_key key) old.entries ≡ o → (page : List ℕ) × (new ≡ with_given old key page)
    by None at = missed at
    by (Some page) at = (page, hit page at)

-- what is seen at the key of a page that was given
pub seen_page : (old inside new : Cached) (key : PageKey) (page : List ℕ) (seen : Option (List ℕ)) → inside ≡ new → new ≡ with_given old key page
    → seen ≡ lookup (same_key key) inside.entries → seen ≡ Some page
seen_page old inside new key page seen view given peeked =
    peeked ∙ ap (λ (p : Cached). lookup (same_key key) p.entries) (view ∙ given) ∙ lookup-given old key page

pub some_same : (x y : List ℕ) → Some x ≡ Some y → x ≡ y
some_same x y e = ap (λ (o : Option (List ℕ)). unwrap_or o x) e
