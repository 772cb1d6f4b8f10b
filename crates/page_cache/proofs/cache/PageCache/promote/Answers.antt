use Rattle.std.proofs.Common.{◌≡◌, Some, None, sym, ap, ◌∙◌, subst}
use Rattle.std.specs.Map.{lookup}
use Rattle.page_cache.specs.Cached.{Cached, same_key, with_given}
use Rattle.list_lemmas.proofs.Searches.{none-from}
use Rattle.page_cache.proofs.CachedLemmas.{given_promoted, not_promoted}
use Rattle.page_cache.proofs.cache.PageCache.promote.Goals as goal

pub returns-clause-there : goal.returns-clause-there
returns-clause-there c = λ yes page found.
    let pages : Cached = c.self.inside.pages in let key = c.args.key in
    let inside : lookup (same_key key) pages.entries ≡ Some page = subst (λ (p : Cached). lookup (same_key key) p.entries ≡ Some page) (sym c.self.view_is) found in
    c.promote.ensures.entries ∙ given_promoted pages key page inside ∙ ap (λ (p : Cached). with_given p key page) c.self.view_is

pub returns-clause-missing : goal.returns-clause-missing
returns-clause-missing c = λ no.
    let pages : Cached = c.self.inside.pages in let key = c.args.key in
    let inside : lookup (same_key key) pages.entries ≡ None = none-from (lookup (same_key key) pages.entries) (sym c.promote.ensures.value ∙ no) in
    (subst (λ (p : Cached). lookup (same_key key) p.entries ≡ None) c.self.view_is inside, c.promote.ensures.entries ∙ not_promoted pages key inside ∙ c.self.view_is)
