use Rattle.std.proofs.Common.{◌≡◌, ℕ, List, Some, None, true, false, refl, sym, ap, ◌∙◌, subst, rules}
use Rattle.std.specs.Prelude.{Err, IfSome}
use Rattle.std.specs.Option.{option_copied}
use Rattle.page_cache.specs.Cached.{Cached, with_given}
use Rattle.page_cache.proofs.CachedLemmas.{given_ok, seen_page, some_same}
use Rattle.page_cache.proofs.cache.PageCache.page.Goals as goal

pub returns-in_err-load : goal.returns-in_err-load
returns-in_err-load g c =
    let failed : c.from_residual.result ≡ Err c.in_err-load.field-0.0 = search rules in
    rw failed (
      (refl, (λ _. tt), c.in_err-load.ensures.err),
      record {
        ends = tt;
        hit = λ page at. absurd (let not : false ≡ true = (c.in_err-load.ensures.hit page at).0 in cc);
        missed = λ at. tt;
        same = c.in_err-load.ensures.same;
        cause = record {
          later = c.in_err-load.ensures.cause.later;
          failed = λ e. c.in_err-load.ensures.cause.failed (search (rules, e));
          stays = λ not. c.in_err-load.ensures.cause.stays (λ e. not (search (rules, e)));
        };
        reads = c.in_err-load.ensures.reads;
        once = c.in_err-load.ensures.once;
        fetched = λ at. tt;
      },
    )

pub unreachable-requires : goal.unreachable-requires
unreachable-requires g c =
    let ok = c.in_ok-load.ensures in let old : Cached = c.args.self.now in let new : Cached = c.load.new.self in let key = c.args.key in
    let given = given_ok old new key (λ page at. (ok.hit page at).2) (λ at. let got = ok.missed at in (got.0, got.1)) in
    let found = seen_page old c.self.inside.pages new key given.0 (option_copied c.peek.result) c.self.view_is given.1 c.peek.ensures in
    let none : None ≡ Some given.0 = sym (ap option_copied c.in-None.is) ∙ found in cc

pub returns : goal.returns
returns g c =
    let ok = c.in_ok-load.ensures in let old : Cached = c.args.self.now in let new : Cached = c.load.new.self in let key = c.args.key in let shown : List ℕ = c.in-Some.page.now in
    let at_key : (page : List ℕ) → new ≡ with_given old key page → shown ≡ page =
    λ page given. some_same shown page (sym (ap option_copied c.in-Some.is) ∙ seen_page old c.self.inside.pages new key page (option_copied c.peek.result) c.self.view_is given c.peek.ensures) in
    let given = given_ok old new key (λ page at. (ok.hit page at).2) (λ at. let got = ok.missed at in (got.0, got.1)) in (
      (refl, (λ _. tt), c.self.view_is ∙ given.1 ∙ ap (λ (p : List ℕ). with_given old key p) (sym (at_key given.0 given.1))),
      record {
        ends = tt;
        hit = λ page at. let was = ok.hit page at in (at_key page was.2, was.1);
        missed = λ at. let got = ok.missed at in subst (λ (p : List ℕ). IfSome (g.F.Fetch.bytes c.args.fetch.now key) (λ told. p ≡ told)) (sym (at_key got.0 got.1)) got.2;
        same = ok.same;
        cause = record { later = ok.cause.later; failed = λ e. absurd cc; stays = λ not. ok.cause.stays (λ e. absurd cc) };
        reads = ok.reads;
        once = ok.once;
        fetched = λ at. ok.fetched at;
      },
    )
