use Rattle.std.proofs.Common.{◌≡◌, [], ◌∷◌, ◌++◌, length, Result, Ok, Err, OnErr, ap, ◌∙◌, arith}
use Rattle.plugin_text.specs.LineList.{lines_at}
use Rattle.plugin_text.proofs.LineListLemmas.{lines_at-append, lines_at-pushed}
use Rattle.plugin_text.proofs.line_list.LineList.push_joined.Goals as goal

-- what holds anyway holds after an error
after_err : {T E : Type 0} (r : Result T E) (P : Type 0) → P → OnErr r P
after_err (Ok done) P p = tt
after_err (Err fault) P p = p

pub returns-in_err-add_bytes-clause-err : goal.returns-in_err-add_bytes-clause-err
returns-in_err-add_bytes-clause-err c =
    let places = c.self.inside.places.items in
    let kept = c.add_bytes.ensures.kept in
    after_err c.from_residual.result _ (ap (λ bytes. lines_at bytes places) kept.1 ∙ lines_at-append c.self.inside.bytes.items kept.0 places c.self.invariant ∙ c.self.view_is)

pub returns-in_err-push-clause-err : goal.returns-in_err-push-clause-err
returns-in_err-push-clause-err c =
    let places = c.self.inside.places.items in
    let kept = c.add_bytes.ensures.kept in
    after_err c.from_residual-in_err-push.result _
    (ap (lines_at c.add_bytes.new.bytes.items) c.in_err-push.ensures.items
    ∙ ap (λ bytes. lines_at bytes places) kept.1 ∙ lines_at-append c.self.inside.bytes.items kept.0 places c.self.invariant ∙ c.self.view_is)

pub returns-clause-ok : goal.returns-clause-ok
returns-clause-ok c =
    let bytes = c.self.inside.bytes in
    let line = c.args.start.now ++ c.args.end.now in
    let start_is : c.len-from.result ≡ length bytes.items = omega (arith, c.len-from.ensures, bytes.ok.0) in
    let end_is : c.len.result ≡ length c.add_bytes.new.bytes.items = omega (arith, c.len.ensures, c.add_bytes.new.bytes.ok.0) in
    lines_at-pushed bytes.items line c.self.inside.places.items c.self.invariant c.add_bytes.new.bytes.items c.push.new.self.items _ _ c.in_ok-add_bytes.ensures.ok start_is end_is c.in_ok-push.ensures.items
    ∙ ap (λ list. list ++ line ∷ []) c.self.view_is
