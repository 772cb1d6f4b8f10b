use Rattle.std.proofs.Common.{◌≡◌, ◌-◌, List, ℕ, length, take, drop, subst, arith}
use Rattle.std.proofs.lemmas.List.{take_all, length-drop}
use Rattle.extent_file.specs.Fields.{IsValue, IsFirstWrong}
use Rattle.extent_file.proofs.FormLemmas.{field_read, field_stops}
use Rattle.extent_file.proofs.field.read_at.Goals as goal

pub returns-in-Ok-clause-leads : goal.returns-in-Ok-clause-leads
returns-in-Ok-clause-leads c after bytes size form prefix enough leads =
    let seen = c.args.seen.now in let at = c.args.at in
    let whole : take (length seen - at) (drop at seen) ≡ drop at seen = take_all (length seen - at) (drop at seen) (omega (arith, length-drop at seen)) in
    field_read form seen bytes at size c.args.field after prefix enough leads c.in-Ok.value
    (subst (λ (l : List ℕ). IsValue c.args.field l c.in-Ok.value) whole c.in-Ok.ensures.value)

pub returns-in-Err-clause-leads : goal.returns-in-Err-clause-leads
returns-in-Err-clause-leads c after bytes size form prefix enough leads =
    let seen = c.args.seen.now in let at = c.args.at in
    let whole : take (length seen - at) (drop at seen) ≡ drop at seen = take_all (length seen - at) (drop at seen) (omega (arith, length-drop at seen)) in
    field_stops form seen bytes at size c.args.field after prefix enough leads c.in-Err.place
    (subst (λ (l : List ℕ). IsFirstWrong c.args.field l c.in-Err.place) whole c.in-Err.ensures.wrong)
