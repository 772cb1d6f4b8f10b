use Rattle.std.proofs.Common.{◌≡◌, ◌==◌, false, not, ℕ, Option, Some, None, sym, ap, ◌∙◌}
use Rattle.std.specs.Option.{option_map_or}
use Rattle.history.specs.History.{child}
use Rattle.link_session.proofs.parent.copies_other.Goals as goal

pub returns-in-Some : goal.returns-in-Some
returns-in-Some c = λ past set h is_of.
    let is : child h ≡ Some c.in-Some.kept = sym (c.child.ensures.of past set h is_of) ∙ c.in-Some.is in
    sym (ap (λ (kept : Option ℕ). option_map_or (λ (n : ℕ). not (n == c.args.id)) kept false) is)

pub returns-in-None : goal.returns-in-None
returns-in-None c = λ past set h is_of.
    let is : child h ≡ None = sym (c.child.ensures.of past set h is_of) ∙ c.in-None.is in
    sym (ap (λ (kept : Option ℕ). option_map_or (λ (n : ℕ). not (n == c.args.id)) kept false) is)
