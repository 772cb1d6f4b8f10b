use Rattle.std.proofs.Common.{◌≡◌, ℕ, length, min, take, drop, ap, ◌∙◌, arith}
use Rattle.std.proofs.lemmas.List.{take_min, length-drop}
use Rattle.host_model.specs.Images.{contents}
use Rattle.host_model.specs.Past.{of}
use Rattle.journal_core.proofs.reading.gate_at.Goals as goal

pub returns-clause-begins : goal.returns-clause-begins
returns-clause-begins g c h =
    let bytes = contents (of c.args.file (g.H.Host.seen c.args.host.now).past) in
    let rest = drop c.args.place bytes in
    let is_count = c.in_ok-count.ensures.end h in
    let count : c.in_ok-count.count ≡ min 5 (length rest) = is_count ∙ ap (λ (n : ℕ). min 5 n) (omega (arith, c.requires.size h, length-drop c.args.place bytes)) in
    c.next_of.ensures.begins rest (c.in_ok-count.ensures.bytes h ∙ ap (λ (n : ℕ). take n rest) count ∙ take_min 5 rest)
