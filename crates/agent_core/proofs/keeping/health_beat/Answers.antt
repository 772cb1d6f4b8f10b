use Rattle.std.proofs.Common.{List, ℕ, ap, sym, subst, ◌∙◌}
use Rattle.entry_codec.specs.declared.entry.Entry.TheVariants as entry
use Rattle.entry_codec.specs.Entries.{entry_bytes, HasSpelling}
use Rattle.agent_core.proofs.FormLemmas.{health-form, health-size, health-spelt}
use Rattle.agent_core.proofs.keeping.health_beat.Goals as goal

pub returns-clause-form : goal.returns-clause-form
returns-clause-form c =
    health-form c.new.result c.in_ok-note.note c.args.text.now c.new.ensures (c.in_ok-note.ensures.spelling ∙ ap (λ (t : List ℕ). entry_bytes (entry.Health t)) c.in_ok-from_slice.ensures) c.requires

pub returns-clause-size : goal.returns-clause-size
returns-clause-size c =
    health-size c.new.result c.in_ok-note.note c.args.text.now c.new.ensures (c.in_ok-note.ensures.spelling ∙ ap (λ (t : List ℕ). entry_bytes (entry.Health t)) c.in_ok-from_slice.ensures) c.requires

pub write_entry-requires : goal.write_entry-requires
write_entry-requires c = subst (λ (t : List ℕ). HasSpelling (entry.Health t)) (sym c.in_ok-from_slice.ensures) (health-spelt c.args.text.now c.requires)

pub returns-clause-spelt : goal.returns-clause-spelt
returns-clause-spelt c = health-spelt c.args.text.now c.requires
