use Rattle.std.proofs.Common.{ℕ, List, refl, sym, ap, ◌∙◌}
use Rattle.std.proofs.lemmas.Result.{err_from_is_err_and}
use Rattle.entry_codec.specs.declared.fault.EntryFault.TheVariants.{Memory}
use Rattle.entry_codec.specs.Entries.{read_entry}
use Rattle.agent_core.specs.Faults.{of_entry}
use Rattle.agent_core.specs.Notes.{entry_at}
use Rattle.agent_core.proofs.OpenFaults.{entry-either, where-damaged}
use Rattle.agent_core.proofs.notes.entry_in.Goals as goal

pub returns-in_err-entry-clause-refused : goal.returns-in_err-entry-clause-refused
returns-in_err-entry-clause-refused c =
    let error = err_from_is_err_and c.from_residual.result c.from_residual.ensures.1 in
    let moment = c.args.kept.now.moment in
    rw (error.1, error.2) (λ damaged.
    ap (λ (bytes : List ℕ). entry_at moment (read_entry bytes)) (sym c.as_slice.ensures)
    ∙ ap (entry_at moment) (where-damaged of_entry Memory c.in_err-entry.field-0.0 refl damaged c.in_err-entry.ensures.fault))

pub returns-in_err-entry-clause-faults : goal.returns-in_err-entry-clause-faults
returns-in_err-entry-clause-faults c =
    let error = err_from_is_err_and c.from_residual.result c.from_residual.ensures.1 in
    rw (error.1, error.2) (entry-either c.in_err-entry.field-0.0)
