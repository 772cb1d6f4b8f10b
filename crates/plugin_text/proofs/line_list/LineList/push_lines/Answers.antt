use Rattle.std.proofs.Common.{◌≡◌, length, arith}
use Rattle.std.proofs.lemmas.Result.{err_from_is_err_and}
use Rattle.plugin_text.specs.Lines.{IsLongAfter, BeginsWithLines}
use Rattle.plugin_text.proofs.CutLemmas.{same_error}
use Rattle.plugin_text.proofs.LineListLemmas.{lines_behind, handed_behind}
use Rattle.plugin_text.proofs.line_list.LineList.push_lines.Goals as goal

pub returns-in_err-end-clause-long : goal.returns-in_err-end-clause-long
returns-in_err-end-clause-long c =
    let bytes = c.self.inside.bytes in
    let start_is : c.len-start.result ≡ length bytes.items = omega (arith, c.len-start.ensures, bytes.ok.0) in
    let p = err_from_is_err_and c.from_residual-in_err-end.result c.from_residual-in_err-end.ensures.1 in
    let long = rw c.deref.ensures.value at c.in_err-end.ensures.long in
    rw (p.1, p.2) (λ is. handed_behind bytes.items c.args.text.now _ c.self.inside.places.items _ _ _ c.self.invariant c.self.view_is c.in_ok-extend_from_slice.ensures.items start_is IsLongAfter (long (same_error _ _ is)))

pub returns-in_err-end-clause-memory : goal.returns-in_err-end-clause-memory
returns-in_err-end-clause-memory c =
    let bytes = c.self.inside.bytes in
    let start_is : c.len-start.result ≡ length bytes.items = omega (arith, c.len-start.ensures, bytes.ok.0) in
    let p = err_from_is_err_and c.from_residual-in_err-end.result c.from_residual-in_err-end.ensures.1 in
    let memory = rw c.deref.ensures.value at c.in_err-end.ensures.memory in
    rw (p.1, p.2) (λ is. handed_behind bytes.items c.args.text.now _ c.self.inside.places.items _ _ _ c.self.invariant c.self.view_is c.in_ok-extend_from_slice.ensures.items start_is BeginsWithLines (memory (same_error _ _ is)))

pub returns-clause-lines : goal.returns-clause-lines
returns-clause-lines c =
    let bytes = c.self.inside.bytes in
    let start_is : c.len-start.result ≡ length bytes.items = omega (arith, c.len-start.ensures, bytes.ok.0) in
    let added = rw c.deref.ensures.value at c.in_ok-end.ensures.lines in
    lines_behind bytes.items c.args.text.now _ c.self.inside.places.items _ _ _ c.self.invariant c.self.view_is c.in_ok-extend_from_slice.ensures.items start_is added
