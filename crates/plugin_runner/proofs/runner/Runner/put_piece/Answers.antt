use Rattle.std.proofs.Common.{◌≡◌, ◌≤◌, ℕ, List, [], ◌++◌, length, Err, refl, sym, ap, subst, ◌∙◌, append_assoc, append-nil, arith, length-append}
use Rattle.plugin_text.specs.Lines.{parts, lines}
use Rattle.plugin_runner.specs.declared.runner.Runner.{Runner}
use Rattle.plugin_runner.specs.Bytes.{IsPrefix}
use Rattle.plugin_runner.proofs.CourseLemmas.{lands-memory, listens-all, tells-disabled, tells-long, tells-prefix, tells-nothing, tells-some}
use Rattle.plugin_runner.proofs.PatienceLemmas.{feed-spends}
use Rattle.plugin_runner.proofs.runner.Runner.put_piece.Goals as goal

pub returns-in_err-held-clause-goes : goal.returns-in_err-held-clause-goes
returns-in_err-held-clause-goes g c = λ course l.
    lands-memory c.from_residual.result c.from_residual.ensures.0 c.args.piece.now course c.args.self.now _ _ c.args.out.now c.args.out.now
    (record { taken = []; reads = refl; added = []; wrote = sym (append-nil c.args.out.now); next = tells-nothing c.args.self.now course c.args.piece.now l })

pub returns-in_err-take_lines-in-Ok-clause-goes : goal.returns-in_err-take_lines-in-Ok-clause-goes
returns-in_err-take_lines-in-Ok-clause-goes g c = λ course l.
    let old = c.args.self.now in
    let piece = c.args.piece.now in
    let new : Runner = record old { follower = c.take_lines.new.follower; splitter = c.feed.new.self } in
    let is : c.feed.new.out ≡ lines (old.splitter.rest ++ piece) = c.in-Ok.ensures.lines ∙ ap (λ (x : List (List ℕ)). x ++ lines (old.splitter.rest ++ piece)) c.new-lines.ensures in
    let p = c.in_err-take_lines-in-Ok.ensures.err in
    lands-memory c.from_residual-in_err-take_lines-in-Ok.result c.from_residual-in_err-take_lines-in-Ok.ensures.0 piece course new _ _ c.args.out.now c.take_lines.new.out
    (record { taken = p.puts.taken; reads = p.puts.reads; added = p.puts.added; wrote = p.puts.wrote; next = tells-some old course piece l c.feed.new.out is c.in-Ok.ensures.short _ _ c.args.out.now c.take_lines.new.out p })

pub returns-then-branch-clause-goes : goal.returns-then-branch-clause-goes
returns-then-branch-clause-goes g c = λ course l.
    let old = c.args.self.now in
    let piece = c.args.piece.now in
    let is : c.feed.new.out ≡ lines (old.splitter.rest ++ piece) = c.in-Ok.ensures.lines ∙ ap (λ (x : List (List ℕ)). x ++ lines (old.splitter.rest ++ piece)) c.new-lines.ensures in
    let p = rw c.if-branch.true at c.in_ok-take_lines-in-Ok.ensures.ok in
    record { taken = p.puts.taken; reads = p.puts.reads; added = p.puts.added; wrote = p.puts.wrote; next = tells-disabled old course piece l c.feed.new.out is c.in-Ok.ensures.short c.take_lines.new.follower _ _ c.args.out.now c.take_lines.new.out p }

pub returns-in-Ok-clause-goes : goal.returns-in-Ok-clause-goes
returns-in-Ok-clause-goes g c = λ course l.
    let old = c.args.self.now in
    let piece = c.args.piece.now in
    let new : Runner = record old { follower = c.take_lines.new.follower; splitter = c.feed.new.self } in
    let is : c.feed.new.out ≡ lines (old.splitter.rest ++ piece) = c.in-Ok.ensures.lines ∙ ap (λ (x : List (List ℕ)). x ++ lines (old.splitter.rest ++ piece)) c.new-lines.ensures in
    let p = rw c.if-branch.false at c.in_ok-take_lines-in-Ok.ensures.ok in
    record {
      taken = p.puts.taken;
      reads = p.puts.reads;
      added = p.puts.added;
      wrote = p.puts.wrote;
      next = listens-all old course piece l c.feed.new.out is c.in-Ok.ensures.short new _ _ c.args.out.now c.take_lines.new.out refl refl c.feed.ensures.held c.in-Ok.ensures.refused (λ more. ap parts (sym (append_assoc old.splitter.rest piece more)) ∙ c.in-Ok.ensures.onward more) p;
    }

pub returns-in-Ok-clause-patience : goal.returns-in-Ok-clause-patience
returns-in-Ok-clause-patience g c = λ is.
    let old = c.args.self.now in
    let whole : List ℕ = old.splitter.rest ++ c.args.piece.now in
    let cut : c.feed.new.out ≡ lines whole = c.in-Ok.ensures.lines ∙ ap (λ (x : List (List ℕ)). x ++ lines whole) c.new-lines.ensures in
    let grows = rw c.if-branch.false at c.in_ok-take_lines-in-Ok.ensures.grows in
    feed-spends old.splitter.rest c.feed.new.self.rest c.args.piece.now c.feed.new.out c.args.out.now c.take_lines.new.out c.requires.room c.requires.some cut c.in-Ok.ensures.rest grows

pub returns-in_err-append_both-in-Err-LineTooLong-clause-goes : goal.returns-in_err-append_both-in-Err-LineTooLong-clause-goes
returns-in_err-append_both-in-Err-LineTooLong-clause-goes g c = λ course l.
    let old = c.args.self.now in
    let piece = c.args.piece.now in
    let new : Runner = record old { splitter = c.feed.new.self } in
    let held : c.as_slice.result.now ≡ old.splitter.rest = c.as_slice.ensures ∙ c.in_ok-held.ensures ∙ c.rest.ensures.value in
    let size : length (old.splitter.rest ++ piece) ≤ 8193 = omega (arith, c.requires.room, length-append old.splitter.rest piece) in
    let long = c.in-Err-LineTooLong.ensures.long l.going (ap Err c.in-Err-LineTooLong.field-0-is) in
    let e = c.in_err-append_both-in-Err-LineTooLong.ensures.err in
    let prefix : IsPrefix e.0 (old.splitter.rest ++ piece) = subst (λ (b : List ℕ). IsPrefix e.0 (b ++ piece)) held e.2 in
    lands-memory c.from_residual-in_err-append_both-in-Err-LineTooLong.result c.from_residual-in_err-append_both-in-Err-LineTooLong.ensures.0 piece course new _ _ c.args.out.now c.append_both.new.out
    (record { taken = []; reads = refl; added = e.0; wrote = e.1; next = tells-prefix old course piece l e.0 long.0 long.2 size prefix })

pub returns-in-Err-LineTooLong-clause-goes : goal.returns-in-Err-LineTooLong-clause-goes
returns-in-Err-LineTooLong-clause-goes g c = λ course l.
    let old = c.args.self.now in
    let piece = c.args.piece.now in
    let held : c.as_slice.result.now ≡ old.splitter.rest = c.as_slice.ensures ∙ c.in_ok-held.ensures ∙ c.rest.ensures.value in
    let size : length (old.splitter.rest ++ piece) ≤ 8193 = omega (arith, c.requires.room, length-append old.splitter.rest piece) in
    let long = c.in-Err-LineTooLong.ensures.long l.going (ap Err c.in-Err-LineTooLong.field-0-is) in
    record {
      taken = [];
      reads = refl;
      added = old.splitter.rest ++ piece;
      wrote = c.in_ok-append_both-in-Err-LineTooLong.ensures.ok ∙ ap (λ (b : List ℕ). c.args.out.now ++ (b ++ piece)) held;
      next = tells-long old course piece l long.0 long.2 size;
    }

pub returns : goal.returns
returns g c = record {
  phase = refl;
  restarts = refl;
  patience = tt;
  out = ([], sym (append-nil c.args.out.now));
  goes = λ course l. record { taken = []; reads = refl; added = []; wrote = sym (append-nil c.args.out.now); next = tells-nothing c.args.self.now course c.args.piece.now l };
}
