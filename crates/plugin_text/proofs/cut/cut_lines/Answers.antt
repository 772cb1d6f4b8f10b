use Rattle.std.proofs.Common.{[], refl, sym, ◌∙◌}
use Rattle.std.proofs.lemmas.Result.{err_from_is_err_and, on_ok_weaker}
use Rattle.plugin_text.specs.Lines.{parts}
use Rattle.plugin_text.proofs.CutLemmas.{HasCut-start, HasCut-line, HasCut-piece, IsLongAfter-cut, IsLongAfter-lines, BeginsWithLines-cut, BeginsWithLines-lines, lines-cut, rest-cut, HasNoLongLine-cut, IsRest-kept, parts-left, same_error}
use Rattle.plugin_text.proofs.cut.cut_lines.Goals as goal

-- ---- no line ends in the piece
pub returns-in_default-clause-lines : goal.returns-in_default-clause-lines
returns-in_default-clause-lines c =
    let start = HasCut-start c.args.held.now c.args.piece.now c.args.out.now c.requires in
    on_ok_weaker c.keep.result (λ _. lines-cut _ _ _ _ _ start c.in_default.ensures) c.keep.ensures.fits

pub returns-in_default-clause-rest : goal.returns-in_default-clause-rest
returns-in_default-clause-rest c =
    let start = HasCut-start c.args.held.now c.args.piece.now c.args.out.now c.requires in
    on_ok_weaker c.keep.result (λ kept. kept ∙ sym (rest-cut _ _ _ _ _ start c.in_default.ensures)) c.keep.ensures.kept

pub returns-in_default-clause-short : goal.returns-in_default-clause-short
returns-in_default-clause-short c =
    let start = HasCut-start c.args.held.now c.args.piece.now c.args.out.now c.requires in
    on_ok_weaker c.keep.result (HasNoLongLine-cut _ _ _ _ _ start c.in_default.ensures) c.keep.ensures.fits

pub returns-in_default-clause-held : goal.returns-in_default-clause-held
returns-in_default-clause-held c =
    let start = HasCut-start c.args.held.now c.args.piece.now c.args.out.now c.requires in
    IsRest-kept _ _ _ _ _ start c.in_default.ensures c.keep.result _ c.keep.ensures.kept c.keep.ensures.fits c.keep.ensures.err

pub returns-in_default-clause-long : goal.returns-in_default-clause-long
returns-in_default-clause-long c =
    let start = HasCut-start c.args.held.now c.args.piece.now c.args.out.now c.requires in
    λ is. IsLongAfter-cut _ _ _ _ _ start _ [] _ c.in_default.ensures (c.keep.ensures.too_long is) refl

-- ---- there is no room or memory for the first line
pub returns-in_err-hand_out-clause-long : goal.returns-in_err-hand_out-clause-long
returns-in_err-hand_out-clause-long c =
    let start = HasCut-start c.args.held.now c.args.piece.now c.args.out.now c.requires in
    let p = err_from_is_err_and c.from_residual.result c.from_residual.ensures.1 in
    let fault = c.in_err-hand_out.ensures in
    rw (p.1, p.2) (λ is. IsLongAfter-cut _ _ _ _ _ start c.in-Some.end.now (parts c.in-Some.more.now) _ c.in-Some.ensures.0 (fault.too_long is) fault.err.0)

-- ---- there is none for one of the others
pub returns-in_err-left-clause-long : goal.returns-in_err-left-clause-long
returns-in_err-left-clause-long c =
    let start = HasCut-start c.args.held.now c.args.piece.now c.args.out.now c.requires in
    let line = c.in_ok-hand_out.ensures in
    let first = HasCut-line _ _ _ _ _ start c.in-Some.end.now c.in-Some.more.now _ _ c.in-Some.ensures.0 line.fits line.cleared line.line in
    let p = err_from_is_err_and c.from_residual-in_err-left.result c.from_residual-in_err-left.ensures.1 in
    rw (p.1, p.2) (λ is. let long = c.in_err-left.ensures.long (same_error _ _ is) in IsLongAfter-lines _ _ _ _ _ first line.cleared long.0 _ long.1 long.2)

pub returns-in_err-left-clause-memory : goal.returns-in_err-left-clause-memory
returns-in_err-left-clause-memory c =
    let start = HasCut-start c.args.held.now c.args.piece.now c.args.out.now c.requires in
    let line = c.in_ok-hand_out.ensures in
    let first = HasCut-line _ _ _ _ _ start c.in-Some.end.now c.in-Some.more.now _ _ c.in-Some.ensures.0 line.fits line.cleared line.line in
    let p = err_from_is_err_and c.from_residual-in_err-left.result c.from_residual-in_err-left.ensures.1 in
    rw (p.1, p.2) (λ is. let prefix = c.in_err-left.ensures.memory (same_error _ _ is) in BeginsWithLines-lines _ _ _ _ _ first line.cleared prefix.0 _ prefix.1 prefix.2)

-- ---- all lines are handed out
pub returns-clause-lines : goal.returns-clause-lines
returns-clause-lines c =
    let line = c.in_ok-hand_out.ensures in
    let added = c.in_ok-left.ensures in
    let cut = HasCut-piece c.args.held.now c.args.piece.now c.in-Some.end.now c.in-Some.more.now c.in_ok-left.left.now _ c.args.out.now _ _ c.requires c.in-Some.ensures.0 line.fits line.cleared line.line added.rest added.lines added.short in
    let none = parts-left c.in_ok-left.left.now c.in-Some.more.now added.rest in
    on_ok_weaker c.keep-2.result (λ _. lines-cut _ _ _ _ _ cut none) c.keep-2.ensures.fits

pub returns-clause-rest : goal.returns-clause-rest
returns-clause-rest c =
    let line = c.in_ok-hand_out.ensures in
    let added = c.in_ok-left.ensures in
    let cut = HasCut-piece c.args.held.now c.args.piece.now c.in-Some.end.now c.in-Some.more.now c.in_ok-left.left.now _ c.args.out.now _ _ c.requires c.in-Some.ensures.0 line.fits line.cleared line.line added.rest added.lines added.short in
    let none = parts-left c.in_ok-left.left.now c.in-Some.more.now added.rest in
    on_ok_weaker c.keep-2.result (λ kept. kept ∙ sym (rest-cut _ _ _ _ _ cut none)) c.keep-2.ensures.kept

pub returns-clause-short : goal.returns-clause-short
returns-clause-short c =
    let line = c.in_ok-hand_out.ensures in
    let added = c.in_ok-left.ensures in
    let cut = HasCut-piece c.args.held.now c.args.piece.now c.in-Some.end.now c.in-Some.more.now c.in_ok-left.left.now _ c.args.out.now _ _ c.requires c.in-Some.ensures.0 line.fits line.cleared line.line added.rest added.lines added.short in
    let none = parts-left c.in_ok-left.left.now c.in-Some.more.now added.rest in
    on_ok_weaker c.keep-2.result (HasNoLongLine-cut _ _ _ _ _ cut none) c.keep-2.ensures.fits

pub returns-clause-held : goal.returns-clause-held
returns-clause-held c =
    let line = c.in_ok-hand_out.ensures in
    let added = c.in_ok-left.ensures in
    let cut = HasCut-piece c.args.held.now c.args.piece.now c.in-Some.end.now c.in-Some.more.now c.in_ok-left.left.now _ c.args.out.now _ _ c.requires c.in-Some.ensures.0 line.fits line.cleared line.line added.rest added.lines added.short in
    let none = parts-left c.in_ok-left.left.now c.in-Some.more.now added.rest in
    IsRest-kept _ _ _ _ _ cut none c.keep-2.result _ c.keep-2.ensures.kept c.keep-2.ensures.fits c.keep-2.ensures.err

pub returns-clause-long : goal.returns-clause-long
returns-clause-long c =
    let line = c.in_ok-hand_out.ensures in
    let added = c.in_ok-left.ensures in
    let cut = HasCut-piece c.args.held.now c.args.piece.now c.in-Some.end.now c.in-Some.more.now c.in_ok-left.left.now _ c.args.out.now _ _ c.requires c.in-Some.ensures.0 line.fits line.cleared line.line added.rest added.lines added.short in
    let none = parts-left c.in_ok-left.left.now c.in-Some.more.now added.rest in
    λ is. IsLongAfter-cut _ _ _ _ _ cut _ [] _ none (c.keep-2.ensures.too_long is) refl

pub returns-clause-memory : goal.returns-clause-memory
returns-clause-memory c =
    let line = c.in_ok-hand_out.ensures in
    let added = c.in_ok-left.ensures in
    let cut = HasCut-piece c.args.held.now c.args.piece.now c.in-Some.end.now c.in-Some.more.now c.in_ok-left.left.now _ c.args.out.now _ _ c.requires c.in-Some.ensures.0 line.fits line.cleared line.line added.rest added.lines added.short in
    let none = parts-left c.in_ok-left.left.now c.in-Some.more.now added.rest in
    λ _. BeginsWithLines-cut _ _ _ _ _ cut _ refl
