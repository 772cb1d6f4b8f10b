use Rattle.std.proofs.Common.{ℕ, ◌+◌, ◌++◌, List, [], ◌∷◌, length, Err, refl, sym, ap, ◌∙◌, subst, arith}
use Rattle.std.specs.List.{AllPass}
use Rattle.std.proofs.lemmas.Result.{err_from_is_err_and}
use Rattle.host_model.specs.declared.status.Status.TheVariants.{Memory}
use Rattle.history.specs.Limits.{is_one_line}
use Rattle.plugin_text.specs.Lines.{fits, lines, rest}
use Rattle.plugin_text.proofs.LongLemmas.{AllPass-lines}
use Rattle.plugin_text.proofs.PartsLemmas.{parts_whole}
use Rattle.line_stream.proofs.ChainLemmas.{on_ok-by, if_err-by}
use Rattle.line_stream.proofs.RunLemmas.{prefix-one_line, piece-few, long-few, handed, piece-broke, long-broke, long-ended, pause-ended, piece-taken, piece-want}
use Rattle.line_stream.proofs.stream.Stream.take_piece.Goals as goal

pub hand_over-requires-clause-few : goal.hand_over-requires-clause-few
hand_over-requires-clause-few g c =
    let cut = c.in-Ok.ensures.lines ∙ ap (λ (before : List (List ℕ)). before ++ lines (c.args.self.now.splitter.rest ++ c.args.piece.now)) c.clear.ensures in
    let room = c.requires.room in
    omega (arith, ap (λ (l : List (List ℕ)). length l) cut, piece-few g.T.Taker.acts room.0 room.1 c.args.self.now room.2 c.args.piece.now c.args.taker.now c.args.host.now room.3 room.4)

pub hand_over-requires-clause-short : goal.hand_over-requires-clause-short
hand_over-requires-clause-short g c =
    let text = c.args.self.now.splitter.rest ++ c.args.piece.now in
    let cut = c.in-Ok.ensures.lines ∙ ap (λ (before : List (List ℕ)). before ++ lines text) c.clear.ensures in
    subst (AllPass fits) (sym cut) (AllPass-lines text c.in-Ok.ensures.short)

pub hand_over-requires-clause-whole : goal.hand_over-requires-clause-whole
hand_over-requires-clause-whole g c =
    let text = c.args.self.now.splitter.rest ++ c.args.piece.now in
    let cut = c.in-Ok.ensures.lines ∙ ap (λ (before : List (List ℕ)). before ++ lines text) c.clear.ensures in
    subst (AllPass is_one_line) (sym cut) (prefix-one_line text (lines text) (rest text ∷ []) (parts_whole text))

pub returns-in_err-hand_over-in-Ok-clause-stops : goal.returns-in_err-hand_over-in-Ok-clause-stops
returns-in_err-hand_over-in-Ok-clause-stops g c =
    let p = err_from_is_err_and c.from_residual.result c.from_residual.ensures.1 in
    let cut = c.in-Ok.ensures.lines ∙ ap (λ (before : List (List ℕ)). before ++ lines (c.args.self.now.splitter.rest ++ c.args.piece.now)) c.clear.ensures in
    rw (p.1, p.2) (λ start begin text has left.
    piece-broke g.T.Taker.acts start begin c.args.self.now text c.args.piece.now c.args.taker.now c.args.host.now has c.in_err-hand_over-in-Ok.field-0.0 c.hand_over.new.taker c.hand_over.new.host left c.in-Ok.ensures.short
    (rw (c.in_err-hand_over-in-Ok.was, cut) at (handed g.T.Taker.acts start begin c.args.self.now text c.args.piece.now c.args.taker.now c.args.host.now has c.hand_over.result c.hand_over.new.taker c.hand_over.new.host c.feed.new.out c.hand_over.ensures.handed)))

pub hand_over-requires-in-Err-LineTooLong-clause-few : goal.hand_over-requires-in-Err-LineTooLong-clause-few
hand_over-requires-in-Err-LineTooLong-clause-few g c =
    let room = c.requires.room in
    let long = c.in-Err-LineTooLong.ensures.long room.3.going (ap Err c.in-Err-LineTooLong.field-0-is) in
    let cut = long.1 ∙ ap (λ (before : List (List ℕ)). before ++ long.0) c.clear.ensures in
    omega (arith, ap (λ (l : List (List ℕ)). length l) cut, long-few g.T.Taker.acts room.0 room.1 c.args.self.now room.2 c.args.piece.now c.args.taker.now c.args.host.now room.3 long.0 long.2 room.4)

pub hand_over-requires-in-Err-LineTooLong-clause-short : goal.hand_over-requires-in-Err-LineTooLong-clause-short
hand_over-requires-in-Err-LineTooLong-clause-short g c =
    let room = c.requires.room in
    let long = c.in-Err-LineTooLong.ensures.long room.3.going (ap Err c.in-Err-LineTooLong.field-0-is) in
    let cut = long.1 ∙ ap (λ (before : List (List ℕ)). before ++ long.0) c.clear.ensures in
    subst (AllPass fits) (sym cut) long.2.short

pub hand_over-requires-in-Err-LineTooLong-clause-whole : goal.hand_over-requires-in-Err-LineTooLong-clause-whole
hand_over-requires-in-Err-LineTooLong-clause-whole g c =
    let text = c.args.self.now.splitter.rest ++ c.args.piece.now in
    let long = c.in-Err-LineTooLong.ensures.long c.requires.room.3.going (ap Err c.in-Err-LineTooLong.field-0-is) in
    let cut = long.1 ∙ ap (λ (before : List (List ℕ)). before ++ long.0) c.clear.ensures in
    subst (AllPass is_one_line) (sym cut) (prefix-one_line text long.0 (long.2.long ∷ long.2.more) long.2.whole)

pub returns-in_err-hand_over-in-Err-LineTooLong-clause-stops : goal.returns-in_err-hand_over-in-Err-LineTooLong-clause-stops
returns-in_err-hand_over-in-Err-LineTooLong-clause-stops g c =
    let p = err_from_is_err_and c.from_residual-in_err-hand_over-in-Err-LineTooLong.result c.from_residual-in_err-hand_over-in-Err-LineTooLong.ensures.1 in
    rw (p.1, p.2) (λ start begin text has left.
    let long = c.in-Err-LineTooLong.ensures.long has.going (ap Err c.in-Err-LineTooLong.field-0-is) in
    let cut = long.1 ∙ ap (λ (before : List (List ℕ)). before ++ long.0) c.clear.ensures in
    long-broke g.T.Taker.acts start begin c.args.self.now text c.args.piece.now c.args.taker.now c.args.host.now has c.in_err-hand_over-in-Err-LineTooLong.field-0.0 long.0 c.hand_over-in-Err-LineTooLong.new.taker c.hand_over-in-Err-LineTooLong.new.host left long.2
    (rw (c.in_err-hand_over-in-Err-LineTooLong.was, cut) at
    (handed g.T.Taker.acts start begin c.args.self.now text c.args.piece.now c.args.taker.now c.args.host.now has c.hand_over-in-Err-LineTooLong.result c.hand_over-in-Err-LineTooLong.new.taker c.hand_over-in-Err-LineTooLong.new.host
    c.feed.new.out c.hand_over-in-Err-LineTooLong.ensures.handed)))

pub overflow_add-self : goal.overflow_add-self
overflow_add-self g c =
    let room = c.requires.room in
    let long = c.in-Err-LineTooLong.ensures.long room.3.going (ap Err c.in-Err-LineTooLong.field-0-is) in
    let cut = long.1 ∙ ap (λ (before : List (List ℕ)). before ++ long.0) c.clear.ensures in
    omega (
      arith,
      ap (λ (l : List (List ℕ)). length l) cut,
      c.in_ok-hand_over-in-Err-LineTooLong.ensures.count,
      long-few g.T.Taker.acts room.0 room.1 c.args.self.now room.2 c.args.piece.now c.args.taker.now c.args.host.now room.3 long.0 long.2 room.4,
    )

pub overflow-requires-clause-few : goal.overflow-requires-clause-few
overflow-requires-clause-few g c =
    let room = c.requires.room in
    let long = c.in-Err-LineTooLong.ensures.long room.3.going (ap Err c.in-Err-LineTooLong.field-0-is) in
    let cut = long.1 ∙ ap (λ (before : List (List ℕ)). before ++ long.0) c.clear.ensures in
    omega (
      arith,
      ap (λ (l : List (List ℕ)). length l) cut,
      c.in_ok-hand_over-in-Err-LineTooLong.ensures.count,
      long-few g.T.Taker.acts room.0 room.1 c.args.self.now room.2 c.args.piece.now c.args.taker.now c.args.host.now room.3 long.0 long.2 room.4,
    )

pub returns-in_ok-hand_over-in-Ok-clause-goes_on : goal.returns-in_ok-hand_over-in-Ok-clause-goes_on
returns-in_ok-hand_over-in-Ok-clause-goes_on g c =
    let cut = c.in-Ok.ensures.lines ∙ ap (λ (before : List (List ℕ)). before ++ lines (c.args.self.now.splitter.rest ++ c.args.piece.now)) c.clear.ensures in
    on_ok-by c.pause.result _ (λ is start begin text has.
    piece-taken g.T.Taker.acts start begin c.args.self.now text c.args.piece.now c.args.taker.now c.args.host.now has _ c.pause.result c.hand_over.new.taker c.pause.new.self c.hand_over.new.host c.pause.new.host c.in-Ok.ensures.short
    (rw (c.in_ok-hand_over-in-Ok.was, cut) at (handed g.T.Taker.acts start begin c.args.self.now text c.args.piece.now c.args.taker.now c.args.host.now has c.hand_over.result c.hand_over.new.taker c.hand_over.new.host c.feed.new.out c.hand_over.ensures.handed))
    c.pause.ensures.pauses is c.in-Ok.ensures.refused c.in-Ok.ensures.rest c.in-Ok.ensures.held (c.in_ok-hand_over-in-Ok.ensures.count ∙ ap (λ (l : List (List ℕ)). c.args.self.now.count + length l) cut))

pub returns-in_ok-hand_over-in-Ok-clause-stops : goal.returns-in_ok-hand_over-in-Ok-clause-stops
returns-in_ok-hand_over-in-Ok-clause-stops g c =
    let cut = c.in-Ok.ensures.lines ∙ ap (λ (before : List (List ℕ)). before ++ lines (c.args.self.now.splitter.rest ++ c.args.piece.now)) c.clear.ensures in
    if_err-by c.pause.result _ (λ status is start begin text has left.
    pause-ended g.T.Taker.acts start begin c.args.self.now text c.args.piece.now c.args.taker.now c.args.host.now has status c.pause.result c.hand_over.new.taker c.pause.new.self c.hand_over.new.host c.pause.new.host left c.in-Ok.ensures.short
    (rw (c.in_ok-hand_over-in-Ok.was, cut) at (handed g.T.Taker.acts start begin c.args.self.now text c.args.piece.now c.args.taker.now c.args.host.now has c.hand_over.result c.hand_over.new.taker c.hand_over.new.host c.feed.new.out c.hand_over.ensures.handed))
    c.pause.ensures.pauses is)

pub returns-in_ok-hand_over-in-Err-LineTooLong-clause-stops : goal.returns-in_ok-hand_over-in-Err-LineTooLong-clause-stops
returns-in_ok-hand_over-in-Err-LineTooLong-clause-stops g c start begin text has left =
    let long = c.in-Err-LineTooLong.ensures.long has.going (ap Err c.in-Err-LineTooLong.field-0-is) in
    let cut = long.1 ∙ ap (λ (before : List (List ℕ)). before ++ long.0) c.clear.ensures in
    long-ended g.T.Taker.acts start begin c.args.self.now text c.args.piece.now c.args.taker.now c.args.host.now has c.overflow.result (c.hand_over-in-Err-LineTooLong.new.count + 1) long.0 c.hand_over-in-Err-LineTooLong.new.taker c.overflow.new.self
    c.hand_over-in-Err-LineTooLong.new.host c.overflow.new.host left long.2
    (rw (c.in_ok-hand_over-in-Err-LineTooLong.was, cut) at
    (handed g.T.Taker.acts start begin c.args.self.now text c.args.piece.now c.args.taker.now c.args.host.now has c.hand_over-in-Err-LineTooLong.result c.hand_over-in-Err-LineTooLong.new.taker c.hand_over-in-Err-LineTooLong.new.host
    c.feed.new.out c.hand_over-in-Err-LineTooLong.ensures.handed))
    (omega (arith, c.in_ok-hand_over-in-Err-LineTooLong.ensures.count, ap (λ (l : List (List ℕ)). length l) cut)) c.overflow.ensures.overflows

pub returns-in-Err-clause-stops : goal.returns-in-Err-clause-stops
returns-in-Err-clause-stops g c start begin text has left =
    piece-want g.T.Taker.acts start begin c.args.self.now text c.args.piece.now c.args.taker.now c.args.host.now has Memory left refl
