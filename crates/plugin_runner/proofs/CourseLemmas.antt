-- What a runner does with its course, step by step.
use Rattle.std.proofs.Common.{◌≡◌, ◌≢◌, ℕ, ◌==◌, ◌+◌, ◌≤◌, Bool, true, false, List, [], ◌∷◌, ◌++◌, length, ℤ, pos, Option, Some, None, Result, Ok, Err, IsErr, refl, sym, ap, ◌∙◌, subst, arith, append_assoc, append-nil, if◌then◌else◌}
use Rattle.std.specs.List.{AllPass}
use Rattle.std.specs.Ordering.{int_eq}
use Rattle.std.proofs.lemmas.Bool.Decides.{Decides-int_eq, Decides-eqb}
use Rattle.std.specs.Result.{is_err, OnOk, OnErr}
use Rattle.host_model.specs.Spawner.{Children}
use Rattle.plugin_text.specs.Lines.{parts, lines, rest, fits, HasNoLongLine, IsLongAfter, IsRest}
use Rattle.plugin_text.proofs.LongLemmas.{AllPass-lines}
use Rattle.plugin_text.proofs.PartsLemmas.{parts_first, parts_whole}
use Rattle.plugin_runner.specs.declared.fault.RunFault.{RunFault}
use Rattle.plugin_runner.specs.declared.fault.RunFault.TheVariants as fault
use Rattle.plugin_runner.specs.declared.fault.Turn.{Turn}
use Rattle.plugin_runner.specs.declared.fault.Turn.TheVariants.{More, Ended}
use Rattle.plugin_runner.specs.declared.follower.Follower.{Follower}
use Rattle.plugin_runner.specs.declared.runner.Ending.{Ending}
use Rattle.plugin_runner.specs.declared.runner.Ending.TheVariants as ending
use Rattle.plugin_runner.specs.declared.runner.Phase.TheVariants.{Ready, Runs, Over}
use Rattle.plugin_runner.specs.declared.runner.Runner.{Runner}
use Rattle.plugin_runner.specs.Bytes.{bytes, bytes_of, IsPrefix}
use Rattle.plugin_runner.specs.Course.{Course, Start, Bytes, End, children_after, course_after, text_of, IsRunning, HasEnded, IsTold, MayStart, Waits, Listens, Keeps, IsRunnerOf, answer_after, answer_at_end}
use Rattle.plugin_runner.specs.Follower.{Follows}
use Rattle.plugin_runner.specs.Goes.{Advances, Goes, IsAt, Lands, ending_of}
use Rattle.plugin_runner.specs.Looking.{beats_begun}
use Rattle.plugin_runner.specs.Runner.{IsFault, answer_of, answer_in}
use Rattle.plugin_runner.specs.Steps.{Puts, PutsPrefix, PutsAll, PutsUpTo, PutsSome}
use Rattle.plugin_runner.specs.Text.{Open, Closed, Heard, hear, at_end, said, text, after, close}
use Rattle.plugin_runner.proofs.ChildLemmas.{quiet, bytes-more, bytes-none, running-bytes, length-bytes, length-end, text-start, text-end, answer-running, answer-end}
use Rattle.plugin_runner.proofs.HearLemmas.{hear-lines, hear-disabled, hear-prefix, hear-grows, hear-rest, hear-long, alone}
use Rattle.plugin_runner.proofs.StepLemmas.{prefix-trans, le-trans}

-- ---- a runner and its phase
pub listens-open : (runner : Runner) (course : Course) (l : Listens runner course) (later : List ℕ) → text_of course later ≡ Open l.past
listens-open runner course l later =
    let rs = course.readings ++ later in
    ap (text course.origin rs) (sym (bytes-none course.children)) ∙ l.leads later []
    ∙ ap (λ (b : List ℕ). hear course.origin rs l.past (parts b)) (append-nil runner.splitter.rest) ∙ hear-rest course.origin rs l.past runner.splitter.rest l.held

listens-tells : (runner : Runner) (course : Course) (l : Listens runner course) (later : List ℕ) → IsTold None course (text_of course later)
listens-tells runner course l later =
    subst (λ whole. IsTold None course whole) (sym (listens-open runner course l later)) (l.told, sym (answer-running course.starts l.past course.children l.running), l.follows.count)

pub listens-runner : (runner : Runner) (course : Course) → runner.phase ≡ Runs → Listens runner course → IsRunnerOf runner course
listens-runner runner course phase l = record {
  tells = λ later. subst (λ p. IsTold (answer_in p) course (text_of course later)) (sym phase) (listens-tells runner course l later);
  keeps = subst (λ p. Keeps p runner course) (sym phase) l;
}

pub runner-listens : (runner : Runner) (course : Course) → runner.phase ≡ Runs → IsRunnerOf runner course → Listens runner course
runner-listens runner course phase r = subst (λ p. Keeps p runner course) phase r.keeps

pub runner-waits : (runner : Runner) (course : Course) → runner.phase ≡ Ready → IsRunnerOf runner course → Waits runner course
runner-waits runner course phase r = subst (λ p. Keeps p runner course) phase r.keeps

pub waits-start : (runner : Runner) (course : Course) → Waits runner course → MayStart course
waits-start runner course w = (w.ended, omega (arith, w.count))

pub over-runner : (runner : Runner) (course : Course) (ending : Ending) → runner.phase ≡ Over ending
    → ((later : List ℕ) → IsTold (Some (answer_of ending)) course (text_of course later)) → IsRunnerOf runner course
over-runner runner course ending phase tells = record {
  tells = λ later. subst (λ p. IsTold (answer_in p) course (text_of course later)) (sym phase) (tells later);
  keeps = subst (λ p. Keeps p runner course) (sym phase) tt;
}

-- nothing happened
pub Advances-nothing : (runner : Runner) (course : Course) (ahead : Option (List ℕ)) (out : List ℕ) → IsRunnerOf runner course → Advances None course runner ahead ahead out out
Advances-nothing runner course ahead out r = record {
  taken = [];
  reads = refl;
  added = [];
  wrote = sym (append-nil out);
  next = subst (IsRunnerOf runner) (sym (quiet None course)) r;
}

-- there was no memory to start a child
pub Advances-memory : (old new : Runner) (course : Course) (ahead : Option (List ℕ)) (out : List ℕ) → Waits old course → new.phase ≡ Over ending.Memory
    → Advances None course new ahead ahead out out
Advances-memory old new course ahead out w phase = record {
  taken = [];
  reads = refl;
  added = [];
  wrote = sym (append-nil out);
  next = subst (IsRunnerOf new) (sym (quiet None course))
      (over-runner new course ending.Memory phase
      (λ later. subst (λ t. IsTold (Some (Err fault.Memory)) course t) (sym (w.leads later)) (([], sym w.told ∙ sym (append-nil course.told)), omega (arith, w.follows.count))));
}

-- ---- a start
pub Advances-start : (runner : Runner) (course : Course) (ahead : Option (List ℕ)) (out : List ℕ) → Waits runner course
    → Advances (Some Start) course (record runner { phase = Runs }) ahead ahead out out
Advances-start runner course ahead out w =
    let new : Runner = record runner { phase = Runs } in
    let next : Course = record course { children = children_after (Some Start) course.children } in
    let listens : Listens new next = record {
      words = w.words;
      count = omega (arith, w.count);
      running = refl;
      past = w.past;
      leads = λ later more.
          text-start course.origin (course.readings ++ later) more course.children w.past (w.leads later)
          ∙ ap (λ (r : List ℕ). hear course.origin (course.readings ++ later) w.past (parts (r ++ more))) (sym w.empty);
      follows = w.follows;
      told = w.told;
      held = subst IsRest (sym w.empty) (record { no_line_feed = refl; short = refl });
      going = w.going;
    } in
    record {
      taken = [];
      reads = refl;
      added = [];
      wrote = sym (append-nil out);
      next = subst (IsRunnerOf new) (sym (quiet (Some Start) course)) (listens-runner new next refl listens);
    }

-- ---- a piece
module _ (old : Runner) (course : Course) (piece : List ℕ) (l : Listens old course) where
  text-piece : (taken later more : List ℕ) → text course.origin ((course.readings ++ taken) ++ later) (children_after (Some (Bytes more)) (children_after (Some (Bytes piece)) course.children))
      ≡ hear course.origin ((course.readings ++ taken) ++ later) l.past (parts (old.splitter.rest ++ (piece ++ more)))
  text-piece taken later more =
      let all : (course.readings ++ taken) ++ later ≡ course.readings ++ (taken ++ later) = append_assoc course.readings taken later in
      ap (text course.origin ((course.readings ++ taken) ++ later)) (bytes-more piece more course.children)
      ∙ ap (λ (r : List ℕ). text course.origin r (children_after (Some (Bytes (piece ++ more))) course.children)) all
      ∙ l.leads (taken ++ later) (piece ++ more)
      ∙ ap (λ (r : List ℕ). hear course.origin r l.past (parts (old.splitter.rest ++ (piece ++ more)))) (sym all)

  text-now : (taken added later : List ℕ) → text_of (course_after (Some (Bytes piece)) taken added course) later
      ≡ hear course.origin ((course.readings ++ taken) ++ later) l.past (parts (old.splitter.rest ++ piece))
  text-now taken added later =
      ap (text course.origin ((course.readings ++ taken) ++ later)) (sym (bytes-none (children_after (Some (Bytes piece)) course.children)))
      ∙ text-piece taken later []
      ∙ ap (λ (b : List ℕ). hear course.origin ((course.readings ++ taken) ++ later) l.past (parts (old.splitter.rest ++ b))) (append-nil piece)

  module _ (ls : List (List ℕ)) (is : ls ≡ lines (old.splitter.rest ++ piece)) (short : HasNoLongLine (old.splitter.rest ++ piece)) where
    whole : parts (old.splitter.rest ++ piece) ≡ ls ++ rest (old.splitter.rest ++ piece) ∷ []
    whole = parts_whole (old.splitter.rest ++ piece) ∙ ap (λ (xs : List (List ℕ)). xs ++ rest (old.splitter.rest ++ piece) ∷ []) (sym is)

    fit : AllPass fits ls
    fit = subst (AllPass fits) (sym is) (AllPass-lines (old.splitter.rest ++ piece) short)

  -- all its lines were put
  pub listens-all : (ls : List (List ℕ)) → ls ≡ lines (old.splitter.rest ++ piece) → HasNoLongLine (old.splitter.rest ++ piece)
      → (new : Runner) (ahead ahead' : Option (List ℕ)) (out out' : List ℕ) → new.words ≡ old.words → new.restarts ≡ old.restarts → IsRest new.splitter.rest
      → new.splitter.refused ≡ None → ((more : List ℕ) → parts (old.splitter.rest ++ (piece ++ more)) ≡ lines (old.splitter.rest ++ piece) ++ parts (new.splitter.rest ++ more))
      → (p : PutsAll ls old.follower new.follower ahead ahead' out out') → Listens new (course_after (Some (Bytes piece)) p.puts.taken p.puts.added course)
  listens-all ls is short new ahead ahead' out out' words restarts held going onward p =
      let puts = p.puts in
      let r = puts.goes course.origin course.readings l.past l.follows in
      record {
        words = words ∙ l.words;
        count = omega (arith, l.count, restarts, length-bytes piece course.children);
        running = running-bytes piece course.children l.running;
        past = r.lines;
        leads = λ later more.
            let rs = (course.readings ++ puts.taken) ++ later in
            let some = parts_first (new.splitter.rest ++ more) in
            text-piece puts.taken later more
            ∙ ap (hear course.origin rs l.past) (onward more ∙ ap (λ (xs : List (List ℕ)). xs ++ parts (new.splitter.rest ++ more)) (sym is) ∙ ap (λ (ps : List (List ℕ)). ls ++ ps) some.2)
            ∙ hear-lines course.origin rs ls l.past some.0 some.1 p.plain (fit ls is short)
            ∙ ap (λ (ps : List (List ℕ)). hear course.origin rs (after ls course.origin rs l.past) ps) (sym some.2)
            ∙ ap (λ (past : List (List ℕ)). hear course.origin rs past (parts (new.splitter.rest ++ more))) (r.leads later);
        follows = r.follows;
        told = ap (λ (t : List ℕ). t ++ puts.added) l.told ∙ sym r.whole;
        held = held;
        going = going;
      }

  -- its lines were put up to one that says DISABLE
  pub tells-disabled : (ls : List (List ℕ)) → ls ≡ lines (old.splitter.rest ++ piece) → HasNoLongLine (old.splitter.rest ++ piece) → (new : Follower) (ahead ahead' : Option (List ℕ)) (out out' : List ℕ)
      → (p : PutsUpTo ls old.follower new ahead ahead' out out') → (later : List ℕ)
      → IsTold (Some (Err (fault.Disabled None))) (course_after (Some (Bytes piece)) p.puts.taken p.puts.added course) (text_of (course_after (Some (Bytes piece)) p.puts.taken p.puts.added course) later)
  tells-disabled ls is_lines short new ahead ahead' out out' p later =
      let puts = p.puts in
      let tail = rest (old.splitter.rest ++ piece) in
      let r = puts.goes course.origin course.readings l.past l.follows in
      let rs = (course.readings ++ puts.taken) ++ later in
      let next : Course = course_after (Some (Bytes piece)) puts.taken puts.added course in
      let is : text_of next later ≡ Closed r.lines [] =
      text-now puts.taken puts.added later
      ∙ ap (hear course.origin rs l.past) (whole ls is_lines short ∙ ap (λ (xs : List (List ℕ)). xs ++ tail ∷ []) p.whole)
      ∙ hear-disabled course.origin rs p.prefix p.last p.more l.past tail [] p.plain (subst (AllPass fits) p.whole (fit ls is_lines short)) p.says
      ∙ ap (λ (past : List (List ℕ)). Closed past []) (r.leads later) in
      let told : next.told ≡ bytes r.lines ++ [] = ap (λ (t : List ℕ). t ++ puts.added) l.told ∙ sym r.whole ∙ sym (append-nil (bytes r.lines)) in
      subst (λ t. IsTold (Some (Err (fault.Disabled None))) next t) (sym is) (told, refl, r.follows.count)

  -- it makes a line too long
  pub tells-long : (handed : List (List ℕ)) → IsLongAfter (old.splitter.rest ++ piece) handed → length (old.splitter.rest ++ piece) ≤ 8193 → (later : List ℕ)
      → IsTold (Some (Ok Ended)) (course_after (Some (Bytes piece)) [] (old.splitter.rest ++ piece) course) (text_of (course_after (Some (Bytes piece)) [] (old.splitter.rest ++ piece) course) later)
  tells-long handed h size later =
      let tail = old.splitter.rest ++ piece in
      let rs = (course.readings ++ []) ++ later in
      let next : Course = course_after (Some (Bytes piece)) [] tail course in
      let is : text_of next later ≡ Closed l.past tail = text-now [] tail later ∙ hear-long course.origin rs l.past tail handed h size in
      let told : next.told ≡ bytes l.past ++ tail = ap (λ (t : List ℕ). t ++ tail) l.told in
      subst (λ t. IsTold (Some (Ok Ended)) next t) (sym is) (told, ends tail (alone tail handed h size).1, ap length (append-nil course.readings) ∙ l.follows.count)
    where
      ends : (tail : List ℕ) → length tail ≡ 8193 → Some (Ok Ended) ≡ answer_after course.starts (Closed l.past tail) (children_after (Some (Bytes piece)) course.children)
      ends [] size = absurd (omega (arith, size))
      ends (byte ∷ tail) size = refl

  -- a prefix of what it asks for was put
  pub tells-prefix : (added : List ℕ) (handed : List (List ℕ)) → IsLongAfter (old.splitter.rest ++ piece) handed → length (old.splitter.rest ++ piece) ≤ 8193
      → IsPrefix added (old.splitter.rest ++ piece) → (later : List ℕ)
      → IsTold (Some (Err fault.Memory)) (course_after (Some (Bytes piece)) [] added course) (text_of (course_after (Some (Bytes piece)) [] added course) later)
  tells-prefix added handed h size prefix later =
      let tail = old.splitter.rest ++ piece in
      let rs = (course.readings ++ []) ++ later in
      let next : Course = course_after (Some (Bytes piece)) [] added course in
      let is : text_of next later ≡ Closed l.past tail = text-now [] added later ∙ hear-long course.origin rs l.past tail handed h size in
      let told : next.told ≡ bytes l.past ++ added = ap (λ (t : List ℕ). t ++ added) l.told in
      let behind : IsPrefix (bytes l.past ++ added) (bytes l.past ++ tail) = (prefix.0, ap (λ (t : List ℕ). bytes l.past ++ t) prefix.1 ∙ sym (append_assoc (bytes l.past) added prefix.0)) in
      let count : length next.readings ≤ beats_begun (said l.past) = omega (arith, ap length (append-nil course.readings), l.follows.count) in
      subst (λ t. IsTold (Some (Err fault.Memory)) next t) (sym is) (subst (λ (t : List ℕ). IsPrefix t (bytes l.past ++ tail)) (sym told) behind, count)

  pub tells-nothing : (later : List ℕ) → IsTold (Some (Err fault.Memory)) (course_after (Some (Bytes piece)) [] [] course) (text_of (course_after (Some (Bytes piece)) [] [] course) later)
  tells-nothing later =
      let rs = (course.readings ++ []) ++ later in
      let next : Course = course_after (Some (Bytes piece)) [] [] course in
      let told : next.told ≡ bytes l.past = append-nil course.told ∙ l.told in
      let grows = hear-grows course.origin rs (parts (old.splitter.rest ++ piece)) l.past in
      let count : length next.readings ≤ beats_begun (said l.past) = omega (arith, ap length (append-nil course.readings), l.follows.count) in
      subst (λ t. IsTold (Some (Err fault.Memory)) next t) (sym (text-now [] [] later))
      (subst (λ (t : List ℕ). IsPrefix t (bytes_of (hear course.origin rs l.past (parts (old.splitter.rest ++ piece))))) (sym told) grows.0, le-trans _ _ _ count grows.1)

  pub tells-some : (ls : List (List ℕ)) → ls ≡ lines (old.splitter.rest ++ piece) → HasNoLongLine (old.splitter.rest ++ piece) → (ahead ahead' : Option (List ℕ)) (out out' : List ℕ)
      → (p : PutsSome ls old.follower ahead ahead' out out') → (later : List ℕ)
      → IsTold (Some (Err fault.Memory)) (course_after (Some (Bytes piece)) p.puts.taken p.puts.added course) (text_of (course_after (Some (Bytes piece)) p.puts.taken p.puts.added course) later)
  tells-some ls is_lines short ahead ahead' out out' p later =
      let puts = p.puts in
      let tail = rest (old.splitter.rest ++ piece) in
      let rs = (course.readings ++ puts.taken) ++ later in
      let next : Course = course_after (Some (Bytes piece)) puts.taken puts.added course in
      let is : text_of next later ≡ hear course.origin rs l.past ((p.prefix ++ p.last ∷ p.more) ++ tail ∷ []) =
      text-now puts.taken puts.added later ∙ ap (hear course.origin rs l.past) (whole ls is_lines short ∙ ap (λ (xs : List (List ℕ)). xs ++ tail ∷ []) p.whole) in
      let told : next.told ≡ bytes l.past ++ puts.added = ap (λ (t : List ℕ). t ++ puts.added) l.told in
      let near = puts.prefix course.origin course.readings l.past l.follows later in
      let far = hear-prefix course.origin rs p.prefix p.last p.more l.past tail [] p.plain (subst (AllPass fits) p.whole (fit ls is_lines short)) in
      subst (λ t. IsTold (Some (Err fault.Memory)) next t) (sym is)
      (subst (λ (t : List ℕ). IsPrefix t (bytes_of (hear course.origin rs l.past ((p.prefix ++ p.last ∷ p.more) ++ tail ∷ [])))) (sym told) (prefix-trans _ _ _ near.0 far.0), le-trans _ _ _ near.1 far.1)

-- ---- the result of a piece
pub lands-memory : {E : Type 0} (result : Result (Option Ending) E) → IsErr result → (piece : List ℕ) (course : Course) (new : Runner) (ahead ahead' : Option (List ℕ)) (out out' : List ℕ)
    → Lands (Some ending.Memory) piece course new ahead ahead' out out' → Lands (ending_of result) piece course new ahead ahead' out out'
lands-memory (Ok put) is piece course new ahead ahead' out out' lands = absurd (cc)
lands-memory (Err e) is piece course new ahead ahead' out out' lands = lands

-- a piece of which more may follow
pub Advances-taken : (end : Option Ending) (piece : List ℕ) (course : Course) (new : Runner) (ahead ahead' : Option (List ℕ)) (out out' : List ℕ) → end ≡ None → new.phase ≡ Runs
    → Lands end piece course new ahead ahead' out out' → Advances (Some (Bytes piece)) course new ahead ahead' out out'
Advances-taken end piece course new ahead ahead' out out' is phase lands =
    let next : Course = course_after (Some (Bytes piece)) lands.taken lands.added course in
    record { taken = lands.taken; reads = lands.reads; added = lands.added; wrote = lands.wrote; next = listens-runner new next phase (subst (λ e. IsAt e new next) is lands.next) }

-- the last piece
pub Advances-over : (end : Option Ending) (e : Ending) (piece : List ℕ) (course : Course) (mid new : Runner) (ahead ahead' : Option (List ℕ)) (out out' : List ℕ) → end ≡ Some e → new.phase ≡ Over e
    → Lands end piece course mid ahead ahead' out out' → Advances (Some (Bytes piece)) course new ahead ahead' out out'
Advances-over end e piece course mid new ahead ahead' out out' is phase lands =
    let next : Course = course_after (Some (Bytes piece)) lands.taken lands.added course in
    record { taken = lands.taken; reads = lands.reads; added = lands.added; wrote = lands.wrote; next = over-runner new next e phase (subst (λ x. IsAt x mid next) is lands.next) }

-- ---- results
pub err_is : {T E : Type 0} (result : Result T E) (P : Type 0) → is_err result ≡ true → OnErr result P → P
err_is (Ok value) P is held = absurd (cc)
err_is (Err fault) P is held = held

pub ok_is : {T E : Type 0} (result : Result T E) (P : Type 0) → is_err result ≡ false → OnOk result P → P
ok_is (Ok value) P is held = held
ok_is (Err fault) P is held = absurd (cc)

pub not_more : (e : Ending) → answer_of e ≡ Ok More → ⊥
not_more ending.Ended is = cc
not_more (ending.Disabled status) is = cc
not_more ending.Memory is = cc

pub not_fault : (e : Ending) → IsFault (answer_of e) → ⊥
not_fault ending.Ended is = is
not_fault (ending.Disabled status) is = is
not_fault ending.Memory is = is

pub not_spawn : (result : Result Turn RunFault) (P : Type 0) → (IsFault result → ⊥) → result ≡ Err fault.SpawnFault → P
not_spawn result P never is = absurd (never (subst IsFault (sym is) tt))

pub not_pipe : (result : Result Turn RunFault) (P : Type 0) → (IsFault result → ⊥) → result ≡ Err fault.PipeFault → P
not_pipe result P never is = absurd (never (subst IsFault (sym is) tt))

pub not_both : (children : List Heard) → HasEnded children → IsRunning children → ⊥
not_both [] ended runs = runs
not_both (child ∷ earlier) ended runs =
    let never : None ≡ Some (pos 0) = sym runs ∙ ended in
    cc never

-- the same call, after one that changed nothing
pub Goes-from : (result : Result Turn RunFault) (course : Course) (old new : Runner) (before before' after : Option Children) (faults faults' later : ℕ) (ahead ahead' : Option (List ℕ)) (out out' : List ℕ)
    → before' ≡ before → faults' ≡ faults → Goes result course old new before after faults later ahead ahead' out out' → Goes result course old new before' after faults' later ahead ahead' out out'
Goes-from result course old new before before' after faults faults' later ahead ahead' out out' same kept goes =
    subst (λ (b : Option Children). Goes result course old new b after faults' later ahead ahead' out out') (sym same)
    (subst (λ (n : ℕ). Goes result course old new before after n later ahead ahead' out out') (sym kept) goes)

-- ---- the end of a child
is_false : (b : Bool) → (b ≡ true → ⊥) → b ≡ false
is_false true never = absurd (never refl)
is_false false never = refl

more_left : (n m k : ℕ) → m ≡ n + k + 1 → (n == m) ≡ false
more_left n m k e = is_false (n == m) (λ is. omega (arith, e, (Decides-eqb n m).0 is))

module _ (old : Runner) (course : Course) (status : ℤ) (l : Listens old course) where
  text-close : (taken added later : List ℕ) → text_of (course_after (Some (End status)) taken added course) later ≡ Open (close course.origin ((course.readings ++ taken) ++ later) l.past)
  text-close taken added later =
      let rs = (course.readings ++ taken) ++ later in
      let all : rs ≡ course.readings ++ (taken ++ later) = append_assoc course.readings taken later in
      text-end course.origin rs status course.children l.running
      ∙ ap (at_end (Some status) course.origin rs) (ap (λ (r : List ℕ). text course.origin r course.children) all ∙ listens-open old course l (taken ++ later))

  pub tells-some_close : (ahead ahead' : Option (List ℕ)) (out out' : List ℕ) (p : PutsPrefix close old.follower ahead ahead' out out') (later : List ℕ)
      → IsTold (Some (Err fault.Memory)) (course_after (Some (End status)) p.taken p.added course) (text_of (course_after (Some (End status)) p.taken p.added course) later)
  tells-some_close ahead ahead' out out' p later =
      let rs = (course.readings ++ p.taken) ++ later in
      let next : Course = course_after (Some (End status)) p.taken p.added course in
      let told : next.told ≡ bytes l.past ++ p.added = ap (λ (t : List ℕ). t ++ p.added) l.told in
      let near = p.prefix course.origin course.readings l.past l.follows later in
      subst (λ t. IsTold (Some (Err fault.Memory)) next t) (sym (text-close p.taken p.added later))
      (subst (λ (t : List ℕ). IsPrefix t (bytes (close course.origin rs l.past))) (sym told) near.0, near.1)

  module _ (follower : Follower) (ahead ahead' : Option (List ℕ)) (out out' : List ℕ) (p : Puts close old.follower follower ahead ahead' out out') where
    abbrev next : Course
    next = course_after (Some (End status)) p.taken p.added course

    abbrev those : List (List ℕ)
    those = (p.goes course.origin course.readings l.past l.follows).lines

    text-next : (later : List ℕ) → text_of next later ≡ Open those
    text-next later = text-close p.taken p.added later ∙ ap Open ((p.goes course.origin course.readings l.past l.follows).leads later)

    told-next : next.told ≡ bytes those
    told-next = ap (λ (t : List ℕ). t ++ p.added) l.told ∙ sym (p.goes course.origin course.readings l.past l.follows).whole

    count-next : length next.readings ≡ beats_begun (said those)
    count-next = (p.goes course.origin course.readings l.past l.follows).follows.count

    answer-next : answer_after course.starts (Open those) next.children ≡ answer_at_end (Some status) course.starts (length course.children)
    answer-next = answer-end course.starts those status course.children l.running

    pub tells-status : status ≢ pos 0 → (later : List ℕ) → IsTold (Some (Err (fault.Disabled (Some status)))) next (text_of next later)
    tells-status other later =
        let test : int_eq status (pos 0) ≡ false = is_false (int_eq status (pos 0)) (λ is. other ((Decides-int_eq status (pos 0)).0 is)) in
        let answer : Some (Err (fault.Disabled (Some status))) ≡ answer_after course.starts (Open those) next.children =
        sym (answer-next ∙ ap (λ (b : Bool). if b then (if length course.children == course.starts then Some (Ok Ended) else None) else Some (Err (fault.Disabled (Some status)))) test) in
        subst (λ t. IsTold (Some (Err (fault.Disabled (Some status)))) next t) (sym (text-next later)) (told-next, answer, count-next)

    module _ (zero_is : status ≡ pos 0) where
      answer-zero : answer_after course.starts (Open those) next.children ≡ (if length course.children == course.starts then Some (Ok Ended) else None)
      answer-zero =
          answer-next
          ∙ ap (λ (b : Bool). if b then (if length course.children == course.starts then Some (Ok Ended) else None) else Some (Err (fault.Disabled (Some status)))) ((Decides-int_eq status (pos 0)).1 zero_is)

      pub tells-ended : old.restarts ≡ 0 → (later : List ℕ) → IsTold (Some (Ok Ended)) next (text_of next later)
      tells-ended none later =
          let all : length course.children ≡ course.starts = omega (arith, l.count, none) in
          let answer : Some (Ok Ended) ≡ answer_after course.starts (Open those) next.children =
          sym (answer-zero ∙ ap (λ (b : Bool). if b then Some (Ok Ended) else None) ((Decides-eqb (length course.children) course.starts).1 all)) in
          subst (λ t. IsTold (Some (Ok Ended)) next t) (sym (text-next later)) (told-next, answer, count-next)

      ended-end : (children : List Heard) → IsRunning children → HasEnded (children_after (Some (End status)) children)
      ended-end [] none = absurd none
      ended-end (child ∷ earlier) runs = ap Some zero_is

      pub waits-again : (new : Runner) → new.phase ≡ Ready → new.words ≡ old.words → old.restarts ≡ new.restarts + 1 → new.follower ≡ follower → new.splitter.rest ≡ [] → new.splitter.refused ≡ None
          → IsRunnerOf new next
      waits-again new phase words restarts same empty going =
          let r = p.goes course.origin course.readings l.past l.follows in
          let not_all : (length course.children == course.starts) ≡ false = more_left (length course.children) course.starts new.restarts (omega (arith, l.count, restarts)) in
          let answer : None ≡ answer_after course.starts (Open those) next.children = sym (answer-zero ∙ ap (λ (b : Bool). if b then Some (Ok Ended) else None) not_all) in
          let waits : Waits new next = record {
            words = words ∙ l.words;
            count = omega (arith, l.count, restarts, length-end status course.children);
            ended = ended-end course.children l.running;
            past = those;
            leads = text-next;
            follows = subst (λ f. Follows f course.origin next.readings (said those)) (sym same) r.follows;
            told = told-next;
            empty = empty;
            going = going;
          } in
          record {
            tells = λ later. subst (λ ph. IsTold (answer_in ph) next (text_of next later)) (sym phase) (subst (λ t. IsTold None next t) (sym (text-next later)) (told-next, answer, count-next));
            keeps = subst (λ ph. Keeps ph new next) (sym phase) waits;
          }
