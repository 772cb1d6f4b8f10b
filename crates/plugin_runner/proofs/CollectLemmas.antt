-- One turn of a collector, and the text that it puts.
use Rattle.std.proofs.Common.{◌≡◌, ℕ, ◌+◌, ◌<◌, min, List, [], ◌++◌, length, take, Option, Result, Ok, refl, sym, ap, ◌∙◌, subst, inl, inr, length-append, arith}
use Rattle.std.proofs.Math.Seq.{take-append-add}
use Rattle.std.proofs.lemmas.Bool.{cases_lt}
use Rattle.std.proofs.lemmas.List.{take_all, length-take-le}
use Rattle.host_model.specs.Spawner.{Children}
use Rattle.host_model.specs.declared.status.Status.TheVariants.{InputLimit}
use Rattle.line_stream.specs.Chain.{Acts}
use Rattle.line_stream.specs.Run.{input_limit, Ended, at_limit}
use Rattle.line_stream.specs.Stream.{HasTaken}
use Rattle.line_stream.specs.declared.stream.Stream.{Stream}
use Rattle.plugin_runner.specs.declared.collecting.Halt.{Halt}
use Rattle.plugin_runner.specs.declared.fault.RunFault.{RunFault}
use Rattle.plugin_runner.specs.declared.fault.Turn.{Turn}
use Rattle.plugin_runner.specs.declared.fault.Turn.TheVariants.{More}
use Rattle.plugin_runner.specs.declared.runner.Runner.{Runner}
use Rattle.plugin_runner.specs.Collected.{Collected, Halts, HasTurned, one_turn}
use Rattle.plugin_runner.specs.Collecting.{HasPut}
use Rattle.plugin_runner.specs.Course.{Course, IsTold, course_after, text_of}
use Rattle.plugin_runner.specs.Goes.{Goes, Hears}
use Rattle.plugin_runner.specs.Reads.{Reads}
use Rattle.plugin_runner.specs.Runner.{if_lasting, lasting_answer}
use Rattle.plugin_runner.proofs.StepLemmas.{Reads-append}

-- ---- the prefix of a text that may be taken

pub prefix_is : (text out : List ℕ) (budget size : ℕ) → length text + budget ≡ input_limit → size ≡ min budget (length out) → text ++ take size out ≡ take input_limit (text ++ out)
prefix_is text out budget size spent is =
    ap (λ (l : List ℕ). text ++ l) (elim (cases_lt budget (length out)) [
      | inl less ↦ ap (λ (n : ℕ). take n out) (omega (arith, is, less))
      | inr not_less ↦ take_all size out (omega (arith, is, not_less)) ∙ sym (take_all budget out (omega (arith, not_less)))
    ])
    ∙ sym (take-append-add text out budget) ∙ ap (λ (n : ℕ). take n (text ++ out)) spent

pub size_is : (out : List ℕ) (budget size : ℕ) → size ≡ min budget (length out) → length (take size out) ≡ size
size_is out budget size is = length-take-le size out (omega (arith, is))

-- below the limit all was taken
pub all_is : (out : List ℕ) (budget size : ℕ) → size ≡ min budget (length out) → (size ≡ budget → ⊥) → take size out ≡ out
all_is out budget size is below = take_all size out (elim (cases_lt budget (length out)) [ inl less ↦ absurd (below (omega (arith, is, less))) | inr not_less ↦ omega (arith, is, not_less) ])

pub below_limit : (text out : List ℕ) (budget size : ℕ) → length text + budget ≡ input_limit → size ≡ min budget (length out) → (size ≡ budget → ⊥) → length (text ++ take size out) < input_limit
below_limit text out budget size spent is below =
    elim (cases_lt size budget) [ inl less ↦ omega (arith, length-append text (take size out), size_is out budget size is, spent, less) | inr not_less ↦ absurd (below (omega (arith, is, not_less))) ]

-- ---- a turn
pub ok_is : (answer : Result Turn RunFault) (one other : Turn) → answer ≡ Ok one → one ≡ other → answer ≡ Ok other
ok_is answer one other is same = is ∙ ap Ok same

module _ (begin : Course) (text : List ℕ) (old new : Runner) (answer : Result Turn RunFault) (before now after : Option Children) (first ahead ahead' : Option (List ℕ)) (faults faults' : ℕ) (none out : List ℕ) (empty : none ≡ []) (put : HasPut begin old text before now first ahead) (goes : Goes answer put.course old new now after faults faults' ahead ahead' none out) where
  told_next : put.course.told ++ goes.advances.added ≡ text ++ out
  told_next =
      ap (λ (l : List ℕ). l ++ goes.advances.added) put.told ∙ ap (λ (l : List ℕ). text ++ l) (sym (goes.advances.wrote ∙ ap (λ (l : List ℕ). l ++ goes.advances.added) empty))

  reads_next : Reads first (put.course.readings ++ goes.advances.taken) ahead'
  reads_next = Reads-append first put.course.readings goes.advances.taken ahead ahead' put.reads goes.advances.reads

  has_turned : lasting_answer new ≡ if_lasting answer → HasTurned answer begin (course_after goes.event goes.advances.taken goes.advances.added put.course) before after first ahead'
  has_turned lasting = record {
    earlier = put.course;
    now = now;
    turns = put.turns;
    event = goes.event;
    taken = goes.advances.taken;
    added = goes.advances.added;
    faults = faults;
    faults' = faults';
    last = goes.hears;
    is = refl;
    reads = reads_next;
    tells = λ later.
        subst (λ (l : Option (Result Turn RunFault)). IsTold l (course_after goes.event goes.advances.taken goes.advances.added put.course) (text_of (course_after goes.event goes.advances.taken goes.advances.added put.course) later)) lasting
        (goes.advances.next.tells later);
  }

  pub put-next : answer ≡ Ok More → HasPut begin new (text ++ out) before after first ahead'
  put-next more = record {
    course = course_after goes.event goes.advances.taken goes.advances.added put.course;
    turns = one_turn put.course goes.event goes.advances.taken goes.advances.added now after faults faults' put.turns
        (subst (λ (a : Result Turn RunFault). Hears put.course (if_lasting a) goes.event now after faults faults') more goes.hears);
    told = told_next;
    reads = reads_next;
    is = goes.advances.next;
  }

  pub collected : {T H : Type 0} (acts : Acts T H) (halt : Halt) (taker taker' : T) (host host' : H) (budget size : ℕ) → lasting_answer new ≡ if_lasting answer → length text + budget ≡ input_limit → size ≡ min budget (length out)
      → Halts acts halt answer taker host (text ++ take size out) taker' host' → Collected acts halt begin taker host taker' host' before after first ahead'
  collected acts halt taker taker' host host' budget size lasting spent is halted = record {
    course = course_after goes.event goes.advances.taken goes.advances.added put.course;
    answer = answer;
    turned = has_turned lasting;
    text = text ++ take size out;
    takes = prefix_is text out budget size spent is ∙ ap (take input_limit) (sym told_next);
    halted = halted;
  }

-- ---- the limit
pub limit-ended : {T H : Type 0} (acts : Acts T H) (stream : Stream) (taker taker' : T) (host host' : H) (text out : List ℕ) (budget size : ℕ) → length text + budget ≡ input_limit → size ≡ min budget (length out) → size ≡ budget
    → HasTaken acts stream taker host (text ++ take size out) taker' host' → (left : Option (List ℕ)) → Ended acts InputLimit taker host (text ++ take size out) taker' host' left ⊥
limit-ended acts stream taker taker' host host' text out budget size spent is full has left =
    at_limit refl (omega (arith, length-append text (take size out), size_is out budget size is, spent, full)) has.took
