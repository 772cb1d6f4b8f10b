-- Turns over a spawner that tells its children.
use Rattle.std.proofs.Common.{◌≡◌, ℕ, List, ◌++◌, Option, Some, None, Result, inl, inr, refl, sym, ap, ◌∙◌, subst}
use Rattle.std.specs.Option.{option_map}
use Rattle.host_model.specs.Spawner.{Child, Children, before_bytes, after_start, after_end}
use Rattle.plugin_runner.specs.declared.fault.RunFault.{RunFault}
use Rattle.plugin_runner.specs.declared.fault.Turn.{Turn}
use Rattle.plugin_runner.specs.Bytes.{bytes_of, IsPrefix}
use Rattle.plugin_runner.specs.Collected.{Turns, no_turn, one_turn, HasTurned}
use Rattle.plugin_runner.specs.Course.{Course, Event, Start, Bytes, End, new_course, text_of, answer_after}
use Rattle.plugin_runner.specs.Goes.{Hears, IsLeft}
use Rattle.plugin_runner.specs.Run.{Run, begins, goes_on, Ran, whole_children}
use Rattle.plugin_runner.specs.Runner.{if_lasting}
use Rattle.plugin_runner.specs.Text.{Origin, text}
use Rattle.plugin_runner.specs.Words.{start_words}
use Rattle.plugin_runner.proofs.RunLemmas.{ran_of, run_last, Last}
use Rattle.plugin_runner.proofs.StepLemmas.{prefix-trans}
use Rattle.plugin_runner.proofs.WholeLemmas.{last-prefix, last-whole, told-prefix}

-- a spawner that tells its children tells them after each turn
left_some : (answer : Option (Result Turn RunFault)) (old : Children) (bytes : List ℕ) (between after : Option Children) (faults faults' : ℕ) → Some old ≡ option_map (before_bytes bytes) between
    → IsLeft answer between after faults faults' → (new : Children) × (after ≡ Some new)
left_some answer old bytes None after faults faults' took left =
    let never : Some old ≡ None = took in
    absurd (cc never)
left_some None old bytes (Some mid) after faults faults' took left = (mid, left)
left_some (Some last) old bytes (Some mid) after faults faults' took (inl ended) = (after_end mid, ended)
left_some (Some last) old bytes (Some mid) after faults faults' took (inr stays) = (mid, stays.0)

some_after : (course : Course) (answer : Option (Result Turn RunFault)) (event : Option Event) (old : Children) (after : Option Children) (faults faults' : ℕ) → Hears course answer event (Some old) after faults faults'
    → (new : Children) × (after ≡ Some new)
some_after course answer None old after faults faults' hears = (old, hears)
some_after course answer (Some Start) old after faults faults' hears = (after_start (start_words course.words course.origin.every) old, hears.1.started)
some_after course answer (Some (Bytes bytes)) old after faults faults' hears = left_some answer old bytes hears.1.between after faults faults' hears.1.took hears.1.left
some_after course answer (Some (End status)) old after faults faults' hears = (after_end old, hears.1.ended)

module _ (coming : List Child) (words : List (List ℕ)) (every starts last : ℕ) (begun : List (List (List ℕ))) where
  turns_run : (course : Course) (now : Option Children) → Turns (new_course words every starts last) (Some (record { starts = begun; running = None; coming = coming })) course now
      → (here : Children) × (now ≡ Some here) × Run coming course here
  turns_run course now no_turn = (record { starts = begun; running = None; coming = coming }, refl, begins words every starts last begun)
  turns_run course now (one_turn earlier event taken added mid after faults faults' turns hears) =
      let before = turns_run earlier mid turns in
      let heard : Hears earlier None event (Some before.0) after faults faults' = subst (λ (m : Option Children). Hears earlier None event m after faults faults') before.1 hears in
      let next = some_after earlier None event before.0 after faults faults' heard in
      (next.0, next.1, goes_on earlier event taken added before.0 next.0 faults faults' before.2 (subst (λ (a : Option Children). Hears earlier None event (Some before.0) a faults faults') next.1 heard))

  turns_same : (course : Course) (now : Option Children) → Turns (new_course words every starts last) (Some (record { starts = begun; running = None; coming = coming })) course now
      → (course.starts ≡ starts) × (course.origin ≡ record { every = every; last = last })
  turns_same course now no_turn = (refl, refl)
  turns_same course now (one_turn earlier event taken added mid after faults faults' turns hears) = turns_same earlier mid turns

  module _ (course : Course) (answer : Result Turn RunFault) (after : Option Children) (ahead ahead' : Option (List ℕ))
      (turned : HasTurned answer (new_course words every starts last) course (Some (record { starts = begun; running = None; coming = coming })) after ahead ahead') where
    turned_last : Last coming course.starts course.children
    turned_last =
        let before = turns_run turned.earlier turned.now turned.turns in
        let heard : Hears turned.earlier (if_lasting answer) turned.event (Some before.0) after turned.faults turned.faults' =
        subst (λ (m : Option Children). Hears turned.earlier (if_lasting answer) turned.event m after turned.faults turned.faults') before.1 turned.last in
        let next = some_after turned.earlier (if_lasting answer) turned.event before.0 after turned.faults turned.faults' heard in
        let last_of_turn = run_last coming turned.earlier turned.event (if_lasting answer) before.0 next.0 turned.faults turned.faults' before.2
        (subst (λ (a : Option Children). Hears turned.earlier (if_lasting answer) turned.event (Some before.0) a turned.faults turned.faults') next.1 heard) in
        subst (λ (c : Course). Last coming c.starts c.children) (sym turned.is) last_of_turn

    pub turned_ran : (ending : Result Turn RunFault) (later : List ℕ) → answer_after course.starts (text_of course later) course.children ≡ Some ending → Ran coming course later
    turned_ran ending later is = ran_of coming course later ending turned_last is

    -- in words of the new course
    turned_same : (course.starts ≡ starts) × (course.origin ≡ record { every = every; last = last })
    turned_same =
        let same = turns_same turned.earlier turned.now turned.turns in
        (ap (λ (c : Course). c.starts) turned.is ∙ same.0, ap (λ (c : Course). c.origin) turned.is ∙ same.1)

    pub turned_prefix : (later : List ℕ) → IsPrefix course.told (bytes_of (text (record { every = every; last = last }) (course.readings ++ later) (whole_children starts coming)))
    turned_prefix later =
        let rs = course.readings ++ later in
        subst (λ (o : Origin). IsPrefix course.told (bytes_of (text o rs (whole_children starts coming)))) turned_same.1
        (subst (λ (n : ℕ). IsPrefix course.told (bytes_of (text course.origin rs (whole_children n coming)))) turned_same.0
        (prefix-trans _ _ _ (told-prefix (if_lasting answer) course (text_of course later) (turned.tells later)) (last-prefix course.origin rs coming course.starts course.children turned_last)))

    pub turned_whole : (ending : Result Turn RunFault) (later : List ℕ) → answer_after course.starts (text_of course later) course.children ≡ Some ending
        → (text_of course later ≡ text (record { every = every; last = last }) (course.readings ++ later) (whole_children starts coming))
        × (answer_after starts (text (record { every = every; last = last }) (course.readings ++ later) (whole_children starts coming)) (whole_children starts coming) ≡ Some ending)
    turned_whole ending later is =
        let rs = course.readings ++ later in
        subst (λ (o : Origin). (text_of course later ≡ text o rs (whole_children starts coming)) × (answer_after starts (text o rs (whole_children starts coming)) (whole_children starts coming) ≡ Some ending)) turned_same.1
        (subst (λ (n : ℕ). (text_of course later ≡ text course.origin rs (whole_children n coming)) × (answer_after n (text course.origin rs (whole_children n coming)) (whole_children n coming) ≡ Some ending)) turned_same.0
        (last-whole course.origin rs coming course.starts course.children turned_last ending is))
