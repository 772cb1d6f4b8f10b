-- Records and pushes: the records of a page come of pushes, and what comes of pushes are such records.
use Rattle.std.proofs.Common.{◌≡◌, ℕ, ◌+◌, ◌-◌, ◌*◌, ◌<◌, ◌≤◌, ◌^◌, List, [], ◌∷◌, ◌++◌, length, refl, sym, ap, ◌∙◌, subst, arith}
use Rattle.std.proofs.lemmas.List.{append-nil, append_assoc, length-append}
use Rattle.fixed_num.specs.declared.units.Record.{Record}
use Rattle.page_buffer.specs.Records.{AreRecords, IsPushed, none, more}
use Rattle.page_buffer.proofs.SlotLemmas.{before_end}

module _ (series first step : ℕ) where
  -- so many records are those of a page
  abbrev Fits : ℕ → Type 0
  Fits len = (len ≤ 73) × (0 < len → first + (len - 1) * step < 2 ^ 32)

  pushes_from : (items rest : List Record) → IsPushed series first step items → Fits (length items + length rest) → IsPushed series first step (items ++ rest)
  pushes_from items [] was fits = subst (IsPushed series first step) (sym (append-nil items)) was
  pushes_from items (item ∷ rest) was fits =
      let moment : ℕ = first + length items * step in
      let in_time : moment < 2 ^ 32 =
      before_end first step (length items + length (item ∷ rest) - 1) (length items) (omega arith) (fits.1 (omega arith)) in
      let now : IsPushed series first step (items ++ item ∷ []) = more items moment item was in_time refl (omega (arith, fits.0)) in
      let long = length-append items (item ∷ []) in
      subst (IsPushed series first step) (append_assoc items (item ∷ []) rest)
      (pushes_from (items ++ item ∷ []) rest now
      (subst Fits (let e : length items + length (item ∷ rest) ≡ length (items ++ item ∷ []) + length rest = omega (arith, long) in e) fits))

  pub records-pushed : (items : List Record) → AreRecords first step items → IsPushed series first step items
  records-pushed items are = pushes_from [] items none (subst Fits (let e : length items ≡ 0 + length items = omega arith in e) are)

  pub pushed-records : (items : List Record) → IsPushed series first step items → AreRecords first step items
  pushed-records items none = (omega arith, λ h. absurd (omega (arith, h)))
  pushed-records items (more before moment item was in_time next room) =
      let long = length-append before (item ∷ []) in
      let last : first + (length (before ++ item ∷ []) - 1) * step ≡ moment =
      ap (λ (k : ℕ). first + k * step) (let e : length (before ++ item ∷ []) - 1 ≡ length before = omega (arith, long) in e) ∙ sym next in
      (omega (arith, long, room), λ _. subst (λ (m : ℕ). m < 2 ^ 32) (sym last) in_time)
