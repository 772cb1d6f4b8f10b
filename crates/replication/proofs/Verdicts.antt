-- What a verdict says of where a message begins.
use Rattle.std.proofs.Common.{◌≡◌, ℕ, ◌==◌, true, false, cond, inl, inr, sym, ap, ◌∙◌, arith, ltb, Option, Some, None}
use Rattle.std.proofs.lemmas.Bool.{cases_lt, cases_Bool, cond-true, cond-false, lt-ltb, le-ltb}
use Rattle.replication.specs.declared.verdict.Verdict.TheVariants.{Stored, Old, Ahead, WrongChild}
use Rattle.replication.specs.Verdict.{is_stored, verdict_at, verdict_by}

not-stored : false ≡ true → ⊥
not-stored e = cc

at-begins : (last prev : ℕ) → is_stored (verdict_at last prev) ≡ true → prev ≡ last
at-begins last prev is =
    elim (cases_lt prev last) [
      | inl below ↦ absurd (not-stored (sym (ap is_stored (cond-true (ltb prev last) Old (cond (ltb last prev) Ahead Stored) (lt-ltb prev last below))) ∙ is))
      | inr ge ↦ elim (cases_lt last prev) [
        | inl past ↦ absurd (not-stored (sym (ap is_stored (cond-false (ltb prev last) Old (cond (ltb last prev) Ahead Stored) (le-ltb prev last ge) ∙ cond-true (ltb last prev) Ahead Stored (lt-ltb last prev past))) ∙ is))
        | inr le ↦ omega arith
      ]
    ]

-- what is stored begins where the copy ends
pub stored-begins : (child : Option ℕ) (last came prev : ℕ) → is_stored (verdict_by child last came prev) ≡ true → prev ≡ last
stored-begins None last came prev is = at-begins last prev is
stored-begins (Some kept) last came prev is =
    elim (cases_Bool (kept == came)) [
      | inl own ↦ at-begins last prev (sym (ap is_stored (cond-true (kept == came) (verdict_at last prev) (WrongChild kept came) own)) ∙ is)
      | inr other ↦ absurd (not-stored (sym (ap is_stored (cond-false (kept == came) (verdict_at last prev) (WrongChild kept came) other)) ∙ is))
    ]
