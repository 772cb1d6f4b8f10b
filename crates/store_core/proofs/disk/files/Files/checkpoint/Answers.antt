use Rattle.std.proofs.Common.{◌≡◌, ◌+◌, ap, ◌∙◌, ℕ, inl, List, sym, subst}
use Rattle.host_model.specs.Moments.{begins}
use Rattle.host_model.proofs.MomentLemmas.{at_end, joined}
use Rattle.journal_core.specs.Journal.{JournalState}
use Rattle.checkpoint.specs.Files.{new_slot}
use Rattle.checkpoint_body.specs.Body.{body_bytes}
use Rattle.store_core.specs.disk.Contents.{next_contents}
use Rattle.store_core.specs.disk.Files.{FilesState}
use Rattle.store_core.specs.disk.Shares.{HasRoom}
use Rattle.store_core.proofs.DiskProofs.AdvanceLemmas.{next_moments, next_open, old_either, own_both, own_tiers, still_open}
use Rattle.store_core.proofs.DiskProofs.AppendLemmas.{journal_of}
use Rattle.store_core.proofs.disk.files.Files.checkpoint.Goals as goal

pub returns-in_err-bytes-clause-any_moment : goal.returns-in_err-bytes-clause-any_moment
returns-in_err-bytes-clause-any_moment g c h what kept is next = begins (λ disk images. inl (is.holds disk images))

pub returns-in_err-write_sealed-clause-any_moment : goal.returns-in_err-write_sealed-clause-any_moment
returns-in_err-write_sealed-clause-any_moment g c h what kept is next =
    old_either what c.args.body.now kept (g.H.Host.seen c.args.host.now).past (g.H.Host.seen c.write_sealed.new.host).past (c.write_sealed.ensures.any_moment h what kept is.holds next)

pub returns-in_err-write_sealed-clause-memory : goal.returns-in_err-write_sealed-clause-memory
returns-in_err-write_sealed-clause-memory g c failed h what kept is next =
    still_open c.args.self.now what (g.H.Host.seen c.args.host.now).past (g.H.Host.seen c.write_sealed.new.host).past is (c.write_sealed.ensures.only_here h)
    (at_end (c.write_sealed.ensures.any_moment h what kept is.holds next))

pub returns-in_err-begin-clause-any_moment : goal.returns-in_err-begin-clause-any_moment
returns-in_err-begin-clause-any_moment g c h what kept is next =
    let old = (g.H.Host.seen c.args.host.now).past in let middle = (g.H.Host.seen c.write_sealed.new.host).past in let new = (g.H.Host.seen c.begin.new.host).past in
    let body = c.args.body.now in let bytes = c.as_slice.result.now in
    let same : c.self.inside.number ≡ what.number = ap (λ (f : FilesState). f.number) c.self.view_is ∙ is.number in
    let follows : c.self.inside.number + 1 ≡ what.number + 1 = ap (λ (n : ℕ). n + 1) same in
    let first = c.write_sealed.ensures.any_moment h what kept is.holds next in
    let holds = at_end first in
    let are = c.in_ok-write_sealed.ensures.written h what kept is.holds next in
    joined (old_either what body kept old middle first)
    (next_moments what body kept bytes (c.as_slice.ensures ∙ c.in_ok-bytes.ensures) c.requires.spelt (c.self.inside.number + 1) follows middle new
    (λ file. g.met.H.Host.reads_an_image c.write_sealed.new.host file h) holds are (c.begin.ensures.only_here h)
    (c.begin.ensures.any_moment h (new_slot what.number (body_bytes what.body)) (λ disk images. (holds disk images).checkpoint.checkpoint) follows))

pub returns-in_err-begin-clause-only_here : goal.returns-in_err-begin-clause-only_here
returns-in_err-begin-clause-only_here g c h =
    let old = (g.H.Host.seen c.args.host.now).past in let middle = (g.H.Host.seen c.write_sealed.new.host).past in let new = (g.H.Host.seen c.begin.new.host).past in
    own_both (c.self.inside.number + 1) old middle new (own_tiers old middle (c.write_sealed.ensures.only_here h)) (at_end (c.begin.ensures.only_here h))

pub returns-clause-any_moment : goal.returns-clause-any_moment
returns-clause-any_moment g c h what kept is next =
    let old = (g.H.Host.seen c.args.host.now).past in let middle = (g.H.Host.seen c.write_sealed.new.host).past in let new = (g.H.Host.seen c.begin.new.host).past in
    let body = c.args.body.now in let bytes = c.as_slice.result.now in
    let same : c.self.inside.number ≡ what.number = ap (λ (f : FilesState). f.number) c.self.view_is ∙ is.number in
    let follows : c.self.inside.number + 1 ≡ what.number + 1 = ap (λ (n : ℕ). n + 1) same in
    let first = c.write_sealed.ensures.any_moment h what kept is.holds next in
    let holds = at_end first in
    let are = c.in_ok-write_sealed.ensures.written h what kept is.holds next in
    joined (old_either what body kept old middle first)
    (next_moments what body kept bytes (c.as_slice.ensures ∙ c.in_ok-bytes.ensures) c.requires.spelt (c.self.inside.number + 1) follows middle new
    (λ file. g.met.H.Host.reads_an_image c.write_sealed.new.host file h) holds are (c.begin.ensures.only_here h)
    (c.begin.ensures.any_moment h (new_slot what.number (body_bytes what.body)) (λ disk images. (holds disk images).checkpoint.checkpoint) follows))

pub returns-clause-only_here : goal.returns-clause-only_here
returns-clause-only_here g c h =
    let old = (g.H.Host.seen c.args.host.now).past in let middle = (g.H.Host.seen c.write_sealed.new.host).past in let new = (g.H.Host.seen c.begin.new.host).past in
    own_both (c.self.inside.number + 1) old middle new (own_tiers old middle (c.write_sealed.ensures.only_here h)) (at_end (c.begin.ensures.only_here h))

pub returns-clause-done : goal.returns-clause-done
returns-clause-done g c h what kept is next =
    let old = (g.H.Host.seen c.args.host.now).past in let middle = (g.H.Host.seen c.write_sealed.new.host).past in let new = (g.H.Host.seen c.begin.new.host).past in
    let body = c.args.body.now in let bytes = c.as_slice.result.now in
    let same : c.self.inside.number ≡ what.number = ap (λ (f : FilesState). f.number) c.self.view_is ∙ is.number in
    let follows : c.self.inside.number + 1 ≡ what.number + 1 = ap (λ (n : ℕ). n + 1) same in
    let first = c.write_sealed.ensures.any_moment h what kept is.holds next in
    let holds = at_end first in
    let are = c.in_ok-write_sealed.ensures.written h what kept is.holds next in
    next_open what body kept bytes (c.as_slice.ensures ∙ c.in_ok-bytes.ensures) c.requires.spelt (c.self.inside.number + 1) follows middle new
    (λ file. g.met.H.Host.reads_an_image c.write_sealed.new.host file h) c.begun_journal-self-inside.result c.begun_journal-self-inside.ensures are (at_end (c.begin.ensures.only_here h))
    (c.in_ok-begin.ensures.begun h (new_slot what.number (body_bytes what.body)) (λ disk images. (holds disk images).checkpoint.checkpoint) follows)
    (c.in_ok-begin.ensures.journal h)

pub returns-clause-ready : goal.returns-clause-ready
returns-clause-ready g c before = record {
  place = record {
    file = ap (λ (j : JournalState). j.file) c.begun_journal-self-inside.ensures;
    generation = ap (λ (j : JournalState). j.generation) c.begun_journal-self-inside.ensures;
  };
  journal = λ h.
      let there = before h in
      journal_of (g.H.Host.seen c.begin.new.host).past (record { number = c.self.inside.number + 1; journal = c.begun_journal-self-inside.result }) (next_contents there.0 c.args.body.now there.1)
      (returns-clause-done g c h there.0 there.1 there.2 there.3);
}

pub returns-in_err-bytes-clause-bound : goal.returns-in_err-bytes-clause-bound
returns-in_err-bytes-clause-bound g c shares room slots h before = begins before

pub returns-in_err-write_sealed-clause-bound : goal.returns-in_err-write_sealed-clause-bound
returns-in_err-write_sealed-clause-bound g c shares room slots h before = c.write_sealed.ensures.bound shares slots h before

pub returns-in_err-begin-clause-bound : goal.returns-in_err-begin-clause-bound
returns-in_err-begin-clause-bound g c shares room slots h before =
    let first = c.write_sealed.ensures.bound shares slots h before in
    let here = subst (λ (l : List ℕ). HasRoom shares (c.self.inside.number + 1) l) (sym (c.as_slice.ensures ∙ c.in_ok-bytes.ensures))
    (subst (λ (f : FilesState). HasRoom shares (f.number + 1) (body_bytes c.args.body.now)) (sym c.self.view_is) room) in
    joined first (c.begin.ensures.bound shares here h (at_end first))

pub returns-clause-bound : goal.returns-clause-bound
returns-clause-bound g c shares room slots h before =
    let first = c.write_sealed.ensures.bound shares slots h before in
    let here = subst (λ (l : List ℕ). HasRoom shares (c.self.inside.number + 1) l) (sym (c.as_slice.ensures ∙ c.in_ok-bytes.ensures))
    (subst (λ (f : FilesState). HasRoom shares (f.number + 1) (body_bytes c.args.body.now)) (sym c.self.view_is) room) in
    joined first (c.begin.ensures.bound shares here h (at_end first))
