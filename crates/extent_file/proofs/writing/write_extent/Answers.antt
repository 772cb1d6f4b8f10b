use Rattle.std.proofs.Common.{◌≡◌, ◌⊎◌, ℕ, ◌+◌, ◌≤◌, List, ◌++◌, length, take, drop, sym, ap, ◌∙◌, subst}
use Rattle.host_model.specs.Images.{contents}
use Rattle.host_model.specs.Past.{of}
use Rattle.host_model.specs.Moments.{begins}
use Rattle.host_model.proofs.FileLemmas.{image_when_synced}
use Rattle.extent_file.specs.Slot.{tier_of, slot_size, slot_start}
use Rattle.extent_file.specs.Pages.{extent_size}
use Rattle.extent_file.specs.Writing.{filled_to}
use Rattle.host_model.proofs.CallLemmas.{ok_part}
use Rattle.extent_file.proofs.SaysLemmas.{extent_moved}
use Rattle.extent_file.proofs.WriteLemmas.{slots_apart, room_left}
use Rattle.extent_file.proofs.writing.write_extent.Goals as goal

pub returns-in_err-bytes-clause-others : goal.returns-in_err-bytes-clause-others
returns-in_err-bytes-clause-others g c other lies apart fits h held = begins held

pub returns-then-is_err-clause-others : goal.returns-then-is_err-clause-others
returns-then-is_err-clause-others g c other lies apart fits h held =
    let tier = tier_of c.args.file in let items = c.args.items in let bytes = c.as_slice-2.result.now in
    let start_is : c.slot_start-start.result ≡ slot_start tier items c.args.slot = c.slot_start-start.ensures.value ∙ ap (λ (t : ℕ). slot_start t items c.args.slot) c.tier_of-tier.ensures.value in
    let size_is : length bytes ≡ extent_size tier c.args.pages.now =
    ap length c.as_slice-2.ensures ∙ c.in_ok-bytes.ensures.size ∙ ap (λ (t : ℕ). extent_size t c.as_slice.result.now) c.tier_of-tier.ensures.value ∙ ap (extent_size tier) c.as_slice.ensures in
    let small : length bytes ≤ slot_size tier items = subst (λ (n : ℕ). n ≤ slot_size tier items) (sym size_is) c.requires.fits in
    let beside = slots_apart other c.args.slot (length lies) (length bytes) (slot_size tier items) apart fits small in
    c.put.ensures.any_moment (slot_start tier items other) lies
    (subst (λ (n : ℕ). (slot_start tier items other + length lies ≤ n) ⊎ (n + length bytes ≤ slot_start tier items other)) (sym start_is) beside) h held

pub returns-clause-others : goal.returns-clause-others
returns-clause-others g c other lies apart fits h held =
    let tier = tier_of c.args.file in let items = c.args.items in let bytes = c.as_slice-2.result.now in
    let start_is : c.slot_start-start.result ≡ slot_start tier items c.args.slot = c.slot_start-start.ensures.value ∙ ap (λ (t : ℕ). slot_start t items c.args.slot) c.tier_of-tier.ensures.value in
    let size_is : length bytes ≡ extent_size tier c.args.pages.now =
    ap length c.as_slice-2.ensures ∙ c.in_ok-bytes.ensures.size ∙ ap (λ (t : ℕ). extent_size t c.as_slice.result.now) c.tier_of-tier.ensures.value ∙ ap (extent_size tier) c.as_slice.ensures in
    let small : length bytes ≤ slot_size tier items = subst (λ (n : ℕ). n ≤ slot_size tier items) (sym size_is) c.requires.fits in
    let beside = slots_apart other c.args.slot (length lies) (length bytes) (slot_size tier items) apart fits small in
    c.put.ensures.any_moment (slot_start tier items other) lies
    (subst (λ (n : ℕ). (slot_start tier items other + length lies ≤ n) ⊎ (n + length bytes ≤ slot_start tier items other)) (sym start_is) beside) h held

pub returns-clause-held : goal.returns-clause-held
returns-clause-held g c h bytes image =
    let tier = tier_of c.args.file in let items = c.args.items in let start = c.slot_start-start.result in
    let past = of c.args.file (g.H.Host.seen c.put.new.host).past in
    let start_is : start ≡ slot_start tier items c.args.slot = c.slot_start-start.ensures.value ∙ ap (λ (t : ℕ). slot_start t items c.args.slot) c.tier_of-tier.ensures.value in
    let slot_is : c.slot_size.result ≡ slot_size tier items = c.slot_size.ensures.value ∙ ap (λ (t : ℕ). slot_size t items) c.tier_of-tier.ensures.value in
    let stable = ok_part c.put.result (sym c.if-is_err.ensures.value) c.put.ensures.synced h in
    let whole = ok_part c.put.result (sym c.if-is_err.ensures.value) c.put.ensures.whole h in
    let is = image_when_synced past bytes stable image in
    let there : c.in_ok-bytes.bytes ++ whole.0 ≡ drop (slot_start tier items c.args.slot) bytes =
    sym (ap (λ (n : ℕ). drop n bytes) (sym start_is) ∙ ap (λ (l : List ℕ). drop start l) is ∙ whole.1 ∙ ap (λ (l : List ℕ). l ++ whole.0) c.as_slice-2.ensures) in
    extent_moved tier c.tier_of-tier.result (slot_size tier items) c.slot_size.result c.args.pages.now c.as_slice.result.now (drop (slot_start tier items c.args.slot) bytes) (c.in_ok-bytes.bytes ++ whole.0)
    c.tier_of-tier.ensures.value slot_is c.as_slice.ensures there (c.in_ok-bytes.ensures.extent whole.0)

pub returns-in_err-bytes-clause-bound : goal.returns-in_err-bytes-clause-bound
returns-in_err-bytes-clause-bound g c size fits h short = begins short

pub returns-then-is_err-clause-bound : goal.returns-then-is_err-clause-bound
returns-then-is_err-clause-bound g c size fits h short =
    let tier = tier_of c.args.file in let items = c.args.items in let bytes = c.as_slice-2.result.now in
    let start_is : c.slot_start-start.result ≡ slot_start tier items c.args.slot = c.slot_start-start.ensures.value ∙ ap (λ (t : ℕ). slot_start t items c.args.slot) c.tier_of-tier.ensures.value in
    let size_is : length bytes ≡ extent_size tier c.args.pages.now =
    ap length c.as_slice-2.ensures ∙ c.in_ok-bytes.ensures.size ∙ ap (λ (t : ℕ). extent_size t c.as_slice.result.now) c.tier_of-tier.ensures.value ∙ ap (extent_size tier) c.as_slice.ensures in
    let small : length bytes ≤ slot_size tier items = subst (λ (n : ℕ). n ≤ slot_size tier items) (sym size_is) c.requires.fits in
    c.put.ensures.bound size (subst (λ (n : ℕ). n + length bytes ≤ size) (sym start_is) (room_left (slot_start tier items c.args.slot) (slot_size tier items) (length bytes) size fits small)) h short

pub returns-clause-bound : goal.returns-clause-bound
returns-clause-bound g c size fits h short =
    let tier = tier_of c.args.file in let items = c.args.items in let bytes = c.as_slice-2.result.now in
    let start_is : c.slot_start-start.result ≡ slot_start tier items c.args.slot = c.slot_start-start.ensures.value ∙ ap (λ (t : ℕ). slot_start t items c.args.slot) c.tier_of-tier.ensures.value in
    let size_is : length bytes ≡ extent_size tier c.args.pages.now =
    ap length c.as_slice-2.ensures ∙ c.in_ok-bytes.ensures.size ∙ ap (λ (t : ℕ). extent_size t c.as_slice.result.now) c.tier_of-tier.ensures.value ∙ ap (extent_size tier) c.as_slice.ensures in
    let small : length bytes ≤ slot_size tier items = subst (λ (n : ℕ). n ≤ slot_size tier items) (sym size_is) c.requires.fits in
    c.put.ensures.bound size (subst (λ (n : ℕ). n + length bytes ≤ size) (sym start_is) (room_left (slot_start tier items c.args.slot) (slot_size tier items) (length bytes) size fits small)) h short

pub returns-clause-zeros : goal.returns-clause-zeros
returns-clause-zeros g c h =
    let tier = tier_of c.args.file in let items = c.args.items in let start = c.slot_start-start.result in
    let old = contents (of c.args.file (g.H.Host.seen c.args.host.now).past) in let new = contents (of c.args.file (g.H.Host.seen c.put.new.host).past) in
    let start_is : start ≡ slot_start tier items c.args.slot = c.slot_start-start.ensures.value ∙ ap (λ (t : ℕ). slot_start t items c.args.slot) c.tier_of-tier.ensures.value in
    subst (λ (n : ℕ). take n new ≡ take n (filled_to n old)) start_is (ok_part c.put.result (sym c.if-is_err.ensures.value) c.put.ensures.zeros h)
