use Rattle.std.proofs.Common.{rules}
use Rattle.std.proofs.lemmas.Result.{IfErr-weaker}
use Rattle.store_core.specs.disk.Reading.{IsExtentFault, IsPageFault}
use Rattle.store_core.proofs.DiskProofs.LeftLemmas.{always, never_a_page, page_fault}
use Rattle.store_core.proofs.disk.left.left_records.Goals as goal

pub returns-in_err-opened-clause-damaged : goal.returns-in_err-opened-clause-damaged
returns-in_err-opened-clause-damaged g c is h formed = c.in_err-opened.ensures.damaged (search (rules, is)) h formed.entries formed.says

pub returns-clause-formed : goal.returns-clause-formed
returns-clause-formed g c = always c.left_record_pages.result (λ h. record { entries = c.in_ok-opened.opened.entries; says = c.in_ok-opened.ensures.says h })

pub returns-clause-damaged : goal.returns-clause-damaged
returns-clause-damaged g c is h formed = never_a_page c.left_record_pages.result c.left_record_pages.ensures.faults is

pub returns-clause-faults : goal.returns-clause-faults
returns-clause-faults g c = IfErr-weaker c.left_record_pages.result IsPageFault IsExtentFault page_fault c.left_record_pages.ensures.faults
