use Rattle.agent_app.specs.Course.{OfCollector, OfHealth, OfLink, OfSource}
use Rattle.agent_app.proofs.CourseLemmas.{course-asked, course-kept, course-moments, course-new, course-sent, of-collect, of-health, of-receive, of-run}
use Rattle.agent_app.proofs.law.crashes_leave_what_was_stored.Goals as goal

pub returns-clause-kept : goal.returns-clause-kept
returns-clause-kept g c h starts tried runs host course =
    course-kept g.H.Host.honest g.H.Host.seen starts tried (λ at h file. g.met.H.Host.reads_an_image at file h) h runs host course

pub returns-clause-moments : goal.returns-clause-moments
returns-clause-moments g c h starts tried runs host host' status left left' sf sf' course run =
    course-moments starts tried runs g.H.Host.honest h (g.H.Host.seen host) (g.H.Host.seen host')
    (course-kept g.H.Host.honest g.H.Host.seen starts tried (λ at h file. g.met.H.Host.reads_an_image at file h) h runs host course)
    (λ file. g.met.H.Host.reads_an_image host file h) status (OfSource left left')
    (of-run g.H.Host.honest (g.H.Host.seen host) (g.H.Host.seen host') status left left' sf sf' run)

pub returns-clause-collects_moments : goal.returns-clause-collects_moments
returns-clause-collects_moments g c h starts tried runs host host' asked status outside outside' course run =
    course-moments starts tried runs g.H.Host.honest h (g.H.Host.seen host) (g.H.Host.seen host')
    (course-kept g.H.Host.honest g.H.Host.seen starts tried (λ at h file. g.met.H.Host.reads_an_image at file h) h runs host course)
    (λ file. g.met.H.Host.reads_an_image host file h) status (OfCollector asked outside outside')
    (of-collect g.H.Host.honest (g.H.Host.seen host) (g.H.Host.seen host') asked status outside outside' run)

pub returns-clause-configures_moments : goal.returns-clause-configures_moments
returns-clause-configures_moments g c h starts tried runs host host' status left left' sf sf' course run =
    course-moments starts tried runs g.H.Host.honest h (g.H.Host.seen host) (g.H.Host.seen host')
    (course-kept g.H.Host.honest g.H.Host.seen starts tried (λ at h file. g.met.H.Host.reads_an_image at file h) h runs host course)
    (λ file. g.met.H.Host.reads_an_image host file h) status (OfHealth left left')
    (of-health g.H.Host.honest (g.H.Host.seen host) (g.H.Host.seen host') status left left' sf sf' run)

pub returns-clause-receives_moments : goal.returns-clause-receives_moments
returns-clause-receives_moments g c h starts tried runs host host' status link link' course run =
    course-moments starts tried runs g.H.Host.honest h (g.H.Host.seen host) (g.H.Host.seen host')
    (course-kept g.H.Host.honest g.H.Host.seen starts tried (λ at h file. g.met.H.Host.reads_an_image at file h) h runs host course)
    (λ file. g.met.H.Host.reads_an_image host file h) status (OfLink link link')
    (of-receive g.H.Host.honest (g.H.Host.seen host) (g.H.Host.seen host') status link link' run)

pub returns-clause-sends_moments : goal.returns-clause-sends_moments
returns-clause-sends_moments g c h starts tried runs host host' status link link' course sends =
    course-sent starts tried runs g.H.Host.honest h (g.H.Host.seen host) (g.H.Host.seen host')
    (course-kept g.H.Host.honest g.H.Host.seen starts tried (λ at h file. g.met.H.Host.reads_an_image at file h) h runs host course) status link link' sends

pub returns-clause-asks_moments : goal.returns-clause-asks_moments
returns-clause-asks_moments g c h starts tried runs host host' answer status course asks =
    course-asked starts tried runs g.H.Host.honest h (g.H.Host.seen host) (g.H.Host.seen host')
    (course-kept g.H.Host.honest g.H.Host.seen starts tried (λ at h file. g.met.H.Host.reads_an_image at file h) h runs host course) answer status asks

pub returns-clause-makes_moments : goal.returns-clause-makes_moments
returns-clause-makes_moments g c h starts tried runs host host' set status course known makes =
    course-new starts tried runs g.H.Host.honest h (g.H.Host.seen host) (g.H.Host.seen host')
    (course-kept g.H.Host.honest g.H.Host.seen starts tried (λ at h file. g.met.H.Host.reads_an_image at file h) h runs host course)
    (λ file. g.met.H.Host.reads_an_image host file h) set status makes known
