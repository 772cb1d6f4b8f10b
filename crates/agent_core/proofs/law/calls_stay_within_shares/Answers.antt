use Rattle.agent_core.proofs.RunLemmas.{beat-runs, data-runs, health-runs, kept-runs, line-runs, query-runs, runs-both, runs-none, runs-still, runs-told, take-runs}
use Rattle.agent_core.proofs.law.calls_stay_within_shares.Goals as goal

pub returns-clause-none : goal.returns-clause-none
returns-clause-none g c host agent = runs-none g.H.Host.honest host agent

pub returns-clause-still : goal.returns-clause-still
returns-clause-still g c host host' agent quiet = runs-still g.H.Host.honest host host' agent quiet

pub returns-clause-told : goal.returns-clause-told
returns-clause-told g c host host' agent sent told = runs-told g.H.Host.honest host host' agent sent told

pub returns-clause-both : goal.returns-clause-both
returns-clause-both g c host middle new agent between after one other = runs-both g.H.Host.honest host middle new agent between after one other

pub returns-clause-beat : goal.returns-clause-beat
returns-clause-beat g c host host' agent agent' beat moment result did = beat-runs g.H.Host.honest host host' agent agent' beat moment result did

pub returns-clause-line : goal.returns-clause-line
returns-clause-line g c host host' agent agent' feed feed' line result every past is_feed at did = line-runs g.H.Host.honest host host' agent agent' feed feed' line result every past is_feed at did

pub returns-clause-set_health : goal.returns-clause-set_health
returns-clause-set_health g c host host' agent agent' text result did = health-runs g.H.Host.honest host host' agent agent' text result did

pub returns-clause-take : goal.returns-clause-take
returns-clause-take g c host host' agent agent' message result did = take-runs g.H.Host.honest host host' agent agent' message result did

pub returns-clause-query : goal.returns-clause-query
returns-clause-query g c host host' agent agent' text result did = query-runs g.H.Host.honest host host' agent agent' text result did

pub returns-clause-kept : goal.returns-clause-kept
returns-clause-kept g c host host' agent agent' result did = kept-runs g.H.Host.honest host host' agent agent' result did

pub returns-clause-data : goal.returns-clause-data
returns-clause-data g c host host' agent agent' ask result did = data-runs g.H.Host.honest host host' agent agent' ask result did
