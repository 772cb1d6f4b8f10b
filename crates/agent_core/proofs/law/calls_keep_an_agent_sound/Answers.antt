use Rattle.agent_core.proofs.Sound.{beat-sound, data-sound, health-sound, kept-sound, line-sound, query-sound, take-sound}
use Rattle.agent_core.proofs.law.calls_keep_an_agent_sound.Goals as goal

pub returns-clause-beat : goal.returns-clause-beat
returns-clause-beat g c true_host host host' agent agent' beat moment result set h tried did sound =
    beat-sound g.H.Host.honest host agent beat moment host' agent' set h tried true_host result did sound

pub returns-clause-line : goal.returns-clause-line
returns-clause-line g c true_host host host' agent agent' feed feed' line result set h tried every past is_feed at did sound =
    line-sound g.H.Host.honest host agent feed line host' agent' feed' set h tried every past true_host is_feed at result did sound

pub returns-clause-query : goal.returns-clause-query
returns-clause-query g c true_host host host' agent agent' text result set h tried did sound = query-sound g.H.Host.honest host host' agent agent' text result set h tried true_host did sound

pub returns-clause-kept : goal.returns-clause-kept
returns-clause-kept g c true_host host host' agent agent' result set h tried did sound = kept-sound g.H.Host.honest host host' agent agent' result set h tried true_host did sound

pub returns-clause-set_health : goal.returns-clause-set_health
returns-clause-set_health g c true_host host host' agent agent' text result set h tried did sound = health-sound g.H.Host.honest host agent text host' agent' set h tried true_host result did sound

pub returns-clause-take : goal.returns-clause-take
returns-clause-take g c true_host host host' agent agent' message result set h tried did sound = take-sound g.H.Host.honest host agent message host' agent' set h tried true_host result did sound

pub returns-clause-data : goal.returns-clause-data
returns-clause-data g c true_host host host' agent agent' ask result set h tried did sound = data-sound g.H.Host.honest host host' agent agent' ask result set h tried true_host did sound
