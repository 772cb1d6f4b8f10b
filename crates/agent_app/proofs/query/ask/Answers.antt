use Rattle.agent_app.specs.Query.{question_of, reply_for}
use Rattle.agent_app.proofs.AskLemmas.{unasked}
use Rattle.agent_app.proofs.query.ask.Goals as goal

pub returns-in-Err : goal.returns-in-Err
returns-in-Err g c = unasked g.H.Host.honest c.args.agent.now (reply_for (question_of c.args.words.now)) (g.H.Host.seen c.args.host.now)
