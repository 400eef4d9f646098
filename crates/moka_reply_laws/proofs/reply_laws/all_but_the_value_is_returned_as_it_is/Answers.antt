use Rattle.moka_model.specs.Calls.{accepted}
use Rattle.moka_reply_laws.proofs.Copies.{exactly, others, calls-return, rejected-returns}
use Rattle.moka_reply_laws.proofs.reply_laws.all_but_the_value_is_returned_as_it_is.Goals as goal

pub returns-clause-others : goal.returns-clause-others
returns-clause-others g c said given none = others g.V.Clone.is_clone said given none

pub returns-clause-exactly : goal.returns-clause-exactly
returns-clause-exactly g c said given = exactly g.V.Clone.is_clone said given

pub returns-clause-calls : goal.returns-clause-calls
returns-clause-calls g c settings steps call said given is = calls-return g.V.Clone.is_clone (accepted g.K.PartialEq.eq settings steps call) said given is

pub returns-clause-rejected : goal.returns-clause-rejected
returns-clause-rejected g c settings steps call given is got = rejected-returns g.V.Clone.is_clone (accepted g.K.PartialEq.eq settings steps call) given is got
