use Rattle.moka_replies.proofs.Itself.{reply-itself}
use Rattle.moka_replies.proofs.reply_laws.a_reply_is_the_same_as_itself.Goals as goal

pub returns : goal.returns
returns g c = reply-itself g.K.PartialEq.eq g.V.PartialEq.eq g.met.K.Eq.laws.refl g.met.V.Eq.laws.refl g.C.Error.PartialEq.eq g.met.C.Error.Eq.laws.refl c.args.reply.now
