use Rattle.moka_model.proofs.Callers.{fits-drop_front, fits-drop_shorter, front-le}
use Rattle.moka_laws.proofs.maintenance_laws.the_front_is_shortest.Goals as goal

pub returns-clause-enough : goal.returns-clause-enough
returns-clause-enough g c weight capacity more xs alone = fits-drop_front weight capacity more xs alone

pub returns-clause-none_shorter : goal.returns-clause-none_shorter
returns-clause-none_shorter g c weight capacity more xs m less = fits-drop_shorter weight capacity more xs m less

pub returns-clause-within : goal.returns-clause-within
returns-clause-within g c weight capacity more xs = front-le weight capacity more xs
