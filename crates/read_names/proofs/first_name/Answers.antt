use Rattle.read_names.specs.Names.{first_to, first_all}
use Rattle.read_names.proofs.first_name.Goals as goal

pub returns-in-Some : goal.returns-in-Some
returns-in-Some c = first_to _ c.name_end.ensures c.in-Some.is

pub returns-in-None : goal.returns-in-None
returns-in-None c = first_all _ c.name_end.ensures c.in-None.is
