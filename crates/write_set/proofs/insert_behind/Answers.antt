use Rattle.write_set.specs.Inserts.{spliced}
use Rattle.write_set.proofs.insert_behind.Goals as goal

pub returns : goal.returns
returns c = spliced c.copy_within.ensures.after c.put_path.ensures c.requires.1 c.requires.2
