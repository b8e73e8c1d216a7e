use Rattle.write_line.specs.LineParts.{path_wrote}
use Rattle.write_line.proofs.put_path.Goals as goal

pub returns : goal.returns
returns c = search (path_wrote)
