use Rattle.write_line.specs.LineParts.{key_wrote}
use Rattle.write_line.proofs.put_key.Goals as goal

pub returns : goal.returns
returns c = key_wrote _ _ _ _ c.put.ensures c.put_number-paths_at.ensures c.put_path-count_at.ensures c.put_path-target_at.ensures
