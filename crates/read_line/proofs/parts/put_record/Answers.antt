use Rattle.std.proofs.Common.{refl}
use Rattle.read_line.specs.Told.{record_wrote}
use Rattle.read_line.proofs.parts.put_record.Goals as goal

pub returns : goal.returns
returns c = record_wrote _ _ _ _ refl c.put_word-kind_at.ensures c.put_word-context_at.ensures c.put_path-target_at.ensures c.put_path-count_at.ensures c.put_number-paths_at.ensures c.put.ensures
