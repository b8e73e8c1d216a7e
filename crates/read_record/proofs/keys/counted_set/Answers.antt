use mathlib.Core.Path.{◌∙◌, ap}
use Rattle.read_record.specs.BodyParts.{holds_path, after_path, set_in}
use Rattle.read_record.specs.KeyPaths.{context_holds, target_holds}
use Rattle.read_record.proofs.keys.counted_set.Goals as goal

-- `read_record::keys::counted_set` meets its contract. One law of specs/ for each return.
pub after_path-behind-requires : goal.after_path-behind-requires
after_path-behind-requires c = context_holds _ c.requires

pub after_path-requires : goal.after_path-requires
after_path-requires c = ap holds_path c.after_path-behind.ensures ∙ target_holds _ c.requires

pub returns : goal.returns
unfolding set_in
returns c = c.after_path.ensures ∙ ap after_path c.after_path-behind.ensures
