use mathlib.Core.Path.{◌∙◌, ap}
use Rattle.read_record.specs.BodyParts.{holds_path, lead_path}
use Rattle.read_record.specs.KeyPaths.{context_holds, target_holds, target_is}
use Rattle.read_record.proofs.keys.target.Goals as goal

-- `read_record::keys::target` meets its contract. One law of specs/ for each return.
pub after_path-behind-requires : goal.after_path-behind-requires
after_path-behind-requires c = context_holds _ c.requires

pub lead_path-requires : goal.lead_path-requires
lead_path-requires c = ap holds_path c.after_path-behind.ensures ∙ target_holds _ c.requires

pub returns : goal.returns
returns c = c.lead_path.ensures ∙ ap lead_path c.after_path-behind.ensures ∙ target_is _ c.requires
