use mathlib.Core.Path.{◌∙◌}
use Rattle.read_record.specs.KeyPaths.{context_holds, context_is}
use Rattle.read_record.proofs.keys.context.Goals as goal

-- `read_record::keys::context` meets its contract. One law of specs/ for each return.
pub lead_path-requires : goal.lead_path-requires
lead_path-requires c = context_holds _ c.requires

pub returns : goal.returns
returns c = c.lead_path.ensures ∙ context_is _ c.requires
