use Prim.Native.Nat.{ℕ}
use mathlib.Core.Path.{ap, ◌∙◌}
use Rattle.meaning.specs.Records.{record_body}
use lib.ListN.{length-replicate}
use Rattle.op_lean_keys.specs.Searching.{keyed_room, key_asking, key_told}
use borrow.Author.Rules.{rules}
use Rattle.op_lean_keys.proofs.key_follows.Goals as goal

pub put_chosen-chosen-requires : goal.put_chosen-chosen-requires
put_chosen-chosen-requires c = (keyed_room c.requires.0 (length-replicate {A = ℕ} 3776 0), c.requires.1)

pub follows-requires : goal.follows-requires
follows-requires c = key_asking _ _ _ _ c.put_chosen-chosen.ensures c.requires.0 _ c.requires.2 (c.body_at_front-asked.ensures ∙ ap record_body c.record_at.ensures)

pub returns : goal.returns
returns c = key_told _ _ _ _ c.put_chosen-chosen.ensures _ c.requires.2 (c.body_at_front-asked.ensures ∙ ap record_body c.record_at.ensures) c.follows.ensures
