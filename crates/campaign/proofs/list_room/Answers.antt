use Rattle.std.proofs.Common.{ℕ, sym}
use Rattle.std.proofs.lemmas.List.{length-replicate}
use Rattle.campaign.proofs.list_room.Goals as goal

pub returns : goal.returns
returns c = sym (length-replicate {A = ℕ} 819201 0)
