use Rattle.std.proofs.Common.{◌∙◌}
use Rattle.read_record.specs.Names.{letter_ascii}
use Rattle.read_record.proofs.names.is_letter.Goals as goal

pub returns : goal.returns
returns c = c.is_ascii_alphabetic.ensures.value ∙ letter_ascii _
