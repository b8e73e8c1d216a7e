use Rattle.std.proofs.Common.{◌∙◌}
use Rattle.std.proofs.lemmas.Bool.{lt-leb}
use Rattle.read_line.specs.Told.{fits_long}
use Rattle.read_line.proofs.parts.path_fits.Goals as goal

pub returns-else-path-le-SYMBOLS : goal.returns-else-path-le-SYMBOLS
returns-else-path-le-SYMBOLS c = λ p s. lt-leb _ 8 c.if-path-le-SYMBOLS.false ∙ fits_long _ _ _ c.if-path-le-SYMBOLS.false p s
