use Rattle.std.proofs.Common.{arith}
use Rattle.tree_table.specs.FileTable.{bytes_wide, bytes_other}
use Rattle.tree_table.proofs.fields.bytes_of.Goals as goal

pub returns-in-5 : goal.returns-in-5
returns-in-5 c = (bytes_wide _ c.in-5.is, omega arith, omega arith)

pub returns-in_default : goal.returns-in_default
returns-in_default c = (bytes_other _ (λ e. omega arith), omega arith, omega arith)
