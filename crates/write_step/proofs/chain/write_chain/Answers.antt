use Rattle.write_step.specs.StepLines.{chain_united}
use Rattle.write_step.specs.RowKeys.{united_bytes}
use lib.Seq.{length-take-le}
use mathlib.Core.Path.{sym}
use native.Mathlib.Omega.{arith}
use Rattle.write_step.proofs.chain.write_chain.Goals as goal

pub slice_bounds-write_chain_lines-end : goal.slice_bounds-write_chain_lines-end
slice_bounds-write_chain_lines-end c = sym (length-take-le _ _ (omega arith))

pub write_chain_lines-requires : goal.write_chain_lines-requires
write_chain_lines-requires c = search (united_bytes)

pub returns : goal.returns
returns c = search (chain_united)
