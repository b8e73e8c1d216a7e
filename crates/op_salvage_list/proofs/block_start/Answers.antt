use native.Mathlib.Omega.{arith}
use Rattle.op_salvage_list.specs.Listing.{starts_at, starts_past}
use borrow.Author.Rules.{rules}
use Rattle.op_salvage_list.proofs.block_start.Goals as goal

pub returns-then-block-ge-BLOCKS : goal.returns-then-block-ge-BLOCKS
returns-then-block-ge-BLOCKS c = starts_past _ (omega arith)

pub returns : goal.returns
returns c = starts_at _ (omega arith)
