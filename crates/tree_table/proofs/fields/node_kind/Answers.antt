use Rattle.std.proofs.Common.{sym, ◌∙◌}
use Rattle.tree_table.specs.FileTable.{kind_short, kind_wide, kind_other}
use Rattle.tree_table.proofs.fields.node_kind.Goals.{else-tree-ge-HEAD_BYTES-via-then-tree-ge-HEAD_BYTES+else-word-eq-WIDE_KIND, else-tree-ge-HEAD_BYTES-via-else-tree-ge-HEAD_BYTES}
use Rattle.tree_table.proofs.fields.node_kind.Goals as goal

pub returns-then-word-eq-WIDE_KIND : goal.returns-then-word-eq-WIDE_KIND
returns-then-word-eq-WIDE_KIND c = kind_wide _ c.if-tree-ge-HEAD_BYTES.true (sym c.word.ensures.0 ∙ c.if-word-eq-WIDE_KIND.true)

pub returns-else-tree-ge-HEAD_BYTES : goal.returns-else-tree-ge-HEAD_BYTES
returns-else-tree-ge-HEAD_BYTES c =
    elim c.else-tree-ge-HEAD_BYTES.branch [
      | else-tree-ge-HEAD_BYTES-via-then-tree-ge-HEAD_BYTES+else-word-eq-WIDE_KIND w ↦ kind_other _ w.if-tree-ge-HEAD_BYTES.true (λ e. w.if-word-eq-WIDE_KIND.false (w.word.ensures.0 ∙ e))
      | else-tree-ge-HEAD_BYTES-via-else-tree-ge-HEAD_BYTES w ↦ kind_short _ w.if-tree-ge-HEAD_BYTES.false
    ]
