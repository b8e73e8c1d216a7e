use Rattle.std.proofs.Common.{◌<◌}
use Rattle.tree_table.specs.FileTable.{file_table, class_by}
use Rattle.tree_rows.specs.Families.{FamiliesFrom}
use Rattle.tree_equal.specs.Marks.{Clean}
use Rattle.tree_groups.specs.InRows.{OnlyFamilies}
use Rattle.tree_groups.proofs.gather.Given as goal

abbrev pub invariant-loop-x : goal.invariant-loop-x
invariant-loop-x l = (0 < l.x) × FamiliesFrom (class_by l.classes) (file_table l.tree) l.rows.family l.x × OnlyFamilies l.initial.rows l.rows × Clean l.marks
