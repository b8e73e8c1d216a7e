use Rattle.rule_joins.specs.Joins.{overlap_left, overlap_right, overlap_one, overlap_none}
use Rattle.rule_joins.proofs.overlap.Goals.{then-x-eq0-via-then-x-eq0, then-x-eq0-via-else-x-eq0+then-y-eq0}
use Rattle.rule_joins.proofs.overlap.Goals as goal

pub returns-then-x-eq0 : goal.returns-then-x-eq0
returns-then-x-eq0 c =
    elim c.then-x-eq0.branch [
      | then-x-eq0-via-then-x-eq0 w ↦ search overlap_left
      | then-x-eq0-via-else-x-eq0+then-y-eq0 w ↦ search overlap_right
    ]

pub returns-then-doubled : goal.returns-then-doubled
returns-then-doubled c = search overlap_one

pub returns-else-doubled : goal.returns-else-doubled
returns-else-doubled c = search overlap_none
