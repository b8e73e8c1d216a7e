use Rattle.op_accept.specs.Taken.{tables_of}
use Rattle.op_campaign.specs.Segments.{adds_nothing}
use Rattle.op_campaign.proofs.count_segment.Goals as goal

pub count_under-requires : goal.count_under-requires
count_under-requires c = (tables_of c.in-Ok.ensures.0 c.in-Ok.ensures.1, c.in-Ok.ensures.0)

pub returns-in-Err : goal.returns-in-Err
returns-in-Err c = adds_nothing c.in-Err.ensures _ _
