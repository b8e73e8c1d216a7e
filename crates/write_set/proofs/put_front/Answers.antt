use Rattle.std.proofs.Common.{subst, sym, ◌∙◌}
use Rattle.write_set.specs.Fronts.{Fronting, fronting_start, fronting_fits, fronting_next, fronting_end}
use Rattle.write_set.proofs.put_front.Goals as goal

pub loop-path-init : goal.loop-path-init
loop-path-init c =
    subst (Fronting _ _ _ _ _ _) (sym (c.into_iter-path-iterator.ensures.into_iter_gives ∙ c.new-path-items.ensures)) (fronting_start c.requires)

pub put_joined-at-requires : goal.put_joined-at-requires
put_joined-at-requires c = fronting_fits c.requires (subst (Fronting _ _ _ _ _ _) c.in-Some.ensures.steps c.loop-path.invariant)

pub loop-path-preserved : goal.loop-path-preserved
loop-path-preserved c = fronting_next c.requires (subst (Fronting _ _ _ _ _ _) c.in-Some.ensures.steps c.loop-path.invariant) c.put_joined-at.ensures

pub returns : goal.returns
returns c = fronting_end c.requires (subst (Fronting _ _ _ _ _ _) c.in-None.ensures.steps.0 c.loop-path.invariant)
