use Rattle.std.proofs.Common.{subst, sym, ◌∙◌, arith}
use Rattle.write_set.specs.Unions.{Uniting, uniting_start, uniting_fits, uniting_next, uniting_end, unite_fits_in}
use Rattle.write_set.proofs.unite_beyond.Goals as goal

pub put-requires : goal.put-requires
put-requires c = let s = c.requires.small in let r = c.requires.room in omega arith

pub loop-path-init : goal.loop-path-init
loop-path-init c =
    subst (Uniting _ _ _ _ _ _ _ _ _) (sym (c.into_iter-path-iterator.ensures.into_iter_gives ∙ c.new-path-items.ensures)) (uniting_start _ c.requires c.put.ensures)

pub insert_path-grown-requires : goal.insert_path-grown-requires
insert_path-grown-requires c = uniting_fits (unite_fits_in c.requires c.put.ensures) (subst (Uniting _ _ _ _ _ _ _ _ _) c.in-Some.ensures.steps c.loop-path.invariant) c.beyond.ensures

pub loop-path-preserved : goal.loop-path-preserved
loop-path-preserved c = uniting_next (unite_fits_in c.requires c.put.ensures) (subst (Uniting _ _ _ _ _ _ _ _ _) c.in-Some.ensures.steps c.loop-path.invariant) c.beyond.ensures c.insert_path-grown.ensures

pub returns : goal.returns
returns c = uniting_end (unite_fits_in c.requires c.put.ensures) (subst (Uniting _ _ _ _ _ _ _ _ _) c.in-None.ensures.steps.0 c.loop-path.invariant) c.put.ensures
