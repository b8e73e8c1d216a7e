use Rattle.std.proofs.Common.{refl, subst, sym, ◌∙◌, arith}
use Rattle.meaning.specs.Text.{put_path}
use Rattle.read_record.specs.BodyParts.{paths_of}
use Rattle.write_set.specs.Encoded.{bytes_more}
use Rattle.write_set.specs.Places.{Seeking, seek_start, seek_within}
use Rattle.write_order.specs.Places.{place_before, place_end, seek_next}
use Rattle.write_order.proofs.find_place.Goals as goal

pub loop-other-init : goal.loop-other-init
loop-other-init c =
    subst (Seeking (put_path c.args.path.now) (paths_of c.args.count c.args.paths.now) 0) (sym (c.into_iter-other-iterator.ensures.into_iter_gives ∙ c.new-other-items.ensures))
    (seek_start (put_path c.args.path.now) _)

pub returns-then-before : goal.returns-then-before
returns-then-before c =
    place_before c.args.path.now c.args.count c.args.paths.now c.requires (subst (Seeking (put_path c.args.path.now) (paths_of c.args.count c.args.paths.now) c.loop-other.passed) c.in-Some.ensures.steps c.loop-other.invariant)
    c.before-in-loop-other.ensures c.if-before.true

pub overflow_add-passed-in-loop-other : goal.overflow_add-passed-in-loop-other
overflow_add-passed-in-loop-other c =
    let w = seek_within c.args.count c.args.paths.now c.requires (subst (Seeking (put_path c.args.path.now) (paths_of c.args.count c.args.paths.now) c.loop-other.passed) c.in-Some.ensures.steps c.loop-other.invariant) in
    let m = bytes_more c.in-Some.other.now c.next.new.self in
    record { fits = omega arith }

pub loop-other-preserved : goal.loop-other-preserved
loop-other-preserved c = seek_next c.args.path.now (subst (Seeking (put_path c.args.path.now) (paths_of c.args.count c.args.paths.now) c.loop-other.passed) c.in-Some.ensures.steps c.loop-other.invariant) c.before-in-loop-other.ensures c.if-before.false refl

pub returns : goal.returns
returns c = place_end c.args.path.now c.args.count c.args.paths.now c.requires (subst (Seeking (put_path c.args.path.now) (paths_of c.args.count c.args.paths.now) c.loop-other.passed) c.in-None.ensures.steps.0 c.loop-other.invariant)
