use lib.ListN.{replicate}
use Prim.Native.Nat.{ℕ}
use mathlib.Core.Path.{sym}
use lib.ListN.{length-replicate}
use lib.Seq.{length-take-le}
use Rattle.write_bytes.specs.Wrote.{part_length}
use Rattle.theory_records.specs.Bytes.{bytes_from}
use Rattle.op_lean.specs.Leaned.{profile_room, accepted_keyed, accepted_cut, accepted_count}
use Rattle.op_lean.specs.Returns.{prove_none, proof_within, proof_given, proof_told}
use borrow.Author.Rules.{rules}
use mathlib.Core.Path.{◌≡◌, ap}
use mathlib.Core.Bool.{not, true}
use Rattle.op_lean.proofs.accepted.prove_accepted.Goals as goal

pub reduction-stays-requires : goal.reduction-stays-requires
reduction-stays-requires c = accepted_keyed c.requires.0 c.record_at-part.ensures

pub is_dropped-requires : goal.is_dropped-requires
is_dropped-requires c = accepted_count c.requires.0 c.record_at-part.ensures

pub returns-then-not-is_dropped : goal.returns-then-not-is_dropped
returns-then-not-is_dropped c = prove_none c.requires.0 _ c.requires.1 c.record_at-part.ensures c.reduction-stays.ensures _ c.is_dropped.ensures (ap not c.if-not-is_dropped.true)

pub put_lean-chosen-requires : goal.put_lean-chosen-requires
put_lean-chosen-requires c = accepted_cut c.requires.0 c.record_at-part.ensures c.reduction-stays.ensures (profile_room (replicate {A = ℕ} 16384 0) (length-replicate {A = ℕ} 16384 0))

pub slice_bounds-decide_accepted-end : goal.slice_bounds-decide_accepted-end
slice_bounds-decide_accepted-end c = sym (part_length c.put_lean-chosen.ensures.wrote)

pub slice_bounds-asked-end : goal.slice_bounds-asked-end
slice_bounds-asked-end c = sym (length-take-le _ _ (proof_within c.requires.0 c.args.answer.now c.requires.1 c.record_at-part.ensures c.reduction-stays.ensures _ c.is_dropped.ensures (let e : c.is_dropped.result ≡ true = cc in ap not e) c.record_at-rest.ensures c.front_length.ensures))

pub decide_accepted-requires : goal.decide_accepted-requires
decide_accepted-requires c = (proof_given c.requires.0 c.args.answer.now c.requires.1 c.record_at-part.ensures c.reduction-stays.ensures _ c.is_dropped.ensures (let e : c.is_dropped.result ≡ true = cc in ap not e) c.record_at-rest.ensures c.front_length.ensures (bytes_from _ (λ i h. (c.shared_slice_known-1.given i).fits)) c.put_lean-chosen.ensures, c.requires.0.long, c.requires.1)

pub returns : goal.returns
returns c = proof_told c.requires.0 c.args.answer.now c.requires.1 c.record_at-part.ensures c.reduction-stays.ensures _ c.is_dropped.ensures (let e : c.is_dropped.result ≡ true = cc in ap not e) c.record_at-rest.ensures c.front_length.ensures (bytes_from _ (λ i h. (c.shared_slice_known-1.given i).fits)) c.put_lean-chosen.ensures c.decide_accepted.result _ c.decide_accepted.ensures c.proof_of.ensures
