use Rattle.std.proofs.Common.{refl}
use native.Mathlib.Omega.{arith}
use borrow.Author.Tests.{not-false}
use borrow.Author.Rules.{part_to_end}
use Rattle.read_inputs.specs.ProfileWalks.{over_refusal, profile_first, profile_other, profile_second, edition_here}
use borrow.Author.Rules.{rules}
use mathlib.Core.Path.{ap}
use mathlib.Core.Bool.{not}
use Rattle.read_inputs.proofs.profile.read_profile.Goals as goal

pub returns-then-bytes-gt-PROFILE_BYTES : goal.returns-then-bytes-gt-PROFILE_BYTES
returns-then-bytes-gt-PROFILE_BYTES c = over_refusal _ c.if-bytes-gt-PROFILE_BYTES.true

pub returns-then-not-is_edition_record : goal.returns-then-not-is_edition_record
returns-then-not-is_edition_record c = profile_first _ c.if-bytes-gt-PROFILE_BYTES.false c.is_edition_record.ensures (ap not c.if-not-is_edition_record.true) _ c.read_entries.ensures

pub bounds-bytes-4 : goal.bounds-bytes-4
bounds-bytes-4 c = let h = edition_here _ c.is_edition_record.ensures (c.if-not-is_edition_record.false) in let w = h.within in omega arith

pub slice_bounds-read_entries-count : goal.slice_bounds-read_entries-count
slice_bounds-read_entries-count c = let h = edition_here _ c.is_edition_record.ensures (c.if-not-is_edition_record.false) in let w = h.within in omega arith

pub slice_bounds-read_entries-start : goal.slice_bounds-read_entries-start
slice_bounds-read_entries-start c = let h = edition_here _ c.is_edition_record.ensures (c.if-not-is_edition_record.false) in let w = h.within in omega arith

pub returns-then-bytes-ne-SECOND_EDITION : goal.returns-then-bytes-ne-SECOND_EDITION
returns-then-bytes-ne-SECOND_EDITION c = profile_other _ c.if-bytes-gt-PROFILE_BYTES.false c.is_edition_record.ensures (ap not c.if-not-is_edition_record.false) refl c.if-bytes-ne-SECOND_EDITION.true

pub returns : goal.returns
returns c = profile_second _ c.if-bytes-gt-PROFILE_BYTES.false c.is_edition_record.ensures (ap not c.if-not-is_edition_record.false) refl (omega arith) (part_to_end c.args.bytes.now 5) _ c.read_entries-2.ensures
