-- A label's text written from its body, return by return.
use Rattle.std.specs.Prelude.{ℕ, ◌+◌, ◌-◌, ◌≤◌, ◌≡◌, List, [], ◌∷◌, ◌++◌, length, get_or, take, drop}
use Rattle.std.proofs.Common.{sym, ◌∙◌, ap, subst, arith}
use borrow.Author.Rules.{part_to_end}
use Rattle.meaning.specs.Records.{read_label}
use Rattle.write_bytes.specs.Wrote.{Wrote, wrote_is, wrote_more}
use Rattle.write_text.specs.Texts.{label_text, label_plain, label_attribute}

module _ (body : List ℕ) {class : ℕ} (is : class ≡ get_or body 1 0) where
  -- an element's
  module _ (other : class ≡ 2 → ⊥) where
    plain : take (length body - 2) (drop 2 body) ≡ label_text (read_label body)
    plain = part_to_end body 2 ∙ sym (label_plain body (λ q. other (is ∙ q)))

    pub plain_room : (out : List ℕ) (at : ℕ) → at + length (label_text (read_label body)) ≤ length out
        → at + length (take (length body - 2) (drop 2 body)) ≤ length out
    plain_room out at h = subst (λ (v : List ℕ). at + length v ≤ length out) (sym plain) h

    pub plain_wrote : {out end : List ℕ} {at next : ℕ} → Wrote out end at (take (length body - 2) (drop 2 body)) next
        → Wrote out end at (label_text (read_label body)) next
    plain_wrote w = wrote_is plain w

  -- an attribute's
  module _ (two : class ≡ 2) where
    marked : (64 ∷ []) ++ take (length body - 2) (drop 2 body) ≡ label_text (read_label body)
    marked = ap (λ (v : List ℕ). 64 ∷ v) (part_to_end body 2) ∙ sym (label_attribute body (sym is ∙ two))

    pub mark_room : (out : List ℕ) (at : ℕ) → at + length (label_text (read_label body)) ≤ length out → at + 1 ≤ length out
    mark_room out at h = omega (arith, ap length marked)

    pub name_room : {out mid : List ℕ} {at next : ℕ} → at + length (label_text (read_label body)) ≤ length out → Wrote out mid at (64 ∷ []) next
        → next + length (take (length body - 2) (drop 2 body)) ≤ length mid
    name_room h w = omega (arith, ap length marked, w.after, w.kept)

    pub marked_wrote : {out mid end : List ℕ} {at next last : ℕ} → Wrote mid end next (take (length body - 2) (drop 2 body)) last
        → Wrote out mid at (64 ∷ []) next → Wrote out end at (label_text (read_label body)) last
    marked_wrote w v = wrote_is marked (wrote_more v w)
