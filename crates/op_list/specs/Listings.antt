-- Listing a block of a tree.
use Rattle.std.specs.Prelude.{ℕ, ◌≤◌, ◌<◌, ◌≡◌, List, length}
use Rattle.std.proofs.Math.Path.{refl}
use Rattle.std.proofs.Common.{◌∙◌}
use Rattle.meaning.specs.Refusals.{Refusal, sound, profile_refusal, tree_refusal, nodes_in}
use Rattle.meaning.specs.Listing.{block}
use Rattle.meaning.specs.Operations.{Lists, refused_by, filled, listed, second_in, labels_in}
use Rattle.theory_answers.specs.Refusing.{unless_small, unless_sound, unless_refused, sound_more, sound_end, first_passes, answer_large, tree_settled, first_named, sound_number}

module _ (profile tree : List ℕ) (k : ℕ) (buffer : List ℕ) where
  pub list_small : length buffer < 65536 → Lists profile tree k buffer (refused_by (record { number = 14; input = 4; place = 0 }) buffer)
  unfolding Lists
  list_small h = unless_small _ buffer _ h

  module _ (room : 65536 ≤ length buffer) where
    pub list_tree : (r : Refusal) → sound ≡ profile_refusal profile → r ≡ tree_refusal (second_in profile) (labels_in profile) tree → 0 < r.input
        → Lists profile tree k buffer (refused_by r buffer)
    unfolding Lists
    list_tree r s e named =
        unless_refused _ buffer _ r
        (first_passes _ _ (answer_large buffer room) ∙ first_passes _ _ (sound_number s)
        ∙ first_named r (tree_refusal (second_in profile) (labels_in profile) tree) _ (tree_settled (second_in profile) (labels_in profile) tree) e named)
        named

    pub list_block : sound ≡ profile_refusal profile → sound ≡ tree_refusal (second_in profile) (labels_in profile) tree
        → Lists profile tree k buffer (filled listed (block (labels_in profile) (nodes_in (second_in profile) (labels_in profile) tree) k) buffer)
    unfolding Lists
    list_block s t =
        unless_sound _ buffer _ _
        (sound_more _ _ (answer_large buffer room) (sound_more _ _ (sound_number s) (sound_more _ _ (sound_number t) sound_end))) refl
