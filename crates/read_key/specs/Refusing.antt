-- The first of 4, 5 and 6: what the code's tests say, return by return.
use Rattle.std.specs.Prelude.{ℕ, ◌≡◌, Bool, true, false, not, List}
use Rattle.std.proofs.Math.Path.{sym}
use Rattle.std.proofs.Common.{◌∙◌}
use borrow.Author.Tests.{not-true, not-false}
use Rattle.meaning.specs.Keys.{Key}
use Rattle.meaning.specs.Refusals.{first_of, good_set}
use Rattle.read_record.specs.Classes.{good_symbols_by, all_valid_by, key_tests_by}
use Rattle.read_key.specs.Symbols.{limits_of, symbols_any_count}
use Rattle.read_key.specs.Order.{set_any_symbols}

module _ (classes : List ℕ) (symbols path_symbols paths : ℕ) (k : Key)
    {a : Bool} (four : a ≡ good_symbols_by classes (limits_of symbols path_symbols 0) k) where
  asked : a ≡ good_symbols_by classes (limits_of symbols path_symbols paths) k
  asked = four ∙ symbols_any_count classes symbols path_symbols k 0 paths

  pub refuses_four : not a ≡ true → 4 ≡ first_of (key_tests_by classes (limits_of symbols path_symbols paths) k)
  unfolding key_tests_by first_of
  refuses_four t = rw (sym asked ∙ not-true _ t)

  module _ (u : not a ≡ false) {b : Bool} (five : b ≡ good_set (limits_of 0 0 paths) k) where
    set : b ≡ good_set (limits_of symbols path_symbols paths) k
    set = five ∙ set_any_symbols k symbols path_symbols paths

    pub refuses_five : not b ≡ true → 5 ≡ first_of (key_tests_by classes (limits_of symbols path_symbols paths) k)
    unfolding key_tests_by first_of
    refuses_five t = rw (sym asked ∙ not-false _ u, sym set ∙ not-true _ t)

    module _ (v : not b ≡ false) {d : Bool} (six : d ≡ all_valid_by classes k) where
      pub refuses_six : not d ≡ true → 6 ≡ first_of (key_tests_by classes (limits_of symbols path_symbols paths) k)
      unfolding key_tests_by first_of
      refuses_six t = rw (sym asked ∙ not-false _ u, sym set ∙ not-false _ v, sym six ∙ not-true _ t)

      pub refuses_none : not d ≡ false → 0 ≡ first_of (key_tests_by classes (limits_of symbols path_symbols paths) k)
      unfolding key_tests_by first_of
      refuses_none t = rw (sym asked ∙ not-false _ u, sym set ∙ not-false _ v, sym six ∙ not-false _ t)
