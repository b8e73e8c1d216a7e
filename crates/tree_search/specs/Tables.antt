-- Tables that hold 0 everywhere.
use Rattle.std.specs.Prelude.{ℕ, List, [], ◌∷◌, replicate}
use Rattle.tree_rows.specs.declared.hung.Hung as lists
use Rattle.tree_search.specs.declared.tables.Tables.{Tables}

abbrev pub zeros : List ℕ
zeros = replicate 4096 0

abbrev pub blank_lists : lists.Hung
blank_lists = record { from = zeros; first = zeros; next = zeros }

abbrev pub blank_tables : Tables
blank_tables =
    record {
      hung = blank_lists ∷ blank_lists ∷ blank_lists ∷ blank_lists ∷ [];
      sorted = record { top = zeros; group = zeros; number = zeros; chain = zeros; stamp = zeros; lead = zeros };
      memo = record { seen = zeros; marks = zeros };
    }
