-- The bench examples a to m of document 01, as ONE table: "Elements 2 run, 3 port, 4 frame, 5 stamp; attributes 6 id, 7 seq."
use Rattle.std.specs.Prelude.{ℕ, Bool, true, false, List, [], ◌∷◌}
use Rattle.meaning.specs.Paths.{Label}
use Rattle.meaning.specs.Keys.{Key}

abbrev pub label : ℕ → ℕ → List ℕ → Label
label n c name = record { number = n; class = c; name = name }

unfoldable pub bench : List Label
bench =
    label 2 1 (114 ∷ 117 ∷ 110 ∷ []) ∷ label 3 1 (112 ∷ 111 ∷ 114 ∷ 116 ∷ []) ∷ label 4 1 (102 ∷ 114 ∷ 97 ∷ 109 ∷ 101 ∷ [])
    ∷ label 5 1 (115 ∷ 116 ∷ 97 ∷ 109 ∷ 112 ∷ []) ∷ label 6 2 (105 ∷ 100 ∷ []) ∷ label 7 2 (115 ∷ 101 ∷ 113 ∷ []) ∷ []

abbrev pub key : List ℕ → List ℕ → List (List ℕ) → Key
key c t s = record { context = c; target = t; paths = s }

-- A row: its letter, whether the profile is of edition 2, the profile's keys, the asked key, and whether 01 says I (implied) or N
pub record Row : Type 0 where
  pub letter : ℕ
  pub second : Bool
  pub keys : List Key
  pub asked : Key
  pub implied : Bool

abbrev pub row : ℕ → List Key → Key → Bool → Row
row l ks k i = record { letter = l; second = false; keys = ks; asked = k; implied = i }

abbrev pub e : List ℕ
e = []

unfoldable pub rows : List Row
rows =
    row 97 (key e (3 ∷ 4 ∷ []) ((7 ∷ []) ∷ []) ∷ []) (key (3 ∷ []) (4 ∷ []) ((7 ∷ []) ∷ [])) true
    ∷ row 98 (key (3 ∷ []) (4 ∷ []) ((7 ∷ []) ∷ []) ∷ []) (key e (3 ∷ 4 ∷ []) ((7 ∷ []) ∷ [])) false
    ∷ row 99 (key e (3 ∷ 4 ∷ []) (e ∷ (5 ∷ []) ∷ []) ∷ []) (key e (3 ∷ []) (e ∷ (4 ∷ 5 ∷ []) ∷ [])) true
    ∷ row 100 (key e (3 ∷ 4 ∷ []) ((5 ∷ []) ∷ (7 ∷ []) ∷ []) ∷ []) (key e (3 ∷ []) ((4 ∷ 5 ∷ []) ∷ (4 ∷ 7 ∷ []) ∷ [])) false
    ∷ row 102 (key e (3 ∷ []) ((4 ∷ 7 ∷ []) ∷ []) ∷ key (3 ∷ []) (4 ∷ []) ((7 ∷ []) ∷ []) ∷ []) (key e (3 ∷ 4 ∷ []) ((7 ∷ []) ∷ [])) true
    ∷ row 103 [] (key (2 ∷ []) e ((6 ∷ []) ∷ [])) true
    ∷ row 104 (key e (0 ∷ 4 ∷ []) ((7 ∷ []) ∷ []) ∷ []) (key e (3 ∷ 4 ∷ []) ((7 ∷ []) ∷ [])) true
    ∷ row 105 (key e (3 ∷ 4 ∷ []) ((7 ∷ []) ∷ []) ∷ []) (key e (0 ∷ 4 ∷ []) ((7 ∷ []) ∷ [])) false
    ∷ row 106 (key e (4 ∷ []) ((5 ∷ 1 ∷ []) ∷ []) ∷ []) (key e (4 ∷ []) ((5 ∷ []) ∷ [])) false
    ∷ row 107 (key e (3 ∷ []) ((4 ∷ []) ∷ []) ∷ []) (key e (3 ∷ []) ((4 ∷ 7 ∷ []) ∷ [])) false
    ∷ row 108 (key e (3 ∷ []) (e ∷ (4 ∷ []) ∷ []) ∷ []) (key e (3 ∷ []) (e ∷ (4 ∷ 7 ∷ []) ∷ [])) true
    ∷ row 109 [] (key (3 ∷ []) (6 ∷ []) (e ∷ [])) false
    -- request 5: "Example m becomes implied in edition 2."
    ∷ record { letter = 109; second = true; keys = []; asked = key (3 ∷ []) (6 ∷ []) (e ∷ []); implied = true }
    ∷ []
