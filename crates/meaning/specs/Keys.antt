-- Keys, keeping and implication: document 01, "Trees, paths and keys", and 001, Definition 1.
use Rattle.std.specs.Prelude.{ℕ, ◌<◌, ◌≡◌, Bool, not, ◌≢◌, List, [], ◌∷◌, T}
use Rattle.meaning.specs.Lists.{Each, lower}
use Rattle.meaning.specs.Paths.{Class, Label, Agrees, singles}
use Rattle.meaning.specs.Trees.{Table, IsTree, Once, Reached, Equal}

-- "A key is (C, (T, S)): context C, target T, a set S of one or more simple key paths."
pub record Key : Type 0 where
  pub context : List ℕ
  pub target : List ℕ
  pub paths : List (List ℕ)

-- "value-equal pair x, y with x reached from a and y from b by P"
pub record EqualPair (κ : ℕ → Class) (t : Table) (a b : ℕ) (P : List ℕ) : Type 0 where
  pub x : ℕ
  pub y : ℕ
  pub from_first : Reached t a P x
  pub from_second : Reached t b P y
  pub equal : Equal κ t x y

-- A witness that the tree breaks the key: "node q reached from the root by C", "two different nodes a, b reached from q by T",
-- and a value-equal pair for each key path
pub record Breaks (κ : ℕ → Class) (t : Table) (key : Key) : Type 0 where
  pub q : ℕ
  pub a : ℕ
  pub b : ℕ
  pub context : Reached t 0 key.context q
  pub first : Reached t q key.target a
  pub second : Reached t q key.target b
  pub different : a ≢ b
  pub pairs : Each (EqualPair κ t a b) key.paths

-- "A tree keeps the key if .. some P in S has no value-equal pair": there is no witness against it
unfoldable pub Keeps : (ℕ → Class) → Table → Key → Type 0
Keeps κ t key = Breaks κ t key → ⊥

-- 02, request 9: "for each key path one value-equal pair", its two numbers one after the other, the node below the smaller target first, "in
-- key-path order"
pub data Paired (κ : ℕ → Class) (t : Table) (a b : ℕ) : List (List ℕ) → List ℕ → Type 0 where
  unpaired : Paired κ t a b [] []
  pair : {P : List ℕ} {paths : List (List ℕ)} {numbers : List ℕ} (x y : ℕ) → Reached t a P x → Reached t b P y → Equal κ t x y
      → Paired κ t a b paths numbers → Paired κ t a b (P ∷ paths) (x ∷ y ∷ numbers)

-- "the context node, the two target nodes, and for each key path one value-equal pair": the numbers of a witness, the smaller target first
pub record Shows (κ : ℕ → Class) (t : Table) (key : Key) (numbers : List ℕ) : Type 0 where
  pub q : ℕ
  pub a : ℕ
  pub b : ℕ
  pub pairs : List ℕ
  pub are : numbers ≡ q ∷ a ∷ b ∷ pairs
  pub context : Reached t 0 key.context q
  pub first : Reached t q key.target a
  pub second : Reached t q key.target b
  pub ordered : a < b
  pub paired : Paired κ t a b key.paths pairs

-- "Of all such witnesses it is the first by context number, then smaller target number, then larger, then each pair by its two numbers in
-- key-path order."
pub record FirstWitness (κ : ℕ → Class) (t : Table) (key : Key) (numbers : List ℕ) : Type 0 where
  pub shows : Shows κ t key numbers
  pub first : (others : List ℕ) → Shows κ t key others → T (not (lower others numbers))

-- "every finite tree, of any size, labels and values, that keeps the profile keeps the key"; the trees are those of the edition
unfoldable pub Implied : Bool → List Label → List Key → Key → Type 0
Implied second labels keys key =
    (κ : ℕ → Class) → Agrees labels κ → (t : Table) → IsTree κ t → Once (singles second κ) t → Each (Keeps κ t) keys → Keeps κ t key
