-- ARGUMENT §6, "It keeps each profile key": a witness in the written tree is a step of the pattern from below the trunk up into it.
use Rattle.std.specs.Prelude.{ℕ, ◌≤◌, ◌<◌, ◌≡◌, refl, ◌≢◌, ◌⊎◌, Bool, true, false, T, length}
use Rattle.std.proofs.Common.{sym, ap, subst, ◌∙◌, inl, inr, true≢false, arith}
use Rattle.std.proofs.lemmas.Bool.{false≢true}
use mathlib.Core.List.Memᴰ
use mathlib.Core.List.{List, [], ◌∷◌, ◌++◌, Memᴰ}
use Rattle.std.proofs.Math.Decide.{dec_lt}
use Rattle.meaning.specs.Limits.{filler_attribute}
use Rattle.meaning.specs.Lists.{Each}
use Rattle.meaning.specs.Lists.Each.{end, also}
use Rattle.meaning.specs.Paths.{Class, member, simple}
use Rattle.meaning.specs.Trees.{Table, Down, here, Reached}
use Rattle.meaning.specs.Keys.{Key, EqualPair, Breaks}
use Rattle.theory_paths.specs.Words.{Word, member→word, word→member}
use Rattle.theory_paths.specs.Simple.{simple_word}
use Rattle.theory_trees.specs.Below.{rigid_node, down_inside}
use Rattle.theory_counter.specs.Doubled.{Drawn, Stands, Written}
use Rattle.theory_counter.specs.Climb.{Above, AboveFiller, own, above_own, above_filler}
use Rattle.theory_counter.specs.Twins.{Twins, equal_twins}
use Rattle.theory_counter.specs.Ending.{Without, word_shorter}

-- A key path of a profile: simple, and no filler attribute in it
pub record KeyPath (P : List ℕ) : Type 0 where
  pub is_simple : T (simple P)
  pub known : Without filler_attribute P

-- What the argument asks of a profile key
pub record KeyShape (k : Key) : Type 0 where
  pub target : Without filler_attribute k.target
  pub paths : Each KeyPath k.paths
  pub some : k.paths ≢ []

-- the path reaches a marked pattern node from x
pub record Marks (p : Table) (mark : ℕ → Bool) (x : ℕ) (path : List ℕ) : Type 0 where
  pub node : ℕ
  pub is_marked : T (mark node)
  pub reached : Reached p x path node

-- The key lets a node below the trunk step to one of the trunk
pub record Crosses (p : Table) (mark : ℕ → Bool) (u : ℕ) (k : Key) : Type 0 where
  pub from : ℕ
  pub to : ℕ
  pub below : u < from
  pub inside : from < p.size
  pub trunk : to ≤ u
  pub context : Reached p 0 k.context to
  pub target : Reached p to k.target from
  pub lands : Each (Marks p mark from) k.paths

-- a and b belong to one pattern node, from which the path reaches a marked node
record Targets (κ : ℕ → Class) (p : Table) (mark : ℕ → Bool) (number : Bool → ℕ → Bool → ℕ) (a b : ℕ) (P : List ℕ) : Type 0 where
  first_copy : Bool
  second_copy : Bool
  node : ℕ
  filler : Bool
  stands : Stands κ p node filler
  first : a ≡ number first_copy node filler
  second : b ≡ number second_copy node filler
  lands : Marks p mark node P

-- the context stands above both targets in the trunk, and the target path reads its way down to them
record Context (p : Table) (u : ℕ) (number : Bool → ℕ → Bool → ℕ) (v : ℕ) (run : List ℕ) (z : ℕ) : Type 0 where
  copy : Bool
  node : ℕ
  inside : node < p.size
  trunk : node ≤ u
  here : v ≡ number copy node false
  front : List ℕ
  down : Down p node front z
  reads : (P : List ℕ) → Without filler_attribute P → T (member P run) → T (member P front)

-- a simple path's word is itself
reached_run : {t : Table} {a x : ℕ} {P : List ℕ} → T (simple P) → (r : Reached t a P x) → r.run ≡ P
reached_run {P = P} s r = simple_word P r.run s (member→word P r.run r.word)

module _ {κ : ℕ → Class} {p : Table} {mark : ℕ → Bool} {u : ℕ} {w : Table} (D : Drawn κ p mark u) (W : Written κ p mark u w) where
  not_filled : {P run : List ℕ} (front : List ℕ) → Without filler_attribute P → run ≡ P → run ≡ front ++ (filler_attribute ∷ []) → ⊥
  unfolding Without
  not_filled front n e q =
      n (subst (λ (l : List ℕ). Memᴰ filler_attribute l) (sym q ∙ e) (Memᴰ.append_right front (Memᴰ.head refl)))

  -- from a pair of twins up to the targets
  climb : {a b : ℕ} {P : List ℕ} → KeyPath P → (e : EqualPair κ w a b P) → a ≢ b → (t : Twins κ p mark W.number e.x e.y) → T (mark t.node)
      → Targets κ p mark W.number a b P
  climb {a} {b} {P} k e d t m = go t.filler t.stands t.first t.second
    where
      ra : e.from_first.run ≡ P
      ra = reached_run k.is_simple e.from_first

      rb : e.from_second.run ≡ P
      rb = reached_run k.is_simple e.from_second

      at_filler : (Stands κ p t.node true)
          → ((a ≡ W.number t.first_copy t.node true) × (e.from_first.run ≡ []))
          ⊎ AboveFiller p W.number t.first_copy a e.from_first.run t.node
          → ((b ≡ W.number t.second_copy t.node true) × (e.from_second.run ≡ []))
          ⊎ AboveFiller p W.number t.second_copy b e.from_second.run t.node → Targets κ p mark W.number a b P
      at_filler st (inr f) g = absurd (not_filled f.front k.known ra f.whole)
      at_filler st (inl f) (inr g) = absurd (not_filled g.front k.known rb g.whole)
      at_filler st (inl f) (inl g) =
          record {
            first_copy = t.first_copy;
            second_copy = t.second_copy;
            node = t.node;
            filler = true;
            stands = st;
            first = f.0;
            second = g.0;
            lands =
                record {
                  node = t.node;
                  is_marked = m;
                  reached =
                      record { run = []; down = here refl; word = subst (λ (l : List ℕ). T (member P l)) f.1 e.from_first.word };
                };
          }

      go : (f : Bool) → Stands κ p t.node f → e.x ≡ W.number t.first_copy t.node f → e.y ≡ W.number t.second_copy t.node f
          → Targets κ p mark W.number a b P
      go true st q q' =
          at_filler st (above_filler D W t.first_copy t.node e.from_first.down q st)
          (above_filler D W t.second_copy t.node e.from_second.down q' st)
      go false st q q' =
          let f = above_own D W t.first_copy t.node e.from_first.down q st.inside in
          let g = above_own D W t.second_copy t.node e.from_second.down q' st.inside in
          let same : f.node ≡ g.node = rigid_node f.down g.down (ap length (ra ∙ sym rb)) in
          record {
            first_copy = t.first_copy;
            second_copy = t.second_copy;
            node = f.node;
            filler = false;
            stands = own D W f.inside;
            first = f.here;
            second = g.here ∙ ap (λ (n : ℕ). W.number t.second_copy n false) (sym same);
            lands =
                record {
                  node = t.node;
                  is_marked = m;
                  reached = record { run = e.from_first.run; down = f.down; word = e.from_first.word };
                };
          }

  -- "x and y differ (else a = b by rigidity), so they are twins"
  targets : {a b : ℕ} {P : List ℕ} → a < w.size → b < w.size → a ≢ b → KeyPath P → EqualPair κ w a b P → Targets κ p mark W.number a b P
  targets {a} {b} {P} ha hb d k e =
      let differ : e.x ≢ e.y =
      λ q.
      d
      (rigid_node e.from_first.down (subst (λ (n : ℕ). Down w b e.from_second.run n) (sym q) e.from_second.down)
      (ap length (reached_run k.is_simple e.from_first ∙ sym (reached_run k.is_simple e.from_second)))) in
      let t = equal_twins D W (down_inside e.from_first.down ha) (down_inside e.from_second.down hb) e.equal in
      climb k e d t (t.marked differ)

  -- each key path reaches a mark from the one pattern node
  all_land : {a b : ℕ} → a < w.size → b < w.size → a ≢ b → {s : Bool} {z : ℕ} {f : Bool} → Stands κ p z f → a ≡ W.number s z f
      → {Ps : List (List ℕ)} → Each KeyPath Ps → Each (EqualPair κ w a b) Ps → Each (Marks p mark z) Ps
  all_land ha hb d st q end end = end
  all_land ha hb d st q (also {x = P} k ks) (also e es) =
      let t = targets ha hb d k e in
      let r = W.apart t.stands st (sym t.first ∙ q) in
      also (subst (λ (n : ℕ). Marks p mark n P) r.0 t.lands) (all_land ha hb d st q ks es)

  -- two nodes of the tree that belong to one pattern node and differ stand below the trunk, in different copies
  differ_below : {a b : ℕ} {s s' : Bool} {z : ℕ} {f : Bool} → a ≢ b → a ≡ W.number s z f → b ≡ W.number s' z f → (u < z) × (s ≢ s')
  differ_below {s = s} {s'} {z} {f} d q q' = (go (dec_lt u z), λ e. d (q ∙ ap (λ (c : Bool). W.number c z f) e ∙ sym q'))
    where
      go : Dec (u < z) → u < z
      go (yes h) = h
      go (no h) = absurd (d (q ∙ W.trunk_once s s' z f (omega arith) ∙ sym q'))

  -- what stands above nodes of different copies is in the trunk
  trunk_of : {s s' : Bool} {v z : ℕ} {r r' : List ℕ} → s ≢ s' → (f : Above p W.number s v r z) → Above p W.number s' v r' z → f.node ≤ u
  trunk_of n f g = go (dec_lt u f.node)
    where
      go : Dec (u < f.node) → f.node ≤ u
      go (yes h) = absurd (n ((W.apart (own D W f.inside) (own D W g.inside) (sym f.here ∙ g.here)).2 h))
      go (no h) = omega arith

  context_filler : {a b v : ℕ} {s s' : Bool} {z : ℕ} {r r' : List ℕ} → a ≢ b → Stands κ p z true → a ≡ W.number s z true → b ≡ W.number s' z true
      → ((v ≡ W.number s z true) × (r ≡ [])) ⊎ AboveFiller p W.number s v r z
      → ((v ≡ W.number s' z true) × (r' ≡ [])) ⊎ AboveFiller p W.number s' v r' z → Context p u W.number v r z
  context_filler d st q q' (inl f) (inl g) = absurd (d (q ∙ sym f.0 ∙ g.0 ∙ sym q'))
  context_filler d st q q' (inl f) (inr g) = absurd (true≢false (W.apart st (own D W g.owner.inside) (sym f.0 ∙ g.owner.here)).1)
  context_filler d st q q' (inr f) (inl g) = absurd (false≢true (W.apart (own D W f.owner.inside) st (sym f.owner.here ∙ g.0)).1)
  context_filler {s = s} d st q q' (inr f) (inr g) =
      record {
        copy = s;
        node = f.owner.node;
        inside = f.owner.inside;
        trunk = trunk_of (differ_below d q q').1 f.owner g.owner;
        here = f.owner.here;
        front = f.front;
        down = f.owner.down;
        reads =
            λ P n t.
            word→member P f.front
            (word_shorter filler_attribute P f.front n
            (subst (λ (l : List ℕ). Word P l) f.whole (member→word P _ t)));
      }

  context_of : {a b v : ℕ} (s s' : Bool) (z : ℕ) (f : Bool) {r r' : List ℕ} → a ≢ b → Stands κ p z f → a ≡ W.number s z f → b ≡ W.number s' z f
      → Down w v r a → Down w v r' b → Context p u W.number v r z
  context_of s s' z true d st q q' m n =
      context_filler d st q q' (above_filler D W s z m q st) (above_filler D W s' z n q' st)
  context_of s s' z false {r} d st q q' m n =
      let f = above_own D W s z m q st.inside in
      let g = above_own D W s' z n q' st.inside in
      record {
        copy = s;
        node = f.node;
        inside = f.inside;
        trunk = trunk_of (differ_below d q q').1 f g;
        here = f.here;
        front = r;
        down = f.down;
        reads = λ P k t. t;
      }

  -- reach from the root
  from_root : {v : ℕ} {P : List ℕ} (s : Bool) (i : ℕ) → i < p.size → v ≡ W.number s i false → Reached w 0 P v → Reached p 0 P i
  from_root s i h q r =
      let f = above_own D W s i r.down q h in
      let t = D.trunk in
      let e = (W.apart (own D W f.inside) (own D W (omega arith)) (sym f.here ∙ sym (W.zeroth s))).0 in
      record { run = r.run; down = subst (λ (n : ℕ). Down p n r.run i) e f.down; word = r.word }

  crossing : (k : Key) → KeyShape k → (b : Breaks κ w k) → {P : List ℕ} → Targets κ p mark W.number b.a b.b P → b.a < w.size → b.b < w.size
      → Crosses p mark u k
  crossing k shape b t ha hb =
      let c =
      context_of t.first_copy t.second_copy t.node t.filler b.different t.stands t.first t.second b.first.down
      b.second.down in
      record {
        from = t.node;
        to = c.node;
        below = (differ_below b.different t.first t.second).0;
        inside = t.stands.inside;
        trunk = c.trunk;
        context = from_root c.copy c.node c.inside c.here b.context;
        target = record { run = c.front; down = c.down; word = c.reads k.target shape.target b.first.word };
        lands = all_land ha hb b.different t.stands t.first shape.paths b.pairs;
      }

  -- a witness has a pair, since the key has a path
  first_targets : {a b : ℕ} → a < w.size → b < w.size → a ≢ b → (Ps : List (List ℕ)) → Ps ≢ [] → Each KeyPath Ps → Each (EqualPair κ w a b) Ps
      → (P : List ℕ) × Targets κ p mark W.number a b P
  first_targets ha hb d [] n ks es = absurd (n refl)
  first_targets ha hb d (P ∷ Ps) n (also k ks) (also e es) = (P, targets ha hb d k e)

  pub breaks_crosses : (k : Key) → KeyShape k → Breaks κ w k → Crosses p mark u k
  breaks_crosses k shape b =
      let t = D.trunk in
      let z = W.zeroth false in
      let root = W.within false (own D W {x = 0} (omega arith)) in
      let hq = down_inside {v = 0} b.context.down (omega arith) in
      let ha = down_inside b.first.down hq in
      let hb = down_inside b.second.down hq in
      crossing k shape b (first_targets ha hb b.different k.paths shape.some shape.paths b.pairs).1 ha hb
