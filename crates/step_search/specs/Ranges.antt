-- The ranges of the outer loops: the branches, then the profile's keys. A law for each return and each turn.
use Rattle.std.specs.Prelude.{ℕ, ◌+◌, ◌-◌, ◌≤◌, ◌<◌, ◌≡◌, refl, ◌⊎◌, true, false, List, length, drop}
use Rattle.std.proofs.Common.{sym, ◌∙◌, inl, inr, arith, below_more}
use Rattle.std.proofs.Math.Path.{ap, subst}
use Rattle.std.proofs.Math.Dec.{T}
use Rattle.std.proofs.Math.ListN.{take}
use borrow.Author.Rules.{part_to_end}
use Rattle.meaning.specs.Keys.{Key}
use Rattle.meaning.specs.Records.{record_length, record_body, read_key, key_in, is_some}
use Rattle.meaning.specs.Operations.{records_from}
use Rattle.meaning.specs.Pattern.{t_of}
use Rattle.theory_records.specs.Bodies.{records_next}
use Rattle.theory_lists.specs.Logic.{less_or}
use Rattle.theory_pattern.specs.Spots.{Taken as Step, row_of, fires_by, fires_found, fires, Fires}
use Rattle.theory_derive.specs.Firing.{fires_says}
use Rattle.theory_pattern.specs.Rows.{row_length}
use Rattle.theory_derive.specs.Ranges.{InRange}
use Rattle.theory_records.specs.KeyPlaces.{keys_from, KeyRecord, key_shape, KeyRecords, keys_length, key_at}
use Rattle.step_rows.specs.Drawn.{Drawn}
use Rattle.step_search.specs.declared.firing.Taken.{Taken}
use Rattle.step_search.specs.Firing.{OnBranch, Hit, NoneAt, NoneOn}

-- below u, where u is no t yet
pub record BelowT (body rows : List ℕ) (u : ℕ) : Type 0 where
  pub is_asked : is_some (read_key body) ≡ true
  pub drawn : Drawn (key_in body) rows
  pub some : 1 ≤ length (key_in body).paths
  pub above : u < t_of (key_in body)

-- t is at most 16 and so u is small
pub ready_small : {body rows : List ℕ} {u : ℕ} → BelowT body rows u → t_of (key_in body) ≤ 24
ready_small {body} r = omega (arith, (r.drawn.drawn 0 r.some).short, row_length (key_in body) 0)

pub record NoneBranch (asked s : Key) (u j : ℕ) : Type 0 where
  pub none : (k : ℕ) → u < k → (k ≤ t_of asked → j ≡ 0) → k ≤ length (row_of asked j) → NoneAt asked s u j k

pub record NoneOf (asked s : Key) (u : ℕ) : Type 0 where
  pub none : (j : ℕ) → j < length asked.paths → NoneBranch asked s u j

-- the branches before j are passed
pub record Sweeping (asked s : Key) (u below n j from : ℕ) : Type 0 where
  pub number : n ≡ length asked.paths
  pub within : j ≤ n
  pub bottom : below ≡ t_of asked + 1
  pub after : u < from
  pub starts : (k : ℕ) → u < k → (k ≤ t_of asked → j ≡ 0) → from ≤ k
  pub none : (x : ℕ) → x < j → NoneBranch asked s u x

pub sweeping_start : (asked s : Key) (u : ℕ) {t : ℕ} → t ≡ t_of asked → {n : ℕ} → n ≡ length asked.paths → Sweeping asked s u (t + 1) n 0 (u + 1)
sweeping_start asked s u c d =
    record {
      number = d;
      within = omega arith;
      bottom = ap (λ (x : ℕ). x + 1) c;
      after = omega arith;
      starts = λ k a b. omega arith;
      none = λ x a. absurd (omega arith);
    }

module _ {body rows : List ℕ} {s : Key} {u : ℕ} (o : BelowT body rows u) {below n j from : ℕ} (w : Sweeping (key_in body) s u below n j from) where
  pub sweeping_branch : j < n → OnBranch body rows j from u
  sweeping_branch h =
      record {
        is_asked = o.is_asked;
        drawn = o.drawn;
        branch = omega (arith, w.number);
        above = o.above;
        after = w.after;
      }

  pub sweeping_next : j < n → NoneOn (key_in body) s u j from → Sweeping (key_in body) s u below n (j + 1) below
  sweeping_next h m =
      record {
        number = w.number;
        within = omega arith;
        bottom = w.bottom;
        after = omega (arith, w.bottom, o.above);
        starts = λ k a b. go k b (less_or (t_of (key_in body)) k);
        none = below_more _ j w.none (record { none = λ k a b d. m.none k (w.starts k a b) d });
      }
    where
      go : (k : ℕ) → (k ≤ t_of (key_in body) → j + 1 ≡ 0) → (t_of (key_in body) < k) ⊎ (k ≤ t_of (key_in body)) → below ≤ k
      go k b (inl l) = omega (arith, w.bottom)
      go k b (inr l) = absurd (omega (arith, b l))

  pub sweeping_done : n ≤ j → NoneOf (key_in body) s u
  sweeping_done h = record { none = λ x a. w.none x (omega (arith, w.number)) }

-- the profile's keys
unfoldable pub step_of : Taken → Step
step_of t = record { key = t.key; node = t.node; branch = t.branch; spot = t.spot }

-- the profile from its first key on, so many keys
pub record OfKeys (part : List ℕ) (keys : ℕ) (body rows : List ℕ) (u : ℕ) : Type 0 where
  pub ready : BelowT body rows u
  pub records : KeyRecords keys part

pub record HitKeys (part : List ℕ) (keys : ℕ) (body : List ℕ) (u : ℕ) (t : Taken) : Type 0 where
  pub firing : Fires (keys_from keys part) (key_in body) (step_of t)
  pub node : t.node ≤ u
  pub below : u < t.spot

pub record NoneLeft (part : List ℕ) (keys : ℕ) (body : List ℕ) (u : ℕ) : Type 0 where
  pub none : (t : Step) → InRange (keys_from keys part) (key_in body) u t → fires (keys_from keys part) (key_in body) t ≡ false

fires_key : (part : List ℕ) (keys : ℕ) (asked : Key) (t : Step) → t.key < keys
    → fires (keys_from keys part) asked t ≡ fires_by asked (key_in (record_body (records_from t.key part))) t.node t.branch t.spot
unfolding fires fires_found
fires_key part keys asked t h = ap (fires_found asked t) (key_at keys t.key part h)

-- the keys before this number are passed
pub record Walking (part : List ℕ) (keys : ℕ) (body : List ℕ) (u number : ℕ) (rest : List ℕ) : Type 0 where
  pub here : rest ≡ records_from number part
  pub within : number ≤ keys
  pub none : (x : ℕ) → x < number → NoneOf (key_in body) (key_in (record_body (records_from x part))) u

pub walking_start : (part : List ℕ) (keys : ℕ) (body : List ℕ) (u : ℕ) → Walking part keys body u 0 part
unfolding records_from
walking_start part keys body u = record { here = refl; within = omega arith; none = λ x a. absurd (omega arith) }

module _ {part : List ℕ} {keys : ℕ} {body rows : List ℕ} {u : ℕ} (o : OfKeys part keys body rows u) {number : ℕ} {rest : List ℕ}
    (w : Walking part keys body u number rest) where
  module _ (h : number < keys) {end : ℕ} (e : end ≡ record_length rest) where
    stands : KeyRecord rest
    stands = subst KeyRecord (sym w.here) (o.records.each number h)

    pub walking_long : (4 ≤ end) × (end ≤ length rest)
    walking_long = (omega (arith, stands.is_whole.long), omega (arith, stands.is_whole.within))

    body_is : take (end - 4) (drop 4 rest) ≡ record_body rest
    unfolding record_body
    body_is = ap (λ (n : ℕ). take (n - 4) (drop 4 rest)) e

    pub walking_shape : is_some (read_key (take (end - 4) (drop 4 rest))) ≡ true
    walking_shape = ap (λ (l : List ℕ). is_some (read_key l)) body_is ∙ key_shape stands

    -- the key in the record, by its bytes
    module _ {bytes : List ℕ} (b : bytes ≡ take (end - 4) (drop 4 rest)) where
      key_is : key_in bytes ≡ key_in (record_body (records_from number part))
      key_is = ap key_in (b ∙ body_is ∙ ap record_body w.here)

      pub walking_hit : {t : Taken} → Hit (key_in body) (key_in bytes) number u t → HitKeys part keys body u t
      unfolding step_of
      walking_hit {t} f =
          record { firing = fires_says (keys_from keys part) (key_in body) (step_of t) test; node = f.node; below = f.below }
        where
          test : T (fires (keys_from keys part) (key_in body) (step_of t))
          test =
              subst T (sym (fires_key part keys (key_in body) (step_of t) (omega (arith, f.key))))
              (subst (λ (s : Key). T (fires_by (key_in body) s t.node t.branch t.spot))
              (key_is ∙ ap (λ (n : ℕ). key_in (record_body (records_from n part))) (sym f.key)) f.firing)

      pub walking_next : NoneOf (key_in body) (key_in bytes) u → {next : List ℕ} → next ≡ take (length rest - end) (drop end rest)
          → Walking part keys body u (number + 1) next
      walking_next m q =
          record {
            here =
                q ∙ part_to_end rest end ∙ ap (λ (n : ℕ). drop n rest) e ∙ ap (λ (l : List ℕ). drop (record_length l) l) w.here
                ∙ sym (records_next number part) ∙ ap (λ (n : ℕ). records_from n part) (omega arith);
            within = omega arith;
            none = below_more _ number w.none (subst (λ (s : Key). NoneOf (key_in body) s u) key_is m);
          }

  pub walking_done : keys ≤ number → NoneLeft part keys body u
  walking_done h =
      record {
        none =
            λ t r.
            let k : t.key < keys = omega (arith, r.key, keys_length keys part) in
            fires_key part keys (key_in body) t k
            ∙ (((w.none t.key (omega arith)).none t.branch r.branch).none t.spot r.below r.first r.on_row).none t.node r.node;
      }
