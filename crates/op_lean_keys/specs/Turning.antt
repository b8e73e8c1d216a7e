-- "go from the last key to the first": what holds when n keys are left to look at.
use Rattle.std.specs.Prelude.{ℕ, suc, ◌-◌, ◌≤◌, ◌<◌, ◌≡◌, refl, Bool, true, not, List, [], ◌∷◌, ◌++◌, length, get_or, take, drop, set, replicate}
use Rattle.std.proofs.Common.{sym, subst, ◌∙◌, arith, length-set}
use Rattle.std.proofs.Math.Bool.{false}
use Rattle.meaning.specs.Paths.{Label}
use Rattle.meaning.specs.Keys.{Implied}
use Rattle.meaning.specs.Records.{no_key}
use Rattle.meaning.specs.Reduction.{staying, Reduction}
use Rattle.theory_records.specs.KeyPlaces.{keys_from, keys_length}
use Rattle.theory_reduce.specs.Turns.{turn_start, turn_drops, turn_keeps, turn_end}
use Rattle.theory_reduce.specs.Flags.{flags_start, flags_none, flags_behind, flags_front, flags_asked}
use Rattle.op_lean_keys.specs.Searching.{Says, KeyedBy, KeyFollows}

-- of each key whether it stays
pub record Reduced (part : List ℕ) (keys : ℕ) (classes : List ℕ) (second : Bool) (stays : List Bool) : Type 0 where
  pub size : length stays ≡ 64
  pub reduction : (labels : List Label) → KeyedBy labels part keys classes → Reduction second labels [] (keys_from keys part) (take keys stays)

pub record Turning (part : List ℕ) (keys : ℕ) (classes : List ℕ) (second : Bool) (stays : List Bool) (n : ℕ) : Type 0 where
  pub within : n ≤ keys
  pub size : length stays ≡ 64
  pub front : take n stays ≡ replicate n true
  pub turned : (labels : List Label) → KeyedBy labels part keys classes
      → Reduction second labels (take n (keys_from keys part)) (drop n (keys_from keys part)) (drop n (take keys stays))

module _ {part : List ℕ} {keys : ℕ} {classes : List ℕ} {second : Bool} where
  pub turning_start : keys ≤ 64 → Turning part keys classes second (replicate 64 true) keys
  turning_start few =
      record {
        within = omega arith;
        size = refl;
        front = flags_start keys few;
        turned = λ labels by.
            subst (Reduction second labels (take keys (keys_from keys part)) (drop keys (keys_from keys part))) (sym (flags_none keys (replicate 64 true)))
            (subst (λ (n : ℕ). Reduction second labels (take n (keys_from keys part)) (drop n (keys_from keys part)) []) (keys_length keys part)
            (turn_start second labels (keys_from keys part)));
      }

  module _ (few : keys ≤ 64) {stays : List Bool} {n : ℕ} (t : Turning part keys classes second stays n) where
    module _ (some : 0 < n) where
      split : n ≡ suc (n - 1)
      split = omega arith

      low : n - 1 < keys
      low = let w = t.within in omega arith

      room : keys ≤ length stays
      room = let s = t.size in omega arith

      all_true : take (suc (n - 1)) stays ≡ replicate (suc (n - 1)) true
      all_true = subst (λ (m : ℕ). take m stays ≡ replicate m true) split t.front

      -- what is asked of key n - 1
      pub turning_next : {r : Bool} → KeyFollows part keys (set stays (n - 1) false) (n - 1) classes second r
          → Turning part keys classes second (set (set stays (n - 1) false) (n - 1) (not r)) (n - 1)
      turning_next {r} f =
          record {
            within = let l = low in omega arith;
            size = length-set (set stays (n - 1) false) (n - 1) (not r) ∙ (length-set stays (n - 1) false ∙ t.size);
            front = flags_front stays (n - 1) keys low room all_true false (not r);
            turned = λ labels by.
                subst (Reduction second labels (take (n - 1) (keys_from keys part)) (drop (n - 1) (keys_from keys part)))
                (sym (flags_behind stays (n - 1) keys low room false (not r)))
                (go labels (old labels by) r
                (subst (λ (l : List Bool). Says r (Implied second labels (staying l (keys_from keys part)) (get_or (keys_from keys part) (n - 1) no_key)))
                (flags_asked stays (n - 1) keys low room all_true) (f.told labels by)));
          }
        where
          below : n - 1 < length (keys_from keys part)
          below = omega (arith, keys_length keys part, low)

          old : (labels : List Label) → KeyedBy labels part keys classes
              → Reduction second labels (take (suc (n - 1)) (keys_from keys part)) (drop (suc (n - 1)) (keys_from keys part)) (drop (suc (n - 1)) (take keys stays))
          old labels by =
              subst (λ (m : ℕ). Reduction second labels (take m (keys_from keys part)) (drop m (keys_from keys part)) (drop m (take keys stays))) split (t.turned labels by)

          go : (labels : List Label)
              → Reduction second labels (take (suc (n - 1)) (keys_from keys part)) (drop (suc (n - 1)) (keys_from keys part)) (drop (suc (n - 1)) (take keys stays))
              → (r : Bool)
              → Says r (Implied second labels (staying (replicate (n - 1) true ++ (false ∷ drop (suc (n - 1)) (take keys stays))) (keys_from keys part)) (get_or (keys_from keys part) (n - 1) no_key))
              → Reduction second labels (take (n - 1) (keys_from keys part)) (drop (n - 1) (keys_from keys part)) (not r ∷ drop (suc (n - 1)) (take keys stays))
          go labels o true says = turn_drops second labels (keys_from keys part) (n - 1) below o (unfold Says in says)
          go labels o false says = turn_keeps second labels (keys_from keys part) (n - 1) below o (unfold Says in says)

    -- none is left
    pub turning_end : n ≤ 0 → Reduced part keys classes second stays
    turning_end h =
        let none : n ≡ 0 = omega arith in
        record {
          size = t.size;
          reduction = λ labels by.
              turn_end second labels (keys_from keys part)
              (subst (λ (m : ℕ). Reduction second labels (take m (keys_from keys part)) (drop m (keys_from keys part)) (drop m (take keys stays))) none (t.turned labels by));
        }
