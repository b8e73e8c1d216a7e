-- The trunk, the way on to t and the branches, as the code draws them one after another.
use Rattle.std.specs.Prelude.{ℕ, ◌+◌, ◌-◌, ◌*◌, ◌≤◌, ◌≡◌, Bool}
use Rattle.std.proofs.Math.Path.{ap, ap₂}
use Rattle.std.proofs.Common.{◌∙◌, length-take, length-drop}
use Rattle.std.proofs.Math.Bool.{false}
use mathlib.Core.List.{List}
use native.Mathlib.Omega.{arith}
use Rattle.std.proofs.Math.ListN.{length, take, drop}
use borrow.Author.Rules.{part_to_end}
use Rattle.meaning.specs.Limits.{root_label}
use Rattle.meaning.specs.Lists.{any, is_empty}
use Rattle.meaning.specs.Paths.{Class}
use Rattle.meaning.specs.Records.{key_in}
use Rattle.meaning.specs.Pattern.{q_of, t_of}
use Rattle.write_pattern.specs.declared.Drawing.{Drawing}
use Rattle.write_pattern.specs.Sketch.{Sketch, nothing, add_to, draw_run, draw_branches, draw_trunk, draw_down, draw_twigs, draw_below, sketch, Room, Shown, Sketchable}

pub room_of : {r : Drawing} {s : Sketch} {most : ℕ} (more : ℕ) → Shown r s most → most + more ≤ 128 → Room r more
room_of more h k = record { sized = h.sized; room = let a = h.short in omega arith }

pub room_less : {d : Drawing} {more less : ℕ} → Room d more → less ≤ more → Room d less
room_less h k = record { sized = h.sized; room = let a = h.room in omega arith }

-- the cut of T where u stands
module _ {body : List ℕ} {u : ℕ} (asked : Sketchable body u) {C : List ℕ} (c : C ≡ (key_in body).context) where
  pub cut_within : length C ≤ u
  unfolding q_of
  cut_within = let e = ap length c in let h = asked.from_q in omega arith

  pub cut_before : {T : List ℕ} → T ≡ (key_in body).target → u - length C ≤ length T
  unfolding t_of
  cut_before t = let e = ap length c in let f = ap length t in let h = asked.above_t in omega arith

  pub context_few : length C ≤ 8
  context_few = let e = ap length c in let h = asked.sizes.context in omega arith

  target_few : {T : List ℕ} → T ≡ (key_in body).target → (n : ℕ) → length (take n T) ≤ 8
  target_few t n = let e = ap length t in let h = asked.sizes.target in simp length-take (omega arith)

  pub up_few : {T : List ℕ} → T ≡ (key_in body).target → length (take (u - length C - 0) (drop 0 T)) ≤ 8
  up_few {T} t = target_few t (u - length C - 0)

  pub on_few : {T : List ℕ} → T ≡ (key_in body).target → length (take (length T - (u - length C)) (drop (u - length C) T)) ≤ 8
  on_few {T} t =
      let e = ap length t in
      let h = asked.sizes.target in
      let p = ap length (part_to_end T (u - length C)) ∙ length-drop (u - length C) T in
      omega arith

  up_is : {T : List ℕ} → T ≡ (key_in body).target → take (u - length C - 0) (drop 0 T) ≡ take (u - q_of (key_in body)) (key_in body).target
  unfolding q_of
  up_is {T} t =
      let e = ap length c in
      let f : u - length C - 0 ≡ u - length (key_in body).context = omega arith in
      ap₂ (λ (n : ℕ) (l : List ℕ). take n l) f t

  on_is : {T : List ℕ} → T ≡ (key_in body).target → take (length T - (u - length C)) (drop (u - length C) T) ≡ drop (u - q_of (key_in body)) (key_in body).target
  unfolding q_of
  on_is {T} t =
      let e = ap length c in
      let f : u - length C ≡ u - length (key_in body).context = omega arith in
      part_to_end T (u - length C) ∙ ap₂ (λ (n : ℕ) (l : List ℕ). drop n l) f t

  pub trunk_drawn : (κ : ℕ → Class) {T : List ℕ} → T ≡ (key_in body).target → {b root q r : Drawing} → Shown b nothing 0
      → Shown root (add_to κ (sketch b) root_label false) (b.size + 2)
      → Shown q (draw_run κ false false (sketch root) C) (root.size + 2 * length C)
      → Shown r (draw_run κ false false (sketch q) (take (u - length C - 0) (drop 0 T))) (q.size + 2 * length (take (u - length C - 0) (drop 0 T)))
      → Shown r (draw_trunk κ (key_in body) u) 34
  unfolding draw_trunk
  trunk_drawn κ t {b} {root} {q} {r} h₀ h₁ h₂ h₃ =
      record {
        sized = h₃.sized;
        sketched =
            h₃.sketched
            ∙ ap₂ (draw_run κ false false)
            (h₂.sketched
            ∙ ap₂ (draw_run κ false false) (h₁.sketched ∙ ap (λ (s : Sketch). add_to κ s root_label false) h₀.sketched) c)
            (up_is t);
        short =
            let a = h₀.short in
            let d = h₁.short in
            let e = h₂.short in
            let f = h₃.short in
            let m = context_few in
            let n = up_few t in
            omega arith;
      }

  pub below_drawn : (κ : ℕ → Class) {T : List ℕ} → T ≡ (key_in body).target → {whole : Bool} → whole ≡ any is_empty (key_in body).paths → {trunk down r : Drawing} → Room trunk 80
      → Shown down (draw_run κ false whole (sketch trunk) (take (length T - (u - length C)) (drop (u - length C) T)))
      (trunk.size + 2 * length (take (length T - (u - length C)) (drop (u - length C) T)))
      → Shown r (draw_branches κ whole down.above (sketch down) (key_in body).paths) (down.size + 64)
      → Shown r (draw_below κ (key_in body) u (sketch trunk)) 128
  unfolding draw_below draw_down draw_twigs sketch
  below_drawn κ t {whole} w {trunk} {down} {r} room h₁ h₂ =
      record {
        sized = h₂.sized;
        sketched =
            h₂.sketched
            ∙ ap₂ (λ (b : Bool) (s : Sketch). draw_branches κ b s.above s (key_in body).paths) w
            (h₁.sketched ∙ ap₂ (λ (b : Bool) (l : List ℕ). draw_run κ false b (sketch trunk) l) w (on_is t));
        short =
            let a = room.room in
            let e = h₁.short in
            let f = h₂.short in
            let n = on_few t in
            omega arith;
      }
