-- The parts of a line written one behind the other: what each call asks, and the line at the end.
use Rattle.std.specs.Prelude.{ℕ, ◌+◌, ◌≤◌, ◌≡◌, List, [], ◌∷◌, ◌++◌, length}
use Rattle.std.proofs.Common.{sym, ◌∙◌, ap, ap₂, arith}
use Rattle.meaning.specs.Paths.{Label}
use Rattle.meaning.specs.Keys.{Key}
use Rattle.meaning.specs.Text.{print_key, typed_of}
use Rattle.write_bytes.specs.Wrote.{Wrote, wrote_is, wrote_more}
use Rattle.write_text.specs.Texts.{path_text, paths_text, line_is, line_length}

module _ (labels : List Label) (key : Key) (o : List ℕ) (at : ℕ) (room : at + length (print_key (typed_of labels key)) ≤ length o) where
  pub line_open : at + 1 ≤ length o
  line_open = omega (arith, line_length labels key)

  module _ {a : List ℕ} {p : ℕ} (w : Wrote o a at (40 ∷ []) p) {context : List ℕ} (c : context ≡ key.context) where
    pub context_room : p + length (path_text labels context) ≤ length a
    context_room = omega (arith, line_length labels key, ap (λ (l : List ℕ). length (path_text labels l)) c, w.after, w.kept)

    module _ {b : List ℕ} {q : ℕ} (w₂ : Wrote a b p (path_text labels context) q) where
      behind_context : (q ≡ at + 1 + length (path_text labels key.context)) × (length b ≡ length o)
      behind_context =
          let l = ap (λ (l : List ℕ). length (path_text labels l)) c in
          let x = w.after in
          let y = w₂.after in
          let u = w.kept in
          let v = w₂.kept in
          (omega arith, omega arith)

      pub target_open : q + 3 ≤ length b
      target_open = omega (arith, line_length labels key, behind_context.0, behind_context.1)

      module _ {d : List ℕ} {r : ℕ} (w₃ : Wrote b d q (44 ∷ 32 ∷ 40 ∷ []) r) {target : List ℕ} (t : target ≡ key.target) where
        pub target_room : r + length (path_text labels target) ≤ length d
        target_room =
            omega (
              arith,
              line_length labels key,
              behind_context.0,
              behind_context.1,
              ap (λ (l : List ℕ). length (path_text labels l)) t,
              w₃.after,
              w₃.kept,
            )

        module _ {e : List ℕ} {s : ℕ} (w₄ : Wrote d e r (path_text labels target) s) where
          behind_target : (s ≡ at + 4 + length (path_text labels key.context) + length (path_text labels key.target)) × (length e ≡ length o)
          behind_target =
              let m = behind_context.0 in
              let n = behind_context.1 in
              let l = ap (λ (l : List ℕ). length (path_text labels l)) t in
              let x = w₃.after in
              let y = w₄.after in
              let u = w₃.kept in
              let v = w₄.kept in
              (omega arith, omega arith)

          pub set_open : s + 3 ≤ length e
          set_open = omega (arith, line_length labels key, behind_target.0, behind_target.1)

          module _ {f : List ℕ} {u : ℕ} (w₅ : Wrote e f s (44 ∷ 32 ∷ 123 ∷ []) u) where
            pub paths_room : u + length (paths_text labels key.paths) ≤ length f
            paths_room = omega (arith, line_length labels key, behind_target.0, behind_target.1, w₅.after, w₅.kept)

            module _ {g : List ℕ} {v : ℕ} (w₆ : Wrote f g u (paths_text labels key.paths) v) where
              pub line_close : v + 3 ≤ length g
              line_close =
                  omega (arith, line_length labels key, behind_target.0, behind_target.1, w₅.after, w₅.kept, w₆.after, w₆.kept)

              pub line_wrote : {h : List ℕ} {x : ℕ} → Wrote g h v (125 ∷ 41 ∷ 41 ∷ []) x → Wrote o h at (print_key (typed_of labels key)) x
              line_wrote w₇ =
                  wrote_is (ap₂ line c t ∙ sym (line_is labels key))
                  (wrote_more w (wrote_more w₂ (wrote_more w₃ (wrote_more w₄ (wrote_more w₅ (wrote_more w₆ w₇))))))
                where
                  line : List ℕ → List ℕ → List ℕ
                  line x y =
                      (40 ∷ []) ++ (path_text labels x ++ ((44 ∷ 32 ∷ 40 ∷ []) ++ (path_text labels y ++ ((44 ∷ 32 ∷ 123 ∷ [])
                      ++ (paths_text labels key.paths ++ (125 ∷ 41 ∷ 41 ∷ []))))))
