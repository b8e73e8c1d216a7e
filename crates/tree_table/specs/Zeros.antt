-- A table of zeros holds 0 everywhere.
use Rattle.std.specs.Prelude.{ℕ, zero, suc, ◌≡◌, refl, get_or, replicate}

pub zeros_at : (n i : ℕ) → ◌≡◌ {A = ℕ} (get_or (replicate n 0) i 0) 0
zeros_at zero i = refl
zeros_at (suc n) zero = refl
zeros_at (suc n) (suc i) = zeros_at n i
