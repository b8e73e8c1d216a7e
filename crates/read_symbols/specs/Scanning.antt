-- A path's text read symbol by symbol, return by return.
use Rattle.std.specs.Prelude.{ℕ, zero, suc, ◌+◌, ◌≤◌, ◌<◌, ◌≡◌, refl, Bool, true, false, cond, ltb, List, [], ◌∷◌, ◌++◌, length, take, drop, replicate, Result, Ok, Err, IfOk}
use Rattle.std.proofs.Common.{sym, ap, ap₂, subst, ◌∙◌, arith, add-one, length-append, take-suc-set, set}
use Rattle.std.proofs.lemmas.Bool.{ltb-false}
use Rattle.std.proofs.lemmas.List.{length-replicate}
use Rattle.std.proofs.Math.ListN.{length-set}
use Rattle.std.proofs.Math.Seq.{take-set-lt}
use Rattle.meaning.specs.Lists.{same}
use Rattle.meaning.specs.Paths.{Label}
use Rattle.meaning.specs.Text.{symbol_of, every_one}
use Rattle.theory_text.specs.Reading.{read_symbol, read_path}
use Rattle.read_record.specs.Classes.{ByteAt}
use Rattle.read_symbols.specs.declared.errors.TextError.{TextError}
use Rattle.read_symbols.specs.declared.path.PathRead.{PathRead}
use Rattle.read_symbols.specs.Outcomes
use Rattle.read_symbols.specs.Outcomes.{Outcome, Made, both, on_ok, behind_all, outcome_map, outcome_read, outcome_more, outcome_counted}
use Rattle.read_symbols.specs.Splitting.{pieces, read_pieces}
use Rattle.read_symbols.specs.Symbols.{IsByte, SymbolTold}

-- so many symbols, and where they are not too many: their number and they themselves stand at the front of the slot, as in a record
pub record Slot (count : ℕ) (path : List ℕ) (p : List ℕ) : Type 0 where
  pub counted : count ≡ length p
  pub stands : count ≤ 8 → take (count + 1) path ≡ count ∷ p
  pub bytes : ByteAt p

-- the symbols behind their number
abbrev pub symbols_in : PathRead → List ℕ
symbols_in read = take read.count (drop 1 read.path)

-- what is known of a path that was read
pub record PathHolds (read : PathRead) (p : List ℕ) : Type 0 where
  pub slot : Slot read.count read.path p
  pub size : length read.path ≡ 9

-- what a path's text comes to
pub record PathTold (labels : List Label) (t : List ℕ) (r : Result PathRead TextError) : Type 0 where
  pub told : Outcome (read_path t) (every_one (symbol_of labels)) r PathHolds

-- one symbol more, which is stored where it fits
abbrev pub with_byte : PathRead × ℕ → PathRead
with_byte p =
    record { count = p.0.count + 1; path = cond (ltb p.0.count 8) (set (set p.0.path 0 (p.0.count + 1)) (p.0.count + 1) p.1) p.0.path }

abbrev pub with_symbol : Result PathRead TextError → Result ℕ TextError → Result PathRead TextError
with_symbol path symbol = on_ok with_byte (both path symbol)

bytes_behind : (b : List ℕ) (x : ℕ) → ByteAt b → x < 256 → ByteAt (b ++ (x ∷ []))
bytes_behind [] x h small zero = small
bytes_behind [] x h small (suc i) = h i
bytes_behind (y ∷ b) x h small zero = h 0
bytes_behind (y ∷ b) x h small (suc i) = bytes_behind b x (λ j. h (suc j)) small i

-- there is room for the symbol, or none
byte_kept : (v : PathRead × ℕ) (b : List ℕ) (x : ℕ) → PathHolds v.0 b → IsByte v.1 x → PathHolds (with_byte v) (b ++ (x ∷ []))
byte_kept v b x k z = at (ltb v.0.count 8) refl
  where
    counts : v.0.count + 1 ≡ length (b ++ (x ∷ []))
    counts = omega (arith, length-append b (x ∷ []), k.slot.counted)

    bytes : ByteAt (b ++ (x ∷ []))
    bytes = bytes_behind b x k.slot.bytes (omega (arith, z))

    at : (c : Bool) → ltb v.0.count 8 ≡ c
        → PathHolds (record { count = v.0.count + 1; path = cond c (set (set v.0.path 0 (v.0.count + 1)) (v.0.count + 1) v.1) v.0.path }) (b ++ (x ∷ []))
    at true room =
        record {
          slot = record {
            counted = counts;
            stands = λ fits.
                ap (λ (m : ℕ). take m (set (set v.0.path 0 (v.0.count + 1)) (v.0.count + 1) v.1)) (add-one (v.0.count + 1))
                ∙ (take-suc-set (set v.0.path 0 (v.0.count + 1)) (v.0.count + 1) v.1 (omega (arith, length-set v.0.path 0 (v.0.count + 1), k.size))
                ∙ ap₂ (λ (l : List ℕ) (c : ℕ). l ++ (c ∷ []))
                (take-set-lt (v.0.count + 1) v.0.path 0 (v.0.count + 1) (omega arith) ∙ ap (λ (l : List ℕ). set l 0 (v.0.count + 1)) (k.slot.stands (omega arith)))
                (sym z.0));
            bytes = bytes;
          };
          size = length-set (set v.0.path 0 (v.0.count + 1)) (v.0.count + 1) v.1 ∙ (length-set v.0.path 0 (v.0.count + 1) ∙ k.size);
        }
    at false full =
        record { slot = record { counted = counts; stands = λ fits. absurd (let h = ltb-false _ _ full in omega arith); bytes = bytes }; size = k.size }

-- these pieces are read
pub record Scanning (labels : List Label) (done : List (List ℕ)) (r : Result PathRead TextError) : Type 0 where
  pub told : Outcome (every_one read_symbol done) (every_one (symbol_of labels)) r PathHolds

pub scan_counted : {labels : List Label} {done : List (List ℕ)} {r : Result PathRead TextError} → Scanning labels done r → IfOk r (λ read. read.count ≡ length done)
scan_counted {labels} {done} {r} s =
    IfOk-from_equal r (outcome_counted read_symbol (symbol_of labels) done (λ (read : PathRead). read.count) (λ read p k. k.slot.counted) s.told)
  where
    IfOk-from_equal : (r : Result PathRead TextError) → ((u : PathRead) → r ≡ Ok u → u.count ≡ length done) → IfOk r (λ read. read.count ≡ length done)
    IfOk-from_equal (Ok u) f = f u refl
    IfOk-from_equal (Err e) f = tt

pub scan_start : (labels : List Label) → Scanning labels [] (Ok (record { count = 0; path = replicate 9 0 }))
unfolding every_one
scan_start labels =
    record {
      told =
          Outcomes.known [] [] _ refl refl refl
          (record { slot = record { counted = refl; stands = λ h. refl; bytes = λ i. omega arith }; size = length-replicate {A = ℕ} 9 0 });
    }

pub scan_more : {labels : List Label} {done : List (List ℕ)} {r : Result PathRead TextError} → Scanning labels done r → (piece : List ℕ) (symbol : Result ℕ TextError)
    → SymbolTold labels piece symbol → {after : Result PathRead TextError} → after ≡ with_symbol r symbol → Scanning labels (done ++ (piece ∷ [])) after
unfolding SymbolTold behind_all Made
scan_more {labels} {done} {r} s piece symbol told e =
    record { told = outcome_map with_byte (λ v p q k. kept v p k) e (outcome_more read_symbol (symbol_of labels) done piece s.told told) }
  where
    kept : (v : PathRead × ℕ) (d : List ℕ) → Made behind_all PathHolds IsByte v d → PathHolds (with_byte v) d
    kept v d (b, x, q, k, z) = subst (λ (l : List ℕ). PathHolds (with_byte v) l) (sym q) (byte_kept v b x k z)

-- "a lone `.` for the empty path"
pub path_lone : (labels : List Label) (t : List ℕ) {b : Bool} → b ≡ same t (46 ∷ []) → b ≡ true
    → PathTold labels t (Ok (record { count = 0; path = replicate 9 0 }))
unfolding read_path every_one
path_lone labels t e q =
    record {
      told =
          Outcomes.known [] [] _ refl (rw (sym e ∙ q)) refl
          (record { slot = record { counted = refl; stands = λ h. refl; bytes = λ i. omega arith }; size = length-replicate {A = ℕ} 9 0 });
    }

pub path_read : {labels : List Label} {t : List ℕ} {b : Bool} → b ≡ same t (46 ∷ []) → b ≡ false → {done : List (List ℕ)} {r : Result PathRead TextError}
    → Scanning labels done r → done ≡ pieces 46 t → PathTold labels t r
path_read {labels} {t} e q {done} s all = record { told = outcome_read (ap (every_one read_symbol) all ∙ sym reads) s.told }
  where
    reads : read_path t ≡ every_one read_symbol (pieces 46 t)
    reads = unfold read_path in rw (sym e ∙ q) (read_pieces (suc (length t)) t (omega arith))
