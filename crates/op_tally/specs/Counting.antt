-- The code's tally is that of `theory_campaign`; one law for each return of counting.
use Rattle.std.specs.Prelude.{ℕ, min, ltb, ◌+◌, ◌<◌, ◌≤◌, ◌≡◌, refl, Bool, true, false, cond, List, length, get_or, set}
use Rattle.std.proofs.Common.{sym, ◌∙◌, ap, subst, true≢false, arith, lt-ltb, le-ltb, length-set, get_or-set_same, get_or-set_other}
use Rattle.std.proofs.Math.Decide.{ℕ_discrete, dec_lt}
use Rattle.meaning.specs.Tally.{bump, Bumped, counts, stays}
use Rattle.meaning.specs.Tally as Lists
use Rattle.op_tally.specs.declared.Tally.{Tally}

abbrev pub tally_of : Tally → Lists.Tally
tally_of t = record { kept = t.kept; broken = t.broken; refused = t.refused; unread = t.unread }

-- one more, as far as two bytes go
pub bump_less : (n : ℕ) → n < 65535 → n + 1 ≡ bump n
unfolding bump
bump_less n h = rw (lt-ltb n 65535 h) (omega arith)

pub bump_full : (n : ℕ) → 65535 ≤ n → n ≡ bump n
unfolding bump
bump_full n h = rw (le-ltb n 65535 h) refl

pub bump_is : (n : ℕ) → n < 65536 → min (n + 1) 65535 ≡ bump n
bump_is n h = go (dec_lt n 65535)
  where
    go : Dec (n < 65535) → min (n + 1) 65535 ≡ bump n
    go (yes l) = let e : min (n + 1) 65535 ≡ n + 1 = omega arith in e ∙ bump_less n l
    go (no m) = let e : min (n + 1) 65535 ≡ n = omega arith in e ∙ bump_full n (omega arith)

-- one more at a place
abbrev pub more : List ℕ → ℕ → List ℕ
more l n = set l n (bump (get_or l n 0))

pub record RefusedMore (t : Lists.Tally) (number : ℕ) (r : Lists.Tally) : Type 0 where
  pub kept : r.kept ≡ t.kept
  pub broken : r.broken ≡ t.broken
  pub refused : r.refused ≡ more t.refused number
  pub unread : r.unread ≡ t.unread

pub record KeyMore (t : Lists.Tally) (n : ℕ) (breaks : Bool) (r : Lists.Tally) : Type 0 where
  pub kept : r.kept ≡ cond breaks t.kept (more t.kept n)
  pub broken : r.broken ≡ cond breaks (more t.broken n) t.broken
  pub refused : r.refused ≡ t.refused
  pub unread : r.unread ≡ t.unread

pub key_broken : {t : Lists.Tally} {n x : ℕ} {b : Bool} → b ≡ true → x ≡ bump (get_or t.broken n 0)
    → KeyMore t n b (record { kept = t.kept; broken = set t.broken n x; refused = t.refused; unread = t.unread })
key_broken {t} {n} {x} e f =
    record {
      kept = rw e refl;
      broken = rw e (ap (set t.broken n) f);
      refused = refl;
      unread = refl;
    }

pub key_kept : {t : Lists.Tally} {n x : ℕ} {b : Bool} → b ≡ false → x ≡ bump (get_or t.kept n 0)
    → KeyMore t n b (record { kept = set t.kept n x; broken = t.broken; refused = t.refused; unread = t.unread })
key_kept {t} {n} {x} e f =
    record {
      kept = rw e (ap (set t.kept n) f);
      broken = rw e refl;
      refused = refl;
      unread = refl;
    }

pub refused_more : {t : Lists.Tally} {n x : ℕ} → x ≡ bump (get_or t.refused n 0)
    → RefusedMore t n (record { kept = t.kept; broken = t.broken; refused = set t.refused n x; unread = t.unread })
refused_more {t} {n} f = record { kept = refl; broken = refl; refused = ap (set t.refused n) f; unread = refl }

-- Below a number the keys are counted: kept where the segment does not break them
unfoldable pub Told : ℕ → List Bool → Bool → ℕ → Type 0
Told keys breaks b n = (n < keys) × (get_or breaks n false ≡ b)

pub record KeysMore (t : Lists.Tally) (keys : ℕ) (breaks : List Bool) (r : Lists.Tally) : Type 0 where
  pub kept : (n : ℕ) → Bumped (Told keys breaks false n) (get_or t.kept n 0) (get_or r.kept n 0)
  pub broken : (n : ℕ) → Bumped (Told keys breaks true n) (get_or t.broken n 0) (get_or r.broken n 0)
  pub refused : r.refused ≡ t.refused
  pub unread : r.unread ≡ t.unread
  pub kept_long : length r.kept ≡ length t.kept
  pub broken_long : length r.broken ≡ length t.broken

pub keys_none : (t : Lists.Tally) (breaks : List Bool) → KeysMore t 0 breaks t
unfolding Told
keys_none t breaks =
    record {
      kept = λ n. stays (λ h. absurd (omega (arith, h.0))) refl;
      broken = λ n. stays (λ h. absurd (omega (arith, h.0))) refl;
      refused = refl;
      unread = refl;
      kept_long = refl;
      broken_long = refl;
    }

-- another number of keys: the statement at other places is the same
told_same : (keys n : ℕ) (breaks : List Bool) (b : Bool) (old new after : ℕ) → (n ≡ keys → ⊥) → after ≡ new
    → Bumped (Told keys breaks b n) old new → Bumped (Told (keys + 1) breaks b n) old after
unfolding Told
told_same keys n breaks b old new after other e (counts q f) = counts (let l = q.0 in omega arith, q.1) (e ∙ f)
told_same keys n breaks b old new after other e (stays q f) = stays (λ h. q (let l = h.0 in omega arith, h.1)) (e ∙ f)

-- at the key itself
told_here : (keys : ℕ) (breaks : List Bool) (b : Bool) (old new after : ℕ) → get_or breaks keys false ≡ b → after ≡ bump new
    → Bumped (Told keys breaks b keys) old new → Bumped (Told (keys + 1) breaks b keys) old after
unfolding Told
told_here keys breaks b old new after m e (counts q f) = absurd (let l = q.0 in omega arith)
told_here keys breaks b old new after m e (stays q f) = counts (omega arith, m) (e ∙ ap bump f)

told_not : (keys : ℕ) (breaks : List Bool) (b : Bool) (old new after : ℕ) → (get_or breaks keys false ≡ b → ⊥) → after ≡ new
    → Bumped (Told keys breaks b keys) old new → Bumped (Told (keys + 1) breaks b keys) old after
unfolding Told
told_not keys breaks b old new after m e (counts q f) = absurd (let l = q.0 in omega arith)
told_not keys breaks b old new after m e (stays q f) = stays (λ h. m h.1) (e ∙ f)

-- a list of counts that has one more at the place, or stays
Counted : ℕ → List Bool → Bool → List ℕ → List ℕ → Type 0
Counted keys breaks b old new = (n : ℕ) → Bumped (Told keys breaks b n) (get_or old n 0) (get_or new n 0)

list_more : (keys : ℕ) (breaks : List Bool) (b : Bool) (old new after : List ℕ) → get_or breaks keys false ≡ b → keys < length new → after ≡ more new keys
    → Counted keys breaks b old new → Counted (keys + 1) breaks b old after
unfolding Counted
list_more keys breaks b old new after m h e c n = go (ℕ_discrete n keys)
  where
    at : (k : ℕ) → get_or after k 0 ≡ get_or (more new keys) k 0
    at k = ap (λ (l : List ℕ). get_or l k 0) e

    go : Dec (n ≡ keys) → Bumped (Told (keys + 1) breaks b n) (get_or old n 0) (get_or after n 0)
    go (yes z) =
        subst (λ (k : ℕ). Bumped (Told (keys + 1) breaks b k) (get_or old k 0) (get_or after k 0)) (sym z)
        (told_here keys breaks b _ (get_or new keys 0) _ m (at keys ∙ get_or-set_same new keys (bump (get_or new keys 0)) 0 h) (c keys))
    go (no z) = told_same keys n breaks b _ (get_or new n 0) _ z (at n ∙ get_or-set_other new keys n (bump (get_or new keys 0)) 0 z) (c n)

list_same : (keys : ℕ) (breaks : List Bool) (b : Bool) (old new after : List ℕ) → (get_or breaks keys false ≡ b → ⊥) → after ≡ new
    → Counted keys breaks b old new → Counted (keys + 1) breaks b old after
unfolding Counted
list_same keys breaks b old new after m e c n = go (ℕ_discrete n keys)
  where
    at : (k : ℕ) → get_or after k 0 ≡ get_or new k 0
    at k = ap (λ (l : List ℕ). get_or l k 0) e

    go : Dec (n ≡ keys) → Bumped (Told (keys + 1) breaks b n) (get_or old n 0) (get_or after n 0)
    go (yes z) =
        subst (λ (k : ℕ). Bumped (Told (keys + 1) breaks b k) (get_or old k 0) (get_or after k 0)) (sym z)
        (told_not keys breaks b _ (get_or new keys 0) _ m (at keys) (c keys))
    go (no z) = told_same keys n breaks b _ (get_or new n 0) _ z (at n) (c n)

-- one key more
pub keys_next : {t r s : Lists.Tally} {keys : ℕ} {breaks : List Bool} {b : Bool} → KeysMore t keys breaks r → length t.kept ≡ 64 → length t.broken ≡ 64
    → keys < 64 → b ≡ get_or breaks keys false → KeyMore r keys b s → KeysMore t (keys + 1) breaks s
unfolding Counted
keys_next {t} {r} {s} {keys} {breaks} {b} inv long wide few m more1 = go b (sym m) more1
  where
    long_more : (l : List ℕ) → length (more l keys) ≡ length l
    long_more l = length-set l keys (bump (get_or l keys 0))

    go : (b : Bool) → get_or breaks keys false ≡ b → KeyMore r keys b s → KeysMore t (keys + 1) breaks s
    go true e k =
        record {
          kept = list_same keys breaks false t.kept r.kept s.kept (λ f. absurd (true≢false (sym e ∙ f))) k.kept inv.kept;
          broken = list_more keys breaks true t.broken r.broken s.broken e (let l = inv.broken_long in omega arith) k.broken inv.broken;
          refused = k.refused ∙ inv.refused;
          unread = k.unread ∙ inv.unread;
          kept_long = ap length k.kept ∙ inv.kept_long;
          broken_long = ap length k.broken ∙ long_more r.broken ∙ inv.broken_long;
        }
    go false e k =
        record {
          kept = list_more keys breaks false t.kept r.kept s.kept e (let l = inv.kept_long in omega arith) k.kept inv.kept;
          broken = list_same keys breaks true t.broken r.broken s.broken (λ f. absurd (true≢false (sym f ∙ e))) k.broken inv.broken;
          refused = k.refused ∙ inv.refused;
          unread = k.unread ∙ inv.unread;
          kept_long = ap length k.kept ∙ long_more r.kept ∙ inv.kept_long;
          broken_long = ap length k.broken ∙ inv.broken_long;
        }

pub keys_all : {t r : Lists.Tally} {n keys : ℕ} {breaks : List Bool} → KeysMore t n breaks r → n ≤ keys → keys ≤ n → KeysMore t keys breaks r
keys_all {t} {r} {breaks = breaks} inv low high = subst (λ (k : ℕ). KeysMore t k breaks r) (omega arith) inv
