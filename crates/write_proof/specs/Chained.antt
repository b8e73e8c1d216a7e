-- The steps that the search remembers may be written, and what is written is theory_derive's proof.
use Rattle.std.specs.Prelude.{ℕ, zero, suc, ◌+◌, ◌<◌, ◌≤◌, ◌≡◌, refl, ◌⊎◌, true}
use Rattle.std.proofs.Common.{sym, ◌∙◌, subst, inl, inr}
use Rattle.std.proofs.Math.Path.{ap, ap₂}
use mathlib.Core.List.{List, ◌∷◌, ◌++◌, map, flatten}
use Rattle.std.proofs.Math.Option.{some}
use native.Mathlib.Omega.{arith}
use Rattle.std.proofs.Math.ListN.{length, get_or, get_elem?, drop}
use Rattle.meaning.specs.Limits.{in_profile}
use Rattle.meaning.specs.Lists.{Each, end, also}
use Rattle.meaning.specs.Paths.{Label}
use Rattle.meaning.specs.Keys.{Key}
use Rattle.meaning.specs.Rules.{Line}
use Rattle.meaning.specs.Records.{key_in, read_key, is_some, record_length, record_body, line_bytes, no_key}
use Rattle.meaning.specs.Operations.{records_from}
use Rattle.theory_lists.specs.Bools.{Each-at}
use Rattle.theory_paths.specs.Good.{GoodKey, context_normal, target_normal}
use Rattle.theory_paths.specs.Normal.{norm_of_normal}
use Rattle.theory_lists.specs.Logic.{less_or, found_below, found_mem}
use Rattle.theory_pattern.specs.Spots.{Taken as Step, Fires, Chain, begun, taken}
use Rattle.theory_derive.specs.Accept.{turns, get_d_found}
use Rattle.theory_derive.specs.Written.{step_lines, taken_lines, lines_from, first_line, proof_lines}
use Rattle.write_bytes.specs.Wrote.{written}
use Rattle.write_step.specs.Fits.{KeyBody, key_fits}
use Rattle.write_step.specs.Lines.{WroteLines, bytes_of_lines}
use Rattle.step_search.specs.declared.firing.Taken.{Taken}
use Rattle.write_proof.specs.Derived.{KeyNormal}
use Rattle.step_search.specs.Ranges.{step_of}
use Rattle.step_search.specs.Finding.{steps_below}
use Rattle.write_proof.specs.Asks.{TakenReady, ProofReady}
use Rattle.write_proof.specs.Cited.{cited_key, taken_by, lines_by, proof_by}

-- What the decider has: an accepted profile, whose key number n stands whole at record labels + n, an accepted question, and the steps
pub record Remembers (declared : List Label) (profile : List ℕ) (labels : ℕ) (keys : List Key) (body : List ℕ) (u : ℕ) (steps : List Taken) (count : ℕ)
    : Type 0 where
  pub good : Each (GoodKey declared in_profile) keys
  pub asked : GoodKey declared in_profile (key_in body)
  pub reads : is_some (read_key body) ≡ true
  pub small : labels + length keys ≤ 65536
  pub are : (n : ℕ) → n < length keys → get_elem? keys n ≡ some (cited_key profile (labels + n))
  pub long : (n : ℕ) → n < length keys → 4 ≤ record_length (records_from (labels + n) profile)
  pub within : (n : ℕ) → n < length keys → record_length (records_from (labels + n) profile) ≤ length (records_from (labels + n) profile)
  pub is_key : (n : ℕ) → n < length keys → is_some (read_key (record_body (records_from (labels + n) profile))) ≡ true
  pub chain : Chain keys (key_in body) u (steps_below steps count)
  pub few : count ≤ 8

-- a step that was taken
pub record Fired (keys : List Key) (asked : Key) (t : Step) : Type 0 where
  pub fires : Fires keys asked t
  pub above : t.node ≤ t.spot

chain_each : {keys : List Key} {asked : Key} {u : ℕ} {ss : List Step} → Chain keys asked u ss → Each (Fired keys asked) ss
chain_each begun = end
chain_each (taken t chain un f uk iu) = also (record { fires = f; above = omega arith }) (chain_each chain)

each_first : {Q : Step → Type 0} {t : Step} {ss : List Step} → Each Q (t ∷ ss) → Q t
each_first (also q e) = q

each_rest : {Q : Step → Type 0} {t : Step} {ss : List Step} → Each Q (t ∷ ss) → Each Q ss
each_rest (also q e) = e

each_below : (Q : Step → Type 0) (steps : List Taken) (count : ℕ) → Each Q (steps_below steps count) → (n : ℕ) → n < count
    → Q (step_of (get_or steps n (record { key = 0; node = 0; branch = 0; spot = 0 })))
unfolding steps_below
each_below Q steps zero e n h = absurd (omega arith)
each_below Q steps (suc count) e n h = go (less_or n count) (each_below Q steps count (each_rest e) n)
  where
    go : (n < count) ⊎ (count ≤ n) → (n < count → Q (step_of (get_or steps n (record { key = 0; node = 0; branch = 0; spot = 0 }))))
        → Q (step_of (get_or steps n (record { key = 0; node = 0; branch = 0; spot = 0 })))
    go (inl l) r = r l
    go (inr l) r =
        let z : count ≡ n = omega arith in
        subst (λ (m : ℕ). Q (step_of (get_or steps m (record { key = 0; node = 0; branch = 0; spot = 0 })))) z (each_first e)

good_normal : (declared : List Label) (k : Key) → GoodKey declared in_profile k → KeyNormal k
good_normal declared k g =
    record {
      context = norm_of_normal k.context (context_normal declared in_profile k g);
      target = norm_of_normal k.target (target_normal declared in_profile k g);
    }

-- the lines cite the profile's keys
lines_by_is : (profile : List ℕ) (labels : ℕ) (keys : List Key) (asked : Key) {ss : List Step}
    → Each (λ (t : Step). get_or keys t.key no_key ≡ cited_key profile (labels + t.key)) ss → (at : ℕ) → lines_by profile labels asked at ss ≡ lines_from keys asked at ss
unfolding lines_by lines_from taken_by taken_lines
lines_by_is profile labels keys asked end at = refl
lines_by_is profile labels keys asked (also {x = t} {xs = ss} h e) at =
    ap₂ (λ (a b : List Line). a ++ b) (here at) (lines_by_is profile labels keys asked e (at + length (taken_by profile labels asked t at)) ∙ ap (λ (n : ℕ). lines_from keys asked (at + n) ss) (ap length (here at)))
  where
    here : (at : ℕ) → taken_by profile labels asked t at ≡ taken_lines keys asked t at
    here at = ap (λ (s : Key). step_lines asked s t.key t.node t.branch t.spot at) (sym h)

module _ {declared : List Label} {profile : List ℕ} {labels : ℕ} {keys : List Key} {body : List ℕ} {u : ℕ} {steps : List Taken} {count : ℕ}
    (g : Remembers declared profile labels keys body u steps count) where
  asked_body : KeyBody body
  asked_body = record { reads = g.reads; fits = key_fits declared (key_in body) g.asked }

  cited_good : (t : Step) → Fired keys (key_in body) t → GoodKey declared in_profile (cited_key profile (labels + t.key))
  cited_good t f =
      Each-at g.good (cited_key profile (labels + t.key)) (found_mem keys t.key (g.are t.key (found_below keys t.key f.fires.cited)))

  fired_ready : (t : Step) → Fired keys (key_in body) t → TakenReady profile labels body t
  unfolding cited_key
  fired_ready t f =
      let n = found_below keys t.key f.fires.cited in
      let s = f.fires.firing in
      record {
        small = let m = g.small in omega arith;
        long = g.long t.key n;
        within = g.within t.key n;
        ready = record {
          key = asked_body;
          cited_key = record { reads = g.is_key t.key n; fits = key_fits declared (cited_key profile (labels + t.key)) (cited_good t f) };
          normal = good_normal declared (cited_key profile (labels + t.key)) (cited_good t f);
          is_branch = s.is_branch;
          on_chain = s.on_chain;
          above = f.above;
          on_row = s.on_row;
        };
      }

  -- what `write_proof` asks
  pub proof_ready : {out : List ℕ} → 65536 ≤ length out → ProofReady out profile labels body u steps count
  proof_ready r =
      record {
        room = r;
        few = g.few;
        key = asked_body;
        normal = good_normal declared (key_in body) g.asked;
        on_chain = (turns declared keys (key_in body) g.good g.asked g.chain).1;
        each = λ n h. fired_ready _ (each_below (Fired keys (key_in body)) steps count (chain_each g.chain) n h);
      }

  -- and what it writes
  pub proof_is : proof_by profile labels (key_in body) u (steps_below steps count) ≡ proof_lines keys (key_in body) u (steps_below steps count)
  unfolding proof_by proof_lines
  proof_is =
      ap {B = List Line} (λ (l : List Line). first_line (key_in body) u ∷ l)
      (lines_by_is profile labels keys (key_in body) (cited_each (chain_each g.chain)) 1)
    where
      cited_each : {ss : List Step} → Each (Fired keys (key_in body)) ss → Each (λ (t : Step). get_or keys t.key no_key ≡ cited_key profile (labels + t.key)) ss
      cited_each end = end
      cited_each (also {x = t} f e) =
          also (get_d_found keys t.key (g.are t.key (found_below keys t.key f.fires.cited))) (cited_each e)

  pub proof_bytes_are : {out exit : List ℕ} {used : ℕ} → WroteLines out exit 0 (proof_by profile labels (key_in body) u (steps_below steps count)) used
      → (exit ≡ flatten (map line_bytes (proof_lines keys (key_in body) u (steps_below steps count))) ++ drop used out)
      × (used ≡ length (flatten (map line_bytes (proof_lines keys (key_in body) u (steps_below steps count)))))
  unfolding bytes_of_lines written
  proof_bytes_are {out} {exit} {used} w =
      let lines = proof_by profile labels (key_in body) u (steps_below steps count) in
      let n : used ≡ length (flatten (map line_bytes lines)) = let a = w.wrote.after in a ∙ (omega arith) in
      let m : 0 + length (flatten (map line_bytes lines)) ≡ used = omega arith in (
        w.wrote.bytes ∙ ap₂ (λ (k : ℕ) (l : List Line). flatten (map line_bytes l) ++ drop k out) m proof_is,
        n ∙ ap (λ (l : List Line). length (flatten (map line_bytes l))) proof_is,
      )
