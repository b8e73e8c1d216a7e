-- Inputs counted one after the other, a name at a time: the report is that of a list of as many inputs as there are names. One law for each return.
use Rattle.std.specs.Prelude.{ℕ, ◌+◌, ◌<◌, ◌≤◌, ◌≡◌, refl, Bool, true, false, Result, Ok, Err, is_err, List, [], ◌∷◌, ◌++◌, length, replicate}
use Rattle.std.proofs.Common.{sym, ◌∙◌, ap, subst, true≢false, arith, length-append}
use Rattle.std.proofs.Math.Decide.{dec_lt}
use Rattle.std.proofs.lemmas.List.{length-replicate}
use Rattle.meaning.specs.Refusals as Table
use Rattle.meaning.specs.Refusals.{profile_refusal}
use Rattle.meaning.specs.Operations.{Answer, reported}
use Rattle.meaning.specs.Campaign.{Segment, unreadable, segment, names_in, list_refusal, Reports}
use Rattle.meaning.specs.Tally.{Tally, no_tally, Adds, AddsUnread, ReportsTally}
use Rattle.theory_campaign.specs.Tallies.{Tallied, tallied_none, tallied_segment, tallied_unread, campaign_right, stopped_by_inputs}
use Rattle.theory_campaign.specs.Listings.{after_name, list_long}
use Rattle.op_answers.specs.declared.Refusal.{Refusal}
use Rattle.op_answers.specs.Cases.{meant, filling_answer}
use Rattle.read_names.specs.Names.{Read, read_start, read_more, read_few, read_all}

-- a name's file cannot be read, or holds these bytes
pub data AddsInput (profile : List ℕ) (t r : Tally) : Type 0 where
  unread : AddsUnread t r → AddsInput profile t r
  read : (tree : List ℕ) → Adds profile tree t r → AddsInput profile t r

-- So many names are done, and the tally is that of as many inputs
pub record Counting (list profile rest : List ℕ) (done : ℕ) (t : Tally) : Type 0 where
  pub segments : List Segment
  pub names : Read list rest done
  pub many : length segments ≡ done
  pub tallied : (list_refusal list).number ≡ 0 → (profile_refusal profile).number ≡ 0 → Tallied profile segments t

pub record NamesCounted (list profile : List ℕ) (t : Tally) : Type 0 where
  pub segments : List Segment
  pub many : length segments ≡ length (names_in list)
  pub tallied : (list_refusal list).number ≡ 0 → (profile_refusal profile).number ≡ 0 → Tallied profile segments t

-- What the program prints: the exact report over a list of as many inputs as there are names, or the refusal
pub record IsCampaign (list profile buffer : List ℕ) (answer : Answer) : Type 0 where
  pub segments : List Segment
  pub many : length segments ≡ length (names_in list)
  pub reports : Reports list profile segments buffer answer

pub counting_start : (list profile : List ℕ) {t : Tally} → t ≡ no_tally → Counting list profile list 0 t
counting_start list profile e =
    record {
      segments = [];
      names = read_start list;
      many = refl;
      tallied = λ l p. subst (Tallied profile []) (sym e) (tallied_none profile);
    }

-- a list that is not refused has at most 200 names
list_few : (list : List ℕ) → (list_refusal list).number ≡ 0 → length (names_in list) ≤ 200
list_few list e = go (dec_lt 200 (length (names_in list)))
  where
    go : Dec (200 < length (names_in list)) → length (names_in list) ≤ 200
    go (yes h) = let z : ◌≡◌ {A = ℕ} 7 0 = sym (ap (λ (x : Table.Refusal). x.number) (list_long list h)) ∙ e in absurd (omega arith)
    go (no h) = omega arith

pub counting_more : {list profile rest next : List ℕ} {done : ℕ} {t r : Tally} → Counting list profile rest done t → 0 < length rest → AddsInput profile t r
    → next ≡ after_name rest → Counting list profile next (done + 1) r
counting_more {list} {profile} {rest} {next} {done} {t} {r} c h input e = go input
  where
    one_more : (x : Segment) → length (c.segments ++ (x ∷ [])) ≡ done + 1
    one_more x = length-append c.segments (x ∷ []) ∙ ap (λ (n : ℕ). n + 1) c.many

    few : (list_refusal list).number ≡ 0 → length c.segments < 65535
    few l =
        let a = list_few list l in
        let b = read_few c.names h in
        let m = c.many in
        omega arith

    go : AddsInput profile t r → Counting list profile next (done + 1) r
    go (unread a) =
        record {
          segments = c.segments ++ (unreadable ∷ []);
          names = read_more c.names h e;
          many = one_more unreadable;
          tallied = λ l p. tallied_unread profile c.segments t r (c.tallied l p) (few l) a;
        }
    go (read tree a) =
        record {
          segments = c.segments ++ (segment tree ∷ []);
          names = read_more c.names h e;
          many = one_more (segment tree);
          tallied = λ l p. tallied_segment profile tree c.segments t r p (c.tallied l p) (few l) a;
        }

pub counting_end : {list profile rest : List ℕ} {done : ℕ} {t : Tally} → Counting list profile rest done t → length rest ≤ 0 → NamesCounted list profile t
counting_end c h = record { segments = c.segments; many = c.many ∙ read_all c.names h; tallied = c.tallied }

-- the report of what was counted
pub campaign_counted : {list profile buffer : List ℕ} {answer : Answer} (t : Tally) → NamesCounted list profile t → ReportsTally list profile t buffer answer
    → IsCampaign list profile buffer answer
campaign_counted {list} {profile} {buffer} {answer} t c u =
    record { segments = c.segments; many = c.many; reports = campaign_right list profile c.segments t buffer answer c.tallied u }

-- where the report of no counts is refused, list or profile is
pub record InputsRefused (list profile : List ℕ) (refuses : Bool) : Type 0 where
  pub told : refuses ≡ true → (list_refusal list).number ≡ 0 → (profile_refusal profile).number ≡ 0 → ⊥

pub inputs_refused : {list profile : List ℕ} (tried after : List ℕ) (none : Tally) (first : Result ℕ Refusal) (r : Refusal) → 65536 ≤ length tried → first ≡ Err r
    → ReportsTally list profile none tried (filling_answer reported first after) → InputsRefused list profile true
inputs_refused {list} {profile} tried after none first r room e stop =
    record {
      told = λ same.
          stopped_by_inputs list profile none tried (meant r) after room
          (subst (λ (f : Result ℕ Refusal). ReportsTally list profile none tried (filling_answer reported f after)) e stop);
    }

pub inputs_pass : (list profile : List ℕ) → InputsRefused list profile false
inputs_pass list profile = record { told = λ e. absurd (true≢false (sym e)) }

pub inputs_judged : {list profile : List ℕ} (tried after : List ℕ) (none : Tally) (first : Result ℕ Refusal) → 65536 ≤ length tried
    → ReportsTally list profile none tried (filling_answer reported first after) → InputsRefused list profile (is_err first)
inputs_judged {list} {profile} tried after none (Ok used) room stop = inputs_pass list profile
inputs_judged tried after none (Err r) room stop = inputs_refused tried after none (Err r) r room refl stop

-- .. and no input is asked for
pub campaign_stopped : {list profile buffer : List ℕ} {answer : Answer} {refuses : Bool} (t : Tally) → InputsRefused list profile refuses → refuses ≡ true
    → ReportsTally list profile t buffer answer → IsCampaign list profile buffer answer
campaign_stopped {list} {profile} {buffer} {answer} t stop e u =
    record {
      segments = replicate (length (names_in list)) unreadable;
      many = length-replicate (length (names_in list)) unreadable;
      reports =
          campaign_right list profile (replicate (length (names_in list)) unreadable) t buffer answer (λ l p. absurd (stop.told e l p)) u;
    }
