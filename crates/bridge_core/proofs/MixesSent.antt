-- What is sent on a mix stream for the first time is its mix list.
use Rattle.std.proofs.Common.{◌≡◌, ℕ, ℤ, ◌+◌, ◌%◌, true, false, cond, nat_eq, List, [], ◌∷◌, ◌++◌, map, Option, Some}
use Rattle.std.proofs.Common.{None, refl, sym, ap, subst, ◌∙◌, arith, append_assoc, append-nil, inl, inr}
use Rattle.std.specs.List.{AllByRecursion}
use Rattle.std.specs.Option.{option_and_then}
use Rattle.std.proofs.lemmas.Bool.{cases_eq}
use Rattle.std.proofs.lemmas.Bool.Decides.{nat_tests}
use Rattle.std.proofs.lemmas.List.{map-append}
use Rattle.rtp_codec.specs.declared.address.Address.{Address}
use Rattle.desk_rows.specs.declared.row.Member.{Member as MemberRow}
use Rattle.desk_rows.specs.Desk.{Desk, good}
use Rattle.topology.specs.Mixes.{mix_member}
use Rattle.forward_rewrite.specs.Sending.{Numbered}
use Rattle.media_items.specs.OwnStreams.{is_mine}
use Rattle.mixer.specs.Hearing.{Given}
use Rattle.mixer.specs.Mixes.{Hears, MixSent, hears, turn_of, to_member, mixes, mixes_at, sent_by}
use Rattle.mixer.specs.MixLists.{GoOn, AreInARow, Carries, on_stream, to_its_member}
use Rattle.media_items.specs.Inputs.{Input}
use Rattle.sender_feedback.specs.Upstream.{Asker}
use Rattle.bridge_core.specs.Sent.{Sent}
use Rattle.bridge_core.specs.Sent.Sent.{media, control, note}
use Rattle.bridge_core.specs.Lanes.{Visit, given_of, mix_goes, sent_of_input, sends_at}
use Rattle.bridge_core.specs.LaneState.{visit_of}
use Rattle.bridge_core.specs.Steps.{Step, visits, visit_after, along, desk_of, version_of, items_given}
use Rattle.bridge_core.specs.Named.{Name, StreamKind, firsts_at, firsts}
use Rattle.bridge_core.specs.Headline.{number_of, numbers, numbered_of, FollowOn, HaveNoGap, IsGood}
use Rattle.bridge_core.proofs.OnStreams.{on, on_share}
use Rattle.bridge_core.proofs.PartsLaws.{not_given, is_given}
use Rattle.bridge_core.proofs.StepLaws.{desk_of-publish, desk_of-item, visits-publish, visits-mine, visits-other}

-- what holds of mixes below
pub record MixBelow : Type 0 where
  pub behind : (ssrc : ℕ) (before : List Given) (d : Desk) (moment : ℕ)
      → mixes ssrc (before ++ Given.tick d moment ∷ []) ≡ mixes ssrc before ++ mixes_at ssrc before d moment
  pub heard : (ssrc : ℕ) (before : List Given) (d : Desk) (moment : ℕ)
      → Carries ssrc (turn_of ssrc before d moment).heard (mixes_at ssrc before d moment)
  pub samples : (ssrc : ℕ) (before : List Given) (source : ℕ) (address : Address) (rate ts : ℕ) (samples : List ℤ)
      → mixes ssrc (before ++ Given.put source address rate ts samples ∷ []) ≡ mixes ssrc before
  pub renewing : (ssrc : ℕ) (before : List Given) → mixes ssrc (before ++ Given.renew ∷ []) ≡ mixes ssrc before
  pub once : (ssrc : ℕ) (before : List Given) (d : Desk) (moment : ℕ) → good d ≡ true
      → on_stream ssrc (sent_by before d moment) ≡ to_its_member (mix_member d ssrc) (mixes_at ssrc before d moment)

-- the packets of mixes on one stream
on_mixes : (k : ℕ) (v : Visit) (ps : List MixSent) → on k (map (mix_goes v) ps) ≡ map (mix_goes v) (on_stream k ps)
on_mixes k v [] = refl
on_mixes k v (p ∷ ps) =
    ap (λ es. cond (nat_eq p.ssrc k) (mix_goes v p ∷ es) es) (on_mixes k v ps)
    ∙ (elim (nat_eq p.ssrc k) as (λ b.
    cond b (mix_goes v p ∷ map (mix_goes v) (on_stream k ps)) (map (mix_goes v) (on_stream k ps))
    ≡ map (mix_goes v) (cond b (p ∷ on_stream k ps) (on_stream k ps)))
    [ true ↦ refl | false ↦ refl ])

module _ (below : MixBelow) (version item : ℕ) (d : Desk) (moment : ℕ) (before : List Visit) (h : good d ≡ true) where
  abbrev visit : Visit
  visit = visit_of version item d (Input.tick moment)

  -- what a lane sends on a stream at a tick, if the stream is the lane's
  pub mixes_on : (who : Asker) (k lane lanes : ℕ)
      → on k (sends_at who lane lanes before visit)
      ≡ cond (is_mine lane lanes k)
      (map (mix_goes visit) (to_its_member (mix_member d k) (mixes_at k (given_of before) d moment))) []
  mixes_on who k lane lanes =
      on_share k lane lanes (sent_of_input who before visit (Input.tick moment))
      ∙ ap (λ es. cond (is_mine lane lanes k) es []) (on_mixes k visit (sent_by (given_of before) d moment)
      ∙ ap (map (mix_goes visit)) (below.once k (given_of before) d moment h))

  told_by : (m : MemberRow) (ps : List Numbered) → map numbered_of (map (mix_goes visit) (map (to_member m) ps)) ≡ ps
  told_by m [] = refl
  told_by m (p ∷ ps) = ap (λ qs. p ∷ qs) (told_by m ps)

  -- all that a tick adds goes to its member
  pub all_told : (k : ℕ)
      → map numbered_of (map (mix_goes visit) (to_its_member (mix_member d k) (mixes_at k (given_of before) d moment)))
      ≡ mixes_at k (given_of before) d moment
  all_told k = by (mix_member d k) refl
    where
      by : (o : Option MemberRow) → mix_member d k ≡ o
          → map numbered_of (map (mix_goes visit) (to_its_member o (mixes_at k (given_of before) d moment)))
          ≡ mixes_at k (given_of before) d moment
      by None e =
          sym (subst (λ (o : Option Hears). Carries k o (mixes_at k (given_of before) d moment))
          (ap (option_and_then (hears (given_of before) d)) e) (below.heard k (given_of before) d moment))
      by (Some m) e = told_by m (mixes_at k (given_of before) d moment)

abbrev pub mix : ℕ → Name
mix ssrc = record { kind = StreamKind.mix; ssrc = ssrc }

module _ (below : MixBelow) (who : Asker) (count k : ℕ) (start : Desk) where
  -- what the stream's lane was given in these steps
  abbrev given : List Step → List Given
  given before = given_of (visits (k % count) start before)

  -- the stream's packets after these steps
  abbrev told : List Step → List Numbered
  told before = mixes k (given before)

  -- an item that adds nothing
  told-still : (before : List Step) (lane : ℕ) (input : Input)
      → mixes k (given_of (visits lane start before ++ visit_after start before lane input ∷ []))
      ≡ mixes k (given_of (visits lane start before))
      → told before ++ [] ≡ told (before ++ Step.item lane input ∷ [])
  told-still before lane input still =
      append-nil (told before)
      ∙ (elim (cases_eq lane (k % count)) [
        | inl same ↦
            sym (subst
            (λ j.
            mixes k (given_of (visits j start (before ++ Step.item lane input ∷ [])))
            ≡ mixes k (given_of (visits j start before)))
            same
            (ap (λ vs. mixes k (given_of vs)) (visits-mine lane start before input) ∙ still))
        | inr other ↦ sym (ap (λ vs. mixes k (given_of vs)) (visits-other (k % count) lane start before input other))
      ])

  told-item : (before : List Step) (lane : ℕ) (input : Input) → good (desk_of start before) ≡ true
      → told before ++ map numbered_of (firsts_at who count start (mix k) before (Step.item lane input))
      ≡ told (before ++ Step.item lane input ∷ [])
  told-item before lane (Input.frame f) h =
      told-still before lane (Input.frame f)
      (ap (mixes k) (not_given (visits lane start before) (visit_after start before lane (Input.frame f)) refl))
  told-item before lane (Input.nack request) h =
      told-still before lane (Input.nack request)
      (ap (mixes k) (not_given (visits lane start before) (visit_after start before lane (Input.nack request)) refl))
  told-item before lane (Input.block told) h =
      told-still before lane (Input.block told)
      (ap (mixes k) (not_given (visits lane start before) (visit_after start before lane (Input.block told)) refl))
  told-item before lane (Input.pli loss) h =
      told-still before lane (Input.pli loss)
      (ap (mixes k) (not_given (visits lane start before) (visit_after start before lane (Input.pli loss)) refl))
  told-item before lane (Input.report moment) h =
      told-still before lane (Input.report moment)
      (ap (mixes k) (not_given (visits lane start before) (visit_after start before lane (Input.report moment)) refl))
  told-item before lane (Input.audio sound) h =
      let here = visits lane start before in
      told-still before lane (Input.audio sound)
      (ap (mixes k) (is_given here (visit_after start before lane (Input.audio sound))
      (Given.put sound.source sound.address sound.rate sound.ts sound.samples) refl)
      ∙ below.samples k (given_of here) sound.source sound.address sound.rate sound.ts sound.samples)
  told-item before lane Input.renew h =
      let here = visits lane start before in
      told-still before lane Input.renew
      (ap (mixes k) (is_given here (visit_after start before lane Input.renew) Given.renew refl)
      ∙ below.renewing k (given_of here))
  told-item before lane (Input.tick moment) h =
      let input = Input.tick moment in
      let here = visits lane start before in
      let d = desk_of start before in
      let v = visit_after start before lane input in
      let added = map (mix_goes v) (to_its_member (mix_member d k) (mixes_at k (given_of here) d moment)) in
      ap (λ es. told before ++ map numbered_of es)
      (mixes_on below (version_of before) (items_given lane before + 1) d moment here h who k lane count)
      ∙ (elim (cases_eq lane (k % count)) [
        | inl same ↦
            let mine : is_mine lane count k ≡ true = grind (arith, nat_tests) in
            ap (λ b. told before ++ map numbered_of (cond b added [])) mine
            ∙ ap (λ ps. told before ++ ps)
            (all_told below (version_of before) (items_given lane before + 1) d moment here h k)
            ∙ subst
            (λ j.
            mixes k (given_of (visits j start before)) ++ mixes_at k (given_of here) d moment
            ≡ mixes k (given_of (visits j start (before ++ Step.item lane input ∷ []))))
            same
            (sym (below.behind k (given_of here) d moment)
            ∙ ap (mixes k) (sym (is_given here v (Given.tick d moment) refl))
            ∙ ap (λ vs. mixes k (given_of vs)) (sym (visits-mine lane start before input)))
        | inr other ↦
            let not : is_mine lane count k ≡ false = grind (arith, nat_tests) in
            ap (λ b. told before ++ map numbered_of (cond b added [])) not
            ∙ append-nil (told before)
            ∙ ap (λ vs. mixes k (given_of vs)) (sym (visits-other (k % count) lane start before input other))
      ])

  -- the packets so far, and those that the steps add
  told-along : (before steps : List Step) → good (desk_of start before) ≡ true → AllByRecursion IsGood steps
      → told before ++ map numbered_of (along (firsts_at who count start (mix k)) before steps) ≡ told (before ++ steps)
  told-along before [] h all = append-nil (told before) ∙ ap told (sym (append-nil before))
  told-along before (Step.publish next ∷ steps) h all =
      let after = before ++ Step.publish next ∷ [] in
      let same : told after ≡ told before =
      ap (λ vs. mixes k (given_of vs)) (visits-publish (k % count) start before next) in
      ap (λ ps. ps ++ map numbered_of (along (firsts_at who count start (mix k)) after steps)) (sym same)
      ∙ told-along after steps (ap good (desk_of-publish start before next) ∙ all.0) all.1
      ∙ ap told (append_assoc before (Step.publish next ∷ []) steps)
  told-along before (Step.item lane input ∷ steps) h all =
      let after = before ++ Step.item lane input ∷ [] in
      let now = firsts_at who count start (mix k) before (Step.item lane input) in
      let rest = along (firsts_at who count start (mix k)) after steps in
      ap (λ ps. told before ++ ps) (map-append numbered_of now rest)
      ∙ sym (append_assoc (told before) (map numbered_of now) (map numbered_of rest))
      ∙ ap (λ ps. ps ++ map numbered_of rest) (told-item before lane input h)
      ∙ told-along after steps (ap good (desk_of-item start before lane input) ∙ h) all.1
      ∙ ap told (append_assoc before (Step.item lane input ∷ []) steps)

  pub mix_list : (steps : List Step) → good start ≡ true → AllByRecursion IsGood steps
      → map numbered_of (firsts who count start (mix k) steps) ≡ told steps
  mix_list steps h all = told-along [] steps h all

-- ---- numbers

number_alike : (e : Sent) → number_of e ≡ (numbered_of e).number
number_alike (media p) = refl
number_alike (control c) = refl
number_alike (note n) = refl

numbers_alike : (es : List Sent) → numbers es ≡ map (λ (p : Numbered). p.number) (map numbered_of es)
numbers_alike [] = refl
numbers_alike (e ∷ es) =
    ap (λ ns. number_of e ∷ ns) (numbers_alike es)
    ∙ ap (λ n. n ∷ map (λ (p : Numbered). p.number) (map numbered_of es)) (number_alike e)

follow_on : (n : ℕ) (ps : List Numbered) → GoOn n ps → FollowOn n (map (λ (p : Numbered). p.number) ps)
follow_on n [] h = tt
follow_on n (p ∷ ps) h = (h.0, follow_on p.number ps h.1)

no_gap : (ps : List Numbered) → AreInARow ps → HaveNoGap (map (λ (p : Numbered). p.number) ps)
no_gap [] h = tt
no_gap (p ∷ ps) h = follow_on p.number ps h

pub no_mix_gap : (who : Asker) (count : ℕ) (start : Desk) (steps : List Step) (ssrc : ℕ)
    → map numbered_of (firsts who count start (mix ssrc) steps)
    ≡ mixes ssrc (given_of (visits (ssrc % count) start steps))
    → ((ssrc : ℕ) (given : List Given) → AreInARow (mixes ssrc given))
    → HaveNoGap (numbers (firsts who count start (mix ssrc) steps))
no_mix_gap who count start steps ssrc lists row =
    let all = given_of (visits (ssrc % count) start steps) in
    subst HaveNoGap
    (sym (numbers_alike (firsts who count start (mix ssrc) steps) ∙ ap (map (λ (p : Numbered). p.number)) lists))
    (no_gap (mixes ssrc all) (row ssrc all))
