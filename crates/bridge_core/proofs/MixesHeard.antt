-- What is sent at a tick is what the members hear, and all who hear anything get it.
use Rattle.std.proofs.Common.{◌≡◌, ℕ, true, cond, List, [], ◌∷◌, ◌++◌, map, Option, Some, None, refl, sym, ap, subst}
use Rattle.std.proofs.Common.{◌∙◌, append_assoc}
use Rattle.std.specs.List.{flat_map, AllByRecursion}
use Rattle.std.specs.Prelude.{option_map}
use Rattle.std.specs.Option.{option_and_then}
use Rattle.std.proofs.lemmas.List.{map-append}
use Rattle.desk_rows.specs.declared.row.Member.{Member as MemberRow}
use Rattle.desk_rows.specs.Desk.{Desk, good}
use Rattle.topology.specs.Mixes.{mix_member}
use Rattle.forward_rewrite.specs.Sending.{Numbered}
use Rattle.forward_rewrite.specs.Mixes.{Sound}
use Rattle.media_items.specs.OwnStreams.{is_mine}
use Rattle.mixer.specs.Hearing.{voices_of, sound_for}
use Rattle.mixer.specs.Mixes.{Hears, hears, to_member, mixes_at, sent_by}
use Rattle.mixer.specs.MixLists.{Carries, to_its_member}
use Rattle.media_items.specs.Inputs.{Input}
use Rattle.sender_feedback.specs.Upstream.{Asker}
use Rattle.bridge_core.specs.Lanes.{Visit, given_of, mix_goes, is_lanes, sends_at}
use Rattle.bridge_core.specs.LaneState.{visit_of}
use Rattle.bridge_core.specs.Headline.{IsMixOf, GoesOnce}
use Rattle.bridge_core.proofs.OnStreams.{on}
use Rattle.bridge_core.proofs.Chosen.{all-append, all-filter}
use Rattle.bridge_core.proofs.MixesSent.{MixBelow, mixes_on}

-- on a good desk each member's mix is its own
abbrev pub AreOwn : Desk → Type 0
AreOwn d =
    (before : List MemberRow) (m : MemberRow) (after : List MemberRow) → d.members ≡ before ++ m ∷ after
    → mix_member d m.out_audio ≡ Some m

module _ (below : MixBelow) (version item : ℕ) (d : Desk) (moment : ℕ) (before : List Visit) where
  abbrev visit : Visit
  visit = visit_of version item d (Input.tick moment)

  -- what a tick adds to a member's mix is what it hears
  added : (m : MemberRow) → mix_member d m.out_audio ≡ Some m
      → Carries m.out_audio
      (option_map (λ (sound : Sound). let h : Hears = record { member = m; sound = sound } in h)
      (sound_for (voices_of (given_of before) d) d m))
      (mixes_at m.out_audio (given_of before) d moment)
  added m its =
      subst (λ (o : Option Hears). Carries m.out_audio o (mixes_at m.out_audio (given_of before) d moment))
      (ap (option_and_then (hears (given_of before) d)) its)
      (below.heard m.out_audio (given_of before) d moment)

  -- and goes to it alone
  each_mix : (m : MemberRow) → mix_member d m.out_audio ≡ Some m
      → AllByRecursion (IsMixOf (given_of before) visit)
      (map (mix_goes visit) (map (to_member m) (mixes_at m.out_audio (given_of before) d moment)))
  each_mix m its = by (sound_for (voices_of (given_of before) d) d m) refl (added m its)
    where
      by : (o : Option Sound) → sound_for (voices_of (given_of before) d) d m ≡ o
          → Carries m.out_audio
          (option_map (λ (sound : Sound). let h : Hears = record { member = m; sound = sound } in h) o)
          (mixes_at m.out_audio (given_of before) d moment)
          → AllByRecursion (IsMixOf (given_of before) visit)
          (map (mix_goes visit) (map (to_member m) (mixes_at m.out_audio (given_of before) d moment)))
      by None e none =
          subst
          (λ (ps : List Numbered).
          AllByRecursion (IsMixOf (given_of before) visit) (map (mix_goes visit) (map (to_member m) ps)))
          (sym none) tt
      by (Some sound) e one =
          subst
          (λ (ps : List Numbered).
          AllByRecursion (IsMixOf (given_of before) visit) (map (mix_goes visit) (map (to_member m) ps)))
          (sym one.packet) (
            record {
              version = refl;
              item = refl;
              first = refl;
              member = m;
              mix = its;
              to = refl;
              sound = sound;
              heard = e;
              number = one.number;
              ts = one.ts;
              marker = one.marker;
              packet = refl;
            },
            tt,
          )

  each_member : AreOwn d → (front back : List MemberRow) → d.members ≡ front ++ back
      → AllByRecursion (IsMixOf (given_of before) visit)
      (map (mix_goes visit) (flat_map (λ m. map (to_member m) (mixes_at m.out_audio (given_of before) d moment)) back))
  each_member own front [] e = tt
  each_member own front (m ∷ back) e =
      let G = λ (m : MemberRow). map (to_member m) (mixes_at m.out_audio (given_of before) d moment) in
      subst (AllByRecursion (IsMixOf (given_of before) visit))
      (sym (map-append (mix_goes visit) (G m) (flat_map G back)))
      (all-append (IsMixOf (given_of before) visit) (map (mix_goes visit) (G m))
      (map (mix_goes visit) (flat_map G back))
      (each_mix m (own front m back e))
      (each_member own (front ++ m ∷ []) back (e ∙ sym (append_assoc front (m ∷ []) back))))

  pub all_mixes : AreOwn d → (who : Asker) (lane lanes : ℕ)
      → AllByRecursion (IsMixOf (given_of before) visit) (sends_at who lane lanes before visit)
  all_mixes own who lane lanes =
      all-filter (IsMixOf (given_of before) visit) (is_lanes lane lanes)
      (map (mix_goes visit) (sent_by (given_of before) d moment)) (each_member own [] d.members refl)

  pub goes_once : good d ≡ true → (who : Asker) (lane lanes : ℕ) (m : MemberRow) (sound : Sound)
      → is_mine lane lanes m.out_audio ≡ true → mix_member d m.out_audio ≡ Some m
      → sound_for (voices_of (given_of before) d) d m ≡ Some sound
      → GoesOnce visit m sound (on m.out_audio (sends_at who lane lanes before visit))
  goes_once h who lane lanes m sound mine its hears_it =
      let k = m.out_audio in
      let ps = mixes_at k (given_of before) d moment in
      let one =
      subst
      (λ (o : Option Sound).
      Carries k (option_map (λ (sound : Sound). let h : Hears = record { member = m; sound = sound } in h) o) ps)
      hears_it (added m its) in
      record {
        number = one.number;
        ts = one.ts;
        marker = one.marker;
        once =
            mixes_on below version item d moment before h who k lane lanes
            ∙ ap (λ b. cond b (map (mix_goes visit) (to_its_member (mix_member d k) ps)) []) mine
            ∙ ap (λ o. map (mix_goes visit) (to_its_member o ps)) its
            ∙ ap (λ (qs : List Numbered). map (mix_goes visit) (map (to_member m) qs)) one.packet;
      }
