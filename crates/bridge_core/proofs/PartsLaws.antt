-- One more item, for a lane's video streams and its mixer.
use Rattle.std.proofs.Common.{◌≡◌, ℕ, Bool, true, false, cond, List, [], ◌∷◌, ◌++◌, map, Option, Some, None, refl, sym}
use Rattle.std.proofs.Common.{ap, subst, ◌∙◌, append-nil}
use Rattle.std.specs.Prelude.{filter, Result, Ok, Err, IfOk, OnOk}
use Rattle.std.specs.List.{cons_option}
use Rattle.std.proofs.lemmas.Result.{IfOk-weaker}
use Rattle.std.proofs.lemmas.List.Elements.{filter_map-append}
use Rattle.media_items.specs.OwnStreams.{is_mine}
use Rattle.mixer.specs.Hearing.{Given}
use Rattle.mixer.specs.Mixes.{MixSent, sent_by, lanes_own}
use Rattle.mixer.specs.Mixers.{MixerOf, WasGiven, IsGiven}
use Rattle.std.specs.List.{flat_map}
use Rattle.topology.specs.Looking.{member_from}
use Rattle.forward_rewrite.specs.Streams.{StreamOf}
use Rattle.receiver_feedback.specs.PassedUp.{pli_up}
use Rattle.media_items.specs.Inputs.{Input, Sound, Told, Loss}
use Rattle.bridge_core.specs.Sent.{Sent}
use Rattle.bridge_core.specs.Lanes.{Visit, routed, routed_at, stream_of, given_at, given_of, mix_goes, notes, passed_up}
use Rattle.bridge_core.specs.Lanes.{is_lanes, sends_at}
use Rattle.bridge_core.specs.declared.visit.LaneVisit.{LaneVisit}
use Rattle.bridge_core.specs.declared.parts.LaneParts.{LaneParts}
use Rattle.bridge_core.specs.LaneState.{StreamList, stream_at, AreLeft}
use Rattle.bridge_core.specs.inner.Visits.{visit_on, asker_of}
use Rattle.bridge_core.specs.inner.VideoStreams.{Answers}
use Rattle.bridge_core.specs.inner.Parts.{TicksAs, LeftBy, PartsAnswer}
use Rattle.bridge_core.specs.inner.Control.{lanes_reports}
use Rattle.bridge_core.proofs.Shares.{share_of_note, share_of_loss, share_of_reports}
use Rattle.bridge_core.proofs.Handled.{not_routed}

pub given-more : (before : List Visit) (v : Visit)
    → given_of (before ++ v ∷ []) ≡ given_of before ++ cons_option (given_at v) []
given-more before v = filter_map-append given_at before (v ∷ [])

-- an item that gives the mixer nothing
pub not_given : (before : List Visit) (v : Visit) → given_at v ≡ None → given_of (before ++ v ∷ []) ≡ given_of before
not_given before v none =
    given-more before v ∙ ap (λ o. given_of before ++ cons_option o []) none ∙ append-nil (given_of before)

pub is_given : (before : List Visit) (v : Visit) (g : Given) → given_at v ≡ Some g
    → given_of (before ++ v ∷ []) ≡ given_of before ++ g ∷ []
is_given before v g one = given-more before v ∙ ap (λ o. given_of before ++ cons_option o []) one

-- the video streams stay where they are brought nothing
stay : (lane lanes : ℕ) (streams : StreamList) (before : List Visit) (v : Visit) → ((k : ℕ) → routed_at k v ≡ None)
    → AreLeft lane lanes streams before → AreLeft lane lanes streams (before ++ v ∷ [])
stay lane lanes streams before v none left k mine =
    left k mine ∙ ap (stream_of k) (sym (not_routed k before v (none k)))

-- the video streams answer, and the mixer stays
pub by_video : {A : Type 0} → (at : LaneVisit A) (old new : LaneParts A) (input : Input) (sent : List Sent)
    → Answers at old.video new.video input sent → new.audio ≡ old.audio → given_at (visit_on at input) ≡ None
    → PartsAnswer at old new input sent
by_video at old new input sent answers same none before left =
    let does = answers before left.0 in (
      does.0,
      (
        does.1,
        subst (WasGiven at.place.lane at.place.lanes new.audio) (sym (not_given before (visit_on at input) none))
            (subst (λ (m : MixerOf). WasGiven at.place.lane at.place.lanes m (given_of before)) (sym same) left.1),
      ),
    )

-- sound goes into the mixer, and the video streams stay
pub by_sound : {A : Type 0} → (at : LaneVisit A) (old new : LaneParts A) (sound : Sound)
    → IsGiven old.audio new.audio (Given.put sound.source sound.address sound.rate sound.ts sound.samples)
    → new.video ≡ old.video
    → PartsAnswer at old new (Input.audio sound) []
by_sound at old new sound is same before left =
    let v = visit_on at (Input.audio sound) in (
      refl,
      (
        subst (λ (s : StreamList). AreLeft at.place.lane at.place.lanes s (before ++ v ∷ [])) (sym same)
            (stay at.place.lane at.place.lanes old.video before v (λ k. refl) left.0),
        subst (WasGiven at.place.lane at.place.lanes new.audio)
            (sym (is_given before v (Given.put sound.source sound.address sound.rate sound.ts sound.samples) refl))
            (is at.place.lane at.place.lanes (given_of before) left.1),
      ),
    )

-- from here on buffers begin anew, and the video streams stay
pub by_renewing : {A : Type 0} → (at : LaneVisit A) (old new : LaneParts A) → IsGiven old.audio new.audio Given.renew
    → new.video ≡ old.video → PartsAnswer at old new Input.renew []
by_renewing at old new is same before left =
    let v = visit_on at Input.renew in (
      refl,
      (
        subst (λ (s : StreamList). AreLeft at.place.lane at.place.lanes s (before ++ v ∷ [])) (sym same)
            (stay at.place.lane at.place.lanes old.video before v (λ k. refl) left.0),
        subst (WasGiven at.place.lane at.place.lanes new.audio) (sym (is_given before v Given.renew refl))
            (is at.place.lane at.place.lanes (given_of before) left.1),
      ),
    )

-- a lane's share of what goes to all members is what goes to its members
pub share_of_mixes : (lane lanes : ℕ) (v : Visit) (mixes : List MixSent)
    → filter (is_lanes lane lanes) (map (mix_goes v) mixes) ≡ map (mix_goes v) (lanes_own lane lanes mixes)
share_of_mixes lane lanes v [] = refl
share_of_mixes lane lanes v (p ∷ ps) =
    ap (λ es. cond (is_mine lane lanes p.ssrc) (mix_goes v p ∷ es) es) (share_of_mixes lane lanes v ps)
    ∙ (elim (is_mine lane lanes p.ssrc) as (λ b.
    cond b (mix_goes v p ∷ map (mix_goes v) (lanes_own lane lanes ps)) (map (mix_goes v) (lanes_own lane lanes ps))
    ≡ map (mix_goes v) (cond b (p ∷ lanes_own lane lanes ps) (lanes_own lane lanes ps)))
    [ true ↦ refl | false ↦ refl ])

-- a tick goes to the mixer, and the video streams stay
pub by_tick : {A : Type 0} → (at : LaneVisit A) (old new : LaneParts A) (moment : ℕ) (sent : List Sent)
    → TicksAs at old.audio new.audio moment sent → new.video ≡ old.video
    → PartsAnswer at old new (Input.tick moment) sent
by_tick at old new moment sent ticks same before left =
    let v = visit_on at (Input.tick moment) in
    let does = ticks (given_of before) left.1 in (
      does.0 ∙ sym (share_of_mixes at.place.lane at.place.lanes v (sent_by (given_of before) at.rows.now moment)),
      (
        subst (λ (s : StreamList). AreLeft at.place.lane at.place.lanes s (before ++ v ∷ [])) (sym same)
            (stay at.place.lane at.place.lanes old.video before v (λ k. refl) left.0),
        subst (WasGiven at.place.lane at.place.lanes new.audio)
            (sym (is_given before v (Given.tick at.rows.now moment) refl)) does.1,
      ),
    )

-- an item that brings the parts nothing leaves them as they are
by_none : {A : Type 0} → (at : LaneVisit A) (old : LaneParts A) (input : Input) (sent : List Sent)
    → ((k : ℕ) → routed_at k (visit_on at input) ≡ None) → given_at (visit_on at input) ≡ None
    → ((before : List Visit) → LeftBy at.place old before
    → sent ≡ sends_at (asker_of at) at.place.lane at.place.lanes before (visit_on at input))
    → PartsAnswer at old old input sent
by_none at old input sent none nothing is before left = (
  is before left,
  (
    stay at.place.lane at.place.lanes old.video before (visit_on at input) none left.0,
    subst (WasGiven at.place.lane at.place.lanes old.audio) (sym (not_given before (visit_on at input) nothing)) left.1,
  ),
)

pub by_note : {A : Type 0} → (at : LaneVisit A) (old : LaneParts A) (told : Told) (sent : List Sent)
    → sent
    ≡ cond (is_mine at.place.lane at.place.lanes told.block.ssrc)
    (notes (visit_on at (Input.block told)) told (member_from at.rows.now told.from)
    (stream_at told.block.ssrc old.video))
    []
    → PartsAnswer at old old (Input.block told) sent
by_note at old told sent is =
    by_none at old (Input.block told) sent (λ k. refl) refl (λ before left.
    is ∙ by before left.0 (is_mine at.place.lane at.place.lanes told.block.ssrc) refl
    ∙ sym (share_of_note at.place.lane at.place.lanes (visit_on at (Input.block told)) told
    (member_from at.rows.now told.from) (stream_of told.block.ssrc (routed told.block.ssrc before))))
  where
    says : Option StreamOf → List Sent
    says stream = notes (visit_on at (Input.block told)) told (member_from at.rows.now told.from) stream

    by : (before : List Visit) → AreLeft at.place.lane at.place.lanes old.video before → (b : Bool)
        → is_mine at.place.lane at.place.lanes told.block.ssrc ≡ b
        → cond b (says (stream_at told.block.ssrc old.video)) []
        ≡ cond b (says (stream_of told.block.ssrc (routed told.block.ssrc before))) []
    by before left true mine = ap says (left told.block.ssrc mine)
    by before left false not = refl

pub by_loss : {A : Type 0} → (at : LaneVisit A) (old : LaneParts A) (loss : Loss) (sent : List Sent)
    → sent
    ≡ cond (is_mine at.place.lane at.place.lanes loss.out_ssrc)
    (passed_up (asker_of at) (visit_on at (Input.pli loss)) loss (pli_up at.rows.now loss.from loss.out_ssrc)) []
    → PartsAnswer at old old (Input.pli loss) sent
by_loss at old loss sent is =
    let v = visit_on at (Input.pli loss) in
    by_none at old (Input.pli loss) sent (λ k. refl) refl (λ before left.
    is
    ∙ sym
    (share_of_loss at.place.lane at.place.lanes (asker_of at) v loss (pli_up at.rows.now loss.from loss.out_ssrc)))

pub by_report : {A : Type 0} → (at : LaneVisit A) (old : LaneParts A) (moment : ℕ) (sent : List Sent)
    → ((before : List Visit) → LeftBy at.place old before
    → sent
    ≡ flat_map
    (lanes_reports (asker_of at) at.place.lane at.place.lanes before (visit_on at (Input.report moment)) moment)
    at.rows.now.members)
    → PartsAnswer at old old (Input.report moment) sent
by_report at old moment sent is =
    let v = visit_on at (Input.report moment) in
    by_none at old (Input.report moment) sent (λ k. refl) refl (λ before left.
    is before left
    ∙ sym (share_of_reports at.place.lane at.place.lanes (asker_of at) before v moment at.rows.now.members))

-- the same where an answer may be refused
module _ {T E A : Type 0} (r : Result T E) (sent_in : T → List Sent) (at : LaneVisit A) where
  pub ok_by_video : (old new : LaneParts A) (input : Input) → new.audio ≡ old.audio
      → given_at (visit_on at input) ≡ None
      → IfOk r (λ x. Answers at old.video new.video input (sent_in x))
      → IfOk r (λ x. PartsAnswer at old new input (sent_in x))
  ok_by_video old new input same none = IfOk-weaker r _ _ (λ x h. by_video at old new input (sent_in x) h same none)

  pub ok_by_tick : (old new : LaneParts A) (moment : ℕ) → new.video ≡ old.video
      → IfOk r (λ x. TicksAs at old.audio new.audio moment (sent_in x))
      → IfOk r (λ x. PartsAnswer at old new (Input.tick moment) (sent_in x))
  ok_by_tick old new moment same = IfOk-weaker r _ _ (λ x h. by_tick at old new moment (sent_in x) h same)

pub ok_by_sound : {T E A : Type 0} (r : Result T E) (sent_in : T → List Sent) (at : LaneVisit A) (old new : LaneParts A)
    (sound : Sound)
    → new.video ≡ old.video
    → OnOk r (IsGiven old.audio new.audio (Given.put sound.source sound.address sound.rate sound.ts sound.samples))
    → IfOk r (λ x. sent_in x ≡ [])
    → IfOk r (λ x. PartsAnswer at old new (Input.audio sound) (sent_in x))
ok_by_sound (Ok x) sent_in at old new sound same is none =
    subst (PartsAnswer at old new (Input.audio sound)) (sym none) (by_sound at old new sound is same)
ok_by_sound (Err e) sent_in at old new sound same is none = tt

pub ok_by_report : {T E A : Type 0} (r : Result T E) (sent_in : T → List Sent) (at : LaneVisit A) (old : LaneParts A)
    (moment : ℕ)
    → ((before : List Visit) → LeftBy at.place old before
    → IfOk r (λ x.
    sent_in x
    ≡ flat_map
    (lanes_reports (asker_of at) at.place.lane at.place.lanes before (visit_on at (Input.report moment)) moment)
    at.rows.now.members))
    → IfOk r (λ x. PartsAnswer at old old (Input.report moment) (sent_in x))
ok_by_report (Ok x) sent_in at old moment h = by_report at old moment (sent_in x) h
ok_by_report (Err e) sent_in at old moment h = tt
