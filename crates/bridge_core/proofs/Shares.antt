-- Of what goes by RTCP, a lane's share.
use Rattle.std.proofs.Common.{◌≡◌, ℕ, true, false, cond, List, [], ◌∷◌, ◌++◌, Option, Some, None, refl, ap, ◌∙◌}
use Rattle.std.specs.Prelude.{filter}
use Rattle.std.specs.List.{flat_map, AllByRecursion}
use Rattle.std.proofs.lemmas.List.Elements.{filter-append}
use Rattle.rtp_codec.specs.declared.address.Address.{Address}
use Rattle.desk_rows.specs.declared.row.Member.{Member as MemberRow}
use Rattle.desk_rows.specs.declared.row.Slot.{Slot as SlotRow}
use Rattle.desk_rows.specs.Desk.{Desk}
use Rattle.topology.specs.Looking.{member_from}
use Rattle.topology.specs.Receivers.{slots_to}
use Rattle.forward_rewrite.specs.declared.counts.Counts.{Counts}
use Rattle.forward_rewrite.specs.Streams.{StreamOf}
use Rattle.media_items.specs.OwnStreams.{is_mine}
use Rattle.mixer.specs.Mixes.{turns, counts_of as mix_counts_of}
use Rattle.sender_feedback.specs.Upstream.{Asker}
use Rattle.receiver_feedback.specs.PassedUp.{pli_up}
use Rattle.media_items.specs.Inputs.{Input, Told, Loss}
use Rattle.bridge_core.specs.Sent.{Sent, about}
use Rattle.bridge_core.specs.Lanes.{Visit, given_of, routed, stream_of, video_counts, notes, passed_up, tells}
use Rattle.bridge_core.specs.Lanes.{reports_to, is_lanes}
use Rattle.bridge_core.specs.Steps.{Step, visits, visit_after}
use Rattle.bridge_core.specs.WholeRuns.{sent_after}
use Rattle.bridge_core.specs.inner.Control.{own_tells, lanes_reports}

-- what is all about one stream is a lane's all together or not at all
pub share_all : (lane lanes k : ℕ) (es : List Sent) → AllByRecursion (λ e. about e ≡ k) es
    → filter (is_lanes lane lanes) es ≡ cond (is_mine lane lanes k) es []
share_all lane lanes k [] all =
    elim (is_mine lane lanes k) as (λ b. ◌≡◌ {A = List Sent} [] (cond b [] [])) [ true ↦ refl | false ↦ refl ]
share_all lane lanes k (e ∷ es) all =
    let left = filter (is_lanes lane lanes) es in
    ap (λ n. cond (is_mine lane lanes n) (e ∷ left) left) all.0
    ∙ ap (λ xs. cond (is_mine lane lanes k) (e ∷ xs) xs) (share_all lane lanes k es all.1)
    ∙ (elim (is_mine lane lanes k) as (λ b. cond b (e ∷ cond b es []) (cond b es []) ≡ cond b (e ∷ es) [])
    [ true ↦ refl | false ↦ refl ])

notes_on : (visit : Visit) (told : Told) (member : Option ℕ) (stream : Option StreamOf)
    → AllByRecursion (λ e. about e ≡ told.block.ssrc) (notes visit told member stream)
notes_on visit told None stream = tt
notes_on visit told (Some member) None = tt
notes_on visit told (Some member) (Some stream) = (refl, tt)

losses_on : (who : Asker) (visit : Visit) (loss : Loss) (up : Option (Address × ℕ))
    → AllByRecursion (λ e. about e ≡ loss.out_ssrc) (passed_up who visit loss up)
losses_on who visit loss None = tt
losses_on who visit loss (Some up) = (refl, tt)

tells_on : (who : Asker) (visit : Visit) (moment : ℕ) (m : MemberRow) (ssrc : ℕ) (counts : Option Counts)
    → AllByRecursion (λ e. about e ≡ ssrc) (tells who visit moment m ssrc counts)
tells_on who visit moment m ssrc None = tt
tells_on who visit moment m ssrc (Some counts) = (refl, tt)

pub share_of_note : (lane lanes : ℕ) (visit : Visit) (told : Told) (member : Option ℕ) (stream : Option StreamOf)
    → filter (is_lanes lane lanes) (notes visit told member stream)
    ≡ cond (is_mine lane lanes told.block.ssrc) (notes visit told member stream) []
share_of_note lane lanes visit told member stream =
    share_all lane lanes told.block.ssrc (notes visit told member stream) (notes_on visit told member stream)

pub share_of_loss : (lane lanes : ℕ) (who : Asker) (visit : Visit) (loss : Loss) (up : Option (Address × ℕ))
    → filter (is_lanes lane lanes) (passed_up who visit loss up)
    ≡ cond (is_mine lane lanes loss.out_ssrc) (passed_up who visit loss up) []
share_of_loss lane lanes who visit loss up =
    share_all lane lanes loss.out_ssrc (passed_up who visit loss up) (losses_on who visit loss up)

module _ (lane lanes : ℕ) (who : Asker) (before : List Visit) (visit : Visit) (moment : ℕ) where
  abbrev told : MemberRow → SlotRow → List Sent
  told m s = tells who visit moment m s.out_ssrc (video_counts s.out_ssrc (routed s.out_ssrc before))

  abbrev own : MemberRow → SlotRow → List Sent
  own m s = own_tells who lane lanes visit moment m s.out_ssrc (video_counts s.out_ssrc (routed s.out_ssrc before))

  one_share : (m : MemberRow) (ssrc : ℕ) (counts : Option Counts)
      → filter (is_lanes lane lanes) (tells who visit moment m ssrc counts)
      ≡ own_tells who lane lanes visit moment m ssrc counts
  one_share m ssrc counts =
      share_all lane lanes ssrc (tells who visit moment m ssrc counts) (tells_on who visit moment m ssrc counts)

  slots_share : (m : MemberRow) (slots : List SlotRow)
      → filter (is_lanes lane lanes) (flat_map (told m) slots) ≡ flat_map (own m) slots
  slots_share m [] = refl
  slots_share m (s ∷ slots) =
      filter-append (is_lanes lane lanes) (told m s) (flat_map (told m) slots)
      ∙ ap (λ es. es ++ filter (is_lanes lane lanes) (flat_map (told m) slots))
      (one_share m s.out_ssrc (video_counts s.out_ssrc (routed s.out_ssrc before)))
      ∙ ap (λ es. own m s ++ es) (slots_share m slots)

  member_share : (m : MemberRow)
      → filter (is_lanes lane lanes) (reports_to who before visit moment m)
      ≡ lanes_reports who lane lanes before visit moment m
  member_share m =
      let counts = mix_counts_of m.out_audio (turns m.out_audio (given_of before)) in
      let slots = slots_to visit.desk m.member in
      filter-append (is_lanes lane lanes) (tells who visit moment m m.out_audio counts) (flat_map (told m) slots)
      ∙ ap (λ es. es ++ filter (is_lanes lane lanes) (flat_map (told m) slots)) (one_share m m.out_audio counts)
      ∙ ap (λ es. own_tells who lane lanes visit moment m m.out_audio counts ++ es) (slots_share m slots)

  pub share_of_reports : (ms : List MemberRow)
      → filter (is_lanes lane lanes) (flat_map (reports_to who before visit moment) ms)
      ≡ flat_map (lanes_reports who lane lanes before visit moment) ms
  share_of_reports [] = refl
  share_of_reports (m ∷ ms) =
      filter-append (is_lanes lane lanes) (reports_to who before visit moment m)
      (flat_map (reports_to who before visit moment) ms)
      ∙ ap (λ es. es ++ filter (is_lanes lane lanes) (flat_map (reports_to who before visit moment) ms))
      (member_share m)
      ∙ ap (λ es. lanes_reports who lane lanes before visit moment m ++ es) (share_of_reports ms)

pub note_share : (who : Asker) (lanes lane : ℕ) (start : Desk) (before : List Step) (told : Told)
    → sent_after who lanes start before lane (Input.block told)
    ≡ cond (is_mine lane lanes told.block.ssrc)
    (notes (visit_after start before lane (Input.block told)) told
    (member_from (visit_after start before lane (Input.block told)).desk told.from)
    (stream_of told.block.ssrc (routed told.block.ssrc (visits lane start before))))
    []
note_share who lanes lane start before told =
    let visit = visit_after start before lane (Input.block told) in
    share_of_note lane lanes visit told (member_from visit.desk told.from)
    (stream_of told.block.ssrc (routed told.block.ssrc (visits lane start before)))

pub loss_share : (who : Asker) (lanes lane : ℕ) (start : Desk) (before : List Step) (loss : Loss)
    → sent_after who lanes start before lane (Input.pli loss)
    ≡ cond (is_mine lane lanes loss.out_ssrc)
    (passed_up who (visit_after start before lane (Input.pli loss)) loss
    (pli_up (visit_after start before lane (Input.pli loss)).desk loss.from loss.out_ssrc))
    []
loss_share who lanes lane start before loss =
    let visit = visit_after start before lane (Input.pli loss) in
    share_of_loss lane lanes who visit loss (pli_up visit.desk loss.from loss.out_ssrc)
