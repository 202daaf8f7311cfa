-- Reports count what was sent first, notes lead back to it, and lost pictures are asked for where they come from.
use Rattle.std.proofs.Common.{◌≡◌, ℕ, ℤ, suc, ◌+◌, ◌%◌, ◌^◌, Bool, true, false, cond, List, [], ◌∷◌, length, map}
use Rattle.std.proofs.Common.{Option, Some, None, refl, sym, ap, subst, ◌∙◌, arith, eqb-true}
use Rattle.std.specs.Prelude.{option_map, unwrap_or, IfSome}
use Rattle.std.specs.Option.{option_and_then}
use Rattle.std.specs.List.{flat_map, AllByRecursion, Contains}
use Rattle.std.proofs.lemmas.List.{length-map}
use Rattle.std.proofs.lemmas.List.Elements.{Contains-append_right}
use Rattle.rtp_codec.specs.declared.address.Address.{Address}
use Rattle.desk_rows.specs.declared.row.Member.{Member as MemberRow}
use Rattle.desk_rows.specs.declared.row.Slot.{Slot as SlotRow}
use Rattle.desk_rows.specs.Desk.{Desk}
use Rattle.retransmit.specs.declared.owner.Owner.{Owner}
use Rattle.retransmit.specs.SentPacket.{SentPacket}
use Rattle.retransmit.specs.Window.{window_size, latest, resend_of}
use Rattle.topology.specs.Looking.{member_at, member_from, is_this, sender_of, slot_at}
use Rattle.topology.specs.Choice.{choice}
use Rattle.topology.specs.Receivers.{slots_to}
use Rattle.forward_rewrite.specs.declared.counts.Counts.{Counts}
use Rattle.forward_rewrite.specs.Sending.{Sending, Numbered}
use Rattle.forward_rewrite.specs.Timestamps.{stamped, last_of}
use Rattle.forward_rewrite.specs.RoutedList.{Part, parts, numbered, packets_of}
use Rattle.forward_rewrite.specs.Mixes.{mix_list, mix_counts}
use Rattle.forward_rewrite.specs.laws.Laws.{IsFound, FindsEach, FindsOnlyWhatWasSent}
use Rattle.media_items.specs.OwnStreams.{is_mine}
use Rattle.mixer.specs.Mixes.{Hears, Turn, ticks_of, turns, packets_of as mixes_of, counts_of as mix_counts_of, mixes}
use Rattle.rtcp_codec.specs.Compound.{written}
use Rattle.sender_feedback.specs.Upstream.{Asker, upstream_packets}
use Rattle.receiver_feedback.specs.PassedUp.{is_of_member_at, with_address, pli_up}
use Rattle.media_items.specs.Inputs.{Input, Told, Loss}
use Rattle.bridge_core.specs.Sent.{Sent}
use Rattle.bridge_core.specs.Lanes.{Visit, Routed, given_of, routed, sendings, packets_sent, packets, stream_of, goes}
use Rattle.bridge_core.specs.Lanes.{notes, passed_up, video_counts, tells, sends_at}
use Rattle.bridge_core.specs.Steps.{Step, visits, visit_after}
use Rattle.bridge_core.specs.Named.{StreamKind, firsts}
use Rattle.bridge_core.specs.Headline.{numbered_of}
use Rattle.bridge_core.specs.Telling.{IsOwnStream, IsSenderReportOf, IsReached, IsNoteOf, IsPassedUpOf}
use Rattle.bridge_core.specs.inner.Control.{own_tells, lanes_reports}
use Rattle.bridge_core.proofs.Chosen.{all-append}
use Rattle.bridge_core.proofs.Octets.{sizes, HearFew, video_octets, mix_octets, few_turns, few_ticks}
use Rattle.bridge_core.proofs.LedBack.{Contains-map, Contains-drop}
use Rattle.bridge_core.proofs.Shares.{share_of_note, share_of_loss, share_of_reports}

-- ---- what is counted

mapped : {X Y : Type 0} (f : X → Y) (o : Option X) (y : Y) → option_map f o ≡ Some y → (x : X) × (f x ≡ y)
mapped f None y e = absurd (cc)
mapped f (Some x) y e = (x, cc)

length-numbered : (k n : ℕ) (ps : List Part) → length (numbered k n ps) ≡ length ps
length-numbered k n [] = refl
length-numbered k n (p ∷ ps) = ap suc (length-numbered k (n + 1) ps)

-- these counts are of a stream of this SSRC that has sent these packets
record Counted (counts : Counts) (k : ℕ) (sent : List Numbered) : Type 0 where
  pub ssrc : counts.ssrc ≡ k
  pub packets : counts.packets ≡ length sent % 2 ^ 32
  pub octets : counts.octets ≡ sizes sent % 2 ^ 32

video_counted : (k : ℕ) (rs : List Routed) (counts : Counts) → video_counts k rs ≡ Some counts
    → Counted counts k (map numbered_of (map (goes k None) (packets_sent k rs)))
video_counted k [] counts e = absurd (cc)
video_counted k (r ∷ rs) counts e =
    let all = parts (stamped r.slot.first_ts (sendings (r ∷ rs))) in
    let sent = map (goes k None) (numbered k r.slot.first_seq all) in
    let there = mapped _ (last_of (stamped r.slot.first_ts (sendings (r ∷ rs)))) counts e in
    record {
      ssrc = sym (ap (λ (c : Counts). c.ssrc) there.1);
      packets = sym (ap (λ (c : Counts). c.packets) there.1)
          ∙ ap (λ n. n % 2 ^ 32) (sym (length-map sent numbered_of
          ∙ length-map (numbered k r.slot.first_seq all) (goes k None)
          ∙ length-numbered k r.slot.first_seq all));
      octets =
          sym (ap (λ (c : Counts). c.octets) there.1)
          ∙ ap (λ n. n % 2 ^ 32) (sym (video_octets k r.slot.first_seq all));
    }

mix_counted : (k : ℕ) (ts : List Turn) (counts : Counts) → HearFew ts → mix_counts_of k ts ≡ Some counts
    → Counted counts k (mixes_of k ts)
mix_counted k [] counts few e = absurd (cc)
mix_counted k (t ∷ ts) counts few e = by (mix_counted k ts counts few.1) t.heard e
  where
    by : (mix_counts_of k ts ≡ Some counts → Counted counts k (mixes_of k ts)) → (o : Option Hears)
        → unwrap_or (option_map (λ h. mix_counts k h.member.first_seq h.member.first_ts (ticks_of (t ∷ ts))) o)
        (mix_counts_of k ts)
        ≡ Some counts
        → Counted counts k (unwrap_or
        (option_map (λ h. mix_list k h.member.first_seq h.member.first_ts (ticks_of (t ∷ ts))) o) (mixes_of k ts))
    by rest None e = rest e
    by rest (Some h) e =
        let there = mapped _ _ counts e in
        record {
          ssrc = sym (ap (λ (c : Counts). c.ssrc) there.1);
          packets = sym (ap (λ (c : Counts). c.packets) there.1);
          octets =
              sym (ap (λ (c : Counts). c.octets) there.1)
              ∙ ap (λ n. n % 2 ^ 32)
              (sym (mix_octets k h.member.first_seq h.member.first_ts (ticks_of (t ∷ ts)) (few_ticks 0 (t ∷ ts) few)));
        }

-- ---- sender reports

all_flat : {X Y : Type 0} (P : Y → Type 0) (f : X → List Y) (xs : List X)
    → ((x : X) → Contains xs x → AllByRecursion P (f x)) → AllByRecursion P (flat_map f xs)
all_flat P f [] each = tt
all_flat P f (x ∷ xs) each =
    all-append P (f x) (flat_map f xs) (each x (0, omega arith, refl))
    (all_flat P f xs (λ y h. each y (Contains-append_right (x ∷ []) xs y h)))

module _ (who : Asker) (lanes lane : ℕ) (start : Desk) (before : List Step) where
  module _ (moment : ℕ) where
    abbrev at : Visit
    at = visit_after start before lane (Input.report moment)

    abbrev Is : Sent → Type 0
    Is sent = IsSenderReportOf who lanes start before at moment sent

    -- the counts are of all that was sent first on the lane's stream
    abbrev CountsFirsts : StreamKind → ℕ → Option Counts → Type 0
    CountsFirsts kind k o =
        is_mine lane lanes k ≡ true → (counts : Counts) → o ≡ Some counts
        → Counted counts k (map numbered_of (firsts who lanes start (record { kind = kind; ssrc = k }) before))

    one_stream : (m : MemberRow) → Contains at.desk.members m → (kind : StreamKind) (k : ℕ)
        → IsOwnStream at.desk m kind k → (o : Option Counts) → CountsFirsts kind k o
        → AllByRecursion Is (own_tells who lane lanes at moment m k o)
    one_stream m there kind k own o counted = by (is_mine lane lanes k) refl
      where
        told : is_mine lane lanes k ≡ true → (p : Option Counts) → o ≡ p → AllByRecursion Is (tells who at moment m k p)
        told mine None e = tt
        told mine (Some counts) e =
            let c = counted mine counts e in (
              record {
                version = refl;
                item = refl;
                member = m;
                of_desk = there;
                to = refl;
                kind = kind;
                own = own;
                counts = counts;
                bytes = refl;
                ssrc = c.ssrc;
                packets =
                    c.packets
                    ∙ ap (λ n. n % 2 ^ 32)
                    (length-map (firsts who lanes start (record { kind = kind; ssrc = k }) before) numbered_of);
                octets = c.octets;
              },
              tt,
            )

        by : (b : Bool) → is_mine lane lanes k ≡ b → AllByRecursion Is (cond b (tells who at moment m k o) [])
        by false e = tt
        by true e = told e o refl

    module _ (videos : (k : ℕ)
        → firsts who lanes start (record { kind = StreamKind.video; ssrc = k }) before
        ≡ map (goes k None) (packets k (visits (k % lanes) start before)))
        (audios : (k : ℕ)
        → map numbered_of (firsts who lanes start (record { kind = StreamKind.mix; ssrc = k }) before)
        ≡ mixes k (given_of (visits (k % lanes) start before))) where
      video_firsts : (k : ℕ) → CountsFirsts StreamKind.video k (video_counts k (routed k (visits lane start before)))
      video_firsts k mine counts e =
          let all =
          videos k ∙ ap (λ j. map (goes k None) (packets k (visits j start before))) (eqb-true (k % lanes) lane mine) in
          subst (λ (es : List Sent). Counted counts k (map numbered_of es)) (sym all)
          (video_counted k (routed k (visits lane start before)) counts e)

      mix_firsts : (k : ℕ)
          → CountsFirsts StreamKind.mix k (mix_counts_of k (turns k (given_of (visits lane start before))))
      mix_firsts k mine counts e =
          let past = given_of (visits lane start before) in
          let all = audios k ∙ ap (λ j. mixes k (given_of (visits j start before))) (eqb-true (k % lanes) lane mine) in
          subst (Counted counts k) (sym all) (mix_counted k (turns k past) counts (few_turns k past) e)

      one_member : (m : MemberRow) → Contains at.desk.members m
          → AllByRecursion Is (lanes_reports who lane lanes (visits lane start before) at moment m)
      one_member m there =
          let past = visits lane start before in
          all-append Is (own_tells who lane lanes at moment m m.out_audio
          (mix_counts_of m.out_audio (turns m.out_audio (given_of past))))
          (flat_map
          (λ s. own_tells who lane lanes at moment m s.out_ssrc (video_counts s.out_ssrc (routed s.out_ssrc past)))
          (slots_to at.desk m.member))
          (one_stream m there StreamKind.mix m.out_audio refl _ (mix_firsts m.out_audio))
          (all_flat Is
          (λ s. own_tells who lane lanes at moment m s.out_ssrc (video_counts s.out_ssrc (routed s.out_ssrc past)))
          (slots_to at.desk m.member)
          (λ s its. one_stream m there StreamKind.video s.out_ssrc (s, its, refl) _ (video_firsts s.out_ssrc)))

      pub all_count_firsts : AllByRecursion Is (sends_at who lane lanes (visits lane start before) at)
      all_count_firsts =
          subst (AllByRecursion Is)
          (sym (share_of_reports lane lanes who (visits lane start before) at moment at.desk.members))
          (all_flat Is (lanes_reports who lane lanes (visits lane start before) at moment) at.desk.members one_member)

  -- ---- notes

  -- the source's packet that a packet carried
  abbrev carried : SentPacket → ℕ × ℤ
  carried p = (p.source, p.ext)

  module _ (told : Told) where
    abbrev noted : Visit
    noted = visit_after start before lane (Input.block told)

    abbrev k : ℕ
    k = told.block.ssrc

    abbrev Notes : Sent → Type 0
    Notes sent = IsNoteOf who lanes start before lane noted told sent

    abbrev past : List Routed
    past = routed k (visits lane start before)

    module _ (found : (ssrc first_seq first_ts : ℕ) (ss : List Sending)
        → FindsOnlyWhatWasSent (packets_of ssrc first_seq first_ts ss))
        (each : (ssrc first_seq first_ts : ℕ) (ss : List Sending) → FindsEach (packets_of ssrc first_seq first_ts ss))
        (list : firsts who lanes start (record { kind = StreamKind.video; ssrc = k }) before
        ≡ map (goes k None) (packets k (visits lane start before))) where
      abbrev Reaches : Owner → SentPacket → Type 0
      Reaches owner p = IsReached who lanes start before lane told.block owner p

      module _ (owner : Owner) where
        number : ℕ
        number = told.block.highest % 2 ^ 16

        reaches : (p : SentPacket)
            → IsFound (told.block.highest % 2 ^ 16) owner (latest window_size (packets_sent k past)) p → Reaches owner p
        reaches p is = record {
          number = is.number_is;
          its_owner = is.owner_is;
          sent_before =
              subst (λ es. Contains es (goes k None p)) (sym list)
              (Contains-map (goes k None) (packets_sent k past) p (Contains-drop _ (packets_sent k past) p is.there));
          recent = is.there;
        }

        it_is : (rs : List Routed) → past ≡ rs → (o : Option SentPacket)
            → resend_of (told.block.highest % 2 ^ 16) owner (latest window_size (packets_sent k rs)) ≡ o
            → IfSome (option_map carried o) (λ s. (p : SentPacket) × (carried p ≡ s) × Reaches owner p)
        it_is rs same None e = tt
        it_is [] same (Some p) e = absurd (cc)
        it_is (r ∷ rs) same (Some p) e =
            let is =
            found k r.slot.first_seq r.slot.first_ts (sendings (r ∷ rs)) (told.block.highest % 2 ^ 16) owner p e in (
              p,
              refl,
              reaches p (subst
                  (λ (qs : List Routed).
                  IsFound (told.block.highest % 2 ^ 16) owner (latest window_size (packets_sent k qs)) p)
                  (sym same) is),
            )

        found_again : (rs : List Routed) (p : SentPacket) → Contains (latest window_size (packets_sent k rs)) p
            → resend_of p.number p.owner (latest window_size (packets_sent k rs)) ≡ Some p
        found_again [] p there = absurd (omega (arith, there.1))
        found_again (r ∷ rs) p there = each k r.slot.first_seq r.slot.first_ts (sendings (r ∷ rs)) p there

        none_else : option_map carried
            (resend_of (told.block.highest % 2 ^ 16) owner (latest window_size (packets_sent k past)))
            ≡ None
            → (p : SentPacket) → Reaches owner p → ⊥
        none_else none p is =
            let window = latest window_size (packets_sent k past) in
            let again : resend_of (told.block.highest % 2 ^ 16) owner window ≡ Some p =
            ap (λ n. resend_of n owner window) (sym is.number)
            ∙ ap (λ (o : Owner). resend_of p.number o window) (sym is.its_owner)
            ∙ found_again past p is.recent in
            absurd (let there = sym none ∙ ap (option_map carried) again in cc)

      told_of : (rs : List Routed) → past ≡ rs → (member : ℕ) → member_from noted.desk told.from ≡ Some member
          → AllByRecursion Notes (notes noted told (Some member) (stream_of k rs))
      told_of [] same member is_from = tt
      told_of (r ∷ rs) same member is_from =
          let owner : Owner = record { member = member; address = told.from } in
          let window : List Routed → List SentPacket = λ qs. latest window_size (packets_sent k qs) in (
            record {
              version = refl;
              item = refl;
              from = refl;
              member = member;
              at = is_from;
              ssrc = refl;
              fraction = refl;
              lost = refl;
              reached =
                  it_is owner (r ∷ rs) same (resend_of (told.block.highest % 2 ^ 16) owner (window (r ∷ rs))) refl;
              unreached =
                  subst
                  (λ (qs : List Routed).
                  option_map carried (resend_of (told.block.highest % 2 ^ 16) owner (window qs)) ≡ None
                  → (p : SentPacket)
                  → Reaches owner p → ⊥)
                  same (none_else owner);
            },
            tt,
          )

      told_by : (o : Option ℕ) → member_from noted.desk told.from ≡ o
          → AllByRecursion Notes (notes noted told o (stream_of k past))
      told_by None e = tt
      told_by (Some member) e = told_of past refl member e

    pub all_notes_lead : ((ssrc first_seq first_ts : ℕ) (ss : List Sending)
        → FindsOnlyWhatWasSent (packets_of ssrc first_seq first_ts ss))
        → ((ssrc first_seq first_ts : ℕ) (ss : List Sending) → FindsEach (packets_of ssrc first_seq first_ts ss))
        → firsts who lanes start (record { kind = StreamKind.video; ssrc = k }) before
        ≡ map (goes k None) (packets k (visits (k % lanes) start before))
        → AllByRecursion Notes (sends_at who lane lanes (visits lane start before) noted)
    all_notes_lead found each list =
        let from = member_from noted.desk told.from in
        subst (AllByRecursion Notes) (sym (share_of_note lane lanes noted told from (stream_of k past)))
        (by (is_mine lane lanes k) refl)
      where
        by : (b : Bool) → is_mine lane lanes k ≡ b
            → AllByRecursion Notes (cond b (notes noted told (member_from noted.desk told.from) (stream_of k past)) [])
        by false e = tt
        by true e =
            told_by found each
            (list ∙ ap (λ j. map (goes k None) (packets k (visits j start before))) (eqb-true (k % lanes) lane e))
            (member_from noted.desk told.from) refl

  -- ---- lost pictures

  module _ (loss : Loss) where
    abbrev asked : Visit
    asked = visit_after start before lane (Input.pli loss)

    abbrev PassesUp : Sent → Type 0
    PassesUp sent = IsPassedUpOf who asked loss sent

    this_one : (n : ℕ) (o : Option ℕ) → is_this n o ≡ true → o ≡ Some n
    this_one n None e = absurd (cc)
    this_one n (Some m) e = ap Some (eqb-true m n e)

    to_sender : (source : ℕ) (up : Address × ℕ) → with_address asked.desk source ≡ Some up
        → (m : MemberRow) × (option_and_then (member_at asked.desk) (sender_of asked.desk source) ≡ Some m)
        × (up ≡ (m.address, source))
    to_sender source up e = by (option_and_then (member_at asked.desk) (sender_of asked.desk source)) refl e
      where
        by : (o : Option MemberRow) → option_and_then (member_at asked.desk) (sender_of asked.desk source) ≡ o
            → option_map (λ (m : MemberRow). (m.address, source)) o ≡ Some up
            → (m : MemberRow) × (option_and_then (member_at asked.desk) (sender_of asked.desk source) ≡ Some m)
            × (up ≡ (m.address, source))
        by None its e = absurd (cc)
        by (Some m) its e = (m, its, cc)

    of_slot : (slot : SlotRow) → slot_at asked.desk loss.out_ssrc ≡ Some slot
        → is_this slot.member (member_from asked.desk loss.from) ≡ true → (up : Address × ℕ)
        → option_and_then (with_address asked.desk) (choice asked.desk loss.out_ssrc) ≡ Some up
        → AllByRecursion PassesUp (passed_up who asked loss (Some up))
    of_slot slot its asks up e = by (choice asked.desk loss.out_ssrc) refl e
      where
        by : (o : Option ℕ) → choice asked.desk loss.out_ssrc ≡ o
            → option_and_then (with_address asked.desk) o ≡ Some up
            → AllByRecursion PassesUp (passed_up who asked loss (Some up))
        by None chosen e = absurd (cc)
        by (Some source) chosen e =
            let s = to_sender source up e in (
              record {
                version = refl;
                item = refl;
                ssrc = refl;
                slot = slot;
                its_slot = its;
                asks = this_one slot.member (member_from asked.desk loss.from) asks;
                source = source;
                chosen = chosen;
                sender = s.0;
                its_sender = s.1;
                to = ap (λ (u : Address × ℕ). u.0) s.2;
                bytes = ap (λ (u : Address × ℕ). written (upstream_packets who u.1 [] true)) s.2;
              },
              tt,
            )

    up_by : (up : Option (Address × ℕ)) → pli_up asked.desk loss.from loss.out_ssrc ≡ up
        → AllByRecursion PassesUp (passed_up who asked loss up)
    up_by None e = tt
    up_by (Some up) e = by (slot_at asked.desk loss.out_ssrc) refl e
      where
        by : (o : Option SlotRow) → slot_at asked.desk loss.out_ssrc ≡ o
            → cond (is_of_member_at asked.desk loss.from o)
            (option_and_then (with_address asked.desk) (choice asked.desk loss.out_ssrc)) None
            ≡ Some up
            → AllByRecursion PassesUp (passed_up who asked loss (Some up))
        by None its e = absurd (cc)
        by (Some slot) its e = asks (is_this slot.member (member_from asked.desk loss.from)) refl e
          where
            asks : (b : Bool) → is_this slot.member (member_from asked.desk loss.from) ≡ b
                → cond b (option_and_then (with_address asked.desk) (choice asked.desk loss.out_ssrc)) None ≡ Some up
                → AllByRecursion PassesUp (passed_up who asked loss (Some up))
            asks false is e = absurd (cc)
            asks true is e = of_slot slot its is up e

    pub all_passed_up : AllByRecursion PassesUp (sends_at who lane lanes (visits lane start before) asked)
    all_passed_up =
        subst (AllByRecursion PassesUp)
        (sym (share_of_loss lane lanes who asked loss (pli_up asked.desk loss.from loss.out_ssrc)))
        (by (is_mine lane lanes loss.out_ssrc))
      where
        by : (b : Bool)
            → AllByRecursion PassesUp (cond b (passed_up who asked loss (pli_up asked.desk loss.from loss.out_ssrc)) [])
        by false = tt
        by true = up_by (pli_up asked.desk loss.from loss.out_ssrc) refl
