-- What is sent again was sent before.
use Rattle.std.proofs.Common.{◌≡◌, ℕ, ◌-◌, ◌%◌, Bool, true, false, cond, List, [], ◌∷◌, map, drop, length, Some, None}
use Rattle.std.proofs.Common.{refl, sym, ap, subst, ◌∙◌, eqb-true}
use Rattle.std.specs.List.{AllByRecursion, Contains}
use Rattle.std.proofs.lemmas.List.{length-map, drop-map}
use Rattle.desk_rows.specs.Desk.{Desk}
use Rattle.retransmit.specs.SentPacket.{SentPacket}
use Rattle.retransmit.specs.Window.{window_size, latest}
use Rattle.media_items.specs.OwnStreams.{is_mine}
use Rattle.media_items.specs.Inputs.{Input, Request}
use Rattle.sender_feedback.specs.Upstream.{Asker}
use Rattle.bridge_core.specs.Sent.{Sent}
use Rattle.bridge_core.specs.Lanes.{packets, goes}
use Rattle.bridge_core.specs.Steps.{Step, visits, visit_after}
use Rattle.bridge_core.specs.Headline.{LeadsBack}
use Rattle.bridge_core.specs.WholeRuns.{sent_after, IsAskedAgain}
use Rattle.bridge_core.proofs.LedBack.{Contains-map, Contains-drop}
use Rattle.bridge_core.proofs.Carried.{AllStamped, element}
use Rattle.plain_laws.specs.SentLists.{first_sent}
use Rattle.plain_laws.specs.SentAgain.{newest_of, video, member_of_slot, desk_of_version, IsSentAgain}
use Rattle.plain_laws.proofs.Versions.{visits_have}
use Rattle.plain_laws.proofs.Owners.{all_went}

-- one list alone
pub one_alone : (xs ys : List Sent) → xs ∷ [] ≡ ys ∷ [] → xs ≡ ys
one_alone xs ys e = cc

-- the last packets, as they go
newest_go : (k n : ℕ) (ps : List SentPacket) → newest_of n (map (goes k None) ps) ≡ map (goes k None) (latest n ps)
newest_go k n ps =
    ap (λ m. drop (m - n) (map (goes k None) ps)) (length-map ps (goes k None))
    ∙ drop-map (goes k None) (length ps - n) ps

-- nothing is given where it isn't asked for
none_given : (b : Bool) (xs ys : List Sent) → b ≡ false → ys ≡ cond b xs [] → ys ≡ []
none_given b xs ys e given = given ∙ ap (λ (c : Bool). cond c xs []) e

all_so : {X : Type 0} (P Q : X → Type 0) → ((x : X) → P x → Q x) → (xs : List X) → AllByRecursion P xs
    → AllByRecursion Q xs
all_so P Q so [] all = tt
all_so P Q so (x ∷ xs) all = (so x all.0, all_so P Q so xs all.1)

module _ (same_frames : AllStamped) (who : Asker) (lanes lane : ℕ) (start : Desk) (before : List Step)
    (request : Request) (sent : List (List Sent)) where
  abbrev k : ℕ
  k = request.out_ssrc

  abbrev Leads : Sent → Type 0
  Leads s = LeadsBack who lanes start before lane (visit_after start before lane (Input.nack request)) request s

  one : first_sent (video k) before sent ≡ map (goes k None) (packets k (visits lane start before))
      → (s : Sent) → Leads s → IsSentAgain start before sent request s
  one list s leads =
      let p = leads.packet in
      let owed = leads.owed in
      let there = Contains-drop _ (packets k (visits lane start before)) p owed.recent in
      let went =
      element _ (packets k (visits lane start before)) p (all_went k (visits lane start before) same_frames) there in
      record {
        packet = record {
          version = p.version;
          item = p.item;
          to = p.owner.address;
          ssrc = k;
          number = p.number;
          bytes = p.bytes;
          resent_by = None;
        };
        same = leads.same;
        recent =
            subst (λ (all : List Sent). Contains all (goes k None p))
            (sym (ap (newest_of window_size) list ∙ newest_go k window_size (packets k (visits lane start before))))
            (Contains-map (goes k None) (latest window_size (packets k (visits lane start before))) p owed.recent);
        asked = owed.asked;
        address = owed.address;
        member = p.owner.member;
        went =
            subst (λ (d : Desk). member_of_slot d k ≡ Some p.owner.member)
            (sym (ap (desk_of_version start before) went.version
            ∙ visits_have lane start [] before went.visit went.handled))
            went.slot;
        asks = owed.member;
      }

  -- in another lane nothing is sent for it
  unasked : IsAskedAgain who lanes start before lane request → is_mine lane lanes k ≡ false
      → sent_after who lanes start before lane (Input.nack request) ≡ []
  unasked again e = none_given (is_mine lane lanes k) _ _ e again.given

  -- all that is sent for a NACK was sent before
  pub all_sent_before : first_sent (video k) before sent
      ≡ map (goes k None) (packets k (visits (k % lanes) start before))
      → IsAskedAgain who lanes start before lane request
      → AllByRecursion (IsSentAgain start before sent request)
      (sent_after who lanes start before lane (Input.nack request))
  all_sent_before list again = by (is_mine lane lanes k) refl
    where
      by : (b : Bool) → is_mine lane lanes k ≡ b
          → AllByRecursion (IsSentAgain start before sent request)
          (sent_after who lanes start before lane (Input.nack request))
      by false e =
          subst (AllByRecursion (IsSentAgain start before sent request)) (sym (unasked again e)) tt
      by true e =
          all_so Leads (IsSentAgain start before sent request)
          (one (list ∙ ap (λ j. map (goes k None) (packets k (visits j start before))) (eqb-true (k % lanes) lane e)))
          (sent_after who lanes start before lane (Input.nack request)) again.each
