-- What is sent again was sent before, and all that is owed is sent again.
use Rattle.std.proofs.Common.{◌≡◌, ℕ, ◌%◌, zero, suc, Bool, true, false, cond, not, nat_eq, List, [], ◌∷◌, map, drop}
use Rattle.std.proofs.Common.{Option, Some, None, refl, sym, ap, subst, ◌∙◌, arith, inl, inr, eqb-true}
use Rattle.std.specs.Prelude.{filter}
use Rattle.std.specs.List.{filter_map, cons_option, AllByRecursion, Contains, IsDistinct}
use Rattle.std.proofs.lemmas.Bool.{cases_eq}
use Rattle.std.proofs.lemmas.Bool.Decides.{nat_tests}
use Rattle.std.proofs.lemmas.List.{take-append-drop, get_or-map, length-map}
use Rattle.std.proofs.lemmas.List.Elements.{Contains-append_right}
use Rattle.std.proofs.lemmas.Map.Keys.{IsDistinct-cons, IsDistinct-head, IsDistinct-tail}
use Rattle.std.proofs.lemmas.Map.Made.{Contains-tail}
use Rattle.rtp_codec.specs.declared.address.Address.{Address}
use Rattle.desk_rows.specs.Desk.{Desk}
use Rattle.retransmit.specs.declared.owner.Owner.{Owner}
use Rattle.retransmit.specs.SentPacket.{SentPacket}
use Rattle.retransmit.specs.Window.{window_size, latest, resend_of}
use Rattle.forward_rewrite.specs.Sending.{Sending}
use Rattle.forward_rewrite.specs.RoutedList.{packets_of}
use Rattle.forward_rewrite.specs.laws.Laws.{IsFound, FindsEach}
use Rattle.topology.specs.Looking.{member_from}
use Rattle.receiver_feedback.specs.Resends.{resends_to, resends, firsts as each_once}
use Rattle.media_items.specs.OwnStreams.{is_mine}
use Rattle.media_items.specs.Inputs.{Input, Request}
use Rattle.sender_feedback.specs.Upstream.{Asker}
use Rattle.bridge_core.specs.Sent.{Sent}
use Rattle.bridge_core.specs.Lanes.{Visit, Routed, routed, sendings, packets_sent, packets, goes, is_lanes}
use Rattle.bridge_core.specs.Steps.{Step, visits, visit_after}
use Rattle.bridge_core.specs.Named.{StreamKind, firsts}
use Rattle.bridge_core.specs.Headline.{IsOwed, LeadsBack, numbers}
use Rattle.bridge_core.specs.WholeRuns.{sent_after, IsAskedAgain}
use Rattle.bridge_core.proofs.OnStreams.{all_or_none}
use Rattle.bridge_core.proofs.Carried.{AllStamped, element, all_carry}

pub Contains-map : {X Y : Type 0} (f : X → Y) (xs : List X) (x : X) → Contains xs x → Contains (map f xs) (f x)
Contains-map f xs x h = (h.0, omega (arith, h.1, length-map xs f), get_or-map f xs h.0 x (f x) h.1 ∙ ap f h.2)

pub Contains-drop : {X : Type 0} (n : ℕ) (xs : List X) (x : X) → Contains (drop n xs) x → Contains xs x
Contains-drop n xs x h = subst (λ ys. Contains ys x) (take-append-drop n xs) (Contains-append_right _ (drop n xs) x h)

-- ---- numbers that are asked for, each at its first place

-- what passes a test stays
kept : {X : Type 0} (test : X → Bool) (xs : List X) (x : X) → test x ≡ true → Contains xs x
    → Contains (filter test xs) x
kept test [] x pass h = absurd (omega (arith, h.1))
kept test (y ∷ ys) x pass (zero, low, is) =
    let yes : test y ≡ true = ap test is ∙ pass in
    subst (λ b. Contains (cond b (y ∷ filter test ys) (filter test ys)) x) (sym yes) (0, omega arith, is)
kept test (y ∷ ys) x pass (suc k, low, is) =
    let rest = kept test ys x pass (k, omega (arith, low), is) in
    elim (test y) as (λ b. Contains (cond b (y ∷ filter test ys) (filter test ys)) x)
    [ true ↦ Contains-append_right (y ∷ []) (filter test ys) x rest | false ↦ rest ]

-- what stays was there
was_there : {X : Type 0} (test : X → Bool) (xs : List X) (x : X) → Contains (filter test xs) x → Contains xs x
was_there test [] x h = h
was_there test (y ∷ ys) x h = by (test y) (was_there test ys x) h
  where
    by : (b : Bool) → (Contains (filter test ys) x → Contains ys x)
        → Contains (cond b (y ∷ filter test ys) (filter test ys)) x → Contains (y ∷ ys) x
    by true rest (zero, low, is) = (0, omega arith, is)
    by true rest (suc k, low, is) = Contains-append_right (y ∷ []) ys x (rest (k, omega (arith, low), is))
    by false rest h = Contains-append_right (y ∷ []) ys x (rest h)

-- what is found stays
found_there : {X Y : Type 0} (f : X → Option Y) (xs : List X) (x : X) (y : Y) → f x ≡ Some y → Contains xs x
    → Contains (filter_map f xs) y
found_there f [] x y e h = absurd (omega (arith, h.1))
found_there f (z ∷ zs) x y e (zero, low, is) =
    let at : f z ≡ Some y = ap f is ∙ e in
    subst (λ o. Contains (cons_option o (filter_map f zs)) y) (sym at) (0, omega arith, refl)
found_there f (z ∷ zs) x y e (suc k, low, is) =
    let rest = found_there f zs x y e (k, omega (arith, low), is) in
    elim (f z) as (λ o. Contains (cons_option o (filter_map f zs)) y)
    [ None ↦ rest | Some w ↦ Contains-append_right (w ∷ []) (filter_map f zs) y rest ]

-- each number is there once
has_each : (ns : List ℕ) (n : ℕ) → Contains ns n → Contains (each_once ns) n
has_each [] n h = absurd (omega (arith, h.1))
has_each (m ∷ ns) n h = elim (cases_eq m n) [
  | inl same ↦ (0, omega arith, same)
  | inr other ↦
      let differs : not (nat_eq n m) ≡ true = ap not (let no : nat_eq n m ≡ false = grind (arith, nat_tests) in no) in
      Contains-append_right (m ∷ []) (filter (λ k. not (nat_eq k m)) (each_once ns)) n
      (kept (λ k. not (nat_eq k m)) (each_once ns) n differs (has_each ns n (Contains-tail m ns n other h)))
]

has_no_more : (ns : List ℕ) (n : ℕ) → Contains (each_once ns) n → Contains ns n
has_no_more [] n h = h
has_no_more (m ∷ ns) n (zero, low, is) = (0, omega arith, is)
has_no_more (m ∷ ns) n (suc k, low, is) =
    Contains-append_right (m ∷ []) ns n
    (has_no_more ns n (was_there (λ k. not (nat_eq k m)) (each_once ns) n (k, omega (arith, low), is)))

abbrev Differ : ℕ → List ℕ → Type 0
Differ m ns = AllByRecursion (λ n. nat_eq m n ≡ false) ns

others_differ : (m : ℕ) (ns : List ℕ) → Differ m (filter (λ k. not (nat_eq k m)) ns)
others_differ m [] = tt
others_differ m (n ∷ ns) = elim (cases_eq n m) [
  | inl same ↦ let yes : nat_eq n m ≡ true = grind (arith, nat_tests) in rw yes (others_differ m ns)
  | inr other ↦
      let no : nat_eq n m ≡ false = grind (arith, nat_tests) in
      let too : nat_eq m n ≡ false = grind (arith, nat_tests) in
      rw no (too, others_differ m ns)
]

still_differ : (test : ℕ → Bool) (m : ℕ) (ns : List ℕ) → Differ m ns → Differ m (filter test ns)
still_differ test m [] all = tt
still_differ test m (n ∷ ns) all =
    let rest = still_differ test m ns all.1 in
    elim (test n) as (λ b. Differ m (cond b (n ∷ filter test ns) (filter test ns)))
    [ true ↦ (all.0, rest) | false ↦ rest ]

still_apart : (test : ℕ → Bool) (ns : List ℕ) → IsDistinct nat_eq ns → IsDistinct nat_eq (filter test ns)
still_apart test [] apart = apart
still_apart test (n ∷ ns) apart =
    let rest = still_apart test ns (IsDistinct-tail nat_eq n ns apart) in
    elim (test n) as (λ b. IsDistinct nat_eq (cond b (n ∷ filter test ns) (filter test ns))) [
      | true ↦
          IsDistinct-cons nat_eq n (filter test ns) (still_differ test n ns (IsDistinct-head nat_eq n ns apart)) rest
      | false ↦ rest
    ]

all_apart : (ns : List ℕ) → IsDistinct nat_eq (each_once ns)
unfolding IsDistinct
all_apart [] = tt
all_apart (n ∷ ns) =
    let others = filter (λ k. not (nat_eq k n)) (each_once ns) in
    IsDistinct-cons nat_eq n others (others_differ n (each_once ns))
    (still_apart (λ k. not (nat_eq k n)) (each_once ns) (all_apart ns))

-- ---- what is found

-- what is found in the window of a stream is one of its packets
abbrev pub Finds : Type 0
Finds = (ssrc first_seq first_ts : ℕ) (sendings : List Sending) (number : ℕ) (owner : Owner) (p : SentPacket)
    → resend_of number owner (latest window_size (packets_of ssrc first_seq first_ts sendings)) ≡ Some p
    → IsFound number owner (latest window_size (packets_of ssrc first_seq first_ts sendings)) p

-- each packet in the window of a stream is found
abbrev pub FindsAll : Type 0
FindsAll =
    (ssrc first_seq first_ts : ℕ) (sendings : List Sending) → FindsEach (packets_of ssrc first_seq first_ts sendings)

found_in : Finds → (k : ℕ) (rs : List Routed) (number : ℕ) (owner : Owner) (p : SentPacket)
    → resend_of number owner (latest window_size (packets_sent k rs)) ≡ Some p
    → IsFound number owner (latest window_size (packets_sent k rs)) p
found_in finds k [] number owner p e = absurd (cc)
found_in finds k (r ∷ rs) number owner p e =
    finds k r.slot.first_seq r.slot.first_ts (sendings (r ∷ rs)) number owner p e

each_in : FindsAll → (k : ℕ) (rs : List Routed) → FindsEach (packets_sent k rs)
each_in finds k [] p there = absurd (omega (arith, there.1))
each_in finds k (r ∷ rs) p there = finds k r.slot.first_seq r.slot.first_ts (sendings (r ∷ rs)) p there

module _ (finds : Finds) (finds_all : FindsAll) (same_frames : AllStamped) (who : Asker) (lanes lane : ℕ) (start : Desk)
    (before : List Step) (request : Request) where
  abbrev k : ℕ
  k = request.out_ssrc

  abbrev visit : Visit
  visit = visit_after start before lane (Input.nack request)

  abbrev window : List SentPacket
  window = latest window_size (packets k (visits lane start before))

  abbrev Leads : Sent → Type 0
  Leads sent = LeadsBack who lanes start before lane visit request sent

  abbrev again : SentPacket → Sent
  again p = goes k (Some visit.version) p

  -- what this member, who asks, is sent of a number
  abbrev of_number : ℕ → ℕ → Option SentPacket
  of_number member n = resend_of n record { member = member; address = request.from } window

  -- of all that is found, a lane's share
  share : sent_after who lanes start before lane (Input.nack request)
      ≡ cond (is_mine lane lanes k) (map again (resends visit.desk request.from request.numbers window)) []
  share =
      all_or_none (is_lanes lane lanes) (is_mine lane lanes k) k (Some visit.version) (λ p. refl)
      (resends visit.desk request.from request.numbers window)

  module _ (list : firsts who lanes start (record { kind = StreamKind.video; ssrc = k }) before
      ≡ map (goes k None) (packets k (visits lane start before))) where
    one : (member : ℕ) (from : member_from visit.desk request.from ≡ Some member) (number : ℕ)
        → Contains request.numbers number → (p : SentPacket) → of_number member number ≡ Some p → Leads (again p)
    one member from number asked p e =
        let is =
        found_in finds k (routed k (visits lane start before)) number
        (record { member = member; address = request.from }) p e in
        let there = Contains-drop _ (packets k (visits lane start before)) p is.there in record {
          packet = p;
          same = refl;
          owed = record {
            asked = subst (Contains request.numbers) (sym is.number_is) asked;
            recent = is.there;
            address = ap (λ (o : Owner). o.address) is.owner_is;
            member = from ∙ ap Some (sym (ap (λ (o : Owner). o.member) is.owner_is));
          };
          sent_before =
              subst (λ es. Contains es (goes k None p)) (sym list)
              (Contains-map (goes k None) (packets k (visits lane start before)) p there);
          carries =
              element _ (packets k (visits lane start before)) p (all_carry k (visits lane start before) same_frames)
              there;
        }

    each : (member : ℕ) (from : member_from visit.desk request.from ≡ Some member) (ns : List ℕ)
        → ((n : ℕ) → Contains ns n → Contains request.numbers n)
        → AllByRecursion Leads (map again (filter_map (of_number member) ns))
    each member from [] asked = tt
    each member from (n ∷ ns) asked =
        by (of_number member n) refl (each member from ns (λ m h. asked m (Contains-append_right (n ∷ []) ns m h)))
      where
        rest : List SentPacket
        rest = filter_map (of_number member) ns

        by : (o : Option SentPacket) → of_number member n ≡ o → AllByRecursion Leads (map again rest)
            → AllByRecursion Leads (map again (cons_option o rest))
        by None e all = all
        by (Some p) e all = (one member from n (asked n (0, omega arith, refl)) p e, all)

    all_of : (o : Option ℕ) → member_from visit.desk request.from ≡ o
        → AllByRecursion Leads (map again (resends_to o request.from request.numbers window))
    all_of None e = tt
    all_of (Some member) e = each member e (each_once request.numbers) (has_no_more request.numbers)

  all_lead_back : firsts who lanes start (record { kind = StreamKind.video; ssrc = k }) before
      ≡ map (goes k None) (packets k (visits (k % lanes) start before))
      → AllByRecursion Leads (sent_after who lanes start before lane (Input.nack request))
  all_lead_back list = subst (AllByRecursion Leads) (sym share) (by (is_mine lane lanes k) refl)
    where
      by : (b : Bool) → is_mine lane lanes k ≡ b
          → AllByRecursion Leads (cond b (map again (resends visit.desk request.from request.numbers window)) [])
      by false e = tt
      by true e =
          all_of (list ∙ ap (λ j. map (goes k None) (packets k (visits j start before))) (eqb-true (k % lanes) lane e))
          (member_from visit.desk request.from) refl

  -- what is owed is found
  owed_found : (p : SentPacket) → IsOwed start before lane visit request p
      → Contains (resends visit.desk request.from request.numbers window) p
  owed_found p owed =
      let its : record { member = p.owner.member; address = request.from } ≡ p.owner =
      ap (λ (a : Address). record { member = p.owner.member; address = a }) (sym owed.address) in
      let at : of_number p.owner.member p.number ≡ Some p =
      ap (λ (o : Owner). resend_of p.number o window) its
      ∙ each_in finds_all k (routed k (visits lane start before)) p owed.recent in
      subst (λ (o : Option ℕ). Contains (resends_to o request.from request.numbers window) p) (sym owed.member)
      (found_there (of_number p.owner.member) (each_once request.numbers) p.number p at
      (has_each request.numbers p.number owed.asked))

  all_owed : (p : SentPacket) → is_mine lane lanes k ≡ true → IsOwed start before lane visit request p
      → Contains (sent_after who lanes start before lane (Input.nack request)) (again p)
  all_owed p mine owed =
      let all = resends visit.desk request.from request.numbers window in
      subst (λ (es : List Sent). Contains es (again p)) (sym (share ∙ ap (λ b. cond b (map again all) []) mine))
      (Contains-map again all p (owed_found p owed))

  -- no number is found twice
  found_differ : (member m : ℕ) (ns : List ℕ) → Differ m ns
      → Differ m (numbers (map again (filter_map (of_number member) ns)))
  found_differ member m [] all = tt
  found_differ member m (n ∷ ns) all = by (of_number member n) refl (found_differ member m ns all.1)
    where
      rest : List SentPacket
      rest = filter_map (of_number member) ns

      by : (o : Option SentPacket) → of_number member n ≡ o → Differ m (numbers (map again rest))
          → Differ m (numbers (map again (cons_option o rest)))
      by None e others = others
      by (Some p) e others =
          let is =
          found_in finds k (routed k (visits lane start before)) n (record { member = member; address = request.from })
          p e in
          (ap (nat_eq m) is.number_is ∙ all.0, others)

  found_apart : (member : ℕ) (ns : List ℕ) → IsDistinct nat_eq ns
      → IsDistinct nat_eq (numbers (map again (filter_map (of_number member) ns)))
  unfolding IsDistinct
  found_apart member [] apart = tt
  found_apart member (n ∷ ns) apart =
      by (of_number member n) refl (found_apart member ns (IsDistinct-tail nat_eq n ns apart))
    where
      rest : List SentPacket
      rest = filter_map (of_number member) ns

      by : (o : Option SentPacket) → of_number member n ≡ o → IsDistinct nat_eq (numbers (map again rest))
          → IsDistinct nat_eq (numbers (map again (cons_option o rest)))
      by None e all = all
      by (Some p) e all =
          let is =
          found_in finds k (routed k (visits lane start before)) n (record { member = member; address = request.from })
          p e in
          IsDistinct-cons nat_eq p.number (numbers (map again rest))
          (subst (λ m. Differ m (numbers (map again rest))) (sym is.number_is)
          (found_differ member n ns (IsDistinct-head nat_eq n ns apart)))
          all

  none_twice : IsDistinct nat_eq (numbers (sent_after who lanes start before lane (Input.nack request)))
  unfolding IsDistinct
  none_twice =
      subst (λ (es : List Sent). IsDistinct nat_eq (numbers es)) (sym share)
      (by (is_mine lane lanes k) (member_from visit.desk request.from))
    where
      by : (b : Bool) (o : Option ℕ)
          → IsDistinct nat_eq (numbers (cond b (map again (resends_to o request.from request.numbers window)) []))
      by false o = tt
      by true None = tt
      by true (Some member) = found_apart member (each_once request.numbers) (all_apart request.numbers)

  pub all_asked_again : firsts who lanes start (record { kind = StreamKind.video; ssrc = k }) before
      ≡ map (goes k None) (packets k (visits (k % lanes) start before))
      → IsAskedAgain who lanes start before lane request
  all_asked_again list = record { given = share; each = all_lead_back list; all = all_owed; once = none_twice }
