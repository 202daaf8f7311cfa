-- One datagram that was sent, or none, and what was sent so far with it.
use Rattle.std.proofs.Common.{◌≡◌, ◌≤◌, ◌+◌, ◌∙◌, ℕ, Bool, false, List, [], ◌∷◌, ◌++◌, length, map, Result, Err}
use Rattle.std.proofs.Common.{refl, ap, sym, subst, arith, append-nil, append_assoc}
use Rattle.std.specs.List.{flat_map}
use Rattle.std.proofs.lemmas.List.{map-append}
use Rattle.std.proofs.lemmas.Grind.{flat_map-append}
use Rattle.std.specs.declared.alloc.Global.{Global}
use Rattle.rtp_codec.specs.declared.address.Address.{Address}
use Rattle.bridge_core.specs.declared.egress.Egress.{Egress}
use Rattle.udp_wire.specs.Attempts.{datagrams_of}
use Rattle.lane_wire.specs.declared.fault.SendFault.{SendFault}
use Rattle.lane_wire.specs.declared.fault.SendFault.TheVariants.{NotReady}
use Rattle.lane_wire.specs.declared.counts.SendCounts.{SendCounts}
use Rattle.lane_wire.specs.Tries.{WireStep, unready, all_tried}
use Rattle.lane_wire.specs.Counted.{no_counts, after_pauses, after_answer}
use Rattle.lane_wire.specs.Sendings.{Sending, SentSoFar, so_far, patience, is_unready, steps_for, octets_together}
use Rattle.lane_wire.specs.Sendings.{ArePatient, last_is_stuck, all_counted, WereSent}
use Rattle.lane_wire.specs.Sinks.{HaveSent}

-- the one datagram of these was sent
pub sent_one : (datagrams : List (Address × List ℕ)) (pauses : ℕ) (answer : Result (Unit {0}) SendFault)
    (old new : SentSoFar)
    → length datagrams ≡ 1
    → new.steps ≡ old.steps ++ (unready datagrams pauses ++ all_tried datagrams answer)
    → pauses ≤ patience old.is_stuck → (answer ≡ Err NotReady → pauses ≡ patience old.is_stuck)
    → new.counts ≡ after_answer (octets_together datagrams) answer (after_pauses pauses old.counts)
    → new.is_stuck ≡ is_unready answer → WereSent datagrams old new
sent_one [] pauses answer old new one steps few limit counts stuck = absurd (omega (arith, one))
sent_one (d ∷ e ∷ rest) pauses answer old new one steps few limit counts stuck = absurd (omega (arith, one))
sent_one (d ∷ []) pauses answer old new one steps few limit counts stuck =
    let s : Sending = record { datagram = d; pauses = pauses; answer = answer } in
    let octets : length d.1 + 0 ≡ length d.1 = omega (arith) in
    record {
      sendings = s ∷ [];
      these = refl;
      patient = (record { few = few; limit = limit }, tt);
      steps = steps ∙ ap (λ all. old.steps ++ all) (sym (append-nil (steps_for s)));
      counts = counts ∙ ap (λ n. after_answer n answer (after_pauses pauses old.counts)) octets;
      stuck = stuck;
    }

-- of no datagrams nothing is done
pub sent_none : (datagrams : List (Address × List ℕ)) (steps : List WireStep) (counts : SendCounts) (is_stuck : Bool)
    → datagrams ≡ []
    → WereSent datagrams (record { steps = steps; counts = counts; is_stuck = is_stuck })
    (record { steps = steps; counts = counts; is_stuck = is_stuck })
sent_none datagrams steps counts is_stuck none = record {
  sendings = [];
  these = sym none;
  patient = tt;
  steps = sym (append-nil steps);
  counts = refl;
  stuck = refl;
}

-- ---- what was sent so far, and more

patient_on : (s : Bool) (xs ys : List Sending) → ArePatient s xs → ArePatient (last_is_stuck s xs) ys
    → ArePatient s (xs ++ ys)
patient_on s [] ys first rest = rest
patient_on s (x ∷ xs) ys first rest = (first.0, patient_on (is_unready x.answer) xs ys first.1 rest)

counted_on : (xs ys : List Sending) (counts : SendCounts)
    → all_counted ys (all_counted xs counts) ≡ all_counted (xs ++ ys) counts
counted_on [] ys counts = refl
counted_on (x ∷ xs) ys counts =
    counted_on xs ys (after_answer (length x.datagram.1) x.answer (after_pauses x.pauses counts))

stuck_on : (s : Bool) (xs ys : List Sending) → last_is_stuck (last_is_stuck s xs) ys ≡ last_is_stuck s (xs ++ ys)
stuck_on s [] ys = refl
stuck_on s (x ∷ xs) ys = stuck_on (is_unready x.answer) xs ys

-- these were sent, and then those
sent_on : (first rest : List (Address × List ℕ)) (old mid new : SentSoFar) → WereSent first old mid
    → WereSent rest mid new → WereSent (first ++ rest) old new
sent_on first rest old mid new a b =
    let xs = a.sendings in
    let ys = b.sendings in
    record {
      sendings = xs ++ ys;
      these = map-append (λ (s : Sending). s.datagram) xs ys ∙ (ap (λ ds. ds ++ map (λ (s : Sending). s.datagram) ys)
          a.these
          ∙ ap (λ ds. first ++ ds) b.these);
      patient =
          patient_on old.is_stuck xs ys a.patient (subst (λ (s : Bool). ArePatient s ys) a.stuck b.patient);
      steps = b.steps ∙ (ap (λ ss. ss ++ flat_map steps_for ys) a.steps
          ∙ (append_assoc old.steps (flat_map steps_for xs) (flat_map steps_for ys)
          ∙ ap (λ ss. old.steps ++ ss) (sym (flat_map-append steps_for xs ys))));
      counts = b.counts ∙ (ap (all_counted ys) a.counts ∙ counted_on xs ys old.counts);
      stuck = b.stuck ∙ (ap (λ s. last_is_stuck s ys) a.stuck ∙ stuck_on old.is_stuck xs ys);
    }

-- of nothing nothing was sent
pub sent_nothing : (taken : List (Egress Global)) (steps : List WireStep) (counts : SendCounts) → taken ≡ []
    → steps ≡ [] → counts ≡ no_counts → HaveSent taken steps counts false
sent_nothing taken steps counts none unused fresh = record {
  sendings = [];
  these = sym (ap (flat_map datagrams_of) none);
  patient = tt;
  steps = unused;
  counts = fresh;
  stuck = refl;
}

-- one more was taken, and its datagram was sent
pub sent_more : (taken more : List (Egress Global)) (egress : Egress Global) (steps later : List WireStep)
    (counts grown : SendCounts) (was is : Bool) → HaveSent taken steps counts was
    → WereSent (datagrams_of egress) (so_far steps counts was) (so_far later grown is) → more ≡ taken ++ egress ∷ []
    → HaveSent more later grown is
sent_more taken more egress steps later counts grown was is before sent grew =
    let all : flat_map datagrams_of taken ++ datagrams_of egress ≡ flat_map datagrams_of more =
    ap (λ ds. flat_map datagrams_of taken ++ ds) (sym (append-nil (datagrams_of egress)))
    ∙ (sym (flat_map-append datagrams_of taken (egress ∷ [])) ∙ ap (flat_map datagrams_of) (sym grew)) in
    subst (λ (ds : List (Address × List ℕ)). WereSent ds (so_far [] no_counts false) (so_far later grown is)) all
    (sent_on (flat_map datagrams_of taken) (datagrams_of egress) (so_far [] no_counts false)
    (so_far steps counts was) (so_far later grown is) before sent)
