-- A lane's ring ends, and what was given and accepted.
use Rattle.std.proofs.Common.{◌≡◌, ℕ, Bool, true, false, List, [], ◌∷◌, ◌++◌, map, refl, ap, sym, subst, ◌∙◌}
use Rattle.std.proofs.Common.{append_assoc}
use Rattle.std.proofs.lemmas.List.{append-nil}
use Rattle.std.specs.declared.alloc.Global.{Global}
use Rattle.rtrb.specs.Ring.{IsPair, SameProducer}
use Rattle.rtrb.specs.declared.producer.Producer.{Producer}
use Rattle.rtrb.specs.declared.consumer.Consumer.{Consumer}
use Rattle.bridge_core.specs.Sent.{sent_of}
use Rattle.bridge_core.specs.declared.egress.Egress.{Egress}
use Rattle.media_workers.specs.declared.parcel.Parcel.{Parcel}
use Rattle.media_workers.specs.declared.parcel.Parcel.TheVariants.{Work, End}
use Rattle.media_workers.specs.Parcels.{works}
use Rattle.media_workers.specs.LaneRuns.{Ran, RunEnd, Traffic, Versioned, versioned}
use Rattle.media_workers.specs.Ports.{PortOf, accept, Ended}
use Rattle.media_workers.specs.inner.Threads.{is_end, ending, IsWhole}

-- ---- rings

pub IsPair-sent : {T A P : Type 0} (p q : Producer T A P) (c : Consumer T A P) → IsPair p c → SameProducer p q
    → IsPair q c
IsPair-sent p q c pair same =
    (pair.0 ∙ sym same.0.0, pair.1 ∙ sym same.0.1, pair.2 ∙ sym same.0.2, pair.3 ∙ sym same.0.3)

-- ---- what was accepted

works-append : (xs ys : List Parcel) → works (xs ++ ys) ≡ works xs ++ works ys
works-append [] ys = refl
works-append (Work item notice ∷ xs) ys = ap (λ w. Work item notice ∷ w) (works-append xs ys)
works-append (End ∷ xs) ys = works-append xs ys

-- no parcel is an End
abbrev HaveNoEnd : List Parcel → Type 0
HaveNoEnd [] = Unit {0}
HaveNoEnd (p ∷ ps) = (is_end p ≡ false) × HaveNoEnd ps

works_have_no_end : (ps : List Parcel) → HaveNoEnd (works ps)
works_have_no_end [] = tt
works_have_no_end (Work item notice ∷ ps) = (refl, works_have_no_end ps)
works_have_no_end (End ∷ ps) = works_have_no_end ps

something_ends : (front after : List Parcel) → front ++ End ∷ after ≡ [] → ⊥
something_ends [] after e = cc (e)
something_ends (p ∷ front) after e = cc (e)

-- nothing follows an End
end_is_last : (front after ws : List Parcel) (closed : Bool) → HaveNoEnd ws → front ++ End ∷ after ≡ ws ++ ending closed
    → after ≡ []
end_is_last [] after [] true clean e = cc (e)
end_is_last [] after [] false clean e = absurd (something_ends [] after e)
end_is_last (p ∷ front) after [] true clean e = absurd (something_ends front after (cc (e)))
end_is_last (p ∷ front) after [] false clean e = absurd (something_ends (p ∷ front) after e)
end_is_last [] after (w ∷ ws) closed clean e =
    let f : End ≡ w = cc (e) in
    let last : true ≡ is_end w = ap is_end f in
    absurd (cc (clean.0, last))
end_is_last (p ∷ front) after (w ∷ ws) closed clean e = end_is_last front after ws closed clean.1 (cc (e))

pub whole_pushed : (pushed : List Parcel) (p : Parcel) (closed : Bool) → closed ≡ is_end p → IsWhole pushed false
    → IsWhole (pushed ++ p ∷ []) closed
whole_pushed pushed (Work item notice) closed is whole =
    let none : pushed ≡ works pushed = whole ∙ append-nil _ in
    rw (is, works-append pushed (Work item notice ∷ []))
    (ap (λ w. w ++ Work item notice ∷ []) none ∙ sym (append-nil _))
whole_pushed pushed End closed is whole =
    let none : pushed ≡ works pushed = whole ∙ append-nil _ in
    rw (is, works-append pushed (End ∷ [])) (ap (λ w. w ++ End ∷ []) (none ∙ sym (append-nil _)))

-- what was pushed is accepted
pub accepts : {P S : Type 0} (old : PortOf P S) (pushed now : List Parcel) (p : Parcel) (closed : Bool)
    → old.accepted ≡ works pushed → old.closed ≡ false → closed ≡ is_end p → now ≡ pushed ++ p ∷ []
    → record { lane = old.lane; pace = old.pace; sink = old.sink; accepted = works now; closed = closed } ≡ accept p old
accepts old pushed now (Work item notice) closed acc was is now_is =
    let w : works now ≡ old.accepted ++ Work item notice ∷ [] =
    ap works now_is ∙ (works-append pushed (Work item notice ∷ []) ∙ ap (λ w. w ++ Work item notice ∷ []) (sym acc)) in
    let c : closed ≡ old.closed = is ∙ sym was in
    cc
accepts old pushed now End closed acc was is now_is =
    let w : works now ≡ old.accepted = ap works now_is ∙ (works-append pushed (End ∷ []) ∙ (append-nil _ ∙ sym acc)) in
    cc

-- ---- the end

pub port_ended : {P S : Type 0} (port : PortOf P S) (answers : ℕ → Bool → Type 0) (ran : Traffic) (shown : Traffic)
    (ks pushed : List Parcel)
    (closed : Bool) (told : RunEnd)
    → Ran port.lane answers ran.parcels (map sent_of ran.egress) told → shown.parcels ≡ ran.parcels
    → shown.egress ≡ ran.egress
    → shown.parcels ++ ks ≡ pushed → IsWhole pushed closed → port.accepted ≡ works pushed
    → Ended port answers shown told
port_ended port answers ran shown ks pushed closed told run parcels_are egress_is down whole accepted =
    let run' : Ran port.lane answers shown.parcels (map sent_of shown.egress) told =
    subst (λ (w : List Parcel). Ran port.lane answers w (map sent_of shown.egress) told) (sym parcels_are)
    (subst (λ (w : List (Egress Global)). Ran port.lane answers ran.parcels (map sent_of w) told) (sym egress_is)
    run) in
    let all : works shown.parcels ++ works ks ≡ port.accepted =
    sym (works-append shown.parcels ks) ∙ (ap works down ∙ sym accepted) in
    record {
      ran = run';
      some = (works ks, all);
      all = λ (front : List Parcel) (e : shown.parcels ≡ front ++ End ∷ []).
          let last : front ++ End ∷ ks ≡ works pushed ++ ending closed =
          sym (append_assoc front (End ∷ []) ks) ∙ (ap (λ w. w ++ ks) (sym e) ∙ (down ∙ whole)) in
          let none : ks ≡ [] = end_is_last front ks (works pushed) closed (works_have_no_end pushed) last in
          sym (append-nil _) ∙ (ap (λ w. works shown.parcels ++ works w) (sym none) ∙ all);
    }

-- what was shown of a run that a sink was told of
pub port_told : {P S : Type 0} (port : PortOf P S) (answers : ℕ → Bool → Type 0) (ran : Traffic) (shown : Traffic)
    (ks pushed : List Parcel) (closed : Bool) (told : RunEnd) (hears : List Versioned → Type 0)
    → (run : Ran port.lane answers ran.parcels (map sent_of ran.egress) told) → hears (map versioned run.served)
    → shown.parcels ≡ ran.parcels → shown.egress ≡ ran.egress
    → shown.parcels ++ ks ≡ pushed → IsWhole pushed closed → port.accepted ≡ works pushed
    → (ended : Ended port answers shown told) × hears (map versioned ended.ran.served)
port_told port answers ran shown ks pushed closed told hears run heard parcels_are egress_is down whole accepted =
    let old = port_ended port answers ran shown ks pushed closed told run parcels_are egress_is down whole accepted in
    let one =
    subst
    (λ (w : List Parcel).
    (r : Ran port.lane answers w (map sent_of ran.egress) told) × hears (map versioned r.served)) (sym parcels_are)
    (run, heard) in
    let both =
    subst
    (λ (w : List (Egress Global)).
    (r : Ran port.lane answers shown.parcels (map sent_of w) told) × hears (map versioned r.served)) (sym egress_is)
    one in
    (record { ran = both.0; some = old.some; all = old.all }, both.1)
