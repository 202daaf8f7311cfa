-- A packet at a gate that there is, and at a new one.
use Rattle.std.proofs.Common.{◌≡◌, List, [], ◌∷◌, ◌++◌, None, Some, true, refl, sym, subst}
use Rattle.std.proofs.lemmas.List.Sums.{fold-append}
use Rattle.frame_gate.specs.Packets.{NumberedPacket}
use Rattle.frame_gate.specs.Watched.{GateEvent, came, unwatched, watch_on, watch_of, Watch}
use Rattle.frame_gate.specs.Admits.{Represents as Gates, Answers}
use Rattle.frame_gate.specs.Waits.{WatchedOf as GateOf, PreparedPacketOf, Watches, CommitsPacket, PreparesPacket}
use Rattle.ingress.specs.inner.SourceEntries.{HasGateEvents, Admits}

pub some_injective : {X : Type 0} (x y : X) → Some x ≡ Some y → x ≡ y
some_injective x y e = cc

-- one event more
pub one_more : (g : GateOf) (events : List GateEvent) (x : GateEvent) → Watches g (watch_on (watch_of events) x)
    → Watches g (watch_of (events ++ x ∷ []))
one_more g events x at = subst (λ (w : Watch). Watches g w) (sym (fold-append watch_on unwatched events (x ∷ []))) at

-- a new gate
pub fresh_gate : (g : GateOf) → Gates g.gate [] → g.marks ≡ [] → g.answers ≡ true → g.frames ≡ 0 → g.gaps ≡ 0
    → Watches g (watch_of [])
fresh_gate g gate marks answers frames gaps =
    record { gate = gate; marks = marks; answers = answers; frames = frames; gaps = gaps }

at_old : (g : GateOf) (p : NumberedPacket) (r : PreparedPacketOf) (events : List GateEvent) (new : GateOf)
    → PreparesPacket g p r → HasGateEvents (Some g) events → CommitsPacket g r new
    → Answers (watch_of events).epoch p r.prepared.answer × HasGateEvents (Some new) (events ++ came p ∷ [])
at_old g p r [] new prepares has commits = absurd has
at_old g p r (e ∷ events) new prepares has commits =
    let both = prepares new commits (watch_of (e ∷ events)) has in (both.0, one_more new (e ∷ events) (came p) both.1)

pub at_gate : (g : GateOf) (p : NumberedPacket) (r : PreparedPacketOf) → PreparesPacket g p r
    → Admits (Some g) p (record { fresh = None; prepared = r })
at_gate g p r prepares = record {
  ready = refl;
  after = λ events old new has base commits.
      at_old g p r events new prepares has
      (subst (λ x. CommitsPacket x r new) (sym (some_injective g old base)) commits);
}

pub at_new_gate : (g : GateOf) (p : NumberedPacket) (r : PreparedPacketOf) → Watches g (watch_of [])
    → PreparesPacket g p r → Admits None p (record { fresh = Some g; prepared = r })
at_new_gate g p r fresh prepares = record {
  ready = refl;
  after = λ events old new has base commits.
      let both =
      prepares new (subst (λ x. CommitsPacket x r new) (sym (some_injective g old base)) commits) (watch_of []) fresh in
      subst (λ es. Answers (watch_of es).epoch p r.prepared.answer × HasGateEvents (Some new) (es ++ came p ∷ []))
      (sym has) (both.0, both.1);
}
