-- A compound is read packet by packet.
use Rattle.std.proofs.Common.{◌≡◌, ℕ, ◌+◌, ◌<◌, Bool, true, false, List, [], ◌∷◌, ◌++◌, length, Option, Some, None}
use Rattle.std.proofs.Common.{refl, inl, inr, subst, sym, ap, ◌∙◌, append_assoc, length-append, arith}
use Rattle.std.specs.Prelude.{◌⊎◌}
use Rattle.std.specs.List.{AllByRecursion}
use Rattle.std.proofs.lemmas.Bool.{cases_lt}
use Rattle.std.proofs.lemmas.List.{append-nil}
use Rattle.std.proofs.lemmas.List.Concat.{flat_map-cons}
use Rattle.rtcp_codec.specs.declared.fault.RtcpFault.{RtcpFault}
use Rattle.rtcp_codec.specs.Packet.{Packet}
use Rattle.rtcp_codec.specs.Compound.{Part, IsPart, joined, packets_in, AreUnpadded, LastAloneIsPadded}
use Rattle.rtcp_codec.specs.Compound.{BeginsWithReport, IsCompound, HasFault, IsFirstOf, fault_order}
use Rattle.rtcp_codec.specs.inner.Reading.{Takes, Reads, Ends}
use Rattle.rtcp_codec.proofs.Lists.{front_of}
use Rattle.rtcp_codec.proofs.Unique.{same_reading}

joined-cons : (p : Part) (ps : List Part) → joined (p ∷ ps) ≡ p.octets ++ joined ps
joined-cons p ps = flat_map-cons (λ (x : Part). x.octets) p ps

not_false : (first : Bool) → first ≡ false → first ≡ true → ⊥
not_false first f t = let x = sym f ∙ t in absurd cc

-- what has a packet isn't empty
pub takes_some : (first : Bool) (p : Packet) (octets rest : List ℕ) → Takes first p octets rest → 0 < length octets
takes_some first p octets rest t = omega (arith, t.is_packet.size, ap length t.parts, length-append t.front rest)

some_left : (q : Part) (qs : List Part) → AllByRecursion IsPart (q ∷ qs) → joined (q ∷ qs) ≡ [] → ⊥
some_left q qs each e =
    omega (arith, each.0.size, ap length e, ap length (joined-cons q qs), length-append q.octets (joined qs))

unpadded_by : (n : ℕ) → (0 < n → ⊥) → n ≡ 0
unpadded_by n none = elim (cases_lt 0 n) [ inl some ↦ absurd (none some) | inr le ↦ omega arith ]

-- ---- compounds

last_alone : (p : Part) (ps : List Part) → (0 < p.padding → joined ps ≡ []) → AllByRecursion IsPart ps
    → LastAloneIsPadded ps → LastAloneIsPadded (p ∷ ps)
last_alone p [] last each h = tt
last_alone p (q ∷ qs) last each h = (unpadded_by p.padding (λ some. some_left q qs each (last some)), h)

record Parted (first : Bool) (ps : List Packet) (octets : List ℕ) : Type 0 where
  pub parts : List Part
  pub packets : packets_in parts ≡ ps
  pub whole : octets ≡ joined parts
  pub each : AllByRecursion IsPart parts
  pub report : first ≡ true → BeginsWithReport ps
  pub unpadded : LastAloneIsPadded parts

parted : (first : Bool) (ps : List Packet) (octets : List ℕ) → Reads first ps None octets → Parted first ps octets
parted first [] octets h =
    record {
      parts = [];
      packets = refl;
      whole = h.1;
      each = tt;
      report = λ t. absurd (not_false first h.0 t);
      unpadded = tt;
    }
parted first (p ∷ ps) octets (rest, t, h) =
    let r = parted false ps rest h in
    let part : Part = record { packet = p; octets = t.front; padding = t.padding } in
    record {
      parts = part ∷ r.parts;
      packets = ap (λ (l : List Packet). p ∷ l) r.packets;
      whole = t.parts ∙ ap (λ (l : List ℕ). t.front ++ l) r.whole ∙ sym (joined-cons part r.parts);
      each = (t.is_packet, r.each);
      report = t.report;
      unpadded = last_alone part r.parts (λ some. sym r.whole ∙ t.last some) r.each r.unpadded;
    }

pub reads_compound : (ps : List Packet) (octets : List ℕ) → Reads true ps None octets → IsCompound ps octets
reads_compound ps octets h =
    let r = parted true ps octets h in
    record {
      parts = r.parts;
      packets = r.packets;
      whole = r.whole;
      each = r.each;
      report = r.report refl;
      unpadded = r.unpadded;
    }

end_behind : (p : Part) (ps : List Part) → LastAloneIsPadded (p ∷ ps) → 0 < p.padding → joined ps ≡ []
end_behind p [] h some = refl
end_behind p (q ∷ qs) h some = absurd (omega (arith, h.0, some))

last_behind : (p : Part) (ps : List Part) → LastAloneIsPadded (p ∷ ps) → LastAloneIsPadded ps
last_behind p [] h = tt
last_behind p (q ∷ qs) h = h.1

as_reads : (first : Bool) (parts : List Part) (octets : List ℕ) → octets ≡ joined parts → AllByRecursion IsPart parts
    → LastAloneIsPadded parts → (first ≡ true → BeginsWithReport (packets_in parts))
    → Reads first (packets_in parts) None octets
as_reads true [] octets e each h report = absurd (report refl)
as_reads false [] octets e each h report = (refl, e)
as_reads first (p ∷ ps) octets e each h report = (
  joined ps,
  record {
    front = p.octets;
    padding = p.padding;
    parts = e ∙ joined-cons p ps;
    is_packet = each.0;
    report = report;
    last = end_behind p ps h;
  },
  as_reads false ps (joined ps) refl each.1 (last_behind p ps h) (λ t. absurd cc),
)

pub compound_reads : (ps : List Packet) (octets : List ℕ) → IsCompound ps octets → Reads true ps None octets
compound_reads ps octets k =
    subst (λ (l : List Packet). Reads true l None octets) k.packets
    (as_reads true k.parts octets k.whole k.each k.unpadded (λ t. subst BeginsWithReport (sym k.packets) k.report))

-- ---- faults

record Behind (ps : List Packet) (fault : RtcpFault) (octets : List ℕ) : Type 0 where
  pub before : List Part
  pub rest : List ℕ
  pub packets : packets_in before ≡ ps
  pub whole : octets ≡ joined before ++ rest
  pub each : AllByRecursion IsPart before
  pub unpadded : AreUnpadded before
  pub some : 0 < length rest
  pub its_fault : IsFirstOf fault_order false fault rest

begun : (octets : List ℕ) → (false ≡ true) ⊎ (0 < length octets) → 0 < length octets
begun octets (inl e) = absurd cc
begun octets (inr some) = some

one_more : (p : Packet) (ps : List Packet) (fault : RtcpFault) (first : Bool) (octets rest : List ℕ)
    → Takes first p octets rest → Behind ps fault rest → Behind (p ∷ ps) fault octets
one_more p ps fault first octets rest t r =
    let part : Part = record { packet = p; octets = t.front; padding = t.padding } in
    let len : length rest ≡ length (joined r.before) + length r.rest =
    ap length r.whole ∙ length-append (joined r.before) r.rest in
    record {
      before = part ∷ r.before;
      rest = r.rest;
      packets = ap (λ (l : List Packet). p ∷ l) r.packets;
      whole =
          t.parts
          ∙ ap (λ (l : List ℕ). t.front ++ l) r.whole
          ∙ sym (front_of (λ (x : Part). x.octets) part r.before r.rest);
      each = (t.is_packet, r.each);
      unpadded = (unpadded_by t.padding (λ some. omega (arith, len, r.some, ap length (t.last some))), r.unpadded);
      some = r.some;
      its_fault = r.its_fault;
    }

behind : (ps : List Packet) (fault : RtcpFault) (octets : List ℕ) → Reads false ps (Some fault) octets
    → Behind ps fault octets
behind [] fault octets h =
    record {
      before = [];
      rest = octets;
      packets = refl;
      whole = refl;
      each = tt;
      unpadded = tt;
      some = begun octets h.0;
      its_fault = h.1;
    }
behind (p ∷ ps) fault octets (rest, t, h) = one_more p ps fault false octets rest t (behind ps fault rest h)

pub reads_fault : (ps : List Packet) (fault : RtcpFault) (octets : List ℕ) → Reads true ps (Some fault) octets
    → HasFault fault octets
reads_fault [] fault octets h = inl h.1
reads_fault (p ∷ ps) fault octets (rest, t, h) =
    let r = one_more p ps fault true octets rest t (behind ps fault rest h) in
    inr (record {
      before = r.before;
      rest = r.rest;
      whole = r.whole;
      each = r.each;
      report = subst BeginsWithReport (sym r.packets) (t.report refl);
      unpadded = r.unpadded;
      some = r.some;
      its_fault = r.its_fault;
    })

later_reads : (first : Bool) (before : List Part) (fault : RtcpFault) (octets rest : List ℕ)
    → octets ≡ joined before ++ rest → AllByRecursion IsPart before → AreUnpadded before
    → (first ≡ true → BeginsWithReport (packets_in before)) → 0 < length rest → IsFirstOf fault_order false fault rest
    → Reads first (packets_in before) (Some fault) octets
later_reads true [] fault octets rest e each u report some h = absurd (report refl)
later_reads false [] fault octets rest e each u report some h =
    (inr (omega (arith, ap length e, some)), subst (IsFirstOf fault_order false fault) (sym e) h)
later_reads first (p ∷ ps) fault octets rest e each u report some h = (
  joined ps ++ rest,
  record {
    front = p.octets;
    padding = p.padding;
    parts = e ∙ front_of (λ (x : Part). x.octets) p ps rest;
    is_packet = each.0;
    report = report;
    last = λ pad. absurd (omega (arith, u.0, pad));
  },
  later_reads false ps fault (joined ps ++ rest) rest refl each.1 u.1 (λ t. absurd cc) some h,
)

pub fault_reads : (fault : RtcpFault) (octets : List ℕ) → HasFault fault octets → Ends true (Some fault) octets
fault_reads fault octets (inl h) = ([], (inl refl, h))
fault_reads fault octets (inr k) = (
  packets_in k.before,
  later_reads true k.before fault octets k.rest k.whole k.each k.unpadded (λ t. k.report) k.some k.its_fault,
)

-- a compound has no fault
pub compound_has_no_fault : (ps : List Packet) (fault : RtcpFault) (octets : List ℕ) → IsCompound ps octets
    → HasFault fault octets → ⊥
compound_has_no_fault ps fault octets k h =
    let r = fault_reads fault octets h in
    let e = (same_reading true ps r.0 None (Some fault) octets (compound_reads ps octets k) r.1).1 in
    absurd cc

-- octets have one fault
pub one_fault : (f g : RtcpFault) (octets : List ℕ) → HasFault f octets → HasFault g octets → f ≡ g
one_fault f g octets h k =
    let r = fault_reads f octets h in
    let s = fault_reads g octets k in
    let e = (same_reading true r.0 s.0 (Some f) (Some g) octets r.1 s.1).1 in
    cc

-- ---- judging

-- what comes behind the rest comes behind the whole
abbrev pub GoesOn : List ℕ → List ℕ → Type 0
GoesOn rest octets = (outcome : Option RtcpFault) → Ends false outcome rest → Ends true outcome octets

pub goes_on_first : (octets rest : List ℕ) → (p : Packet) × Takes true p octets rest → GoesOn rest octets
goes_on_first octets rest t outcome h = (t.0 ∷ h.0, (rest, t.1, h.1))

pub goes_on : (rest after octets : List ℕ) → (p : Packet) × Takes false p rest after → GoesOn rest octets
    → GoesOn after octets
goes_on rest after octets t on outcome h = on outcome (t.0 ∷ h.0, (after, t.1, h.1))

pub first_fault : (fault : RtcpFault) (octets : List ℕ) → IsFirstOf fault_order true fault octets
    → HasFault fault octets
first_fault fault octets h = inl h

pub later_fault : (fault : RtcpFault) (rest octets : List ℕ) → GoesOn rest octets → 0 < length rest
    → IsFirstOf fault_order false fault rest → HasFault fault octets
later_fault fault rest octets on some h =
    let e = on (Some fault) ([], (inr some, h)) in
    reads_fault e.0 fault octets e.1

pub is_compound : (rest octets : List ℕ) → GoesOn rest octets → rest ≡ [] → (ps : List Packet) × IsCompound ps octets
is_compound rest octets on end =
    let e = on None ([], (refl, end)) in
    (e.0, reads_compound e.0 octets e.1)

-- ---- reading

-- of these packets, those that aren't read yet are the rest
abbrev pub AreLeft : List Packet → List Packet → List ℕ → Type 0
AreLeft ps so_far rest = (left : List Packet) × Reads false left None rest × (ps ≡ so_far ++ left)

unflagged : (ps : List Packet) (octets : List ℕ) → Reads true ps None octets → AreLeft ps [] octets
unflagged [] octets h = absurd (let e = h.0 in cc)
unflagged (p ∷ ps) octets (rest, t, h) = (
  p ∷ ps,
  (
    rest,
    record {
      front = t.front;
      padding = t.padding;
      parts = t.parts;
      is_packet = t.is_packet;
      report = λ e. absurd cc;
      last = t.last;
    },
    h,
  ),
  refl,
)

pub all_left : (ps : List Packet) (octets : List ℕ) → IsCompound ps octets → AreLeft ps [] octets
all_left ps octets k = unflagged ps octets (compound_reads ps octets k)

pub next_left : (ps so_far : List Packet) (rest : List ℕ) → 0 < length rest → AreLeft ps so_far rest
    → (p : Packet) × (after : List ℕ) × Takes false p rest after
next_left ps so_far rest some ([], h, e) = absurd (omega (arith, some, ap length h.1))
next_left ps so_far rest some (p ∷ left, (after, t, h), e) = (p, after, t)

pub more_left : (ps so_far : List Packet) (q : Packet) (rest after : List ℕ) → 0 < length rest
    → ((p : Packet) (behind : List ℕ) → Takes false p rest behind → (q ≡ p) × (after ≡ behind)) → AreLeft ps so_far rest
    → AreLeft ps (so_far ++ q ∷ []) after
more_left ps so_far q rest after some same ([], h, e) = absurd (omega (arith, some, ap length h.1))
more_left ps so_far q rest after some same (p ∷ left, (next, t, h), e) =
    let s = same p next t in (
      left,
      subst (Reads false left None) (sym s.1) h,
      e ∙ ap (λ (x : Packet). so_far ++ x ∷ left) (sym s.0) ∙ sym (append_assoc so_far (q ∷ []) left),
    )

pub none_left : (ps so_far : List Packet) (rest : List ℕ) → rest ≡ [] → AreLeft ps so_far rest → so_far ≡ ps
none_left ps so_far rest end ([], h, e) = sym (e ∙ append-nil so_far)
none_left ps so_far rest end (p ∷ left, (after, t, h), e) =
    absurd (omega (arith, takes_some false p rest after t, ap length end))
