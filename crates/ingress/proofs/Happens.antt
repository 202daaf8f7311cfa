-- What a packet comes to for the sources that are known.
use Rattle.std.proofs.Common.{◌≡◌, ℕ, ℤ, ◌+◌, Bool, true, false, ◌&&◌, ◌||◌, nat_eq, if◌then◌else◌, List, [], ◌∷◌, ◌++◌}
use Rattle.std.proofs.Common.{length, drop, Option, None, Some, refl, sym, ap, subst, ◌∙◌}
use Rattle.source_valid.specs.declared.verdict.Verdict.{Verdict}
use Rattle.source_valid.specs.declared.verdict.Verdict.TheVariants.{Probation, Accepted, Jump, Restarted}
use Rattle.source_valid.specs.Histories.{accepted, restarts}
use Rattle.source_valid.specs.Ranges.{IsExt, IsInRange}
use Rattle.frame_gate.specs.Packets.{GatePacket, NumberedPacket, numbered}
use Rattle.frame_gate.specs.Epochs.{frames_of, place_of, nacks_of, gives_up}
use Rattle.frame_gate.specs.Admits.{Answers}
use Rattle.ingress.specs.declared.outcome.Outcome.TheVariants.{Spent}
use Rattle.ingress.specs.declared.outcome.Outcome.TheVariants as outcomes
use Rattle.ingress.specs.declared.known.OriginKey.{OriginKey}
use Rattle.ingress.specs.Stories.{Story, RtpArrival, story_by, validated, begins, validated_on, gate_epoch}
use Rattle.ingress.specs.Sources.{Sources, story_at}
use Rattle.media_items.specs.Inputs.{Input}
use Rattle.ingress.specs.Ingested.{Ingested, only, with_items}
use Rattle.ingress.specs.Media.{MediaPacket, Course, origin_of, arrival_of, told, verdict_only, verdict_with, placed}
use Rattle.ingress.specs.Media.{gate_packet}
use Rattle.ingress.specs.Media.{frames_from, gate_course, newly, video_course}
use Rattle.ingress.proofs.Answered.{ingested}
use Rattle.ingress.specs.Taking.{Voice, IsVoice, asked_of, most_epochs, answer_of, sources_after, sourced}
use Rattle.ingress.specs.Ingresses.{Knows}
use Rattle.ingress.specs.inner.SourceEntries.{EntryOf, ValidatedOf, AdmissionOf, Keeps, Validates, Becomes, Admits}
use Rattle.ingress.specs.inner.SourceEntries.{gate_for, kept_by}
use Rattle.ingress.specs.inner.Holding.{IngressOf, key_of, kept_at, kept_for, put_first}
use Rattle.ingress.specs.inner.Moves.{state_in, next_of, Advances, Gates, outcome_at, given}
use Rattle.ingress.proofs.KnownSources.{kept_story, holds_used}
use Rattle.ingress.proofs.Courses.{StandsAt, stands_at, verdict_is, begins_is, epoch_is, keeps_verdict_only, answers_is}
use Rattle.ingress.proofs.Courses.{keeps_packet}

-- this is answered, and these sources are known afterwards
abbrev pub Gives : Ingested → IngressOf → Ingested × Sources → Type 0
Gives ingested new x = (ingested ≡ x.0) × Knows new x.1

where_so : (b : Bool) (x y : Ingested × Sources) (i : Ingested) (new : IngressOf) → b ≡ true → Gives i new x
    → Gives i new (if b then x else y)
where_so true x y i new is h = h
where_so false x y i new is h = cc

otherwise : (b : Bool) (x y : Ingested × Sources) (i : Ingested) (new : IngressOf) → b ≡ false → Gives i new y
    → Gives i new (if b then x else y)
otherwise true x y i new is h = cc
otherwise false x y i new is h = h

pub drop-front : {X : Type 0} (xs ys : List X) → drop (length xs) (xs ++ ys) ≡ ys
drop-front [] ys = refl
drop-front (x ∷ xs) ys = drop-front xs ys

-- judged under another name of the key and the mark
pub named_so : (old : IngressOf) (j : ValidatedOf) (key same_key : OriginKey) (m same_arrival : RtpArrival)
    → key ≡ same_key
    → m ≡ same_arrival → Validates (state_in (kept_for key m.rate old.entries)) m j
    → Validates (state_in (kept_for same_key same_arrival.rate old.entries)) same_arrival j
named_so old j key same_key m same_arrival k e h =
    subst (λ (x : OriginKey). Validates (state_in (kept_for x same_arrival.rate old.entries)) same_arrival j) k
    (subst (λ (x : RtpArrival). Validates (state_in (kept_for key x.rate old.entries)) x j) e h)

-- put to the gate under another name of the key and the number
pub gates_so : (old new : IngressOf) (j : ValidatedOf) (c : MediaPacket) (p : GatePacket) (i : Ingested)
    (key same_key : OriginKey) (ext same_ext : ℤ)
    → key ≡ same_key → ext ≡ same_ext
    → Gates old new key j c (numbered ext p) i → Gates old new same_key j c (numbered same_ext p) i
gates_so old new j c p i key same_key ext same_ext k e h =
    subst (λ (x : OriginKey). Gates old new x j c (numbered same_ext p) i) k
    (subst (λ (x : ℤ). Gates old new key j c (numbered x p) i) e h)

-- put to the gate of a receive side that is the same, with a packet and a number that are the same
pub gates_from : (old now new : IngressOf) (key : OriginKey) (j : ValidatedOf) (c : MediaPacket) (p q : GatePacket)
    (i : Ingested) (ext same_ext : ℤ)
    → old ≡ now → p ≡ q → ext ≡ same_ext
    → Gates old new key j c (numbered ext p) i → Gates now new key j c (numbered same_ext q) i
gates_from old now new key j c p q i ext same_ext o e x h =
    subst (λ (y : IngressOf). Gates y new key j c (numbered same_ext q) i) o (subst
    (λ (y : GatePacket). Gates old new key j c (numbered same_ext y) i) e
    (subst (λ (y : ℤ). Gates old new key j c (numbered y p) i) x h))

-- what a video packet comes to that counts, and one that doesn't
pub video_at_gate : (c : MediaPacket) (v : Verdict) (ext : ℤ) (st : Story) → accepted v ≡ Some ext
    → video_course c v st ≡ gate_course c (numbered ext (gate_packet c.packet)) (outcome_at v) (restarts v) st
video_at_gate c Probation ext st is = cc
video_at_gate c (Accepted e) ext st is =
    let same : e ≡ ext = cc in ap (λ x. gate_course c (numbered x (gate_packet c.packet)) (placed e) false st) same
video_at_gate c Jump ext st is = cc
video_at_gate c (Restarted e) ext st is =
    let same : e ≡ ext = cc in
    ap (λ x. gate_course c (numbered x (gate_packet c.packet)) (λ place. outcomes.Restarted e) true st) same

pub video_verdict_only : (c : MediaPacket) (v : Verdict) (st : Story) → accepted v ≡ None
    → video_course c v st ≡ verdict_only v st
video_verdict_only c Probation st is = refl
video_verdict_only c (Accepted e) st is = cc
video_verdict_only c Jump st is = refl
video_verdict_only c (Restarted e) st is = cc

-- the number of a packet that counts is in range
pub range_of : (v : Verdict) (ext : ℤ) → IsInRange v → accepted v ≡ Some ext → IsExt ext
range_of Probation ext range is = cc
range_of (Accepted e) ext range is = let same : e ≡ ext = cc in subst IsExt same range
range_of Jump ext range is = cc
range_of (Restarted e) ext range is = let same : e ≡ ext = cc in subst IsExt same range

module _ (rate : ℕ) (course_of : Verdict → Story → Course) (c : MediaPacket) (old : IngressOf) (j : ValidatedOf)
    (validates : Validates (state_in (kept_for (key_of (origin_of c)) rate old.entries)) (arrival_of rate c) j) where
  module _ (s : Sources) (knows : Knows old s) where
    abbrev kept : Option EntryOf
    kept = kept_for (key_of (origin_of c)) rate old.entries

    abbrev story : Story
    story = story_by rate (story_at (origin_of c) s.known)

    abbrev later : Story
    later = validated_on story s.epochs (arrival_of rate c)

    at : StandsAt kept story
    at =
        stands_at rate (kept_at (key_of (origin_of c)) old.entries) (story_at (origin_of c) s.known)
        (kept_story (origin_of c) old.entries s.known knows.holds)

    spent_is : (j.begins && nat_eq old.epochs most_epochs)
        ≡ (begins story (arrival_of rate c).seq && nat_eq s.epochs most_epochs)
    spent_is =
        ap (λ b. b && nat_eq old.epochs most_epochs) (begins_is kept story s.epochs (arrival_of rate c) j at validates)
        ∙ ap (λ n. begins story (arrival_of rate c).seq && nat_eq n most_epochs) knows.epochs

    -- the sources that are known once this is kept of the packet's source
    knows_after : (new : IngressOf) (course : Course) (k : EntryOf) → Keeps k course.story
        → new
        ≡ record {
          asker = old.asker;
          entries = put_first (key_of (origin_of c)) k old.entries;
          epochs = if j.begins then old.epochs + 1 else old.epochs;
        }
        → Knows new (sources_after c (begins story (arrival_of rate c).seq) course s)
    knows_after new course k keeps is =
        subst (λ (i : IngressOf). Knows i (sources_after c (begins story (arrival_of rate c).seq) course s)) (sym is)
        (record {
          holds = holds_used (origin_of c) k course.story old.entries s.known keeps knows.holds;
          epochs =
              ap (λ b. if b then old.epochs + 1 else old.epochs)
              (begins_is kept story s.epochs (arrival_of rate c) j at validates)
              ∙ ap (λ n. if begins story (arrival_of rate c).seq then n + 1 else n) knows.epochs;
        })

    pub when_spent : (voice : Voice) → (j.begins && nat_eq old.epochs most_epochs) ≡ true
        → Gives (only Spent) old (sourced voice rate course_of c s)
    when_spent voice spent = where_so _ _ _ _ _ (sym spent_is ∙ spent) (refl, knows)

    course_is : (course : Story → Course) → ((st : Story) → course_of j.verdict st ≡ course st)
        → course_of (validated story (arrival_of rate c).seq) later ≡ course later
    course_is course is =
        ap (λ v. course_of v later) (sym (verdict_is kept story s.epochs (arrival_of rate c) j at validates)) ∙ is later

    -- the packet comes to this
    when_course : (voice : Voice) (ingested : Ingested) (new : IngressOf) (course : Story → Course)
        → (j.begins && nat_eq old.epochs most_epochs) ≡ false → ((st : Story) → course_of j.verdict st ≡ course st)
        → ingested ≡ answer_of voice c (course later)
        → Knows new (sources_after c (begins story (arrival_of rate c).seq) (course later) s)
        → Gives ingested new (sourced voice rate course_of c s)
    when_course voice ingested new course free is answered known = otherwise _ _ _ _ _ (sym spent_is ∙ free)
        (subst
        (λ x. Gives ingested new (answer_of voice c x, sources_after c (begins story (arrival_of rate c).seq) x s))
        (sym (course_is course is)) (answered, known))

    -- what becomes of what is kept at the rate of the judged packet, with as many epochs as have begun
    becomes_so : (a : Option AdmissionOf) (k : EntryOf)
        → Becomes (kept_for (key_of (origin_of c)) j.rate old.entries)
        (next_of (kept_for (key_of (origin_of c)) j.rate old.entries) old.epochs j a) k
        → Becomes kept (next_of kept s.epochs j a) k
    becomes_so a k h =
        let at_key = kept_at (key_of (origin_of c)) old.entries in
        subst (λ n. Becomes kept (next_of kept n j a) k) knows.epochs
        (subst (λ r. Becomes (kept_by r at_key) (next_of (kept_by r at_key) old.epochs j a) k) validates.rate h)

    pub when_verdict_with : (voice : Voice) (new : IngressOf) (items : List Input)
        → (j.begins && nat_eq old.epochs most_epochs) ≡ false
        → ((st : Story) → course_of j.verdict st ≡ verdict_with j.verdict items st)
        → Advances old new (key_of (origin_of c)) j None
        → Gives (with_items (told j.verdict) items) new (sourced voice rate course_of c s)
    when_verdict_with voice new items free is advances =
        when_course voice (with_items (told j.verdict) items) new (verdict_with j.verdict items) free is refl
        (knows_after new (verdict_with j.verdict items later) advances.0
        (keeps_verdict_only kept story s.epochs (arrival_of rate c) j at validates advances.0
        (becomes_so None advances.0 advances.1))
        advances.2)

    pub when_verdict_only : (voice : Voice) (new : IngressOf) → (j.begins && nat_eq old.epochs most_epochs) ≡ false
        → ((st : Story) → course_of j.verdict st ≡ verdict_only j.verdict st)
        → Advances old new (key_of (origin_of c)) j None
        → Gives (only (told j.verdict)) new (sourced voice rate course_of c s)
    when_verdict_only voice new free is advances = when_verdict_with voice new [] free is advances

    -- what the gate answers is what is defined of the packet
    given_is : (voice : Voice) (p : NumberedPacket) (a : AdmissionOf) (epoch : ℕ)
        → Answers (gate_epoch later) p a.prepared.prepared.answer → epoch ≡ later.epoch
        → given voice c epoch j.verdict a.prepared.prepared.answer
        ≡ answer_of voice c (gate_course c p (outcome_at j.verdict) (restarts j.verdict) later)
    given_is voice p a epoch answers same =
        let e = gate_epoch later in
        let answer = a.prepared.prepared.answer in
        let anew = restarts j.verdict in
        let new_ones : newly e p ≡ answer.frames =
        ap (drop (length (frames_of e))) answers.frames ∙ drop-front (frames_of e) answer.frames in
        ap
        (λ place.
        ingested (outcome_at j.verdict place) (asked_of voice (origin_of c) answer.nacks (anew || answer.pli))
        (frames_from (origin_of c) c.moment epoch answer.frames))
        answers.place
        ∙ ap
        (λ ns.
        ingested (outcome_at j.verdict (place_of e p)) (asked_of voice (origin_of c) ns (anew || answer.pli))
        (frames_from (origin_of c) c.moment epoch answer.frames))
        answers.nacks
        ∙ ap
        (λ b.
        ingested (outcome_at j.verdict (place_of e p)) (asked_of voice (origin_of c) (nacks_of e p) (anew || b))
        (frames_from (origin_of c) c.moment epoch answer.frames))
        answers.pli
        ∙ ap
        (λ n.
        ingested (outcome_at j.verdict (place_of e p))
        (asked_of voice (origin_of c) (nacks_of e p) (anew || gives_up e p))
        (frames_from (origin_of c) c.moment n answer.frames))
        same
        ∙ ap
        (λ fs.
        ingested (outcome_at j.verdict (place_of e p))
        (asked_of voice (origin_of c) (nacks_of e p) (anew || gives_up e p))
        (frames_from (origin_of c) c.moment later.epoch fs))
        (sym new_ones)

    pub when_at_gate : (voice : Voice) (ingested : Ingested) (new : IngressOf) (p : NumberedPacket) → IsVoice voice
        → voice.asker ≡ old.asker
        → (j.begins && nat_eq old.epochs most_epochs) ≡ false
        → ((st : Story) → course_of j.verdict st ≡ gate_course c p (outcome_at j.verdict) (restarts j.verdict) st)
        → Gates old new (key_of (origin_of c)) j c p ingested → Gives ingested new (sourced voice rate course_of c s)
    when_at_gate voice ingested new p right asker free is gates =
        let a = gates.admission in
        let k = gates.advances.0 in
        let at_key = kept_at (key_of (origin_of c)) old.entries in
        let becomes = becomes_so (Some a) k gates.advances.1 in
        let admits = subst (λ r. Admits (gate_for (kept_by r at_key) j.begins) p a) validates.rate gates.admits in
        when_course voice ingested new (gate_course c p (outcome_at j.verdict) (restarts j.verdict)) free is
        (gates.answers voice right asker ∙ given_is voice p a _
        (answers_is kept story s.epochs (arrival_of rate c) j at validates p a k admits becomes)
        (subst (λ r. (next_of (kept_by r at_key) old.epochs j (Some a)).epoch ≡ later.epoch) (sym validates.rate)
        (subst (λ n. (next_of kept n j (Some a)).epoch ≡ later.epoch) (sym knows.epochs)
        (epoch_is kept story s.epochs (arrival_of rate c) j at validates (Some a)))))
        (knows_after new (gate_course c p (outcome_at j.verdict) (restarts j.verdict) later) k
        (keeps_packet kept story s.epochs (arrival_of rate c) j at validates p a k admits becomes) gates.advances.2)
