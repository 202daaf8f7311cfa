-- Octets are read as packets in one way, and what is a packet has no fault.
use Rattle.std.proofs.Common.{◌≡◌, ℕ, zero, suc, ◌+◌, ◌-◌, ◌*◌, ◌/◌, ◌%◌, ◌^◌, ◌<◌, ◌≤◌, Bool, true, false, cond, List}
use Rattle.std.proofs.Common.{[], ◌∷◌, ◌++◌, length, get_or, take, drop, Option, Some, None, ℤ, pos, negsuc, refl, sym}
use Rattle.std.proofs.Common.{ap, subst, ◌∙◌, append_assoc, arith, length-append, inl, inr}
use Rattle.std.specs.Prelude.{nat_lt, ◌==◌, ◌⊎◌}
use Rattle.std.specs.Int.{w16, w32, w64, from_be_bytes, to_be_bytes}
use Rattle.std.specs.List.{flat_map, AllByRecursion}
use Rattle.std.proofs.lemmas.Bool.{lt-ltb, ltb-true}
use Rattle.std.proofs.lemmas.List.{append-nil, take_at, drop_at}
use Rattle.std.proofs.lemmas.Int.{ints}
use Rattle.std.proofs.lemmas.Nat.{from_be_bytes-to_be_bytes_2, from_be_bytes-to_be_bytes_8}
use Rattle.std.proofs.Math.Seq.{get_or-append_seam}
use Rattle.rtp_codec.specs.Packet.{number_octets, IsPadding}
use Rattle.rtcp_codec.specs.declared.fault.RtcpFault.{RtcpFault}
use Rattle.rtcp_codec.specs.declared.fault.RtcpFault.TheVariants.{Short, Version, First, Length, Padding, Body}
use Rattle.rtcp_codec.specs.declared.nack.NackWord.{NackWord}
use Rattle.rtcp_codec.specs.declared.report.ReportBlock.{ReportBlock}
use Rattle.rtcp_codec.specs.Report.{twos_complement, octets_24, block_octets, FitsLost}
use Rattle.rtcp_codec.specs.Nack.{word_octets, FitsWord}
use Rattle.rtcp_codec.specs.declared.kind.PacketKind.{PacketKind}
use Rattle.rtcp_codec.specs.Description.{Chunk, chunk_octets, IsFill, Describe, FitsChunk, HasChunks}
use Rattle.rtcp_codec.specs.Packet.{Packet, Sender, Receiver, Sdes, Bye, App, Nack, Pli, Other, kind, type_of, count_of}
use Rattle.rtcp_codec.specs.Packet.{fields, IsBody, IsPacket, common_header}
use Rattle.rtcp_codec.specs.Kind.{kind_of}
use Rattle.rtcp_codec.specs.Compound.{IsFirstOf, fault_order, Case, IsReport, IsBadPadding, IsWholeBody, IsWholeReason}
use Rattle.rtcp_codec.specs.Compound.{version, size, count, kind_at, is_padded, padding_of, packet_at, body_of}
use Rattle.rtcp_codec.specs.inner.Reading.{IsSoundBlock, FitsFields, IsOf, Takes, Reads}
use Rattle.rtcp_codec.proofs.Fitting.{fields_fit, few}
use Rattle.rtcp_codec.proofs.Framing.{kind_is}
use Rattle.rtcp_codec.proofs.Descriptions.{same_chunk, same_fill}
use Rattle.rtcp_codec.proofs.Lists.{front_of, same_split, same_number, words_length, blocks_length, numbers_length}
use Rattle.rtcp_codec.proofs.Lists.{behind_numbers}

-- ---- numbers

same_number_16 : (m n : ℕ) (a b : List ℕ) → m < 2 ^ 16 → n < 2 ^ 16 → to_be_bytes w16 m ++ a ≡ to_be_bytes w16 n ++ b
    → (m ≡ n) × (a ≡ b)
same_number_16 m n a b hm hn e =
    let s = same_split (to_be_bytes w16 m) (to_be_bytes w16 n) a b refl e in
    (sym (from_be_bytes-to_be_bytes_2 m hm) ∙ ap (from_be_bytes w16) s.0 ∙ from_be_bytes-to_be_bytes_2 n hn, s.1)

same_number_64 : (m n : ℕ) (a b : List ℕ) → m < 2 ^ 64 → n < 2 ^ 64 → to_be_bytes w64 m ++ a ≡ to_be_bytes w64 n ++ b
    → (m ≡ n) × (a ≡ b)
same_number_64 m n a b hm hn e =
    let s = same_split (to_be_bytes w64 m) (to_be_bytes w64 n) a b refl e in
    (sym (from_be_bytes-to_be_bytes_8 m hm) ∙ ap (from_be_bytes w64) s.0 ∙ from_be_bytes-to_be_bytes_8 n hn, s.1)

-- ---- lists of values

same_texts : {X : Type 0} (f : X → List ℕ) (Fit : X → Type 0)
    → ((x y : X) (a b : List ℕ) → Fit x → Fit y → f x ++ a ≡ f y ++ b → (x ≡ y) × (a ≡ b)) →
    (xs ys : List X) (a b : List ℕ) → length xs ≡ length ys → AllByRecursion Fit xs → AllByRecursion Fit ys
    → flat_map f xs ++ a ≡ flat_map f ys ++ b → (xs ≡ ys) × (a ≡ b)
same_texts f Fit same [] [] a b len h k e = (refl, e)
same_texts f Fit same (x ∷ xs) (y ∷ ys) a b len h k e =
    let s =
    same x y (flat_map f xs ++ a) (flat_map f ys ++ b) h.0 k.0 (sym (front_of f x xs a) ∙ e ∙ front_of f y ys b) in
    let r = same_texts f Fit same xs ys a b (omega arith) h.1 k.1 s.1 in
    (ap (λ z. z ∷ xs) s.0 ∙ ap (λ l. y ∷ l) r.0, r.1)
same_texts f Fit same [] (y ∷ ys) a b len h k e = absurd (omega arith)
same_texts f Fit same (x ∷ xs) [] a b len h k e = absurd (omega arith)

same_word : (v w : NackWord) (a b : List ℕ) → FitsWord v → FitsWord w → word_octets v ++ a ≡ word_octets w ++ b
    → (v ≡ w) × (a ≡ b)
same_word v w a b h k e =
    let p = same_number_16 v.pid w.pid (to_be_bytes w16 v.blp ++ a) (to_be_bytes w16 w.blp ++ b) h.pid k.pid e in
    let q = same_number_16 v.blp w.blp a b h.blp k.blp p.1 in
    let made : ℕ → ℕ → NackWord = λ pid blp. record { pid = pid; blp = blp } in
    (ap (λ (n : ℕ). made n v.blp) p.0 ∙ ap (λ (n : ℕ). made w.pid n) q.0, q.1)

-- ---- blocks

twos_below : (z : ℤ) → FitsLost z → twos_complement z < 2 ^ 24
twos_below (pos n) h = omega (arith, ints, h.high)
twos_below (negsuc n) h = omega (arith, ints, h.low)

same_twos : (y z : ℤ) → FitsLost y → FitsLost z → twos_complement y ≡ twos_complement z → y ≡ z
same_twos (pos m) (pos n) h k e = ap pos e
same_twos (negsuc m) (negsuc n) h k e = ap negsuc (omega (arith, ints, e, h.low, k.low))
same_twos (pos m) (negsuc n) h k e = absurd (omega (arith, ints, e, h.high, k.low))
same_twos (negsuc m) (pos n) h k e = absurd (omega (arith, ints, e, h.low, k.high))

same_24 : (m n : ℕ) → m < 2 ^ 24 → n < 2 ^ 24 → octets_24 m ≡ octets_24 n → m ≡ n
same_24 m n hm hn e =
    let x : m / 2 ^ 16 % 256 ≡ n / 2 ^ 16 % 256 = ap (λ (l : List ℕ). get_or l 0 0) e in
    let y : m / 2 ^ 8 % 256 ≡ n / 2 ^ 8 % 256 = ap (λ (l : List ℕ). get_or l 1 0) e in
    let z : m % 256 ≡ n % 256 = ap (λ (l : List ℕ). get_or l 2 0) e in
    omega (arith, x, y, z)

same_lost : (y z : ℤ) (a b : List ℕ) → FitsLost y → FitsLost z
    → octets_24 (twos_complement y) ++ a ≡ octets_24 (twos_complement z) ++ b → (y ≡ z) × (a ≡ b)
same_lost y z a b h k e =
    let s = same_split (octets_24 (twos_complement y)) (octets_24 (twos_complement z)) a b refl e in
    (same_twos y z h k (same_24 (twos_complement y) (twos_complement z) (twos_below y h) (twos_below z k) s.0), s.1)

heads : (x y : ℕ) (a b : List ℕ) → x ∷ a ≡ y ∷ b → (x ≡ y) × (a ≡ b)
heads x y a b e = (cc, cc)

same_block : (b c : ReportBlock) (r s : List ℕ) → IsSoundBlock b → IsSoundBlock c
    → block_octets b ++ r ≡ block_octets c ++ s → (b ≡ c) × (r ≡ s)
same_block b c r s h k e =
    let n1 =
    same_number b.ssrc c.ssrc (b.fraction ∷ octets_24 (twos_complement b.lost)
    ++ (to_be_bytes w32 b.highest
    ++ (to_be_bytes w32 b.jitter ++ (to_be_bytes w32 b.lsr ++ (to_be_bytes w32 b.dlsr ++ r)))))
    (c.fraction ∷ octets_24 (twos_complement c.lost)
    ++ (to_be_bytes w32 c.highest
    ++ (to_be_bytes w32 c.jitter ++ (to_be_bytes w32 c.lsr ++ (to_be_bytes w32 c.dlsr ++ s)))))
    h.numbers.ssrc k.numbers.ssrc e in
    let n2 =
    heads b.fraction c.fraction (octets_24 (twos_complement b.lost)
    ++ (to_be_bytes w32 b.highest
    ++ (to_be_bytes w32 b.jitter ++ (to_be_bytes w32 b.lsr ++ (to_be_bytes w32 b.dlsr ++ r)))))
    (octets_24 (twos_complement c.lost)
    ++ (to_be_bytes w32 c.highest
    ++ (to_be_bytes w32 c.jitter ++ (to_be_bytes w32 c.lsr ++ (to_be_bytes w32 c.dlsr ++ s)))))
    n1.1 in
    let n3 =
    same_lost b.lost c.lost
    (to_be_bytes w32 b.highest
    ++ (to_be_bytes w32 b.jitter ++ (to_be_bytes w32 b.lsr ++ (to_be_bytes w32 b.dlsr ++ r))))
    (to_be_bytes w32 c.highest
    ++ (to_be_bytes w32 c.jitter ++ (to_be_bytes w32 c.lsr ++ (to_be_bytes w32 c.dlsr ++ s))))
    h.lost k.lost n2.1 in
    let n4 =
    same_number b.highest c.highest
    (to_be_bytes w32 b.jitter ++ (to_be_bytes w32 b.lsr ++ (to_be_bytes w32 b.dlsr ++ r)))
    (to_be_bytes w32 c.jitter ++ (to_be_bytes w32 c.lsr ++ (to_be_bytes w32 c.dlsr ++ s))) h.numbers.highest
    k.numbers.highest n3.1 in
    let n5 =
    same_number b.jitter c.jitter (to_be_bytes w32 b.lsr ++ (to_be_bytes w32 b.dlsr ++ r))
    (to_be_bytes w32 c.lsr ++ (to_be_bytes w32 c.dlsr ++ s)) h.numbers.jitter k.numbers.jitter n4.1 in
    let n6 =
    same_number b.lsr c.lsr (to_be_bytes w32 b.dlsr ++ r) (to_be_bytes w32 c.dlsr ++ s) h.numbers.lsr k.numbers.lsr
    n5.1 in
    let n7 = same_number b.dlsr c.dlsr r s h.numbers.dlsr k.numbers.dlsr n6.1 in
    let made : ℕ → ℕ → ℤ → ℕ → ℕ → ℕ → ℕ → ReportBlock = λ ssrc fraction lost highest jitter lsr dlsr.
    record {
      ssrc = ssrc;
      fraction = fraction;
      lost = lost;
      highest = highest;
      jitter = jitter;
      lsr = lsr;
      dlsr = dlsr;
    } in
    let same : made b.ssrc b.fraction b.lost b.highest b.jitter b.lsr b.dlsr
    ≡ made c.ssrc c.fraction c.lost c.highest c.jitter c.lsr c.dlsr =
    rw (n1.0, n2.0, n3.0, n4.0, n5.0, n6.0, n7.0) refl in
    (same, n7.1)

-- ---- bodies

same_blocks : (bs cs : List ReportBlock) (a b : List ℕ) → length bs ≡ length cs → AllByRecursion IsSoundBlock bs
    → AllByRecursion IsSoundBlock cs → flat_map block_octets bs ++ a ≡ flat_map block_octets cs ++ b
    → (bs ≡ cs) × (a ≡ b)
same_blocks = same_texts block_octets IsSoundBlock same_block

same_ssrcs : (ms ns : List ℕ) (a b : List ℕ) → length ms ≡ length ns → AllByRecursion (λ ssrc. ssrc < 2 ^ 32) ms
    → AllByRecursion (λ ssrc. ssrc < 2 ^ 32) ns → number_octets ms ++ a ≡ number_octets ns ++ b → (ms ≡ ns) × (a ≡ b)
same_ssrcs =
    same_texts (λ (n : ℕ). to_be_bytes w32 n) (λ ssrc. ssrc < 2 ^ 32) (λ m n a b h k e. same_number m n a b h k e)

same_chunks : (cs ds : List Chunk) (body : List ℕ) → length cs ≡ length ds → AllByRecursion FitsChunk cs
    → AllByRecursion FitsChunk ds → Describe cs body → Describe ds body → cs ≡ ds
same_chunks [] [] body len h k x y = refl
same_chunks (c ∷ cs) (d ∷ ds) body len h k x y =
    let s = same_chunk c d (x.0 ++ x.1) (y.0 ++ y.1) h.0 k.0 (sym x.2 ∙ y.2) in
    let other : IsFill (length (chunk_octets c)) y.0 =
    subst (λ (z : Chunk). IsFill (length (chunk_octets z)) y.0) (sym s.0) y.3 in
    let f = same_split x.0 y.0 x.1 y.1 (same_fill (length (chunk_octets c)) x.0 y.0 x.3 other) s.1 in
    let r = same_chunks cs ds x.1 (omega arith) h.1 k.1 x.4 (subst (Describe ds) (sym f.1) y.4) in
    ap (λ (z : Chunk). z ∷ cs) s.0 ∙ ap (λ (l : List Chunk). d ∷ l) r
same_chunks [] (d ∷ ds) body len h k x y = absurd (omega arith)
same_chunks (c ∷ cs) [] body len h k x y = absurd (omega arith)

same_sender : (s1 n1 t1 p1 o1 : ℕ) (bs : List ReportBlock) (s2 n2 t2 p2 o2 : ℕ) (cs : List ReportBlock) (a b : List ℕ)
    → length bs ≡ length cs → FitsFields (Sender s1 n1 t1 p1 o1 bs) → FitsFields (Sender s2 n2 t2 p2 o2 cs)
    → fields (Sender s1 n1 t1 p1 o1 bs) ++ a ≡ fields (Sender s2 n2 t2 p2 o2 cs) ++ b
    → Sender s1 n1 t1 p1 o1 bs ≡ Sender s2 n2 t2 p2 o2 cs
same_sender s1 n1 t1 p1 o1 bs s2 n2 t2 p2 o2 cs a b len h k e =
    let q1 =
    same_number s1 s2
    (to_be_bytes w64 n1
    ++ (to_be_bytes w32 t1 ++ (to_be_bytes w32 p1 ++ (to_be_bytes w32 o1 ++ (flat_map block_octets bs ++ a)))))
    (to_be_bytes w64 n2
    ++ (to_be_bytes w32 t2 ++ (to_be_bytes w32 p2 ++ (to_be_bytes w32 o2 ++ (flat_map block_octets cs ++ b)))))
    h.0 k.0 e in
    let q2 =
    same_number_64 n1 n2
    (to_be_bytes w32 t1 ++ (to_be_bytes w32 p1 ++ (to_be_bytes w32 o1 ++ (flat_map block_octets bs ++ a))))
    (to_be_bytes w32 t2 ++ (to_be_bytes w32 p2 ++ (to_be_bytes w32 o2 ++ (flat_map block_octets cs ++ b)))) h.1 k.1
    q1.1 in
    let q3 =
    same_number t1 t2 (to_be_bytes w32 p1 ++ (to_be_bytes w32 o1 ++ (flat_map block_octets bs ++ a)))
    (to_be_bytes w32 p2 ++ (to_be_bytes w32 o2 ++ (flat_map block_octets cs ++ b))) h.2 k.2 q2.1 in
    let q4 =
    same_number p1 p2 (to_be_bytes w32 o1 ++ (flat_map block_octets bs ++ a))
    (to_be_bytes w32 o2 ++ (flat_map block_octets cs ++ b)) h.3 k.3 q3.1 in
    let q5 = same_number o1 o2 (flat_map block_octets bs ++ a) (flat_map block_octets cs ++ b) h.4 k.4 q4.1 in
    let q6 = same_blocks bs cs a b len h.5 k.5 q5.1 in
    rw (q1.0, q2.0, q3.0, q4.0, q5.0, q6.0) refl

same_nack : (s1 m1 : ℕ) (vs : List NackWord) (s2 m2 : ℕ) (ws : List NackWord) → FitsFields (Nack s1 m1 vs)
    → FitsFields (Nack s2 m2 ws) → fields (Nack s1 m1 vs) ≡ fields (Nack s2 m2 ws) → Nack s1 m1 vs ≡ Nack s2 m2 ws
same_nack s1 m1 vs s2 m2 ws h k e =
    let q1 =
    same_number s1 s2 (to_be_bytes w32 m1 ++ flat_map word_octets vs) (to_be_bytes w32 m2 ++ flat_map word_octets ws)
    h.0 k.0 e in
    let q2 = same_number m1 m2 (flat_map word_octets vs) (flat_map word_octets ws) h.1 k.1 q1.1 in
    let len : length vs ≡ length ws = omega (arith, words_length vs, words_length ws, ap length q2.1) in
    let q3 = same_texts word_octets FitsWord same_word vs ws [] [] len h.3 k.3 (ap (λ (l : List ℕ). l ++ []) q2.1) in
    rw (q1.0, q2.0, q3.0) refl

pub same_body : (p q : Packet) (body : List ℕ) → kind p ≡ kind q → type_of p ≡ type_of q → count_of p ≡ count_of q
    → FitsFields p → FitsFields q → IsBody p body → IsBody q body → p ≡ q
same_body (Sender s1 n1 t1 p1 o1 bs) (Sender s2 n2 t2 p2 o2 cs) body k t n f g x y =
    same_sender s1 n1 t1 p1 o1 bs s2 n2 t2 p2 o2 cs x.0 y.0 n f g (sym x.1 ∙ y.1)
same_body (Receiver s1 bs) (Receiver s2 cs) body k t n f g x y =
    let q1 =
    same_number s1 s2 (flat_map block_octets bs ++ x.0) (flat_map block_octets cs ++ y.0) f.0 g.0 (sym x.1 ∙ y.1) in
    let q2 = same_blocks bs cs x.0 y.0 n f.1 g.1 q1.1 in
    rw (q1.0, q2.0) refl
same_body (Sdes cs) (Sdes ds) body k t n f g x y = ap Sdes (same_chunks cs ds body n f g x y)
same_body (Bye ms None) (Bye ns None) body k t n f g x y =
    let q = same_ssrcs ms ns [] [] n f.0 g.0 (sym x ∙ y) in
    ap (λ (l : List ℕ). Bye l None) q.0
same_body (Bye ms (Some r)) (Bye ns (Some s)) body k t n f g x y =
    let q =
    same_ssrcs ms ns (length r ∷ r ++ x.0) (length s ∷ s ++ y.0) n f.0 g.0 (sym
    (append_assoc (number_octets ms) (length r ∷ r) x.0)
    ∙ sym x.1
    ∙ y.1
    ∙ append_assoc (number_octets ns) (length s ∷ s) y.0) in
    let l = heads (length r) (length s) (r ++ x.0) (s ++ y.0) q.1 in
    let u = same_split r s x.0 y.0 l.0 l.1 in
    rw (q.0, u.0) refl
same_body (Bye ms None) (Bye ns (Some s)) body k t n f g x y =
    let q =
    same_ssrcs ms ns [] (length s ∷ s ++ y.0) n f.0 g.0
    (sym x ∙ y.1 ∙ append_assoc (number_octets ns) (length s ∷ s) y.0) in
    absurd (let e = q.1 in cc)
same_body (Bye ms (Some r)) (Bye ns None) body k t n f g x y =
    let q =
    same_ssrcs ms ns (length r ∷ r ++ x.0) [] n f.0 g.0
    (sym (append_assoc (number_octets ms) (length r ∷ r) x.0) ∙ sym x.1 ∙ y) in
    absurd (let e = q.1 in cc)
same_body (App s1 r1 m1 c1) (App s2 r2 m2 c2) body k t n f g x y =
    let e : (to_be_bytes w32 r1 ++ m1) ++ c1 ≡ (to_be_bytes w32 r2 ++ m2) ++ c2 = sym x ∙ y in
    let q1 =
    same_number r1 r2 (m1 ++ c1) (m2 ++ c2) f.0 g.0
    (sym (append_assoc (to_be_bytes w32 r1) m1 c1) ∙ e ∙ append_assoc (to_be_bytes w32 r2) m2 c2) in
    let q2 = same_split m1 m2 c1 c2 (f.1 ∙ sym g.1) q1.1 in
    rw (n, q1.0, q2.0, q2.1) refl
same_body (Nack s1 m1 vs) (Nack s2 m2 ws) body k t n f g x y = same_nack s1 m1 vs s2 m2 ws f g (sym x ∙ y)
same_body (Pli s1 m1) (Pli s2 m2) body k t n f g x y =
    let q1 = same_number s1 s2 (to_be_bytes w32 m1 ++ x.0) (to_be_bytes w32 m2 ++ y.0) f.0 g.0 (sym x.1 ∙ y.1) in
    let q2 = same_number m1 m2 x.0 y.0 f.1 g.1 q1.1 in
    rw (q1.0, q2.0) refl
same_body (Other t1 n1 b1) (Other t2 n2 b2) body k t n f g x y = rw (t, n, sym x ∙ y) refl
same_body p q body k t n f g x y = absurd cc

-- ---- packets

padding_length : (n : ℕ) (pad : List ℕ) → IsPadding n pad → length pad ≡ n
padding_length zero pad h = ap length h
padding_length (suc n) pad h = ap length h.2 ∙ omega (arith, length-append h.0 (suc n ∷ []), h.1)

last_octet : (body pad : List ℕ) (n : ℕ) → IsPadding (suc n) pad
    → get_or (body ++ pad) (length (body ++ pad) - 1) 0 ≡ suc n
last_octet body pad n h =
    let shape : body ++ pad ≡ (body ++ h.0) ++ suc n ∷ [] =
    ap (λ (l : List ℕ). body ++ l) h.2 ∙ sym (append_assoc body h.0 (suc n ∷ [])) in
    let len : length ((body ++ h.0) ++ suc n ∷ []) - 1 ≡ length (body ++ h.0) =
    omega (arith, length-append (body ++ h.0) (suc n ∷ [])) in
    ap (λ (l : List ℕ). get_or l (length l - 1) 0) shape
    ∙ ap (λ (i : ℕ). get_or ((body ++ h.0) ++ suc n ∷ []) i 0) len
    ∙ get_or-append_seam (body ++ h.0) (suc n) [] 0

same_padding : (n m : ℕ) (b c p q : List ℕ) → IsPadding n p → IsPadding m q → nat_lt 0 n ≡ nat_lt 0 m → b ++ p ≡ c ++ q
    → (n ≡ m) × (b ≡ c)
same_padding zero zero b c p q h k t e =
    (refl, sym (append-nil b) ∙ ap (λ (l : List ℕ). b ++ l) (sym h) ∙ e ∙ ap (λ (l : List ℕ). c ++ l) k ∙ append-nil c)
same_padding (suc n) (suc m) b c p q h k t e =
    let same : suc n ≡ suc m =
    sym (last_octet b p n h) ∙ ap (λ (l : List ℕ). get_or l (length l - 1) 0) e ∙ last_octet c q m k in
    let len : length b ≡ length c =
    omega (
      arith,
      ap length e,
      length-append b p,
      length-append c q,
      padding_length (suc n) p h,
      padding_length (suc m) q k,
      same,
    ) in
    (same, (same_split b c p q len e).0)
same_padding zero (suc m) b c p q h k t e = absurd (let x = t ∙ lt-ltb 0 (suc m) (omega arith) in cc)
same_padding (suc n) zero b c p q h k t e = absurd (let x = sym t ∙ lt-ltb 0 (suc n) (omega arith) in cc)

same_first : (a b : Bool) (c d : ℕ) → c ≤ 31 → d ≤ 31 → 128 + cond a 32 0 + c ≡ 128 + cond b 32 0 + d
    → (a ≡ b) × (c ≡ d)
same_first true true c d h k e = (refl, omega (arith, e))
same_first false false c d h k e = (refl, omega (arith, e))
same_first true false c d h k e = absurd (omega (arith, e))
same_first false true c d h k e = absurd (omega (arith, e))

fits : {n : ℕ} {octets : List ℕ} (p : Packet) → IsPacket p n octets → FitsFields p
fits p k = fields_fit p k.types k.counted k.lengths k.meaning

same_packet : (p q : Packet) (n m : ℕ) (x y r s : List ℕ) → IsPacket p n x → IsPacket q m y → x ++ r ≡ y ++ s
    → (p ≡ q) × (r ≡ s)
same_packet p q n m x y r s k l e =
    let i = k.body ++ k.padding_octets in
    let j = l.body ++ l.padding_octets in
    let hi = common_header (nat_lt 0 n) p k.words in
    let hj = common_header (nat_lt 0 m) q l.words in
    let whole : hi ++ (i ++ r) ≡ hj ++ (j ++ s) =
    sym (append_assoc hi i r)
    ∙ ap (λ (z : List ℕ). z ++ r) (sym k.parts)
    ∙ e
    ∙ ap (λ (z : List ℕ). z ++ s) l.parts
    ∙ append_assoc hj j s in
    let a =
    heads (128 + cond (nat_lt 0 n) 32 0 + count_of p) (128 + cond (nat_lt 0 m) 32 0 + count_of q)
    (type_of p ∷ to_be_bytes w16 k.words ++ (i ++ r)) (type_of q ∷ to_be_bytes w16 l.words ++ (j ++ s)) whole in
    let b =
    heads (type_of p) (type_of q) (to_be_bytes w16 k.words ++ (i ++ r)) (to_be_bytes w16 l.words ++ (j ++ s)) a.1 in
    let c = same_number_16 k.words l.words (i ++ r) (j ++ s) k.words_fit l.words_fit b.1 in
    let first =
    same_first (nat_lt 0 n) (nat_lt 0 m) (count_of p) (count_of q) (few p k.counted) (few q l.counted) a.0 in
    let len : length i ≡ length j = omega (arith, ap length k.parts, ap length l.parts, k.size, l.size, c.0) in
    let d = same_split i j r s len c.1 in
    let f = same_padding n m k.body l.body k.padding_octets l.padding_octets k.is_padding l.is_padding first.0 d.0 in
    let kinds : kind p ≡ kind q =
    sym (kind_is p (fits p k))
    ∙ ap (λ (t : ℕ). kind_of t (count_of p)) b.0
    ∙ ap (kind_of (type_of q)) first.1
    ∙ kind_is q (fits q l) in
    (same_body p q k.body kinds b.0 first.1 (fits p k) (fits q l) k.is_body (subst (IsBody q) (sym f.1) l.is_body), d.1)

pub same_takes : (first : Bool) (p q : Packet) (octets r s : List ℕ) → Takes first p octets r → Takes first q octets s
    → (p ≡ q) × (r ≡ s)
same_takes first p q octets r s k l =
    same_packet p q k.padding l.padding k.front l.front r s k.is_packet l.is_packet (sym k.parts ∙ l.parts)

-- ---- whole bodies

describes : (n : ℕ) (cs : List Chunk) (body : List ℕ) → length cs ≡ n → AllByRecursion FitsChunk cs → Describe cs body
    → HasChunks n body
describes n cs body len h d = (cs, len, h, d)

whole_body : (p : Packet) (body : List ℕ) → FitsFields p → IsBody p body → IsWholeBody (kind p) (count_of p) body
whole_body (Sender s n t c o bs) body f h =
    omega (arith, ap length h.1, length-append (fields (Sender s n t c o bs)) h.0, blocks_length bs)
whole_body (Receiver s bs) body f h =
    omega (arith, ap length h.1, length-append (fields (Receiver s bs)) h.0, blocks_length bs)
whole_body (Sdes cs) body f h = describes (length cs) cs body refl f h
whole_body (Bye ns None) body f h = (
  omega (arith, ap length h, length-append (number_octets ns) [], numbers_length ns),
  subst IsWholeReason (sym (behind_numbers ns body [] (length ns) refl h)) tt,
)
whole_body (Bye ns (Some r)) body f h =
    let e : body ≡ number_octets ns ++ (length r ∷ r ++ h.0) =
    h.1 ∙ append_assoc (number_octets ns) (length r ∷ r) h.0 in (
      omega (arith, ap length e, length-append (number_octets ns) (length r ∷ r ++ h.0), numbers_length ns),
      subst IsWholeReason (sym (behind_numbers ns body (length r ∷ r ++ h.0) (length ns) refl e))
          (omega (arith, length-append r h.0)),
    )
whole_body (App t s m c) body f h =
    omega (arith, ap length h, length-append (to_be_bytes w32 s ++ m) c, length-append (to_be_bytes w32 s) m, f.1)
whole_body (Nack s m ws) body f h = omega (arith, ap length h, words_length ws, f.2)
whole_body (Pli s m) body f h = omega (arith, ap length h.1, length-append (fields (Pli s m)) h.0)
whole_body (Other t n b) body f h = tt

-- ---- a packet has no fault

head_fields : (padded : Bool) (c : ℕ) → c ≤ 31
    → let x = 128 + cond padded 32 0 + c in (x / 64 ≡ 2) × (x / 32 % 2 ≡ cond padded 1 0) × (x % 32 ≡ c)
head_fields true c h = (omega arith, omega arith, omega arith)
head_fields false c h = (omega arith, omega arith, omega arith)

bit_is : (b : Bool) (n : ℕ) → n ≡ cond b 1 0 → (n == 1) ≡ b
bit_is true n h = rw h refl
bit_is false n h = rw h refl

-- what the octets of a packet say of it
pub record Says (p : Packet) (n : ℕ) (front : List ℕ) (body : List ℕ) : Type 0 where
  pub is_version : version front ≡ 2
  pub its_size : size front ≡ length front
  pub long : 4 ≤ length front
  pub its_kind : kind_at front ≡ kind p
  pub its_count : count front ≡ count_of p
  pub padded : is_padded front ≡ nat_lt 0 n
  pub its_padding : padding_of front ≡ n
  pub its_body : body_of front ≡ body
  pub behind : 4 + n ≤ length front

padding_said : (padded : Bool) (n last : ℕ) → padded ≡ nat_lt 0 n → (0 < n → last ≡ n) → cond padded last 0 ≡ n
padding_said padded zero last e h = ap (λ (b : Bool). cond b last 0) e
padding_said padded (suc n) last e h =
    ap (λ (b : Bool). cond b last 0) (e ∙ lt-ltb 0 (suc n) (omega arith)) ∙ h (omega arith)

last_said : (n : ℕ) (front pad : List ℕ) → IsPadding n pad → 0 < n
    → get_or (front ++ pad) (length (front ++ pad) - 1) 0 ≡ n
last_said zero front pad h some = absurd (omega arith)
last_said (suc n) front pad h some = last_octet front pad n h

pub says : (p : Packet) (n : ℕ) (front : List ℕ) (k : IsPacket p n front) → Says p n front k.body
says p n front k =
    let padded = nat_lt 0 n in
    let hdr = common_header padded p k.words in
    let i = k.body ++ k.padding_octets in
    let whole = hdr ++ i in
    let x = 128 + cond padded 32 0 + count_of p in
    let f = head_fields padded (count_of p) (few p k.counted) in
    let bit : is_padded whole ≡ padded = bit_is padded (x / 32 % 2) f.1 in
    let len : length whole ≡ 4 * (k.words + 1) = ap length (sym k.parts) ∙ k.size in
    let parts : length i ≡ length k.body + n =
    omega (arith, length-append k.body k.padding_octets, padding_length n k.padding_octets k.is_padding) in
    let sz : size whole ≡ 4 * (k.words + 1) =
    ap (λ (z : ℕ). 4 * (z + 1)) (from_be_bytes-to_be_bytes_2 k.words k.words_fit) in
    let last : 0 < n → get_or whole (length whole - 1) 0 ≡ n = λ some.
    ap (λ (l : List ℕ). get_or l (length l - 1) 0) (sym (append_assoc hdr k.body k.padding_octets))
    ∙ last_said n (hdr ++ k.body) k.padding_octets k.is_padding some in
    let pad : padding_of whole ≡ n = padding_said (is_padded whole) n (get_or whole (length whole - 1) 0) bit last in
    let cut : length whole - n - 4 ≡ length k.body = omega (arith, parts) in
    let body : body_of whole ≡ k.body =
    ap (λ (m : ℕ). take (length whole - m - 4) i) pad
    ∙ ap (λ (m : ℕ). take m i) cut
    ∙ take_at k.body k.padding_octets (length k.body) refl in
    let it : Says p n whole k.body = record {
      is_version = f.0;
      its_size = sz ∙ sym len;
      long = omega (arith, len);
      its_kind = ap (kind_of (type_of p)) f.2 ∙ kind_is p (fits p k);
      its_count = f.2;
      padded = bit;
      its_padding = pad;
      its_body = body;
      behind = omega (arith, parts);
    } in
    subst (λ (l : List ℕ). Says p n l k.body) (sym k.parts) it

front_at : (octets front rest : List ℕ) → octets ≡ front ++ rest → size front ≡ length front → 4 ≤ length front
    → size octets ≡ length front
front_at octets (a ∷ b ∷ c ∷ d ∷ front) rest e sz long = ap size e ∙ sz
front_at octets (a ∷ b ∷ c ∷ []) rest e sz long = absurd (omega arith)
front_at octets (a ∷ b ∷ []) rest e sz long = absurd (omega arith)
front_at octets (a ∷ []) rest e sz long = absurd (omega arith)
front_at octets [] rest e sz long = absurd (omega arith)

head_at : (octets front rest : List ℕ) → octets ≡ front ++ rest → 4 ≤ length front
    → (version octets ≡ version front) × (kind_at octets ≡ kind_at front)
head_at octets (a ∷ b ∷ front) rest e long = (ap version e, ap kind_at e)
head_at octets (a ∷ []) rest e long = absurd (omega arith)
head_at octets [] rest e long = absurd (omega arith)

no_bad_padding : (n m : ℕ) (front : List ℕ) → m ≡ n → 0 < n → n % 4 ≡ 0 → 4 + n ≤ length front → IsBadPadding m front
    → ⊥
no_bad_padding n m front e some words behind (inl h) = omega (arith, e, h)
no_bad_padding n m front e some words behind (inr (inl h)) = h (ap (λ (k : ℕ). k % 4) e ∙ words)
no_bad_padding n m front e some words behind (inr (inr h)) = omega (arith, e, h)

some_padding : (n : ℕ) → nat_lt 0 n ≡ true → 0 < n
some_padding n e = ltb-true 0 n e

no_padding_fault : (n : ℕ) (octets front rest : List ℕ) → octets ≡ front ++ rest → size octets ≡ length front
    → packet_at octets ≡ front → is_padded front ≡ nat_lt 0 n → padding_of front ≡ n → (0 < n → rest ≡ []) → n % 4 ≡ 0
    → 4 + n ≤ length front → (first : Bool) → Case first Padding octets → ⊥
no_padding_fault n octets front rest e sz at padded pad last words behind first h =
    let set : is_padded front ≡ true = sym (ap is_padded at) ∙ h.0 in
    let some : 0 < n = some_padding n (sym padded ∙ set) in
    let len : length octets ≡ length front =
    ap length e ∙ length-append front rest ∙ ap (λ (l : List ℕ). length front + length l) (last some) ∙ omega arith in
    elim h.1 [
      | inl longer ↦ omega (arith, longer, sz, len)
      | inr bad ↦
          no_bad_padding n (padding_of (packet_at octets)) (packet_at octets) (ap padding_of at ∙ pad) some words
          (omega (arith, behind, ap length at)) bad
    ]

whole_said : (p : Packet) (front body : List ℕ) → kind_at front ≡ kind p → count front ≡ count_of p
    → body_of front ≡ body → IsWholeBody (kind p) (count_of p) body
    → IsWholeBody (kind_at front) (count front) (body_of front)
whole_said p front body k c b h =
    subst (λ (z : PacketKind). IsWholeBody z (count front) (body_of front)) (sym k)
    (subst (λ (z : ℕ). IsWholeBody (kind p) z (body_of front)) (sym c)
    (subst (IsWholeBody (kind p) (count_of p)) (sym b) h))

none_of : (f : RtcpFault) (first : Bool) (octets : List ℕ) → (Case first Short octets → ⊥)
    → (Case first Version octets → ⊥) → (Case first First octets → ⊥) → (Case first Length octets → ⊥)
    → (Case first Padding octets → ⊥) → (Case first Body octets → ⊥) → IsFirstOf fault_order first f octets → ⊥
none_of f first octets a b c d e g (inl h) = a h.0
none_of f first octets a b c d e g (inr (n, inl h)) = b h.0
none_of f first octets a b c d e g (inr (n, inr (m, inl h))) = c h.0
none_of f first octets a b c d e g (inr (n, inr (m, inr (o, inl h)))) = d h.0
none_of f first octets a b c d e g (inr (n, inr (m, inr (o, inr (p, inl h))))) = e h.0
none_of f first octets a b c d e g (inr (n, inr (m, inr (o, inr (p, inr (q, inl h)))))) = g h.0
none_of f first octets a b c d e g (inr (n, inr (m, inr (o, inr (p, inr (q, inr (r, h))))))) = h

pub no_fault : (first : Bool) (p : Packet) (octets rest : List ℕ) (f : RtcpFault) → Takes first p octets rest
    → IsFirstOf fault_order first f octets → ⊥
no_fault first p octets rest f t h =
    let k = t.is_packet in
    let s = says p t.padding t.front k in
    let sz = front_at octets t.front rest t.parts s.its_size s.long in
    let hd = head_at octets t.front rest t.parts s.long in
    let at : packet_at octets ≡ t.front =
    ap (λ (z : ℕ). take z octets) sz
    ∙ ap (take (length t.front)) t.parts
    ∙ take_at t.front rest (length t.front) refl in
    let len : length octets ≡ length t.front + length rest = ap length t.parts ∙ length-append t.front rest in
    let not_short : Case first Short octets → ⊥ = λ x. omega (arith, x.1, len, s.long) in
    let not_version : Case first Version octets → ⊥ = λ x. x.1 (hd.0 ∙ s.is_version) in
    let not_first : Case first First octets → ⊥ = λ x. x.1 (subst IsReport (sym (hd.1 ∙ s.its_kind)) (t.report x.0)) in
    let not_length : Case first Length octets → ⊥ = λ x. omega (arith, x, sz, len) in
    let not_padding : Case first Padding octets → ⊥ =
    no_padding_fault t.padding octets t.front rest t.parts sz at s.padded s.its_padding t.last k.padding_words s.behind
    first in
    let not_body : Case first Body octets → ⊥ = λ x.
    x (subst (λ (l : List ℕ). IsWholeBody (kind_at l) (count l) (body_of l)) (sym at)
    (whole_said p t.front k.body s.its_kind s.its_count s.its_body (whole_body p k.body (fits p k) k.is_body))) in
    none_of f first octets not_short not_version not_first not_length not_padding not_body h

-- ---- compounds

same_fault : (fs : List RtcpFault) (first : Bool) (f g : RtcpFault) (octets : List ℕ) → IsFirstOf fs first f octets
    → IsFirstOf fs first g octets → f ≡ g
same_fault [] first f g octets h k = absurd h
same_fault (x ∷ fs) first f g octets (inl h) (inl k) = h.1 ∙ sym k.1
same_fault (x ∷ fs) first f g octets (inr h) (inr k) = same_fault fs first f g octets h.1 k.1
same_fault (x ∷ fs) first f g octets (inl h) (inr k) = absurd (k.0 h.0)
same_fault (x ∷ fs) first f g octets (inr h) (inl k) = absurd (h.0 k.0)

not_empty : (first : Bool) (p : Packet) (octets rest : List ℕ) → Takes first p octets rest → octets ≡ [] → ⊥
not_empty first p octets rest t e =
    omega (arith, t.is_packet.size, ap length t.parts, ap length e, length-append t.front rest)

ended_or_not : (first : Bool) (octets : List ℕ) → first ≡ false → octets ≡ [] → ((first ≡ true) ⊎ (0 < length octets))
    → ⊥
ended_or_not first octets f e (inl t) = absurd (let x = sym f ∙ t in cc)
ended_or_not first octets f e (inr some) = omega (arith, some, ap length e)

-- reading has one outcome
pub same_reading : (first : Bool) (ps qs : List Packet) (a b : Option RtcpFault) (octets : List ℕ)
    → Reads first ps a octets → Reads first qs b octets → (ps ≡ qs) × (a ≡ b)
same_reading first [] [] None None octets h k = (refl, refl)
same_reading first [] [] (Some f) (Some g) octets h k =
    (refl, ap Some (same_fault fault_order first f g octets h.1 k.1))
same_reading first [] [] None (Some g) octets h k = absurd (ended_or_not first octets h.0 h.1 k.0)
same_reading first [] [] (Some f) None octets h k = absurd (ended_or_not first octets k.0 k.1 h.0)
same_reading first [] (q ∷ qs) None b octets h k = absurd (not_empty first q octets k.0 k.1 h.1)
same_reading first (p ∷ ps) [] a None octets h k = absurd (not_empty first p octets h.0 h.1 k.1)
same_reading first [] (q ∷ qs) (Some f) b octets h k = absurd (no_fault first q octets k.0 f k.1 h.1)
same_reading first (p ∷ ps) [] a (Some g) octets h k = absurd (no_fault first p octets h.0 g h.1 k.1)
same_reading first (p ∷ ps) (q ∷ qs) a b octets h k =
    let s = same_takes first p q octets h.0 k.0 h.1 k.1 in
    let r = same_reading false ps qs a b h.0 h.2 (subst (Reads false qs b) (sym s.1) k.2) in
    (ap (λ (z : Packet). z ∷ ps) s.0 ∙ ap (λ (l : List Packet). q ∷ l) r.0, r.1)

-- ---- reading what was judged

-- what stands at the front, as a reader of it finds it
pub record Stands (p : Packet) (octets rest : List ℕ) : Type 0 where
  pub long : 4 ≤ length octets
  pub whole : size octets ≤ length octets
  pub behind : drop (size octets) octets ≡ rest
  pub head : 4 ≤ length (packet_at octets)
  pub padding : 4 + padding_of (packet_at octets) ≤ length (packet_at octets)
  pub its_type : get_or (packet_at octets) 1 0 ≡ type_of p
  pub its_count : count (packet_at octets) ≡ count_of p
  pub fits : FitsFields p
  pub is_body : IsBody p (body_of (packet_at octets))
  pub whole_body : IsWholeBody (kind_at (packet_at octets)) (count (packet_at octets)) (body_of (packet_at octets))
  pub words : length (body_of (packet_at octets)) % 4 ≡ 0

type_said : (p : Packet) (n : ℕ) (front : List ℕ) → IsPacket p n front → get_or front 1 0 ≡ type_of p
type_said p n front k = ap (λ (l : List ℕ). get_or l 1 0) k.parts

pub stands : (p : Packet) (octets rest : List ℕ) → Takes false p octets rest → Stands p octets rest
stands p octets rest t =
    let k = t.is_packet in
    let s = says p t.padding t.front k in
    let sz = front_at octets t.front rest t.parts s.its_size s.long in
    let len : length octets ≡ length t.front + length rest = ap length t.parts ∙ length-append t.front rest in
    let at : packet_at octets ≡ t.front =
    ap (λ (z : ℕ). take z octets) sz
    ∙ ap (take (length t.front)) t.parts
    ∙ take_at t.front rest (length t.front) refl in
    let whole : IsWholeBody (kind_at t.front) (count t.front) (body_of t.front) =
    whole_said p t.front k.body s.its_kind s.its_count s.its_body (whole_body p k.body (fits p k) k.is_body) in
    let parts : length t.front ≡ 4 + (length k.body + t.padding) =
    omega (
      arith,
      ap length k.parts,
      length-append k.body k.padding_octets,
      padding_length t.padding k.padding_octets k.is_padding,
    ) in
    record {
      long = omega (arith, len, s.long);
      whole = omega (arith, len, sz);
      behind =
          ap (λ (z : ℕ). drop z octets) sz
          ∙ ap (drop (length t.front)) t.parts
          ∙ drop_at t.front rest (length t.front) refl;
      head = omega (arith, ap length at, s.long);
      padding = omega (arith, ap length at, ap padding_of at, s.its_padding, s.behind);
      its_type = ap (λ (l : List ℕ). get_or l 1 0) at ∙ type_said p t.padding t.front k;
      its_count = ap count at ∙ s.its_count;
      fits = fits p k;
      is_body = subst (IsBody p) (sym (ap body_of at ∙ s.its_body)) k.is_body;
      whole_body = subst (λ (l : List ℕ). IsWholeBody (kind_at l) (count l) (body_of l)) (sym at) whole;
      words =
          ap (λ (l : List ℕ). length l % 4) (ap body_of at ∙ s.its_body)
          ∙ omega (arith, k.size, parts, k.padding_words);
    }

-- what is read of the packet at the front is this packet
pub same_stand : (p q : Packet) (octets rest packet after body : List ℕ) → Takes false p octets rest
    → packet ≡ packet_at octets → after ≡ drop (size octets) octets → body ≡ body_of packet
    → IsOf (get_or packet 1 0) (get_or packet 0 0 % 32) body q → (q ≡ p) × (after ≡ rest)
same_stand p q octets rest packet after body t at behind body-is is =
    let s = stands p octets rest t in
    let its_type : type_of q ≡ type_of p = is.its_type ∙ ap (λ (l : List ℕ). get_or l 1 0) at ∙ s.its_type in
    let its_count : count_of q ≡ count_of p = is.its_count ∙ ap count at ∙ s.its_count in
    let kinds : kind q ≡ kind p =
    sym (kind_is q is.fits)
    ∙ ap (λ (k : ℕ). kind_of k (count_of q)) its_type
    ∙ ap (kind_of (type_of p)) its_count
    ∙ kind_is p s.fits in
    let same : q ≡ p =
    same_body q p body kinds its_type its_count is.fits s.fits is.is_body
    (subst (IsBody p) (sym (body-is ∙ ap body_of at)) s.is_body) in
    (same, behind ∙ s.behind)
