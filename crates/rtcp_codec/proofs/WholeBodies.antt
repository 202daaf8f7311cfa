-- A whole body is the body of a packet.
use Rattle.std.proofs.Common.{◌≡◌, Bool, true, ℕ, zero, suc, ◌+◌, ◌-◌, ◌*◌, ◌/◌, ◌%◌, ◌^◌, ◌<◌, ◌≤◌, List, [], ◌∷◌}
use Rattle.std.proofs.Common.{◌++◌, length, get_or, take, drop, Some, None, ℤ, pos, negsuc, refl, sym, ap, subst, ◌∙◌}
use Rattle.std.proofs.Common.{append_assoc, arith, inl, inr, false, length-append}
use Rattle.std.specs.Int.{w16, w32, w64, from_be_bytes, to_be_bytes}
use Rattle.std.specs.List.{flat_map, AllByRecursion}
use Rattle.std.proofs.lemmas.Bool.{cases_lt}
use Rattle.std.proofs.lemmas.Bool.Decides.{nat_tests}
use Rattle.std.proofs.lemmas.List.{append-nil, take-append-drop, length-take, length-drop, nil_from_length}
use Rattle.std.proofs.lemmas.Int.{ints}
use Rattle.std.proofs.lemmas.Nat.{be_bytes_2, be_bytes_4, be_bytes_8}
use Rattle.rtp_codec.specs.Packet.{number_octets}
use Rattle.std.specs.Prelude.{◌⊎◌}
use Rattle.rtcp_codec.specs.declared.fault.RtcpFault.TheVariants.{Padding, Body}
use Rattle.rtcp_codec.specs.declared.kind.PacketKind.{PacketKind}
use Rattle.rtcp_codec.specs.declared.kind.PacketKind.TheVariants as kinds
use Rattle.rtcp_codec.specs.declared.nack.NackWord.{NackWord}
use Rattle.rtcp_codec.specs.declared.report.ReportBlock.{ReportBlock}
use Rattle.rtcp_codec.specs.Compound.{is_padded, count, kind_at, size, padding_of, packet_at, body_of, IsBadPadding}
use Rattle.rtcp_codec.specs.Compound.{Case, IsFirstOf, fault_order, IsWholeReason, IsWholeBody}
use Rattle.rtcp_codec.specs.Kind.{kind_of}
use Rattle.rtcp_codec.specs.Nack.{word_octets, FitsWord}
use Rattle.rtcp_codec.specs.Packet.{Packet, Sender, Receiver, Sdes, Bye, App, Nack, Pli, Other}
use Rattle.rtcp_codec.specs.Report.{twos_complement, octets_24, block_octets, FitsLost}
use Rattle.rtcp_codec.specs.inner.Reading.{IsSoundBlock, IsHead, IsGoodPadding, IsOf, Takes}
use Rattle.rtcp_codec.proofs.Framing.{IsBytes, IsBytes-take, IsBytes-drop, takes_packet}
use Rattle.rtcp_codec.proofs.Lists.{front_of, behind_numbers}

-- a value stands at the front
pub record One {X : Type 0} (f : X → List ℕ) (Fit : X → Type 0) (size : ℕ) (octets : List ℕ) : Type 0 where
  pub value : X
  pub rest : List ℕ
  pub parts : octets ≡ f value ++ rest
  pub fits : Fit value
  pub left : length octets ≡ size + length rest
  pub bytes : IsBytes rest

-- so many values stand at the front
pub record Many {X : Type 0} (f : X → List ℕ) (Fit : X → Type 0) (size n : ℕ) (octets : List ℕ) : Type 0 where
  pub values : List X
  pub rest : List ℕ
  pub parts : octets ≡ flat_map f values ++ rest
  pub count : length values ≡ n
  pub fits : AllByRecursion Fit values
  pub left : length octets ≡ size * n + length rest
  pub bytes : IsBytes rest

many : {X : Type 0} (f : X → List ℕ) (Fit : X → Type 0) (size : ℕ)
    → ((octets : List ℕ) → IsBytes octets → size ≤ length octets → One f Fit size octets) → (n : ℕ) (octets : List ℕ)
    → IsBytes octets → size * n ≤ length octets → Many f Fit size n octets
many f Fit size one zero octets bytes long =
    record { values = []; rest = octets; parts = refl; count = refl; fits = tt; left = omega arith; bytes = bytes }
many f Fit size one (suc n) octets bytes long =
    let o = one octets bytes (omega arith) in
    let m = many f Fit size one n o.rest o.bytes (omega (arith, o.left)) in
    record {
      values = o.value ∷ m.values;
      rest = m.rest;
      parts = o.parts ∙ ap (λ (l : List ℕ). f o.value ++ l) m.parts ∙ sym (front_of f o.value m.values m.rest);
      count = ap suc m.count;
      fits = (o.fits, m.fits);
      left = omega (arith, o.left, m.left);
      bytes = m.bytes;
    }

-- ---- numbers

first_16 : (octets : List ℕ) → IsBytes octets → 2 ≤ length octets
    → One (λ (n : ℕ). to_be_bytes w16 n) (λ n. n < 2 ^ 16) 2 octets
first_16 (a ∷ b ∷ rest) bytes long =
    let front = a ∷ b ∷ [] in
    let n = from_be_bytes w16 front in
    record {
      value = n;
      rest = rest;
      parts = ap (λ (l : List ℕ). l ++ rest) (sym (be_bytes_2 front n refl (IsBytes-take 2 (a ∷ b ∷ rest) bytes) refl));
      fits = omega (arith, bytes 0, bytes 1);
      left = omega arith;
      bytes = λ i. bytes (suc (suc i));
    }
first_16 (a ∷ []) bytes long = absurd (omega arith)
first_16 [] bytes long = absurd (omega arith)

pub first_32 : (octets : List ℕ) → IsBytes octets → 4 ≤ length octets
    → One (λ (n : ℕ). to_be_bytes w32 n) (λ n. n < 2 ^ 32) 4 octets
first_32 (a ∷ b ∷ c ∷ d ∷ rest) bytes long =
    let front = a ∷ b ∷ c ∷ d ∷ [] in
    let n = from_be_bytes w32 front in
    record {
      value = n;
      rest = rest;
      parts =
          ap (λ (l : List ℕ). l ++ rest)
          (sym (be_bytes_4 front n refl (IsBytes-take 4 (a ∷ b ∷ c ∷ d ∷ rest) bytes) refl));
      fits = omega (arith, bytes 0, bytes 1, bytes 2, bytes 3);
      left = omega arith;
      bytes = λ i. bytes (suc (suc (suc (suc i))));
    }
first_32 (a ∷ b ∷ c ∷ []) bytes long = absurd (omega arith)
first_32 (a ∷ b ∷ []) bytes long = absurd (omega arith)
first_32 (a ∷ []) bytes long = absurd (omega arith)
first_32 [] bytes long = absurd (omega arith)

first_64 : (octets : List ℕ) → IsBytes octets → 8 ≤ length octets
    → One (λ (n : ℕ). to_be_bytes w64 n) (λ n. n < 2 ^ 64) 8 octets
first_64 (a ∷ b ∷ c ∷ d ∷ e ∷ f ∷ g ∷ h ∷ rest) bytes long =
    let front = a ∷ b ∷ c ∷ d ∷ e ∷ f ∷ g ∷ h ∷ [] in
    let n = from_be_bytes w64 front in
    record {
      value = n;
      rest = rest;
      parts =
          ap (λ (l : List ℕ). l ++ rest)
          (sym (be_bytes_8 front n refl (IsBytes-take 8 (a ∷ b ∷ c ∷ d ∷ e ∷ f ∷ g ∷ h ∷ rest) bytes) refl));
      fits = omega (arith, bytes 0, bytes 1, bytes 2, bytes 3, bytes 4, bytes 5, bytes 6, bytes 7);
      left = omega arith;
      bytes = λ i. bytes (suc (suc (suc (suc (suc (suc (suc (suc i))))))));
    }
first_64 (a ∷ b ∷ c ∷ d ∷ e ∷ f ∷ g ∷ []) bytes long = absurd (omega arith)
first_64 (a ∷ b ∷ c ∷ d ∷ e ∷ f ∷ []) bytes long = absurd (omega arith)
first_64 (a ∷ b ∷ c ∷ d ∷ e ∷ []) bytes long = absurd (omega arith)
first_64 (a ∷ b ∷ c ∷ d ∷ []) bytes long = absurd (omega arith)
first_64 (a ∷ b ∷ c ∷ []) bytes long = absurd (omega arith)
first_64 (a ∷ b ∷ []) bytes long = absurd (omega arith)
first_64 (a ∷ []) bytes long = absurd (omega arith)
first_64 [] bytes long = absurd (omega arith)

-- ---- blocks and words

spelled : (x y z n : ℕ) → x < 256 → y < 256 → z < 256 → n ≡ x * 65536 + y * 256 + z → octets_24 n ≡ x ∷ y ∷ z ∷ []
spelled x y z n hx hy hz e =
    let p : n / 2 ^ 16 % 256 ≡ x = omega (arith, e) in
    let q : n / 2 ^ 8 % 256 ≡ y = omega (arith, e) in
    let r : n % 256 ≡ z = omega (arith, e) in
    rw (p, q, r) refl

-- three octets spell a signed number
record Lost (x y z : ℕ) : Type 0 where
  pub lost : ℤ
  pub fits : FitsLost lost
  pub octets : octets_24 (twos_complement lost) ≡ x ∷ y ∷ z ∷ []

some_lost : (x y z : ℕ) → x < 256 → y < 256 → z < 256 → Lost x y z
some_lost x y z hx hy hz =
    let n = x * 65536 + y * 256 + z in
    let m = 2 ^ 24 - n - 1 in
    elim (cases_lt x 128) [
      | inl lt ↦
          record {
            lost = pos n;
            fits = record { low = omega (arith, ints); high = omega (arith, ints) };
            octets = spelled x y z n hx hy hz refl;
          }
      | inr le ↦
          record {
            lost = negsuc m;
            fits = record { low = omega (arith, ints); high = omega (arith, ints) };
            octets = spelled x y z (2 ^ 24 - (m + 1)) hx hy hz (omega arith);
          }
    ]

-- the fraction and the loss of a block
record First (octets : List ℕ) : Type 0 where
  pub fraction : ℕ
  pub lost : ℤ
  pub rest : List ℕ
  pub parts : octets ≡ fraction ∷ octets_24 (twos_complement lost) ++ rest
  pub octet : fraction < 2 ^ 8
  pub fits : FitsLost lost
  pub left : length octets ≡ 4 + length rest
  pub bytes : IsBytes rest

first_loss : (octets : List ℕ) → IsBytes octets → 4 ≤ length octets → First octets
first_loss (a ∷ x ∷ y ∷ z ∷ rest) bytes long =
    let l = some_lost x y z (bytes 1) (bytes 2) (bytes 3) in
    record {
      fraction = a;
      lost = l.lost;
      rest = rest;
      parts = ap (λ (o : List ℕ). a ∷ o ++ rest) (sym l.octets);
      octet = bytes 0;
      fits = l.fits;
      left = omega arith;
      bytes = λ i. bytes (suc (suc (suc (suc i))));
    }
first_loss (a ∷ b ∷ c ∷ []) bytes long = absurd (omega arith)
first_loss (a ∷ b ∷ []) bytes long = absurd (omega arith)
first_loss (a ∷ []) bytes long = absurd (omega arith)
first_loss [] bytes long = absurd (omega arith)

first_block : (octets : List ℕ) → IsBytes octets → 24 ≤ length octets → One block_octets IsSoundBlock 24 octets
first_block octets bytes long =
    let s = first_32 octets bytes (omega arith) in
    let l = first_loss s.rest s.bytes (omega (arith, s.left)) in
    let h = first_32 l.rest l.bytes (omega (arith, s.left, l.left)) in
    let j = first_32 h.rest h.bytes (omega (arith, s.left, l.left, h.left)) in
    let r = first_32 j.rest j.bytes (omega (arith, s.left, l.left, h.left, j.left)) in
    let d = first_32 r.rest r.bytes (omega (arith, s.left, l.left, h.left, j.left, r.left)) in
    let b : ReportBlock =
    record {
      ssrc = s.value;
      fraction = l.fraction;
      lost = l.lost;
      highest = h.value;
      jitter = j.value;
      lsr = r.value;
      dlsr = d.value;
    } in
    record {
      value = b;
      rest = d.rest;
      parts = s.parts ∙ ap (λ (o : List ℕ). to_be_bytes w32 s.value ++ o) (l.parts
          ∙ ap (λ (o : List ℕ). l.fraction ∷ octets_24 (twos_complement l.lost) ++ o) (h.parts
          ∙ ap (λ (o : List ℕ). to_be_bytes w32 h.value ++ o) (j.parts
          ∙ ap (λ (o : List ℕ). to_be_bytes w32 j.value ++ o) (r.parts
          ∙ ap (λ (o : List ℕ). to_be_bytes w32 r.value ++ o) d.parts))));
      fits =
          record {
            numbers =
                record {
                  ssrc = s.fits;
                  fraction = l.octet;
                  highest = h.fits;
                  jitter = j.fits;
                  lsr = r.fits;
                  dlsr = d.fits;
                };
            lost = l.fits;
          };
      left = omega (arith, s.left, l.left, h.left, j.left, r.left, d.left);
      bytes = d.bytes;
    }

first_word : (octets : List ℕ) → IsBytes octets → 4 ≤ length octets → One word_octets FitsWord 4 octets
first_word octets bytes long =
    let p = first_16 octets bytes (omega arith) in
    let b = first_16 p.rest p.bytes (omega (arith, p.left)) in
    let w : NackWord = record { pid = p.value; blp = b.value } in
    record {
      value = w;
      rest = b.rest;
      parts = p.parts ∙ ap (λ (o : List ℕ). to_be_bytes w16 p.value ++ o) b.parts;
      fits = record { pid = p.fits; blp = b.fits };
      left = omega (arith, p.left, b.left);
      bytes = b.bytes;
    }

-- ---- bodies

some_sender : (n : ℕ) (body : List ℕ) → IsBytes body → 24 + 24 * n ≤ length body → (p : Packet) × IsOf 200 n body p
some_sender n body bytes long =
    let s = first_32 body bytes (omega arith) in
    let t = first_64 s.rest s.bytes (omega (arith, s.left)) in
    let u = first_32 t.rest t.bytes (omega (arith, s.left, t.left)) in
    let p = first_32 u.rest u.bytes (omega (arith, s.left, t.left, u.left)) in
    let o = first_32 p.rest p.bytes (omega (arith, s.left, t.left, u.left, p.left)) in
    let m =
    many block_octets IsSoundBlock 24 first_block n o.rest o.bytes
    (omega (arith, s.left, t.left, u.left, p.left, o.left)) in (
      Sender s.value t.value u.value p.value o.value m.values,
      record {
        its_type = refl;
        its_count = m.count;
        fits = (s.fits, t.fits, u.fits, p.fits, o.fits, m.fits);
        is_body = (
          m.rest,
          s.parts ∙ ap (λ (l : List ℕ). to_be_bytes w32 s.value ++ l) (t.parts
              ∙ ap (λ (l : List ℕ). to_be_bytes w64 t.value ++ l) (u.parts
              ∙ ap (λ (l : List ℕ). to_be_bytes w32 u.value ++ l) (p.parts
              ∙ ap (λ (l : List ℕ). to_be_bytes w32 p.value ++ l) (o.parts
              ∙ ap (λ (l : List ℕ). to_be_bytes w32 o.value ++ l) m.parts)))),
        );
      },
    )

some_receiver : (n : ℕ) (body : List ℕ) → IsBytes body → 4 + 24 * n ≤ length body → (p : Packet) × IsOf 201 n body p
some_receiver n body bytes long =
    let s = first_32 body bytes (omega arith) in
    let m = many block_octets IsSoundBlock 24 first_block n s.rest s.bytes (omega (arith, s.left)) in (
      Receiver s.value m.values,
      record {
        its_type = refl;
        its_count = m.count;
        fits = (s.fits, m.fits);
        is_body = (m.rest, s.parts ∙ ap (λ (l : List ℕ). to_be_bytes w32 s.value ++ l) m.parts);
      },
    )

reason_of : (ssrcs rest body : List ℕ) (n : ℕ) → IsBytes rest → length ssrcs ≡ n
    → AllByRecursion (λ ssrc. ssrc < 2 ^ 32) ssrcs → body ≡ number_octets ssrcs ++ rest → IsWholeReason rest
    → (p : Packet) × IsOf 203 n body p
reason_of ssrcs [] body n bytes len fits parts whole =
    (Bye ssrcs None, record { its_type = refl; its_count = len; fits = (fits, tt); is_body = parts })
reason_of ssrcs (k ∷ text) body n bytes len fits parts whole =
    let front = take k text in
    let few : length front ≡ k = omega (arith, length-take k text) in
    let shape : k ∷ text ≡ (length front ∷ front) ++ drop k text =
    ap (λ (m : ℕ). m ∷ text) (sym few) ∙ ap (λ (l : List ℕ). length front ∷ l) (sym (take-append-drop k text)) in (
      Bye ssrcs (Some front),
      record {
        its_type = refl;
        its_count = len;
        fits = (fits, omega (arith, few, bytes 0));
        is_body = (
          drop k text,
          parts
              ∙ ap (λ (l : List ℕ). number_octets ssrcs ++ l) shape
              ∙ sym (append_assoc (number_octets ssrcs) (length front ∷ front) (drop k text)),
        );
      },
    )

some_bye : (n : ℕ) (body : List ℕ) → IsBytes body → 4 * n ≤ length body → IsWholeReason (drop (4 * n) body)
    → (p : Packet) × IsOf 203 n body p
some_bye n body bytes long reason =
    let m = many (λ (k : ℕ). to_be_bytes w32 k) (λ (k : ℕ). k < 2 ^ 32) 4 first_32 n body bytes long in
    reason_of m.values m.rest body n m.bytes m.count m.fits m.parts
    (subst IsWholeReason (behind_numbers m.values body m.rest n m.count m.parts) reason)

some_app : (n : ℕ) (body : List ℕ) → IsBytes body → 8 ≤ length body → (p : Packet) × IsOf 204 n body p
some_app n body bytes long =
    let s = first_32 body bytes (omega arith) in (
      App n s.value (take 4 s.rest) (drop 4 s.rest),
      record {
        its_type = refl;
        its_count = refl;
        fits = (s.fits, omega (arith, length-take 4 s.rest, s.left));
        is_body = s.parts ∙ ap (λ (l : List ℕ). to_be_bytes w32 s.value ++ l) (sym (take-append-drop 4 s.rest));
      },
    )

some_nack : (body : List ℕ) → IsBytes body → length body % 4 ≡ 0 → 12 ≤ length body → (p : Packet) × IsOf 205 1 body p
some_nack body bytes words long =
    let s = first_32 body bytes (omega arith) in
    let m = first_32 s.rest s.bytes (omega (arith, s.left)) in
    let w = many word_octets FitsWord 4 first_word (length m.rest / 4) m.rest m.bytes (omega arith) in
    let end : w.rest ≡ [] = nil_from_length w.rest (omega (arith, s.left, m.left, w.left)) in (
      Nack s.value m.value w.values,
      record {
        its_type = refl;
        its_count = refl;
        fits = (s.fits, m.fits, omega (arith, s.left, m.left, w.left, w.count), w.fits);
        is_body = s.parts ∙ ap (λ (l : List ℕ). to_be_bytes w32 s.value ++ l) (m.parts
            ∙ ap (λ (l : List ℕ). to_be_bytes w32 m.value ++ l) (w.parts
            ∙ ap (λ (l : List ℕ). flat_map word_octets w.values ++ l) end
            ∙ append-nil (flat_map word_octets w.values)));
      },
    )

some_pli : (body : List ℕ) → IsBytes body → 8 ≤ length body → (p : Packet) × IsOf 206 1 body p
some_pli body bytes long =
    let s = first_32 body bytes (omega arith) in
    let m = first_32 s.rest s.bytes (omega (arith, s.left)) in (
      Pli s.value m.value,
      record {
        its_type = refl;
        its_count = refl;
        fits = (s.fits, m.fits);
        is_body = (m.rest, s.parts ∙ ap (λ (l : List ℕ). to_be_bytes w32 s.value ++ l) m.parts);
      },
    )

-- ---- kinds

type_of_kind : (pt n : ℕ)
    → ((kind_of pt n ≡ kinds.Sender → pt ≡ 200) × (kind_of pt n ≡ kinds.Receiver → pt ≡ 201)
    × (kind_of pt n ≡ kinds.Sdes → pt ≡ 202) × (kind_of pt n ≡ kinds.Bye → pt ≡ 203)
    × (kind_of pt n ≡ kinds.App → pt ≡ 204))
type_of_kind pt n = (
  grind (arith, nat_tests),
  grind (arith, nat_tests),
  grind (arith, nat_tests),
  grind (arith, nat_tests),
  grind (arith, nat_tests),
)

is_nack : (pt n : ℕ) → kind_of pt n ≡ kinds.Nack → (pt ≡ 205) × (n ≡ 1)
is_nack pt n e = grind (arith, nat_tests)

is_pli : (pt n : ℕ) → kind_of pt n ≡ kinds.Pli → (pt ≡ 206) × (n ≡ 1)
is_pli pt n e = grind (arith, nat_tests)

as_type : (pt type n : ℕ) (body : List ℕ) → pt ≡ type → (p : Packet) × IsOf type n body p
    → (p : Packet) × IsOf pt n body p
as_type pt type n body e h = (h.0, subst (λ (t : ℕ). IsOf t n body h.0) (sym e) h.1)

as_feedback : (pt type n : ℕ) (body : List ℕ) → (pt ≡ type) × (n ≡ 1) → (p : Packet) × IsOf type 1 body p
    → (p : Packet) × IsOf pt n body p
as_feedback pt type n body e h =
    (h.0, subst (λ (t : ℕ). IsOf t n body h.0) (sym e.0) (subst (λ (m : ℕ). IsOf type m body h.0) (sym e.1) h.1))

by_kind : (k : PacketKind) (pt n : ℕ) (body : List ℕ) → kind_of pt n ≡ k → pt < 256 → IsBytes body → length body % 4 ≡ 0
    → IsWholeBody k n body → (p : Packet) × IsOf pt n body p
by_kind kinds.Sender pt n body e small bytes words whole =
    as_type pt 200 n body ((type_of_kind pt n).0 e) (some_sender n body bytes whole)
by_kind kinds.Receiver pt n body e small bytes words whole =
    as_type pt 201 n body ((type_of_kind pt n).1 e) (some_receiver n body bytes whole)
by_kind kinds.Sdes pt n body e small bytes words whole =
    as_type pt 202 n body ((type_of_kind pt n).2 e)
    (Sdes whole.0, record { its_type = refl; its_count = whole.1; fits = whole.2; is_body = whole.3 })
by_kind kinds.Bye pt n body e small bytes words whole =
    as_type pt 203 n body ((type_of_kind pt n).3 e) (some_bye n body bytes whole.0 whole.1)
by_kind kinds.App pt n body e small bytes words whole =
    as_type pt 204 n body ((type_of_kind pt n).4 e) (some_app n body bytes whole)
by_kind kinds.Nack pt n body e small bytes words whole =
    as_feedback pt 205 n body (is_nack pt n e) (some_nack body bytes words whole)
by_kind kinds.Pli pt n body e small bytes words whole =
    as_feedback pt 206 n body (is_pli pt n e) (some_pli body bytes whole)
by_kind kinds.Other pt n body e small bytes words whole =
    (Other pt n body, record { its_type = refl; its_count = refl; fits = (small, e); is_body = refl })

-- a whole body is that of some packet
some_body : (pt n : ℕ) (body : List ℕ) → pt < 256 → IsBytes body → length body % 4 ≡ 0
    → IsWholeBody (kind_of pt n) n body → (p : Packet) × IsOf pt n body p
some_body pt n body small bytes words whole = by_kind (kind_of pt n) pt n body refl small bytes words whole

pub body_words : (first at_end : Bool) (octets packet body : List ℕ) → IsHead first octets → packet ≡ packet_at octets
    → IsGoodPadding at_end (padding_of packet) packet → body ≡ body_of packet → length body % 4 ≡ 0
body_words first at_end octets packet body head at good body-is =
    let n = padding_of packet in
    let len : length packet ≡ size octets = omega (arith, ap length at, length-take (size octets) octets, head.whole) in
    let left : length body ≡ length packet - n - 4 =
    omega (arith, ap length body-is, length-take (length packet - n - 4) (drop 4 packet), length-drop 4 packet) in
    omega (arith, len, left, good.words, good.size)

-- where the common header, the padding and the body are good, a packet stands at the front
pub judged_packet : (first at_end : Bool) (octets packet rest body : List ℕ) → IsBytes octets → IsHead first octets
    → packet ≡ packet_at octets → octets ≡ packet ++ rest → (at_end ≡ true → rest ≡ [])
    → IsGoodPadding at_end (padding_of packet) packet → body ≡ body_of packet
    → IsWholeBody (kind_of (get_or packet 1 0) (get_or packet 0 0 % 32)) (get_or packet 0 0 % 32) body
    → (p : Packet) × Takes first p octets rest
judged_packet first at_end octets packet rest body bytes head at parts end good body-is whole =
    let within : IsBytes packet = subst IsBytes (sym at) (IsBytes-take (size octets) octets bytes) in
    let inside : IsBytes body =
    subst IsBytes (sym body-is)
    (IsBytes-take (length packet - padding_of packet - 4) (drop 4 packet) (IsBytes-drop 4 packet within)) in
    let b =
    some_body (get_or packet 1 0) (get_or packet 0 0 % 32) body (within 1) inside
    (body_words first at_end octets packet body head at good body-is) whole in (
      b.0,
      takes_packet first at_end octets packet rest body (padding_of packet) b.0 bytes head at parts end refl good
          body-is
          b.1,
    )

-- ---- the first fault of a packet that is all there

front_size : (first : Bool) (octets packet rest : List ℕ) → IsHead first octets → packet ≡ packet_at octets
    → octets ≡ packet ++ rest → length octets ≡ size octets + length rest
front_size first octets packet rest head at parts =
    omega
    (arith, ap length at, length-take (size octets) octets, head.whole, ap length parts, length-append packet rest)

pub padding_first : (first at_end : Bool) (octets packet rest : List ℕ) → IsHead first octets
    → packet ≡ packet_at octets → octets ≡ packet ++ rest → (at_end ≡ false → 0 < length rest)
    → (is_padded packet ≡ true) × ((at_end ≡ false) ⊎ IsBadPadding (padding_of packet) packet)
    → IsFirstOf fault_order first Padding octets
padding_first first at_end octets packet rest head at parts more bad =
    let len = front_size first octets packet rest head at parts in
    let found : Case first Padding octets = elim bad.1 [
      | inl last ↦ (sym (ap is_padded at) ∙ bad.0, inl (omega (arith, len, more last)))
      | inr b ↦ (sym (ap is_padded at) ∙ bad.0, inr (subst (λ (l : List ℕ). IsBadPadding (padding_of l) l) at b))
    ] in
    inr (
      λ h. omega (arith, h.1, head.long),
      inr (
        λ h. h.1 head.is_version,
        inr (λ h. h.1 (head.report h.0), inr (λ h. omega (arith, h, head.whole), inl (found, refl))),
      ),
    )

good_padding : (n : ℕ) (packet : List ℕ) → 0 < n → n % 4 ≡ 0 → 4 + n ≤ length packet → IsBadPadding n packet → ⊥
good_padding n packet some words size (inl h) = omega (arith, some, h)
good_padding n packet some words size (inr (inl h)) = h words
good_padding n packet some words size (inr (inr h)) = omega (arith, size, h)

pub body_first : (first at_end : Bool) (octets packet rest body : List ℕ) → IsHead first octets
    → packet ≡ packet_at octets → octets ≡ packet ++ rest → (at_end ≡ true → rest ≡ [])
    → IsGoodPadding at_end (padding_of packet) packet → body ≡ body_of packet
    → (IsWholeBody (kind_of (get_or packet 1 0) (get_or packet 0 0 % 32)) (get_or packet 0 0 % 32) body → ⊥)
    → IsFirstOf fault_order first Body octets
body_first first at_end octets packet rest body head at parts end good body-is lacks =
    let len = front_size first octets packet rest head at parts in
    let n = padding_of packet in
    let none : Case first Padding octets → ⊥ = λ h.
    let set : is_padded packet ≡ true = ap is_padded at ∙ h.0 in
    elim h.1 [
      | inl longer ↦ omega (arith, len, longer, ap length (end (good.last set)))
      | inr bad ↦
          good_padding n packet (good.some set) good.words good.size
          (subst (λ (l : List ℕ). IsBadPadding (padding_of l) l) (sym at) bad)
    ] in
    let missing : Case first Body octets = λ whole.
    lacks (subst (IsWholeBody (kind_at packet) (count packet)) (sym body-is)
    (subst (λ (l : List ℕ). IsWholeBody (kind_at l) (count l) (body_of l)) (sym at) whole)) in
    inr (
      λ h. omega (arith, h.1, head.long),
      inr (
        λ h. h.1 head.is_version,
        inr (λ h. h.1 (head.report h.0), inr (λ h. omega (arith, h, head.whole), inr (none, inl (missing, refl)))),
      ),
    )
