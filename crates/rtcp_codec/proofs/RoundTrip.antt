-- What is written is the compound of its packets.
use Rattle.std.proofs.Common.{◌≡◌, ℕ, ◌+◌, ◌-◌, ◌/◌, ◌%◌, Bool, true, false, List, [], ◌∷◌, ◌++◌, length, Some, None}
use Rattle.std.proofs.Common.{replicate, refl, sym, ap, ◌∙◌, append_assoc, arith, length-append}
use Rattle.std.specs.Int.{w32, to_be_bytes}
use Rattle.std.specs.List.{flat_map, AllByRecursion}
use Rattle.std.proofs.lemmas.List.{append-nil, length-replicate}
use Rattle.std.proofs.lemmas.List.Concat.{flat_map-cons}
use Rattle.rtp_codec.specs.Packet.{number_octets}
use Rattle.rtcp_codec.specs.Description.{Chunk, chunk_octets, filled, IsFill, Describe}
use Rattle.rtcp_codec.specs.Packet.{Packet, Sender, Receiver, Sdes, Bye, App, Nack, Pli, Other, fields, FitsTypes}
use Rattle.rtcp_codec.specs.Packet.{IsBody, IsPacket, PartsFit, common_header, written_packet}
use Rattle.rtcp_codec.specs.Compound.{BeginsWithReport, written}
use Rattle.rtcp_codec.specs.inner.Reading.{Reads}
use Rattle.rtcp_codec.specs.WriteFault.{IsWritable}
use Rattle.rtcp_codec.proofs.Lists.{front_of, numbers_length, words_length}

filled_length : (l : List ℕ) → length (filled l) ≡ length l + (4 - length l % 4) % 4
filled_length l =
    length-append l (replicate ((4 - length l % 4) % 4) 0)
    ∙ ap (λ (k : ℕ). length l + k) (length-replicate {A = ℕ} ((4 - length l % 4) % 4) 0)

filled_whole : (l : List ℕ) → length l % 4 ≡ 0 → filled l ≡ l
filled_whole l h =
    let none : (4 - length l % 4) % 4 ≡ 0 = ap (λ (k : ℕ). (4 - k) % 4) h in
    ap (λ (k : ℕ). l ++ replicate k 0) none ∙ append-nil l

fill_is : (n : ℕ) → IsFill n (replicate ((4 - n % 4) % 4) 0)
fill_is n =
    let k = length-replicate {A = ℕ} ((4 - n % 4) % 4) 0 in
    record { short = omega (arith, k); whole = omega (arith, k) }

written_describes : (cs : List Chunk) (rest : List ℕ) → Describe cs (flat_map (λ c. filled (chunk_octets c)) cs ++ rest)
written_describes [] rest = tt
written_describes (c ∷ cs) rest =
    let fill = replicate ((4 - length (chunk_octets c) % 4) % 4) 0 in
    let others = flat_map (λ (d : Chunk). filled (chunk_octets d)) cs ++ rest in (
      fill,
      others,
      front_of (λ (d : Chunk). filled (chunk_octets d)) c cs rest ∙ append_assoc (chunk_octets c) fill others,
      fill_is (length (chunk_octets c)),
      written_describes cs rest,
    )

fill_of : List ℕ → List ℕ
fill_of l = replicate ((4 - length l % 4) % 4) 0

body_written : (p : Packet) → PartsFit p → FitsTypes p → IsBody p (filled (fields p))
unfolding fill_of
body_written (Sender s n t c o bs) h f = (fill_of (fields (Sender s n t c o bs)), refl)
body_written (Receiver s bs) h f = (fill_of (fields (Receiver s bs)), refl)
body_written (Sdes cs) h f = written_describes cs (fill_of (fields (Sdes cs)))
body_written (Bye ns None) h f =
    filled_whole (number_octets ns ++ []) (omega (arith, length-append (number_octets ns) [], numbers_length ns))
body_written (Bye ns (Some r)) h f = (fill_of (fields (Bye ns (Some r))), refl)
body_written (App t s m c) h f =
    filled_whole (fields (App t s m c))
    (omega (arith, length-append (to_be_bytes w32 s ++ m) c, length-append (to_be_bytes w32 s) m, f.1, h))
body_written (Nack s m ws) h f = filled_whole (fields (Nack s m ws)) (omega (arith, words_length ws))
body_written (Pli s m) h f = (fill_of (fields (Pli s m)), refl)
body_written (Other t n b) h f = filled_whole b h

packet_written : (p : Packet) → IsWritable p → FitsTypes p → IsPacket p 0 (written_packet p)
packet_written p w f =
    let body = filled (fields p) in
    let len = filled_length (fields p) in
    record {
      words = length body / 4;
      body = body;
      padding_octets = [];
      parts = ap (λ (l : List ℕ). common_header false p (length body / 4) ++ l) (sym (append-nil body));
      size = omega (arith, len);
      words_fit = omega (arith, w.lengths.words);
      types = f;
      counted = w.counted;
      lengths = w.lengths.parts;
      meaning = w.meaning;
      is_body = body_written p w.lengths.parts f;
      is_padding = refl;
      padding_words = refl;
    }

pub compound_written : (first : Bool) (ps : List Packet) → (first ≡ true → BeginsWithReport ps)
    → AllByRecursion IsWritable ps → AllByRecursion FitsTypes ps → Reads first ps None (written ps)
compound_written true [] report w f = absurd (report refl)
compound_written false [] report w f = (refl, refl)
compound_written first (p ∷ ps) report w f = (
  written ps,
  record {
    front = written_packet p;
    padding = 0;
    parts = flat_map-cons written_packet p ps;
    is_packet = packet_written p w.0 f.0;
    report = report;
    last = λ some. absurd (omega (arith, some));
  },
  compound_written false ps (λ e. absurd cc) w.1 f.1,
)
