-- The packets of a line, word by word.
use Rattle.std.proofs.Common.{◌≡◌, ℕ, ◌+◌, List, [], ◌∷◌, ◌++◌, Option, Some, Result, Ok, Err, refl, sym, ap, ◌∙◌}
use Rattle.std.proofs.Common.{append_assoc}
use Rattle.std.proofs.lemmas.List.{append-nil}
use Rattle.frame_gate.specs.Frame.{SourcePacket}
use Rattle.desk_text.specs.declared.fault.Fault.{Fault}
use Rattle.desk_text.specs.declared.fault.ParseFault.{ParseFault}
use Rattle.desk_text.specs.declared.fault.ParseFault.TheVariants as errors
use Rattle.std.specs.Borrow.{Bor}
use Rattle.desk_text.specs.Words.{◌>>=◌, Fails, words_in}
use Rattle.desk_text.proofs.Cuts.{parts_some}
use Rattle.script_text.specs.Requests.{some_packets}
use Rattle.script_text.specs.Packets.{packet_of, source_packets_of}

-- these packets, and then those that were read
abbrev pub behind : List SourcePacket → Result (List SourcePacket) (ℕ × Fault) → Result (List SourcePacket) (ℕ × Fault)
behind front (Ok packets) = Ok (front ++ packets)
behind front (Err e) = Err e

pub behind_none : (r : Result (List SourcePacket) (ℕ × Fault)) → r ≡ behind [] r
behind_none (Ok packets) = refl
behind_none (Err e) = refl

behind_more : (front : List SourcePacket) (packet : SourcePacket) (r : Result (List SourcePacket) (ℕ × Fault))
    → behind front (behind (packet ∷ []) r) ≡ behind (front ++ packet ∷ []) r
behind_more front packet (Ok packets) = ap Ok (sym (append_assoc front (packet ∷ []) packets))
behind_more front packet (Err e) = refl

first_packet : (place : ℕ) (word : List ℕ) (words : List (List ℕ)) (packet : SourcePacket)
    → packet_of place word ≡ Ok packet
    → source_packets_of place (word ∷ words) ≡ behind (packet ∷ []) (source_packets_of (place + 1) words)
unfolding source_packets_of
first_packet place word words packet e = rw e (one_first (source_packets_of (place + 1) words) packet)
  where
    one_first : (r : Result (List SourcePacket) (ℕ × Fault)) (packet : SourcePacket)
        → (r >>= λ packets. Ok (packet ∷ packets)) ≡ behind (packet ∷ []) r
    one_first (Ok packets) packet = refl
    one_first (Err e) packet = refl

-- one packet more
pub goes_on : (all : Result (List SourcePacket) (ℕ × Fault)) (front new : List SourcePacket) (place : ℕ) (word : List ℕ)
    (words : List (List ℕ)) (packet : SourcePacket)
    → all ≡ behind front (source_packets_of place (word ∷ words)) → packet_of place word ≡ Ok packet
    → new ≡ front ++ packet ∷ [] → all ≡ behind new (source_packets_of (place + 1) words)
goes_on all front new place word words packet so_far e is =
    so_far
    ∙ (ap (behind front) (first_packet place word words packet e)
    ∙ (behind_more front packet (source_packets_of (place + 1) words)
    ∙ ap (λ (t : List SourcePacket). behind t (source_packets_of (place + 1) words)) (sym is)))

first_fails : (place : ℕ) (word : List ℕ) (words : List (List ℕ)) (e : ℕ × Fault) → packet_of place word ≡ Err e
    → source_packets_of place (word ∷ words) ≡ Err e
unfolding source_packets_of
first_fails place word words e h = rw h refl

-- a packet's fault is that of the line
pub fails_on : (all : Result (List SourcePacket) (ℕ × Fault)) (front : List SourcePacket) (place : ℕ) (word : List ℕ)
    (words : List (List ℕ)) (e : ParseFault)
    → all ≡ behind front (source_packets_of place (word ∷ words)) → Fails e (packet_of place word) → Fails e all
fails_on all front place word words errors.OutOfMemory so_far h = tt
fails_on all front place word words (errors.Line at fault) so_far h =
    so_far ∙ ap (behind front) (first_fails place word words (at, fault) h)

-- no word is left
pub ends : (all : Result (List SourcePacket) (ℕ × Fault)) (front : List SourcePacket) (place : ℕ)
    → all ≡ behind front (source_packets_of place []) → all ≡ Ok front
unfolding source_packets_of
ends all front place so_far = so_far ∙ ap Ok (append-nil front)

-- a text has a first word
pub some_same : (place : ℕ) (words : Option (Bor (List ℕ))) (text : Bor (List ℕ)) → words ≡ Some text
    → source_packets_of place (words_in words) ≡ some_packets place (words_in words)
some_same place words text e = rw (e, (parts_some 32 text.now).2) refl
