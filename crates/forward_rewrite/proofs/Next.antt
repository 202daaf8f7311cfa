-- One more frame.
use Rattle.std.proofs.Common.{◌≡◌, ℕ, ◌+◌, ◌%◌, ◌^◌, true, false, cond, List, [], ◌∷◌, ◌++◌, length, map, Option, Some}
use Rattle.std.proofs.Common.{refl, sym, ap, ◌∙◌, arith, rules, length-append, append-nil, subst}
use Rattle.std.proofs.lemmas.List.{length-map}
use Rattle.std.proofs.lemmas.List.Sums.{sum_by-append}
use Rattle.std.specs.Prelude.{option_map}
use Rattle.std.specs.List.{AllByRecursion}
use Rattle.frame_gate.specs.Frame.{SourcePacket}
use Rattle.std.proofs.lemmas.List.Concat.{flat_map-append}
use Rattle.forward_rewrite.specs.Sending.{Sending, IsOf}
use Rattle.retransmit.specs.SentPacket.{SentPacket}
use Rattle.retransmit.specs.Window.{window_size, latest}
use Rattle.forward_rewrite.specs.declared.last_sent.LastSent.{LastSent}
use Rattle.forward_rewrite.specs.Timestamps.{Stamped, same_run, stamp_in_run, pause, difference, stamped, last_or}
use Rattle.forward_rewrite.specs.Timestamps.{last_of}
use Rattle.forward_rewrite.specs.RoutedList.{part_of, parts, numbered, packets_of}
use Rattle.forward_rewrite.specs.Streams.{StreamOf, PreparedOf, payload_octets, sent, state_of, committed, SendsNext}
use Rattle.forward_rewrite.specs.inner.Counters.{ts_after, stamped_next, next_parts, IsPrepared}
use Rattle.forward_rewrite.proofs.Stamps.{InRun, begun, next, walk, end, stamped-cons, walk-append, end-before, Within}
use Rattle.forward_rewrite.proofs.Stamps.{end_within}
use Rattle.forward_rewrite.proofs.Numbers.{numbered-append, numbered_alike, length-numbered}
use Rattle.forward_rewrite.proofs.Rows.{latest-append}

-- nothing and back
pub no_distance : (s t : ℕ) → (s + difference t t) % 2 ^ 32 ≡ s % 2 ^ 32
no_distance s t = omega arith

-- a distance in two parts
pub two_distances : (start a b c : ℕ)
    → (start + difference a c) % 2 ^ 32 ≡ (c + difference b ((start + difference a b) % 2 ^ 32)) % 2 ^ 32
two_distances start a b c = omega arith

abbrev at : Sending → ℕ → Stamped
at s ts = record { sending = s; ts = ts }

-- what is kept of a frame that was sent
abbrev keep : Stamped → LastSent
keep s = sent s.sending.frame s.ts

-- what is kept of the last frame gives the next timestamp
next-stamp : (first_ts : ℕ) (r : InRun) (s : Sending) → Within r
    → (next r s).before ≡ at s (ts_after first_ts (Some (keep r.before)) s.frame)
next-stamp first_ts r s h =
    let t = (r.before.ts + pause r.before.sending.frame.moment s.frame.moment) % 2 ^ 32 in
    let last = r.before.sending.frame.frame.ts in
    let new = s.frame.frame.ts in
    elim (same_run r.before.sending.frame s.frame) as (λ b.
    (cond b (let n : InRun = record { start = r.start; first = r.first; before = stamp_in_run r.start r.first s } in n)
    (begun t s)).before
    ≡ at s (cond b ((new + difference last r.before.ts) % 2 ^ 32) t)) [
      | true ↦
          ap (at s) (two_distances r.start r.first.frame.frame.ts last new
          ∙ ap (λ n. (new + difference last n) % 2 ^ 32) (sym (ap (λ (x : Stamped). x.ts) h)))
      | false ↦ ap (at s) (no_distance t new ∙ (omega arith))
    ]

-- the frame after those of a list
abbrev after : ℕ → List Stamped → Sending → Stamped
after first_ts before s = at s (ts_after first_ts (option_map keep (last_of before)) s.frame)

pub stamped-append : (first_ts : ℕ) (before : List Sending) (s : Sending)
    → stamped first_ts (before ++ s ∷ [])
    ≡ stamped first_ts before
    ++ record {
      sending = s;
      ts = ts_after first_ts (option_map (λ x. sent x.sending.frame x.ts) (last_of (stamped first_ts before))) s.frame;
    }
    ∷ []
stamped-append first_ts [] s = ap (λ n. at s n ∷ []) (no_distance (first_ts % 2 ^ 32) s.frame.frame.ts ∙ omega arith)
stamped-append first_ts (g ∷ gs) s =
    let r = begun (first_ts % 2 ^ 32) g in
    let e = end r gs in
    stamped-cons first_ts g (gs ++ s ∷ [])
    ∙ ap (λ xs. r.before ∷ xs) (walk-append r gs s)
    ∙ ap (λ x. r.before ∷ walk r gs ++ x ∷ []) (next-stamp first_ts e s (end_within r gs refl))
    ∙ ap (λ (x : Stamped). (r.before ∷ walk r gs) ++ at s (ts_after first_ts (Some (keep x)) s.frame) ∷ [])
    (end-before r gs)
    ∙ ap (λ xs. xs ++ after first_ts xs s ∷ []) (sym (stamped-cons first_ts g gs))

pub last_of-append : (xs : List Stamped) (x : Stamped) → last_of (xs ++ x ∷ []) ≡ Some x
last_of-append [] x = refl
last_of-append (y ∷ ys) x = ap Some (last_or-append y ys x)
  where
    last_or-append : (y : Stamped) (ys : List Stamped) (x : Stamped) → last_or y (ys ++ x ∷ []) ≡ x
    last_or-append y [] x = refl
    last_or-append y (z ∷ zs) x = last_or-append z zs x

pub parts-append : (ssrc first_seq first_ts : ℕ) (before : List Sending) (s : Sending)
    → parts (stamped first_ts (before ++ s ∷ []))
    ≡ parts (stamped first_ts before) ++ next_parts (state_of ssrc first_seq first_ts before) s
parts-append ssrc first_seq first_ts before s =
    let x = after first_ts (stamped first_ts before) s in
    ap parts (stamped-append first_ts before s)
    ∙ flat_map-append (λ (y : Stamped). map (part_of y) y.sending.frame.frame.packets) (stamped first_ts before)
    (x ∷ [])
    ∙ ap (λ ps. parts (stamped first_ts before) ++ ps) (append-nil (map (part_of x) s.frame.frame.packets))

-- what the counters of a list give for one more frame is what the longer list has more
pub packets_more : (ssrc first_seq first_ts : ℕ) (before : List Sending) (s : Sending)
    → packets_of ssrc first_seq first_ts (before ++ s ∷ [])
    ≡ packets_of ssrc first_seq first_ts before
    ++ (let x = state_of ssrc first_seq first_ts before in numbered ssrc x.next (next_parts x s))
packets_more ssrc first_seq first_ts before s =
    let x = state_of ssrc first_seq first_ts before in
    let ps = parts (stamped first_ts before) in
    ap (numbered ssrc first_seq) (parts-append ssrc first_seq first_ts before s)
    ∙ numbered-append ssrc first_seq ps (next_parts x s)
    ∙ ap (λ xs. numbered ssrc first_seq ps ++ xs)
    (numbered_alike ssrc (first_seq + length ps) x.next (next_parts x s) (omega arith))

-- the stream after one more frame
abbrev pub advanced : StreamOf → Sending → StreamOf
advanced s next = record {
  ssrc = s.ssrc;
  first_ts = s.first_ts;
  next = (s.next + length next.frame.frame.packets) % 2 ^ 16;
  packets = (s.packets + length next.frame.frame.packets) % 2 ^ 32;
  octets = (s.octets + payload_octets (next_parts s next) % 2 ^ 32) % 2 ^ 32;
  last = Some (sent next.frame (ts_after s.first_ts s.last next.frame));
  window = latest window_size (s.window ++ numbered s.ssrc s.next (next_parts s next));
}

-- a stream by its fields
same_fields : (ssrc first_ts n n' packets packets' octets octets' : ℕ) (last last' : Option LastSent)
    (window window' : List SentPacket)
    → n ≡ n' → packets ≡ packets' → octets ≡ octets' → last ≡ last' → window ≡ window'
    → (let old : StreamOf =
    record {
      ssrc = ssrc;
      first_ts = first_ts;
      next = n;
      packets = packets;
      octets = octets;
      last = last;
      window = window;
    } in
    let new : StreamOf =
    record {
      ssrc = ssrc;
      first_ts = first_ts;
      next = n';
      packets = packets';
      octets = octets';
      last = last';
      window = window';
    } in
    old ≡ new)
same_fields ssrc first_ts n n' packets packets' octets octets' last last' window window' a b c d e = search rules

pub state_more : (ssrc first_seq first_ts : ℕ) (before : List Sending) (s : Sending)
    → advanced (state_of ssrc first_seq first_ts before) s ≡ state_of ssrc first_seq first_ts (before ++ s ∷ [])
state_more ssrc first_seq first_ts before s =
    let state = state_of ssrc first_seq first_ts before in
    let x = after first_ts (stamped first_ts before) s in
    let packets = s.frame.frame.packets in
    let ps = parts (stamped first_ts before) in
    let all = parts (stamped first_ts (before ++ s ∷ [])) in
    let new = numbered ssrc state.next (next_parts state s) in
    let longer : length all ≡ length ps + length packets =
    ap length (parts-append ssrc first_seq first_ts before s)
    ∙ length-append ps (next_parts state s)
    ∙ ap (λ n. length ps + n) (length-map packets (part_of x)) in
    let octets : payload_octets all ≡ payload_octets ps + payload_octets (next_parts state s) =
    ap payload_octets (parts-append ssrc first_seq first_ts before s)
    ∙ sum_by-append (λ part. length part.packet.payload) ps (next_parts state s) in
    let last : Some (keep x) ≡ option_map keep (last_of (stamped first_ts (before ++ s ∷ []))) =
    sym (ap (λ xs. option_map keep (last_of xs)) (stamped-append first_ts before s)
    ∙ ap (option_map keep) (last_of-append (stamped first_ts before) x)) in
    let window : latest window_size (state.window ++ new)
    ≡ latest window_size (packets_of ssrc first_seq first_ts (before ++ s ∷ [])) =
    latest-append (packets_of ssrc first_seq first_ts before) new
    ∙ sym (ap (latest window_size) (packets_more ssrc first_seq first_ts before s)) in
    same_fields ssrc first_ts _ _ _ _ _ _ _ _ _ _ (omega (arith, longer)) (omega (arith, longer))
    (omega (arith, octets)) last window

-- as many packets as the frame has
pub count_next : (old : StreamOf) (s : Sending) (p : PreparedOf) → IsPrepared old s p
    → length p.packets ≡ length s.frame.frame.packets
count_next old s p prepared =
    ap length prepared.packets
    ∙ length-numbered old.ssrc old.next (next_parts old s)
    ∙ length-map s.frame.frame.packets (part_of (stamped_next old s))

prepared_stream : (old : StreamOf) (s : Sending) (p : PreparedOf) → IsPrepared old s p
    → committed old p ≡ advanced old s
prepared_stream old s p prepared =
    same_fields old.ssrc old.first_ts _ _ _ _ _ _ _ _ _ _
    prepared.behind
    (ap (λ n. (old.packets + n) % 2 ^ 32) (count_next old s p prepared))
    (ap (λ n. (old.octets + n) % 2 ^ 32) prepared.octets)
    (ap Some prepared.last)
    (ap (λ xs. latest window_size (old.window ++ xs)) prepared.packets)

-- what was prepared and then committed is the next frame
pub sends_next : (old : StreamOf) (s : Sending) (p : PreparedOf) → IsPrepared old s p
    → SendsNext old (committed old p) s p.packets
sends_next old s p prepared first_seq first_ts before h = (
  packets_more old.ssrc first_seq first_ts before s
      ∙ ap (λ xs. packets_of old.ssrc first_seq first_ts before ++ xs)
      (ap (λ (x : StreamOf). numbered x.ssrc x.next (next_parts x s)) (sym h) ∙ sym prepared.packets),
  prepared_stream old s p prepared ∙ ap (λ x. advanced x s) h ∙ state_more old.ssrc first_seq first_ts before s,
)

all_are_of : (ssrc n : ℕ) (s : Stamped) (packets : List SourcePacket)
    → AllByRecursion (IsOf s.sending) (numbered ssrc n (map (part_of s) packets))
all_are_of ssrc n s [] = tt
all_are_of ssrc n s (p ∷ ps) = (
  record { owner = refl; version = refl; item = refl; source = refl; address = refl; epoch = refl },
  all_are_of ssrc (n + 1) s ps,
)

-- and each of them is of the frame
pub whose_next : (old : StreamOf) (s : Sending) (p : PreparedOf) → IsPrepared old s p
    → AllByRecursion (IsOf s) p.packets
whose_next old s p prepared =
    subst (AllByRecursion (IsOf s)) (sym prepared.packets)
    (all_are_of old.ssrc old.next (stamped_next old s) s.frame.frame.packets)
