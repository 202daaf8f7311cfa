-- One more frame goes out whole, and all packets in a row.
use Rattle.std.proofs.Common.{◌≡◌, ℕ, ◌+◌, ◌%◌, ◌^◌, List, [], ◌∷◌, ◌++◌, length, refl, sym, ap, ◌∙◌, length-append}
use Rattle.std.proofs.lemmas.List.{length-map}
use Rattle.std.specs.Prelude.{IfSome}
use Rattle.std.specs.List.{slice_get}
use Rattle.forward_rewrite.specs.Sending.{Sending}
use Rattle.forward_rewrite.specs.Timestamps.{last_of, stamped}
use Rattle.forward_rewrite.specs.RoutedList.{Part, part_of, parts, numbered, packets_of}
use Rattle.forward_rewrite.specs.Streams.{state_of}
use Rattle.forward_rewrite.specs.inner.Counters.{ts_after, stamped_next, next_parts}
use Rattle.forward_rewrite.specs.laws.Laws.{GoesWhole}
use Rattle.forward_rewrite.proofs.Numbers.{numbered-append, length-numbered}
use Rattle.forward_rewrite.proofs.Next.{stamped-append, last_of-append, parts-append, packets_more}

count_more : (ssrc first_seq first_ts : ℕ) (before : List Sending) (next : Sending)
    → length (packets_of ssrc first_seq first_ts (before ++ next ∷ []))
    ≡ length (packets_of ssrc first_seq first_ts before) + length next.frame.frame.packets
count_more ssrc first_seq first_ts before next =
    let state = state_of ssrc first_seq first_ts before in
    let new = numbered ssrc state.next (next_parts state next) in
    ap length (packets_more ssrc first_seq first_ts before next)
    ∙ length-append (packets_of ssrc first_seq first_ts before) new
    ∙ ap (λ n. length (packets_of ssrc first_seq first_ts before) + n)
    (length-numbered ssrc state.next (next_parts state next)
    ∙ length-map next.frame.frame.packets (part_of (stamped_next state next)))

pub goes_whole : (ssrc first_seq first_ts : ℕ) (before : List Sending) (next : Sending)
    → GoesWhole ssrc first_seq first_ts before next
goes_whole ssrc first_seq first_ts before next =
    let state = state_of ssrc first_seq first_ts before in
    let ps = parts (stamped first_ts before) in
    record {
      ts = ts_after first_ts state.last next.frame;
      stamp =
          ap last_of (stamped-append first_ts before next)
          ∙ last_of-append (stamped first_ts before) (stamped_next state next);
      packets =
          ap (numbered ssrc first_seq) (parts-append ssrc first_seq first_ts before next)
          ∙ numbered-append ssrc first_seq ps (next_parts state next)
          ∙ ap (λ n. packets_of ssrc first_seq first_ts before ++ numbered ssrc (first_seq + n) (next_parts state next))
          (sym (length-numbered ssrc first_seq ps));
      count = count_more ssrc first_seq first_ts before next;
    }

pub first_number : (ssrc n : ℕ) (xs : List Part)
    → IfSome (slice_get (numbered ssrc n xs) 0) (λ p. p.number ≡ n % 2 ^ 16)
first_number ssrc n [] = tt
first_number ssrc n (x ∷ xs) = refl
