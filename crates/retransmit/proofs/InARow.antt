-- Packets in a row: one more, and the last of them.
use Rattle.std.proofs.Common.{◌≡◌, ℕ, ◌+◌, ◌-◌, ◌≤◌, ◌↔◌, zero, suc, List, [], ◌∷◌, ◌++◌, length, drop, Option, None}
use Rattle.std.proofs.Common.{Some, refl, sym, ap, ◌∙◌, subst, arith, append_assoc, length-append, length-drop}
use Rattle.std.specs.Option.{IfSome}
use Rattle.std.specs.List.{last_or}
use Rattle.std.proofs.lemmas.List.{drop-drop, drop-append-le, append-nil}
use Rattle.rtp_codec.specs.Sequence.{next}
use Rattle.retransmit.specs.SentPacket.{SentPacket}
use Rattle.retransmit.specs.Window.{window_size, latest, MayFollow, GoOn, AreInARow}
use Rattle.retransmit.specs.laws.SoFar.{ArePushed}

-- its number is the one behind the other's
abbrev IsBehind : SentPacket → SentPacket → Type 0
IsBehind p q = p.number ≡ next q.number

go_on-append : (q : SentPacket) (qs : List SentPacket) (p : SentPacket) → GoOn q.number qs
    → IfSome (last_or (Some q) qs) (IsBehind p) → GoOn q.number (qs ++ p ∷ [])
go_on-append q [] p g h = (h, tt)
go_on-append q (r ∷ rs) p g h = (g.0, go_on-append r rs p g.1 h)

go_on-parts : (q : SentPacket) (qs : List SentPacket) (p : SentPacket) → GoOn q.number (qs ++ p ∷ [])
    → GoOn q.number qs × IfSome (last_or (Some q) qs) (IsBehind p)
go_on-parts q [] p g = (tt, g.0)
go_on-parts q (r ∷ rs) p g = let rest = go_on-parts r rs p g.1 in ((g.0, rest.0), rest.1)

go_on-front : (m : ℕ) (qs ps : List SentPacket) → GoOn m (qs ++ ps) → GoOn m qs
go_on-front m [] ps g = tt
go_on-front m (q ∷ qs) ps g = (g.0, go_on-front q.number qs ps g.1)

pub in_a_row-append : (qs : List SentPacket) (p : SentPacket) → AreInARow qs → MayFollow qs p → AreInARow (qs ++ p ∷ [])
in_a_row-append [] p g h = tt
in_a_row-append (q ∷ qs) p g h = go_on-append q qs p g h

pub in_a_row-parts : (qs : List SentPacket) (p : SentPacket) → AreInARow (qs ++ p ∷ []) → AreInARow qs × MayFollow qs p
in_a_row-parts [] p g = (tt, tt)
in_a_row-parts (q ∷ qs) p g = go_on-parts q qs p g

in_a_row-front : (qs ps : List SentPacket) → AreInARow (qs ++ ps) → AreInARow qs
in_a_row-front [] ps g = tt
in_a_row-front (q ∷ qs) ps g = go_on-front q.number qs ps g

in_a_row-tail : (p : SentPacket) (ps : List SentPacket) → GoOn p.number ps → AreInARow ps
in_a_row-tail p [] g = tt
in_a_row-tail p (q ∷ qs) g = g.1

pub in_a_row-drop : (k : ℕ) (ps : List SentPacket) → AreInARow ps → AreInARow (drop k ps)
in_a_row-drop zero ps g = g
in_a_row-drop (suc k) [] g = tt
in_a_row-drop (suc k) (p ∷ ps) g = in_a_row-drop k ps (in_a_row-tail p ps g)

last_or-drop : (k : ℕ) (o : Option SentPacket) (p : SentPacket) (ps : List SentPacket) → k ≤ length ps
    → last_or None (drop k (p ∷ ps)) ≡ last_or o (p ∷ ps)
last_or-drop zero o p ps le = refl
last_or-drop (suc k) o p [] le = absurd (omega (arith, le))
last_or-drop (suc k) o p (q ∷ qs) le = last_or-drop k (Some p) q qs (omega (arith, le))

last_or-latest : (sent : List SentPacket) → last_or None (latest window_size sent) ≡ last_or None sent
last_or-latest [] = refl
last_or-latest (p ∷ ps) = last_or-drop (length (p ∷ ps) - window_size) None p ps (omega arith)

pub may_follow-latest : (sent : List SentPacket) (p : SentPacket)
    → MayFollow (latest window_size sent) p ↔ MayFollow sent p
may_follow-latest sent p = (
  subst (λ (o : Option SentPacket). IfSome o (IsBehind p)) (last_or-latest sent),
  subst (λ (o : Option SentPacket). IfSome o (IsBehind p)) (sym (last_or-latest sent)),
)

pub latest-latest : (sent : List SentPacket) (p : SentPacket)
    → latest window_size (latest window_size sent ++ p ∷ []) ≡ latest window_size (sent ++ p ∷ [])
latest-latest sent p =
    let a = length sent - 512 in
    let kept : length (latest window_size sent) ≡ length sent - a = length-drop a sent in
    let b = length (latest window_size sent ++ p ∷ []) - 512 in
    let all : length (sent ++ p ∷ []) - 512 ≡ a + b =
    omega (arith, length-append sent (p ∷ []), length-append (latest window_size sent) (p ∷ [])) in
    sym (ap (λ n. drop n (sent ++ p ∷ [])) all
    ∙ sym (drop-drop b a (sent ++ p ∷ []))
    ∙ ap (drop b) (drop-append-le a sent (p ∷ []) (omega arith)))

pub length-latest : (sent : List SentPacket) → length (latest window_size sent) ≤ window_size
length-latest sent = omega (arith, length-drop (length sent - 512) sent)

are_pushed : (before sent window : List SentPacket) → AreInARow before
    → ArePushed (latest window_size before) sent window
    → AreInARow (before ++ sent) × (window ≡ latest window_size (before ++ sent))
are_pushed before [] window g h = (
  subst AreInARow (sym (append-nil before)) g,
  h ∙ ap (latest window_size) (sym (append-nil before)),
)
are_pushed before (p ∷ ps) window g h =
    let row : AreInARow (before ++ p ∷ []) = in_a_row-append before p g ((may_follow-latest before p).0 h.0) in
    let rest : ArePushed (latest window_size (before ++ p ∷ [])) ps window =
    subst (λ (old : List SentPacket). ArePushed old ps window) (latest-latest before p) h.1 in
    let all = are_pushed (before ++ p ∷ []) ps window row rest in
    let same : (before ++ p ∷ []) ++ ps ≡ before ++ p ∷ ps = append_assoc before (p ∷ []) ps in
    (subst AreInARow same all.0, all.1 ∙ ap (latest window_size) same)

can_be_pushed : (before sent window : List SentPacket) → AreInARow (before ++ sent)
    → window ≡ latest window_size (before ++ sent) → ArePushed (latest window_size before) sent window
can_be_pushed before [] window g e = e ∙ ap (latest window_size) (append-nil before)
can_be_pushed before (p ∷ ps) window g e =
    let same : (before ++ p ∷ []) ++ ps ≡ before ++ p ∷ ps = append_assoc before (p ∷ []) ps in
    let row : AreInARow ((before ++ p ∷ []) ++ ps) = subst AreInARow (sym same) g in
    let next = in_a_row-parts before p (in_a_row-front (before ++ p ∷ []) ps row) in (
      (may_follow-latest before p).1 next.1,
      subst (λ (old : List SentPacket). ArePushed old ps window) (sym (latest-latest before p))
          (can_be_pushed (before ++ p ∷ []) ps window row (e ∙ ap (latest window_size) (sym same))),
    )

pub pushed : (sent window : List SentPacket)
    → ArePushed [] sent window ↔ (AreInARow sent × (window ≡ latest window_size sent))
pushed sent window = (λ h. are_pushed [] sent window tt h, λ h. can_be_pushed [] sent window h.0 h.1)
