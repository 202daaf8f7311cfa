-- Packets that go on where a window ends can be kept in it, and others may go on behind them.
use Rattle.std.proofs.Common.{◌≡◌, ℕ, ◌+◌, ◌-◌, ◌≤◌, List, [], ◌∷◌, ◌++◌, length, drop, Option, None, Some, refl, sym}
use Rattle.std.proofs.Common.{ap, ◌∙◌, subst, arith, append_assoc, length-append, length-drop}
use Rattle.std.specs.Option.{IfSome}
use Rattle.std.specs.List.{last_or}
use Rattle.std.proofs.lemmas.List.{drop-drop, drop-append-le, append-nil}
use Rattle.rtp_codec.specs.Sequence.{next}
use Rattle.retransmit.specs.SentPacket.{SentPacket}
use Rattle.retransmit.specs.Window.{window_size, latest, MayFollow, GoOn, AreInARow}
use Rattle.retransmit.proofs.InARow.{may_follow-latest}
use Rattle.forward_rewrite.specs.inner.Row.{Follows, Lead, MayGoOn, IsKept}

-- what is kept of the last ones and more is what is kept of all
pub latest-append : (sent more : List SentPacket)
    → latest window_size (latest window_size sent ++ more) ≡ latest window_size (sent ++ more)
latest-append sent more =
    let a = length sent - 512 in
    let kept : length (latest window_size sent) ≡ length sent - a = length-drop a sent in
    let b = length (latest window_size sent ++ more) - 512 in
    let all : length (sent ++ more) - 512 ≡ a + b =
    omega (arith, length-append sent more, length-append (latest window_size sent) more) in
    sym (ap (λ n. drop n (sent ++ more)) all
    ∙ sym (drop-drop b a (sent ++ more))
    ∙ ap (drop b) (drop-append-le a sent more (omega arith)))

last_or-snoc : (o : Option SentPacket) (qs : List SentPacket) (p : SentPacket) → last_or o (qs ++ p ∷ []) ≡ Some p
last_or-snoc o [] p = refl
last_or-snoc o (q ∷ qs) p = last_or-snoc (Some q) qs p

-- behind a packet comes the next number
follows-snoc : (qs : List SentPacket) (p : SentPacket) (n : ℕ) → p.number ≡ n
    → Follows (latest window_size (qs ++ p ∷ [])) (next n)
follows-snoc qs p n e =
    let after : SentPacket =
    record {
      number = next n;
      owner = p.owner;
      version = p.version;
      item = p.item;
      source = p.source;
      address = p.address;
      epoch = p.epoch;
      ext = p.ext;
      bytes = p.bytes;
    } in
    (may_follow-latest (qs ++ p ∷ []) after).1
    (subst (λ (o : Option SentPacket). IfSome o (λ last. next n ≡ next last.number)) (sym (last_or-snoc None qs p))
    (ap next (sym e)))

pub may_go_on : (window ps : List SentPacket) (n behind : ℕ) → Follows window n → Lead n ps behind → MayGoOn window ps
may_go_on window [] n behind f l = tt
may_go_on window (p ∷ ps) n behind f l = (
  subst (λ (k : ℕ). Follows window k) (sym l.0) f,
  may_go_on (latest window_size (window ++ p ∷ [])) ps (next n) behind (follows-snoc window p n l.0) l.1,
)

-- a window of so few packets keeps them all
pub latest-few : (window : List SentPacket) → length window ≤ window_size → latest window_size window ≡ window
latest-few window few =
    let none : length window - window_size ≡ 0 = omega (arith, few) in
    ap (λ k. drop k window) none

pub few-latest : (sent : List SentPacket) → length (latest window_size sent) ≤ window_size
few-latest sent = omega (arith, length-drop (length sent - 512) sent)

-- what comes behind the packets follows once they are kept
pub follows-lead : (window ps : List SentPacket) (n behind : ℕ) → length window ≤ window_size → Follows window n
    → Lead n ps behind → Follows (latest window_size (window ++ ps)) behind
follows-lead window [] n behind few f l =
    let same : latest window_size (window ++ []) ≡ window =
    ap (latest window_size) (append-nil window) ∙ latest-few window few in
    subst (λ (k : ℕ). Follows (latest window_size (window ++ [])) k) (sym l)
    (subst (λ (w : List SentPacket). Follows w n) (sym same) f)
follows-lead window (p ∷ ps) n behind few f l =
    let kept = latest window_size (window ++ p ∷ []) in
    let same : latest window_size (kept ++ ps) ≡ latest window_size (window ++ p ∷ ps) =
    latest-append (window ++ p ∷ []) ps ∙ ap (latest window_size) (append_assoc window (p ∷ []) ps) in
    subst (λ (w : List SentPacket). Follows w behind) same
    (follows-lead kept ps (next n) behind (few-latest (window ++ p ∷ [])) (follows-snoc window p n l.0) l.1)

pub kept-lead : (old window new ps : List SentPacket) (number n behind : ℕ) → IsKept window number → old ≡ window
    → n ≡ number → Lead n ps behind → new ≡ latest window_size (old ++ ps) → IsKept new behind
kept-lead old window new ps number n behind k view first l is =
    let all : new ≡ latest window_size (window ++ ps) =
    is ∙ ap (λ (w : List SentPacket). latest window_size (w ++ ps)) view in
    subst (λ (w : List SentPacket). IsKept w behind) (sym all) (record {
      few = few-latest (window ++ ps);
      follows = follows-lead window ps n behind k.few (subst (λ (m : ℕ). Follows window m) (sym first) k.follows) l;
    })

-- the first of the packets that are left may follow
pub may_follow_first : (window left rest : List SentPacket) (entry : SentPacket) → left ≡ entry ∷ rest
    → MayGoOn window left → MayFollow window entry
may_follow_first window left rest entry is h = (subst (MayGoOn window) is h).0

-- it is kept, and the others may go on
pub goes_on_more : (window new left rest : List SentPacket) (entry : SentPacket)
    → new ≡ latest window_size (window ++ entry ∷ []) → left ≡ entry ∷ rest → MayGoOn window left → MayGoOn new rest
goes_on_more window new left rest entry pushed is h =
    subst (λ (w : List SentPacket). MayGoOn w rest) (sym pushed) (subst (MayGoOn window) is h).1

pub few_more : (window new : List SentPacket) (entry : SentPacket) → new ≡ latest window_size (window ++ entry ∷ [])
    → length new ≤ window_size
few_more window new entry pushed =
    subst (λ (w : List SentPacket). length w ≤ window_size) (sym pushed) (few-latest (window ++ entry ∷ []))

pub kept_more : (window new left rest all : List SentPacket) (entry : SentPacket)
    → new ≡ latest window_size (window ++ entry ∷ []) → left ≡ entry ∷ rest → latest window_size (window ++ left) ≡ all
    → latest window_size (new ++ rest) ≡ all
kept_more window new left rest all entry pushed is told =
    ap (λ (w : List SentPacket). latest window_size (w ++ rest)) pushed
    ∙ latest-append (window ++ entry ∷ []) rest
    ∙ ap (latest window_size) (append_assoc window (entry ∷ []) rest)
    ∙ ap (λ (r : List SentPacket). latest window_size (window ++ r)) (sym is)
    ∙ told

-- nothing is left
pub all_kept : (window left all : List SentPacket) → length window ≤ window_size → left ≡ []
    → latest window_size (window ++ left) ≡ all → window ≡ all
all_kept window left all few is told =
    sym (latest-few window few)
    ∙ ap (latest window_size) (sym (append-nil window))
    ∙ ap (λ (r : List SentPacket). latest window_size (window ++ r)) (sym is)
    ∙ told

lead-go_on : (p : SentPacket) (ps : List SentPacket) (behind : ℕ) → Lead (next p.number) ps behind → GoOn p.number ps
lead-go_on p [] behind l = tt
lead-go_on p (q ∷ qs) behind l =
    (l.0, lead-go_on q qs behind (subst (λ (k : ℕ). Lead (next k) qs behind) (sym l.0) l.1))

-- packets that lead from one number to another are in a row
pub lead-in_a_row : (ps : List SentPacket) (n behind : ℕ) → Lead n ps behind → AreInARow ps
lead-in_a_row [] n behind l = tt
lead-in_a_row (p ∷ ps) n behind l = lead-go_on p ps behind (subst (λ (k : ℕ). Lead (next k) ps behind) (sym l.0) l.1)
