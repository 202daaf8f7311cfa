-- What is counted of each source, while few are kept.
use Rattle.std.proofs.Common.{◌≡◌, ℕ, zero, suc, ◌+◌, ◌-◌, ◌^◌, ◌<◌, ◌≤◌, min, nat_eq, Bool, true, false, ◌&&◌, cond}
use Rattle.std.proofs.Common.{List, [], ◌∷◌, ◌++◌, length, take, Option, None, Some, refl, sym, ap, ◌∙◌, subst, inl}
use Rattle.std.proofs.Common.{inr}
use Rattle.std.proofs.Common.{append_assoc, arith}
use Rattle.std.specs.Prelude.{filter}
use Rattle.std.specs.Str.{bytes_eq}
use Rattle.std.specs.Map.{lookup, lookup_entry, remove_entry}
use Rattle.std.specs.Option.{option_map_or}
use Rattle.std.proofs.lemmas.List.{append-nil, take_all, length-take}
use Rattle.std.proofs.lemmas.List.Elements.{filter-append}
use Rattle.std.proofs.lemmas.Slice.Eq.{bytes_eq-Decides}
use Rattle.std.proofs.lemmas.Bool.{eqb-true, eq-eqb}
use Rattle.rtp_codec.specs.declared.writing.Header.{Header}
use Rattle.bridge_stats.specs.declared.taken.TakenIn.{TakenIn}
use Rattle.bridge_stats.specs.declared.sender.Sender.{Sender}
use Rattle.ingress.specs.declared.outcome_class.Whose.{Whose}
use Rattle.ingress.specs.declared.outcome_class.Whose.TheVariants.{Nobody, Stranger, Source, Member}
use Rattle.bridge_stats.specs.Senders.{same_sender, sender_of}
use Rattle.ingress.specs.Outcomes.{whose}
use Rattle.bridge_stats.specs.Tables.{TableOf, most_sources, or_none, with_kept, IsKept, IsSourceNoted}
use Rattle.bridge_stats.specs.Stats.{StatsOf, HasNoted, IsNotedBy, IsNotedApart}
use Rattle.bridge_stats.specs.Runs.{AreAllNoted, is_source, is_sent_by, is_of}

abbrev Entries : Type 0
Entries = List (Sender × List TakenIn)

-- one sender
same_sender_is : (a b : Sender) → same_sender a b ≡ true → a ≡ b
same_sender_is a b h = (elim (bytes_eq a.ip b.ip) as (λ y. bytes_eq a.ip b.ip ≡ y → a ≡ b) [
  | true ↦ λ t. let rest = rw t at h in (elim (nat_eq a.port b.port) as (λ z. nat_eq a.port b.port ≡ z → a ≡ b) [
    | true ↦ λ u.
        let last = rw u at rest in
        let ip = (bytes_eq-Decides a.ip b.ip).0 t in
        let port = eqb-true a.port b.port u in
        let ssrc = eqb-true a.ssrc b.ssrc last in
        ap (λ (i : List ℕ). record { ip = i; port = a.port; ssrc = a.ssrc }) ip
        ∙ (ap (λ (p : ℕ). record { ip = b.ip; port = p; ssrc = a.ssrc }) port
        ∙ ap (λ (s : ℕ). record { ip = b.ip; port = b.port; ssrc = s }) ssrc)
    | false ↦ λ u. let last = rw u at rest in absurd (cc)
  ]) refl
  | false ↦ λ t. let none = rw t at h in absurd (cc)
]) refl

same_itself : (a : Sender) → same_sender a a ≡ true
same_itself a =
    let ip : bytes_eq a.ip a.ip ≡ true = (bytes_eq-Decides a.ip a.ip).1 refl in
    rw ip (rw (eq-eqb a.port a.port refl) (eq-eqb a.ssrc a.ssrc refl))

-- an entry that is taken out leaves what is found under other keys
lookup-remove : (test other : Sender → Bool) → ((x : Sender) → test x ≡ true → other x ≡ false) → (es : Entries)
    → lookup other (remove_entry test es) ≡ lookup other es
lookup-remove test other apart [] = refl
lookup-remove test other apart (e ∷ es) =
    (elim (test e.0)
    as (λ y. test e.0 ≡ y → lookup other (remove_entry test (e ∷ es)) ≡ lookup other (e ∷ es)) [
      | true ↦ λ t. rw t (rw (apart e.0 t) refl)
      | false ↦ λ f.
          rw f (ap (λ (o : Option (List TakenIn)). cond (other e.0) (Some e.1) o) (lookup-remove test other apart es))
    ]) refl

-- the entry that is taken out
record IsOut (test : Sender → Bool) (es : Entries) (e : Sender × List TakenIn) : Type 0 where
  pub passes : test e.0 ≡ true
  pub one_less : suc (length (remove_entry test es)) ≡ length es

taken_out : (test : Sender → Bool) (es : Entries) (e : Sender × List TakenIn) → lookup_entry test es ≡ Some e
    → IsOut test es e
taken_out test [] e h = absurd (cc)
taken_out test (x ∷ es) e h = (elim (test x.0) as (λ y. test x.0 ≡ y → IsOut test (x ∷ es) e) [
  | true ↦ λ t.
      let found = rw t at h in
      let same : x ≡ e = cc in
      record { passes = subst (λ (z : Sender × List TakenIn). test z.0 ≡ true) same t; one_less = rw t refl }
  | false ↦ λ f.
      let rest = taken_out test es e (rw f at h) in
      record { passes = rest.passes; one_less = rw f (ap (λ (n : ℕ). suc n) rest.one_less) }
]) refl

-- what is found after this was kept of a sender, where fewer than the most are kept
record IsPut (most : ℕ) (s : Sender) (v : List TakenIn) (es new : Entries) : Type 0 where
  pub few : length es < most
  pub own : lookup (same_sender s) new ≡ Some v
  pub others : (q : Sender) → same_sender q s ≡ false → lookup (same_sender q) new ≡ lookup (same_sender q) es

abbrev put : ℕ → Sender → List TakenIn → Entries → Option (Sender × List TakenIn) → Entries
put most s v es found =
    option_map_or (λ e. (e.0, v) ∷ remove_entry (same_sender s) es) found ((s, v) ∷ take (most - 1) es)

-- one that is not the sender is not the one that is the sender
apart : (q s x : Sender) → same_sender q s ≡ false → same_sender s x ≡ true → same_sender q x ≡ false
apart q s x h t = subst (λ (y : Sender). same_sender q y ≡ false) (same_sender_is s x t) h

is_put : (most : ℕ) (s : Sender) (v : List TakenIn) (es : Entries) (found : Option (Sender × List TakenIn))
    → lookup_entry (same_sender s) es ≡ found → length (put most s v es found) < most
    → IsPut most s v es (put most s v es found)
is_put most s v es (Some e) h few =
    let out = taken_out (same_sender s) es e h in
    let less = out.one_less in
    record {
      few = omega (arith, few, less);
      own =
          ap (λ (b : Bool). cond b (Some v) (lookup (same_sender s) (remove_entry (same_sender s) es))) out.passes;
      others = λ q other.
          ap (λ (b : Bool). cond b (Some v) (lookup (same_sender q) (remove_entry (same_sender s) es)))
          (apart q s e.0 other out.passes)
          ∙ lookup-remove (same_sender s) (same_sender q) (λ x t. apart q s x other t) es;
    }
is_put most s v es None h few =
    let short = length-take (most - 1) es in
    let fits : length es < most = omega (arith, few, short) in
    record {
      few = fits;
      own = ap (λ (b : Bool). cond b (Some v) (lookup (same_sender s) (take (most - 1) es))) (same_itself s);
      others = λ q other.
          ap (λ (b : Bool). cond b (Some v) (lookup (same_sender q) (take (most - 1) es))) other
          ∙ ap (lookup (same_sender q)) (take_all (most - 1) es (omega (arith, fits)));
    }

-- what one more datagram adds, where few are kept and none was left out
record IsStep (t : TakenIn) (old new : StatsOf) : Type 0 where
  pub few : length old.sources.entries < most_sources
  pub none : old.sources.left_out ≡ 0
  pub more : (q : Sender) → or_none (lookup (same_sender q) new.sources.entries)
      ≡ or_none (lookup (same_sender q) old.sources.entries) ++ filter (is_of q) (t ∷ [])

-- a datagram of no source changes nothing
unchanged : (t : TakenIn) (old new : StatsOf) → new.sources ≡ old.sources
    → ((q : Sender) → is_of q t ≡ false) → length new.sources.entries < most_sources → new.sources.left_out ≡ 0
    → IsStep t old new
unchanged t old new same nobodys few none = record {
  few = subst (λ (s : TableOf (List TakenIn)). length s.entries < most_sources) same few;
  none = ap (λ (s : TableOf (List TakenIn)). s.left_out) (sym same) ∙ none;
  more = λ q.
      ap (λ (s : TableOf (List TakenIn)). or_none (lookup (same_sender q) s.entries)) same
      ∙ (sym (append-nil (or_none (lookup (same_sender q) old.sources.entries)))
      ∙ ap (λ (b : Bool). or_none (lookup (same_sender q) old.sources.entries) ++ cond b (t ∷ []) [])
      (sym (nobodys q)));
}

not_none : (n : ℕ) → min (n + 1) (2 ^ 64 - 1) ≡ 0 → ⊥
not_none n h = omega (arith, h)

-- a datagram of a source
of_source : (t : TakenIn) (s : Sender) (old new : StatsOf) → ((q : Sender) → is_of q t ≡ same_sender q s)
    → IsSourceNoted s t old.sources new.sources → length new.sources.entries < most_sources → new.sources.left_out ≡ 0
    → IsStep t old new
of_source t s old new its (inr out) few none =
    absurd (not_none old.sources.left_out (ap (λ (x : TableOf (List TakenIn)). x.left_out) (sym out.0) ∙ none))
of_source t s old new its (inl kept) few none = record {
  few = here.few;
  none = ap (λ (x : TableOf (List TakenIn)). x.left_out) (sym kept) ∙ none;
  more = λ q. by q (same_sender q s) refl;
}
  where
    entries_are : new.sources.entries
        ≡ put most_sources s (or_none (lookup (same_sender s) old.sources.entries) ++ t ∷ []) old.sources.entries
        (lookup_entry (same_sender s) old.sources.entries)
    entries_are = ap (λ (x : TableOf (List TakenIn)). x.entries) kept

    here : IsPut most_sources s (or_none (lookup (same_sender s) old.sources.entries) ++ t ∷ []) old.sources.entries
        new.sources.entries
    here =
        subst
        (IsPut most_sources s (or_none (lookup (same_sender s) old.sources.entries) ++ t ∷ []) old.sources.entries)
        (sym entries_are)
        (is_put most_sources s (or_none (lookup (same_sender s) old.sources.entries) ++ t ∷ []) old.sources.entries
        (lookup_entry (same_sender s) old.sources.entries) refl
        (subst (λ (l : Entries). length l < most_sources) entries_are few))

    by : (q : Sender) (b : Bool) → same_sender q s ≡ b
        → or_none (lookup (same_sender q) new.sources.entries)
        ≡ or_none (lookup (same_sender q) old.sources.entries) ++ filter (is_of q) (t ∷ [])
    by q true same =
        subst
        (λ (x : Sender). or_none (lookup (same_sender x) new.sources.entries)
        ≡ or_none (lookup (same_sender x) old.sources.entries) ++ filter (is_of x) (t ∷ []))
        (sym (same_sender_is q s same))
        (ap or_none here.own
        ∙ ap (λ (b : Bool). or_none (lookup (same_sender s) old.sources.entries) ++ cond b (t ∷ []) [])
        (sym (its s ∙ same_itself s)))
    by q false other =
        ap or_none (here.others q other)
        ∙ (sym (append-nil (or_none (lookup (same_sender q) old.sources.entries)))
        ∙ ap (λ (b : Bool). or_none (lookup (same_sender q) old.sources.entries) ++ cond b (t ∷ []) [])
        (sym (its q ∙ other)))

by_whom : (w : Whose) (t : TakenIn) (header : Header) (old new : StatsOf) → whose t.outcome ≡ w → t.header ≡ Some header
    → IsNotedApart w (sender_of t.from header) header.pt t old new → length new.sources.entries < most_sources
    → new.sources.left_out ≡ 0
    → IsStep t old new
by_whom Nobody t header old new is has noted few none =
    unchanged t old new noted.0
    (λ q.
    ap (λ (h : Option Header). is_sent_by q h t) has
    ∙ ap (λ (w : Whose). is_source w && same_sender q (sender_of t.from header)) is)
    few none
by_whom Stranger t header old new is has noted few none =
    unchanged t old new noted.0
    (λ q.
    ap (λ (h : Option Header). is_sent_by q h t) has
    ∙ ap (λ (w : Whose). is_source w && same_sender q (sender_of t.from header)) is)
    few none
by_whom Member t header old new is has noted few none =
    unchanged t old new noted.0
    (λ q.
    ap (λ (h : Option Header). is_sent_by q h t) has
    ∙ ap (λ (w : Whose). is_source w && same_sender q (sender_of t.from header)) is)
    few none
by_whom Source t header old new is has noted few none =
    of_source t (sender_of t.from header) old new
    (λ q.
    ap (λ (h : Option Header). is_sent_by q h t) has
    ∙ ap (λ (w : Whose). is_source w && same_sender q (sender_of t.from header)) is)
    noted.0 few none

by_header : (h : Option Header) (t : TakenIn) (old new : StatsOf) → t.header ≡ h → IsNotedBy h t old new
    → length new.sources.entries < most_sources → new.sources.left_out ≡ 0
    → IsStep t old new
by_header None t old new is noted few none =
    unchanged t old new noted.0 (λ q. ap (λ (h : Option Header). is_sent_by q h t) is) few none
by_header (Some header) t old new is noted few none =
    by_whom (whose t.outcome) t header old new refl is noted few none

is_step : (t : TakenIn) (old new : StatsOf) → HasNoted t old new → length new.sources.entries < most_sources
    → new.sources.left_out ≡ 0
    → IsStep t old new
is_step t old new noted few none = by_header t.header t old new refl noted.apart few none

-- what a run adds
pub record IsRun (all : List TakenIn) (old new : StatsOf) : Type 0 where
  pub few : length old.sources.entries < most_sources
  pub none : old.sources.left_out ≡ 0
  pub more : (q : Sender) → or_none (lookup (same_sender q) new.sources.entries)
      ≡ or_none (lookup (same_sender q) old.sources.entries) ++ filter (is_of q) all

pub is_run : (all : List TakenIn) (old new : StatsOf) → AreAllNoted all old new
    → length new.sources.entries < most_sources → new.sources.left_out ≡ 0
    → IsRun all old new
is_run [] old new same few none = record {
  few = subst (λ (s : StatsOf). length s.sources.entries < most_sources) same few;
  none = ap (λ (s : StatsOf). s.sources.left_out) (sym same) ∙ none;
  more = λ q.
      ap (λ (s : StatsOf). or_none (lookup (same_sender q) s.sources.entries)) same
      ∙ sym (append-nil (or_none (lookup (same_sender q) old.sources.entries)));
}
is_run (t ∷ all) old new noted few none =
    let rest = is_run all noted.0 new noted.2 few none in
    let first = is_step t old noted.0 noted.1 rest.few rest.none in
    record {
      few = first.few;
      none = first.none;
      more = λ q.
          rest.more q
          ∙ (ap (λ (l : List TakenIn). l ++ filter (is_of q) all) (first.more q)
          ∙ (append_assoc (or_none (lookup (same_sender q) old.sources.entries)) (filter (is_of q) (t ∷ []))
          (filter (is_of q) all)
          ∙ ap (λ (l : List TakenIn). or_none (lookup (same_sender q) old.sources.entries) ++ l)
          (sym (filter-append (is_of q) (t ∷ []) all))));
    }

-- all that was noted is seen
pub all_taken : (all : List TakenIn) (old new : StatsOf) → AreAllNoted all old new → new.taken ≡ old.taken ++ all
all_taken [] old new same = ap (λ (s : StatsOf). s.taken) same ∙ sym (append-nil old.taken)
all_taken (t ∷ all) old new noted =
    all_taken all noted.0 new noted.2
    ∙ (ap (λ (l : List TakenIn). l ++ all) noted.1.all ∙ append_assoc old.taken (t ∷ []) all)
