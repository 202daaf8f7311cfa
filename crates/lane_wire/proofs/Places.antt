-- Streams at their places among those that are kept.
use Rattle.std.proofs.Common.{◌≡◌, ◌∙◌, ℕ, zero, suc, ◌+◌, ◌≤◌, Bool, true, false, List, [], ◌∷◌, ◌++◌, length}
use Rattle.std.proofs.Common.{take, drop, slice_get, None, Some, All, inl, inr, refl, sym, ap, subst, arith}
use Rattle.std.specs.Map.{lookup, lookup_key, values_of}
use Rattle.indexmap.specs.IndexMap.{set_value_at}
use Rattle.lane_wire.specs.declared.stream_numbers.KeptStream.{KeptStream}
use Rattle.lane_wire.specs.declared.stream_numbers.StreamNews.{StreamNews}
use Rattle.lane_wire.specs.Streams.{most_streams, after_more, IsRenewed, IsOneForgotten, HasSpace}
use Rattle.lane_wire.specs.inner.Places.{Stands, HasLast, AreLater}

abbrev Entries : Type 0
Entries = List (ℕ × KeptStream)

-- the key that is found passes
pub key_passes : (test : ℕ → Bool) (es : Entries) (k : ℕ) → lookup_key test es ≡ Some k → test k ≡ true
key_passes test [] k h = cc
key_passes test (e ∷ es) k h = (elim (test e.0) as (λ y. test e.0 ≡ y → test k ≡ true) [
  | true ↦ λ t.
      let h' = rw t at h in
      let same : e.0 ≡ k = cc in sym (ap test same) ∙ t
  | false ↦ λ t. key_passes test es k (rw t at h)
]) refl

-- with these numbers at a place
pub renewed : (es : Entries) (place ssrc number : ℕ) (news : StreamNews) (now w : KeptStream) → Stands ssrc place es
    → slice_get (values_of es) place ≡ Some now → w ≡ after_more news number now
    → IsRenewed ssrc news number es (set_value_at es place w)
renewed [] place ssrc number news now w there at is = absurd (cc)
renewed (e ∷ es) zero ssrc number news now w there at is =
    let same : e ≡ (ssrc, there.0) = cc in
    let key : e.0 ≡ ssrc = ap (λ x. x.0) same in
    let value : e.1 ≡ now = cc in
    record {
      before = [];
      kept = now;
      behind = es;
      was = ap (λ k. (k, e.1) ∷ es) key ∙ ap (λ v. (ssrc, v) ∷ es) value;
      is = ap (λ k. (k, w) ∷ es) key ∙ ap (λ v. (ssrc, v) ∷ es) is;
    }
renewed (e ∷ es) (suc place) ssrc number news now w there at is =
    let rest = renewed es place ssrc number news now w there at is in
    record {
      before = e ∷ rest.before;
      kept = rest.kept;
      behind = rest.behind;
      was = ap (λ l. e ∷ l) rest.was;
      is = ap (λ l. e ∷ l) rest.is;
    }

pub long_as_ever : (es : Entries) (place : ℕ) (w : KeptStream) → length (set_value_at es place w) ≡ length es
long_as_ever [] place w = refl
long_as_ever (e ∷ es) zero w = refl
long_as_ever (e ∷ es) (suc place) w = ap suc (long_as_ever es place w)

later_next : (es : Entries) (n last x low : ℕ) → AreLater n last es → HasLast n x es → low ≤ last → low ≤ x
    → AreLater (suc n) low es
later_next [] n last x low before there a b = tt
later_next (e ∷ es) zero last x low before there a b =
    let same : e ≡ there.0 = cc in
    let is : e.1.last ≡ x = ap (λ y. y.1.last) same ∙ there.2 in
    (omega (arith, is, b), tt)
later_next (e ∷ es) (suc n) last x low before there a b =
    (omega (arith, before.0, a), later_next es n last x low before.1 there a b)

-- one stream more, and the older one of two
pub later_more : (es : Entries) (n last x low : ℕ) → AreLater n last es → HasLast n x es → low ≤ last → low ≤ x
    → AreLater (n + 1) low es
later_more es n last x low before there a b =
    let is : suc n ≡ n + 1 = omega arith in
    subst (λ m. AreLater m low es) is (later_next es n last x low before there a b)

pub all_later : (es : Entries) (last : ℕ) → AreLater (length es) last es → All (λ other. last ≤ other.1.last) es
all_later [] last h k d within = absurd (omega (arith, within))
all_later (e ∷ es) last h zero d within = h.0
all_later (e ∷ es) last h (suc k) d within = all_later es last h.1 k d (omega (arith, within))

split_at : (es : Entries) (place : ℕ) (e : ℕ × KeptStream) → slice_get es place ≡ Some e
    → es ≡ take place es ++ e ∷ drop (suc place) es
split_at [] place e h = absurd (cc)
split_at (x ∷ es) zero e h =
    let same : x ≡ e = cc in ap (λ y. y ∷ es) same
split_at (x ∷ es) (suc n) e h = ap (λ l. x ∷ l) (split_at es n e h)

-- the oldest one is removed
pub forgets : (es new : Entries) (place last : ℕ) → HasLast place last es → AreLater (length es) last es
    → length es ≡ most_streams → new ≡ take place es ++ drop (suc place) es → IsOneForgotten es new
forgets es new place last there later full is = record {
  full = full;
  before = take place es;
  forgotten = there.0;
  behind = drop (suc place) es;
  was = split_at es place there.0 there.1;
  oldest = subst (λ n. All (λ other. n ≤ other.1.last) es) (sym there.2) (all_later es last later);
  is = is;
}

absent_without : (test : ℕ → Bool) (before : Entries) (e : ℕ × KeptStream) (behind : Entries)
    → lookup test (before ++ e ∷ behind) ≡ None → lookup test (before ++ behind) ≡ None
absent_without test [] e behind h = (elim (test e.0) as (λ y. test e.0 ≡ y → lookup test behind ≡ None) [
  | true ↦ λ t. let h' = rw t at h in absurd (cc)
  | false ↦ λ t. rw t at h
]) refl
absent_without test (x ∷ before) e behind h =
    (elim (test x.0) as (λ y. test x.0 ≡ y → lookup test (x ∷ (before ++ behind)) ≡ None) [
      | true ↦ λ t. let h' = rw t at h in absurd (cc)
      | false ↦ λ t. rw t (absent_without test before e behind (rw t at h))
    ]) refl

-- what isn't kept isn't kept either where there is space
pub absent_in_space : (test : ℕ → Bool) (old new : Entries) → HasSpace old new → lookup test old ≡ None
    → lookup test new ≡ None
absent_in_space test old new (inl p) none = ap (lookup test) p.1 ∙ none
absent_in_space test old new (inr f) none =
    ap (lookup test) f.is
    ∙ absent_without test f.before f.forgotten f.behind (sym (ap (lookup test) f.was) ∙ none)
