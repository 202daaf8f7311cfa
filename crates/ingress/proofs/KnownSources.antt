-- What is kept of the known sources, source by source.
use Rattle.std.proofs.Common.{◌≡◌, ℕ, zero, suc, ◌-◌, Bool, true, false, ◌&&◌, nat_eq, if◌then◌else◌, List, [], ◌∷◌}
use Rattle.std.proofs.Common.{take, Option, None, Some, is_some, refl, sym, ap, subst, ◌∙◌}
use Rattle.std.proofs.lemmas.Slice.Eq.{bytes_eq-Decides}
use Rattle.std.proofs.lemmas.Bool.{eqb-true}
use Rattle.std.specs.Str.{bytes_eq}
use Rattle.std.specs.Map.{lookup_entry, remove_entry, set_value}
use Rattle.std.specs.Option.{option_map_or}
use Rattle.ingress.specs.declared.known.OriginKey.{OriginKey}
use Rattle.ingress.specs.Stories.{Story}
use Rattle.ingress.specs.Sources.{Origin, Known, most_known, same_origin, story_at, without, used, retold}
use Rattle.ingress.specs.inner.SourceEntries.{EntryOf, Keeps}
use Rattle.ingress.specs.inner.Holding.{Holds, same_key, key_of, kept_at, put_first}
use Rattle.ingress.proofs.Courses.{KeepsAny}

pub kept_story : (o : Origin) (es : List (OriginKey × EntryOf)) (ks : List Known) → Holds es ks
    → KeepsAny (kept_at (key_of o) es) (story_at o ks)
kept_story o [] [] h = tt
kept_story o [] (k ∷ ks) h = absurd h
kept_story o (e ∷ es) [] h = absurd h
kept_story o (e ∷ es) (k ∷ ks) h =
    (elim (same_origin o k.origin)
    as (λ y. same_origin o k.origin ≡ y → KeepsAny (kept_at (key_of o) (e ∷ es)) (story_at o (k ∷ ks))) [
      | true ↦ λ t.
          let passes : same_key (key_of o) e.0 ≡ true = ap (same_key (key_of o)) h.0.0 ∙ t in rw passes (rw t h.0.1)
      | false ↦ λ f.
          let fails : same_key (key_of o) e.0 ≡ false = ap (same_key (key_of o)) h.0.0 ∙ f in
          rw fails (rw f (kept_story o es ks h.1))
    ]) refl

-- keys of origins that are the same
both : (a b : Bool) → (a && b) ≡ true → (a ≡ true) × (b ≡ true)
both true b h = (refl, h)
both false b h = cc

equal_octets : (xs ys : List ℕ) → bytes_eq xs ys ≡ true → xs ≡ ys
equal_octets xs ys h = (bytes_eq-Decides xs ys).0 h

equal_numbers : (m n : ℕ) → nat_eq m n ≡ true → m ≡ n
equal_numbers m n h = eqb-true m n h

key_with : List ℕ → ℕ → ℕ → OriginKey
key_with ip port ssrc = record { ip = ip; port = port; ssrc = ssrc }

pub equal_keys : (o p : Origin) → same_origin o p ≡ true → key_of p ≡ key_of o
unfolding key_with
equal_keys o p h =
    let one =
    both (bytes_eq o.address.ip p.address.ip) (nat_eq o.address.port p.address.port && nat_eq o.ssrc p.ssrc) h in
    let two = both (nat_eq o.address.port p.address.port) (nat_eq o.ssrc p.ssrc) one.1 in
    sym (ap (λ x. key_with x o.address.port o.ssrc) (equal_octets _ _ one.0)
    ∙ ap (λ x. key_with p.address.ip x o.ssrc) (equal_numbers _ _ two.0)
    ∙ ap (λ x. key_with p.address.ip p.address.port x) (equal_numbers _ _ two.1))

holds_front : (n : ℕ) (es : List (OriginKey × EntryOf)) (ks : List Known) → Holds es ks → Holds (take n es) (take n ks)
holds_front zero es ks h = tt
holds_front (suc n) [] [] h = tt
holds_front (suc n) [] (k ∷ ks) h = absurd h
holds_front (suc n) (e ∷ es) [] h = absurd h
holds_front (suc n) (e ∷ es) (k ∷ ks) h = (h.0, holds_front n es ks h.1)

-- the entry of an origin is found where its source is known, and without both the others are held
pub record Parted (o : Origin) (es : List (OriginKey × EntryOf)) (ks : List Known) : Type 0 where
  pub found : is_some (story_at o ks) ≡ is_some (lookup_entry (same_key (key_of o)) es)
  pub key : (e : OriginKey × EntryOf) → lookup_entry (same_key (key_of o)) es ≡ Some e → e.0 ≡ key_of o
  pub rest : is_some (story_at o ks) ≡ true → Holds (remove_entry (same_key (key_of o)) es) (without o ks)

parted : (o : Origin) (es : List (OriginKey × EntryOf)) (ks : List Known) → Holds es ks → Parted o es ks
parted o [] [] h = record { found = refl; key = λ e is. cc; rest = λ is. cc }
parted o [] (k ∷ ks) h = absurd h
parted o (e ∷ es) [] h = absurd h
parted o (e ∷ es) (k ∷ ks) h =
    (elim (same_origin o k.origin) as (λ y. same_origin o k.origin ≡ y → Parted o (e ∷ es) (k ∷ ks)) [
      | true ↦ λ t. let passes : same_key (key_of o) e.0 ≡ true = ap (same_key (key_of o)) h.0.0 ∙ t in record {
        found = rw passes (rw t refl);
        key = λ f is.
            let same : e ≡ f = (let is' = rw passes at is in cc) in
            subst (λ (x : OriginKey × EntryOf). x.0 ≡ key_of o) same (h.0.0 ∙ equal_keys o k.origin t);
        rest = λ is. rw passes (rw t h.1);
      }
      | false ↦ λ f.
          let fails : same_key (key_of o) e.0 ≡ false = ap (same_key (key_of o)) h.0.0 ∙ f in
          let on = parted o es ks h.1 in record {
            found = rw fails (rw f on.found);
            key = λ x is. on.key x (rw fails at is);
            rest = λ is. rw fails (rw f (h.0, on.rest (rw f at is)));
          }
    ]) refl

placed : (o : Origin) (k : EntryOf) (story : Story) (es : List (OriginKey × EntryOf)) (ks : List Known) (b : Bool)
    (x : Option (OriginKey × EntryOf))
    → Keeps k story → Holds es ks → b ≡ is_some x
    → ((e : OriginKey × EntryOf) → x ≡ Some e → e.0 ≡ key_of o)
    → (b ≡ true → Holds (remove_entry (same_key (key_of o)) es) (without o ks))
    → Holds
    (option_map_or (λ e. (e.0, k) ∷ remove_entry (same_key (key_of o)) es) x ((key_of o, k) ∷ take (most_known - 1) es))
    (if b
    then record { origin = o; story = story } ∷ without o ks
    else record { origin = o; story = story } ∷ take (most_known - 1) ks)
placed o k story es ks true (Some e) keeps h same key rest = ((key e refl, keeps), rest refl)
placed o k story es ks false None keeps h same key rest = ((refl, keeps), holds_front (most_known - 1) es ks h)
placed o k story es ks true None keeps h same key rest = cc
placed o k story es ks false (Some e) keeps h same key rest = cc

pub holds_used : (o : Origin) (k : EntryOf) (story : Story) (es : List (OriginKey × EntryOf)) (ks : List Known)
    → Keeps k story → Holds es ks → Holds (put_first (key_of o) k es) (used (record { origin = o; story = story }) ks)
holds_used o k story es ks keeps h = let parts = parted o es ks h in
    placed o k story es ks (is_some (story_at o ks)) (lookup_entry (same_key (key_of o)) es) keeps h parts.found
    parts.key parts.rest

-- with another value for the source at an origin
pub holds_retold : (o : Origin) (f : Story → Story) (k w : EntryOf) (es : List (OriginKey × EntryOf)) (ks : List Known)
    → Holds es ks → kept_at (key_of o) es ≡ Some k → ((story : Story) → Keeps k story → Keeps w (f story))
    → Holds (set_value (same_key (key_of o)) es w) (retold o f ks)
holds_retold o f k w [] ks h is keeps = cc
holds_retold o f k w (e ∷ es) [] h is keeps = absurd h
holds_retold o f k w (e ∷ es) (x ∷ ks) h is keeps =
    (elim (same_origin o x.origin)
    as (λ y. same_origin o x.origin ≡ y → Holds (set_value (same_key (key_of o)) (e ∷ es) w) (retold o f (x ∷ ks))) [
      | true ↦ λ t. let passes : same_key (key_of o) e.0 ≡ true = ap (same_key (key_of o)) h.0.0 ∙ t in
          let same : e.1 ≡ k = (let is' = rw passes at is in cc) in
          rw passes (rw t ((h.0.0, keeps x.story (subst (λ (y : EntryOf). Keeps y x.story) same h.0.1)), h.1))
      | false ↦ λ t. let fails : same_key (key_of o) e.0 ≡ false = ap (same_key (key_of o)) h.0.0 ∙ t in
          rw fails (rw t (h.0, holds_retold o f k w es ks h.1 (rw fails at is) keeps))
    ]) refl

-- with another story for the source at an origin, of which the same is kept
pub holds_told : (o : Origin) (f : Story → Story) (k : EntryOf) (es : List (OriginKey × EntryOf)) (ks : List Known)
    → Holds es ks → kept_at (key_of o) es ≡ Some k → ((story : Story) → Keeps k story → Keeps k (f story))
    → Holds es (retold o f ks)
holds_told o f k [] ks h is keeps = cc
holds_told o f k (e ∷ es) [] h is keeps = absurd h
holds_told o f k (e ∷ es) (x ∷ ks) h is keeps =
    (elim (same_origin o x.origin) as (λ y. same_origin o x.origin ≡ y → Holds (e ∷ es) (retold o f (x ∷ ks))) [
      | true ↦ λ t. let passes : same_key (key_of o) e.0 ≡ true = ap (same_key (key_of o)) h.0.0 ∙ t in
          let same : k ≡ e.1 = (let is' = rw passes at is in cc) in
          rw t (
            (
              h.0.0,
              subst (λ (y : EntryOf). Keeps y (f x.story)) same
                  (keeps x.story (subst (λ (y : EntryOf). Keeps y x.story) (sym same) h.0.1)),
            ),
            h.1,
          )
      | false ↦ λ t. let fails : same_key (key_of o) e.0 ≡ false = ap (same_key (key_of o)) h.0.0 ∙ t in
          rw t (h.0, holds_told o f k es ks h.1 (rw fails at is) keeps)
    ]) refl

pub holds_same : (o : Origin) (f : Story → Story) (es : List (OriginKey × EntryOf)) (ks : List Known) → Holds es ks
    → kept_at (key_of o) es ≡ None → Holds es (retold o f ks)
holds_same o f [] [] h is = tt
holds_same o f [] (k ∷ ks) h is = absurd h
holds_same o f (e ∷ es) [] h is = absurd h
holds_same o f (e ∷ es) (x ∷ ks) h is =
    (elim (same_origin o x.origin) as (λ y. same_origin o x.origin ≡ y → Holds (e ∷ es) (retold o f (x ∷ ks))) [
      | true ↦ λ t.
          let passes : same_key (key_of o) e.0 ≡ true = ap (same_key (key_of o)) h.0.0 ∙ t in
          let is' = rw passes at is in cc
      | false ↦ λ t.
          let fails : same_key (key_of o) e.0 ≡ false = ap (same_key (key_of o)) h.0.0 ∙ t in
          rw t (h.0, holds_same o f es ks h.1 (rw fails at is))
    ]) refl
