-- What is in the rows of one kind, found and listed.
use Rattle.std.proofs.Common.{◌≡◌, ℕ, Bool, true, false, cond, not, nat_eq, List, [], ◌∷◌, ◌++◌, map, Option, None}
use Rattle.std.proofs.Common.{Some, refl, sym, ap, ◌∙◌}
use Rattle.std.specs.Prelude.{filter, option_map, option_and_then}
use Rattle.std.specs.Option.{is_some}
use Rattle.std.specs.List.{find, filter_map, cons_option, list_all}
use Rattle.std.proofs.lemmas.Bool.{and_parts}
use Rattle.desk_rows.specs.declared.row.Row.{Row}
use Rattle.desk_rows.specs.declared.row.Row.TheVariants.{Member, Source, Slot, Sub}
use Rattle.desk_rows.specs.declared.row.Member.{Member as MemberRow}
use Rattle.desk_rows.specs.declared.row.Source.{Source as SourceRow}
use Rattle.desk_rows.specs.declared.row.Slot.{Slot as SlotRow}
use Rattle.desk_rows.specs.declared.row.Sub.{Sub as SubRow}
use Rattle.desk_rows.specs.declared.key.Key.TheVariants as keys
use Rattle.desk_rows.specs.declared.key.Kind.TheVariants as kinds
use Rattle.desk_rows.specs.Row.{has_key}
use Rattle.desk_rows.specs.Kinds.{is_of}
use Rattle.desk_rows.specs.Desk.{Desk}
use Rattle.desk_rows.specs.Getters.{member_in, source_in, slot_in, sub_in, member_at, source_at, slot_at}
use Rattle.topology.specs.Looking.{subscribed}
use Rattle.topology.specs.Choice.{sources_of}
use Rattle.topology.specs.Receivers.{slots_of}
use Rattle.topology.proofs.Distinct.{at}

-- the subscriptions of a desk
abbrev pub subs_of : Desk → List SubRow
subs_of d = filter_map sub_in d.others

abbrev pub number : MemberRow → ℕ
number m = m.member

abbrev pub source_ssrc : SourceRow → ℕ
source_ssrc s = s.ssrc

abbrev pub slot_ssrc : SlotRow → ℕ
slot_ssrc s = s.out_ssrc

abbrev pub sub_ssrc : SubRow → ℕ
sub_ssrc s = s.out_ssrc

-- ---- in any rows

-- there is a part, and it passes
abbrev passes : {X : Type 0} → (X → Bool) → Option X → Bool
passes q None = false
passes q (Some x) = q x

-- the part of the row that is found is the part that is found
found_part : {X : Type 0} (part : Row → Option X) (p : Row → Bool) (q : X → Bool)
    → ((r : Row) → p r ≡ passes q (part r)) → (rs : List Row)
    → option_and_then part (find p rs) ≡ find q (filter_map part rs)
found_part part p q same [] = refl
found_part part p q same (r ∷ rs) = by (part r) refl (found_part part p q same rs)
  where
    by : (o : Option _) → part r ≡ o → option_and_then part (find p rs) ≡ find q (filter_map part rs)
        → option_and_then part (cond (p r) (Some r) (find p rs)) ≡ find q (cons_option o (filter_map part rs))
    by None e rest = ap (λ b. option_and_then part (cond b (Some r) (find p rs))) (same r ∙ ap (passes q) e) ∙ rest
    by (Some x) e rest =
        ap (λ b. option_and_then part (cond b (Some r) (find p rs))) (same r ∙ ap (passes q) e)
        ∙ elim (q x)
        as (λ b. option_and_then part (cond b (Some r) (find p rs)) ≡ cond b (Some x) (find q (filter_map part rs)))
        [ true ↦ e | false ↦ rest ]

-- a row that is no member's is found behind them
pub behind_members : (p : Row → Bool) → ((m : MemberRow) → p (Member m) ≡ false) → (ms : List MemberRow) (rs : List Row)
    → find p (map Member ms ++ rs) ≡ find p rs
behind_members p none [] rs = refl
behind_members p none (m ∷ ms) rs =
    ap (λ b. cond b (Some (Member m)) (find p (map Member ms ++ rs))) (none m) ∙ behind_members p none ms rs

-- what f gives of the rows of a kind is what g gives of their parts
pub of_kind : {X Y : Type 0} (part : Row → Option X) (keep : Row → Bool) (f : Row → Option Y) (g : X → Option Y)
    → ((r : Row) → keep r ≡ is_some (part r)) → ((r : Row) (x : X) → part r ≡ Some x → f r ≡ g x) → (rs : List Row)
    → filter_map f (filter keep rs) ≡ filter_map g (filter_map part rs)
of_kind part keep f g kept same [] = refl
of_kind part keep f g kept same (r ∷ rs) = by (part r) refl (of_kind part keep f g kept same rs)
  where
    by : (o : Option _) → part r ≡ o → filter_map f (filter keep rs) ≡ filter_map g (filter_map part rs)
        → filter_map f (cond (keep r) (r ∷ filter keep rs) (filter keep rs))
        ≡ filter_map g (cons_option o (filter_map part rs))
    by None e rest =
        ap (λ b. filter_map f (cond b (r ∷ filter keep rs) (filter keep rs))) (kept r ∙ ap is_some e) ∙ rest
    by (Some x) e rest =
        ap (λ b. filter_map f (cond b (r ∷ filter keep rs) (filter keep rs))) (kept r ∙ ap is_some e)
        ∙ ap (λ o. cons_option o (filter_map f (filter keep rs))) (same r x e)
        ∙ ap (cons_option (g x)) rest

-- rows without a part
no_parts : {X : Type 0} (part : Row → Option X) (p : Row → Bool) → ((r : Row) → p r ≡ is_some (part r))
    → (rs : List Row) → list_all (λ r. not (p r)) rs ≡ true → filter_map part rs ≡ []
no_parts part p same [] h = refl
no_parts part p same (r ∷ rs) h =
    let both = and_parts (not (p r)) (list_all (λ r. not (p r)) rs) h in
    by (part r) refl both.0 ∙ no_parts part p same rs both.1
  where
    by : (o : Option _) → part r ≡ o → not (p r) ≡ true → cons_option o (filter_map part rs) ≡ filter_map part rs
    by None e n = refl
    by (Some x) e n = absurd (let bad : false ≡ true = ap not (sym (same r ∙ ap is_some e)) ∙ n in cc)

-- ---- by kinds

member_key : (k : ℕ) (r : Row) → has_key (keys.Member k) r ≡ passes (λ (m : MemberRow). nat_eq m.member k) (member_in r)
member_key k (Member r) = refl
member_key k _ = refl

source_key : (k : ℕ) (r : Row) → has_key (keys.Source k) r ≡ passes (λ (s : SourceRow). nat_eq s.ssrc k) (source_in r)
source_key k (Source r) = refl
source_key k _ = refl

slot_key : (k : ℕ) (r : Row) → has_key (keys.Slot k) r ≡ passes (λ (s : SlotRow). nat_eq s.out_ssrc k) (slot_in r)
slot_key k (Slot r) = refl
slot_key k _ = refl

sub_key : (k : ℕ) (r : Row) → has_key (keys.Sub k) r ≡ passes (λ (s : SubRow). nat_eq s.out_ssrc k) (sub_in r)
sub_key k (Sub r) = refl
sub_key k _ = refl

is_member : (r : Row) → is_of kinds.Member r ≡ is_some (member_in r)
is_member (Member r) = refl
is_member _ = refl

pub is_source : (r : Row) → is_of kinds.Source r ≡ is_some (source_in r)
is_source (Source r) = refl
is_source _ = refl

pub its_source : (r : Row) (s : SourceRow) → source_in r ≡ Some s → r ≡ Source s
its_source (Source r) s e = (let same : r ≡ s = cc in ap Source same)
its_source _ s e = absurd (cc)

-- ---- in a desk

-- sources, slots and subscriptions, found by their rows
pub source_row : (d : Desk) (k : ℕ) → source_at d k ≡ at source_ssrc k (sources_of d)
source_row d k =
    ap (option_and_then source_in) (behind_members (has_key (keys.Source k)) (λ m. refl) d.members d.others)
    ∙ found_part source_in (has_key (keys.Source k)) (λ (s : SourceRow). nat_eq s.ssrc k) (source_key k) d.others

pub slot_row : (d : Desk) (k : ℕ) → slot_at d k ≡ at slot_ssrc k (slots_of d)
slot_row d k =
    ap (option_and_then slot_in) (behind_members (has_key (keys.Slot k)) (λ m. refl) d.members d.others)
    ∙ found_part slot_in (has_key (keys.Slot k)) (λ (s : SlotRow). nat_eq s.out_ssrc k) (slot_key k) d.others

pub sub_row : (d : Desk) (k : ℕ) → subscribed d k ≡ option_map (λ (s : SubRow). s.source) (at sub_ssrc k (subs_of d))
sub_row d k =
    ap (λ o. option_map (λ (s : SubRow). s.source) (option_and_then sub_in o))
    (behind_members (has_key (keys.Sub k)) (λ m. refl) d.members d.others)
    ∙ ap (option_map (λ (s : SubRow). s.source))
    (found_part sub_in (has_key (keys.Sub k)) (λ (s : SubRow). nat_eq s.out_ssrc k) (sub_key k) d.others)

-- members in the list of them, where no other row is a member's
found_member : (k : ℕ) (ms : List MemberRow) (rs : List Row) → list_all (λ r. not (is_of kinds.Member r)) rs ≡ true
    → option_and_then member_in (find (has_key (keys.Member k)) (map Member ms ++ rs)) ≡ at number k ms
found_member k [] rs h =
    found_part member_in (has_key (keys.Member k)) (λ (m : MemberRow). nat_eq m.member k) (member_key k) rs
    ∙ ap (find (λ (m : MemberRow). nat_eq m.member k)) (no_parts member_in (is_of kinds.Member) is_member rs h)
found_member k (m ∷ ms) rs h = by (nat_eq m.member k) (found_member k ms rs h)
  where
    by : (b : Bool) → option_and_then member_in (find (has_key (keys.Member k)) (map Member ms ++ rs)) ≡ at number k ms
        → option_and_then member_in (cond b (Some (Member m)) (find (has_key (keys.Member k)) (map Member ms ++ rs)))
        ≡ cond b (Some m) (at number k ms)
    by true later = refl
    by false later = later

pub member_row : (d : Desk) (k : ℕ) → list_all (λ r. not (is_of kinds.Member r)) d.others ≡ true
    → member_at d k ≡ at number k d.members
member_row d k h = found_member k d.members d.others h

-- sources are listed from their rows
pub source_rows : (d : Desk) → filter_map source_in (filter (is_of kinds.Source) d.others) ≡ sources_of d
source_rows d =
    of_kind source_in (is_of kinds.Source) source_in Some is_source (λ r x e. e) d.others ∙ all_some (sources_of d)
  where
    all_some : {X : Type 0} (xs : List X) → filter_map Some xs ≡ xs
    all_some [] = refl
    all_some (x ∷ xs) = ap (λ ys. x ∷ ys) (all_some xs)
