-- A room's inputs in three parts, and what a member without gains hears of them.
use Rattle.std.proofs.Common.{◌≡◌, ℕ, ℤ, ◌+◌, ◌-◌, ◌<◌, ◌≤◌, Bool, true, false, not, cond, nat_eq, nat_lt, List, []}
use Rattle.std.proofs.Common.{◌∷◌, ◌++◌, length, map, filter, take, drop, slice_index_or, if◌then◌else◌, refl, sym, ap}
use Rattle.std.proofs.Common.{◌∙◌, arith, append-nil, append_assoc, inl, inr}
use Rattle.std.specs.List.{range_with_len}
use Rattle.std.proofs.lemmas.List.{take_more, take-append-drop, length-append, nil_from_length, get_or-map, get_or_read}
use Rattle.std.proofs.lemmas.List.{get_or_append_left, get_or_push, length-take-le, take_at}
use Rattle.std.proofs.lemmas.List.Elements.{All-map}
use Rattle.std.proofs.lemmas.Bool.{cases_lt}
use Rattle.std.proofs.lemmas.Bool.Decides.{nat_tests}
use mir.Val.{bool_byte}
use Rattle.std.proofs.lemmas.List.Elements.{filter_more, filter-append}
use Rattle.mix_minus.specs.declared.input.Input.{Input}
use Rattle.mix_minus.specs.Mix.{is_own, own_of, others_of, present_in, clamped, contributing, IsMix, AreFull}
use Rattle.desk_rows.specs.declared.row.Member.{Member as MemberRow}
use Rattle.desk_rows.specs.Desk.{Desk}
use Rattle.media_items.specs.Formats.{tick_at}
use Rattle.topology.specs.declared.hearing.AudioSource.{AudioSource}
use Rattle.topology.specs.Mixes.{gain_of}
use Rattle.mixer.specs.Hearing.{Voice, member_rate, heard_at, part_of, sum_of, contributes, contributors}
use Rattle.mixer.specs.inner.Counted.{member_of, AreBefore}
use Rattle.mixer.specs.inner.Rooms.{plain, plain_voice, of_room}
use Rattle.mixer.proofs.Listed.{listed}
use Rattle.mixer.proofs.HeardOf.{gains_for, heard_of, named_of, others_of as others_in, as_many}

-- ---- one input more

pub own_kept : (m n : ℕ) (inputs : List Input) (e : Input) → n < length inputs
    → nat_eq (slice_index_or inputs n e).member m ≡ true → own_of m (take n inputs) ≡ take n inputs
    → own_of m (take (n + 1) inputs) ≡ take (n + 1) inputs
own_kept m n inputs e l own so =
    let i = slice_index_or inputs n e in
    filter_more (is_own m) inputs n e l
    ∙ ap (λ b. own_of m (take n inputs) ++ cond b (i ∷ []) []) own
    ∙ ap (λ xs. xs ++ i ∷ []) so
    ∙ sym (take_more inputs n e l)

pub own_more : (m n : ℕ) (inputs : List Input) (e : Input) → n < length inputs
    → nat_eq (slice_index_or inputs n e).member m ≡ true → others_of m (take n inputs) ≡ []
    → others_of m (take (n + 1) inputs) ≡ []
own_more m n inputs e l own so =
    filter_more (λ (x : Input). not (is_own m x)) inputs n e l
    ∙ ap (λ b. others_of m (take n inputs) ++ cond (not b) (slice_index_or inputs n e ∷ []) []) own
    ∙ ap (λ xs. xs ++ []) so

-- ---- three parts

pub record IsApart (m : ℕ) (inputs front own back : List Input) : Type 0 where
  pub whole : inputs ≡ front ++ (own ++ back)
  pub own_are : own_of m inputs ≡ own
  pub others_are : others_of m inputs ≡ front ++ back

pub is_apart : (m : ℕ) (inputs front own back : List Input) → inputs ≡ front ++ (own ++ back) → own_of m front ≡ []
    → others_of m front ≡ front → own_of m own ≡ own → others_of m own ≡ [] → own_of m back ≡ []
    → others_of m back ≡ back
    → IsApart m inputs front own back
is_apart m inputs front own back whole f0 f1 o0 o1 b0 b1 =
    let P = is_own m in
    let Q = λ (x : Input). not (is_own m x) in
    record {
      whole = whole;
      own_are =
          ap (filter P) whole
          ∙ filter-append P front (own ++ back)
          ∙ ap (λ xs. xs ++ filter P (own ++ back)) f0
          ∙ filter-append P own back
          ∙ ap (λ xs. xs ++ filter P back) o0
          ∙ ap (λ xs. own ++ xs) b0
          ∙ append-nil own;
      others_are =
          ap (filter Q) whole
          ∙ filter-append Q front (own ++ back)
          ∙ ap (λ xs. xs ++ filter Q (own ++ back)) f1
          ∙ ap (λ xs. front ++ xs) (filter-append Q own back ∙ ap (λ xs. xs ++ filter Q back) o1 ∙ b1);
    }

-- ---- counted

-- a truth is at most one
pub most_one : (b : Bool) → bool_byte b ≤ 1
most_one true = omega arith
most_one false = omega arith

-- the inputs of a member are counted by the members of all inputs
one_counted : (b : Bool) (xs : List Input) (i : Input) → length (xs ++ cond b (i ∷ []) []) ≡ length xs + bool_byte b
one_counted true xs i = length-append xs (i ∷ [])
one_counted false xs i = length-append xs []

pub count_more : (m n : ℕ) (inputs : List Input) (members : List ℕ) (e : Input) (d : ℕ) → n < length inputs
    → members ≡ map member_of inputs
    → length (own_of m (take (n + 1) inputs))
    ≡ length (own_of m (take n inputs)) + bool_byte (nat_eq (slice_index_or members n d) m)
count_more m n inputs members e d l same =
    let i = slice_index_or inputs n e in
    let here : slice_index_or members n d ≡ i.member =
    ap (λ xs. slice_index_or xs n d) same ∙ get_or-map member_of inputs n e d l in
    ap length (filter_more (is_own m) inputs n e l) ∙ one_counted (is_own m i) (own_of m (take n inputs)) i
    ∙ ap (λ k. length (own_of m (take n inputs)) + bool_byte (nat_eq k m)) (sym here)

-- where none is the member's, all are others'
no_own : (m : ℕ) (inputs : List Input) → length (own_of m inputs) ≡ 0 → others_of m inputs ≡ inputs
no_own m [] none = refl
no_own m (i ∷ inputs) none = by (is_own m i) (no_own m inputs) none
  where
    by : (b : Bool) → (length (own_of m inputs) ≡ 0 → others_of m inputs ≡ inputs)
        → length (cond b (i ∷ own_of m inputs) (own_of m inputs)) ≡ 0
        → cond (not b) (i ∷ others_of m inputs) (others_of m inputs) ≡ i ∷ inputs
    by true rest none = absurd (omega (arith, none))
    by false rest none = ap (λ xs. i ∷ xs) (rest none)

-- cut in three, where the part between the others has as many of the member's inputs as there are
pub cut : (m : ℕ) (inputs front rest own back : List Input) (start count : ℕ) → front ≡ take start inputs
    → rest ≡ drop start inputs → own ≡ take count rest → back ≡ drop count rest
    → own_of m (take count rest) ≡ take count rest → others_of m (take count rest) ≡ []
    → length (own_of m inputs) ≡ length own → IsApart m inputs front own back
cut m inputs front rest own back start count ef er eo eb o0 o1 all =
    let P = is_own m in
    let behind : rest ≡ own ++ back =
    sym (take-append-drop count rest) ∙ ap (λ xs. xs ++ drop count rest) (sym eo) ∙ ap (λ xs. own ++ xs) (sym eb) in
    let whole : inputs ≡ front ++ (own ++ back) =
    sym (take-append-drop start inputs)
    ∙ ap (λ xs. xs ++ drop start inputs) (sym ef)
    ∙ ap (λ xs. front ++ xs) (sym er ∙ behind) in
    let middle : own_of m own ≡ own = ap (own_of m) eo ∙ o0 ∙ sym eo in
    let parts : own_of m inputs ≡ own_of m front ++ (own_of m own ++ own_of m back) =
    ap (filter P) whole
    ∙ filter-append P front (own ++ back)
    ∙ ap (λ xs. filter P front ++ xs) (filter-append P own back) in
    let sum : length (own_of m inputs) ≡ length (own_of m front) + (length (own_of m own) + length (own_of m back)) =
    ap length parts
    ∙ length-append (own_of m front) (own_of m own ++ own_of m back)
    ∙ ap (λ k. length (own_of m front) + k) (length-append (own_of m own) (own_of m back)) in
    let no_front : length (own_of m front) ≡ 0 = omega (arith, sum, all, ap length middle) in
    let no_back : length (own_of m back) ≡ 0 = omega (arith, sum, all, ap length middle) in
    is_apart m inputs front own back whole
    (nil_from_length (own_of m front) no_front) (no_own m front no_front)
    middle (ap (others_of m) eo ∙ o1)
    (nil_from_length (own_of m back) no_back) (no_own m back no_back)

-- ---- who is present

abbrev pub named_one : Input → List ℕ
named_one i = if nat_lt 0 i.filled then i.ssrc ∷ [] else []

present-append : (xs ys : List Input) → present_in (xs ++ ys) ≡ present_in xs ++ present_in ys
present-append [] ys = refl
present-append (x ∷ xs) ys =
    ap (λ zs. named_one x ++ zs) (present-append xs ys)
    ∙ sym (append_assoc (named_one x) (present_in xs) (present_in ys))

pub present_more : (n : ℕ) (inputs : List Input) (e : Input) → n < length inputs
    → present_in (take (n + 1) inputs) ≡ present_in (take n inputs) ++ named_one (slice_index_or inputs n e)
present_more n inputs e l =
    ap present_in (take_more inputs n e l)
    ∙ present-append (take n inputs) (slice_index_or inputs n e ∷ [])
    ∙ ap (λ xs. present_in (take n inputs) ++ xs) (append-nil (named_one (slice_index_or inputs n e)))

pub present_parts : (front own back : List Input)
    → present_in (front ++ (own ++ back)) ≡ present_in front ++ (present_in own ++ present_in back)
present_parts front own back =
    present-append front (own ++ back) ∙ ap (λ xs. present_in front ++ xs) (present-append own back)

pub present_two : (front back : List Input) → present_in (front ++ back) ≡ present_in front ++ present_in back
present_two front back = present-append front back

some_there : (n : ℕ) → 0 < n → nat_lt 0 n ≡ true
some_there n l = grind (arith, nat_tests)

none_there : (n : ℕ) → n ≤ 0 → nat_lt 0 n ≡ false
none_there n l = grind (arith, nat_tests)

-- one more that is there
pub there_more : (n : ℕ) (inputs : List Input) (e : Input) → n < length inputs → 0 < (slice_index_or inputs n e).filled
    → present_in (take (n + 1) inputs) ≡ present_in (take n inputs) ++ (slice_index_or inputs n e).ssrc ∷ []
there_more n inputs e l here =
    let i = slice_index_or inputs n e in
    present_more n inputs e l
    ∙ ap (λ b. present_in (take n inputs) ++ (if b then i.ssrc ∷ [] else [])) (some_there i.filled here)

-- one more that isn't
pub there_same : (n : ℕ) (inputs : List Input) (e : Input) → n < length inputs → (slice_index_or inputs n e).filled ≤ 0
    → present_in (take (n + 1) inputs) ≡ present_in (take n inputs)
there_same n inputs e l absent =
    let i = slice_index_or inputs n e in
    present_more n inputs e l
    ∙ ap (λ b. present_in (take n inputs) ++ (if b then i.ssrc ∷ [] else [])) (none_there i.filled absent)
    ∙ append-nil (present_in (take n inputs))

-- one more is there or not
named_count : (b : Bool) (s : ℕ) → length (if b then s ∷ [] else []) ≡ bool_byte b
named_count true s = refl
named_count false s = refl

pub there_count : (n : ℕ) (inputs : List Input) (e : Input) → n < length inputs
    → length (present_in (take (n + 1) inputs))
    ≡ length (present_in (take n inputs)) + bool_byte (nat_lt 0 (slice_index_or inputs n e).filled)
there_count n inputs e l =
    let i = slice_index_or inputs n e in
    ap length (present_more n inputs e l)
    ∙ length-append (present_in (take n inputs)) (named_one i)
    ∙ ap (λ k. length (present_in (take n inputs)) + k) (named_count (nat_lt 0 i.filled) i.ssrc)

-- one number more
pub one_pushed : (f : ℕ → ℕ) (xs : List ℕ) (n x : ℕ) → length xs ≡ n + 1
    → ((k : ℕ) → k ≤ n → slice_index_or xs k 0 ≡ f k) → x ≡ f (n + 1)
    → (k : ℕ) → k ≤ n + 1 → slice_index_or (xs ++ x ∷ []) k 0 ≡ f k
one_pushed f xs n x long so is k le = elim (cases_lt k (n + 1)) [
  | inl below ↦ get_or_append_left xs (x ∷ []) 0 k (omega (arith, long, below)) ∙ so k (omega (arith, below))
  | inr above ↦
      (let same : k ≡ n + 1 = omega (arith, le, above) in get_or_push xs x 0 k (long ∙ sym same) ∙ is ∙ ap f (sym same))
]

-- the counts before a part and through it
pub record AreCounted (front own : List Input) (before through : ℕ) : Type 0 where
  pub front_are : before ≡ length (present_in front)
  pub own_are : through - before ≡ length (present_in own)
  pub rising : before ≤ through

pub counted : (m : ℕ) (inputs front own back : List Input) (counts : List ℕ) (start count before through : ℕ)
    → IsApart m inputs front own back → front ≡ take start inputs → start ≤ length inputs → length own ≡ count
    → AreBefore counts inputs → before ≡ slice_index_or counts start before
    → through ≡ slice_index_or counts (start + count) through → AreCounted front own before through
counted m inputs front own back counts start count before through apart ef within long are is_before is_through =
    let of_front : length front ≡ start = ap length ef ∙ length-take-le start inputs within in
    let of_all : length inputs ≡ length front + (length own + length back) =
    ap length apart.whole ∙ length-append front (own ++ back) ∙ ap (λ k. length front + k) (length-append own back) in
    let end : start + count ≤ length inputs = omega (arith, of_front, of_all, long) in
    let before_is : before ≡ length (present_in front) =
    get_or_read counts start before (omega (arith, are.long, within)) is_before 0
    ∙ are.count start within
    ∙ ap (λ xs. length (present_in xs)) (sym ef) in
    let both : take (start + count) inputs ≡ front ++ own =
    ap (take (start + count)) (apart.whole ∙ sym (append_assoc front own back))
    ∙ take_at (front ++ own) back (start + count) (length-append front own ∙ omega (arith, of_front, long)) in
    let through_is : through ≡ length (present_in front) + length (present_in own) =
    get_or_read counts (start + count) through (omega (arith, are.long, end)) is_through 0
    ∙ are.count (start + count) end
    ∙ ap (λ xs. length (present_in xs)) both
    ∙ ap length (present-append front own)
    ∙ length-append (present_in front) (present_in own) in
    record {
      front_are = before_is;
      own_are = omega (arith, before_is, through_is);
      rising = omega (arith, before_is, through_is);
    }

-- ---- what is heard

-- all gains are full
pub all_full : (d : Desk) (m : MemberRow) (inputs : List Input) (ws : List Voice)
    → map plain inputs ≡ map plain_voice ws → ((source : ℕ) → gain_of d m.member source ≡ 256)
    → AreFull inputs (gains_for d m ws)
all_full d m inputs ws same full = record {
  paired = as_many d m inputs ws same;
  full =
      All-map (λ gain. gain ≡ 256) (λ (s : AudioSource). gain_of d m.member s.ssrc) (map (λ (v : Voice). v.source) ws)
      (λ k s l. full (slice_index_or (map (λ (v : Voice). v.source) ws) k s).ssrc);
}

-- a mix of a room is what its member hears
pub heard_by_mix : (d : Desk) (m : MemberRow) (voices : List Voice) (room : ℕ) (inputs : List Input) (out : List ℤ)
    → room ≡ m.room → map plain inputs ≡ map plain_voice (of_room room voices)
    → length out ≡ tick_at (member_rate d m) → IsMix inputs (gains_for d m (of_room room voices)) m.member out
    → out ≡ map (heard_at voices d m) (range_with_len 0 (tick_at (member_rate d m)))
heard_by_mix d m voices room inputs out own same long mix =
    listed (heard_at voices d m) out (tick_at (member_rate d m)) long (λ i l.
    mix i (omega (arith, long))
    ∙ ap clamped (heard_of d m i inputs (of_room room voices) same)
    ∙ ap (λ vs. clamped (sum_of (map (part_of d m i) vs))) (others_in m voices room own))

-- the others of whom a sample is present contribute
pub contributors_are : (d : Desk) (m : MemberRow) (voices : List Voice) (room : ℕ) (inputs front own back : List Input)
    → room ≡ m.room → map plain inputs ≡ map plain_voice (of_room room voices)
    → contributing m.member inputs (gains_for d m (of_room room voices)) ≡ present_in (others_of m.member inputs)
    → IsApart m.member inputs front own back
    → contributors voices d m ≡ present_in front ++ present_in back
contributors_are d m voices room inputs front own back here same others apart =
    ap (λ vs. map (λ (v : Voice). v.source.ssrc) (filter (contributes d m) vs)) (sym (others_in m voices room here))
    ∙ sym (named_of d m inputs (of_room room voices) same)
    ∙ others
    ∙ ap present_in apart.others_are
    ∙ present_two front back
