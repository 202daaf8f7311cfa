-- The lines of a script are read one after another.
use Rattle.std.proofs.Common.{◌≡◌, ℕ, zero, suc, ◌+◌, ◌-◌, ◌≤◌, ◌==◌, true, false, List, [], ◌∷◌, ◌++◌}
use Rattle.std.proofs.Common.{length, map, take, drop, max, get_or, codes, Ok, refl, sym, ap, ◌∙◌, subst, arith, eqb}
use Rattle.std.proofs.Common.{append_assoc, leb}
use Rattle.std.specs.List.{list_all, AllByRecursion}
use Rattle.std.specs.Str.Lines.{strip_carriage_return}
use Rattle.std.proofs.lemmas.Bool.{and_parts, leb-true, ne_eqb}
use Rattle.media_workers.specs.LaneRuns.{Versioned}
use Rattle.desk_text.specs.Lines.{parts_of, lines_by, whole, lines_of, is_printable}
use Rattle.desk_text.proofs.Joined.{Free}
use Rattle.desk_text.proofs.Cuts.{parts_some}
use Rattle.desk_text.specs.HistoryText.{said_by, called_line}
use Rattle.script_text.specs.Requests.{Request, Nothing, Item, line_request, desk_line}
use Rattle.script_text.specs.ItemLines.{request_of, item_line, item_text}
use Rattle.script_text.specs.FirstLine.{request_at}
use Rattle.call_history.specs.AcceptedCall.{AcceptedOf}
use Rattle.script_text.specs.Scripts.{requests_from}
use Rattle.script_text.proofs.DeskLaws.{desk_joined}
use Rattle.trace_text.specs.TraceLines.{calls_text}
use Rattle.trace_text.specs.declared.speaker.Speaker.TheVariants.{Front}
use Rattle.trace_scripts.specs.Scripts.{item_done, between, script_lines}
use Rattle.trace_laws.specs.Traces.{IsToldCall, IsWithin, AreToldCalls, AreWithin}
use Rattle.trace_laws.specs.Traces.{AreToldItems, call_asked, items_asked}
use Rattle.trace_laws.proofs.ItemLaws.{item_printable, line_read}
use Rattle.trace_laws.proofs.CallLines.{desk_printable, desk_read}
use Rattle.trace_laws.proofs.CallSizes.{desk_few}

-- ---- a line that is printed has neither LF nor CR

printed : (x : ℕ) → is_printable x ≡ true → 32 ≤ x
printed x h = leb-true 32 x (and_parts (leb 32 x) (leb x 126) h).0

pub line_free : (line : List ℕ) → list_all is_printable line ≡ true → Free 10 line
line_free [] h = tt
line_free (x ∷ xs) h =
    let parts = and_parts (is_printable x) (list_all is_printable xs) h in
    let low : 32 ≤ x = printed x parts.0 in
    (ne_eqb x 10 (λ e. absurd (omega (arith, e, low))), line_free xs parts.1)

no_return : (line : List ℕ) (k : ℕ) → list_all is_printable line ≡ true → eqb (get_or line k 0) 13 ≡ false
no_return [] k h = refl
no_return (x ∷ xs) zero h =
    let low : 32 ≤ x = printed x (and_parts (is_printable x) (list_all is_printable xs) h).0 in
    ne_eqb x 13 (λ e. absurd (omega (arith, e, low)))
no_return (x ∷ xs) (suc k) h = no_return xs k (and_parts (is_printable x) (list_all is_printable xs) h).1

pub unstripped : (line : List ℕ) → list_all is_printable line ≡ true → strip_carriage_return line ≡ line
unstripped line h = rw (no_return line (length line - 1) h) refl

-- ---- the lines of a text

pub split_first : (xs ys : List ℕ) → Free 10 xs → parts_of (xs ++ 10 ∷ ys) ≡ xs ∷ parts_of ys
split_first [] ys h = refl
split_first (x ∷ xs) ys h = rw (h.0, split_first xs ys h.1) refl

lines_more : (line : List ℕ) (parts : List (List ℕ)) (part : List ℕ) (more : List (List ℕ)) → parts ≡ part ∷ more
    → lines_by whole (line ∷ parts) ≡ strip_carriage_return line ∷ lines_by whole parts
lines_more line parts part more is = rw is refl

pub line_first : (line rest : List ℕ) → list_all is_printable line ≡ true
    → lines_of (line ++ 10 ∷ rest) ≡ line ∷ lines_of rest
line_first line rest h =
    let some = parts_some 10 rest in
    ap (lines_by whole) (split_first line rest (line_free line h))
    ∙ (lines_more line (parts_of rest) some.0 some.1 some.2
    ∙ ap (λ (l : List ℕ). l ∷ lines_of rest) (unstripped line h))

-- ---- what they ask for

later_asks : (n : ℕ) (line : List ℕ) (r : Request) → 2 ≤ n → request_of line ≡ Ok r → request_at n line ≡ Ok r
later_asks n line r more is =
    let other : (n == 1) ≡ false = ne_eqb n 1 (λ e. absurd (omega (arith, e, more))) in rw other is

-- a line behind the first, and the text behind it
request_next : (n : ℕ) (line rest : List ℕ) (r : Request) → 2 ≤ n → list_all is_printable line ≡ true
    → request_of line ≡ Ok r
    → requests_from n (lines_of (line ++ 10 ∷ rest)) ≡ r ∷ requests_from (n + 1) (lines_of rest)
unfolding requests_from
request_next n line rest r more seen is = rw (line_first line rest seen, later_asks n line r more is) refl

-- what the lines of a text ask for behind the first line, whatever number the next one has
abbrev pub Asks : List ℕ → List Request → Type 0
Asks text requests = (n : ℕ) → 2 ≤ n → requests_from n (lines_of text) ≡ requests

asks_more : (line rest : List ℕ) (r : Request) (requests : List Request) → list_all is_printable line ≡ true
    → request_of line ≡ Ok r → Asks rest requests → Asks (line ++ 10 ∷ rest) (r ∷ requests)
asks_more line rest r requests seen is others n more =
    request_next n line rest r more seen is
    ∙ ap (λ (rs : List Request). r ∷ rs) (others (n + 1) (omega (arith, more)))

-- an empty line asks for nothing
asks_end : Asks [] (Nothing ∷ [])
unfolding requests_from line_request
asks_end n more = refl

-- ---- the lines of calls

pub call_ended : (m : AcceptedOf) (rest : List ℕ) → called_line m ++ rest ≡ desk_line m.op m.call ++ 10 ∷ rest
call_ended m rest =
    let line : called_line m ≡ desk_line m.op m.call ++ 10 ∷ [] =
    sym (append_assoc (codes "desk ") (said_by m) (codes "\n")) ∙ ap (λ (t : List ℕ). t ++ 10 ∷ []) (desk_joined m) in
    ap (λ (t : List ℕ). t ++ rest) line ∙ append_assoc (desk_line m.op m.call) (10 ∷ []) rest

calls_asked : (ms : List AcceptedOf) (rest : List ℕ) (requests : List Request) → AreToldCalls ms → AreWithin ms
    → Asks rest requests → Asks (calls_text Front ms ++ rest) (map call_asked ms ++ requests)
calls_asked [] rest requests told within others = others
calls_asked (m ∷ ms) rest requests told within others =
    let more = calls_text Front ms ++ rest in
    let few = desk_few m.op m.call told.0.op told.0.call within.0 in
    subst (λ (t : List ℕ). Asks t (call_asked m ∷ map call_asked ms ++ requests))
    (sym (append_assoc (called_line m) (calls_text Front ms) rest ∙ call_ended m more))
    (asks_more (desk_line m.op m.call) more (call_asked m) (map call_asked ms ++ requests)
    (desk_printable m.op m.call told.0.op told.0.call)
    (desk_read m.op m.call told.0.op told.0.call few)
    (calls_asked ms rest requests told.1 within.1 others))

pub all_drop : {A : Type 0} (P : A → Type 0) (n : ℕ) (xs : List A) → AllByRecursion P xs → AllByRecursion P (drop n xs)
all_drop P zero xs all = all
all_drop P (suc n) [] all = tt
all_drop P (suc n) (x ∷ xs) all = all_drop P n xs all.1

pub all_take : {A : Type 0} (P : A → Type 0) (n : ℕ) (xs : List A) → AllByRecursion P xs → AllByRecursion P (take n xs)
all_take P zero xs all = tt
all_take P (suc n) [] all = tt
all_take P (suc n) (x ∷ xs) all = (all.0, all_take P n xs all.1)

-- ---- and of items behind them

pub items_read : (told : ℕ) (calls : List AcceptedOf) (items : List Versioned) → AreToldCalls calls
    → AreWithin calls → AreToldItems items
    → Asks (script_lines Front told (map item_done items) calls) (items_asked told calls items ++ Nothing ∷ [])
items_read told calls [] said within given = asks_end
items_read told calls (x ∷ xs) said within given =
    let n : ℕ = x.version - told in
    let left = drop told calls in
    let before = between told x.version calls in
    let behind = script_lines Front (max told x.version) (map item_done xs) calls in
    let others = items_asked (max told x.version) calls xs ++ Nothing ∷ [] in
    let line = item_line x.input in
    let own : Asks (line ++ 10 ∷ behind) (Item x.input ∷ others) =
    asks_more line behind (Item x.input) others (item_printable x.input given.0.input)
    (line_read x.input given.0.input given.0.few) (items_read (max told x.version) calls xs said within given.1) in
    let all = calls_asked before (line ++ 10 ∷ behind) (Item x.input ∷ others)
    (all_take IsToldCall n left (all_drop IsToldCall told calls said))
    (all_take _ n left (all_drop (λ (m : AcceptedOf). IsWithin m.call) told calls within)) own in
    let text : script_lines Front told (map item_done (x ∷ xs)) calls
    ≡ calls_text Front before ++ (line ++ 10 ∷ behind) =
    append_assoc (calls_text Front before) (item_text x.input) behind
    ∙ ap (λ (t : List ℕ). calls_text Front before ++ t) (append_assoc line (10 ∷ []) behind) in
    let asked : map call_asked before ++ Item x.input ∷ others ≡ items_asked told calls (x ∷ xs) ++ Nothing ∷ [] =
    sym (append_assoc (map call_asked before) (Item x.input ∷ items_asked (max told x.version) calls xs)
    (Nothing ∷ [])) in
    subst (λ (rs : List Request). Asks (script_lines Front told (map item_done (x ∷ xs)) calls) rs) asked
    (subst (λ (t : List ℕ). Asks t (map call_asked before ++ Item x.input ∷ others)) (sym text) all)
