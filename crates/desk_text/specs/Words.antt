-- Words of a line, from left to right, with the first fault that is met (own).
use Rattle.std.specs.Prelude.{◌≡◌, ◌≢◌, ℕ, ◌+◌, ◌==◌, List, [], ◌∷◌, take, length}
use Rattle.std.specs.Prelude.{drop, position, Option, Some, None, Result, Ok, Err}
use Rattle.std.specs.Borrow.{Bor}
use Rattle.std.specs.List.{slice_split, All}
use Rattle.std.specs.Option.{option_map}
use Rattle.desk_text.specs.declared.fault.Fault.{Fault}
use Rattle.desk_text.specs.declared.fault.Fault.TheVariants.{MissingWord, ExtraWord}
use Rattle.desk_text.specs.declared.fault.ParseFault.{ParseFault}
use Rattle.desk_text.specs.declared.fault.ParseFault.TheVariants as errors

-- what stands before and behind the first such octet
abbrev pub cut_of : ℕ → List ℕ → Option (List ℕ × List ℕ)
cut_of octet text = option_map (λ i. (take i text, drop (i + 1) text)) (position (λ b. b == octet) text)

-- the text has no such octet
abbrev pub Lacks : ℕ → List ℕ → Type 0
Lacks octet text = All (λ b. b ≢ octet) text

-- the words of a text: what stands between single spaces (32)
abbrev pub words_of : List ℕ → List (List ℕ)
words_of text = slice_split (λ b. b == 32) text

-- the words that are left of a line, where nothing is left once the last was taken
abbrev pub words_in : Option (Bor (List ℕ)) → List (List ℕ)
words_in None = []
words_in (Some text) = words_of text.now

-- how many octets are left of a line, the space before them included
abbrev pub size_of : Option (Bor (List ℕ)) → ℕ
size_of None = 0
size_of (Some text) = length text.now + 1

-- a value, or a fault and the place of its word: what follows is read only behind a value
infixl 10 ◌>>=◌
abbrev pub ◌>>=◌ : {A B : Type 0} → Result A (ℕ × Fault) → (A → Result B (ℕ × Fault)) → Result B (ℕ × Fault)
(Ok x) >>= f = f x
(Err e) >>= f = Err e

-- a refusal is the fault that reading gives, unless memory ran out
abbrev pub Fails : {Y : Type 0} → ParseFault → Result Y (ℕ × Fault) → Type 0
Fails errors.OutOfMemory read = Unit {0}
Fails (errors.Line word fault) read = read ≡ Err (word, fault)

-- what a function returned, seen by view, is what reading gives, unless memory ran out
abbrev pub Gives : {X Y : Type 0} → (X → Y) → Result X ParseFault → Result Y (ℕ × Fault) → Type 0
Gives view (Ok x) read = read ≡ Ok (view x)
Gives view (Err e) read = Fails e read

-- the next word, and those behind it
abbrev pub word_at : ℕ → List (List ℕ) → Result (List ℕ × List (List ℕ)) (ℕ × Fault)
word_at place [] = Err (place, MissingWord)
word_at place (word ∷ words) = Ok (word, words)

-- no word is left
abbrev pub none_left : ℕ → List (List ℕ) → Result (Unit {0}) (ℕ × Fault)
none_left place [] = Ok tt
none_left place (word ∷ words) = Err (place, ExtraWord)

-- the value, or this fault
abbrev pub value_or : {A : Type 0} → ℕ → Fault → Option A → Result A (ℕ × Fault)
value_or place fault None = Err (place, fault)
value_or place fault (Some x) = Ok x
