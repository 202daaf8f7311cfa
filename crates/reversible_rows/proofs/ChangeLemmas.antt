-- What an edit takes and puts, found by keys.
use Rattle.std.specs.Prelude.{◌≡◌, ◌||◌, ◌∷◌, ◌++◌}
use Rattle.desk_rows.specs.declared.edit.Placed.{Placed}
use Rattle.desk_rows.specs.declared.key.Key.{Key}
use Rattle.desk_rows.specs.declared.row.Row.{Row}
use Rattle.desk_rows.specs.declared.row.Row.TheVariants.{Member}
use Rattle.desk_rows.specs.laws.Words.{ℕ, Bool, true, cond, List, [], None, Some, refl, sym, ap, ◌∙◌, map, not}
use Rattle.desk_rows.specs.laws.Words.{list_any-append, find, list_any, is_some, EditOf}
use Rattle.desk_rows.specs.laws.Words.{is_in, with_rows, same_row, has_key, listed_rows, change_rows, come_rows, takes}
use Rattle.desk_rows.specs.laws.Words.{puts}
use Rattle.desk_rows.specs.declared.key.Key.TheVariants as keys
use Rattle.desk_rows.specs.laws.ListLaws.{or_turned, is_found}
use Rattle.desk_rows.specs.laws.OrderLaws.{list_any-with_rows}
use Rattle.desk_rows.proofs.Finding.{found_there}
use Rattle.desk_rows.proofs.KindLemmas.{not_its}

-- only the key of a member is a member's
pub no_placed : (key : Key) → ((n : ℕ) → key ≡ keys.Member n → ⊥) → (ps : List Placed)
    → find (has_key key) (map (λ p. Member p.row) ps) ≡ None
no_placed key not [] = refl
no_placed key not (p ∷ ps) =
    ap (λ b. cond b (Some (Member p.row)) (find (has_key key) (map (λ p. Member p.row) ps))) (not_its key not p.row)
    ∙ no_placed key not ps

-- some row passes, in whatever order they are listed
any_change : (q : Row → Bool) (ps : List Placed) (rs more : List Row)
    → list_any q (listed_rows ps rs more) ≡ list_any q (change_rows ps rs more)
any_change q ps rs more =
    let members = map (λ (p : Placed). Member p.row) ps in
    list_any-append q members (rs ++ more)
    ∙ ap (λ b. list_any q members || b)
    (list_any-append q rs more ∙ or_turned (list_any q rs) (list_any q more) ∙ sym (list_any-with_rows q more rs))
    ∙ sym (list_any-append q members (with_rows more rs))

pub takes_is : (e : EditOf) (key : Key)
    → is_some (find (has_key key) (listed_rows e.taken.members e.taken.others e.replaced.old)) ≡ takes e key
takes_is e key = sym (is_found (has_key key) _) ∙ any_change (has_key key) e.taken.members e.taken.others e.replaced.old

pub puts_is : (e : EditOf) (key : Key)
    → is_some (find (has_key key) (listed_rows e.put.members e.put.others e.replaced.new)) ≡ puts e key
puts_is e key = sym (is_found (has_key key) _) ∙ any_change (has_key key) e.put.members e.put.others e.replaced.new

pub coming_is : (e : EditOf) (key : Key) (r : Row)
    → find (has_key key) (listed_rows e.put.members e.put.others e.replaced.new) ≡ Some r
    → (is_in (come_rows e) r ≡ true) × (has_key key r ≡ true)
coming_is e key r h =
    let there = found_there (has_key key) (listed_rows e.put.members e.put.others e.replaced.new) r h in
    (sym (any_change (same_row r) e.put.members e.put.others e.replaced.new) ∙ there.0, there.1)
