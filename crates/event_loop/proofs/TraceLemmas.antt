-- Rows of whose sources it was told that time passed.
use Rattle.std.proofs.Common.{ℕ, ◌<◌, ◌+◌, List, length, take, get_or, Option, sym, subst}
use Rattle.std.specs.Prelude.{filter_map, option_to_list}
use Rattle.desk_rows.specs.declared.row.Row.{Row}
use Rattle.ingress.specs.Sources.{Origin}
use Rattle.media_front.proofs.WaitLists.{folds_both, read_more}
use Rattle.event_loop.specs.Traced.{FrontTraceOf, IsWaitTold, AreWaits}

-- one row more
pub traces_more : (moment : ℕ) (f : Row → Option Origin) (rows : List Row) (i : ℕ) (d : Row) (a b c : FrontTraceOf)
    → i < length rows → AreWaits moment (filter_map f (take i rows)) a b
    → AreWaits moment (option_to_list (f (get_or rows i d))) b c
    → AreWaits moment (filter_map f (take (i + 1) rows)) a c
traces_more moment f rows i d a b c low far one =
    subst (λ (os : List Origin). AreWaits moment os a c) (sym (read_more f rows i d low))
    (folds_both (IsWaitTold moment) a (filter_map f (take i rows)) b (option_to_list (f (get_or rows i d))) c far one)
